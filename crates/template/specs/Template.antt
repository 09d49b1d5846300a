-- Texts with places for numbers, and what they come to. docs/CODES.md, Templates.
--
--   {k}     number k in decimal           {w:k}   the same, blanks before it up to w columns
--   {k#}    the name with number k        {k|}    the same, blanks behind it up to twelve columns
--   {k?}    what follows is written only where number k is not 0, {k!} only where it is 0, {.} in any case
use Rattle.std.specs.Prelude.{Bool, true, cond, List, [], ◌∷◌, ◌++◌, ℕ, zero, suc, ◌%◌, ltb, eqb, length, get_or}
use Rattle.text.specs.Numbers.{is_digit, with_digit}
use Rattle.template.specs.Write.{decimal_of, aligned, name_of, column_of}
use Rattle.template.specs.declared.Stage.{Stage}
use Rattle.template.specs.declared.Stage.TheVariants.{Text, Braces, Done}
use Rattle.template.specs.declared.State.{State}

-- ---- a template is read byte by byte
-- at the start
abbrev pub begins : State
begins = record { stage = Text; shown = true; width = 0; number = 0 }

-- at a stage
abbrev pub at_stage : Stage → (shown : Bool) → State
at_stage g t = record { stage = g; shown = t; width = 0; number = 0 }

-- whether what follows is written, by the command and its number
abbrev pub shown_by : (n : ℕ) → (shown : Bool) → (b : ℕ) → Bool
shown_by n t b = cond (eqb b 63) (ltb 0 n) (cond (eqb b 33) (eqb n 0) (cond (eqb b 46) true t))

-- between braces: a digit of a number, the colon behind a width, or a command
unfoldable pub in_braces : (n : ℕ) → State → (b : ℕ) → State
in_braces n s b =
    cond (is_digit b) (record { stage = Braces; shown = s.shown; width = s.width; number = with_digit s.number b % 1000 })
    (cond (eqb b 58) (record { stage = Braces; shown = s.shown; width = s.number; number = 0 }) (at_stage Done (shown_by n s.shown b)))

-- the state behind a byte, at each stage
abbrev pub next_at : Stage → (n : ℕ) → State → (b : ℕ) → State
next_at Text n s b = cond (eqb b 123) (at_stage Braces s.shown) s
next_at Braces n s b = cond (eqb b 125) (at_stage Text s.shown) (in_braces n s b)
next_at Done n s b = cond (eqb b 125) (at_stage Text s.shown) s

-- n is the number at the place that the state's number says
unfoldable pub next : (n : ℕ) → State → (b : ℕ) → State
next n s b = next_at s.stage n s b

-- what a command writes
unfoldable pub command_writes : (names : List (List ℕ)) → (n width b : ℕ) → List ℕ
command_writes names n width b =
    cond (eqb b 125) (aligned width (decimal_of n)) (cond (eqb b 35) (name_of names n) (cond (eqb b 124) (column_of names n) []))

-- what a byte writes, at each stage
abbrev pub writes_at : Stage → (names : List (List ℕ)) → (n : ℕ) → State → (b : ℕ) → List ℕ
writes_at Text names n s b = cond (eqb b 123) [] (b ∷ [])
writes_at Braces names n s b = command_writes names n s.width b
writes_at Done names n s b = []

-- nothing where it is not shown
unfoldable pub writes : (names : List (List ℕ)) → (n : ℕ) → State → (b : ℕ) → List ℕ
writes names n s b = cond s.shown (writes_at s.stage names n s b) []

-- ---- a whole template
module _ (template : List ℕ) (names : List (List ℕ)) (numbers : List ℕ) where
  -- the state behind its first i bytes
  unfoldable pub state_after : (i : ℕ) → State
  state_after zero = begins
  state_after (suc i) = next (get_or numbers (state_after i).number 0) (state_after i) (get_or template i 0)

  -- what they write
  unfoldable pub text_after : (i : ℕ) → List ℕ
  text_after zero = []
  text_after (suc i) = text_after i ++ writes names (get_or numbers (state_after i).number 0) (state_after i) (get_or template i 0)

  -- what it comes to
  abbrev pub filled : List ℕ
  filled = text_after (length template)
