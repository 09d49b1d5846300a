-- Entries and what a walk shows as nine words each, for callers that have numbers and slices alone: docs/CODES.md, Entries as words.
use Rattle.std.specs.Prelude.{cond, List, [], ◌∷◌, ℕ, zero, suc, ◌+◌, ◌*◌, ◌/◌, ltb, leb, length, get_or, set, replicate, Option, unwrap_or, is_some}
use Rattle.types.specs.declared.PllSettings.{PllSettings}
use Rattle.types.specs.declared.Entry.{Entry}
use Rattle.types.specs.declared.Entry.TheVariants.{Set, Set2, Set3, Set4, Wait, Wait2, Check, Read}
use Rattle.types.specs.declared.Shown.{Shown}
use Rattle.types.specs.declared.Shown.TheVariants.{Next, Finished, Stopped}
use Rattle.types.specs.declared.Plan.{Plan}
use Rattle.rules.specs.Document01.Refusals.{number_of}
use Rattle.rules.specs.Document01.OnePll.{p_clock, q_clock, r_clock}
use Rattle.rules.specs.Document01.Entries.{bit, pll_in, most}
use Rattle.rules.specs.Document01.Walk.{Stand, shown_of}

-- a field of the bank, from 1; 0 for none
abbrev pub field_word : ℕ → ℕ
field_word f = cond (ltb f 82) (f + 1) 0

-- the kind, 1 set, 2 wait, 3 check, 4 read, then up to four times the field and its value
abbrev pub entry_words : Entry → List ℕ
entry_words (Set f v) = 1 ∷ field_word f ∷ v ∷ 0 ∷ 0 ∷ 0 ∷ 0 ∷ 0 ∷ 0 ∷ []
entry_words (Set2 f v g w) = 1 ∷ field_word f ∷ v ∷ field_word g ∷ w ∷ 0 ∷ 0 ∷ 0 ∷ 0 ∷ []
entry_words (Set3 f v g w h x) = 1 ∷ field_word f ∷ v ∷ field_word g ∷ w ∷ field_word h ∷ x ∷ 0 ∷ 0 ∷ []
entry_words (Set4 f v g w h x k y) = 1 ∷ field_word f ∷ v ∷ field_word g ∷ w ∷ field_word h ∷ x ∷ field_word k ∷ y ∷ []
entry_words (Wait f v) = 2 ∷ field_word f ∷ v ∷ 0 ∷ 0 ∷ 0 ∷ 0 ∷ 0 ∷ 0 ∷ []
entry_words (Wait2 f v g w) = 2 ∷ field_word f ∷ v ∷ field_word g ∷ w ∷ 0 ∷ 0 ∷ 0 ∷ 0 ∷ []
entry_words (Check f v) = 3 ∷ field_word f ∷ v ∷ 0 ∷ 0 ∷ 0 ∷ 0 ∷ 0 ∷ 0 ∷ []
entry_words (Read f) = 4 ∷ field_word f ∷ 0 ∷ 0 ∷ 0 ∷ 0 ∷ 0 ∷ 0 ∷ 0 ∷ []

-- what a walk shows: an entry; nine 0 for finished; 5 and the number for a refusal
abbrev pub shown_words : Shown → List ℕ
shown_words (Next e) = entry_words e
shown_words Finished = replicate 9 0
shown_words (Stopped n) = 5 ∷ number_of n ∷ replicate 7 0

-- three words stored from a place on
abbrev pub three_at : List ℕ → (at x y z : ℕ) → List ℕ
three_at b at x y z = set (set (set b at x) (at + 1) y) (at + 2) z

-- nine words
abbrev pub nine_at : List ℕ → (at : ℕ) → (words : List ℕ) → List ℕ
nine_at b at w =
    three_at (three_at (three_at b at (get_or w 0 0) (get_or w 1 0) (get_or w 2 0)) (at + 3) (get_or w 3 0) (get_or w 4 0) (get_or w 5 0))
    (at + 6) (get_or w 6 0) (get_or w 7 0) (get_or w 8 0)

-- where they fit; else nothing is stored
unfoldable pub stored_at : List ℕ → (at : ℕ) → (words : List ℕ) → List ℕ
stored_at b at w = cond (leb (at + 9) (length b)) (nine_at b at w) b

-- ---- a whole walk: what is shown before any step and after each, while there are two values to read for a step and room for nine words
-- where a walk stands after i steps; a value that is not there reads 0
abbrev pub stand_after : (step : Stand → ℕ → ℕ → Stand) → Stand → (reads : List ℕ) → (i : ℕ) → Stand
stand_after step s reads zero = s
stand_after step s reads (suc i) = step (stand_after step s reads i) (get_or reads (2 * i) 0) (get_or reads (2 * i + 1) 0)

-- the room once i things shown are stored
abbrev pub ran : (step : Stand → ℕ → ℕ → Stand) → Stand → (reads room : List ℕ) → (i : ℕ) → List ℕ
ran step s reads room zero = room
ran step s reads room (suc i) = stored_at (ran step s reads room i) (9 * i) (shown_words (shown_of (stand_after step s reads i)))

-- how many are stored
abbrev pub shown_count : (reads room : ℕ) → ℕ
shown_count reads room = cond (ltb (room / 9) (reads / 2 + 1)) (room / 9) (reads / 2 + 1)

-- ---- a plan's report: 55 words, 26 clocks as (0 or 1, hertz) and then PPRE1 to 3
-- words stored one after the other from a place on
abbrev pub stored_from : List ℕ → (at : ℕ) → (words : List ℕ) → List ℕ
stored_from b at [] = b
stored_from b at (w ∷ ws) = stored_from (set b at w) (suc at) ws

-- a clock: whether it is there, and its hertz
abbrev pub hertz_words : Option ℕ → List ℕ → List ℕ
hertz_words h ws = bit (is_some h) ∷ unwrap_or h 0 ∷ ws

-- P, Q and R of a PLL
abbrev pub pll_words : Option PllSettings → List ℕ → List ℕ
pll_words x ws = hertz_words (p_clock x) (hertz_words (q_clock x) (hertz_words (r_clock x) ws))

-- all words, in the order of docs/CODES.md
abbrev pub report_words : Plan → List ℕ
report_words p =
    1 ∷ p.clocks.sys ∷ 1 ∷ p.buses.ahb.clock ∷ 1 ∷ p.buses.apb1.clock ∷ 1 ∷ p.buses.apb2.clock ∷ 1 ∷ p.buses.apb3.clock
    ∷ 1 ∷ p.clocks.timx ∷ 1 ∷ p.clocks.timy ∷ 1 ∷ p.clocks.per ∷ 1 ∷ p.clocks.hsi ∷ 1 ∷ p.clocks.csi ∷ 1 ∷ p.clocks.hsi48 ∷ 1 ∷ p.clocks.lsi
    ∷ hertz_words p.clocks.hse (hertz_words p.clocks.lse (hertz_words p.clocks.audio (hertz_words p.mcos.mco1.clock (hertz_words p.mcos.mco2.clock
    (pll_words (pll_in p 0) (pll_words (pll_in p 1) (pll_words (pll_in p 2)
    (p.buses.apb1.pre ∷ p.buses.apb2.pre ∷ p.buses.apb3.pre ∷ []))))))))

-- ---- a list of entries: the count, and then nine words for each of at most so many entries
abbrev pub list_length : ℕ
list_length = 1 + 9 * most

-- each entry's nine words, one after the other from a place on
abbrev pub listed_from : List ℕ → (at : ℕ) → List Entry → List ℕ
listed_from b at [] = b
listed_from b at (e ∷ es) = listed_from (stored_at b at (entry_words e)) (at + 9) es

-- the count, then the entries; the rest is kept
abbrev pub listed : List Entry → List ℕ → List ℕ
listed es b = listed_from (set b 0 (length es)) 1 es
