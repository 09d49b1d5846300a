-- The numbers of the settings' table, as they are read from the eighteen words of a PLL.
use Rattle.std.specs.Prelude.{ℕ, Option, Some, None, Result, slice_index_or}
use Rattle.std.specs.Result.{result_unwrap_or}
use mathlib.Core.Path.{◌≡◌, ◌∙◌, refl}
use mathlib.Core.List.{List, ◌∷◌, ◌++◌}
use Rattle.types.specs.declared.Plan.{Plan}
use Rattle.types.specs.declared.PllSettings.{PllSettings}
use Rattle.types.specs.declared.Refusal.{Refusal}
use Rattle.rules.specs.Document01.OnePll.{pll_from}
use Rattle.rules.specs.Document01.Refusals.{code_of}
use Rattle.rules.proofs.Stated.Report.{blank_plan}
use Rattle.pll_words.specs.PllWords.{setting_words, outputs_words}
use Rattle.settings.specs.Numbers.{first_numbers, second_numbers, other_numbers, numbers_of}

abbrev words : Option PllSettings → List ℕ
words x = setting_words x ++ outputs_words x

abbrev at : List ℕ → ℕ → ℕ
at l k = slice_index_or l k 0

abbrev read_from : (code : ℕ) (a b others : List ℕ) → List ℕ
read_from code a b others =
    code ∷ at a 0 ∷ at a 2 ∷ at a 5 ∷ at a 10
    ∷ at b 0 ∷ at b 1 ∷ at b 2 ∷ at b 3 ∷ at b 5 ∷ at b 7 ∷ at b 8 ∷ at b 10 ∷ at b 13 ∷ at b 11 ∷ others

-- by what each PLL is
parts : (code : ℕ) (x y : Option PllSettings) (others : List ℕ) →
    read_from code (words x) (words y) others ≡ code ∷ (first_numbers x ++ (second_numbers y ++ others))
parts code None None others = refl
parts code None (Some t) others = refl
parts code (Some s) None others = refl
parts code (Some s) (Some t) others = refl

pub numbered : (x : Result Plan Refusal) {code : ℕ} {blank p : Plan} {a b : List ℕ} →
    code ≡ code_of x → blank ≡ blank_plan → p ≡ result_unwrap_or x blank →
    a ≡ words (pll_from p.plls 0) → b ≡ words (pll_from p.plls 1) →
    read_from code a b (other_numbers p) ≡ numbers_of x
unfolding numbers_of
numbered x {code} {blank} {p} e f g h k =
    rw (h, k) (parts code (pll_from p.plls 0) (pll_from p.plls 1) (other_numbers p) ∙ rw (e, g, f))
