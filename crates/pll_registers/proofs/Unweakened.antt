-- `AsBank` is false of wrong words of each PLL. What a single bit more or less does to it is in Decided.
use Rattle.std.specs.Prelude.{None, Ok}
use mathlib.Core.Path.{◌≡◌, refl}
use mathlib.Core.List.{List, [], ◌∷◌}
use mathlib.Core.Bool.{Bool, true, false}
use Prim.Native.Nat.{ℕ}
use native.Mathlib.Omega.{arith}
use lib.Dec.{lit<}
use lib.ListN.{replicate}
use Rattle.rules.specs.Document01.Bytes.{request_bytes}
use Rattle.rules.proofs.Computes.{by_bank}
use Rattle.rules.proofs.Samples.{system, chip}
use Rattle.pll_registers.specs.Stated.{AsBank}

-- bench setting A on a chip with two PLLs, or with three
abbrev of_a : (three : Bool) → List ℕ
of_a three = request_bytes three (system 250_000_000 None)

-- nothing stored
pub nothing_stored : AsBank (of_a false) (chip 2 0) (Ok tt) (replicate 9 0) → ⊥
unfolding by_bank
nothing_stored h = let z : ◌≡◌ {A = ℕ} 0 1 = (h refl 0 (lit< tt)).source in omega arith

-- an idle PLL without its source
pub no_source : AsBank (of_a false) (chip 2 0) (Ok tt) (0x00010809 ∷ 0x0000027C ∷ 0 ∷ 0 ∷ 0 ∷ 0 ∷ 0 ∷ 0 ∷ 0 ∷ []) → ⊥
unfolding by_bank
no_source h = let z : ◌≡◌ {A = ℕ} 0 1 = (h refl 1 (lit< tt)).source in omega arith

-- six words on a chip with three PLLs
pub no_third : AsBank (of_a true) (chip 3 0) (Ok tt) (0x00010809 ∷ 0x0000027C ∷ 0 ∷ 1 ∷ 0 ∷ 0 ∷ 0 ∷ 0 ∷ 0 ∷ []) → ⊥
unfolding by_bank
no_third h = let z : ◌≡◌ {A = ℕ} 0 1 = (h refl 2 (lit< tt)).source in omega arith
