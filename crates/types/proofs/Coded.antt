-- A law on codes: what a list has at a code, and that a number past its end is none.
use Rattle.std.specs.Prelude.{Ok, Err}
use mathlib.Core.Path.{◌≡◌, refl}
use mathlib.Core.Bool.{Bool, cond, true, false}
use mathlib.Core.List.{List}
use Prim.Native.Nat.{ℕ}
use lib.ListN.{length, get_or}
use lib.Dec.{ltb}
use borrow.Author.Tests.{ltb-true, ltb-false}
use Rattle.std.proofs.lemmas.Option.{slice_get-get_or, slice_get_past}
use Rattle.types.specs.declared.Refusal.TheVariants.{OutsideCodes}
use Rattle.types.specs.Codes.{coded}

pub coded_is : {A : Type 0} (xs : List A) (d : A) (n : ℕ) → coded xs n ≡ cond (ltb n (length xs)) (Ok (get_or xs n d)) (Err OutsideCodes)
coded_is xs d n = go (ltb n (length xs)) refl where
  go : (t : Bool) → ltb n (length xs) ≡ t → coded xs n ≡ cond t (Ok (get_or xs n d)) (Err OutsideCodes)
  go true t = rw (slice_get-get_or xs n d (ltb-true n (length xs) t))
  go false t = rw (slice_get_past xs n (ltb-false n (length xs) t))
