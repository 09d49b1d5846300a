-- A request by sources and PLLs that are there is the request that the bytes stand for.
use Rattle.std.specs.Prelude.{Result, Ok}
use mathlib.Core.Path.{◌≡◌, refl, sym, ◌∙◌}
use mathlib.Core.Bool.{Bool, true, false}
use mathlib.Core.List.{List}
use Prim.Native.Nat.{ℕ}
use lib.ListN.{get_or}
use Rattle.types.specs.declared.Refusal.{Refusal}
use Rattle.types.specs.declared.Mco1Source.{Mco1Source}
use Rattle.types.specs.declared.Mco2Source.{Mco2Source}
use Rattle.types.specs.declared.PllRequest.{PllRequest}
use Rattle.types.specs.Codes.{coded, mco1_sources, mco2_sources}
use Rattle.request.specs.Parts.{only, strategies_ok, plls_at, codes_ok, request_with, decoded}
use Rattle.types.proofs.Coded.{coded_is}
use Rattle.rules.proofs.Document01.Results.{ok_same, not_ok}

-- a value that is there was not refused
there : {A : Type 0} {t : Bool} {x y : A} → ◌≡◌ {A = Result A Refusal} (Ok x) (only t y) → (t ≡ true) × (x ≡ y)
there {t = true} e = (refl, ok_same e)
there {t = false} e = not_ok (sym e)

pub decodes :
    (three : Bool) (l : List ℕ) {a : Mco1Source} {b : Mco2Source} {plls : List PllRequest} →
    Ok a ≡ coded mco1_sources (get_or l 46 0) → Ok b ≡ coded mco2_sources (get_or l 52 0) →
    Ok plls ≡ only (strategies_ok three l) (plls_at three l) →
    Ok (request_with l a b plls) ≡ only (codes_ok three l) (decoded three l)
unfolding codes_ok decoded
decodes three l a b p =
    let s = there (a ∙ coded_is mco1_sources Mco1Source.Hsi (get_or l 46 0)) in
    let t = there (b ∙ coded_is mco2_sources Mco2Source.Sysclk (get_or l 52 0)) in
    let u = there p in
    rw (s.0, t.0, u.0, s.1, t.1, u.1)
