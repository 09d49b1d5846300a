-- Where each part of a request stands in its bytes, on one request of 106 bytes written out in full: hertz 1 to 19 in the order of document 01,
-- and a last one of four bytes that differ.
use Rattle.std.specs.Prelude.{Some, Ok}
use mathlib.Core.Path.{◌≡◌, refl}
use mathlib.Core.List.{List, [], ◌∷◌}
use mathlib.Core.Bool.{true}
use Prim.Native.Nat.{ℕ}
use Rattle.types.specs.declared.Strategy.TheVariants.{Integer, Fractional}
use Rattle.types.specs.declared.Mco1Source.{Mco1Source}
use Rattle.types.specs.declared.Mco2Source.{Mco2Source}
use Rattle.types.specs.declared.Request.{Request}
use Rattle.rules.specs.Document01.Bytes.{request_part, request_bytes}
use Rattle.rules.proofs.Computes.{by_rules}

abbrev bytes : List ℕ
bytes =
    -- HSE, LSE, audio, system, peripheral, AHB, APB1, APB2, APB3
    1 ∷ 1 ∷ 0 ∷ 0 ∷ 0 ∷ 1 ∷ 2 ∷ 0 ∷ 0 ∷ 0 ∷ 1 ∷ 3 ∷ 0 ∷ 0 ∷ 0 ∷ 1 ∷ 4 ∷ 0 ∷ 0 ∷ 0 ∷ 1 ∷ 5 ∷ 0 ∷ 0 ∷ 0
    ∷ 1 ∷ 6 ∷ 0 ∷ 0 ∷ 0 ∷ 1 ∷ 7 ∷ 0 ∷ 0 ∷ 0 ∷ 1 ∷ 8 ∷ 0 ∷ 0 ∷ 0 ∷ 1 ∷ 9 ∷ 0 ∷ 0 ∷ 0
    -- bypass; MCO1 from HSI48, its hertz; MCO2 from LSI, its hertz
    ∷ 1 ∷ 4 ∷ 1 ∷ 10 ∷ 0 ∷ 0 ∷ 0 ∷ 5 ∷ 1 ∷ 11 ∷ 0 ∷ 0 ∷ 0
    -- PLL1 to PLL3: strategy, P, Q, R
    ∷ 0 ∷ 1 ∷ 12 ∷ 0 ∷ 0 ∷ 0 ∷ 1 ∷ 13 ∷ 0 ∷ 0 ∷ 0 ∷ 1 ∷ 14 ∷ 0 ∷ 0 ∷ 0
    ∷ 1 ∷ 1 ∷ 15 ∷ 0 ∷ 0 ∷ 0 ∷ 1 ∷ 16 ∷ 0 ∷ 0 ∷ 0 ∷ 1 ∷ 17 ∷ 0 ∷ 0 ∷ 0
    ∷ 0 ∷ 1 ∷ 18 ∷ 0 ∷ 0 ∷ 0 ∷ 1 ∷ 19 ∷ 0 ∷ 0 ∷ 0 ∷ 1 ∷ 20 ∷ 21 ∷ 22 ∷ 23 ∷ []

abbrev request : Request
request = record {
  hse = Some 1;
  lse = Some 2;
  audio = Some 3;
  system = Some 4;
  peripheral = Some 5;
  ahb = Some 6;
  apb1 = Some 7;
  apb2 = Some 8;
  apb3 = Some 9;
  bypass = true;
  mco1source = Mco1Source.Hsi48;
  mco1 = Some 10;
  mco2source = Mco2Source.Lsi;
  mco2 = Some 11;
  plls =
      record { strategy = Integer; p = Some 12; q = Some 13; r = Some 14 }
      ∷ record { strategy = Fractional; p = Some 15; q = Some 16; r = Some 17 }
      ∷ record { strategy = Integer; p = Some 18; q = Some 19; r = Some 387_323_156 } ∷ [];
}

pub reads_in_order : request_part true bytes ≡ Ok (record { value = request; rest = [] })
unfolding by_rules
reads_in_order = refl

pub writes_in_order : request_bytes true request ≡ bytes
unfolding by_rules
writes_in_order = refl
