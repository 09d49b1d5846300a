-- The byte form of a request, written: document 01, One call, from the top, second paragraph, in three groups of bytes. That these are the bytes
-- of `request_bytes` of crates/rules is proved in proofs/Writing.antt.
use Rattle.std.specs.Prelude.{◌≡◌, Bool, cond, ◌&&◌, ◌||◌, List, ◌∷◌, ◌++◌, ℕ, ◌+◌, min, eqb, length, Option}
use Rattle.types.specs.declared.PllRequest.{PllRequest}
use Rattle.types.specs.declared.Mco1Source.{Mco1Source}
use Rattle.types.specs.declared.Mco2Source.{Mco2Source}
use Rattle.types.specs.declared.Request.{Request}
use Rattle.rules.specs.Document01.Request.{pll_at}
use Rattle.rules.specs.Document01.Mco.{mco1_code, mco2_code}
use Rattle.rules.specs.Document01.Bytes.{is_no_part, hertz_bytes, flag_byte, pll_bytes, third_bytes, request_bytes, size_of}

-- a request is written where there is room for it and no more, and on a two-PLL chip if it has no PLL3 part
unfoldable pub is_written : (three : Bool) → Request → (room : ℕ) → Bool
is_written three q room = eqb room (size_of three) && (three || is_no_part (pll_at q 2))

-- its bytes, or the room as it was
unfoldable pub room_after : (three : Bool) → Request → List ℕ → List ℕ
room_after three q l = cond (is_written three q (length l)) (request_bytes three q) l

-- three hertz in a row
abbrev pub three_bytes : (a b c : Option ℕ) → List ℕ
three_bytes a b c = hertz_bytes a ++ (hertz_bytes b ++ hertz_bytes c)

-- HSE, LSE, audio, system, peripheral, AHB, APB1 to 3
unfoldable pub clocks_bytes : Request → List ℕ
clocks_bytes q =
    three_bytes q.hse q.lse q.audio ++ (three_bytes q.system q.peripheral q.ahb ++ three_bytes q.apb1 q.apb2 q.apb3)

-- a PLL's part
unfoldable pub part_bytes : PllRequest → List ℕ
part_bytes a = pll_bytes a

-- the bypass flag, and MCO1 with its source
unfoldable pub mco1_bytes : (bypass : Bool) → Mco1Source → Option ℕ → List ℕ
mco1_bytes b s h = flag_byte b ∷ mco1_code s ∷ hertz_bytes h

-- MCO2 with its source
unfoldable pub mco2_bytes : Mco2Source → Option ℕ → List ℕ
mco2_bytes s h = mco2_code s ∷ hertz_bytes h

-- the bypass flag, and MCO1 and MCO2 with their sources
abbrev pub outputs_bytes : Request → List ℕ
outputs_bytes q = mco1_bytes q.bypass q.mco1source q.mco1 ++ mco2_bytes q.mco2source q.mco2

-- the PLLs' parts
unfoldable pub plls_bytes : (three : Bool) → Request → List ℕ
plls_bytes three q = part_bytes (pll_at q 0) ++ (part_bytes (pll_at q 1) ++ third_bytes three (pll_at q 2))
