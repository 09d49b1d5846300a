-- mco.rs, with its names.
use Rattle.std.specs.Prelude.{cond, ◌&&◌, ℕ, leb, Option, Some, None}
use Rattle.types.specs.declared.Mco1Source.{Mco1Source}
use Rattle.types.specs.declared.Mco2Source.{Mco2Source}
use Rattle.claims.specs.Rust.Run as Rust
use Rattle.claims.specs.Rust.Run.{Run, ◌>>=◌, ◌>>◌, return, panic, div_ceil, as_u8}

-- struct MCO1Config, MCO2Config
pub record MCO1Config : Type 0 where
  pub source : Mco1Source
  pub frequency : Option ℕ

-- struct MCO2Config
pub record MCO2Config : Type 0 where
  pub source : Mco2Source
  pub frequency : Option ℕ

-- (u8, Option<Hertz>)
pub record Prescaled : Type 0 where
  pub prescaler : ℕ
  pub ck : Option ℕ

-- match in_ck.div_ceil(freq): 0 is unreachable!(), and above 15 it panics
abbrev pub match_prescaler : ℕ → Run ℕ
match_prescaler x = cond (leb 1 x && leb x 15) (return x) panic

-- calculate_prescaler!
unfoldable pub calculate_prescaler : (in-ck : ℕ) → (frequency : Option ℕ) → Run Prescaled
calculate_prescaler in-ck None = return (record { prescaler = 0; ck = None })
calculate_prescaler in-ck (Some freq) = do
  ratio ← div_ceil in-ck freq
  prescaler ← match_prescaler ratio
  hz ← Rust.div in-ck prescaler
  return (record { prescaler = as_u8 prescaler; ck = Some hz })
