-- The rows of the code's table of keys.
use mathlib.Core.Path.{◌≡◌, sym, ap, ◌∙◌}
use mathlib.Core.List.{List, map}
use Prim.Native.Nat.{ℕ}
use lib.ListN.{get_or}
use Rattle.std.specs.Borrow.{Bor}
use Rattle.std.specs.Slice.{IsItemAt}
use Rattle.std.proofs.Common.{Option, unwrap_or, option_copied, rules}
use Rattle.std.proofs.Math.ListN.{get_or-map}
use Rattle.ask.specs.Table.{listed, keys, key_at}
use Rattle.ask.specs.declared.Key.{Key}
use Rattle.ask.specs.declared.Kind.{Kind}
use Rattle.ask.specs.declared.Kind.TheVariants.{Nothing}

abbrev pub Row : Type 0
Row = Bor (List ℕ) × Kind × ℕ

-- a row's key
abbrev pub key_in : Row → Key
key_in row = record { kind = row.1; place = row.2 }

-- where the rows have the keys of the definition, key k is that of row k
pub key_got : (rows : List Row) → map key_in rows ≡ map (λ (row : List ℕ × Key). row.1) keys → (k : ℕ) (r : Option (Bor Row)) (d : Row) → IsItemAt rows k r →
    key_in d ≡ record { kind = Nothing; place = 0 } → key_in (unwrap_or (option_copied r) d) ≡ key_at k
key_got rows e k r d h z =
    let there : unwrap_or (option_copied r) d ≡ get_or rows k d = search rules in
    ap key_in there ∙ (sym (get_or-map key_in rows k d) ∙ rw (z, e) (get_or-map (λ (row : List ℕ × Key). row.1) keys k (listed "" Nothing 0)))
