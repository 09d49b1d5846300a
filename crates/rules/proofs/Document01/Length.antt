-- The length of a list: `fewest` to `most` for a plan, 0 for a refusal (document 01, Register entries).
use Rattle.std.specs.Prelude.{Option, Some, None, Result, Ok, Err}
use mathlib.Core.Path.{◌≡◌}
use mathlib.Core.Bool.{Bool, true, false}
use Prim.Native.Nat.{ℕ, ◌≤◌}
use native.Mathlib.Omega.{arith}
use lib.ListN.{length, length-append}
use Rattle.types.specs.declared.PllSettings.{PllSettings}
use Rattle.types.specs.declared.PllOutput.{PllOutput}
use Rattle.types.specs.declared.Plan.{Plan}
use Rattle.types.specs.declared.Refusal.{Refusal}
use Rattle.rules.specs.Document01.Fields
use Rattle.rules.specs.Document01.Fields.{of_pll}
use Rattle.rules.specs.Document01.Entries.{output_entries, fraction_entries, setting_entries, setup_entries, pll_in, clock_entries, hse_entries, source_entries, output_start, start_entries, bus_entries, plan_entries, entries_of, list_with, fewest, most}

output_length : (d e : ℕ) (o : Option PllOutput) → length (output_entries d e o) ≤ 2
output_length d e None = omega arith
output_length d e (Some o) = omega arith

fraction_length : (k : ℕ) (f : Option ℕ) → length (fraction_entries k f) ≤ 3
fraction_length k None = omega arith
fraction_length k (Some f) = omega arith

setup_length : (k : ℕ) (x : Option PllSettings) → length (setup_entries k x) ≤ 13
unfolding setting_entries
setup_length k None = omega arith
setup_length k (Some s) =
    let f = fraction_length k s.fraction in
    let p = output_length (of_pll k Fields.P) (of_pll k Fields.PEN) s.p in
    let q = output_length (of_pll k Fields.Q) (of_pll k Fields.QEN) s.q in
    let r = output_length (of_pll k Fields.R) (of_pll k Fields.REN) s.r in
    simp length-append (omega arith)

hse_length : (h : Option ℕ) (b : Bool) → length (hse_entries h b) ≤ 2
hse_length None b = omega arith
hse_length (Some h) b = omega arith

-- two or three
source_length : (t : Bool) (s : ℕ) → (2 ≤ length (source_entries t s)) × (length (source_entries t s) ≤ 3)
source_length true s = omega arith
source_length false s = omega arith

output_start_length : (k : ℕ) (o : Option PllOutput) → length (output_start k o) ≤ 2
output_start_length k None = omega arith
output_start_length k (Some o) = omega arith

start_length : (k : ℕ) (x : Option PllSettings) → length (start_entries k x) ≤ 2
start_length k None = omega arith
start_length k (Some s) = output_start_length k s.p

-- a plan's list
pub plan_length : (p : Plan) → (fewest ≤ length (plan_entries p)) × (length (plan_entries p) ≤ most)
unfolding list_with clock_entries bus_entries
plan_length p =
    let setup0 = setup_length 0 (pll_in p 0) in
    let setup1 = setup_length 1 (pll_in p 1) in
    let setup2 = setup_length 2 (pll_in p 2) in
    let hse = hse_length p.clocks.hse p.bypass in
    let sources = source_length p.three p.selectors.src in
    let start0 = start_length 0 (pll_in p 0) in
    let start1 = start_length 1 (pll_in p 1) in
    let start2 = start_length 2 (pll_in p 2) in
    simp length-append (omega arith)

-- an answer's list: a plan's, or none
pub accepted_length : (x : Result Plan Refusal) (p : Plan) → x ≡ Ok p → (fewest ≤ length (entries_of x)) × (length (entries_of x) ≤ most)
unfolding entries_of
accepted_length x p e = rw e (plan_length p)

pub refused_length : (x : Result Plan Refusal) (n : Refusal) → x ≡ Err n → length (entries_of x) ≡ 0
unfolding entries_of
refused_length x n e = rw e

-- so no list is longer
pub at_most : (x : Result Plan Refusal) → length (entries_of x) ≤ most
unfolding entries_of
at_most (Ok p) = (plan_length p).1
at_most (Err n) = omega arith
