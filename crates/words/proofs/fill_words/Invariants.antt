-- The loop of `words::fill_words`.
use Rattle.std.specs.Prelude.{◌≡◌, ◌-◌, length}
use Rattle.words.specs.Filled.{filled}
use Rattle.words.proofs.fill_words.Given as goal

abbrev pub invariant-loop-k : goal.invariant-loop-k
invariant-loop-k l = (filled (l.m - l.k) l.k l.words l.out ≡ filled (l.m - l.i) l.i l.words l.initial.out) × (length l.out ≡ length l.initial.out)
