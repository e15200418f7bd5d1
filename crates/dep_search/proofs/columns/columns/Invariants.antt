use Rattle.std.proofs.Common.{◌≡◌, ℕ, ◌<◌, [], ◌∷◌, length}
use Rattle.std.specs.Prelude.{slice_index_or}
use Rattle.dep_search.specs.Leaders.{AreWithin, Tells}
use Rattle.dep_search.proofs.columns.columns.Given as goal

abbrev pub invariant-loop-attr : goal.invariant-loop-attr
invariant-loop-attr l = record {
  many : length l.columns ≡ l.attr;
  each : (a : ℕ) → a < l.attr → Tells l.rows (a ∷ []) (slice_index_or l.columns a []);
  within : (a : ℕ) → a < l.attr → AreWithin (slice_index_or l.columns a []);
}
