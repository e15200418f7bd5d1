use Rattle.std.proofs.Common.{◌≡◌, ℕ, true, false, [], ◌∷◌, length}
use Rattle.std.specs.Prelude.{slice_index_or}
use Rattle.dep_search.specs.Found.{determines}
use Rattle.dep_search.proofs.samples.all_apart.Given as goal

abbrev pub invariant-loop-a : goal.invariant-loop-a
invariant-loop-a l = record {
  many : length l.apart ≡ l.a;
  each : (a : ℕ) → slice_index_or l.apart a false ≡ true → determines l.table.rows.now (l.one ∷ l.other ∷ []) a ≡ false;
}
