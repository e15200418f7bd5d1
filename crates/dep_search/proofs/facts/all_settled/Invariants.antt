use Rattle.std.proofs.Common.{◌≡◌, ℕ, ◌<◌, length}
use Rattle.std.specs.Prelude.{slice_index_or}
use Rattle.dep_search.specs.Settled.{IsSettled}
use Rattle.dep_search.specs.declared.settled.Settled.{Settled}
use Rattle.dep_search.proofs.facts.all_settled.Given as goal

abbrev pub invariant-loop-a : goal.invariant-loop-a
invariant-loop-a l = record {
  many : length l.settled ≡ l.a;
  each : (a : ℕ) (d : Settled) → a < l.a → IsSettled l.table.rows.now l.table.support l.grouped.x a (slice_index_or l.settled a d);
}
