use Rattle.std.proofs.Common.{◌≡◌, ℕ, ◌<◌, true}
use Rattle.dep_search.specs.Settled.{is_given}
use Rattle.dep_search.proofs.facts.is_closed.Given as goal

abbrev pub invariant-loop-a : goal.invariant-loop-a
invariant-loop-a l = (a : ℕ) → a < l.a → is_given l.table.rows.now l.x a ≡ true
