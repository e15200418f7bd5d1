use Rattle.std.proofs.Common.{ℕ, take}
use Rattle.std.specs.Prelude.{IfNone, IfSome}
use Rattle.std.specs.List.{All}
use Rattle.case_tree.specs.declared.tree.Reason.TheVariants.{Clause}
use Rattle.case_tree.specs.CaseTree.{Holds}
use Rattle.case_search.proofs.step.false_clause.Given as goal

abbrev pub invariant-loop-at : goal.invariant-loop-at
invariant-loop-at l = record {
  found : IfSome l.least (λ at. Holds l.clauses l.trail.path (Clause at));
  none : IfNone l.least (All (λ (at : ℕ). Holds l.clauses l.trail.path (Clause at) → ⊥) (take l.at-index l.places));
}
