use Rattle.std.proofs.Common.{◌≡◌, ◌<◌, ◌∷◌}
use Rattle.std.specs.Prelude.{None}
use Rattle.case_tree.specs.declared.clauses.Literal.{Literal}
use Rattle.case_tree.specs.CaseTree.{value_on}
use Rattle.case_search.specs.Step.{NoReason}
use Rattle.case_search.proofs.step.first_forced.Given as goal

abbrev pub invariant-loop-var : goal.invariant-loop-var
invariant-loop-var l = record {
  trail : l.trail ≡ l.initial.trail;
  none : (literal : Literal) → literal.var < l.var → value_on l.initial.trail.path literal.var ≡ None → NoReason l.clauses (literal ∷ l.initial.trail.path);
}
