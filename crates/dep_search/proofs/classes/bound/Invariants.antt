use Rattle.std.specs.Prelude.{⊤}
use Rattle.dep_search.proofs.classes.bound.Given as goal

abbrev pub invariant-loop-id : goal.invariant-loop-id
invariant-loop-id l = ⊤
