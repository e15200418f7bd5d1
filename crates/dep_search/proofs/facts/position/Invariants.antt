use Rattle.std.specs.Prelude.{⊤}
use Rattle.dep_search.proofs.facts.position.Given as goal

abbrev pub invariant-loop-place : goal.invariant-loop-place
invariant-loop-place l = ⊤
