use Rattle.std.specs.Prelude.{⊤}
use Rattle.dep_search.proofs.facts.is_determined.Given as goal

abbrev pub invariant-loop-k : goal.invariant-loop-k
invariant-loop-k l = ⊤
