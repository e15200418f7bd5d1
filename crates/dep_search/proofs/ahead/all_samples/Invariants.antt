use Rattle.std.specs.Prelude.{All}
use Rattle.dep_search.specs.Pairs.{IsSample}
use Rattle.dep_search.proofs.ahead.all_samples.Given as goal

abbrev pub invariant-loop-one : goal.invariant-loop-one
invariant-loop-one l = All (IsSample l.table) l.samples
