use Rattle.std.specs.Prelude.{All}
use Rattle.dep_search.specs.Pairs.{IsSample}
use Rattle.dep_search.proofs.ahead.push_samples.Given as goal

abbrev pub invariant-loop-other : goal.invariant-loop-other
invariant-loop-other l = All (IsSample l.table) l.samples
