use Rattle.std.specs.Prelude.{All}
use Rattle.dep_search.specs.Pairs.{ArePairs}
use Rattle.dep_search.proofs.ahead.all_pairs.Given as goal

abbrev pub invariant-loop-attr : goal.invariant-loop-attr
invariant-loop-attr l = All (ArePairs l.table) l.pairs
