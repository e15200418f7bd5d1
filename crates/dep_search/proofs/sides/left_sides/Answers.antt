use Rattle.std.proofs.Common.{◌+◌}
use Rattle.dep_search.proofs.Candidates.{sides_within}
use Rattle.dep_search.proofs.sides.left_sides.Goals as goal

pub returns-clause-within : goal.returns-clause-within
returns-clause-within c = sides_within c.args.attrs (c.loop-size.size + 1) c.loop-size.sides c.loop-size.invariant.so_far
