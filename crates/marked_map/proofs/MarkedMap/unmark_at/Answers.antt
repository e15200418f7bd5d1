use Rattle.std.proofs.Common.{arith}
use Rattle.marked_map.proofs.MarkedMapLemmas.{KeepsOthers-unmark}
use Rattle.marked_map.proofs.MarkedMap.unmark_at.Goals as goal

pub returns-clause-others : goal.returns-clause-others
returns-clause-others g c = KeepsOthers-unmark _ c.args.place _ _ _ c.self.view_is (omega arith) c.self.invariant c.swap_indices.ensures.entries
