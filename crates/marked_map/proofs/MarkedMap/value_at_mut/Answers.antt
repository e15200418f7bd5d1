use Rattle.std.proofs.Common.{arith}
use Rattle.indexmap.proofs.CallerLemmas.{index_map_len-with_value_at}
use Rattle.marked_map.proofs.MarkedMap.value_at_mut.Goals as goal

pub invariant_of-self-lent : goal.invariant_of-self-lent
invariant_of-self-lent g c w = omega (arith, index_map_len-with_value_at c.self.inside.map c.args.place w, c.self.invariant)
