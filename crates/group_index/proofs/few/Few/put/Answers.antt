use Rattle.std.proofs.Common.{rules}
use Rattle.group_index.proofs.FewFacts.{once_more}
use Rattle.group_index.proofs.few.Few.put.Goals as goal

pub invariant_of-self : goal.invariant_of-self
invariant_of-self c = rw c.in_ok-push.ensures.items (once_more c.self.inside.pairs.items (c.args.a, c.args.row) c.self.invariant (rw c.self.view_is (search rules)))
