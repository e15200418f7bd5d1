use Rattle.std.proofs.Common.{take}
use Rattle.group_index.specs.Pairs.{IsNextHead}
use Rattle.group_index.proofs.group.head_among.Given as goal

abbrev pub invariant-loop-pair : goal.invariant-loop-pair
invariant-loop-pair l = IsNextHead (take l.pair-index l.pairs) l.after l.head
