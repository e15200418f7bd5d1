use Rattle.std.proofs.Common.{◌≡◌, ◌++◌, take}
use Rattle.std.specs.List.{flat_map}
use Rattle.edit_replies.specs.Fixing.{move_text}
use Rattle.edit_replies.proofs.fix_text.push_moves.Given as goal

abbrev pub invariant-loop-next : goal.invariant-loop-next
invariant-loop-next l = l.out.items ≡ l.initial.out.items ++ flat_map (move_text l.rules) (take l.next-index l.moves)
