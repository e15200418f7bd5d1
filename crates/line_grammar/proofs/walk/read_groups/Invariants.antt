use Rattle.std.proofs.Common.{◌≡◌, ◌++◌, false, [], length}
use Rattle.std.specs.Prelude.{IfSome, IfNone}
use Rattle.std.specs.Option.{option_to_list}
use Rattle.line_grammar.specs.FileLines.{begins_with}
use Rattle.line_grammar.specs.Groups.{in_turn, cut, read_groups}
use Rattle.line_grammar.proofs.walk.read_groups.Given as goal

abbrev pub invariant-loop-next : goal.invariant-loop-next
invariant-loop-next g l =
    (g.G.Gather.made l.gathered ≡ g.G.Gather.made l.fn.gathered)
    × g.G.Gather.is_fit (g.G.Gather.made l.gathered) (g.G.Gather.gathered l.gathered)
    × (in_turn (g.G.Gather.with_item (g.G.Gather.made l.gathered)) (g.G.Gather.gathered l.gathered) (cut (begins_with l.fn.member) (option_to_list l.next ++ l.lines)).1
    ≡ read_groups g.G.Cause.LineCause.causes l.fn.member (g.G.Gather.with_item (g.G.Gather.made l.fn.gathered)) (g.G.Gather.gathered l.fn.gathered) l.fn.bytes)
    × IfSome l.next (λ line. begins_with l.fn.member line ≡ false)
    × IfNone l.next (l.lines ≡ [])

abbrev pub decreases-loop-next : goal.decreases-loop-next
decreases-loop-next g l = length (option_to_list l.next ++ l.lines)
