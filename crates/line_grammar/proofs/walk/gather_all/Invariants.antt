use Rattle.std.proofs.Common.{◌≡◌}
use Rattle.line_grammar.specs.Groups.{in_turn}
use Rattle.line_grammar.proofs.walk.gather_all.Given as goal

abbrev pub invariant-loop-item : goal.invariant-loop-item
invariant-loop-item g l =
    (g.G.Gather.made l.gathered ≡ g.G.Gather.made l.fn.gathered)
    × g.G.Gather.is_fit (g.G.Gather.made l.gathered) (g.G.Gather.gathered l.gathered)
    × (in_turn (g.G.Gather.with_item (g.G.Gather.made l.gathered)) (g.G.Gather.gathered l.gathered) l.item-iterator.rest.items
    ≡ in_turn (g.G.Gather.with_item (g.G.Gather.made l.fn.gathered)) (g.G.Gather.gathered l.fn.gathered) l.fn.items)
