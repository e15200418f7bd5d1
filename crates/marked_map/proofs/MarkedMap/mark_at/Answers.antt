use Rattle.std.proofs.Common.{◌<◌, ap, arith, length, slice_get, ◌∙◌}
use Rattle.marked_map.proofs.MarkedMapLemmas.{KeepsOthers-mark, slice_get-swap_to}
use Rattle.marked_map.proofs.MarkedMap.mark_at.Goals as goal

pub returns-clause-same_pair : goal.returns-clause-same_pair
returns-clause-same_pair g c =
    let pairs = c.self.inside.map.entries in
    let within : c.args.place < length pairs = omega (arith, ap (λ m. length m.pairs) c.self.view_is, c.requires) in
    ap (λ ps. slice_get ps c.self.inside.marked) c.swap_indices.ensures.entries
    ∙ slice_get-swap_to pairs c.args.place c.self.inside.marked within (omega arith) ∙ ap (λ m. slice_get m.pairs c.args.place) c.self.view_is

pub returns-clause-others : goal.returns-clause-others
returns-clause-others g c = KeepsOthers-mark _ c.args.place _ _ _ c.self.view_is c.requires (omega arith) c.swap_indices.ensures.entries
