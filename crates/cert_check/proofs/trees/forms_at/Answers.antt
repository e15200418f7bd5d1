use Rattle.std.proofs.Common.{List, map, get_or, ap, ◌∙◌}
use Rattle.std.proofs.lemmas.List.{take_all}
use Rattle.case_tree.specs.declared.tree.Node.TheVariants.{Split}
use Rattle.cert_text.specs.declared.tree_nodes.NodePlace.{NodePlace}
use Rattle.cert_check.proofs.NodeLines.{one_more_form}
use Rattle.cert_check.proofs.trees.forms_at.Goals as goal

pub loop-place-preserved : goal.loop-place-preserved
loop-place-preserved c d =
    let first : NodePlace = record { line = 0; form = 0 } in
    one_more_form c.args.forms.now c.args.places.now c.loop-place.place-index c.loop-place.nodes.items c.push.new.self.items d (Split 0) first c.loop-place-test.true (c.requires c.loop-place.place-index first c.loop-place-test.true) (c.loop-place.invariant d) c.in_ok-push.ensures.items

pub returns : goal.returns
returns c d = c.loop-place.invariant d ∙ ap (λ (places : List NodePlace). map (λ (place : NodePlace). get_or c.args.forms.now place.form d) places) (take_all c.loop-place.place-index c.args.places.now c.loop-place-test.false)
