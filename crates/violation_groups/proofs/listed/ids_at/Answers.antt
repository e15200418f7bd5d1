use Rattle.std.proofs.Common.{◌+◌, sym, ◌∙◌, ap, drop, refl}
use Rattle.violation_groups.proofs.IdsAt.{collects, collects-absent, collects-more}
use Rattle.violation_groups.proofs.listed.ids_at.Goals as goal

pub returns-in-None : goal.returns-in-None
returns-in-None c =
    sym (collects-absent c.loop-attribute.found.items c.args.ids.now c.args.attributes.now c.loop-attribute.attribute-index _ c.loop-attribute-test.true refl (sym c.in-None.ensures))
    ∙ c.loop-attribute.invariant

pub loop-attribute-preserved : goal.loop-attribute-preserved
loop-attribute-preserved c =
    ap (λ done. collects done c.args.ids.now (drop (c.loop-attribute.attribute-index + 1) c.args.attributes.now)) c.in_ok-push-in-Some.ensures.items
    ∙ collects-more c.loop-attribute.found.items c.args.ids.now c.args.attributes.now c.loop-attribute.attribute-index _ c.in-Some.id c.loop-attribute-test.true refl (sym c.in-Some.ensures)
    ∙ c.loop-attribute.invariant
