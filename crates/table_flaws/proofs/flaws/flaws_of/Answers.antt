use Rattle.std.proofs.Common.{◌∙◌}
use Rattle.table_flaws.proofs.Steps.{columns_flaws-more}
use Rattle.table_flaws.proofs.flaws.flaws_of.Goals as goal

pub loop-attr-preserved : goal.loop-attr-preserved
loop-attr-preserved c =
    columns_flaws-more c.args.rows.now c.loop-attr.attr c.loop-attr.flaws c.push_long.new.flaws c.push_spaced.new.flaws c.as_slice.result.now c.as_slice-in-loop-attr.result.now c.loop-attr.invariant
    (c.as_slice.ensures ∙ c.in_ok-values.ensures) (c.as_slice-in-loop-attr.ensures ∙ c.in_ok-values.ensures) c.in_ok-push_long.ensures c.in_ok-push_spaced.ensures
