use Rattle.rule_model.specs.Faults.{outside_in_inclusion_row}
use Rattle.rule_model.proofs.shown.is_inclusion_row_outside.Goals as goal

pub returns : goal.returns
returns c = c.has_fault.ensures (outside_in_inclusion_row c.args.lefts.now c.args.rights.now c.args.cind.now c.args.row.now) c.inclusion_row_is_inside.ensures
