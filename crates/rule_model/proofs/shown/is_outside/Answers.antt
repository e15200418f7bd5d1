use Rattle.rule_model.specs.Faults.{outside_in_row}
use Rattle.rule_model.proofs.shown.is_outside.Goals as goal

pub returns : goal.returns
returns c = c.has_fault.ensures (outside_in_row c.args.attrs.now c.args.cfd.now c.args.row.now) c.row_is_inside.ensures
