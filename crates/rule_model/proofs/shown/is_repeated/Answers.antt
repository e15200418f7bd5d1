use Rattle.rule_model.specs.Faults.{repeated_in_row}
use Rattle.rule_model.proofs.shown.is_repeated.Goals as goal

pub returns : goal.returns
returns c = c.has_fault.ensures (repeated_in_row c.args.cfd.now c.args.row.now) c.row_is_distinct.ensures
