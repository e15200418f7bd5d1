use Rattle.violation_report.proofs.Loops.{has_table}
use Rattle.violation_report.proofs.explaining.explain.Goals as goal

pub has_row-requires : goal.has_row-requires
has_row-requires g c = has_table c.rules.ensures.valid.present c.in-Some.number (rw (c.schema.ensures.schema, c.rules.ensures.value) at c.in-Some.ensures.found.0)
