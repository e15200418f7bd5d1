use Rattle.std.proofs.Common.{Bor, ap, sym, ◌∙◌}
use Rattle.std.specs.Prelude.{is_some}
use Rattle.row_store.specs.Tuple.{Tuple, ids_of}
use Rattle.bench_core.specs.Stored.{stored}
use Rattle.violation_report.proofs.RowLines.{mapped_some, row-stored}
use Rattle.violation_report.proofs.explaining.has_row.Goals as goal

pub returns : goal.returns
returns c =
    let found = c.is_some.ensures ∙ mapped_some (λ (t : Bor Tuple). ids_of t.now) c.get.result ∙ ap is_some c.get.ensures in
    found ∙ sym (row-stored c.args.bench.now.texts c.args.bench.now.history.present c.args.table c.args.row (stored c.store.result.now) c.store.ensures.state)
