use Rattle.std.proofs.Common.{◌≡◌, ◌∷◌, ◌∙◌, sym}
use Rattle.csv.specs.Records.{fields_of}
use Rattle.csv_tables.specs.Records.{file_records}
use Rattle.csv_tables.proofs.TakenRows.{header-taken, takes-rows}
use Rattle.csv_tables.proofs.reading.read_rows.Goals as goal

pub returns : goal.returns
returns g c =
    let are : file_records c.args.bytes.now ≡ fields_of c.next.new.row ∷ c.next.new.self =
    sym c.new-records.ensures.records ∙ header-taken _ _ _ _ c.if-not-branch.false c.in_ok-next.ensures in
    let columns = c.in_ok-columns.ensures.columns in
    let fault = rw (columns.0, columns.1) at c.hand_over.ensures.fault in
    let taken = rw (columns.0, columns.1) at c.hand_over.ensures.taken in
    record {
      read = takes-rows g.T.RowTaker c.args.table.now c.args.limits.now c.args.bytes.now _ _ are c.in_ok-columns.ensures.fault c.args.taker.now c.hand_over.new.taker c.hand_over.result fault taken;
    }
