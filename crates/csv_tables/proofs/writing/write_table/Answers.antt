use Rattle.std.proofs.Common.{◌≡◌, arith}
use Rattle.std.proofs.lemmas.Grind.{common_steps}
use Rattle.csv_tables.specs.WrittenFiles.{table_text}
use Rattle.csv_tables.proofs.ReadBack.{table_of-written}
use Rattle.csv_tables.proofs.writing.write_table.Goals as goal

pub returns-clause-read_back : goal.returns-clause-read_back
returns-clause-read_back c limits valid these =
    let text : c.in-Ok.file.items ≡ table_text c.args.table.now.attrs c.args.rows.now = grind (arith, common_steps) in
    let names = rw c.as_slice.ensures at c.in_ok-header.ensures.utf8 in
    let utf8 = rw c.as_slice-2.ensures at c.in_ok-write_rows.ensures.utf8 in
    rw text (table_of-written c.args.table.now limits c.args.rows.now valid these names utf8)
