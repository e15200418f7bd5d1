use Rattle.std.proofs.Common.{sym}
use Rattle.csv_tables.proofs.HeaderFacts.{column_fault-passes, column_fault-repeats}
use Rattle.csv_tables.proofs.columns.check_column.Goals as goal

pub returns-then-is_some : goal.returns-then-is_some
returns-then-is_some c =
    let known = rw (c.attr_named.ensures.place, c.utf8_field-name.ensures, c.if-is_none.false) at c.is_none.ensures in
    let before = rw (c.place_of.ensures, c.utf8_field-name.ensures, c.if-is_some.true) at (sym c.is_some.ensures) in
    rw (c.in_ok-new-2.ensures, c.utf8_field-name.ensures) (column_fault-repeats c.args.table.now _ c.args.place c.requires.inside known before)

pub returns : goal.returns
returns c =
    let known = rw (c.attr_named.ensures.place, c.utf8_field-name.ensures, c.if-is_none.false) at c.is_none.ensures in
    let before = rw (c.place_of.ensures, c.utf8_field-name.ensures, c.if-is_some.false) at (sym c.is_some.ensures) in
    column_fault-passes c.args.table.now _ c.args.place c.requires.inside known before
