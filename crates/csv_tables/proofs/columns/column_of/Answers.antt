use Rattle.std.proofs.Common.{ap, sym, arith, take_all}
use Rattle.csv.specs.Records.{fields_of}
use Rattle.csv_tables.specs.declared.fault.TableFault.TheVariants as fault
use Rattle.csv_tables.proofs.columns.column_of.Goals as goal

pub returns-in_ok-clone-in-None-clause-place : goal.returns-in_ok-clone-in-None-clause-place
returns-in_ok-clone-in-None-clause-place c =
    let whole = take_all c.len.result (fields_of c.args.header.now) (omega arith) in
    let none = rw (c.as_str.ensures.bytes, whole) at c.in-None.ensures in
    (sym none, ap fault.HeaderLacks c.in_ok-clone-in-None.ensures.cases)
