-- What the calls that may refuse a table file tell.
use Rattle.std.specs.Prelude.{◌≡◌, Option, Some, None, Result}
use Rattle.line_grammar.specs.Faults.{UnlessMemory}
use Rattle.csv_tables.specs.declared.fault.TableFault.{TableFault}
use Rattle.csv_tables.specs.declared.fault.TableFault.TheVariants.{Memory}

abbrev pub table_tells : TableFault → Option TableFault
table_tells Memory = None
table_tells fault = Some fault

-- the call tested for the first fault, which is the one that it tells
abbrev pub IsFirstFault : {X : Type 0} → Option TableFault → Result X TableFault → Type 0
IsFirstFault found result = UnlessMemory table_tells (λ _. found ≡ None) (λ fault. found ≡ Some fault) result
