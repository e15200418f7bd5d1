-- The rows of a file, once its header has passed and its records went to a taker.
use Rattle.std.proofs.Common.{◌≡◌, ◌≤◌, ◌+◌, ◌∷◌, ℕ, Bool, true, false, List, Option, Some, None, Result, Ok, Err, IfSome, OnOk, map, refl, arith}
use Rattle.std.proofs.lemmas.List.{length-map}
use Rattle.row_takers.specs.declared.taker.RowTaker.{Ghosts}
use Rattle.line_grammar.specs.Faults.{UnlessMemory}
use Rattle.text_lists.specs.declared.limits.Limits.{Limits}
use Rattle.schema_core.specs.declared.schema.Table.{Table}
use Rattle.csv_tables.specs.Faults.{IsFirstFault, table_tells}
use Rattle.csv_tables.specs.Records.{TakesNext, file_records}
use Rattle.csv_tables.specs.TableFiles.{header_fault, records_fault, row_of, rows_unless, table_of}
use Rattle.csv_tables.specs.Taken.{HasTaken, TakesRows}
use Rattle.csv_tables.specs.declared.fault.TableFault.{TableFault}
use Rattle.csv_tables.proofs.ValidRows.{all-rows, few-records}

-- a record that was found is the first
pub header-taken : (found : Bool) (old : List (List (List ℕ))) (header : List (List ℕ)) (new : List (List (List ℕ))) → found ≡ true → TakesNext found old header new → old ≡ header ∷ new
header-taken true old header new is takes = takes
header-taken false old header new is takes = cc is

-- a count from one
one-less : (n m : ℕ) → 1 + n ≤ m + 1 → n ≤ m
one-less n m h = omega arith

module _ {Self : Type 0} (taker : Ghosts Self) (table : Table) (limits : Limits) (bytes : List ℕ) (header : List (List ℕ)) (rest : List (List (List ℕ)))
    (are : file_records bytes ≡ header ∷ rest) (passes : header_fault table header ≡ None) where
  spelled-by : (found : Option TableFault) → records_fault table limits header 1 rest ≡ found → table_of table limits bytes ≡ rows_unless found (map (row_of table.attrs header) rest)
  spelled-by found is = rw (are, passes, is) refl

  refused-by : (told : Option TableFault) → IfSome told (λ fault. records_fault table limits header 1 rest ≡ Some fault) → IfSome told (λ fault. table_of table limits bytes ≡ Err fault)
  refused-by None is = tt
  refused-by (Some fault) is = spelled-by (Some fault) is

  pub takes-rows : (before after : Self) (result : Result (Unit {0}) TableFault) → IsFirstFault (records_fault table limits header 1 rest) result
      → OnOk result (HasTaken taker (map (row_of table.attrs header) rest) before after)
      → UnlessMemory table_tells (λ _. TakesRows taker table limits bytes before after) (λ fault. table_of table limits bytes ≡ Err fault) result
  takes-rows before after (Ok done) none taken = record {
    rows = map (row_of table.attrs header) rest;
    spelled = spelled-by None none;
    taken = taken;
    valid = all-rows table limits header 1 rest none;
    few = rw (length-map rest (row_of table.attrs header)) (one-less _ _ (few-records table limits header 1 rest none (omega arith)));
  }
  takes-rows before after (Err fault) is taken = refused-by (table_tells fault) is
