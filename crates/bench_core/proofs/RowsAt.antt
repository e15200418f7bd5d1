-- A row by the name or the number of its table, by what is known of the table and of the row.
use Rattle.std.proofs.Common.{◌≡◌, ℕ, zero, suc, ◌<◌, ◌≤◌, [], List, ◌∷◌, length, Some, None, Ok, Err, refl, ap, arith}
use Rattle.std.specs.Prelude.{option_and_then, slice_get}
use Rattle.schema_core.specs.Schemas.{table_place}
use Rattle.rule_model.specs.Books.{Book}
use Rattle.bench_core.specs.Answers.{row_texts}
use Rattle.bench_core.specs.Edited.{row_named}
use Rattle.bench_core.specs.State.{State, TableState, texts_of}
use Rattle.bench_core.specs.declared.edit.EditFault.TheVariants.{UnknownRow}
use Rattle.bench_core.proofs.Answering.{item-there}

module _ (rules : Book) (state : State) (name : List ℕ) (row number : ℕ) (rows : TableState)
    (place : table_place rules.schema name ≡ Some number) (within : number < length rules.schema.tables) (there : slice_get state number ≡ Some rows) where
  pub row-unknown : texts_of rows row ≡ None → row_named rules state name row ≡ Err UnknownRow
  row-unknown none = let (table, is) = item-there rules.schema.tables number within in rw (place, is, there, none) refl

  pub row-known : (texts : List (List ℕ)) → texts_of rows row ≡ Some texts → row_named rules state name row ≡ Ok (number, texts)
  row-known texts known = let (table, is) = item-there rules.schema.tables number within in rw (place, is, there, known) refl

-- the texts of a row of a table that is there
pub texts-at : (state : State) (table row : ℕ) (rows : TableState) → slice_get state table ≡ Some rows → row_texts state table row ≡ texts_of rows row
texts-at state table row rows there = ap (option_and_then (λ (t : TableState). texts_of t row)) there

-- a table beyond the last one has no row
pub none-beyond : (state : State) (table row : ℕ) → length state ≤ table → None ≡ row_texts state table row
none-beyond [] table row beyond = refl
none-beyond (rows ∷ state) zero row beyond = absurd (omega arith)
none-beyond (rows ∷ state) (suc table) row beyond = none-beyond state table row (omega arith)
