-- What is asked of a row, by what is known of its table and of it.
use Rattle.std.proofs.Common.{◌≡◌, ℕ, zero, suc, List, [], ◌∷◌, Some, Ok, refl}
use Rattle.std.specs.Prelude.{slice_get}
use Rattle.std.proofs.lemmas.Option.{none-some}
use Rattle.schema_core.specs.Schemas.{table_place}
use Rattle.schema_core.specs.declared.schema.Table.{Table}
use Rattle.rule_model.specs.Books.{Book}
use Rattle.bench_core.specs.Answers.{row_texts}
use Rattle.bench_core.specs.Edited.{TableAt, ◌>>◌, require, table_of_name}
use Rattle.bench_core.specs.State.{State, TableState, texts_of}
use Rattle.bench_core.specs.declared.edit.EditFault.TheVariants.{UnknownAttr}
use Rattle.edit_replies.specs.Fixing.{are_attrs, asked, asked_of}

module _ (rules : Book) (state : State) (name : List ℕ) (row : ℕ) (vouched : List (List ℕ)) where
  module _ (number : ℕ) (place : table_place rules.schema name ≡ Some number) where
    pub table-known : (table : Table) (rows : TableState) → slice_get rules.schema.tables number ≡ Some table → slice_get state number ≡ Some rows → table_of_name rules.schema state name ≡ Some (record { number = number; table = table; state = rows })
    table-known table rows is there = rw (place, is, there) refl

  pub row-known : (at : TableAt) (texts : List (List ℕ)) → table_of_name rules.schema state name ≡ Some at → texts_of at.state row ≡ Some texts
      → asked rules state name row vouched ≡ (require (are_attrs at.table vouched) UnknownAttr >> Ok (asked_of rules state at row vouched texts))
  row-known at texts is known = rw (is, known) refl

-- a row that has texts is one of a table that is there
pub row-there : (state : State) (table row : ℕ) (texts : List (List ℕ)) → row_texts state table row ≡ Some texts → (rows : TableState) × (slice_get state table ≡ Some rows) × (texts_of rows row ≡ Some texts)
row-there [] table row texts is = absurd (none-some texts is)
row-there (rows ∷ state) zero row texts is = (rows, refl, is)
row-there (rows ∷ state) (suc table) row texts is = row-there state table row texts is
