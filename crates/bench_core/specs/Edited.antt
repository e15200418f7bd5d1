-- What an edit does to a state, or the first cause for which it is refused.
use Rattle.std.specs.Prelude.{ℕ, ◌==◌, nat_le, not, Bool, true, false, List, length, find, zip, ok_or, option_and_then, option_map, Option, Some, None, slice_set, Result, Ok, Err}
use Rattle.std.specs.List.{slice_get, list_all}
use Rattle.schema_core.specs.Schemas.{admits, table_place, attr_place}
use Rattle.text_lists.specs.declared.limits.Limits.{Limits}
use Rattle.schema_core.specs.declared.schema.Attr.{Attr}
use Rattle.schema_core.specs.declared.schema.Table.{Table}
use Rattle.schema_core.specs.declared.schema.Schema.{Schema}
use Rattle.rule_model.specs.Books.{Book}
use Rattle.edit_log.specs.declared.edit.Edit.{Edit}
use Rattle.edit_log.specs.declared.edit.Edit.TheVariants.{Insert, Set, Delete, Fix}
use Rattle.bench_core.specs.State.{TableState, State, texts_of, with_row, with_texts, without_row}
use Rattle.bench_core.specs.Sizes.{has_room}
use Rattle.bench_core.specs.Found.{unless_found}
use Rattle.bench_core.specs.declared.edit.Applied.{Applied}
use Rattle.bench_core.specs.declared.edit.Applied.TheVariants.{Inserted, Changed}
use Rattle.bench_core.specs.declared.edit.EditFault.{EditFault}
use Rattle.bench_core.specs.declared.edit.EditFault.TheVariants.{UnknownTable, UnknownRow, UnknownAttr, WrongWidth, TextTooLong, NotInDomain, RowsFull, IdsSpent, Memory}

-- ---- steps, of which the first refusal ends all

-- what a step gives, or why the edit is refused
abbrev pub Step : Type 0 → Type 0
Step X = Result X EditFault

infixl 10 ◌>>=◌ ◌>>◌
abbrev pub ◌>>=◌ : {X Y : Type 0} → Step X → (X → Step Y) → Step Y
(Ok x) >>= next = next x
(Err refusal) >>= next = Err refusal

abbrev pub ◌>>◌ : {Y : Type 0} → Step (Unit {0}) → Step Y → Step Y
(Ok x) >> next = next
(Err refusal) >> next = Err refusal

-- the edit is refused for this cause unless the test holds
abbrev pub require : Bool → EditFault → Step (Unit {0})
require true refusal = Ok tt
require false refusal = Err refusal

-- ---- what an edit names

-- a table of the schema: its number, how it is declared, and its state
pub record TableAt : Type 0 where
  pub number : ℕ
  pub table : Table
  pub state : TableState

abbrev pub table_at : Schema → State → ℕ → Option TableAt
table_at schema state number =
    option_and_then (λ table. option_map (λ rows. record { number = number; table = table; state = rows }) (slice_get state number)) (slice_get schema.tables number)

abbrev pub table_of_name : Schema → State → List ℕ → Option TableAt
table_of_name schema state name = option_and_then (table_at schema state) (table_place schema name)

-- a row by its table's name: the table's number and the row's texts, where both are there
abbrev pub row_named : Book → State → List ℕ → ℕ → Step (ℕ × List (List ℕ))
row_named rules state name row = do
  at ← ok_or (table_of_name rules.schema state name) UnknownTable
  texts ← ok_or (texts_of at.state row) UnknownRow
  Ok (at.number, texts)

-- the attribute of that name, with its place
abbrev pub attr_of_name : Table → List ℕ → Option (ℕ × Attr)
attr_of_name table name = option_and_then (λ place. option_map (λ attr. (place, attr)) (slice_get table.attrs place)) (attr_place table name)

-- ---- what is asked of texts

abbrev pub is_short : Limits → List ℕ → Bool
is_short limits text = nat_le (length text) limits.cell_bytes

-- the first attribute whose domain lacks its text, if there is one
abbrev pub outside_domain : List Attr → List (List ℕ) → Option EditFault
outside_domain attrs texts =
    option_map (λ (at : Attr × List ℕ). NotInDomain at.0.name) (find (λ (at : Attr × List ℕ). not (admits at.0.domain at.1)) (zip attrs texts))

-- they are a row of the table: a text for each attribute, none too long, each in its domain
abbrev pub require_row : Limits → Table → List (List ℕ) → Step (Unit {0})
require_row limits table texts = do
  require (length texts == length table.attrs) WrongWidth
  require (list_all (is_short limits) texts) TextTooLong
  unless_found (outside_domain table.attrs texts) tt

-- it may stand at the attribute: it isn't too long, and is in the domain
abbrev pub require_text : Limits → Attr → List ℕ → Step (Unit {0})
require_text limits attr text = do
  require (is_short limits text) TextTooLong
  require (admits attr.domain text) (NotInDomain attr.name)

-- ---- what each edit does to its table, and what is told

-- a new row at the next id; `room` is whether there may be one row more
abbrev pub after_insert : Limits → Bool → Table → TableState → List (List ℕ) → Step (TableState × Applied)
after_insert limits room table state values = do
  require_row limits table values
  require room RowsFull
  require (nat_le state.next_id limits.last_id) IdsSpent
  Ok (with_row state values, Inserted state.next_id)

-- another text of one attribute; only that text is tested
abbrev pub after_set : Limits → Table → TableState → ℕ → List ℕ → List ℕ → Step (TableState × Applied)
after_set limits table state row attr value = do
  texts ← ok_or (texts_of state row) UnknownRow
  at ← ok_or (attr_of_name table attr) UnknownAttr
  require_text limits at.1 value
  Ok (with_texts state row (slice_set texts at.0 value), Changed)

-- the row is gone, and its id isn't given again
abbrev pub after_delete : TableState → ℕ → Step (TableState × Applied)
after_delete state row = do
  texts ← ok_or (texts_of state row) UnknownRow
  Ok (without_row state row, Changed)

-- other texts of all attributes
abbrev pub after_fix : Limits → Table → TableState → ℕ → List (List ℕ) → Step (TableState × Applied)
after_fix limits table state row values = do
  texts ← ok_or (texts_of state row) UnknownRow
  require_row limits table values
  Ok (with_texts state row values, Changed)

-- ---- edits

abbrev pub name_of_table : Edit → List ℕ
name_of_table (Insert table values) = table
name_of_table (Set table row attr value) = table
name_of_table (Delete table row) = table
name_of_table (Fix table row values) = table

abbrev pub after_edit : Limits → Bool → Table → TableState → Edit → Step (TableState × Applied)
after_edit limits room table state (Insert name values) = after_insert limits room table state values
after_edit limits room table state (Set name row attr value) = after_set limits table state row attr value
after_edit limits room table state (Delete name row) = after_delete state row
after_edit limits room table state (Fix name row values) = after_fix limits table state row values

-- The state after the edit, and what is told; or the first refusal. Only the table that the edit names changes.
abbrev pub edited : Book → Limits → State → Edit → Step (State × Applied)
edited rules limits state edit = do
  at ← ok_or (table_of_name rules.schema state (name_of_table edit)) UnknownTable
  after ← after_edit limits (has_room rules limits state at.number) at.table at.state edit
  Ok (slice_set state at.number after.0, after.1)

-- what a fault tells: want of memory is no refusal
abbrev pub refusal_of : EditFault → Option EditFault
refusal_of Memory = None
refusal_of refusal = Some refusal
