-- What is answered to a fix. A row is corrected where all maximal runs of editing rules end in one tuple, and then each
-- attribute that changes is told; else two maximal runs that disagree are told, and nothing changes.
use Rattle.std.specs.Prelude.{◌≡◌, ◌≢◌, ◌⊎◌, ℕ, ◌==◌, Any, Bool, true, not, if◌then◌else◌, List, [], ◌++◌, length, filter, zip, Ok, Some, is_some, ok_or, codes, decimal}
use Rattle.std.specs.List.{count_by, flat_map, list_all, range_with_len, slice_get, slice_set}
use Rattle.std.specs.Option.{option_map_or}
use Rattle.std.specs.Str.{bytes_eq}
use Rattle.schema_core.specs.Schemas.{attr_place}
use Rattle.line_grammar.specs.Tokens.{quoted}
use Rattle.schema_core.specs.declared.schema.Attr.{Attr}
use Rattle.schema_core.specs.declared.schema.Table.{Table}
use Rattle.rule_model.specs.Books.{Book, book_edits}
use Rattle.rule_model.specs.declared.edit_rule.EditRule.{EditRule}
use Rattle.bench_core.specs.Answers.{master_texts}
use Rattle.bench_core.specs.Edited.{Step, TableAt, ◌>>=◌, ◌>>◌, require, table_of_name}
use Rattle.bench_core.specs.History.{History, accepted}
use Rattle.bench_core.specs.State.{State, TableState, texts_of, with_texts}
use Rattle.bench_core.specs.declared.edit.EditFault.TheVariants.{UnknownAttr, UnknownRow, UnknownTable}
use Rattle.rule_runs.specs.Moves.{target_of}
use Rattle.rule_runs.specs.declared.moves.Move.{Move}
use Rattle.fix_engine.specs.Fixes.{AllEndIn, DifferFirstAt, IsFullRun, Question, stage_after}
use Rattle.fix_engine.specs.Questions.{text_question}

-- ---- what is asked

-- a row that is to be corrected, and what is asked of it
pub record Asked : Type 0 where
  pub number : ℕ
  pub table : Table
  pub state : TableState
  pub row : ℕ
  pub question : Question (List ℕ)

abbrev pub asked_of : Book → State → TableAt → ℕ → List (List ℕ) → List (List ℕ) → Asked
asked_of rules state at row vouched texts = record {
  number = at.number;
  table = at.table;
  state = at.state;
  row = row;
  question = text_question rules (master_texts rules.schema state) at.number texts vouched;
}

-- each name is that of an attribute
abbrev pub are_attrs : Table → List (List ℕ) → Bool
are_attrs table names = list_all (λ name. is_some (attr_place table name)) names

-- what is asked of a row of the named table, or the first cause for which that can't be asked
abbrev pub asked : Book → State → List ℕ → ℕ → List (List ℕ) → Step Asked
asked rules state table row vouched = do
  at ← ok_or (table_of_name rules.schema state table) UnknownTable
  texts ← ok_or (texts_of at.state row) UnknownRow
  require (are_attrs at.table vouched) UnknownAttr
  Ok (asked_of rules state at row vouched texts)

-- ---- texts

-- an attribute with its values in two tuples
abbrev pub Cell : Type 0
Cell = Attr × (List ℕ × List ℕ)

abbrev pub cells : List Attr → List (List ℕ) → List (List ℕ) → List Cell
cells attrs old new = zip attrs (zip old new)

abbrev pub differs : Cell → Bool
differs cell = not (bytes_eq cell.1.0 cell.1.1)

-- the attributes whose value changes, with both values
abbrev pub changed_cells : List Attr → List (List ℕ) → List (List ℕ) → List Cell
changed_cells attrs old new = filter differs (cells attrs old new)

-- `cell ATTR OLD NEW`
abbrev pub cell_text : Cell → List ℕ
cell_text cell = codes "cell " ++ cell.0.name ++ codes " " ++ quoted cell.1.0 ++ codes " " ++ quoted cell.1.1 ++ codes "\n"

-- how many of so many attributes are validated
abbrev pub covered : ℕ → (ℕ → Bool) → ℕ
covered width validated = count_by validated (range_with_len 0 width)

-- whether all are
abbrev pub sureness : ℕ → ℕ → List ℕ
sureness width count = if count == width then codes "certain" else codes "unique"

-- `fixed TABLE ID certain CHANGED COVERED`, or `unique` for `certain`
abbrev pub fixed_line : Table → ℕ → ℕ → ℕ → List ℕ
fixed_line table row changed count =
    codes "fixed " ++ table.name ++ codes " " ++ decimal row ++ codes " " ++ sureness (length table.attrs) count ++ codes " " ++ decimal changed ++ codes " " ++ decimal count ++ codes "\n"

-- the cells that change, then how many they are, and how many attributes are validated
abbrev pub fixed_text : Table → ℕ → List (List ℕ) → List (List ℕ) → ℕ → List ℕ
fixed_text table row old new count = flat_map cell_text (changed_cells table.attrs old new) ++ fixed_line table row (length (changed_cells table.attrs old new)) count

-- the name of an editing rule by its number
abbrev pub rule_name : Book → ℕ → List ℕ
rule_name rules number = option_map_or (λ (rule : EditRule). rule.name) (slice_get (book_edits rules) number) []

-- ` RULE:ROW`
abbrev pub move_text : Book → Move → List ℕ
move_text rules move = codes " " ++ rule_name rules move.rule ++ codes ":" ++ decimal move.master

-- a word and the moves of a run
abbrev pub run_text : Book → List ℕ → List Move → List ℕ
run_text rules word moves = word ++ flat_map (move_text rules) moves ++ codes "\n"

-- the name of an attribute, and the value that a tuple has there
abbrev pub name_at : Table → ℕ → List ℕ
name_at table attr = option_map_or (λ (a : Attr). a.name) (slice_get table.attrs attr) []

abbrev pub value_at : List (List ℕ) → ℕ → List ℕ
value_at tuple attr = option_map_or (λ value. value) (slice_get tuple attr) []

-- ` ATTR VALUE1 VALUE2`
abbrev pub values_text : List ℕ → List ℕ → List ℕ → List ℕ
values_text attr one other = codes " " ++ attr ++ codes " " ++ quoted one ++ codes " " ++ quoted other ++ codes "\n"

-- `conflict TABLE ID ATTR VALUE1 VALUE2`
abbrev pub conflict_line : Table → ℕ → List ℕ → List ℕ → List ℕ → List ℕ
conflict_line table row attr one other = (codes "conflict " ++ table.name ++ codes " " ++ decimal row) ++ values_text attr one other

-- the attribute at which the tuples differ, and the runs that lead to them
abbrev pub conflict_text : Book → Table → ℕ → ℕ → List (List ℕ) → List (List ℕ) → List Move → List Move → List ℕ
conflict_text rules table row attr one other first second =
    conflict_line table row (name_at table attr) (value_at one attr) (value_at other attr) ++ run_text rules (codes "first") first ++ run_text rules (codes "second") second

-- ---- replies

-- the state in which the row has other texts
abbrev pub rewritten : State → Asked → List (List ℕ) → State
rewritten state asked texts = slice_set state asked.number (with_texts asked.state asked.row texts)

-- All maximal runs end in one tuple: the row gets it, what changes is told, and one undo takes it back. What was vouched for
-- is not written over, and each attribute that changes was validated by a move of the run.
pub record IsFixed (before : History) (asked : Asked) (bytes : List ℕ) (after : History) : Type 0 where
  pub moves : List Move
  pub full : IsFullRun asked.question moves
  pub all : AllEndIn asked.question (stage_after asked.question moves).tuple
  pub told : bytes ≡ fixed_text asked.table asked.row asked.question.stage.tuple (stage_after asked.question moves).tuple (covered (length asked.table.attrs) (stage_after asked.question moves).validated)
  pub written : after ≡ accepted before (rewritten before.present asked (stage_after asked.question moves).tuple)
  pub vouched : (attr : ℕ) → asked.question.stage.validated attr ≡ true → slice_get (stage_after asked.question moves).tuple attr ≡ slice_get asked.question.stage.tuple attr
  pub moved : (attr : ℕ) → slice_get (stage_after asked.question moves).tuple attr ≢ slice_get asked.question.stage.tuple attr → Any (λ move. target_of asked.question.basis move ≡ Some attr) moves

-- Two maximal runs end in different tuples: they are told, with the first attribute at which these differ, and nothing
-- changes.
pub record IsConflict (rules : Book) (before : History) (asked : Asked) (bytes : List ℕ) (after : History) : Type 0 where
  pub first : List Move
  pub second : List Move
  pub attr : ℕ
  pub full_first : IsFullRun asked.question first
  pub full_second : IsFullRun asked.question second
  pub differ : DifferFirstAt (stage_after asked.question first).tuple (stage_after asked.question second).tuple attr
  pub told : bytes ≡ conflict_text rules asked.table asked.row attr (stage_after asked.question first).tuple (stage_after asked.question second).tuple first second
  pub kept : after ≡ before

abbrev pub IsVerdict : Book → History → Asked → List ℕ → History → Type 0
IsVerdict rules before asked bytes after = IsFixed before asked bytes after ⊎ IsConflict rules before asked bytes after
