-- Where runs start: a tuple of value ids with its vouched attributes, the rule book, the pool of texts and the master rows.
use Rattle.std.specs.Prelude.{◌≡◌, ℕ, ◌<◌, ◌≤◌, Bool, false, List, ◌++◌, length, take, slice_get, Some, All, Contains, IfSome, IsSomeAnd}
use Rattle.std.specs.Option.{option_map_or}
use Rattle.std.specs.FinMap as finite
use Rattle.std.specs.Str.{bytes_eq}
use Rattle.row_store.specs.Tuple.{ids_of}
use Rattle.rule_model.specs.declared.edit_rule.EditCell.{EditCell}
use Rattle.rule_model.specs.declared.edit_rule.EditRule.{EditRule}
use Rattle.schema_core.specs.Schemas.{HasFewAttrs}
use Rattle.rule_model.specs.Rules.{IsValidEditRule}
use Rattle.rule_model.specs.Books.{Book, book_edits}
use Rattle.master_index.specs.Masters.{Masters}
use Rattle.schema_core.specs.Lookups.{attrs_at}
use Rattle.rule_runs.specs.declared.marks.Marks.{Marks}
use Rattle.rule_runs.specs.declared.moves.Move.{Move}
use Rattle.rule_runs.specs.declared.moves.Start.{Start}
use Rattle.rule_runs.specs.declared.runs.Run.{Run}
use Rattle.rule_runs.specs.declared.runs.RunCheck.{RunCheck}
use Rattle.rule_runs.specs.declared.runs.RunCheck.TheVariants.{Maximal, NotMaximal, Breaks}
use Rattle.rule_runs.specs.Marks.{marked}
use Rattle.rule_runs.specs.Moves.{Basis, Stage, Applies, IsReady, IsRunOf, IsMaximalRun, end_after}

-- the id is that of the text
abbrev pub has_text : List (List ℕ) → ℕ → List ℕ → Bool
has_text pool id text = option_map_or (λ held. bytes_eq held text) (slice_get pool id) false

-- what tuples of a table are corrected by
abbrev pub basis_by : Book → List (List ℕ) → Masters → ℕ → Basis ℕ
basis_by rules pool masters table = record {
  table = table;
  rules = book_edits rules;
  masters = λ master row. finite.get masters.rows (master, row);
  is_text = has_text pool;
}

abbrev pub basis_of : Start → Basis ℕ
basis_of start = basis_by start.rules.now start.pool.now start.masters.now start.table

-- a tuple and the attributes that are marked
abbrev pub stage_of : List ℕ → Marks → Stage ℕ
stage_of tuple marks = record { tuple = tuple; validated = marked marks }

-- before the first move
abbrev pub first_stage : Start → Stage ℕ
first_stage start = stage_of (ids_of start.tuple.now) start.vouched

-- where a run stands
abbrev pub stage_at : Run → Stage ℕ
stage_at run = stage_of run.tuple run.covered

-- a tuple of the table whose ids are of the pool
pub record IsTupleIn (rules : Book) (pool : List (List ℕ)) (table : ℕ) (tuple : List ℕ) : Type 0 where
  pub width : length tuple ≡ length (attrs_at rules.schema table)
  pub ids : All (λ id. id < length pool) tuple

-- The master rows are tuples of their tables, and the master index looks up the matched columns of each editing rule.
pub record AreMasters (rules : Book) (pool : List (List ℕ)) (masters : Masters) : Type 0 where
  pub rows : (table row : ℕ) → IfSome (finite.get masters.rows (table, row)) (IsTupleIn rules pool table)
  pub columns : All (λ (rule : EditRule). Contains masters.lists (record { master = rule.master; columns = rule.xm })) (book_edits rules)

-- how many attributes a table has
abbrev pub width_of : Start → ℕ → ℕ
width_of start table = length (attrs_at start.rules.now.schema table)

-- a tuple of the table, at a start
abbrev pub IsTupleOf : Start → ℕ → List ℕ → Type 0
IsTupleOf start table tuple = IsTupleIn start.rules.now start.pool.now table tuple

-- The table is there and the tuple is one of it, and so are the master rows of theirs.
pub record IsStart (start : Start) : Type 0 where
  pub table : start.table < length start.rules.now.schema.tables
  pub tuple : IsTupleOf start start.table (ids_of start.tuple.now)
  pub masters : AreMasters start.rules.now start.pool.now start.masters.now

-- a rule of the book, whose matched columns the master index looks up
pub record IsRuleOf (start : Start) (rule : EditRule) : Type 0 where
  pub valid : IsValidEditRule start.rules.now.schema rule
  pub columns : Contains start.masters.now.lists (record { master = rule.master; columns = rule.xm })
  pub few : All HasFewAttrs start.rules.now.schema.tables

-- the rule of the number, which is ready at the tuple
pub record IsReadyRule (start : Start) (tuple : List ℕ) (z : Marks) (number : ℕ) (rule : EditRule) : Type 0 where
  pub there : slice_get (book_edits start.rules.now) number ≡ Some rule
  pub rule_of : IsRuleOf start rule
  pub ready : IsReady (basis_of start) (stage_of tuple z) rule

-- What a rule reads and writes lies within a tuple of so many attributes, and a key of what it matches has at most 64 values.
pub record ReadsWithin (rule : EditRule) (width : ℕ) : Type 0 where
  pub x : All (λ attr. attr < width) rule.x
  pub when : All (λ (p : ℕ × EditCell). p.0 < width) rule.when
  pub target : rule.target < width
  pub few : width ≤ 64
  pub short : length rule.x ≤ 64

-- a run from the start, with the tuple and the validated attributes at its end
pub record IsRunFrom (start : Start) (run : Run) : Type 0 where
  pub each : IsRunOf (basis_of start) (first_stage start) run.moves
  pub end : end_after (basis_of start) (first_stage start) run.moves ≡ stage_at run

-- a run that goes on from another
abbrev pub GoesOn : Run → Run → Type 0
GoesOn run longer = (more : List Move) × (longer.moves ≡ run.moves ++ more)

-- what a list of moves is
abbrev pub IsChecked : Start → List Move → RunCheck → Type 0
IsChecked start moves Maximal = IsMaximalRun (basis_of start) (first_stage start) moves
IsChecked start moves NotMaximal =
    IsRunOf (basis_of start) (first_stage start) moves × ((next : Move) × Applies (basis_of start) (end_after (basis_of start) (first_stage start) moves) next)
IsChecked start moves (Breaks at) =
    IsRunOf (basis_of start) (first_stage start) (take at moves)
    × IsSomeAnd (slice_get moves at) (λ next. ¬ Applies (basis_of start) (end_after (basis_of start) (first_stage start) (take at moves)) next)

-- how many of the moves apply in their places
abbrev pub applied : List Move → RunCheck → ℕ
applied moves Maximal = length moves
applied moves NotMaximal = length moves
applied moves (Breaks at) = at
