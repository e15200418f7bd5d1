-- Moves: an editing rule corrects a tuple from a row of its master table. The values of tuples are of any kind for which
-- it is known whether a value is a text.
use Rattle.std.specs.Prelude.{◌≡◌, ℕ, Bool, true, false, List, map, Option, None, slice_get, slice_set, IsSomeAnd, All, option_map}
use Rattle.std.specs.Option.{option_and_then, option_map_or}
use Rattle.rule_model.specs.declared.edit_rule.EditCell.{EditCell}
use Rattle.rule_model.specs.declared.edit_rule.EditCell.TheVariants.{Any, Is, Not}
use Rattle.rule_model.specs.declared.edit_rule.EditRule.{EditRule}
use Rattle.rule_runs.specs.declared.moves.Move.{Move}
use Rattle.rule_runs.specs.Marks.{with_attr}
use Rattle.rule_runs.specs.Runs.{IsRun, end_of, IsMaximal}

-- a tuple on its way, and which of its attributes are validated
pub record Stage (V : Type 0) : Type 0 where
  pub tuple : List V
  pub validated : ℕ → Bool

-- What tuples of a table are corrected by: editing rules, and the rows of master tables by table and row id. Beside them,
-- whether a value is a text.
pub record Basis (V : Type 0) : Type 0 where
  pub table : ℕ
  pub rules : List EditRule
  pub masters : ℕ → ℕ → Option (List V)
  pub is_text : V → List ℕ → Bool

-- the values of a tuple in columns
abbrev pub values_in : {V : Type 0} → List V → List ℕ → List (Option V)
values_in tuple columns = map (slice_get tuple) columns

-- what a cell asks of a value: nothing, to be the constant, or not to be it
abbrev pub Fits : {V : Type 0} → (V → List ℕ → Bool) → EditCell → V → Type 0
Fits is_text Any value = Unit {0}
Fits is_text (Is text) value = is_text value text ≡ true
Fits is_text (Not text) value = is_text value text ≡ false

-- the tuple matches a pattern
abbrev pub MatchesPattern : {V : Type 0} → (V → List ℕ → Bool) → List V → List (ℕ × EditCell) → Type 0
MatchesPattern is_text tuple pattern = All (λ (p : ℕ × EditCell). IsSomeAnd (slice_get tuple p.0) (Fits is_text p.1)) pattern

module _ {V : Type 0} (basis : Basis V) where
  -- The rule is of the table, what it reads is validated, its target isn't, and the tuple matches its pattern.
  pub record IsReady (stage : Stage V) (rule : EditRule) : Type 0 where
    pub table : rule.table ≡ basis.table
    pub matched : All (λ attr. stage.validated attr ≡ true) rule.x
    pub asked : All (λ (p : ℕ × EditCell). stage.validated p.0 ≡ true) rule.when
    pub target : stage.validated rule.target ≡ false
    pub pattern : MatchesPattern basis.is_text stage.tuple rule.when

  -- the rule and the master row of a move, where they are there
  abbrev pub correction : Move → Option (EditRule × List V)
  correction move = option_and_then (λ (rule : EditRule). option_map (λ (master : List V). (rule, master)) (basis.masters rule.master move.master)) (slice_get basis.rules move.rule)

  -- the rule is ready, and the tuple has the master row's values in the columns that are matched
  abbrev pub Corrects : Stage V → EditRule × List V → Type 0
  Corrects stage (rule, master) = IsReady stage rule × (values_in stage.tuple rule.x ≡ values_in master rule.xm)

  -- the move applies
  abbrev pub Applies : Stage V → Move → Type 0
  Applies stage move = IsSomeAnd (correction move) (Corrects stage)

  -- the target gets the value of the master row's source, and is validated
  abbrev pub corrected : Stage V → EditRule × List V → Stage V
  corrected stage (rule, master) = record {
    tuple = option_map_or (slice_set stage.tuple rule.target) (slice_get master rule.source) stage.tuple;
    validated = with_attr stage.validated rule.target;
  }

  -- the stage after a move
  abbrev pub after : Stage V → Move → Stage V
  after stage move = option_map_or (corrected stage) (correction move) stage

  -- the value that the move writes, where its rule and its master row are there
  abbrev pub value_written : Move → Option V
  value_written move = option_map_or (λ (c : EditRule × List V). slice_get c.1 c.0.source) (correction move) None

  -- the attribute that a move validates
  abbrev pub target_of : Move → Option ℕ
  target_of move = option_map (λ (c : EditRule × List V). c.0.target) (correction move)

  -- the stage after a list of moves; whether each of them applies in its place; and whether then no move applies
  abbrev pub end_after : Stage V → List Move → Stage V
  end_after = end_of Applies after

  abbrev pub IsRunOf : Stage V → List Move → Type 0
  IsRunOf = IsRun Applies after

  abbrev pub IsMaximalRun : Stage V → List Move → Type 0
  IsMaximalRun = IsMaximal Applies after

  -- no move applies but those that validate the attribute that is left out
  abbrev pub IsClosedBut : Option ℕ → Stage V → Type 0
  IsClosedBut left_out stage = (move : Move) → Applies stage move → target_of move ≡ left_out
