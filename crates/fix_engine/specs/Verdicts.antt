-- What a verdict says of the question. Its tuples are of value ids, and stand for their texts.
use Rattle.std.specs.Prelude.{◌≡◌, ◌↔◌, ℕ, List}
use Rattle.rule_model.specs.Books.{Book}
use Rattle.rule_runs.specs.declared.marks.Marks.{Marks}
use Rattle.rule_runs.specs.declared.runs.Run.{Run}
use Rattle.rule_runs.specs.Marks.{marked}
use Rattle.rule_runs.specs.Moves.{Stage}
use Rattle.rule_runs.specs.Starts.{IsTupleIn}
use Rattle.fix_engine.specs.declared.verdict.Verdict.{Verdict}
use Rattle.fix_engine.specs.declared.verdict.Verdict.TheVariants.{Unique, Conflict}
use Rattle.fix_engine.specs.Fixes.{Question, HasAll, AllEndAt, DifferFirstAt, IsCertain, IsFullRun, IsUnique, stage_after}
use Rattle.fix_engine.specs.Questions.{texts_of}

-- that the fix is unique
abbrev pub SaysUnique : Verdict → Type 0
SaysUnique (Unique tuple covered moves) = Unit {0}
SaysUnique (Conflict first second attr) = ⊥

-- that it is unique, with each of so many attributes validated
abbrev pub SaysCertain : ℕ → Verdict → Type 0
SaysCertain width (Unique tuple covered moves) = HasAll width (marked covered)
SaysCertain width (Conflict first second attr) = ⊥

-- the texts of a tuple, with the attributes that are marked
abbrev pub stage_in_texts : List (List ℕ) → List ℕ → Marks → Stage (List ℕ)
stage_in_texts pool tuple marks = record { tuple = texts_of pool tuple; validated = marked marks }

-- a maximal run, with the tuple and the validated attributes at its end
pub record IsShownRun (pool : List (List ℕ)) (question : Question (List ℕ)) (run : Run) : Type 0 where
  pub full : IsFullRun question run.moves
  pub end : stage_after question run.moves ≡ stage_in_texts pool run.tuple run.covered

-- What is shown. Of a unique fix: the tuple and the validated attributes at which all maximal runs end, and one of these
-- runs. Of a conflict: two maximal runs, with their ends, and the first attribute at which these tuples differ.
abbrev pub IsShown : List (List ℕ) → Question (List ℕ) → Verdict → Type 0
IsShown pool question (Unique tuple covered moves) =
    AllEndAt question (stage_in_texts pool tuple covered) × IsFullRun question moves
IsShown pool question (Conflict first second attr) =
    IsShownRun pool question first × IsShownRun pool question second × DifferFirstAt (texts_of pool first.tuple) (texts_of pool second.tuple) attr

-- it says whether the fix is unique and whether it is certain, and shows why
pub record IsVerdictOn (pool : List (List ℕ)) (question : Question (List ℕ)) (verdict : Verdict) : Type 0 where
  pub unique : SaysUnique verdict ↔ IsUnique question
  pub certain : SaysCertain question.width verdict ↔ IsCertain question
  pub shown : IsShown pool question verdict

-- what is shown are tuples of the table
abbrev pub HasTuplesIn : Book → List (List ℕ) → ℕ → Verdict → Type 0
HasTuplesIn rules pool table (Unique tuple covered moves) = IsTupleIn rules pool table tuple
HasTuplesIn rules pool table (Conflict first second attr) = IsTupleIn rules pool table first.tuple × IsTupleIn rules pool table second.tuple
