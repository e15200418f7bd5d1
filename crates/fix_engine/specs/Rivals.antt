-- The search for a maximal run that ends in another tuple than a first one, over value ids.
use Rattle.std.specs.Prelude.{◌≡◌, ℕ, false, List, [], ◌∷◌, ◌++◌, Some}
use Rattle.rule_runs.specs.declared.moves.Move.{Move}
use Rattle.rule_runs.specs.declared.moves.Start.{Start}
use Rattle.rule_runs.specs.declared.runs.Run.{Run}
use Rattle.rule_runs.specs.Moves.{Applies, IsClosedBut, IsRunOf, end_after}
use Rattle.rule_runs.specs.Starts.{IsRunFrom, basis_of, first_stage, stage_at, stage_of}
use Rattle.fix_engine.specs.declared.rivals.Rival.{Rival}
use Rattle.fix_engine.specs.declared.verdict.Verdict.{Verdict}
use Rattle.fix_engine.specs.declared.verdict.Verdict.TheVariants.{Unique, Conflict}
use Rattle.fix_engine.specs.Fixes.{Question, AllEndAt, DifferFirstAt, IsFullRun, stage_after}
use Rattle.fix_engine.specs.Questions.{asked_at}

-- a maximal run, with the tuple and the validated attributes at its end
pub record IsFullRunTo (question : Question ℕ) (run : Run) : Type 0 where
  pub full : IsFullRun question run.moves
  pub end : stage_after question run.moves ≡ stage_at run

-- what a verdict shows, in value ids
abbrev pub IsFound : Question ℕ → Verdict → Type 0
IsFound question (Unique tuple covered moves) =
    AllEndAt question (stage_of tuple covered) × IsFullRun question moves
IsFound question (Conflict first second attr) =
    IsFullRunTo question first × IsFullRunTo question second × DifferFirstAt first.tuple second.tuple attr

-- a maximal run whose tuple differs from that of the first one, first at the attribute
pub record IsRivalOf (start : Start) (first : Run) (rival : Rival) : Type 0 where
  pub full : IsFullRunTo (asked_at start) rival.run
  pub differs : DifferFirstAt first.tuple rival.run.tuple rival.attr

-- some run that goes on from these moves ends in the tuple
abbrev pub LeadsTo : Start → List Move → List ℕ → Type 0
LeadsTo start moves tuple =
    (more : List Move) × IsRunOf (basis_of start) (first_stage start) (moves ++ more) × ((end_after (basis_of start) (first_stage start) (moves ++ more)).tuple ≡ tuple)

-- if the move applies after the run, then what goes on from there leads to the tuple
abbrev pub AgreesBy : Start → Run → List ℕ → Move → Type 0
AgreesBy start run tuple move = Applies (basis_of start) (stage_at run) move → LeadsTo start (run.moves ++ move ∷ []) tuple

-- Some run that leaves the attribute out, and after which only moves with this target apply, leads to the tuple, and so
-- does each of these moves.
pub record AgreesWithout (start : Start) (tuple : List ℕ) (attr : ℕ) : Type 0 where
  pub closure : Run
  pub run : IsRunFrom start closure
  pub out : (stage_at closure).validated attr ≡ false
  pub closed : IsClosedBut (basis_of start) (Some attr) (stage_at closure)
  pub leads : LeadsTo start closure.moves tuple
  pub each : (move : Move) → AgreesBy start closure tuple move
