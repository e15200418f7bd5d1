-- Maximal runs from a start, with their ends.
use Rattle.std.proofs.Common.{◌≡◌, ℕ, List, ◌++◌, Option, Some, None, sym, ap, ◌∙◌, subst}
use Rattle.std.specs.Prelude.{IfNone}
use Rattle.rule_runs.specs.declared.moves.Move.{Move}
use Rattle.rule_runs.specs.declared.moves.Start.{Start}
use Rattle.rule_runs.specs.declared.runs.Run.{Run}
use Rattle.rule_runs.specs.Moves.{IsMaximalRun, IsRunOf, Stage, end_after}
use Rattle.rule_runs.specs.Starts.{GoesOn, IsRunFrom, IsStart, IsTupleOf, basis_of, first_stage}
use Rattle.rule_runs.proofs.Running.{run_from_tuple}
use Rattle.fix_engine.specs.Questions.{asked_at}
use Rattle.fix_engine.specs.Rivals.{IsFullRunTo, LeadsTo}

-- it is a run with its end
pub from_full : (start : Start) (run : Run) → IsFullRunTo (asked_at start) run → IsRunFrom start run
from_full start run full = record { each = full.full.run; end = full.end }

pub to_full : (start : Start) (run : Run) → IsRunFrom start run → IsMaximalRun (basis_of start) (first_stage start) run.moves → IsFullRunTo (asked_at start) run
to_full start run from maximal = record { full = maximal; end = from.end }

-- its tuple is one of the table
pub full_tuple : (start : Start) (run : Run) → IsStart start → IsFullRunTo (asked_at start) run → IsTupleOf start start.table run.tuple
full_tuple start run is_start full = run_from_tuple start run is_start (from_full start run full)

-- where a run goes on from some moves, these lead to its tuple
pub leads_on : (start : Start) (moves : List Move) (tuple : List ℕ) (run longer : Run) → run.moves ≡ moves → GoesOn run longer → IsRunFrom start longer → longer.tuple ≡ tuple → LeadsTo start moves tuple
leads_on start moves tuple run longer same (more, goes_on) from is =
    let whole : longer.moves ≡ moves ++ more = goes_on ∙ ap (λ front. front ++ more) same in (
      more,
      subst (IsRunOf (basis_of start) (first_stage start)) whole from.each,
      ap (λ ms. (end_after (basis_of start) (first_stage start) ms).tuple) (sym whole) ∙ ap (λ (s : Stage ℕ). s.tuple) from.end ∙ is,
    )

pub IfNone-then : {X P Q : Type 0} (o : Option X) → IfNone o P → (P → Q) → IfNone o Q
IfNone-then None holds then = then holds
IfNone-then (Some x) holds then = tt
