-- What a verdict says follows from what it shows.
use Rattle.std.proofs.Common.{◌≡◌, ◌↔◌, ℕ, List, sym, ap, ◌∙◌}
use Rattle.std.specs.Prelude.{slice_get}
use Rattle.rule_runs.specs.Moves.{Stage}
use Rattle.rule_runs.specs.declared.runs.Run.{Run}
use Rattle.fix_engine.specs.declared.verdict.Verdict.{Verdict}
use Rattle.fix_engine.specs.declared.verdict.Verdict.TheVariants.{Unique, Conflict}
use Rattle.fix_engine.specs.Fixes.{Question, IsCertain, IsUnique}
use Rattle.fix_engine.specs.Questions.{texts_of}
use Rattle.fix_engine.specs.Verdicts.{IsShown, IsShownRun, IsVerdictOn, SaysCertain, SaysUnique}

module _ (pool : List (List ℕ)) (q : Question (List ℕ)) where
  -- a maximal run ends in the tuple in which all do
  ends_in : (run : Run) → IsShownRun pool q run → (unique : IsUnique q) → texts_of pool run.tuple ≡ unique.0
  ends_in run to unique = sym (ap (λ (s : Stage (List ℕ)). s.tuple) to.end) ∙ unique.1 run.moves to.full

  unique_from : (v : Verdict) → IsShown pool q v → SaysUnique v ↔ IsUnique q
  unique_from (Unique tuple covered moves) (all, full) = (
    λ _. (texts_of pool tuple, λ each is. ap (λ (s : Stage (List ℕ)). s.tuple) (all each is)),
    λ _. tt,
  )
  unique_from (Conflict first second attr) (one, other, differs) = (
    λ no. absurd no,
    λ unique. differs.here (ap (λ t. slice_get t attr) (ends_in first one unique ∙ sym (ends_in second other unique))),
  )

  certain_from : (v : Verdict) → IsShown pool q v → SaysCertain q.width v ↔ IsCertain q
  certain_from (Unique tuple covered moves) (all, full) = (
    λ has. record {
      unique = (unique_from (Unique tuple covered moves) (all, full)).0 tt;
      all = λ each is attr within. ap (λ (s : Stage (List ℕ)). s.validated attr) (all each is) ∙ has attr within;
    },
    λ certain attr within. sym (ap (λ (s : Stage (List ℕ)). s.validated attr) (all moves full)) ∙ certain.all moves full attr within,
  )
  certain_from (Conflict first second attr) shown = (
    λ no. absurd no,
    λ certain. (unique_from (Conflict first second attr) shown).1 certain.unique,
  )

  pub verdict_from : (v : Verdict) → IsShown pool q v → IsVerdictOn pool q v
  verdict_from v shown = record { unique = unique_from v shown; certain = certain_from v shown; shown = shown }
