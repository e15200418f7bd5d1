-- Moves of one rule that write one value lead to one stage, so what goes on from the one goes on from the other.
use Rattle.std.proofs.Common.{◌≡◌, ℕ, List, [], ◌∷◌, ◌++◌, Option, Some, None, refl, sym, ap, ◌∙◌, subst}
use Rattle.std.specs.Prelude.{IfSome, slice_get, slice_set}
use Rattle.std.specs.Option.{option_map_or}
use Rattle.std.proofs.lemmas.Option.{same_Some}
use Rattle.rule_model.specs.declared.edit_rule.EditRule.{EditRule}
use Rattle.rule_model.specs.Books.{book_edits}
use Rattle.rule_runs.specs.declared.moves.Move.{Move}
use Rattle.rule_runs.specs.declared.moves.Start.{Start}
use Rattle.rule_runs.specs.declared.runs.Run.{Run}
use Rattle.rule_runs.specs.Runs.{IsRun, end_of}
use Rattle.rule_runs.specs.Marks.{with_attr}
use Rattle.rule_runs.specs.Moves.{Basis, Stage, Applies, IsRunOf, after, correction, end_after, value_written}
use Rattle.rule_runs.specs.Starts.{IsRunFrom, basis_of, first_stage, stage_at}
use Rattle.rule_runs.proofs.Moving.{after-is, parts}
use Rattle.rule_runs.proofs.Running.{end-append, end-push, run-rest, run-push}
use Rattle.rule_runs.proofs.StartFacts.{move_parts}
use Rattle.fix_engine.specs.Rivals.{AgreesBy, LeadsTo}

module _ {S M : Type 0} (Can : S → M → Type 0) (next : S → M → S) where
  -- a run and a run from its end are one run
  run-append : (s : S) (ms ns : List M) → IsRun Can next s ms → IsRun Can next (end_of Can next s ms) ns → IsRun Can next s (ms ++ ns)
  run-append s [] ns run rest = rest
  run-append s (m ∷ ms) ns (first, run) rest = (first, run-append (next s m) ms ns run rest)

-- the value is that of the master row, where that is known
written-is : (basis : Basis ℕ) (move : Move) (c : EditRule × List ℕ) → correction basis move ≡ Some c → value_written basis move ≡ slice_get c.1 c.0.source
written-is basis move c is = ap (λ o. option_map_or (λ (d : EditRule × List ℕ). slice_get d.1 d.0.source) o None) is

-- a stage with a target that got a value, which may be missing
abbrev put_at : Stage ℕ → ℕ → Option ℕ → Stage ℕ
put_at s target value = record {
  tuple = option_map_or (slice_set s.tuple target) value s.tuple;
  validated = with_attr s.validated target;
}

-- two moves of one rule with one value
same_after : (start : Start) (s : Stage ℕ) (one other : Move) → one.rule ≡ other.rule → Applies (basis_of start) s one → Applies (basis_of start) s other → value_written (basis_of start) one ≡ value_written (basis_of start) other → after (basis_of start) s one ≡ after (basis_of start) s other
same_after start s one other rule applies applies' value =
    let basis = basis_of start in
    let (c, is, corrects) = parts basis s one applies in
    let (d, is', corrects') = parts basis s other applies' in
    let (there, row) = move_parts start one c.0 c.1 is in
    let (there', row') = move_parts start other d.0 d.1 is' in
    let same : c.0 ≡ d.0 = same_Some c.0 d.0 (sym there ∙ ap (slice_get (book_edits start.rules.now)) rule ∙ there') in
    let values : slice_get c.1 c.0.source ≡ slice_get d.1 d.0.source = sym (written-is basis one c is) ∙ value ∙ written-is basis other d is' in
    after-is basis s one c is
    ∙ ap (put_at s c.0.target) values
    ∙ ap (λ (r : EditRule). put_at s r.target (slice_get d.1 d.0.source)) same
    ∙ sym (after-is basis s other d is')

-- what goes on from the one goes on from the other
pub agrees_alike : (start : Start) (run : Run) (tuple : List ℕ) (one other : Move) → IsRunFrom start run → one.rule ≡ other.rule → Applies (basis_of start) (stage_at run) one → value_written (basis_of start) one ≡ value_written (basis_of start) other → LeadsTo start (run.moves ++ one ∷ []) tuple → AgreesBy start run tuple other
agrees_alike start run tuple one other from rule applies value (more, whole, is) applies' =
    let basis = basis_of start in
    let first = first_stage start in
    let Can = Applies basis in
    let next = after basis in
    let at_end : end_after basis first (run.moves ++ one ∷ []) ≡ end_after basis first (run.moves ++ other ∷ []) =
    end-push Can next first run.moves one
    ∙ ap (λ s. after basis s one) from.end
    ∙ same_after start (stage_at run) one other rule applies applies' value
    ∙ ap (λ s. after basis s other) (sym from.end)
    ∙ sym (end-push Can next first run.moves other) in
    let rest = subst (λ s. IsRunOf basis s more) at_end (run-rest Can next first (run.moves ++ one ∷ []) more whole) in
    let front = run-push Can next first run.moves other from.each (subst (λ s. Applies basis s other) (sym from.end) applies') in (
      more,
      run-append Can next first (run.moves ++ other ∷ []) more front rest,
      ap (λ (s : Stage ℕ). s.tuple) (
          end-append Can next first (run.moves ++ other ∷ []) more
          ∙ ap (λ s. end_after basis s more) (sym at_end)
          ∙ sym (end-append Can next first (run.moves ++ one ∷ []) more)
          ) ∙ is,
    )

-- and so for each row, where the value that is written is there
pub all_alike : (start : Start) (run : Run) (tuple : List ℕ) (one : Move) → IsRunFrom start run → Applies (basis_of start) (stage_at run) one → LeadsTo start (run.moves ++ one ∷ []) tuple → (o : Option ℕ) → o ≡ value_written (basis_of start) one → IfSome o (λ value. (row : ℕ) → value_written (basis_of start) (record { rule = one.rule; master = row }) ≡ Some value → AgreesBy start run tuple (record { rule = one.rule; master = row }))
all_alike start run tuple one from applies leads None is = tt
all_alike start run tuple one from applies leads (Some value) is =
    λ row written. agrees_alike start run tuple one (record { rule = one.rule; master = row }) from refl applies (sym is ∙ sym written) leads
