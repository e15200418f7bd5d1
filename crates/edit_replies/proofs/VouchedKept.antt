-- A run writes over nothing that is validated at its start, and what it changes one of its moves validates.
use Rattle.std.proofs.Common.{◌≡◌, ℕ, suc, Bool, true, false, List, [], ◌∷◌, Option, Some, None, inl, inr, refl, sym, ap, ◌∙◌, arith}
use Rattle.std.specs.Prelude.{◌≢◌, ◌||◌, ◌==◌, Any, slice_get, slice_set, option_map}
use Rattle.std.specs.Option.{option_map_or}
use Rattle.std.proofs.lemmas.Bool.{both_ways, cases_eq}
use Rattle.rule_model.specs.declared.edit_rule.EditRule.{EditRule}
use Rattle.rule_runs.specs.declared.moves.Move.{Move}
use Rattle.rule_runs.specs.Moves.{Basis, Stage, IsRunOf, after, correction, end_after, target_of}
use Rattle.rule_runs.proofs.Lists.{slice_get-set_other}
use Rattle.rule_runs.proofs.Moving.{after-is, parts}

or_true : (b : Bool) → (b || true) ≡ true
or_true true = refl
or_true false = refl

module _ {V : Type 0} (basis : Basis V) where
  put-other : (tuple : List V) (target a : ℕ) (value : Option V) → a ≢ target → slice_get (option_map_or (slice_set tuple target) value tuple) a ≡ slice_get tuple a
  put-other tuple target a None other = refl
  put-other tuple target a (Some v) other = slice_get-set_other tuple target a v other

  module _ (s : Stage V) (m : Move) (c : EditRule × List V) (is : correction basis m ≡ Some c) (a : ℕ) where
    -- a move changes its target alone
    step-other : a ≢ c.0.target → slice_get (after basis s m).tuple a ≡ slice_get s.tuple a
    step-other other = ap (λ (t : Stage V). slice_get t.tuple a) (after-is basis s m c is) ∙ put-other s.tuple c.0.target a (slice_get c.1 c.0.source) other

    -- what is validated stays so
    still : s.validated a ≡ true → (after basis s m).validated a ≡ true
    still validated = ap (λ (t : Stage V). t.validated a) (after-is basis s m c is) ∙ ap (λ b. (a == c.0.target) || b) validated ∙ or_true (a == c.0.target)

  pub vouched-kept : (s : Stage V) (ms : List Move) → IsRunOf basis s ms → (a : ℕ) → s.validated a ≡ true → slice_get (end_after basis s ms).tuple a ≡ slice_get s.tuple a
  vouched-kept s [] run a vouched = refl
  vouched-kept s (m ∷ ms) (applies, run) a vouched =
      let (c, is, (ready, same)) = parts basis s m applies in
      let other : a ≢ c.0.target = λ e. both_ways (s.validated a) (ap s.validated e ∙ ready.target) vouched in
      vouched-kept (after basis s m) ms run a (still s m c is a vouched) ∙ step-other s m c is a other

  pub changed-moved : (s : Stage V) (ms : List Move) → IsRunOf basis s ms → (a : ℕ) → slice_get (end_after basis s ms).tuple a ≢ slice_get s.tuple a → Any (λ (m : Move). target_of basis m ≡ Some a) ms
  changed-moved s [] run a changed = absurd (changed refl)
  changed-moved s (m ∷ ms) (applies, run) a changed =
      let (c, is, corrects) = parts basis s m applies in
      elim (cases_eq a c.0.target) [
        | inl same ↦ (0, m, omega arith, refl, ap (λ o. option_map (λ (d : EditRule × List V). d.0.target) o) is ∙ ap Some (sym same))
        | inr other ↦
            let later = changed-moved (after basis s m) ms run a (λ e. changed (e ∙ step-other s m c is a other)) in
            (suc later.0, later.1, omega (arith, later.2), later.3, later.4)
      ]
