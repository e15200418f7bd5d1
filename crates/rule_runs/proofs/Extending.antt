-- How a run grows, over any moves that each validate one attribute: what is validated stays so with its value, what
-- isn't keeps its value, and a move still applies wherever what it reads is validated with the same values.
use Rattle.std.proofs.Common.{◌≡◌, ℕ, Bool, true, false, List, [], ◌∷◌, refl, sym, ap, ◌∙◌, ⊎_elim}
use Rattle.std.specs.Prelude.{◌≢◌}
use Rattle.std.proofs.lemmas.Bool.{cases_Bool, cases_eq, both_ways}
use Rattle.rule_runs.specs.Runs.{IsRun, end_of, IsLast, IsMaximal}

module _
    {Stage Move W : Type 0} (Applies : Stage → Move → Type 0) (after : Stage → Move → Stage)
    (has : Stage → ℕ → Bool) (value_at : Stage → ℕ → W) (target : Move → ℕ) (written : Move → W)
  where
    -- what is validated at the one stage is validated at the other, with the same value
    abbrev pub Extends : Stage → Stage → Type 0
    Extends one other = (a : ℕ) → has one a ≡ true → (has other a ≡ true) × (value_at other a ≡ value_at one a)

    -- what a move does, and that it reads validated attributes alone
    pub record AreMoves (Good : Stage → Type 0) : Type 0 where
      pub good : (s : Stage) (m : Move) → Good s → Applies s m → Good (after s m)
      pub fresh : (s : Stage) (m : Move) → Applies s m → has s (target m) ≡ false
      pub has_target : (s : Stage) (m : Move) → Good s → Applies s m → has (after s m) (target m) ≡ true
      pub has_other : (s : Stage) (m : Move) (a : ℕ) → Good s → Applies s m → a ≢ target m → has (after s m) a ≡ has s a
      pub value_target : (s : Stage) (m : Move) → Good s → Applies s m → value_at (after s m) (target m) ≡ written m
      pub value_other : (s : Stage) (m : Move) (a : ℕ) → Good s → Applies s m → a ≢ target m → value_at (after s m) a ≡ value_at s a
      pub lift : (s v : Stage) (m : Move) → Extends s v → Applies s m → has v (target m) ≡ false → Applies v m

module _
    {Stage Move W : Type 0} (Applies : Stage → Move → Type 0) (after : Stage → Move → Stage)
    (has : Stage → ℕ → Bool) (value_at : Stage → ℕ → W) (target : Move → ℕ) (written : Move → W)
    (Good : Stage → Type 0) (moves_are : AreMoves Applies after has value_at target written Good)
  where
    abbrev Reaches : Stage → Stage → Type 0
    Reaches s v = Extends Applies after has value_at target written s v

    pub Extends-refl : (s : Stage) → Reaches s s
    Extends-refl s a h = (h, refl)

    pub Extends-trans : (s u v : Stage) → Reaches s u → Reaches u v → Reaches s v
    Extends-trans s u v first second a h =
        let (there, same) = first a h in
        let (further, alike) = second a there in
        (further, alike ∙ same)

    -- an attribute that is validated before a move isn't its target
    before-target : (s : Stage) (m : Move) (a : ℕ) → Applies s m → has s a ≡ true → a ≢ target m
    before-target s m a applies h e = both_ways (has s a) (ap (has s) e ∙ moves_are.fresh s m applies) h

    pub step-extends : (s : Stage) (m : Move) → Good s → Applies s m → Reaches s (after s m)
    step-extends s m good applies a h =
        let other = before-target s m a applies h in
        (moves_are.has_other s m a good applies other ∙ h, moves_are.value_other s m a good applies other)

    pub run-extends : (s : Stage) (ms : List Move) → Good s → IsRun Applies after s ms → Reaches s (end_of Applies after s ms)
    run-extends s [] good run = Extends-refl s
    run-extends s (m ∷ ms) good (applies, run) =
        Extends-trans s (after s m) (end_of Applies after (after s m) ms) (step-extends s m good applies) (run-extends (after s m) ms (moves_are.good s m good applies) run)

    pub run-good : (s : Stage) (ms : List Move) → Good s → IsRun Applies after s ms → Good (end_of Applies after s ms)
    run-good s [] good run = good
    run-good s (m ∷ ms) good (applies, run) = run-good (after s m) ms (moves_are.good s m good applies) run

    -- what isn't validated at the end wasn't at the start
    pub not_yet : (s v : Stage) (a : ℕ) → Reaches s v → has v a ≡ false → has s a ≡ false
    not_yet s v a reaches out =
        ⊎_elim (λ yes. absurd (both_ways (has v a) out (reaches a yes).0)) (λ no. no) (cases_Bool (has s a))

    -- a run changes values only where it validates them
    pub run-outside : (s : Stage) (ms : List Move) (a : ℕ) → Good s → IsRun Applies after s ms → has (end_of Applies after s ms) a ≡ false → value_at (end_of Applies after s ms) a ≡ value_at s a
    run-outside s [] a good run out = refl
    run-outside s (m ∷ ms) a good (applies, run) out =
        let good' = moves_are.good s m good applies in
        let before = not_yet (after s m) (end_of Applies after (after s m) ms) a (run-extends (after s m) ms good' run) out in
        let other : a ≢ target m = λ e. both_ways (has (after s m) a) before (ap (has (after s m)) e ∙ moves_are.has_target s m good applies) in
        run-outside (after s m) ms a good' run out ∙ moves_are.value_other s m a good applies other

    -- a stage that has a move's target with the written value has all that the move leads to
    pub extends-step : (s v : Stage) (m : Move) → Good s → Applies s m → Reaches s v → has v (target m) ≡ true → value_at v (target m) ≡ written m → Reaches (after s m) v
    extends-step s v m good applies reaches there same a h =
        ⊎_elim
        (λ e. (ap (has v) e ∙ there, ap (value_at v) e ∙ same ∙ sym (moves_are.value_target s m good applies) ∙ ap (value_at (after s m)) (sym e)))
        (λ other.
        let (further, alike) = reaches a (sym (moves_are.has_other s m a good applies other) ∙ h) in
        (further, alike ∙ sym (moves_are.value_other s m a good applies other)))
        (cases_eq a (target m))

    -- A run stays within a stage at which no move applies, if that stage has what the run began with, and the run's values
    -- where both have validated them: its first move outside would still apply there.
    pub contained : (s v : Stage) (ms : List Move) → Good s → IsRun Applies after s ms → Reaches s v → IsLast Applies after v → ((a : ℕ) → has (end_of Applies after s ms) a ≡ true → has v a ≡ true → value_at v a ≡ value_at (end_of Applies after s ms) a) → Reaches (end_of Applies after s ms) v
    contained s v [] good run reaches last agrees = reaches
    contained s v (m ∷ ms) good (applies, run) reaches last agrees =
        let good' = moves_are.good s m good applies in
        let (at_end, kept) = run-extends (after s m) ms good' run (target m) (moves_are.has_target s m good applies) in
        let there : has v (target m) ≡ true = ⊎_elim (λ yes. yes) (λ no. absurd (last m (moves_are.lift s v m reaches applies no))) (cases_Bool (has v (target m))) in
        let same = agrees (target m) at_end there ∙ kept ∙ moves_are.value_target s m good applies in
        contained (after s m) v ms good' run (extends-step s v m good applies reaches there same) last agrees

    -- two truth values are one where each implies the other
    pub same-truth : (b c : Bool) → (b ≡ true → c ≡ true) → (c ≡ true → b ≡ true) → b ≡ c
    same-truth true c there back = sym (there refl)
    same-truth false true there back = back refl
    same-truth false false there back = refl

    -- Two maximal runs from one stage that end with the same values have validated the same attributes.
    pub same-validated : (s : Stage) (ms ns : List Move) → Good s → IsMaximal Applies after s ms → IsMaximal Applies after s ns → ((a : ℕ) → value_at (end_of Applies after s ms) a ≡ value_at (end_of Applies after s ns) a) → (a : ℕ) → has (end_of Applies after s ms) a ≡ has (end_of Applies after s ns) a
    same-validated s ms ns good one other same a =
        let one_in = contained s (end_of Applies after s ns) ms good one.run (run-extends s ns good other.run) other.maximal (λ b _ _. sym (same b)) in
        let other_in = contained s (end_of Applies after s ms) ns good other.run (run-extends s ms good one.run) one.maximal (λ b _ _. same b) in
        same-truth (has (end_of Applies after s ms) a) (has (end_of Applies after s ns) a) (λ h. (one_in a h).0) (λ h. (other_in a h).0)
