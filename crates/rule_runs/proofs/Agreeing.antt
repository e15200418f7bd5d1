-- When all maximal runs end alike. For each attribute that isn't validated yet there is a closure, a run after which
-- nothing applies but moves with this attribute as target. If all that the closures validate, and all that could still
-- be written after them, has the values of one full run, then every maximal run ends as that one does.
use Rattle.std.proofs.Common.{◌≡◌, ℕ, Bool, true, false, List, [], ◌∷◌, sym, ap, ◌∙◌, ⊎_elim}
use Rattle.std.specs.Prelude.{◌≢◌}
use Rattle.std.proofs.lemmas.Bool.{cases_Bool, cases_eq, both_ways}
use Rattle.rule_runs.specs.Runs.{IsRun, end_of, IsMaximal}
use Rattle.rule_runs.proofs.Extending as ext
use Rattle.rule_runs.proofs.Extending.{AreMoves}

module _
    {Stage Move W : Type 0} (Applies : Stage → Move → Type 0) (after : Stage → Move → Stage)
    (has : Stage → ℕ → Bool) (value_at : Stage → ℕ → W) (target : Move → ℕ) (written : Move → W)
  where
    -- a closure without the attribute b, whose values and whose open moves agree with a full run's end
    pub record Closes (start full : Stage) (b : ℕ) (moves : List Move) : Type 0 where
      pub run : IsRun Applies after start moves
      pub out : has (end_of Applies after start moves) b ≡ false
      pub others : (m : Move) → Applies (end_of Applies after start moves) m → target m ≡ b
      pub agrees : (a : ℕ) → has (end_of Applies after start moves) a ≡ true → value_at (end_of Applies after start moves) a ≡ value_at full a
      pub writes : (m : Move) → Applies (end_of Applies after start moves) m → written m ≡ value_at full (target m)

    -- there is one for each attribute that a move may still validate
    abbrev pub AllClosed : Stage → Stage → (ℕ → Type 0) → Type 0
    AllClosed start full InRange = (b : ℕ) → InRange b → has start b ≡ false → (moves : List Move) × Closes start full b moves

module _
    {Stage Move W : Type 0} (Applies : Stage → Move → Type 0) (after : Stage → Move → Stage)
    (has : Stage → ℕ → Bool) (value_at : Stage → ℕ → W) (target : Move → ℕ) (written : Move → W)
    (Good : Stage → Type 0) (moves_are : AreMoves Applies after has value_at target written Good)
    (InRange : ℕ → Type 0) (within : (s : Stage) (m : Move) → Good s → Applies s m → InRange (target m))
    (start : Stage) (good_start : Good start)
    (fulls : List Move) (full : IsMaximal Applies after start fulls)
    (closed : AllClosed Applies after has value_at target written start (end_of Applies after start fulls) InRange)
  where
    abbrev last : Stage
    last = end_of Applies after start fulls

    abbrev Reaches : Stage → Stage → Type 0
    Reaches s v = ext.Extends Applies after has value_at target written s v

    -- the end of the closure without b
    abbrev closure : (b : ℕ) → InRange b → has start b ≡ false → Stage
    closure b in_range out = end_of Applies after start (closed b in_range out).0

    -- what holds along each run: its values are the full run's, and each closure has what the run has, unless it validated the
    -- closure's attribute
    record Agrees (s : Stage) : Type 0 where
      good : Good s
      values : (a : ℕ) → has s a ≡ true → value_at s a ≡ value_at last a
      inside : (b : ℕ) (in_range : InRange b) (out : has start b ≡ false) → has s b ≡ false → Reaches s (closure b in_range out)
      grown : Reaches start s

    agrees-start : Agrees start
    agrees-start = record {
      good = good_start;
      values = λ a h. sym (ext.run-extends Applies after has value_at target written Good moves_are start fulls good_start full.run a h).1;
      inside = λ b in_range out _. ext.run-extends Applies after has value_at target written Good moves_are start (closed b in_range out).0 good_start (closed b in_range out).1.run;
      grown = ext.Extends-refl Applies after has value_at target written Good moves_are start;
    }

    -- a move that applies at a stage that agrees writes the full run's value, since it still applies at the closure without its target
    writes-full : (s : Stage) (m : Move) → Agrees s → Applies s m → written m ≡ value_at last (target m)
    writes-full s m agrees applies =
        let fresh = moves_are.fresh s m applies in
        let in_range = within s m agrees.good applies in
        let out = ext.not_yet Applies after has value_at target written Good moves_are start s (target m) agrees.grown fresh in
        let (moves, closes) = closed (target m) in_range out in
        closes.writes m (moves_are.lift s (closure (target m) in_range out) m (agrees.inside (target m) in_range out fresh) applies closes.out)

    agrees-step : (s : Stage) (m : Move) → Agrees s → Applies s m → Agrees (after s m)
    agrees-step s m agrees applies =
        let writes = writes-full s m agrees applies in
        record {
          good = moves_are.good s m agrees.good applies;
          values = λ a h.
              ⊎_elim
              (λ e. ap (value_at (after s m)) e ∙ moves_are.value_target s m agrees.good applies ∙ writes ∙ ap (value_at last) (sym e))
              (λ other. moves_are.value_other s m a agrees.good applies other ∙ agrees.values a (sym (moves_are.has_other s m a agrees.good applies other) ∙ h))
              (cases_eq a (target m));
          inside = λ b in_range out left.
              let closes = (closed b in_range out).1 in
              let c = closure b in_range out in
              let other : b ≢ target m = λ e. both_ways (has (after s m) b) left (ap (has (after s m)) e ∙ moves_are.has_target s m agrees.good applies) in
              let before = sym (moves_are.has_other s m b agrees.good applies other) ∙ left in
              let reaches = agrees.inside b in_range out before in
              let there : has c (target m) ≡ true = ⊎_elim (λ yes. yes) (λ no. absurd (other (sym (closes.others m (moves_are.lift s c m reaches applies no))))) (cases_Bool (has c (target m))) in
              ext.extends-step Applies after has value_at target written Good moves_are s c m agrees.good applies reaches there (closes.agrees (target m) there ∙ sym writes);
          grown = ext.Extends-trans Applies after has value_at target written Good moves_are start s (after s m) agrees.grown (ext.step-extends Applies after has value_at target written Good moves_are s m agrees.good applies);
        }

    agrees-run : (s : Stage) (ms : List Move) → Agrees s → IsRun Applies after s ms → Agrees (end_of Applies after s ms)
    agrees-run s [] agrees run = agrees
    agrees-run s (m ∷ ms) agrees (applies, run) = agrees-run (after s m) ms (agrees-step s m agrees applies) run

    -- every maximal run ends with the full run's values, and has validated the same attributes
    pub ends-alike : (ms : List Move) → IsMaximal Applies after start ms → (a : ℕ) → (has (end_of Applies after start ms) a ≡ has last a) × (value_at (end_of Applies after start ms) a ≡ value_at last a)
    ends-alike ms one a =
        let s = end_of Applies after start ms in
        let agrees = agrees-run start ms agrees-start one.run in
        let one_in = ext.contained Applies after has value_at target written Good moves_are start last ms good_start one.run (ext.run-extends Applies after has value_at target written Good moves_are start fulls good_start full.run) full.maximal (λ b h _. sym (agrees.values b h)) in
        let full_in = ext.contained Applies after has value_at target written Good moves_are start s fulls good_start full.run (ext.run-extends Applies after has value_at target written Good moves_are start ms good_start one.run) one.maximal (λ b _ h. agrees.values b h) in
        let same = ext.same-truth Applies after has value_at target written Good moves_are (has s a) (has last a) (λ h. (one_in a h).0) (λ h. (full_in a h).0) in (
          same,
          ⊎_elim
              (λ yes. agrees.values a yes)
              (λ no.
              ext.run-outside Applies after has value_at target written Good moves_are start ms a good_start one.run no
              ∙ sym (ext.run-outside Applies after has value_at target written Good moves_are start fulls a good_start full.run (sym same ∙ no)))
              (cases_Bool (has s a)),
        )
