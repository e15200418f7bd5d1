-- The rows by the slots of their leaders and ids.
use Rattle.std.proofs.Common.{◌≡◌, ◌≢◌, ℕ, ◌<◌, ◌≤◌, ◌+◌, List, length, ap, arith, subst, sym, ⊎_elim}
use Rattle.std.specs.Prelude.{slice_index, slice_set}
use Rattle.std.proofs.lemmas.Bool.{cases_eq}
use Rattle.std.proofs.lemmas.List.{get_or-set_same, get_or-set_other}
use Rattle.dep_search.specs.Classes.{AreSlots, slot}

-- where a slot isn't marked, no place before has the pair
pub slot_new : (ids leaders bases marks : List ℕ) (r s : ℕ) → AreSlots ids leaders bases marks r → s < r → length ids ≤ slice_index marks (slot ids leaders bases r)
    → slice_index ids s ≡ slice_index ids r → slice_index leaders s ≢ slice_index leaders r
slot_new ids leaders bases marks r s all sl unset e = λ g.
    let same : slot ids leaders bases s ≡ slot ids leaders bases r = λ i. slice_index bases (g i) + e i in
    let marked = all.seen s sl in
    omega (arith, marked, unset, ap (slice_index marks) same)

-- what holds of each place before and of the one that is set
pub set_each : (P : ℕ → ℕ → Type 0) (xs : List ℕ) (r first : ℕ) → r < length xs → ((s : ℕ) → s < r → P s (slice_index xs s)) → P r first
    → (s : ℕ) → s < r + 1 → P s (slice_index (slice_set xs r first) s)
set_each P xs r first rl before here s sl =
    ⊎_elim
    (λ (e : s ≡ r). subst (λ k. P k (slice_index (slice_set xs r first) k)) (sym e) (subst (P r) (sym (get_or-set_same xs r first 0 rl)) here))
    (λ (ne : s ≡ r → ⊥). subst (P s) (sym (get_or-set_other xs r s first 0 ne)) (before s (omega (arith, sl, ne))))
    (cases_eq s r)
