-- The last live entry on a row, where another entry comes.
use Rattle.std.proofs.Common.{◌≡◌, ℕ, suc, ◌≤◌, inl, inr, true, false, List, [], ◌∷◌, ◌++◌, length, Some, None, slice_get, refl, ◌∙◌, arith}
use Rattle.std.proofs.lemmas.Bool.{cases_eq, eq-eqb, ne_eqb}
use Rattle.std.proofs.lemmas.Option.{slice_get_within}
use Rattle.std.proofs.Math.Bool.{and-false, and-true}
use Rattle.desk_entries.specs.Entries.{Entry, entry_is, is_live, is_on, takes_none}
use Rattle.desk_entries.specs.Kept.{TakeWithin}
use Rattle.desk_entries.specs.Numbers.{last_up_to}
use Rattle.desk_entries.proofs.Numbers.{last-hit, last-miss, last-same, last-without}
use Rattle.desk_entries.proofs.Tied.{entry_is-at, entry_is-new, entry_is-old, live-new, live-old}
use Rattle.desk_state.specs.LeftTexts.{is_live_on}

-- ---- an entry that takes none back

module _ (es : List Entry) (e : Entry) (within : TakeWithin es) (takes : e.takes ≡ None) where
  takes-none : takes_none e ≡ true
  takes-none = rw takes refl

  pub plain-old : (m : ℕ) → suc m ≤ length es → is_live (es ++ e ∷ []) (suc m) ≡ is_live es (suc m)
  plain-old m w = live-old es e m w ∙ (rw takes (and-true (is_live es (suc m))))

  plain-new : is_live (es ++ e ∷ []) (suc (length es)) ≡ true
  plain-new = live-new es e within (rw takes tt) ∙ takes-none

  module _ (t r : ℕ) where
    pub plain-on-old : (m : ℕ) → suc m ≤ length es → is_live_on (es ++ e ∷ []) t r (suc m) ≡ is_live_on es t r (suc m)
    plain-on-old m w = rw (entry_is-old (is_on t r) es e m w, plain-old m w) refl

    -- up to a number that was there before
    pub plain-same : (n : ℕ) → n ≤ length es → last_up_to (is_live_on (es ++ e ∷ []) t r) n ≡ last_up_to (is_live_on es t r) n
    plain-same n w = last-same (is_live_on es t r) (is_live_on (es ++ e ∷ []) t r) n (λ m v. plain-on-old m (omega arith))

    pub plain-own : is_on t r e ≡ true → last_up_to (is_live_on (es ++ e ∷ []) t r) (suc (length es)) ≡ suc (length es)
    plain-own on = last-hit (is_live_on (es ++ e ∷ []) t r) (length es) (rw (entry_is-new (is_on t r) es e, on, plain-new) refl)

    pub plain-other : is_on t r e ≡ false → last_up_to (is_live_on (es ++ e ∷ []) t r) (suc (length es)) ≡ last_up_to (is_live_on es t r) (length es)
    plain-other off = last-miss (is_live_on (es ++ e ∷ []) t r) (length es) (rw (entry_is-new (is_on t r) es e, off) refl) ∙ plain-same (length es) (omega arith)

-- ---- an entry that takes back the one at this place

module _ (es : List Entry) (e : Entry) (within : TakeWithin es) (k : ℕ) (taken : Entry) (takes : e.takes ≡ Some (suc k)) (at : slice_get es k ≡ Some taken) where
  pub place-within : suc k ≤ length es
  place-within = let w = slice_get_within es k taken at in omega arith

  takes-some : takes_none e ≡ false
  takes-some = rw takes refl

  pub taking-gone : is_live (es ++ e ∷ []) (suc k) ≡ false
  taking-gone = live-old es e k place-within ∙ (rw (takes, eq-eqb (suc k) (suc k) refl) (and-false (is_live es (suc k))))

  pub taking-old : (m : ℕ) → suc m ≤ length es → (m ≡ k → ⊥) → is_live (es ++ e ∷ []) (suc m) ≡ is_live es (suc m)
  taking-old m w ne = live-old es e m w ∙ (rw (takes, ne_eqb (suc k) (suc m) (λ x. ne (omega arith))) (and-true (is_live es (suc m))))

  pub taking-new : is_live (es ++ e ∷ []) (suc (length es)) ≡ false
  taking-new = live-new es e within (rw takes place-within) ∙ takes-some

  module _ (t r : ℕ) where
    on-old : (m : ℕ) → suc m ≤ length es → (m ≡ k → ⊥) → is_live_on (es ++ e ∷ []) t r (suc m) ≡ is_live_on es t r (suc m)
    on-old m w ne = rw (entry_is-old (is_on t r) es e m w, taking-old m w ne) refl

    off-old : is_on t r taken ≡ false → (m : ℕ) → m ≡ k → is_live_on (es ++ e ∷ []) t r (suc m) ≡ is_live_on es t r (suc m)
    off-old off m same = rw (same, entry_is-old (is_on t r) es e k place-within, entry_is-at (is_on t r) es k taken at, off) refl

    -- the last one stays up to the entry that is taken back, and everywhere where that isn't on the row
    pub taking-below : (n : ℕ) → n ≤ k → last_up_to (is_live_on (es ++ e ∷ []) t r) n ≡ last_up_to (is_live_on es t r) n
    taking-below n w = let v = place-within in last-same (is_live_on es t r) (is_live_on (es ++ e ∷ []) t r) n (λ m u. on-old m (omega arith) (λ x. omega arith))

    pub taking-other : is_on t r taken ≡ false → (n : ℕ) → n ≤ length es → last_up_to (is_live_on (es ++ e ∷ []) t r) n ≡ last_up_to (is_live_on es t r) n
    taking-other off n w = last-same (is_live_on es t r) (is_live_on (es ++ e ∷ []) t r) n (λ m u. elim (cases_eq m k) [ inl same ↦ off-old off m same | inr ne ↦ on-old m (omega arith) ne ])

    pub taking-not_new : last_up_to (is_live_on (es ++ e ∷ []) t r) (suc (length es)) ≡ last_up_to (is_live_on (es ++ e ∷ []) t r) (length es)
    taking-not_new = last-miss (is_live_on (es ++ e ∷ []) t r) (length es) (rw taking-new (and-false (entry_is (is_on t r) (es ++ e ∷ []) (suc (length es)))))

    -- nobody built on the entry, so it was the last live one on its row, and the one below it is the last now
    pub taking-own : is_on t r taken ≡ true → is_live es (suc k) ≡ true → last_up_to (is_live_on es t r) (length es) ≡ suc k
        → last_up_to (is_live_on (es ++ e ∷ []) t r) (suc (length es)) ≡ last_up_to (is_live_on es t r) k
    taking-own on live last =
        let none : is_live_on (es ++ e ∷ []) t r (suc k) ≡ false = rw taking-gone (and-false (entry_is (is_on t r) (es ++ e ∷ []) (suc k))) in
        taking-not_new ∙ last-without (is_live_on es t r) (is_live_on (es ++ e ∷ []) t r) (length es) k last none on-old
