-- Literals by their variable and sign, and a list for each of them.
use Rattle.std.proofs.Common.{◌≡◌, ◌≢◌, ℕ, ◌⊎◌, Bool, true, false, not, List, refl, sym, ap, ◌∙◌, inl, inr, ⊎_elim}
use Rattle.std.proofs.lemmas.Bool.{cases_Bool, cases_eq}
use Rattle.case_tree.specs.declared.clauses.Literal.{Literal}
use Rattle.case_search.specs.Places.{list_at, list_of}

-- a literal is its variable and its sign
pub same_literal : (one other : Literal) → one.var ≡ other.var → one.positive ≡ other.positive → one ≡ other
same_literal one other vars signs =
    let by_var : ℕ → Literal = λ v. record { var = v; positive = one.positive } in
    let by_positive : Bool → Literal = λ b. record { var = other.var; positive = b } in
    ap by_var vars ∙ ap by_positive signs

-- one sign is the other or its opposite
pub either_sign : (b c : Bool) → (b ≡ c) ⊎ (b ≡ not c)
either_sign true true = inl refl
either_sign true false = inr refl
either_sign false true = inr refl
either_sign false false = inl refl

pub not_opposite : (b : Bool) → b ≡ not b → ⊥
not_opposite true same = cc
not_opposite false same = cc

pub cases_Literal : (one other : Literal) → (one ≡ other) ⊎ (one ≢ other)
cases_Literal one other =
    ⊎_elim
    (λ vars.
    ⊎_elim
    (λ signs. inl (same_literal one other vars signs))
    (λ signs. inr (λ same. not_opposite other.positive (sym (ap (λ (x : Literal). x.positive) same) ∙ signs)))
    (either_sign one.positive other.positive))
    (λ vars. inr (λ same. vars (ap (λ (x : Literal). x.var) same)))
    (cases_eq one.var other.var)

-- where the list of a positive literal was changed, the others stay
pub others_positive : (positive negative new : List (List ℕ)) (literal : Literal) → literal.positive ≡ true → ((v : ℕ) → v ≢ literal.var → list_at new v ≡ list_at positive v) → (other : Literal) → other ≢ literal → list_of (record { positive = new; negative = negative }) other ≡ list_of (record { positive = positive; negative = negative }) other
others_positive positive negative new literal is_positive stay other differ =
    ⊎_elim
    (λ yes. rw yes (stay other.var (λ same. differ (same_literal other literal same (yes ∙ sym is_positive)))))
    (λ no. rw no refl)
    (cases_Bool other.positive)

-- and where that of a negative one was
pub others_negative : (positive negative new : List (List ℕ)) (literal : Literal) → literal.positive ≡ false → ((v : ℕ) → v ≢ literal.var → list_at new v ≡ list_at negative v) → (other : Literal) → other ≢ literal → list_of (record { positive = positive; negative = new }) other ≡ list_of (record { positive = positive; negative = negative }) other
others_negative positive negative new literal is_negative stay other differ =
    ⊎_elim
    (λ yes. rw yes refl)
    (λ no. rw no (stay other.var (λ same. differ (same_literal other literal same (no ∙ sym is_negative)))))
    (cases_Bool other.positive)
