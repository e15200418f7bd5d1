-- What is told of places, and what one more text makes of them.
use Rattle.std.proofs.Common.{◌≡◌, ℕ, zero, suc, ◌<◌, Bool, true, false, true≢false, cond, List, [], ◌∷◌, ◌++◌, length, slice_get, ◌⊎◌, inl, inr, ⊎_elim, Option, Some, None, IfSome, IfNone, refl, sym, ap, ◌∙◌, subst}
use Rattle.std.specs.Map.{update}
use Rattle.std.specs.Str.{bytes_eq}
use Rattle.std.proofs.lemmas.Option.{none-some, same_Some, slice_get_within}
use Rattle.std.proofs.lemmas.Slice.Eq.{bytes_eq-Decides}
use Rattle.value_pool.specs.Pool.{HasId, IsNew, HaveOneId}
use Rattle.cell_values.specs.Places.{ArePlaces}

-- ---- what is told

module _ (texts : List (List ℕ)) (text : List ℕ) (place : List ℕ → Option ℕ) (are : ArePlaces texts place) where
  pub told-found : (answer : Option ℕ) → answer ≡ place text → IfSome answer (HasId texts text)
  told-found answer is = subst (λ (a : Option ℕ). IfSome a (HasId texts text)) (sym is) (are.found text)

  pub told-within : (answer : Option ℕ) → answer ≡ place text → IfSome answer (λ id. id < length texts)
  told-within None is = tt
  told-within (Some id) is = slice_get_within texts id text (told-found (Some id) is)

  pub told-absent : (answer : Option ℕ) → answer ≡ place text → IfNone answer (IsNew texts text)
  told-absent answer is = subst (λ (a : Option ℕ). IfNone a (IsNew texts text)) (sym is) (are.absent text)

-- ---- no text

no-text : (text : List ℕ) → IsNew [] text
no-text text id has = none-some text has

pub ArePlaces-none : (place : List ℕ → Option ℕ) → ((text : List ℕ) → place text ≡ None) → ArePlaces [] place
ArePlaces-none place none = record {
  distinct = λ text one other at also. absurd (none-some text at);
  found = λ text. subst (λ (a : Option ℕ). IfSome a (HasId [] text)) (sym (none text)) tt;
  absent = λ text. subst (λ (a : Option ℕ). IfNone a (IsNew [] text)) (sym (none text)) (no-text text);
}

-- ---- one more text

HasId-before : (texts : List (List ℕ)) (text other : List ℕ) (id : ℕ) → HasId texts other id → HasId (texts ++ text ∷ []) other id
HasId-before [] text other id has = absurd (none-some other has)
HasId-before (t ∷ ts) text other zero has = has
HasId-before (t ∷ ts) text other (suc id) has = HasId-before ts text other id has

HasId-last : (texts : List (List ℕ)) (text : List ℕ) → HasId (texts ++ text ∷ []) text (length texts)
HasId-last [] text = refl
HasId-last (t ∷ ts) text = HasId-last ts text

-- what stands among the texts and one more stood there, or is that one
HasId-more : (texts : List (List ℕ)) (text other : List ℕ) (id : ℕ) → HasId (texts ++ text ∷ []) other id → HasId texts other id ⊎ ((id ≡ length texts) × (text ≡ other))
HasId-more [] text other zero has = inr (refl, same_Some text other has)
HasId-more [] text other (suc id) has = absurd (none-some other has)
HasId-more (t ∷ ts) text other zero has = inl has
HasId-more (t ∷ ts) text other (suc id) has = ⊎_elim inl (λ last. inr (ap suc last.0, last.1)) (HasId-more ts text other id has)

module _ (texts : List (List ℕ)) (text : List ℕ) (new : IsNew texts text) where
  HaveOneId-more : HaveOneId texts → HaveOneId (texts ++ text ∷ [])
  HaveOneId-more distinct other one two at also =
      ⊎_elim
      (λ at. ⊎_elim (distinct other one two at) (λ last. absurd (new one (subst (λ (t : List ℕ). HasId texts t one) (sym last.1) at))) (HasId-more texts text other two also))
      (λ last. ⊎_elim (λ also. absurd (new two (subst (λ (t : List ℕ). HasId texts t two) (sym last.1) also))) (λ also. last.0 ∙ sym also.0) (HasId-more texts text other two also))
      (HasId-more texts text other one at)

  IsNew-more : (other : List ℕ) → bytes_eq text other ≡ false → IsNew texts other → IsNew (texts ++ text ∷ []) other
  IsNew-more other apart absent id has =
      ⊎_elim (absent id) (λ last. true≢false (sym ((bytes_eq-Decides text other).1 last.1) ∙ apart)) (HasId-more texts text other id has)

  module _ (old place : List ℕ → Option ℕ) (are : ArePlaces texts old) (put : (other : List ℕ) → place other ≡ update bytes_eq old text (Some (length texts)) other) where
    at-text : (other : List ℕ) → bytes_eq text other ≡ true → place other ≡ Some (length texts)
    at-text other same = put other ∙ ap (λ (b : Bool). cond b (Some (length texts)) (old other)) same

    at-other : (other : List ℕ) → bytes_eq text other ≡ false → place other ≡ old other
    at-other other apart = put other ∙ ap (λ (b : Bool). cond b (Some (length texts)) (old other)) apart

    found : (other : List ℕ) → IfSome (place other) (HasId (texts ++ text ∷ []) other)
    found other = by (bytes_eq text other) refl
      where
        before : (answer : Option ℕ) → IfSome answer (HasId texts other) → IfSome answer (HasId (texts ++ text ∷ []) other)
        before None is = tt
        before (Some id) is = HasId-before texts text other id is

        by : (b : Bool) → bytes_eq text other ≡ b → IfSome (place other) (HasId (texts ++ text ∷ []) other)
        by true same = subst (λ (a : Option ℕ). IfSome a (HasId (texts ++ text ∷ []) other)) (sym (at-text other same)) (subst (λ (t : List ℕ). HasId (texts ++ text ∷ []) t (length texts)) ((bytes_eq-Decides text other).0 same) (HasId-last texts text))
        by false apart = subst (λ (a : Option ℕ). IfSome a (HasId (texts ++ text ∷ []) other)) (sym (at-other other apart)) (before (old other) (are.found other))

    absent : (other : List ℕ) → IfNone (place other) (IsNew (texts ++ text ∷ []) other)
    absent other = by (bytes_eq text other) refl
      where
        before : bytes_eq text other ≡ false → (answer : Option ℕ) → IfNone answer (IsNew texts other) → IfNone answer (IsNew (texts ++ text ∷ []) other)
        before apart None is = IsNew-more other apart is
        before apart (Some id) is = tt

        by : (b : Bool) → bytes_eq text other ≡ b → IfNone (place other) (IsNew (texts ++ text ∷ []) other)
        by true same = subst (λ (a : Option ℕ). IfNone a (IsNew (texts ++ text ∷ []) other)) (sym (at-text other same)) tt
        by false apart = subst (λ (a : Option ℕ). IfNone a (IsNew (texts ++ text ∷ []) other)) (sym (at-other other apart)) (before apart (old other) (are.absent other))

    pub ArePlaces-more : ArePlaces (texts ++ text ∷ []) place
    ArePlaces-more = record { distinct = HaveOneId-more are.distinct; found = found; absent = absent }
