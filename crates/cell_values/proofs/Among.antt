-- Whether a text is among others.
use Rattle.std.proofs.Common.{inl, inr, ◌≡◌, ℕ, true, false, List, get_or, Some, Contains, refl, sym, ap, ◌∙◌, subst}
use Rattle.std.specs.Str.{bytes_eq}
use Rattle.std.proofs.lemmas.Bool.{cases_Bool, false≢true}
use Rattle.std.proofs.lemmas.List.Folds.{list_any_at, Any-from_list_any}
use Rattle.std.proofs.lemmas.Slice.Eq.{bytes_eq-Decides}
use Rattle.std.proofs.lemmas.Option.{slice_get-get_or, slice_get_within, get_or_from_slice_get}
use Rattle.text_lists.specs.Repeats.{is_among}
use Rattle.value_pool.specs.Pool.{HasId, IsNew}

pub bytes_same : (text : List ℕ) → bytes_eq text text ≡ true
bytes_same text = (bytes_eq-Decides text text).1 refl

pub among_if_Contains : (texts : List (List ℕ)) (text : List ℕ) → Contains texts text → is_among bytes_eq texts text ≡ true
among_if_Contains texts text (k, within, is) = list_any_at (λ y. bytes_eq y text) texts k text within ((bytes_eq-Decides _ _).1 is)

pub Contains_if_among : (texts : List (List ℕ)) (text : List ℕ) → is_among bytes_eq texts text ≡ true → Contains texts text
Contains_if_among texts text among =
    let (k, y, within, is, same) = Any-from_list_any (λ y. bytes_eq y text) texts among in
    let y-is : y ≡ text = (bytes_eq-Decides y text).0 same in
    (k, within, subst (λ (d : List ℕ). get_or texts k d ≡ d) y-is is)

pub not_among : (texts : List (List ℕ)) (text : List ℕ) → ¬ Contains texts text → is_among bytes_eq texts text ≡ false
not_among texts text absent = elim (cases_Bool (is_among bytes_eq texts text)) [
  | inl among ↦ absurd (absent (Contains_if_among texts text among))
  | inr not ↦ not
]

pub absent_if_not : (texts : List (List ℕ)) (text : List ℕ) → is_among bytes_eq texts text ≡ false → ¬ Contains texts text
absent_if_not texts text not there = false≢true (sym not ∙ among_if_Contains texts text there)

-- ---- by its id

pub Contains_if_HasId : (texts : List (List ℕ)) (text : List ℕ) (id : ℕ) → HasId texts text id → Contains texts text
Contains_if_HasId texts text id has = (id, slice_get_within texts id text has, get_or_from_slice_get texts id text text has)

pub HasId_if_Contains : (texts : List (List ℕ)) (text : List ℕ) → Contains texts text → (id : ℕ) × HasId texts text id
HasId_if_Contains texts text (k, within, is) = (k, slice_get-get_or texts k text within ∙ ap Some is)

pub absent_if_IsNew : (texts : List (List ℕ)) (text : List ℕ) → IsNew texts text → ¬ Contains texts text
absent_if_IsNew texts text new there = let (id, has) = HasId_if_Contains texts text there in new id has
