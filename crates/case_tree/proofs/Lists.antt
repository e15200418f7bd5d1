-- Facts about lists and options that any crate could use.
use Rattle.std.proofs.Common.{◌≡◌, ℕ, ◌+◌, ◌<◌, List, ◌++◌, length, get_or, take, ◌≤◌, ◌↔◌, Option, Some, None, refl, sym, subst, ◌∙◌, arith, length-append}
use Rattle.std.specs.Prelude.{IsSomeAnd, slice_get}
use Rattle.std.specs.List.{All, Any}
use Rattle.std.proofs.lemmas.Option.{slice_get-get_or, slice_get_past, slice_get_within, get_or_from_slice_get}
use Rattle.std.proofs.lemmas.List.{get_or_append_left, get_or-append-add, length-take, get_or-take, take_more}
use Rattle.std.proofs.lemmas.List.Quantifiers.{Any-push}

-- what holds of each element of two lists in a row holds of each of the first
pub All-left : {X : Type 0} (P : X → Type 0) (xs ys : List X) → All P (xs ++ ys) → All P xs
All-left P xs ys all k d in_range =
    subst P (get_or_append_left xs ys d k in_range) (all k d (omega (arith, length-append xs ys)))

-- and of each of the second
pub All-right : {X : Type 0} (P : X → Type 0) (xs ys : List X) → All P (xs ++ ys) → All P ys
All-right P xs ys all k d in_range =
    subst P (get_or-append-add xs ys k d) (all (length xs + k) d (omega (arith, length-append xs ys)))

-- the value of which a fact holds
pub value_of : {X : Type 0} (o : Option X) (P : X → Type 0) → IsSomeAnd o P → (x : X) × (o ≡ Some x) × P x
value_of None P fact = absurd fact
value_of (Some x) P fact = (x, refl, fact)

-- and back
pub IsSomeAnd-from : {X : Type 0} (o : Option X) (P : X → Type 0) (x : X) → o ≡ Some x → P x → IsSomeAnd o P
IsSomeAnd-from o P x is fact = rw is fact

-- a fact of the element at a place
pub IsSomeAnd-get_or : {X : Type 0} (P : X → Type 0) (xs : List X) (i : ℕ) (d : X) → i < length xs → IsSomeAnd (slice_get xs i) P ↔ P (get_or xs i d)
IsSomeAnd-get_or P xs i d in_range =
    let there = slice_get-get_or xs i d in_range in
    (λ fact. subst (λ o. IsSomeAnd o P) there fact, λ fact. IsSomeAnd-from (slice_get xs i) P _ there fact)

-- of which there is none past the end
pub IsSomeAnd-past : {X : Type 0} (P : X → Type 0) (xs : List X) (i : ℕ) → length xs ≤ i → IsSomeAnd (slice_get xs i) P → ⊥
IsSomeAnd-past P xs i past fact = subst (λ o. IsSomeAnd o P) (slice_get_past xs i past) fact

-- what holds of each element holds of the element at a place
pub All-at : {X : Type 0} (P : X → Type 0) (xs : List X) (k : ℕ) (x : X) → All P xs → slice_get xs k ≡ Some x → P x
All-at P xs k x all there = subst P (get_or_from_slice_get xs k x x there) (all k x (slice_get_within xs k x there))

-- an element of a front of the list is an element of a longer front
pub Any-more : {X : Type 0} (P : X → Type 0) (xs : List X) (i : ℕ) → i < length xs → Any P (take i xs) → Any P (take (i + 1) xs)
Any-more P xs i in_range (k, x, within, is, fact) =
    let short = length-take i xs in
    let long = length-take (i + 1) xs in
    (k, x, omega arith, get_or-take (i + 1) xs k x (omega arith) ∙ sym (get_or-take i xs k x (omega arith)) ∙ is, fact)

-- and so is the element that the longer front adds
pub Any-here : {X : Type 0} (P : X → Type 0) (xs : List X) (i : ℕ) (d : X) → i < length xs → P (get_or xs i d) → Any P (take (i + 1) xs)
Any-here P xs i d in_range fact =
    subst (Any P) (sym (take_more xs i d in_range)) (Any-push P (take i xs) (get_or xs i d) fact)

-- an element doesn't have what each element lacks
pub Any-none : {X : Type 0} (P : X → Type 0) (xs : List X) → All (λ x. ¬ P x) xs → Any P xs → ⊥
Any-none P xs all (k, x, in_range, is, fact) = subst (λ y. ¬ P y) is (all k x in_range) fact
