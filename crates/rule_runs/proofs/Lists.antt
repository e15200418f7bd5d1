-- Facts about lists and options that any crate could use.
use Rattle.std.proofs.Common.{◌≡◌, ℕ, zero, suc, ◌+◌, ◌<◌, List, [], ◌∷◌, ◌++◌, length, get_or, set, take, map, Option, Some, None, refl, sym, ap, ◌∙◌, subst, ⊎_elim, inl, inr, ◌⊎◌, arith}
use Rattle.std.specs.Prelude.{◌≢◌, IsSomeAnd, IfSome, slice_get}
use Rattle.std.specs.List.{All}
use Rattle.std.proofs.lemmas.Bool.{cases_lt}
use Rattle.std.proofs.lemmas.List.{length-set, get_or-set_same, get_or-set_other, take_more, take_more_set, map-append}
use Rattle.std.proofs.lemmas.List.Elements.{All-head, All-tail}
use Rattle.std.proofs.lemmas.Option.{slice_get-get_or, slice_get_past, slice_get_within, get_or_from_slice_get}

-- the value of which a fact holds
pub value_of : {X : Type 0} (o : Option X) (P : X → Type 0) → IsSomeAnd o P → (x : X) × (o ≡ Some x) × P x
value_of None P fact = absurd fact
value_of (Some x) P fact = (x, refl, fact)

-- and back
pub IsSomeAnd-from : {X : Type 0} (o : Option X) (P : X → Type 0) (x : X) → o ≡ Some x → P x → IsSomeAnd o P
IsSomeAnd-from o P x is fact = rw is fact

-- what holds of each element holds of the element at a place
pub All-at : {X : Type 0} (P : X → Type 0) (xs : List X) (k : ℕ) (x : X) → All P xs → slice_get xs k ≡ Some x → P x
All-at P xs k x all there = subst P (get_or_from_slice_get xs k x x there) (all k x (slice_get_within xs k x there))

-- functions that agree on the elements give the same list
pub map-same : {X Y : Type 0} (P : X → Type 0) (f g : X → Y) (xs : List X) → ((x : X) → P x → f x ≡ g x) → All P xs → map f xs ≡ map g xs
map-same P f g [] same all = refl
map-same P f g (x ∷ xs) same all =
    let head = same x (All-head P x xs all) in
    let tail = map-same P f g xs same (All-tail P x xs all) in
    cc

-- an element is there, or the place is past the end
pub slice_get-either : {X : Type 0} (xs : List X) (k : ℕ) → ((x : X) × (slice_get xs k ≡ Some x)) ⊎ (slice_get xs k ≡ None)
slice_get-either [] k = inr refl
slice_get-either (x ∷ xs) zero = inl (x, refl)
slice_get-either (x ∷ xs) (suc k) = slice_get-either xs k

pub slice_get-set_same : {X : Type 0} (xs : List X) (i : ℕ) (v : X) → i < length xs → slice_get (set xs i v) i ≡ Some v
slice_get-set_same xs i v within =
    slice_get-get_or (set xs i v) i v (omega (arith, length-set xs i v)) ∙ ap Some (get_or-set_same xs i v v within)

pub slice_get-set_other : {X : Type 0} (xs : List X) (i k : ℕ) (v : X) → k ≢ i → slice_get (set xs i v) k ≡ slice_get xs k
slice_get-set_other xs i k v other =
    ⊎_elim
    (λ within. slice_get-get_or (set xs i v) k v (omega (arith, length-set xs i v)) ∙ ap Some (get_or-set_other xs i k v v other) ∙ sym (slice_get-get_or xs k v within))
    (λ past. slice_get_past (set xs i v) k (omega (arith, length-set xs i v)) ∙ sym (slice_get_past xs k past))
    (cases_lt k (length xs))

-- lists are one where they have the same elements at each place
pub same_elements : {X : Type 0} (xs ys : List X) → ((k : ℕ) → slice_get xs k ≡ slice_get ys k) → xs ≡ ys
same_elements [] [] same = refl
same_elements [] (y ∷ ys) same = let e = same 0 in cc
same_elements (x ∷ xs) [] same = let e = same 0 in cc
same_elements (x ∷ xs) (y ∷ ys) same =
    let head = same 0 in
    let tail = same_elements xs ys (λ k. same (suc k)) in
    cc

-- one more value is gathered
pub gathered_more : (tuple columns room : List ℕ) (k : ℕ) → k < length columns → k < length room → get_or columns k 0 < length tuple → map Some (take k room) ≡ map (slice_get tuple) (take k columns) → map Some (take (k + 1) (set room k (get_or tuple (get_or columns k 0) 0))) ≡ map (slice_get tuple) (take (k + 1) columns)
gathered_more tuple columns room k in_columns in_room in_tuple so_far =
    let v = get_or tuple (get_or columns k 0) 0 in
    ap (map Some) (take_more_set room k v in_room)
    ∙ map-append Some (take k room) (v ∷ [])
    ∙ ap (λ front. front ++ Some v ∷ []) so_far
    ∙ ap (λ o. map (slice_get tuple) (take k columns) ++ o ∷ []) (sym (slice_get-get_or tuple (get_or columns k 0) 0 in_tuple))
    ∙ sym (map-append (slice_get tuple) (take k columns) (get_or columns k 0 ∷ []))
    ∙ ap (map (slice_get tuple)) (sym (take_more columns k 0 in_columns))

-- what holds of each element holds of the one at a place, if it is there
pub IfSome-at : {X : Type 0} (P : X → Type 0) (xs : List X) (k : ℕ) → All P xs → IfSome (slice_get xs k) P
IfSome-at P xs k all =
    ⊎_elim
    (λ (x, is). subst (λ o. IfSome o P) (sym is) (All-at P xs k x all is))
    (λ none. subst (λ o. IfSome o P) (sym none) tt)
    (slice_get-either xs k)
