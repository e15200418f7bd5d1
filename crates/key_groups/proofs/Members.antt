-- What holds of each item holds in the groups, and how many items they have together.
use Rattle.std.proofs.Common.{◌≡◌, ◌+◌, Bool, true, false, cond, not, List, [], ◌∷◌, ◌++◌, length, map, filter, refl, sym, ap, ◌∙◌, arith}
use Rattle.std.specs.Cmp.{IsEquivalence}
use Rattle.std.specs.List.{All, sum_by}
use Rattle.std.proofs.lemmas.List.{append_assoc, append-nil, length-append}
use Rattle.std.proofs.lemmas.List.Sums.{sum_by-cons}
use Rattle.std.proofs.lemmas.List.Elements.{All-head, All-tail, All-cons, All-nil, All-filter}
use Rattle.key_groups.specs.Groups.{by_key, distinct, group_size, items_of, with_item}
use Rattle.key_groups.proofs.GroupFacts.{by_key-push}

module _ {K : Type 0} (eq : K → K → Bool) (P : K → Type 0) where
  each-distinct : (ks : List K) → All P ks → All P (distinct eq ks)
  each-distinct [] each = All-nil P
  each-distinct (a ∷ ks) each =
      All-cons P a (filter (λ b. not (eq a b)) (distinct eq ks)) (All-head P a ks each)
      (All-filter (λ b. not (eq a b)) P (distinct eq ks) (each-distinct ks (All-tail P a ks each)))

module _ {X Y : Type 0} (P : X → Type 0) (Q : Y → Type 0) (f : X → Y) (so : (x : X) → P x → Q (f x)) where
  each-map : (xs : List X) → All P xs → All Q (map f xs)
  each-map [] each = All-nil Q
  each-map (x ∷ xs) each = All-cons Q (f x) (map f xs) (so x (All-head P x xs each)) (each-map xs (All-tail P x xs each))

module _ {K T : Type 0} (eq : K → K → Bool) (P : K → Type 0) (Q : T → Type 0) where
  abbrev pub IsItem : K × T → Type 0
  IsItem item = P item.0 × Q item.1

  abbrev pub IsGroupOf : K × List T → Type 0
  IsGroupOf group = P group.0 × All Q group.1

  pub each-by_key : (items : List (K × T)) → All IsItem items → All IsGroupOf (by_key eq items)
  each-by_key items each =
      each-map P IsGroupOf (λ key. (key, items_of eq items key))
      (λ key known. (known, each-map IsItem Q (λ item. item.1) (λ item its. its.1) (filter (λ item. eq key item.0) items) (All-filter (λ item. eq key item.0) IsItem items each)))
      (distinct eq (map (λ item. item.0) items))
      (each-distinct eq P (map (λ item. item.0) items) (each-map IsItem P (λ item. item.0) (λ item its. its.0) items each))

-- what holds of the keys alone
module _ {K T : Type 0} (eq : K → K → Bool) (P : K → Type 0) where
  pub each-keyed : (items : List (K × T)) → All (λ item. P item.0) items → All (λ group. P group.0) (by_key eq items)
  each-keyed items each =
      each-map P (λ group. P group.0) (λ key. (key, items_of eq items key)) (λ key known. known) (distinct eq (map (λ item. item.0) items))
      (each-distinct eq P (map (λ item. item.0) items) (each-map (λ item. P item.0) P (λ item. item.0) (λ item its. its) items each))

-- ---- how many items the groups have

module _ {K T : Type 0} (eq : K → K → Bool) where
  size-with_item : (groups : List (K × List T)) (key : K) (item : T) → sum_by group_size (with_item eq groups key item) ≡ sum_by group_size groups + 1
  size-with_item [] key item = refl
  size-with_item (group ∷ groups) key item =
      let rest = size-with_item groups key item in
      let grown : sum_by group_size ((group.0, group.1 ++ item ∷ []) ∷ groups) ≡ sum_by group_size (group ∷ groups) + 1 = omega (arith, sum_by-cons group_size (group.0, group.1 ++ item ∷ []) groups, sum_by-cons group_size group groups, length-append group.1 (item ∷ [])) in
      let later : sum_by group_size (group ∷ with_item eq groups key item) ≡ sum_by group_size (group ∷ groups) + 1 = omega (arith, sum_by-cons group_size group (with_item eq groups key item), sum_by-cons group_size group groups, rest) in
      elim (eq key group.0) as (λ c. sum_by group_size (cond c ((group.0, group.1 ++ item ∷ []) ∷ groups) (group ∷ with_item eq groups key item)) ≡ sum_by group_size (group ∷ groups) + 1) [
        | true ↦ grown
        | false ↦ later
      ]

  module _ (laws : IsEquivalence eq) where
    size-from : (more items : List (K × T)) → sum_by group_size (by_key eq (items ++ more)) ≡ sum_by group_size (by_key eq items) + length more
    size-from [] items = ap (λ l. sum_by group_size (by_key eq l)) (append-nil items) ∙ omega arith
    size-from (item ∷ more) items =
        let rest = size-from more (items ++ item ∷ []) in
        let one = ap (sum_by group_size) (by_key-push eq laws item.0 item.1 items) ∙ size-with_item (by_key eq items) item.0 item.1 in
        ap (λ l. sum_by group_size (by_key eq l)) (sym (append_assoc items (item ∷ []) more)) ∙ omega (arith, rest, one)

    -- each item stands in one group
    pub size-by_key : (items : List (K × T)) → sum_by group_size (by_key eq items) ≡ length items
    size-by_key items = size-from items [] ∙ omega arith
