-- Groups of items whose keys and values get other names, under which keys that are apart stay apart.
use Rattle.std.proofs.Common.{◌≡◌, Bool, true, false, cond, not, List, [], ◌∷◌, map, filter, refl, ap, ◌∙◌}
use Rattle.std.specs.List.{All}
use Rattle.std.proofs.lemmas.List.Elements.{All-head, All-tail, All-cons, All-nil, All-filter}
use Rattle.key_groups.specs.Groups.{by_key, distinct, items_of}

module _ {K L : Type 0} (eq : K → K → Bool) (other_eq : L → L → Bool) (Known : K → Type 0) (name : K → L) (apart : (a b : K) → Known a → Known b → other_eq (name a) (name b) ≡ eq a b) where
  distinct-known : (ks : List K) → All Known ks → All Known (distinct eq ks)
  distinct-known [] known = All-nil Known
  distinct-known (a ∷ ks) known =
      All-cons Known a (filter (λ b. not (eq a b)) (distinct eq ks)) (All-head Known a ks known)
      (All-filter (λ b. not (eq a b)) Known (distinct eq ks) (distinct-known ks (All-tail Known a ks known)))

  others-renamed : (a : K) (ks : List K) → Known a → All Known ks → filter (λ b. not (other_eq (name a) b)) (map name ks) ≡ map name (filter (λ b. not (eq a b)) ks)
  others-renamed a [] here known = refl
  others-renamed a (b ∷ ks) here known =
      let rest = others-renamed a ks here (All-tail Known b ks known) in
      ap (λ c. cond (not c) (name b ∷ filter (λ b. not (other_eq (name a) b)) (map name ks)) (filter (λ b. not (other_eq (name a) b)) (map name ks))) (apart a b here (All-head Known b ks known))
      ∙ ap (λ l. cond (not (eq a b)) (name b ∷ l) l) rest
      ∙ elim (eq a b) as (λ c. cond (not c) (name b ∷ map name (filter (λ b. not (eq a b)) ks)) (map name (filter (λ b. not (eq a b)) ks)) ≡ map name (cond (not c) (b ∷ filter (λ b. not (eq a b)) ks) (filter (λ b. not (eq a b)) ks))) [
        | true ↦ refl
        | false ↦ refl
      ]

  distinct-renamed : (ks : List K) → All Known ks → distinct other_eq (map name ks) ≡ map name (distinct eq ks)
  distinct-renamed [] known = refl
  distinct-renamed (a ∷ ks) known =
      ap (λ l. name a ∷ filter (λ b. not (other_eq (name a) b)) l) (distinct-renamed ks (All-tail Known a ks known))
      ∙ ap (λ l. name a ∷ l) (others-renamed a (distinct eq ks) (All-head Known a ks known) (distinct-known ks (All-tail Known a ks known)))

  module _ {S T : Type 0} (said : S → T) where
    -- an item, and a group, under the other names
    abbrev pub item_named : K × S → L × T
    item_named item = (name item.0, said item.1)

    abbrev pub group_named : K × List S → L × List T
    group_named group = (name group.0, map said group.1)

    keys-renamed : (items : List (K × S)) → map (λ item. item.0) (map item_named items) ≡ map name (map (λ item. item.0) items)
    keys-renamed [] = refl
    keys-renamed (item ∷ items) = ap (λ l. name item.0 ∷ l) (keys-renamed items)

    items-renamed : (key : K) (items : List (K × S)) → Known key → All (λ item. Known item.0) items → items_of other_eq (map item_named items) (name key) ≡ map said (items_of eq items key)
    items-renamed key [] here known = refl
    items-renamed key (item ∷ items) here known =
        let rest = items-renamed key items here (All-tail (λ item. Known item.0) item items known) in
        ap (λ c. map (λ (i : L × T). i.1) (cond c (item_named item ∷ filter (λ i. other_eq (name key) i.0) (map item_named items)) (filter (λ i. other_eq (name key) i.0) (map item_named items)))) (apart key item.0 here (All-head (λ item. Known item.0) item items known))
        ∙ elim (eq key item.0) as (λ c. map (λ (i : L × T). i.1) (cond c (item_named item ∷ filter (λ i. other_eq (name key) i.0) (map item_named items)) (filter (λ i. other_eq (name key) i.0) (map item_named items))) ≡ map said (map (λ (i : K × S). i.1) (cond c (item ∷ filter (λ i. eq key i.0) items) (filter (λ i. eq key i.0) items)))) [
          | true ↦ ap (λ l. said item.1 ∷ l) rest
          | false ↦ rest
        ]

    groups-renamed : (items : List (K × S)) (ks : List K) → All Known ks → All (λ item. Known item.0) items
        → map (λ key. (key, items_of other_eq (map item_named items) key)) (map name ks) ≡ map group_named (map (λ key. (key, items_of eq items key)) ks)
    groups-renamed items [] keys known = refl
    groups-renamed items (key ∷ ks) keys known =
        ap (λ l. (name key, l) ∷ map (λ key. (key, items_of other_eq (map item_named items) key)) (map name ks)) (items-renamed key items (All-head Known key ks keys) known)
        ∙ ap (λ l. group_named (key, items_of eq items key) ∷ l) (groups-renamed items ks (All-tail Known key ks keys) known)

    keys-known : (items : List (K × S)) → All (λ item. Known item.0) items → All Known (map (λ item. item.0) items)
    keys-known [] known = All-nil Known
    keys-known (item ∷ items) known = All-cons Known item.0 (map (λ item. item.0) items) (All-head (λ item. Known item.0) item items known) (keys-known items (All-tail (λ item. Known item.0) item items known))

    pub by_key-renamed : (items : List (K × S)) → All (λ item. Known item.0) items → by_key other_eq (map item_named items) ≡ map group_named (by_key eq items)
    by_key-renamed items known =
        let ks = map (λ (item : K × S). item.0) items in
        ap (λ l. map (λ key. (key, items_of other_eq (map item_named items) key)) (distinct other_eq l)) (keys-renamed items)
        ∙ ap (map (λ key. (key, items_of other_eq (map item_named items) key))) (distinct-renamed ks (keys-known items known))
        ∙ groups-renamed items (distinct eq ks) (distinct-known ks (keys-known items known)) known
