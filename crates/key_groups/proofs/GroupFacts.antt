-- What one more item makes of the groups.
use Rattle.std.proofs.Common.{◌≡◌, ℕ, zero, suc, ◌+◌, ◌<◌, Bool, true, false, cond, not, ◌||◌, List, [], ◌∷◌, ◌++◌, length, map, filter, Option, Some, None, slice_get, refl, sym, ap, subst, ◌∙◌, true≢false, arith}
use Rattle.std.specs.Prelude.{IsSome}
use Rattle.std.specs.Cmp.{IsEquivalence}
use Rattle.std.specs.List.{AllByRecursion, list_any, position_or_len}
use Rattle.std.specs.Map.{keys_of, values_of, lookup}
use Rattle.std.proofs.lemmas.List.{append-nil, map-append}
use Rattle.std.proofs.lemmas.List.Elements.{filter-append}
use Rattle.std.proofs.lemmas.Option.{none-some, same_Some}
use Rattle.indexmap.specs.IndexMap.{set_value_at}
use Rattle.key_groups.specs.Groups.{by_key, distinct, items_of, with_item}

-- ---- the entries of a map

module _ {K T : Type 0} (eq : K → K → Bool) (k : K) (t : T) where
  -- where the key's group is at its place, the item goes last in it
  pub added : (es : List (K × List T)) (p : ℕ) (lent : List T) → p ≡ position_or_len (eq k) (keys_of es) → slice_get (values_of es) p ≡ Some lent
      → set_value_at es p (lent ++ t ∷ []) ≡ with_item eq es k t
  added [] p lent is at = absurd (none-some lent at)
  added (e ∷ es) p lent is at =
      (elim (eq k e.0) as (λ (b : Bool). eq k e.0 ≡ b → set_value_at (e ∷ es) p (lent ++ t ∷ []) ≡ with_item eq (e ∷ es) k t) [
        | true ↦ λ h.
            let first : p ≡ zero = is ∙ ap (λ b. cond (not b) (1 + position_or_len (eq k) (keys_of es)) 0) h in
            let own : e.1 ≡ lent = same_Some _ _ (subst (λ q. slice_get (values_of (e ∷ es)) q ≡ Some lent) first at) in
            ap (λ q. set_value_at (e ∷ es) q (lent ++ t ∷ [])) first ∙ ap (λ l. (e.0, l ++ t ∷ []) ∷ es) (sym own)
            ∙ sym (ap (λ b. cond b ((e.0, e.1 ++ t ∷ []) ∷ es) (e ∷ with_item eq es k t)) h)
        | false ↦ λ h.
            let later : p ≡ 1 + position_or_len (eq k) (keys_of es) = is ∙ ap (λ b. cond (not b) (1 + position_or_len (eq k) (keys_of es)) 0) h in
            let next : p ≡ suc (position_or_len (eq k) (keys_of es)) = omega arith in
            let rest = added es (position_or_len (eq k) (keys_of es)) lent refl (subst (λ q. slice_get (values_of (e ∷ es)) q ≡ Some lent) next at) in
            ap (λ q. set_value_at (e ∷ es) q (lent ++ t ∷ [])) next ∙ ap (λ l. e ∷ l) rest
            ∙ sym (ap (λ b. cond b ((e.0, e.1 ++ t ∷ []) ∷ es) (e ∷ with_item eq es k t)) h)
      ]) refl

  -- where the key is new, it begins a group
  pub begun : (es : List (K × List T)) (p : ℕ) (lent : List T) → lookup (eq k) es ≡ None → p ≡ position_or_len (eq k) (keys_of es)
      → slice_get (values_of (es ++ (k, []) ∷ [])) p ≡ Some lent → set_value_at (es ++ (k, []) ∷ []) p (lent ++ t ∷ []) ≡ with_item eq es k t
  begun [] p lent none is at =
      let own : [] ≡ lent = same_Some _ _ (subst (λ q. slice_get (values_of ((k, []) ∷ [])) q ≡ Some lent) is at) in
      ap (λ q. set_value_at ((k, []) ∷ []) q (lent ++ t ∷ [])) is ∙ ap (λ l. (k, l ++ t ∷ []) ∷ []) (sym own)
  begun (e ∷ es) p lent none is at =
      (elim (eq k e.0) as (λ (b : Bool). eq k e.0 ≡ b → set_value_at ((e ∷ es) ++ (k, []) ∷ []) p (lent ++ t ∷ []) ≡ with_item eq (e ∷ es) k t) [
        | true ↦ λ h.
            absurd (none-some e.1 (sym none ∙ ap (λ b. cond b (Some e.1) (lookup (eq k) es)) h))
        | false ↦ λ h.
            let later : p ≡ 1 + position_or_len (eq k) (keys_of es) = is ∙ ap (λ b. cond (not b) (1 + position_or_len (eq k) (keys_of es)) 0) h in
            let next : p ≡ suc (position_or_len (eq k) (keys_of es)) = omega arith in
            let rest = begun es (position_or_len (eq k) (keys_of es)) lent (sym (ap (λ b. cond b (Some e.1) (lookup (eq k) es)) h) ∙ none) refl (subst (λ q. slice_get (values_of ((e ∷ es) ++ (k, []) ∷ [])) q ≡ Some lent) next at) in
            ap (λ q. set_value_at ((e ∷ es) ++ (k, []) ∷ []) q (lent ++ t ∷ [])) next ∙ ap (λ l. e ∷ l) rest
            ∙ sym (ap (λ b. cond b ((e.0, e.1 ++ t ∷ []) ∷ es) (e ∷ with_item eq es k t)) h)
      ]) refl

  position-found : (es : List (K × List T)) (v : List T) → lookup (eq k) es ≡ Some v → position_or_len (eq k) (keys_of es) < length es
  position-found [] v there = absurd (none-some v there)
  position-found (e ∷ es) v there =
      (elim (eq k e.0) as (λ (b : Bool). eq k e.0 ≡ b → cond (not (eq k e.0)) (1 + position_or_len (eq k) (keys_of es)) 0 < suc (length es)) [
        | true ↦ λ h.
            subst (λ b. cond (not b) (1 + position_or_len (eq k) (keys_of es)) 0 < suc (length es)) (sym h) (omega arith)
        | false ↦ λ h.
            let tail = position-found es v (sym (ap (λ b. cond b (Some e.1) (lookup (eq k) es)) h) ∙ there) in
            subst (λ b. cond (not b) (1 + position_or_len (eq k) (keys_of es)) 0 < suc (length es)) (sym h) (omega (arith, tail))
      ]) refl

  position-new : (es : List (K × List T)) → position_or_len (eq k) (keys_of es) < length (es ++ (k, []) ∷ [])
  position-new [] = omega arith
  position-new (e ∷ es) =
      let tail = position-new es in
      elim (eq k e.0) as (λ b. cond (not b) (1 + position_or_len (eq k) (keys_of es)) 0 < suc (length (es ++ (k, []) ∷ []))) [
        | true ↦ omega arith
        | false ↦ omega (arith, tail)
      ]

  -- the place lies within the entries, and the item goes into its group there
  pub record IsEntered (es mid : List (K × List T)) (p : ℕ) : Type 0 where
    pub within : p < length mid
    pub adds : (lent : List T) → slice_get (values_of mid) p ≡ Some lent → set_value_at mid p (lent ++ t ∷ []) ≡ with_item eq es k t

  pub entered : (es mid : List (K × List T)) (p : ℕ) → p ≡ position_or_len (eq k) (keys_of es) → (IsSome (lookup (eq k) es) → mid ≡ es)
      → (lookup (eq k) es ≡ None → mid ≡ es ++ (k, []) ∷ []) → IsEntered es mid p
  entered es mid p is found new = by (lookup (eq k) es) refl
    where
      by : (o : Option (List T)) → lookup (eq k) es ≡ o → IsEntered es mid p
      by None none =
          let same = new none in
          subst (λ m. IsEntered es m p) (sym same) (record {
            within = subst (λ q. q < length (es ++ (k, []) ∷ [])) (sym is) (position-new es);
            adds = λ lent at. begun es p lent none is at;
          })
      by (Some v) there =
          let same = found (subst IsSome (sym there) refl) in
          subst (λ m. IsEntered es m p) (sym same) (record {
            within = subst (λ q. q < length es) (sym is) (position-found es v there);
            adds = λ lent at. added es p lent is at;
          })

-- ---- the groups of a list

module _ {K : Type 0} (eq : K → K → Bool) where
  -- a list with one more item, without repeats
  distinct-push : (ks : List K) (k : K) → distinct eq (ks ++ k ∷ []) ≡ distinct eq ks ++ cond (list_any (λ key. eq key k) ks) [] (k ∷ [])
  distinct-push [] k = refl
  distinct-push (a ∷ ks) k =
      ap (λ l. a ∷ filter (λ other. not (eq a other)) l) (distinct-push ks k)
      ∙ ap (λ l. a ∷ l) (filter-append (λ other. not (eq a other)) (distinct eq ks) (cond (list_any (λ key. eq key k) ks) [] (k ∷ [])))
      ∙ ap (λ l. a ∷ (filter (λ other. not (eq a other)) (distinct eq ks) ++ l)) (by (list_any (λ key. eq key k) ks) (eq a k) refl)
    where
      by : (any here : Bool) → eq a k ≡ here → filter (λ other. not (eq a other)) (cond any [] (k ∷ [])) ≡ cond (here || any) [] (k ∷ [])
      by true true h = refl
      by true false h = refl
      by false true h = ap (λ b. cond (not b) (k ∷ []) []) h
      by false false h = ap (λ b. cond (not b) (k ∷ []) []) h

  -- no item is equal to a later one
  abbrev Apart : List K → Type 0
  Apart [] = Unit {0}
  Apart (a ∷ ks) = AllByRecursion (λ b. eq a b ≡ false) ks × Apart ks

  each-filtered : (P : K → Type 0) (p : K → Bool) (ks : List K) → AllByRecursion P ks → AllByRecursion P (filter p ks)
  each-filtered P p [] each = tt
  each-filtered P p (a ∷ ks) each =
      (elim (p a) as (λ (b : Bool). p a ≡ b → AllByRecursion P (cond (p a) (a ∷ filter p ks) (filter p ks))) [
        | true ↦ λ h.
            subst (λ b. AllByRecursion P (cond b (a ∷ filter p ks) (filter p ks))) (sym h) (each.0, each-filtered P p ks each.1)
        | false ↦ λ h.
            subst (λ b. AllByRecursion P (cond b (a ∷ filter p ks) (filter p ks))) (sym h) (each-filtered P p ks each.1)
      ]) refl

  apart-filtered : (p : K → Bool) (ks : List K) → Apart ks → Apart (filter p ks)
  apart-filtered p [] apart = tt
  apart-filtered p (a ∷ ks) apart =
      (elim (p a) as (λ (b : Bool). p a ≡ b → Apart (cond (p a) (a ∷ filter p ks) (filter p ks))) [
        | true ↦ λ h.
            subst (λ b. Apart (cond b (a ∷ filter p ks) (filter p ks))) (sym h) (each-filtered (λ b. eq a b ≡ false) p ks apart.0, apart-filtered p ks apart.1)
        | false ↦ λ h.
            subst (λ b. Apart (cond b (a ∷ filter p ks) (filter p ks))) (sym h) (apart-filtered p ks apart.1)
      ]) refl

  others-left : (a : K) (ks : List K) → AllByRecursion (λ b. eq a b ≡ false) (filter (λ b. not (eq a b)) ks)
  others-left a [] = tt
  others-left a (k ∷ ks) =
      (elim (eq a k) as (λ (b : Bool). eq a k ≡ b → AllByRecursion (λ b. eq a b ≡ false) (cond (not (eq a k)) (k ∷ filter (λ b. not (eq a b)) ks) (filter (λ b. not (eq a b)) ks))) [
        | true ↦ λ h.
            subst (λ b. AllByRecursion (λ b. eq a b ≡ false) (cond (not b) (k ∷ filter (λ b. not (eq a b)) ks) (filter (λ b. not (eq a b)) ks))) (sym h) (others-left a ks)
        | false ↦ λ h.
            subst (λ b. AllByRecursion (λ b. eq a b ≡ false) (cond (not b) (k ∷ filter (λ b. not (eq a b)) ks) (filter (λ b. not (eq a b)) ks))) (sym h) (h, others-left a ks)
      ]) refl

  distinct-apart : (ks : List K) → Apart (distinct eq ks)
  distinct-apart [] = tt
  distinct-apart (a ∷ ks) = (others-left a (distinct eq ks), apart-filtered (λ b. not (eq a b)) (distinct eq ks) (distinct-apart ks))

module _ {K T : Type 0} (eq : K → K → Bool) where
  items_of-push : (items : List (K × T)) (k : K) (t : T) (key : K) → items_of eq (items ++ (k, t) ∷ []) key ≡ items_of eq items key ++ cond (eq key k) (t ∷ []) []
  items_of-push items k t key =
      ap (map (λ item. item.1)) (filter-append (λ item. eq key item.0) items ((k, t) ∷ []))
      ∙ map-append (λ item. item.1) (filter (λ item. eq key item.0) items) (filter (λ item. eq key item.0) ((k, t) ∷ []))
      ∙ ap (λ l. items_of eq items key ++ l) (by (eq key k) refl)
    where
      by : (b : Bool) → eq key k ≡ b → map (λ (item : K × T). item.1) (cond (eq key k) ((k, t) ∷ []) []) ≡ cond (eq key k) (t ∷ []) []
      by true h = ap (λ b. map (λ (item : K × T). item.1) (cond b ((k, t) ∷ []) [])) h ∙ sym (ap (λ b. cond b (t ∷ []) []) h)
      by false h = ap (λ b. map (λ (item : K × T). item.1) (cond b ((k, t) ∷ []) [])) h ∙ sym (ap (λ b. cond b (t ∷ []) []) h)

  module _ (laws : IsEquivalence eq) (k : K) (t : T) where
    -- the items of a key with one more
    abbrev grown : (K → List T) → K → K × List T
    grown held key = (key, held key ++ cond (eq key k) (t ∷ []) [])

    grown-other : (held : K → List T) (a : K) → eq a k ≡ false → grown held a ≡ (a, held a)
    grown-other held a h = ap (λ b. (a, held a ++ cond b (t ∷ []) [])) h ∙ ap (λ l. (a, l)) (append-nil (held a))

    place-new : (held : K → List T) (ks : List K) → list_any (λ key. eq key k) ks ≡ false → map (grown held) ks ++ (k, t ∷ []) ∷ [] ≡ with_item eq (map (λ key. (key, held key)) ks) k t
    place-new held [] none = refl
    place-new held (a ∷ ks) none =
        (elim (eq a k) as (λ (b : Bool). eq a k ≡ b → map (grown held) (a ∷ ks) ++ (k, t ∷ []) ∷ [] ≡ with_item eq (map (λ key. (key, held key)) (a ∷ ks)) k t) [
          | true ↦ λ h.
              absurd (true≢false (sym (ap (λ b. b || list_any (λ key. eq key k) ks) h) ∙ none))
          | false ↦ λ h.
              let rest = place-new held ks (sym (ap (λ b. b || list_any (λ key. eq key k) ks) h) ∙ none) in
              ap (λ e. e ∷ (map (grown held) ks ++ (k, t ∷ []) ∷ [])) (grown-other held a h) ∙ ap (λ l. (a, held a) ∷ l) rest
              ∙ sym (ap (λ b. cond b ((a, held a ++ t ∷ []) ∷ map (λ key. (key, held key)) ks) ((a, held a) ∷ with_item eq (map (λ key. (key, held key)) ks) k t)) (laws.symm k a ∙ h))
        ]) refl

    others-same : (held : K → List T) (a : K) (ks : List K) → eq a k ≡ true → AllByRecursion (λ b. eq a b ≡ false) ks → map (grown held) ks ≡ map (λ key. (key, held key)) ks
    others-same held a [] same apart = refl
    others-same held a (b ∷ ks) same apart =
        let isnt : eq b k ≡ false = laws.symm b k ∙ sym (laws.congr a k b same) ∙ apart.0 in
        ap (λ e. e ∷ map (grown held) ks) (grown-other held b isnt) ∙ ap (λ l. (b, held b) ∷ l) (others-same held a ks same apart.1)

    place-found : (held : K → List T) (ks : List K) → Apart eq ks → list_any (λ key. eq key k) ks ≡ true → map (grown held) ks ≡ with_item eq (map (λ key. (key, held key)) ks) k t
    place-found held [] apart there = absurd (true≢false (sym there))
    place-found held (a ∷ ks) apart there =
        (elim (eq a k) as (λ (b : Bool). eq a k ≡ b → map (grown held) (a ∷ ks) ≡ with_item eq (map (λ key. (key, held key)) (a ∷ ks)) k t) [
          | true ↦ λ h.
              ap (λ b. (a, held a ++ cond b (t ∷ []) []) ∷ map (grown held) ks) h ∙ ap (λ l. (a, held a ++ t ∷ []) ∷ l) (others-same held a ks h apart.0)
              ∙ sym (ap (λ b. cond b ((a, held a ++ t ∷ []) ∷ map (λ key. (key, held key)) ks) ((a, held a) ∷ with_item eq (map (λ key. (key, held key)) ks) k t)) (laws.symm k a ∙ h))
          | false ↦ λ h.
              let rest = place-found held ks apart.1 (sym (ap (λ b. b || list_any (λ key. eq key k) ks) h) ∙ there) in
              ap (λ e. e ∷ map (grown held) ks) (grown-other held a h) ∙ ap (λ l. (a, held a) ∷ l) rest
              ∙ sym (ap (λ b. cond b ((a, held a ++ t ∷ []) ∷ map (λ key. (key, held key)) ks) ((a, held a) ∷ with_item eq (map (λ key. (key, held key)) ks) k t)) (laws.symm k a ∙ h))
        ]) refl

    any-left : (a : K) (ks : List K) → eq a k ≡ false → list_any (λ key. eq key k) (filter (λ b. not (eq a b)) ks) ≡ list_any (λ key. eq key k) ks
    any-left a [] isnt = refl
    any-left a (b ∷ ks) isnt =
        (elim (eq a b) as (λ (c : Bool). eq a b ≡ c → list_any (λ key. eq key k) (cond (not (eq a b)) (b ∷ filter (λ b. not (eq a b)) ks) (filter (λ b. not (eq a b)) ks)) ≡ (eq b k || list_any (λ key. eq key k) ks)) [
          | true ↦ λ h.
              ap (λ c. list_any (λ key. eq key k) (cond (not c) (b ∷ filter (λ b. not (eq a b)) ks) (filter (λ b. not (eq a b)) ks))) h ∙ any-left a ks isnt
              ∙ sym (ap (λ c. c || list_any (λ key. eq key k) ks) (sym (laws.congr a b k h) ∙ isnt))
          | false ↦ λ h.
              ap (λ c. list_any (λ key. eq key k) (cond (not c) (b ∷ filter (λ b. not (eq a b)) ks) (filter (λ b. not (eq a b)) ks))) h ∙ ap (λ c. eq b k || c) (any-left a ks isnt)
        ]) refl

    any-distinct : (ks : List K) → list_any (λ key. eq key k) (distinct eq ks) ≡ list_any (λ key. eq key k) ks
    any-distinct [] = refl
    any-distinct (a ∷ ks) =
        (elim (eq a k) as (λ (b : Bool). eq a k ≡ b → (eq a k || list_any (λ key. eq key k) (filter (λ b. not (eq a b)) (distinct eq ks))) ≡ (eq a k || list_any (λ key. eq key k) ks)) [
          | true ↦ λ h.
              ap (λ b. b || list_any (λ key. eq key k) (filter (λ b. not (eq a b)) (distinct eq ks))) h ∙ sym (ap (λ b. b || list_any (λ key. eq key k) ks) h)
          | false ↦ λ h.
              ap (λ b. eq a k || b) (any-left a (distinct eq ks) h ∙ any-distinct ks)
        ]) refl

    none-held : (items : List (K × T)) → list_any (λ key. eq key k) (map (λ item. item.0) items) ≡ false → items_of eq items k ≡ []
    none-held [] none = refl
    none-held (item ∷ items) none =
        (elim (eq item.0 k) as (λ (b : Bool). eq item.0 k ≡ b → items_of eq (item ∷ items) k ≡ []) [
          | true ↦ λ h.
              absurd (true≢false (sym (ap (λ b. b || list_any (λ key. eq key k) (map (λ item. item.0) items)) h) ∙ none))
          | false ↦ λ h.
              ap (λ b. map (λ (item : K × T). item.1) (cond b (item ∷ filter (λ item. eq k item.0) items) (filter (λ item. eq k item.0) items))) (laws.symm k item.0 ∙ h)
              ∙ none-held items (sym (ap (λ b. b || list_any (λ key. eq key k) (map (λ item. item.0) items)) h) ∙ none)
        ]) refl

    grown-all : (items : List (K × T)) (ks : List K) → map (λ key. (key, items_of eq (items ++ (k, t) ∷ []) key)) ks ≡ map (grown (items_of eq items)) ks
    grown-all items [] = refl
    grown-all items (key ∷ ks) = ap (λ l. (key, l) ∷ map (λ key. (key, items_of eq (items ++ (k, t) ∷ []) key)) ks) (items_of-push items k t key) ∙ ap (λ l. grown (items_of eq items) key ∷ l) (grown-all items ks)

    grown-own : (items : List (K × T)) → list_any (λ key. eq key k) (map (λ item. item.0) items) ≡ false → grown (items_of eq items) k ≡ (k, t ∷ [])
    grown-own items none = ap (λ l. (k, l ++ cond (eq k k) (t ∷ []) [])) (none-held items none) ∙ ap (λ b. (k, cond b (t ∷ []) [])) (laws.refl k)

    -- one more item goes into its group
    pub by_key-push : (items : List (K × T)) → by_key eq (items ++ (k, t) ∷ []) ≡ with_item eq (by_key eq items) k t
    by_key-push items =
        let ks = map (λ (item : K × T). item.0) items in
        ap (λ l. map (λ key. (key, items_of eq (items ++ (k, t) ∷ []) key)) (distinct eq l)) (map-append (λ item. item.0) items ((k, t) ∷ []))
        ∙ ap (map (λ key. (key, items_of eq (items ++ (k, t) ∷ []) key))) (distinct-push eq ks k)
        ∙ grown-all items (distinct eq ks ++ cond (list_any (λ key. eq key k) ks) [] (k ∷ []))
        ∙ by (list_any (λ key. eq key k) ks) refl
      where
        by : (b : Bool) → list_any (λ key. eq key k) (map (λ (item : K × T). item.0) items) ≡ b
            → map (grown (items_of eq items)) (distinct eq (map (λ (item : K × T). item.0) items) ++ cond (list_any (λ key. eq key k) (map (λ (item : K × T). item.0) items)) [] (k ∷ [])) ≡ with_item eq (by_key eq items) k t
        by true h =
            let ks = map (λ (item : K × T). item.0) items in
            ap (λ b. map (grown (items_of eq items)) (distinct eq ks ++ cond b [] (k ∷ []))) h ∙ ap (map (grown (items_of eq items))) (append-nil (distinct eq ks))
            ∙ place-found (items_of eq items) (distinct eq ks) (distinct-apart eq ks) (any-distinct ks ∙ h)
        by false h =
            let ks = map (λ (item : K × T). item.0) items in
            ap (λ b. map (grown (items_of eq items)) (distinct eq ks ++ cond b [] (k ∷ []))) h ∙ map-append (grown (items_of eq items)) (distinct eq ks) (k ∷ [])
            ∙ ap (λ e. map (grown (items_of eq items)) (distinct eq ks) ++ e ∷ []) (grown-own items h)
            ∙ place-new (items_of eq items) (distinct eq ks) (any-distinct ks ∙ h)
