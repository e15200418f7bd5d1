-- What items give, each with its number.
use Rattle.std.proofs.Common.{◌≡◌, ℕ, ◌+◌, ◌<◌, ◌↔◌, List, [], ◌∷◌, ◌++◌, map, length, take, get_or, refl, sym, ap, ◌∙◌, inl, inr, arith}
use Rattle.std.specs.List.{All, Contains, enumerate_from, flat_map}
use Rattle.std.proofs.lemmas.List.{append-nil, take_more, length-take-le}
use Rattle.std.proofs.lemmas.List.Concat.{flat_map-append}
use Rattle.std.proofs.lemmas.List.Elements.{All-nil, All-append, All-map, All-weaker, All-head, All-tail}
use Rattle.cfd_semantics.specs.Numbered.{numbered}
use Rattle.cfd_semantics.proofs.Members.{contains-here, contains-there, contains_nothing, contains_cases, append-empty, map-empty}

enumerate_from-push : {X : Type 0} (n : ℕ) (xs : List X) (x : X) → enumerate_from n (xs ++ x ∷ []) ≡ enumerate_from n xs ++ (n + length xs, x) ∷ []
enumerate_from-push n [] x = grind arith
enumerate_from-push n (y ∷ ys) x = let ih = enumerate_from-push (n + 1) ys x in grind (arith, ih)

module _ {T X : Type 0} where
  -- the same, where the first item has the number n
  abbrev from : (T → List X) → ℕ → List T → List (ℕ × X)
  from gives n items = flat_map (λ (item : ℕ × T). map (λ given. (item.0, given)) (gives item.1)) (enumerate_from n items)

  -- one more item is one more piece
  pub numbered-more : (gives : T → List X) (items : List T) (i : ℕ) (item : T) → i < length items → item ≡ get_or items i item → numbered gives (take (i + 1) items) ≡ numbered gives (take i items) ++ map (λ given. (i, given)) (gives item)
  numbered-more gives items i item h is =
      let piece = λ (one : ℕ × T). map (λ given. (one.0, given)) (gives one.1) in
      ap (from gives 0) (take_more items i item h) ∙ ap (flat_map piece) (enumerate_from-push 0 (take i items) (get_or items i item))
      ∙ flat_map-append piece (enumerate_from 0 (take i items)) ((0 + length (take i items), get_or items i item) ∷ [])
      ∙ ap (λ rest. numbered gives (take i items) ++ rest) (append-nil (piece (0 + length (take i items), get_or items i item)))
      ∙ ap (λ n. numbered gives (take i items) ++ piece (n, get_or items i item)) zero_more ∙ ap (λ t. numbered gives (take i items) ++ piece (i, t)) (sym is)
    where
      zero_more : 0 + length (take i items) ≡ i
      zero_more = omega (arith, length-take-le i items (omega arith))

  none_from : (gives : T → List X) (n : ℕ) (items : List T) → from gives n items ≡ [] → (item : T) → Contains items item → gives item ≡ []
  none_from gives n [] h item member = absurd (contains_nothing item member)
  none_from gives n (first ∷ rest) h item member =
      let parts = append-empty (map (λ given. (n, given)) (gives first)) (from gives (n + 1) rest) h in
      elim (contains_cases item first rest member) [
        | inl is ↦ rw (← is) (map-empty (λ given. (n, given)) (gives first) parts.0)
        | inr later ↦ none_from gives (n + 1) rest parts.1 item later
      ]

  from_none : (gives : T → List X) (n : ℕ) (items : List T) → ((item : T) → Contains items item → gives item ≡ []) → from gives n items ≡ []
  from_none gives n [] h = refl
  from_none gives n (first ∷ rest) h =
      rw (h first (contains-here first rest)) (from_none gives (n + 1) rest (λ item member. h item (contains-there item first rest member)))

  -- nothing is listed exactly where no item gives anything
  pub numbered-empty : (gives : T → List X) (items : List T) → (numbered gives items ≡ []) ↔ ((item : T) → Contains items item → gives item ≡ [])
  numbered-empty gives items = (none_from gives 0 items, from_none gives 0 items)

  in_range_from : (gives : T → List X) (n : ℕ) (items : List T) → All (λ (one : ℕ × X). one.0 < n + length items) (from gives n items)
  in_range_from gives n [] = All-nil _
  in_range_from gives n (item ∷ rest) =
      All-append (λ (one : ℕ × X). one.0 < n + length (item ∷ rest)) (map (λ given. (n, given)) (gives item)) (from gives (n + 1) rest)
      (All-map (λ (one : ℕ × X). one.0 < n + length (item ∷ rest)) (λ given. (n, given)) (gives item) (λ k d below. omega arith))
      (All-weaker (λ (one : ℕ × X). one.0 < n + 1 + length rest) (λ (one : ℕ × X). one.0 < n + length (item ∷ rest)) (λ one below. omega arith) (from gives (n + 1) rest) (in_range_from gives (n + 1) rest))

  -- each number is that of an item
  pub numbered-in_range : (gives : T → List X) (items : List T) → All (λ (one : ℕ × X). one.0 < length items) (numbered gives items)
  numbered-in_range gives items = All-weaker (λ (one : ℕ × X). one.0 < 0 + length items) (λ (one : ℕ × X). one.0 < length items) (λ one below. omega arith) (numbered gives items) (in_range_from gives 0 items)

module _ {T U X : Type 0} (gives : T → List X) (others : U → List X) (other_of : T → U) where
  same_from : (n : ℕ) (items : List T) → All (λ item. others (other_of item) ≡ gives item) items → from others n (map other_of items) ≡ from gives n items
  same_from n [] same = refl
  same_from n (item ∷ rest) same =
      rw (All-head (λ item. others (other_of item) ≡ gives item) item rest same, same_from (n + 1) rest (All-tail (λ item. others (other_of item) ≡ gives item) item rest same))

  -- other items that give the same give the same list
  pub numbered-same : (items : List T) → All (λ item. others (other_of item) ≡ gives item) items → numbered others (map other_of items) ≡ numbered gives items
  numbered-same items same = same_from 0 items same
