-- Walks over the tableau rows of an index: what one more of them adds.
use Rattle.std.proofs.Common.{◌≡◌, ℕ, ◌+◌, ◌*◌, ◌<◌, ◌≤◌, List, [], ◌∷◌, ◌++◌, map, take, length, get_or, Some, refl, sym, ap, ◌∙◌, arith, length-append}
use Rattle.std.specs.Prelude.{slice_get}
use Rattle.std.proofs.lemmas.List.{take_all, length-map}
use Rattle.std.proofs.lemmas.Option.{slice_get-get_or, get_or_from_slice_get}
use Rattle.cfd_semantics.specs.Numbered.{numbered}
use Rattle.cfd_semantics.proofs.Numbers.{numbered-more}

module _ {T X : Type 0} (gives : T → List X) where
  row_more : (rows : List T) (k : ℕ) (t : T) (found : List X) → k < length rows → slice_get rows k ≡ Some t → found ≡ gives t → numbered gives (take k rows) ++ map (λ x. (k, x)) found ≡ numbered gives (take (k + 1) rows)
  row_more rows k t found within at is =
      ap (λ xs. numbered gives (take k rows) ++ map (λ x. (k, x)) xs) is ∙ sym (numbered-more gives rows k t within (sym (get_or_from_slice_get rows k t t at)))

  -- the list so far, and what the row gives
  pub list_more : (rows : List T) (k : ℕ) (so_far next : List (ℕ × X)) (found : List X) → k < length rows → so_far ≡ numbered gives (take k rows) → ((t : T) → slice_get rows k ≡ Some t → found ≡ gives t)
      → next ≡ so_far ++ map (λ x. (k, x)) found → next ≡ numbered gives (take (k + 1) rows)
  list_more [] k so_far next found within is own joined = absurd (omega (arith, within))
  list_more (r ∷ rs) k so_far next found within is own joined =
      let at = slice_get-get_or (r ∷ rs) k r within in
      joined ∙ ap (λ list. list ++ map (λ x. (k, x)) found) is ∙ row_more (r ∷ rs) k (get_or (r ∷ rs) k r) found within at (own (get_or (r ∷ rs) k r) at)

  -- as many more
  pub count_more : (rows : List T) (k so_far more : ℕ) → k < length rows → so_far ≡ length (numbered gives (take k rows)) → ((t : T) → slice_get rows k ≡ Some t → more ≡ length (gives t))
      → so_far + more ≡ length (numbered gives (take (k + 1) rows))
  count_more [] k so_far more within is own = absurd (omega (arith, within))
  count_more (r ∷ rs) k so_far more within is own =
      let at = slice_get-get_or (r ∷ rs) k r within in
      let row = get_or (r ∷ rs) k r in
      let list = numbered gives (take k (r ∷ rs)) in
      ap (λ n. n + more) is ∙ ap (λ n. length list + n) (own row at ∙ sym (length-map (gives row) (λ x. (k, x)))) ∙ sym (length-append list (map (λ x. (k, x)) (gives row)))
      ∙ ap length (row_more (r ∷ rs) k row (gives row) within at refl)

  -- after all rows
  pub rows_passed : (rows : List T) (k : ℕ) → length rows ≤ k → numbered gives (take k rows) ≡ numbered gives rows
  rows_passed rows k past = ap (numbered gives) (take_all k rows past)

-- one row more is a look at each dirty group more
pub probes_more : (start k dirty steps next : ℕ) → steps ≤ start + k * dirty → next ≤ steps + dirty → next ≤ start + (k + 1) * dirty
probes_more start k dirty steps next so_far own = grind (arith, so_far, own)
