-- A walk over slots, slot by slot.
use Rattle.std.proofs.Common.{◌≡◌, ℕ, suc, ◌+◌, ◌<◌, ◌≤◌, List, [], ◌∷◌, length, get_or, drop, Option, Some, None, sym, ap, ◌∙◌, drop-cons, add-one}
use Rattle.std.proofs.lemmas.List.{drop_all}
use Rattle.row_store.specs.Tuple.{Tuple, ids_of}
use Rattle.row_store.specs.Slots.{entries_from}

module _ (slots : List (Option Tuple)) (place : ℕ) where
  pub walk_over_empty : place < length slots → get_or slots place None ≡ None → entries_from place (drop place slots) ≡ entries_from (place + 1) (drop (place + 1) slots)
  walk_over_empty h is = ap (entries_from place) (drop-cons slots place None h) ∙ ap (λ slot. entries_from place (slot ∷ drop (suc place) slots)) is ∙ ap (λ p. entries_from (place + 1) (drop p slots)) (sym (add-one place))

  pub walk_over_row : (tuple : Tuple) → place < length slots → get_or slots place None ≡ Some tuple → entries_from place (drop place slots) ≡ (place, ids_of tuple) ∷ entries_from (place + 1) (drop (place + 1) slots)
  walk_over_row tuple h is = ap (entries_from place) (drop-cons slots place None h) ∙ ap (λ slot. entries_from place (slot ∷ drop (suc place) slots)) is ∙ ap (λ p. (place, ids_of tuple) ∷ entries_from (place + 1) (drop p slots)) (sym (add-one place))

  pub walk_ends : length slots ≤ place → entries_from place (drop place slots) ≡ []
  walk_ends h = ap (entries_from place) (drop_all place slots h)

pub ruleset walk_steps = (walk_over_empty, walk_over_row, walk_ends)
