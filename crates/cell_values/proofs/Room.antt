-- The variables can be counted.
use Rattle.std.proofs.Common.{◌≡◌, ℕ, ◌+◌, ◌*◌, ◌^◌, ◌<◌, ◌≤◌, Bool, true, false, cond, List, [], ◌∷◌, length, Option, Some, refl, ap, arith}
use Rattle.std.specs.Prelude.{find, sum_by, nat_lt, nat_eq}
use Rattle.std.specs.Option.{option_map_or}
use Rattle.std.proofs.lemmas.Bool.{ltb-true, eqb-true}
use Rattle.std.proofs.lemmas.List.Sums.{sum_by-cons}
use Rattle.cell_values.specs.declared.values.CellValues.{CellValues}
use Rattle.cell_values.specs.Values.{AreFew, values_for, attrs_before, values_before}
use Rattle.cell_values.specs.Layout.{equal_var}
use Rattle.cell_values.specs.declared.which.TupleCount.TheVariants.{Two}
use Rattle.cell_values.proofs.Counting.{size}
use Rattle.cell_values.proofs.Order.{attr_var-cons}

values_cons : (attr : ℕ) (c : CellValues) (cs : List CellValues) (b : Bool) → nat_eq c.attr attr ≡ b → length (values_for (c ∷ cs) attr) ≡ cond b (size c) (length (values_for cs attr))
values_cons attr c cs true is = ap (λ t. length (option_map_or (λ (cell : CellValues). cell.values) (cond {A = Option CellValues} t (Some c) (find (λ (cell : CellValues). nat_eq cell.attr attr) cs)) [])) is
values_cons attr c cs false is = ap (λ t. length (option_map_or (λ (cell : CellValues). cell.values) (cond {A = Option CellValues} t (Some c) (find (λ (cell : CellValues). nat_eq cell.attr attr) cs)) [])) is

-- an attribute is before another, or it is that one, or neither
apart : (attr at : ℕ) → nat_lt at attr ≡ true → nat_eq at attr ≡ true → ⊥
apart attr at less same = let low = ltb-true at attr less in let is = eqb-true at attr same in omega arith

bounded_by : (attr : ℕ) (c : CellValues) (cs : List CellValues) (before here : Bool) → nat_lt c.attr attr ≡ before → nat_eq c.attr attr ≡ here
    → equal_var cs attr + 2 * length (values_for cs attr) ≤ 2 * sum_by (λ (cell : CellValues). length cell.values + 1) cs
    → equal_var (c ∷ cs) attr + 2 * length (values_for (c ∷ cs) attr) ≤ 2 * sum_by (λ (cell : CellValues). length cell.values + 1) (c ∷ cs)
bounded_by attr c cs true true less same rest = absurd (apart attr c.attr less same)
bounded_by attr c cs true false less same rest =
    omega (arith, attr_var-cons Two attr c cs true less, values_cons attr c cs false same, sum_by-cons (λ (cell : CellValues). length cell.values + 1) c cs)
bounded_by attr c cs false true less same rest =
    omega (arith, attr_var-cons Two attr c cs false less, values_cons attr c cs true same, sum_by-cons (λ (cell : CellValues). length cell.values + 1) c cs)
bounded_by attr c cs false false less same rest =
    omega (arith, attr_var-cons Two attr c cs false less, values_cons attr c cs false same, sum_by-cons (λ (cell : CellValues). length cell.values + 1) c cs)

pub bounded : (cells : List CellValues) (attr : ℕ) → equal_var cells attr + 2 * length (values_for cells attr) ≤ 2 * sum_by (λ (cell : CellValues). length cell.values + 1) cells
bounded [] attr = omega arith
bounded (c ∷ cs) attr = bounded_by attr c cs (nat_lt c.attr attr) (nat_eq c.attr attr) refl refl (bounded cs attr)

pub room_for : (cells : List CellValues) (attr : ℕ) → AreFew cells → (attrs_before cells attr + 2 * values_before cells attr) + 1 + 2 * length (values_for cells attr) < 2 ^ 64
room_for cells attr few = omega (arith, bounded cells attr)

pub room_alone : (cells : List CellValues) (attr : ℕ) → AreFew cells → values_before cells attr + length (values_for cells attr) < 2 ^ 64
room_alone cells attr few = omega (arith, bounded cells attr)
