use Rattle.std.proofs.Common.{◌≡◌, ℕ, Bool, false, Option, Some, sym, ◌+◌, ◌≤◌, length, arith, subst}
use Rattle.std.specs.Prelude.{IfOk, find, nat_eq, slice_index_or}
use Rattle.std.proofs.lemmas.List.Elements.{All-contains}
use Rattle.cell_values.specs.declared.values.CellValues.{CellValues}
use Rattle.cell_values.specs.Layout.{attr_var, count_of, value_var, var_width}
use Rattle.cell_values.specs.Readings.{attr_text, value_text}
use Rattle.cell_values.proofs.Bounds.{found_attr, found_within, value_within}
use Rattle.cell_values.proofs.readings.attr_text.Goals as goal

pub value_text-requires-clause-bound : goal.value_text-requires-clause-bound
value_text-requires-clause-bound c =
    let cells = c.args.cells.now in
    let cell = c.in-Some.cell.now in
    let found : find (λ (x : CellValues). nat_eq x.attr c.args.attr) cells ≡ Some cell = sym c.in-Some.ensures in
    All-contains (λ (x : CellValues). x.constants ≤ length x.values) cells cell c.requires.constants (found_attr cells c.args.attr cell found).1

pub value_text-requires-clause-told : goal.value_text-requires-clause-told
value_text-requires-clause-told c =
    let cells = c.args.cells.now in
    let cell = c.in-Some.cell.now in
    let count = count_of c.args.which in
    let found : find (λ (x : CellValues). nat_eq x.attr c.args.attr) cells ≡ Some cell = sym c.in-Some.ensures in
    let within = found_within count cells c.args.attr cell found in
    subst (λ (n : ℕ). attr_var count cells n + var_width count cell ≤ length c.args.truth.now) (sym (found_attr cells c.args.attr cell found).0) (omega (arith, within, c.requires.told))

pub value_text-requires-clause-own : goal.value_text-requires-clause-own
value_text-requires-clause-own c =
    let cells = c.args.cells.now in
    let cell = c.in-Some.cell.now in
    let which = c.args.which in
    let found : find (λ (x : CellValues). nat_eq x.attr c.args.attr) cells ≡ Some cell = sym c.in-Some.ensures in
    subst (λ (n : ℕ). value_var which cells n + length cell.values ≤ length c.args.truth.now) (sym (found_attr cells c.args.attr cell found).0) (omega (arith, value_within which cells c.args.attr cell found, c.requires.told))

pub returns-in-Some : goal.returns-in-Some
returns-in-Some c =
    let cells = c.args.cells.now in
    let cell = c.in-Some.cell.now in
    let truth : ℕ → Bool = λ var. slice_index_or c.args.truth.now var false in
    let found : find (λ (x : CellValues). nat_eq x.attr c.args.attr) cells ≡ Some cell = sym c.in-Some.ensures in
    let named = (found_attr cells c.args.attr cell found).0 in
    subst (λ (o : Option CellValues). IfOk c.value_text.result (λ text. text ≡ attr_text c.args.which cells truth c.args.attr c.args.domain.now o)) (sym found)
    (subst (λ (n : ℕ). IfOk c.value_text.result (λ text. text ≡ value_text c.args.which cells truth n cell)) named c.value_text.ensures)
