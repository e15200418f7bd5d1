-- The names of a question are as many as its variables and cells, and each demanded cell has one.
use Rattle.std.proofs.Common.{◌≡◌, ℕ, ◌+◌, Bool, true, false, cond, List, [], ◌∷◌, ◌++◌, length, Option, Some, refl, arith, length-append}
use Rattle.std.specs.Prelude.{◌==◌}
use Rattle.std.specs.List.{AllZip}
use Rattle.schema_core.specs.declared.schema.Attr.{Attr}
use Rattle.rule_parser.specs.RuleText.{attr_name}
use Rattle.case_tree.specs.declared.clauses.VarCell.{VarCell}
use Rattle.cell_values.specs.declared.values.CellValues.{CellValues}
use Rattle.cell_values.specs.declared.which.TupleCount.{TupleCount}
use Rattle.cell_values.specs.declared.which.TupleCount.TheVariants.{One, Two}
use Rattle.cell_values.specs.Layout as layout
use Rattle.cell_values.specs.Layout.{var_total, var_width}
use Rattle.cell_values.proofs.Bounds.{total_cons}
use Rattle.cert_text.specs.declared.answers.Kind.{Kind}
use Rattle.cert_text.specs.declared.answers.Kind.TheVariants.{Consistency, Implication}
use Rattle.cell_values.specs.declared.which.Which.{Which}
use Rattle.cell_values.specs.declared.which.Which.TheVariants.{Only, First, Second}
use Rattle.cert_text.specs.declared.names.CellName.{CellName}
use Rattle.cert_check.specs.Names.{names_of, cell_name, attr_vars, value_cells, attr_cells}
use Rattle.cert_check.proofs.NamePlaces.{value_vars_count, pair_count}

-- how many tuples a question of the kind is about
abbrev pub tuples_in : Kind → TupleCount
tuples_in Consistency = One
tuples_in Implication = Two

-- ---- variables

count_attr : (kind : Kind) (attr : List ℕ) (cell : CellValues) → length (attr_vars kind attr cell.values) ≡ var_width (tuples_in kind) cell
count_attr Consistency attr cell = value_vars_count Only attr cell.values
count_attr Implication attr cell = pair_count attr cell.values

pub count_vars : (kind : Kind) (attrs : List Attr) (cells : List CellValues) → length (names_of kind attrs cells).vars ≡ var_total (tuples_in kind) cells
count_vars kind attrs [] = refl
count_vars kind attrs (cell ∷ cells) =
    let its = attr_vars kind (attr_name attrs cell.attr) cell.values in
    omega (arith, length-append its (names_of kind attrs cells).vars, count_attr kind (attr_name attrs cell.attr) cell, count_vars kind attrs cells, total_cons (tuples_in kind) cell cells)

-- ---- cells

-- a demanded cell has a name
abbrev pub HasName : VarCell → Option CellName → Type 0
HasName cell name = cell.demanded ≡ true → (named : CellName) × (name ≡ Some named)

pub zip-append : {X Y : Type 0} (R : X → Y → Type 0) (xs more : List X) (ys others : List Y) → AllZip R xs ys → AllZip R more others → AllZip R (xs ++ more) (ys ++ others)
zip-append R [] more [] others first second = second
zip-append R [] more (y ∷ ys) others first second = absurd first
zip-append R (x ∷ xs) more [] others first second = absurd first
zip-append R (x ∷ xs) more (y ∷ ys) others first second = (first.0, zip-append R xs more ys others first.1 second)

-- the cell of the values of an attribute in a tuple
value_cell_named : (tuple : Which) (attr : List ℕ) (values : List (List ℕ)) (cell : VarCell) → AllZip HasName (cond (length values == 0) [] (cell ∷ [])) (value_cells tuple attr values)
value_cell_named tuple attr values cell = by_test (length values == 0) where
  by_test : (empty : Bool) → AllZip HasName (cond empty [] (cell ∷ [])) (cond empty [] (Some (cell_name tuple attr) ∷ []))
  by_test true = tt
  by_test false = (λ demanded. (cell_name tuple attr, refl), tt)

attr_named : (kind : Kind) (attr : List ℕ) (first : ℕ) (cell : CellValues) → AllZip HasName (layout.attr_cells (tuples_in kind) first cell) (attr_cells kind attr cell.values)
attr_named Consistency attr first cell = value_cell_named Only attr cell.values (record { first = first; count = length cell.values; demanded = cell.demanded })
attr_named Implication attr first cell =
    let one = first + 1 in
    let two = first + 1 + length cell.values in (
      λ demanded. absurd cc,
      zip-append HasName (layout.value_cell one cell) (layout.value_cell two cell) (value_cells First attr cell.values) (value_cells Second attr cell.values)
          (value_cell_named First attr cell.values (record { first = one; count = length cell.values; demanded = cell.demanded }))
          (value_cell_named Second attr cell.values (record { first = two; count = length cell.values; demanded = cell.demanded })),
    )

pub cells_named : (kind : Kind) (attrs : List Attr) (first : ℕ) (cells : List CellValues) → AllZip HasName (layout.var_cells (tuples_in kind) first cells) (names_of kind attrs cells).cells
cells_named kind attrs first [] = tt
cells_named kind attrs first (cell ∷ cells) =
    let behind = first + var_width (tuples_in kind) cell in
    zip-append HasName (layout.attr_cells (tuples_in kind) first cell) (layout.var_cells (tuples_in kind) behind cells) (attr_cells kind (attr_name attrs cell.attr) cell.values) (names_of kind attrs cells).cells
    (attr_named kind (attr_name attrs cell.attr) first cell) (cells_named kind attrs behind cells)
