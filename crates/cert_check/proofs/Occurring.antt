-- The attributes that occur are those of the table.
use Rattle.std.proofs.Common.{◌≡◌, ◌<◌, List, length, get_or, subst}
use Rattle.std.specs.Prelude.{All}
use Rattle.std.proofs.lemmas.List.Elements.{Contains-get_or}
use Rattle.schema_core.specs.declared.schema.Attr.{Attr}
use Rattle.cell_values.specs.declared.values.CellValues.{CellValues}
use Rattle.cell_values.specs.TableRules.{Rule}
use Rattle.cell_values.specs.Values.{occurring}
use Rattle.cell_values.proofs.Occurs.{occurring_from}

pub occurring_within : (attrs : List Attr) (rules : List Rule) → All (λ (cell : CellValues). cell.attr < length attrs) (occurring attrs rules)
occurring_within attrs rules k d within =
    let from = occurring_from attrs rules (get_or (occurring attrs rules) k d) (Contains-get_or (occurring attrs rules) k d within) in
    subst (λ (cell : CellValues). cell.attr < length attrs) from.is from.within

-- also where both are only known to be those of the table
pub within_of : (attrs own : List Attr) (rules : List Rule) (values : List CellValues) → attrs ≡ own → values ≡ occurring own rules → All (λ (cell : CellValues). cell.attr < length attrs) values
within_of attrs own rules values attrs-are values-are = rw attrs-are (rw values-are (occurring_within own rules))
