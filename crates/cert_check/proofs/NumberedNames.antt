-- The attributes that occur in rules of a table, with their names and values.
use Rattle.std.proofs.Common.{◌<◌, List, length, get_or}
use Rattle.std.specs.Prelude.{All}
use Rattle.std.specs.List.{AllByRecursion}
use Rattle.std.proofs.lemmas.List.Elements.{Contains-get_or, recursion_from_All}
use Rattle.text_lists.specs.Repeats.{AreDistinct}
use Rattle.schema_core.specs.Schemas.{IsValidAttr, names_of_attrs}
use Rattle.schema_core.specs.declared.schema.Attr.{Attr}
use Rattle.cell_values.specs.declared.values.CellValues.{CellValues}
use Rattle.cell_values.specs.TableRules.{Rule}
use Rattle.cell_values.specs.Values.{occurring}
use Rattle.cell_values.proofs.Texts.{good_at}
use Rattle.cell_values.proofs.Occurs.{rises}
use Rattle.cell_values.proofs.Order.{rising_of}
use Rattle.cert_check.proofs.NamesApart.{AreNumbered, AreOnce, once_if_distinct}
use Rattle.cert_check.proofs.Occurring.{occurring_within}

values_once : (attrs : List Attr) (rules : List Rule) → All IsValidAttr attrs → AllByRecursion (λ (cell : CellValues). AreOnce cell.values) (occurring attrs rules)
values_once attrs rules valid =
    recursion_from_All (λ (cell : CellValues). AreOnce cell.values) (occurring attrs rules) (λ k d within.
    let cell : CellValues = get_or (occurring attrs rules) k d in
    once_if_distinct cell.values (good_at attrs (recursion_from_All IsValidAttr attrs valid) rules cell (Contains-get_or (occurring attrs rules) k d within)).distinct)

pub numbered : (attrs : List Attr) (rules : List Rule) → All IsValidAttr attrs → AreDistinct (names_of_attrs attrs) → AreNumbered attrs (occurring attrs rules)
numbered attrs rules valid distinct = record {
  distinct = distinct;
  rising = rising_of 0 (occurring attrs rules) (rises attrs rules);
  within = recursion_from_All (λ (cell : CellValues). cell.attr < length attrs) (occurring attrs rules) (occurring_within attrs rules);
  once = values_once attrs rules valid;
}
