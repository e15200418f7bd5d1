use Rattle.std.proofs.Common.{drop}
use Rattle.rule_parser.specs.RuleText.{attr_name}
use Rattle.cell_values.specs.declared.values.CellValues.{CellValues}
use Rattle.cert_check.specs.Names.{attr_cells, is_cell}
use Rattle.cert_check.proofs.NamePlaces.{IsOn}
use Rattle.cert_check.proofs.names.cell_number.Given as goal

abbrev pub invariant-loop-cell : goal.invariant-loop-cell
invariant-loop-cell l = IsOn (λ (cell : CellValues). attr_cells l.kind (attr_name l.attrs cell.attr) cell.values) (is_cell l.name) l.values (drop l.cell-index l.values) l.first
