use Rattle.std.proofs.Common.{◌≡◌, drop}
use Rattle.rule_parser.specs.RuleText.{attr_name}
use Rattle.cell_values.specs.declared.values.CellValues.{CellValues}
use Rattle.cert_check.specs.Names.{attr_vars}
use Rattle.cert_check.proofs.Found.{IsAt}
use Rattle.cert_check.proofs.names.push_var.Given as goal

abbrev pub invariant-loop-cell : goal.invariant-loop-cell
invariant-loop-cell l = record {
  at : IsAt (λ (cell : CellValues). attr_vars l.kind (attr_name l.attrs cell.attr) cell.values) l.values (drop l.cell-index l.values) l.number l.place;
  same : l.out.items ≡ l.initial.out.items;
}
