use Rattle.std.proofs.Common.{◌≡◌, ℕ, [], ◌+◌, ◌<◌, ◌++◌, List, length, drop, Option, sym, subst, arith}
use Rattle.std.specs.Prelude.{OnOk}
use Rattle.std.specs.List.{flat_map}
use Rattle.std.specs.Option.{option_and_then, option_map_or}
use Rattle.line_grammar.specs.Spelling.{line_text}
use Rattle.rule_parser.specs.RuleText.{attr_name}
use Rattle.cell_values.specs.declared.values.CellValues.{CellValues}
use Rattle.cert_text.specs.CertText.{cell_name_parts}
use Rattle.cert_text.specs.declared.names.CellName.{CellName}
use Rattle.cert_check.specs.Names.{attr_cells, named_cell}
use Rattle.cert_check.proofs.Found.{at_here, at_next}
use Rattle.cert_check.proofs.names.push_cell.Goals as goal

pub returns-then-place-count-clause-text : goal.returns-then-place-count-clause-text
returns-then-place-count-clause-text c =
    let part = λ (cell : CellValues). attr_cells c.args.kind (attr_name c.args.attrs.now cell.attr) cell.values in
    let all = c.args.values.now in
    let i = c.loop-cell.cell-index in
    let item = c.cell-item.result in
    let at = at_next part all i c.args.number c.loop-cell.place item c.loop-cell-test.true c.cell-item.is c.loop-cell.invariant.at in
    let within : c.loop-cell.place < length (part item) = omega (arith, c.cell_count-count.ensures.count (attr_name c.args.attrs.now item.attr), c.if-place-count.true) in
    let same = at_here part all (drop (i + 1) all) item c.args.number c.loop-cell.place at within in
    subst (λ (out : List ℕ). OnOk c.push_cell_of.result (c.push_cell_of.new.out.items ≡ out ++ line_text (option_map_or cell_name_parts (named_cell (flat_map part all) c.args.number) []))) c.loop-cell.invariant.same
    (subst (λ (found : Option (Option CellName)). OnOk c.push_cell_of.result (c.push_cell_of.new.out.items ≡ c.loop-cell.out.items ++ line_text (option_map_or cell_name_parts (option_and_then (λ (cell : Option CellName). cell) found) []))) (sym same) c.push_cell_of.ensures.text)
