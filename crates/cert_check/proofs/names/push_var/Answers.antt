use Rattle.std.proofs.Common.{◌≡◌, ℕ, [], ◌+◌, ◌-◌, ◌<◌, ◌≤◌, ◌++◌, List, length, drop, Option, sym, subst, arith}
use Rattle.std.specs.Prelude.{IfSome, OnOk, slice_get}
use Rattle.std.specs.List.{flat_map}
use Rattle.std.specs.Option.{option_map_or}
use Rattle.line_grammar.specs.Spelling.{line_text}
use Rattle.rule_parser.specs.RuleText.{attr_name}
use Rattle.cell_values.specs.declared.values.CellValues.{CellValues}
use Rattle.cert_text.specs.CertText.{var_parts}
use Rattle.cert_text.specs.Written.{IsVarOf}
use Rattle.cert_text.specs.declared.names.VarName.{VarName}
use Rattle.cert_check.specs.Names.{attr_vars}
use Rattle.cert_check.proofs.Found.{IsAt, at_here, at_later, at_next}
use Rattle.cert_check.proofs.names.push_var.Goals as goal

pub returns-then-place-count-clause-text : goal.returns-then-place-count-clause-text
returns-then-place-count-clause-text c =
    let part = λ (cell : CellValues). attr_vars c.args.kind (attr_name c.args.attrs.now cell.attr) cell.values in
    let all = c.args.values.now in
    let i = c.loop-cell.cell-index in
    let item = c.cell-item.result in
    let at = at_next part all i c.args.number c.loop-cell.place item c.loop-cell-test.true c.cell-item.is c.loop-cell.invariant.at in
    let within : c.loop-cell.place < length (part item) = omega (arith, c.var_count-count.ensures (attr_name c.args.attrs.now item.attr), c.if-place-count.true) in
    let same = at_here part all (drop (i + 1) all) item c.args.number c.loop-cell.place at within in
    subst (λ (out : List ℕ). OnOk c.push_var_of.result (c.push_var_of.new.out.items ≡ out ++ line_text (option_map_or var_parts (slice_get (flat_map part all) c.args.number) []))) c.loop-cell.invariant.same
    (subst (λ (found : Option VarName). OnOk c.push_var_of.result (c.push_var_of.new.out.items ≡ c.loop-cell.out.items ++ line_text (option_map_or var_parts found []))) (sym same) c.push_var_of.ensures.text)

pub returns-then-place-count-clause-fit : goal.returns-then-place-count-clause-fit
returns-then-place-count-clause-fit c =
    let part = λ (cell : CellValues). attr_vars c.args.kind (attr_name c.args.attrs.now cell.attr) cell.values in
    let all = c.args.values.now in
    let i = c.loop-cell.cell-index in
    let item = c.cell-item.result in
    let at = at_next part all i c.args.number c.loop-cell.place item c.loop-cell-test.true c.cell-item.is c.loop-cell.invariant.at in
    let within : c.loop-cell.place < length (part item) = omega (arith, c.var_count-count.ensures (attr_name c.args.attrs.now item.attr), c.if-place-count.true) in
    let same = at_here part all (drop (i + 1) all) item c.args.number c.loop-cell.place at within in
    subst (λ (found : Option VarName). IfSome found (IsVarOf c.args.kind)) (sym same) c.push_var_of.ensures.fit

pub loop-cell-preserved : goal.loop-cell-preserved
loop-cell-preserved c =
    let part = λ (cell : CellValues). attr_vars c.args.kind (attr_name c.args.attrs.now cell.attr) cell.values in
    let all = c.args.values.now in
    let i = c.loop-cell.cell-index in
    let item = c.cell-item.result in
    let at = at_next part all i c.args.number c.loop-cell.place item c.loop-cell-test.true c.cell-item.is c.loop-cell.invariant.at in
    let count = c.var_count-count.ensures (attr_name c.args.attrs.now item.attr) in
    let past : length (part item) ≤ c.loop-cell.place = omega (arith, count, c.if-place-count.false) in
    record {
      at = subst (λ n. IsAt part all (drop (i + 1) all) c.args.number (c.loop-cell.place - n)) (sym count) (at_later part all (drop (i + 1) all) item c.args.number c.loop-cell.place at past);
      same = c.loop-cell.invariant.same;
    }
