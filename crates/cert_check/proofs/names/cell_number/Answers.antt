use Rattle.std.proofs.Common.{◌+◌, ◌<◌, ◌≤◌, length, drop, ◌∙◌, sym, ap, subst, arith}
use Rattle.std.specs.List.{position_or_len}
use Rattle.rule_parser.specs.RuleText.{attr_name}
use Rattle.cell_values.specs.declared.values.CellValues.{CellValues}
use Rattle.cert_check.specs.Names.{attr_cells, is_cell}
use Rattle.cert_check.proofs.NamePlaces.{IsOn, all_few, attr_cells_few, on_at, on_fits, on_here, on_later}
use Rattle.cert_check.proofs.names.cell_number.Goals as goal

pub overflow_add-result : goal.overflow_add-result
overflow_add-result c =
    let part = λ (cell : CellValues). attr_cells c.args.kind (attr_name c.args.attrs.now cell.attr) cell.values in
    let test = is_cell c.args.name.now in
    let all = c.args.values.now in
    let i = c.loop-cell.cell-index in
    let here = on_at part test all i c.loop-cell.first c.cell-item.result c.loop-cell-test.true c.cell-item.is c.loop-cell.invariant in
    omega (arith, c.cell_in-place.ensures.place, c.requires.few, all_few part all (λ cell. attr_cells_few c.args.kind (attr_name c.args.attrs.now cell.attr) cell.values), on_fits part test all (drop (i + 1) all) c.cell-item.result c.loop-cell.first here (omega (arith, c.requires.few, all_few part all (λ cell. attr_cells_few c.args.kind (attr_name c.args.attrs.now cell.attr) cell.values))))

pub returns-then-place-cell_count : goal.returns-then-place-cell_count
returns-then-place-cell_count c =
    let part = λ (cell : CellValues). attr_cells c.args.kind (attr_name c.args.attrs.now cell.attr) cell.values in
    let test = is_cell c.args.name.now in
    let all = c.args.values.now in
    let i = c.loop-cell.cell-index in
    let item = c.cell-item.result in
    let here = on_at part test all i c.loop-cell.first item c.loop-cell-test.true c.cell-item.is c.loop-cell.invariant in
    let within : position_or_len test (part item) < length (part item) = omega (arith, c.cell_in-place.ensures.place, c.cell_count.ensures.count (attr_name c.args.attrs.now item.attr), c.if-place-cell_count.true) in
    ap (λ n. c.loop-cell.first + n) c.cell_in-place.ensures.place ∙ on_here part test all (drop (i + 1) all) item c.loop-cell.first here within

pub overflow_add-first : goal.overflow_add-first
overflow_add-first c =
    let part = λ (cell : CellValues). attr_cells c.args.kind (attr_name c.args.attrs.now cell.attr) cell.values in
    let test = is_cell c.args.name.now in
    let all = c.args.values.now in
    let i = c.loop-cell.cell-index in
    let here = on_at part test all i c.loop-cell.first c.cell-item.result c.loop-cell-test.true c.cell-item.is c.loop-cell.invariant in
    omega (arith, c.cell_in-place.ensures.place, on_fits part test all (drop (i + 1) all) c.cell-item.result c.loop-cell.first here (omega (arith, c.requires.few, all_few part all (λ cell. attr_cells_few c.args.kind (attr_name c.args.attrs.now cell.attr) cell.values))))

pub loop-cell-preserved : goal.loop-cell-preserved
loop-cell-preserved c =
    let part = λ (cell : CellValues). attr_cells c.args.kind (attr_name c.args.attrs.now cell.attr) cell.values in
    let test = is_cell c.args.name.now in
    let all = c.args.values.now in
    let i = c.loop-cell.cell-index in
    let item = c.cell-item.result in
    let here = on_at part test all i c.loop-cell.first item c.loop-cell-test.true c.cell-item.is c.loop-cell.invariant in
    let past : length (part item) ≤ position_or_len test (part item) = omega (arith, c.cell_in-place.ensures.place, c.cell_count.ensures.count (attr_name c.args.attrs.now item.attr), c.if-place-cell_count.false) in
    subst (λ n. IsOn part test all (drop (i + 1) all) (c.loop-cell.first + n)) (sym c.cell_in-place.ensures.place) (on_later part test all (drop (i + 1) all) item c.loop-cell.first here past)
