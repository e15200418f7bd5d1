use Rattle.std.proofs.Common.{◌≡◌, ◌<◌, ℕ, List, length, get_or, subst}
use Rattle.cfd_semantics.specs.declared.dependency.TableauRow.{TableauRow}
use Rattle.cell_values.specs.TableRules.{cells_in_row, cells_in_rule}
use Rattle.cell_values.specs.Values.{gather}
use Rattle.cell_values.proofs.Gathering.{gather_step}
use Rattle.cell_values.proofs.values.Gathered.add_cells_in.Goals as goal

pub loop-row-preserved : goal.loop-row-preserved
loop-row-preserved c =
    let same : c.as_slice-row-items.result.now ≡ c.args.rule.now.rows = c.as_slice-row-items.ensures in
    let within : c.loop-row.row-index < length c.args.rule.now.rows = subst (λ (rows : List (TableauRow (List ℕ))). c.loop-row.row-index < length rows) same c.loop-row-test.true in
    let is : c.row-item.result ≡ get_or c.args.rule.now.rows c.loop-row.row-index c.row-item.result = subst (λ (rows : List (TableauRow (List ℕ))). c.row-item.result ≡ get_or rows c.loop-row.row-index c.row-item.result) same c.row-item.is in
    gather_step (cells_in_row c.args.attr c.args.rule.now) c.loop-row.self c.add_row.new.self (gather c.args.self.now (cells_in_rule c.args.attr c.args.rule.now)) c.args.rule.now.rows c.loop-row.row-index c.row-item.result
    within is c.in_ok-add_row.ensures c.loop-row.invariant
