use Rattle.std.proofs.Common.{sym, subst}
use Rattle.cind_index.specs.declared.side.Side.TheVariants.{Left}
use Rattle.cind_index.specs.RowsHeld.{has, rows_on, HoldsSoMany}
use Rattle.cind_index.proofs.CountFacts.{orphans_none, orphans_all}
use Rattle.cind_index.proofs.key_rows.KeyRows.count_orphans.Goals as goal

pub returns-then-has_answer : goal.returns-then-has_answer
returns-then-has_answer c = orphans_none c.args.self.now c.args.tableau_row.now (sym c.if-has_answer.ensures)

pub returns : goal.returns
returns c =
    orphans_all c.args.self.now c.args.tableau_row.now c.count_lefts.result (sym c.if-has_answer.ensures)
    (subst (λ xs. HoldsSoMany (has (rows_on c.args.self.now Left) xs) c.count_lefts.result) c.as_slice.ensures c.count_lefts.ensures)
