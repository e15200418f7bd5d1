use Rattle.std.proofs.Common.{sym, subst}
use Rattle.cind_index.specs.declared.row_set.RowSet.{RowSet}
use Rattle.cind_index.specs.RowsHeld.{is_in, HoldsSoMany}
use Rattle.cind_index.proofs.CountFacts.{holds_one, holds_members}
use Rattle.cind_index.proofs.row_set.RowSet.len.Goals as goal

pub returns-in-One : goal.returns-in-One
returns-in-One c = subst (λ (rows : RowSet). HoldsSoMany (is_in rows) 1) (sym c.in-One.is) (holds_one _)

pub returns-in-More : goal.returns-in-More
returns-in-More c = holds_members c.args.self.now c.in-More.rows c.len.result c.in-More.is c.len.ensures.ordered c.len.ensures.len
