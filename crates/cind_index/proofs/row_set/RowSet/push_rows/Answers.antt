use Rattle.cind_index.proofs.MapFacts.{on_ok}
use Rattle.cind_index.proofs.RowFacts.{appended_rows}
use Rattle.cind_index.proofs.row_set.RowSet.push_rows.Goals as goal

pub returns-in-More : goal.returns-in-More
returns-in-More c = on_ok c.push_all.result (λ is row. appended_rows c.args.found.now.items c.push_all.new.found.items c.args.self.now c.in-More.rows row c.in-More.is is) c.push_all.ensures
