use Rattle.html_text.proofs.Places.{each_place-more}
use Rattle.page_text.specs.Overview.{table_at}
use Rattle.page_text.proofs.overview.push_tables.Goals as goal

pub loop-place-preserved : goal.loop-place-preserved
loop-place-preserved c = each_place-more (table_at c.args.tables.now c.args.rows.now) c.loop-place.place c.args.out.now.items c.loop-place.out.items c.push_table_at.new.out.items c.loop-place.invariant c.in_ok-push_table_at.ensures
