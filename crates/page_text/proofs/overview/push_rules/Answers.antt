use Rattle.html_text.proofs.Places.{each_place-more}
use Rattle.page_text.specs.Overview.{rule_row_at}
use Rattle.page_text.proofs.overview.push_rules.Goals as goal

pub loop-place-preserved : goal.loop-place-preserved
loop-place-preserved g c = each_place-more (rule_row_at g.R.Rule.kind c.args.tables.now c.args.rules.now c.args.counts.now c.args.largest) c.loop-place.place c.args.out.now.items c.loop-place.out.items c.push_rule_at.new.out.items c.loop-place.invariant c.in_ok-push_rule_at.ensures
