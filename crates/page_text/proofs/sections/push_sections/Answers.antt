use Rattle.html_text.proofs.Places.{each_place-more}
use Rattle.page_text.specs.Sections.{section_at}
use Rattle.page_text.proofs.sections.push_sections.Goals as goal

pub loop-place-preserved : goal.loop-place-preserved
loop-place-preserved g c = each_place-more (section_at g.R.Rule.kind c.args.tables.now c.args.rules.now c.args.read.now c.args.first c.args.counts.now c.args.found.now) c.loop-place.place c.args.out.now.items c.loop-place.out.items c.push_section_at.new.out.items c.loop-place.invariant c.in_ok-push_section_at.ensures
