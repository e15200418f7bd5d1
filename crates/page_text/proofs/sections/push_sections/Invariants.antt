use Rattle.std.proofs.Common.{◌≡◌, ◌++◌}
use Rattle.html_text.specs.Elements.{each_place}
use Rattle.page_text.specs.Sections.{section_at}
use Rattle.page_text.proofs.sections.push_sections.Given as goal

abbrev pub invariant-loop-place : goal.invariant-loop-place
invariant-loop-place g l = l.out.items ≡ l.fn.out.items ++ each_place (section_at g.R.Rule.kind l.tables l.rules l.read l.first l.counts l.found) l.place
