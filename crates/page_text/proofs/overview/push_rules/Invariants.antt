use Rattle.std.proofs.Common.{◌≡◌, ◌++◌}
use Rattle.html_text.specs.Elements.{each_place}
use Rattle.page_text.specs.Overview.{rule_row_at}
use Rattle.page_text.proofs.overview.push_rules.Given as goal

abbrev pub invariant-loop-place : goal.invariant-loop-place
invariant-loop-place g l = l.out.items ≡ l.fn.out.items ++ each_place (rule_row_at g.R.Rule.kind l.tables l.rules l.counts l.largest) l.place
