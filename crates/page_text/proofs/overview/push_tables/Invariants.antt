use Rattle.std.proofs.Common.{◌≡◌, ◌++◌}
use Rattle.html_text.specs.Elements.{each_place}
use Rattle.page_text.specs.Overview.{table_at}
use Rattle.page_text.proofs.overview.push_tables.Given as goal

abbrev pub invariant-loop-place : goal.invariant-loop-place
invariant-loop-place l = l.out.items ≡ l.fn.out.items ++ each_place (table_at l.tables l.rows) l.place
