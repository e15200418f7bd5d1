use Rattle.std.proofs.Common.{◌≡◌, ◌++◌}
use Rattle.view_refusal.specs.Full.{counts_text}
use Rattle.view_refusal.proofs.full.push_counts.Given as goal

-- what was told, with what is left, is all of it
abbrev pub invariant-loop-table : goal.invariant-loop-table
invariant-loop-table l = l.out.items ++ counts_text l.table-iterator.a.rest.now l.table-iterator.b.rest.now ≡ l.fn.out.items ++ counts_text l.tables l.all
