use Rattle.std.proofs.Common.{◌≡◌, take}
use Rattle.dep_search.specs.Settled.{IsGrouped}
use Rattle.dep_search.proofs.grouped.grouped_by.Given as goal

abbrev pub invariant-loop-attr : goal.invariant-loop-attr
invariant-loop-attr l = record {
  x : l.grouped.x ≡ take l.attr-index l.x;
  rows : IsGrouped l.table.rows.now l.grouped;
}
