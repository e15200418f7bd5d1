use Rattle.std.proofs.Common.{◌≡◌, map, take}
use Rattle.std.specs.Prelude.{All, filter_map}
use Rattle.violation_groups.specs.ByIds.{IsKnownRow, row_named}
use Rattle.violation_groups.specs.Listed.{listed_of}
use Rattle.violation_groups.proofs.listed.listed_rows.Given as goal

abbrev pub invariant-loop-k : goal.invariant-loop-k
invariant-loop-k l = record {
  rows : map (row_named l.bench.texts) l.rows.items ≡ filter_map (listed_of l.bench.history.present l.dep) (take l.k-index l.found);
  known : All (IsKnownRow l.bench.texts) l.rows.items;
}
