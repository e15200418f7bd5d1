use Rattle.std.proofs.Common.{◌≡◌, map, take}
use Rattle.std.specs.Prelude.{All, filter_map}
use Rattle.violation_groups.specs.ByIds.{IsKnownKeyed, keyed_named}
use Rattle.violation_groups.specs.Listed.{listed_orphan_of}
use Rattle.violation_groups.proofs.listed.listed_orphans.Given as goal

abbrev pub invariant-loop-k : goal.invariant-loop-k
invariant-loop-k l = record {
  rows : map (keyed_named l.bench.texts) l.rows.items ≡ filter_map (listed_orphan_of l.bench.history.present l.cind) (take l.k-index l.found);
  known : All (IsKnownKeyed l.bench.texts) l.rows.items;
}
