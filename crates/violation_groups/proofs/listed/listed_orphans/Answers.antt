use Rattle.std.proofs.Common.{subst, sym}
use Rattle.std.specs.Prelude.{All}
use Rattle.violation_groups.specs.ByIds.{IsKnownKeyed, keyed_named}
use Rattle.violation_groups.specs.Listed.{listed_orphan_of}
use Rattle.violation_groups.proofs.Listing.{All-option, given-next}
use Rattle.violation_groups.proofs.listed.listed_orphans.Goals as goal

pub loop-k-preserved : goal.loop-k-preserved
loop-k-preserved c = record {
  rows = given-next (keyed_named c.args.bench.now.texts) (listed_orphan_of c.args.bench.now.history.present c.args.cind.now) c.args.found.now c.loop-k.k-index (0, 0) c.loop-k.rows.items c.push_found.new.rows.items c.in_ok-listed_orphan.field-0
      c.loop-k-test.true c.loop-k.invariant.rows c.in_ok-listed_orphan.ensures.row c.in_ok-push_found.ensures;
  known = subst (All (IsKnownKeyed c.args.bench.now.texts)) (sym c.in_ok-push_found.ensures)
      (All-option (IsKnownKeyed c.args.bench.now.texts) c.loop-k.rows.items c.in_ok-listed_orphan.field-0 c.loop-k.invariant.known c.in_ok-listed_orphan.ensures.known);
}
