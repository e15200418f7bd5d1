use Rattle.std.proofs.Common.{None, subst, sym}
use Rattle.std.specs.Prelude.{All}
use Rattle.violation_groups.specs.ByIds.{IsKnownRow, row_named}
use Rattle.violation_groups.specs.Listed.{listed_of}
use Rattle.violation_groups.proofs.Listing.{All-option, given-next}
use Rattle.violation_groups.proofs.listed.listed_rows.Goals as goal

pub loop-k-preserved : goal.loop-k-preserved
loop-k-preserved c = record {
  rows = given-next (row_named c.args.bench.now.texts) (listed_of c.args.bench.now.history.present c.args.dep.now) c.args.found.now c.loop-k.k-index (0, record { row = 0; partner = None }) c.loop-k.rows.items c.push_found.new.rows.items c.in_ok-listed_row.field-0
      c.loop-k-test.true c.loop-k.invariant.rows c.in_ok-listed_row.ensures.row c.in_ok-push_found.ensures;
  known = subst (All (IsKnownRow c.args.bench.now.texts)) (sym c.in_ok-push_found.ensures)
      (All-option (IsKnownRow c.args.bench.now.texts) c.loop-k.rows.items c.in_ok-listed_row.field-0 c.loop-k.invariant.known c.in_ok-listed_row.ensures.known);
}
