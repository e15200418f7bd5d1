use Rattle.std.proofs.Common.{arith}
use Rattle.std.proofs.lemmas.Grind.{common_steps}
use Rattle.dep_search.specs.Settled.{IsSettled}
use Rattle.dep_search.proofs.Parted.{settled_more}
use Rattle.dep_search.proofs.facts.all_settled.Goals as goal

pub loop-a-preserved : goal.loop-a-preserved
loop-a-preserved c =
    let table = c.args.table.now in
    record {
      many = grind (arith, common_steps);
      each = rw c.in_ok-push.ensures.ok (settled_more (λ a settled. IsSettled table.rows.now table.support c.args.grouped.now.x a settled) c.loop-a.settled
          c.in_ok-settled_at.field-0 c.loop-a.a c.loop-a.invariant.many c.loop-a.invariant.each c.in_ok-settled_at.ensures);
    }
