use Rattle.std.proofs.Common.{◌≡◌, false, [], ◌∷◌, arith}
use Rattle.std.proofs.lemmas.Grind.{common_steps}
use Rattle.dep_search.specs.Found.{determines}
use Rattle.dep_search.proofs.Agreed.{apart_more}
use Rattle.dep_search.proofs.samples.all_apart.Goals as goal

pub loop-a-preserved : goal.loop-a-preserved
loop-a-preserved c = record {
  many = grind (arith, common_steps);
  each = rw c.in_ok-push.ensures.ok (apart_more (λ a. determines c.args.table.now.rows.now (c.args.one ∷ c.args.other ∷ []) a ≡ false) c.loop-a.apart
      c.is_apart_at.result c.loop-a.a c.loop-a.invariant.many c.loop-a.invariant.each c.is_apart_at.ensures);
}
