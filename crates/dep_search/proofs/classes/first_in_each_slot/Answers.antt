use Rattle.std.proofs.Common.{◌∙◌, arith}
use Rattle.std.proofs.lemmas.List.{length-set}
use Rattle.dep_search.specs.Leaders.{IsFirstPair}
use Rattle.dep_search.proofs.Slots.{set_each}
use Rattle.dep_search.proofs.classes.first_in_each_slot.Goals as goal

pub loop-r-preserved : goal.loop-r-preserved
loop-r-preserved c = record {
  long = length-set c.loop-r.firsts.items c.loop-r.r c.in-Some.first ∙ c.loop-r.invariant.long;
  marks = c.in-Some.ensures.marks;
  each = set_each (IsFirstPair c.args.ids.now c.args.leaders.now) c.loop-r.firsts.items c.loop-r.r c.in-Some.first
      (omega (arith, c.loop-r.auto.r-end, c.loop-r-test.true, c.loop-r.invariant.long)) c.loop-r.invariant.each c.in-Some.ensures.first;
}
