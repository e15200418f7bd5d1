use Rattle.std.proofs.Common.{◌∙◌}
use Rattle.dep_search.proofs.Known.{stand_more}
use Rattle.dep_search.proofs.facts.places.Goals as goal

pub loop-part-preserved : goal.loop-part-preserved
loop-part-preserved c = record {
  places = rw c.in_ok-push.ensures.ok (stand_more c.loop-part.store c.place.new.store c.loop-part.places c.args.parts.now c.loop-part.part-index c.in_ok-place.place
      c.as_slice.result.now c.part-item.result c.loop-part-test.true (c.as_slice.ensures ∙ c.part-item.is) c.in_ok-place.ensures.kept c.loop-part.invariant.places c.in_ok-place.ensures.place);
  store = c.in_ok-place.ensures.store;
}
