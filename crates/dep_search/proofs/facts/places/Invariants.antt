use Rattle.std.proofs.Common.{take}
use Rattle.dep_search.specs.Settled.{StandAt}
use Rattle.dep_search.specs.Sides.{AreTrue}
use Rattle.dep_search.proofs.facts.places.Given as goal

abbrev pub invariant-loop-part : goal.invariant-loop-part
invariant-loop-part l = record {
  places : StandAt l.store l.places (take l.part-index l.parts);
  store : AreTrue l.table l.store;
}
