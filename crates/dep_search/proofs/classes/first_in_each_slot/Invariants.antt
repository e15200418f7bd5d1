use Rattle.std.proofs.Common.{◌≡◌, ℕ, ◌<◌, length}
use Rattle.std.specs.Prelude.{slice_index}
use Rattle.dep_search.specs.Leaders.{IsFirstPair}
use Rattle.dep_search.specs.Classes.{AreSlots}
use Rattle.dep_search.proofs.classes.first_in_each_slot.Given as goal

abbrev pub invariant-loop-r : goal.invariant-loop-r
invariant-loop-r l = record {
  long : length l.firsts.items ≡ length l.ids;
  marks : AreSlots l.ids l.leaders l.bases l.marks.items l.r;
  each : (s : ℕ) → s < l.r → IsFirstPair l.ids l.leaders s (slice_index l.firsts.items s);
}
