use Rattle.std.proofs.Common.{◌≡◌, ℕ, ◌<◌, length}
use Rattle.std.specs.Prelude.{slice_index}
use Rattle.dep_search.specs.Leaders.{IsFirstPair}
use Rattle.dep_search.specs.Classes.{AreMarks}
use Rattle.dep_search.proofs.classes.first_in_classes.Given as goal

abbrev pub invariant-loop-first : goal.invariant-loop-first
invariant-loop-first l = record {
  long : length l.firsts.items ≡ length l.ids;
  marks : AreMarks l.classes.leaders l.ids l.marks.items;
  here : (r : ℕ) → r < length l.ids → slice_index l.classes.leaders r < l.first → IsFirstPair l.ids l.classes.leaders r (slice_index l.firsts.items r);
}
