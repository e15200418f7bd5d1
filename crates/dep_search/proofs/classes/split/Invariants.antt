use Rattle.std.proofs.Common.{◌≡◌, ◌≢◌, ℕ, ◌-◌, ◌<◌, ◌≤◌, length}
use Rattle.std.specs.Prelude.{slice_index}
use Rattle.dep_search.specs.Leaders.{IsFirstPair}
use Rattle.dep_search.specs.Classes.{AreMarks, AreSeenBelow}
use Rattle.dep_search.proofs.classes.split.Given as goal

abbrev pub invariant-loop-r : goal.invariant-loop-r
invariant-loop-r l = record {
  end : l.r ≤ length l.ids;
  long : length l.firsts.items ≡ length l.ids;
  at : l.r < length l.ids → slice_index l.classes.leaders l.r ≡ l.first;
  marks : AreMarks l.classes.leaders l.ids l.marks.items;
  seen : AreSeenBelow l.classes.leaders l.ids l.marks.items l.first l.r;
  here : (s : ℕ) → s < l.r → s < length l.ids → slice_index l.classes.leaders s ≡ l.first → IsFirstPair l.ids l.classes.leaders s (slice_index l.firsts.items s);
  others : (s : ℕ) → s < length l.ids → slice_index l.classes.leaders s ≢ l.first → slice_index l.firsts.items s ≡ slice_index l.initial.firsts.items s;
}

abbrev pub decreases-loop-r : goal.decreases-loop-r
decreases-loop-r l = length l.ids - l.r
