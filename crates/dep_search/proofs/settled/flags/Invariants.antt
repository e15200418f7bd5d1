use Rattle.std.proofs.Common.{◌≡◌, ◌⊎◌, ℕ, ◌<◌, true, false, length}
use Rattle.std.specs.Prelude.{slice_index, slice_index_or}
use Rattle.dep_search.specs.Classes.{is_alike}
use Rattle.dep_search.proofs.settled.flags.Given as goal

abbrev pub invariant-loop-k : goal.invariant-loop-k
invariant-loop-k l = record {
  long : (length l.flags.items ≡ 0) ⊎ (length l.flags.items ≡ length l.ids);
  sound : (r : ℕ) → r < length l.ids → slice_index_or l.flags.items r false ≡ true → is_alike l.classes.leaders l.ids (slice_index l.classes.leaders r) ≡ true;
  complete : (k r : ℕ) → k < l.k → r < length l.ids → slice_index l.classes.leaders r ≡ slice_index l.leads k
      → is_alike l.classes.leaders l.ids (slice_index l.leads k) ≡ true → slice_index_or l.flags.items r false ≡ true;
}
