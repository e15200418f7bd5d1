use Rattle.std.proofs.Common.{◌≡◌, List, ℕ, Bor, take, drop}
use Rattle.std.specs.Str.{bytes_eq}
use Rattle.std.specs.BTreeSet.{contains}
use Rattle.std.specs.Cmp.Lexicographic.{slice_cmp}
use Rattle.std.specs.Ordering.{nat_cmp}
use Rattle.text_lists.specs.Repeats.{is_among, repeated_after, first_repeated}
use Rattle.text_lists.proofs.repeats.first_repeated.Given as goal

abbrev pub invariant-loop-text : goal.invariant-loop-text
invariant-loop-text l = record {
  left : first_repeated bytes_eq l.texts ≡ repeated_after bytes_eq (take l.text-index l.texts) (drop l.text-index l.texts);
  seen : (q : Bor (List ℕ)) → contains (λ x y. slice_cmp nat_cmp x.now y.now) l.seen q ≡ is_among bytes_eq (take l.text-index l.texts) q.now;
}
