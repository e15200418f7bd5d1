use Rattle.std.proofs.Common.{◌≡◌, List, ℕ, take}
use Rattle.std.specs.Str.{bytes_eq}
use Rattle.std.specs.HashSet.{contains_by}
use Rattle.text_lists.specs.Repeats.{is_among}
use Rattle.table_flaws.proofs.columns.all_of.Given as goal

abbrev pub invariant-loop-value : goal.invariant-loop-value
invariant-loop-value l = (q : List ℕ) → contains_by (λ key. bytes_eq q key.now) l.all ≡ is_among bytes_eq (take l.value-index l.values) q
