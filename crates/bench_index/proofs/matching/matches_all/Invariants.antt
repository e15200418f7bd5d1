use Rattle.std.proofs.Common.{◌≡◌, drop}
use Rattle.std.specs.Str.{bytes_eq}
use Rattle.cfd_semantics.specs.Pattern.{all_match}
use Rattle.row_store.specs.Tuple.{ids_of}
use Rattle.bench_index.specs.Lists.{texts_at}
use Rattle.bench_index.proofs.matching.matches_all.Given as goal

-- what is left decides
abbrev pub invariant-loop-place : goal.invariant-loop-place
invariant-loop-place l =
    all_match bytes_eq l.cells (texts_at l.pool (ids_of l.tuple) l.x) ≡ all_match bytes_eq (drop l.place l.cells) (texts_at l.pool (ids_of l.tuple) (drop l.place l.x))
