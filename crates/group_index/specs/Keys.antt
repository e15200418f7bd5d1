-- The key of a row's group.
use Rattle.std.specs.Prelude.{ℕ, Bool, ◌&&◌, ◌==◌, List, slice_index}
use Rattle.std.specs.Str.{bytes_eq}
use Rattle.row_store.specs.Tuple.{ids_at}

-- the two tuples have the same ids on X and on A
abbrev pub gives_alike : List ℕ → List ℕ → List ℕ → ℕ → Bool
gives_alike one other x a = (slice_index one a == slice_index other a) && bytes_eq (ids_at one x) (ids_at other x)
