use Rattle.std.proofs.Common.{◌≡◌, take}
use Rattle.row_store.specs.Tuple.{ids_at, ids_of}
use Rattle.cind_index.proofs.ids.has_ids.Given as goal

-- the attributes that were passed
abbrev pub invariant-loop-place : goal.invariant-loop-place
invariant-loop-place l = take l.place l.ids ≡ ids_at (ids_of l.tuple) (take l.place l.attributes)
