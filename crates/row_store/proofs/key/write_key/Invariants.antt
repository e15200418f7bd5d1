use Rattle.std.proofs.Common.{◌≡◌, take}
use Rattle.row_store.specs.Tuple.{ids_at, ids_of}
use Rattle.row_store.proofs.key.write_key.Given as goal

-- the ids of the attributes that were passed
abbrev pub invariant-loop-attribute : goal.invariant-loop-attribute
invariant-loop-attribute l = record {
  ids : l.key.items ≡ ids_at (ids_of l.tuple) (take l.attribute-index l.attributes);
  room : l.key.capacity ≡ l.initial.key.capacity;
}
