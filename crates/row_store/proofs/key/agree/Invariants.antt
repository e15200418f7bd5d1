use Rattle.std.proofs.Common.{◌≡◌, take}
use Rattle.row_store.specs.Tuple.{ids_at, ids_of}
use Rattle.row_store.proofs.key.agree.Given as goal

-- the attributes that were passed
abbrev pub invariant-loop-attribute : goal.invariant-loop-attribute
invariant-loop-attribute l = ids_at (ids_of l.one) (take l.attribute-index l.attributes) ≡ ids_at (ids_of l.other) (take l.attribute-index l.attributes)
