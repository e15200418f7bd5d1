-- What a map ends as, once a `&mut` to one of its values has ended.
use Rattle.std.specs.Prelude.{ℕ}
use Rattle.std.specs.Borrow.{Fml, RattleType, MutBor, Lends}
use Rattle.std.specs.HashMap.Lent.{HashMembers}
use Rattle.indexmap.specs.IndexMap.{set_value_at}
use Rattle.marked_map.specs.MarkedMap.{MarkedPairs}
use Rattle.marked_map.specs.contracts.MarkedMap.{the_row}

-- m with w as the value at the place
abbrev pub with_value : {K V : Type 0} → MarkedPairs K V → ℕ → V → MarkedPairs K V
with_value m place w = record m { pairs = set_value_at m.pairs place w }

-- the map ends with the last value written through r at the place
abbrev pub lends_value : (K V : RattleType) → HashMembers K.Denot → MutBor (MarkedPairs K.Denot V.Denot) → ℕ → MutBor V.Denot → Fml
lends_value K V key m place r = Lends (the_row K V (record { eq = key.eq }) (record { hash_input = key.hash_input })) V m r (with_value m.now place)
