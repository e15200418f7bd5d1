-- A tuple, as clauses see it: the list of its value ids.
use Rattle.std.specs.Prelude.{ℕ, List, Option, map, option_map, slice_index}
use Rattle.std.specs.declared.rc.RcSlice.{RcSlice}
use Rattle.std.specs.declared.alloc.Global.{Global}
use Rattle.std.specs.Rc.{rc_slice_items}
use Rattle.std.specs.Borrow.{Bor}

-- the type of the code
abbrev pub Tuple : Type 0
Tuple = RcSlice ℕ Global

-- its value ids, in the order of the table's attributes
abbrev pub ids_of : Tuple → List ℕ
ids_of tuple = rc_slice_items tuple

-- the value ids of a tuple that may be missing
abbrev pub ids_if : Option Tuple → Option (List ℕ)
ids_if tuple = option_map ids_of tuple

-- the same behind a reference
abbrev pub ids_behind : Option (Bor Tuple) → Option (List ℕ)
ids_behind tuple = option_map (λ t. ids_of t.now) tuple

-- the ids of a tuple at attributes, which it has
abbrev pub ids_at : List ℕ → List ℕ → List ℕ
ids_at ids attributes = map (slice_index ids) attributes
