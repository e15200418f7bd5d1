-- The rows of one side with one key, by their pattern values; and the rows of both sides with one key.
use Rattle.std.specs.Prelude.{◌≡◌, ◌⊎◌, ◌↔◌, ℕ, ◌==◌, ◌&&◌, ◌||◌, not, nat_eq, nat_lt, Bool, true, false, IsTrue, List, [], ◌∷◌, Contains, Option, length}
use Rattle.std.specs.List.{list_any, IsDistinct}
use Rattle.std.specs.Option.{option_map_or}
use Rattle.std.specs.Ordering.{nat_cmp}
use Rattle.std.specs.Cmp.Lexicographic.{slice_cmp}
use Rattle.std.specs.Str.{bytes_eq}
use Rattle.std.specs.declared.vec.Vec.{Vec}
use Rattle.std.specs.declared.alloc.Global.{Global}
use Rattle.std.specs.BTreeMap as tree
use Rattle.std.specs.BTreeSet as treeset
use Rattle.cfd_semantics.specs.declared.inclusion.InclusionRow.{InclusionRow}
use Rattle.cind_index.specs.declared.side.Side.{Side}
use Rattle.cind_index.specs.declared.side.Side.TheVariants.{Left, Right}
use Rattle.cind_index.specs.declared.row_set.RowSet.{RowSet}
use Rattle.cind_index.specs.declared.row_set.RowSet.TheVariants.{One, More}
use Rattle.cind_index.specs.declared.side_rows.SideRows.{SideRows}
use Rattle.cind_index.specs.declared.side_rows.SideRows.TheVariants.{Empty, Lone, LoneWith, Rows}
use Rattle.cind_index.specs.declared.pattern_rows.PatternRows.{PatternRows}
use Rattle.cind_index.specs.declared.pattern_rows.PatternRows.TheVariants.{Nothing, Single, Several}
use Rattle.cind_index.specs.declared.both_sides.BothSides.{BothSides}
use Rattle.cind_index.specs.declared.key_rows.KeyRows.{KeyRows}
use Rattle.cind_index.specs.declared.key_rows.KeyRows.TheVariants.{NoRows, LoneLeft, LoneRight, LeftWith, RightWith, OneEach, Boxed}

-- rows by their pattern values, as the code keeps them
abbrev pub Patterns : Type 0
Patterns = tree.BTreeMap (Vec ℕ Global) RowSet

-- whether the row is in the set, and whether any is
abbrev pub is_in : RowSet → ℕ → Bool
is_in (One held) row = row == held
is_in (More rows) row = treeset.contains nat_cmp rows row

abbrev pub is_filled : RowSet → Bool
is_filled (One held) = true
is_filled (More rows) = nat_lt 0 (length rows.keys)

-- the rows with these pattern values in a map
abbrev pub rows_for : Patterns → List ℕ → Option RowSet
rows_for patterns pattern = tree.get_by (λ (held : Vec ℕ Global). slice_cmp nat_cmp pattern held.items) patterns

abbrev pub in_map : Patterns → List ℕ → ℕ → Bool
in_map patterns pattern row = option_map_or (λ rows. is_in rows row) (rows_for patterns pattern) false

-- whether the row is held with these pattern values, and whether any row is
abbrev pub has_by : PatternRows → List ℕ → ℕ → Bool
has_by Nothing pattern row = false
has_by (Single held rows) pattern row = bytes_eq pattern held.items && is_in rows row
has_by (Several patterns) pattern row = in_map patterns pattern row

abbrev pub has_some_by : PatternRows → List ℕ → Bool
has_some_by Nothing pattern = false
has_some_by (Single held rows) pattern = bytes_eq pattern held.items && is_filled rows
has_some_by (Several patterns) pattern = option_map_or is_filled (rows_for patterns pattern) false

-- the same of a side, where a lone row has no pattern value or one
abbrev pub has : SideRows → List ℕ → ℕ → Bool
has Empty pattern row = false
has (Lone own) pattern row = bytes_eq pattern [] && row == own
has (LoneWith value own) pattern row = bytes_eq pattern (value ∷ []) && row == own
has (Rows rows) pattern row = has_by rows.value pattern row

abbrev pub has_some : SideRows → List ℕ → Bool
has_some Empty pattern = false
has_some (Lone own) pattern = bytes_eq pattern []
has_some (LoneWith value own) pattern = bytes_eq pattern (value ∷ [])
has_some (Rows rows) pattern = has_some_by rows.value pattern

-- no row, or one that stands in place
abbrev pub is_few : SideRows → Bool
is_few (Rows rows) = false
is_few rows = true

-- so many rows are held: a list has each of them once
pub record HoldsSoMany (held : ℕ → Bool) (count : ℕ) : Type 0 where
  pub rows : List ℕ
  pub once : IsDistinct nat_eq rows
  pub exactly : (row : ℕ) → Contains rows row ↔ IsTrue (held row)
  pub as_many : length rows ≡ count

-- ---- changes

-- the row came in with these pattern values, or went away with them, and nothing else changed
abbrev pub IsMore : List ℕ → ℕ → (List ℕ → ℕ → Bool) → (List ℕ → ℕ → Bool) → Type 0
IsMore pattern row old new = (ids : List ℕ) (other : ℕ) → new ids other ≡ ((bytes_eq ids pattern && other == row) || old ids other)

abbrev pub IsLess : List ℕ → ℕ → (List ℕ → ℕ → Bool) → (List ℕ → ℕ → Bool) → Type 0
IsLess pattern row old new = (ids : List ℕ) (other : ℕ) → new ids other ≡ (not (bytes_eq ids pattern && other == row) && old ids other)

-- the same rows are held with the same pattern values
abbrev pub IsSame : (List ℕ → ℕ → Bool) → (List ℕ → ℕ → Bool) → Type 0
IsSame old new = (ids : List ℕ) (other : ℕ) → new ids other ≡ old ids other

-- the row is held with these pattern values, and no other
abbrev pub IsOnly : List ℕ → ℕ → (List ℕ → ℕ → Bool) → Type 0
IsOnly pattern row held = (ids : List ℕ) (other : ℕ) → held ids other ≡ (bytes_eq ids pattern && other == row)

-- the same of a side
abbrev pub HasRowMore : List ℕ → ℕ → SideRows → SideRows → Type 0
HasRowMore pattern row old new = IsMore pattern row (has old) (has new)

abbrev pub HasRowLess : List ℕ → ℕ → SideRows → SideRows → Type 0
HasRowLess pattern row old new = IsLess pattern row (has old) (has new)

abbrev pub HaveTheSame : SideRows → SideRows → Type 0
HaveTheSame old new = IsSame (has old) (has new)

abbrev pub HasNothing : SideRows → Type 0
HasNothing rows = (ids : List ℕ) (row : ℕ) → has rows ids row ≡ false

-- what is left of a side once a lone row may have gone
abbrev pub IsLeftOf : SideRows → SideRows → Type 0
IsLeftOf old new = (new ≡ old) ⊎ (new ≡ Empty)

-- ---- both sides

-- the rows of one of two sides
abbrev pub side_of : BothSides → Side → SideRows
side_of sides Left = sides.lefts
side_of sides Right = sides.rights

-- both sides of a key, where a row that stands in place is the lone one of its side
abbrev pub both_sides : KeyRows → BothSides
both_sides NoRows = record { lefts = Empty; rights = Empty }
both_sides (LoneLeft left) = record { lefts = Lone left; rights = Empty }
both_sides (LoneRight right) = record { lefts = Empty; rights = Lone right }
both_sides (LeftWith value left) = record { lefts = LoneWith value left; rights = Empty }
both_sides (RightWith value right) = record { lefts = Empty; rights = LoneWith value right }
both_sides (OneEach left right) = record { lefts = Lone left; rights = Lone right }
both_sides (Boxed sides) = sides.value

-- whether they stand in a box, and not in place
abbrev pub is_boxed : KeyRows → Bool
is_boxed (Boxed sides) = true
is_boxed rows = false

-- the rows of a key on a side
abbrev pub rows_on : KeyRows → Side → SideRows
rows_on rows side = side_of (both_sides rows) side

-- the side across
abbrev pub across : Side → Side
across Left = Right
across Right = Left

-- one side changed in a way, and the side across has what it had
pub record ChangesSide (side : Side) (Change : SideRows → SideRows → Type 0) (old new : BothSides) : Type 0 where
  pub here : Change (side_of old side) (side_of new side)
  pub beside : HaveTheSame (side_of old (across side)) (side_of new (across side))

-- the same of a key
abbrev pub ChangesOn : Side → (SideRows → SideRows → Type 0) → KeyRows → KeyRows → Type 0
ChangesOn side Change old new = ChangesSide side Change (both_sides old) (both_sides new)

-- some left row has the constants of Xp, and no right row those of Yp
abbrev pub lacks_answer : KeyRows → InclusionRow ℕ → Bool
lacks_answer rows t = has_some (rows_on rows Left) t.xp && not (has_some (rows_on rows Right) t.yp)

-- for some row of the tableau
abbrev pub is_dirty : List (InclusionRow ℕ) → KeyRows → Bool
is_dirty tableau rows = list_any (lacks_answer rows) tableau

-- the left row has the constants of Xp, and no right row those of Yp
abbrev pub is_orphaned : KeyRows → InclusionRow ℕ → ℕ → Bool
is_orphaned rows t row = has (rows_on rows Left) t.xp row && not (has_some (rows_on rows Right) t.yp)
