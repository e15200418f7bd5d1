-- The rows of a tableau by what they ask for at one place of X.
use Rattle.std.specs.Prelude.{◌≡◌, ℕ, Bool, false, ◌&&◌, not, nat_eq, nat_lt, List, [], ◌∷◌, Option, None, Some, slice_get, All, Contains}
use Rattle.std.specs.Option.{option_map_or}
use Rattle.cfd_semantics.specs.declared.pattern.Pattern.{Pattern}
use Rattle.cfd_semantics.specs.declared.pattern.Pattern.TheVariants.{Any, Is, In, NotIn}
use Rattle.cfd_semantics.specs.declared.dependency.TableauRow.{TableauRow}
use Rattle.cfd_semantics.specs.Pattern.{matches, all_match}
use Rattle.group_index.specs.Pairs.{Pair}
use Rattle.group_index.specs.declared.tableau.Finder.{Finder}

-- ---- rows that a key offends

-- the cell allows the A id, where there is one
abbrev pub allows : Pattern ℕ → Option ℕ → Bool
allows cell None = false
allows cell (Some a) = matches nat_eq cell a

-- the key matches the row, which asks for another A id where there is one
abbrev pub offends : List ℕ → Option ℕ → TableauRow ℕ → Bool
offends x a t = all_match nat_eq t.x x && not (allows t.a a)

-- the numbered row is there, and is one of those
abbrev pub offends_at : List (TableauRow ℕ) → List ℕ → Option ℕ → ℕ → Bool
offends_at rows x a k = option_map_or (offends x a) (slice_get rows k) false

-- ---- where rows are found

-- what a value has to be one of, where the cell is a constant or a set
abbrev pub members_of : Pattern ℕ → Option (List ℕ)
members_of Any = None
members_of (Is constant) = Some (constant ∷ [])
members_of (In members) = Some members
members_of (NotIn members) = None

abbrev pub asked_by : Option (Pattern ℕ) → Option (List ℕ)
asked_by None = None
asked_by (Some cell) = members_of cell

-- the numbered row is found by each of the members, and else stands among the others
abbrev pub IsFoundBy : Finder → ℕ → Option (List ℕ) → Type 0
IsFoundBy finder k None = Contains finder.others.items k
IsFoundBy finder k (Some members) = All (λ member. Contains finder.asked.keys (member, k)) members

abbrev pub FindsRow : Finder → ℕ → TableauRow ℕ → Type 0
FindsRow finder k t = IsFoundBy finder k (asked_by (slice_get t.x finder.place))

-- each of the rows is found
abbrev pub FindsRows : Finder → List (TableauRow ℕ) → Type 0
FindsRows finder rows = (k : ℕ) (t : TableauRow ℕ) → slice_get rows k ≡ Some t → FindsRow finder k t

abbrev pub FindsAll : List (TableauRow ℕ) → Option Finder → Type 0
FindsAll rows None = Unit {0}
FindsAll rows (Some finder) = FindsRows finder rows

-- what was found still is
pub record IsKept (old new : Finder) : Type 0 where
  pub place : new.place ≡ old.place
  pub asked : (p : Pair) → Contains old.asked.keys p → Contains new.asked.keys p
  pub others : (k : ℕ) → Contains old.others.items k → Contains new.others.items k

-- the numbered row asks for the id; no number is above the last of its type
abbrev pub is_asked : ℕ → Pair → Bool
is_asked id p = nat_eq p.0 id && not (nat_lt 18446744073709551615 p.1)
