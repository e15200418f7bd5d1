-- What is known of which rows settle an attribute.
use Rattle.std.specs.Prelude.{◌≡◌, ℕ, ◌<◌, Bool, true, false, ◌||◌, ◌&&◌, List, [], ◌∷◌, length, All, if◌then◌else◌, slice_index, slice_index_or, slice_get, nat_eq, nat_le, Option, None, Some}
use Rattle.std.specs.List.{AllZip, list_any}
use Rattle.std.specs.Option.{option_and_then}
use Rattle.dep_search.specs.Counting.{gathered}
use Rattle.dep_search.specs.Rows.{Row}
use Rattle.dep_search.specs.Found.{settles, determines, has_support, is_first, proper_parts}
use Rattle.dep_search.specs.Leaders.{AreColumns, AreLeaders}
use Rattle.dep_search.specs.Classes.{AreNexts, are_alike, is_alike}
use Rattle.dep_search.specs.declared.settled.Settled.{Settled}
use Rattle.dep_search.specs.declared.table.Table.{Table}
use Rattle.dep_search.specs.declared.grouped.Grouped.{Grouped}
use Rattle.dep_search.specs.declared.facts.Facts.{Facts}

-- ---- by classes

-- a place that leads itself
abbrev pub IsLeader : List ℕ → ℕ → Type 0
IsLeader leaders first = (first < length leaders) × (slice_index leaders first ≡ first)

-- the leaders of so many places
abbrev pub large : List ℕ → List ℕ → ℕ → List ℕ
large leaders sizes support = gathered (λ r. if nat_eq (slice_index leaders r) r && nat_le support (slice_index sizes r) then r ∷ [] else []) (length leaders)

-- flagged are the places of some leaders, where all places that one of these leads have one id
pub record AreFlags (leaders leads ids : List ℕ) (flags : List Bool) : Type 0 where
  pub sound : (r : ℕ) → r < length leaders → slice_index_or flags r false ≡ true → is_alike leaders ids (slice_index leaders r) ≡ true
  pub complete : (k r : ℕ) → k < length leads → r < length leaders → slice_index leaders r ≡ slice_index leads k
      → is_alike leaders ids (slice_index leads k) ≡ true → slice_index_or flags r false ≡ true

pub record IsToldBy (leaders leads ids : List ℕ) (settled : Settled) : Type 0 where
  pub all : settled.all ≡ are_alike leaders ids
  pub flags : settled.all ≡ false → AreFlags leaders leads ids settled.flags

-- ---- by rows

-- the columns tell the rows of a table apart
pub record IsTable (table : Table) : Type 0 where
  pub columns : AreColumns table.rows.now (length table.columns.now) table.columns.now
  pub rows : All (λ (row : Row). length row ≡ length table.columns.now) table.rows.now

-- the rows by the classes of some attributes
pub record IsGrouped (rows : List Row) (grouped : Grouped) : Type 0 where
  pub led : AreLeaders rows grouped.x grouped.classes.leaders
  pub steps : AreNexts grouped.classes.leaders grouped.classes.nexts

-- the first rows of classes with support
abbrev pub leads_of : List Row → ℕ → List ℕ → List ℕ
leads_of rows support x = gathered (λ r. if is_first rows x r && has_support rows support x r then r ∷ [] else []) (length rows)

-- it says that the row settles the attribute
abbrev pub says : Settled → ℕ → Bool
says settled r = settled.all || slice_index_or settled.flags r false

-- whether X determines A, and which rows settle A, of those whose texts at X enough rows have
pub record IsSettled (rows : List Row) (support : ℕ) (x : List ℕ) (a : ℕ) (settled : Settled) : Type 0 where
  pub all : settled.all ≡ determines rows x a
  pub each : (r : ℕ) → r < length rows → has_support rows support x r ≡ true → says settled r ≡ settles rows x a r

-- the same for each attribute
pub record AreFacts (rows : List Row) (attrs support : ℕ) (facts : Facts) : Type 0 where
  pub many : length facts.settled ≡ attrs
  pub each : (a : ℕ) (d : Settled) → a < attrs → IsSettled rows support facts.x a (slice_index_or facts.settled a d)

-- X has the attribute, or a part of X determines it
abbrev pub is_given : List Row → List ℕ → ℕ → Bool
is_given rows x a = list_any (nat_eq a) x || list_any (λ part. determines rows part a) (proper_parts x)

-- that is so of each attribute, so nothing is found on X
abbrev pub IsClosed : List Row → ℕ → List ℕ → Type 0
IsClosed rows attrs x = (a : ℕ) → a < attrs → is_given rows x a ≡ true

-- what is known of an attribute at a place
abbrev pub known_at : List Facts → ℕ → ℕ → Option Settled
known_at store a place = option_and_then (λ (facts : Facts). slice_get facts.settled a) (slice_get store place)

abbrev pub says_all : Option Settled → Bool
says_all None = false
says_all (Some settled) = settled.all

abbrev pub says_of : Option Settled → ℕ → Bool
says_of None r = false
says_of (Some settled) r = says settled r

-- the facts of some attributes stand at a place
abbrev pub StandsAt : List Facts → ℕ → List ℕ → Type 0
StandsAt store place x = (facts : Facts) × (slice_get store place ≡ Some facts) × (facts.x ≡ x)

abbrev pub StandAt : List Facts → List ℕ → List (List ℕ) → Type 0
StandAt store places parts = AllZip (λ part place. StandsAt store place part) parts places

-- what stands somewhere stands there still
abbrev pub KeepsFacts : List Facts → List Facts → Type 0
KeepsFacts old new = (place : ℕ) (facts : Facts) → slice_get old place ≡ Some facts → slice_get new place ≡ Some facts
