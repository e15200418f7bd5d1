-- What a group holds: A ids, each with a row. When such a group is dirty, and what comes next in it.
use Rattle.std.specs.Prelude.{◌≡◌, ◌≢◌, ℕ, ◌<◌, ◌≤◌, ◌⊎◌, Bool, true, false, ◌==◌, ◌&&◌, ◌||◌, not, nat_eq, List, [], ◌∷◌, Contains, Option, Some, None}
use Rattle.std.specs.List.{list_any}
use Rattle.cfd_semantics.specs.declared.pattern.Pattern.{Pattern}
use Rattle.cfd_semantics.specs.declared.dependency.TableauRow.{TableauRow}
use Rattle.cfd_semantics.specs.Pattern.{matches, all_match}
use Rattle.group_index.specs.declared.group.Group.{Group}
use Rattle.group_index.specs.declared.group.Group.TheVariants.{One, Turning, Few, Many}
use Rattle.group_index.specs.declared.spread.Spread.{Spread}
use Rattle.group_index.specs.declared.spread.Spread.TheVariants.{Nothing, Alike, Both, Mixed}
use Rattle.group_index.specs.Turn.{both_of}

-- an A id with a row
abbrev pub Pair : Type 0
Pair = ℕ × ℕ

-- those of a group
abbrev pub pairs_of : Group → List Pair
pairs_of (One a row) = (a, row) ∷ []
pairs_of (Turning turn) = both_of turn
pairs_of (Few pairs) = pairs
pairs_of (Many pairs) = pairs.keys

abbrev pub is_pair : Pair → Pair → Bool
is_pair p q = (p.0 == q.0) && (p.1 == q.1)

-- whether the pair is one of them
abbrev pub has_pair : List Pair → Pair → Bool
has_pair pairs p = list_any (is_pair p) pairs

-- the pair came in, and nothing else changed
abbrev pub IsPut : List Pair → List Pair → Pair → Type 0
IsPut old new p = (q : Pair) → has_pair new q ≡ (is_pair q p || has_pair old q)

-- the pair is not there any more, and nothing else changed
abbrev pub IsTaken : List Pair → List Pair → Pair → Type 0
IsTaken old new p = (q : Pair) → has_pair new q ≡ (not (is_pair q p) && has_pair old q)

abbrev pub HaveTheSame : List Pair → List Pair → Type 0
HaveTheSame old new = (q : Pair) → has_pair new q ≡ has_pair old q

-- no pair but this one came or went
abbrev pub DifferAtMostBy : Pair → List Pair → List Pair → Type 0
DifferAtMostBy p old new = (q : Pair) → is_pair q p ≡ false → has_pair new q ≡ has_pair old q

-- no other pair is there
abbrev pub IsAlone : List Pair → Pair → Type 0
IsAlone pairs p = (q : Pair) → has_pair pairs q ≡ is_pair q p

-- ---- the next A id

-- above an A id, or any at all
abbrev pub IsAfter : Option ℕ → ℕ → Type 0
IsAfter None a = Unit {0}
IsAfter (Some low) a = low < a

-- in the order of A ids, and within one in that of rows
abbrev pub ComesBefore : Pair → Pair → Type 0
ComesBefore p q = (p.0 < q.0) ⊎ ((p.0 ≡ q.0) × (p.1 ≤ q.1))

-- the first pair with an A id after that one, or that there is none
abbrev pub IsNextHead : List Pair → Option ℕ → Option Pair → Type 0
IsNextHead pairs after None = (q : Pair) → Contains pairs q → IsAfter after q.0 → ⊥
IsNextHead pairs after (Some p) = Contains pairs p × IsAfter after p.0 × ((q : Pair) → Contains pairs q → IsAfter after q.0 → ComesBefore p q)

-- ---- dirty groups

-- two A ids stand there
abbrev pub is_mixed : List Pair → Bool
is_mixed pairs = list_any (λ p. list_any (λ q. not (nat_eq p.0 q.0)) pairs) pairs

-- an A id doesn't match the cell, or there are two. Of two one doesn't match, or both do and they differ.
abbrev pub disagree : Pattern ℕ → List Pair → Bool
disagree cell pairs = is_mixed pairs || list_any (λ p. not (matches nat_eq cell p.0)) pairs

-- for some tableau row
abbrev pub is_dirty : List (TableauRow ℕ) → List ℕ → List Pair → Bool
is_dirty rows x pairs = list_any (λ t. all_match nat_eq t.x x && disagree t.a pairs) rows

-- ---- how A ids spread

-- no A id at all, one that all rows have, both of a row that is turning, or several
abbrev pub IsSpread : List Pair → Spread → Type 0
IsSpread pairs Nothing = (q : Pair) → Contains pairs q → ⊥
IsSpread pairs (Alike a) = ((row : ℕ) × Contains pairs (a, row)) × ((q : Pair) → Contains pairs q → q.0 ≡ a)
IsSpread pairs Both = (p : Pair) × (q : Pair) × Contains pairs p × Contains pairs q × (p.0 ≢ q.0)
IsSpread pairs Mixed = (p : Pair) × (q : Pair) × Contains pairs p × Contains pairs q × (p.0 ≢ q.0)

-- ---- a row that is turning

-- the group is a lone row with two A ids, on its way from one to the other
abbrev pub is_turning : Group → Bool
is_turning (One a row) = false
is_turning (Turning turn) = not (nat_eq turn.one turn.other)
is_turning (Few pairs) = false
is_turning (Many pairs) = false

-- the spread says so
abbrev pub is_both : Spread → Bool
is_both Nothing = false
is_both (Alike a) = false
is_both Both = true
is_both Mixed = false
