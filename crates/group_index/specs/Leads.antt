-- The partners of the rows of a group, told from the least rows of two of its A ids.
use Rattle.std.specs.Prelude.{◌≡◌, ◌≢◌, ℕ, ◌≤◌, ◌↔◌, ◌⊎◌, false, map, cond, min, nat_eq, nat_lt, List, ◌++◌, length, count_by, is_some, AllPairs, Contains, Option, Some, None, filter_map, IsTrue}
use Rattle.std.specs.Option.{option_map, option_map_or}
use Rattle.cfd_semantics.specs.declared.pattern.Pattern.{Pattern}
use Rattle.cfd_semantics.specs.declared.violation.Violation.{Violation}
use Rattle.cfd_semantics.specs.declared.dependency.TableauRow.{TableauRow}
use Rattle.cfd_semantics.specs.Pattern.{matches, all_match}
use Rattle.cfd_semantics.specs.EntrySets.{IsViolation}
use Rattle.std.specs.List.{IsDistinct}
use Rattle.group_index.specs.Pairs.{Pair}
use Rattle.group_index.specs.Groups.{KeyedGroups, is_in}

-- Among pairs that are told by `among`: the row is the least of those whose A id matches the cell.
abbrev pub IsLeastRow : Pattern ℕ → (Pair → Type 0) → ℕ → Type 0
IsLeastRow cell among row = (p : Pair) → among p → IsTrue (matches nat_eq cell p.0) → row ≤ p.1

-- the row is the least one with another A id that matches, or there is no such
abbrev pub IsLeastOther : Pattern ℕ → (Pair → Type 0) → ℕ → Option ℕ → Type 0
IsLeastOther cell among a None = (p : Pair) → among p → IsTrue (matches nat_eq cell p.0) → p.0 ≡ a
IsLeastOther cell among a (Some row) =
    ((b : ℕ) × among (b, row) × IsTrue (matches nat_eq cell b) × (b ≢ a)) × ((p : Pair) → among p → IsTrue (matches nat_eq cell p.0) → p.0 ≢ a → row ≤ p.1)

-- the matching A id with the least row of all, and the least row of the others
abbrev pub AreLeads : Pattern ℕ → (Pair → Type 0) → Option (ℕ × ℕ) → Option ℕ → Type 0
AreLeads cell among None second = (p : Pair) → among p → IsTrue (matches nat_eq cell p.0) → ⊥
AreLeads cell among (Some first) second =
    among first × IsTrue (matches nat_eq cell first.0) × IsLeastRow cell among first.1 × IsLeastOther cell among first.0 second

-- the pair is one of a group
abbrev pub IsAmong : List Pair → Pair → Type 0
IsAmong pairs p = Contains pairs p

-- ---- the leads with one more A id, which has this least row

abbrev pub first_with : Option (ℕ × ℕ) → ℕ → ℕ → Option (ℕ × ℕ)
first_with None a row = Some (a, row)
first_with (Some first) a row = cond (nat_lt row first.1) (Some (a, row)) (Some first)

abbrev pub second_with : Option (ℕ × ℕ) → Option ℕ → ℕ → Option ℕ
second_with None second row = None
second_with (Some first) second row = cond (nat_lt row first.1) (Some first.1) (Some (option_map_or (min row) second row))

-- the least row with another A id than this one
abbrev pub partner_by : Option (ℕ × ℕ) → Option ℕ → ℕ → Option ℕ
partner_by None second a = None
partner_by (Some first) second a = cond (nat_eq first.0 a) second (Some first.1)

-- what is listed of a pair
abbrev pub listed_by : Pattern ℕ → Option (ℕ × ℕ) → Option ℕ → Pair → Option Violation
listed_by cell first second p =
    cond (matches nat_eq cell p.0) (option_map (λ partner. record { row = p.1; partner = Some partner }) (partner_by first second p.0)) (Some (record { row = p.1; partner = None }))

-- what is listed of the pairs of a group was added; no pair stands there twice
pub record AddsListed (cell : Pattern ℕ) (pairs : List Pair) (old new : List Violation) : Type 0 where
  pub first : Option (ℕ × ℕ)
  pub second : Option ℕ
  pub leads : AreLeads cell (IsAmong pairs) first second
  pub once : AllPairs (λ p q. p ≢ q) pairs
  pub is : new ≡ old ++ filter_map (listed_by cell first second) pairs

-- the same where the key of the group matches the tableau row, and nothing where it doesn't
abbrev pub AddsMatching : TableauRow ℕ → List ℕ → List Pair → List Violation → List Violation → Type 0
AddsMatching t x pairs old new = (IsTrue (all_match nat_eq t.x x) × AddsListed t.a pairs old new) ⊎ ((all_match nat_eq t.x x ≡ false) × (new ≡ old))

-- ---- how many

-- so many pairs of a group are listed
pub record CountsListed (cell : Pattern ℕ) (pairs : List Pair) (count : ℕ) : Type 0 where
  pub first : Option (ℕ × ℕ)
  pub second : Option ℕ
  pub leads : AreLeads cell (IsAmong pairs) first second
  pub is : count ≡ count_by (λ p. is_some (listed_by cell first second p)) pairs

-- the same where the key of the group matches the tableau row, and none where it doesn't; no pair stands there twice
abbrev pub CountsMatching : TableauRow ℕ → List ℕ → List Pair → ℕ → Type 0
CountsMatching t x pairs count = (IsTrue (all_match nat_eq t.x x) × AllPairs (λ p q. p ≢ q) pairs × CountsListed t.a pairs count) ⊎ ((all_match nat_eq t.x x ≡ false) × (count ≡ 0))

-- ---- in all groups

-- the violations of the tableau row in the groups, in any order, and no row twice
pub record AreCollected (t : TableauRow ℕ) (groups : KeyedGroups) (found : List Violation) : Type 0 where
  pub exactly : (v : Violation) → Contains found v ↔ IsViolation nat_eq t (is_in groups.pairs) v
  pub once : IsDistinct nat_eq (map (λ (v : Violation). v.row) found)

-- so many violations the tableau row has in the groups
pub record AreSoMany (t : TableauRow ℕ) (groups : KeyedGroups) (count : ℕ) : Type 0 where
  pub found : List Violation
  pub collected : AreCollected t groups found
  pub as_many : count ≡ length found
