-- When tuples satisfy a dependency or an inclusion, said without any list of violations.
use Rattle.std.specs.Prelude.{◌≡◌, ℕ, Bool, IsTrue, List, Contains, Some}
use Rattle.cfd_semantics.specs.declared.dependency.TableauRow.{TableauRow}
use Rattle.cfd_semantics.specs.declared.dependency.Dependency.{Dependency}
use Rattle.cfd_semantics.specs.declared.inclusion.InclusionRow.{InclusionRow}
use Rattle.cfd_semantics.specs.declared.inclusion.Inclusion.{Inclusion}
use Rattle.cfd_semantics.specs.Pattern.{matches, all_match}
use Rattle.cfd_semantics.specs.Tuple.{values_at, same_values}
use Rattle.cfd_semantics.specs.Violation.{Sides, sides_of}

-- For every tableau row and every two tuples that have the attributes, a tuple with itself included: equal X values that
-- match the row imply equal A values that match it. (Fan and Geerts 2012, the meaning of CFDs.)
abbrev pub Satisfies : {V : Type 0} → (V → V → Bool) → Dependency V → List (List V) → Type 0
Satisfies {V} eq d tuples =
    (tableau_row : TableauRow V) (t u : List V) (one other : Sides V) → Contains d.rows tableau_row → Contains tuples t → Contains tuples u
    → sides_of d t ≡ Some one → sides_of d u ≡ Some other
    → IsTrue (same_values eq one.x other.x) → IsTrue (all_match eq tableau_row.x one.x)
    → IsTrue (eq one.a other.a) × IsTrue (matches eq tableau_row.a one.a)

-- A tuple has these values on the attributes.
abbrev pub HasThere : {V : Type 0} → (V → V → Bool) → List V → List ℕ → List V → Type 0
HasThere {V} eq tuple x values = (own : List V) × (values_at tuple x ≡ Some own) × IsTrue (same_values eq values own)

-- For every tableau row and every left tuple that has X, and its constants on Xp, there is a right tuple that has the
-- left one's values of X on Y, and the constants on Yp. (Fan and Geerts 2012, the meaning of CINDs.)
abbrev pub IsIncluded : {V : Type 0} → (V → V → Bool) → Inclusion V → List (List V) → List (List V) → Type 0
IsIncluded {V} eq i lefts rights =
    (tableau_row : InclusionRow V) (t : List V) (key : List V) → Contains i.rows tableau_row → Contains lefts t
    → values_at t i.x ≡ Some key → HasThere eq t i.xp tableau_row.xp
    → (u : List V) × Contains rights u × HasThere eq u i.y key × HasThere eq u i.yp tableau_row.yp
