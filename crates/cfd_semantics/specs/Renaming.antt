-- Values under other names: texts in place of the ids that stand for them. A map that keeps different values apart changes
-- no violation and no orphan.
use Rattle.std.specs.Prelude.{◌≡◌, ℕ, ◌<◌, Bool, List, map, All, nat_eq}
use Rattle.cfd_semantics.specs.declared.pattern.Pattern.{Pattern}
use Rattle.cfd_semantics.specs.declared.pattern.Pattern.TheVariants.{Any, Is, In, NotIn}
use Rattle.cfd_semantics.specs.declared.dependency.TableauRow.{TableauRow}
use Rattle.cfd_semantics.specs.declared.dependency.Dependency.{Dependency}
use Rattle.cfd_semantics.specs.declared.inclusion.InclusionRow.{InclusionRow}
use Rattle.cfd_semantics.specs.declared.inclusion.Inclusion.{Inclusion}
use Rattle.cfd_semantics.specs.declared.violation.Violation.{Violation}
use Rattle.cfd_semantics.specs.Violation.{entries, violations}
use Rattle.cfd_semantics.specs.Orphan.{left_entries, right_entries, orphans}

-- Of the known values, two are equal after the map exactly where they are before it. With texts for ids, the known ids
-- are those below the length of the pool.
pub record KeepsApart {V W : Type 0} (Known : V → Type 0) (name : V → W) (eq : V → V → Bool) (named_eq : W → W → Bool) : Type 0 where
  pub same : (v w : V) → Known v → Known w → named_eq (name v) (name w) ≡ eq v w

-- ---- the same with other names

abbrev pub renamed_cell : {V W : Type 0} → (V → W) → Pattern V → Pattern W
renamed_cell name Any = Any
renamed_cell name (Is constant) = Is (name constant)
renamed_cell name (In members) = In (map name members)
renamed_cell name (NotIn members) = NotIn (map name members)

abbrev pub renamed_tableau_row : {V W : Type 0} → (V → W) → TableauRow V → TableauRow W
renamed_tableau_row name t = record { x = map (renamed_cell name) t.x; a = renamed_cell name t.a }

abbrev pub renamed_dependency : {V W : Type 0} → (V → W) → Dependency V → Dependency W
renamed_dependency name d = record { x = d.x; a = d.a; rows = map (renamed_tableau_row name) d.rows }

abbrev pub renamed_inclusion_row : {V W : Type 0} → (V → W) → InclusionRow V → InclusionRow W
renamed_inclusion_row name t = record { xp = map name t.xp; yp = map name t.yp }

abbrev pub renamed_inclusion : {V W : Type 0} → (V → W) → Inclusion V → Inclusion W
renamed_inclusion name i = record { x = i.x; xp = i.xp; y = i.y; yp = i.yp; rows = map (renamed_inclusion_row name) i.rows }

abbrev pub renamed_rows : {V W : Type 0} → (V → W) → List (ℕ × List V) → List (ℕ × List W)
renamed_rows name rows = map (λ row. (row.0, map name row.1)) rows

-- ---- all values are known

abbrev pub HasKnownCell : {V : Type 0} → (V → Type 0) → Pattern V → Type 0
HasKnownCell Known Any = Unit {0}
HasKnownCell Known (Is constant) = Known constant
HasKnownCell Known (In members) = All Known members
HasKnownCell Known (NotIn members) = All Known members

pub record HasKnownCells {V : Type 0} (Known : V → Type 0) (t : TableauRow V) : Type 0 where
  pub x : All (HasKnownCell Known) t.x
  pub a : HasKnownCell Known t.a

pub record HasKnownConstants {V : Type 0} (Known : V → Type 0) (t : InclusionRow V) : Type 0 where
  pub xp : All Known t.xp
  pub yp : All Known t.yp

abbrev pub HasKnownTuples : {V : Type 0} → (V → Type 0) → List (ℕ × List V) → Type 0
HasKnownTuples Known rows = All (λ row. All Known row.1) rows

-- ---- the law

-- However values are numbered, without one number for two: the numbers in place of the values, in the dependency and in
-- the rows, give the same violations. `name` tells the value of each number below `count`.
pub record IsNumbering {V : Type 0} (eq : V → V → Bool) (count : ℕ) (name : ℕ → V) : Type 0 where
  pub apart : KeepsApart (λ id. id < count) name nat_eq eq

abbrev pub AreViolationsByNumbers : {V : Type 0} → (V → V → Bool) → Dependency V → List (ℕ × List V) → List (ℕ × Violation) → Type 0
AreViolationsByNumbers {V} eq d rows found =
    (count : ℕ) (name : ℕ → V) (by_number : Dependency ℕ) (numbers : List (ℕ × List ℕ)) → IsNumbering eq count name
    → All (HasKnownCells (λ id. id < count)) by_number.rows → HasKnownTuples (λ id. id < count) numbers
    → d ≡ renamed_dependency name by_number → rows ≡ renamed_rows name numbers
    → found ≡ violations nat_eq by_number (entries by_number numbers)

-- The same for the orphans of an inclusion.
abbrev pub AreOrphansByNumbers : {V : Type 0} → (V → V → Bool) → Inclusion V → List (ℕ × List V) → List (ℕ × List V) → List (ℕ × ℕ) → Type 0
AreOrphansByNumbers {V} eq i lefts rights found =
    (count : ℕ) (name : ℕ → V) (by_number : Inclusion ℕ) (left_numbers right_numbers : List (ℕ × List ℕ)) → IsNumbering eq count name
    → All (HasKnownConstants (λ id. id < count)) by_number.rows → HasKnownTuples (λ id. id < count) left_numbers → HasKnownTuples (λ id. id < count) right_numbers
    → i ≡ renamed_inclusion name by_number → lefts ≡ renamed_rows name left_numbers → rights ≡ renamed_rows name right_numbers
    → found ≡ orphans nat_eq by_number (left_entries by_number left_numbers) (right_entries by_number right_numbers)
