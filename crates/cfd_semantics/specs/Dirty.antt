-- Groups with a violation, and keys with an orphan.
use Rattle.std.specs.Prelude.{◌≡◌, Bool, false, IsTrue, List, Contains}
use Rattle.cfd_semantics.specs.declared.dependency.TableauRow.{TableauRow}
use Rattle.cfd_semantics.specs.declared.dependency.Dependency.{Dependency}
use Rattle.cfd_semantics.specs.declared.inclusion.InclusionRow.{InclusionRow}
use Rattle.cfd_semantics.specs.declared.inclusion.Inclusion.{Inclusion}
use Rattle.cfd_semantics.specs.Pattern.{matches, all_match}
use Rattle.cfd_semantics.specs.Tuple.{same_values}
use Rattle.cfd_semantics.specs.Violation.{Entry, is_single}
use Rattle.cfd_semantics.specs.Orphan.{SideEntry}
use Rattle.cfd_semantics.specs.EntrySets.{IsPartner, IsUnanswered}

-- ---- the group of some X values: the entries of the set with these

module _ {V : Type 0} (eq : V → V → Bool) (holds : Entry V → Bool) where
  -- The entry is in the set, and has these values on X.
  pub record IsInGroup (x : List V) (e : Entry V) : Type 0 where
    pub held : IsTrue (holds e)
    pub same : IsTrue (same_values eq x e.x)

  -- For this tableau row some entry of the group is a single violation, or has a partner.
  pub data Violates (t : TableauRow V) (x : List V) : Type 0 where
    single : (e : Entry V) → IsInGroup x e → IsTrue (is_single eq t e) → Violates t x
    pair : (e other : Entry V) → IsInGroup x e → IsPartner eq t holds e other → Violates t x

  -- A dirty group: it violates some tableau row.
  abbrev pub IsDirtyGroup : Dependency V → List V → Type 0
  IsDirtyGroup d x = (t : TableauRow V) × Contains d.rows t × Violates t x

  -- The same by its A values alone: for this tableau row, which it matches on X, the group holds an A value that doesn't
  -- match, or two different ones that both match.
  pub data Disagrees (t : TableauRow V) (x : List V) : Type 0 where
    outside : (e : Entry V) → IsInGroup x e → matches eq t.a e.a ≡ false → Disagrees t x
    two : (e other : Entry V) → IsInGroup x e → IsInGroup x other → IsTrue (matches eq t.a e.a) → IsTrue (matches eq t.a other.a) → eq e.a other.a ≡ false → Disagrees t x

  abbrev pub IsDirtyByValues : Dependency V → List V → Type 0
  IsDirtyByValues d x = (t : TableauRow V) × Contains d.rows t × IsTrue (all_match eq t.x x) × Disagrees t x

-- ---- keys

-- A dirty key: some left entry with it is an orphan for some tableau row.
abbrev pub IsDirtyKey : {V : Type 0} → (V → V → Bool) → Inclusion V → (SideEntry V → Bool) → (SideEntry V → Bool) → List V → Type 0
IsDirtyKey {V} eq i lefts rights key =
    (t : InclusionRow V) × Contains i.rows t × (left : SideEntry V) × IsTrue (lefts left) × IsTrue (same_values eq key left.key) × IsUnanswered eq t rights left
