-- The orphans of a tableau row in two sets of entries, and the number of dirty keys.
use Rattle.std.specs.Prelude.{◌≡◌, ◌≢◌, ℕ, ◌↔◌, nat_eq, Bool, List, length, AllPairs, Contains}
use Rattle.cfd_semantics.specs.declared.inclusion.Inclusion.{Inclusion}
use Rattle.cfd_semantics.specs.declared.inclusion.InclusionRow.{InclusionRow}
use Rattle.cfd_semantics.specs.Orphan.{SideEntry, orphaned}
use Rattle.cfd_semantics.specs.EntrySets.{IsRising, IsOrphan, IsSideList}
use Rattle.cfd_semantics.specs.Dirty.{IsDirtyKey}

-- the rows are those of the orphans, by rising ids
pub record AreOrphans (lefts rights : SideEntry ℕ → Bool) (rows : List ℕ) (t : InclusionRow ℕ) : Type 0 where
  pub rising : IsRising (λ (row : ℕ). row) rows
  pub exactly : (row : ℕ) → Contains rows row ↔ IsOrphan nat_eq t lefts rights row

-- so many are in the list of those, whatever lists both sides have
abbrev pub IsOrphanCount : (lefts rights : SideEntry ℕ → Bool) → ℕ → InclusionRow ℕ → Type 0
IsOrphanCount lefts rights count t = (left_list right_list : List (SideEntry ℕ)) → IsSideList lefts left_list → IsSideList rights right_list → count ≡ length (orphaned nat_eq t left_list right_list)

-- the keys are the dirty ones, each once
pub record AreDirtyKeys (rule : Inclusion ℕ) (lefts rights : SideEntry ℕ → Bool) (keys : List (List ℕ)) : Type 0 where
  pub distinct : AllPairs (λ key other. key ≢ other) keys
  pub exactly : (key : List ℕ) → Contains keys key ↔ IsDirtyKey nat_eq rule lefts rights key

-- so many keys are dirty
abbrev pub IsDirtyCount : Inclusion ℕ → (SideEntry ℕ → Bool) → (SideEntry ℕ → Bool) → ℕ → Type 0
IsDirtyCount rule lefts rights count = (keys : List (List ℕ)) × AreDirtyKeys rule lefts rights keys × (length keys ≡ count)
