-- How many orphans each row of the tableau has, and how these numbers change with the rows of a key.
use Rattle.std.specs.Prelude.{◌≡◌, ◌≢◌, ℕ, ◌+◌, ◌<◌, ◌↔◌, nat_eq, Bool, IsTrue, List, length, slice_get, slice_index_or, AllPairs, Contains, Option, Some}
use Rattle.std.specs.Option.{ForSome, option_map}
use Rattle.std.specs.declared.vec.Vec.{Vec}
use Rattle.std.specs.declared.alloc.Global.{Global}
use Rattle.cfd_semantics.specs.declared.inclusion.InclusionRow.{InclusionRow}
use Rattle.cfd_semantics.specs.Orphan.{SideEntry}
use Rattle.cfd_semantics.specs.EntrySets.{IsUnanswered}
use Rattle.cind_index.specs.declared.key_rows.KeyRows.{KeyRows}
use Rattle.cind_index.specs.declared.totals.Change.{Change}
use Rattle.cind_index.specs.declared.totals.Change.TheVariants.{Comes, Goes}
use Rattle.cind_index.specs.declared.totals.Totals.{Totals}
use Rattle.cind_index.specs.RowsHeld.{is_orphaned, HoldsSoMany}
use Rattle.cind_index.specs.KeysHeld.{KeyedRows, lefts, rights}

-- the left entries that are unanswered for a row of the tableau, each once
pub record AreUnanswered (lefts rights : SideEntry ℕ → Bool) (t : InclusionRow ℕ) (entries : List (SideEntry ℕ)) : Type 0 where
  pub once : AllPairs (λ e f. e ≢ f) entries
  pub exactly : (e : SideEntry ℕ) → Contains entries e ↔ (IsTrue (lefts e) × IsUnanswered nat_eq t rights e)

-- there are so many, however they are listed
abbrev pub HaveSoMany : (lefts rights : SideEntry ℕ → Bool) → InclusionRow ℕ → ℕ → Type 0
HaveSoMany lefts rights t count = (entries : List (SideEntry ℕ)) → AreUnanswered lefts rights t entries → length entries ≡ count

-- the numbers that are kept, if any
abbrev pub told : Totals → Option (List ℕ)
told totals = option_map (λ (counts : Vec ℕ Global). counts.items) totals.counts

-- where numbers are kept, there is one for each row of the tableau: how many left entries under all keys are unanswered for it
pub record AreTotalsOf (tableau : List (InclusionRow ℕ)) (keys : KeyedRows) (counts : List ℕ) : Type 0 where
  pub long : length counts ≡ length tableau
  pub each : (k : ℕ) (t : InclusionRow ℕ) → slice_get tableau k ≡ Some t → HaveSoMany (lefts keys) (rights keys) t (slice_index_or counts k 0)

abbrev pub AreTotals : List (InclusionRow ℕ) → KeyedRows → Totals → Type 0
AreTotals tableau keys totals = ForSome (told totals) (AreTotalsOf tableau keys)

-- ---- changes

-- so many zeros
pub record AreZero (rows : ℕ) (counts : List ℕ) : Type 0 where
  pub long : length counts ≡ rows
  pub each : (k : ℕ) → k < rows → slice_index_or counts k 0 ≡ 0

-- the orphans of a key came in, or went away
abbrev pub IsChanged : Change → ℕ → ℕ → ℕ → Type 0
IsChanged Comes old orphans new = new ≡ old + orphans
IsChanged Goes old orphans new = new + orphans ≡ old

-- so did the number of each row of the tableau
pub record AreChanged (change : Change) (tableau : List (InclusionRow ℕ)) (rows : KeyRows) (old new : List ℕ) : Type 0 where
  pub long : length new ≡ length old
  pub each : (k : ℕ) (t : InclusionRow ℕ) → slice_get tableau k ≡ Some t
      → (orphans : ℕ) × HoldsSoMany (is_orphaned rows t) orphans × IsChanged change (slice_index_or old k 0) orphans (slice_index_or new k 0)

-- where there are numbers after the change, there were some before
abbrev pub Changes : Change → List (InclusionRow ℕ) → KeyRows → Totals → Totals → Type 0
Changes change tableau rows old new = ForSome (told new) (λ now. (was : List ℕ) × (told old ≡ Some was) × AreChanged change tableau rows was now)
