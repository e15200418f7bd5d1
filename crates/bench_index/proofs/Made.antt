-- Indexes that were just made.
use Rattle.std.proofs.Common.{◌≡◌, ℕ, false, List, [], None, refl}
use Rattle.value_pool.specs.Pool.{KeepsIds}
use Rattle.row_store.specs.Watches.{IsInStep}
use Rattle.rule_model.specs.declared.dep.Dep.{Dep}
use Rattle.rule_model.specs.declared.cind.Cind.{Cind}
use Rattle.cfd_semantics.specs.Orphan.{SideEntry}
use Rattle.group_index.specs.GroupSet.{GroupSet}
use Rattle.cind_index.specs.declared.index.CindIndex.{CindIndex}
use Rattle.cind_index.specs.declared.side.Side.{Side}
use Rattle.cind_index.specs.declared.side.Side.TheVariants.{Left, Right}
use Rattle.cind_index.specs.KeysHeld.{lefts, rights, held}
use Rattle.bench_index.specs.Watching.{group_watch, cind_watch}
use Rattle.bench_index.specs.Indexes.{IsIndexOfDep, IsIndexOfCind}
use Rattle.bench_index.proofs.Kept.{dependency-kept, inclusion-kept}

module _ (old new : List (List ℕ)) (kept : KeepsIds old new) where
  pub index-kept : (dep : Dep) (s : GroupSet) → IsIndexOfDep old dep s → IsIndexOfDep new dep s
  index-kept dep s is = record { table = is.table; rule = dependency-kept old new kept dep.rule s.made.dependency is.rule }

  pub cind_index-kept : (cind : Cind) (s : CindIndex) → IsIndexOfCind old cind s → IsIndexOfCind new cind s
  cind_index-kept cind s is = record { left = is.left; right = is.right; rule = inclusion-kept old new kept cind.rule s.rule is.rule }

-- without entries they are in step with tables without rows
pub empty_group : (s : GroupSet) → s.entries ≡ [] → IsInStep group_watch (λ _ _. None) s
empty_group s none t r entry _ _ = rw none refl

pub empty_cind : (s : CindIndex) → ((e : SideEntry ℕ) → lefts s.keys e ≡ false) → ((e : SideEntry ℕ) → rights s.keys e ≡ false) → IsInStep cind_watch (λ _ _. None) s
empty_cind s no_left no_right t r entry _ _ = by entry.side
  where
    by : (side : Side) → held s.keys side entry.entry ≡ false
    by Left = no_left entry.entry
    by Right = no_right entry.entry
