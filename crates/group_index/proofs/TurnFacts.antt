-- A row that is turning has two entries, so that no group of a settled set is turning.
use Rattle.std.proofs.Common.{◌≡◌, ◌≢◌, ℕ, false, [], ◌∷◌, slice_get, Some, refl, ap, arith}
use Rattle.std.proofs.lemmas.Bool.Decides.{nat_tests}
use Rattle.smallvec.specs.SmallVec.{SmallVec}
use Rattle.cfd_semantics.specs.Violation.{Entry}
use Rattle.cfd_semantics.specs.EntrySets.{HasOneARow}
use Rattle.cfd_semantics.proofs.Members.{contains-here, contains-there}
use Rattle.group_index.specs.declared.group.Group.{Group}
use Rattle.group_index.specs.declared.group.Group.TheVariants.{One, Turning, Few, Many}
use Rattle.group_index.specs.Turn.{Turn, both_of}
use Rattle.group_index.specs.declared.spread.Spread.TheVariants.{Both}
use Rattle.group_index.specs.Pairs.{Pair, is_turning, IsSpread}
use Rattle.group_index.specs.Groups.{KeyedGroup, KeyedGroups, is_in}
use Rattle.group_index.proofs.PartnerFacts.{entry_of_pair}

pub settled_steady : (groups : KeyedGroups) → HasOneARow (λ (e : Entry ℕ). e.row) (is_in groups.pairs) → (place : ℕ) (at : KeyedGroup) → slice_get groups.pairs place ≡ Some at → is_turning at.1 ≡ false
settled_steady groups settled place at stands = by at.0 at.1 stands
  where
    by : (key : SmallVec ℕ) (group : Group) → slice_get groups.pairs place ≡ Some (key, group) → is_turning group ≡ false
    by key (One a row) is = refl
    by key (Turning turn) is =
        let first : Pair = (turn.one, turn.row) in
        let second : Pair = (turn.other, turn.row) in
        let one = entry_of_pair groups place key (Turning turn) is first (contains-here first (second ∷ [])) in
        let other = entry_of_pair groups place key (Turning turn) is second (contains-there second first (second ∷ []) (contains-here second [])) in
        let same : turn.one ≡ turn.other = ap (λ (e : Entry ℕ). e.a) (settled (record { x = key.items; a = turn.one; row = turn.row }) (record { x = key.items; a = turn.other; row = turn.row }) one other refl) in
        grind (arith, nat_tests, same)
    by key (Few pairs) is = refl
    by key (Many pairs) is = refl

pub turning_spread : (turn : Turn) → turn.one ≢ turn.other → IsSpread (both_of turn) Both
turning_spread turn apart =
    let first : Pair = (turn.one, turn.row) in
    let second : Pair = (turn.other, turn.row) in
    (first, second, contains-here first (second ∷ []), contains-there second first (second ∷ []) (contains-here second []), apart)
