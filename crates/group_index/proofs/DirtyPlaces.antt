-- The dirty groups stand at the marked places.
use Rattle.std.proofs.Common.{◌≡◌, ℕ, zero, suc, ◌<◌, ◌≤◌, Bool, true, false, not, ◌&&◌, List, [], ◌∷◌, length, slice_get, Some, refl, sym, ap, ◌∙◌, subst, inl, inr, arith}
use Rattle.std.specs.Prelude.{nat_eq, Contains}
use Rattle.std.specs.Cmp.{nat_eq_equiv}
use Rattle.std.specs.List.{list_any, IsDistinct, AllByRecursion}
use Rattle.std.specs.Str.{bytes_eq}
use Rattle.std.proofs.lemmas.Bool.{cases_lt}
use Rattle.std.proofs.lemmas.Option.{none-some, same_Some}
use Rattle.marked_map.specs.MarkedMap.{HaveDistinctKeys}
use Rattle.cfd_semantics.specs.declared.dependency.TableauRow.{TableauRow}
use Rattle.cfd_semantics.specs.declared.dependency.Dependency.{Dependency}
use Rattle.cfd_semantics.specs.Pattern.{matches, all_match}
use Rattle.cfd_semantics.specs.Tuple.{same_values}
use Rattle.cfd_semantics.specs.Violation.{Entry}
use Rattle.cfd_semantics.specs.EntrySets.{HasOneARow}
use Rattle.cfd_semantics.specs.Dirty.{IsDirtyGroup, IsDirtyByValues, Disagrees}
use Rattle.cfd_semantics.specs.Dirty.Disagrees.{outside, two}
use Rattle.cfd_semantics.proofs.DirtyFacts.{dirty_by_values}
use Rattle.cfd_semantics.proofs.InclusionLaw.{found_by_any, any_from_found}
use Rattle.cfd_semantics.proofs.Members.{contains-here, contains-there, contains_nothing, contains_cases}
use Rattle.group_index.specs.GroupSet.{GroupsMade, GroupSet}
use Rattle.group_index.specs.Answers.{AreDirty}
use Rattle.group_index.specs.Pairs.{Pair, pairs_of, has_pair, is_mixed, disagree}
use Rattle.group_index.specs.Groups.{KeyedGroup, KeyedGroups, set_of, is_in, is_dirty_at, AreMarked}
use Rattle.group_index.proofs.PairFacts.{member_from}
use Rattle.group_index.proofs.GroupFacts.{same_key, equal_ids, same_ids, both_true, both_so, one_true, left_so, right_so, clash, isnt, not_true, found_in, key_at}
use Rattle.group_index.proofs.PartnerFacts.{entry_in, entry_of_pair, pair_of_entry}
use Rattle.group_index.proofs.TurnFacts.{settled_steady}

module _ (d : Dependency ℕ) (groups : KeyedGroups) where
  -- the group is dirty by its A values
  by_values : (place : ℕ) (g : KeyedGroup) → slice_get groups.pairs place ≡ Some g → is_dirty_at d.rows g ≡ true → IsDirtyByValues nat_eq (is_in groups.pairs) d g.0.items
  by_values place g at dirty =
      let found = found_by_any (λ t. all_match nat_eq t.x g.0.items && disagree t.a (pairs_of g.1)) d.rows dirty in
      let both = both_true (all_match nat_eq found.0.x g.0.items) (disagree found.0.a (pairs_of g.1)) found.2 in
      (found.0, found.1, both.0, disagrees found.0 both.1)
    where
      out : (t : TableauRow ℕ) (p : Pair) → Contains (pairs_of g.1) p → matches nat_eq t.a p.0 ≡ false → Disagrees nat_eq (is_in groups.pairs) t g.0.items
      out t p inside isnt = outside (entry_in g.0 p) (record { held = entry_of_pair groups place g.0 g.1 at p inside; same = same_ids g.0.items g.0.items refl }) isnt

      differ : (t : TableauRow ℕ) (p q : Pair) → Contains (pairs_of g.1) p → Contains (pairs_of g.1) q → nat_eq p.0 q.0 ≡ false → (b c : Bool) → matches nat_eq t.a p.0 ≡ b → matches nat_eq t.a q.0 ≡ c → Disagrees nat_eq (is_in groups.pairs) t g.0.items
      differ t p q one other apart false c is too = out t p one is
      differ t p q one other apart true false is too = out t q other too
      differ t p q one other apart true true is too =
          two (entry_in g.0 p) (entry_in g.0 q) (record { held = entry_of_pair groups place g.0 g.1 at p one; same = same_ids g.0.items g.0.items refl }) (record { held = entry_of_pair groups place g.0 g.1 at q other; same = same_ids g.0.items g.0.items refl }) is too apart

      disagrees : (t : TableauRow ℕ) → disagree t.a (pairs_of g.1) ≡ true → Disagrees nat_eq (is_in groups.pairs) t g.0.items
      disagrees t is = elim (one_true (is_mixed (pairs_of g.1)) (list_any (λ p. not (matches nat_eq t.a p.0)) (pairs_of g.1)) is) [
        | inl mixed ↦
            let one = found_by_any (λ p. list_any (λ q. not (nat_eq p.0 q.0)) (pairs_of g.1)) (pairs_of g.1) mixed in
            let other = found_by_any (λ q. not (nat_eq one.0.0 q.0)) (pairs_of g.1) one.2 in
            differ t one.0 other.0 one.1 other.1 (not_true (nat_eq one.0.0 other.0.0) other.2) (matches nat_eq t.a one.0.0) (matches nat_eq t.a other.0.0) refl refl
        | inr some ↦
            let one = found_by_any (λ p. not (matches nat_eq t.a p.0)) (pairs_of g.1) some in
            out t one.0 one.1 (not_true (matches nat_eq t.a one.0.0) one.2)
      ]

  pub dirty_from_place : (place : ℕ) (g : KeyedGroup) → slice_get groups.pairs place ≡ Some g → is_dirty_at d.rows g ≡ true → IsDirtyGroup nat_eq (is_in groups.pairs) d g.0.items
  dirty_from_place place g at dirty = (dirty_by_values nat_eq_equiv (is_in groups.pairs) d g.0.items).1 (by_values place g at dirty)

  -- where a group stands that some entries make dirty
  pub record StandsDirty (x : List ℕ) : Type 0 where
    pub place : ℕ
    pub group : KeyedGroup
    pub at : slice_get groups.pairs place ≡ Some group
    pub key : group.0.items ≡ x
    pub dirty : is_dirty_at d.rows group ≡ true

  module _ (distinct : HaveDistinctKeys same_key groups) where
    dirty_by : (t : TableauRow ℕ) (g : KeyedGroup) → Contains d.rows t → all_match nat_eq t.x g.0.items ≡ true → disagree t.a (pairs_of g.1) ≡ true → is_dirty_at d.rows g ≡ true
    dirty_by t g inside matched disagrees =
        any_from_found (λ t. all_match nat_eq t.x g.0.items && disagree t.a (pairs_of g.1)) d.rows t inside (both_so (all_match nat_eq t.x g.0.items) (disagree t.a (pairs_of g.1)) matched disagrees)

    pub place_from_dirty : (x : List ℕ) → IsDirtyGroup nat_eq (is_in groups.pairs) d x → StandsDirty x
    place_from_dirty x dirty = let by = (dirty_by_values nat_eq_equiv (is_in groups.pairs) d x).0 dirty in of by.0 by.1 by.2 by.3
      where
        of : (t : TableauRow ℕ) → Contains d.rows t → all_match nat_eq t.x x ≡ true → Disagrees nat_eq (is_in groups.pairs) t x → StandsDirty x
        of t inside matched (outside e in_group not_a) =
            let it = found_in groups.pairs e in_group.held in
            let both = both_true (bytes_eq it.group.0.items e.x) (has_pair (pairs_of it.group.1) (e.a, e.row)) it.holds in
            let key : it.group.0.items ≡ x = equal_ids it.group.0.items e.x both.0 ∙ sym (equal_ids x e.x in_group.same) in
            let not_match : not (matches nat_eq t.a e.a) ≡ true = ap not not_a in
            let some = any_from_found (λ p. not (matches nat_eq t.a p.0)) (pairs_of it.group.1) (e.a, e.row) (member_from (pairs_of it.group.1) (e.a, e.row) both.1) not_match in
            record {
              place = it.place;
              group = it.group;
              at = it.at;
              key = key;
              dirty = dirty_by t it.group inside (ap (all_match nat_eq t.x) key ∙ matched) (right_so (is_mixed (pairs_of it.group.1)) (list_any (λ p. not (matches nat_eq t.a p.0)) (pairs_of it.group.1)) some);
            }
        of t inside matched (two e other in_group beside a other_a differ) =
            let it = found_in groups.pairs e in_group.held in
            let both = both_true (bytes_eq it.group.0.items e.x) (has_pair (pairs_of it.group.1) (e.a, e.row)) it.holds in
            let key : it.group.0.items ≡ x = equal_ids it.group.0.items e.x both.0 ∙ sym (equal_ids x e.x in_group.same) in
            let second = pair_of_entry groups it.place it.group.0 it.group.1 it.at distinct other (key ∙ equal_ids x other.x beside.same) beside.held in
            let apart : not (nat_eq e.a other.a) ≡ true = ap not differ in
            let mixed = any_from_found (λ p. list_any (λ q. not (nat_eq p.0 q.0)) (pairs_of it.group.1)) (pairs_of it.group.1) (e.a, e.row) (member_from (pairs_of it.group.1) (e.a, e.row) both.1)
            (any_from_found (λ q. not (nat_eq e.a q.0)) (pairs_of it.group.1) (other.a, other.row) second apart) in
            record {
              place = it.place;
              group = it.group;
              at = it.at;
              key = key;
              dirty = dirty_by t it.group inside (ap (all_match nat_eq t.x) key ∙ matched) (left_so (is_mixed (pairs_of it.group.1)) (list_any (λ p. not (matches nat_eq t.a p.0)) (pairs_of it.group.1)) mixed);
            }

-- ---- the keys of the first groups

firsts : ℕ → List KeyedGroup → List (List ℕ)
firsts zero gs = []
firsts (suc m) [] = []
firsts (suc m) (g ∷ gs) = g.0.items ∷ firsts m gs

as_many : (m : ℕ) (gs : List KeyedGroup) → m ≤ length gs → length (firsts m gs) ≡ m
unfolding firsts
as_many zero gs h = refl
as_many (suc m) [] h = absurd (omega arith)
as_many (suc m) (g ∷ gs) h = ap suc (as_many m gs (omega arith))

record IsAmongFirst (m : ℕ) (gs : List KeyedGroup) (x : List ℕ) : Type 0 where
  place : ℕ
  group : KeyedGroup
  below : place < m
  at : slice_get gs place ≡ Some group
  key : group.0.items ≡ x

one_later : (m : ℕ) (g : KeyedGroup) (gs : List KeyedGroup) (x : List ℕ) → IsAmongFirst m gs x → IsAmongFirst (suc m) (g ∷ gs) x
one_later m g gs x it = record { place = suc it.place; group = it.group; below = omega (arith, it.below); at = it.at; key = it.key }

among_firsts : (m : ℕ) (gs : List KeyedGroup) (x : List ℕ) → Contains (firsts m gs) x → IsAmongFirst m gs x
unfolding firsts
among_firsts zero gs x inside = absurd (contains_nothing x inside)
among_firsts (suc m) [] x inside = absurd (contains_nothing x inside)
among_firsts (suc m) (g ∷ gs) x inside = elim (contains_cases x g.0.items (firsts m gs) inside) [
  | inl is ↦ record { place = 0; group = g; below = omega arith; at = refl; key = is }
  | inr later ↦ one_later m g gs x (among_firsts m gs x later)
]

in_firsts : (m : ℕ) (gs : List KeyedGroup) (place : ℕ) (g : KeyedGroup) → place < m → slice_get gs place ≡ Some g → Contains (firsts m gs) g.0.items
unfolding firsts
in_firsts zero gs place g below at = absurd (omega arith)
in_firsts (suc m) [] place g below at = absurd (none-some g at)
in_firsts (suc m) (h ∷ gs) zero g below at = subst (λ (k : KeyedGroup). Contains (h.0.items ∷ firsts m gs) k.0.items) (same_Some h g at) (contains-here h.0.items (firsts m gs))
in_firsts (suc m) (h ∷ gs) (suc place) g below at = contains-there g.0.items h.0.items (firsts m gs) (in_firsts m gs place g (omega arith) at)

all_apart : (x : List ℕ) (m : ℕ) (gs : List KeyedGroup) → ((place : ℕ) (g : KeyedGroup) → place < m → slice_get gs place ≡ Some g → same_values nat_eq x g.0.items ≡ false) → AllByRecursion (λ y. same_values nat_eq x y ≡ false) (firsts m gs)
unfolding firsts
all_apart x zero gs apart = tt
all_apart x (suc m) [] apart = tt
all_apart x (suc m) (g ∷ gs) apart = (apart 0 g (omega arith) refl, all_apart x m gs (λ place h below at. apart (suc place) h (omega (arith, below)) at))

once : (m : ℕ) (gs : List KeyedGroup) → ((i j : ℕ) (g h : KeyedGroup) → slice_get gs i ≡ Some g → slice_get gs j ≡ Some h → same_values nat_eq g.0.items h.0.items ≡ true → i ≡ j) → IsDistinct (same_values nat_eq) (firsts m gs)
unfolding firsts IsDistinct
once zero gs distinct = tt
once (suc m) [] distinct = tt
once (suc m) (g ∷ gs) distinct = (
  all_apart g.0.items m gs (λ place h below at. isnt (same_values nat_eq g.0.items h.0.items) (λ same. absurd (let one : 0 ≡ suc place = distinct 0 (suc place) g h refl at same in omega (arith, one)))),
  once m gs (λ i j h k one other same. let is : suc i ≡ suc j = distinct (suc i) (suc j) h k one other same in omega (arith, is)),
)

-- so many groups are dirty as are marked, where no row has two entries
pub dirty_are_marked : (made : GroupsMade) (groups : KeyedGroups) (s : GroupSet) (count : ℕ) → set_of made groups ≡ s → HaveDistinctKeys same_key groups → HasOneARow (λ (e : Entry ℕ). e.row) (is_in groups.pairs) → AreMarked made.dependency.rows groups → groups.marked ≤ length groups.pairs → count ≡ groups.marked → AreDirty s count
dirty_are_marked made groups s count view distinct settled are fits is = subst (λ (r : GroupSet). AreDirty r count) view (record {
  groups = firsts groups.marked groups.pairs;
  once = once groups.marked groups.pairs (λ i j g h one other same. distinct i j g.0 h.0 (key_at groups.pairs i g one) (key_at groups.pairs j h other) same);
  exactly = λ x. (
    (λ inside.
        let it = among_firsts groups.marked groups.pairs x inside in
        subst (IsDirtyGroup nat_eq (is_in groups.pairs) made.dependency) it.key (dirty_from_place made.dependency groups it.place it.group it.at (are.marked it.place it.group it.below it.at (settled_steady groups settled it.place it.group it.at)))),
    (λ dirty.
        let it = place_from_dirty made.dependency groups distinct x dirty in
        elim (cases_lt it.place groups.marked) [
          | inl below ↦ subst (Contains (firsts groups.marked groups.pairs)) it.key (in_firsts groups.marked groups.pairs it.place it.group below it.at)
          | inr past ↦ absurd (clash (is_dirty_at made.dependency.rows it.group) it.dirty (are.unmarked it.place it.group past it.at (settled_steady groups settled it.place it.group it.at)))
        ]),
  );
  as_many = as_many groups.marked groups.pairs fits ∙ sym is;
})
