-- So many groups and keys of an index are dirty as the rows say that it holds.
use Rattle.std.proofs.Common.{◌≡◌, ℕ, ◌↔◌, ◌||◌, ◌⊎◌, Bool, true, false, List, map, filter, length, refl, sym, ◌∙◌, subst, inl, inr}
use Rattle.std.specs.Prelude.{nat_eq}
use Rattle.std.specs.Bool.{Decides}
use Rattle.std.specs.Cmp.{nat_eq_equiv}
use Rattle.std.specs.Cmp.Lexicographic.{pointwise_decides}
use Rattle.std.specs.List.{Contains, IsDistinct, list_any}
use Rattle.std.specs.Set.{distinct_count}
use Rattle.std.proofs.lemmas.Cmp.{lists_equiv}
use Rattle.std.proofs.lemmas.Map.Made.{IsDistinct-from_AllPairs, length-from_keys}
use Rattle.cfd_semantics.specs.declared.dependency.TableauRow.{TableauRow}
use Rattle.cfd_semantics.specs.declared.dependency.Dependency.{Dependency}
use Rattle.cfd_semantics.specs.declared.inclusion.InclusionRow.{InclusionRow}
use Rattle.cfd_semantics.specs.declared.inclusion.Inclusion.{Inclusion}
use Rattle.cfd_semantics.specs.Tuple.{same_values}
use Rattle.cfd_semantics.specs.Violation.{Entry, is_pair, is_single}
use Rattle.cfd_semantics.specs.Orphan.{SideEntry, is_orphan}
use Rattle.cfd_semantics.specs.EntrySets.{IsEntryList, IsSideList}
use Rattle.cfd_semantics.specs.Dirty.{IsDirtyGroup, IsDirtyKey, IsInGroup, Violates}
use Rattle.cfd_semantics.specs.Dirty.Violates.{single, pair}
use Rattle.cfd_semantics.proofs.InclusionLaw.{any_from_found, found_by_any}
use Rattle.cfd_semantics.proofs.Members.{contains-map, contains_from_map}
use Rattle.cfd_semantics.proofs.SetFacts.{contains-filter, contains_from_filter, orphan_of_sets}
use Rattle.group_index.specs.Answers.{AreDirty}
use Rattle.group_index.specs.GroupSet.{GroupSet, holds_entry}
use Rattle.cind_index.specs.Orphans.{IsDirtyCount}
use Rattle.bench_index.proofs.Settled.{exact_ids}
use Rattle.bench_index.proofs.Lines.{same_test}
use Rattle.bench_core.specs.DirtyCounts.{dirty_groups, dirty_keys, lacks_answer, violates}

same_ids : (x y : List ℕ) → Decides (same_values nat_eq x y) (x ≡ y)
same_ids x y = pointwise_decides exact_ids x y

either : (a b : Bool) → (a || b) ≡ true → (a ≡ true) ⊎ (b ≡ true)
either true b is = inl refl
either false b is = inr is

left_so : (a b : Bool) → a ≡ true → (a || b) ≡ true
left_so a b is = rw is refl

right_so : (a b : Bool) → b ≡ true → (a || b) ≡ true
right_so true b is = refl
right_so false b is = is

-- a list without two the same has as many items as there are different ones in a list with the same members
same_count : (keys xs : List (List ℕ)) → IsDistinct (same_values nat_eq) keys → ((x : List ℕ) → Contains keys x ↔ Contains xs x) → length keys ≡ distinct_count (same_values nat_eq) xs
same_count keys xs once members =
    length-from_keys (lists_equiv nat_eq_equiv) keys xs once (λ q. same_test (list_any (same_values nat_eq q) keys) (list_any (same_values nat_eq q) xs)
    (moved keys xs (λ x. (members x).0) q) (moved xs keys (λ x. (members x).1) q))
  where
    moved : (ks ls : List (List ℕ)) → ((x : List ℕ) → Contains ks x → Contains ls x) → (q : List ℕ) → list_any (same_values nat_eq q) ks ≡ true → list_any (same_values nat_eq q) ls ≡ true
    moved ks ls inside q is =
        let found = found_by_any (same_values nat_eq q) ks is in
        any_from_found (same_values nat_eq q) ls found.0 (inside found.0 found.1) found.2

-- ---- groups

module _ (d : Dependency ℕ) (holds : Entry ℕ → Bool) (all : List (Entry ℕ)) (list : IsEntryList holds all) where
  abbrev x_of : Entry ℕ → List ℕ
  x_of e = e.x

  listed_from_row : (t : TableauRow ℕ) (x : List ℕ) (e : Entry ℕ) → Contains d.rows t → IsInGroup nat_eq holds x e → (is_single nat_eq t e || list_any (is_pair nat_eq t e) all) ≡ true → Contains (map x_of (filter (violates nat_eq d all) all)) x
  listed_from_row t x e inside in_group is =
      let passes = any_from_found (λ (t : TableauRow ℕ). is_single nat_eq t e || list_any (is_pair nat_eq t e) all) d.rows t inside is in
      let there = contains-filter (violates nat_eq d all) all e ((list.members e).0 in_group.held) passes in
      subst (Contains (map x_of (filter (violates nat_eq d all) all))) (sym ((same_ids x e.x).0 in_group.same)) (contains-map x_of (filter (violates nat_eq d all) all) e there)

  listed_where_dirty : (x : List ℕ) → IsDirtyGroup nat_eq holds d x → Contains (map x_of (filter (violates nat_eq d all) all)) x
  listed_where_dirty x (t, inside, violated) = of violated
    where
      of : Violates nat_eq holds t x → Contains (map x_of (filter (violates nat_eq d all) all)) x
      of (single e in_group is) = listed_from_row t x e inside in_group (left_so (is_single nat_eq t e) (list_any (is_pair nat_eq t e) all) is)
      of (pair e other in_group partner) =
          listed_from_row t x e inside in_group (right_so (is_single nat_eq t e) (list_any (is_pair nat_eq t e) all)
          (any_from_found (is_pair nat_eq t e) all other ((list.members other).0 partner.held) partner.pair))

  dirty_where_listed : (x : List ℕ) → Contains (map x_of (filter (violates nat_eq d all) all)) x → IsDirtyGroup nat_eq holds d x
  dirty_where_listed x inside =
      let (e, there, is) = contains_from_map x_of (filter (violates nat_eq d all) all) x inside in
      let (member, passes) = contains_from_filter (violates nat_eq d all) all e there in
      let (t, row, violated) = found_by_any (λ (t : TableauRow ℕ). is_single nat_eq t e || list_any (is_pair nat_eq t e) all) d.rows passes in
      let in_group : IsInGroup nat_eq holds x e = record { held = (list.members e).1 member; same = (same_ids x e.x).1 (sym is) } in (
        t,
        row,
        elim (either (is_single nat_eq t e) (list_any (is_pair nat_eq t e) all) violated) [
          | inl alone ↦ single e in_group alone
          | inr paired ↦
              let (other, beside, with) = found_by_any (is_pair nat_eq t e) all paired in
              pair e other in_group (record { held = (list.members other).1 beside; pair = with })
        ],
      )

-- an index counts the dirty groups of the entries that it lists
pub groups_counted : (s : GroupSet) (count : ℕ) (all : List (Entry ℕ)) → IsEntryList (holds_entry s) all → AreDirty s count → count ≡ dirty_groups nat_eq s.made.dependency all
groups_counted s count all list dirty =
    let d = s.made.dependency in
    sym dirty.as_many
    ∙ same_count dirty.groups (map (λ (e : Entry ℕ). e.x) (filter (violates nat_eq d all) all)) dirty.once
    (λ x. ((λ inside. listed_where_dirty d (holds_entry s) all list x ((dirty.exactly x).0 inside)), (λ inside. (dirty.exactly x).1 (dirty_where_listed d (holds_entry s) all list x inside))))

-- ---- keys

module _ (i : Inclusion ℕ) (lefts rights : SideEntry ℕ → Bool) (left_list right_list : List (SideEntry ℕ)) (is_left : IsSideList lefts left_list) (is_right : IsSideList rights right_list) where
  abbrev key_of : SideEntry ℕ → List ℕ
  key_of left = left.key

  listed_where_orphaned : (key : List ℕ) → IsDirtyKey nat_eq i lefts rights key → Contains (map key_of (filter (lacks_answer nat_eq i right_list) left_list)) key
  listed_where_orphaned key (t, inside, left, held, same, alone) =
      let orphan = (orphan_of_sets nat_eq t lefts rights left_list right_list is_left is_right left).1 alone in
      let passes = any_from_found (λ (t : InclusionRow ℕ). is_orphan nat_eq t right_list left) i.rows t inside orphan in
      let there = contains-filter (lacks_answer nat_eq i right_list) left_list left ((is_left.members left).0 held) passes in
      subst (Contains (map key_of (filter (lacks_answer nat_eq i right_list) left_list))) (sym ((same_ids key left.key).0 same)) (contains-map key_of (filter (lacks_answer nat_eq i right_list) left_list) left there)

  orphaned_where_listed : (key : List ℕ) → Contains (map key_of (filter (lacks_answer nat_eq i right_list) left_list)) key → IsDirtyKey nat_eq i lefts rights key
  orphaned_where_listed key inside =
      let (left, there, is) = contains_from_map key_of (filter (lacks_answer nat_eq i right_list) left_list) key inside in
      let (member, passes) = contains_from_filter (lacks_answer nat_eq i right_list) left_list left there in
      let (t, row, orphan) = found_by_any (λ (t : InclusionRow ℕ). is_orphan nat_eq t right_list left) i.rows passes in
      (t, row, left, (is_left.members left).1 member, (same_ids key left.key).1 (sym is), (orphan_of_sets nat_eq t lefts rights left_list right_list is_left is_right left).0 orphan)

  -- an index counts the dirty keys of the entries that it lists
  pub keys_counted : (count : ℕ) → IsDirtyCount i lefts rights count → count ≡ dirty_keys nat_eq i left_list right_list
  keys_counted count (keys, dirty, as_many) =
      sym as_many
      ∙ same_count keys (map key_of (filter (lacks_answer nat_eq i right_list) left_list)) (IsDistinct-from_AllPairs same_ids keys dirty.distinct)
      (λ key. ((λ inside. listed_where_orphaned key ((dirty.exactly key).0 inside)), (λ inside. (dirty.exactly key).1 (orphaned_where_listed key inside))))
