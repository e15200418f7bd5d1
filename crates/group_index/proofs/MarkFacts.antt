-- The marked groups are the dirty ones: what a change of one group, a mark and a removal leave of that.
use Rattle.std.proofs.Common.{◌≡◌, ◌≢◌, ℕ, ◌-◌, ◌<◌, ◌≤◌, true, false, List, length, slice_get, swap, Some, refl, sym, ap, ◌∙◌, subst, inl, inr, arith}
use Rattle.std.proofs.lemmas.Bool.{cases_lt, cases_eq}
use Rattle.std.proofs.lemmas.Option.{same_Some, slice_get_within}
use Rattle.std.specs.List.Sorted.{IsPermutation}
use Rattle.std.proofs.lemmas.List.Sorted.{IsPermutation-refl, IsPermutation-swap}
use Rattle.marked_map.specs.MarkedMap.{with_mark, without_mark}
use Rattle.marked_map.proofs.MarkedMapLemmas.{slice_get-swap_to, slice_get-swap_from, slice_get-swap_else}
use Rattle.cfd_semantics.specs.declared.dependency.TableauRow.{TableauRow}
use Rattle.cfd_semantics.specs.Violation.{Entry}
use Rattle.group_index.specs.declared.group.Group.{Group}
use Rattle.group_index.specs.Groups.{KeyedGroup, KeyedGroups, is_in, is_dirty_at, AreMarked, AreMarkedBut}
use Rattle.group_index.proofs.GroupFacts.{same_test, found_in, is_in_from, set_value_at, set_elsewhere}

module _ (rows : List (TableauRow ℕ)) where
  -- ---- a mark is put, or taken off

  module _ (old new : KeyedGroups) (place : ℕ) (group : KeyedGroup) (others : AreMarkedBut rows old place) (at : slice_get old.pairs place ≡ Some group) where
    within : place < length old.pairs
    within = slice_get_within old.pairs place group at

    pub marked_where_dirty : is_dirty_at rows group ≡ true → (place < old.marked → new ≡ old) → (old.marked ≤ place → new ≡ with_mark old place) → AreMarked rows new
    marked_where_dirty dirty already marks = elim (cases_lt place old.marked) [
      | inl low ↦ subst (AreMarked rows) (sym (already low)) (record {
        marked = λ i g below stands steady. elim (cases_eq i place) [
          | inl same ↦ ap (is_dirty_at rows) (same_Some g group (sym stands ∙ ap (slice_get old.pairs) same ∙ at)) ∙ dirty
          | inr apart ↦ others.0 i g apart below stands steady
        ];
        unmarked = λ i g past stands steady. others.1 i g (λ same. absurd (omega (arith, same, past, low))) past stands steady;
      })
      | inr high ↦ subst (AreMarked rows) (sym (marks high)) (record {
        marked = λ i g below stands steady. elim (cases_eq i old.marked) [
          | inl same ↦ ap (is_dirty_at rows) (same_Some g group (sym stands ∙ ap (slice_get (swap old.pairs place old.marked)) same ∙ slice_get-swap_to old.pairs place old.marked within (omega (arith, within, high)) ∙ at)) ∙ dirty
          | inr apart ↦
              let low : i < old.marked = omega (arith, apart, below) in
              let not_place : i ≢ place = λ same. absurd (omega (arith, same, low, high)) in
              others.0 i g not_place low (sym (slice_get-swap_else old.pairs place old.marked i within (omega (arith, within, high)) not_place apart) ∙ stands) steady
        ];
        unmarked = λ i g past stands steady. elim (cases_eq i place) [
          | inl same ↦
              others.1 old.marked g (λ equal. absurd (omega (arith, same, equal, past))) (omega arith)
              (sym (slice_get-swap_from old.pairs place old.marked within (omega (arith, within, high))) ∙ ap (slice_get (swap old.pairs place old.marked)) (sym same) ∙ stands) steady
          | inr apart ↦
              others.1 i g apart (omega (arith, past))
              (sym (slice_get-swap_else old.pairs place old.marked i within (omega (arith, within, high)) apart (λ same. absurd (omega (arith, same, past)))) ∙ stands) steady
        ];
      })
    ]

    pub unmarked_where_clean : is_dirty_at rows group ≡ false → (old.marked ≤ place → new ≡ old) → (place < old.marked → new ≡ without_mark old place) → (place < old.marked → old.marked ≤ length old.pairs) → AreMarked rows new
    unmarked_where_clean clean already unmarks fits = elim (cases_lt place old.marked) [
      | inr high ↦ subst (AreMarked rows) (sym (already high)) (record {
        marked = λ i g below stands steady. others.0 i g (λ same. absurd (omega (arith, same, below, high))) below stands steady;
        unmarked = λ i g past stands steady. elim (cases_eq i place) [
          | inl same ↦ ap (is_dirty_at rows) (same_Some g group (sym stands ∙ ap (slice_get old.pairs) same ∙ at)) ∙ clean
          | inr apart ↦ others.1 i g apart past stands steady
        ];
      })
      | inl low ↦
          let last : old.marked - 1 < length old.pairs = omega (arith, low, fits low) in
          subst (AreMarked rows) (sym (unmarks low)) (record {
            marked = λ i g below stands steady. elim (cases_eq i place) [
              | inl same ↦
                  others.0 (old.marked - 1) g (λ equal. absurd (omega (arith, same, equal, below))) (omega (arith, low))
                  (sym (slice_get-swap_from old.pairs place (old.marked - 1) within last) ∙ ap (slice_get (swap old.pairs place (old.marked - 1))) (sym same) ∙ stands) steady
              | inr apart ↦
                  others.0 i g apart (omega (arith, below))
                  (sym (slice_get-swap_else old.pairs place (old.marked - 1) i within last apart (λ same. absurd (omega (arith, same, below)))) ∙ stands) steady
            ];
            unmarked = λ i g past stands steady. elim (cases_eq i (old.marked - 1)) [
              | inl same ↦ ap (is_dirty_at rows) (same_Some g group (sym stands ∙ ap (slice_get (swap old.pairs place (old.marked - 1))) same ∙ slice_get-swap_to old.pairs place (old.marked - 1) within last ∙ at)) ∙ clean
              | inr apart ↦
                  let high : old.marked ≤ i = omega (arith, apart, past) in
                  let not_place : i ≢ place = λ same. absurd (omega (arith, same, low, high)) in
                  others.1 i g not_place high (sym (slice_get-swap_else old.pairs place (old.marked - 1) i within last not_place apart) ∙ stands) steady
            ];
          })
    ]

  -- ---- one group gets other pairs

  pub marked_but_written : (old : KeyedGroups) (place : ℕ) (w : Group) → AreMarked rows old → AreMarkedBut rows (record { pairs = set_value_at old.pairs place w; marked = old.marked }) place
  marked_but_written old place w are = (
    (λ i g apart below stands steady. are.marked i g below (sym (set_elsewhere old.pairs place i w apart) ∙ stands) steady),
    (λ i g apart past stands steady. are.unmarked i g past (sym (set_elsewhere old.pairs place i w apart) ∙ stands) steady),
  )

-- ---- the entries stay where a mark moves groups

content_swapped : (pairs : List KeyedGroup) (i j : ℕ) → i < length pairs → j < length pairs → (e : Entry ℕ) → is_in (swap pairs i j) e ≡ is_in pairs e
content_swapped pairs i j in_i in_j e = same_test (is_in (swap pairs i j) e) (is_in pairs e) to from
  where
    to : is_in (swap pairs i j) e ≡ true → is_in pairs e ≡ true
    to inside =
        let it = found_in (swap pairs i j) e inside in
        elim (cases_eq it.place i) [
          | inl same ↦ is_in_from pairs e j it.group (sym (slice_get-swap_from pairs i j in_i in_j) ∙ ap (slice_get (swap pairs i j)) (sym same) ∙ it.at) it.holds
          | inr apart ↦ elim (cases_eq it.place j) [
            | inl same ↦ is_in_from pairs e i it.group (sym (slice_get-swap_to pairs i j in_i in_j) ∙ ap (slice_get (swap pairs i j)) (sym same) ∙ it.at) it.holds
            | inr other ↦ is_in_from pairs e it.place it.group (sym (slice_get-swap_else pairs i j it.place in_i in_j apart other) ∙ it.at) it.holds
          ]
        ]

    from : is_in pairs e ≡ true → is_in (swap pairs i j) e ≡ true
    from inside =
        let it = found_in pairs e inside in
        elim (cases_eq it.place i) [
          | inl same ↦ is_in_from (swap pairs i j) e j it.group (slice_get-swap_to pairs i j in_i in_j ∙ ap (slice_get pairs) (sym same) ∙ it.at) it.holds
          | inr apart ↦ elim (cases_eq it.place j) [
            | inl same ↦ is_in_from (swap pairs i j) e i it.group (slice_get-swap_from pairs i j in_i in_j ∙ ap (slice_get pairs) (sym same) ∙ it.at) it.holds
            | inr other ↦ is_in_from (swap pairs i j) e it.place it.group (slice_get-swap_else pairs i j it.place in_i in_j apart other ∙ it.at) it.holds
          ]
        ]

pub content_marked : (old new : KeyedGroups) (place : ℕ) → place < length old.pairs → (place < old.marked → new ≡ old) → (old.marked ≤ place → new ≡ with_mark old place) → (e : Entry ℕ) → is_in new.pairs e ≡ is_in old.pairs e
content_marked old new place within already marks e = elim (cases_lt place old.marked) [
  | inl low ↦ ap (λ (m : KeyedGroups). is_in m.pairs e) (already low)
  | inr high ↦ ap (λ (m : KeyedGroups). is_in m.pairs e) (marks high) ∙ content_swapped old.pairs place old.marked within (omega (arith, within, high)) e
]

pub content_unmarked : (old new : KeyedGroups) (place : ℕ) → place < length old.pairs → (old.marked ≤ place → new ≡ old) → (place < old.marked → new ≡ without_mark old place) → (place < old.marked → old.marked ≤ length old.pairs) → (e : Entry ℕ) → is_in new.pairs e ≡ is_in old.pairs e
content_unmarked old new place within already unmarks fits e = elim (cases_lt place old.marked) [
  | inr high ↦ ap (λ (m : KeyedGroups). is_in m.pairs e) (already high)
  | inl low ↦ ap (λ (m : KeyedGroups). is_in m.pairs e) (unmarks low) ∙ content_swapped old.pairs place (old.marked - 1) within (omega (arith, low, fits low)) e
]

-- ---- and groups only change places

pub moved_marked : (old new : KeyedGroups) (place : ℕ) → place < length old.pairs → (place < old.marked → new ≡ old) → (old.marked ≤ place → new ≡ with_mark old place) → IsPermutation old.pairs new.pairs
moved_marked old new place within already marks = elim (cases_lt place old.marked) [
  | inl low ↦ subst (λ (m : KeyedGroups). IsPermutation old.pairs m.pairs) (sym (already low)) (IsPermutation-refl old.pairs)
  | inr high ↦ subst (λ (m : KeyedGroups). IsPermutation old.pairs m.pairs) (sym (marks high)) (IsPermutation-swap old.pairs (swap old.pairs place old.marked) place old.marked within (omega (arith, within, high)) refl)
]

pub moved_unmarked : (old new : KeyedGroups) (place : ℕ) → place < length old.pairs → (old.marked ≤ place → new ≡ old) → (place < old.marked → new ≡ without_mark old place) → (place < old.marked → old.marked ≤ length old.pairs) → IsPermutation old.pairs new.pairs
moved_unmarked old new place within already unmarks fits = elim (cases_lt place old.marked) [
  | inr high ↦ subst (λ (m : KeyedGroups). IsPermutation old.pairs m.pairs) (sym (already high)) (IsPermutation-refl old.pairs)
  | inl low ↦
      subst (λ (m : KeyedGroups). IsPermutation old.pairs m.pairs) (sym (unmarks low))
      (IsPermutation-swap old.pairs (swap old.pairs place (old.marked - 1)) place (old.marked - 1) within (omega (arith, low, fits low)) refl)
]
