-- What a tableau row lists of one row: from whether the row violates it alone, and from its least partner.
use Rattle.std.proofs.Common.{◌≡◌, ℕ, ◌<◌, ◌↔◌, Bool, true, false, ◌&&◌, not, List, [], ◌∷◌, map, length, Option, Some, None, refl, sym, ap, ◌∙◌}
use Rattle.std.specs.Prelude.{nat_eq, All, IsTrue, slice_index}
use Rattle.std.specs.Option.{option_map}
use Rattle.std.specs.Str.{bytes_eq}
use Rattle.std.proofs.lemmas.List.Elements.{All-map, All-head, All-tail}
use Rattle.value_pool.specs.Pool.{HaveOneId}
use Rattle.cfd_semantics.specs.declared.dependency.TableauRow.{TableauRow}
use Rattle.cfd_semantics.specs.declared.dependency.Dependency.{Dependency}
use Rattle.cfd_semantics.specs.Pattern.{matches, all_match}
use Rattle.cfd_semantics.specs.declared.inclusion.InclusionRow.{InclusionRow}
use Rattle.cfd_semantics.specs.EntrySets.{IsEntryList, IsSideList, IsUnanswered}
use Rattle.cfd_semantics.specs.Orphan.{SideEntry, is_orphan}
use Rattle.cfd_semantics.specs.Renaming.{renamed_cell}
use Rattle.cfd_semantics.specs.Violation.{Entry, entry_of, is_single, least_partner, violation_of}
use Rattle.cfd_semantics.proofs.Renamed.{HasKnownValues, is_single-renamed}
use Rattle.cfd_semantics.proofs.Members.{contains_nothing}
use Rattle.cfd_semantics.proofs.Sets.{rising-nil}
use Rattle.cfd_semantics.proofs.SetFacts.{least_partner_of_set, no_partner_of_set, orphan_of_sets}
use Rattle.row_store.specs.Watch.{IsWide}
use Rattle.group_index.specs.GroupSet.{GroupSet, holds_entry}
use Rattle.group_index.specs.Answers.{IsPartnerOf}
use Rattle.group_index.proofs.OwnEntries.{entry_there}
use Rattle.row_store.specs.Tuple.{ids_at}
use Rattle.bench_index.specs.ByIds.{text_of, HasText, IsRowByIds}
use Rattle.bench_index.specs.Lists.{text_of_cell, texts_at}
use Rattle.bench_index.proofs.InTexts.{kept_apart, row-texts, row-known}

module _ (s : GroupSet) (t : TableauRow ℕ) (e : Entry ℕ) (all : List (Entry ℕ)) (list : IsEntryList (holds_entry s) all) where
  partner_listed : (partner : Option ℕ) → IsPartnerOf s t e partner → least_partner nat_eq t all e ≡ partner
  partner_listed None none = (no_partner_of_set nat_eq t (holds_entry s) all list e).1 none
  partner_listed (Some n) least = (least_partner_of_set nat_eq t (holds_entry s) all list e n).1 least

  pub line_alone : is_single nat_eq t e ≡ true → violation_of nat_eq t all e ≡ Some (record { row = e.row; partner = None })
  line_alone single = rw single refl

  pub line_with : (partner : Option ℕ) → IsPartnerOf s t e partner → is_single nat_eq t e ≡ false → violation_of nat_eq t all e ≡ option_map (λ n. record { row = e.row; partner = Some n }) partner
  line_with partner is together = rw (together, partner_listed partner is) refl

-- ---- a row by itself, seen from its texts

texts_of_ids : (texts : List (List ℕ)) (ids x : List ℕ) → texts_at texts ids x ≡ map (text_of texts) (ids_at ids x)
texts_of_ids texts ids [] = refl
texts_of_ids texts ids (attribute ∷ x) = ap (λ rest. text_of_cell texts ids attribute ∷ rest) (texts_of_ids texts ids x)

same_Some : {X : Type 0} (x y : X) → Some x ≡ Some y → x ≡ y
same_Some x y is = cc

module _ (texts : List (List ℕ)) (ids : List ℕ) (named : All (HasText texts) ids) where
  ids_named : (x : List ℕ) → IsWide x ids → All (HasText texts) (ids_at ids x)
  ids_named x wide = All-map (HasText texts) (slice_index ids) x (λ k d below. named _ 0 (wide k d below))

  -- whether it violates a tableau row alone is the same among ids
  pub single_by_ids : (distinct : HaveOneId texts) (d : Dependency ℕ) (row : ℕ) (e : Entry ℕ) (text_row : TableauRow (List ℕ)) (t : TableauRow ℕ) → IsWide (d.a ∷ d.x) ids → entry_of d (row, ids) ≡ Some e → IsRowByIds texts text_row t
      → (all_match bytes_eq text_row.x (texts_at texts ids d.x) && not (matches bytes_eq text_row.a (text_of_cell texts ids d.a))) ≡ is_single nat_eq t e
  single_by_ids distinct d row e text_row t wide is by_ids =
      let own : Entry ℕ = record { x = ids_at ids d.x; a = slice_index ids d.a; row = row } in
      let same : own ≡ e = same_Some own e (sym (entry_there (record { table = 0; dependency = d }) row ids wide) ∙ is) in
      let known : HasKnownValues (HasText texts) own = record {
        x = ids_named d.x (All-tail (λ attribute. attribute < length ids) d.a d.x wide);
        a = named d.a 0 (All-head (λ attribute. attribute < length ids) d.a d.x wide);
      } in
      let test = is_single-renamed (kept_apart texts distinct) t own (row-known texts text_row t by_ids) known in
      ap (λ (r : TableauRow (List ℕ)). all_match bytes_eq r.x (texts_at texts ids d.x) && not (matches bytes_eq r.a (text_of_cell texts ids d.a))) (row-texts texts text_row t by_ids)
      ∙ ap (λ xs. all_match bytes_eq (map (renamed_cell (text_of texts)) t.x) xs && not (matches bytes_eq (renamed_cell (text_of texts) t.a) (text_of_cell texts ids d.a))) (texts_of_ids texts ids d.x)
      ∙ test ∙ ap (is_single nat_eq t) same

-- ---- a left row of an inclusion

no_lefts : IsSideList (λ (e : SideEntry ℕ). false) []
no_lefts = record { rising = rising-nil (λ (e : SideEntry ℕ). e.row); members = λ e. ((λ held. absurd (cc)), (λ inside. absurd (contains_nothing e inside))) }

pub same_test : (b d : Bool) → (b ≡ true → d ≡ true) → (d ≡ true → b ≡ true) → b ≡ d
same_test true d to from = sym (to refl)
same_test false true to from = from refl
same_test false false to from = refl

-- whether a row of the set's list answers it is whether an entry of the set does
pub orphan_told : (t : InclusionRow ℕ) (rights : SideEntry ℕ → Bool) (rs : List (SideEntry ℕ)) (left : SideEntry ℕ) (is : Bool) → IsSideList rights rs → IsTrue is ↔ IsUnanswered nat_eq t rights left → is ≡ is_orphan nat_eq t rs left
orphan_told t rights rs left is list told =
    let of_list = orphan_of_sets nat_eq t (λ (e : SideEntry ℕ). false) rights [] rs no_lefts list left in
    same_test is (is_orphan nat_eq t rs left) (λ so. of_list.1 (told.0 so)) (λ so. told.1 (of_list.0 so))
