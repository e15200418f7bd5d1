-- A map that keeps the known values apart changes no number of dirty groups or keys.
use Rattle.std.proofs.Common.{◌≡◌, ℕ, suc, ◌||◌, Bool, true, false, cond, List, [], ◌∷◌, map, filter, length, refl, ap, ◌∙◌}
use Rattle.std.specs.List.{All, filter_map, list_any}
use Rattle.std.specs.Set.{distinct_count, unique_keys}
use Rattle.std.proofs.lemmas.List.Elements.{All-filter, All-head, All-map, All-tail, All-weaker}
use Rattle.cfd_semantics.specs.declared.dependency.TableauRow.{TableauRow}
use Rattle.cfd_semantics.specs.declared.dependency.Dependency.{Dependency}
use Rattle.cfd_semantics.specs.declared.inclusion.InclusionRow.{InclusionRow}
use Rattle.cfd_semantics.specs.declared.inclusion.Inclusion.{Inclusion}
use Rattle.cfd_semantics.specs.Tuple.{same_values}
use Rattle.cfd_semantics.specs.Violation.{Entry, entries, is_pair, is_single}
use Rattle.cfd_semantics.specs.Orphan.{SideEntry, is_orphan, left_entries, right_entries, side_entry_of}
use Rattle.cfd_semantics.specs.Renaming.{HasKnownCells, HasKnownConstants, HasKnownTuples, KeepsApart, renamed_dependency, renamed_inclusion, renamed_inclusion_row, renamed_rows, renamed_tableau_row}
use Rattle.cfd_semantics.proofs.Renamed.{All-given, HasKnownValues, entries-known, entries-renamed, given-renamed, is_pair-renamed, is_single-renamed, renamed_entry, same_values-renamed, values_at-known}
use Rattle.cfd_semantics.proofs.RenamedInclusion.{HasKnownSide, is_orphan-renamed, renamed_side_entry, side_entry_of-renamed}
use Rattle.cfd_semantics.proofs.SideLists.{side_parts}
use Rattle.bench_core.specs.DirtyCounts.{dirty_groups, dirty_keys, lacks_answer, violates}

-- ---- tests of mapped items

module _ {X Y : Type 0} (f : X → Y) (p : X → Bool) (q : Y → Bool) where
  any-mapped : (xs : List X) → All (λ x. q (f x) ≡ p x) xs → list_any q (map f xs) ≡ list_any p xs
  any-mapped [] same = refl
  any-mapped (x ∷ xs) same = rw (All-head (λ x. q (f x) ≡ p x) x xs same, any-mapped xs (All-tail (λ x. q (f x) ≡ p x) x xs same)) refl

  filter-mapped : (xs : List X) → All (λ x. q (f x) ≡ p x) xs → filter q (map f xs) ≡ map f (filter p xs)
  filter-mapped [] same = refl
  filter-mapped (x ∷ xs) same = rw (All-head (λ x. q (f x) ≡ p x) x xs same) (by (p x) (filter-mapped xs (All-tail (λ x. q (f x) ≡ p x) x xs same)))
    where
      by : (b : Bool) → filter q (map f xs) ≡ map f (filter p xs) → cond b (f x ∷ filter q (map f xs)) (filter q (map f xs)) ≡ map f (cond b (x ∷ filter p xs) (filter p xs))
      by true rest = ap (λ ys. f x ∷ ys) rest
      by false rest = rest

-- a map of what is read is read of what is mapped
read-mapped : {X Y A B : Type 0} (f : X → Y) (g : A → B) (of_x : X → A) (of_y : Y → B) → ((x : X) → of_y (f x) ≡ g (of_x x)) → (xs : List X) → map of_y (map f xs) ≡ map g (map of_x xs)
read-mapped f g of_x of_y same [] = refl
read-mapped f g of_x of_y same (x ∷ xs) = λ i. same x i ∷ read-mapped f g of_x of_y same xs i

-- as many are different, where the map keeps known items apart
module _ {X Y : Type 0} (Known : X → Type 0) (f : X → Y) (eq : X → X → Bool) (named_eq : Y → Y → Bool) (apart : (x y : X) → Known x → Known y → named_eq (f x) (f y) ≡ eq x y) where
  count-mapped : (xs : List X) → All Known xs → distinct_count named_eq (map f xs) ≡ distinct_count eq xs
  count-mapped [] known = refl
  count-mapped (x ∷ xs) known =
      rw (any-mapped f (eq x) (named_eq (f x)) xs (All-weaker Known (λ y. named_eq (f x) (f y) ≡ eq x y) (λ y beside. apart x y (All-head Known x xs known) beside) xs (All-tail Known x xs known)))
      (by (list_any (eq x) xs) (count-mapped xs (All-tail Known x xs known)))
    where
      by : (b : Bool) → distinct_count named_eq (map f xs) ≡ distinct_count eq xs → length (cond b (unique_keys named_eq (map f xs)) (f x ∷ unique_keys named_eq (map f xs))) ≡ length (cond b (unique_keys eq xs) (x ∷ unique_keys eq xs))
      by true rest = rest
      by false rest = ap suc rest

module _ {V W : Type 0} {Known : V → Type 0} {name : V → W} {eq : V → V → Bool} {named_eq : W → W → Bool} (apart : KeepsApart Known name eq named_eq) where
  -- ---- groups

  row-renamed : (all : List (Entry V)) (e : Entry V) (t : TableauRow V) → All (HasKnownValues Known) all → HasKnownValues Known e → HasKnownCells Known t
      → (is_single named_eq (renamed_tableau_row name t) (renamed_entry name e) || list_any (is_pair named_eq (renamed_tableau_row name t) (renamed_entry name e)) (map (renamed_entry name) all)) ≡ (is_single eq t e || list_any (is_pair eq t e) all)
  row-renamed all e t values known cells =
      rw (
        is_single-renamed apart t e cells known,
        any-mapped (renamed_entry name) (is_pair eq t e) (is_pair named_eq (renamed_tableau_row name t) (renamed_entry name e)) all
            (All-weaker (HasKnownValues Known) (λ other. is_pair named_eq (renamed_tableau_row name t) (renamed_entry name e) (renamed_entry name other) ≡ is_pair eq t e other) (λ other beside. is_pair-renamed apart t e other cells known beside) all values),
      ) refl

  violates-renamed : (d : Dependency V) (all : List (Entry V)) (e : Entry V) → All (HasKnownCells Known) d.rows → All (HasKnownValues Known) all → HasKnownValues Known e
      → violates named_eq (renamed_dependency name d) (map (renamed_entry name) all) (renamed_entry name e) ≡ violates eq d all e
  violates-renamed d all e cells values known =
      let p = λ (t : TableauRow V). is_single eq t e || list_any (is_pair eq t e) all in
      let q = λ (t : TableauRow W). is_single named_eq t (renamed_entry name e) || list_any (is_pair named_eq t (renamed_entry name e)) (map (renamed_entry name) all) in
      any-mapped (renamed_tableau_row name) p q d.rows (All-weaker (HasKnownCells Known) (λ t. q (renamed_tableau_row name t) ≡ p t) (λ t here. row-renamed all e t values known here) d.rows cells)

  groups-renamed : (d : Dependency V) (all : List (Entry V)) → All (HasKnownCells Known) d.rows → All (HasKnownValues Known) all → dirty_groups named_eq (renamed_dependency name d) (map (renamed_entry name) all) ≡ dirty_groups eq d all
  groups-renamed d all cells values =
      let p = violates eq d all in
      let q = violates named_eq (renamed_dependency name d) (map (renamed_entry name) all) in
      let x_of = λ (e : Entry V). e.x in
      let named_x = λ (e : Entry W). e.x in
      let passing = filter p all in
      let tests : All (λ e. q (renamed_entry name e) ≡ p e) all = All-weaker (HasKnownValues Known) (λ e. q (renamed_entry name e) ≡ p e) (λ e known. violates-renamed d all e cells values known) all values in
      let known : All (All Known) (map x_of passing) = All-map (All Known) x_of passing (All-weaker (HasKnownValues Known) (λ e. All Known e.x) (λ e is. is.x) passing (All-filter p (HasKnownValues Known) all values)) in
      ap (λ es. distinct_count (same_values named_eq) (map named_x es)) (filter-mapped (renamed_entry name) p q all tests)
      ∙ ap (distinct_count (same_values named_eq)) (read-mapped (renamed_entry name) (map name) x_of named_x (λ e. refl) passing)
      ∙ count-mapped (All Known) (map name) (same_values eq) (same_values named_eq) (λ x y here beside. same_values-renamed apart x y here beside) (map x_of passing) known

  -- over the rows of a table
  pub dirty_groups-renamed : (d : Dependency V) (rows : List (ℕ × List V)) → All (HasKnownCells Known) d.rows → HasKnownTuples Known rows
      → dirty_groups named_eq (renamed_dependency name d) (entries (renamed_dependency name d) (renamed_rows name rows)) ≡ dirty_groups eq d (entries d rows)
  dirty_groups-renamed d rows cells tuples =
      ap (dirty_groups named_eq (renamed_dependency name d)) (entries-renamed name d rows) ∙ groups-renamed d (entries d rows) cells (entries-known Known d rows tuples)

  -- ---- keys

  lacks-renamed : (i : Inclusion V) (rights : List (SideEntry V)) (left : SideEntry V) → All (HasKnownConstants Known) i.rows → All (HasKnownSide Known) rights → HasKnownSide Known left
      → lacks_answer named_eq (renamed_inclusion name i) (map (renamed_side_entry name) rights) (renamed_side_entry name left) ≡ lacks_answer eq i rights left
  lacks-renamed i rights left constants values known =
      let p = λ (t : InclusionRow V). is_orphan eq t rights left in
      let q = λ (t : InclusionRow W). is_orphan named_eq t (map (renamed_side_entry name) rights) (renamed_side_entry name left) in
      any-mapped (renamed_inclusion_row name) p q i.rows (All-weaker (HasKnownConstants Known) (λ t. q (renamed_inclusion_row name t) ≡ p t) (λ t here. is_orphan-renamed apart t rights left here values known) i.rows constants)

  keys-renamed : (i : Inclusion V) (lefts rights : List (SideEntry V)) → All (HasKnownConstants Known) i.rows → All (HasKnownSide Known) lefts → All (HasKnownSide Known) rights
      → dirty_keys named_eq (renamed_inclusion name i) (map (renamed_side_entry name) lefts) (map (renamed_side_entry name) rights) ≡ dirty_keys eq i lefts rights
  keys-renamed i lefts rights constants known values =
      let p = lacks_answer eq i rights in
      let q = lacks_answer named_eq (renamed_inclusion name i) (map (renamed_side_entry name) rights) in
      let key_of = λ (e : SideEntry V). e.key in
      let named_key = λ (e : SideEntry W). e.key in
      let passing = filter p lefts in
      let tests : All (λ e. q (renamed_side_entry name e) ≡ p e) lefts = All-weaker (HasKnownSide Known) (λ e. q (renamed_side_entry name e) ≡ p e) (λ e here. lacks-renamed i rights e constants values here) lefts known in
      let known_keys : All (All Known) (map key_of passing) = All-map (All Known) key_of passing (All-weaker (HasKnownSide Known) (λ e. All Known e.key) (λ e is. is.key) passing (All-filter p (HasKnownSide Known) lefts known)) in
      ap (λ es. distinct_count (same_values named_eq) (map named_key es)) (filter-mapped (renamed_side_entry name) p q lefts tests)
      ∙ ap (distinct_count (same_values named_eq)) (read-mapped (renamed_side_entry name) (map name) key_of named_key (λ e. refl) passing)
      ∙ count-mapped (All Known) (map name) (same_values eq) (same_values named_eq) (λ x y here beside. same_values-renamed apart x y here beside) (map key_of passing) known_keys

  sides-renamed : (x xp : List ℕ) (rows : List (ℕ × List V)) → filter_map (side_entry_of x xp) (renamed_rows name rows) ≡ map (renamed_side_entry name) (filter_map (side_entry_of x xp) rows)
  sides-renamed x xp rows = given-renamed (side_entry_of x xp) (side_entry_of x xp) (λ (row : ℕ × List V). (row.0, map name row.1)) (renamed_side_entry name) rows (side_entry_of-renamed name x xp)

  sides-known : (x xp : List ℕ) (rows : List (ℕ × List V)) → HasKnownTuples Known rows → All (HasKnownSide Known) (filter_map (side_entry_of x xp) rows)
  sides-known x xp rows known =
      All-given (λ (row : ℕ × List V). All Known row.1) (HasKnownSide Known) (side_entry_of x xp)
      (λ row e here is. let parts = side_parts x xp row e is in record { key = values_at-known Known row.1 x e.key here parts.key; pattern = values_at-known Known row.1 xp e.pattern here parts.pattern }) rows known

  -- over the rows of two tables
  pub dirty_keys-renamed : (i : Inclusion V) (lefts rights : List (ℕ × List V)) → All (HasKnownConstants Known) i.rows → HasKnownTuples Known lefts → HasKnownTuples Known rights
      → dirty_keys named_eq (renamed_inclusion name i) (left_entries (renamed_inclusion name i) (renamed_rows name lefts)) (right_entries (renamed_inclusion name i) (renamed_rows name rights)) ≡ dirty_keys eq i (left_entries i lefts) (right_entries i rights)
  dirty_keys-renamed i lefts rights constants known values =
      ap (λ es. dirty_keys named_eq (renamed_inclusion name i) es (right_entries (renamed_inclusion name i) (renamed_rows name rights))) (sides-renamed i.x i.xp lefts)
      ∙ ap (dirty_keys named_eq (renamed_inclusion name i) (map (renamed_side_entry name) (left_entries i lefts))) (sides-renamed i.y i.yp rights)
      ∙ keys-renamed i (left_entries i lefts) (right_entries i rights) constants (sides-known i.x i.xp lefts known) (sides-known i.y i.yp rights values)
