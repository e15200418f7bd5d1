-- Rules by ids find among tuples of ids what the rules find among their texts.
use Rattle.std.proofs.Common.{◌≡◌, ℕ, Bool, true, false, List, [], ◌∷◌, map, Some, refl, sym, ap, ◌∙◌, arith}
use Rattle.std.specs.Prelude.{All, nat_eq}
use Rattle.std.specs.List.{AllZip}
use Rattle.std.specs.Str.{bytes_eq}
use Rattle.std.proofs.lemmas.Bool.Decides.{nat_tests}
use Rattle.std.proofs.lemmas.List.Elements.{All-nil, All-cons}
use Rattle.std.proofs.lemmas.Option.{slice_get-get_or, slice_get_within, get_or_from_slice_get}
use Rattle.std.proofs.lemmas.Slice.Eq.{bytes_eq-Decides}
use Rattle.value_pool.specs.Pool.{HasId, HaveOneId}
use Rattle.cfd_semantics.specs.declared.pattern.Pattern.{Pattern}
use Rattle.cfd_semantics.specs.declared.pattern.Pattern.TheVariants.{Any, Is, In, NotIn}
use Rattle.cfd_semantics.specs.declared.dependency.TableauRow.{TableauRow}
use Rattle.cfd_semantics.specs.declared.dependency.Dependency.{Dependency}
use Rattle.cfd_semantics.specs.declared.inclusion.InclusionRow.{InclusionRow}
use Rattle.cfd_semantics.specs.declared.inclusion.Inclusion.{Inclusion}
use Rattle.cfd_semantics.specs.Violation.{entries, violations}
use Rattle.cfd_semantics.specs.Orphan.{left_entries, right_entries, orphans}
use Rattle.cfd_semantics.specs.Renaming.{KeepsApart, renamed_cell, renamed_tableau_row, renamed_dependency, renamed_inclusion_row, renamed_inclusion, renamed_rows, HasKnownCell, HasKnownCells, HasKnownConstants, HasKnownTuples}
use Rattle.cfd_semantics.proofs.Renamed.{listing-renamed}
use Rattle.cfd_semantics.proofs.RenamedInclusion.{orphan_list-renamed}
use Rattle.bench_index.specs.ByIds.{text_of, HasText, HaveIds, IsCellByIds, IsRowByIds, IsDependencyByIds, IsInclusionRowByIds, IsInclusionByIds}

-- a list whose items are those of another under a map, with a fact of each
mapped : {A B : Type 0} (R : A → B → Type 0) (f : B → A) → ((x : A) (y : B) → R x y → x ≡ f y) → (xs : List A) (ys : List B) → AllZip R xs ys → xs ≡ map f ys
mapped R f each [] [] all = refl
mapped R f each [] (y ∷ ys) all = absurd all
mapped R f each (x ∷ xs) [] all = absurd all
mapped R f each (x ∷ xs) (y ∷ ys) all = λ i. each x y all.0 i ∷ mapped R f each xs ys all.1 i

known_all : {A B : Type 0} (R : A → B → Type 0) (P : B → Type 0) → ((x : A) (y : B) → R x y → P y) → (xs : List A) (ys : List B) → AllZip R xs ys → All P ys
known_all R P each [] [] all = All-nil P
known_all R P each [] (y ∷ ys) all = absurd all
known_all R P each (x ∷ xs) [] all = absurd all
known_all R P each (x ∷ xs) (y ∷ ys) all = All-cons P y ys (each x y all.0) (known_all R P each xs ys all.1)

module _ (texts : List (List ℕ)) where
  id-text : (text : List ℕ) (id : ℕ) → HasId texts text id → text ≡ text_of texts id
  id-text text id has = sym (get_or_from_slice_get texts id text [] has)

  id-known : (text : List ℕ) (id : ℕ) → HasId texts text id → HasText texts id
  id-known text id has = slice_get_within texts id text has

  ids-texts : (values : List (List ℕ)) (ids : List ℕ) → HaveIds texts values ids → values ≡ map (text_of texts) ids
  ids-texts values ids all = mapped (HasId texts) (text_of texts) id-text values ids all

  ids-known : (values : List (List ℕ)) (ids : List ℕ) → HaveIds texts values ids → All (HasText texts) ids
  ids-known values ids all = known_all (HasId texts) (HasText texts) id-known values ids all

  cell-texts : (cell : Pattern (List ℕ)) (by_ids : Pattern ℕ) → IsCellByIds texts cell by_ids → cell ≡ renamed_cell (text_of texts) by_ids
  cell-texts Any Any is = refl
  cell-texts Any (Is id) is = absurd is
  cell-texts Any (In ids) is = absurd is
  cell-texts Any (NotIn ids) is = absurd is
  cell-texts (Is text) Any is = absurd is
  cell-texts (Is text) (Is id) is = ap Is (id-text text id is)
  cell-texts (Is text) (In ids) is = absurd is
  cell-texts (Is text) (NotIn ids) is = absurd is
  cell-texts (In members) Any is = absurd is
  cell-texts (In members) (Is id) is = absurd is
  cell-texts (In members) (In ids) is = ap In (ids-texts members ids is)
  cell-texts (In members) (NotIn ids) is = absurd is
  cell-texts (NotIn members) Any is = absurd is
  cell-texts (NotIn members) (Is id) is = absurd is
  cell-texts (NotIn members) (In ids) is = absurd is
  cell-texts (NotIn members) (NotIn ids) is = ap NotIn (ids-texts members ids is)

  cell-known : (cell : Pattern (List ℕ)) (by_ids : Pattern ℕ) → IsCellByIds texts cell by_ids → HasKnownCell (HasText texts) by_ids
  cell-known Any Any is = tt
  cell-known Any (Is id) is = absurd is
  cell-known Any (In ids) is = absurd is
  cell-known Any (NotIn ids) is = absurd is
  cell-known (Is text) Any is = absurd is
  cell-known (Is text) (Is id) is = id-known text id is
  cell-known (Is text) (In ids) is = absurd is
  cell-known (Is text) (NotIn ids) is = absurd is
  cell-known (In members) Any is = absurd is
  cell-known (In members) (Is id) is = absurd is
  cell-known (In members) (In ids) is = ids-known members ids is
  cell-known (In members) (NotIn ids) is = absurd is
  cell-known (NotIn members) Any is = absurd is
  cell-known (NotIn members) (Is id) is = absurd is
  cell-known (NotIn members) (In ids) is = absurd is
  cell-known (NotIn members) (NotIn ids) is = ids-known members ids is

  pub row-texts : (row : TableauRow (List ℕ)) (by_ids : TableauRow ℕ) → IsRowByIds texts row by_ids → row ≡ renamed_tableau_row (text_of texts) by_ids
  row-texts row by_ids is =
      let x = mapped (IsCellByIds texts) (renamed_cell (text_of texts)) cell-texts row.x by_ids.x is.x in
      let a = cell-texts row.a by_ids.a is.a in
      λ i. record { x = x i; a = a i }

  pub row-known : (row : TableauRow (List ℕ)) (by_ids : TableauRow ℕ) → IsRowByIds texts row by_ids → HasKnownCells (HasText texts) by_ids
  row-known row by_ids is = record {
    x = known_all (IsCellByIds texts) (HasKnownCell (HasText texts)) cell-known row.x by_ids.x is.x;
    a = cell-known row.a by_ids.a is.a;
  }

  pub dependency-texts : (d : Dependency (List ℕ)) (by_ids : Dependency ℕ) → IsDependencyByIds texts d by_ids → d ≡ renamed_dependency (text_of texts) by_ids
  dependency-texts d by_ids is =
      let rows = mapped (IsRowByIds texts) (renamed_tableau_row (text_of texts)) row-texts d.rows by_ids.rows is.rows in
      let x = sym is.x in
      let a = sym is.a in
      λ i. record { x = x i; a = a i; rows = rows i }

  inclusion_row-texts : (row : InclusionRow (List ℕ)) (by_ids : InclusionRow ℕ) → IsInclusionRowByIds texts row by_ids → row ≡ renamed_inclusion_row (text_of texts) by_ids
  inclusion_row-texts row by_ids is =
      let xp = ids-texts row.xp by_ids.xp is.xp in
      let yp = ids-texts row.yp by_ids.yp is.yp in
      λ i. record { xp = xp i; yp = yp i }

  inclusion_row-known : (row : InclusionRow (List ℕ)) (by_ids : InclusionRow ℕ) → IsInclusionRowByIds texts row by_ids → HasKnownConstants (HasText texts) by_ids
  inclusion_row-known row by_ids is = record { xp = ids-known row.xp by_ids.xp is.xp; yp = ids-known row.yp by_ids.yp is.yp }

  pub inclusion-texts : (d : Inclusion (List ℕ)) (by_ids : Inclusion ℕ) → IsInclusionByIds texts d by_ids → d ≡ renamed_inclusion (text_of texts) by_ids
  inclusion-texts d by_ids is =
      let rows = mapped (IsInclusionRowByIds texts) (renamed_inclusion_row (text_of texts)) inclusion_row-texts d.rows by_ids.rows is.rows in
      let x = sym is.x in
      let xp = sym is.xp in
      let y = sym is.y in
      let yp = sym is.yp in
      λ i. record { x = x i; xp = xp i; y = y i; yp = yp i; rows = rows i }

  module _ (distinct : HaveOneId texts) where
    pub kept_apart : KeepsApart (HasText texts) (text_of texts) nat_eq bytes_eq
    kept_apart = record { same = λ v w v_known w_known. by v w v_known w_known (bytes_eq (text_of texts v) (text_of texts w)) refl }
      where
        by : (v w : ℕ) → HasText texts v → HasText texts w → (b : Bool) → bytes_eq (text_of texts v) (text_of texts w) ≡ b → b ≡ nat_eq v w
        by v w v_known w_known true is =
            let same = (bytes_eq-Decides (text_of texts v) (text_of texts w)).0 is in
            let equal : v ≡ w = distinct (text_of texts v) v w (slice_get-get_or texts v [] v_known) (slice_get-get_or texts w [] w_known ∙ ap Some (sym same)) in
            grind (arith, nat_tests, equal)
        by v w v_known w_known false is = differ (nat_eq v w) refl
          where
            differ : (b : Bool) → nat_eq v w ≡ b → false ≡ b
            differ false _ = refl
            differ true same =
                let equal : v ≡ w = grind (arith, nat_tests, same) in
                sym is ∙ (bytes_eq-Decides (text_of texts v) (text_of texts w)).1 (ap (text_of texts) equal)

    -- the violations of a dependency among tuples of ids are those among their texts
    pub violations_in_texts : (d : Dependency (List ℕ)) (by_ids : Dependency ℕ) (rows : List (ℕ × List ℕ)) → IsDependencyByIds texts d by_ids → HasKnownTuples (HasText texts) rows
        → violations nat_eq by_ids (entries by_ids rows) ≡ violations bytes_eq d (entries d (renamed_rows (text_of texts) rows))
    violations_in_texts d by_ids rows is known =
        let cells = known_all (IsRowByIds texts) (HasKnownCells (HasText texts)) row-known d.rows by_ids.rows is.rows in
        sym (ap (λ e. violations bytes_eq e (entries e (renamed_rows (text_of texts) rows))) (dependency-texts d by_ids is) ∙ listing-renamed kept_apart by_ids rows cells known)

    -- the same of the orphans of an inclusion
    pub orphans_in_texts : (d : Inclusion (List ℕ)) (by_ids : Inclusion ℕ) (lefts rights : List (ℕ × List ℕ)) → IsInclusionByIds texts d by_ids → HasKnownTuples (HasText texts) lefts → HasKnownTuples (HasText texts) rights
        → orphans nat_eq by_ids (left_entries by_ids lefts) (right_entries by_ids rights) ≡ orphans bytes_eq d (left_entries d (renamed_rows (text_of texts) lefts)) (right_entries d (renamed_rows (text_of texts) rights))
    orphans_in_texts d by_ids lefts rights is left_known right_known =
        let constants = known_all (IsInclusionRowByIds texts) (HasKnownConstants (HasText texts)) inclusion_row-known d.rows by_ids.rows is.rows in
        sym (ap (λ e. orphans bytes_eq e (left_entries e (renamed_rows (text_of texts) lefts)) (right_entries e (renamed_rows (text_of texts) rights))) (inclusion-texts d by_ids is)
        ∙ orphan_list-renamed kept_apart by_ids lefts rights constants left_known right_known)
