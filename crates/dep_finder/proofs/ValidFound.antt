-- What is found is valid over a schema whose domains the rows keep to.
use Rattle.std.proofs.Common.{◌≡◌, ℕ, suc, ◌<◌, ◌≤◌, List, [], ◌∷◌, map, length, get_or, Some, None, All, refl, sym, ap, subst, ◌∙◌, arith}
use Rattle.std.specs.Prelude.{slice_get, slice_index_or}
use Rattle.std.specs.List.{AllZip}
use Rattle.std.specs.Option.{option_map_or}
use Rattle.std.proofs.lemmas.List.Elements.{All-cons, All-head, All-nil, All-tail}
use Rattle.std.proofs.lemmas.List.Sorted.{All-permutation}
use Rattle.std.proofs.lemmas.Option.{slice_get-get_or, slice_get_within}
use Rattle.text_lists.specs.Repeats.{AreDistinct}
use Rattle.schema_core.specs.Lookups.{attrs_at, domain_at}
use Rattle.schema_core.specs.Rows.{IsRowOf}
use Rattle.schema_core.specs.Schemas.{Admits}
use Rattle.schema_core.specs.declared.schema.Attr.{Attr}
use Rattle.schema_core.specs.declared.schema.Domain.TheVariants.{AnyText}
use Rattle.schema_core.specs.declared.schema.Schema.{Schema}
use Rattle.schema_core.specs.declared.schema.Table.{Table}
use Rattle.cfd_semantics.specs.declared.dependency.Dependency.{Dependency}
use Rattle.cfd_semantics.specs.declared.dependency.TableauRow.{TableauRow}
use Rattle.cfd_semantics.specs.declared.pattern.Pattern.{Pattern}
use Rattle.rule_model.specs.Rules.{AreAttrsOf, IsCellOf, IsConstantOf, IsValidDep, IsValidRow}
use Rattle.rule_model.specs.declared.dep.Dep.{Dep}
use Rattle.rule_model.proofs.ValidRules.{at_place}
use Rattle.dep_search.specs.Found.{IsFound, IsInOrder, all_found, left_sides, side_at}
use Rattle.dep_search.specs.Rows.{Row, row_at}
use Rattle.dep_search.specs.declared.candidate.Candidate.{Candidate}
use Rattle.dep_finder.specs.Deps.{cell_of, deps_from, rule_of}
use Rattle.dep_finder.specs.Valid.{AreValid, HasOneRow, HasTexts, IsTextCell, IsTextRow}
use Rattle.dep_finder.proofs.FoundLists.{found_each, sides_are}
use Rattle.dep_finder.proofs.KeptParts.{IsRising}
use Rattle.dep_finder.proofs.Laws.{tests_of}
use Rattle.dep_finder.proofs.LeastFound.{AreNamed}
use Rattle.dep_finder.proofs.Meaning.{texts_at}
use Rattle.dep_finder.proofs.SameTexts.{short_texts}

-- ---- the domain of a text of a row

abbrev nowhere : Attr
nowhere = record { name = []; domain = AnyText }

admitted_there : (attrs : List Attr) (cell_bytes : ℕ) (row : Row) (attr : ℕ) → IsRowOf attrs cell_bytes row → attr < length attrs → Admits (domain_at attrs attr) (slice_index_or row attr [])
admitted_there attrs cell_bytes row attr is al =
    let same : domain_at attrs attr ≡ (get_or attrs attr nowhere).domain = ap (λ found. option_map_or (λ (a : Attr). a.domain) found AnyText) (slice_get-get_or attrs attr nowhere al) in
    subst (λ domain. Admits domain (slice_index_or row attr [])) (sym same) (at_place (λ (attr : Attr) (text : List ℕ). Admits attr.domain text) attrs row attr nowhere [] is.domains al)

-- ---- the rule of a candidate

-- its attributes are some of these, none stands twice on the left, and where its constants are texts its rows are valid
pub record IsFit (attrs : List Attr) (rule : Dependency (List ℕ)) : Type 0 where
  pub x : AreAttrsOf attrs rule.x
  pub a : rule.a < length attrs
  pub distinct : AreDistinct rule.x
  pub rows : HasTexts rule → All (IsValidRow attrs rule.x rule.a) rule.rows

rising_distinct : (x : List ℕ) → IsRising x → AreDistinct x
rising_distinct x rising = λ i j d lt within same. omega (arith, rising i j d lt within, same)

abbrev AreCells : List Attr → List ℕ → List (Pattern (List ℕ)) → Type 0
AreCells attrs x cells = AllZip (λ attr cell. IsCellOf (domain_at attrs attr) cell) x cells

any_cells : (attrs : List Attr) (rows : List Row) (x : List ℕ) → AreCells attrs x (map (cell_of rows None) x)
any_cells attrs rows [] = tt
any_cells attrs rows (attr ∷ x) = (tt, any_cells attrs rows x)

module _ (attrs : List Attr) (cell_bytes : ℕ) (rows : List Row) (rows_of : All (IsRowOf attrs cell_bytes) rows) where
  -- a short text of a row is a constant of its domain
  constant_there : (r attr : ℕ) → r < length rows → attr < length attrs → length (slice_index_or (row_at rows r) attr []) ≤ 1024 → IsTextCell (cell_of rows (Some r) attr)
      → IsConstantOf (domain_at attrs attr) (slice_index_or (row_at rows r) attr [])
  constant_there r attr rl al short utf8 = record {
    constant = record { utf8 = utf8; bound = short };
    admitted = admitted_there attrs cell_bytes (row_at rows r) attr (rows_of r [] rl) al;
  }

  constant_cells : (r : ℕ) (x : List ℕ) → r < length rows → AreAttrsOf attrs x → All (λ (text : List ℕ). length text ≤ 1024) (texts_at rows r x) → All IsTextCell (map (cell_of rows (Some r)) x)
      → AreCells attrs x (map (cell_of rows (Some r)) x)
  constant_cells r [] rl within short utf8 = tt
  constant_cells r (attr ∷ x) rl within short utf8 =
      let Within = λ (attr : ℕ). attr < length attrs in
      let Short = λ (text : List ℕ). length text ≤ 1024 in
      let text = slice_index_or (row_at rows r) attr [] in
      let cells = map (cell_of rows (Some r)) x in (
        constant_there r attr rl (All-head Within attr x within) (All-head Short text (texts_at rows r x) short) (All-head IsTextCell (cell_of rows (Some r) attr) cells utf8),
        constant_cells r x rl (All-tail Within attr x within) (All-tail Short text (texts_at rows r x) short) (All-tail IsTextCell (cell_of rows (Some r) attr) cells utf8),
      )

  pub each_fit : (width support : ℕ) (found : List Candidate) → IsFound rows (length attrs) width support found
      → All (λ (c : Candidate). IsFit attrs (rule_of rows (side_at (left_sides (length attrs) width) c.side) c)) found
  each_fit width support found is =
      let lefts = left_sides (length attrs) width in
      let Fits = λ (c : Candidate). IsFit attrs (rule_of rows (side_at lefts c.side) c) in
      All-permutation Fits (all_found rows support (length attrs) lefts) found is.all (found_each Fits rows support (length attrs) lefts
      (λ side a sl al outside test.
      let x = side_at lefts side in
      let left = sides_are (length attrs) width side [] sl in
      let row : TableauRow (List ℕ) = record { x = map (cell_of rows None) x; a = cell_of rows None a } in
      record {
        x = left.within;
        a = al;
        distinct = rising_distinct x left.rising;
        rows = λ texts. All-cons (IsValidRow attrs x a) row [] (record { x = any_cells attrs rows x; a = tt }) (All-nil (IsValidRow attrs x a));
      })
      (λ side a r sl al outside rl test.
      let x = side_at lefts side in
      let left = sides_are (length attrs) width side [] sl in
      let tests = tests_of rows support x a r test in
      let short_a = short_texts rows r (a ∷ []) tests.short_a 0 [] (omega arith) in
      let row : TableauRow (List ℕ) = record { x = map (cell_of rows (Some r)) x; a = cell_of rows (Some r) a } in
      record {
        x = left.within;
        a = al;
        distinct = rising_distinct x left.rising;
        rows = λ texts.
            let here = All-head IsTextRow row [] texts in
            All-cons (IsValidRow attrs x a) row []
            (record { x = constant_cells r x rl left.within (short_texts rows r x tests.short) here.x; a = constant_there r a rl al short_a here.a })
            (All-nil (IsValidRow attrs x a));
      }))

-- ---- the dependencies

-- a dependency of that table with the rule of a candidate
record IsDepOf (attrs : List Attr) (number : ℕ) (dep : Dep) : Type 0 where
  table : dep.table ≡ number
  one : HasOneRow dep
  fit : IsFit attrs dep.rule

deps_fit : (attrs : List Attr) (number : ℕ) (rows : List Row) (sides : List (List ℕ)) (start : ℕ) (found : List Candidate)
    → All (λ (c : Candidate). IsFit attrs (rule_of rows (side_at sides c.side) c)) found → All (IsDepOf attrs number) (deps_from number rows sides start found)
deps_fit attrs number rows sides start [] fit = All-nil (IsDepOf attrs number)
deps_fit attrs number rows sides start (c ∷ found) fit =
    let Fits = λ (c : Candidate). IsFit attrs (rule_of rows (side_at sides c.side) c) in
    All-cons (IsDepOf attrs number) _ _
    (record { table = refl; one = refl; fit = All-head Fits c found fit })
    (deps_fit attrs number rows sides (suc start) found (All-tail Fits c found fit))

valid_dep : (schema : Schema) (table : Table) (number : ℕ) (dep : Dep) → slice_get schema.tables number ≡ Some table → IsDepOf table.attrs number dep → HasTexts dep.rule → IsValidDep schema dep
valid_dep schema table number dep there of texts =
    let found : slice_get schema.tables dep.table ≡ Some table = ap (slice_get schema.tables) of.table ∙ there in
    let same : table.attrs ≡ attrs_at schema dep.table = sym (ap (λ found. option_map_or (λ (t : Table). t.attrs) found []) found) in
    let fit = subst (λ (attrs : List Attr). IsFit attrs dep.rule) same of.fit in
    record { table = slice_get_within schema.tables dep.table table found; x = fit.x; a = fit.a; distinct = fit.distinct; rows = fit.rows texts }

pub named_valid : (table : Table) (number : ℕ) (rows : List Row) (width support : ℕ) (deps : List Dep) → AreNamed number rows (length table.attrs) width support deps
    → All (λ (dep : Dep). HasTexts dep.rule) deps → AreValid table number rows deps
named_valid table number rows width support deps are texts = λ schema cell_bytes there rows_of.
    let attrs = length table.attrs in
    let sides = left_sides attrs width in
    let is : IsFound rows attrs width support are.sorted = subst (λ (all : List Candidate). IsInOrder rows sides all are.sorted) are.is_all are.in_order in
    let each = subst (All (IsDepOf table.attrs number)) (sym are.named) (deps_fit table.attrs number rows sides 0 are.sorted (each_fit table.attrs cell_bytes rows rows_of width support are.sorted is)) in
    record {
      of_table = λ k d kl. ap (slice_get schema.tables) (each k d kl).table ∙ there;
      valid = λ k d kl. valid_dep schema table number (get_or deps k d) there (each k d kl) (texts k d kl);
      rows = λ k d kl. omega (arith, (each k d kl).one);
    }

-- each has one tableau row
pub one_row : (number : ℕ) (rows : List Row) (sides : List (List ℕ)) (start : ℕ) (found : List Candidate) → All HasOneRow (deps_from number rows sides start found)
one_row number rows sides start [] = All-nil HasOneRow
one_row number rows sides start (c ∷ found) = All-cons HasOneRow _ _ refl (one_row number rows sides (suc start) found)
