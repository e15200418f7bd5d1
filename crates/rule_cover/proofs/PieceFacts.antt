-- The pieces of a table are valid and of that table.
use Rattle.std.proofs.Common.{◌≡◌, ℕ, suc, ◌+◌, ◌<◌, Bool, true, false, List, [], ◌∷◌, ◌++◌, length, get_or, refl, sym, ap, ◌∙◌, subst, arith}
use Rattle.std.specs.Prelude.{All, map, ◌==◌, if◌then◌else◌}
use Rattle.std.specs.List.{enumerate_from, flat_map}
use Rattle.std.proofs.lemmas.Bool.{eqb-true}
use Rattle.std.proofs.lemmas.List.{length-map, map-append}
use Rattle.std.proofs.lemmas.List.Elements.{All-append, All-cons, All-head, All-nil, All-tail}
use Rattle.schema_core.specs.Lookups.{attrs_at}
use Rattle.schema_core.specs.declared.schema.Schema.{Schema}
use Rattle.cfd_semantics.specs.declared.dependency.TableauRow.{TableauRow}
use Rattle.rule_model.specs.Rules.{IsValidDep, IsValidRow}
use Rattle.rule_model.specs.declared.dep.Dep.{Dep}
use Rattle.line_grammar.specs.Spelling.{file_text}
use Rattle.rule_cover.specs.CoverText.{IsTextOf, last_parts}
use Rattle.rule_cover.specs.Fates.{AreNumbersOf, numbers_of}
use Rattle.rule_cover.specs.declared.fates.Fate.{Fate}
use Rattle.rule_cover.specs.declared.fates.Piece.{Piece}
use Rattle.rule_cover.specs.Pieces.{IsPiece, dep_pieces, deps_in, numbers_in, pieces_over, row_piece, single, table_pieces}

abbrev over_if : ℕ → Dep → Bool → List (Piece × Dep)
over_if place dep b = if b then dep_pieces (place, dep) else []

-- ---- each piece of a table

module _ (P : Dep → Type 0) (table : ℕ) where
  rows_each : (place start : ℕ) (dep : Dep) (rows : List (TableauRow (List ℕ))) → All (λ row. P (single dep row)) rows → All P (deps_in (map (row_piece place dep) (enumerate_from start rows)))
  rows_each place start dep [] each = All-nil P
  rows_each place start dep (row ∷ rows) each =
      All-cons P (single dep row) (deps_in (map (row_piece place dep) (enumerate_from (start + 1) rows))) (All-head (λ r. P (single dep r)) row rows each)
      (rows_each place (start + 1) dep rows (All-tail (λ r. P (single dep r)) row rows each))

  dep_each : (place : ℕ) (dep : Dep) (b : Bool) → (dep.table == table) ≡ b → (dep.table ≡ table → All (λ row. P (single dep row)) dep.rule.rows) → All P (deps_in (over_if place dep b))
  dep_each place dep true is each = rows_each place 0 dep dep.rule.rows (each (eqb-true dep.table table is))
  dep_each place dep false is each = All-nil P

  deps_each : (place : ℕ) (deps : List Dep) → All (λ (dep : Dep). dep.table ≡ table → All (λ row. P (single dep row)) dep.rule.rows) deps
      → All P (deps_in (flat_map (pieces_over table) (enumerate_from place deps)))
  deps_each place [] each = All-nil P
  deps_each place (dep ∷ deps) each =
      let Each = λ (d : Dep). d.table ≡ table → All (λ row. P (single d row)) d.rule.rows in
      let rest = flat_map (pieces_over table) (enumerate_from (place + 1) deps) in
      subst (All P) (sym (map-append (λ (piece : Piece × Dep). piece.1) (pieces_over table (place, dep)) rest))
      (All-append P (deps_in (pieces_over table (place, dep))) (deps_in rest)
      (dep_each place dep (dep.table == table) refl (All-head Each dep deps each))
      (deps_each (place + 1) deps (All-tail Each dep deps each)))

any_row : (P : TableauRow (List ℕ) → Type 0) (rows : List (TableauRow (List ℕ))) → ((row : TableauRow (List ℕ)) → P row) → All P rows
any_row P rows each k d lt = each (get_or rows k d)

pub pieces_own : (table : ℕ) (deps : List Dep) → All (λ (piece : Dep). piece.table ≡ table) (deps_in (table_pieces table deps))
pieces_own table deps = deps_each (λ (piece : Dep). piece.table ≡ table) table 0 deps (λ k d lt own. any_row (λ row. (get_or deps k d).table ≡ table) (get_or deps k d).rule.rows (λ row. own))

valid_single : (schema : Schema) (dep : Dep) → IsValidDep schema dep → (row : TableauRow (List ℕ)) → IsValidRow (attrs_at schema dep.table) dep.rule.x dep.rule.a row → IsPiece schema (single dep row)
valid_single schema dep valid row fit = record {
  valid = record {
    table = valid.table;
    x = valid.x;
    a = valid.a;
    distinct = valid.distinct;
    rows = All-cons (IsValidRow (attrs_at schema dep.table) dep.rule.x dep.rule.a) row [] fit (All-nil (IsValidRow (attrs_at schema dep.table) dep.rule.x dep.rule.a));
  };
  row = refl;
}

pub pieces_valid : (schema : Schema) (table : ℕ) (deps : List Dep) → All (IsValidDep schema) deps → All (IsPiece schema) (deps_in (table_pieces table deps))
pieces_valid schema table deps valid =
    deps_each (IsPiece schema) table 0 deps (λ k d lt own j row within. valid_single schema (get_or deps k d) (valid k d lt) (get_or (get_or deps k d).rule.rows j row) ((valid k d lt).rows j row within))

pub as_many : (pieces : List (Piece × Dep)) → length (numbers_in pieces) ≡ length (deps_in pieces)
as_many pieces = length-map pieces (λ (piece : Piece × Dep). piece.0) ∙ sym (length-map pieces (λ (piece : Piece × Dep). piece.1))

-- ---- the first piece is of a dependency of the table

abbrev pub HasPlace : ℕ → ℕ → List Dep → Piece → Type 0
HasPlace table place deps number = (k : ℕ) × (number.dep ≡ place + k) × (k < length deps) × ((d : Dep) → (get_or deps k d).table ≡ table)

later : (table place : ℕ) (dep : Dep) (deps : List Dep) (number : Piece) → HasPlace table (place + 1) deps number → HasPlace table place (dep ∷ deps) number
later table place dep deps number (k, at, lt, own) = (suc k, omega (arith, at), omega (arith, lt), own)

first_over : (table place : ℕ) (dep : Dep) (deps : List Dep) (number : Piece) (rest : List Piece) (b : Bool) → (dep.table == table) ≡ b → (rows : List (TableauRow (List ℕ))) (others : List (Piece × Dep))
    → (numbers_in others ≡ number ∷ rest → HasPlace table (place + 1) deps number)
    → numbers_in ((if b then map (row_piece place dep) (enumerate_from 0 rows) else []) ++ others) ≡ number ∷ rest → HasPlace table place (dep ∷ deps) number
first_over table place dep deps number rest false is rows others further all = later table place dep deps number (further all)
first_over table place dep deps number rest true is [] others further all = later table place dep deps number (further all)
first_over table place dep deps number rest true is (row ∷ rows) others further all =
    let head : record { dep = place; row = 0 } ≡ number = cc in
    (0, omega (arith, ap (λ (n : Piece). n.dep) head), omega arith, λ d. eqb-true dep.table table is)

first_at : (table place : ℕ) (deps : List Dep) (number : Piece) (rest : List Piece) → numbers_in (flat_map (pieces_over table) (enumerate_from place deps)) ≡ number ∷ rest → HasPlace table place deps number
first_at table place [] number rest is = absurd (cc)
first_at table place (dep ∷ deps) number rest is =
    first_over table place dep deps number rest (dep.table == table) refl dep.rule.rows (flat_map (pieces_over table) (enumerate_from (place + 1) deps)) (first_at table (place + 1) deps number rest) is

pub first_piece : (table : ℕ) (deps : List Dep) (number : Piece) (rest : List Piece) → numbers_in (table_pieces table deps) ≡ number ∷ rest → (number.dep < length deps) × ((d : Dep) → (get_or deps number.dep d).table ≡ table)
first_piece table deps number rest is =
    let found = first_at table 0 deps number rest is in
    let at : found.0 ≡ number.dep = omega (arith, found.1) in
    subst (λ k. (k < length deps) × ((d : Dep) → (get_or deps k d).table ≡ table)) at (found.2, found.3)

pub first_of : (table : ℕ) (deps : List Dep) (fates : List (Piece × Fate)) → AreNumbersOf table deps fates → 0 < length fates → (d : Piece × Fate)
    → ((get_or fates 0 d).0.dep < length deps) × ((e : Dep) → (get_or deps (get_or fates 0 d).0.dep e).table ≡ table)
first_of table deps [] numbers some d = absurd (omega (arith, some))
first_of table deps (fate ∷ fates) numbers some d = first_piece table deps fate.0 (numbers_of fates) (sym numbers)

-- no pieces have no lines
pub no_text : (schema : Schema) (pieces : List (Piece × Dep)) (fates : List (Piece × Fate)) (text : List ℕ) → length fates < 1 → numbers_of fates ≡ numbers_in pieces → text ≡ file_text (last_parts 0 0 ∷ []) → IsTextOf schema (deps_in pieces) fates text
no_text schema [] [] text none numbers is = ([], refl, is)
no_text schema (piece ∷ pieces) [] text none numbers is = absurd (cc)
no_text schema pieces (fate ∷ fates) text none numbers is = absurd (omega (arith, none))
