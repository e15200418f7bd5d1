-- The rows of a table that a bench has, as they are exported.
use Rattle.std.proofs.Common.{◌≡◌, ℕ, zero, suc, ◌<◌, List, [], ◌∷◌, ◌++◌, length, get_or, All, Result, Ok, Err, OnOk, codes, refl, sym, ap, append_assoc, arith, ◌∙◌}
use Rattle.std.specs.List.{AllZip}
use Rattle.std.proofs.lemmas.List.{length-map}
use Rattle.std.proofs.lemmas.List.Elements.{All-map, All-weaker}
use Rattle.std.proofs.lemmas.Option.{slice_get_read}
use Rattle.std.proofs.lemmas.Slice.Zip.{AllZip-long}
use Rattle.schema_core.specs.Lookups.{attrs_at}
use Rattle.schema_core.specs.Rows.{IsRowOf}
use Rattle.schema_core.specs.Schemas.{Admits}
use Rattle.schema_core.specs.declared.schema.Attr.{Attr}
use Rattle.schema_core.specs.declared.schema.Schema.{Schema}
use Rattle.schema_core.specs.declared.schema.Table.{Table}
use Rattle.cfd_semantics.specs.Tuple.{tuples_of}
use Rattle.csv_tables.specs.WrittenFiles.{table_text}
use Rattle.rule_model.specs.Books.{Book}
use Rattle.violation_report.specs.Text.{counted_text}
use Rattle.session.specs.Replies.{rows_text}
use Rattle.bench_core.specs.State.{IsTableState, Row, State, TableState, rows_at}

is_wide : (attrs : List Attr) (cell_bytes : ℕ) (row : List (List ℕ)) → IsRowOf attrs cell_bytes row → length row ≡ length attrs
is_wide attrs cell_bytes row fit = AllZip-long (λ (attr : Attr) (text : List ℕ). Admits attr.domain text) attrs row fit.domains

-- the rows of a table are as wide as it is
abbrev pub AreWide : Table → List (List (List ℕ)) → Type 0
AreWide table tuples = All (λ row. length row ≡ length table.attrs) tuples

table_is_wide : (cell_bytes last_id : ℕ) (table : Table) (state : TableState) → IsTableState cell_bytes last_id table state → AreWide table (tuples_of state.rows)
table_is_wide cell_bytes last_id table state is =
    All-map (λ row. length row ≡ length table.attrs) (λ (row : Row). row.1) state.rows
    (All-weaker (λ (row : Row). IsRowOf table.attrs cell_bytes row.1) (λ (row : Row). length row.1 ≡ length table.attrs) (λ row. is_wide table.attrs cell_bytes row.1) state.rows is.fit)

pub rows_are_wide : (cell_bytes last_id : ℕ) (tables : List Table) (state : State) (n : ℕ) (table : Table) → AllZip (IsTableState cell_bytes last_id) tables state → n < length tables → table ≡ get_or tables n table → AreWide table (tuples_of (rows_at state n))
rows_are_wide cell_bytes last_id [] state n table fit within is = absurd (omega arith)
rows_are_wide cell_bytes last_id (first ∷ tables) [] n table fit within is = absurd fit
rows_are_wide cell_bytes last_id (first ∷ tables) (state ∷ states) zero table fit within is = rw is (table_is_wide cell_bytes last_id first state fit.0)
rows_are_wide cell_bytes last_id (first ∷ tables) (state ∷ states) (suc n) table fit within is = rows_are_wide cell_bytes last_id tables states n table fit.1 (omega arith) is

-- the attributes of a table that is there
pub attrs_there : (schema : Schema) (n : ℕ) (table : Table) → n < length schema.tables → table ≡ get_or schema.tables n table → attrs_at schema n ≡ table.attrs
attrs_there schema n table within is = rw (slice_get_read schema.tables (length schema.tables) n table refl within is) refl

-- as many tuples as rows
pub many_tuples : (rows : List Row) → length (tuples_of rows) ≡ length rows
many_tuples rows = length-map rows (λ (row : Row). row.1)

-- the file of the rows was written, and then their number
pub exported : {E : Type 0} (rules : Book) (state : State) (n : ℕ) (table : Table) (tuples : List (List (List ℕ))) (count : ℕ) (before file between : List ℕ) (result : Result (Unit {0}) E) (after : List ℕ) → n < length rules.schema.tables → table ≡ get_or rules.schema.tables n table → tuples ≡ tuples_of (rows_at state n)
    → count ≡ length tuples → file ≡ table_text table.attrs tuples → between ≡ before ++ file → OnOk result (after ≡ between ++ counted_text (codes "exported") count) → OnOk result (after ≡ before ++ rows_text rules state n)
exported rules state n table tuples count before file between (Err fault) after within there are many text more last = tt
exported rules state n table tuples count before file between (Ok done) after within there are many text more last =
    let number : count ≡ length (rows_at state n) = many ∙ ap (λ (ts : List (List (List ℕ))). length ts) are ∙ many_tuples (rows_at state n) in
    let rows : file ≡ table_text (attrs_at rules.schema n) (tuples_of (rows_at state n)) = text ∙ ap (λ (ts : List (List (List ℕ))). table_text table.attrs ts) are ∙ ap (λ (as_attrs : List Attr). table_text as_attrs (tuples_of (rows_at state n))) (sym (attrs_there rules.schema n table within there)) in
    last ∙ ap (λ b. b ++ counted_text (codes "exported") count) (more ∙ ap (λ f. before ++ f) rows)
    ∙ append_assoc before (table_text (attrs_at rules.schema n) (tuples_of (rows_at state n))) (counted_text (codes "exported") count)
    ∙ ap (λ k. before ++ (table_text (attrs_at rules.schema n) (tuples_of (rows_at state n)) ++ counted_text (codes "exported") k)) number
