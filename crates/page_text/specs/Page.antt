-- A project as a page: what was read, how many violations each rule has, what is told of those that have some, and what
-- `check` finds. Each text that comes from outside stands there escaped.
use Rattle.std.specs.Prelude.{ℕ, Bool, true, false, List, [], ◌++◌}
use Rattle.rule_model.specs.Books.{Book, book_cinds, book_deps}
use Rattle.violation_groups.specs.declared.Findings.{Findings}
use Rattle.html_text.specs.Elements.{between, number_between}
use Rattle.page_text.specs.Checks.{checks_text}
use Rattle.page_text.specs.Kinds.{cind_kind, dep_kind}
use Rattle.page_text.specs.Markup.{markup, style}
use Rattle.page_text.specs.Overview.{rule_rows, tables_rows}
use Rattle.page_text.specs.Sections.{sections}
use Rattle.page_text.specs.Totals.{counts_of}
use Rattle.page_text.specs.declared.markup.Piece.{Piece}
use Rattle.page_text.specs.declared.markup.Piece.TheVariants as piece
use Rattle.page_text.specs.declared.page.Options.{Options}
use Rattle.page_text.specs.declared.rows.RowCounts.{RowCounts}
use Rattle.page_text.specs.declared.totals.Counts.{Counts}

-- the title, and how it all looks
abbrev pub styled : List ℕ → List ℕ
styled name = between (markup piece.Head) name (markup piece.StyleOpen) ++ style ++ markup piece.StyleClose

abbrev pub state_piece : Bool → Piece
state_piece true = piece.AsRead
state_piece false = piece.AfterScript

-- which state is shown, and how many violations it has
abbrev pub head_text : List ℕ → Bool → ℕ → List ℕ
head_text name loaded all = styled name ++ between [] name (markup (state_piece loaded)) ++ number_between [] all (markup piece.Tables)

-- the tables, and the rules with their bars
abbrev pub overview_text : Book → RowCounts → Counts → List ℕ
overview_text rules rows counts =
    tables_rows rules.schema.tables rows ++ markup piece.Rules ++ rule_rows dep_kind rules.schema.tables (book_deps rules) counts.deps counts.largest
    ++ rule_rows cind_kind rules.schema.tables (book_cinds rules) counts.cinds counts.largest ++ markup piece.RulesEnd

abbrev pub sections_text : Book → RowCounts → ℕ → Counts → Findings → List ℕ
sections_text rules rows first counts findings =
    sections dep_kind rules.schema.tables (book_deps rules) rows.read first counts.deps findings.deps
    ++ sections cind_kind rules.schema.tables (book_cinds rules) rows.read first counts.cinds findings.cinds

-- the last are the lines of what `check` finds
unfoldable pub page_text : List ℕ → Options → Book → RowCounts → Findings → List (List ℕ) → List ℕ
page_text name options rules rows findings checked =
    let counts = counts_of findings in
    head_text name options.loaded counts.all ++ overview_text rules rows counts ++ sections_text rules rows options.first counts findings
    ++ checks_text options.first checked ++ markup piece.Foot
