-- The form `cover PROJECT TABLE BUDGET`: which pieces of the rules of a table the others imply, with what shows it.
use Rattle.std.specs.Prelude.{◌≡◌, ℕ, not, List, if◌then◌else◌}
use Rattle.std.specs.List.{list_any}
use Rattle.schema_core.specs.Lookups.{table_number}
use Rattle.text_lists.specs.declared.limits.Limits.{Limits}
use Rattle.rule_model.specs.Books.{Book, book_deps}
use Rattle.rule_cover.specs.Cover.{IsCover}
use Rattle.rule_cover.specs.CoverText.{IsCoverText}
use Rattle.rule_cover.specs.Fates.{is_spent, stays}
use Rattle.rule_cover.specs.declared.fates.Fate.{Fate}
use Rattle.rule_cover.specs.declared.fates.Piece.{Piece}
use Rattle.cli_output.specs.declared.status.Status.{Status}
use Rattle.cli_output.specs.declared.status.Status.TheVariants.{Clean, Findings, Spent}
use Rattle.cli_output.specs.Output.{Outputs, Task}
use Rattle.rule_forms.specs.ConsistentForm.{fetch_known}

-- a piece is spent, or else one is dropped, or else all are kept
abbrev pub cover_status : List (Piece × Fate) → Status
cover_status fates =
    if list_any (λ fate. is_spent fate.1) fates then Spent
    else if list_any (λ fate. not (stays fate.1)) fates then Findings
    else Clean

-- Fates of the pieces of the table that are right for the budget, and with them what the pieces that stay are; the lines of
-- these, with the status that goes with them.
abbrev pub cover_outputs : List ℕ → ℕ → Book → Outputs
cover_outputs table budget rules bytes status =
    let number = table_number rules.schema table in
    (fates : List (Piece × Fate)) × IsCover rules.schema (book_deps rules) number budget fates × IsCoverText rules.schema (book_deps rules) number fates bytes × (status ≡ cover_status fates)

-- the schema and the rules are fetched
abbrev pub cover_task : Limits → List ℕ → List ℕ → ℕ → Task
cover_task limits project table budget = record {
  Found = Book;
  fetching = fetch_known limits project table;
  outputs = cover_outputs table budget;
  most_fetches = 2;
}
