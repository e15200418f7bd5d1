-- What is told of each rule that has violations.
use Rattle.std.specs.Prelude.{ℕ, ◌==◌, List, [], ◌++◌, Option, None, Some, if◌then◌else◌, length, slice_get, slice_index}
use Rattle.schema_core.specs.declared.schema.Table.{Table}
use Rattle.html_text.specs.Elements.{between, each_place, number_between}
use Rattle.page_text.specs.Kinds.{Kind}
use Rattle.page_text.specs.Markup.{markup}
use Rattle.page_text.specs.declared.markup.Piece.{Piece}
use Rattle.page_text.specs.declared.markup.Piece.TheVariants as piece
use Rattle.page_text.specs.declared.rows.Shown.{Shown}

abbrev pub section_head : Piece → ℕ → List ℕ → List ℕ
section_head section place name = number_between (markup section) place (markup piece.Heading) ++ between [] name (markup piece.HeadingEnd)

-- how many violations there are, in how many groups
abbrev pub counts_line : ℕ → Piece → ℕ → List ℕ
counts_line count word groups = number_between (markup piece.Violations) count (markup word) ++ number_between [] groups (markup piece.CountsEnd)

module _ {Rule Found : Type 0} (kind : Kind Rule Found) where
  abbrev pub body_of : Option Table → Rule → Shown → List Found → List ℕ
  body_of None rule shown found = []
  body_of (Some table) rule shown found = kind.body table.attrs rule shown found

  -- nothing is told where nothing is found
  abbrev pub section : List Table → Rule → Shown → ℕ → ℕ → List Found → List ℕ
  section tables rule shown place count found =
      if length found == 0 then []
      else section_head kind.section place (kind.name rule) ++ kind.words tables rule ++ counts_line count kind.groups (length found)
      ++ body_of (slice_get tables (kind.table rule)) rule shown found ++ markup piece.SectionEnd

  abbrev pub section_of : List Table → Option Rule → List ℕ → ℕ → ℕ → ℕ → Option (List Found) → List ℕ
  section_of tables None read first place count found = []
  section_of tables (Some rule) read first place count None = []
  section_of tables (Some rule) read first place count (Some found) =
      section tables rule (record { first = first; read = slice_index read (kind.table rule) }) place count found

  abbrev pub section_at : List Table → List Rule → List ℕ → ℕ → List ℕ → List (List Found) → ℕ → List ℕ
  section_at tables rules read first counts found place =
      section_of tables (slice_get rules place) read first place (slice_index counts place) (slice_get found place)

  abbrev pub sections : List Table → List Rule → List ℕ → ℕ → List ℕ → List (List Found) → List ℕ
  sections tables rules read first counts found = each_place (section_at tables rules read first counts found) (length rules)
