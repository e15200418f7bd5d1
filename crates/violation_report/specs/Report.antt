-- The JSON report of a list: an object with the number of the lines, and an object for each of them. The members of an
-- object stand in the order of their keys.
use Rattle.std.specs.Prelude.{ℕ, List, [], ◌∷◌, ◌++◌, Option, None, Some, map, length, codes}
use Rattle.serde_json.specs.Data.{Data, number, object, string, array, unsigned, Members, member, no_members}
use Rattle.serde_json.specs.View.{items_of}
use Rattle.serde_json.specs.Written.{compact_text}
use Rattle.rule_model.specs.Books.{Book}
use Rattle.violation_report.specs.Text.{Told, told_of}
use Rattle.violation_report.specs.declared.line.Line.{Line}
use Rattle.violation_report.specs.declared.line.Line.TheVariants.{Single, Pair, Orphan}

abbrev pub members : List (List ℕ × Data) → Members
members [] = no_members
members (one ∷ others) = member one.0 one.1 (members others)

-- an object of these members
abbrev pub object_of : List (List ℕ × Data) → Data
object_of all = object (members all)

abbrev pub number_of : ℕ → Data
number_of n = number (unsigned n)

-- a member of what may be missing
abbrev pub member_if : {A : Type 0} → List ℕ → (A → Data) → Option A → List (List ℕ × Data)
member_if key write None = []
member_if key write (Some value) = (key, write value) ∷ []

-- what the line tells; the tableau row counts from 1
abbrev pub told_data : Told → Data
told_data told = object_of (
    member_if (codes "attr") string told.attr
    ++ (codes "kind", string told.kind)
    ∷ member_if (codes "partner") number_of told.partner
    ++ (codes "row", number_of told.row)
    ∷ (codes "rule", string told.rule)
    ∷ (codes "table", string told.table)
    ∷ (codes "tableau", number_of told.number)
    ∷ []
    )

abbrev pub line_data : Book → Line → Data
line_data rules (Single dep k row) = told_data (told_of rules (Single dep k row))
line_data rules (Pair dep k row partner) = told_data (told_of rules (Pair dep k row partner))
line_data rules (Orphan cind k row) = told_data (told_of rules (Orphan cind k row))

abbrev pub lines_data : Book → List Line → Data
lines_data rules lines = array (items_of (map (line_data rules) lines))

abbrev pub report_data : Book → List Line → Data
report_data rules lines = object_of ((codes "count", number_of (length lines)) ∷ (codes "lines", lines_data rules lines) ∷ [])

-- the text of the report with no space, and its end
abbrev pub report_text : Book → List Line → List ℕ
report_text rules lines = compact_text (report_data rules lines) ++ codes "\n"
