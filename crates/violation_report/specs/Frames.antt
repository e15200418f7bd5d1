-- The pieces of a line's object that are the same for all lines of a rule, and the object made of them.
use Rattle.std.specs.Prelude.{◌≡◌, ℕ, List, [], ◌∷◌, Some, codes, decimal}
use Rattle.std.specs.List.{concat}
use Rattle.serde_json.specs.Data.{string}
use Rattle.serde_json.specs.Written.{compact_text}
use Rattle.rule_model.specs.Books.{Book}
use Rattle.violation_report.specs.declared.frame.Frame.{Frame}
use Rattle.violation_report.specs.declared.line.Line.{Line}
use Rattle.violation_report.specs.declared.line.Line.TheVariants.{Single, Pair, Orphan}
use Rattle.violation_report.specs.declared.rules.Rule.{Rule}
use Rattle.violation_report.specs.declared.rules.Rule.TheVariants.{Dep as DepNumber, Cind as CindNumber}
use Rattle.violation_report.specs.Text.{Told, told_of}
use Rattle.violation_report.specs.Told.{attr_piece, partner_piece}

-- the rule that a line is of
abbrev pub rule_of : Line → Rule
rule_of (Single dep k row) = DepNumber dep
rule_of (Pair dep k row partner) = DepNumber dep
rule_of (Orphan cind k row) = CindNumber cind

-- what stands before the kind
abbrev pub front_text : Told → List ℕ
front_text told = concat (codes "{" ∷ attr_piece told.attr ∷ codes "\"kind\":\"" ∷ [])

-- what stands between the row's number and that of the tableau row
abbrev pub back_text : Told → List ℕ
back_text told =
    concat (codes ",\"rule\":" ∷ compact_text (string told.rule) ∷ codes ",\"table\":" ∷ compact_text (string told.table) ∷ codes ",\"tableau\":" ∷ [])

-- what stands between the two: the kind, the partner of a pair, and the row
abbrev pub middle_text : Told → List ℕ
middle_text told = concat (told.kind ∷ codes "\"" ∷ partner_piece told.partner ∷ codes ",\"row\":" ∷ decimal told.row ∷ [])

-- an object with these pieces
abbrev pub framed_text : List ℕ → List ℕ → Told → List ℕ
framed_text front back told = concat (front ∷ middle_text told ∷ back ∷ decimal told.number ∷ codes "}" ∷ [])

-- the frame is that of a rule: it has the pieces of each line of it
pub record IsFrameOf (rules : Book) (rule : Rule) (frame : Frame) : Type 0 where
  pub named : frame.rule ≡ Some rule
  pub front : (line : Line) → rule_of line ≡ rule → frame.front.items ≡ front_text (told_of rules line)
  pub back : (line : Line) → rule_of line ≡ rule → frame.back.items ≡ back_text (told_of rules line)

-- a frame has the pieces of the rule that it names
abbrev pub IsRight : Book → Frame → Type 0
IsRight rules frame = (rule : Rule) → frame.rule ≡ Some rule → IsFrameOf rules rule frame
