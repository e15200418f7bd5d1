-- The text of a report, piece by piece.
use Rattle.std.proofs.Common.{◌≡◌, ℕ, true, false, List, [], ◌∷◌, ◌++◌, None, Some, map, length, refl, ap, ◌∙◌, sym, subst, codes}
use Rattle.std.specs.Prelude.{Bool, decimal, is_some}
use Rattle.std.specs.List.{concat}
use Rattle.std.proofs.lemmas.List.{append_assoc, append-nil}
use Rattle.std.proofs.lemmas.Option.{none-some, same_Some}
use Rattle.serde_json.specs.Data.{string}
use Rattle.serde_json.specs.View.{items_of}
use Rattle.serde_json.specs.Written.{comma_if, compact_text, items_text}
use Rattle.serde_json.proofs.OnLiterals.{serde_json_on_literals}
use Rattle.rule_model.specs.Books.{Book}
use Rattle.violation_report.specs.Frames.{IsFrameOf, IsRight, back_text, framed_text, front_text, rule_of}
use Rattle.violation_report.specs.Report.{line_data, report_text}
use Rattle.violation_report.specs.Taking.{Takes}
use Rattle.violation_report.specs.Text.{Told, dep_attr, told_of}
use Rattle.violation_report.specs.Told.{attr_piece, partner_piece}
use Rattle.violation_report.specs.Written.{AreAppended, AreWritten, has_lines}
use Rattle.violation_report.specs.declared.frame.Frame.{Frame}
use Rattle.violation_report.specs.declared.json.Objects.{Objects}
use Rattle.violation_report.specs.declared.line.Line.{Line}
use Rattle.violation_report.specs.declared.line.Line.TheVariants.{Single, Pair, Orphan}
use Rattle.violation_report.specs.declared.rules.Rule.{Rule}

-- the object of what a line tells from its kind on, piece by piece
abbrev from_kind : Told → List ℕ
from_kind told =
    concat (codes "\"kind\":\"" ∷ told.kind ∷ codes "\"" ∷ []) ++ (partner_piece told.partner ++ ((codes ",\"row\":" ++ decimal told.row)
    ++ ((codes ",\"rule\":" ++ compact_text (string told.rule)) ++ ((codes ",\"table\":" ++ compact_text (string told.table)) ++ ((codes ",\"tableau\":" ++ decimal told.number) ++ codes "}")))))

with_attr : (attr : List ℕ) (told : Told)
    → codes "{\"attr\":" ++ (compact_text (string attr) ++ (codes "," ++ from_kind told)) ≡ codes "{" ++ (attr_piece (Some attr) ++ from_kind told)
with_attr attr told = ap (λ text. codes "{\"attr\":" ++ text) (sym (append_assoc (compact_text (string attr)) (codes ",") (from_kind told)))

object_pieces : (rules : Book) (line : Line) → compact_text (line_data rules line) ≡ codes "{" ++ (attr_piece (told_of rules line).attr ++ from_kind (told_of rules line))
unfolding serde_json_on_literals
object_pieces rules (Single dep k row) = with_attr (dep_attr rules dep) (told_of rules (Single dep k row))
object_pieces rules (Pair dep k row partner) = with_attr (dep_attr rules dep) (told_of rules (Pair dep k row partner))
object_pieces rules (Orphan cind k row) = refl

-- ---- an object in its frame

regroup : (brace attr kind_key kind quote partner row_key row rule_key rule table_key table number_key number close : List ℕ)
    → (brace ++ (attr ++ (kind_key ++ []))) ++ ((kind ++ (quote ++ (partner ++ (row_key ++ (row ++ []))))) ++ ((rule_key ++ (rule ++ (table_key ++ (table ++ (number_key ++ []))))) ++ (number ++ (close ++ []))))
    ≡ brace ++ (attr ++ ((kind_key ++ (kind ++ (quote ++ []))) ++ (partner ++ ((row_key ++ row) ++ ((rule_key ++ rule) ++ ((table_key ++ table) ++ ((number_key ++ number) ++ close)))))))
regroup brace attr kind_key kind quote partner row_key row rule_key rule table_key table number_key number close = simp (append_assoc, append-nil)

told_pieces : (told : Told) (front back : List ℕ) → front ≡ front_text told → back ≡ back_text told → framed_text front back told ≡ codes "{" ++ (attr_piece told.attr ++ from_kind told)
told_pieces told front back is_front is_back =
    (λ i. framed_text (is_front i) (is_back i) told)
    ∙ regroup (codes "{") (attr_piece told.attr) (codes "\"kind\":\"") told.kind (codes "\"") (partner_piece told.partner) (codes ",\"row\":") (decimal told.row) (codes ",\"rule\":") (compact_text (string told.rule))
    (codes ",\"table\":") (compact_text (string told.table)) (codes ",\"tableau\":") (decimal told.number) (codes "}")

framed_object : (rules : Book) (line : Line) (frame : Frame) → IsFrameOf rules (rule_of line) frame
    → framed_text frame.front.items frame.back.items (told_of rules line) ≡ compact_text (line_data rules line)
framed_object rules line frame is = told_pieces (told_of rules line) frame.front.items frame.back.items (is.front line refl) (is.back line refl) ∙ sym (object_pieces rules line)

-- ---- objects, one after the other

-- a frame of a rule has the pieces of the rule that it names
frame_is_right : (rules : Book) (rule : Rule) (frame : Frame) → IsFrameOf rules rule frame → IsRight rules frame
frame_is_right rules rule frame is other named = subst (λ of. IsFrameOf rules of frame) (same_Some rule other (sym is.named ∙ named)) is

frame_of_none_is_right : (rules : Book) (frame : Frame) → frame.rule ≡ None → IsRight rules frame
frame_of_none_is_right rules frame none rule named = absurd (none-some rule (sym none ∙ named))

-- one object more
pub objects-more : (rules : Book) (line : Line) (start old new : Objects) (before : List Line) (later : Bool)
    → AreAppended rules start before old → IsFrameOf rules (rule_of line) new.frame → later ≡ has_lines old
    → new.text.items ≡ old.text.items ++ (comma_if later ++ framed_text new.frame.front.items new.frame.back.items (told_of rules line))
    → AreAppended rules start (before ++ line ∷ []) new
objects-more rules line start old new before later was fitted is text = record {
  objects = λ rest.
      let object = line_data rules in
      (λ i. (text ∙ ap (λ object. old.text.items ++ (comma_if later ++ object)) (framed_object rules line new.frame fitted)) i ++ items_text (is_some (fitted.named i)) (items_of (map object rest)))
      ∙ append_assoc old.text.items (comma_if later ++ compact_text (object line)) (items_text true (items_of (map object rest)))
      ∙ ap (λ t. old.text.items ++ t) (append_assoc (comma_if later) (compact_text (object line)) (items_text true (items_of (map object rest))))
      ∙ ap (λ before. old.text.items ++ items_text before (items_of (map object (line ∷ rest)))) is
      ∙ was.objects (line ∷ rest)
      ∙ ap (λ lines. start.text.items ++ items_text (has_lines start) (items_of (map object lines))) (sym (append_assoc before (line ∷ []) rest));
  frame = frame_is_right rules (rule_of line) new.frame fitted;
}

-- the front of a report, the objects with their closing bracket, and its end
pub report_pieces : (rules : Book) (lines : List Line) (front out report : List ℕ)
    → front ≡ concat (codes "{\"count\":" ∷ decimal (length lines) ∷ codes ",\"lines\":[" ∷ [])
    → out ≡ front ++ items_text false (items_of (map (line_data rules) lines))
    → report ≡ out ++ codes "}\n"
    → report ≡ report_text rules lines
unfolding serde_json_on_literals
report_pieces rules lines front out report is then last =
    let items = items_text false (items_of (map (line_data rules) lines)) in
    let count = decimal (length lines) in
    let head = codes ",\"lines\":[" in
    last
    ∙ ap (λ t. t ++ codes "}\n") (then ∙ ap (λ t. t ++ items) is)
    ∙ append_assoc (concat (codes "{\"count\":" ∷ count ∷ head ∷ [])) items (codes "}\n")
    ∙ ap (λ t. codes "{\"count\":" ++ t) (append_assoc count head (items ++ codes "}\n"))
    ∙ sym (ap (λ t. codes "{\"count\":" ++ t) (append_assoc count (head ++ (items ++ codes "}")) (codes "\n") ∙ ap (λ t. count ++ (head ++ t)) (append_assoc items (codes "}") (codes "\n"))))

-- the front of a report, the objects, and its end
pub report_written : (rules : Book) (lines : List Line) (start end : Objects) (report : List ℕ)
    → start.text.items ≡ concat (codes "{\"count\":" ∷ decimal (length lines) ∷ codes ",\"lines\":[" ∷ []) → start.frame.rule ≡ None
    → Takes (AreWritten rules) start lines end
    → report ≡ end.text.items ++ codes "]}\n"
    → report ≡ report_text rules lines
report_written rules lines start end report is fresh takes last =
    let begun = takes start [] (λ right. record { objects = λ rest. refl; frame = right }) (frame_of_none_is_right rules start.frame fresh) in
    let all = begun.objects [] ∙ (λ i. start.text.items ++ items_text (is_some (fresh i)) (items_of (map (line_data rules) (append-nil lines i)))) in
    report_pieces rules lines start.text.items (end.text.items ++ codes "]") report is all (last ∙ sym (append_assoc end.text.items (codes "]") (codes "}\n")))
