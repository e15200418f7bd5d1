-- What takers have written of the lines that were put to them.
use Rattle.std.specs.Prelude.{◌≡◌, ◌+◌, Bool, List, ◌++◌, is_some, length, map}
use Rattle.std.specs.List.{flat_map}
use Rattle.serde_json.specs.View.{items_of}
use Rattle.serde_json.specs.Written.{items_text}
use Rattle.rule_model.specs.Books.{Book}
use Rattle.violation_report.specs.Frames.{IsRight}
use Rattle.violation_report.specs.Report.{line_data}
use Rattle.violation_report.specs.Text.{line_text}
use Rattle.violation_report.specs.declared.json.Objects.{Objects}
use Rattle.violation_report.specs.declared.line.Line.{Line}
use Rattle.violation_report.specs.declared.taker.Texts.{Texts}

-- their texts, and how many they are
pub record AreTold (rules : Book) (start : Texts) (lines : List Line) (end : Texts) : Type 0 where
  pub same_reference : end.out.ghost_name ≡ start.out.ghost_name
  pub text : end.out.now.items ≡ start.out.now.items ++ flat_map (line_text rules) lines
  pub count : end.lines ≡ start.lines + length lines

-- a line was put before: the frame is that of its rule
abbrev pub has_lines : Objects → Bool
has_lines objects = is_some objects.frame.rule

-- their objects: with those of whatever lines are left, there are those of all of them; and the frame still has the pieces of
-- the rule that it names
pub record AreAppended (rules : Book) (start : Objects) (lines : List Line) (end : Objects) : Type 0 where
  pub objects : (rest : List Line)
      → end.text.items ++ items_text (has_lines end) (items_of (map (line_data rules) rest)) ≡ start.text.items ++ items_text (has_lines start) (items_of (map (line_data rules) (lines ++ rest)))
  pub frame : IsRight rules end.frame

-- the same, where the frame had them at the start
abbrev pub AreWritten : Book → Objects → List Line → Objects → Type 0
AreWritten rules start lines end = IsRight rules start.frame → AreAppended rules start lines end
