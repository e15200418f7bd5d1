-- What the code says a line tells, as definitions see it; and those members of its object that not every line has.
use Rattle.std.specs.Prelude.{ℕ, List, [], ◌++◌, Option, None, Some, codes, decimal, option_map}
use Rattle.serde_json.specs.Data.{string}
use Rattle.serde_json.specs.Written.{compact_text}
use Rattle.violation_report.specs.declared.told.Told.{Told as Code}
use Rattle.violation_report.specs.Text.{Told}

abbrev pub as_told : Code → Told
as_told code = record {
  kind = code.kind.now;
  rule = code.rule.now;
  number = code.number;
  attr = option_map (λ name. name.now) code.attr;
  table = code.table.now;
  row = code.row;
  partner = code.partner;
}

-- the first member, and what parts it from the next
abbrev pub attr_piece : Option (List ℕ) → List ℕ
attr_piece None = []
attr_piece (Some attr) = codes "\"attr\":" ++ compact_text (string attr) ++ codes ","

-- what parts the member from the one before, and the member
abbrev pub partner_piece : Option ℕ → List ℕ
partner_piece None = []
partner_piece (Some partner) = codes ",\"partner\":" ++ decimal partner
