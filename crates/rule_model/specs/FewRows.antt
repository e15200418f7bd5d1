-- Some of the rows of a tableau that stand for all of them: the declaration has the same first fault with these as with
-- all. So a reader of rows doesn't hold each one.
use Rattle.std.specs.Prelude.{◌≡◌, ℕ, ◌<◌, ◌⊎◌, ◌||◌, Bool, IsTrue, List, length, Option, None}
use Rattle.std.specs.Option.{is_some}
use Rattle.text_lists.specs.Firsts.{first_in}
use Rattle.schema_core.specs.declared.schema.Attr.{Attr}
use Rattle.cfd_semantics.specs.declared.inclusion.InclusionRow.{InclusionRow}
use Rattle.rule_model.specs.declared.decl.CfdRow.{CfdRow}
use Rattle.rule_model.specs.declared.decl.CfdDecl.{CfdDecl}
use Rattle.rule_model.specs.declared.decl.CindDecl.{CindDecl}
use Rattle.rule_model.specs.declared.fault.RuleFault.{RuleFault}
use Rattle.rule_model.specs.declared.fault.RuleFault.TheVariants.{WidthMismatch}
use Rattle.rule_model.specs.declared.shown.Shown.{Shown}
use Rattle.rule_model.specs.Faults.{unless, is_as_wide, is_inclusion_row_as_wide, outside_in_row, outside_in_inclusion_row, repeated_in_row}

-- what each row of a tableau is tested for
pub record RowTests (R : Type 0) : Type 0 where
  pub width : R → Option RuleFault
  pub outside : R → Option RuleFault
  pub repeated : R → Option RuleFault

-- the tests of the rows of a `cfd`, over the attributes of its table
abbrev pub cfd_row_tests : List Attr → CfdDecl → RowTests CfdRow
cfd_row_tests attrs cfd = record {
  width = λ row. unless (is_as_wide cfd row) WidthMismatch;
  outside = outside_in_row attrs cfd;
  repeated = repeated_in_row cfd;
}

-- the tests of the rows of a `cind`, over the attributes of its left and its right table; it has no sets
abbrev pub cind_row_tests : List Attr → List Attr → CindDecl → RowTests (InclusionRow (List ℕ))
cind_row_tests lefts rights cind = record {
  width = λ row. unless (is_inclusion_row_as_wide cind row) WidthMismatch;
  outside = outside_in_inclusion_row lefts rights cind;
  repeated = λ row. None;
}

-- which tests have found a fault, with one more row
abbrev pub shown_with : {R : Type 0} → RowTests R → Shown → R → Shown
shown_with tests shown row = record {
  width = shown.width || is_some (tests.width row);
  outside = shown.outside || is_some (tests.outside row);
  repeated = shown.repeated || is_some (tests.repeated row);
}

-- a test finds in some rows what it finds in all, and something where it was shown to
pub record FindsTheSame {R : Type 0} (test : R → Option RuleFault) (all held : List R) (shown : Bool) : Type 0 where
  pub same : first_in test held ≡ first_in test all
  pub found : IsTrue shown → IsTrue (is_some (first_in test held))

-- these rows stand for all of them: each test finds the same, and they are all rows, or there are more than so many of
-- either
pub record StandFor {R : Type 0} (tests : RowTests R) (most : ℕ) (all held : List R) (shown : Shown) : Type 0 where
  pub width : FindsTheSame tests.width all held shown.width
  pub outside : FindsTheSame tests.outside all held shown.outside
  pub repeated : FindsTheSame tests.repeated all held shown.repeated
  pub count : (held ≡ all) ⊎ ((most < length held) × (most < length all))
