-- Variables that tell of two tuples are heard in every row.
use Rattle.std.proofs.Common.{◌≡◌, ℕ, ◌<◌, Bool, true, List, length}
use Rattle.std.specs.Prelude.{Contains}
use Rattle.std.specs.List.{AllByRecursion}
use Rattle.cfd_semantics.specs.declared.dependency.TableauRow.{TableauRow}
use Rattle.schema_core.specs.Lookups.{domain_at}
use Rattle.schema_core.specs.Schemas.{IsValidAttr}
use Rattle.schema_core.specs.declared.schema.Attr.{Attr}
use Rattle.cell_values.specs.declared.which.Which.TheVariants.{First, Second}
use Rattle.cell_values.specs.declared.which.TupleCount.TheVariants.{Two}
use Rattle.cell_values.specs.Layout.{value_var}
use Rattle.cell_values.specs.Standing.{Agrees}
use Rattle.cell_values.specs.TableRules.{Rule, occurs}
use Rattle.cell_values.specs.Tuples.{IsTupleOf}
use Rattle.cell_values.specs.Values.{cell_values, occurring}
use Rattle.cell_values.proofs.Occurs.{occurring_has, rises}
use Rattle.cell_values.proofs.OneTuple.{attr_here, cell_said, IsRuleOf, left_here, left_said, listed, MeetsCell, misses_said, right_here, right_said, wide_here, zipped}
use Rattle.cell_values.proofs.Order.{Placed}
use Rattle.cell_values.proofs.Told.{agrees_told, equal_told, Tells}
use Rattle.cell_values.proofs.Truths.{text_of}
use Rattle.cfd_implication.proofs.Asked.{HearsAsked}
use Rattle.cfd_implication.proofs.TwoTuples.{Equates, Hears}

module _ (attrs : List Attr) (valid : AllByRecursion IsValidAttr attrs) (all : List Rule) (one other : List (List ℕ)) (one_tuple : IsTupleOf attrs one) (other_tuple : IsTupleOf attrs other)
    (truth : ℕ → Bool) (tells : Placed Two (Tells one other Two truth) 0 (occurring attrs all)) where
  equates : (attr : ℕ) → attr < length attrs → occurs all attr ≡ true → Equates truth (occurring attrs all) one other attr
  equates attr within there = equal_told one other Two truth 0 (occurring attrs all) (rises attrs all) tells (cell_values all attr (domain_at attrs attr)) (occurring_has attrs all attr within there) tt

  agrees_first : (attr : ℕ) → attr < length attrs → occurs all attr ≡ true → Agrees truth (value_var First (occurring attrs all) attr) (cell_values all attr (domain_at attrs attr)) (text_of one attr)
  agrees_first attr within there = agrees_told one other Two truth 0 (occurring attrs all) (rises attrs all) tells (cell_values all attr (domain_at attrs attr)) (occurring_has attrs all attr within there) First tt

  agrees_second : (attr : ℕ) → attr < length attrs → occurs all attr ≡ true → Agrees truth (value_var Second (occurring attrs all) attr) (cell_values all attr (domain_at attrs attr)) (text_of other attr)
  agrees_second attr within there = agrees_told one other Two truth 0 (occurring attrs all) (rises attrs all) tells (cell_values all attr (domain_at attrs attr)) (occurring_has attrs all attr within there) Second tt

  module _ (rule : Rule) (row : TableauRow (List ℕ)) (is : IsRuleOf attrs rule) (there : Contains all rule) (row_there : Contains rule.rows row) where
    pub hears : Hears truth (occurring attrs all) one other rule row
    hears = record {
      wide = wide_here attrs all rule row is there row_there;
      equal = listed (Equates truth (occurring attrs all) one other) rule.x (λ attr left. let here = attr_here attrs all rule row is there row_there attr left in equates attr here.0 here.1);
      equal_right = let here = right_here attrs all rule row is there row_there in equates rule.a here.within here.occurs;
      first = left_said attrs valid all one one_tuple truth First agrees_first rule row is there row_there;
      second = left_said attrs valid all other other_tuple truth Second agrees_second rule row is there row_there;
      first_right = right_said attrs valid all one one_tuple truth First agrees_first rule row is there row_there;
      second_right = right_said attrs valid all other other_tuple truth Second agrees_second rule row is there row_there;
    }

    pub hears_asked : HearsAsked truth (occurring attrs all) one other rule row
    hears_asked = record {
      row_hears = hears;
      meets = zipped (λ at. MeetsCell truth (occurring attrs all) First one at.0 at.1) rule.x row.x (λ at cell. cell_said attrs valid all one one_tuple truth First agrees_first at.0 at.1 (left_here attrs all rule row is there row_there at cell));
      misses_right = misses_said attrs valid all one one_tuple truth First agrees_first (rule.a, row.a) (right_here attrs all rule row is there row_there);
    }
