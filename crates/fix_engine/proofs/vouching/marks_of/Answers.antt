use Rattle.std.proofs.Common.{◌≡◌, [], ◌∷◌, ◌++◌, get_or, take, sym, ap, ◌∙◌, subst, arith}
use Rattle.std.proofs.lemmas.Bool.{false≢true}
use Rattle.std.proofs.lemmas.List.{take_all, take_more}
use Rattle.std.proofs.lemmas.List.Elements.{All-more}
use Rattle.std.specs.List.{All}
use Rattle.std.specs.Prelude.{◌==◌, ◌||◌}
use Rattle.schema_core.specs.declared.schema.Attr.{Attr}
use Rattle.schema_core.specs.declared.schema.Domain.TheVariants.{AnyText}
use Rattle.fix_engine.specs.Questions.{IsNoAttr, is_vouched}
use Rattle.fix_engine.proofs.NamedAttrs.{is_vouched-none, is_vouched-push, not_any}
use Rattle.fix_engine.proofs.vouching.marks_of.Goals as goal

pub loop-name-init : goal.loop-name-init
loop-name-init c = record {
  marks = λ attr. c.none-marks.ensures attr ∙ sym (is_vouched-none c.args.table.now.attrs attr);
  known = λ k d within. absurd (omega arith);
}

pub loop-name-preserved : goal.loop-name-preserved
loop-name-preserved c =
    let attrs = c.args.table.now.attrs in
    let names = c.args.names.now in
    let index = c.loop-name.name-index in
    let name = c.name-item.result in
    let any : Attr = record { name = []; domain = AnyText } in
    let (within, named) = c.in_ok-attr_named.ensures.found in
    let is_name : (a : Attr) → a.name ≡ c.as_str.result.now → a.name ≡ name = λ a e. e ∙ c.as_str.ensures.bytes in
    let longer = take_more names index name c.loop-name-test.true ∙ ap (λ n. take index names ++ n ∷ []) (sym c.name-item.is) in
    let inv = c.loop-name.invariant in
    record {
      marks = λ attr.
          c.with-marks.ensures.set attr
          ∙ ap (λ t. attr == c.in_ok-attr_named.field-0 || t) (inv.marks attr)
          ∙ sym (ap (λ ns. is_vouched attrs ns attr) longer ∙ is_vouched-push attrs (take index names) name c.in_ok-attr_named.field-0 attr c.requires.distinct within (λ d. is_name (get_or attrs c.in_ok-attr_named.field-0 d) (named d)));
      known = All-more (λ n. ¬ IsNoAttr attrs n) names index name c.loop-name-test.true inv.known (λ none. none c.in_ok-attr_named.field-0 any within (is_name (get_or attrs c.in_ok-attr_named.field-0 any) (named any) ∙ c.name-item.is));
    }

pub returns-clause-unknown : goal.returns-clause-unknown
returns-clause-unknown c =
    let names = c.args.names.now in
    let all = take_all c.loop-name.name-index names (omega (arith, c.loop-name-test.false)) in
    let known = subst (All (λ name. ¬ IsNoAttr c.args.table.now.attrs name)) all c.loop-name.invariant.known in
    (λ e. absurd (false≢true (sym e)), λ any. absurd (not_any (IsNoAttr c.args.table.now.attrs) names known any))
