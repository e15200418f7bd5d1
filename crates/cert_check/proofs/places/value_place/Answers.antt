use Rattle.std.proofs.Common.{true, false, ◌∙◌, sym, ap}
use Rattle.std.specs.List.{position_or_len}
use Rattle.cert_text.specs.declared.names.VarName.{VarName}
use Rattle.cert_check.specs.Names.{same_var, value_vars}
use Rattle.cert_check.proofs.NamePlaces.{equality_place, value_var_place}
use Rattle.cert_check.proofs.places.value_place.Goals as goal

pub returns-then-is_named : goal.returns-then-is_named
returns-then-is_named c =
    c.text_place.ensures
    ∙ sym (value_var_place c.args.tuple c.args.attr.now c.args.values.now c.in-Value.cell c.in-Value.text true (sym c.is_named.ensures ∙ c.if-is_named.true))
    ∙ sym (ap (λ (name : VarName). position_or_len (same_var name) (value_vars c.args.tuple c.args.attr.now c.args.values.now)) c.in-Value.is)

pub returns-else-is_named : goal.returns-else-is_named
returns-else-is_named c =
    c.len.ensures.len
    ∙ sym (value_var_place c.args.tuple c.args.attr.now c.args.values.now c.in-Value.cell c.in-Value.text false (sym c.is_named.ensures ∙ c.if-is_named.false))
    ∙ sym (ap (λ (name : VarName). position_or_len (same_var name) (value_vars c.args.tuple c.args.attr.now c.args.values.now)) c.in-Value.is)

pub returns-in-Equal : goal.returns-in-Equal
returns-in-Equal c =
    c.len-in-Equal.ensures.len
    ∙ sym (equality_place c.args.tuple c.args.attr.now c.args.values.now c.in-Equal.field-0)
    ∙ sym (ap (λ (name : VarName). position_or_len (same_var name) (value_vars c.args.tuple c.args.attr.now c.args.values.now)) c.in-Equal.is)
