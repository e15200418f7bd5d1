use Rattle.std.proofs.Common.{◌≡◌, ◌+◌, ◌<◌, ◌≤◌, false, length, ◌∙◌, sym, ap, arith}
use Rattle.std.specs.List.{position_or_len}
use Rattle.cert_text.specs.declared.names.VarName.TheVariants.{Equal}
use Rattle.cell_values.specs.declared.which.Which.TheVariants.{First, Second}
use Rattle.cert_check.specs.Names.{same_var, value_vars}
use Rattle.cert_check.proofs.NamePlaces.{pair_first, pair_second, value_vars_count}
use Rattle.cert_check.proofs.Positions.{place_within}
use Rattle.cert_check.proofs.places.pair_place.Goals as goal

pub returns-then-one-count : goal.returns-then-one-count
returns-then-one-count c =
    let attr = c.args.attr.now in
    let values = c.args.values.now in
    let name = c.args.name.now in
    let not_equality : same_var name (Equal attr) ≡ false = sym c.is_equality.ensures ∙ c.if-is_equality.false in
    let within : position_or_len (same_var name) (value_vars First attr values) < length values = omega (arith, c.value_place-one.ensures, c.len-count.ensures.len, c.if-one-count.true) in
    ap (λ n. 1 + n) c.value_place-one.ensures ∙ sym (pair_first attr values name not_equality within)

pub overflow_add-result-3 : goal.overflow_add-result-3
overflow_add-result-3 c =
    let attr = c.args.attr.now in
    let values = c.args.values.now in
    omega (arith, c.len-count.ensures.len, c.requires, c.value_place.ensures, place_within (same_var c.args.name.now) (value_vars Second attr values), value_vars_count Second attr values)

pub returns : goal.returns
returns c =
    let attr = c.args.attr.now in
    let values = c.args.values.now in
    let name = c.args.name.now in
    let not_equality : same_var name (Equal attr) ≡ false = sym c.is_equality.ensures ∙ c.if-is_equality.false in
    let past : length values ≤ position_or_len (same_var name) (value_vars First attr values) = omega (arith, c.value_place-one.ensures, c.len-count.ensures.len, c.if-one-count.false) in
    ap (λ n. 1 + n + c.value_place.result) c.len-count.ensures.len ∙ ap (λ n. 1 + length values + n) c.value_place.ensures ∙ sym (pair_second attr values name not_equality past)
