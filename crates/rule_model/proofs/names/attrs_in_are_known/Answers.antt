use Rattle.std.proofs.lemmas.Result.{err_from_is_err_and}
use Rattle.rule_model.specs.Faults.{unknown_name}
use Rattle.rule_model.proofs.Firsts.{told_there}
use Rattle.rule_model.proofs.names.attrs_in_are_known.Goals as goal

pub returns-in_err-attr_is_known : goal.returns-in_err-attr_is_known
returns-in_err-attr_is_known c =
    let p = err_from_is_err_and c.from_residual.result c.from_residual.ensures.1 in
    rw (p.1, p.2) (told_there (unknown_name c.args.attrs.now) c.args.names.now c.loop-name.name-index c.name-item.result c.in_err-attr_is_known.field-0.0 _ c.loop-name-test.true c.name-item.is c.in_err-attr_is_known.ensures c.loop-name.invariant)
