use Rattle.std.proofs.Common.{[], Option, Err, sym, subst}
use Rattle.std.specs.Option.{option_map}
use Rattle.std.specs.Str.{bytes_eq}
use Rattle.std.proofs.lemmas.Result.{err_from_is_err_and}
use Rattle.rule_model.specs.declared.fault.RuleFault.{RuleFault}
use Rattle.rule_model.specs.declared.fault.RuleFault.TheVariants.{RepeatedAttr}
use Rattle.text_lists.specs.Repeats.{repeated_after}
use Rattle.rule_model.specs.Faults.{Finds}
use Rattle.rule_model.proofs.Firsts.{told_first, told_second}
use Rattle.rule_model.proofs.Repeats.{repeated_in-append}
use Rattle.rule_model.proofs.names.both_are_distinct.Goals as goal

pub returns-in_err-are_new : goal.returns-in_err-are_new
returns-in_err-are_new c =
    let p = err_from_is_err_and c.from_residual.result c.from_residual.ensures.1 in
    let names = c.args.names.now in
    let others = c.args.others.now in
    let fault = c.in_err-are_new.field-0.0 in
    rw (p.1, p.2) (subst (λ (found : Option RuleFault). Finds (Err fault) found) (sym (repeated_in-append names others))
    (told_first fault (option_map RepeatedAttr (repeated_after bytes_eq [] names)) (option_map RepeatedAttr (repeated_after bytes_eq names others)) c.in_err-are_new.ensures))

pub returns : goal.returns
returns c =
    let names = c.args.names.now in
    let others = c.args.others.now in
    subst (λ (found : Option RuleFault). Finds c.are_new-2.result found) (sym (repeated_in-append names others))
    (told_second c.are_new-2.result (option_map RepeatedAttr (repeated_after bytes_eq [] names)) (option_map RepeatedAttr (repeated_after bytes_eq names others)) c.in_ok-are_new.ensures c.are_new-2.ensures)
