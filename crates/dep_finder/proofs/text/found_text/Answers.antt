use Rattle.std.proofs.Common.{◌<◌, ◌^◌, length, sym, ap, subst, ◌∙◌, arith}
use Rattle.std.proofs.lemmas.Result.{IfOk-weaker}
use Rattle.dep_finder.specs.FoundText.{found_text}
use Rattle.dep_finder.specs.ReadAgain.{IsReadAs}
use Rattle.dep_finder.proofs.ReadAgain.{read_again}
use Rattle.dep_finder.proofs.text.found_text.Goals as goal

pub returns-clause-again : goal.returns-clause-again
returns-clause-again c =
    let table = c.args.table.now in
    let found = c.args.found.now in
    let few : length found < 2 ^ 64 = omega (arith, c.as_slice.type_inv.1, ap length c.as_slice.ensures) in
    let same = ap (found_text table) c.as_slice.ensures in
    IfOk-weaker c.text_of.result _ _ (λ text e. subst (IsReadAs table found) (sym (e ∙ same)) (read_again table found few c.requires)) c.text_of.ensures
