use Rattle.std.proofs.Common.{◌+◌, [], ◌∷◌, ◌++◌, take, ap, sym, subst, ◌∙◌}
use Rattle.std.specs.List.{AllZip}
use Rattle.std.proofs.lemmas.List.{take_all, take_more}
use Rattle.std.proofs.lemmas.Slice.Zip.{all_zipped_more}
use Rattle.project_flaws.specs.Verdicts.{IsVerdictFor}
use Rattle.project_flaws.proofs.verdicts.verdicts_on.Goals as goal

pub loop-table-init : goal.loop-table-init
loop-table-init c = subst (AllZip (IsVerdictFor c.args.rules.now) []) (sym c.new-all.ensures) tt

pub loop-table-preserved : goal.loop-table-preserved
loop-table-preserved c =
    let met = IsVerdictFor c.args.rules.now in
    let seen = take c.loop-table.table-index c.args.tables.now in
    let more = take_more c.args.tables.now c.loop-table.table-index c.table-item.result c.loop-table-test.true ∙ ap (λ table. seen ++ table ∷ []) (sym c.table-item.is) in
    subst (AllZip met (take (c.loop-table.table-index + 1) c.args.tables.now)) (sym c.in_ok-push.ensures.ok)
    (subst (λ tables. AllZip met tables (c.loop-table.all ++ c.in_ok-verdict.verdict ∷ [])) (sym more)
    (all_zipped_more met seen c.loop-table.all c.table-item.result c.in_ok-verdict.verdict c.loop-table.invariant c.in_ok-verdict.ensures))

pub returns : goal.returns
returns c = subst (λ tables. AllZip (IsVerdictFor c.args.rules.now) tables c.loop-table.all) (take_all c.loop-table.table-index c.args.tables.now c.loop-table-test.false) c.loop-table.invariant
