use Rattle.cert_check.proofs.NodeLines.{verdict_by}
use Rattle.cert_check.proofs.trees.checked.Goals as goal

pub returns : goal.returns
returns c =
    verdict_by c.args.clauses.now c.args.tree.now c.check.result (λ leaves. (c.check.ensures.closed leaves).0) (λ leaves. (c.check.ensures.partial leaves).0) (λ at. (c.check.ensures.wrong at).0)
