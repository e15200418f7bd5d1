use Rattle.std.proofs.Common.{subst, sym, IfNone}
use Rattle.value_pool.specs.Pool.{HasId, IsNew}
use Rattle.value_pool.proofs.PoolLemmas.{position-HasId, position-IsNew}
use Rattle.value_pool.proofs.Pool.find.Goals as goal

pub returns-clause-found : goal.returns-clause-found
returns-clause-found c =
    let text = c.args.text.now in
    subst (λ texts. HasId texts text c.in_ok-id.id) c.self.view_is (position-HasId text _ _ c.in_ok-id.ensures.index)

pub returns-in_err-id-clause-absent : goal.returns-in_err-id-clause-absent
returns-in_err-id-clause-absent c =
    let text = c.args.text.now in
    subst (λ found. IfNone found (IsNew c.args.self.now text)) (sym c.from_residual.ensures)
    (subst (λ texts. IsNew texts text) c.self.view_is (position-IsNew text _ _ c.in_err-id.ensures.index))
