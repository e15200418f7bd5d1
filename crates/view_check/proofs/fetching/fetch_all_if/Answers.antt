use Rattle.std.proofs.Common.{Bool, true, Ok, None, refl, sym, subst, arith}
use Rattle.cli_output.specs.Fetching.{Fetches, given}
use Rattle.cli_output.proofs.FetchingSteps.{fetches-given}
use Rattle.view_check.specs.Seen.{all_if, fetch_all}
use Rattle.view_check.proofs.SeenSteps.{again-fetches, fetches-at_most}
use Rattle.view_check.proofs.fetching.fetch_all_if.Goals as goal

pub returns-then-full : goal.returns-then-full
returns-then-full g c =
    let limits = c.args.limits.now in
    let name = c.args.name.now in
    subst (λ (full : Bool). Fetches (all_if full limits name) (λ x. x) 65 c.passing_over.result (g.S.Shelf.told c.args.shelf.now) (g.S.Shelf.told c.fetch_all.new.shelf) 0 0) (sym c.if-full.true)
    (subst (λ r. Fetches (all_if true limits name) (λ x. x) 65 r (g.S.Shelf.told c.args.shelf.now) (g.S.Shelf.told c.fetch_all.new.shelf) 0 0) (sym c.passing_over.ensures)
    (again-fetches limits 65 (fetch_all limits name) c.fetch_all.result _ _ _ 0 c.fetch_all.ensures))

pub returns-else-full : goal.returns-else-full
returns-else-full g c =
    let shelf = g.S.Shelf.told c.args.shelf.now in
    subst (λ (full : Bool). Fetches (all_if full c.args.limits.now c.args.name.now) (λ x. x) 65 (Ok None) shelf shelf 0 0) (sym c.if-full.false)
    (fetches-at_most (given (Ok None)) (λ x. x) 0 65 (Ok None) shelf shelf 0 0 (omega arith) (fetches-given (Ok None) (λ x. x) (Ok None) shelf 0 (record { gives = refl; no_fault = λ fault. absurd fault })))
