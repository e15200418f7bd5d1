use Rattle.std.proofs.Common.{Bool, Err, refl, sym, subst, arith}
use Rattle.cli_output.specs.declared.fetching.Stop.TheVariants.{Refused}
use Rattle.cli_output.specs.Fetching.{Fetches, given}
use Rattle.cli_output.proofs.FetchingSteps.{fetches-given}
use Rattle.view_check.specs.Seen.{off_unless, seen_of}
use Rattle.view_check.proofs.SeenSteps.{fetches-at_most}
use Rattle.view_check.proofs.fetching.fetch_off_unless.Goals as goal

pub returns-then-absent : goal.returns-then-absent
returns-then-absent g c =
    let refusal = c.args.refusal in
    let shelf = g.S.Shelf.told c.args.shelf.now in
    subst (λ (absent : Bool). Fetches (off_unless absent c.args.limits.now c.args.project.now refusal) seen_of 67 (Err (Refused refusal)) shelf shelf 0 0) (sym c.if-absent.true)
    (fetches-at_most (given (Err refusal)) seen_of 0 67 (Err (Refused refusal)) shelf shelf 0 0 (omega arith) (fetches-given (Err refusal) seen_of (Err (Refused refusal)) shelf 0 (record { gives = refl; no_fault = λ fault. absurd fault })))

pub returns-else-absent : goal.returns-else-absent
returns-else-absent g c =
    subst (λ (absent : Bool). Fetches (off_unless absent c.args.limits.now c.args.project.now c.args.refusal) seen_of 67 c.fetch_off.result (g.S.Shelf.told c.args.shelf.now) (g.S.Shelf.told c.fetch_off.new.shelf) 0 0) (sym c.if-absent.false) c.fetch_off.ensures
