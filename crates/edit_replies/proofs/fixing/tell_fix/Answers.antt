use Rattle.std.proofs.Common.{◌≡◌, Some}
use Rattle.schema_core.specs.Schemas.{table_place}
use Rattle.edit_replies.specs.Fixing.{asked}
use Rattle.edit_replies.specs.Telling.{IsToldFix}
use Rattle.edit_replies.proofs.Told.{told-at}
use Rattle.edit_replies.proofs.fixing.tell_fix.Goals as goal

pub returns-in-Ok : goal.returns-in-Ok
returns-in-Ok c =
    let bench = c.args.bench.now in
    told-at c.tell_verdict.result
    (λ name id. IsToldFix bench.rules bench.limits bench.history (asked bench.rules bench.history.present name id c.args.vouched.now) c.tell_verdict.new.reply.items)
    c.in-Ok.at.row c.args.row (λ name. table_place bench.rules.schema name ≡ Some c.in-Ok.at.table) c.args.table.now c.in-Ok.ensures.there.0 c.in-Ok.ensures.there.1 c.tell_verdict.ensures
