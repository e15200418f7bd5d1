use Rattle.desk_state.proofs.DeskStands.{reached-first}
use Rattle.desk_state.proofs.desk.Desk.open.Goals as goal

pub returns-clause-reached : goal.returns-clause-reached
returns-clause-reached c = reached-first _ c.with_hasher.ensures c.rules-valid.ensures.valid.present
