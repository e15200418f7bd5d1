use Rattle.view_refusal.specs.Counted.{is_arrow}
use Rattle.view_refusal.proofs.BehindFirst.{behind_found, behind_none}
use Rattle.view_refusal.proofs.counted.behind_arrow.Goals as goal

pub returns-in-Some : goal.returns-in-Some
returns-in-Some c = behind_found is_arrow c.args.tokens.now c.first_arrow.result c.in-Some.place c.first_arrow.ensures.place c.in-Some.is

pub returns-in-None : goal.returns-in-None
returns-in-None c = behind_none is_arrow c.args.tokens.now c.first_arrow.result c.first_arrow.ensures.place c.in-None.is
