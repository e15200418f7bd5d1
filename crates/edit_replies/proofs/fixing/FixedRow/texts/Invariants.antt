use Rattle.std.proofs.Common.{◌≡◌, take}
use Rattle.fix_engine.specs.Questions.{texts_of}
use Rattle.edit_replies.proofs.fixing.FixedRow.texts.Given as goal

abbrev pub invariant-loop-id : goal.invariant-loop-id
invariant-loop-id l = l.texts ≡ texts_of l.self.pool.now (take l.id-index l.ids)
