use Rattle.desk_state.proofs.DeskStands.{reached-as_left, reached-on}
use Rattle.desk_state.proofs.desk.Desk.answer.Goals as goal

pub returns-clause-reached : goal.returns-clause-reached
returns-clause-reached g c = reached-on c.args.self.now c.reply-reply.new.self c.args.event.now c.reply-reply.result c.reply-reply.ensures.ok c.reply-reply.ensures.memory

pub returns-clause-as_left : goal.returns-clause-as_left
returns-clause-as_left g c reached = reached-as_left c.reply-reply.new.self (reached-on c.args.self.now c.reply-reply.new.self c.args.event.now c.reply-reply.result c.reply-reply.ensures.ok c.reply-reply.ensures.memory reached)
