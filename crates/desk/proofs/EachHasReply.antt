-- Each event has a reply at each desk.
use Rattle.std.proofs.Common.{ℕ, List, refl}
use Rattle.desk_events.specs.declared.event.Event.{Event}
use Rattle.desk_state.specs.Desk.{DeskModel, answered}
use Rattle.desk.specs.DeskReplies.{IsReply, reply_text}

pub reply_of : (desk : DeskModel) (event : Event) → (bytes : List ℕ) × (next : DeskModel) × IsReply desk event bytes next
reply_of desk event = let answer = answered desk event in (reply_text desk.rules event.act answer.0, answer.1, (answer.0, refl, refl))
