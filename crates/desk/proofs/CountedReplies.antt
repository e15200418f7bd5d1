-- Replies with the probes that were counted.
use Rattle.std.proofs.Common.{ℕ, List, [], ◌∷◌, Option, ap}
use Rattle.shelf_io.specs.Transcript.{Answers}
use Rattle.desk_events.specs.declared.event.Event.{Event}
use Rattle.desk_state.specs.Desk.{DeskModel}
use Rattle.desk_state.specs.Probes.{IsWithin}
use Rattle.desk.specs.DeskReplies.{IsCountedReply, IsReply}

-- the answer to one event, and what it took
pub counted-one : (start end : DeskModel) (event : Event) (from to : ℕ) (before after : Option (List ℕ))
    → Answers IsReply start (event ∷ []) end before after → IsWithin start event.editor event.act from to → Answers IsCountedReply (start, from) (event ∷ []) (end, to) before after
counted-one start end event from to before after one within =
    let (reply, next, others, is, whole, (none, last)) = one.is_one in
    record {
      text = one.text;
      is_one = (reply, (next, to), others, (is, within), whole, (none, ap (λ (d : DeskModel). (d, to)) last));
      written = one.written;
    }
