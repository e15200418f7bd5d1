-- Replies with the probes that were counted.
use Rattle.std.proofs.Common.{ℕ, List, [], ◌∷◌, Option, ap}
use Rattle.text_lists.specs.declared.limits.Limits.{Limits}
use Rattle.rule_model.specs.Books.{Book}
use Rattle.shelf_io.specs.Transcript.{Answers}
use Rattle.bench_core.specs.History.{History}
use Rattle.session.specs.Probes.{IsCountedReply, IsWithin}
use Rattle.session.specs.Replies.{IsReply}
use Rattle.script_lines.specs.declared.command.Command.{Command}

-- the answer to one command, and what it took
pub counted-one : (rules : Book) (limits : Limits) (start end : History) (command : Command) (from to : ℕ) (before after : Option (List ℕ))
    → Answers (IsReply rules limits) start (command ∷ []) end before after → IsWithin rules start command from to → Answers (IsCountedReply rules limits) (start, from) (command ∷ []) (end, to) before after
counted-one rules limits start end command from to before after one within =
    let (reply, next, others, is, whole, (none, last)) = one.is_one in
    record {
      text = one.text;
      is_one = (reply, (next, to), others, (is, within), whole, (none, ap (λ (h : History). (h, to)) last));
      written = one.written;
    }
