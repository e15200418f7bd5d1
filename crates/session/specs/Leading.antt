-- Where commands lead, whatever is told of them.
use Rattle.std.specs.Prelude.{ℕ, List}
use Rattle.text_lists.specs.declared.limits.Limits.{Limits}
use Rattle.rule_model.specs.Books.{Book}
use Rattle.bench_core.specs.History.{History}
use Rattle.shelf_io.specs.Transcript.{IsTranscript}
use Rattle.script_lines.specs.declared.command.Command.{Command}
use Rattle.session.specs.Probes.{Counted, IsCountedReply}
use Rattle.session.specs.Replies.{IsReply}

-- they lead from the one history to the other
abbrev pub LeadsTo : Book → Limits → History → List Command → History → Type 0
LeadsTo rules limits start commands last = (replies : List ℕ) × IsTranscript (IsReply rules limits) start commands replies last

-- the same with the count of probes of indexes before them and after them: each command takes no more than it may in the
-- history in which it is answered
abbrev pub LeadsWithin : Book → Limits → Counted → List Command → Counted → Type 0
LeadsWithin rules limits start commands last = (replies : List ℕ) × IsTranscript (IsCountedReply rules limits) start commands replies last
