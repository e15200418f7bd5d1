use Rattle.std.proofs.Common.{Ok, Err, ℕ, List, [], ◌∷◌, Option, Result, refl, sym, subst, OnErr}
use Rattle.shelf_io.specs.Transcript.{AnswersFront}
use Rattle.shelf_io.proofs.Transcripts.{front-not_begun, front-not_written}
use Rattle.bench_core.specs.History.{History}
use Rattle.bench_core.specs.declared.edit.Applied.{Applied}
use Rattle.bench_core.specs.declared.edit.EditFault.{EditFault}
use Rattle.edit_replies.specs.EditReplies.{IsEditReply, done_text}
use Rattle.session.specs.Replies.{IsReply}
use Rattle.script_lines.specs.declared.command.Command.TheVariants.{Edit}
use Rattle.session.proofs.serving.answer_edit.Goals as goal

-- the edit was done, whether or not its reply could be made
pub returns-in-Ok-clause-memory : goal.returns-in-Ok-clause-memory
returns-in-Ok-clause-memory g c =
    let start = c.args.bench.now in
    let end = c.apply.new.self.history in
    let edit = c.args.edit.now in
    let reply = done_text edit c.in-Ok.applied in
    let is = subst (λ (made : Result (History × Applied) EditFault). IsEditReply start.history edit made reply end) (sym c.in-Ok.ensures.edited) (refl, refl) in
    let done = λ (written : Option (List ℕ)). front-not_written (IsReply start.rules start.limits) start.history end (Edit edit) reply written is in
    elim c.push_done.result as (λ r. OnErr r ((written : Option (List ℕ)) → AnswersFront (IsReply start.rules start.limits) start.history (Edit edit ∷ []) end written written)) [ Ok made ↦ tt | Err memory ↦ done ]

-- the edit was refused, whether or not that could be told
pub returns-in-Err-clause-memory : goal.returns-in-Err-clause-memory
returns-in-Err-clause-memory g c =
    let start = c.args.bench.now in
    let end = c.apply.new.self.history in
    let edit = c.args.edit.now in
    let kept = λ (written : Option (List ℕ)). front-not_begun (IsReply start.rules start.limits) start.history end (Edit edit ∷ []) written c.in-Err.ensures.unchanged in
    elim c.push_edit_refused.result as (λ r. OnErr r ((written : Option (List ℕ)) → AnswersFront (IsReply start.rules start.limits) start.history (Edit edit ∷ []) end written written)) [ Ok made ↦ tt | Err memory ↦ kept ]
