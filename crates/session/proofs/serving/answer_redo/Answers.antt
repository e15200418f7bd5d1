use Rattle.std.proofs.Common.{ℕ, List, [], ◌∷◌, Option, Ok, Err, OnErr, codes, inl, refl}
use Rattle.shelf_io.specs.Transcript.{AnswersFront}
use Rattle.shelf_io.proofs.Transcripts.{front-not_begun, front-not_written}
use Rattle.session.specs.Replies.{IsReply, IsRedoReply}
use Rattle.script_lines.specs.declared.command.Command.TheVariants.{Redo}
use Rattle.session.proofs.serving.answer_redo.Goals as goal

-- the change was made again, whether or not that could be told
pub returns-in-Ok-clause-memory : goal.returns-in-Ok-clause-memory
returns-in-Ok-clause-memory g c =
    let start = c.args.bench.now in
    let end = c.redo.new.self.history in
    let reply = codes "redone\n" in
    let is : IsRedoReply start.history reply end = inl (refl, c.in-Ok.ensures.redone) in
    let Told = (written : Option (List ℕ)) → AnswersFront (IsReply start.rules start.limits) start.history (Redo ∷ []) end written written in
    let done : Told = λ written. front-not_written (IsReply start.rules start.limits) start.history end Redo reply written is in
    elim c.extend_from_slice.result as (λ r. OnErr r Told) [ Ok made ↦ tt | Err memory ↦ done ]

-- there was none, whether or not that could be told
pub returns-in-Err-NothingToRedo-clause-memory : goal.returns-in-Err-NothingToRedo-clause-memory
returns-in-Err-NothingToRedo-clause-memory g c =
    let start = c.args.bench.now in
    let end = c.redo.new.self.history in
    let Told = (written : Option (List ℕ)) → AnswersFront (IsReply start.rules start.limits) start.history (Redo ∷ []) end written written in
    let kept : Told = λ written. front-not_begun (IsReply start.rules start.limits) start.history end (Redo ∷ []) written c.in-Err-NothingToRedo.ensures.unchanged in
    elim c.push_refused.result as (λ r. OnErr r Told) [ Ok made ↦ tt | Err memory ↦ kept ]
