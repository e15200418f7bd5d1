use Rattle.std.proofs.Common.{ℕ, List, [], ◌∷◌, Option, Ok, Err, OnErr, codes, inl, refl}
use Rattle.shelf_io.specs.Transcript.{AnswersFront}
use Rattle.shelf_io.proofs.Transcripts.{front-not_begun, front-not_written}
use Rattle.session.specs.Replies.{IsReply, IsUndoReply}
use Rattle.script_lines.specs.declared.command.Command.TheVariants.{Undo}
use Rattle.session.proofs.serving.answer_undo.Goals as goal

-- the change was taken back, whether or not that could be told
pub returns-in-Ok-clause-memory : goal.returns-in-Ok-clause-memory
returns-in-Ok-clause-memory g c =
    let start = c.args.bench.now in
    let end = c.undo.new.self.history in
    let reply = codes "undone\n" in
    let is : IsUndoReply start.history reply end = inl (refl, c.in-Ok.ensures.undone) in
    let Told = (written : Option (List ℕ)) → AnswersFront (IsReply start.rules start.limits) start.history (Undo ∷ []) end written written in
    let done : Told = λ written. front-not_written (IsReply start.rules start.limits) start.history end Undo reply written is in
    elim c.extend_from_slice.result as (λ r. OnErr r Told) [ Ok made ↦ tt | Err memory ↦ done ]

-- there was none, whether or not that could be told
pub returns-in-Err-NothingToUndo-clause-memory : goal.returns-in-Err-NothingToUndo-clause-memory
returns-in-Err-NothingToUndo-clause-memory g c =
    let start = c.args.bench.now in
    let end = c.undo.new.self.history in
    let Told = (written : Option (List ℕ)) → AnswersFront (IsReply start.rules start.limits) start.history (Undo ∷ []) end written written in
    let kept : Told = λ written. front-not_begun (IsReply start.rules start.limits) start.history end (Undo ∷ []) written c.in-Err-NothingToUndo.ensures.unchanged in
    elim c.push_refused.result as (λ r. OnErr r Told) [ Ok made ↦ tt | Err memory ↦ kept ]
