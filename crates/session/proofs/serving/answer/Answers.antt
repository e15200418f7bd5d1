use Rattle.std.proofs.Common.{◌≡◌, ℕ, List, [], ◌∷◌, Option, Ok, Err, OnErr, refl}
use Rattle.shelf_io.specs.Transcript.{AnswersFront}
use Rattle.shelf_io.proofs.Transcripts.{front-not_begun}
use Rattle.session.specs.Replies.{IsReply}
use Rattle.session.proofs.serving.answer.Goals as goal

pub returns-in-Fix-clause-memory : goal.returns-in-Fix-clause-memory
returns-in-Fix-clause-memory g c =
    let bench = c.args.bench.now in
    let end = c.answer_fix.new.bench.history in
    let Kept = (written : Option (List ℕ)) → AnswersFront (IsReply bench.rules bench.limits) bench.history (c.args.command.now ∷ []) end written written in
    elim c.answer_fix.result as (λ r. OnErr r (end ≡ bench.history) → OnErr r Kept) [
      | Ok made ↦ λ same. tt
      | Err memory ↦ λ same written. front-not_begun (IsReply bench.rules bench.limits) bench.history end (c.args.command.now ∷ []) written same
    ] c.answer_fix.ensures.memory

pub returns-in-Explain-clause-memory : goal.returns-in-Explain-clause-memory
returns-in-Explain-clause-memory g c =
    let bench = c.args.bench.now in
    let Kept = (written : Option (List ℕ)) → AnswersFront (IsReply bench.rules bench.limits) bench.history (c.args.command.now ∷ []) bench.history written written in
    let kept : Kept = λ written. front-not_begun (IsReply bench.rules bench.limits) bench.history bench.history (c.args.command.now ∷ []) written refl in
    elim c.push_explained.result as (λ r. OnErr r Kept) [ Ok made ↦ tt | Err memory ↦ kept ]

pub returns-in-Export-clause-memory : goal.returns-in-Export-clause-memory
returns-in-Export-clause-memory g c =
    let bench = c.args.bench.now in
    let Kept = (written : Option (List ℕ)) → AnswersFront (IsReply bench.rules bench.limits) bench.history (c.args.command.now ∷ []) bench.history written written in
    let kept : Kept = λ written. front-not_begun (IsReply bench.rules bench.limits) bench.history bench.history (c.args.command.now ∷ []) written refl in
    elim c.push_exported.result as (λ r. OnErr r Kept) [ Ok made ↦ tt | Err memory ↦ kept ]
