use Rattle.std.proofs.Common.{◌≡◌, ℕ, List, [], ◌∷◌, ◌++◌, Option, Result, Ok, Err, OnOk, OnErr, refl, sym, ap, subst, ◌∙◌}
use Rattle.shelf_io.specs.Transcript.{AnswersFront}
use Rattle.shelf_io.proofs.Transcripts.{front-not_begun, front-not_written}
use Rattle.desk.specs.DeskReplies.{IsReply, reply_text}
use Rattle.rule_model.specs.Books.{Book}
use Rattle.desk_events.specs.declared.event.Event.{Event}
use Rattle.desk_state.specs.Desk.{DeskModel, IsDeskAnswer}
use Rattle.desk_state.specs.declared.reply.Reply.{Reply}
use Rattle.desk.specs.OneHistory.{AreOneHistory}
use Rattle.desk.proofs.OneHistory.{answer_made, none_made}
use Rattle.desk.proofs.serving.answer.Goals as goal

-- where the text of what was told is appended to an empty buffer, it is the reply
reply-made : {X E : Type 0} (start end : DeskModel) (event : Event) (told : Reply) (rules : Book) (before after : List ℕ) (pushed : Result X E) → IsDeskAnswer start event told end → before ≡ [] → rules ≡ start.rules
    → OnOk pushed (after ≡ before ++ reply_text rules event.act told) → OnOk pushed (IsReply start event after end)
reply-made start end event told rules before after (Ok done) is none same made =
    (told, is, made ∙ ap (λ (bytes : List ℕ). bytes ++ reply_text rules event.act told) none ∙ ap (λ (r : Book). reply_text r event.act told) same)
reply-made start end event told rules before after (Err fault) is none same made = tt

pub returns-clause-ok : goal.returns-clause-ok
returns-clause-ok g c =
    let rules = c.rules.ensures.value ∙ c.bench.ensures.bench.0 ∙ c.in_ok-told.ensures.made_with.0 in
    reply-made c.args.desk.now c.answer.new.self c.args.event.now c.in_ok-told.told c.rules.result.now c.args.reply.now.items c.push_reply.new.out.items c.push_reply.result c.in_ok-told.ensures.ok c.requires rules c.push_reply.ensures

pub returns-in_err-told-clause-memory : goal.returns-in_err-told-clause-memory
returns-in_err-told-clause-memory g c =
    let start = c.args.desk.now in
    let end = c.answer.new.self in
    let event = c.args.event.now in
    let Told = (written : Option (List ℕ)) → AnswersFront IsReply start (event ∷ []) end written written in
    let as_before : Told = λ written. front-not_begun IsReply start end (event ∷ []) written c.in_err-told.ensures.memory in
    elim c.from_residual.result as (λ r. OnErr r Told) [ Ok made ↦ tt | Err memory ↦ as_before ]

-- the desk is as after the event, whether or not its reply could be made
pub returns-clause-memory : goal.returns-clause-memory
returns-clause-memory g c =
    let start = c.args.desk.now in
    let end = c.answer.new.self in
    let event = c.args.event.now in
    let Told = (written : Option (List ℕ)) → AnswersFront IsReply start (event ∷ []) end written written in
    let done : Told = λ written. front-not_written IsReply start end event (reply_text start.rules event.act c.in_ok-told.told) written (c.in_ok-told.told, c.in_ok-told.ensures.ok, refl) in
    elim c.push_reply.result as (λ r. OnErr r Told) [ Ok made ↦ tt | Err memory ↦ done ]

pub returns-clause-one_history : goal.returns-clause-one_history
returns-clause-one_history g c = answer_made c.args.desk.now c.args.event.now c.in_ok-told.told c.answer.new.self c.in_ok-told.ensures.ok

pub returns-in_err-told-clause-one_history : goal.returns-in_err-told-clause-one_history
returns-in_err-told-clause-one_history g c = subst (λ (d : DeskModel). AreOneHistory c.args.desk.now d) (sym c.in_err-told.ensures.memory) (none_made c.args.desk.now)
