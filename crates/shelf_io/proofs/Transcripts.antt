-- Transcripts one after the other, and what of them was appended.
use Rattle.std.proofs.Common.{◌≡◌, ℕ, ◌+◌, ◌<◌, ◌≤◌, List, [], ◌∷◌, ◌++◌, length, take, drop, get_or, Option, None, Some, inl, inr, refl, ap, sym, ◌∙◌, subst, append_assoc}
use Rattle.std.proofs.lemmas.List.{append-nil, take_all, take_more, take-append-drop}
use Rattle.shelf_io.specs.Sink.{Appends, FrontOf, appended}
use Rattle.shelf_io.specs.Transcript.{Replies, IsTranscript, IsCutShort, Answers, AnswersFront}
use Rattle.shelf_io.proofs.Puts.{appended-append}

-- ---- what was appended

-- nothing
pub appended-nothing : (told : Option (List ℕ)) → appended told [] ≡ told
appended-nothing None = refl
appended-nothing (Some bytes) = ap Some (append-nil bytes)

-- nothing, where that is one of the texts
pub Appends-nothing : {texts : List ℕ → Type 0} (told : Option (List ℕ)) → texts [] → Appends texts told told
Appends-nothing told empty = record { text = []; is_one = empty; written = sym (appended-nothing told) }

-- one text after the other
pub Appends-next : {A B C : List ℕ → Type 0} (before between after : Option (List ℕ)) → ((a b : List ℕ) → A a → B b → C (a ++ b)) → Appends A before between → Appends B between after → Appends C before after
Appends-next before between after joined first next = record {
  text = first.text ++ next.text;
  is_one = joined first.text next.text first.is_one next.is_one;
  written = next.written ∙ (ap (λ told. appended told next.text) first.written ∙ appended-append before first.text next.text);
}

-- a text that is one of other texts too
pub Appends-wider : {A B : List ℕ → Type 0} (before after : Option (List ℕ)) → ((text : List ℕ) → A text → B text) → Appends A before after → Appends B before after
Appends-wider before after wider first = record { text = first.text; is_one = wider first.text first.is_one; written = first.written }

-- a whole text is a front of itself
pub FrontOf-all : (A : List ℕ → Type 0) (text : List ℕ) → A text → FrontOf A text
FrontOf-all A text all = ([], subst A (sym (append-nil text)) all)

-- a front of texts that are among others is one of those others
pub FrontOf-wider : (A B : List ℕ → Type 0) (front : List ℕ) → ((text : List ℕ) → A text → B text) → FrontOf A front → FrontOf B front
FrontOf-wider A B front wider f = (f.0, wider (front ++ f.0) f.1)

-- a front that goes past a first text
pub FrontOf-next : (A B C : List ℕ → Type 0) → ((a b : List ℕ) → A a → B b → C (a ++ b)) → (a front : List ℕ) → A a → FrontOf B front → FrontOf C (a ++ front)
FrontOf-next A B C joined a front first f = (f.0, subst C (sym (append_assoc a front f.0)) (joined a (front ++ f.0) first f.1))

-- ---- transcripts

module _ {State Command : Type 0} (IsReply : Replies State Command) where
  -- of no command
  pub transcript-none : (start : State) → IsTranscript IsReply start [] [] start
  transcript-none start = (refl, refl)

  -- of one command
  pub transcript-one : (start end : State) (command : Command) (reply : List ℕ) → IsReply start command reply end → IsTranscript IsReply start (command ∷ []) reply end
  transcript-one start end command reply is = (reply, end, [], is, sym (append-nil reply), (refl, refl))

  from_same : (start mid last : State) (commands : List Command) (bytes more : List ℕ) → bytes ≡ [] → mid ≡ start → IsTranscript IsReply mid commands more last → IsTranscript IsReply start commands (bytes ++ more) last
  from_same start mid last commands bytes more empty same h =
      subst (λ b. IsTranscript IsReply start commands (b ++ more) last) (sym empty) (subst (λ s. IsTranscript IsReply s commands more last) same h)

  -- the transcript of some commands and that of those after them are one of all
  pub transcript-append : (start mid last : State) (commands others : List Command) (bytes more : List ℕ) → IsTranscript IsReply start commands bytes mid → IsTranscript IsReply mid others more last → IsTranscript IsReply start (commands ++ others) (bytes ++ more) last
  transcript-append start mid last [] others bytes more first next = from_same start mid last others bytes more first.0 first.1 next
  transcript-append start mid last (command ∷ commands) others bytes more first next = (
    first.0,
    first.1,
    first.2 ++ more,
    first.3,
    ap (λ b. b ++ more) first.4 ∙ append_assoc first.0 first.2 more,
    transcript-append first.1 mid last commands others first.2 more first.5 next,
  )

  -- where each command has a reply in each state, all commands have a transcript
  pub transcript_of : ((state : State) (command : Command) → (reply : List ℕ) × (next : State) × IsReply state command reply next) → (start : State) (commands : List Command) → (bytes : List ℕ) × (last : State) × IsTranscript IsReply start commands bytes last
  transcript_of reply start [] = ([], start, (refl, refl))
  transcript_of reply start (command ∷ commands) =
      let first = reply start command in
      let others = transcript_of reply first.1 commands in
      (first.0 ++ others.0, others.1, (first.0, first.1, others.0, first.2, refl, others.2))

  -- ---- answers

  -- nothing is answered yet
  pub answers-none : (start : State) (commands : List Command) (told : Option (List ℕ)) → Answers IsReply start (take 0 commands) start told told
  answers-none start commands told = Appends-nothing told (refl, refl)

  one_more : (commands : List Command) (place : ℕ) (command : Command) → place < length commands → command ≡ get_or commands place command → take place commands ++ command ∷ [] ≡ take (place + 1) commands
  one_more commands place command within is = ap (λ (c : Command). take place commands ++ c ∷ []) is ∙ sym (take_more commands place command within)

  -- one more command is answered
  pub answers-more : (start mid end : State) (commands : List Command) (place : ℕ) (command : Command) (before between after : Option (List ℕ)) → place < length commands → command ≡ get_or commands place command
      → Answers IsReply start (take place commands) mid before between → Answers IsReply mid (command ∷ []) end between after → Answers IsReply start (take (place + 1) commands) end before after
  answers-more start mid end commands place command before between after within is first next =
      subst (λ (cs : List Command). Answers IsReply start cs end before after) (one_more commands place command within is)
      (Appends-next before between after (λ a b. transcript-append start mid end (take place commands) (command ∷ []) a b) first next)

  -- all are answered
  pub answers-all : (start end : State) (commands : List Command) (place : ℕ) (before after : Option (List ℕ)) → length commands ≤ place → Answers IsReply start (take place commands) end before after → Answers IsReply start commands end before after
  answers-all start end commands place before after past all = subst (λ (cs : List Command). Answers IsReply start cs end before after) (take_all place commands past) all

  -- what is cut short is so, too, where more commands follow
  cut-longer : (start end : State) (commands others : List Command) (bytes : List ℕ) → IsCutShort IsReply start commands bytes end → IsCutShort IsReply start (commands ++ others) bytes end
  cut-longer start end [] [] bytes cut = cut
  cut-longer start end [] (other ∷ others) bytes cut = inl cut
  cut-longer start end (command ∷ commands) others bytes (inl cut) = inl cut
  cut-longer start end (command ∷ commands) others bytes (inr (inl cut)) = inr (inl cut)
  cut-longer start end (command ∷ commands) others bytes (inr (inr cut)) = inr (inr (cut.0, cut.1, cut.2, cut.3, cut.4, cut-longer cut.1 end commands others cut.2 cut.5))

  cut-from_same : (start mid end : State) (commands : List Command) (bytes more : List ℕ) → bytes ≡ [] → mid ≡ start → IsCutShort IsReply mid commands more end → IsCutShort IsReply start commands (bytes ++ more) end
  cut-from_same start mid end commands bytes more empty same cut =
      subst (λ b. IsCutShort IsReply start commands (b ++ more) end) (sym empty) (subst (λ s. IsCutShort IsReply s commands more end) same cut)

  -- a transcript, and behind it what is cut short
  cut-append : (start mid end : State) (commands others : List Command) (bytes more : List ℕ) → IsTranscript IsReply start commands bytes mid → IsCutShort IsReply mid others more end → IsCutShort IsReply start (commands ++ others) (bytes ++ more) end
  cut-append start mid end [] others bytes more first next = cut-from_same start mid end others bytes more first.0 first.1 next
  cut-append start mid end (command ∷ commands) others bytes more first next =
      inr (inr (first.0, first.1, first.2 ++ more, first.3, ap (λ b. b ++ more) first.4 ∙ append_assoc first.0 first.2 more, cut-append first.1 mid end commands others first.2 more first.5 next))

  -- one more command is answered in part, or not at all
  pub answers-cut : (start mid end : State) (commands : List Command) (place : ℕ) (command : Command) (before between after : Option (List ℕ)) → place < length commands → command ≡ get_or commands place command
      → Answers IsReply start (take place commands) mid before between → AnswersFront IsReply mid (command ∷ []) end between after → AnswersFront IsReply start commands end before after
  answers-cut start mid end commands place command before between after within is first next =
      Appends-next before between after
      (λ a front done cut.
      let some = subst (λ (cs : List Command). IsCutShort IsReply start cs (a ++ front) end) (one_more commands place command within is) (cut-append start mid end (take place commands) (command ∷ []) a front done cut) in
      subst (λ (cs : List Command). IsCutShort IsReply start cs (a ++ front) end) (take-append-drop (place + 1) commands) (cut-longer start end (take (place + 1) commands) (drop (place + 1) commands) (a ++ front) some))
      first next

  not_begun : (start end : State) (commands : List Command) → end ≡ start → IsCutShort IsReply start commands [] end
  not_begun start end [] same = (refl, same)
  not_begun start end (command ∷ commands) same = inl (refl, same)

  -- where nothing is appended yet, a command is answered in part: not begun, or done and its reply not yet written
  pub front-not_begun : (start end : State) (commands : List Command) (told : Option (List ℕ)) → end ≡ start → AnswersFront IsReply start commands end told told
  front-not_begun start end commands told same = Appends-nothing told (not_begun start end commands same)

  pub front-not_written : (start end : State) (command : Command) (reply : List ℕ) (told : Option (List ℕ)) → IsReply start command reply end → AnswersFront IsReply start (command ∷ []) end told told
  front-not_written start end command reply told is = Appends-nothing told (inr (inl (reply, is, (reply, refl))))

  -- where a front of the reply is appended
  pub front-of_reply : (start end : State) (command : Command) (reply piece : List ℕ) (before after : Option (List ℕ)) → IsReply start command reply end → piece ≡ reply → Appends (FrontOf (λ text. text ≡ piece)) before after → AnswersFront IsReply start (command ∷ []) end before after
  front-of_reply start end command reply piece before after is same front = Appends-wider before after (λ text f. inr (inl (reply, is, (f.0, f.1 ∙ same)))) front

  -- where all of it is
  pub answers-one : (start end : State) (command : Command) (reply : List ℕ) (before after : Option (List ℕ)) → IsReply start command reply end → after ≡ appended before reply → Answers IsReply start (command ∷ []) end before after
  answers-one start end command reply before after is written = record { text = reply; is_one = transcript-one start end command reply is; written = written }

  -- replies that are cut short go on to a transcript of all commands
  cut-goes_on : ((state : State) (command : Command) → (reply : List ℕ) × (next : State) × IsReply state command reply next) → (start end : State) (commands : List Command) (bytes : List ℕ) → IsCutShort IsReply start commands bytes end
      → FrontOf (λ all. (last : State) × IsTranscript IsReply start commands all last) bytes
  cut-goes_on reply start end [] bytes cut = ([], (start, (append-nil bytes ∙ cut.0, refl)))
  cut-goes_on reply start end (command ∷ commands) bytes (inl cut) =
      let all = transcript_of reply start (command ∷ commands) in
      (all.0, (all.1, subst (λ b. IsTranscript IsReply start (command ∷ commands) (b ++ all.0) all.1) (sym cut.0) all.2))
  cut-goes_on reply start end (command ∷ commands) bytes (inr (inl cut)) =
      let others = transcript_of reply end commands in
      let rest = cut.2.0 in
      (rest ++ others.0, (others.1, (cut.0, end, others.0, cut.1, sym (append_assoc bytes rest others.0) ∙ ap (λ b. b ++ others.0) cut.2.1, others.2)))
  cut-goes_on reply start end (command ∷ commands) bytes (inr (inr cut)) =
      let on = cut-goes_on reply cut.1 end commands cut.2 cut.5 in
      (on.0, (on.1.0, (cut.0, cut.1, cut.2 ++ on.0, cut.3, ap (λ b. b ++ on.0) cut.4 ∙ append_assoc cut.0 cut.2 on.0, on.1.1)))

  -- a front of the transcript of some commands is a front of one of all commands
  pub front-of_all : ((state : State) (command : Command) → (reply : List ℕ) × (next : State) × IsReply state command reply next) → (start end : State) (commands : List Command) (before after : Option (List ℕ)) → AnswersFront IsReply start commands end before after
      → Appends (FrontOf (λ bytes. (last : State) × IsTranscript IsReply start commands bytes last)) before after
  front-of_all reply start end commands before after = Appends-wider before after (λ bytes cut. cut-goes_on reply start end commands bytes cut)
