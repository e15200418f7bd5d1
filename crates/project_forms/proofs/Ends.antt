-- How answering commands ends.
use Rattle.std.proofs.Common.{◌≡◌, ◌≢◌, ℕ, List, [], ◌∷◌, Option, inl, inr, refl, sym, subst}
use Rattle.shelf_io.specs.Rising.{Rose}
use Rattle.shelf_io.specs.Sink.{Appends, FrontOf, SinkTold}
use Rattle.shelf_io.specs.Transcript.{Replies, IsTranscript, Answers, AnswersFront}
use Rattle.shelf_io.proofs.Transcripts.{Appends-wider, FrontOf-all, FrontOf-wider, front-of_all}
use Rattle.cli_output.specs.declared.status.Status.{Status}
use Rattle.cli_output.specs.declared.status.Status.TheVariants.{Clean, Findings, ReadFault, WriteFault, Memory}
use Rattle.cli_output.specs.Output.{Ends, IsWhole, Outputs, Writes, with_any_status}
use Rattle.project_forms.specs.Transcripts.{HasStatus, found_status, transcripts}

module _ {State Command Line : Type 0} (IsReply : Replies State Command) (listing : State → List Line) (start : State) (commands : List Command) where
  -- one of the transcripts goes with some status
  with_status : (bytes : List ℕ) → (last : State) × IsTranscript IsReply start commands bytes last → with_any_status (transcripts IsReply listing start commands) bytes
  with_status bytes t = (found_status (listing t.0), (t.0, t.1, refl))

  -- a front of all of them
  front : (last : State) (before after : Option (List ℕ)) → Answers IsReply start commands last before after → Appends (FrontOf (with_any_status (transcripts IsReply listing start commands))) before after
  front last before after all = Appends-wider before after (λ bytes t. FrontOf-all (with_any_status (transcripts IsReply listing start commands)) bytes (with_status bytes (last, t))) all

  whole : (last : State) (listed : List Line) (before after : Option (List ℕ)) → listing last ≡ listed → Answers IsReply start commands last before after → Writes (transcripts IsReply listing start commands) (found_status listed) before after
  whole last [] before after is all = Appends-wider before after (λ bytes t. (last, t, subst (λ l. Clean ≡ found_status l) (sym is) refl)) all
  whole last (line ∷ lines) before after is all = Appends-wider before after (λ bytes t. (last, t, subst (λ l. Findings ≡ found_status l) (sym is) refl)) all

  not_read_fault : (listed : List Line) → found_status listed ≢ ReadFault
  not_read_fault [] e = cc
  not_read_fault (line ∷ lines) e = cc

  not_write_fault : (listed : List Line) → found_status listed ≢ WriteFault
  not_write_fault [] e = cc
  not_write_fault (line ∷ lines) e = cc

  -- the transcript that ends in this state, with its status
  ends_at : State → Outputs
  ends_at last bytes status = IsTranscript IsReply start commands bytes last × (status ≡ found_status (listing last))

  at_the_end : (last : State) (listed : List Line) (before after : Option (List ℕ)) → listing last ≡ listed → Answers IsReply start commands last before after → Writes (ends_at last) (found_status listed) before after
  unfolding ends_at
  at_the_end last [] before after is all = Appends-wider before after (λ bytes t. (t, subst (λ l. Clean ≡ found_status l) (sym is) refl)) all
  at_the_end last (line ∷ lines) before after is all = Appends-wider before after (λ bytes t. (t, subst (λ l. Findings ≡ found_status l) (sym is) refl)) all

  -- all commands were answered, and the state in which they end was looked at
  pub whole-answered : (last : State) (status : Status) (before after : Option (List ℕ)) → Answers IsReply start commands last before after → HasStatus (listing last) status → IsWhole status
      → Writes (λ bytes s. IsTranscript IsReply start commands bytes last × (s ≡ found_status (listing last))) status before after
  unfolding ends_at
  whole-answered last status before after all (inl is) whole = subst (λ s. Writes (ends_at last) s before after) (sym is) (at_the_end last (listing last) before after refl all)
  whole-answered last status before after all (inr is) whole = absurd (subst IsWhole is whole)

  -- all commands were answered
  pub ends-answered : (last : State) (status : Status) (sink sink_after : SinkTold) → Answers IsReply start commands last sink.written sink_after.written → HasStatus (listing last) status → Ends (transcripts IsReply listing start commands) status sink sink_after
  ends-answered last status sink sink_after all (inl is) = subst (λ s. Ends (transcripts IsReply listing start commands) s sink sink_after) (sym is) (record {
    writes = whole last (listing last) sink.written sink_after.written refl all;
    no_read_fault = not_read_fault (listing last);
    write_fault = λ e. absurd (not_write_fault (listing last) e);
  })
  ends-answered last status sink sink_after all (inr is) = subst (λ s. Ends (transcripts IsReply listing start commands) s sink sink_after) (sym is) (record {
    writes = inr (front last sink.written sink_after.written all);
    no_read_fault = λ e. cc;
    write_fault = λ e. absurd (cc);
  })

  module _ (reply : (state : State) (command : Command) → (bytes : List ℕ) × (next : State) × IsReply state command bytes next) (last : State) (sink sink_after : SinkTold) (some : AnswersFront IsReply start commands last sink.written sink_after.written) where
    cut : Appends (FrontOf (with_any_status (transcripts IsReply listing start commands))) sink.written sink_after.written
    cut = Appends-wider sink.written sink_after.written (λ bytes. FrontOf-wider _ _ bytes with_status) (front-of_all IsReply reply start last commands sink.written sink_after.written some)

    -- a reply could not be written
    pub ends-write_fault : Rose sink.faults sink_after.faults → Ends (transcripts IsReply listing start commands) WriteFault sink sink_after
    ends-write_fault rose = record { writes = cut; no_read_fault = λ e. cc; write_fault = λ e. rose }

    -- memory ran out
    pub ends-memory : Ends (transcripts IsReply listing start commands) Memory sink sink_after
    ends-memory = record { writes = inr cut; no_read_fault = λ e. cc; write_fault = λ e. absurd (cc) }
