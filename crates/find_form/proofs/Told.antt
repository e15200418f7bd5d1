-- What was found ends a call as its form says, and so does what stopped it.
use Rattle.std.proofs.Common.{◌≡◌, ℕ, List, IfSome, Err, inl, inr, sym, ap, subst, ◌∙◌}
use Rattle.shelf_io.specs.Sink.{SinkTold}
use Rattle.cli_output.specs.declared.fetching.Stop.{Stop}
use Rattle.cli_output.specs.declared.fetching.Stop.TheVariants as stop
use Rattle.cli_output.specs.declared.refusal.Refusal.{Refusal}
use Rattle.cli_output.specs.declared.status.Status.{Status}
use Rattle.cli_output.specs.declared.status.Status.TheVariants.{Clean, Refused}
use Rattle.cli_output.specs.Fetching.{IsReadFault, refusal_in}
use Rattle.cli_output.specs.Output.{Ends, EndsBy, Only}
use Rattle.cli_output.specs.Refusals.{refusal_line}
use Rattle.cli_output.proofs.Outputs.{Ends-wider}
use Rattle.find_form.specs.FindForm.{IsFoundText, IsTooMany, find_outputs, too_many}
use Rattle.find_form.specs.declared.Asked.{Asked}

pub told_text : (name : List ℕ) (width support : ℕ) (asked : Asked) (text : List ℕ) → IsFoundText asked width support text → (status : Status) (sink sink_after : SinkTold) → Ends (Only text Clean) status sink sink_after
    → Ends (find_outputs name width support asked) status sink sink_after
told_text name width support asked text is =
    Ends-wider (Only text Clean) (find_outputs name width support asked) (λ bytes s o. inl (subst (IsFoundText asked width support) (sym o.0) is, o.1))

pub told_stop : (name : List ℕ) (width support : ℕ) (asked : Asked) (why : Stop) → IfSome (refusal_in why) (λ refusal. IsTooMany asked width support × (refusal ≡ too_many name)) → (IsReadFault {X = List ℕ} (Err why) → ⊥)
    → (status : Status) (sink sink_after : SinkTold) → EndsBy why status sink sink_after → Ends (find_outputs name width support asked) status sink sink_after
told_stop name width support asked (stop.Refused refusal) is no_fault status sink sink_after ends =
    Ends-wider (Only (refusal_line refusal.what refusal.cause) Refused) (find_outputs name width support asked)
    (λ bytes s o. inr (is.0, (o.0 ∙ ap (λ (r : Refusal). refusal_line r.what r.cause) is.1, o.1))) status sink sink_after ends
told_stop name width support asked stop.ReadFault is no_fault status sink sink_after ends = absurd (no_fault tt)
told_stop name width support asked stop.Memory is no_fault status sink sink_after ends =
    subst (λ s. Ends (find_outputs name width support asked) s sink sink_after) (sym ends.0) (record {
      writes = inl (ap (λ (k : SinkTold). k.written) ends.1);
      no_read_fault = λ e. absurd (cc);
      write_fault = λ e. absurd (cc);
    })
