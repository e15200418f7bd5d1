-- What was written is an output of what was asked for.
use Rattle.std.proofs.Common.{◌≡◌, ℕ, ◌≤◌, List, Option, None, Some, Ok, Err, IfSome, inl, inr, refl, ap, sym, subst, arith, ◌∙◌}
use Rattle.shelf_io.specs.Files.{Files}
use Rattle.shelf_io.specs.Shelf.{ShelfTold}
use Rattle.shelf_io.specs.Sink.{SinkTold}
use Rattle.shelf_io.proofs.Transcripts.{Appends-wider, FrontOf-wider}
use Rattle.text_lists.specs.declared.limits.Limits.{Limits}
use Rattle.cli_output.specs.declared.fetching.Stop.{Stop}
use Rattle.cli_output.specs.declared.fetching.Stop.TheVariants as stop
use Rattle.cli_output.specs.declared.status.Status.{Status}
use Rattle.cli_output.specs.declared.status.Status.TheVariants.{Clean, Findings, Usage, Refused, ReadFault, WriteFault, Memory, Spent}
use Rattle.cli_output.specs.Fetching.{Fetches, Fetching, OrRefusal, refusal_in}
use Rattle.cli_output.specs.Output.{Ends, EndsBy, MayFind, Only, Output, Outputs, Task, UsesDevices, Writes, with_any_status}
use Rattle.cli_output.specs.Refusals.{refusal_line}

-- what is written of some outputs is written of more
pub Writes-wider : (some more : Outputs) → ((bytes : List ℕ) (status : Status) → some bytes status → more bytes status) → (status : Status) (before after : Option (List ℕ)) → Writes some status before after → Writes more status before after
Writes-wider some more wider Clean before after h = Appends-wider before after (λ bytes. wider bytes Clean) h
Writes-wider some more wider Findings before after h = Appends-wider before after (λ bytes. wider bytes Findings) h
Writes-wider some more wider Usage before after h = Appends-wider before after (λ bytes. wider bytes Usage) h
Writes-wider some more wider Refused before after h = Appends-wider before after (λ bytes. wider bytes Refused) h
Writes-wider some more wider Spent before after h = Appends-wider before after (λ bytes. wider bytes Spent) h
Writes-wider some more wider ReadFault before after h = h
Writes-wider some more wider WriteFault before after h =
    Appends-wider before after (λ bytes. FrontOf-wider (with_any_status some) (with_any_status more) bytes (λ text o. (o.0, wider text o.0 o.1))) h
Writes-wider some more wider Memory before after (inl h) = inl h
Writes-wider some more wider Memory before after (inr h) =
    inr (Appends-wider before after (λ bytes. FrontOf-wider (with_any_status some) (with_any_status more) bytes (λ text o. (o.0, wider text o.0 o.1))) h)

-- what was found is what the held files come to, whether the shelf tells them or not
pub may_find : {X : Type 0} (fetching : Fetching X) (left : ℕ) (holding : Option Files) (found : OrRefusal X) → ((files : Files) → holding ≡ Some files → (fetching files left).found ≡ found) → MayFind fetching left holding found
may_find fetching left None found told = tt
may_find fetching left (Some files) found told = told files refl

-- an answer to what was found is an output
pub output-found : (limits : Limits) (task : Task) (holding : Option Files) (x : task.Found) → ((files : Files) → holding ≡ Some files → (task.fetching files limits.all_bytes).found ≡ Ok x) → (status : Status) (before after : Option (List ℕ)) → Writes (task.outputs x) status before after
    → Writes (Output limits task holding) status before after
output-found limits task holding x told = Writes-wider (task.outputs x) (Output limits task holding) (λ bytes status o. (Ok x, may_find task.fetching limits.all_bytes holding (Ok x) told, o))

-- where files weren't read to the end, what was written is one
pub output-stopped : (limits : Limits) (task : Task) (holding : Option Files) (why : Stop) → ((files : Files) → holding ≡ Some files → IfSome (refusal_in why) (λ refusal. (task.fetching files limits.all_bytes).found ≡ Err refusal)) → (status : Status) (sink sink_after : SinkTold) → EndsBy why status sink sink_after
    → Writes (Output limits task holding) status sink.written sink_after.written
output-stopped limits task holding (stop.Refused refusal) told status sink sink_after ends =
    Writes-wider (Only (refusal_line refusal.what refusal.cause) Refused) (Output limits task holding) (λ bytes s o. (Err refusal, may_find task.fetching limits.all_bytes holding (Err refusal) told, o)) status sink.written sink_after.written ends.writes
output-stopped limits task holding stop.ReadFault told status sink sink_after ends =
    subst (λ s. Writes (Output limits task holding) s sink.written sink_after.written) (sym ends.0) (ap (λ (k : SinkTold). k.written) ends.1)
output-stopped limits task holding stop.Memory told status sink sink_after ends =
    subst (λ s. Writes (Output limits task holding) s sink.written sink_after.written) (sym ends.0) (inl (ap (λ (k : SinkTold). k.written) ends.1))

-- what ends with one of some outputs ends with one of more
pub Ends-wider : (some more : Outputs) → ((bytes : List ℕ) (status : Status) → some bytes status → more bytes status) → (status : Status) (sink sink_after : SinkTold) → Ends some status sink sink_after → Ends more status sink sink_after
Ends-wider some more wider status sink sink_after ends = record {
  writes = Writes-wider some more wider status sink.written sink_after.written ends.writes;
  no_read_fault = ends.no_read_fault;
  write_fault = ends.write_fault;
}

-- where files weren't read to the end, the devices were used as they may be
pub uses-stopped : {X : Type 0} (limits : Limits) (task : Task) (view : X → task.Found) (why : Stop) (status : Status) (shelf shelf_after : ShelfTold) (sink sink_after : SinkTold) (left : ℕ) → 1 ≤ task.most_fetches
    → Fetches task.fetching view task.most_fetches (Err why) shelf shelf_after limits.all_bytes left → EndsBy why status sink sink_after → UsesDevices limits task status shelf shelf_after sink sink_after
uses-stopped limits task view (stop.Refused refusal) status shelf shelf_after sink sink_after left some f ends = record {
  fetches = f.fetches;
  told_fetches = f.told_fetches;
  absences = f.absences;
  no_fetch = λ none. absurd (omega (arith, some, none));
  read_fault = λ is. absurd (ends.no_read_fault is);
  write_fault = ends.write_fault;
}
uses-stopped limits task view stop.ReadFault status shelf shelf_after sink sink_after left some f ends = record {
  fetches = f.fetches;
  told_fetches = f.told_fetches;
  absences = f.absences;
  no_fetch = λ none. absurd (omega (arith, some, none));
  read_fault = λ is. f.read_fault tt;
  write_fault = λ is. let other : ReadFault ≡ WriteFault = sym ends.0 ∙ is in absurd (cc);
}
uses-stopped limits task view stop.Memory status shelf shelf_after sink sink_after left some f ends = record {
  fetches = f.fetches;
  told_fetches = f.told_fetches;
  absences = f.absences;
  no_fetch = λ none. absurd (omega (arith, some, none));
  read_fault = λ is. let other : Memory ≡ ReadFault = sym ends.0 ∙ is in absurd (cc);
  write_fault = λ is. let other : Memory ≡ WriteFault = sym ends.0 ∙ is in absurd (cc);
}
