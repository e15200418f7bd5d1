-- Which bytes and which status a call may give, and how it uses its devices.
use Rattle.std.specs.Prelude.{◌≡◌, ◌≢◌, ℕ, ◌+◌, ◌≤◌, ◌⊎◌, List, Option, None, Some, Ok, Err}
use Rattle.shelf_io.specs.Files.{Files}
use Rattle.shelf_io.specs.Rising.{Rose}
use Rattle.shelf_io.specs.Shelf.{ShelfTold}
use Rattle.shelf_io.specs.Sink.{Appends, FrontOf, SinkTold}
use Rattle.text_lists.specs.declared.limits.Limits.{Limits}
use Rattle.cli_output.specs.declared.status.Status.{Status}
use Rattle.cli_output.specs.declared.status.Status.TheVariants.{Refused, ReadFault, WriteFault, Memory}
use Rattle.cli_output.specs.declared.fetching.Stop.{Stop}
use Rattle.cli_output.specs.declared.fetching.Stop.TheVariants as stop
use Rattle.cli_output.specs.Fetching.{Fetching, NoneIsAbsent, OrRefusal}
use Rattle.cli_output.specs.Refusals.{refusal_line}

-- texts, each with the status that goes with it
abbrev pub Outputs : Type 1
Outputs = List ℕ → Status → Type 0

-- this text alone, with this status
abbrev pub Only : List ℕ → Status → Outputs
Only line ending bytes status = (bytes ≡ line) × (status ≡ ending)

-- What words ask for: what is to be fetched, which texts may be written for what that comes to, and how many files it
-- fetches at most.
pub record Task : Type 1 where
  pub Found : Type 0
  pub fetching : Fetching Found
  pub outputs : Found → Outputs
  pub most_fetches : ℕ

-- what is written for what was found, or the line of the refusal
abbrev pub outputs_for : {X : Type 0} → (X → Outputs) → OrRefusal X → Outputs
outputs_for outputs (Ok x) = outputs x
outputs_for outputs (Err refusal) = Only (refusal_line refusal.what refusal.cause) Refused

-- Fetching may come to this: where the shelf tells what it holds, it does.
abbrev pub MayFind : {X : Type 0} → Fetching X → ℕ → Option Files → OrRefusal X → Type 0
MayFind fetching left None found = Unit {0}
MayFind fetching left (Some files) found = (fetching files left).found ≡ found

-- what may be written for a task, and with which status
abbrev pub Output : Limits → Task → Option Files → Outputs
Output limits task holding bytes status =
    (found : OrRefusal task.Found) × MayFind task.fetching limits.all_bytes holding found × outputs_for task.outputs found bytes status

-- the texts, whatever their status
abbrev pub with_any_status : Outputs → List ℕ → Type 0
with_any_status outputs bytes = (status : Status) × outputs bytes status

-- What was appended, by how the call ended: nothing after a failed fetch, a front of an output after a failed put, nothing
-- or such a front where memory ran out, and else an output that goes with the status.
abbrev pub Writes : Outputs → Status → Option (List ℕ) → Option (List ℕ) → Type 0
Writes outputs ReadFault before after = after ≡ before
Writes outputs WriteFault before after = Appends (FrontOf (with_any_status outputs)) before after
Writes outputs Memory before after = (after ≡ before) ⊎ Appends (FrontOf (with_any_status outputs)) before after
Writes outputs status before after = Appends (λ bytes. outputs bytes status) before after

-- ---- how a call ends once its files were read, or weren't

-- it wasn't cut short by a device or by want of memory
abbrev pub IsWhole : Status → Type 0
IsWhole ReadFault = ⊥
IsWhole WriteFault = ⊥
IsWhole Memory = ⊥
IsWhole status = Unit {0}

-- nothing more is fetched, and one of these outputs is written
pub record Ends (outputs : Outputs) (status : Status) (sink sink_after : SinkTold) : Type 0 where
  pub writes : Writes outputs status sink.written sink_after.written
  pub no_read_fault : status ≢ ReadFault
  pub write_fault : status ≡ WriteFault → Rose sink.faults sink_after.faults

-- the files weren't read to the end: a refusal is told by its line, and else nothing is written
abbrev pub EndsBy : Stop → Status → SinkTold → SinkTold → Type 0
EndsBy (stop.Refused refusal) status sink sink_after = Ends (Only (refusal_line refusal.what refusal.cause) Refused) status sink sink_after
EndsBy stop.ReadFault status sink sink_after = (status ≡ ReadFault) × (sink_after ≡ sink)
EndsBy stop.Memory status sink sink_after = (status ≡ Memory) × (sink_after ≡ sink)

-- ---- devices

-- What a call promises of its shelf and of its sink.
pub record UsesDevices (limits : Limits) (task : Task) (status : Status) (shelf shelf_after : ShelfTold) (sink sink_after : SinkTold) : Type 0 where
  -- No more is fetched than the task asks for,
  pub fetches : shelf_after.calls ≤ shelf.calls + task.most_fetches
  pub told_fetches : (files : Files) → shelf.holding ≡ Some files → shelf_after.calls ≤ shelf.calls + (task.fetching files limits.all_bytes).fetches
  -- and an absence is counted only where the file is refused as absent: then one line says so.
  pub absences : (files : Files) → shelf.holding ≡ Some files → NoneIsAbsent (task.fetching files limits.all_bytes).found → shelf_after.absences ≡ shelf.absences
  -- Nothing is fetched, where it asks for nothing.
  pub no_fetch : task.most_fetches ≡ 0 → shelf_after.calls ≡ shelf.calls
  -- A fault is told only where the device counted one.
  pub read_fault : status ≡ ReadFault → Rose shelf.faults shelf_after.faults
  pub write_fault : status ≡ WriteFault → Rose sink.faults sink_after.faults
