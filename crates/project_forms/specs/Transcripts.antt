-- Transcripts as outputs: the status that goes with one tells whether something is found in the state at its end.
use Rattle.std.specs.Prelude.{◌≡◌, ◌⊎◌, List, [], ◌∷◌}
use Rattle.shelf_io.specs.Transcript.{Replies, IsTranscript}
use Rattle.cli_output.specs.declared.status.Status.{Status}
use Rattle.cli_output.specs.declared.status.Status.TheVariants.{Clean, Findings, Memory}
use Rattle.cli_output.specs.Output.{Outputs}

-- Findings where something is listed, else Clean
abbrev pub found_status : {X : Type 0} → List X → Status
found_status [] = Clean
found_status (x ∷ xs) = Findings

-- that is the status, unless memory ran out
abbrev pub HasStatus : {X : Type 0} → List X → Status → Type 0
HasStatus listed status = (status ≡ found_status listed) ⊎ (status ≡ Memory)

-- the transcripts of the commands, each with the status of the state that it ends in
abbrev pub transcripts : {State Command Line : Type 0} → Replies State Command → (State → List Line) → State → List Command → Outputs
transcripts {State} IsReply listing start commands bytes status =
    (last : State) × IsTranscript IsReply start commands bytes last × (status ≡ found_status (listing last))
