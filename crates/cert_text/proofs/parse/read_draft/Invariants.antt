use Rattle.std.proofs.Common.{◌≡◌, ◌+◌, ◌<◌, ◌^◌, length}
use Rattle.cert_text.specs.NodeTexts.{with_lines}
use Rattle.cert_text.specs.Written.{IsDraft}
use Rattle.cert_text.specs.declared.answers.Draft.TheVariants.{Nothing}
use Rattle.cert_text.proofs.parse.read_draft.Given as goal

abbrev pub invariant-loop-draft : goal.invariant-loop-draft
invariant-loop-draft l =
    (l.before + length l.rest < 2 ^ 64)
    × IsDraft l.draft
    × (with_lines l.draft l.before l.rest ≡ with_lines Nothing 0 l.fn.bytes)

abbrev pub decreases-loop-draft : goal.decreases-loop-draft
decreases-loop-draft l = length l.rest
