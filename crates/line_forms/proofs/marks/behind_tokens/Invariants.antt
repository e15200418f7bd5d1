use Rattle.std.proofs.Common.{◌≡◌}
use Rattle.line_forms.specs.Marking.{behind_tokens}
use Rattle.line_forms.proofs.marks.behind_tokens.Given as goal

abbrev pub invariant-loop-place : goal.invariant-loop-place
invariant-loop-place l = l.rest ≡ behind_tokens l._place l.line
