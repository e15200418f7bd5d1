use Rattle.std.proofs.Common.{◌≡◌, ◌+◌, drop}
use Rattle.line_forms.specs.Forms.{pieces_of}
use Rattle.line_forms.specs.Going.{goes}
use Rattle.line_forms.proofs.going.how_far.Given as goal

abbrev pub invariant-loop-token : goal.invariant-loop-token
invariant-loop-token l = record {
  goes : goes l.passed l.left (drop l.token-index l.tokens) ≡ goes 1 (pieces_of l.fn.form) l.tokens;
  passed : l.passed ≡ l.token-index + 1;
}
