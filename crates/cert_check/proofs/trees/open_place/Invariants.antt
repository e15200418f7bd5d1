use Rattle.std.proofs.Common.{◌≡◌, ℕ, ◌<◌, false, get_or}
use Rattle.cert_text.specs.declared.cert.NodeLine.{NodeLine}
use Rattle.cert_check.specs.Nodes.{is_open}
use Rattle.cert_check.proofs.trees.open_place.Given as goal

-- none is open so far
abbrev pub invariant-loop-place : goal.invariant-loop-place
invariant-loop-place l = (k : ℕ) (d : NodeLine) → k < l.place → is_open (get_or l.lines k d).node ≡ false
