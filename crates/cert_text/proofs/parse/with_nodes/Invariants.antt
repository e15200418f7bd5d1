use Rattle.std.proofs.Common.{◌≡◌, ◌+◌, ◌<◌, ◌^◌, length}
use Rattle.cert_text.specs.CertFiles.{kind_of}
use Rattle.cert_text.specs.NodeTexts.{AreSeen, with_lines}
use Rattle.cert_text.specs.Written.{IsTreeOf}
use Rattle.cert_text.specs.declared.answers.Draft.TheVariants.{Nodes}
use Rattle.cert_text.proofs.parse.with_nodes.Given as goal

abbrev pub invariant-loop-rest : goal.invariant-loop-rest
invariant-loop-rest l =
    (l.before + length l.rest < 2 ^ 64)
    × IsTreeOf (kind_of l.asked.question) l.tree l.missing
    × AreSeen (kind_of l.asked.question) l.tree.nodes l.seen
    × (with_lines (Nodes l.asked l.tree l.missing) l.before l.rest ≡ with_lines (Nodes l.fn.asked l.fn.tree l.fn.missing) l.fn.before l.fn.bytes)

abbrev pub decreases-loop-rest : goal.decreases-loop-rest
decreases-loop-rest l = length l.rest
