-- The nodes of a tree on their lines, each form of a node held once: the form of a node is that at its place.
use Rattle.std.specs.Prelude.{ℕ, ◌<◌, List, map, length, slice_index_or, All}
use Rattle.cert_text.specs.declared.cert.NodeLine.{NodeLine}
use Rattle.cert_text.specs.declared.names.NodeName.{NodeName}
use Rattle.cert_text.specs.declared.names.NodeName.TheVariants.{Open}
use Rattle.cert_text.specs.declared.tree_nodes.NodePlace.{NodePlace}

abbrev pub line_of : List NodeName → NodePlace → NodeLine
line_of forms place = record { line = place.line; node = slice_index_or forms place.form Open }

abbrev pub lines_of : List NodeName → List NodePlace → List NodeLine
lines_of forms places = map (λ (place : NodePlace). line_of forms place) places

-- each node has a form
abbrev pub AreWithin : List NodeName → List NodePlace → Type 0
AreWithin forms places = All (λ (place : NodePlace). place.form < length forms) places

-- the node on another line
abbrev pub at_line : ℕ → NodeLine → NodeLine
at_line number node = record { line = number; node = node.node }
