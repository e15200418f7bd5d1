-- How a certificate is read off the lines of a file as they stand there, and the lines of nodes that were seen.
use Rattle.std.specs.Prelude.{◌≡◌, ℕ, ◌+◌, ◌<◌, Bool, true, false, List, length, slice_index_or, Option, Some, None, Ok, All}
use Rattle.line_grammar.specs.Faults.{Reading}
use Rattle.line_grammar.specs.FileLines.{content_of, lines_from}
use Rattle.line_grammar.specs.Groups.{in_turn}
use Rattle.line_grammar.specs.Lines.{lines}
use Rattle.line_grammar.specs.TokenLists.{none_after}
use Rattle.line_grammar.specs.Tokens.{line_tokens}
use Rattle.line_grammar.specs.Contents.{Content, NotUtf8, BadTokens, Tokens}
use Rattle.cert_text.specs.declared.answers.Draft.{Draft}
use Rattle.cert_text.specs.declared.answers.Draft.TheVariants as draft
use Rattle.cert_text.specs.declared.answers.Kind.{Kind}
use Rattle.cert_text.specs.declared.cert.NodeLine.{NodeLine}
use Rattle.cert_text.specs.declared.fault.CertCause.{CertCause}
use Rattle.cert_text.specs.declared.names.NodeName.{NodeName}
use Rattle.cert_text.specs.CertFiles.{with_line}
use Rattle.cert_text.specs.CertLines.{node_at}

-- nodes of a tree were begun
abbrev pub has_nodes : Draft → Bool
has_nodes draft.Nothing = false
has_nodes (draft.Asked asked) = false
has_nodes (draft.Half asked one) = false
has_nodes (draft.Nodes asked tree missing) = true
has_nodes (draft.Whole cert) = false

-- ---- lines of a file

-- what was read so far, with a line of which that stands there, unless it is passed over
abbrev pub with_content : Draft → ℕ → Option Content → Reading Draft CertCause
with_content read number None = Ok read
with_content read number (Some content) = with_line read (record { number = number; content = content })

-- with a line of the file
abbrev pub with_text : Draft → ℕ → List ℕ → Reading Draft CertCause
with_text read number text = with_content read number (content_of (line_tokens text))

-- with the lines that are left behind that many
abbrev pub with_lines : Draft → ℕ → List ℕ → Reading Draft CertCause
with_lines read before bytes = in_turn with_line read (lines_from (before + 1) (lines bytes))

-- ---- lines of nodes

abbrev pub node_in : Kind → Option Content → Option NodeName
node_in kind None = None
node_in kind (Some NotUtf8) = None
node_in kind (Some (BadTokens tokens)) = None
node_in kind (Some (Tokens tokens)) = none_after (node_at kind tokens)

-- the node that the line spells
abbrev pub node_on : Kind → List ℕ → Option NodeName
node_on kind text = node_in kind (content_of (line_tokens text))

-- the line spells the node at that place
pub record IsReadAs (kind : Kind) (nodes : List NodeLine) (text : List ℕ) (place : ℕ) : Type 0 where
  pub within : place < length nodes
  pub node : (d : NodeLine) → node_on kind text ≡ Some (slice_index_or nodes place d).node

-- so does each of the lines that were seen
abbrev pub AreSeen : Kind → List NodeLine → List (List ℕ × ℕ) → Type 0
AreSeen kind nodes seen = All (λ (line : List ℕ × ℕ). IsReadAs kind nodes line.0 line.1) seen
