-- The texts of certificates of given parts.
use Rattle.std.proofs.Common.{◌≡◌, ℕ, ◌+◌, ◌<◌, List, [], ◌∷◌, ◌++◌, length, get_or, take, Ok, refl, sym, ap, ◌∙◌, subst}
use Rattle.std.specs.Prelude.{map, All, Option, IfSome}
use Rattle.std.proofs.lemmas.Grind.{flat_map-append}
use Rattle.std.proofs.lemmas.List.{append-nil, map-append, take_more}
use Rattle.case_tree.specs.CaseTree.{IsOneTree}
use Rattle.text_lists.specs.Names.{IsName}
use Rattle.line_grammar.specs.Spelling.{line_text, file_text}
use Rattle.line_grammar.specs.declared.writing.Part.{Part}
use Rattle.rule_model.specs.declared.decl.CfdDecl.{CfdDecl}
use Rattle.rule_parser.specs.ReadRules.{IsDepDecl}
use Rattle.cert_text.specs.declared.cert.CertParts.{CertParts}
use Rattle.cert_text.specs.declared.cert.Question.{Question}
use Rattle.cert_text.specs.declared.names.NodeName.{NodeName}
use Rattle.cert_text.specs.Canonical.{case_cert, counter_cert, node_lines, with_canonical_lines, witness_cert}
use Rattle.cert_text.specs.CertFiles.{kind_of, reads_cert}
use Rattle.cert_text.specs.CertText.{IsCertText, cert_text, node_line, node_parts, tree_head}
use Rattle.cert_text.specs.Written.{AreTexts, IsBudget, IsNodeOf, IsQuestion, IsWrittenCert, shape_of}
use Rattle.cert_text.proofs.CertsAgain.{reads_cert-cert_text}
use Rattle.cert_text.proofs.NodeLines.{All-node_lines, misses_none, names-node_lines, shapes-node_lines}

-- the lines of one more
pub lines_next : {X : Type 0} (parts : X → List Part) (nodes : List X) (i : ℕ) (node : X) → i < length nodes → node ≡ get_or nodes i node
    → file_text (map parts (take (i + 1) nodes)) ≡ file_text (map parts (take i nodes)) ++ (line_text (parts node) ++ 10 ∷ [])
lines_next {X} parts nodes i node within there =
    ap (λ (ns : List X). file_text (map parts ns)) (take_more nodes i node within ∙ ap (λ (n : X). take i nodes ++ n ∷ []) (sym there))
    ∙ ap file_text (map-append parts (take i nodes) (node ∷ []))
    ∙ flat_map-append (λ (line : List Part). line_text line ++ 10 ∷ []) (map parts (take i nodes)) (parts node ∷ [])
    ∙ ap (λ (t : List ℕ). file_text (map parts (take i nodes)) ++ t) (append-nil (line_text (parts node) ++ 10 ∷ []))

-- the text of a certificate whose lines are those of that text
again : (cert : CertParts) (bytes : List ℕ) → IsWrittenCert cert → with_canonical_lines cert ≡ cert → bytes ≡ cert_text cert → IsCertText cert bytes
again cert bytes is lines written = record {
  written = written;
  read_again = ap reads_cert written ∙ reads_cert-cert_text cert is ∙ ap (λ (c : CertParts). Ok c) lines;
}

pub witness_again : (table : List ℕ) (values : List (List ℕ)) (bytes : List ℕ) → IsName table → AreTexts values → bytes ≡ cert_text (witness_cert table values) → IsCertText (witness_cert table values) bytes
witness_again table values bytes named are written = again (witness_cert table values) bytes (record { question = named; answer = (refl, are) }) refl written

pub counter_again : (dep : CfdDecl) (one other : List (List ℕ)) (bytes : List ℕ) → IsDepDecl dep → AreTexts one → AreTexts other → bytes ≡ cert_text (counter_cert dep one other) → IsCertText (counter_cert dep one other) bytes
counter_again dep one other bytes is one_are other_are written = again (counter_cert dep one other) bytes (record { question = is; answer = (refl, one_are, other_are) }) refl written

-- ---- trees

written_tree : (question : Question) (budget : Option ℕ) (nodes : List NodeName) → IsQuestion question → IfSome budget IsBudget → All (IsNodeOf (kind_of question)) nodes → IsOneTree (map shape_of nodes) → IsWrittenCert (case_cert question budget nodes)
written_tree question budget nodes is few each tree = record {
  question = is;
  answer = record {
    budget = few;
    nodes = All-node_lines (kind_of question) 3 nodes each;
    trees = misses_none (node_lines 3 nodes) (subst IsOneTree (sym (shapes-node_lines 3 nodes)) tree);
  };
}

lines_of_nodes : (number : ℕ) (nodes : List NodeName) → map node_line (node_lines number nodes) ≡ map node_parts nodes
lines_of_nodes number [] = refl
lines_of_nodes number (node ∷ nodes) = ap (λ (ls : List (List Part)). node_parts node ∷ ls) (lines_of_nodes (number + 1) nodes)

-- the first two lines, and then the nodes
tree_text : (question : Question) (budget : Option ℕ) (nodes : List NodeName) → cert_text (case_cert question budget nodes) ≡ file_text (tree_head question budget) ++ file_text (map node_parts nodes)
unfolding cert_text
tree_text question budget nodes =
    ap (λ (ls : List (List Part)). file_text (tree_head question budget ++ ls)) (lines_of_nodes 3 nodes)
    ∙ flat_map-append (λ (line : List Part). line_text line ++ 10 ∷ []) (tree_head question budget) (map node_parts nodes)

-- These are the text of the certificate with the tree.
pub tree_again : (question : Question) (budget : Option ℕ) (nodes : List NodeName) → IsQuestion question → IfSome budget IsBudget → All (IsNodeOf (kind_of question)) nodes → IsOneTree (map shape_of nodes)
    → IsCertText (case_cert question budget nodes) (file_text (tree_head question budget) ++ file_text (map node_parts nodes))
tree_again question budget nodes is few each tree =
    again (case_cert question budget nodes) _ (written_tree question budget nodes is few each tree)
    (ap (λ (ns : List NodeName). case_cert question budget ns) (names-node_lines 3 nodes))
    (sym (tree_text question budget nodes))
