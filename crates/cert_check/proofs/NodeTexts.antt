-- The text of a tree whose nodes have names.
use Rattle.std.proofs.Common.{◌≡◌, ℕ, ◌+◌, ◌<◌, List, [], ◌∷◌, ◌++◌, length, get_or, take, Option, Some, None, Ok, Err, refl, sym, ap, ◌∙◌, subst, append_assoc, arith}
use Rattle.std.specs.Prelude.{map, codes, All, IfSome, IsSome, OnOk, Result}
use Rattle.std.specs.Option.{option_map, option_map_or}
use Rattle.std.specs.List.{AllByRecursion}
use Rattle.std.proofs.lemmas.Grind.{flat_map-append}
use Rattle.std.specs.declared.alloc.AllocError.{AllocError}
use Rattle.std.proofs.lemmas.List.{take_more}
use Rattle.std.proofs.lemmas.List.Elements.{All-push, All-from_recursion, recursion_from_All}
use Rattle.case_tree.specs.CaseTree.{IsOneTree}
use Rattle.case_tree.specs.declared.tree.Node.{Node}
use Rattle.case_tree.specs.declared.tree.Reason.{Reason}
use Rattle.case_tree.specs.declared.tree.Reason.TheVariants as reasons
use Rattle.line_grammar.specs.Spelling.{file_text, line_text, part_text}
use Rattle.line_grammar.specs.declared.writing.Part.{Part}
use Rattle.line_grammar.specs.declared.writing.Part.TheVariants.{Space}
use Rattle.cert_text.specs.declared.answers.Kind.{Kind}
use Rattle.cert_text.specs.declared.cert.Question.{Question}
use Rattle.cert_text.specs.declared.names.CellName.{CellName}
use Rattle.cert_text.specs.declared.names.VarName.{VarName}
use Rattle.cert_text.specs.declared.names.ReasonName.{ReasonName}
use Rattle.cert_text.specs.declared.names.ReasonName.TheVariants.{Two, NoneOf}
use Rattle.cert_text.specs.declared.names.NodeName.{NodeName}
use Rattle.cert_text.specs.declared.names.NodeName.TheVariants.{Split, Leaf}
use Rattle.cert_text.specs.Canonical.{case_cert}
use Rattle.cert_text.specs.CertFiles.{kind_of}
use Rattle.cert_text.specs.CertText.{IsCertText, cell_name_parts, node_parts, reason_parts, tree_head, var_parts}
use Rattle.cert_text.specs.Written.{IsBudget, IsCellOf, IsNodeOf, IsQuestion, IsReasonOf, IsVarOf}
use Rattle.cert_text.proofs.CertTexts.{tree_again}
use Rattle.cert_check.specs.Made.{AreNamed, HaveNames, IsFitNode, IsSomeText, IsTreeCert, IsTreeText, both, named_node, named_parts, named_reason}
use Rattle.cert_check.specs.Names.{Names}
use Rattle.cert_check.proofs.OneTrees.{named_tree}

-- ---- a word, and then a name

-- what is appended behind a word
pub appended : (out first all word rest whole : List ℕ) → first ≡ out ++ word → whole ≡ word ++ rest → all ≡ first ++ rest → all ≡ out ++ whole
appended out first all word rest whole before is pushed = pushed ∙ ap (λ (t : List ℕ). t ++ rest) before ∙ append_assoc out word rest ∙ ap (λ (t : List ℕ). out ++ t) (sym is)

pub split_text : (found : Option VarName) → IsSome (option_map (λ var. Split var) found)
    → line_text (option_map_or node_parts (option_map (λ var. Split var) found) []) ≡ codes "split " ++ line_text (option_map_or var_parts found [])
split_text None some = absurd cc
split_text (Some var) some = refl

pub leaf_text : (found : Option ReasonName) → IsSome (option_map (λ reason. Leaf reason) found)
    → line_text (option_map_or node_parts (option_map (λ reason. Leaf reason) found) []) ≡ codes "leaf " ++ line_text (option_map_or reason_parts found [])
leaf_text None some = absurd cc
leaf_text (Some reason) some = refl

pub none_text : (found : Option CellName) → IsSome (option_map (λ cell. NoneOf cell) found)
    → line_text (option_map_or reason_parts (option_map (λ cell. NoneOf cell) found) []) ≡ codes "none " ++ line_text (option_map_or cell_name_parts found [])
none_text None some = absurd cc
none_text (Some cell) some = refl

pub two_text : (one other : Option VarName) → IsSome (both (λ a b. Two a b) one other)
    → line_text (option_map_or reason_parts (both (λ a b. Two a b) one other) []) ≡ codes "two " ++ (line_text (option_map_or var_parts one []) ++ (32 ∷ [] ++ line_text (option_map_or var_parts other [])))
two_text None other some = absurd cc
two_text (Some one) None some = absurd cc
two_text (Some one) (Some other) some = ap (λ (t : List ℕ). codes "two " ++ t) (flat_map-append part_text (var_parts one) (Space ∷ var_parts other))

-- ---- names that are fit

pub split_fit : (kind : Kind) (found : Option VarName) → IfSome found (IsVarOf kind) → IfSome (option_map (λ var. Split var) found) (IsNodeOf kind)
split_fit kind None fit = tt
split_fit kind (Some var) fit = fit

pub leaf_fit : (kind : Kind) (found : Option ReasonName) → IfSome found (IsReasonOf kind) → IfSome (option_map (λ reason. Leaf reason) found) (IsNodeOf kind)
leaf_fit kind None fit = tt
leaf_fit kind (Some reason) fit = fit

pub none_fit : (kind : Kind) (found : Option CellName) → IfSome found (IsCellOf kind) → IfSome (option_map (λ cell. NoneOf cell) found) (IsReasonOf kind)
none_fit kind None fit = tt
none_fit kind (Some cell) fit = fit

pub two_fit : (kind : Kind) (one other : Option VarName) → IfSome one (IsVarOf kind) → IfSome other (IsVarOf kind) → IfSome (both (λ a b. Two a b) one other) (IsReasonOf kind)
two_fit kind None other one_fit other_fit = tt
two_fit kind (Some one) None one_fit other_fit = tt
two_fit kind (Some one) (Some other) one_fit other_fit = (one_fit, other_fit)

pub clause_fit : (result : Result (Unit {0}) AllocError) (names : Names) (reason : Reason) (at : ℕ) → reason ≡ reasons.Clause at → OnOk result (at < 999999999999) → OnOk result (IfSome (named_reason names reason) (IsReasonOf names.kind))
clause_fit (Ok done) names reason at is few = subst (λ (r : Reason). IfSome (named_reason names r) (IsReasonOf names.kind)) (sym is) (omega arith, omega arith)
clause_fit (Err fault) names reason at is few = tt

-- ---- one more node

with_next : (nodes : List Node) (i : ℕ) (node : Node) → i < length nodes → node ≡ get_or nodes i node → take (i + 1) nodes ≡ take i nodes ++ node ∷ []
with_next nodes i node within there = take_more nodes i node within ∙ ap (λ (n : Node). take i nodes ++ n ∷ []) (sym there)

pub all_next : (Fits : Node → Type 0) (nodes : List Node) (i : ℕ) (node : Node) → i < length nodes → node ≡ get_or nodes i node → All Fits (take i nodes) → Fits node → All Fits (take (i + 1) nodes)
all_next Fits nodes i node within there fit is = subst (All Fits) (sym (with_next nodes i node within there)) (All-push Fits (take i nodes) node fit is)

-- ---- whole trees

name_of : (found : Option NodeName) → IsSome found → (name : NodeName) × (found ≡ Some name)
name_of None some = absurd cc
name_of (Some name) some = (name, refl)

module _ (names : Names) where
  -- the nodes by names
  names_for : (tree : List Node) → AllByRecursion (λ node. IsSome (named_node names node)) tree → (named : List NodeName) × AreNamed names tree named
  names_for [] have = ([], tt)
  names_for (node ∷ tree) have =
      let name = name_of (named_node names node) have.0 in
      let rest = names_for tree have.1 in
      (name.0 ∷ rest.0, (name.1, rest.1))

  lines_named : (tree : List Node) (named : List NodeName) → AreNamed names tree named → map (named_parts names) tree ≡ map node_parts named
  lines_named [] [] are = refl
  lines_named [] (name ∷ named) are = absurd are
  lines_named (node ∷ tree) [] are = absurd are
  lines_named (node ∷ tree) (name ∷ named) are =
      ap (λ (found : Option NodeName). option_map_or node_parts found [] ∷ map (named_parts names) tree) are.0 ∙ ap (λ (ls : List (List Part)). node_parts name ∷ ls) (lines_named tree named are.1)

  fit_named : (tree : List Node) (named : List NodeName) → AreNamed names tree named → AllByRecursion (IsFitNode names) tree → AllByRecursion (IsNodeOf names.kind) named
  fit_named [] [] are fit = tt
  fit_named [] (name ∷ named) are fit = absurd are
  fit_named (node ∷ tree) [] are fit = absurd are
  fit_named (node ∷ tree) (name ∷ named) are fit = (subst (λ (found : Option NodeName). IfSome found (IsNodeOf names.kind)) are.0 fit.0, fit_named tree named are.1 fit.1)

  pub tree_told : (tree : List Node) (text : List ℕ) → HaveNames names tree → text ≡ file_text (map (named_parts names) tree) → IsTreeText names tree text
  tree_told tree text have is =
      let its = names_for tree (recursion_from_All (λ node. IsSome (named_node names node)) tree have) in
      record { named = its.0; nodes = its.1; lines = is ∙ ap file_text (lines_named tree its.0 its.1) }

  -- behind the first two lines they are the text of a certificate
  pub cert_told : (question : Question) (budget : Option ℕ) (tree : List Node) (text : List ℕ) → IsQuestion question → kind_of question ≡ names.kind → IfSome budget IsBudget → HaveNames names tree → IsOneTree tree → All (IsFitNode names) tree
      → text ≡ file_text (tree_head question budget) ++ file_text (map (named_parts names) tree) → IsSomeText (IsTreeCert names question budget tree) text
  cert_told question budget tree text asks kind few have one fit is =
      let its = names_for tree (recursion_from_All (λ node. IsSome (named_node names node)) tree have) in
      let named = its.0 in
      let cert = case_cert question budget named in
      let each : All (IsNodeOf names.kind) named = All-from_recursion (IsNodeOf names.kind) named (fit_named tree named its.1 (recursion_from_All (IsFitNode names) tree fit)) in
      let of_kind : All (IsNodeOf (kind_of question)) named = subst (λ (k : Kind). All (IsNodeOf k) named) (sym kind) each in
      let same : text ≡ file_text (tree_head question budget) ++ file_text (map node_parts named) = is ∙ ap (λ (ls : List (List Part)). file_text (tree_head question budget) ++ file_text ls) (lines_named tree named its.1) in
      record {
        cert = cert;
        is = record { named = named; nodes = its.1; whole = refl };
        spelled = subst (IsCertText cert) (sym same) (tree_again question budget named asks few of_kind (named_tree names tree named its.1 one));
      }
