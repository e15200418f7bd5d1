-- Nodes that are read off lines, and the lines that were seen.
use Rattle.std.proofs.Common.{◌≡◌, ℕ, ◌+◌, ◌≤◌, false, List, [], ◌∷◌, ◌++◌, length, Option, Some, None, refl, ap, sym, ◌∙◌, subst, arith}
use Rattle.std.specs.Prelude.{Result, Ok, Err, IfOk, IfErr, IfSome, MatchResult, OnOk, option_map, ◌==◌}
use Rattle.std.specs.Option.{option_to_list}
use Rattle.std.proofs.lemmas.Bool.{cond-false, cond-true, eq-eqb, ne_eqb}
use Rattle.std.proofs.lemmas.List.{get_or_append_left, get_or_push, length-append}
use Rattle.std.proofs.lemmas.List.Elements.{All-push, All-weaker}
use Rattle.std.proofs.lemmas.Result.{on_ok_weaker}
use Rattle.line_grammar.specs.Faults.{Reading, Faulty, GivesUnlessMemory, line_tells, ◌>>=◌}
use Rattle.line_grammar.specs.FileLines.{content_of, found_at, lines_from}
use Rattle.line_grammar.specs.Groups.{in_turn}
use Rattle.line_grammar.specs.Lines.{lines}
use Rattle.line_grammar.specs.Tokens.{line_tokens}
use Rattle.line_grammar.specs.declared.fault.LineFault.{LineFault}
use Rattle.line_grammar.specs.declared.fault.LineFault.TheVariants.{Memory}
use Rattle.line_grammar.specs.declared.line.Line.{Line}
use Rattle.line_grammar.specs.Contents.{Content, NotUtf8, BadTokens, Tokens}
use Rattle.cert_text.specs.declared.answers.Draft.{Draft}
use Rattle.cert_text.specs.declared.answers.Draft.TheVariants as draft
use Rattle.cert_text.specs.declared.answers.Kind.{Kind}
use Rattle.cert_text.specs.declared.cert.Asked.{Asked}
use Rattle.cert_text.specs.declared.cert.NodeLine.{NodeLine}
use Rattle.cert_text.specs.declared.cert.TreeLines.{TreeLines}
use Rattle.cert_text.specs.declared.fault.CertCause.{CertCause}
use Rattle.cert_text.specs.declared.names.NodeName.{NodeName}
use Rattle.cert_text.specs.CertFiles.{cert_causes, kind_of, missing_behind, no_line, read_whole, with_line, with_node}
use Rattle.cert_text.specs.CertLines.{node_at}
use Rattle.cert_text.specs.NodeTexts.{AreSeen, IsReadAs, has_nodes, node_in, node_on, with_content, with_lines, with_text}
use Rattle.cert_text.specs.Written.{IsNodeOf, IsTreeOf}
use Rattle.cert_text.proofs.Shapes.{misses_more}

-- ---- one line

-- what was read of the tokens, in which a node was read
found_is : (number : ℕ) (found : Option NodeName) (node : NodeName) → found_at cert_causes number found ≡ Ok node → found ≡ Some node
found_is number None node is = absurd cc
found_is number (Some other) node is = cc

read_is : (kind : Kind) (number : ℕ) (content : Content) (node : NodeName) → read_whole (node_at kind) (record { number = number; content = content }) ≡ Ok node → node_in kind (Some content) ≡ Some node
read_is kind number NotUtf8 node is = absurd cc
read_is kind number (BadTokens tokens) node is = absurd cc
read_is kind number (Tokens tokens) node is = found_is number (node_in kind (Some (Tokens tokens))) node is

-- a line by which a node was read spells it
pub spells : (kind : Kind) (number : ℕ) (text : List ℕ) (content : Content) (node : NodeName) → Some content ≡ content_of (line_tokens text) → read_whole (node_at kind) (record { number = number; content = content }) ≡ Ok node → node_on kind text ≡ Some node
spells kind number text content node stands is = ap (node_in kind) (sym stands) ∙ read_is kind number content node is

no_line_told : (number : ℕ) (content : Content) (fault : LineFault CertCause) → MatchResult (no_line {X = Draft} (record { number = number; content = content })) (λ _. ⊥) (λ told. line_tells fault ≡ Some told)
    → (told : Faulty CertCause) × ((line_tells fault ≡ Some told) × (no_line {X = Draft} (record { number = number; content = content }) ≡ Err told))
no_line_told number NotUtf8 fault told = (_, (told, refl))
no_line_told number (BadTokens tokens) fault told = (_, (told, refl))
no_line_told number (Tokens tokens) fault told = (_, (told, refl))

module _ (asked : Asked) (tree : TreeLines) (missing number : ℕ) where
  abbrev kind : Kind
  kind = kind_of asked.question

  abbrev read : Draft
  read = draft.Nodes asked tree missing

  by_content : (content : Option Content) (node : NodeName) → 1 ≤ missing → node_in kind content ≡ Some node → with_content read number content ≡ Ok (draft.Nodes asked (with_node tree number node) (missing_behind node missing))
  unfolding with_line
  by_content None node some is = absurd cc
  by_content (Some NotUtf8) node some is = absurd cc
  by_content (Some (BadTokens tokens)) node some is = absurd cc
  by_content (Some (Tokens tokens)) node some is =
      cond-false (missing == 0) _ _ (ne_eqb missing 0 (λ same. omega arith))
      ∙ ap (λ found. found_at cert_causes number found >>= λ n. Ok (draft.Nodes asked (with_node tree number n) (missing_behind n missing))) is

  -- a line that spells a node adds it
  pub node_added : (text : List ℕ) (node : NodeName) → 1 ≤ missing → node_on kind text ≡ Some node → with_text read number text ≡ Ok (draft.Nodes asked (with_node tree number node) (missing_behind node missing))
  node_added text node some is = by_content (content_of (line_tokens text)) node some is

  -- a line that is no node is faulty
  pub node_fault : (text : List ℕ) (content : Content) (fault : Faulty CertCause) → 1 ≤ missing → Some content ≡ content_of (line_tokens text) → read_whole (node_at kind) (record { number = number; content = content }) ≡ Err fault → with_text read number text ≡ Err fault
  unfolding with_line
  node_fault text content fault some stands is =
      ap (with_content read number) (sym stands)
      ∙ cond-false (missing == 0) _ _ (ne_eqb missing 0 (λ same. omega arith))
      ∙ ap (λ (found : Reading NodeName CertCause). found >>= λ n. Ok (draft.Nodes asked (with_node tree number n) (missing_behind n missing))) is

  -- where no subtree is missing, no line may stand
  pub none_may_stand : (text : List ℕ) (content : Content) (fault : LineFault CertCause) → missing ≡ 0 → Some content ≡ content_of (line_tokens text)
      → MatchResult (no_line {X = Draft} (record { number = number; content = content })) (λ _. ⊥) (λ told. line_tells fault ≡ Some told) → IfSome (line_tells fault) (λ told. with_text read number text ≡ Err told)
  unfolding with_line
  none_may_stand text content fault none stands faulty =
      let begun = ap (with_content read number) (sym stands) ∙ cond-true (missing == 0) _ _ (eq-eqb missing 0 none) in
      let told = no_line_told number content fault faulty in
      subst (λ (found : Option (Faulty CertCause)). IfSome found (λ f. with_text read number text ≡ Err f)) (sym told.1.0) (begun ∙ told.1.1)

-- ---- what was seen

module _ (kind : Kind) (nodes : List NodeLine) (node : NodeLine) where
  abbrev more : List NodeLine
  more = nodes ++ node ∷ []

  read_more : (text : List ℕ) (place : ℕ) → IsReadAs kind nodes text place → IsReadAs kind more text place
  read_more text place is = record {
    within = omega (arith, is.within, length-append {A = NodeLine});
    node = λ d. is.node d ∙ ap (λ (n : NodeLine). Some n.node) (sym (get_or_append_left nodes (node ∷ []) d place is.within));
  }

  -- one more node
  pub seen_still : (seen : List (List ℕ × ℕ)) → AreSeen kind nodes seen → AreSeen kind more seen
  seen_still seen are = All-weaker (λ (line : List ℕ × ℕ). IsReadAs kind nodes line.0 line.1) (λ (line : List ℕ × ℕ). IsReadAs kind more line.0 line.1) (λ line is. read_more line.0 line.1 is) seen are

  -- and its line
  pub seen_new : (seen : List (List ℕ × ℕ)) (text : List ℕ) → node_on kind text ≡ Some node.node → AreSeen kind nodes seen → AreSeen kind more (seen ++ (text, length nodes) ∷ [])
  seen_new seen text is are =
      All-push (λ (line : List ℕ × ℕ). IsReadAs kind more line.0 line.1) seen (text, length nodes) (seen_still seen are)
      (record { within = omega (arith, length-append nodes (node ∷ [])); node = λ d. is ∙ ap (λ (n : NodeLine). Some n.node) (sym (get_or_push nodes node d (length nodes) refl)) })

-- a tree with one more node
pub tree_more : (kind : Kind) (tree : TreeLines) (missing number : ℕ) (node : NodeName) → 1 ≤ missing → IsNodeOf kind node → IsTreeOf kind tree missing → IsTreeOf kind (with_node tree number node) (missing_behind node missing)
tree_more kind tree missing number node some is old = record {
  budget = old.budget;
  nodes = All-push (λ (n : NodeLine). IsNodeOf kind n.node) tree.nodes (record { line = number; node = node }) old.nodes is;
  trees = misses_more missing tree.nodes number node some old.trees;
}

-- ---- what a call that added a node returned

pub exact_added : (asked : Asked) (tree new : TreeLines) (missing number : ℕ) (node : NodeName) (said : Reading Draft CertCause) (result : Result ℕ (LineFault CertCause))
    → said ≡ Ok (draft.Nodes asked (with_node tree number node) (missing_behind node missing)) → IfOk result (λ n. n ≡ missing_behind node missing) → OnOk result (new ≡ with_node tree number node) → IfErr result (λ fault. fault ≡ Memory)
    → GivesUnlessMemory line_tells said (λ n. draft.Nodes asked new n) result
exact_added asked tree new missing number node said (Ok n) is count adds memory =
    is ∙ ap (λ (t : TreeLines). Ok (draft.Nodes asked t (missing_behind node missing))) (sym adds) ∙ ap (λ (m : ℕ). Ok (draft.Nodes asked new m)) (sym count)
exact_added asked tree new missing number node said (Err fault) is count adds memory = subst (λ (f : LineFault CertCause). IfSome (line_tells f) (λ told. said ≡ Err told)) (sym memory) tt

pub tree_added : (of_kind : Kind) (tree new : TreeLines) (missing number : ℕ) (node : NodeName) (result : Result ℕ (LineFault CertCause))
    → IsTreeOf of_kind (with_node tree number node) (missing_behind node missing) → IfOk result (λ n. n ≡ missing_behind node missing) → OnOk result (new ≡ with_node tree number node) → IfOk result (IsTreeOf of_kind new)
tree_added of_kind tree new missing number node (Ok n) is count adds = subst (λ (t : TreeLines). IsTreeOf of_kind t n) (sym adds) (subst (IsTreeOf of_kind (with_node tree number node)) (sym count) is)
tree_added of_kind tree new missing number node (Err fault) is count adds = tt

pub seen_kept : (of_kind : Kind) (tree new : TreeLines) (number : ℕ) (node : NodeName) (seen : List (List ℕ × ℕ)) (result : Result ℕ (LineFault CertCause))
    → AreSeen of_kind (with_node tree number node).nodes seen → OnOk result (new ≡ with_node tree number node) → OnOk result (AreSeen of_kind new.nodes seen)
seen_kept of_kind tree new number node seen result are adds = on_ok_weaker result (λ same. subst (λ (t : TreeLines). AreSeen of_kind t.nodes seen) (sym same) are) adds

pub seen_added : (of_kind : Kind) (tree new : TreeLines) (number : ℕ) (node : NodeName) (seen now : List (List ℕ × ℕ)) (result : Result ℕ (LineFault CertCause))
    → AreSeen of_kind (with_node tree number node).nodes seen → OnOk result (new ≡ with_node tree number node) → OnOk result (now ≡ seen) → OnOk result (AreSeen of_kind new.nodes now)
seen_added of_kind tree new number node seen now (Ok n) are adds same = subst (AreSeen of_kind new.nodes) (sym same) (subst (λ (t : TreeLines). AreSeen of_kind t.nodes seen) (sym adds) are)
seen_added of_kind tree new number node seen now (Err fault) are adds same = tt

-- ---- the lines that are left

module _ (read : Draft) (before : ℕ) where
  one_content : (content : Option Content) (others : List Line) → in_turn with_line read (option_to_list (option_map (λ c. record { number = before + 1; content = c }) content) ++ others) ≡ (with_content read (before + 1) content >>= λ next. in_turn with_line next others)
  one_content None others = refl
  one_content (Some content) others = refl

  one_text : (bytes text behind : List ℕ) → lines bytes ≡ text ∷ lines behind → with_lines read before bytes ≡ (with_text read (before + 1) text >>= λ next. with_lines next (before + 1) behind)
  unfolding lines_from
  one_text bytes text behind cut_at =
      ap (λ (ls : List (List ℕ)). in_turn with_line read (lines_from (before + 1) ls)) cut_at
      ∙ one_content (content_of (line_tokens text)) (lines_from (before + 1 + 1) (lines behind))

  pub text_step : (bytes text behind : List ℕ) (next : Draft) → lines bytes ≡ text ∷ lines behind → with_text read (before + 1) text ≡ Ok next → with_lines next (before + 1) behind ≡ with_lines read before bytes
  text_step bytes text behind next cut_at is =
      sym (one_text bytes text behind cut_at ∙ ap (λ (r : Reading Draft CertCause). r >>= λ d. with_lines d (before + 1) behind) is)

  pub text_fault : (bytes text behind : List ℕ) (fault : Faulty CertCause) → lines bytes ≡ text ∷ lines behind → with_text read (before + 1) text ≡ Err fault → with_lines read before bytes ≡ Err fault
  text_fault bytes text behind fault cut_at is =
      one_text bytes text behind cut_at ∙ ap (λ (r : Reading Draft CertCause). r >>= λ d. with_lines d (before + 1) behind) is

  pub no_text : (bytes : List ℕ) → length bytes ≡ 0 → with_lines read before bytes ≡ Ok read
  unfolding lines_from
  no_text [] none = refl
  no_text (b ∷ bytes) none = absurd (omega arith)

pub no_nodes : (read : Draft) → ((asked : Asked) (tree : TreeLines) (missing : ℕ) → read ≡ draft.Nodes asked tree missing → ⊥) → has_nodes read ≡ false
no_nodes draft.Nothing never = refl
no_nodes (draft.Asked asked) never = refl
no_nodes (draft.Half asked one) never = refl
no_nodes (draft.Nodes asked tree missing) never = absurd (never asked tree missing refl)
no_nodes (draft.Whole cert) never = refl
