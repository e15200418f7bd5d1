-- The text of what is found is read again.
use Rattle.std.proofs.Common.{◌≡◌, ℕ, ◌<◌, ◌^◌, List, [], ◌∷◌, ◌++◌, length, map, All, ap, ◌∙◌, append_assoc}
use Rattle.std.specs.Prelude.{codes, decimal}
use Rattle.std.specs.List.{flat_map}
use Rattle.text_lists.specs.declared.limits.Limits.{Limits}
use Rattle.schema_core.specs.declared.schema.Schema.{Schema}
use Rattle.schema_core.specs.declared.schema.Table.{Table}
use Rattle.rule_model.specs.Books.{book_deps}
use Rattle.rule_model.specs.declared.decl.Decl.{Decl}
use Rattle.rule_model.specs.declared.dep.Dep.{Dep}
use Rattle.line_grammar.specs.Groups.{cut, read_cut, read_groups}
use Rattle.line_grammar.specs.FileLines.{begins_with}
use Rattle.line_grammar.specs.declared.line.Line.{Line}
use Rattle.rule_parser.specs.RuleFiles.{add_group, reads, rule_causes}
use Rattle.rule_parser.specs.RuleText.{canonical, decl_lines}
use Rattle.rule_parser.proofs.RulesAgain.{reads-canonical}
use Rattle.dep_finder.specs.Deps.{IsOver}
use Rattle.dep_finder.specs.FoundText.{decl_of, found_text}
use Rattle.dep_finder.specs.ReadAgain.{IsReadAs, book_of}
use Rattle.dep_finder.proofs.Comment.{comment, comment_passed}
use Rattle.dep_finder.proofs.DepsAgain.{deps_again}
use Rattle.dep_finder.proofs.FoundBook.{is_book}

-- ---- bytes with the comment

with_comment : (decls : List Decl) (n : ℕ) → n < 2 ^ 64 → (schema : Schema) (limits : Limits) → reads schema limits (canonical decls ++ (comment n ++ 10 ∷ [])) ≡ reads schema limits (canonical decls)
unfolding reads read_groups canonical
with_comment decls n fits schema limits =
    ap (λ (ls : List Line). read_cut rule_causes add_group (record { schema = schema; limits = limits; decls = [] }) (cut (begins_with (codes "row")) ls)) (comment_passed (flat_map decl_lines decls) n fits)

found_parts : (table : Table) (found : List Dep) → found_text table found ≡ canonical (map (decl_of table) found) ++ (comment (length found) ++ 10 ∷ [])
found_parts table found = by (canonical (map (decl_of table) found)) (codes "# found ") (decimal (length found)) (codes "\n")
  where
    by : (a b c d : List ℕ) → a ++ b ++ c ++ d ≡ a ++ ((b ++ c) ++ d)
    by a b c d = ap (λ (bs : List ℕ). bs ++ d) (append_assoc a b c) ∙ append_assoc a (b ++ c) d

-- ---- the whole

pub read_again : (table : Table) (found : List Dep) → length found < 2 ^ 64 → All (IsOver table.attrs) found → IsReadAs table found (found_text table found)
unfolding book_deps
read_again table found fits over = λ schema limits valid within rules names few. (
  ap (reads schema limits) (found_parts table found) ∙ with_comment (map (decl_of table) found) (length found) fits schema limits
      ∙ reads-canonical (book_of schema limits table found) (is_book schema limits table found valid within over rules names few),
  deps_again schema table found valid rules.of_table over,
)
