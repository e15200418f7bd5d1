use Rattle.std.proofs.Common.{◌++◌, List, ℕ, refl, ap, ◌∙◌}
use Rattle.line_grammar.specs.Spelling.{line_text}
use Rattle.rule_parser.specs.RuleFiles.{reads_dep}
use Rattle.rule_parser.specs.RuleText.{dep_line}
use Rattle.rule_parser.proofs.DepsAgain.{reads_dep-line}
use Rattle.rule_parser.proofs.print.print_dep.Goals as goal

pub returns-clause-read_again : goal.returns-clause-read_again
returns-clause-read_again c =
    ap (reads_dep c.args.book.now.schema) (c.in_ok-push_dep.ensures ∙ ap (λ (t : List ℕ). t ++ line_text (dep_line c.schema.result.now c.args.dep.now)) c.new-out.ensures.items ∙ ap (λ schema. line_text (dep_line schema c.args.dep.now)) c.schema.ensures.schema)
    ∙ reads_dep-line c.args.book.now.schema c.args.dep.now c.args.dep.now.rule.rows c.schema.ensures.valid.schema c.requires.valid refl c.requires.row
