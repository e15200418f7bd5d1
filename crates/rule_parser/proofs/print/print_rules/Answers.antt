use Rattle.std.proofs.Common.{ap, ◌∙◌}
use Rattle.rule_parser.specs.RuleFiles.{reads}
use Rattle.rule_parser.proofs.RulesAgain.{canonical-written, reads-canonical}
use Rattle.rule_parser.proofs.print.print_rules.Goals as goal

pub returns-clause-text : goal.returns-clause-text
returns-clause-text c = canonical-written c.args.book.now.decls c.loop-decl.out.items _ c.loop-decl.decl-index c.loop-decl-test.false (c.as_slice-decl-items.ensures ∙ c.decls.ensures.decls) c.loop-decl.invariant

pub returns-clause-read_again : goal.returns-clause-read_again
returns-clause-read_again c = ap (reads c.args.book.now.schema c.args.book.now.limits) (returns-clause-text c) ∙ reads-canonical c.args.book.now c.decls.ensures.valid
