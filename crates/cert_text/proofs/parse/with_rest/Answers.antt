use Rattle.cert_text.proofs.NodeTexts.{no_nodes, no_text}
use Rattle.cert_text.proofs.parse.with_rest.Goals as goal

pub returns-in_default : goal.returns-in_default
returns-in_default c = record {
  exact = no_text c.args.draft c.args.before c.args.bytes.now (c.requires.rest (no_nodes c.args.draft c.in_default.not-Nodes));
  fit = c.requires.draft;
}
