use Rattle.html_text.proofs.OnlyText.{IsOnlyText-escaped}
use Rattle.html_text.proofs.escaping.push_escaped_bytes.Goals as goal

pub returns-clause-law : goal.returns-clause-law
returns-clause-law c = IsOnlyText-escaped c.args.bytes.now
