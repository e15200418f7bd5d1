use Rattle.page_text.proofs.Made.{page_made}
use Rattle.page_text.proofs.page.page_text.Goals as goal

pub returns-clause-law : goal.returns-clause-law
returns-clause-law c = page_made c.args.name.now c.args.options c.args.rules.now c.args.rows.now c.args.findings.now c.args.checked.now
