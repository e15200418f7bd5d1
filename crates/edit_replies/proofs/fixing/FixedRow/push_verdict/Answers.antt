use Rattle.edit_replies.proofs.fixing.FixedRow.push_verdict.Goals as goal

pub returns-in_ok-push_unique-in-Unique-clause-text : goal.returns-in_ok-push_unique-in-Unique-clause-text
returns-in_ok-push_unique-in-Unique-clause-text c = rw c.in-Unique.is (rw c.as_slice.ensures at c.in_ok-push_unique-in-Unique.ensures.text)
