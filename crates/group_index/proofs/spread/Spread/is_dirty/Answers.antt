use Rattle.std.proofs.Common.{sym, subst, ◌∙◌}
use Rattle.group_index.specs.Pairs.{IsSpread}
use Rattle.group_index.specs.declared.spread.Spread.TheVariants.{Nothing, Alike, Both, Mixed}
use Rattle.group_index.proofs.SpreadFacts.{dirty_by_spread}
use Rattle.group_index.proofs.TableauFacts.{offended_by_match}
use Rattle.group_index.proofs.spread.Spread.is_dirty.Goals as goal

pub returns-in-Nothing : goal.returns-in-Nothing
returns-in-Nothing c pairs is = sym (dirty_by_spread c.args.rows.now c.args.x.now pairs Nothing (subst (IsSpread pairs) c.in-Nothing.is is))

pub returns-in-Alike : goal.returns-in-Alike
returns-in-Alike c pairs is = c.has_offended.ensures ∙ sym (dirty_by_spread c.args.rows.now c.args.x.now pairs (Alike c.in-Alike.a) (subst (IsSpread pairs) c.in-Alike.is is))

pub returns-in-Both : goal.returns-in-Both
returns-in-Both c pairs is = c.has_offended-in-Both.ensures ∙ offended_by_match c.args.rows.now c.args.x.now ∙ sym (dirty_by_spread c.args.rows.now c.args.x.now pairs Both (subst (IsSpread pairs) c.in-Both.is is))

pub returns-in-Mixed : goal.returns-in-Mixed
returns-in-Mixed c pairs is = c.has_offended-in-Mixed.ensures ∙ offended_by_match c.args.rows.now c.args.x.now ∙ sym (dirty_by_spread c.args.rows.now c.args.x.now pairs Mixed (subst (IsSpread pairs) c.in-Mixed.is is))
