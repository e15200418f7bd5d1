use Rattle.std.proofs.Common.{sym, subst, List, ℕ, string_bytes}
use Rattle.value_pool.specs.Pool.{HasId, IsNew}
use Rattle.cell_values.specs.Fresh.{IsFreshPast}
use Rattle.cell_values.proofs.Among.{Contains_if_HasId, absent_if_IsNew}
use Rattle.cell_values.proofs.FreshTexts.{fresh_is}
use Rattle.cell_values.proofs.Tildes.{too_short_more, fresh_found}
use Rattle.cell_values.proofs.fresh.fresh_past.Goals as goal

pub loop-text-preserved : goal.loop-text-preserved
loop-text-preserved c =
    too_short_more c.args.count c.args.texts.now (string_bytes c.loop-text.text) (string_bytes c.push_str.new.self) c.loop-text.invariant c.in_ok-push_str.ensures.bytes
    (Contains_if_HasId c.args.texts.now (string_bytes c.push_str.new.self) c.in-Some.field-0 (subst (λ (t : List ℕ). HasId c.args.texts.now t c.in-Some.field-0) c.as_str.ensures.value c.in-Some.ensures.found))

pub returns-in_default-clause-fresh : goal.returns-in_default-clause-fresh
returns-in_default-clause-fresh c =
    subst (IsFreshPast c.args.count c.args.texts.now) (sym c.in_ok-fresh.ensures)
    (fresh_found c.args.count c.args.texts.now (string_bytes c.loop-text.text) (string_bytes c.push_str.new.self) c.loop-text.invariant c.in_ok-push_str.ensures.bytes
    (absent_if_IsNew c.args.texts.now (string_bytes c.push_str.new.self) (subst (IsNew c.args.texts.now) c.as_str.ensures.value c.in_default.ensures.absent)))

pub returns-in_default-clause-text : goal.returns-in_default-clause-text
returns-in_default-clause-text c = fresh_is c.args.count c.args.texts.now c.in_ok-fresh.fresh (returns-in_default-clause-fresh c)
