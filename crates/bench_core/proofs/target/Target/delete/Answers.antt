use Rattle.std.proofs.Common.{refl, sym, ◌∙◌, ap, ◌≡◌, Some}
use Rattle.row_store.specs.Tuple.{ids_of, ids_behind}
use Rattle.bench_core.specs.Stored.{HaveTexts, stored}
use Rattle.bench_core.proofs.Planned.{delete-absent, delete-done, have-texts, below-row, for_some, for_none}
use Rattle.bench_core.proofs.target.Target.delete.Goals as goal

pub returns-in_default-clause-edited : goal.returns-in_default-clause-edited
returns-in_default-clause-edited c = delete-absent c.args.pool.now (stored c.args.self.now.store.now) c.args.row (sym c.get.ensures ∙ ap ids_behind c.in_default.is)

pub returns-clause-edited : goal.returns-clause-edited
returns-clause-edited c = delete-done c.args.pool.now (stored c.args.self.now.store.now) c.args.row (ids_of c.in-Some.old.now) c.requires.named (sym c.get.ensures ∙ ap ids_behind c.in-Some.is)

pub returns-clause-planned : goal.returns-clause-planned
returns-clause-planned c =
    let at = sym c.get.ensures ∙ ap ids_behind c.in-Some.is in
    let same : ids_of c.in_ok-clone.field-0 ≡ ids_of c.in-Some.old.now = c.in_ok-clone.ensures.cases in
    let have = have-texts c.args.pool.now (stored c.args.self.now.store.now) c.args.row (ids_of c.in-Some.old.now) c.requires.named at in
    record {
      of_table = refl;
      can = record { old = at ∙ ap Some (sym same); next = below-row c.args.pool.now (stored c.args.self.now.store.now) c.args.row (ids_of c.in-Some.old.now) c.requires.state.below_next at };
      is = record { there = refl; old = for_some (HaveTexts c.args.pool.now) (ids_of c.in_ok-clone.field-0) (rw same have); new = for_none (HaveTexts c.args.pool.now) };
    }
