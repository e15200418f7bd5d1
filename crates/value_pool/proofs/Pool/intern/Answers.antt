use Rattle.std.proofs.Common.{subst, sym, ap, length, ◌∙◌, arith}
use Rattle.std.specs.Str.{bytes_eq}
use Rattle.indexmap.specs.IndexSet.{insert_key}
use Rattle.value_pool.specs.Pool.{HasId, Interns}
use Rattle.value_pool.proofs.PoolLemmas.{distinct-HaveOneId, HasId-stored, KeepsIds-Interns, length-Interns, insert_key-Interns}
use Rattle.value_pool.proofs.Pool.intern.Goals as goal

-- the new texts are the old ones with this one put in
interned : (c : goal.In_ok-id) → Interns c.args.self.now c.args.text.now c.insert_full.new.self.keys
interned c =
    let texts = c.self.view_is in
    let text = c.in_ok-owned.ensures in
    subst (Interns c.args.self.now c.args.text.now) (sym (c.in_ok-id.ensures.keys ∙ (λ j. insert_key bytes_eq (texts j) (text j)))) (insert_key-Interns c.args.text.now c.args.self.now)

pub invariant_of-self-2 : goal.invariant_of-self-2
invariant_of-self-2 c = record {
  distinct = distinct-HaveOneId _ c.in_ok-id.ensures.unique;
  few = omega (arith, length-Interns _ _ _ (interned c), c.len.ensures.len, ap length c.self.view_is);
}

pub returns-clause-id : goal.returns-clause-id
returns-clause-id c =
    let stored = c.in_ok-id.ensures.stored in
    let keys = c.insert_full.new.self.keys in
    let has = HasId-stored keys c.in_ok-owned.owned stored.0 c.in_ok-id.id stored.1 stored.2 in
    subst (λ t. HasId keys t c.in_ok-id.id) c.in_ok-owned.ensures has

pub returns-clause-interned : goal.returns-clause-interned
returns-clause-interned c = interned c

pub returns-clause-kept : goal.returns-clause-kept
returns-clause-kept c = KeepsIds-Interns c.args.self.now c.args.text.now c.insert_full.new.self.keys (interned c)

pub returns-clause-distinct : goal.returns-clause-distinct
returns-clause-distinct c = distinct-HaveOneId _ c.in_ok-id.ensures.unique
