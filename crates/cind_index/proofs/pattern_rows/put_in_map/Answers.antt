use Rattle.std.proofs.Common.{rules, None, Some, sym, ap, subst, refl, ◌∙◌, ◌≡◌}
use Rattle.std.specs.Prelude.{ℕ, Bool, true, false, ◌==◌, ◌||◌}
use Rattle.cind_index.specs.RowsHeld.{IsMore, in_map, rows_for}
use Rattle.cind_index.specs.declared.row_set.RowSet.TheVariants.{One}
use Rattle.cind_index.proofs.MapFacts.{on_ok, on_err, rows_updated, one_more, as_many}
use Rattle.cind_index.proofs.pattern_rows.put_in_map.Goals as goal

or_false_of : (other row : ℕ) → (other == row) ≡ (other == row || false)
or_false_of other row = of (other == row)
  where
    of : (b : Bool) → b ≡ (b || false)
    of true = refl
    of false = refl

pub returns-in-Some-clause-ok : goal.returns-in-Some-clause-ok
returns-in-Some-clause-ok c =
    let old = c.args.patterns.now in
    let new = c.get_mut.follows.lender c.put.new.self in
    let written = (c.get_mut.follows.holds c.put.new.self).3 (search rules) in
    on_ok c.put.result (one_more old new c.args.pattern.now c.args.row (Some c.in-Some.rows.now) (Some c.put.new.self) (sym c.in-Some.ensures.value)
    (rows_updated old new c.args.pattern.now (Some c.put.new.self) written.1 written.3)) c.put.ensures.ok

pub returns-in-Some-clause-err : goal.returns-in-Some-clause-err
returns-in-Some-clause-err c =
    let old = c.args.patterns.now in
    let new = c.get_mut.follows.lender c.put.new.self in
    let written = (c.get_mut.follows.holds c.put.new.self).3 (search rules) in
    on_err c.put.result (as_many old new c.args.pattern.now c.args.row (Some c.in-Some.rows.now) (Some c.put.new.self) (sym c.in-Some.ensures.value)
    (rows_updated old new c.args.pattern.now (Some c.put.new.self) written.1 written.3)) c.put.ensures.err

pub returns-clause-ok : goal.returns-clause-ok
returns-clause-ok c =
    let old = c.get_mut.follows.lender-at-none in
    let same : old ≡ c.args.patterns.now = c.get_mut.follows.holds-at-none in
    let new = c.insert.new.self in
    let key = c.in_ok-from_slice.field-0.items in
    let is : key ≡ c.args.pattern.now = c.in_ok-from_slice.ensures.items in
    let absent : rows_for old key ≡ None = ap (rows_for old) is ∙ ap (λ m. rows_for m c.args.pattern.now) same ∙ sym c.in_default.ensures.value in
    subst (λ m. IsMore c.args.pattern.now c.args.row (in_map m) (in_map new)) same
    (subst (λ xs. IsMore xs c.args.row (in_map old) (in_map new)) is
    (one_more old new key c.args.row None (Some (One c.args.row)) absent (rows_updated old new key (Some (One c.args.row)) c.in_ok-insert.ensures.updates.1 c.in_ok-insert.ensures.updates.3)
    (λ other. or_false_of other c.args.row)))
