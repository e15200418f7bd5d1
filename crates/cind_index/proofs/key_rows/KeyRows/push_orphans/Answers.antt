use Rattle.std.proofs.Common.{◌≡◌, sym, subst, inl, inr, ◌⊎◌, ◌↔◌, false}
use Rattle.std.specs.Prelude.{IsTrue}
use Rattle.std.specs.List.{Contains}
use Rattle.cind_index.specs.declared.side.Side.TheVariants.{Left, Right}
use Rattle.cind_index.specs.RowsHeld.{has, has_some, rows_on}
use Rattle.cind_index.proofs.MapFacts.{on_ok}
use Rattle.cind_index.proofs.key_rows.KeyRows.push_orphans.Goals as goal

pub returns : goal.returns
returns c =
    let self = c.args.self.now in
    let t = c.args.tableau_row.now in
    let none : has_some (rows_on self Right) t.yp ≡ false = sym c.if-has_answer.ensures in
    on_ok c.push_lefts.result (λ step row.
    let one = subst (λ xs. Contains c.push_lefts.new.found.items row ↔ (Contains c.args.found.now.items row ⊎ IsTrue (has (rows_on self Left) xs row))) c.as_slice.ensures (step row) in (
      (λ inside. elim (one.0 inside) [ inl was ↦ inl was | inr more ↦ inr (more, none) ]),
      (λ either. one.1 (elim either [ inl was ↦ inl was | inr both ↦ inr both.0 ])),
    )) c.push_lefts.ensures
