use Rattle.std.proofs.Common.{◌≡◌, ◌++◌, ℕ, List, length, sym, ap, ◌∙◌, arith, Vec, Global}
use Rattle.std.specs.List.{flat_map}
use Rattle.edit_replies.specs.Fixing.{Cell, cell_text}
use Rattle.edit_replies.proofs.Cells.{all-changed, changed, flipped, flipped-back, long-more, no-more, text-more}
use Rattle.edit_replies.proofs.fix_text.push_cells.Goals as goal
use Rattle.edit_replies.proofs.fix_text.push_cells.Goals.{then-ne+in_ok-push_cell, else-ne}

pub loop-place-preserved : goal.loop-place-preserved
loop-place-preserved c =
    let attrs = c.args.attrs.now in
    let old = c.args.old.now in
    let new = c.args.new.now in
    let a = c.index-attrs-place.result in
    let o = c.index-old-place.result in
    let n = c.index-new-place.result in
    let i = c.loop-place.place in
    let so_far = c.loop-place.invariant in
    elim c.if-ne.branch [
      | then-ne+in_ok-push_cell w ↦
          let apart = flipped _ (sym c.ne.ensures ∙ w.if-ne.true) in
          let text = text-more attrs old new c.requires.old c.requires.new i c.loop-place-test.true a o n c.index-attrs-place.is c.index-old-place.is c.index-new-place.is in
          let count = long-more attrs old new c.requires.old c.requires.new i c.loop-place-test.true a o n c.index-attrs-place.is c.index-old-place.is c.index-new-place.is in
          record {
            text = ap (λ (v : Vec ℕ Global). v.items) w.out-is ∙ text c.args.out.now.items c.loop-place.out.items _ apart so_far.text w.in_ok-push_cell.ensures;
            count = count c.loop-place.count c.if-ne.count apart so_far.count w.count-is;
            few = omega (arith, so_far.few, w.count-is);
          }
      | else-ne w ↦
          let equal = flipped-back _ (sym c.ne.ensures ∙ w.if-ne.false) in
          let none = no-more attrs old new c.requires.old c.requires.new i c.loop-place-test.true a o n c.index-attrs-place.is c.index-old-place.is c.index-new-place.is equal in
          record {
            text = ap (λ (v : Vec ℕ Global). v.items) w.out-is ∙ so_far.text ∙ ap (λ (cs : List Cell). c.args.out.now.items ++ flat_map cell_text cs) (sym none);
            count = w.count-is ∙ so_far.count ∙ ap (λ (cs : List Cell). length cs) (sym none);
            few = omega (arith, so_far.few, w.count-is);
          }
    ]

pub returns-clause-cells : goal.returns-clause-cells
returns-clause-cells c =
    let attrs = c.args.attrs.now in
    let old = c.args.old.now in
    let new = c.args.new.now in
    let end : c.loop-place.place ≡ length attrs = omega (arith, c.loop-place.auto.place-end, c.loop-place-test.false) in
    c.loop-place.invariant.text
    ∙ ap (λ (cs : List Cell). c.args.out.now.items ++ flat_map cell_text cs) (ap (changed attrs old new c.requires.old c.requires.new) end ∙ all-changed attrs old new c.requires.old c.requires.new)

pub returns-clause-count : goal.returns-clause-count
returns-clause-count c =
    let attrs = c.args.attrs.now in
    let old = c.args.old.now in
    let new = c.args.new.now in
    let end : c.loop-place.place ≡ length attrs = omega (arith, c.loop-place.auto.place-end, c.loop-place-test.false) in
    c.loop-place.invariant.count ∙ ap (λ (cs : List Cell). length cs) (ap (changed attrs old new c.requires.old c.requires.new) end ∙ all-changed attrs old new c.requires.old c.requires.new)
