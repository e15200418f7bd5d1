use Rattle.std.proofs.Common.{◌≡◌, ℕ, suc, ◌-◌, ◌<◌, List, ◌∷◌, take, refl, ap, sym, ◌∙◌, arith}
use Rattle.line_grammar.specs.Lines.{lines}
use Rattle.line_forms.specs.Forms.{below_line, below_lines, place_at}
use Rattle.line_forms.specs.declared.place.Place.{Place}
use Rattle.line_forms.proofs.place.place_at.Goals as goal

-- past one line more
below_one : (at : Place) (count : ℕ) (line : List ℕ) (others : List (List ℕ)) → below_lines (below_line at line) (take count others) ≡ below_lines at (take (suc count) (line ∷ others))
below_one at count line others = refl

below_more : (at next whole : Place) (ahead : ℕ) (all others : List (List ℕ)) (line : List ℕ) → 0 < ahead → all ≡ line ∷ others → next ≡ below_line at line → below_lines at (take ahead all) ≡ whole → below_lines next (take (ahead - 1) others) ≡ whole
below_more at next whole ahead all others line some all_is next_is so_far =
    let same : suc (ahead - 1) ≡ ahead = omega (arith, some) in
    ap (λ (p : Place). below_lines p (take (ahead - 1) others)) next_is ∙ below_one at (ahead - 1) line others
    ∙ ap (λ (ls : List (List ℕ)). below_lines at (take (suc (ahead - 1)) ls)) (sym all_is) ∙ ap (λ (k : ℕ). below_lines at (take k all)) same ∙ so_far

pub loop-ahead-preserved : goal.loop-ahead-preserved
loop-ahead-preserved c =
    below_more c.loop-ahead.place c.in_ok-place.place (place_at c.args.start c.args.number c.args.bytes.now) c.loop-ahead.ahead (lines c.loop-ahead.rest.now) (lines c.split_line.result.1.now) c.split_line.result.0.now c.loop-ahead-test.true c.split_line.ensures.line
    c.in_ok-place.ensures c.loop-ahead.invariant
