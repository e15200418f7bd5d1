use Rattle.std.proofs.Common.{◌≡◌, sym, refl, ap, ◌∙◌, List, ℕ, arith, length}
use Rattle.std.specs.Prelude.{◌&&◌}
use Rattle.std.specs.Str.{bytes_eq}
use Rattle.cind_index.specs.RowsHeld.{is_in}
use Rattle.cind_index.proofs.MapFacts.{one_held}
use Rattle.cind_index.proofs.pattern_rows.only_entry.Goals as goal

pub returns : goal.returns
returns c ids row =
    let patterns = c.args.patterns.now in
    let one : length patterns.entries ≡ 1 = grind (arith, c.len.ensures.len, c.if-len-ne1.false) in
    one_held patterns.entries patterns c.in_ok-held.held.now c.in_ok-held.rows.now refl one c.in_ok-held.ensures.first ids row
    ∙ ap (λ (xs : List ℕ). bytes_eq ids xs && is_in c.in_ok-held.rows.now row) (sym c.as_slice.ensures.value)
