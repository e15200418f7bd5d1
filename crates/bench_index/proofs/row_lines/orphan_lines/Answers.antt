use Rattle.std.proofs.Common.{ℕ, ◌<◌, ◌≤◌, cond, [], ◌∷◌, length, ap, ◌∙◌, arith}
use Rattle.std.specs.Prelude.{nat_eq}
use Rattle.cfd_semantics.specs.declared.inclusion.InclusionRow.{InclusionRow}
use Rattle.cfd_semantics.specs.Orphan.{is_orphan}
use Rattle.cind_index.specs.KeysHeld.{rights}
use Rattle.bench_index.proofs.ByRows.{list_more, rows_passed}
use Rattle.bench_index.proofs.Lines.{orphan_told}
use Rattle.bench_index.proofs.row_lines.orphan_lines.Goals as goal

pub loop-k-preserved : goal.loop-k-preserved
loop-k-preserved g c =
    let index = c.args.index.now in
    let row = c.args.row in
    let within : c.loop-k.k < length index.rule.rows = omega (arith, c.loop-k-test.true, c.tableau_rows-k-end.ensures) in record {
      lines = λ left rs is right.
          list_more (λ (t : InclusionRow ℕ). cond (is_orphan nat_eq t rs left) (row ∷ []) []) index.rule.rows c.loop-k.k c.loop-k.lines c.push_orphan_line.new.lines (cond c.in_ok-is_orphan.is_orphan (row ∷ []) []) within
          (c.loop-k.invariant.lines left rs is right)
          (λ t at. ap (λ b. cond b (row ∷ []) []) (orphan_told t (rights index.keys) rs left c.in_ok-is_orphan.is_orphan right (c.in_ok-is_orphan.ensures.orphan t at row left is))) c.in_ok-push_orphan_line.ensures;
      probes = omega (arith, c.loop-k.invariant.probes, c.is_orphan.ensures.probes);
    }

pub returns-clause-lines : goal.returns-clause-lines
returns-clause-lines g c left rs is right =
    let rows = c.args.index.now.rule.rows in
    let past : length rows ≤ c.loop-k.k = omega (arith, c.loop-k-test.false, c.tableau_rows-k-end.ensures) in
    c.loop-k.invariant.lines left rs is right ∙ rows_passed (λ (t : InclusionRow ℕ). cond (is_orphan nat_eq t rs left) (c.args.row ∷ []) []) rows c.loop-k.k past
