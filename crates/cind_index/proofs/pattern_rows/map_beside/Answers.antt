use Rattle.std.proofs.Common.{Some, sym, ap, refl, subst, ◌∙◌, ◌≡◌, ℕ, Bool, true, false, List}
use Rattle.std.specs.Prelude.{◌==◌, ◌||◌, ◌&&◌}
use Rattle.std.specs.Ordering.{nat_cmp, is_eq}
use Rattle.std.specs.Cmp.Lexicographic.{slice_cmp}
use Rattle.std.specs.Map.{lookup}
use Rattle.std.specs.Str.{bytes_eq}
use Rattle.std.specs.declared.vec.Vec.{Vec}
use Rattle.std.specs.declared.alloc.Global.{Global}
use Rattle.cind_index.specs.declared.row_set.RowSet.{RowSet}
use Rattle.cind_index.specs.declared.pattern_rows.PatternRows.TheVariants.{Single}
use Rattle.cind_index.specs.RowsHeld.{IsMore, has_by, in_map}
use Rattle.cind_index.proofs.MapFacts.{rows_updated, beside_held, among}
use Rattle.cind_index.proofs.pattern_rows.map_beside.Goals as goal

or_false : (b : Bool) → (b || false) ≡ b
or_false true = refl
or_false false = refl

pub returns-in-Ok-clause-ok : goal.returns-in-Ok-clause-ok
returns-in-Ok-clause-ok c =
    let mid = c.put_in_map.new.patterns in
    let new = c.insert.new.self in
    let pattern = c.args.pattern.now in
    let own = c.replace-own.result in
    let own_rows = c.replace-own_rows.result in
    let is : own ≡ c.args.held.now = c.replace-own.ensures.value in
    let are : own_rows ≡ c.args.rows.now = c.replace-own_rows.ensures.value in
    let beside = subst (λ (h : Vec ℕ Global). bytes_eq pattern h.items ≡ false) (sym is) c.requires in
    let had = λ (ids : List ℕ) (other : ℕ). c.in_ok-put_in_map.ensures.ok ids other
    ∙ ap (λ es. (bytes_eq ids pattern && other == c.args.row) || among (lookup (λ (k : Vec ℕ Global). is_eq (slice_cmp nat_cmp ids k.items)) es) other) c.new-patterns.ensures.empty
    ∙ or_false (bytes_eq ids pattern && other == c.args.row) in
    subst (λ (h : Vec ℕ Global). IsMore pattern c.args.row (has_by (Single h c.args.rows.now)) (in_map new)) is
    (subst (λ (rows : RowSet). IsMore pattern c.args.row (has_by (Single own rows)) (in_map new)) are
    (beside_held mid new own.items pattern own_rows c.args.row beside had
    (rows_updated mid new own.items (Some own_rows) c.in-Ok.ensures.updates.1 c.in-Ok.ensures.updates.3)))
