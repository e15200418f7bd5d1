use Rattle.std.proofs.Common.{◌≡◌, ◌+◌, ◌++◌, ◌∷◌, ◌∙◌, [], Bor, List, ℕ, take, get_or, ap}
use Rattle.std.proofs.lemmas.List.{map-append, take_more}
use Rattle.row_takers.specs.Taken.{texts_in}
use Rattle.row_takers.proofs.Kept.{ids-more, kept-twice}
use Rattle.row_takers.proofs.pooled.intern_all.Goals as goal

pub loop-text-preserved : goal.loop-text-preserved
loop-text-preserved c =
    let row = c.args.row.now in
    let i = c.loop-text.text-index in
    let none : Bor (List ℕ) = record { ref_ptr = (0, 0); now = [] } in
    let texts : texts_in (take (i + 1) row) ≡ texts_in (take i row) ++ (get_or row i none).now ∷ [] =
    ap (λ some. texts_in some) (take_more row i none c.loop-text-test.true) ∙ map-append (λ (text : Bor (List ℕ)). text.now) (take i row) (get_or row i none ∷ []) in
    let more = ids-more c.loop-text.pool c.intern.new.self c.loop-text.ids.items (texts_in (take i row)) c.in_ok-id.id (get_or row i none).now c.loop-text.invariant.0 c.intern.ensures.kept c.in_ok-id.ensures.id in
    (rw (c.in_ok-push.ensures.items, texts) more, kept-twice c.args.pool.now c.loop-text.pool c.intern.new.self c.loop-text.invariant.1 c.intern.ensures.kept)
