use Rattle.std.proofs.Common.{ℕ, List, ◌∙◌, sym, subst}
use Rattle.value_pool.specs.Pool.{HasId, IsNew}
use Rattle.cert_check.proofs.Positions.{text_place, no_text_place}
use Rattle.cert_check.proofs.places.text_place.Goals as goal

pub returns-in-Some : goal.returns-in-Some
returns-in-Some c =
    let values = c.args.values.now in
    let text = c.args.text.now in
    let there : HasId values text c.in-Some.place = subst (λ (t : List ℕ). HasId values t c.in-Some.place) c.as_str.ensures.bytes c.in-Some.ensures.found in
    sym (text_place text values c.in-Some.place there (λ k also. c.find.ensures.distinct text c.in-Some.place k there also))

pub returns-in-None : goal.returns-in-None
returns-in-None c =
    let values = c.args.values.now in
    let text = c.args.text.now in
    let new : IsNew values text = subst (IsNew values) c.as_str.ensures.bytes c.in-None.ensures.absent in
    c.len.ensures.len ∙ sym (no_text_place text values new)
