use Rattle.std.proofs.Common.{ℕ, List, [], get_or, ap, ◌∙◌}
use Rattle.std.specs.Prelude.{map}
use Rattle.cert_text.specs.declared.seen.SeenLine.{SeenLine}
use Rattle.cert_text.proofs.SeenLines.{contains_image, same_text}
use Rattle.cert_text.proofs.seen.Seen.find.Goals as goal

pub returns-then-eq : goal.returns-then-eq
returns-then-eq c =
    let seen : SeenLine → List ℕ × ℕ = λ line. (line.text.now, line.place) in
    let lines = c.as_slice-lines.result.now in
    let at = c.index-at.result.now in
    let none : SeenLine = record { text = record { ref_ptr = (0, 0); now = [] }; place = 0 } in
    let text = same_text (get_or lines at none).text.now c.args.text.now c.eq.result c.eq.ensures c.if-eq.true in
    let with_place : List ℕ → List ℕ × ℕ = λ t. (t, (get_or lines at none).place) in
    let found = with_place c.args.text.now in
    contains_image seen lines c.args.self.now at none found (ap (map seen) c.as_slice-lines.ensures ∙ c.self.view_is) c.if-at-lines.true (ap with_place text)
