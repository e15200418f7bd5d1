-- Bytes that are held back, of which the sink within takes some.
use Rattle.std.proofs.Common.{◌≡◌, ℕ, ◌+◌, ◌-◌, List, ◌++◌, Option, length, take, drop, sym, ap, ◌∙◌, arith}
use Rattle.std.proofs.lemmas.List.{drop-drop, length-drop, take-append-drop, take_all}
use Rattle.shelf_io.specs.Sink.{appended}
use Rattle.shelf_io.proofs.Puts.{appended-append}

-- what is told as written stays, since what was taken is told by the sink within
pub same_told : (held : List ℕ) (done taken : ℕ) (before after : Option (List ℕ)) → after ≡ appended before (take taken (take (length held - done) (drop done held))) → appended after (drop (done + taken) held) ≡ appended before (drop done held)
same_told held done taken before after is =
    let left : take (length held - done) (drop done held) ≡ drop done held = take_all (length held - done) (drop done held) (omega (arith, length-drop done held)) in
    ap (λ told. appended told (drop (done + taken) held)) (is ∙ ap (λ rest. appended before (take taken rest)) left)
    ∙ appended-append before (take taken (drop done held)) (drop (done + taken) held)
    ∙ ap (λ rest. appended before (take taken (drop done held) ++ rest)) (sym (drop-drop taken done held))
    ∙ ap (appended before) (take-append-drop taken (drop done held))
