-- A piece that goes out put by put.
use Rattle.std.proofs.Common.{◌≡◌, ◌≢◌, ℕ, ◌<◌, ◌+◌, ◌-◌, ◌≤◌, List, ◌++◌, Option, None, Some, length, take, drop, refl, sym, ap, ◌∙◌, append_assoc, arith, length-append}
use Rattle.std.proofs.Math.Seq.{take-add}
use Rattle.std.proofs.lemmas.List.{take_all, take-append-drop, length-drop, length-take}
use Rattle.std.proofs.lemmas.Option.{same_Some}
use Rattle.shelf_io.specs.Sink.{Appends, FrontOf, SinkTold, appended}

-- so many bytes of the piece are appended, and no count fell
pub record IsUnderWay (piece : List ℕ) (done : ℕ) (before after : SinkTold) : Type 0 where
  pub within : done ≤ length piece
  pub bytes : after.written ≡ appended before.written (take done piece)
  pub faults : before.faults ≤ after.faults

-- two pieces one after the other are one
pub appended-append : (told : Option (List ℕ)) (a b : List ℕ) → appended (appended told a) b ≡ appended told (a ++ b)
appended-append None a b = refl
appended-append (Some bytes) a b = ap Some (append_assoc bytes a b)

-- one put further, which was handed all that was left
pub appended-take_more : (piece : List ℕ) (done taken : ℕ) (before after last : Option (List ℕ)) → after ≡ appended before (take done piece) → last ≡ appended after (take taken (take (length piece - done) (drop done piece))) → last ≡ appended before (take (done + taken) piece)
appended-take_more piece done taken before after last one two =
    let left : take (length piece - done) (drop done piece) ≡ drop done piece = take_all (length piece - done) (drop done piece) (omega (arith, length-drop done piece)) in
    two ∙ ap (λ rest. appended after (take taken rest)) left
    ∙ ap (λ told. appended told (take taken (drop done piece))) one
    ∙ appended-append before _ _
    ∙ ap (appended before) (sym (take-add done taken piece))

-- where a put failed, a front of the piece is appended
pub front_so_far : (piece : List ℕ) (done : ℕ) (before after last : Option (List ℕ)) → after ≡ appended before (take done piece) → last ≡ after → Appends (FrontOf (λ text. text ≡ piece)) before last
front_so_far piece done before after last so_far same = record {
  text = take done piece;
  is_one = (drop done piece, take-append-drop done piece);
  written = same ∙ so_far;
}

-- and that isn't the whole piece
pub not_all_so_far : (piece : List ℕ) (done : ℕ) (before after last : Option (List ℕ)) → done < length piece → after ≡ appended before (take done piece) → last ≡ after → (all : List ℕ) → before ≡ Some all → last ≢ Some (all ++ piece)
not_all_so_far piece done before after last short so_far same all is whole =
    let one : Some (all ++ take done piece) ≡ Some (all ++ piece) = sym (same ∙ so_far ∙ ap (λ told. appended told (take done piece)) is) ∙ whole in
    let equal : all ++ take done piece ≡ all ++ piece = same_Some _ _ one in
    omega (arith, ap length equal, length-append all (take done piece), length-append all piece, length-take done piece)
