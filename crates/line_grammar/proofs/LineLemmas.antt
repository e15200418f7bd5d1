-- Lines cut one after another from the front of a file.
use Rattle.std.proofs.Common.{inl, inr, ◌≡◌, ◌≢◌, ℕ, zero, suc, ◌+◌, ◌<◌, ◌≤◌, List, [], ◌∷◌, length, get_or, take, drop, refl, ap, sym, ◌∙◌, arith}
use Rattle.std.specs.Prelude.{◌==◌}
use Rattle.std.specs.List.{position_or_len}
use Rattle.std.proofs.lemmas.Bool.{cases_eq, ne_eqb}
use Rattle.std.proofs.lemmas.List.{take-take}
use Rattle.line_grammar.specs.Lines.{line_feed, in_front, cut_at_line_feeds, without_return, lines}

one_plus : (n : ℕ) → 1 + n ≡ suc n
one_plus n = omega arith

abbrev feed_place : List ℕ → ℕ
feed_place bytes = position_or_len (λ b. b == line_feed) bytes

feed_place-other : (b : ℕ) (bytes : List ℕ) → b ≢ 10 → feed_place (b ∷ bytes) ≡ suc (feed_place bytes)
feed_place-other b bytes other = rw (ne_eqb b 10 other) (one_plus (feed_place bytes))

cut-other : (b : ℕ) (bytes : List ℕ) → b ≢ 10 → cut_at_line_feeds (b ∷ bytes) ≡ in_front b (cut_at_line_feeds bytes)
cut-other b bytes other = rw (ne_eqb b 10 other) refl

cut-first : (b : ℕ) (bytes : List ℕ) → cut_at_line_feeds (b ∷ bytes) ≡ take (feed_place (b ∷ bytes)) (b ∷ bytes) ∷ cut_at_line_feeds (drop (suc (feed_place (b ∷ bytes))) (b ∷ bytes))
cut-first b [] =
    elim (cases_eq b 10) [
      | inl feed ↦ rw feed refl
      | inr other ↦ cut-other b [] other ∙ rw (feed_place-other b [] other) refl
    ]
cut-first b (c ∷ bytes) =
    elim (cases_eq b 10) [
      | inl feed ↦ rw feed refl
      | inr other ↦ cut-other b (c ∷ bytes) other ∙ ap (in_front b) (cut-first c bytes) ∙ rw (feed_place-other b (c ∷ bytes) other) refl
    ]

-- ---- the return at the end

pub without_return-dropped : (bytes : List ℕ) (n : ℕ) → n + 1 ≡ length bytes → get_or bytes n 0 ≡ 13 → take n bytes ≡ without_return bytes
without_return-dropped [] n len last = absurd (omega arith)
without_return-dropped (b ∷ []) zero len last = rw last refl
without_return-dropped (b ∷ []) (suc n) len last = absurd (omega arith)
without_return-dropped (b ∷ c ∷ bytes) zero len last = absurd (omega arith)
without_return-dropped (b ∷ c ∷ bytes) (suc n) len last = ap (λ (xs : List ℕ). b ∷ xs) (without_return-dropped (c ∷ bytes) n (omega arith) last)

pub without_return-kept : (bytes : List ℕ) (n : ℕ) → n + 1 ≡ length bytes → get_or bytes n 0 ≢ 13 → bytes ≡ without_return bytes
without_return-kept [] n len last = absurd (omega arith)
without_return-kept (b ∷ []) zero len last = rw (ne_eqb b 13 last) refl
without_return-kept (b ∷ []) (suc n) len last = absurd (omega arith)
without_return-kept (b ∷ c ∷ bytes) zero len last = absurd (omega arith)
without_return-kept (b ∷ c ∷ bytes) (suc n) len last = ap (λ (xs : List ℕ). b ∷ xs) (without_return-kept (c ∷ bytes) n (omega arith) last)

pub without_return-empty : (bytes : List ℕ) → length bytes ≤ 0 → bytes ≡ without_return bytes
without_return-empty [] len = refl
without_return-empty (b ∷ bytes) len = absurd (omega arith)

-- ---- the first line and those after it

pub lines-first : (rest later line : List ℕ) (n k : ℕ) → 0 < length rest → n ≡ feed_place rest → k ≤ n → take k (take n rest) ≡ without_return (take n rest) → line ≡ take k rest → later ≡ drop (suc n) rest
    → lines rest ≡ line ∷ lines later
lines-first [] later line n k some place short front is after = absurd (omega arith)
lines-first (b ∷ bytes) later line n k some place short front is after =
    let cut = cut-first b bytes in
    let same : cut_at_line_feeds (b ∷ bytes) ≡ take n (b ∷ bytes) ∷ cut_at_line_feeds (drop (suc n) (b ∷ bytes)) = rw place cut in
    let head : without_return (take n (b ∷ bytes)) ≡ line = sym front ∙ take-take k n (b ∷ bytes) short ∙ sym is in
    rw (same, after, head) refl

pub drop_past : (bytes : List ℕ) (n : ℕ) → length bytes ≤ n → drop n bytes ≡ drop (suc n) bytes
drop_past [] zero le = refl
drop_past [] (suc n) le = refl
drop_past (b ∷ bytes) zero le = absurd (omega arith)
drop_past (b ∷ bytes) (suc n) le = drop_past bytes n (omega arith)
