-- Lists that are drawn, one item after the other.
use Rattle.std.proofs.Common.{◌≡◌, ℕ, zero, suc, ◌+◌, List, [], ◌∷◌, ◌++◌, ◌≤◌, All, ap, sym, ◌∙◌, add-zero, add-one, le_antisymm, arith, refl}
use Rattle.std.proofs.lemmas.List.Elements.{All-cons, All-nil}
use Rattle.drawn_project.specs.Draws.{Drawn, for_each}

-- one more, drawn for a number behind what was drawn
abbrev pub one_more : {X : Type 0} → (ℕ → Drawn X) → ℕ → List X × ℕ → List X × ℕ
one_more one number drawn = let x = one number drawn.1 in (drawn.0 ++ x.0 ∷ [], x.1)

-- for no number nothing is drawn
pub for_each-none : {X : Type 0} (one : ℕ → Drawn X) (first word : ℕ) → for_each one first 0 word ≡ ([], word)
unfolding for_each
for_each-none one first word = refl

more : {X : Type 0} (one : ℕ → Drawn X) (first count word : ℕ) → for_each one first (suc count) word ≡ one_more one (first + count) (for_each one first count word)
unfolding for_each
more one first zero word = ap (λ n. let x = one n word in (x.0 ∷ [], x.1)) (sym (add-zero first))
more one first (suc count) word =
    let x = one first word in
    let rest = for_each one (first + 1) count x.1 in
    ap (λ r. (x.0 ∷ r.0, r.1)) (more one (first + 1) count x.1)
    ∙ ap (λ n. let y = one n rest.1 in (x.0 ∷ (rest.0 ++ y.0 ∷ []), y.1)) (omega arith)

-- for one number more one more is drawn at the end
pub for_each-more : {X : Type 0} (one : ℕ → Drawn X) (first count word : ℕ) → for_each one first (count + 1) word ≡ one_more one (first + count) (for_each one first count word)
for_each-more one first count word = rw (add-one count) (more one first count word)

-- the same, where it was drawn and pushed
pub drawn-pushed : {X : Type 0} (one : ℕ → Drawn X) (first count number word between after : ℕ) (xs ys : List X) (x : X) → first + count ≡ number → (xs, between) ≡ for_each one first count word → (x, after) ≡ one number between → ys ≡ xs ++ x ∷ []
    → (ys, after) ≡ for_each one first (count + 1) word
drawn-pushed {X} one first count number word between after xs ys x at so_far drawn pushed =
    ap (λ (zs : List X). (zs, after)) pushed
    ∙ ap (λ (p : X × ℕ). (xs ++ p.0 ∷ [], p.1)) drawn
    ∙ ap (λ n. one_more one n (xs, between)) (sym at)
    ∙ ap (one_more one (first + count)) so_far
    ∙ sym (for_each-more one first count word)

-- as many as there were to be
pub all_drawn : {X : Type 0} (one : ℕ → Drawn X) (first count most word after : ℕ) (xs : List X) → most ≤ count → count ≤ most → (xs, after) ≡ for_each one first count word → (xs, after) ≡ for_each one first most word
all_drawn {X} one first count most word after xs past within so_far = so_far ∙ ap (λ n. for_each one first n word) (le_antisymm within past)

-- what holds of each that is drawn
pub All-drawn : {X : Type 0} (P : X → Type 0) (one : ℕ → Drawn X) → ((number word : ℕ) → P (one number word).0) → (first count word : ℕ) → All P (for_each one first count word).0
unfolding for_each
All-drawn P one each first zero word = All-nil P
All-drawn P one each first (suc count) word = All-cons P (one first word).0 (for_each one (first + 1) count (one first word).1).0 (each first word) (All-drawn P one each (first + 1) count (one first word).1)
