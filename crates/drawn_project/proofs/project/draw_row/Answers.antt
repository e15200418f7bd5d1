use Rattle.std.proofs.Common.{◌≡◌, List, ℕ, [], ◌∷◌, ◌++◌, codes, decimal, ap, ◌∙◌}
use Rattle.drawn_project.specs.Draws.{draw}
use Rattle.drawn_project.specs.Project.{lettered, row}
use Rattle.drawn_project.proofs.project.draw_row.Goals as goal

-- the row, where all but the last numbers are drawn
with_f : ℕ → ℕ → ℕ → ℕ × ℕ → List (List ℕ) × ℕ
with_f k a b f = (lettered (codes "k") k ∷ lettered (codes "a") a ∷ lettered (codes "b") b ∷ decimal f.0 ∷ [], f.1)

with_b : ℕ → ℕ → ℕ × ℕ → List (List ℕ) × ℕ
with_b k a b = with_f k a b.0 (draw 3 b.1)

with_a : ℕ → ℕ × ℕ → List (List ℕ) × ℕ
with_a k a = with_b k a.0 (draw 3 a.1)

with_k : ℕ × ℕ → List (List ℕ) × ℕ
with_k k = with_a k.0 (draw 7 k.1)

texts : (r0 r1 r2 r3 r4 : List (List ℕ)) (k a b f tk ta tb tf : List ℕ) → r0 ≡ [] → r1 ≡ r0 ++ tk ∷ [] → r2 ≡ r1 ++ ta ∷ [] → r3 ≡ r2 ++ tb ∷ [] → r4 ≡ r3 ++ tf ∷ [] → tk ≡ k → ta ≡ a → tb ≡ b → tf ≡ f → r4 ≡ k ∷ a ∷ b ∷ f ∷ []
texts r0 r1 r2 r3 r4 k a b f tk ta tb tf e0 e1 e2 e3 e4 ek ea eb ef =
    e4
    ∙ ap (λ (r : List (List ℕ)). r ++ tf ∷ []) (e3 ∙ ap (λ (r : List (List ℕ)). r ++ tb ∷ []) (e2 ∙ ap (λ (r : List (List ℕ)). r ++ ta ∷ []) (e1 ∙ ap (λ (r : List (List ℕ)). r ++ tk ∷ []) e0)))
    ∙ (λ i. ek i ∷ ea i ∷ eb i ∷ ef i ∷ [])

pub returns : goal.returns
unfolding row with_f with_b with_a with_k
returns c =
    let made = texts _ _ _ _ _ _ _ _ _ _ _ _ _ c.new-row.ensures c.in_ok-push.ensures.ok c.in_ok-push-2.ensures.ok c.in_ok-push-3.ensures.ok c.in_ok-push-4.ensures.ok
    c.in_ok-lettered.ensures c.in_ok-lettered-2.ensures c.in_ok-lettered-3.ensures c.in_ok-digits.ensures in
    ap (λ (r : List (List ℕ)). (r, c.draw-f.new.self)) made
    ∙ ap (with_f c.draw-k.result c.draw-a.result c.draw-b.result) c.draw-f.ensures.drawn
    ∙ ap (with_b c.draw-k.result c.draw-a.result) c.draw-b.ensures.drawn
    ∙ ap (with_a c.draw-k.result) c.draw-a.ensures.drawn
    ∙ ap with_k c.draw-k.ensures.drawn
