-- What is written part by part, and of which a front stands there when memory runs out.
use Rattle.std.proofs.Common.{◌≡◌, ℕ, zero, suc, ◌<◌, ◌≤◌, List, [], ◌∷◌, ◌++◌, length, get_or, take, drop, refl, ap, sym, ◌∙◌, append_assoc, arith}
use Rattle.std.specs.Prelude.{Result, Ok, Err, OnErr}
use Rattle.std.specs.List.{flat_map}
use Rattle.std.proofs.lemmas.List.{take_all}
use Rattle.std.proofs.lemmas.Grind.{flat_map-append}
use Rattle.line_grammar.specs.Tokens.{piece, quoted}
use Rattle.line_grammar.specs.Appending.{AppendsPart}

pub OnErr-from : {T E : Type 0} (P : Type 0) (r : Result T E) → P → OnErr r P
OnErr-from P (Ok x) p = tt
OnErr-from P (Err e) p = p

cut_at : {X : Type 0} (xs : List X) (n : ℕ) (d : X) → n < length xs → xs ≡ take n xs ++ get_or xs n d ∷ drop (suc n) xs
cut_at [] n d lt = absurd (omega arith)
cut_at (x ∷ xs) zero d lt = refl
cut_at (x ∷ xs) (suc n) d lt = ap (λ ys. x ∷ ys) (cut_at xs n d (omega arith))

-- a front of an item, behind those before it
pub stopped_at : {X : Type 0} (f : X → List ℕ) (old out new : List ℕ) (xs : List X) (n : ℕ) (d : X) → n < length xs → out ≡ old ++ flat_map f (take n xs) → AppendsPart out new (f (get_or xs n d)) → AppendsPart old new (flat_map f xs)
stopped_at f old out new xs n d inside written stopped =
    let before = flat_map f (take n xs) in
    let after = flat_map f (drop (suc n) xs) in
    let whole : before ++ (f (get_or xs n d) ++ after) ≡ flat_map f xs = sym (flat_map-append f (take n xs) (get_or xs n d ∷ drop (suc n) xs)) ∙ ap (flat_map f) (sym (cut_at xs n d inside)) in
    record {
      part = before ++ stopped.part;
      rest = stopped.rest ++ after;
      parts = append_assoc before stopped.part (stopped.rest ++ after) ∙ ap (λ t. before ++ t) (sym (append_assoc stopped.part stopped.rest after) ∙ ap (λ t. t ++ after) stopped.parts) ∙ whole;
      appended = stopped.appended ∙ ap (λ t. t ++ stopped.part) written ∙ append_assoc old before stopped.part;
    }

-- a front of what stands between two others, behind the first
stopped_between : (old new before middle after : List ℕ) → AppendsPart (old ++ before) new middle → AppendsPart old new (before ++ (middle ++ after))
stopped_between old new before middle after stopped = record {
  part = before ++ stopped.part;
  rest = stopped.rest ++ after;
  parts = append_assoc before stopped.part (stopped.rest ++ after) ∙ ap (λ t. before ++ t) (sym (append_assoc stopped.part stopped.rest after) ∙ ap (λ t. t ++ after) stopped.parts);
  appended = stopped.appended ∙ append_assoc old before stopped.part;
}

-- ---- texts

pub quoted-whole : (old out new bytes text : List ℕ) (n : ℕ) → length bytes ≤ n → bytes ≡ text → out ≡ old ++ 39 ∷ flat_map piece (take n bytes) → new ≡ out ++ 39 ∷ [] → new ≡ old ++ quoted text
unfolding quoted
quoted-whole old out new bytes text n all same written last =
    last ∙ ap (λ (o : List ℕ). o ++ 39 ∷ []) (written ∙ ap (λ (t : List ℕ). old ++ 39 ∷ flat_map piece t) (take_all n bytes all ∙ same)) ∙ append_assoc old (39 ∷ flat_map piece text) (39 ∷ [])

pub quoted-stopped_last : (old out new bytes text : List ℕ) (n : ℕ) → length bytes ≤ n → bytes ≡ text → out ≡ old ++ 39 ∷ flat_map piece (take n bytes) → new ≡ out → AppendsPart old new (quoted text)
unfolding quoted
quoted-stopped_last old out new bytes text n all same written stopped = record {
  part = 39 ∷ flat_map piece text;
  rest = 39 ∷ [];
  parts = refl;
  appended = stopped ∙ written ∙ ap (λ (t : List ℕ). old ++ 39 ∷ flat_map piece t) (take_all n bytes all ∙ same);
}

pub quoted-stopped_in : (old out new bytes text : List ℕ) (n : ℕ) → n < length bytes → bytes ≡ text → out ≡ old ++ 39 ∷ flat_map piece (take n bytes) → AppendsPart out new (piece (get_or bytes n 0)) → AppendsPart old new (quoted text)
unfolding quoted
quoted-stopped_in old out new bytes text n inside same written stopped =
    let behind : out ≡ (old ++ 39 ∷ []) ++ flat_map piece (take n bytes) = written ∙ sym (append_assoc old (39 ∷ []) (flat_map piece (take n bytes))) in
    rw (← same) (stopped_between old new (39 ∷ []) (flat_map piece bytes) (39 ∷ []) (stopped_at piece (old ++ 39 ∷ []) out new bytes n 0 inside behind stopped))
