-- Keys, attribute by attribute, and cells, place by place.
use Rattle.std.proofs.Common.{◌≡◌, ◌≢◌, ℕ, ◌+◌, ◌<◌, ◌≤◌, Bool, true, false, ◌&&◌, List, [], ◌∷◌, length, get_or, drop, refl, sym, ap, ◌∙◌, arith}
use Rattle.std.specs.Prelude.{nat_eq}
use Rattle.std.proofs.lemmas.Bool.Decides.{nat_tests}
use Rattle.std.proofs.lemmas.List.{drop_more, drop_all}
use Rattle.cfd_semantics.specs.declared.pattern.Pattern.{Pattern}
use Rattle.cfd_semantics.specs.Pattern.{matches, all_match}

-- one more place is one more test
pub match_more : (cells : List (Pattern ℕ)) (ids : List ℕ) (i : ℕ) (cell : Pattern ℕ) (id : ℕ) → i < length cells → i < length ids → cell ≡ get_or cells i cell → id ≡ get_or ids i 0
    → all_match nat_eq (drop i cells) (drop i ids) ≡ (matches nat_eq cell id && all_match nat_eq (drop (i + 1) cells) (drop (i + 1) ids))
match_more cells ids i cell id h k is at =
    ap (λ cs. all_match nat_eq cs (drop i ids)) (drop_more cells i cell h) ∙ ap (λ rest. all_match nat_eq (get_or cells i cell ∷ drop (i + 1) cells) rest) (drop_more ids i 0 k)
    ∙ ap (λ c. matches nat_eq c (get_or ids i 0) && all_match nat_eq (drop (i + 1) cells) (drop (i + 1) ids)) (sym is)
    ∙ ap (λ v. matches nat_eq cell v && all_match nat_eq (drop (i + 1) cells) (drop (i + 1) ids)) (sym at)

pub match_end : (cells : List (Pattern ℕ)) (ids : List ℕ) (i : ℕ) → length cells ≡ length ids → length ids ≤ i → all_match nat_eq (drop i cells) (drop i ids) ≡ true
match_end cells ids i same past =
    ap (λ cs. all_match nat_eq cs (drop i ids)) (drop_all i cells (omega arith)) ∙ ap (λ rest. all_match nat_eq [] rest) (drop_all i ids past)

pub match_long : (cells : List (Pattern ℕ)) (ids : List ℕ) → length cells ≢ length ids → all_match nat_eq cells ids ≡ false
match_long [] [] long = absurd (long refl)
match_long [] (v ∷ vs) long = refl
match_long (c ∷ cs) [] long = refl
match_long (c ∷ cs) (v ∷ vs) long = ap (λ b. matches nat_eq c v && b) (match_long cs vs (λ same. long (omega (arith, same)))) ∙ none (matches nat_eq c v)
  where
    none : (b : Bool) → (b && false) ≡ false
    none true = refl
    none false = refl
