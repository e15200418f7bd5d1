-- Rules of candidates, one candidate further, and how many there are.
use Rattle.std.proofs.Common.{◌≡◌, ℕ, zero, suc, ◌+◌, ◌<◌, List, [], ◌∷◌, ◌++◌, take, length, get_or, refl, ap, ◌∙◌, arith}
use Rattle.rule_model.specs.declared.dep.Dep.{Dep}
use Rattle.dep_search.specs.Rows.{Row}
use Rattle.dep_search.specs.declared.candidate.Candidate.{Candidate}
use Rattle.dep_finder.specs.Deps.{dep_of, deps_from}

from_more : (number : ℕ) (rows : List Row) (sides : List (List ℕ)) (start : ℕ) (found : List Candidate) (n : ℕ) (d : Candidate) → n < length found
    → deps_from number rows sides start (take (suc n) found)
    ≡ deps_from number rows sides start (take n found) ++ dep_of number rows sides (start + n) (get_or found n d) ∷ []
from_more number rows sides start [] n d l = absurd (omega arith)
from_more number rows sides start (c ∷ found) zero d l =
    let place : start ≡ start + zero = omega arith in
    λ i. dep_of number rows sides (place i) c ∷ []
from_more number rows sides start (c ∷ found) (suc n) d l =
    let place : suc start + n ≡ start + suc n = omega arith in
    ap (λ (ds : List Dep). dep_of number rows sides start c ∷ ds)
    (from_more number rows sides (suc start) found n d (omega arith)
    ∙ ap (λ (m : ℕ). deps_from number rows sides (suc start) (take n found) ++ dep_of number rows sides m (get_or found n d) ∷ []) place)

pub deps_more : (number : ℕ) (rows : List Row) (sides : List (List ℕ)) (found : List Candidate) (n : ℕ) (d : Candidate) → n < length found
    → deps_from number rows sides 0 (take (n + 1) found) ≡ deps_from number rows sides 0 (take n found) ++ dep_of number rows sides n (get_or found n d) ∷ []
deps_more number rows sides found n d l =
    let next : n + 1 ≡ suc n = omega arith in
    let place : 0 + n ≡ n = omega arith in
    ap (λ (m : ℕ). deps_from number rows sides 0 (take m found)) next ∙ from_more number rows sides 0 found n d l
    ∙ ap (λ (m : ℕ). deps_from number rows sides 0 (take n found) ++ dep_of number rows sides m (get_or found n d) ∷ []) place

pub deps_long : (number : ℕ) (rows : List Row) (sides : List (List ℕ)) (start : ℕ) (found : List Candidate) → length (deps_from number rows sides start found) ≡ length found
deps_long number rows sides start [] = refl
deps_long number rows sides start (c ∷ found) = ap suc (deps_long number rows sides (suc start) found)
