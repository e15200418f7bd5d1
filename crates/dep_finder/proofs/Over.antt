-- The rules of candidates are over the attributes of their table.
use Rattle.std.proofs.Common.{ℕ, suc, ◌<◌, List, [], ◌∷◌, length, All}
use Rattle.std.proofs.lemmas.List.Elements.{All-cons, All-head, All-nil, All-tail}
use Rattle.schema_core.specs.declared.schema.Attr.{Attr}
use Rattle.dep_search.specs.Rows.{Row}
use Rattle.dep_search.specs.Keys.{IsCandidate}
use Rattle.dep_search.specs.declared.candidate.Candidate.{Candidate}
use Rattle.dep_finder.specs.Deps.{IsOver, deps_from}

pub deps_over : (attrs : List Attr) (number : ℕ) (rows : List Row) (sides : List (List ℕ)) (start : ℕ) (found : List Candidate)
    → All (λ (side : List ℕ). All (λ attr. attr < length attrs) side) sides → All (IsCandidate rows sides) found → All (λ (c : Candidate). c.a < length attrs) found
    → All (IsOver attrs) (deps_from number rows sides start found)
deps_over attrs number rows sides start [] within known at = All-nil (IsOver attrs)
deps_over attrs number rows sides start (c ∷ found) within known at =
    All-cons (IsOver attrs) _ _
    (record { x = within c.side [] (All-head (IsCandidate rows sides) c found known).side; a = All-head (λ (c : Candidate). c.a < length attrs) c found at })
    (deps_over attrs number rows sides (suc start) found within (All-tail (IsCandidate rows sides) c found known) (All-tail (λ (c : Candidate). c.a < length attrs) c found at))
