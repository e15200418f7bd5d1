-- The rules of what is found are the least ones.
use Rattle.std.proofs.Common.{◌≡◌, ℕ, ◌≤◌, suc, List, [], ◌∷◌, map, All, refl, sym, ap, subst, ◌∙◌}
use Rattle.std.specs.List.{Contains}
use Rattle.std.proofs.lemmas.List.Elements.{All-map}
use Rattle.std.proofs.lemmas.List.Sorted.{All-permutation, Contains-permutation}
use Rattle.cfd_semantics.specs.declared.dependency.Dependency.{Dependency}
use Rattle.cfd_semantics.proofs.Members.{contains-map}
use Rattle.dep_search.specs.Found.{IsFound, IsInOrder, all_found, left_sides, side_at}
use Rattle.dep_search.specs.Rows.{Row, row_at}
use Rattle.dep_search.specs.declared.candidate.Candidate.{Candidate}
use Rattle.rule_model.specs.declared.dep.Dep.{Dep}
use Rattle.dep_finder.specs.Deps.{deps_from, rule_of}
use Rattle.dep_finder.specs.Minimal.{AreLeast, Hold, IsCandidate, IsMinimal, LeavesOne, constant, plain}
use Rattle.dep_finder.specs.Minimal.IsCandidate.{as_constant, as_plain}
use Rattle.dep_finder.proofs.Meaning.{AreWide, text_at, texts_at}
use Rattle.dep_finder.proofs.Laws.{constant_cells, constant_left, constant_minimal, constants_of, part_plain, plain_left, plain_minimal, sides_of, tests_of}
use Rattle.dep_finder.proofs.FoundLists.{constant_of, found_each, plain_of, sides_are}

abbrev pub rules_of : List Row → List (List ℕ) → List Candidate → List (Dependency (List ℕ))
rules_of rows sides found = map (λ (c : Candidate). rule_of rows (side_at sides c.side) c) found

module _ (rows : List Row) (attrs width support : ℕ) (wide : AreWide attrs rows) (some : 1 ≤ support) (found : List Candidate) (is : IsFound rows attrs width support found) where
  abbrev lefts : List (List ℕ)
  lefts = left_sides attrs width

  abbrev rule_at : Candidate → Dependency (List ℕ)
  rule_at c = rule_of rows (side_at lefts c.side) c

  -- what is so of each that is found is so of the rules
  each_rule : (P : Dependency (List ℕ) → Type 0) → All (λ (c : Candidate). P (rule_at c)) (all_found rows support attrs lefts) → All P (rules_of rows lefts found)
  each_rule P all = All-map P rule_at found (All-permutation (λ (c : Candidate). P (rule_at c)) (all_found rows support attrs lefts) found is.all all)

  has_rule : (c : Candidate) → Contains (all_found rows support attrs lefts) c → Contains (rules_of rows lefts found) (rule_at c)
  has_rule c among = contains-map rule_at found c (Contains-permutation (all_found rows support attrs lefts) found c is.all among)

  candidates : All (IsCandidate rows attrs width support) (rules_of rows lefts found)
  candidates = each_rule (IsCandidate rows attrs width support) (found_each (λ (c : Candidate). IsCandidate rows attrs width support (rule_at c)) rows support attrs lefts
      (λ side a sl al outside test. as_plain (side_at lefts side) a (sides_of attrs width (side_at lefts side) a (sides_are attrs width side [] sl) al outside) refl)
      (λ side a r sl al outside rl test. as_constant (side_at lefts side) a (texts_at rows r (side_at lefts side)) (text_at rows r a)
      (sides_of attrs width (side_at lefts side) a (sides_are attrs width side [] sl) al outside)
      (constants_of rows support (side_at lefts side) a r (tests_of rows support (side_at lefts side) a r test))
      (constant_cells (row_at rows r) (side_at lefts side) a (text_at rows r a))))

  minimal : All (IsMinimal rows) (rules_of rows lefts found)
  minimal = each_rule (IsMinimal rows) (found_each (λ (c : Candidate). IsMinimal rows (rule_at c)) rows support attrs lefts
      (λ side a sl al outside test. plain_minimal rows attrs (side_at lefts side) a wide (sides_are attrs width side [] sl).within al test)
      (λ side a r sl al outside rl test. subst (IsMinimal rows) (constant_cells (row_at rows r) (side_at lefts side) a (text_at rows r a))
      (constant_minimal rows attrs support (side_at lefts side) a r wide (sides_are attrs width side [] sl).within al test)))

  enough : (rule : Dependency (List ℕ)) → IsCandidate rows attrs width support rule → Hold rows rule → LeavesOne (rules_of rows lefts found) rule
  enough rule (as_plain x a are same) holds =
      let left = plain_left rows attrs width support x a wide are (subst (Hold rows) (sym same) holds) in
      subst (LeavesOne (rules_of rows lefts found)) same
      (left.kept, subst (Contains (rules_of rows lefts found)) (ap (λ (y : List ℕ). plain y a) left.is ∙ sym (part_plain left.kept x a)) (has_rule (plain_of a left.side) left.found))
  enough rule (as_constant x a values value are constants same) holds =
      let left = constant_left rows attrs width support x a values value wide some are constants (subst (Hold rows) (sym same) holds) in
      subst (LeavesOne (rules_of rows lefts found)) same (
        left.kept,
        subst (Contains (rules_of rows lefts found))
            (sym (constant_cells (row_at rows left.r) (side_at lefts left.side) a (text_at rows left.r a))
            ∙ ap (λ (y : List ℕ). constant y a (texts_at rows left.r y) (text_at rows left.r a)) left.is ∙ sym left.same)
            (has_rule (constant_of a left.side left.r) left.found),
      )

  pub are_least : AreLeast rows attrs width support (rules_of rows lefts found)
  are_least = record { candidates = candidates; minimal = minimal; enough = enough }

-- ---- the rules of dependencies that are named

rules_from : (number : ℕ) (rows : List Row) (sides : List (List ℕ)) (start : ℕ) (found : List Candidate)
    → map (λ (dep : Dep). dep.rule) (deps_from number rows sides start found) ≡ rules_of rows sides found
rules_from number rows sides start [] = refl
rules_from number rows sides start (c ∷ found) = ap (λ (rules : List (Dependency (List ℕ))). rule_of rows (side_at sides c.side) c ∷ rules) (rules_from number rows sides (suc start) found)

-- what is searched, sorted and named, each step over the same left sides
pub record AreNamed (number : ℕ) (rows : List Row) (attrs width support : ℕ) (deps : List Dep) : Type 0 where
  pub all : List Candidate
  pub sorted : List Candidate
  pub is_all : all ≡ all_found rows support attrs (left_sides attrs width)
  pub in_order : IsInOrder rows (left_sides attrs width) all sorted
  pub named : deps ≡ deps_from number rows (left_sides attrs width) 0 sorted

pub named_least : (number : ℕ) (rows : List Row) (attrs width support : ℕ) (deps : List Dep) → AreWide attrs rows → 1 ≤ support → AreNamed number rows attrs width support deps
    → AreLeast rows attrs width support (map (λ (dep : Dep). dep.rule) deps)
named_least number rows attrs width support deps wide some are =
    subst (AreLeast rows attrs width support) (sym (ap (map (λ (dep : Dep). dep.rule)) are.named ∙ rules_from number rows (left_sides attrs width) 0 are.sorted))
    (are_least rows attrs width support wide some are.sorted (subst (λ (all : List Candidate). IsInOrder rows (left_sides attrs width) all are.sorted) are.is_all are.in_order))

-- the steps, each with its own names for what is the same
pub steps_named : (number : ℕ) (rows rows_seen : List Row) (attrs attrs_seen width support : ℕ) (sides searched ordered named : List (List ℕ)) (all all_seen sorted sorted_seen : List Candidate) (deps : List Dep)
    → rows_seen ≡ rows → attrs_seen ≡ attrs → sides ≡ left_sides attrs_seen width → searched ≡ sides → ordered ≡ sides → named ≡ sides
    → all ≡ all_found rows_seen support attrs_seen searched → all_seen ≡ all → IsInOrder rows_seen ordered all_seen sorted → sorted_seen ≡ sorted
    → deps ≡ deps_from number rows_seen named 0 sorted_seen → AreNamed number rows attrs width support deps
steps_named number rows rows_seen attrs attrs_seen width support sides searched ordered named all all_seen sorted sorted_seen deps er ea es e1 e2 e3 ef ex in_order ey ed =
    let same : sides ≡ left_sides attrs width = es ∙ ap (λ (n : ℕ). left_sides n width) ea in
    let first : searched ≡ left_sides attrs width = e1 ∙ same in
    let second : ordered ≡ left_sides attrs width = e2 ∙ same in
    let third : named ≡ left_sides attrs width = e3 ∙ same in
    record {
      all = all;
      sorted = sorted;
      is_all = ef ∙ (λ i. all_found (er i) support (ea i) (first i));
      in_order = subst (λ (r : List Row). IsInOrder r (left_sides attrs width) all sorted) er
          (subst (λ (s : List (List ℕ)). IsInOrder rows_seen s all sorted) second (subst (λ (xs : List Candidate). IsInOrder rows_seen ordered xs sorted) ex in_order));
      named = ed ∙ (λ i. deps_from number (er i) (third i) 0 (ey i));
    }
