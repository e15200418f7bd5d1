-- What is told of one rule after that of the rules before it, and of all of them.
use Rattle.std.proofs.Common.{◌≡◌, ℕ, zero, suc, ◌+◌, ◌-◌, ◌<◌, ◌≤◌, List, [], ◌++◌, map, length, take, refl, sym, ap, subst, ◌∙◌, arith, append_assoc, add-one}
use Rattle.std.specs.Prelude.{nat_lt, sum_by}
use Rattle.std.specs.Option.{option_map_or}
use Rattle.std.proofs.lemmas.Bool.{cond-false, cond-true, le-ltb, lt-ltb}
use Rattle.std.proofs.lemmas.List.{append-nil, take_all}
use Rattle.std.proofs.lemmas.List.Sums.{sum_by_more}
use Rattle.std.proofs.lemmas.Option.{get_or_from_slice_get}
use Rattle.cfd_semantics.specs.Numbered.{numbered}
use Rattle.rule_model.specs.declared.dep.Dep.{Dep}
use Rattle.rule_model.specs.declared.cind.Cind.{Cind}
use Rattle.rule_model.specs.Books.{Book, book_cinds, book_deps}
use Rattle.bench_core.specs.Answers.{cind_orphans, dep_violations}
use Rattle.bench_core.specs.State.{State}
use Rattle.bench_core.proofs.Answering.{item-there}
use Rattle.violation_report.specs.Listing.{cind_line, dep_line, dep_lines, listing}
use Rattle.violation_report.specs.RuleNumbers.{lines_at, number_at, rule_at, rule_count}
use Rattle.violation_report.specs.declared.line.Line.{Line}
use Rattle.violation_report.specs.declared.rules.Rule.TheVariants.{Dep as DepNumber, Cind as CindNumber}
use Rattle.violation_report.proofs.Loops.{cind-lines-more, dep-lines-more}

-- ---- the rule at a place

module _ (rules : Book) where
  abbrev deps : ℕ
  deps = length (book_deps rules)

  pub at-dep : (place : ℕ) → place < deps → rule_at rules place ≡ DepNumber place
  at-dep place within = cond-true (nat_lt place deps) (DepNumber place) (CindNumber (place - deps)) (lt-ltb place deps within)

  pub at-cind : (number : ℕ) → rule_at rules (deps + number) ≡ CindNumber number
  at-cind number =
      let back : (deps + number) - deps ≡ number = omega arith in
      cond-false (nat_lt (deps + number) deps) (DepNumber (deps + number)) (CindNumber ((deps + number) - deps)) (le-ltb (deps + number) deps (omega arith)) ∙ ap (λ n. CindNumber n) back

-- ---- lines

-- the lines of the rules before a place
abbrev pub lines_before : Book → State → ℕ → List Line
lines_before rules state zero = []
lines_before rules state (suc place) = lines_before rules state place ++ lines_at rules state (rule_at rules place)

module _ (rules : Book) (state : State) where
  abbrev of_deps : ℕ → List Line
  of_deps n = map dep_line (numbered (dep_violations state) (take n (book_deps rules)))

  abbrev of_cinds : ℕ → List Line
  of_cinds n = map cind_line (numbered (cind_orphans state) (take n (book_cinds rules)))

  lines-deps : (n : ℕ) → n ≤ length (book_deps rules) → lines_before rules state n ≡ of_deps n
  lines-deps zero within = refl
  lines-deps (suc n) within =
      ap (λ lines. lines ++ lines_at rules state (rule_at rules n)) (lines-deps n (omega arith))
      ∙ ap (λ rule. of_deps n ++ lines_at rules state rule) (at-dep rules n (omega arith))
      ∙ sym (dep-lines-more rules state n (omega arith))
      ∙ ap of_deps (add-one n)

  lines-cinds : (n : ℕ) → n ≤ length (book_cinds rules) → lines_before rules state (length (book_deps rules) + n) ≡ dep_lines rules state ++ of_cinds n
  lines-cinds zero within =
      let none : length (book_deps rules) + 0 ≡ length (book_deps rules) = omega arith in
      ap (lines_before rules state) none
      ∙ lines-deps (length (book_deps rules)) (omega arith)
      ∙ ap (λ all. map dep_line (numbered (dep_violations state) all)) (take_all (length (book_deps rules)) (book_deps rules) (omega arith))
      ∙ sym (append-nil (dep_lines rules state))
  lines-cinds (suc n) within =
      let step : length (book_deps rules) + suc n ≡ suc (length (book_deps rules) + n) = omega arith in
      ap (lines_before rules state) step
      ∙ ap (λ lines. lines ++ lines_at rules state (rule_at rules (length (book_deps rules) + n))) (lines-cinds n (omega arith))
      ∙ ap (λ rule. (dep_lines rules state ++ of_cinds n) ++ lines_at rules state rule) (at-cind rules n)
      ∙ append_assoc (dep_lines rules state) (of_cinds n) (lines_at rules state (CindNumber n))
      ∙ ap (λ lines. dep_lines rules state ++ lines) (sym (cind-lines-more rules state n (omega arith)) ∙ ap of_cinds (add-one n))

  pub lines-next : (place : ℕ) → lines_before rules state (place + 1) ≡ lines_before rules state place ++ lines_at rules state (rule_at rules place)
  lines-next place = ap (lines_before rules state) (add-one place)

  -- those of all rules are the list
  pub lines-all : lines_before rules state (rule_count rules) ≡ listing rules state
  lines-all =
      lines-cinds (length (book_cinds rules)) (omega arith)
      ∙ ap (λ all. dep_lines rules state ++ map cind_line (numbered (cind_orphans state) all)) (take_all (length (book_cinds rules)) (book_cinds rules) (omega arith))

-- ---- numbers

module _ (of_dep : Dep → ℕ) (of_cind : Cind → ℕ) (rules : Book) where
  abbrev pub one : ℕ → ℕ
  one place = number_at of_dep of_cind rules (rule_at rules place)

  -- the sum over the rules before a place
  abbrev pub sum_before : ℕ → ℕ
  sum_before zero = 0
  sum_before (suc place) = sum_before place + one place

  pub sum-next : (place : ℕ) → sum_before (place + 1) ≡ sum_before place + one place
  sum-next place = ap sum_before (add-one place)

  sum-deps : (n : ℕ) → n ≤ length (book_deps rules) → sum_before n ≡ sum_by of_dep (take n (book_deps rules))
  sum-deps zero within = refl
  sum-deps (suc n) within =
      let (dep, at) = item-there (book_deps rules) n (omega arith) in
      let rest = sum-deps n (omega arith) in
      let own : one n ≡ of_dep dep = ap (number_at of_dep of_cind rules) (at-dep rules n (omega arith)) ∙ ap (λ o. option_map_or of_dep o 0) at in
      let more = sum_by_more of_dep (book_deps rules) n dep (omega arith) in
      let same = ap of_dep (get_or_from_slice_get (book_deps rules) n dep dep at) in
      let next = ap (λ k. sum_by of_dep (take k (book_deps rules))) (add-one n) in
      omega (arith, rest, own, more, same, next)

  sum-cinds : (n : ℕ) → n ≤ length (book_cinds rules) → sum_before (length (book_deps rules) + n) ≡ sum_by of_dep (book_deps rules) + sum_by of_cind (take n (book_cinds rules))
  sum-cinds zero within =
      let all = ap (sum_by of_dep) (take_all (length (book_deps rules)) (book_deps rules) (omega arith)) in
      let deps = sum-deps (length (book_deps rules)) (omega arith) in
      let none : length (book_deps rules) + 0 ≡ length (book_deps rules) = omega arith in
      let here = ap sum_before none in
      omega (arith, all, deps, here)
  sum-cinds (suc n) within =
      let (cind, at) = item-there (book_cinds rules) n (omega arith) in
      let rest = sum-cinds n (omega arith) in
      let own : one (length (book_deps rules) + n) ≡ of_cind cind = ap (number_at of_dep of_cind rules) (at-cind rules n) ∙ ap (λ o. option_map_or of_cind o 0) at in
      let more = sum_by_more of_cind (book_cinds rules) n cind (omega arith) in
      let same = ap of_cind (get_or_from_slice_get (book_cinds rules) n cind cind at) in
      let next = ap (λ k. sum_by of_cind (take k (book_cinds rules))) (add-one n) in
      let step : length (book_deps rules) + suc n ≡ suc (length (book_deps rules) + n) = omega arith in
      let here = ap sum_before step in
      omega (arith, rest, own, more, same, next, here)

  sum-all : sum_before (rule_count rules) ≡ sum_by of_dep (book_deps rules) + sum_by of_cind (book_cinds rules)
  sum-all =
      let all = ap (sum_by of_cind) (take_all (length (book_cinds rules)) (book_cinds rules) (omega arith)) in
      let cinds = sum-cinds (length (book_cinds rules)) (omega arith) in
      omega (arith, all, cinds)

  sum-grows : (n more : ℕ) → sum_before n ≤ sum_before (n + more)
  sum-grows n zero = let none : n + 0 ≡ n = omega arith in let here = ap sum_before none in omega (arith, here)
  sum-grows n (suc more) =
      let rest = sum-grows n more in
      let step : n + suc more ≡ suc (n + more) = omega arith in
      let here = ap sum_before step in
      omega (arith, rest, here)

  -- some rules take no more than all
  pub probes-whole : (place start next : ℕ) → place ≤ rule_count rules → next ≤ start + sum_before place → next ≤ start + (sum_by of_dep (book_deps rules) + sum_by of_cind (book_cinds rules))
  probes-whole place start next within few =
      let back : place + (rule_count rules - place) ≡ rule_count rules = omega arith in
      let grows = subst (λ n. sum_before place ≤ sum_before n) back (sum-grows place (rule_count rules - place)) in
      let all = sum-all in
      omega (arith, few, grows, all)

  -- the same where one rule more was the last
  pub probes-cut : (place start steps next : ℕ) → place < rule_count rules → steps ≤ start + sum_before place → next ≤ steps + one place → next ≤ start + (sum_by of_dep (book_deps rules) + sum_by of_cind (book_cinds rules))
  probes-cut place start steps next within so_far few = probes-whole (suc place) start next (omega arith) (omega (arith, so_far, few))
