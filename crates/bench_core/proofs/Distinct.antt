-- Lists in which each item stands once.
use Rattle.std.proofs.Common.{◌≡◌, ℕ, ◌+◌, ◌<◌, Bool, true, false, cond, not, ◌||◌, List, [], ◌∷◌, ◌++◌, length, take, map, filter, get_or, refl, sym, ap, ◌∙◌, sum_by, min, arith, add-zero, zero-add}
use Rattle.std.specs.List.{list_any}
use Rattle.std.proofs.lemmas.List.{append-nil, take_more, map-append}
use Rattle.std.proofs.lemmas.List.Elements.{filter-append}
use Rattle.std.proofs.lemmas.List.Sums.{sum_by-append}
use Rattle.rule_model.specs.declared.edit_rule.EditRule.{EditRule}
use Rattle.bench_core.specs.Sizes.{distinct_by, column_lists, columns_of, columns_weight, same_columns}
use Rattle.bench_index.proofs.ListsOnce.{list_any-map}

more_cases : {X : Type 0} (same : X → X → Bool) (x y : X) (xs : List X) (here later : Bool) → same x y ≡ here → distinct_by same (xs ++ y ∷ []) ≡ cond later (distinct_by same xs) (distinct_by same xs ++ y ∷ [])
    → distinct_by same ((x ∷ xs) ++ y ∷ []) ≡ cond (here || later) (distinct_by same (x ∷ xs)) (distinct_by same (x ∷ xs) ++ y ∷ [])
more_cases same x y xs true true is ih = ap (λ rest. x ∷ filter (λ z. not (same x z)) rest) ih
more_cases same x y xs false true is ih = ap (λ rest. x ∷ filter (λ z. not (same x z)) rest) ih
more_cases same x y xs true false is ih =
    ap (λ rest. x ∷ filter (λ z. not (same x z)) rest) ih ∙ ap (λ rest. x ∷ rest) (filter-append (λ z. not (same x z)) (distinct_by same xs) (y ∷ []) ∙ rw is (append-nil (filter (λ z. not (same x z)) (distinct_by same xs))))
more_cases same x y xs false false is ih =
    ap (λ rest. x ∷ filter (λ z. not (same x z)) rest) ih ∙ ap (λ rest. x ∷ rest) (filter-append (λ z. not (same x z)) (distinct_by same xs) (y ∷ []) ∙ rw is refl)

-- one more item joins where no earlier one is the same
pub distinct_by-push : {X : Type 0} (same : X → X → Bool) (xs : List X) (y : X) → distinct_by same (xs ++ y ∷ []) ≡ cond (list_any (λ x. same x y) xs) (distinct_by same xs) (distinct_by same xs ++ y ∷ [])
distinct_by-push same [] y = refl
distinct_by-push same (x ∷ xs) y = more_cases same x y xs (same x y) (list_any (λ x. same x y) xs) refl (distinct_by-push same xs y)

-- the column lists with that of one more rule
column_lists-more : (edits : List EditRule) (i : ℕ) (rule : EditRule) → i < length edits → rule ≡ get_or edits i rule
    → column_lists (take (i + 1) edits) ≡ cond (list_any (λ other. same_columns (columns_of other) (columns_of rule)) (take i edits)) (column_lists (take i edits)) (column_lists (take i edits) ++ columns_of rule ∷ [])
column_lists-more edits i rule within is =
    ap column_lists (take_more edits i rule within) ∙ ap (λ (r : EditRule). column_lists (take i edits ++ r ∷ [])) (sym is)
    ∙ ap (distinct_by same_columns) (map-append columns_of (take i edits) (rule ∷ []))
    ∙ distinct_by-push same_columns (map columns_of (take i edits)) (columns_of rule)
    ∙ ap (λ any. cond any (column_lists (take i edits)) (column_lists (take i edits) ++ columns_of rule ∷ [])) (list_any-map (λ other. same_columns other (columns_of rule)) columns_of (take i edits))

weight_cases : (table : ℕ) (lists : List (ℕ × List ℕ)) (one : ℕ × List ℕ) (any : Bool) → sum_by (columns_weight table) (cond any lists (lists ++ one ∷ [])) ≡ sum_by (columns_weight table) lists + cond any 0 (columns_weight table one)
weight_cases table lists one true = sym (add-zero (sum_by (columns_weight table) lists))
weight_cases table lists one false = sum_by-append (columns_weight table) lists (one ∷ []) ∙ ap (λ n. sum_by (columns_weight table) lists + n) (zero-add (columns_weight table one))

-- what they weigh with that of one more rule
pub weight-more : (edits : List EditRule) (table i : ℕ) (rule : EditRule) → i < length edits → rule ≡ get_or edits i rule
    → sum_by (columns_weight table) (column_lists (take (i + 1) edits))
    ≡ sum_by (columns_weight table) (column_lists (take i edits)) + cond (list_any (λ other. same_columns (columns_of other) (columns_of rule)) (take i edits)) 0 (columns_weight table (columns_of rule))
weight-more edits table i rule within is =
    ap (sum_by (columns_weight table)) (column_lists-more edits i rule within is)
    ∙ weight_cases table (column_lists (take i edits)) (columns_of rule) (list_any (λ other. same_columns (columns_of other) (columns_of rule)) (take i edits))

-- a sum that stops, with a summand that stops
pub stopped-more : (all one sum own next most : ℕ) → sum ≡ min all most → own ≡ min one most → next ≡ min (sum + own) most → next ≡ min (all + one) most
stopped-more all one sum own next most so_far is total = omega arith
