-- The column lists of editing rules, each once.
use Rattle.std.proofs.Common.{◌≡◌, ℕ, ◌+◌, ◌<◌, Bool, true, false, cond, not, ◌||◌, List, [], ◌∷◌, ◌++◌, length, take, map, filter, get_or, refl, sym, ap, ◌∙◌, subst, inl, inr, arith}
use Rattle.std.specs.Prelude.{All, Contains}
use Rattle.std.specs.List.{list_any}
use Rattle.std.proofs.lemmas.Bool.Decides.{nat_tests}
use Rattle.std.proofs.lemmas.Slice.Eq.{bytes_eq-Decides}
use Rattle.std.proofs.lemmas.List.{append-nil, take_more, map-append}
use Rattle.std.proofs.lemmas.List.Elements.{filter-append, All-nil, All-cons, All-head, All-tail, All-filter, Contains-get_or}
use Rattle.cfd_semantics.proofs.Members.{contains-here, contains-there, contains_nothing, contains_cases, contains-map}
use Rattle.cfd_semantics.proofs.SetFacts.{contains-filter}
use Rattle.rule_model.specs.declared.edit_rule.EditRule.{EditRule}
use Rattle.master_index.specs.declared.column_list.ColumnList.{ColumnList}
use Rattle.bench_index.specs.MasterLists.{columns_of, is_same_list, each_once}

same_list : (one other : ColumnList) → is_same_list one other ≡ true → one ≡ other
same_list one other is =
    let master : one.master ≡ other.master = grind (arith, nat_tests, is) in
    let columns : one.columns ≡ other.columns = (bytes_eq-Decides one.columns other.columns).0 (grind (arith, is)) in
    λ i. record { master = master i; columns = columns i }

-- ---- one more list

more_cases : (x y : ColumnList) (xs : List ColumnList) (here later : Bool) → is_same_list x y ≡ here → each_once (xs ++ y ∷ []) ≡ cond later (each_once xs) (each_once xs ++ y ∷ [])
    → each_once ((x ∷ xs) ++ y ∷ []) ≡ cond (here || later) (each_once (x ∷ xs)) (each_once (x ∷ xs) ++ y ∷ [])
more_cases x y xs true true is ih = ap (λ rest. x ∷ filter (λ z. not (is_same_list x z)) rest) ih
more_cases x y xs false true is ih = ap (λ rest. x ∷ filter (λ z. not (is_same_list x z)) rest) ih
more_cases x y xs true false is ih =
    ap (λ rest. x ∷ filter (λ z. not (is_same_list x z)) rest) ih ∙ ap (λ rest. x ∷ rest) (filter-append (λ z. not (is_same_list x z)) (each_once xs) (y ∷ []) ∙ rw is (append-nil (filter (λ z. not (is_same_list x z)) (each_once xs))))
more_cases x y xs false false is ih =
    ap (λ rest. x ∷ filter (λ z. not (is_same_list x z)) rest) ih ∙ ap (λ rest. x ∷ rest) (filter-append (λ z. not (is_same_list x z)) (each_once xs) (y ∷ []) ∙ rw is refl)

-- it joins where no earlier one is the same
each_once-push : (xs : List ColumnList) (y : ColumnList) → each_once (xs ++ y ∷ []) ≡ cond (list_any (λ x. is_same_list x y) xs) (each_once xs) (each_once xs ++ y ∷ [])
each_once-push [] y = refl
each_once-push (x ∷ xs) y = more_cases x y xs (is_same_list x y) (list_any (λ x. is_same_list x y) xs) refl (each_once-push xs y)

pub list_any-map : {X Y : Type 0} (p : Y → Bool) (f : X → Y) (xs : List X) → list_any p (map f xs) ≡ list_any (λ x. p (f x)) xs
list_any-map p f [] = refl
list_any-map p f (x ∷ xs) = ap (λ later. p (f x) || later) (list_any-map p f xs)

-- the lists with that of one more rule
lists-more : (edits : List EditRule) (i : ℕ) (rule : EditRule) → i < length edits → rule ≡ get_or edits i rule
    → each_once (map columns_of (take (i + 1) edits))
    ≡ cond (list_any (λ other. is_same_list (columns_of other) (columns_of rule)) (take i edits)) (each_once (map columns_of (take i edits))) (each_once (map columns_of (take i edits)) ++ columns_of rule ∷ [])
lists-more edits i rule within is =
    let lists_of_rules : List EditRule → List ColumnList = λ rules. each_once (map columns_of rules) in
    ap lists_of_rules (take_more edits i rule within) ∙ ap (λ (r : EditRule). lists_of_rules (take i edits ++ r ∷ [])) (sym is)
    ∙ ap each_once (map-append columns_of (take i edits) (rule ∷ []))
    ∙ each_once-push (map columns_of (take i edits)) (columns_of rule)
    ∙ ap (λ any. cond any (lists_of_rules (take i edits)) (lists_of_rules (take i edits) ++ columns_of rule ∷ [])) (list_any-map (λ other. is_same_list other (columns_of rule)) columns_of (take i edits))

module _ (edits : List EditRule) (i : ℕ) (rule : EditRule) (within : i < length edits) (is : rule ≡ get_or edits i rule) (looked : Bool) (tells : looked ≡ list_any (λ other. is_same_list (columns_of other) (columns_of rule)) (take i edits)) (before : List ColumnList) (so_far : before ≡ each_once (map columns_of (take i edits))) where
  -- a rule with columns of its own, and one that looks at those of an earlier one
  pub list-joins : (list : ColumnList) → list ≡ columns_of rule → (after : List ColumnList) → after ≡ before ++ list ∷ [] → looked ≡ false → after ≡ each_once (map columns_of (take (i + 1) edits))
  list-joins list is_list after grown new =
      grown ∙ ap (λ one. before ++ one ∷ []) is_list ∙ ap (λ lists. lists ++ columns_of rule ∷ []) so_far
      ∙ sym (lists-more edits i rule within is ∙ ap (λ any. cond any (each_once (map columns_of (take i edits))) (each_once (map columns_of (take i edits)) ++ columns_of rule ∷ [])) (sym tells ∙ new))

  pub list-stays : looked ≡ true → before ≡ each_once (map columns_of (take (i + 1) edits))
  list-stays old =
      so_far ∙ sym (lists-more edits i rule within is ∙ ap (λ any. cond any (each_once (map columns_of (take i edits))) (each_once (map columns_of (take i edits)) ++ columns_of rule ∷ [])) (sym tells ∙ old))

-- ---- which lists stand there

each_once-contains : (lists : List ColumnList) (list : ColumnList) → Contains lists list → Contains (each_once lists) list
each_once-contains [] list inside = absurd (contains_nothing list inside)
each_once-contains (first ∷ lists) list inside = elim (contains_cases list first lists inside) [
  | inl is ↦ subst (Contains (each_once (first ∷ lists))) is (contains-here first others)
  | inr later ↦ by (is_same_list first list) refl (each_once-contains lists list later)
]
  where
    others : List ColumnList
    others = filter (λ other. not (is_same_list first other)) (each_once lists)

    by : (b : Bool) → is_same_list first list ≡ b → Contains (each_once lists) list → Contains (each_once (first ∷ lists)) list
    by true is inside = subst (Contains (each_once (first ∷ lists))) (same_list first list is) (contains-here first others)
    by false is inside = contains-there list first others (contains-filter (λ other. not (is_same_list first other)) (each_once lists) list inside (ap not is))

-- that of each rule
pub lists-of_rules : (edits : List EditRule) → All (λ (rule : EditRule). Contains (each_once (map columns_of edits)) (columns_of rule)) edits
lists-of_rules edits k d within =
    each_once-contains (map columns_of edits) (columns_of (get_or edits k d)) (contains-map columns_of edits (get_or edits k d) (Contains-get_or edits k d within))

-- and no other
pub each_once-all : (P : ColumnList → Type 0) (lists : List ColumnList) → All P lists → All P (each_once lists)
each_once-all P [] all = All-nil P
each_once-all P (list ∷ lists) all =
    All-cons P list (filter (λ other. not (is_same_list list other)) (each_once lists)) (All-head P list lists all) (All-filter (λ other. not (is_same_list list other)) P (each_once lists) (each_once-all P lists (All-tail P list lists all)))
