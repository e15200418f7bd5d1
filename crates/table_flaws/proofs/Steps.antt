-- What is found in a list, one item after the other, and what is odd in one column more.
use Rattle.std.proofs.Common.{◌≡◌, ℕ, suc, ◌+◌, ◌<◌, Bool, true, false, ◌&&◌, List, [], ◌∷◌, ◌++◌, length, get_or, drop, ap, sym, ◌∙◌, arith, drop-cons, append_assoc}
use Rattle.std.specs.Prelude.{map, not}
use Rattle.std.specs.Str.{bytes_eq}
use Rattle.std.proofs.lemmas.Bool.{cond-true, cond-false}
use Rattle.text_lists.specs.Repeats.{is_among}
use Rattle.schema_draft.specs.Columns.{column_of}
use Rattle.table_flaws.specs.Flaws.{columns_flaws, is_spaced, long_rows, passing, spaced_rows, trimmed}
use Rattle.table_flaws.specs.declared.flaws.Flaw.{Flaw}
use Rattle.table_flaws.specs.declared.flaws.Flaw.TheVariants.{Long, Spaced}

-- the item at a place, and those behind it
behind : {X : Type 0} (xs : List X) (place : ℕ) (x : X) → place < length xs → x ≡ get_or xs place x → drop place xs ≡ x ∷ drop (place + 1) xs
behind xs place x inside is =
    let next : suc place ≡ place + 1 = omega arith in
    drop-cons xs place x inside ∙ ap (λ v. v ∷ drop (suc place) xs) (sym is) ∙ ap (λ k. x ∷ drop k xs) next

-- ---- those that pass a test

pub passing-yes : {X : Type 0} (test : X → Bool) (xs : List X) (place : ℕ) (x : X) (found all : List ℕ) → place < length xs → x ≡ get_or xs place x → found ++ passing test (place + 1) (drop place xs) ≡ all → test x ≡ true
    → (found ++ (place + 1) ∷ []) ++ passing test (place + 1 + 1) (drop (place + 1) xs) ≡ all
passing-yes test xs place x found all inside is so_far passes =
    append_assoc found ((place + 1) ∷ []) (passing test (place + 1 + 1) (drop (place + 1) xs))
    ∙ ap (λ ns. found ++ ns) (sym (ap (passing test (place + 1)) (behind xs place x inside is) ∙ cond-true (test x) _ _ passes)) ∙ so_far

pub passing-no : {X : Type 0} (test : X → Bool) (xs : List X) (place : ℕ) (x : X) (found all : List ℕ) → place < length xs → x ≡ get_or xs place x → found ++ passing test (place + 1) (drop place xs) ≡ all → test x ≡ false
    → found ++ passing test (place + 1 + 1) (drop (place + 1) xs) ≡ all
passing-no test xs place x found all inside is so_far fails =
    ap (λ ns. found ++ ns) (sym (ap (passing test (place + 1)) (behind xs place x inside is) ∙ cond-false (test x) _ _ fails)) ∙ so_far

-- ---- the test of a value with blanks at an end

-- by what is known to be contained
pub spaced_test : (values : List (List ℕ)) (value seen : List ℕ) (test : Bool) (contained : List ℕ → Bool) → ((q : List ℕ) → contained q ≡ is_among bytes_eq values q) → seen ≡ value → test ≡ (not (bytes_eq (trimmed seen) seen) && contained (trimmed seen)) → test ≡ is_spaced values value
spaced_test values value seen test contained tells same is =
    is ∙ ap (λ (v : List ℕ). not (bytes_eq (trimmed v) v) && contained (trimmed v)) same ∙ ap (λ b. not (bytes_eq (trimmed value) value) && b) (tells (trimmed value))

-- ---- one column more

pub columns_flaws-more : (rows : List (List (List ℕ))) (attr : ℕ) (before long both : List Flaw) (seen other : List (List ℕ)) → before ≡ columns_flaws rows attr → seen ≡ column_of rows attr → other ≡ column_of rows attr → long ≡ before ++ map (λ row. Long attr row) (long_rows seen)
    → both ≡ long ++ map (λ row. Spaced attr row) (spaced_rows other) → both ≡ columns_flaws rows (attr + 1)
columns_flaws-more rows attr before long both seen other before_is seen_is other_is long_is both_is =
    let column = column_of rows attr in
    let longs : List (List ℕ) → List Flaw = λ values. map (λ row. Long attr row) (long_rows values) in
    let spaces : List (List ℕ) → List Flaw = λ values. map (λ row. Spaced attr row) (spaced_rows values) in
    let next : suc attr ≡ attr + 1 = omega arith in
    both_is ∙ ap (λ l. l ++ spaces other) long_is ∙ ap (λ b. (b ++ longs seen) ++ spaces other) before_is ∙ ap (λ values. (columns_flaws rows attr ++ longs values) ++ spaces other) seen_is
    ∙ ap (λ values. (columns_flaws rows attr ++ longs column) ++ spaces values) other_is ∙ append_assoc (columns_flaws rows attr) (longs column) (spaces column) ∙ ap (columns_flaws rows) next
