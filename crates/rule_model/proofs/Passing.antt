-- What it means that tests find nothing.
use Rattle.std.proofs.Common.{◌≡◌, ◌≢◌, ℕ, zero, suc, ◌<◌, ◌≤◌, Bool, true, false, cond, not, ◌&&◌, ◌||◌, List, [], ◌∷◌, ◌++◌, length, get_or, map, Option, Some, None, refl, sym, ◌∙◌, append_assoc, arith, inl, inr}
use Rattle.std.specs.List.{AllByRecursion, list_any, list_all, find}
use Rattle.std.specs.Option.{option_map, option_or}
use Rattle.std.specs.Str.{bytes_eq}
use Rattle.text_lists.specs.Repeats.{AreDistinct}
use Rattle.std.proofs.lemmas.Bool.{cases_lt, false≢true}
use Rattle.std.proofs.lemmas.List.{get_or_append_left, get_or_at, length-append}
use Rattle.std.proofs.lemmas.Slice.Eq.{bytes_eq-Decides}
use Rattle.rule_model.specs.declared.fault.RuleFault.{RuleFault}
use Rattle.text_lists.specs.Firsts.{first_of, first_in}
use Rattle.text_lists.specs.Repeats.{repeated_after, first_repeated}
use Rattle.rule_model.specs.Faults.{unless}

-- neither of two tests finds anything
pub both_none : {X : Type 0} (a b : Option X) → option_or a b ≡ None → (a ≡ None) × (b ≡ None)
both_none (Some x) b e = absurd cc
both_none None b e = (refl, e)

-- none of several tests finds anything
pub none_of : {X : Type 0} (tests : List (Option X)) → first_of tests ≡ None → AllByRecursion (λ test. test ≡ None) tests
none_of [] e = tt
none_of (test ∷ tests) e =
    let both = both_none test (first_of tests) e in
    (both.0, none_of tests both.1)

pub none_in : {X Y : Type 0} (test : X → Option Y) (xs : List X) → first_in test xs ≡ None → AllByRecursion (λ x. test x ≡ None) xs
none_in test [] e = tt
none_in test (x ∷ xs) e =
    let both = both_none (test x) (first_in test xs) e in
    (both.0, none_in test xs both.1)

pub map_none : {X Y : Type 0} (f : X → Y) (o : Option X) → option_map f o ≡ None → o ≡ None
map_none f (Some x) e = absurd cc
map_none f None e = refl

-- a test that would tell something holds
pub holds_if_none : (b : Bool) (fault : RuleFault) → unless b fault ≡ None → b ≡ true
holds_if_none true fault e = refl
holds_if_none false fault e = absurd cc

find_cases : {X : Type 0} (b : Bool) (x : X) (rest : Option X) → cond b (Some x) rest ≡ None → (b ≡ false) × (rest ≡ None)
find_cases true x rest e = absurd cc
find_cases false x rest e = (refl, e)

pub none_found : {X : Type 0} (test : X → Bool) (xs : List X) → find test xs ≡ None → AllByRecursion (λ x. test x ≡ false) xs
none_found test [] e = tt
none_found test (x ∷ xs) e =
    let both = find_cases (test x) x (find test xs) e in
    (both.0, none_found test xs both.1)

pub both_true : (a b : Bool) → (a && b) ≡ true → (a ≡ true) × (b ≡ true)
both_true true b e = (refl, e)
both_true false b e = absurd cc

pub all_pass : {X : Type 0} (test : X → Bool) (xs : List X) → list_all test xs ≡ true → AllByRecursion (λ x. test x ≡ true) xs
all_pass test [] e = tt
all_pass test (x ∷ xs) e =
    let both = both_true (test x) (list_all test xs) e in
    (both.0, all_pass test xs both.1)

pub not_false : (b : Bool) → not b ≡ false → b ≡ true
not_false true e = refl
not_false false e = absurd cc

pub not_true : (b : Bool) → not b ≡ true → b ≡ false
not_true true e = absurd cc
not_true false e = refl

pub each_weaker : {X : Type 0} (P Q : X → Type 0) → ((x : X) → P x → Q x) → (xs : List X) → AllByRecursion P xs → AllByRecursion Q xs
each_weaker P Q f [] h = tt
each_weaker P Q f (x ∷ xs) h = (f x h.0, each_weaker P Q f xs h.1)

pub each_mapped : {X Y : Type 0} (P : Y → Type 0) (f : X → Y) (xs : List X) → AllByRecursion P (map f xs) → AllByRecursion (λ x. P (f x)) xs
each_mapped P f [] h = tt
each_mapped P f (x ∷ xs) h = (h.0, each_mapped P f xs h.1)

-- ---- no text stands twice

or_false : (a b : Bool) → (a || b) ≡ false → (a ≡ false) × (b ≡ false)
or_false true b e = absurd cc
or_false false b e = (refl, e)

pub none_equals : (texts : List (List ℕ)) (text : List ℕ) → list_any (λ t. bytes_eq t text) texts ≡ false → (i : ℕ) (d : List ℕ) → i < length texts → get_or texts i d ≢ text
none_equals [] text e i d lt same = absurd (omega arith)
none_equals (t ∷ ts) text e zero d lt same =
    let both = or_false (bytes_eq t text) (list_any (λ x. bytes_eq x text) ts) e in
    false≢true (sym both.0 ∙ (bytes_eq-Decides t text).1 same)
none_equals (t ∷ ts) text e (suc i) d lt same =
    let both = or_false (bytes_eq t text) (list_any (λ x. bytes_eq x text) ts) e in
    none_equals ts text both.1 i d (omega arith) same

-- a text of the rest differs from each before it
apart : (before texts : List (List ℕ)) → repeated_after bytes_eq before texts ≡ None → (i j : ℕ) (d : List ℕ) → i < j → j < length (before ++ texts) → length before ≤ j → get_or (before ++ texts) i d ≢ get_or (before ++ texts) j d
apart before [] e i j d lt within from same = absurd (omega (arith, length-append before []))
apart before (text ∷ texts) e i j d lt within from same =
    let both = find_cases (list_any (λ t. bytes_eq t text) before) text (repeated_after bytes_eq (before ++ text ∷ []) texts) e in
    let grouped : before ++ text ∷ [] ++ texts ≡ before ++ text ∷ texts = append_assoc before (text ∷ []) texts in
    elim (cases_lt (length before) j) [
      | inl above ↦
          apart (before ++ text ∷ []) texts both.1 i j d lt (rw grouped within) (omega (arith, length-append before (text ∷ []))) (rw grouped same)
      | inr here ↦
          let j-is : length before ≡ j = omega arith in
          none_equals before text both.0 i d (omega arith) (sym (get_or_append_left before (text ∷ texts) d i (omega arith)) ∙ same ∙ get_or_at before text texts d j j-is)
    ]

pub distinct_if_none : (texts : List (List ℕ)) → first_repeated bytes_eq texts ≡ None → AreDistinct texts
distinct_if_none texts e i j d lt within = apart [] texts e i j d lt within (omega arith)
