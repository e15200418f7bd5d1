-- Looking for the first text that stands a second time, place by place and list by list.
use Rattle.std.proofs.Common.{◌≡◌, ℕ, ◌+◌, ◌<◌, Bool, true, false, cond, ◌||◌, List, [], ◌∷◌, ◌++◌, length, get_or, take, drop, Option, Some, None, refl, sym, ap, ◌∙◌, append_assoc}
use Rattle.std.specs.List.{list_any}
use Rattle.std.specs.Option.{option_map, option_or}
use Rattle.std.specs.Str.{bytes_eq}
use Rattle.std.proofs.lemmas.List.{at_drop_more, take_more, append-nil}
use Rattle.std.proofs.lemmas.List.Folds.{list_any-append}
use Rattle.rule_model.specs.declared.fault.RuleFault.TheVariants.{RepeatedAttr}
use Rattle.text_lists.specs.Repeats.{repeated_after}
use Rattle.rule_model.specs.Faults.{repeated_in}

pub in_both : (front rest : List (List ℕ)) (text : List ℕ) → list_any (λ other. bytes_eq other text) (front ++ rest) ≡ (list_any (λ other. bytes_eq other text) front || list_any (λ other. bytes_eq other text) rest)
in_both front rest text = list_any-append (λ other. bytes_eq other text) front rest

-- the text at a place is the answer where it stands before that place, and else the rest has the answer
repeated_at : (before texts : List (List ℕ)) (i : ℕ) (text : List ℕ) → i < length texts → text ≡ get_or texts i text
    → repeated_after bytes_eq (before ++ take i texts) (drop i texts) ≡ cond (list_any (λ t. bytes_eq t text) (before ++ take i texts)) (Some text) (repeated_after bytes_eq (before ++ take (i + 1) texts) (drop (i + 1) texts))
repeated_at before texts i text lt is =
    let so_far = before ++ take i texts in
    let here : List ℕ → Option (List ℕ) → Option (List ℕ) = λ x rest. cond (list_any (λ t. bytes_eq t x) so_far) (Some x) rest in
    let grown : so_far ++ text ∷ [] ≡ before ++ take (i + 1) texts =
    append_assoc before (take i texts) (text ∷ []) ∙ ap (λ (x : List ℕ). before ++ (take i texts ++ x ∷ [])) is ∙ ap (λ (l : List (List ℕ)). before ++ l) (sym (take_more texts i text lt)) in
    at_drop_more (repeated_after bytes_eq so_far) texts i text lt
    ∙ ap (λ (x : List ℕ). here x (repeated_after bytes_eq (so_far ++ x ∷ []) (drop (i + 1) texts))) (sym is)
    ∙ ap (λ (l : List (List ℕ)). here text (repeated_after bytes_eq l (drop (i + 1) texts))) grown

pub found_there : (before texts : List (List ℕ)) (i : ℕ) (text : List ℕ) (found : Bool) (answer : Option (List ℕ)) → i < length texts → text ≡ get_or texts i text → found ≡ true
    → found ≡ list_any (λ t. bytes_eq t text) (before ++ take i texts)
    → repeated_after bytes_eq (before ++ take i texts) (drop i texts) ≡ answer → Some text ≡ answer
found_there before texts i text found answer lt is was test left =
    sym (repeated_at before texts i text lt is ∙ ap (λ (b : Bool). cond b (Some text) (repeated_after bytes_eq (before ++ take (i + 1) texts) (drop (i + 1) texts))) (sym test ∙ was)) ∙ left

pub not_there : (before texts : List (List ℕ)) (i : ℕ) (text : List ℕ) (found : Bool) (answer : Option (List ℕ)) → i < length texts → text ≡ get_or texts i text → found ≡ false
    → found ≡ list_any (λ t. bytes_eq t text) (before ++ take i texts)
    → repeated_after bytes_eq (before ++ take i texts) (drop i texts) ≡ answer → repeated_after bytes_eq (before ++ take (i + 1) texts) (drop (i + 1) texts) ≡ answer
not_there before texts i text found answer lt is was test left =
    sym (repeated_at before texts i text lt is ∙ ap (λ (b : Bool). cond b (Some text) (repeated_after bytes_eq (before ++ take (i + 1) texts) (drop (i + 1) texts))) (sym test ∙ was)) ∙ left

or_at : (found : Bool) (x : List ℕ) (a b c : Option (List ℕ)) → a ≡ option_or b c → cond found (Some x) a ≡ option_or (cond found (Some x) b) c
or_at true x a b c e = refl
or_at false x a b c e = e

-- the first list has the answer, or else the second one after it
pub repeated_in_both : (before xs ys : List (List ℕ)) → repeated_after bytes_eq before (xs ++ ys) ≡ option_or (repeated_after bytes_eq before xs) (repeated_after bytes_eq (before ++ xs) ys)
repeated_in_both before [] ys = ap (λ (l : List (List ℕ)). repeated_after bytes_eq l ys) (sym (append-nil before))
repeated_in_both before (x ∷ xs) ys =
    or_at (list_any (λ t. bytes_eq t x) before) x _ _ _
    (repeated_in_both (before ++ x ∷ []) xs ys ∙ ap (λ (l : List (List ℕ)). option_or (repeated_after bytes_eq (before ++ x ∷ []) xs) (repeated_after bytes_eq l ys)) (append_assoc before (x ∷ []) xs))

map_both : {X Y : Type 0} (f : X → Y) (a b : Option X) → option_map f (option_or a b) ≡ option_or (option_map f a) (option_map f b)
map_both f None b = refl
map_both f (Some x) b = refl

-- the first attribute that stands twice in two lists, one after the other
pub repeated_in-append : (names others : List (List ℕ)) → repeated_in (names ++ others) ≡ option_or (option_map RepeatedAttr (repeated_after bytes_eq [] names)) (option_map RepeatedAttr (repeated_after bytes_eq names others))
repeated_in-append names others =
    ap (option_map RepeatedAttr) (repeated_in_both [] names others) ∙ map_both RepeatedAttr (repeated_after bytes_eq [] names) (repeated_after bytes_eq names others)
