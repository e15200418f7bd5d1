-- The first of several things found, part by part.
use Rattle.std.proofs.Common.{◌≡◌, ℕ, ◌+◌, ◌<◌, List, [], ◌∷◌, ◌++◌, length, get_or, drop, Option, Some, None, Result, Ok, Err, refl, sym, ap, ◌∙◌, subst, arith}
use Rattle.std.specs.List.{zip}
use Rattle.std.proofs.lemmas.List.{at_drop_more}
use Rattle.std.specs.Option.{option_or}
use Rattle.rule_model.specs.declared.fault.RuleFault.{RuleFault}
use Rattle.rule_model.specs.declared.fault.AddFault.{AddFault}
use Rattle.rule_model.specs.declared.fault.AddFault.TheVariants.{Rule, Memory}
use Rattle.line_grammar.specs.Faults.{IsUnlessMemory}
use Rattle.text_lists.specs.Firsts.{first_of, first_in}
use Rattle.rule_model.specs.Judged.{unless_fault}
use Rattle.rule_model.specs.Faults.{verdict, rule_tells, Finds}

-- what a refusal tells of the first of two tests, it tells of both
pub told_first : (fault : AddFault) (a b : Option RuleFault) → Finds (Err fault) a → Finds (Err fault) (option_or a b)
told_first Memory a b told = tt
told_first (Rule fault) None b told = absurd cc
told_first (Rule fault) (Some other) b told = told

-- after a test that finds nothing the next one has the answer
pub told_second : (r : Result (Unit {0}) AddFault) (a b : Option RuleFault) → verdict a ≡ Ok tt → Finds r b → Finds r (option_or a b)
told_second r None b passed told = told
told_second r (Some fault) b passed told = absurd cc

-- where one of two lists has ended, nothing is left of the two side by side
pub ended_left : {X Y : Type 0} (test : X × Y → Option RuleFault) (xs : List X) (ys : List Y) (whole : Option RuleFault) → length xs ≡ 0 → first_in test (zip xs ys) ≡ whole → verdict whole ≡ Ok tt
ended_left test [] ys whole none left = ap verdict (sym left)
ended_left test (x ∷ xs) ys whole none left = absurd (omega arith)

pub ended_right : {X Y : Type 0} (test : X × Y → Option RuleFault) (xs : List X) (ys : List Y) (whole : Option RuleFault) → length ys ≡ 0 → first_in test (zip xs ys) ≡ whole → verdict whole ≡ Ok tt
ended_right test [] ys whole none left = ap verdict (sym left)
ended_right test (x ∷ xs) [] whole none left = ap verdict (sym left)
ended_right test (x ∷ xs) (y ∷ ys) whole none left = absurd (omega arith)

-- what a refusal tells of the item at a place, it tells of all that is left
pub told_there : {X : Type 0} (test : X → Option RuleFault) (xs : List X) (i : ℕ) (x : X) (fault : AddFault) (whole : Option RuleFault) → i < length xs → x ≡ get_or xs i x
    → Finds (Err fault) (test x) → first_in test (drop i xs) ≡ whole → Finds (Err fault) whole
told_there {X} test xs i x fault whole lt is told left =
    subst (λ (found : Option RuleFault). Finds (Err fault) found)
    (sym (at_drop_more (first_in test) xs i x lt ∙ ap (λ (y : X). first_in test (y ∷ drop (i + 1) xs)) (sym is)) ∙ left)
    (told_first fault (test x) (first_in test (drop (i + 1) xs)) told)

-- the last of several tests has the answer where those before it find nothing
last_of : (r : Result (Unit {0}) AddFault) (tests : List (Option RuleFault)) (last : Option RuleFault) → verdict (first_of tests) ≡ Ok tt → Finds r last → Finds r (first_of (tests ++ last ∷ []))
last_of r [] None passed told = told
last_of r [] (Some fault) passed told = told
last_of r (None ∷ tests) last passed told = last_of r tests last passed told
last_of r (Some fault ∷ tests) last passed told = absurd cc

pub told_last : (r : Result (Unit {0}) AddFault) (first : Option RuleFault) (tests : List (Option RuleFault)) (last : Option RuleFault) → verdict first ≡ Ok tt → verdict (first_of tests) ≡ Ok tt → Finds r last
    → Finds r (first_of (first ∷ (tests ++ last ∷ [])))
told_last r first tests last passed_first passed told = told_second r first (first_of (tests ++ last ∷ [])) passed_first (last_of r tests last passed told)

pub none_if_passed : (found : Option RuleFault) → verdict found ≡ Ok tt → found ≡ None
none_if_passed None passed = refl
none_if_passed (Some fault) passed = absurd cc

-- a refusal that tells a fault in place of a value
pub refused : {X : Type 0} (fault : AddFault) (found : Option RuleFault) (x : X) → Finds (Err fault) found → IsUnlessMemory rule_tells (unless_fault found x) (Err fault)
refused Memory found x told = tt
refused (Rule fault) None x told = absurd cc
refused (Rule fault) (Some other) x told = cc
