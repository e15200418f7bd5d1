-- How readable lines are put together of pieces, and how a written list is read again.
use Rattle.std.proofs.Common.{◌≡◌, ℕ, zero, suc, ◌<◌, ◌≤◌, true, List, [], ◌∷◌, ◌++◌, length, Option, Some, None, refl, ap, ◌∙◌, append_assoc, arith, length-append}
use Rattle.std.specs.Prelude.{is_some, option_map}
use Rattle.std.specs.List.{flat_map, AllByRecursion}
use Rattle.std.proofs.lemmas.Bool.{cond-true, cond-false, le-leb}
use Rattle.std.proofs.lemmas.List.{append-nil}
use Rattle.line_grammar.specs.GoodTokens.{IsGoodToken}
use Rattle.text_lists.specs.Names.{IsName, IsConstant}
use Rattle.line_grammar.specs.Phrases.{◌>>=◌, name_at, is_constant, constant_at, closed_by, list_until}
use Rattle.line_grammar.specs.Marks.{after_mark, same_mark}
use Rattle.line_grammar.specs.TokenLists.{Reader, in_front, or_others, and_others, list1_within, list1_at, list_at}
use Rattle.line_grammar.specs.declared.tokens.Mark.{Mark}
use Rattle.line_grammar.specs.declared.tokens.Mark.TheVariants.{Comma}
use Rattle.line_grammar.specs.declared.tokens.Token.{Token}
use Rattle.line_grammar.specs.declared.tokens.Token.TheVariants.{Name, Number, Quoted, Sign}
use Rattle.line_grammar.specs.declared.writing.Part.{Part}
use Rattle.line_grammar.specs.declared.writing.Part.TheVariants as part
use Rattle.line_grammar.specs.Spelling.{tokens_in, may_touch, may_follow, AreApart, name, text, mark, after_comma, comma_separated, spaced_list}

-- ---- tokens

pub tokens_in-append : (xs ys : List Part) → tokens_in (xs ++ ys) ≡ tokens_in xs ++ tokens_in ys
tokens_in-append [] ys = refl
tokens_in-append (part.Token t ∷ xs) ys = ap (λ ts. t ∷ ts) (tokens_in-append xs ys)
tokens_in-append (part.Space ∷ xs) ys = tokens_in-append xs ys
tokens_in-append (part.Tab ∷ xs) ys = tokens_in-append xs ys

-- the tokens of these parts are good
abbrev pub AreGood : List Part → Type 0
AreGood line = AllByRecursion IsGoodToken (tokens_in line)

pub AreGood-append : (xs ys : List Part) → AreGood xs → AreGood ys → AreGood (xs ++ ys)
AreGood-append [] ys left right = right
AreGood-append (part.Token t ∷ xs) ys left right = (left.0, AreGood-append xs ys left.1 right)
AreGood-append (part.Space ∷ xs) ys left right = AreGood-append xs ys left right
AreGood-append (part.Tab ∷ xs) ys left right = AreGood-append xs ys left right

further_good : {A : Type 0} (p : A → List Part) (xs : List A) → AllByRecursion (λ x. AreGood (p x)) xs → AreGood (flat_map (after_comma p) xs)
further_good p [] good = tt
further_good p (x ∷ xs) good = (tt, AreGood-append (p x) (flat_map (after_comma p) xs) good.0 (further_good p xs good.1))

pub AreGood-list : {A : Type 0} (p : A → List Part) (xs : List A) → AllByRecursion (λ x. AreGood (p x)) xs → AreGood (comma_separated p xs)
AreGood-list p [] good = tt
AreGood-list p (x ∷ xs) good = AreGood-append (p x) (flat_map (after_comma p) xs) good.0 (further_good p xs good.1)

pub AreGood-spaced : {A : Type 0} (p : A → List Part) (xs : List A) → AllByRecursion (λ x. AreGood (p x)) xs → AreGood (spaced_list p xs)
AreGood-spaced p [] good = tt
AreGood-spaced p (x ∷ xs) good = AreGood-list p (x ∷ xs) good

-- ---- blanks

-- these parts may stand behind anything
abbrev pub IsLoose : List Part → Type 0
IsLoose line = (before : Option Token) → AreApart before line

pub IsLoose-nil : IsLoose []
IsLoose-nil before = tt

pub IsLoose-space : (line : List Part) → AreApart None line → IsLoose (part.Space ∷ line)
IsLoose-space line apart before = apart

-- behind a mark, anything may stand that may stand at the front
pub behind_mark : (m : Mark) (line : List Part) → AreApart None line → AreApart (Some (Sign m)) line
behind_mark m [] apart = tt
behind_mark m (part.Token t ∷ line) apart = (refl, apart.1)
behind_mark m (part.Space ∷ line) apart = apart
behind_mark m (part.Tab ∷ line) apart = apart

mark_may_follow : (m : Mark) → may_touch (Name []) (Sign m) ≡ true → (before : Option Token) → may_follow before (Sign m) ≡ true
mark_may_follow m other None = refl
mark_may_follow m other (Some (Name name)) = other
mark_may_follow m other (Some (Number n)) = refl
mark_may_follow m other (Some (Quoted text)) = refl
mark_may_follow m other (Some (Sign n)) = refl

-- a mark other than `_`
pub IsLoose-mark : (m : Mark) (line : List Part) → may_touch (Name []) (Sign m) ≡ true → AreApart None line → IsLoose (mark m ∷ line)
IsLoose-mark m line other apart before = (mark_may_follow m other before, behind_mark m line apart)

pub AreApart-append : (before : Option Token) (xs ys : List Part) → AreApart before xs → IsLoose ys → AreApart before (xs ++ ys)
AreApart-append before [] ys apart loose = loose before
AreApart-append before (part.Token t ∷ xs) ys apart loose = (apart.0, AreApart-append (Some t) xs ys apart.1 loose)
AreApart-append before (part.Space ∷ xs) ys apart loose = AreApart-append None xs ys apart loose
AreApart-append before (part.Tab ∷ xs) ys apart loose = AreApart-append None xs ys apart loose

further_loose : {A : Type 0} (p : A → List Part) (xs : List A) (ys : List Part) → ((x : A) → AreApart None (p x)) → IsLoose ys → IsLoose (flat_map (after_comma p) xs ++ ys)
further_loose p [] ys apart loose = loose
further_loose p (x ∷ xs) ys apart loose =
    rw (append_assoc (p x) (flat_map (after_comma p) xs) ys)
    (IsLoose-mark Comma (part.Space ∷ (p x ++ (flat_map (after_comma p) xs ++ ys))) refl (AreApart-append None (p x) (flat_map (after_comma p) xs ++ ys) (apart x) (further_loose p xs ys apart loose)))

-- a list, and then what may stand behind anything
pub AreApart-list : {A : Type 0} (p : A → List Part) (xs : List A) (ys : List Part) → ((x : A) → AreApart None (p x)) → IsLoose ys → AreApart None (comma_separated p xs ++ ys)
AreApart-list p [] ys apart loose = loose None
AreApart-list p (x ∷ xs) ys apart loose =
    rw (append_assoc (p x) (flat_map (after_comma p) xs) ys) (AreApart-append None (p x) (flat_map (after_comma p) xs ++ ys) (apart x) (further_loose p xs ys apart loose))

pub IsLoose-spaced : {A : Type 0} (p : A → List Part) (xs : List A) (ys : List Part) → ((x : A) → AreApart None (p x)) → IsLoose ys → IsLoose (spaced_list p xs ++ ys)
IsLoose-spaced p [] ys apart loose before = loose before
IsLoose-spaced p (x ∷ xs) ys apart loose before = AreApart-list p (x ∷ xs) ys apart loose

-- ---- lists that are read again

-- each of these items is read from what is written of it, whatever follows
abbrev pub AreReadAgain : {A : Type 0} → Reader A → (A → List Part) → List A → Type 0
AreReadAgain reader p xs = AllByRecursion (λ x. (rest : List Token) → reader (tokens_in (p x) ++ rest) ≡ Some (x, rest)) xs

further_tokens : {A : Type 0} (p : A → List Part) (x y : A) (xs : List A) (rest : List Token)
    → tokens_in (comma_separated p (x ∷ y ∷ xs)) ++ rest ≡ tokens_in (p x) ++ Sign Comma ∷ (tokens_in (comma_separated p (y ∷ xs)) ++ rest)
further_tokens p x y xs rest =
    ap (λ ts. ts ++ rest) (tokens_in-append (p x) (flat_map (after_comma p) (y ∷ xs))) ∙ append_assoc (tokens_in (p x)) (Sign Comma ∷ tokens_in (comma_separated p (y ∷ xs))) rest

read_list : {A : Type 0} (reader : Reader A) (p : A → List Part) (room : ℕ) (x : A) (xs : List A) (rest : List Token) → AreReadAgain reader p (x ∷ xs) → after_mark Comma rest ≡ None → length xs < room
    → list1_within reader room (tokens_in (comma_separated p (x ∷ xs)) ++ rest) ≡ Some (x ∷ xs, rest)
read_list reader p zero x xs rest again ended enough = absurd (omega arith)
read_list reader p (suc room) x [] rest again ended enough =
    ap (λ ts. list1_within reader (suc room) (ts ++ rest)) (tokens_in-append (p x) [] ∙ append-nil (tokens_in (p x)))
    ∙ ap (and_others (list1_within reader room)) (again.0 rest) ∙ ap (or_others (list1_within reader room) x rest) ended
read_list reader p (suc room) x (y ∷ xs) rest again ended enough =
    ap (list1_within reader (suc room)) (further_tokens p x y xs rest)
    ∙ ap (and_others (list1_within reader room)) (again.0 (Sign Comma ∷ (tokens_in (comma_separated p (y ∷ xs)) ++ rest)))
    ∙ ap (in_front x) (read_list reader p room y xs rest again.1 ended (omega arith))

-- a list has at least as many tokens as items
some_tokens : {A : Type 0} (reader : Reader A) (p : A → List Part) (xs : List A) → AllByRecursion (λ x. 0 < length (tokens_in (p x))) xs → length xs ≤ length (tokens_in (flat_map (after_comma p) xs))
some_tokens reader p [] some = omega arith
some_tokens reader p (x ∷ xs) some =
    omega (arith, ap (λ (ts : List Token). length ts) (tokens_in-append (p x) (flat_map (after_comma p) xs)), length-append (tokens_in (p x)) (tokens_in (flat_map (after_comma p) xs)), some_tokens reader p xs some.1)

pub list1_at-written : {A : Type 0} (reader : Reader A) (p : A → List Part) (xs : List A) (rest : List Token) → 1 ≤ length xs → AreReadAgain reader p xs → AllByRecursion (λ y. 0 < length (tokens_in (p y))) xs → after_mark Comma rest ≡ None
    → list1_at reader (tokens_in (comma_separated p xs) ++ rest) ≡ Some (xs, rest)
list1_at-written reader p [] rest any again some ended = absurd (omega arith)
list1_at-written reader p (x ∷ xs) rest any again some ended =
    let count : length xs < length (tokens_in (comma_separated p (x ∷ xs)) ++ rest) =
    omega (arith, ap (λ (ts : List Token). length ts) (tokens_in-append (p x) (flat_map (after_comma p) xs)), length-append (tokens_in (p x)) (tokens_in (flat_map (after_comma p) xs)), length-append (tokens_in (comma_separated p (x ∷ xs))) rest, some_tokens reader p xs some.1, some.0) in
    read_list reader p (length (tokens_in (comma_separated p (x ∷ xs)) ++ rest)) x xs rest again ended count

first_some : {A : Type 0} (reader : Reader A) (p : A → List Part) (x : A) (xs : List A) (rest : List Token) → AreReadAgain reader p (x ∷ xs) → is_some (reader (tokens_in (comma_separated p (x ∷ xs)) ++ rest)) ≡ true
first_some reader p x xs rest again =
    ap (λ ts. is_some (reader ts)) (ap (λ ts. ts ++ rest) (tokens_in-append (p x) (flat_map (after_comma p) xs)) ∙ append_assoc (tokens_in (p x)) (tokens_in (flat_map (after_comma p) xs)) rest)
    ∙ ap is_some (again.0 (tokens_in (flat_map (after_comma p) xs) ++ rest))

pub list_at-written : {A : Type 0} (reader : Reader A) (p : A → List Part) (xs : List A) (rest : List Token) → AreReadAgain reader p xs → AllByRecursion (λ y. 0 < length (tokens_in (p y))) xs → after_mark Comma rest ≡ None → reader rest ≡ None
    → list_at reader (tokens_in (comma_separated p xs) ++ rest) ≡ Some (xs, rest)
list_at-written reader p [] rest again some ended none = cond-false (is_some (reader rest)) _ _ (ap is_some none)
list_at-written reader p (x ∷ xs) rest again some ended none =
    cond-true (is_some (reader (tokens_in (comma_separated p (x ∷ xs)) ++ rest))) _ _ (first_some reader p x xs rest again) ∙ list1_at-written reader p (x ∷ xs) rest (omega arith) again some ended

pub tokens_in-spaced : {A : Type 0} (p : A → List Part) (xs : List A) → tokens_in (spaced_list p xs) ≡ tokens_in (comma_separated p xs)
tokens_in-spaced p [] = refl
tokens_in-spaced p (x ∷ xs) = refl

-- tokens of parts, and others behind them
pub tokens_then : (xs ys : List Part) (rest : List Token) → tokens_in (xs ++ ys) ++ rest ≡ tokens_in xs ++ (tokens_in ys ++ rest)
tokens_then xs ys rest = ap (λ ts. ts ++ rest) (tokens_in-append xs ys) ∙ append_assoc (tokens_in xs) (tokens_in ys) rest

-- a list, and the mark behind which it ends
pub list_until-written : {A : Type 0} (reader : Reader A) (p : A → List Part) (m : Mark) (xs : List A) (rest : List Token) → AreReadAgain reader p xs → AllByRecursion (λ y. 0 < length (tokens_in (p y))) xs
    → after_mark Comma (Sign m ∷ rest) ≡ None → reader (Sign m ∷ rest) ≡ None → same_mark m m ≡ true → list_until reader m (tokens_in (comma_separated p xs) ++ Sign m ∷ rest) ≡ Some (xs, rest)
list_until-written reader p m xs rest again some ended none same =
    ap (λ found. found >>= closed_by m) (list_at-written reader p xs (Sign m ∷ rest) again some ended none) ∙ ap (λ (found : Option (List Token)). option_map (λ behind. (xs, behind)) found) (cond-true (same_mark m m) (Some rest) None same)

-- ---- names and constants

pub names_again : (names : List (List ℕ)) → AreReadAgain name_at (λ n. name n ∷ []) names
names_again [] = tt
names_again (n ∷ names) = (λ rest. refl, names_again names)

pub names_some : (names : List (List ℕ)) → AllByRecursion (λ (n : List ℕ). 0 < length (tokens_in (name n ∷ []))) names
names_some [] = tt
names_some (n ∷ names) = (omega arith, names_some names)

pub names_good : (names : List (List ℕ)) → AllByRecursion IsName names → AllByRecursion (λ n. AreGood (name n ∷ [])) names
names_good [] are = tt
names_good (n ∷ names) are = ((are.0, tt), names_good names are.1)

pub is_constant-true : (value : List ℕ) → IsConstant value → is_constant value ≡ true
is_constant-true value is = le-leb (length value) 1024 is.bound

pub constants_again : (values : List (List ℕ)) → AllByRecursion IsConstant values → AreReadAgain constant_at (λ v. text v ∷ []) values
constants_again [] are = tt
constants_again (v ∷ values) are = (λ rest. cond-true (is_constant v) (Some (v, rest)) None (is_constant-true v are.0), constants_again values are.1)

pub constants_some : (values : List (List ℕ)) → AllByRecursion (λ (v : List ℕ). 0 < length (tokens_in (text v ∷ []))) values
constants_some [] = tt
constants_some (v ∷ values) = (omega arith, constants_some values)

pub constants_good : (values : List (List ℕ)) → AllByRecursion IsConstant values → AllByRecursion (λ v. AreGood (text v ∷ [])) values
constants_good [] are = tt
constants_good (v ∷ values) are = ((are.0.utf8, tt), constants_good values are.1)
