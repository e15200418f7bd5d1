-- What the facts of parts tell of a left side.
use Rattle.std.proofs.Common.{◌≡◌, ℕ, zero, suc, ◌+◌, ◌<◌, ◌≤◌, Bool, true, false, not, ◌&&◌, ◌||◌, cond, List, [], ◌∷◌, ◌++◌, map, take, length, leb, get_or, Option, Some, refl, sym, ap, subst, ◌∙◌, arith, ⊎_elim}
use Rattle.std.specs.Prelude.{⊤, All, slice_get, nat_eq}
use Rattle.std.specs.List.{list_any, flat_map}
use Rattle.std.proofs.lemmas.Bool.{and_parts, and_from, and_right, cond-true, cond-false, cases_Bool}
use Rattle.std.proofs.lemmas.Option.{slice_get_within, get_or_from_slice_get, slice_get-get_or}
use Rattle.std.proofs.lemmas.Grind.{common_steps, flat_map-append}
use Rattle.std.proofs.lemmas.List.Elements.{All-append, All-cons, All-map, All-nil}
use Rattle.std.specs.Str.{bytes_eq}
use Rattle.std.specs.Option.{option_and_then}
use Rattle.dep_search.specs.Counting.{gathered, every, tally}
use Rattle.dep_search.specs.Rows.{Row, row_at, agree}
use Rattle.dep_search.specs.Found.{settles, determines, has_support, proper_parts, plain_at, constants_at, constant_at, found_at, is_plain, is_constant, is_first, is_short}
use Rattle.dep_search.specs.Settled.{AreFacts, IsSettled, KeepsFacts, StandAt, StandsAt, known_at, leads_of, says, says_all, says_of}
use Rattle.dep_search.specs.declared.facts.Facts.{Facts}
use Rattle.dep_search.specs.declared.settled.Settled.{Settled}
use Rattle.dep_search.proofs.Listed.{all_zip_step}
use Rattle.dep_search.proofs.Counted.{every-at}

-- ---- places in a store that grows

stand_still : (old new : List Facts) (places : List ℕ) (parts : List (List ℕ)) → KeepsFacts old new → StandAt old places parts → StandAt new places parts
stand_still old new [] [] keeps f = f
stand_still old new [] (part ∷ parts) keeps f = absurd f
stand_still old new (place ∷ places) [] keeps f = absurd f
stand_still old new (place ∷ places) (part ∷ parts) keeps f =
    let (facts, e, g) = f.0 in ((facts, keeps place facts e, g), stand_still old new places parts keeps f.1)

pub stand_more : (old new : List Facts) (places : List ℕ) (parts : List (List ℕ)) (i place : ℕ) (part d : List ℕ) → i < length parts → part ≡ get_or parts i d
    → KeepsFacts old new → StandAt old places (take i parts) → StandsAt new place part → StandAt new (places ++ place ∷ []) (take (i + 1) parts)
stand_more old new places parts i place part d l e keeps f here =
    all_zip_step (λ part place. StandsAt new place part) parts places i part d place l e (stand_still old new places (take i parts) keeps f) here

pub pushed_stands : (store : List Facts) (facts : Facts) (x : List ℕ) → facts.x ≡ x → StandsAt (store ++ facts ∷ []) (length store) x
pushed_stands store facts x e = (facts, last store, e)
  where
    last : (store : List Facts) → slice_get (store ++ facts ∷ []) (length store) ≡ Some facts
    last [] = refl
    last (one ∷ store) = last store

pub pushed_keeps : (store : List Facts) (facts : Facts) → KeepsFacts store (store ++ facts ∷ [])
pushed_keeps store facts place found e = kept store place e
  where
    kept : (store : List Facts) (place : ℕ) → slice_get store place ≡ Some found → slice_get (store ++ facts ∷ []) place ≡ Some found
    kept [] place e = absurd (omega (arith, slice_get_within [] place found e))
    kept (one ∷ store) zero e = e
    kept (one ∷ store) (suc place) e = kept store place e

pub stands_here : (store : List Facts) (place : ℕ) (facts : Facts) (x : List ℕ) → place < length store → facts ≡ get_or store place facts → facts.x ≡ x
    → StandsAt store place x
stands_here store place facts x l e g = (facts, slice_get-get_or store place facts l ∙ ap Some (sym e), g)

-- ---- parts

-- a part has only attributes of the whole
pub parts_within : (n : ℕ) (x : List ℕ) → All (λ attr. attr < n) x → All (λ (part : List ℕ). All (λ attr. attr < n) part) (proper_parts x)
parts_within n [] within = All-nil (λ (part : List ℕ). All (λ attr. attr < n) part)
parts_within n (a ∷ x) within =
    let P : List ℕ → Type 0 = λ part. All (λ attr. attr < n) part in
    let head : a < n = within 0 0 (omega arith) in
    let rest : P x = λ k d l. within (suc k) d (omega (arith, l)) in
    let less : All P (proper_parts x) = parts_within n x rest in
    All-append P (proper_parts x) (map (λ part. a ∷ part) (proper_parts x) ++ x ∷ []) less
    (All-append P (map (λ part. a ∷ part) (proper_parts x)) (x ∷ [])
    (All-map P (λ part. a ∷ part) (proper_parts x) (λ k d l. All-cons (λ (attr : ℕ). attr < n) a (get_or (proper_parts x) k d) head (less k d l)))
    (All-cons P x [] rest (All-nil P)))

-- it holds of each
abbrev pub Each : (List ℕ → Type 0) → List (List ℕ) → Type 0
Each P [] = ⊤
Each P (x ∷ xs) = P x × Each P xs

each_append : (P : List ℕ → Type 0) (xs ys : List (List ℕ)) → Each P xs → Each P ys → Each P (xs ++ ys)
each_append P [] ys f g = g
each_append P (x ∷ xs) ys f g = (f.0, each_append P xs ys f.1 g)

each_mapped : (P Q : List ℕ → Type 0) (h : List ℕ → List ℕ) (xs : List (List ℕ)) → ((x : List ℕ) → P x → Q (h x)) → Each P xs → Each Q (map h xs)
each_mapped P Q h [] step f = tt
each_mapped P Q h (x ∷ xs) step f = (step x f.0, each_mapped P Q h xs step f.1)

each_weaker : (P Q : List ℕ → Type 0) (xs : List (List ℕ)) → ((x : List ℕ) → P x → Q x) → Each P xs → Each Q xs
each_weaker P Q [] step f = tt
each_weaker P Q (x ∷ xs) step f = (step x f.0, each_weaker P Q xs step f.1)

-- rows that agree on the whole agree on the part
abbrev pub Covers : List Row → List ℕ → List ℕ → Type 0
Covers rows x part = (r s : ℕ) → agree rows x r s ≡ true → agree rows part r s ≡ true

pub parts_covered : (rows : List Row) (x : List ℕ) → Each (Covers rows x) (proper_parts x)
parts_covered rows [] = tt
parts_covered rows (a ∷ x) =
    let less = parts_covered rows x in
    each_append (Covers rows (a ∷ x)) (proper_parts x) (map (λ part. a ∷ part) (proper_parts x) ++ x ∷ [])
    (each_weaker (Covers rows x) (Covers rows (a ∷ x)) (proper_parts x) (λ part covers. λ r s e. covers r s (and_parts (at_a r s) (agree rows x r s) e).1) less)
    (each_append (Covers rows (a ∷ x)) (map (λ part. a ∷ part) (proper_parts x)) (x ∷ [])
    (each_mapped (Covers rows x) (Covers rows (a ∷ x)) (λ part. a ∷ part) (proper_parts x)
    (λ part covers. λ r s e. let both = and_parts (at_a r s) (agree rows x r s) e in and_from (at_a r s) (agree rows part r s) both.0 (covers r s both.1)) less)
    ((λ r s e. (and_parts (at_a r s) (agree rows x r s) e).1), tt))
  where
    at_a : (r s : ℕ) → Bool
    at_a r s = bytes_eq (get_or (row_at rows r) a []) (get_or (row_at rows s) a [])

tally_more_pass : (p q : ℕ → Bool) (n : ℕ) → ((k : ℕ) → p k ≡ true → q k ≡ true) → tally p n ≤ tally q n
tally_more_pass p q zero f = omega arith
tally_more_pass p q (suc n) f =
    let before = tally_more_pass p q n f in
    ⊎_elim (λ (e : p n ≡ true). let g = f n e in rw (e, g) (omega (arith, before)))
    (λ (e : p n ≡ false). rw e (least (q n) (tally p n) (tally q n) before)) (cases_Bool (p n))
  where
    least : (b : Bool) (m k : ℕ) → m ≤ k → m + 0 ≤ k + cond b 1 0
    least true m k l = omega (arith, l)
    least false m k l = omega (arith, l)

leb_more : (k m n : ℕ) → m ≤ n → leb k m ≡ true → leb k n ≡ true
leb_more k m n l e = grind (arith, common_steps)

has_part_support : (rows : List Row) (support : ℕ) (x : List ℕ) (r : ℕ) (part : List ℕ) → has_support rows support x r ≡ true → Covers rows x part
    → has_support rows support part r ≡ true
unfolding has_support
has_part_support rows support x r part e covers =
    leb_more support (tally (λ s. agree rows x r s) (length rows)) (tally (λ s. agree rows part r s) (length rows))
    (tally_more_pass (λ s. agree rows x r s) (λ s. agree rows part r s) (length rows) (λ s. covers r s)) e

parts_supported : (rows : List Row) (support : ℕ) (x : List ℕ) (r : ℕ) → has_support rows support x r ≡ true
    → Each (λ part. has_support rows support part r ≡ true) (proper_parts x)
parts_supported rows support x r e =
    each_weaker (Covers rows x) (λ part. has_support rows support part r ≡ true) (proper_parts x) (λ part. has_part_support rows support x r part e) (parts_covered rows x)

-- ---- what stands at a place is true

pub stands : (rows : List Row) (attrs support : ℕ) (store : List Facts) (place a : ℕ) (part : List ℕ) → All (AreFacts rows attrs support) store → a < attrs
    → StandsAt store place part → (settled : Settled) × (known_at store a place ≡ Some settled) × IsSettled rows support part a settled
stands rows attrs support store place a part true_facts al f =
    let (facts, e, g) = f in
    let here : AreFacts rows attrs support facts = subst (AreFacts rows attrs support) (get_or_from_slice_get store place facts facts e)
    (true_facts place facts (slice_get_within store place facts e)) in
    let d : Settled = record { all = false; flags = [] } in
    let settled = get_or facts.settled a d in
    let known : slice_get facts.settled a ≡ Some settled = slice_get-get_or facts.settled a d (omega (arith, al, here.many)) in
    (settled, known_is (slice_get store place) facts settled e known, subst (λ x. IsSettled rows support x a settled) g (here.each a d al))
  where
    known_is : (found : Option Facts) (facts : Facts) (settled : Settled) → found ≡ Some facts → slice_get facts.settled a ≡ Some settled
        → option_and_then (λ (facts : Facts). slice_get facts.settled a) found ≡ Some settled
    known_is found facts settled e g = ap (option_and_then (λ (facts : Facts). slice_get facts.settled a)) e ∙ g

pub parts_settle : (rows : List Row) (attrs support : ℕ) (store : List Facts) (a r : ℕ) (places : List ℕ) (parts : List (List ℕ)) → All (AreFacts rows attrs support) store
    → a < attrs → r < length rows → Each (λ part. has_support rows support part r ≡ true) parts → StandAt store places parts
    → list_any (λ place. says_of (known_at store a place) r) places ≡ list_any (λ part. settles rows part a r) parts
parts_settle rows attrs support store a r [] [] facts al rl many f = refl
parts_settle rows attrs support store a r [] (part ∷ parts) facts al rl many f = absurd f
parts_settle rows attrs support store a r (place ∷ places) [] facts al rl many f = absurd f
parts_settle rows attrs support store a r (place ∷ places) (part ∷ parts) facts al rl many f =
    let (settled, known, is) = stands rows attrs support store place a part facts al f.0 in
    let here : says_of (known_at store a place) r ≡ settles rows part a r = ap (λ known. says_of known r) known ∙ is.each r rl many.0 in
    let there = parts_settle rows attrs support store a r places parts facts al rl many.1 f.1 in
    λ i. here i || there i

pub parts_determine : (rows : List Row) (attrs support : ℕ) (store : List Facts) (a : ℕ) (places : List ℕ) (parts : List (List ℕ)) → All (AreFacts rows attrs support) store
    → a < attrs → StandAt store places parts
    → list_any (λ place. says_all (known_at store a place)) places ≡ list_any (λ part. determines rows part a) parts
parts_determine rows attrs support store a [] [] facts al f = refl
parts_determine rows attrs support store a [] (part ∷ parts) facts al f = absurd f
parts_determine rows attrs support store a (place ∷ places) [] facts al f = absurd f
parts_determine rows attrs support store a (place ∷ places) (part ∷ parts) facts al f =
    let (settled, known, is) = stands rows attrs support store place a part facts al f.0 in
    let here : says_all (known_at store a place) ≡ determines rows part a = ap says_all known ∙ is.all in
    let there = parts_determine rows attrs support store a places parts facts al f.1 in
    λ i. here i || there i

-- ---- what is found where a part determines the attribute

any_settles : (rows : List Row) (a r : ℕ) (parts : List (List ℕ)) → r < length rows → list_any (λ part. determines rows part a) parts ≡ true
    → list_any (λ part. settles rows part a r) parts ≡ true
unfolding determines
any_settles rows a r [] rl e = e
any_settles rows a r (part ∷ parts) rl e =
    ⊎_elim (λ (yes : every (settles rows part a) (length rows) ≡ true).
    ap (λ b. b || list_any (λ part. settles rows part a r) parts) (every-at (settles rows part a) (length rows) r yes rl))
    (λ (no : every (settles rows part a) (length rows) ≡ false).
    or_true (settles rows part a r) (any_settles rows a r parts rl (sym (ap (λ b. b || list_any (λ part. determines rows part a) parts) no) ∙ e)))
    (cases_Bool (every (settles rows part a) (length rows)))
  where
    or_true : (b : Bool) {c : Bool} → c ≡ true → (b || c) ≡ true
    or_true true e = refl
    or_true false e = e

and_none : (b : Bool) {c : Bool} → c ≡ true → (b && not c) ≡ false
and_none true e = ap not e
and_none false e = refl

pub gathered_none : {A : Type 0} (f : ℕ → List A) (n : ℕ) → ((k : ℕ) → k < n → f k ≡ []) → gathered f n ≡ []
gathered_none f zero none = refl
gathered_none f (suc n) none =
    let before = gathered_none f n (λ k l. none k (omega (arith, l))) in
    let here = none n (omega arith) in
    λ i. before i ++ here i

pub nothing_found : (rows : List Row) (support side : ℕ) (x : List ℕ) (a : ℕ) → list_any (λ part. determines rows part a) (proper_parts x) ≡ true
    → found_at rows support side x a ≡ []
unfolding found_at plain_at constant_at is_plain is_constant
nothing_found rows support side x a e =
    let plain : plain_at rows side x a ≡ [] = cond-false _ _ _ (and_none (determines rows x a) e) in
    let constants : constants_at rows support side x a ≡ [] =
    gathered_none (constant_at rows support side x a) (length rows) (λ r rl. cond-false _ _ _
    (and_none (is_first rows x r && has_support rows support x r && is_short rows (a ∷ []) r && is_short rows x r && settles rows x a r)
    (any_settles rows a r (proper_parts x) rl e))) in
    either (list_any (nat_eq a) x) _ (λ i. plain i ++ constants i)
  where
    either : {A : Type 0} (b : Bool) (xs : List A) → xs ≡ [] → cond b [] xs ≡ []
    either true xs e = refl
    either false xs e = e

-- ---- constants are found at the first rows of classes with support

pub append_none : {A : Type 0} (xs : List A) → xs ++ [] ≡ xs
append_none [] = refl
append_none (x ∷ xs) = ap (λ ys. x ∷ ys) (append_none xs)

flat_gathered : {A : Type 0} (c : ℕ → List A) (p : ℕ → Bool) (n : ℕ) → ((r : ℕ) → r < n → p r ≡ false → c r ≡ [])
    → flat_map c (gathered (λ r. cond (p r) (r ∷ []) []) n) ≡ gathered c n
flat_gathered c p zero none = refl
flat_gathered c p (suc n) none =
    flat_map-append c (gathered (λ r. cond (p r) (r ∷ []) []) n) (cond (p n) (n ∷ []) [])
    ∙ (λ i. flat_gathered c p n (λ r rl. none r (omega (arith, rl))) i ++ here i)
  where
    here : flat_map c (cond (p n) (n ∷ []) []) ≡ c n
    here = ⊎_elim (λ (e : p n ≡ true). ap (flat_map c) (cond-true _ _ _ e) ∙ append_none (c n))
        (λ (e : p n ≡ false). ap (flat_map c) (cond-false _ _ _ e) ∙ sym (none n (omega arith) e)) (cases_Bool (p n))

pub constants_at_leads : (rows : List Row) (support side : ℕ) (x : List ℕ) (a : ℕ)
    → flat_map (constant_at rows support side x a) (leads_of rows support x) ≡ constants_at rows support side x a
unfolding constant_at is_constant
constants_at_leads rows support side x a =
    flat_gathered (constant_at rows support side x a) (λ r. is_first rows x r && has_support rows support x r) (length rows) (λ r rl e.
    cond-false _ _ _ (λ i. (e i && is_short rows (a ∷ []) r && is_short rows x r && settles rows x a r && not (list_any (λ part. settles rows part a r) (proper_parts x)))))

-- and these are first rows with support
pub record IsLead (rows : List Row) (support : ℕ) (x : List ℕ) (r : ℕ) : Type 0 where
  pub row : r < length rows
  pub first : is_first rows x r ≡ true
  pub many : has_support rows support x r ≡ true

gathered_each : (P : ℕ → Type 0) (f : ℕ → List ℕ) (n : ℕ) → ((k : ℕ) → k < n → All P (f k)) → All P (gathered f n)
gathered_each P f zero each = All-nil P
gathered_each P f (suc n) each = All-append P (gathered f n) (f n) (gathered_each P f n (λ k l. each k (omega (arith, l)))) (each n (omega arith))

pub leads_are : (rows : List Row) (support : ℕ) (x : List ℕ) → All (IsLead rows support x) (leads_of rows support x)
leads_are rows support x =
    gathered_each (IsLead rows support x) (λ r. cond (is_first rows x r && has_support rows support x r) (r ∷ []) []) (length rows) (λ r rl. one r rl)
  where
    one : (r : ℕ) → r < length rows → All (IsLead rows support x) (cond (is_first rows x r && has_support rows support x r) (r ∷ []) [])
    one r rl = ⊎_elim
        (λ (e : (is_first rows x r && has_support rows support x r) ≡ true).
        let both = and_parts (is_first rows x r) (has_support rows support x r) e in
        subst (All (IsLead rows support x)) (sym (cond-true _ _ _ e))
        (All-cons (IsLead rows support x) r [] (record { row = rl; first = both.0; many = both.1 }) (All-nil (IsLead rows support x))))
        (λ (e : (is_first rows x r && has_support rows support x r) ≡ false). subst (All (IsLead rows support x)) (sym (cond-false _ _ _ e)) (All-nil (IsLead rows support x)))
        (cases_Bool (is_first rows x r && has_support rows support x r))

-- ---- the tests of a candidate

and_true : (b : Bool) → (b && true) ≡ b
and_true true = refl
and_true false = refl

pub plain_test : (rows : List Row) (x : List ℕ) (a : ℕ) (all any : Bool) → all ≡ determines rows x a → any ≡ list_any (λ part. determines rows part a) (proper_parts x)
    → any ≡ false → is_plain rows x a ≡ all
unfolding is_plain
plain_test rows x a all any e f g = (λ i. sym e i && not ((sym f ∙ g) i)) ∙ and_true all

-- whether four tests all hold, as they are tried one after the other
pub record IsTested (all short short_x says said : Bool) : Type 0 where
  pub one : says ≡ false → false ≡ all
  pub two : said ≡ true → false ≡ all
  pub three : short ≡ false → false ≡ all
  pub last : says ≡ true → said ≡ false → short ≡ true → short_x ≡ all

tested : (all short short_x says said : Bool) → all ≡ (short && short_x && says && not said) → IsTested all short short_x says said
tested all short short_x says said is = record {
  one = λ h. sym (is ∙ ap (λ b. b && not said) (and_right (short && short_x) says h));
  two = λ h. sym (is ∙ and_right (short && short_x && says) (not said) (ap not h));
  three = λ h. sym (is ∙ (λ i. h i && short_x && says && not said));
  last = λ hs hp ha. sym (is ∙ (λ i. ha i && short_x && hs i && not (hp i)) ∙ and_true (short_x && true) ∙ and_true short_x);
}

pub constant_tested : (rows : List Row) (attrs support : ℕ) (store : List Facts) (places x : List ℕ) (a r : ℕ) (settled : Settled)
    → All (AreFacts rows attrs support) store → StandAt store places (proper_parts x) → IsSettled rows support x a settled → a < attrs → r < length rows
    → is_first rows x r ≡ true → has_support rows support x r ≡ true
    → IsTested (is_constant rows support x a r) (is_short rows (a ∷ []) r) (is_short rows x r) (says settled r) (list_any (λ place. says_of (known_at store a place) r) places)
unfolding is_constant
constant_tested rows attrs support store places x a r settled facts stand is al rl first many =
    let said = parts_settle rows attrs support store a r places (proper_parts x) facts al rl (parts_supported rows support x r many) stand in
    let settle = is.each r rl many in
    tested _ _ _ _ _ (λ i. first i && many i && is_short rows (a ∷ []) r && is_short rows x r && sym settle i && not (sym said i))
