-- A list of the grammar that is read one p after the other.
use Rattle.std.proofs.Common.{inl, inr, ◌≡◌, ℕ, zero, suc, ◌<◌, ◌≤◌, false, List, [], ◌∷◌, ◌++◌, length, Option, Some, None, refl, ap, sym, ◌∙◌, arith}
use Rattle.std.specs.Prelude.{nat_le}
use Rattle.std.proofs.lemmas.Bool.{le-leb, cond-true, cond-false}
use Rattle.std.proofs.lemmas.Bool.Decides.{leb_tells}
use Rattle.std.proofs.lemmas.List.{length-append}
use Rattle.std.proofs.lemmas.Option.{none-some, same_Some, some_pair_parts}
use Rattle.line_grammar.specs.Phrases.{◌>>=◌, only_if, few_at}
use Rattle.line_grammar.specs.declared.tokens.Token.{Token}
use Rattle.line_grammar.specs.declared.tokens.Token.TheVariants.{Name, Number, Quoted, Sign}
use Rattle.line_grammar.specs.declared.tokens.Mark.TheVariants.{Colon, Comma, OpenBracket, CloseBracket, Semicolon, Equals, Differs, Arrow, Bars, Underscore, Dot, OpenBrace, CloseBrace}
use Rattle.line_grammar.specs.Marks.{after_mark}
use Rattle.line_grammar.specs.TokenLists.{Reader, in_front, or_others, and_others, list1_within, list1_at}

-- the items that were read before, in front of the others
abbrev pub all_in_front : {A : Type 0} → List A → Option (List A × List Token) → Option (List A × List Token)
all_in_front [] found = found
all_in_front (x ∷ xs) found = in_front x (all_in_front xs found)

pub all_in_front-push : {A : Type 0} (xs : List A) (x : A) (found : Option (List A × List Token)) → all_in_front (xs ++ x ∷ []) found ≡ all_in_front xs (in_front x found)
all_in_front-push [] x found = refl
all_in_front-push (y ∷ xs) x found = ap (in_front y) (all_in_front-push xs x found)

pub all_in_front-none : {A : Type 0} (xs : List A) → ◌≡◌ {A = Option (List A × List Token)} (all_in_front xs None) None
all_in_front-none [] = refl
all_in_front-none (x ∷ xs) = ap (in_front x) (all_in_front-none xs)

pub all_in_front-some : {A : Type 0} (xs ys : List A) (rest : List Token) → all_in_front xs (Some (ys, rest)) ≡ Some (xs ++ ys, rest)
all_in_front-some [] ys rest = refl
all_in_front-some (x ∷ xs) ys rest = ap (in_front x) (all_in_front-some xs ys rest)

-- each p takes a token
abbrev pub TakesToken : {A : Type 0} → Reader A → Type 0
TakesToken {A} p = (tokens rest : List Token) (x : A) → p tokens ≡ Some (x, rest) → length rest < length tokens

-- what is left of a list, of which these items were read before
pub record ListLeft {A : Type 0} (p : Reader A) (whole : Option (List A × List Token)) (read : List A) (rest : List Token) : Type 0 where
  pub room : ℕ
  pub enough : length rest ≤ room
  pub same : all_in_front read (list1_within p room rest) ≡ whole

pub ListLeft-whole : {A : Type 0} (p : Reader A) (tokens : List Token) → ListLeft p (list1_at p tokens) [] tokens
ListLeft-whole p tokens = record { room = length tokens; enough = omega arith; same = refl }

pub list1_within-none : {A : Type 0} (p : Reader A) (room : ℕ) (rest : List Token) → p rest ≡ None → ◌≡◌ {A = Option (List A × List Token)} (list1_within p room rest) None
list1_within-none p zero rest none = refl
list1_within-none p (suc room) rest none = rw none refl

-- where no p stands, there is no list
pub ListLeft-none : {A : Type 0} (p : Reader A) (whole : Option (List A × List Token)) (read : List A) (rest : List Token) → ListLeft p whole read rest → p rest ≡ None → None ≡ whole
ListLeft-none p whole read rest left none = sym (ap (all_in_front read) (list1_within-none p left.room rest none) ∙ all_in_front-none read) ∙ left.same

less_room : (room : ℕ) (rest after : List Token) → length rest ≤ room → length after < length rest → (k : ℕ) × (room ≡ suc k)
less_room zero rest after enough shorter = absurd (omega arith)
less_room (suc room) rest after enough shorter = (room, refl)

list1_within-some : {A : Type 0} (p : Reader A) (room : ℕ) (rest after : List Token) (x : A) → p rest ≡ Some (x, after) → list1_within p (suc room) rest ≡ or_others (list1_within p room) x after (after_mark Comma after)
list1_within-some p room rest after x found = rw found refl

-- where no `,` stands behind p, it is the last
pub ListLeft-ends : {A : Type 0} (p : Reader A) (whole : Option (List A × List Token)) (read : List A) (rest after : List Token) (x : A) → ListLeft p whole read rest → length after < length rest → p rest ≡ Some (x, after) → after_mark Comma after ≡ None
    → Some (read ++ x ∷ [], after) ≡ whole
ListLeft-ends p whole read rest after x left shorter found last =
    let less = less_room left.room rest after left.enough shorter in
    let step : list1_within p left.room rest ≡ Some (x ∷ [], after) = ap (λ (k : ℕ). list1_within p k rest) less.1 ∙ list1_within-some p less.0 rest after x found ∙ ap (or_others (list1_within p less.0) x after) last in
    sym (ap (all_in_front read) step ∙ all_in_front-some read (x ∷ []) after) ∙ left.same

pub ListLeft-last : {A : Type 0} (p : Reader A) → TakesToken p → (whole : Option (List A × List Token)) (read : List A) (rest after : List Token) (x : A) → ListLeft p whole read rest → p rest ≡ Some (x, after) → after_mark Comma after ≡ None
    → Some (read ++ x ∷ [], after) ≡ whole
ListLeft-last p takes whole read rest after x left found last = ListLeft-ends p whole read rest after x left (takes rest after x found) found last

pub length-after_comma : (tokens rest : List Token) → after_mark Comma tokens ≡ Some rest → length rest < length tokens
length-after_comma [] rest e = absurd (none-some _ e)
length-after_comma (Sign Comma ∷ tokens) rest e = rw (← same_Some tokens rest e) (omega arith)
length-after_comma (Sign Colon ∷ tokens) rest e = absurd (none-some _ e)
length-after_comma (Sign OpenBracket ∷ tokens) rest e = absurd (none-some _ e)
length-after_comma (Sign CloseBracket ∷ tokens) rest e = absurd (none-some _ e)
length-after_comma (Sign Semicolon ∷ tokens) rest e = absurd (none-some _ e)
length-after_comma (Sign Equals ∷ tokens) rest e = absurd (none-some _ e)
length-after_comma (Sign Differs ∷ tokens) rest e = absurd (none-some _ e)
length-after_comma (Sign Arrow ∷ tokens) rest e = absurd (none-some _ e)
length-after_comma (Sign Bars ∷ tokens) rest e = absurd (none-some _ e)
length-after_comma (Sign Underscore ∷ tokens) rest e = absurd (none-some _ e)
length-after_comma (Sign Dot ∷ tokens) rest e = absurd (none-some _ e)
length-after_comma (Sign OpenBrace ∷ tokens) rest e = absurd (none-some _ e)
length-after_comma (Sign CloseBrace ∷ tokens) rest e = absurd (none-some _ e)
length-after_comma (Name name ∷ tokens) rest e = absurd (none-some _ e)
length-after_comma (Number n ∷ tokens) rest e = absurd (none-some _ e)
length-after_comma (Quoted text ∷ tokens) rest e = absurd (none-some _ e)

pub ListLeft-goes_on : {A : Type 0} (p : Reader A) (whole : Option (List A × List Token)) (read : List A) (rest after behind : List Token) (x : A) → ListLeft p whole read rest → length after < length rest → p rest ≡ Some (x, after) → after_mark Comma after ≡ Some behind
    → ListLeft p whole (read ++ x ∷ []) behind
ListLeft-goes_on p whole read rest after behind x left shorter found more =
    let less = less_room left.room rest after left.enough shorter in
    let step : list1_within p left.room rest ≡ in_front x (list1_within p less.0 behind) = ap (λ (k : ℕ). list1_within p k rest) less.1 ∙ list1_within-some p less.0 rest after x found ∙ ap (or_others (list1_within p less.0) x after) more in
    let fits : length behind ≤ less.0 = omega (arith, shorter, length-after_comma after behind more, left.enough, less.1) in
    record {
      room = less.0;
      enough = fits;
      same = all_in_front-push read x (list1_within p less.0 behind) ∙ ap (all_in_front read) (sym step) ∙ left.same;
    }

pub ListLeft-more : {A : Type 0} (p : Reader A) → TakesToken p → (whole : Option (List A × List Token)) (read : List A) (rest after behind : List Token) (x : A) → ListLeft p whole read rest → p rest ≡ Some (x, after) → after_mark Comma after ≡ Some behind
    → ListLeft p whole (read ++ x ∷ []) behind
ListLeft-more p takes whole read rest after behind x left found more = ListLeft-goes_on p whole read rest after behind x left (takes rest after x found) found more

-- ---- lists of bounded length

in_front-one : {A : Type 0} (x : A) (found : Option (List A × List Token)) (xs : List A) (rest : List Token) → in_front x found ≡ Some (xs, rest) → 1 ≤ length xs
in_front-one x None xs rest e = absurd (none-some _ e)
in_front-one x (Some found) xs rest e = omega (arith, ap length (some_pair_parts _ _ _ _ e).0)

others-one : {A : Type 0} (others : List Token → Option (List A × List Token)) (x : A) (after : List Token) (behind : Option (List Token)) (xs : List A) (rest : List Token) → or_others others x after behind ≡ Some (xs, rest) → 1 ≤ length xs
others-one others x after None xs rest e = omega (arith, ap length (some_pair_parts _ _ _ _ e).0)
others-one others x after (Some behind) xs rest e = in_front-one x (others behind) xs rest e

one_read : {A : Type 0} (others : List Token → Option (List A × List Token)) (found : Option (A × List Token)) (xs : List A) (rest : List Token) → and_others others found ≡ Some (xs, rest) → 1 ≤ length xs
one_read others None xs rest e = absurd (none-some _ e)
one_read others (Some found) xs rest e = others-one others found.0 found.1 (after_mark Comma found.1) xs rest e

above : (most n : ℕ) → most < n → nat_le n most ≡ false
above most n more = elim (leb_tells n most) [ inl le ↦ absurd (omega (arith, le.1)) | inr lt ↦ lt.0 ]

list1_within-some_one : {A : Type 0} (p : Reader A) (room : ℕ) (tokens rest : List Token) (xs : List A) → list1_within p room tokens ≡ Some (xs, rest) → 1 ≤ length xs
list1_within-some_one p zero tokens rest xs found = absurd (none-some _ found)
list1_within-some_one p (suc room) tokens rest xs found = one_read (list1_within p room) (p tokens) xs rest found

few-all : {A : Type 0} (most : ℕ) (found : Option (List A × List Token)) (xs : List A) (rest : List Token) → Some (xs, rest) ≡ found → length xs ≤ most → (found >>= only_if (λ (values : List A). nat_le (length values) most)) ≡ Some (xs, rest)
few-all {A} most found xs rest is few =
    sym (ap (λ (f : Option (List A × List Token)). f >>= only_if (λ (values : List A). nat_le (length values) most)) is) ∙ cond-true (nat_le (length xs) most) (Some (xs, rest)) None (le-leb (length xs) most few)

-- where it all is read, and isn't too long
pub few_at-all : {A : Type 0} (p : Reader A) (most : ℕ) (tokens rest : List Token) (xs : List A) → Some (xs, rest) ≡ list1_at p tokens → length xs ≤ most → few_at p most tokens ≡ Some (xs, rest)
few_at-all p most tokens rest xs is few = few-all most (list1_at p tokens) xs rest is few

few-none : {A : Type 0} (most : ℕ) (found : Option (List A × List Token)) → None ≡ found → (found >>= only_if (λ (values : List A). nat_le (length values) most)) ≡ None
few-none {A} most found none = sym (ap (λ (f : Option (List A × List Token)). f >>= only_if (λ (values : List A). nat_le (length values) most)) none)

pub few_at-none : {A : Type 0} (p : Reader A) (most : ℕ) (tokens : List Token) → None ≡ list1_at p tokens → None ≡ few_at p most tokens
few_at-none p most tokens none = sym (few-none most (list1_at p tokens) none)

too_long : {A : Type 0} (most : ℕ) (xs : List A) (rest : List Token) → most < length xs → (◌≡◌ {A = Option (List A × List Token)} (Some (xs, rest) >>= only_if (λ (values : List A). nat_le (length values) most)) None)
too_long {A} most xs rest more = cond-false (nat_le (length xs) most) (Some (xs, rest)) None (above most (length xs) more)

long : {A : Type 0} (p : Reader A) (most : ℕ) (read : List A) (found whole : Option (List A × List Token)) → ((xs : List A) (rest : List Token) → found ≡ Some (xs, rest) → 1 ≤ length xs) → all_in_front read found ≡ whole → most ≤ length read
    → (whole >>= only_if (λ (values : List A). nat_le (length values) most)) ≡ None
long {A} p most read None whole one is more = few-none most whole (sym (all_in_front-none read) ∙ is)
long {A} p most read (Some (xs, rest)) whole one is more =
    sym (ap (λ (f : Option (List A × List Token)). f >>= only_if (λ (values : List A). nat_le (length values) most)) (sym (all_in_front-some read xs rest) ∙ is))
    ∙ too_long most (read ++ xs) rest (omega (arith, length-append read xs, one xs rest refl, more))

-- where more is left behind so many
pub few_at-long : {A : Type 0} (p : Reader A) (most : ℕ) (tokens rest : List Token) (read : List A) → ListLeft p (list1_at p tokens) read rest → most ≤ length read → None ≡ few_at p most tokens
few_at-long p most tokens rest read left more =
    sym (long p most read (list1_within p left.room rest) (list1_at p tokens) (λ xs after found. list1_within-some_one p left.room rest after xs found) left.same more)
