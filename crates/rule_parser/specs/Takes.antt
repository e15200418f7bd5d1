-- Each part of a rule line that stands in lists takes a token off the front.
use Rattle.std.proofs.Common.{◌≡◌, ℕ, zero, suc, ◌<◌, ◌≤◌, Bool, true, false, cond, List, [], ◌∷◌, length, Option, Some, None, refl, ap, arith}
use Rattle.std.proofs.lemmas.Option.{none-some, some_pair_parts}
use Rattle.std.specs.Prelude.{codes, nat_le}
use Rattle.std.specs.Str.{bytes_eq}
use Rattle.line_grammar.specs.Phrases.{◌>>=◌, name_at, constant_at, few_at}
use Rattle.text_lists.specs.declared.bounds.TheConstants.{SET_MEMBERS}
use Rattle.line_grammar.specs.Marks.{after_mark, same_mark}
use Rattle.line_grammar.specs.Takes.{name_at-takes, constant_at-takes}
use Rattle.line_grammar.specs.TokenLists.{Reader, in_front, or_others, and_others, list1_within, list1_at}
use Rattle.line_grammar.specs.declared.tokens.Mark.{Mark}
use Rattle.line_grammar.specs.declared.tokens.Mark.TheVariants.{Equals, Differs, Underscore, OpenBrace, CloseBrace, Comma}
use Rattle.line_grammar.specs.declared.tokens.Token.{Token}
use Rattle.line_grammar.specs.declared.tokens.Token.TheVariants.{Name, Number, Quoted, Sign}
use Rattle.cfd_semantics.specs.declared.pattern.Pattern.{Pattern}
use Rattle.cfd_semantics.specs.declared.pattern.Pattern.TheVariants.{Any, Is, In, NotIn}
use Rattle.rule_model.specs.declared.edit_rule.EditCell.{EditCell}
use Rattle.rule_model.specs.declared.edit_rule.EditCell.TheVariants as edit_cells
use Rattle.rule_parser.specs.RuleLines.{said, set_at, any_or, cell_from, cell_at, equal_at, differs_at, test_from, test_at, pattern_at, pair_at}

-- what both of two steps read
both_read : {A B : Type 0} (found : Option A) (f : A → Option B) (y : B) → (found >>= f) ≡ Some y → (x : A) × (found ≡ Some x) × (f x ≡ Some y)
both_read None f y e = absurd (none-some _ e)
both_read (Some x) f y e = (x, refl, e)

some_same : {A : Type 0} (x y : A) → ◌≡◌ {A = Option A} (Some x) (Some y) → x ≡ y
some_same x y e = cc

if_marked : (same : Bool) (tokens rest : List Token) → cond {A = Option (List Token)} same (Some tokens) None ≡ Some rest → tokens ≡ rest
if_marked true tokens rest e = some_same tokens rest e
if_marked false tokens rest e = absurd (none-some _ e)

after_mark-takes : (mark : Mark) (tokens rest : List Token) → after_mark mark tokens ≡ Some rest → length rest < length tokens
after_mark-takes mark [] rest e = absurd (none-some _ e)
after_mark-takes mark (Name name ∷ tokens) rest e = absurd (none-some _ e)
after_mark-takes mark (Number n ∷ tokens) rest e = absurd (none-some _ e)
after_mark-takes mark (Quoted text ∷ tokens) rest e = absurd (none-some _ e)
after_mark-takes mark (Sign found ∷ tokens) rest e = omega (arith, ap length (if_marked (same_mark found mark) tokens rest e))

-- ---- lists

-- p takes a token off the front
abbrev TakesOne : {A : Type 0} → Reader A → Type 0
TakesOne {A} p = (tokens rest : List Token) (x : A) → p tokens ≡ Some (x, rest) → length rest < length tokens

in_front-rest : {A : Type 0} (x : A) (found : Option (List A × List Token)) (xs : List A) (rest : List Token) → in_front x found ≡ Some (xs, rest) → (ys : List A) × (found ≡ Some (ys, rest))
in_front-rest x None xs rest e = absurd (none-some _ e)
in_front-rest x (Some found) xs rest e = (found.0, ap (λ (r : List Token). Some (found.0, r)) (some_pair_parts _ _ _ _ e).1)

others_take : {A : Type 0} (p : Reader A) (room : ℕ) → TakesOne (list1_within p room) → (after rest : List Token) (x : A) (xs : List A) (behind : Option (List Token)) → after_mark Comma after ≡ behind → or_others (list1_within p room) x after behind ≡ Some (xs, rest) → length rest ≤ length after
others_take p room others after rest x xs None is e = omega (arith, ap length (some_pair_parts _ _ _ _ e).1)
others_take p room others after rest x xs (Some behind) is e =
    let more = in_front-rest x (list1_within p room behind) xs rest e in
    omega (arith, after_mark-takes Comma after behind is, others behind rest more.0 more.1)

first_takes : {A : Type 0} (p : Reader A) → TakesOne p → (room : ℕ) → TakesOne (list1_within p room) → (tokens rest : List Token) (xs : List A) (found : Option (A × List Token)) → p tokens ≡ found → and_others (list1_within p room) found ≡ Some (xs, rest) → length rest < length tokens
first_takes p takes room others tokens rest xs None is e = absurd (none-some _ e)
first_takes p takes room others tokens rest xs (Some (x, after)) is e =
    omega (arith, takes tokens after x is, others_take p room others after rest x xs (after_mark Comma after) refl e)

list1_within-takes : {A : Type 0} (p : Reader A) → TakesOne p → (room : ℕ) → TakesOne (list1_within p room)
list1_within-takes p takes zero tokens rest xs e = absurd (none-some _ e)
list1_within-takes p takes (suc room) tokens rest xs e = first_takes p takes room (list1_within-takes p takes room) tokens rest xs (p tokens) refl e

-- ---- cells

said-rest : {A B : Type 0} (f : A → B) (found : Option (A × List Token)) (y : B) (rest : List Token) → said f found ≡ Some (y, rest) → (x : A) × (found ≡ Some (x, rest))
said-rest f None y rest e = absurd (none-some _ e)
said-rest f (Some found) y rest e = (found.0, ap (λ (r : List Token). Some (found.0, r)) (some_pair_parts _ _ _ _ e).1)

only_if-rest : {A : Type 0} (passes : Bool) (found : A × List Token) (x : A) (rest : List Token) → cond {A = Option (A × List Token)} passes (Some found) None ≡ Some (x, rest) → found.1 ≡ rest
only_if-rest true found x rest e = (some_pair_parts _ _ _ _ e).1
only_if-rest false found x rest e = absurd (none-some _ e)

set_at-takes : TakesOne set_at
unfolding set_at
set_at-takes tokens rest values e =
    let open_brace = both_read (after_mark OpenBrace tokens) _ (values, rest) e in
    let few = both_read (few_at constant_at SET_MEMBERS open_brace.0) _ (values, rest) open_brace.2 in
    let list = both_read (list1_at constant_at open_brace.0) _ few.0 few.1 in
    let behind = only_if-rest (nat_le (length list.0.0) SET_MEMBERS) list.0 few.0.0 few.0.1 list.2 in
    let close = both_read (after_mark CloseBrace few.0.1) _ (values, rest) few.2 in
    let last = (some_pair_parts _ _ _ _ close.2).1 in
    omega (arith, ap length last, ap length behind, after_mark-takes OpenBrace tokens open_brace.0 open_brace.1, list1_within-takes constant_at constant_at-takes (length open_brace.0) open_brace.0 list.0.1 list.0.0 list.1, after_mark-takes CloseBrace few.0.1 close.0 close.1)

set_cell-word : (is_in is_not : Bool) (tokens rest : List Token) (cell : Pattern (List ℕ))
    → cond {A = Option (Pattern (List ℕ) × List Token)} is_in (said (λ values. In values) (set_at tokens)) (cond is_not (said (λ values. NotIn values) (set_at tokens)) None) ≡ Some (cell, rest) → length rest < length tokens
set_cell-word true is_not tokens rest cell e =
    let set = said-rest (λ (values : List (List ℕ)). In values) (set_at tokens) cell rest e in
    set_at-takes tokens rest set.0 set.1
set_cell-word false true tokens rest cell e =
    let set = said-rest (λ (values : List (List ℕ)). NotIn values) (set_at tokens) cell rest e in
    set_at-takes tokens rest set.0 set.1
set_cell-word false false tokens rest cell e = absurd (none-some _ e)

any_or-takes : {A : Type 0} (tokens rest : List Token) (any x : A) (mark : Option (List Token)) (other : Option (A × List Token)) → after_mark Underscore tokens ≡ mark → ((y : A) (after : List Token) → other ≡ Some (y, after) → length after < length tokens) → any_or any mark other ≡ Some (x, rest) → length rest < length tokens
any_or-takes tokens rest any x (Some after) other is takes e =
    omega (arith, after_mark-takes Underscore tokens after is, ap length (some_pair_parts _ _ _ _ e).1)
any_or-takes tokens rest any x None other is takes e = takes x rest e

constant_cell-takes : {A : Type 0} (says : List ℕ → A) (tokens rest : List Token) (cell : A) → said says (constant_at tokens) ≡ Some (cell, rest) → length rest < length tokens
constant_cell-takes says tokens rest cell e =
    let value = said-rest says (constant_at tokens) cell rest e in
    constant_at-takes tokens rest value.0 value.1

cell_from-takes : (tokens rest : List Token) (cell : Pattern (List ℕ)) (word : Option (List ℕ × List Token)) → name_at tokens ≡ word → cell_from tokens word ≡ Some (cell, rest) → length rest < length tokens
cell_from-takes tokens rest cell (Some (word, behind)) is e =
    omega (arith, name_at-takes tokens behind word is, set_cell-word (bytes_eq word (codes "in")) (bytes_eq word (codes "not")) behind rest cell e)
cell_from-takes tokens rest cell None is e =
    any_or-takes tokens rest Any cell (after_mark Underscore tokens) _ refl (λ y after found. constant_cell-takes (λ (value : List ℕ). Is value) tokens after y found) e

pub cell_at-takes : (tokens rest : List Token) (x : Pattern (List ℕ)) → cell_at tokens ≡ Some (x, rest) → length rest < length tokens
unfolding cell_at
cell_at-takes tokens rest cell e = cell_from-takes tokens rest cell (name_at tokens) refl e

-- ---- patterns and pairs

equal_at-takes : (tokens rest : List Token) (cell : EditCell) → equal_at tokens ≡ Some (cell, rest) → length rest < length tokens
equal_at-takes tokens rest cell e =
    any_or-takes tokens rest edit_cells.Any cell (after_mark Underscore tokens) _ refl (λ y after found. constant_cell-takes (λ (value : List ℕ). edit_cells.Is value) tokens after y found) e

test_from-takes : (tokens rest : List Token) (cell : EditCell) (equals : Option (List Token)) → after_mark Equals tokens ≡ equals → test_from tokens equals ≡ Some (cell, rest) → length rest < length tokens
test_from-takes tokens rest cell (Some behind) is e = omega (arith, after_mark-takes Equals tokens behind is, equal_at-takes behind rest cell e)
test_from-takes tokens rest cell None is e =
    let differs = both_read (after_mark Differs tokens) differs_at (cell, rest) e in
    omega (arith, after_mark-takes Differs tokens differs.0 differs.1, constant_cell-takes (λ (value : List ℕ). edit_cells.Not value) differs.0 rest cell differs.2)

pub pattern_at-takes : (tokens rest : List Token) (x : List ℕ × EditCell) → pattern_at tokens ≡ Some (x, rest) → length rest < length tokens
unfolding pattern_at
pattern_at-takes tokens rest pattern e =
    let name = both_read (name_at tokens) _ (pattern, rest) e in
    let cell = both_read (test_at name.0.1) _ (pattern, rest) name.2 in
    omega (arith, name_at-takes tokens name.0.1 name.0.0 name.1, test_from-takes name.0.1 cell.0.1 cell.0.0 (after_mark Equals name.0.1) refl cell.1, ap length (some_pair_parts _ _ _ _ cell.2).1)

pub pair_at-takes : (tokens rest : List Token) (x : List ℕ × List ℕ) → pair_at tokens ≡ Some (x, rest) → length rest < length tokens
unfolding pair_at
pair_at-takes tokens rest pair e =
    let name = both_read (name_at tokens) _ (pair, rest) e in
    let equals = both_read (after_mark Equals name.0.1) _ (pair, rest) name.2 in
    let master = both_read (name_at equals.0) _ (pair, rest) equals.2 in
    omega (arith, name_at-takes tokens name.0.1 name.0.0 name.1, after_mark-takes Equals name.0.1 equals.0 equals.1, name_at-takes equals.0 master.0.1 master.0.0 master.1, ap length (some_pair_parts _ _ _ _ master.2).1)
