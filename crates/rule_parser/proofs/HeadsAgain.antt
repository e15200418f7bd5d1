-- The heads of declarations that are written so are read again.
use Rattle.std.proofs.Common.{◌≡◌, ℕ, ◌<◌, ◌≤◌, true, List, [], ◌∷◌, ◌++◌, length, Option, Some, None, refl, ap, sym, ◌∙◌, subst, append_assoc, arith}
use Rattle.std.specs.Prelude.{codes, map}
use Rattle.std.specs.List.{AllByRecursion, zip}
use Rattle.std.proofs.lemmas.List.{append-nil}
use Rattle.text_lists.specs.Names.{IsName}
use Rattle.line_grammar.specs.Phrases.{name_at, list_until}
use Rattle.line_grammar.specs.Marks.{after_mark, same_mark}
use Rattle.line_grammar.specs.TokenLists.{list1_at, list_at}
use Rattle.line_grammar.specs.declared.tokens.Mark.{Mark}
use Rattle.line_grammar.specs.declared.tokens.Mark.TheVariants.{Colon, Comma, OpenBracket, CloseBracket, Semicolon, Equals, Arrow}
use Rattle.line_grammar.specs.declared.tokens.Token.{Token}
use Rattle.line_grammar.specs.declared.tokens.Token.TheVariants.{Name, Sign}
use Rattle.line_grammar.specs.declared.writing.Part.{Part}
use Rattle.line_grammar.specs.declared.writing.Part.TheVariants.{Space}
use Rattle.line_grammar.specs.Spelling.{tokens_in, AreApart, IsReadable, name, mark, comma_separated, spaced_list}
use Rattle.line_grammar.proofs.PartLemmas.{tokens_in-append, tokens_in-spaced, AreGood, AreGood-append, AreGood-list, AreGood-spaced, IsLoose, IsLoose-nil, IsLoose-mark, AreApart-append, AreApart-list, IsLoose-spaced, behind_mark, AreReadAgain, list1_at-written, list_at-written, list_until-written, names_again, names_some, names_good}
use Rattle.rule_model.specs.declared.decl.CfdDecl.{CfdDecl}
use Rattle.rule_model.specs.declared.decl.CindDecl.{CindDecl}
use Rattle.rule_model.specs.declared.decl.EditDecl.{EditDecl}
use Rattle.rule_model.specs.declared.decl.Decl.TheVariants as decls
use Rattle.rule_model.specs.declared.edit_rule.EditCell.{EditCell}
use Rattle.rule_model.specs.Declarations.{IsWrittenEditCell}
use Rattle.rule_parser.specs.RuleLines.{cfd_at, side_at, cind_at, pair_at, pattern_at, when_at, edit_at, head_at}
use Rattle.rule_parser.specs.RuleText.{attr_parts, attrs_parts, pair_parts, pattern_parts, cfd_parts, cfd_line, side_parts, cind_line, when_parts, gives_parts, edit_line}
use Rattle.rule_parser.proofs.CellsAgain.{patterns_again, patterns_some, patterns_good, pattern_apart}

-- the tokens of a list of names
abbrev pub names : List (List ℕ) → List Token
names xs = tokens_in (comma_separated attr_parts xs)

-- a list, a mark and more
pub closed_tokens : {A : Type 0} (p : A → List Part) (xs : List A) (m : Mark) (more : List Part) → tokens_in ((comma_separated p xs ++ mark m ∷ []) ++ more) ≡ tokens_in (comma_separated p xs) ++ Sign m ∷ tokens_in more
closed_tokens p xs m more = ap tokens_in (append_assoc (comma_separated p xs) (mark m ∷ []) more) ∙ tokens_in-append (comma_separated p xs) (mark m ∷ more)

pub names_until : (m : Mark) (xs : List (List ℕ)) (rest : List Token) → after_mark Comma (Sign m ∷ rest) ≡ None → same_mark m m ≡ true → list_until name_at m (names xs ++ Sign m ∷ rest) ≡ Some (xs, rest)
names_until m xs rest ended same = list_until-written name_at attr_parts m xs rest (names_again xs) (names_some xs) ended refl same

-- ---- CFDs

pub cfd_again : (cfd : CfdDecl) → 1 ≤ length cfd.y → head_at (tokens_in (cfd_line cfd)) ≡ Some (decls.Cfd (record cfd { rows = [] }), [])
unfolding head_at cfd_at
cfd_again cfd some =
    let behind = Space ∷ mark Arrow ∷ Space ∷ attrs_parts cfd.y in
    let left : list_until name_at CloseBracket (names cfd.x ++ Sign CloseBracket ∷ tokens_in behind) ≡ Some (cfd.x, tokens_in behind) = names_until CloseBracket cfd.x (tokens_in behind) refl refl in
    let right : list1_at name_at (names cfd.y ++ Sign CloseBracket ∷ []) ≡ Some (cfd.y, Sign CloseBracket ∷ []) =
    list1_at-written name_at attr_parts cfd.y (Sign CloseBracket ∷ []) some (names_again cfd.y) (names_some cfd.y) refl in
    rw (closed_tokens attr_parts cfd.x CloseBracket behind, left, tokens_in-append (comma_separated attr_parts cfd.y) (mark CloseBracket ∷ []), right) refl

-- ---- inclusion dependencies

side_again : (table : List ℕ) (key pattern : List (List ℕ)) (more : List Part) → side_at (tokens_in (side_parts table key pattern ++ more)) ≡ Some (record { table = table; key = key; pattern = pattern }, tokens_in more)
unfolding side_at
side_again table key pattern more =
    let behind = Space ∷ ((comma_separated attr_parts pattern ++ mark CloseBracket ∷ []) ++ more) in
    let first : tokens_in ((comma_separated attr_parts key ++ mark Semicolon ∷ Space ∷ (comma_separated attr_parts pattern ++ mark CloseBracket ∷ [])) ++ more) ≡ names key ++ Sign Semicolon ∷ tokens_in behind =
    ap tokens_in (append_assoc (comma_separated attr_parts key) (mark Semicolon ∷ Space ∷ (comma_separated attr_parts pattern ++ mark CloseBracket ∷ [])) more) ∙ tokens_in-append (comma_separated attr_parts key) (mark Semicolon ∷ behind) in
    let second : tokens_in behind ≡ names pattern ++ Sign CloseBracket ∷ tokens_in more = closed_tokens attr_parts pattern CloseBracket more in
    rw (first, names_until Semicolon key (tokens_in behind) refl refl, second, names_until CloseBracket pattern (tokens_in more) refl refl) refl

pub cind_again : (cind : CindDecl) → head_at (tokens_in (cind_line cind)) ≡ Some (decls.Cind (record cind { rows = [] }), [])
unfolding head_at cind_at
cind_again cind =
    let right_side = side_parts cind.right cind.y cind.yp in
    let behind = Space ∷ name (codes "in") ∷ Space ∷ right_side in
    let left = side_again cind.left cind.x cind.xp behind in
    let right : side_at (tokens_in right_side) ≡ Some (record { table = cind.right; key = cind.y; pattern = cind.yp }, []) =
    ap (λ ps. side_at (tokens_in ps)) (sym (append-nil right_side)) ∙ side_again cind.right cind.y cind.yp [] in
    rw (left, right) refl

-- ---- editing rules

pair_again : (pair : List ℕ × List ℕ) (rest : List Token) → pair_at (tokens_in (pair_parts pair) ++ rest) ≡ Some (pair, rest)
unfolding pair_at
pair_again (left, right) rest = refl

pairs_again : (pairs : List (List ℕ × List ℕ)) → AreReadAgain pair_at pair_parts pairs
pairs_again [] = tt
pairs_again (pair ∷ pairs) = (λ rest. pair_again pair rest, pairs_again pairs)

pairs_some : (pairs : List (List ℕ × List ℕ)) → AllByRecursion (λ pair. 0 < length (tokens_in (pair_parts pair))) pairs
pairs_some [] = tt
pairs_some ((left, right) ∷ pairs) = (omega arith, pairs_some pairs)

no_pair : (word next : List ℕ) (rest : List Token) → ◌≡◌ {A = Option ((List ℕ × List ℕ) × List Token)} (pair_at (Name word ∷ Name next ∷ rest)) None
unfolding pair_at
no_pair word next rest = refl

when_again : (pattern : List (List ℕ × EditCell)) → AllByRecursion (λ p. IsWrittenEditCell p.1) pattern → when_at (tokens_in (when_parts pattern)) ≡ Some (pattern, [])
when_again [] are = refl
when_again (p ∷ ps) are =
    ap (list1_at pattern_at) (sym (append-nil (tokens_in (comma_separated pattern_parts (p ∷ ps)))))
    ∙ list1_at-written pattern_at pattern_parts (p ∷ ps) [] (omega arith) (patterns_again (p ∷ ps) are) (patterns_some (p ∷ ps)) refl

firsts : (xs ys : List (List ℕ)) → length xs ≡ length ys → map (λ (pair : List ℕ × List ℕ). pair.0) (zip xs ys) ≡ xs
firsts [] ys same = refl
firsts (x ∷ xs) [] same = absurd (omega arith)
firsts (x ∷ xs) (y ∷ ys) same = ap (λ zs. x ∷ zs) (firsts xs ys (omega arith))

seconds : (xs ys : List (List ℕ)) → length xs ≡ length ys → map (λ (pair : List ℕ × List ℕ). pair.1) (zip xs ys) ≡ ys
seconds [] [] same = refl
seconds [] (y ∷ ys) same = absurd (omega arith)
seconds (x ∷ xs) [] same = absurd (omega arith)
seconds (x ∷ xs) (y ∷ ys) same = ap (λ zs. y ∷ zs) (seconds xs ys (omega arith))

pub edit_again : (edit : EditDecl) → length edit.x ≡ length edit.xm → AllByRecursion (λ p. IsWrittenEditCell p.1) edit.when → head_at (tokens_in (edit_line edit)) ≡ Some (decls.Edit edit, [])
unfolding head_at edit_at
edit_again edit even are =
    let pairs = zip edit.x edit.xm in
    let behind = tokens_in (gives_parts edit) in
    let columns : tokens_in (spaced_list pair_parts pairs ++ gives_parts edit) ≡ tokens_in (comma_separated pair_parts pairs) ++ behind =
    tokens_in-append (spaced_list pair_parts pairs) (gives_parts edit) ∙ ap (λ ts. ts ++ behind) (tokens_in-spaced pair_parts pairs) in
    let read : list_at pair_at (tokens_in (comma_separated pair_parts pairs) ++ behind) ≡ Some (pairs, behind) =
    list_at-written pair_at pair_parts pairs behind (pairs_again pairs) (pairs_some pairs) refl (no_pair (codes "gives") edit.target (Sign Equals ∷ Name edit.source ∷ tokens_in (when_parts edit.when))) in
    rw (columns, read, pair_again (edit.target, edit.source) (tokens_in (when_parts edit.when)), when_again edit.when are, firsts edit.x edit.xm even, seconds edit.x edit.xm even) refl

-- ---- they can be read

attr_apart : (attr : List ℕ) → AreApart None (attr_parts attr)
attr_apart attr = (refl, tt)

attrs_good : (xs : List (List ℕ)) → AllByRecursion IsName xs → AreGood (attrs_parts xs)
attrs_good xs are = (tt, AreGood-append (comma_separated attr_parts xs) (mark CloseBracket ∷ []) (AreGood-list attr_parts xs (names_good xs are)) (tt, tt))

attrs_apart : (xs : List (List ℕ)) (more : List Part) → AreApart None more → AreApart None (attrs_parts xs ++ more)
attrs_apart xs more apart = (
  refl,
  behind_mark OpenBracket ((comma_separated attr_parts xs ++ mark CloseBracket ∷ []) ++ more)
      (rw (append_assoc (comma_separated attr_parts xs) (mark CloseBracket ∷ []) more) (AreApart-list attr_parts xs (mark CloseBracket ∷ more) attr_apart (IsLoose-mark CloseBracket more refl apart))),
)

-- a table with two lists of attributes
pub cfd_parts_good : (table : List ℕ) (x y : List (List ℕ)) → IsName table → AllByRecursion IsName x → AllByRecursion IsName y → AreGood (cfd_parts table x y)
cfd_parts_good table x y is_name' left right = (is_name', (tt, AreGood-append (attrs_parts x) (Space ∷ mark Arrow ∷ Space ∷ attrs_parts y) (attrs_good x left) (tt, attrs_good y right)))

pub cfd_parts_apart : (table : List ℕ) (x y : List (List ℕ)) (more : List Part) → AreApart None more → AreApart None (cfd_parts table x y ++ more)
cfd_parts_apart table x y more apart =
    let behind = Space ∷ mark Arrow ∷ Space ∷ (attrs_parts y ++ more) in
    (refl, (refl, subst (AreApart None) (sym (append_assoc (attrs_parts x) (Space ∷ mark Arrow ∷ Space ∷ attrs_parts y) more)) (attrs_apart x behind (refl, attrs_apart y more apart))))

pub cfd_readable : (cfd : CfdDecl) → IsName cfd.name → IsName cfd.table → AllByRecursion IsName cfd.x → AllByRecursion IsName cfd.y → IsReadable (cfd_line cfd)
cfd_readable cfd is_name' table x y = record {
  some = omega arith;
  good = (refl, (is_name', cfd_parts_good cfd.table cfd.x cfd.y table x y));
  apart = (refl, (refl, subst (AreApart None) (append-nil (cfd_parts cfd.table cfd.x cfd.y)) (cfd_parts_apart cfd.table cfd.x cfd.y [] tt)));
}

side_good : (table : List ℕ) (key pattern : List (List ℕ)) → IsName table → AllByRecursion IsName key → AllByRecursion IsName pattern → AreGood (side_parts table key pattern)
side_good table key pattern is_name' keys patterns = (
  is_name',
  (
    tt,
    AreGood-append (comma_separated attr_parts key) _ (AreGood-list attr_parts key (names_good key keys))
        (tt, AreGood-append (comma_separated attr_parts pattern) (mark CloseBracket ∷ []) (AreGood-list attr_parts pattern (names_good pattern patterns)) (tt, tt)),
  ),
)

side_apart : (table : List ℕ) (key pattern : List (List ℕ)) (more : List Part) → AreApart None more → AreApart None (side_parts table key pattern ++ more)
side_apart table key pattern more apart =
    let inner = comma_separated attr_parts pattern ++ mark CloseBracket ∷ [] in
    let last : AreApart None (inner ++ more) = subst (AreApart None) (sym (append_assoc (comma_separated attr_parts pattern) (mark CloseBracket ∷ []) more)) (AreApart-list attr_parts pattern (mark CloseBracket ∷ more) attr_apart (IsLoose-mark CloseBracket more refl apart)) in (
      refl,
      (
        refl,
        behind_mark OpenBracket ((comma_separated attr_parts key ++ mark Semicolon ∷ Space ∷ inner) ++ more) (subst (AreApart None) (sym (append_assoc (comma_separated attr_parts key) (mark Semicolon ∷ Space ∷ inner) more))
            (AreApart-list attr_parts key (mark Semicolon ∷ Space ∷ (inner ++ more)) attr_apart (IsLoose-mark Semicolon (Space ∷ (inner ++ more)) refl last))),
      ),
    )

pub cind_readable : (cind : CindDecl) → IsName cind.name → IsName cind.left → AllByRecursion IsName cind.x → AllByRecursion IsName cind.xp → IsName cind.right → AllByRecursion IsName cind.y → AllByRecursion IsName cind.yp → IsReadable (cind_line cind)
cind_readable cind is_name' left x xp right y yp =
    let right_side = side_parts cind.right cind.y cind.yp in
    let behind = Space ∷ name (codes "in") ∷ Space ∷ right_side in
    record {
      some = omega arith;
      good = (refl, (is_name', AreGood-append (side_parts cind.left cind.x cind.xp) behind (side_good cind.left cind.x cind.xp left x xp) (refl, side_good cind.right cind.y cind.yp right y yp)));
      apart = (refl, (refl, side_apart cind.left cind.x cind.xp behind (refl, subst (AreApart None) (append-nil right_side) (side_apart cind.right cind.y cind.yp [] tt))));
    }

pairs_good : (xs ys : List (List ℕ)) → AllByRecursion IsName xs → AllByRecursion IsName ys → AllByRecursion (λ pair. AreGood (pair_parts pair)) (zip xs ys)
pairs_good [] ys left right = tt
pairs_good (x ∷ xs) [] left right = tt
pairs_good (x ∷ xs) (y ∷ ys) left right = ((left.0, (tt, (right.0, tt))), pairs_good xs ys left.1 right.1)

pair_apart : (pair : List ℕ × List ℕ) → AreApart None (pair_parts pair)
pair_apart (left, right) = (refl, (refl, (refl, tt)))

when_good : (pattern : List (List ℕ × EditCell)) → AllByRecursion (λ p. IsName p.0) pattern → AllByRecursion (λ p. IsWrittenEditCell p.1) pattern → AreGood (when_parts pattern)
when_good [] attrs are = tt
when_good (p ∷ ps) attrs are = (refl, AreGood-spaced pattern_parts (p ∷ ps) (patterns_good (p ∷ ps) attrs are))

when_loose : (pattern : List (List ℕ × EditCell)) → IsLoose (when_parts pattern)
when_loose [] = IsLoose-nil
when_loose (p ∷ ps) = λ before. (refl, rw (append-nil (spaced_list pattern_parts (p ∷ ps))) at (IsLoose-spaced pattern_parts (p ∷ ps) [] pattern_apart IsLoose-nil (Some (Name (codes "when")))))

gives_loose : (edit : EditDecl) → IsLoose (gives_parts edit)
gives_loose edit = λ before. (refl, AreApart-append None (pair_parts (edit.target, edit.source)) (when_parts edit.when) (pair_apart (edit.target, edit.source)) (when_loose edit.when))

pub edit_readable : (edit : EditDecl) → IsName edit.name → IsName edit.table → IsName edit.master → AllByRecursion IsName edit.x → AllByRecursion IsName edit.xm → IsName edit.target → IsName edit.source
    → AllByRecursion (λ p. IsName p.0) edit.when → AllByRecursion (λ p. IsWrittenEditCell p.1) edit.when → IsReadable (edit_line edit)
edit_readable edit is_name' table master x xm target source attrs are =
    let pairs = zip edit.x edit.xm in
    let columns = spaced_list pair_parts pairs ++ gives_parts edit in
    record {
      some = omega arith;
      good = (refl, (is_name', (table, (refl, (master, (tt, AreGood-append (spaced_list pair_parts pairs) (gives_parts edit) (AreGood-spaced pair_parts pairs (pairs_good edit.x edit.xm x xm)) (refl, (target, (tt, (source, when_good edit.when attrs are))))))))));
      apart = (refl, (refl, (refl, (refl, (refl, (refl, IsLoose-spaced pair_parts pairs (gives_parts edit) pair_apart (gives_loose edit) (Some (Sign Colon))))))));
    }
