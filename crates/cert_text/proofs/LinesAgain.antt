-- Questions and answers that are written so are read again.
use Rattle.std.proofs.Common.{◌≡◌, ℕ, ◌<◌, List, [], ◌∷◌, ◌++◌, length, Some, None, refl, sym, ap, ◌∙◌, subst, arith}
use Rattle.std.specs.Prelude.{codes}
use Rattle.std.specs.List.{flat_map, AllByRecursion}
use Rattle.std.specs.Str.{IsUtf8}
use Rattle.std.proofs.lemmas.Bool.{le-leb}
use Rattle.std.proofs.lemmas.List.{append-nil}
use Rattle.std.proofs.lemmas.List.Elements.{recursion_from_All}
use Rattle.text_lists.specs.Names.{IsName}
use Rattle.line_grammar.specs.Phrases.{text_at}
use Rattle.line_grammar.specs.TokenLists.{list1_at}
use Rattle.line_grammar.specs.declared.tokens.Token.TheVariants.{Name}
use Rattle.line_grammar.specs.declared.writing.Part.TheVariants.{Space}
use Rattle.line_grammar.specs.Spelling.{tokens_in, AreApart, IsReadable, comma_separated, spaced_list}
use Rattle.line_grammar.proofs.PartLemmas.{tokens_in-spaced, AreGood, AreGood-append, AreGood-spaced, IsLoose-nil, IsLoose-spaced, AreReadAgain, list1_at-written}
use Rattle.cfd_semantics.specs.declared.pattern.Pattern.{Pattern}
use Rattle.rule_model.specs.declared.decl.CfdDecl.{CfdDecl}
use Rattle.rule_model.specs.declared.decl.CfdRow.{CfdRow}
use Rattle.rule_model.specs.Declarations.{IsWrittenCell, IsWrittenRow}
use Rattle.rule_parser.specs.RuleLines.{dep_at}
use Rattle.rule_parser.specs.RuleText.{value_parts, cell_parts, row_line, cfd_parts}
use Rattle.rule_parser.proofs.CellsAgain.{cfd_row_readable}
use Rattle.rule_parser.proofs.HeadsAgain.{cfd_parts_good, cfd_parts_apart}
use Rattle.rule_parser.proofs.DepsAgain.{line_again}
use Rattle.cert_text.specs.declared.answers.AnswerLine.TheVariants.{Values, Closed, Spent}
use Rattle.cert_text.specs.declared.answers.Kind.{Kind}
use Rattle.cert_text.specs.declared.answers.Kind.TheVariants.{Consistency, Implication}
use Rattle.cert_text.specs.declared.cert.Question.{Question}
use Rattle.cert_text.specs.declared.cert.Question.TheVariants.{Consistent, Implies}
use Rattle.cert_text.specs.CertLines.{question_at, answer_at, and_at, values_word}
use Rattle.cert_text.specs.CertText.{row_parts, dep_parts, question_line, texts_line, tree_line}
use Rattle.rule_parser.specs.ReadRules.{IsDepDecl}
use Rattle.cert_text.specs.Written.{IsQuestion, AreTexts, IsBudget}

-- ---- texts

texts_again : (values : List (List ℕ)) → AreReadAgain text_at value_parts values
texts_again [] = tt
texts_again (v ∷ values) = (λ rest. refl, texts_again values)

texts_some : (values : List (List ℕ)) → AllByRecursion (λ (v : List ℕ). 0 < length (tokens_in (value_parts v))) values
texts_some [] = tt
texts_some (v ∷ values) = (omega arith, texts_some values)

texts_good : (values : List (List ℕ)) → AllByRecursion IsUtf8 values → AllByRecursion (λ v. AreGood (value_parts v)) values
texts_good [] are = tt
texts_good (v ∷ values) are = ((are.0, tt), texts_good values are.1)

text_apart : (value : List ℕ) → AreApart None (value_parts value)
text_apart value = (refl, tt)

-- the texts behind a word
texts_read : (values : List (List ℕ)) → AreTexts values → list1_at text_at (tokens_in (spaced_list value_parts values)) ≡ Some (values, [])
texts_read values are =
    ap (list1_at text_at) (tokens_in-spaced value_parts values ∙ sym (append-nil (tokens_in (comma_separated value_parts values))))
    ∙ list1_at-written text_at value_parts values [] are.some (texts_again values) (texts_some values) refl

pub texts_readable : (word : List ℕ) (values : List (List ℕ)) → IsName word → AreTexts values → IsReadable (texts_line word values)
texts_readable word values is are = record {
  some = omega arith;
  good = (is, AreGood-spaced value_parts values (texts_good values (recursion_from_All IsUtf8 values are.utf8)));
  apart = (refl, rw (append-nil (spaced_list value_parts values)) at (IsLoose-spaced value_parts values [] text_apart IsLoose-nil (Some (Name word))));
}

-- ---- answers

pub values_again : (kind : Kind) (values : List (List ℕ)) → AreTexts values → answer_at kind (tokens_in (texts_line (values_word kind) values)) ≡ Some (Values values, [])
unfolding answer_at
values_again Consistency values are = rw (texts_read values are) refl
values_again Implication values are = rw (texts_read values are) refl

pub and_again : (values : List (List ℕ)) → AreTexts values → and_at (tokens_in (texts_line (codes "and") values)) ≡ Some (values, [])
unfolding and_at
and_again values are = rw (texts_read values are) refl

pub closed_again : (kind : Kind) → answer_at kind (tokens_in (tree_line kind None)) ≡ Some (Closed, [])
unfolding answer_at
closed_again Consistency = refl
closed_again Implication = refl

pub spent_again : (kind : Kind) (budget : ℕ) → IsBudget budget → answer_at kind (tokens_in (tree_line kind (Some budget))) ≡ Some (Spent budget, [])
unfolding answer_at
spent_again Consistency budget is = rw (le-leb 1 budget is.some, le-leb budget 1000000 is.within) refl
spent_again Implication budget is = rw (le-leb 1 budget is.some, le-leb budget 1000000 is.within) refl

pub closed_readable : (kind : Kind) → IsReadable (tree_line kind None)
closed_readable Consistency = record { some = omega arith; good = (refl, tt); apart = (refl, tt) }
closed_readable Implication = record { some = omega arith; good = (refl, tt); apart = (refl, tt) }

pub spent_readable : (kind : Kind) (budget : ℕ) → IsBudget budget → IsReadable (tree_line kind (Some budget))
spent_readable kind budget is = record { some = omega arith; good = (refl, (omega (arith, is.within), tt)); apart = (refl, (refl, tt)) }

-- ---- questions

row_again : (table : List ℕ) (x : List (List ℕ)) (a : List ℕ) (cells right : List (Pattern (List ℕ))) → length right ≡ 1 → AllByRecursion IsWrittenCell cells → AllByRecursion IsWrittenCell right
    → dep_at (tokens_in (cfd_parts table x (a ∷ []) ++ Space ∷ row_line cell_parts cells right)) ≡ Some (record { name = []; table = table; x = x; y = a ∷ []; rows = record { x = cells; y = right } ∷ [] }, [])
row_again table x a cells [] one lefts rights = absurd (omega arith)
row_again table x a cells (cell ∷ []) one lefts rights = line_again table x a cells cell lefts rights.0
row_again table x a cells (cell ∷ other ∷ right) one lefts rights = absurd (omega arith)

dep_again : (table : List ℕ) (x y : List (List ℕ)) (rows : List CfdRow) → length y ≡ 1 → length rows ≡ 1 → AllByRecursion IsWrittenRow rows → AllByRecursion (λ (row : CfdRow). length row.y ≡ 1) rows
    → dep_at (tokens_in (cfd_parts table x y ++ flat_map row_parts rows)) ≡ Some (record { name = []; table = table; x = x; y = y; rows = rows }, [])
dep_again table x [] rows right one written width = absurd (omega arith)
dep_again table x (a ∷ b ∷ y) rows right one written width = absurd (omega arith)
dep_again table x (a ∷ []) [] right one written width = absurd (omega arith)
dep_again table x (a ∷ []) (row ∷ other ∷ rows) right one written width = absurd (omega arith)
dep_again table x (a ∷ []) (row ∷ []) right one written width =
    ap (λ ps. dep_at (tokens_in (cfd_parts table x (a ∷ []) ++ ps))) (append-nil (row_parts row))
    ∙ row_again table x a row.x row.y width.0 (recursion_from_All IsWrittenCell row.x written.0.x) (recursion_from_All IsWrittenCell row.y written.0.y)

decl_again : (dep : CfdDecl) → IsDepDecl dep → dep_at (tokens_in (dep_parts dep)) ≡ Some (dep, [])
decl_again dep is =
    dep_again dep.table dep.x dep.y dep.rows is.right is.one (recursion_from_All IsWrittenRow dep.rows is.rows) (recursion_from_All (λ (row : CfdRow). length row.y ≡ 1) dep.rows is.width)
    ∙ ap (λ (n : List ℕ). Some (record { name = n; table = dep.table; x = dep.x; y = dep.y; rows = dep.rows }, [])) (sym is.name)

pub question_again : (question : Question) → IsQuestion question → question_at (tokens_in (question_line question)) ≡ Some (question, [])
unfolding question_at
question_again (Consistent table) is = refl
question_again (Implies dep) is = rw (decl_again dep is) refl

rows_good : (rows : List CfdRow) → AllByRecursion IsWrittenRow rows → AreGood (flat_map row_parts rows)
rows_good [] are = tt
rows_good (row ∷ rows) are = AreGood-append (row_parts row) (flat_map row_parts rows) (cfd_row_readable row are.0).good (rows_good rows are.1)

rows_apart : (rows : List CfdRow) → length rows ≡ 1 → AllByRecursion IsWrittenRow rows → AreApart None (flat_map row_parts rows)
rows_apart [] one are = absurd (omega arith)
rows_apart (row ∷ []) one are = subst (AreApart None) (sym (append-nil (row_parts row))) (cfd_row_readable row are.0).apart
rows_apart (row ∷ other ∷ rows) one are = absurd (omega arith)

pub question_readable : (question : Question) → IsQuestion question → IsReadable (question_line question)
question_readable (Consistent table) is = record { some = omega arith; good = (refl, (is, tt)); apart = (refl, (refl, tt)) }
question_readable (Implies dep) is =
    let rows = recursion_from_All IsWrittenRow dep.rows is.rows in
    let left = recursion_from_All IsName dep.x is.x in
    let right = recursion_from_All IsName dep.y is.y in
    record {
      some = omega arith;
      good = (refl, AreGood-append (cfd_parts dep.table dep.x dep.y) (flat_map row_parts dep.rows) (cfd_parts_good dep.table dep.x dep.y is.table left right) (rows_good dep.rows rows));
      apart = (refl, cfd_parts_apart dep.table dep.x dep.y (flat_map row_parts dep.rows) (rows_apart dep.rows is.one rows));
    }
