-- A declaration in which no fault is found joins a book.
use Rattle.std.proofs.Common.{◌≡◌, ℕ, ◌+◌, List, [], ◌∷◌, ◌++◌, length, get_or, take, None, All, sum_by, refl, sym, ap, ◌∙◌, subst, arith, inl, inr}
use Rattle.std.specs.List.{flat_map}
use Rattle.std.proofs.lemmas.Bool.{cases_lt, leb-true}
use Rattle.std.proofs.lemmas.List.{append-nil, length-append, get_or_append_left, get_or_at, take-append-le, take_at}
use Rattle.std.proofs.lemmas.List.Concat.{flat_map-append}
use Rattle.std.proofs.lemmas.List.Elements.{All-append, All-push, All-nil}
use Rattle.std.proofs.lemmas.List.Sums.{sum_by-append}
use Rattle.text_lists.specs.Limits.{AreLimits}
use Rattle.schema_core.specs.Schemas.{IsValidSchema}
use Rattle.text_lists.specs.declared.limits.Limits.{Limits}
use Rattle.text_lists.specs.declared.limits.Limit.TheVariants.{Deps, Cinds, Edits, TableauRows}
use Rattle.schema_core.specs.declared.schema.Schema.{Schema}
use Rattle.rule_model.specs.declared.decl.Decl.{Decl}
use Rattle.rule_model.specs.declared.dep.Dep.{Dep}
use Rattle.rule_model.specs.declared.cind.Cind.{Cind}
use Rattle.rule_model.specs.declared.edit_rule.EditRule.{EditRule}
use Rattle.rule_model.specs.declared.rules.Rules.{Rules}
use Rattle.rule_model.specs.declared.counts.Counts.{Counts}
use Rattle.rule_model.specs.Declarations.{dep_count, cind_count, edit_count, row_count, IsWritten}
use Rattle.rule_model.specs.Counts.{counts_of, counts_with, AreWithin}
use Rattle.rule_model.specs.Rules.{deps_of, cinds_of, edits_of, with_rules_of, IsValidDep, IsValidCind, IsValidEditRule}
use Rattle.rule_model.specs.Faults.{over_limit, too_many, fault_of}
use Rattle.rule_model.specs.Books.{Book, with_decl, book_deps, book_cinds, book_edits, AreFaultless, IsKept}
use Rattle.rule_model.proofs.Passing.{none_of, holds_if_none}
use Rattle.rule_model.proofs.ValidRules.{passes_if_none, deps_valid, cinds_valid, edits_valid}

-- ---- counts

sum_with : (f : Decl → ℕ) (decls : List Decl) (decl : Decl) → sum_by f (decls ++ decl ∷ []) ≡ sum_by f decls + f decl
sum_with f decls decl = sum_by-append f decls (decl ∷ []) ∙ omega arith

same_counts : (a b : Counts) → a.deps ≡ b.deps → a.cinds ≡ b.cinds → a.edits ≡ b.edits → a.tableau_rows ≡ b.tableau_rows → a ≡ b
same_counts a b deps cinds edits rows =
    let made : ℕ → ℕ → ℕ → ℕ → Counts = λ d c e r. record { deps = d; cinds = c; edits = e; tableau_rows = r } in
    ap (λ (n : ℕ). made n a.cinds a.edits a.tableau_rows) deps
    ∙ ap (λ (n : ℕ). made b.deps n a.edits a.tableau_rows) cinds
    ∙ ap (λ (n : ℕ). made b.deps b.cinds n a.tableau_rows) edits
    ∙ ap (λ (n : ℕ). made b.deps b.cinds b.edits n) rows

-- the counts of declarations with one more
pub counts_of-with : (decls : List Decl) (decl : Decl) → counts_of (decls ++ decl ∷ []) ≡ counts_with (counts_of decls) decl
counts_of-with decls decl =
    same_counts (counts_of (decls ++ decl ∷ [])) (counts_with (counts_of decls) decl) (sum_with dep_count decls decl) (sum_with cind_count decls decl) (sum_with edit_count decls decl) (sum_with row_count decls decl)

within_if_none : (limits : Limits) (counts : Counts) → too_many limits counts ≡ None → AreWithin limits counts
within_if_none limits counts e =
    let each = none_of (over_limit Deps limits.deps counts.deps ∷ over_limit Cinds limits.cinds counts.cinds ∷ over_limit Edits limits.edits counts.edits ∷ over_limit TableauRows limits.tableau_rows counts.tableau_rows ∷ []) e in
    record {
      deps = leb-true _ _ (holds_if_none _ _ each.0);
      cinds = leb-true _ _ (holds_if_none _ _ each.1.0);
      edits = leb-true _ _ (holds_if_none _ _ each.1.1.0);
      tableau_rows = leb-true _ _ (holds_if_none _ _ each.1.1.1.0);
    }

-- ---- rules

flat_with : {X : Type 0} (f : Decl → List X) (decls : List Decl) (decl : Decl) → flat_map f (decls ++ decl ∷ []) ≡ flat_map f decls ++ f decl
flat_with {X} f decls decl = flat_map-append f decls (decl ∷ []) ∙ ap (λ (more : List X). flat_map f decls ++ more) (append-nil (f decl))

book_deps-with_decl : (book : Book) (decl : Decl) → book_deps (with_decl book decl) ≡ book_deps book ++ deps_of book.schema decl
unfolding book_deps
book_deps-with_decl book decl = flat_with (deps_of book.schema) book.decls decl

book_cinds-with_decl : (book : Book) (decl : Decl) → book_cinds (with_decl book decl) ≡ book_cinds book ++ cinds_of book.schema decl
unfolding book_cinds
book_cinds-with_decl book decl = flat_with (cinds_of book.schema) book.decls decl

book_edits-with_decl : (book : Book) (decl : Decl) → book_edits (with_decl book decl) ≡ book_edits book ++ edits_of book.schema decl
unfolding book_edits
book_edits-with_decl book decl = flat_with (edits_of book.schema) book.decls decl

-- ---- joining

faultless_with : (book : Book) (decl : Decl) → AreFaultless book → fault_of book.schema book.limits book.decls decl ≡ None → AreFaultless (with_decl book decl)
faultless_with book decl faultless e = record {
  each = λ place d lt. elim (cases_lt place (length book.decls)) [
    | inl before ↦
        subst (λ (x : Decl). fault_of book.schema book.limits (take place (book.decls ++ decl ∷ [])) x ≡ None) (sym (get_or_append_left book.decls (decl ∷ []) d place before))
        (subst (λ (earlier : List Decl). fault_of book.schema book.limits earlier (get_or book.decls place d) ≡ None) (sym (take-append-le place book.decls (decl ∷ []) (omega arith))) (faultless.each place d before))
    | inr from ↦
        let here : length book.decls ≡ place = omega (arith, length-append book.decls (decl ∷ [])) in
        subst (λ (x : Decl). fault_of book.schema book.limits (take place (book.decls ++ decl ∷ [])) x ≡ None) (sym (get_or_at book.decls decl [] d place here))
        (subst (λ (earlier : List Decl). fault_of book.schema book.limits earlier decl ≡ None) (sym (take_at book.decls (decl ∷ []) place here)) e)
  ];
}

pub kept_with : (book : Book) (rules : Rules) (counts : Counts) (decl : Decl) → IsKept book rules counts → IsWritten decl → fault_of book.schema book.limits book.decls decl ≡ None
    → IsKept (with_decl book decl) (with_rules_of book.schema decl rules) (counts_with counts decl)
kept_with book rules counts decl kept written e =
    let was = kept.is_book in
    let passed = passes_if_none book.schema book.limits book.decls decl e in
    record {
      is_book = record {
        schema = was.schema;
        limits = was.limits;
        written = All-push IsWritten book.decls decl was.written written;
        faultless = faultless_with book decl was.faultless e;
        deps = subst (All (IsValidDep book.schema)) (sym (book_deps-with_decl book decl)) (All-append (IsValidDep book.schema) (book_deps book) (deps_of book.schema decl) was.deps (deps_valid book.schema decl passed.0 written));
        cinds = subst (All (IsValidCind book.schema)) (sym (book_cinds-with_decl book decl)) (All-append (IsValidCind book.schema) (book_cinds book) (cinds_of book.schema decl) was.cinds (cinds_valid book.schema decl passed.0 written));
        edits = subst (All (IsValidEditRule book.schema)) (sym (book_edits-with_decl book decl)) (All-append (IsValidEditRule book.schema) (book_edits book) (edits_of book.schema decl) was.edits (edits_valid book.schema decl passed.0 written));
        few = within_if_none book.limits (counts_of (book.decls ++ decl ∷ [])) passed.1;
      };
      deps-is = ap (λ (front : List Dep). front ++ deps_of book.schema decl) kept.deps-is ∙ sym (book_deps-with_decl book decl);
      cinds-is = ap (λ (front : List Cind). front ++ cinds_of book.schema decl) kept.cinds-is ∙ sym (book_cinds-with_decl book decl);
      edits-is = ap (λ (front : List EditRule). front ++ edits_of book.schema decl) kept.edits-is ∙ sym (book_edits-with_decl book decl);
      counts-is = ap (λ (before : Counts). counts_with before decl) kept.counts-is ∙ sym (counts_of-with book.decls decl);
    }

pub kept_empty : (schema : Schema) (limits : Limits) → IsValidSchema schema → AreLimits limits → IsKept (record { schema = schema; limits = limits; decls = [] }) (record { deps = []; cinds = []; edits = [] }) (counts_of [])
unfolding book_deps book_cinds book_edits
kept_empty schema limits valid within = record {
  is_book = record {
    schema = valid;
    limits = within;
    written = All-nil IsWritten;
    faultless = record { each = λ place d lt. absurd (omega arith) };
    deps = All-nil (IsValidDep schema);
    cinds = All-nil (IsValidCind schema);
    edits = All-nil (IsValidEditRule schema);
    few = record { deps = omega arith; cinds = omega arith; edits = omega arith; tableau_rows = omega arith };
  };
  deps-is = refl;
  cinds-is = refl;
  edits-is = refl;
  counts-is = refl;
}
