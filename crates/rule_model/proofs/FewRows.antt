-- Rows that stand for all that were read, row by row, and the first fault of a declaration that has these in place of all.
use Rattle.std.proofs.Common.{◌≡◌, ℕ, ◌<◌, ◌⊎◌, inl, inr, Bool, true, false, ◌||◌, ◌&&◌, ◌==◌, IsTrue, List, [], ◌∷◌, ◌++◌, length, Option, Some, None, refl, ap, sym, ◌∙◌, subst, arith, length-append}
use Rattle.std.specs.Option.{option_or, is_some}
use Rattle.std.specs.List.{list_all}
use Rattle.std.proofs.lemmas.Bool.{lt-leb}
use Rattle.text_lists.specs.Firsts.{first_of, first_in}
use Rattle.text_lists.specs.declared.limits.Limits.{Limits}
use Rattle.text_lists.specs.declared.limits.Limit.{Limit}
use Rattle.text_lists.specs.declared.limits.Limit.TheVariants.{Deps, Cinds, Edits, TableauRows}
use Rattle.schema_core.specs.declared.schema.Schema.{Schema}
use Rattle.schema_core.specs.Lookups.{attrs_of}
use Rattle.cfd_semantics.specs.declared.inclusion.InclusionRow.{InclusionRow}
use Rattle.rule_model.specs.declared.decl.CfdRow.{CfdRow}
use Rattle.rule_model.specs.declared.decl.CfdDecl.{CfdDecl}
use Rattle.rule_model.specs.declared.decl.CindDecl.{CindDecl}
use Rattle.rule_model.specs.declared.decl.Decl.{Decl}
use Rattle.rule_model.specs.declared.decl.Decl.TheVariants.{Cfd, Cind}
use Rattle.rule_model.specs.declared.fault.RuleFault.{RuleFault}
use Rattle.rule_model.specs.declared.fault.RuleFault.TheVariants.{WidthMismatch, TooMany}
use Rattle.rule_model.specs.declared.counts.Counts.{Counts}
use Rattle.rule_model.specs.declared.shown.Shown.{Shown}
use Rattle.rule_model.specs.Declarations.{row_count}
use Rattle.rule_model.specs.Counts.{counts_of, counts_with}
use Rattle.rule_model.specs.Faults.{unless, duplicate_rule, unknown_table, unknown_attr, repeated_attr, is_as_wide, is_inclusion_row_as_wide, width_mismatch, outside_domain, repeated_constant, over_limit, too_many, fault_of}
use Rattle.rule_model.specs.FewRows.{RowTests, cfd_row_tests, cind_row_tests, shown_with, FindsTheSame, StandFor}
use Rattle.rule_model.proofs.Joining.{counts_of-with}

-- ---- one test

or_none : {X : Type 0} (a : Option X) → option_or a None ≡ a
or_none None = refl
or_none (Some x) = refl

or_assoc : {X : Type 0} (a b c : Option X) → option_or (option_or a b) c ≡ option_or a (option_or b c)
or_assoc None b c = refl
or_assoc (Some x) b c = refl

pub first_in-push : {R X : Type 0} (test : R → Option X) (rows : List R) (row : R) → first_in test (rows ++ row ∷ []) ≡ option_or (first_in test rows) (test row)
first_in-push test [] row = or_none (test row)
first_in-push test (r ∷ rows) row = ap (option_or (test r)) (first_in-push test rows row) ∙ sym (or_assoc (test r) (first_in test rows) (test row))

some_or : {X : Type 0} (a b : Option X) → IsTrue (is_some a) → option_or a b ≡ a
some_or (Some x) b some = refl
some_or None b some = absurd cc

is_some-left : {X : Type 0} (a b : Option X) → IsTrue (is_some a) → IsTrue (is_some (option_or a b))
is_some-left (Some x) b some = refl
is_some-left None b some = absurd cc

is_some-right : {X : Type 0} (a b : Option X) → IsTrue (is_some b) → IsTrue (is_some (option_or a b))
is_some-right (Some x) b some = refl
is_some-right None b some = some

or_nothing : {X : Type 0} (a b : Option X) → is_some b ≡ false → option_or a b ≡ a
or_nothing a None none = or_none a
or_nothing a (Some x) none = absurd cc

module _ {R : Type 0} (test : R → Option RuleFault) where
  pushed_same : (all held : List R) (row : R) → first_in test held ≡ first_in test all → first_in test (held ++ row ∷ []) ≡ first_in test (all ++ row ∷ [])
  pushed_same all held row same = first_in-push test held row ∙ ap (λ (found : Option RuleFault). option_or found (test row)) same ∙ sym (first_in-push test all row)

  pub one_held : (all held : List R) (shown : Bool) (row : R) → FindsTheSame test all held shown → FindsTheSame test (all ++ row ∷ []) (held ++ row ∷ []) shown
  one_held all held shown row finds = record {
    same = pushed_same all held row finds.same;
    found = λ is. subst (λ (found : Option RuleFault). IsTrue (is_some found)) (sym (first_in-push test held row)) (is_some-left (first_in test held) (test row) (finds.found is));
  }

  shown_found : (held : List R) (shown : Bool) (row : R) → (IsTrue shown → IsTrue (is_some (first_in test held))) → IsTrue (shown || is_some (test row)) → IsTrue (is_some (option_or (first_in test held) (test row)))
  shown_found held true row found is = is_some-left (first_in test held) (test row) (found refl)
  shown_found held false row found is = is_some-right (first_in test held) (test row) is

  pub one_shown : (all held : List R) (shown : Bool) (row : R) → FindsTheSame test all held shown → FindsTheSame test (all ++ row ∷ []) (held ++ row ∷ []) (shown || is_some (test row))
  one_shown all held shown row finds = record {
    same = pushed_same all held row finds.same;
    found = λ is. subst (λ (found : Option RuleFault). IsTrue (is_some found)) (sym (first_in-push test held row)) (shown_found held shown row finds.found is);
  }

  nothing_new : (all held : List R) (shown : Bool) (row : R) → FindsTheSame test all held shown → (shown || is_some (test row)) ≡ shown → option_or (first_in test all) (test row) ≡ first_in test all
  nothing_new all held true row finds e =
      some_or (first_in test all) (test row) (subst (λ (found : Option RuleFault). IsTrue (is_some found)) finds.same (finds.found refl))
  nothing_new all held false row finds e = or_nothing (first_in test all) (test row) e

  pub one_left : (all held : List R) (shown : Bool) (row : R) → FindsTheSame test all held shown → (shown || is_some (test row)) ≡ shown → FindsTheSame test (all ++ row ∷ []) held shown
  one_left all held shown row finds e = record {
    same = finds.same ∙ sym (nothing_new all held shown row finds e) ∙ sym (first_in-push test all row);
    found = finds.found;
  }

-- ---- all tests

module _ {R : Type 0} (tests : RowTests R) (most : ℕ) where
  count_pushed : (all held : List R) (row : R) → (held ≡ all) ⊎ ((most < length held) × (most < length all)) → (held ++ row ∷ [] ≡ all ++ row ∷ []) ⊎ ((most < length (held ++ row ∷ [])) × (most < length (all ++ row ∷ [])))
  count_pushed all held row (inl same) = inl (ap (λ (rows : List R). rows ++ row ∷ []) same)
  count_pushed all held row (inr both) =
      let held_long : most < length (held ++ row ∷ []) = omega (arith, both.0, length-append held (row ∷ [])) in
      let all_long : most < length (all ++ row ∷ []) = omega (arith, both.1, length-append all (row ∷ [])) in
      inr (held_long, all_long)

  count_left : (all held : List R) (row : R) → (held ≡ all) ⊎ ((most < length held) × (most < length all)) → most < length held → most < length (all ++ row ∷ [])
  count_left all held row (inl same) long = omega (arith, ap length same, length-append all (row ∷ []))
  count_left all held row (inr both) long = omega (arith, both.1, length-append all (row ∷ []))

  pub no_rows : StandFor tests most [] [] (record { width = false; outside = false; repeated = false })
  no_rows = record {
    width = record { same = refl; found = λ is. is };
    outside = record { same = refl; found = λ is. is };
    repeated = record { same = refl; found = λ is. is };
    count = inl refl;
  }

  -- a row that is held, without a test of it
  pub row_held : (all held : List R) (shown : Shown) (row : R) → StandFor tests most all held shown → StandFor tests most (all ++ row ∷ []) (held ++ row ∷ []) shown
  row_held all held shown row stand = record {
    width = one_held tests.width all held shown.width row stand.width;
    outside = one_held tests.outside all held shown.outside row stand.outside;
    repeated = one_held tests.repeated all held shown.repeated row stand.repeated;
    count = count_pushed all held row stand.count;
  }

  -- a row that is held for what it shows
  pub row_shown : (all held : List R) (shown : Shown) (row : R) → StandFor tests most all held shown → StandFor tests most (all ++ row ∷ []) (held ++ row ∷ []) (shown_with tests shown row)
  row_shown all held shown row stand = record {
    width = one_shown tests.width all held shown.width row stand.width;
    outside = one_shown tests.outside all held shown.outside row stand.outside;
    repeated = one_shown tests.repeated all held shown.repeated row stand.repeated;
    count = count_pushed all held row stand.count;
  }

  pub row_held_as : (all held pushed : List R) (shown next : Shown) (row : R) → pushed ≡ held ++ row ∷ [] → next ≡ shown → StandFor tests most all held shown → StandFor tests most (all ++ row ∷ []) pushed next
  row_held_as all held pushed shown next row pushed-is next-is stand = rw (pushed-is, next-is) (row_held all held shown row stand)

  pub row_shown_as : (all held pushed : List R) (shown next : Shown) (row : R) → pushed ≡ held ++ row ∷ [] → next ≡ shown_with tests shown row → StandFor tests most all held shown → StandFor tests most (all ++ row ∷ []) pushed next
  row_shown_as all held pushed shown next row pushed-is next-is stand = rw (pushed-is, next-is) (row_shown all held shown row stand)

  -- a row that shows nothing new, where more than the most are held
  pub row_left : (all held : List R) (shown next : Shown) (row : R) → most < length held → next ≡ shown_with tests shown row → next ≡ shown → StandFor tests most all held shown → StandFor tests most (all ++ row ∷ []) held shown
  row_left all held shown next row long next-is same stand =
      let e : shown_with tests shown row ≡ shown = sym next-is ∙ same in
      let all_long : most < length (all ++ row ∷ []) = count_left all held row stand.count long in
      record {
        width = one_left tests.width all held shown.width row stand.width (ap (λ (s : Shown). s.width) e);
        outside = one_left tests.outside all held shown.outside row stand.outside (ap (λ (s : Shown). s.outside) e);
        repeated = one_left tests.repeated all held shown.repeated row stand.repeated (ap (λ (s : Shown). s.repeated) e);
        count = inr (long, all_long);
      }

-- ---- a declaration with these rows, and with all of them

width_in : {R : Type 0} (fits : R → Bool) (rows : List R) → unless (list_all fits rows) WidthMismatch ≡ first_in (λ (row : R). unless (fits row) WidthMismatch) rows
width_in fits [] = refl
width_in {R} fits (row ∷ rows) =
    elim (fits row) as (λ (b : Bool). unless (b && list_all fits rows) WidthMismatch ≡ option_or (unless b WidthMismatch) (first_in (λ (r : R). unless (fits r) WidthMismatch) rows)) [
      | true ↦ width_in fits rows
      | false ↦ refl
    ]

same_width : {R : Type 0} (fits : R → Bool) (all held : List R) → first_in (λ (row : R). unless (fits row) WidthMismatch) held ≡ first_in (λ (row : R). unless (fits row) WidthMismatch) all
    → unless (list_all fits held) WidthMismatch ≡ unless (list_all fits all) WidthMismatch
same_width fits all held same = width_in fits held ∙ same ∙ sym (width_in fits all)

and_even : (even a b : Bool) → unless a WidthMismatch ≡ unless b WidthMismatch → unless (even && a) WidthMismatch ≡ unless (even && b) WidthMismatch
and_even true a b same = same
and_even false a b same = refl

-- something is found where the last test finds something
last_found : (tests : List (Option RuleFault)) (fault : RuleFault) → (told : RuleFault) × (first_of (tests ++ Some fault ∷ []) ≡ Some told)
last_found [] fault = (fault, refl)
last_found (Some other ∷ tests) fault = (other, refl)
last_found (None ∷ tests) fault = last_found tests fault

over : (limit : Limit) (most count : ℕ) → most < count → over_limit limit most count ≡ Some (TooMany limit)
over limit most count lt = ap (λ (b : Bool). unless b (TooMany limit)) (lt-leb count most lt)

-- what the counts of rules are told for, and else the tableau rows
abbrev before_rows : Limits → Counts → List (Option RuleFault)
before_rows limits counts = over_limit Deps limits.deps counts.deps ∷ over_limit Cinds limits.cinds counts.cinds ∷ over_limit Edits limits.edits counts.edits ∷ []

abbrev over_rows : Limits → Counts → Option RuleFault
over_rows limits counts = first_of (before_rows limits counts ++ Some (TooMany TableauRows) ∷ [])

too_many_rows : (limits : Limits) (earlier : List Decl) (decl : Decl) → limits.tableau_rows < row_count decl → too_many limits (counts_of (earlier ++ decl ∷ [])) ≡ over_rows limits (counts_with (counts_of earlier) decl)
too_many_rows limits earlier decl lt =
    let counts = counts_with (counts_of earlier) decl in
    let more : limits.tableau_rows < counts.tableau_rows = omega (arith, lt) in
    ap (too_many limits) (counts_of-with earlier decl)
    ∙ ap (λ (found : Option RuleFault). first_of (before_rows limits counts ++ found ∷ [])) (over TableauRows limits.tableau_rows counts.tableau_rows more)

-- ---- a `cfd`

module _ (schema : Schema) (limits : Limits) (earlier : List Decl) (cfd : CfdDecl) where
  abbrev cfd_with : List CfdRow → Decl
  cfd_with rows = Cfd (record cfd { rows = rows })

  abbrev cfd_front : Option RuleFault → Option RuleFault → Option RuleFault → List (Option RuleFault)
  cfd_front width outside repeated =
      duplicate_rule earlier (Cfd cfd) ∷ unknown_table schema (Cfd cfd) ∷ None ∷ unknown_attr schema (Cfd cfd) ∷ repeated_attr (Cfd cfd) ∷ None ∷ None ∷ width ∷ outside ∷ repeated ∷ None ∷ []

  cfd_told : (rows : List CfdRow) (width outside repeated many : Option RuleFault) → width_mismatch (cfd_with rows) ≡ width → outside_domain schema (cfd_with rows) ≡ outside → repeated_constant (cfd_with rows) ≡ repeated
      → too_many limits (counts_of (earlier ++ cfd_with rows ∷ [])) ≡ many → fault_of schema limits earlier (cfd_with rows) ≡ first_of (cfd_front width outside repeated ++ many ∷ [])
  unfolding fault_of
  cfd_told rows width outside repeated many width-is outside-is repeated-is many-is =
      let outside_here = outside_domain schema (cfd_with rows) in
      let repeated_here = repeated_constant (cfd_with rows) in
      let many_here = too_many limits (counts_of (earlier ++ cfd_with rows ∷ [])) in
      ap (λ (found : Option RuleFault). first_of (cfd_front found outside_here repeated_here ++ many_here ∷ [])) width-is
      ∙ ap (λ (found : Option RuleFault). first_of (cfd_front width found repeated_here ++ many_here ∷ [])) outside-is
      ∙ ap (λ (found : Option RuleFault). first_of (cfd_front width outside found ++ many_here ∷ [])) repeated-is
      ∙ ap (λ (found : Option RuleFault). first_of (cfd_front width outside repeated ++ found ∷ [])) many-is

  -- the first fault of both, where the rows are more than the limit has
  cfd_both : (all held : List CfdRow) (shown : Shown) → StandFor (cfd_row_tests (attrs_of schema cfd.table) cfd) limits.tableau_rows all held shown → limits.tableau_rows < length held → limits.tableau_rows < length all
      → (told : RuleFault) × (fault_of schema limits earlier (cfd_with held) ≡ Some told) × (fault_of schema limits earlier (cfd_with all) ≡ Some told)
  cfd_both all held shown stand held_long all_long =
      let width = width_mismatch (cfd_with all) in
      let outside = outside_domain schema (cfd_with all) in
      let repeated = repeated_constant (cfd_with all) in
      let counts = counts_with (counts_of earlier) (Cfd cfd) in
      let many = last_found (before_rows limits counts) (TooMany TableauRows) in
      let first = last_found (cfd_front width outside repeated) many.0 in
      let held_told = cfd_told held width outside repeated (Some many.0) (same_width (is_as_wide cfd) all held stand.width.same) stand.outside.same stand.repeated.same (too_many_rows limits earlier (cfd_with held) held_long ∙ many.1) in
      let all_told = cfd_told all width outside repeated (Some many.0) refl refl refl (too_many_rows limits earlier (cfd_with all) all_long ∙ many.1) in
      (first.0, held_told ∙ first.1, all_told ∙ first.1)

  pub cfd_same : (all held : List CfdRow) (shown : Shown) → StandFor (cfd_row_tests (attrs_of schema cfd.table) cfd) limits.tableau_rows all held shown
      → (held ≡ all) ⊎ ((told : RuleFault) × (fault_of schema limits earlier (Cfd (record cfd { rows = held })) ≡ Some told) × (fault_of schema limits earlier (Cfd (record cfd { rows = all })) ≡ Some told))
  cfd_same all held shown stand = elim stand.count [ inl same ↦ inl same | inr both ↦ inr (cfd_both all held shown stand both.0 both.1) ]

-- ---- a `cind`

module _ (schema : Schema) (limits : Limits) (earlier : List Decl) (cind : CindDecl) where
  abbrev cind_with : List (InclusionRow (List ℕ)) → Decl
  cind_with rows = Cind (record cind { rows = rows })

  abbrev cind_front : Option RuleFault → Option RuleFault → List (Option RuleFault)
  cind_front width outside =
      duplicate_rule earlier (Cind cind) ∷ unknown_table schema (Cind cind) ∷ None ∷ unknown_attr schema (Cind cind) ∷ repeated_attr (Cind cind) ∷ None ∷ None ∷ width ∷ outside ∷ None ∷ None ∷ []

  cind_told : (rows : List (InclusionRow (List ℕ))) (width outside many : Option RuleFault) → width_mismatch (cind_with rows) ≡ width → outside_domain schema (cind_with rows) ≡ outside
      → too_many limits (counts_of (earlier ++ cind_with rows ∷ [])) ≡ many → fault_of schema limits earlier (cind_with rows) ≡ first_of (cind_front width outside ++ many ∷ [])
  unfolding fault_of
  cind_told rows width outside many width-is outside-is many-is =
      let outside_here = outside_domain schema (cind_with rows) in
      let many_here = too_many limits (counts_of (earlier ++ cind_with rows ∷ [])) in
      ap (λ (found : Option RuleFault). first_of (cind_front found outside_here ++ many_here ∷ [])) width-is
      ∙ ap (λ (found : Option RuleFault). first_of (cind_front width found ++ many_here ∷ [])) outside-is
      ∙ ap (λ (found : Option RuleFault). first_of (cind_front width outside ++ found ∷ [])) many-is

  cind_both : (all held : List (InclusionRow (List ℕ))) (shown : Shown) → StandFor (cind_row_tests (attrs_of schema cind.left) (attrs_of schema cind.right) cind) limits.tableau_rows all held shown
      → limits.tableau_rows < length held → limits.tableau_rows < length all
      → (told : RuleFault) × (fault_of schema limits earlier (cind_with held) ≡ Some told) × (fault_of schema limits earlier (cind_with all) ≡ Some told)
  cind_both all held shown stand held_long all_long =
      let width = width_mismatch (cind_with all) in
      let outside = outside_domain schema (cind_with all) in
      let counts = counts_with (counts_of earlier) (Cind cind) in
      let many = last_found (before_rows limits counts) (TooMany TableauRows) in
      let first = last_found (cind_front width outside) many.0 in
      let fits = is_inclusion_row_as_wide cind in
      let same = and_even (length cind.x == length cind.y) (list_all fits held) (list_all fits all) (same_width fits all held stand.width.same) in
      let held_told = cind_told held width outside (Some many.0) same stand.outside.same (too_many_rows limits earlier (cind_with held) held_long ∙ many.1) in
      let all_told = cind_told all width outside (Some many.0) refl refl (too_many_rows limits earlier (cind_with all) all_long ∙ many.1) in
      (first.0, held_told ∙ first.1, all_told ∙ first.1)

  pub cind_same : (all held : List (InclusionRow (List ℕ))) (shown : Shown) → StandFor (cind_row_tests (attrs_of schema cind.left) (attrs_of schema cind.right) cind) limits.tableau_rows all held shown
      → (held ≡ all) ⊎ ((told : RuleFault) × (fault_of schema limits earlier (Cind (record cind { rows = held })) ≡ Some told) × (fault_of schema limits earlier (Cind (record cind { rows = all })) ≡ Some told))
  cind_same all held shown stand = elim stand.count [ inl same ↦ inl same | inr both ↦ inr (cind_both all held shown stand both.0 both.1) ]
