-- The tuples that an allowed assignment stands for: in the domains, with the texts for the true variables, and short.
use Rattle.std.proofs.Common.{inl, inr, ◌≡◌, ◌≢◌, ℕ, suc, ◌+◌, ◌-◌, ◌<◌, ◌≤◌, Bool, true, false, cond, List, [], ◌∷◌, length, get_or, map, take, Option, Some, None, refl, sym, ap, ◌∙◌, subst, arith}
use Rattle.std.specs.Prelude.{Contains, find, filter, zip, nat_eq, nat_lt}
use Rattle.std.specs.List.{All, AllByRecursion, flat_map, range_with_len}
use Rattle.std.proofs.lemmas.Bool.{cases_lt, ltb-true, false≢true}
use Rattle.std.proofs.lemmas.List.{length-replicate, length-take, get_or-take, get_or_past}
use Rattle.std.proofs.lemmas.List.Elements.{All-nil, All-cons, All-head, All-tail, All-push, All-contains, Contains-get_or, Contains-append_cases}
use Rattle.std.proofs.lemmas.List.FromFn.{get_or-map-range_with_len}
use Rattle.cfd_semantics.proofs.Members.{contains_cases, contains_nothing}
use Rattle.cfd_semantics.proofs.SetFacts.{contains_from_filter}
use Rattle.cfd_semantics.specs.declared.pattern.Pattern.{Pattern}
use Rattle.cfd_semantics.specs.declared.pattern.Pattern.TheVariants as patterns
use Rattle.cfd_semantics.specs.declared.dependency.TableauRow.{TableauRow}
use Rattle.case_tree.specs.declared.clauses.Literal.{Literal}
use Rattle.case_tree.specs.CaseTree.{IsAllowed}
use Rattle.schema_core.specs.Lookups.{domain_at}
use Rattle.schema_core.specs.Schemas.{Admits, IsValidAttr, IsValidDomain}
use Rattle.schema_core.specs.declared.schema.Attr.{Attr}
use Rattle.schema_core.specs.declared.schema.Domain.{Domain}
use Rattle.schema_core.specs.declared.schema.Domain.TheVariants.{AnyText, Finite}
use Rattle.rule_model.specs.Declarations.{constants_of}
use Rattle.rule_model.specs.Rules.{IsCellOf, IsValidRow}
use Rattle.cell_values.specs.declared.which.Which.{Which}
use Rattle.cell_values.specs.declared.which.Which.TheVariants.{Only, First, Second}
use Rattle.cell_values.specs.declared.which.TupleCount.{TupleCount}
use Rattle.cell_values.specs.declared.values.CellValues.{CellValues}
use Rattle.cell_values.specs.Fresh.{fresh_past, longest}
use Rattle.cell_values.specs.Layout.{equal_var, value_var, var_cells}
use Rattle.cell_values.specs.Readings.{attr_text, constant_of, new_for, new_text, plain_text, second_new, text_for, tuple_of, value_text}
use Rattle.cell_values.specs.Standing.{Agrees}
use Rattle.cell_values.specs.TableRules.{Rule, cells_at, cells_in_row, cells_in_rule, row_cells}
use Rattle.cell_values.specs.Tuples.{IsTupleOf, answer_bytes}
use Rattle.cell_values.specs.Values.{cell_values, constants_at, has_other, occurring, once_after, with_other, with_text}
use Rattle.cell_values.proofs.Allowed.{cell_at, HasOne, HasSome, whole_cell}
use Rattle.cell_values.proofs.Bounds.{found_attr}
use Rattle.cell_values.proofs.Choices.{fresh_there, search_first}
use Rattle.cell_values.proofs.Chosen.{AreTexts, IsChosen, IsText, text_agrees}
use Rattle.cell_values.proofs.Lists.{all_flat_map, all_map, find_first, find_none}
use Rattle.cell_values.proofs.Meaning.{AreValues, IsCovered}
use Rattle.cell_values.proofs.Occurs.{rises, occurring_from}
use Rattle.cell_values.proofs.OneTuple.{admitted_at, IsRuleOf, valid_domain_at, zip_cell}
use Rattle.cell_values.proofs.Order.{find_at, IsWhichOf}
use Rattle.cell_values.proofs.Truths.{text_of}
use Rattle.cell_values.proofs.ValueFacts.{covered_if_admitted, with_text_cases, values_good}

-- ---- the chosen constant

pub chosen_is : (truth : ℕ → Bool) (first : ℕ) (c : CellValues) → IsChosen truth first c (constant_of truth first c)
chosen_is truth first c = elim (search_first (λ place. truth (first + place)) c.constants) [
  | inl found ↦ subst (IsChosen truth first c) (sym (find_first (λ place. truth (first + place)) c.constants found.at found.within found.passes found.before)) (found.within, found.passes)
  | inr none ↦ subst (IsChosen truth first c) (sym (find_none (λ place. truth (first + place)) c.constants none)) none
]

-- ---- texts that are no constants

contains_take : (n : ℕ) (xs : List (List ℕ)) (x : List ℕ) → Contains (take n xs) x → Contains xs x
contains_take n xs x (k, within, is) =
    let size = length-take n xs in
    let low : k < n = omega arith in
    (k, omega arith, sym (get_or-take n xs k x low) ∙ is)

new_absent_by : (c : CellValues) → AreValues c → (b : Bool) → nat_lt c.constants (length c.values) ≡ b → ¬ Contains (take c.constants c.values) (cond b (get_or c.values c.constants []) (fresh_past 0 c.values))
new_absent_by c good true is = good.other c.constants (omega arith) (ltb-true c.constants (length c.values) is)
new_absent_by c good false is = λ there. (fresh_there 0 c.values).new (contains_take c.constants c.values (fresh_past 0 c.values) there)

pub new_absent : (c : CellValues) → AreValues c → ¬ Contains (take c.constants c.values) (new_text c)
new_absent c good = new_absent_by c good (nat_lt c.constants (length c.values)) refl

pub second_absent : (c : CellValues) → AreValues c → (equal : Bool) (one : Option ℕ) → ¬ Contains (take c.constants c.values) (second_new c equal one)
second_absent c good true one = new_absent c good
second_absent c good false (Some place) = new_absent c good
second_absent c good false None = λ there. (fresh_there (length (new_text c)) c.values).new (contains_take c.constants c.values (fresh_past (length (new_text c)) c.values) there)

is_text : (c : CellValues) (new : List ℕ) (place : Option ℕ) → ¬ Contains (take c.constants c.values) new → IsText c place (text_for c new place)
is_text c new None absent = absent
is_text c new (Some place) absent = refl

same_texts : (c : CellValues) (equal : Bool) (one other : Option ℕ) → equal ≡ true → one ≡ None → other ≡ None → text_for c (new_text c) one ≡ text_for c (second_new c equal one) other
same_texts c true None None e p q = refl
same_texts c true None (Some b) e p q = absurd cc
same_texts c true (Some a) other e p q = absurd cc
same_texts c false one other e p q = absurd cc

longer : (c : CellValues) → new_text c ≢ fresh_past (length (new_text c)) c.values
longer c same =
    let fresh = fresh_there (length (new_text c)) c.values in
    let size : length (fresh_past (length (new_text c)) c.values) ≡ fresh.length = ap length fresh.is_tildes ∙ length-replicate {A = ℕ} fresh.length 126 in
    let past = fresh.past in
    let lengths : length (new_text c) ≡ length (fresh_past (length (new_text c)) c.values) = ap length same in
    omega arith

differ_texts : (c : CellValues) (equal : Bool) (one other : Option ℕ) → equal ≡ false → one ≡ None → other ≡ None → text_for c (new_text c) one ≢ text_for c (second_new c equal one) other
differ_texts c false None None e p q = longer c
differ_texts c false None (Some b) e p q = absurd cc
differ_texts c false (Some a) other e p q = absurd cc
differ_texts c true one other e p q = absurd cc

-- ---- short texts

abbrev Short : ℕ → List (List ℕ) → Type 0
Short most texts = All (λ (text : List ℕ). length text ≤ most) texts

longest_short : (most : ℕ) (texts : List (List ℕ)) → Short most texts → longest texts ≤ most
longest_short most [] short = omega arith
longest_short most (text ∷ texts) short =
    omega (arith, All-head (λ (t : List ℕ). length t ≤ most) text texts short, longest_short most texts (All-tail (λ (t : List ℕ). length t ≤ most) text texts short))

fresh_short : (count most : ℕ) (texts : List (List ℕ)) → Short most texts → length (fresh_past count texts) ≤ count + most + 1
fresh_short count most texts short =
    let fresh = fresh_there count texts in
    let size : length (fresh_past count texts) ≡ fresh.length = ap length fresh.is_tildes ∙ length-replicate {A = ℕ} fresh.length 126 in
    omega (arith, longest_short most texts short, fresh.few)

once_short : (most : ℕ) (before texts : List (List ℕ)) → Short most before → Short most texts → Short most (once_after before texts)
once_short most before [] short more = short
once_short most before (text ∷ texts) short more =
    once_short most (with_text before text) texts
    (elim (with_text_cases before text) [
      | inl same ↦ subst (λ (all : List (List ℕ)). Short most all) (sym same.0) short
      | inr longer_by ↦ subst (λ (all : List (List ℕ)). Short most all) (sym longer_by.0) (All-push (λ (t : List ℕ). length t ≤ most) before text short (All-head (λ (t : List ℕ). length t ≤ most) text texts more))
    ])
    (All-tail (λ (t : List ℕ). length t ≤ most) text texts more)

cell_short : (domain : Domain) (cell : Pattern (List ℕ)) → IsCellOf domain cell → Short 1024 (constants_of cell)
cell_short domain patterns.Any valid = All-nil (λ (t : List ℕ). length t ≤ 1024)
cell_short domain (patterns.Is constant) valid = All-cons (λ (t : List ℕ). length t ≤ 1024) constant [] valid.constant.bound (All-nil (λ (t : List ℕ). length t ≤ 1024))
cell_short domain (patterns.In members) valid = λ k d within. (valid.each k d within).constant.bound
cell_short domain (patterns.NotIn members) valid = λ k d within. (valid.each k d within).constant.bound

at_short : (texts : List (List ℕ)) (place : ℕ) → Short 1025 texts → length (get_or texts place []) ≤ 1025
at_short texts place short = elim (cases_lt place (length texts)) [
  | inl within ↦ short place [] within
  | inr past ↦ (let none : length (get_or texts place []) ≡ 0 = ap length (get_or_past texts place [] past) in omega arith)
]

new_short_by : (c : CellValues) (b : Bool) → Short 1025 c.values → length (cond b (get_or c.values c.constants []) (fresh_past 0 c.values)) ≤ 1026
new_short_by c true short = let bound = at_short c.values c.constants short in omega arith
new_short_by c false short = fresh_short 0 1025 c.values short

new_short : (c : CellValues) → Short 1025 c.values → length (new_text c) ≤ 1026
new_short c short = new_short_by c (nat_lt c.constants (length c.values)) short

second_short : (c : CellValues) (equal : Bool) (one : Option ℕ) → Short 1025 c.values → length (second_new c equal one) ≤ 2052
second_short c true one short = let bound = new_short c short in omega arith
second_short c false (Some place) short = let bound = new_short c short in omega arith
second_short c false None short = let bound = new_short c short in let fresh = fresh_short (length (new_text c)) 1025 c.values short in omega arith

for_short : (c : CellValues) (new : List ℕ) (place : Option ℕ) → Short 1025 c.values → length new ≤ 2052 → length (text_for c new place) ≤ 2052
for_short c new None short bound = bound
for_short c new (Some place) short bound = let at = at_short c.values place short in omega arith

plain_short : (domain : Domain) → IsValidDomain domain → length (plain_text domain) ≤ 2052
plain_short AnyText good = let bound = fresh_short 0 0 [] (All-nil (λ (t : List ℕ). length t ≤ 0)) in omega arith
plain_short (Finite values) good = let some = good.some in let bound = (good.constants 0 [] (omega arith)).bound in omega arith

other_short : (other : Bool) (texts : List (List ℕ)) → Short 1024 texts → Short 1025 (with_other other texts)
other_short true texts short =
    All-push (λ (t : List ℕ). length t ≤ 1025) texts (fresh_past 0 texts) (λ k d within. let bound = short k d within in omega arith) (fresh_short 0 1024 texts short)
other_short false texts short = λ k d within. let bound = short k d within in omega arith

-- ---- tuples

tuple_by : (attrs : List Attr) (f : ℕ → List ℕ) (from : ℕ) → ((k : ℕ) → k < length attrs → Admits (domain_at attrs k) (f (from + k))) → IsTupleOf attrs (map f (range_with_len from (length attrs)))
tuple_by [] f from each = tt
tuple_by (a ∷ attrs) f from each =
    let here : from + 0 ≡ from = omega arith in (
      subst (λ n. Admits a.domain (f n)) here (each 0 (omega arith)),
      tuple_by attrs f (from + 1) (λ k within. let next : from + suc k ≡ from + 1 + k = omega arith in subst (λ n. Admits (domain_at attrs k) (f n)) next (each (suc k) (omega arith))),
    )

module _ (attrs : List Attr) (valid : AllByRecursion IsValidAttr attrs) (all_rules : List Rule) where
  abbrev cells : List CellValues
  cells = occurring attrs all_rules

  pub good_at : (c : CellValues) → Contains cells c → AreValues c
  good_at c there =
      let from = occurring_from attrs all_rules c there in
      subst AreValues from.is (values_good all_rules from.attr (domain_at attrs from.attr) (valid_domain_at attrs from.attr valid))

  pub constants_bound : All (λ (cell : CellValues). cell.constants ≤ length cell.values) cells
  constants_bound k d within = (good_at (get_or cells k d) (Contains-get_or cells k d within)).bound

  pub covered_at : (tuple : List (List ℕ)) → IsTupleOf attrs tuple → (c : CellValues) → Contains cells c → IsCovered c (text_of tuple c.attr)
  covered_at tuple is c there =
      let from = occurring_from attrs all_rules c there in
      subst (λ (x : CellValues). IsCovered x (text_of tuple x.attr)) from.is
      (covered_if_admitted all_rules from.attr (domain_at attrs from.attr) (text_of tuple from.attr) (valid_domain_at attrs from.attr valid) (admitted_at attrs tuple from.attr is from.within))

  module _ (truth : ℕ → Bool) where
    abbrev found_in : ℕ → Option CellValues
    found_in attr = find (λ (x : CellValues). nat_eq x.attr attr) cells

    text_is : (which : Which) (attr : ℕ) → attr < length attrs → text_of (tuple_of which attrs cells truth) attr ≡ attr_text which cells truth attr (domain_at attrs attr) (found_in attr)
    text_is which attr within = get_or-map-range_with_len (λ n. attr_text which cells truth n (domain_at attrs n) (found_in n)) 0 (length attrs) attr attr [] within (omega arith)

    attr_within : (c : CellValues) → Contains cells c → c.attr < length attrs
    attr_within c there =
        let from = occurring_from attrs all_rules c there in
        let named : from.attr ≡ c.attr = ap (λ (x : CellValues). x.attr) from.is in
        let within = from.within in
        omega arith

    pub value_is : (which : Which) (c : CellValues) → Contains cells c → text_of (tuple_of which attrs cells truth) c.attr ≡ value_text which cells truth c.attr c
    value_is which c there = text_is which c.attr (attr_within c there) ∙ ap (attr_text which cells truth c.attr (domain_at attrs c.attr)) (find_at 0 cells c (rises attrs all_rules) there)

    new_for_absent : (which : Which) (c : CellValues) → AreValues c → ¬ Contains (take c.constants c.values) (new_for which cells truth c.attr c)
    new_for_absent Only c good = new_absent c good
    new_for_absent First c good = new_absent c good
    new_for_absent Second c good = second_absent c good (truth (equal_var cells c.attr)) (constant_of truth (value_var First cells c.attr) c)

    -- the texts of two tuples there, one where they agree and else two
    pub texts_fit : (c : CellValues) → Contains cells c → AreTexts truth (equal_var cells c.attr) c (constant_of truth (value_var First cells c.attr) c) (constant_of truth (value_var Second cells c.attr) c) (text_of (tuple_of First attrs cells truth) c.attr) (text_of (tuple_of Second attrs cells truth) c.attr)
    texts_fit c there =
        let one = constant_of truth (value_var First cells c.attr) c in
        let other = constant_of truth (value_var Second cells c.attr) c in
        let e = truth (equal_var cells c.attr) in
        let good = good_at c there in
        subst (λ t. AreTexts truth (equal_var cells c.attr) c one other t (text_of (tuple_of Second attrs cells truth) c.attr)) (sym (value_is First c there))
        (subst (λ t. AreTexts truth (equal_var cells c.attr) c one other (value_text First cells truth c.attr c) t) (sym (value_is Second c there))
        (record {
          one_is = is_text c (new_text c) one (new_absent c good);
          other_is = is_text c (second_new c e one) other (second_absent c good e one);
          same = same_texts c e one other;
          differ = differ_texts c e one other;
        }))

    -- ---- domains

    module _ (count : TupleCount) (clauses : List (List Literal)) (allowed : IsAllowed (record { cells = var_cells count 0 (occurring attrs all_rules); clauses = clauses }) truth) where
      pub one_at : (which : Which) → IsWhichOf count which → (c : CellValues) → Contains cells c → HasOne truth (whole_cell (value_var which cells c.attr) c)
      one_at which is c there v w v_in w_in v_true w_true =
          let from = v_in.0 in
          let to = v_in.1 in
          cell_at count (HasOne truth) 0 cells c (rises attrs all_rules) there allowed.at_most_one (omega arith) which is v w v_in w_in v_true w_true

      pub some_at : (which : Which) → IsWhichOf count which → (c : CellValues) → Contains cells c → HasSome truth (whole_cell (value_var which cells c.attr) c)
      some_at which is c there demanded = cell_at count (HasSome truth) 0 cells c (rises attrs all_rules) there allowed.one_demanded ((good_at c there).some demanded) which is demanded

      -- the variables say what the text is
      pub agrees_read : (which : Which) → IsWhichOf count which → (c : CellValues) → Contains cells c → Agrees truth (value_var which cells c.attr) c (text_of (tuple_of which attrs cells truth) c.attr)
      agrees_read which is c there =
          let first = value_var which cells c.attr in
          let place = constant_of truth first c in
          let good = good_at c there in
          subst (Agrees truth first c) (sym (value_is which c there))
          (text_agrees truth c good first place (value_text which cells truth c.attr c) (one_at which is c there) (some_at which is c there) (chosen_is truth first c) (is_text c (new_for which cells truth c.attr c) place (new_for_absent which c good)))

      finite_text : (values : List (List ℕ)) (attr first : ℕ) (new : List ℕ) (place : Option ℕ) → IsChosen truth first (cell_values all_rules attr (Finite values)) place → HasSome truth (whole_cell first (cell_values all_rules attr (Finite values))) → Contains values (text_for (cell_values all_rules attr (Finite values)) new place)
      finite_text values attr first new (Some place) is some = Contains-get_or values place [] is.0
      finite_text values attr first new None is some =
          let (v, v_in, v_true) = some refl in
          let k = v - first in
          let from = v_in.0 in
          let to = v_in.1 in
          let v_is : v ≡ first + k = omega arith in
          absurd (false≢true (sym (is k (omega arith)) ∙ ap truth (sym v_is) ∙ v_true))

      value_admitted : (which : Which) → IsWhichOf count which → (attr : ℕ) (domain : Domain) → domain_at attrs attr ≡ domain → (c : CellValues) → Contains cells c → c.attr ≡ attr → cell_values all_rules attr (domain_at attrs attr) ≡ c → Admits domain (value_text which cells truth attr c)
      value_admitted which is_which attr AnyText domain_is c there named is = tt
      value_admitted which is_which attr (Finite values) domain_is c there named is =
          let own : cell_values all_rules attr (Finite values) ≡ c = ap (cell_values all_rules attr) (sym domain_is) ∙ is in
          let first = value_var which cells attr in
          let place = constant_of truth first c in
          let new = new_for which cells truth attr c in
          let some = subst (λ n. HasSome truth (whole_cell (value_var which cells n) c)) named (some_at which is_which c there) in
          subst (λ (x : CellValues). IsChosen truth first x place → HasSome truth (whole_cell first x) → Contains values (text_for x new place)) own (finite_text values attr first new place) (chosen_is truth first c) some

      plain_admitted : (domain : Domain) → IsValidDomain domain → Admits domain (plain_text domain)
      plain_admitted AnyText good = tt
      plain_admitted (Finite values) good = let some = good.some in Contains-get_or values 0 [] (omega arith)

      text_admitted : (which : Which) → IsWhichOf count which → (attr : ℕ) (found : Option CellValues) → found_in attr ≡ found → Admits (domain_at attrs attr) (attr_text which cells truth attr (domain_at attrs attr) found)
      text_admitted which is_which attr None is = plain_admitted (domain_at attrs attr) (valid_domain_at attrs attr valid)
      text_admitted which is_which attr (Some c) is =
          let (named, there) = found_attr cells attr c is in
          let from = occurring_from attrs all_rules c there in
          let attr_is : from.attr ≡ attr = ap (λ (x : CellValues). x.attr) from.is ∙ named in
          value_admitted which is_which attr (domain_at attrs attr) refl c there named (subst (λ n. cell_values all_rules n (domain_at attrs n) ≡ c) attr_is from.is)

      pub is_tuple : (which : Which) → IsWhichOf count which → IsTupleOf attrs (tuple_of which attrs cells truth)
      is_tuple which is = tuple_by attrs (λ n. attr_text which cells truth n (domain_at attrs n) (found_in n)) 0 (λ k within. let same : k ≡ 0 + k = omega arith in subst (λ n. Admits (domain_at attrs k) (attr_text which cells truth n (domain_at attrs n) (found_in n))) same (text_admitted which is k (found_in k) refl))

    -- ---- short texts

    module _ (each_rule : (rule : Rule) → Contains all_rules rule → IsRuleOf attrs rule) where
      row_short : (attr : ℕ) (rule : Rule) (row : TableauRow (List ℕ)) → IsValidRow attrs rule.x rule.a row → All (λ (p : Pattern (List ℕ)). Short 1024 (constants_of p)) (cells_in_row attr rule row)
      row_short attr rule row good =
          all_map (λ (p : Pattern (List ℕ)). Short 1024 (constants_of p)) (λ (c : ℕ × Pattern (List ℕ)). c.1) (filter (λ (c : ℕ × Pattern (List ℕ)). nat_eq c.0 attr) (row_cells rule row)) (λ at there.
          let (listed, passes) = contains_from_filter (λ (c : ℕ × Pattern (List ℕ)). nat_eq c.0 attr) (row_cells rule row) at there in
          elim (Contains-append_cases (zip rule.x row.x) ((rule.a, row.a) ∷ []) at listed) [
            | inl left ↦ cell_short (domain_at attrs at.0) at.1 (zip_cell attrs rule.x row.x at good.x left)
            | inr right ↦ elim (contains_cases at (rule.a, row.a) [] right) [
              | inl same ↦ subst (λ (z : ℕ × Pattern (List ℕ)). Short 1024 (constants_of z.1)) same (cell_short (domain_at attrs rule.a) row.a good.a)
              | inr none ↦ absurd (contains_nothing at none)
            ]
          ])

      constants_short : (attr : ℕ) (domain : Domain) → IsValidDomain domain → Short 1024 (constants_at all_rules attr domain)
      constants_short attr AnyText good =
          once_short 1024 [] (flat_map constants_of (cells_at all_rules attr)) (All-nil (λ (t : List ℕ). length t ≤ 1024))
          (all_flat_map (λ (t : List ℕ). length t ≤ 1024) constants_of (cells_at all_rules attr) (λ p there.
          All-contains (λ (q : Pattern (List ℕ)). Short 1024 (constants_of q)) (cells_at all_rules attr) p
          (all_flat_map (λ (q : Pattern (List ℕ)). Short 1024 (constants_of q)) (cells_in_rule attr) all_rules (λ rule rule_there.
          all_flat_map (λ (q : Pattern (List ℕ)). Short 1024 (constants_of q)) (cells_in_row attr rule) rule.rows (λ row row_there.
          row_short attr rule row (All-contains (IsValidRow attrs rule.x rule.a) rule.rows row (each_rule rule rule_there).rows row_there)))) there))
      constants_short attr (Finite values) good = λ k d within. (good.constants k d within).bound

      new_for_short : (which : Which) (attr : ℕ) (c : CellValues) → Short 1025 c.values → length (new_for which cells truth attr c) ≤ 2052
      new_for_short Only attr c short = let bound = new_short c short in omega arith
      new_for_short First attr c short = let bound = new_short c short in omega arith
      new_for_short Second attr c short = second_short c (truth (equal_var cells attr)) (constant_of truth (value_var First cells attr) c) short

      text_short : (which : Which) (attr : ℕ) (found : Option CellValues) → found_in attr ≡ found → length (attr_text which cells truth attr (domain_at attrs attr) found) ≤ 2052
      text_short which attr None is = plain_short (domain_at attrs attr) (valid_domain_at attrs attr valid)
      text_short which attr (Some c) is =
          let (named, there) = found_attr cells attr c is in
          let from = occurring_from attrs all_rules c there in
          let domain = domain_at attrs from.attr in
          let short : Short 1025 c.values = subst (λ (x : CellValues). Short 1025 x.values) from.is (other_short (has_other all_rules from.attr domain) (constants_at all_rules from.attr domain) (constants_short from.attr domain (valid_domain_at attrs from.attr valid))) in
          for_short c (new_for which cells truth attr c) (constant_of truth (value_var which cells attr) c) short (new_for_short which attr c short)

      pub is_short : (which : Which) → All (λ (text : List ℕ). length text ≤ answer_bytes) (tuple_of which attrs cells truth)
      is_short which = all_map (λ (text : List ℕ). length text ≤ answer_bytes) (λ n. attr_text which cells truth n (domain_at attrs n) (found_in n)) (range_with_len 0 (length attrs)) (λ n there. let bound = text_short which n (found_in n) refl in omega arith)
