-- The attributes that occur in rules.
use Rattle.std.proofs.Common.{◌≡◌, ℕ, zero, suc, ◌+◌, ◌<◌, Bool, true, cond, List, [], ◌∷◌, length, map, refl, sym, ◌∙◌, subst, inl, inr, arith}
use Rattle.std.specs.Prelude.{filter, Contains, zip, nat_eq}
use Rattle.std.specs.List.{list_any, range_with_len}
use Rattle.std.proofs.lemmas.Bool.{cases_Bool, or_left, or_right, eq-eqb}
use Rattle.std.proofs.lemmas.List.FromFn.{length-range_with_len, get_or-range_with_len}
use Rattle.std.proofs.lemmas.List.Elements.{Contains-append_left, Contains-append_right}
use Rattle.cfd_semantics.proofs.Members.{contains-map, contains_from_map, contains-here}
use Rattle.cfd_semantics.proofs.SetFacts.{contains-filter, contains_from_filter}
use Rattle.cfd_semantics.proofs.InclusionLaw.{any_from_found}
use Rattle.cfd_semantics.specs.declared.pattern.Pattern.{Pattern}
use Rattle.cfd_semantics.specs.declared.dependency.TableauRow.{TableauRow}
use Rattle.schema_core.specs.Lookups.{domain_at}
use Rattle.schema_core.specs.declared.schema.Attr.{Attr}
use Rattle.cell_values.specs.declared.values.CellValues.{CellValues}
use Rattle.cell_values.specs.TableRules.{Rule, occurs, stands_in, row_cells, cells_in_row, cells_in_rule, cells_at}
use Rattle.cell_values.specs.Values.{cell_values, occurring}
use Rattle.cell_values.proofs.ValueFacts.{Contains-flat_map}
use Rattle.cell_values.proofs.Order.{RisesFrom}

-- ---- in order

rises_more : (low : ℕ) (cells : List CellValues) → RisesFrom (low + 1) cells → RisesFrom low cells
rises_more low [] rises = tt
rises_more low (c ∷ cs) rises = let least = rises.0 in (omega arith, rises.1)

module _ (f : ℕ → CellValues) (named : (n : ℕ) → (f n).attr ≡ n) (p : ℕ → Bool) where
  rises_by : (low count : ℕ) → RisesFrom low (map f (filter p (range_with_len low count)))
  rises_by low zero = tt
  rises_by low (suc count) = elim (cases_Bool (p low)) [
    | inl taken ↦ subst (λ b. RisesFrom low (map f (cond b (low ∷ filter p (range_with_len (low + 1) count)) (filter p (range_with_len (low + 1) count))))) (sym taken)
        (let same = named low in omega arith, subst (λ n. RisesFrom (n + 1) (map f (filter p (range_with_len (low + 1) count)))) (sym (named low)) (rises_by (low + 1) count))
    | inr skipped ↦ subst (λ b. RisesFrom low (map f (cond b (low ∷ filter p (range_with_len (low + 1) count)) (filter p (range_with_len (low + 1) count))))) (sym skipped)
        (rises_more low (map f (filter p (range_with_len (low + 1) count))) (rises_by (low + 1) count))
  ]

pub rises : (attrs : List Attr) (rules : List Rule) → RisesFrom 0 (occurring attrs rules)
rises attrs rules = rises_by (λ attr. cell_values rules attr (domain_at attrs attr)) (λ n. refl) (occurs rules) 0 (length attrs)

pub occurring_has : (attrs : List Attr) (rules : List Rule) (attr : ℕ) → attr < length attrs → occurs rules attr ≡ true → Contains (occurring attrs rules) (cell_values rules attr (domain_at attrs attr))
occurring_has attrs rules attr within there =
    let size = length-range_with_len 0 (length attrs) in
    contains-map (λ n. cell_values rules n (domain_at attrs n)) (filter (occurs rules) (range_with_len 0 (length attrs))) attr
    (contains-filter (occurs rules) (range_with_len 0 (length attrs)) attr (attr, omega arith, get_or-range_with_len 0 (length attrs) attr attr within ∙ omega arith) there)

pub record IsOccurring (attrs : List Attr) (rules : List Rule) (c : CellValues) : Type 0 where
  pub attr : ℕ
  pub within : attr < length attrs
  pub occurs : occurs rules attr ≡ true
  pub is : cell_values rules attr (domain_at attrs attr) ≡ c

pub occurring_from : (attrs : List Attr) (rules : List Rule) (c : CellValues) → Contains (occurring attrs rules) c → IsOccurring attrs rules c
occurring_from attrs rules c there =
    let n = length attrs in
    let (attr, found, is) = contains_from_map (λ k. cell_values rules k (domain_at attrs k)) (filter (occurs rules) (range_with_len 0 n)) c there in
    let (ranged, passes) = contains_from_filter (occurs rules) (range_with_len 0 n) attr found in
    let (k, k_in, k_is) = ranged in
    let size = length-range_with_len 0 n in
    let at : 0 + k ≡ attr = sym (get_or-range_with_len 0 n k attr (omega arith)) ∙ k_is in
    record { attr = attr; within = omega arith; occurs = passes; is = is }

-- ---- what stands in rules

pub left_occurs : (rules : List Rule) (rule : Rule) (attr : ℕ) → Contains rules rule → Contains rule.x attr → occurs rules attr ≡ true
left_occurs rules rule attr there left =
    any_from_found (stands_in attr) rules rule there (or_right (nat_eq rule.a attr) (list_any (λ b. nat_eq b attr) rule.x) (any_from_found (λ b. nat_eq b attr) rule.x attr left (eq-eqb attr attr refl)))

pub right_occurs : (rules : List Rule) (rule : Rule) → Contains rules rule → occurs rules rule.a ≡ true
right_occurs rules rule there = any_from_found (stands_in rule.a) rules rule there (or_left (nat_eq rule.a rule.a) (list_any (λ b. nat_eq b rule.a) rule.x) (eq-eqb rule.a rule.a refl))

pub cell_there : (rules : List Rule) (rule : Rule) (row : TableauRow (List ℕ)) (at : ℕ × Pattern (List ℕ)) → Contains rules rule → Contains rule.rows row → Contains (row_cells rule row) at → Contains (cells_at rules at.0) at.1
cell_there rules rule row at there row_there cell =
    Contains-flat_map (cells_in_rule at.0) rules rule at.1 there
    (Contains-flat_map (cells_in_row at.0 rule) rule.rows row at.1 row_there
    (contains-map (λ (c : ℕ × Pattern (List ℕ)). c.1) (filter (λ (c : ℕ × Pattern (List ℕ)). nat_eq c.0 at.0) (row_cells rule row)) at
    (contains-filter (λ (c : ℕ × Pattern (List ℕ)). nat_eq c.0 at.0) (row_cells rule row) at cell (eq-eqb at.0 at.0 refl))))

pub left_cell : (rule : Rule) (row : TableauRow (List ℕ)) (at : ℕ × Pattern (List ℕ)) → Contains (zip rule.x row.x) at → Contains (row_cells rule row) at
left_cell rule row at there = Contains-append_left (zip rule.x row.x) ((rule.a, row.a) ∷ []) at there

pub right_cell : (rule : Rule) (row : TableauRow (List ℕ)) → Contains (row_cells rule row) (rule.a, row.a)
right_cell rule row = Contains-append_right (zip rule.x row.x) ((rule.a, row.a) ∷ []) (rule.a, row.a) (contains-here (rule.a, row.a) [])
