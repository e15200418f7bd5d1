-- The clauses are over the variables of the cells, and no clause has two positive literals of cells that aren't demanded.
use Rattle.std.proofs.Common.{◌≡◌, ℕ, ◌+◌, ◌<◌, ◌≤◌, List, [], ◌∷◌, ◌++◌, length, map, refl, sym, ◌∙◌, arith}
use Rattle.std.specs.Prelude.{Contains, zip}
use Rattle.std.specs.List.{All, AllByRecursion, flat_map, range_with_len}
use Rattle.std.proofs.lemmas.List.Elements.{All-nil, All-cons, All-append, Contains-append_left, Contains-append_right}
use Rattle.std.proofs.lemmas.List.FromFn.{length-range_with_len, get_or-range_with_len}
use Rattle.cfd_semantics.proofs.Members.{contains-here}
use Rattle.cfd_semantics.specs.declared.pattern.Pattern.{Pattern}
use Rattle.cfd_semantics.specs.declared.pattern.Pattern.TheVariants as patterns
use Rattle.cfd_semantics.specs.declared.dependency.TableauRow.{TableauRow}
use Rattle.case_tree.specs.declared.clauses.Literal.{Literal}
use Rattle.schema_core.specs.Schemas.{IsValidAttr}
use Rattle.schema_core.specs.declared.schema.Attr.{Attr}
use Rattle.cell_values.specs.declared.which.Which.TheVariants.{First, Second}
use Rattle.cell_values.specs.declared.which.TupleCount.TheVariants.{Two}
use Rattle.cell_values.specs.declared.values.CellValues.{CellValues}
use Rattle.cell_values.specs.Layout.{equal_var, value_var, var_total}
use Rattle.cell_values.specs.RowClauses.{alone, meets_at, misses_at, misses_left, no, yes}
use Rattle.cell_values.specs.TableRules.{Rule}
use Rattle.cell_values.specs.Values.{occurring}
use Rattle.cell_values.proofs.Free as free
use Rattle.cell_values.proofs.Lists.{all_flat_map, all_map, one_item}
use Rattle.cell_values.proofs.OneTuple.{attr_here, IsRuleOf, left_here, right_here}
use Rattle.cfd_implication.specs.Question.{constant_clauses, agreeing_at, differ_on, together, clauses_for, row_clauses, rule_clauses, agree_on, asked_cell, breaks, asked_clauses, clauses_of}

module _ (attrs : List Attr) (valid : AllByRecursion IsValidAttr attrs) (rules : List Rule) (asked : Rule) (each_rule : (rule : Rule) → Contains (rules ++ asked ∷ []) rule → IsRuleOf attrs rule) where
  abbrev all_rules : List Rule
  all_rules = rules ++ asked ∷ []

  abbrev cells : List CellValues
  cells = occurring attrs (rules ++ asked ∷ [])

  abbrev clauses : List (List Literal)
  clauses = clauses_of cells rules asked

  abbrev Fine : (ℕ → Type 0) → Literal → Type 0
  Fine Q literal = free.Fine Two attrs valid all_rules clauses Q literal

  abbrev Good : List Literal → Type 0
  Good clause = free.Good Two attrs valid all_rules clauses clause

  abbrev Known : ℕ × Pattern (List ℕ) → Type 0
  Known at = free.Known Two attrs valid all_rules clauses at

  good_by : (Q : ℕ → Type 0) (clause : List Literal) → ((v w : ℕ) → Q v → Q w → v ≡ w) → All (Fine Q) clause → Good clause
  good_by = free.good_by Two attrs valid all_rules clauses

  negative : (Q : ℕ → Type 0) (v : ℕ) → v < var_total Two cells → Fine Q (no v)
  negative = free.negative Two attrs valid all_rules clauses

  positive_as : (Q : ℕ → Type 0) (v : ℕ) → v < var_total Two cells → Q v → Fine Q (yes v)
  positive_as = free.positive_as Two attrs valid all_rules clauses

  equal_below : (attr : ℕ) → free.Here Two attrs valid all_rules clauses attr → equal_var cells attr < var_total Two cells
  equal_below attr here = let below = free.attr_below Two attrs valid all_rules clauses attr here in omega arith

  misses_known : (Q : ℕ → Type 0) (at : ℕ × Pattern (List ℕ)) → Known at → All (Fine Q) (misses_at cells First at)
  misses_known = free.misses_known Two attrs valid all_rules clauses First tt

  meets_known : (at : ℕ × Pattern (List ℕ)) → Known at → ¬ (at.1 ≡ patterns.Any) → Good (meets_at cells First at)
  meets_known at known some = free.meets_known Two attrs valid all_rules clauses First tt [] at known some (λ Q. All-nil (Fine Q))

  module _ (rule : Rule) (row : TableauRow (List ℕ)) (there : Contains (rules ++ asked ∷ []) rule) (row_there : Contains rule.rows row) where
    left_known : (at : ℕ × Pattern (List ℕ)) → Contains (zip rule.x row.x) at → Known at
    left_known at cell = free.known_at Two attrs valid all_rules clauses at (left_here attrs all_rules rule row (each_rule rule there) there row_there at cell)

    right_known : Known (rule.a, row.a)
    right_known = free.known_at Two attrs valid all_rules clauses (rule.a, row.a) (right_here attrs all_rules rule row (each_rule rule there) there row_there)

    left_below : (attr : ℕ) → Contains rule.x attr → equal_var cells attr < var_total Two cells
    left_below attr left =
        let here = attr_here attrs all_rules rule row (each_rule rule there) there row_there attr left in
        equal_below attr (free.here_at Two attrs valid all_rules clauses attr here.0 here.1)

    right_below : equal_var cells rule.a < var_total Two cells
    right_below = equal_below rule.a right_known.here

    left_fine : (Q : ℕ → Type 0) → All (Fine Q) (misses_left cells First rule row)
    left_fine = free.left_fine Two attrs valid all_rules clauses First tt rule row (each_rule rule there) there row_there

    alone_first : ¬ (row.a ≡ patterns.Any) → Good (alone cells First rule row)
    alone_first = free.alone_good Two attrs valid all_rules clauses First tt rule row (each_rule rule there) there row_there

    alone_second : ¬ (row.a ≡ patterns.Any) → Good (alone cells Second rule row)
    alone_second = free.alone_good Two attrs valid all_rules clauses Second tt rule row (each_rule rule there) there row_there

    differ_fine : (Q : ℕ → Type 0) → All (Fine Q) (differ_on cells rule.x)
    differ_fine Q = all_map (Fine Q) (λ attr. no (equal_var cells attr)) rule.x (λ attr left. negative Q (equal_var cells attr) (left_below attr left))

    together_good : Good (together cells rule row)
    together_good =
        let e = equal_var cells rule.a in
        let Q : ℕ → Type 0 = λ v. v ≡ e in
        let front = differ_on cells rule.x ++ misses_left cells First rule row in
        good_by Q (front ++ yes e ∷ []) (λ v w left right. left ∙ sym right)
        (All-append (Fine Q) front (yes e ∷ []) (All-append (Fine Q) (differ_on cells rule.x) (misses_left cells First rule row) (differ_fine Q) (left_fine Q)) (one_item (Fine Q) (yes e) (positive_as Q e right_below refl)))

    three_good : ¬ (row.a ≡ patterns.Any) → All Good (alone cells First rule row ∷ alone cells Second rule row ∷ together cells rule row ∷ [])
    three_good some =
        All-cons Good (alone cells First rule row) (alone cells Second rule row ∷ together cells rule row ∷ []) (alone_first some)
        (All-cons Good (alone cells Second rule row) (together cells rule row ∷ []) (alone_second some) (one_item Good (together cells rule row) together_good))

    pub row_good : (p : Pattern (List ℕ)) → row.a ≡ p → All Good (clauses_for cells rule row p)
    row_good patterns.Any is = one_item Good (together cells rule row) together_good
    row_good (patterns.Is constant) is =
        All-cons Good (alone cells First rule row) (alone cells Second rule row ∷ []) (alone_first (λ any. absurd cc)) (one_item Good (alone cells Second rule row) (alone_second (λ any. absurd cc)))
    row_good (patterns.In members) is = three_good (λ any. absurd cc)
    row_good (patterns.NotIn members) is = three_good (λ any. absurd cc)

    agree_good : (attr : ℕ) → Contains rule.x attr → Good (agree_on cells attr)
    agree_good attr left =
        let e = equal_var cells attr in
        good_by (λ v. v ≡ e) (yes e ∷ []) (λ v w l r. l ∙ sym r) (one_item (Fine (λ v. v ≡ e)) (yes e) (positive_as (λ v. v ≡ e) e (left_below attr left) refl))

    cell_good : (attr : ℕ) (p : Pattern (List ℕ)) → Known (attr, p) → All Good (asked_cell cells (attr, p))
    cell_good attr patterns.Any known = All-nil Good
    cell_good attr (patterns.Is constant) known = one_item Good (meets_at cells First (attr, patterns.Is constant)) (meets_known (attr, patterns.Is constant) known (λ any. absurd cc))
    cell_good attr (patterns.In members) known = one_item Good (meets_at cells First (attr, patterns.In members)) (meets_known (attr, patterns.In members) known (λ any. absurd cc))
    cell_good attr (patterns.NotIn members) known = one_item Good (meets_at cells First (attr, patterns.NotIn members)) (meets_known (attr, patterns.NotIn members) known (λ any. absurd cc))

    never : (v w : ℕ) → ⊥ → ⊥ → v ≡ w
    never v w left right = absurd left

    breaks_good : (attr : ℕ) (p : Pattern (List ℕ)) → Known (attr, p) → Good (breaks cells attr p)
    breaks_good attr patterns.Any known = good_by (λ v. ⊥) (no (equal_var cells attr) ∷ []) never (one_item (Fine (λ v. ⊥)) (no (equal_var cells attr)) (negative (λ v. ⊥) (equal_var cells attr) (equal_below attr known.here)))
    breaks_good attr (patterns.Is constant) known = good_by (λ v. ⊥) (misses_at cells First (attr, patterns.Is constant)) never (misses_known (λ v. ⊥) (attr, patterns.Is constant) known)
    breaks_good attr (patterns.In members) known =
        let rest = misses_at cells First (attr, patterns.In members) in
        good_by (λ v. ⊥) (no (equal_var cells attr) ∷ rest) never (All-cons (Fine (λ v. ⊥)) (no (equal_var cells attr)) rest (negative (λ v. ⊥) (equal_var cells attr) (equal_below attr known.here)) (misses_known (λ v. ⊥) (attr, patterns.In members) known))
    breaks_good attr (patterns.NotIn members) known =
        let rest = misses_at cells First (attr, patterns.NotIn members) in
        good_by (λ v. ⊥) (no (equal_var cells attr) ∷ rest) never (All-cons (Fine (λ v. ⊥)) (no (equal_var cells attr)) rest (negative (λ v. ⊥) (equal_var cells attr) (equal_below attr known.here)) (misses_known (λ v. ⊥) (attr, patterns.NotIn members) known))

    pub asked_good : All Good (asked_clauses cells rule row)
    asked_good =
        let agree = map (agree_on cells) rule.x in
        let match = flat_map (asked_cell cells) (zip rule.x row.x) in
        All-append Good (agree ++ match) (breaks cells rule.a row.a ∷ [])
        (All-append Good agree match (all_map Good (agree_on cells) rule.x agree_good) (all_flat_map Good (asked_cell cells) (zip rule.x row.x) (λ at cell. cell_good at.0 at.1 (left_known at cell))))
        (one_item Good (breaks cells rule.a row.a) (breaks_good rule.a row.a right_known))

  -- ---- the clauses of constants

  three_of : (e p q : ℕ) → e < var_total Two cells → p < var_total Two cells → q < var_total Two cells → All Good ((no e ∷ no p ∷ yes q ∷ []) ∷ (no e ∷ no q ∷ yes p ∷ []) ∷ (no p ∷ no q ∷ yes e ∷ []) ∷ [])
  three_of e p q e_in p_in q_in =
      let clause : (a b c : ℕ) → a < var_total Two cells → b < var_total Two cells → c < var_total Two cells → Good (no a ∷ no b ∷ yes c ∷ []) =
      λ a b c a_in b_in c_in. good_by (λ v. v ≡ c) (no a ∷ no b ∷ yes c ∷ []) (λ v w l r. l ∙ sym r)
      (All-cons (Fine (λ v. v ≡ c)) (no a) (no b ∷ yes c ∷ []) (negative (λ v. v ≡ c) a a_in)
      (All-cons (Fine (λ v. v ≡ c)) (no b) (yes c ∷ []) (negative (λ v. v ≡ c) b b_in) (one_item (Fine (λ v. v ≡ c)) (yes c) (positive_as (λ v. v ≡ c) c c_in refl)))) in
      All-cons Good (no e ∷ no p ∷ yes q ∷ []) ((no e ∷ no q ∷ yes p ∷ []) ∷ (no p ∷ no q ∷ yes e ∷ []) ∷ []) (clause e p q e_in p_in q_in)
      (All-cons Good (no e ∷ no q ∷ yes p ∷ []) ((no p ∷ no q ∷ yes e ∷ []) ∷ []) (clause e q p e_in q_in p_in) (one_item Good (no p ∷ no q ∷ yes e ∷ []) (clause p q e p_in q_in e_in)))

  agreeing_good : (c : CellValues) → Contains cells c → All Good (agreeing_at cells c)
  agreeing_good c there =
      let at = free.here_of Two attrs valid all_rules clauses c there in
      all_flat_map Good (constant_clauses cells c.attr) (range_with_len 0 c.constants) (λ place ranged.
      let (k, k_in, k_is) = ranged in
      let size = length-range_with_len 0 c.constants in
      let is : 0 + k ≡ place = sym (get_or-range_with_len 0 c.constants k place (omega arith)) ∙ k_is in
      let bound : c.constants ≤ length c.values = at.good.bound in
      let first : value_var First cells c.attr + length c.values ≤ var_total Two cells = free.value_below Two attrs valid all_rules clauses First tt c.attr at in
      let second : value_var Second cells c.attr + length c.values ≤ var_total Two cells = free.value_below Two attrs valid all_rules clauses Second tt c.attr at in
      three_of (equal_var cells c.attr) (value_var First cells c.attr + place) (value_var Second cells c.attr + place) (equal_below c.attr at) (omega arith) (omega arith))

  -- ---- all

  pub all_good : All (free.Good Two attrs valid (rules ++ asked ∷ []) (clauses_of (occurring attrs (rules ++ asked ∷ [])) rules asked)) (clauses_of (occurring attrs (rules ++ asked ∷ [])) rules asked)
  all_good =
      let a = flat_map (agreeing_at cells) cells in
      let b = flat_map (rule_clauses cells) rules in
      let c = flat_map (asked_clauses cells asked) asked.rows in
      let asked_in : Contains (rules ++ asked ∷ []) asked = Contains-append_right rules (asked ∷ []) asked (contains-here asked []) in
      All-append Good (a ++ b) c
      (All-append Good a b (all_flat_map Good (agreeing_at cells) cells agreeing_good)
      (all_flat_map Good (rule_clauses cells) rules (λ rule there. all_flat_map Good (row_clauses cells rule) rule.rows (λ row row_there. row_good rule row (Contains-append_left rules (asked ∷ []) rule there) row_there row.a refl))))
      (all_flat_map Good (asked_clauses cells asked) asked.rows (λ row row_there. asked_good asked row asked_in row_there))
