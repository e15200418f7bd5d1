-- Which variables lie in cells that aren't demanded, and the clauses that speak of a tuple have no two of them.
use Rattle.std.proofs.Common.{inl, inr, ◌≡◌, ℕ, suc, ◌+◌, ◌<◌, ◌≤◌, Bool, true, false, cond, List, [], ◌∷◌, ◌++◌, length, get_or, Option, Some, refl, sym, ap, ◌∙◌, subst, arith}
use Rattle.std.specs.Prelude.{Contains, find, nat_eq, zip}
use Rattle.std.specs.List.{All, AllByRecursion}
use Rattle.std.specs.Str.{bytes_eq}
use Rattle.std.proofs.lemmas.Bool.{cases_order, true≢false}
use Rattle.std.proofs.lemmas.List.Elements.{All-nil, All-cons, All-append, All-contains, All-weaker}
use Rattle.std.proofs.lemmas.Slice.Eq.{bytes_eq-Decides}
use Rattle.cfd_semantics.proofs.Members.{contains_cases, contains_nothing}
use Rattle.cfd_semantics.specs.declared.pattern.Pattern.{Pattern}
use Rattle.cfd_semantics.specs.declared.pattern.Pattern.TheVariants as patterns
use Rattle.cfd_semantics.specs.declared.dependency.TableauRow.{TableauRow}
use Rattle.case_tree.specs.declared.clauses.Literal.{Literal}
use Rattle.case_tree.specs.declared.clauses.VarCell.{VarCell}
use Rattle.case_tree.specs.CaseTree.{ClauseSet, IsIn, IsWellFormed}
use Rattle.case_search.specs.Answer.{IsFree, HasOneFree}
use Rattle.schema_core.specs.Lookups.{domain_at}
use Rattle.schema_core.specs.Schemas.{IsValidAttr}
use Rattle.schema_core.specs.declared.schema.Attr.{Attr}
use Rattle.cell_values.specs.declared.which.Which.{Which}
use Rattle.cell_values.specs.declared.which.Which.TheVariants.{Only, First, Second}
use Rattle.cell_values.specs.declared.which.TupleCount.{TupleCount}
use Rattle.cell_values.specs.declared.which.TupleCount.TheVariants.{One, Two}
use Rattle.cell_values.specs.declared.values.CellValues.{CellValues}
use Rattle.cell_values.specs.Layout.{attr_var, value_var, var_cells, var_total, var_width}
use Rattle.cell_values.specs.Literals.{literals_where, matches_as, meets, misses}
use Rattle.cell_values.specs.RowClauses.{alone, meets_at, misses_at, misses_left, no, yes}
use Rattle.cell_values.specs.TableRules.{Rule, occurs}
use Rattle.cell_values.specs.Values.{AreFew, cell_values, occurring, values_for}
use Rattle.cell_values.proofs.Allowed.{HoldsAt, var_cells_all}
use Rattle.cell_values.proofs.Bounds.{cells_count, cells_follow, inside, total_fits}
use Rattle.cell_values.proofs.Choices.{same_place}
use Rattle.cell_values.proofs.Meaning.{AreValues, IsKnownCell}
use Rattle.cell_values.proofs.Occurs.{rises, occurring_has}
use Rattle.cell_values.proofs.OneTuple.{IsCellHere, IsRuleOf, left_here, right_here}
use Rattle.cell_values.proofs.Order.{ArePair, attr_var_here, attr_var_next, find_at, IsWhichOf, offset, offset_within, placed_by, rises_above, RisesFrom, value_var_at, values_at}
use Rattle.cell_values.proofs.Lists.{all_flat_map}
use Rattle.cell_values.proofs.Texts.{good_at}
use Rattle.cell_values.proofs.ValueFacts.{known_if_there}

-- ---- what holds of all literals

module _ (P : Literal → Type 0) (test : List ℕ → Bool) (positive : Bool) where
  lits_if : (first : ℕ) (value : List ℕ) (values : List (List ℕ)) (b : Bool) → (b ≡ true → P (record { var = first; positive = positive })) → All P (literals_where test positive (first + 1) values)
      → All P (cond b (record { var = first; positive = positive } ∷ literals_where test positive (first + 1) values) (literals_where test positive (first + 1) values))
  lits_if first value values true here rest = All-cons P (record { var = first; positive = positive }) (literals_where test positive (first + 1) values) (here refl) rest
  lits_if first value values false here rest = rest

  pub lits_all : (first : ℕ) (values : List (List ℕ)) → ((place : ℕ) → place < length values → test (get_or values place []) ≡ true → P (record { var = first + place; positive = positive })) → All P (literals_where test positive first values)
  lits_all first [] each = All-nil P
  lits_all first (value ∷ values) each =
      let here : first + 0 ≡ first = omega arith in
      lits_if first value values (test value) (λ passes. subst (λ (var : ℕ). P (record { var = var; positive = positive })) here (each 0 (omega arith) passes))
      (lits_all (first + 1) values (λ place within passes.
      let next : first + suc place ≡ first + 1 + place = omega arith in
      subst (λ (var : ℕ). P (record { var = var; positive = positive })) next (each (suc place) (omega arith) passes)))

-- ---- places

some_same : {A : Type 0} (x y : A) → ◌≡◌ {A = Option A} (Some x) (Some y) → x ≡ y
some_same x y e = cc

same_attr : (low : ℕ) (cells : List CellValues) (c d : CellValues) → RisesFrom low cells → Contains cells c → Contains cells d → c.attr ≡ d.attr → c ≡ d
same_attr low cells c d rising c_there d_there same =
    some_same c d (sym (find_at low cells c rising c_there) ∙ ap (λ n. find (λ (x : CellValues). nat_eq x.attr n) cells) same ∙ find_at low cells d rising d_there)

pair_offset : (count : TupleCount) (which : Which) (c : CellValues) → ArePair count → IsWhichOf count which → 1 ≤ offset which c
pair_offset One which c pair is = absurd pair
pair_offset Two Only c pair is = absurd is
pair_offset Two First c pair is = omega arith
pair_offset Two Second c pair is = omega arith

pair_width : (count : TupleCount) (c : CellValues) → ArePair count → 1 ≤ var_width count c
pair_width One c pair = absurd pair
pair_width Two c pair = omega arith

-- attributes further on have their variables further on
apart : (count : TupleCount) (low : ℕ) (cells : List CellValues) (c d : CellValues) → RisesFrom low cells → Contains cells c → Contains cells d → c.attr < d.attr → attr_var count cells c.attr + var_width count c ≤ attr_var count cells d.attr
apart count low [] c d rising c_there d_there less = absurd (contains_nothing c c_there)
apart count low (e ∷ es) c d rising c_there d_there less = elim (contains_cases d e es d_there) [
  | inl d_here ↦ elim (contains_cases c e es c_there) [
    | inl c_here ↦ (let same = ap (λ (x : CellValues). x.attr) (sym c_here ∙ d_here) in absurd (omega arith))
    | inr c_later ↦ (let above = rises_above (e.attr + 1) es c rising.1 c_later in let same = ap (λ (x : CellValues). x.attr) d_here in absurd (omega arith))
  ]
  | inr d_later ↦ (
      let d_above = rises_above (e.attr + 1) es d rising.1 d_later in
      let d_next = attr_var_next count d.attr e es (omega arith) in
      elim (contains_cases c e es c_there) [
        | inl c_here ↦ subst (λ (x : CellValues). attr_var count (e ∷ es) x.attr + var_width count x ≤ attr_var count (e ∷ es) d.attr) c_here (omega (arith, attr_var_here count low e es rising, d_next))
        | inr c_later ↦ (
            let c_above = rises_above (e.attr + 1) es c rising.1 c_later in
            omega (arith, attr_var_next count c.attr e es (omega arith), d_next, apart count (e.attr + 1) es c d rising.1 c_later d_later less))
      ])
]

-- ---- free variables

module _ (count : TupleCount) (attrs : List Attr) (valid : AllByRecursion IsValidAttr attrs) (all_rules : List Rule) (clauses : List (List Literal)) where
  abbrev cells : List CellValues
  cells = occurring attrs all_rules

  abbrev set : ClauseSet
  set = record { cells = var_cells count 0 (occurring attrs all_rules); clauses = clauses }

  -- a value's variable of a demanded cell lies in no other
  not_free : (which : Which) → IsWhichOf count which → (c : CellValues) → Contains cells c → (v : ℕ) → attr_var count cells c.attr + offset which c ≤ v → v < attr_var count cells c.attr + offset which c + length c.values → c.demanded ≡ true → IsFree set v → ⊥
  not_free which is c there v from to demanded (j, x, j_in, j_is, (free, x_in)) =
      all_at j x (var_cells_all count (λ (cell : VarCell). cell.demanded ≡ false → IsIn cell v → ⊥) 0 cells (placed_by count (HoldsAt count (λ (cell : VarCell). cell.demanded ≡ false → IsIn cell v → ⊥)) 0 0 cells (rises attrs all_rules) each)) j_in j_is free x_in where
        all_at : (k : ℕ) (y : VarCell) → All (λ (cell : VarCell). cell.demanded ≡ false → IsIn cell v → ⊥) (var_cells count 0 cells) → k < length (var_cells count 0 cells) → get_or (var_cells count 0 cells) k y ≡ y → y.demanded ≡ false → IsIn y v → ⊥
        all_at k y every k_in at = subst (λ (cell : VarCell). cell.demanded ≡ false → IsIn cell v → ⊥) at (every k y k_in)

        each : (d : CellValues) → Contains cells d → HoldsAt count (λ (cell : VarCell). cell.demanded ≡ false → IsIn cell v → ⊥) (0 + attr_var count cells d.attr) d
        each d d_there = elim (cases_order c.attr d.attr) [
          | inl same ↦ (
              let one = same_attr 0 cells c d (rises attrs all_rules) there d_there same in
              let at : attr_var count cells c.attr ≡ attr_var count cells d.attr = ap (attr_var count cells) same in
              let wanted : d.demanded ≡ true = ap (λ (z : CellValues). z.demanded) (sym one) ∙ demanded in
              (λ pair off within. let a = within.0 in let b = within.1 in let more = pair_offset count which c pair is in omega arith, λ other other_is off within. absurd (true≢false (sym wanted ∙ off))))
          | inr other ↦ elim other [
            | inl less ↦ (
                let later = apart count 0 cells c d (rises attrs all_rules) there d_there less in
                let fits = offset_within count which c is in
                (λ pair off within. let a = within.0 in omega arith, λ s s_is off within. let a = within.0 in omega arith))
            | inr more ↦ (
                let before = apart count 0 cells d c (rises attrs all_rules) d_there there more in
                (λ pair off within. let b = within.1 in let some = pair_width count d pair in omega arith, λ s s_is off within. let b = within.1 in let fits = offset_within count s d s_is in omega arith))
          ]
        ]

  -- a literal of the variables, and free and positive only with a variable of which Q holds
  pub record Fine (Q : ℕ → Type 0) (literal : Literal) : Type 0 where
    pub below : literal.var < var_total count cells
    pub free : literal.positive ≡ true → IsFree set literal.var → Q literal.var

  one_free : (Q : ℕ → Type 0) (clause : List Literal) → ((v w : ℕ) → Q v → Q w → v ≡ w) → All (Fine Q) clause → HasOneFree set clause
  one_free Q clause once all one other one_there other_there one_positive other_positive one_is other_is =
      once one.var other.var ((All-contains (Fine Q) clause one all one_there).free one_positive one_is) ((All-contains (Fine Q) clause other all other_there).free other_positive other_is)

  -- what each clause comes to
  abbrev pub Good : List Literal → Type 0
  Good clause = All (λ (literal : Literal). literal.var < var_total count cells) clause × HasOneFree set clause

  pub good_by : (Q : ℕ → Type 0) (clause : List Literal) → ((v w : ℕ) → Q v → Q w → v ≡ w) → All (Fine Q) clause → Good clause
  good_by Q clause once all = (All-weaker (Fine Q) (λ (literal : Literal). literal.var < var_total count cells) (λ l fine. fine.below) clause all, one_free Q clause once all)

  pub negative : (Q : ℕ → Type 0) (v : ℕ) → v < var_total count cells → Fine Q (no v)
  negative Q v below = record { below = below; free = λ positive free. absurd cc }

  pub positive_as : (Q : ℕ → Type 0) (v : ℕ) → v < var_total count cells → Q v → Fine Q (yes v)
  positive_as Q v below fact = record { below = below; free = λ positive free. fact }

  -- ---- the variables of an attribute that occurs

  pub record Here (attr : ℕ) : Type 0 where
    pub cell : CellValues
    pub there : Contains cells cell
    pub named : cell.attr ≡ attr
    pub values : values_for cells attr ≡ cell.values
    pub good : AreValues cell

  abbrev pub here_of : (c : CellValues) → Contains cells c → Here c.attr
  here_of c there = record {
    cell = c;
    there = there;
    named = refl;
    values = values_at 0 cells c (rises attrs all_rules) there;
    good = good_at attrs valid all_rules c there;
  }

  abbrev pub here_at : (attr : ℕ) → attr < length attrs → occurs all_rules attr ≡ true → Here attr
  here_at attr within occ = here_of (cell_values all_rules attr (domain_at attrs attr)) (occurring_has attrs all_rules attr within occ)

  pub attr_below : (attr : ℕ) (here : Here attr) → attr_var count cells attr + var_width count here.cell ≤ var_total count cells
  attr_below attr here = omega (arith, ap (attr_var count cells) here.named, inside count 0 cells here.cell (rises attrs all_rules) here.there)

  module _ (which : Which) (is : IsWhichOf count which) where
    starts : (attr : ℕ) (here : Here attr) → value_var which cells attr ≡ attr_var count cells here.cell.attr + offset which here.cell
    starts attr here = ap (value_var which cells) (sym here.named) ∙ value_var_at count which is 0 cells here.cell (rises attrs all_rules) here.there

    pub value_below : (attr : ℕ) (here : Here attr) → value_var which cells attr + length here.cell.values ≤ var_total count cells
    value_below attr here = omega (arith, starts attr here, offset_within count which here.cell is, inside count 0 cells here.cell (rises attrs all_rules) here.there)

    -- a variable of a value of a demanded cell isn't free
    value_not_free : (attr : ℕ) (here : Here attr) (place : ℕ) → place < length here.cell.values → here.cell.demanded ≡ true → IsFree set (value_var which cells attr + place) → ⊥
    value_not_free attr here place within demanded free =
        let at = starts attr here in
        not_free which is here.cell here.there (value_var which cells attr + place) (omega arith) (omega arith) demanded free

    lits_fine : (Q : ℕ → Type 0) (test : List ℕ → Bool) (attr : ℕ) (here : Here attr) → here.cell.demanded ≡ true → All (Fine Q) (literals_where test true (value_var which cells attr) here.cell.values)
    lits_fine Q test attr here demanded =
        let most = value_below attr here in
        lits_all (Fine Q) test true (value_var which cells attr) here.cell.values (λ place within passes. record { below = omega arith; free = λ positive free. absurd (value_not_free attr here place within demanded free) })

    lits_negative : (Q : ℕ → Type 0) (test : List ℕ → Bool) (attr : ℕ) (here : Here attr) → All (Fine Q) (literals_where test false (value_var which cells attr) here.cell.values)
    lits_negative Q test attr here =
        let most = value_below attr here in
        lits_all (Fine Q) test false (value_var which cells attr) here.cell.values (λ place within passes. record { below = omega arith; free = λ positive free. absurd cc })

    misses_fine : (Q : ℕ → Type 0) (attr : ℕ) (p : Pattern (List ℕ)) (here : Here attr) → IsKnownCell here.cell p → All (Fine Q) (misses (value_var which cells attr) here.cell.values p)
    misses_fine Q attr patterns.Any here known = All-nil (Fine Q)
    misses_fine Q attr (patterns.Is constant) here known = lits_negative Q (bytes_eq constant) attr here
    misses_fine Q attr (patterns.In members) here known = lits_fine Q (matches_as false (patterns.In members)) attr here (known.covered refl)
    misses_fine Q attr (patterns.NotIn members) here known = lits_fine Q (matches_as false (patterns.NotIn members)) attr here (known.covered refl)

    -- the variable of a value that is the constant
    abbrev IsOf : ℕ → List (List ℕ) → List ℕ → ℕ → Type 0
    IsOf attr values constant v = (place : ℕ) × (place < length values) × (get_or values place [] ≡ constant) × (v ≡ value_var which cells attr + place)

    is_of_once : (attr : ℕ) (here : Here attr) (constant : List ℕ) (v w : ℕ) → IsOf attr here.cell.values constant v → IsOf attr here.cell.values constant w → v ≡ w
    is_of_once attr here constant v w (p, p_in, p_is, p_var) (q, q_in, q_is, q_var) =
        let same = same_place here.cell here.good p q p_in q_in (p_is ∙ sym q_is) in
        p_var ∙ ap (λ (k : ℕ). value_var which cells attr + k) same ∙ sym q_var

    -- what `meets` says, where the cell isn't `_`: with it a clause that is fine whatever Q stays good
    meets_good : (attr : ℕ) (p : Pattern (List ℕ)) (here : Here attr) (front : List Literal) → IsKnownCell here.cell p → ¬ (p ≡ patterns.Any) → ((Q : ℕ → Type 0) → All (Fine Q) front) → Good (front ++ meets (value_var which cells attr) here.cell.values p)
    meets_good attr patterns.Any here front known some fine = absurd (some refl)
    meets_good attr (patterns.Is constant) here front known some fine =
        let Q : ℕ → Type 0 = IsOf attr here.cell.values constant in
        let most = value_below attr here in
        let list = meets (value_var which cells attr) here.cell.values (patterns.Is constant) in
        good_by Q (front ++ list) (is_of_once attr here constant)
        (All-append (Fine Q) front list (fine Q) (lits_all (Fine Q) (matches_as true (patterns.Is constant)) true (value_var which cells attr) here.cell.values (λ place within passes. record { below = omega arith; free = λ positive free. (place, within, sym ((bytes_eq-Decides constant (get_or here.cell.values place [])).0 passes), refl) })))
    meets_good attr (patterns.In members) here front known some fine =
        let list = meets (value_var which cells attr) here.cell.values (patterns.In members) in
        good_by (λ v. ⊥) (front ++ list) (λ v w left right. absurd left) (All-append (Fine (λ v. ⊥)) front list (fine (λ v. ⊥)) (lits_fine (λ v. ⊥) (matches_as true (patterns.In members)) attr here (known.covered refl)))
    meets_good attr (patterns.NotIn members) here front known some fine =
        let list = meets (value_var which cells attr) here.cell.values (patterns.NotIn members) in
        good_by (λ v. ⊥) (front ++ list) (λ v w left right. absurd left) (All-append (Fine (λ v. ⊥)) front list (fine (λ v. ⊥)) (lits_fine (λ v. ⊥) (matches_as true (patterns.NotIn members)) attr here (known.covered refl)))

  -- ---- the cells of a rule

  pub record Known (at : ℕ × Pattern (List ℕ)) : Type 0 where
    pub here : Here at.0
    pub known : IsKnownCell here.cell at.1

  pub known_at : (at : ℕ × Pattern (List ℕ)) → IsCellHere attrs all_rules at → Known at
  known_at at stands = record {
    here = here_at at.0 stands.within stands.occurs;
    known = known_if_there all_rules at.0 (domain_at attrs at.0) at.1 stands.there stands.of_domain;
  }

  module _ (which : Which) (is : IsWhichOf count which) where
    pub misses_known : (Q : ℕ → Type 0) (at : ℕ × Pattern (List ℕ)) → Known at → All (Fine Q) (misses_at cells which at)
    misses_known Q at known = subst (λ vs. All (Fine Q) (misses (value_var which cells at.0) vs at.1)) (sym known.here.values) (misses_fine which is Q at.0 at.1 known.here known.known)

    pub meets_known : (front : List Literal) (at : ℕ × Pattern (List ℕ)) → Known at → ¬ (at.1 ≡ patterns.Any) → ((Q : ℕ → Type 0) → All (Fine Q) front) → Good (front ++ meets_at cells which at)
    meets_known front at known some fine = subst (λ vs. Good (front ++ meets (value_var which cells at.0) vs at.1)) (sym known.here.values) (meets_good which is at.0 at.1 known.here front known.known some fine)

    module _ (rule : Rule) (row : TableauRow (List ℕ)) (is_rule : IsRuleOf attrs rule) (there : Contains all_rules rule) (row_there : Contains rule.rows row) where
      pub left_fine : (Q : ℕ → Type 0) → All (Fine Q) (misses_left cells which rule row)
      left_fine Q = all_flat_map (Fine Q) (misses_at cells which) (zip rule.x row.x) (λ at cell. misses_known Q at (known_at at (left_here attrs all_rules rule row is_rule there row_there at cell)))

      pub alone_good : ¬ (row.a ≡ patterns.Any) → Good (alone cells which rule row)
      alone_good some = meets_known (misses_left cells which rule row) (rule.a, row.a) (known_at (rule.a, row.a) (right_here attrs all_rules rule row is_rule there row_there)) some (λ Q. left_fine Q)

  -- ---- all

  pub well_formed : AreFew cells → All Good clauses → IsWellFormed set
  well_formed few good = record {
    cells_follow = cells_follow count 0 cells;
    vars_fit = omega (arith, cells_count count 0 cells, total_fits count cells few);
    literals_in_cells = subst (λ (n : ℕ). All (All (λ (literal : Literal). literal.var < n)) clauses) (sym (cells_count count 0 cells)) (All-weaker Good (All (λ (literal : Literal). literal.var < var_total count cells)) (λ clause one. one.0) clauses good);
  }

  pub all_one_free : All Good clauses → All (HasOneFree set) clauses
  all_one_free good = All-weaker Good (HasOneFree set) (λ clause one. one.1) clauses good
