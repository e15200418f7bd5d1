-- What a start gives of its rules, its master rows and its tuples.
use Rattle.std.proofs.Common.{◌≡◌, ℕ, ◌<◌, ◌≤◌, true, List, [], length, map, ◌↔◌, Option, Some, None, refl, sym, ap, ◌∙◌, subst, ⊎_elim, eqb, arith}
use Rattle.std.specs.Prelude.{◌≢◌, IsSomeAnd, IfSome, slice_get, slice_set, option_map}
use Rattle.std.specs.Option.{option_and_then, option_map_or}
use Rattle.std.specs.List.{All, AllPairs, Contains, list_any}
use Rattle.std.specs.FinMap as finite
use Rattle.std.proofs.lemmas.Bool.{eqb-true, eq-eqb}
use Rattle.std.proofs.lemmas.List.{length-set}
use Rattle.std.proofs.lemmas.List.Elements.{All-set, All-contains}
use Rattle.std.proofs.lemmas.Option.{same_Some, slice_get_within}
use Rattle.std.proofs.lemmas.Map.Views.{Contains-from_any}
use Rattle.std.proofs.lemmas.Map.Steps.{length-le_from_distinct_below}
use Rattle.std.proofs.lemmas.Map.Made.{IsDistinct-from_AllPairs}
use Rattle.schema_core.specs.Schemas.{HasFewAttrs}
use Rattle.schema_core.specs.declared.schema.Table.{Table}
use Rattle.schema_core.specs.declared.schema.Schema.{Schema}
use Rattle.rule_model.specs.declared.edit_rule.EditCell.{EditCell}
use Rattle.rule_model.specs.declared.edit_rule.EditRule.{EditRule}
use Rattle.schema_core.specs.Lookups.{attrs_at}
use Rattle.rule_model.specs.Rules.{IsValidEditRule}
use Rattle.rule_model.specs.Books.{IsBook, book_edits}
use Rattle.master_index.specs.Masters.{HasIds, IsRowWith, id_at}
use Rattle.rule_runs.specs.declared.moves.Move.{Move}
use Rattle.rule_runs.specs.declared.moves.Start.{Start}
use Rattle.rule_runs.specs.Moves.{Stage, values_in, IsReady, correction, Corrects, Applies, after, value_written}
use Rattle.rule_runs.specs.Starts.{basis_of, width_of, IsTupleOf, IsStart, IsRuleOf, ReadsWithin}
use Rattle.rule_runs.proofs.Lists.{All-at, IfSome-at, slice_get-either}
use Rattle.rule_runs.proofs.Moving.{WritesWithin, parts, after-is}

-- a table has at most 64 attributes
pub few-at : (schema : Schema) (table : ℕ) → All HasFewAttrs schema.tables → length (attrs_at schema table) ≤ 64
few-at schema table few =
    ⊎_elim
    (λ (t, is). subst (λ o. length (option_map_or (λ (u : Table). u.attrs) o []) ≤ 64) (sym is) (All-at HasFewAttrs schema.tables table t few is).0)
    (λ none. subst (λ o. length (option_map_or (λ (u : Table). u.attrs) o []) ≤ 64) (sym none) (omega arith))
    (slice_get-either schema.tables table)

-- a rule of the book, by its number
pub rule_of : (start : Start) (number : ℕ) (rule : EditRule) → IsBook start.rules.now → IsStart start → slice_get (book_edits start.rules.now) number ≡ Some rule → IsRuleOf start rule
rule_of start number rule book is_start there = record {
  valid = All-at (IsValidEditRule start.rules.now.schema) (book_edits start.rules.now) number rule book.edits there;
  columns = All-at (λ (r : EditRule). Contains start.masters.now.lists (record { master = r.master; columns = r.xm })) (book_edits start.rules.now) number rule is_start.masters.columns there;
  few = book.schema.few_attrs;
}

among_below : {n : ℕ} (xs : List ℕ) (q : ℕ) → list_any (eqb q) xs ≡ true → All (λ x. x < n) xs → q < n
among_below {n} xs q among below = All-contains (λ x. x < n) xs q below (Contains-from_any eqb-true q xs among)

-- distinct numbers below a number are at most so many
few_below : (xs : List ℕ) (n : ℕ) → AllPairs (λ x y. x ≢ y) xs → All (λ x. x < n) xs → length xs ≤ n
few_below xs n distinct below =
    length-le_from_distinct_below xs n (IsDistinct-from_AllPairs (λ a b. (eqb-true a b, eq-eqb a b)) xs distinct) (λ q among. among_below xs q among below)

-- a rule of the table reads and writes within its tuples
pub reads_within : (start : Start) (rule : EditRule) (tuple : List ℕ) → IsRuleOf start rule → rule.table ≡ start.table → IsTupleOf start start.table tuple → ReadsWithin rule (length tuple)
reads_within start rule tuple is_rule table is_tuple =
    let width : length (attrs_at start.rules.now.schema rule.table) ≡ length tuple = ap (width_of start) table ∙ sym is_tuple.width in
    let valid = is_rule.valid in
    let x = subst (λ n. All (λ attr. attr < n) rule.x) width valid.x in
    let few = few-at start.rules.now.schema rule.table is_rule.few in
    let short = few_below rule.x (length tuple) valid.distinct x in
    record {
      x = x;
      when = subst (λ n. All (λ (p : ℕ × EditCell). p.0 < n) rule.when) width (λ k d within. (valid.pattern k d within).attr);
      target = subst (λ n. rule.target < n) width valid.target;
      few = subst (λ n. n ≤ 64) width few;
      short = omega arith;
    }

-- the rule and the master row of a move
abbrev pair : {R M : Type 0} → R → M → R × M
pair x y = (x, y)

abbrev pair_with : {R M : Type 0} → (R → Option M) → R → Option (R × M)
pair_with f x = option_map (pair x) (f x)

pub option-parts : {R M : Type 0} (f : R → Option M) (o : Option R) (r : R) (m : M) → option_and_then (pair_with f) o ≡ Some (r, m) → (o ≡ Some r) × (f r ≡ Some m)
option-parts f None r m is = absurd (let e = is in cc)
option-parts {R} {M} f (Some x) r m is = inner (f x) refl is
  where
    inner : (p : Option M) → f x ≡ p → option_map (pair x) p ≡ Some (r, m) → (Some x ≡ Some r) × (f r ≡ Some m)
    inner None was is' = absurd (let e = is' in cc)
    inner (Some y) was is' =
        let e = same_Some (x, y) (r, m) is' in
        let one : x ≡ r = ap (λ (p : R × M). p.0) e in
        let other : y ≡ m = ap (λ (p : R × M). p.1) e in
        (ap Some one, ap f (sym one) ∙ was ∙ ap Some other)

pub move_parts : (start : Start) (move : Move) (rule : EditRule) (master : List ℕ) → correction (basis_of start) move ≡ Some (rule, master) → (slice_get (book_edits start.rules.now) move.rule ≡ Some rule) × (finite.get start.masters.now.rows (rule.master, move.master) ≡ Some master)
move_parts start move rule master is = option-parts (λ (r : EditRule). finite.get start.masters.now.rows (r.master, move.master)) (slice_get (book_edits start.rules.now) move.rule) rule master is

-- a master row is a tuple of its table
pub master_tuple : (start : Start) (table row : ℕ) (tuple : List ℕ) → IsStart start → finite.get start.masters.now.rows (table, row) ≡ Some tuple → IsTupleOf start table tuple
master_tuple start table row tuple is_start there = subst (λ o. IfSome o (IsTupleOf start table)) there (is_start.masters.rows table row)

pub writes_within : (start : Start) → IsBook start.rules.now → IsStart start → WritesWithin (basis_of start) (width_of start start.table)
writes_within start book is_start = record {
  target = λ move rule master is table.
      let there = move_parts start move rule master is in
      subst (λ t. rule.target < width_of start t) table (rule_of start move.rule rule book is_start there.0).valid.target;
  source = λ move rule master is.
      let there = move_parts start move rule master is in
      let source = (rule_of start move.rule rule book is_start there.0).valid.source in
      let wide = (master_tuple start rule.master move.master master is_start there.1).width in
      omega arith;
}

-- a move leads to a tuple of the table
put-ids : (start : Start) (tuple : List ℕ) (target : ℕ) (o : Option ℕ) → IsTupleOf start start.table tuple → IfSome o (λ id. id < length start.pool.now) → IsTupleOf start start.table (option_map_or (slice_set tuple target) o tuple)
put-ids start tuple target None is_tuple fits = is_tuple
put-ids start tuple target (Some id) is_tuple fits = record {
  width = length-set tuple target id ∙ is_tuple.width;
  ids = All-set (λ i. i < length start.pool.now) tuple target id fits is_tuple.ids;
}

pub after_tuple : (start : Start) (stage : Stage ℕ) (move : Move) → IsStart start → IsTupleOf start start.table stage.tuple → Applies (basis_of start) stage move → IsTupleOf start start.table (after (basis_of start) stage move).tuple
after_tuple start stage move is_start is_tuple applies =
    let ((rule, master), is, corrects) = parts (basis_of start) stage move applies in
    let there = move_parts start move rule master is in
    let ids = (master_tuple start rule.master move.master master is_start there.1).ids in
    subst (λ (s : Stage ℕ). IsTupleOf start start.table s.tuple) (sym (after-is (basis_of start) stage move (rule, master) is))
    (put-ids start stage.tuple rule.target (slice_get master rule.source) is_tuple (IfSome-at (λ i. i < length start.pool.now) master rule.source ids))

-- the rule and the master row of a move, put together
pub correction_from : (start : Start) (move : Move) (rule : EditRule) (master : List ℕ) → slice_get (book_edits start.rules.now) move.rule ≡ Some rule → finite.get start.masters.now.rows (rule.master, move.master) ≡ Some master → correction (basis_of start) move ≡ Some (rule, master)
correction_from start move rule master there row =
    ap (option_and_then (λ (r : EditRule). option_map (λ (m : List ℕ). (r, m)) (finite.get start.masters.now.rows (r.master, move.master)))) there
    ∙ ap (option_map (λ (m : List ℕ). (rule, m))) row

-- the rows with which the tuple agrees in the matched columns
same_as : (o : Option (List ℕ)) (tuple x xm ids : List ℕ) → map Some ids ≡ values_in tuple x → IsSomeAnd o (λ t. HasIds t xm ids) ↔ IsSomeAnd o (λ master. values_in tuple x ≡ values_in master xm)
same_as None tuple x xm ids gathered = (λ h. h, λ h. h)
same_as (Some t) tuple x xm ids gathered = (λ h. sym gathered ∙ sym h, λ h. sym h ∙ sym gathered)

pub rows_alike_are : (start : Start) (tuple : List ℕ) (rule : EditRule) (ids : List ℕ) (row : ℕ) → map Some ids ≡ values_in tuple rule.x → IsRowWith start.masters.now.rows rule.master rule.xm ids row ↔ IsSomeAnd ((basis_of start).masters rule.master row) (λ master. values_in tuple rule.x ≡ values_in master rule.xm)
rows_alike_are start tuple rule ids row gathered = same_as (finite.get start.masters.now.rows (rule.master, row)) tuple rule.x rule.xm ids gathered

-- a move of a rule applies exactly where the rule is ready and the tuple agrees with the master row
inside-map : {R M : Type 0} (o : Option M) (r : R) (P : R × M → Type 0) → IsSomeAnd (option_map (λ (m : M). (r, m)) o) P ↔ IsSomeAnd o (λ m. P (r, m))
inside-map None r P = (λ h. h, λ h. h)
inside-map (Some m) r P = (λ h. h, λ h. h)

split-inside : {M : Type 0} (o : Option M) (A : Type 0) (B : M → Type 0) → IsSomeAnd o (λ m. A × B m) → A × IsSomeAnd o B
split-inside None A B h = absurd h
split-inside (Some m) A B h = h

join-inside : {M : Type 0} (o : Option M) (A : Type 0) (B : M → Type 0) → A → IsSomeAnd o B → IsSomeAnd o (λ m. A × B m)
join-inside None A B a h = h
join-inside (Some m) A B a h = (a, h)

pub applies_by_rule : (start : Start) (stage : Stage ℕ) (number : ℕ) (rule : EditRule) (row : ℕ) → slice_get (book_edits start.rules.now) number ≡ Some rule → Applies (basis_of start) stage (record { rule = number; master = row }) ↔ (IsReady (basis_of start) stage rule × IsSomeAnd ((basis_of start).masters rule.master row) (λ master. values_in stage.tuple rule.x ≡ values_in master rule.xm))
applies_by_rule start stage number rule row there =
    let masters = λ (r : EditRule). finite.get start.masters.now.rows (r.master, row) in
    let o = masters rule in
    let is : correction (basis_of start) (record { rule = number; master = row }) ≡ option_map (λ (m : List ℕ). (rule, m)) o =
    ap (option_and_then (λ (r : EditRule). option_map (λ (m : List ℕ). (r, m)) (masters r))) there in
    let P = Corrects (basis_of start) stage in
    let Same = λ (master : List ℕ). values_in stage.tuple rule.x ≡ values_in master rule.xm in (
      λ applies. split-inside o (IsReady (basis_of start) stage rule) Same ((inside-map o rule P).0 (subst (λ p. IsSomeAnd p P) is applies)),
      λ (ready, same). subst (λ p. IsSomeAnd p P) (sym is) ((inside-map o rule P).1 (join-inside o (IsReady (basis_of start) stage rule) Same ready same)),
    )

-- the value that a move of the rule writes is its master row's in the source
abbrev source_of : EditRule × List ℕ → Option ℕ
source_of c = slice_get c.1 c.0.source

pub written_by : (start : Start) (number : ℕ) (rule : EditRule) (row : ℕ) → slice_get (book_edits start.rules.now) number ≡ Some rule
    → value_written (basis_of start) (record { rule = number; master = row }) ≡ id_at start.masters.now.rows rule.master row rule.source
written_by start number rule row there =
    ap (λ o. option_map_or source_of (option_and_then (λ (r : EditRule). option_map (λ (m : List ℕ). (r, m)) (finite.get start.masters.now.rows (r.master, row))) o) None) there
    ∙ inside (finite.get start.masters.now.rows (rule.master, row))
  where
    inside : (o : Option (List ℕ)) → option_map_or source_of (option_map (λ (m : List ℕ). (rule, m)) o) None ≡ option_map_or (λ (m : List ℕ). slice_get m rule.source) o None
    inside None = refl
    inside (Some m) = refl

-- a move that applies has a rule of the book
pub move_within : (start : Start) (stage : Stage ℕ) (move : Move) → Applies (basis_of start) stage move → move.rule < length (book_edits start.rules.now)
move_within start stage move applies =
    let ((rule, master), is, corrects) = parts (basis_of start) stage move applies in
    slice_get_within (book_edits start.rules.now) move.rule rule (move_parts start move rule master is).0
