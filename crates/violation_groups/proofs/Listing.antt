-- The rows of a list, as the stores tell them.
use Rattle.std.proofs.Common.{◌≡◌, ℕ, ◌+◌, ◌<◌, List, [], ◌∷◌, ◌++◌, length, map, take, get_or, Option, Some, None, refl, sym, ap, subst, ◌∙◌, slice_get}
use Rattle.std.specs.Prelude.{All, IfSome, option_map, option_and_then}
use Rattle.std.specs.FinMap as finmap
use Rattle.std.specs.List.{cons_option, filter_map}
use Rattle.std.proofs.lemmas.List.{map-append, append-nil, take_more}
use Rattle.std.proofs.lemmas.List.Elements.{All-append, All-nil, All-cons, filter_map-append}
use Rattle.std.proofs.lemmas.Option.{none-some, same_Some, slice_get-map, slice_get_within, get_or_from_slice_get}
use Rattle.row_store.specs.Store.{Store}
use Rattle.cfd_semantics.specs.declared.violation.Violation.{Violation}
use Rattle.cfd_semantics.specs.Tuple.{values_at, with_both}
use Rattle.cfd_semantics.specs.Violation.{Sides, sides_of}
use Rattle.cfd_semantics.proofs.Renamed.{values_at-renamed, values_at-known}
use Rattle.rule_model.specs.declared.dep.Dep.{Dep}
use Rattle.rule_model.specs.declared.cind.Cind.{Cind}
use Rattle.bench_core.specs.State.{State, TableState, texts_of}
use Rattle.bench_core.specs.Stored.{HaveTexts, stored, table_state, text_of}
use Rattle.bench_core.specs.Answers.{row_texts}
use Rattle.bench_core.proofs.Planned.{texts-absent, texts-there}
use Rattle.violation_groups.specs.Listed.{Shared, Valued, listed_of, listed_orphan_of}
use Rattle.violation_groups.specs.ByIds.{HasText, sides_by_ids}

module _ (state : State) (texts : List (List ℕ)) (table : ℕ) (store : Store) (at : slice_get state table ≡ Some (table_state texts (stored store))) where
  own-texts : (row : ℕ) → row_texts state table row ≡ texts_of (table_state texts (stored store)) row
  own-texts row = ap (option_and_then (λ (t : TableState). texts_of t row)) at

  pub row-there : (row : ℕ) (ids : List ℕ) → finmap.get store.rows row ≡ Some ids → row_texts state table row ≡ Some (map (text_of texts) ids)
  row-there row ids there = own-texts row ∙ texts-there texts (stored store) row ids there

  pub row-absent : (row : ℕ) → finmap.get store.rows row ≡ None → row_texts state table row ≡ None
  row-absent row none = own-texts row ∙ texts-absent texts (stored store) row none

-- ---- dependencies

-- the two sides of a row by its ids, under their texts
abbrev pub sides_named : List (List ℕ) → ℕ → ℕ → List ℕ × ℕ → Shared × Valued
sides_named texts k row sides = ((k, map (text_of texts) sides.0), (text_of texts sides.1, row))

sides-told : (texts : List (List ℕ)) (k row : ℕ) (x : Option (List ℕ)) (a : Option ℕ)
    → option_map (λ (sides : Sides (List ℕ)). ((k, sides.x), (sides.a, row))) (with_both (λ x a. record { x = x; a = a }) (option_map (map (text_of texts)) x) (option_map (text_of texts) a))
    ≡ option_map (sides_named texts k row) (with_both (λ x a. (x, a)) x a)
sides-told texts k row None a = refl
sides-told texts k row (Some x) None = refl
sides-told texts k row (Some x) (Some a) = refl

pub listed-there : (state : State) (texts : List (List ℕ)) (dep : Dep) (store : Store) → slice_get state dep.table ≡ Some (table_state texts (stored store)) → (k : ℕ) (found : Violation) (ids : List ℕ)
    → finmap.get store.rows found.row ≡ Some ids → listed_of state dep (k, found) ≡ option_map (sides_named texts k found.row) (sides_by_ids ids dep.rule)
listed-there state texts dep store at k found ids there =
    let told : List (List ℕ) → Option (Shared × Valued) = λ values. option_map (λ (sides : Sides (List ℕ)). ((k, sides.x), (sides.a, found.row))) (sides_of dep.rule values) in
    ap (option_and_then told) (row-there state texts dep.table store at found.row ids there)
    ∙ ap (λ x. option_map (λ (sides : Sides (List ℕ)). ((k, sides.x), (sides.a, found.row))) (with_both (λ x a. record { x = x; a = a }) x (slice_get (map (text_of texts) ids) dep.rule.a))) (values_at-renamed (text_of texts) ids dep.rule.x)
    ∙ ap (λ a. option_map (λ (sides : Sides (List ℕ)). ((k, sides.x), (sides.a, found.row))) (with_both (λ x a. record { x = x; a = a }) (option_map (map (text_of texts)) (values_at ids dep.rule.x)) a)) (slice_get-map (text_of texts) ids dep.rule.a)
    ∙ sides-told texts k found.row (values_at ids dep.rule.x) (slice_get ids dep.rule.a)

pub listed-absent : (state : State) (texts : List (List ℕ)) (dep : Dep) (store : Store) → slice_get state dep.table ≡ Some (table_state texts (stored store)) → (k : ℕ) (found : Violation)
    → finmap.get store.rows found.row ≡ None → listed_of state dep (k, found) ≡ None
listed-absent state texts dep store at k found none =
    ap (option_and_then (λ values. option_map (λ (sides : Sides (List ℕ)). ((k, sides.x), (sides.a, found.row))) (sides_of dep.rule values))) (row-absent state texts dep.table store at found.row none)

-- the ids on both sides have texts
abbrev pub AreKnown : List (List ℕ) → List ℕ × ℕ → Type 0
AreKnown texts sides = HaveTexts texts sides.0 × HasText texts sides.1

known-at : (texts : List (List ℕ)) (ids : List ℕ) (place a : ℕ) → HaveTexts texts ids → slice_get ids place ≡ Some a → HasText texts a
known-at texts ids place a have at =
    subst (HasText texts) (get_or_from_slice_get ids place a a at) (have place a (slice_get_within ids place a at))

pub sides-known : (texts : List (List ℕ)) (ids x : List ℕ) (a : ℕ) (sides : List ℕ × ℕ) → HaveTexts texts ids → with_both (λ x a. (x, a)) (values_at ids x) (slice_get ids a) ≡ Some sides → AreKnown texts sides
sides-known texts ids x a sides have is = by (values_at ids x) (slice_get ids a) refl refl is
  where
    by : (xs : Option (List ℕ)) (one : Option ℕ) → values_at ids x ≡ xs → slice_get ids a ≡ one → with_both (λ x a. (x, a)) xs one ≡ Some sides → AreKnown texts sides
    by None one xs-is one-is is = absurd (none-some _ is)
    by (Some xs) None xs-is one-is is = absurd (none-some _ is)
    by (Some xs) (Some one) xs-is one-is is =
        subst (AreKnown texts) (same_Some _ _ is) (values_at-known (HasText texts) ids x xs have xs-is, known-at texts ids a one have one-is)

-- ---- inclusions

abbrev pub orphan_named : List (List ℕ) → ℕ → ℕ → List ℕ → Shared × ℕ
orphan_named texts k row key = ((k, map (text_of texts) key), row)

orphan-told : (texts : List (List ℕ)) (k row : ℕ) (x : Option (List ℕ))
    → option_map (λ key. ((k, key), row)) (option_map (map (text_of texts)) x) ≡ option_map (orphan_named texts k row) x
orphan-told texts k row None = refl
orphan-told texts k row (Some x) = refl

pub orphan-there : (state : State) (texts : List (List ℕ)) (cind : Cind) (store : Store) → slice_get state cind.left ≡ Some (table_state texts (stored store)) → (k row : ℕ) (ids : List ℕ)
    → finmap.get store.rows row ≡ Some ids → listed_orphan_of state cind (k, row) ≡ option_map (orphan_named texts k row) (values_at ids cind.rule.x)
orphan-there state texts cind store at k row ids there =
    ap (option_and_then (λ values. option_map (λ key. ((k, key), row)) (values_at values cind.rule.x))) (row-there state texts cind.left store at row ids there)
    ∙ ap (option_map (λ key. ((k, key), row))) (values_at-renamed (text_of texts) ids cind.rule.x)
    ∙ orphan-told texts k row (values_at ids cind.rule.x)

pub orphan-absent : (state : State) (texts : List (List ℕ)) (cind : Cind) (store : Store) → slice_get state cind.left ≡ Some (table_state texts (stored store)) → (k row : ℕ)
    → finmap.get store.rows row ≡ None → listed_orphan_of state cind (k, row) ≡ None
orphan-absent state texts cind store at k row none =
    ap (option_and_then (λ values. option_map (λ key. ((k, key), row)) (values_at values cind.rule.x))) (row-absent state texts cind.left store at row none)

-- ---- one row more

module _ {X Y Z : Type 0} (name : Y → Z) (gives : X → Option Z) where
  named-option : (ys : List Y) (o : Option Y) → map name (ys ++ cons_option o []) ≡ map name ys ++ cons_option (option_map name o) []
  named-option ys None = map-append name ys []
  named-option ys (Some y) = map-append name ys (y ∷ [])

  pub given-next : (xs : List X) (i : ℕ) (d : X) (before after : List Y) (o : Option Y) → i < length xs → map name before ≡ filter_map gives (take i xs) → option_map name o ≡ gives (get_or xs i d)
      → after ≡ before ++ cons_option o [] → map name after ≡ filter_map gives (take (i + 1) xs)
  given-next xs i d before after o within so one is =
      ap (map name) is ∙ named-option before o ∙ ap (λ l. l ++ cons_option (option_map name o) []) so
      ∙ ap (λ p. filter_map gives (take i xs) ++ cons_option p []) one
      ∙ sym (ap (filter_map gives) (take_more xs i d within) ∙ filter_map-append gives (take i xs) (get_or xs i d ∷ []))

module _ {Y : Type 0} (P : Y → Type 0) where
  pub All-option : (ys : List Y) (o : Option Y) → All P ys → IfSome o P → All P (ys ++ cons_option o [])
  All-option ys None all it = subst (All P) (sym (append-nil ys)) all
  All-option ys (Some y) all it = All-append P ys (y ∷ []) all (All-cons P y [] it (All-nil P))
