-- What rows satisfy, by their texts: the tests of a search mean what rules mean.
use Rattle.std.proofs.Common.{◌≡◌, ℕ, suc, ◌<◌, Bool, true, false, not, ◌||◌, List, [], ◌∷◌, map, length, Some, All, get_or, refl, sym, ap, subst, ◌∙◌, arith, ⊎_elim}
use Rattle.std.specs.Prelude.{slice_get, slice_index_or}
use Rattle.std.specs.Bool.{Decides}
use Rattle.std.specs.List.{Contains}
use Rattle.std.specs.Cmp.Lexicographic.{pointwise_decides}
use Rattle.std.specs.Str.{bytes_eq}
use Rattle.std.proofs.lemmas.Bool.{and_from, and_parts, true≢false}
use Rattle.std.proofs.lemmas.List.{get_or_default}
use Rattle.std.proofs.lemmas.List.Elements.{All-contains, All-head, All-tail, Contains-get_or}
use Rattle.std.proofs.lemmas.Option.{slice_get-get_or}
use Rattle.std.proofs.lemmas.Slice.Eq.{bytes_eq-Decides}
use Rattle.cfd_semantics.specs.declared.pattern.Pattern.TheVariants.{Any, Is}
use Rattle.cfd_semantics.specs.declared.dependency.Dependency.{Dependency}
use Rattle.cfd_semantics.specs.declared.dependency.TableauRow.{TableauRow}
use Rattle.cfd_semantics.specs.Pattern.{matches, all_match}
use Rattle.cfd_semantics.specs.Tuple.{values_at, with_both}
use Rattle.cfd_semantics.specs.Violation.{Sides, sides_of}
use Rattle.cfd_semantics.proofs.Members.{contains-here, contains_cases, contains_nothing}
use Rattle.dep_search.specs.Counting.{every}
use Rattle.dep_search.specs.Found.{determines, settles}
use Rattle.dep_search.specs.Rows.{Row, agree, row_at, texts}
use Rattle.dep_search.proofs.Counted.{every-all, every-at}
use Rattle.dep_finder.specs.Minimal.{Hold, constant, plain}

abbrev pub text_at : List Row → ℕ → ℕ → List ℕ
text_at rows r a = slice_index_or (row_at rows r) a []

abbrev pub texts_at : List Row → ℕ → List ℕ → List (List ℕ)
texts_at rows r x = texts (row_at rows r) x

abbrev pub AreWide : ℕ → List Row → Type 0
AreWide attrs rows = All (λ (row : Row). length row ≡ attrs) rows

abbrev pub AreWithin : ℕ → List ℕ → Type 0
AreWithin attrs x = All (λ attr. attr < attrs) x

-- ---- the tests, without tests

-- rows with the texts of this one at X have its text at A
abbrev pub IsSettled : List Row → List ℕ → ℕ → ℕ → Type 0
IsSettled rows x a r = (s : ℕ) → s < length rows → texts_at rows r x ≡ texts_at rows s x → text_at rows r a ≡ text_at rows s a

abbrev pub IsDetermined : List Row → List ℕ → ℕ → Type 0
IsDetermined rows x a = (r : ℕ) → r < length rows → IsSettled rows x a r

-- rows with these texts at X have this text at A
abbrev pub IsFixed : List Row → List ℕ → ℕ → List (List ℕ) → List ℕ → Type 0
IsFixed rows x a values value = (r : ℕ) → r < length rows → values ≡ texts_at rows r x → value ≡ text_at rows r a

pub agree_decides : (rows : List Row) (x : List ℕ) (r s : ℕ) → Decides (agree rows x r s) (texts_at rows r x ≡ texts_at rows s x)
agree_decides rows x r s = pointwise_decides bytes_eq-Decides (texts_at rows r x) (texts_at rows s x)

agree_a : (rows : List Row) (a r s : ℕ) → agree rows (a ∷ []) r s ≡ true → text_at rows r a ≡ text_at rows s a
agree_a rows a r s e = (bytes_eq-Decides (text_at rows r a) (text_at rows s a)).0 (and_parts (bytes_eq (text_at rows r a) (text_at rows s a)) true e).0

a_agrees : (rows : List Row) (a r s : ℕ) → text_at rows r a ≡ text_at rows s a → agree rows (a ∷ []) r s ≡ true
a_agrees rows a r s e = and_from (bytes_eq (text_at rows r a) (text_at rows s a)) true ((bytes_eq-Decides (text_at rows r a) (text_at rows s a)).1 e) refl

follows : (b c : Bool) → (not b || c) ≡ true → b ≡ true → c ≡ true
follows true c e t = e
follows false c e t = absurd (true≢false (sym t))

follow : (b c : Bool) → (b ≡ true → c ≡ true) → (not b || c) ≡ true
follow true c f = f refl
follow false c f = refl

pub settles_true : (rows : List Row) (x : List ℕ) (a r : ℕ) → settles rows x a r ≡ true → IsSettled rows x a r
unfolding settles
settles_true rows x a r e = λ s sl same.
    agree_a rows a r s
    (follows (agree rows x r s) (agree rows (a ∷ []) r s)
    (every-at (λ s. not (agree rows x r s) || agree rows (a ∷ []) r s) (length rows) s e sl) ((agree_decides rows x r s).1 same))

pub settles_from : (rows : List Row) (x : List ℕ) (a r : ℕ) → IsSettled rows x a r → settles rows x a r ≡ true
unfolding settles
settles_from rows x a r is =
    every-all (λ s. not (agree rows x r s) || agree rows (a ∷ []) r s) (length rows) (λ s sl.
    follow (agree rows x r s) (agree rows (a ∷ []) r s) (λ e. a_agrees rows a r s (is s sl ((agree_decides rows x r s).0 e))))

pub determines_true : (rows : List Row) (x : List ℕ) (a : ℕ) → determines rows x a ≡ true → IsDetermined rows x a
unfolding determines
determines_true rows x a e = λ r rl. settles_true rows x a r (every-at (settles rows x a) (length rows) r e rl)

pub determines_from : (rows : List Row) (x : List ℕ) (a : ℕ) → IsDetermined rows x a → determines rows x a ≡ true
unfolding determines
determines_from rows x a is = every-all (settles rows x a) (length rows) (λ r rl. settles_from rows x a r (is r rl))

-- ---- the values of a row

values_there : (row : Row) (x : List ℕ) → All (λ attr. attr < length row) x → values_at row x ≡ Some (texts row x)
values_there row [] within = refl
values_there row (attr ∷ x) within =
    let here = slice_get-get_or row attr [] (All-head (λ (attr : ℕ). attr < length row) attr x within) in
    let rest = values_there row x (All-tail (λ (attr : ℕ). attr < length row) attr x within) in
    λ i. with_both (λ value values. value ∷ values) (here i) (rest i)

sides_there : (rule : Dependency (List ℕ)) (row : Row) (attrs : ℕ) → length row ≡ attrs → AreWithin attrs rule.x → rule.a < attrs
    → sides_of rule row ≡ Some (record { x = texts row rule.x; a = slice_index_or row rule.a [] })
sides_there rule row attrs wide within al =
    let x = values_there row rule.x (λ k d kl. omega (arith, wide, within k d kl)) in
    let a = slice_get-get_or row rule.a [] (omega (arith, wide)) in
    λ i. with_both (λ x a. record { x = x; a = a }) (x i) (a i)

-- a member by its place
place_of : (rows : List Row) (t : Row) → Contains rows t → (r : ℕ) × (r < length rows) × (row_at rows r ≡ t)
place_of rows t (r, rl, e) = (r, rl, get_or_default rows r [] t rl ∙ e)

same_sides : {one other : Sides (List ℕ)} → Some one ≡ Some other → one ≡ other
same_sides e = cc

one_row : {row t : TableauRow (List ℕ)} → Contains (row ∷ []) t → row ≡ t
one_row {row} {t} at = ⊎_elim (λ (e : row ≡ t). e) (λ (no : Contains [] t). absurd (contains_nothing t no)) (contains_cases t row [] at)

-- each value matches `_`
any_match : (x : List ℕ) (values : List (List ℕ)) → length values ≡ length x → all_match bytes_eq (map (λ attr. Any) x) values ≡ true
any_match [] [] e = refl
any_match [] (value ∷ values) e = absurd (omega arith)
any_match (attr ∷ x) [] e = absurd (omega arith)
any_match (attr ∷ x) (value ∷ values) e = any_match x values (omega arith)

-- values match constants that they equal
is_match : (constants values : List (List ℕ)) → Decides (all_match bytes_eq (map Is constants) values) (constants ≡ values)
is_match [] [] = (λ e. refl, λ e. refl)
is_match [] (value ∷ values) = (λ e. absurd (true≢false (sym e)), λ e. absurd (cc))
is_match (c ∷ constants) [] = (λ e. absurd (true≢false (sym e)), λ e. absurd (cc))
is_match (c ∷ constants) (value ∷ values) = (
  λ e.
      let parts = and_parts (bytes_eq c value) (all_match bytes_eq (map Is constants) values) e in
      let head = (bytes_eq-Decides c value).0 parts.0 in
      let rest = (is_match constants values).0 parts.1 in
      λ i. head i ∷ rest i,
  λ e. and_from (bytes_eq c value) (all_match bytes_eq (map Is constants) values) ((bytes_eq-Decides c value).1 (head e)) ((is_match constants values).1 (rest e)),
)
  where
    head : {c d : List ℕ} {cs ds : List (List ℕ)} → c ∷ cs ≡ d ∷ ds → c ≡ d
    head e = cc

    rest : {c d : List ℕ} {cs ds : List (List ℕ)} → c ∷ cs ≡ d ∷ ds → cs ≡ ds
    rest e = cc

texts_long : (row : Row) (x : List ℕ) → length (texts row x) ≡ length x
texts_long row [] = refl
texts_long row (attr ∷ x) = ap suc (texts_long row x)

-- ---- the two kinds of dependency

-- what two tuples that have the attributes give, by the places of their rows
pub record ArePlaces (rows : List Row) (x : List ℕ) (a : ℕ) (one other : Sides (List ℕ)) : Type 0 where
  pub r : ℕ
  pub s : ℕ
  pub rl : r < length rows
  pub sl : s < length rows
  pub one_x : texts_at rows r x ≡ one.x
  pub one_a : text_at rows r a ≡ one.a
  pub other_x : texts_at rows s x ≡ other.x
  pub other_a : text_at rows s a ≡ other.a

places : (rows : List Row) (attrs : ℕ) (rule : Dependency (List ℕ)) (t u : Row) (one other : Sides (List ℕ)) → AreWide attrs rows → AreWithin attrs rule.x → rule.a < attrs
    → Contains rows t → Contains rows u → sides_of rule t ≡ Some one → sides_of rule u ≡ Some other → ArePlaces rows rule.x rule.a one other
places rows attrs rule t u one other wide within al t_in u_in t_is u_is =
    let (r, rl, at_r) = place_of rows t t_in in
    let (s, sl, at_s) = place_of rows u u_in in
    let first = same_sides (sym (sides_there rule t attrs (All-contains (λ (row : Row). length row ≡ attrs) rows t wide t_in) within al) ∙ t_is) in
    let second = same_sides (sym (sides_there rule u attrs (All-contains (λ (row : Row). length row ≡ attrs) rows u wide u_in) within al) ∙ u_is) in
    record {
      r = r;
      s = s;
      rl = rl;
      sl = sl;
      one_x = ap (λ (row : Row). texts row rule.x) at_r ∙ ap (λ (sides : Sides (List ℕ)). sides.x) first;
      one_a = ap (λ (row : Row). slice_index_or row rule.a []) at_r ∙ ap (λ (sides : Sides (List ℕ)). sides.a) first;
      other_x = ap (λ (row : Row). texts row rule.x) at_s ∙ ap (λ (sides : Sides (List ℕ)). sides.x) second;
      other_a = ap (λ (row : Row). slice_index_or row rule.a []) at_s ∙ ap (λ (sides : Sides (List ℕ)). sides.a) second;
    }

pub plain_holds : (rows : List Row) (attrs : ℕ) (x : List ℕ) (a : ℕ) → AreWide attrs rows → AreWithin attrs x → a < attrs → IsDetermined rows x a → Hold rows (plain x a)
plain_holds rows attrs x a wide within al is = λ row t u one other row_in t_in u_in t_is u_is same match.
    let at = places rows attrs (plain x a) t u one other wide within al t_in u_in t_is u_is in
    let equal = (pointwise_decides bytes_eq-Decides one.x other.x).0 same in (
      (bytes_eq-Decides one.a other.a).1 (sym at.one_a ∙ is at.r at.rl at.s at.sl (at.one_x ∙ equal ∙ sym at.other_x) ∙ at.other_a),
      subst (λ (row : TableauRow (List ℕ)). matches bytes_eq row.a one.a ≡ true) (one_row row_in) refl,
    )

pub plain_held : (rows : List Row) (attrs : ℕ) (x : List ℕ) (a : ℕ) → AreWide attrs rows → AreWithin attrs x → a < attrs → Hold rows (plain x a) → IsDetermined rows x a
plain_held rows attrs x a wide within al holds = λ r rl s sl same.
    let rule = plain x a in
    let there = λ (k : ℕ) (kl : k < length rows). sides_there rule (row_at rows k) attrs (wide k [] kl) within al in
    let told = holds (record { x = map (λ attr. Any) x; a = Any }) (row_at rows r) (row_at rows s) _ _ (contains-here _ []) (Contains-get_or rows r [] rl) (Contains-get_or rows s [] sl)
    (there r rl) (there s sl) ((pointwise_decides bytes_eq-Decides (texts_at rows r x) (texts_at rows s x)).1 same)
    (any_match x (texts_at rows r x) (texts_long (row_at rows r) x)) in
    (bytes_eq-Decides (text_at rows r a) (text_at rows s a)).0 told.0

pub constant_holds : (rows : List Row) (attrs : ℕ) (x : List ℕ) (a : ℕ) (values : List (List ℕ)) (value : List ℕ) → AreWide attrs rows → AreWithin attrs x → a < attrs
    → IsFixed rows x a values value → Hold rows (constant x a values value)
constant_holds rows attrs x a values value wide within al is = λ row t u one other row_in t_in u_in t_is u_is same match.
    let rule = constant x a values value in
    let at = places rows attrs rule t u one other wide within al t_in u_in t_is u_is in
    let equal = (pointwise_decides bytes_eq-Decides one.x other.x).0 same in
    let matched = (is_match values one.x).0 (subst (λ (row : TableauRow (List ℕ)). all_match bytes_eq row.x one.x ≡ true) (sym (one_row row_in)) match) in
    let first = is at.r at.rl (matched ∙ sym at.one_x) ∙ at.one_a in
    let second = is at.s at.sl (matched ∙ equal ∙ sym at.other_x) ∙ at.other_a in (
      (bytes_eq-Decides one.a other.a).1 (sym first ∙ second),
      subst (λ (row : TableauRow (List ℕ)). matches bytes_eq row.a one.a ≡ true) (one_row row_in) ((bytes_eq-Decides value one.a).1 first),
    )

pub constant_held : (rows : List Row) (attrs : ℕ) (x : List ℕ) (a : ℕ) (values : List (List ℕ)) (value : List ℕ) → AreWide attrs rows → AreWithin attrs x → a < attrs
    → Hold rows (constant x a values value) → IsFixed rows x a values value
constant_held rows attrs x a values value wide within al holds = λ r rl same.
    let rule = constant x a values value in
    let there = sides_there rule (row_at rows r) attrs (wide r [] rl) within al in
    let told = holds (record { x = map Is values; a = Is value }) (row_at rows r) (row_at rows r) _ _ (contains-here _ []) (Contains-get_or rows r [] rl) (Contains-get_or rows r [] rl)
    there there ((pointwise_decides bytes_eq-Decides (texts_at rows r x) (texts_at rows r x)).1 refl)
    ((is_match values (texts_at rows r x)).1 same) in
    (bytes_eq-Decides value (text_at rows r a)).0 told.1
