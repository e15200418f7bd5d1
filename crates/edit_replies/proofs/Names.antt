-- Names that are those of attributes.
use Rattle.std.proofs.Common.{◌≡◌, ℕ, suc, ◌+◌, Bool, true, false, List, [], ◌∷◌, length, get_or, refl, sym, subst, ◌∙◌, arith, inl, inr}
use Rattle.std.specs.Prelude.{is_some, nat_lt}
use Rattle.std.specs.List.{Any, list_any, position, position_or_len}
use Rattle.std.specs.Str.{bytes_eq}
use Rattle.std.proofs.lemmas.Bool.{cases_Bool, cases_lt, le-ltb, lt-ltb}
use Rattle.std.proofs.lemmas.List.Folds.{Any-from_list_any, list_any_at}
use Rattle.std.proofs.lemmas.List.Sums.{AllPass-from_list_all}
use Rattle.std.proofs.lemmas.Slice.Eq.{bytes_eq-Decides}
use Rattle.schema_core.specs.declared.schema.Attr.{Attr}
use Rattle.schema_core.specs.declared.schema.Table.{Table}
use Rattle.schema_core.specs.Schemas.{attr_place}
use Rattle.fix_engine.specs.Questions.{IsNoAttr}
use Rattle.edit_replies.specs.Fixing.{are_attrs}

first-place : (n : ℕ) → nat_lt 0 (suc n) ≡ true
first-place n = lt-ltb 0 (suc n) (omega arith)

next-place : (m n : ℕ) → nat_lt (1 + m) (suc n) ≡ nat_lt m n
next-place m n = elim (cases_lt m n) [
  | inl below ↦ lt-ltb (1 + m) (suc n) (omega (arith, below)) ∙ sym (lt-ltb m n below)
  | inr above ↦ le-ltb (1 + m) (suc n) (omega (arith, above)) ∙ sym (le-ltb m n above)
]

found : {X : Type 0} (p : X → Bool) (xs : List X) → is_some (position p xs) ≡ list_any p xs
found {X = X} p xs = shown (nat_lt (position_or_len p xs) (length xs)) refl ∙ within xs
  where
    shown : (b : Bool) → nat_lt (position_or_len p xs) (length xs) ≡ b → is_some (position p xs) ≡ nat_lt (position_or_len p xs) (length xs)
    shown true is = rw is refl
    shown false is = rw is refl

    within : (ys : List X) → nat_lt (position_or_len p ys) (length ys) ≡ list_any p ys
    within [] = refl
    within (y ∷ ys) = elim (cases_Bool (p y)) [
      | inl passes ↦ rw passes (first-place (length ys))
      | inr fails ↦ rw fails (next-place (position_or_len p ys) (length ys) ∙ within ys)
    ]

module _ (table : Table) where
  abbrev is_name : List ℕ → Bool
  is_name name = is_some (attr_place table name)

  named : (name : List ℕ) → IsNoAttr table.attrs name → is_name name ≡ true → ⊥
  named name none is =
      let (k, a, within, at, same) = Any-from_list_any (λ (a : Attr). bytes_eq a.name name) table.attrs (sym (found (λ (a : Attr). bytes_eq a.name name) table.attrs) ∙ is) in
      none k a within ((bytes_eq-Decides (get_or table.attrs k a).name name).0 (subst (λ (b : Attr). bytes_eq b.name name ≡ true) (sym at) same))

  unnamed : (name : List ℕ) → is_name name ≡ false → IsNoAttr table.attrs name
  unnamed name isnt k a within same =
      let test : Attr → Bool = λ (a : Attr). bytes_eq a.name name in
      let is : is_name name ≡ true = found test table.attrs ∙ list_any_at test table.attrs k a within ((bytes_eq-Decides (get_or table.attrs k a).name name).1 same) in
      not_both (sym is ∙ isnt)
    where
      not_both : true ≡ false → ⊥
      not_both e = cc

  not-known : (names : List (List ℕ)) → are_attrs table names ≡ true → Any (IsNoAttr table.attrs) names → ⊥
  not-known names all (k, name, within, at, none) =
      named name none (subst (λ n. is_name n ≡ true) at (AllPass-from_list_all is_name names all k name within))

  an-unknown : (names : List (List ℕ)) → are_attrs table names ≡ false → Any (IsNoAttr table.attrs) names
  an-unknown [] isnt = absurd (cc)
  an-unknown (name ∷ names) isnt = elim (cases_Bool (is_name name)) [
    | inl passes ↦ let (k, other, within, at, none) = an-unknown names (rw passes at isnt) in (suc k, other, omega (arith, within), at, none)
    | inr fails ↦ (0, name, omega arith, refl, unnamed name fails)
  ]

  pub unknown-names : (names : List (List ℕ)) → Any (IsNoAttr table.attrs) names → are_attrs table names ≡ false
  unknown-names names any = elim (cases_Bool (are_attrs table names)) [ inl passes ↦ absurd (not-known names passes any) | inr fails ↦ fails ]

  pub known-names : (names : List (List ℕ)) → ¬ Any (IsNoAttr table.attrs) names → are_attrs table names ≡ true
  known-names names none = elim (cases_Bool (are_attrs table names)) [ inl passes ↦ passes | inr fails ↦ absurd (none (an-unknown names fails)) ]
