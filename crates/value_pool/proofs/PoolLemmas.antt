-- What look-ups by equal bytes say of a list of texts.
use Rattle.std.proofs.Common.{◌≡◌, ℕ, zero, suc, ◌<◌, ◌≤◌, Bool, true, false, cond, nat_lt, List, [], ◌∷◌, ◌++◌, length, slice_get, position, ◌||◌, inl, inr, Option, Some, None, refl, sym, ap, ◌∙◌, subst, arith, lt-ltb, true≢false, IfSome, IfNone, ◌+◌, length-append}
use Rattle.std.specs.Cmp.Lexicographic.{bytes_decides}
use Rattle.std.specs.List.{list_any, position_or_len, IsDistinct, AllByRecursion}
use Rattle.std.specs.Str.{bytes_eq}
use Rattle.indexmap.specs.IndexSet.{insert_key}
use borrow.Author.Tests.{ltb-true}
use Rattle.std.proofs.lemmas.Bool.{or_parts}
use Rattle.std.proofs.lemmas.Option.{cond_some, none-some, same_Some}
use native.Mathlib.Decide.{dec_lt}
use Rattle.value_pool.specs.Pool.{HasId, IsNew, HaveOneId, Interns, KeepsIds}

-- no text from here on is the one before it
apart : (text : List ℕ) (texts : List (List ℕ)) (id : ℕ) → AllByRecursion (λ y. bytes_eq text y ≡ false) texts → ¬ HasId texts text id
apart text [] id h has = none-some text has
apart text (t ∷ ts) zero h has = true≢false (sym ((bytes_decides text t).1 (sym (same_Some t text has))) ∙ h.0)
apart text (t ∷ ts) (suc id) h has = apart text ts id h.1 has

-- texts that are apart have one id each
pub distinct-HaveOneId : (texts : List (List ℕ)) → IsDistinct bytes_eq texts → HaveOneId texts
unfolding IsDistinct
distinct-HaveOneId [] d text one other p q = absurd (none-some text p)
distinct-HaveOneId (t ∷ ts) d text zero zero p q = refl
distinct-HaveOneId (t ∷ ts) d text zero (suc other) p q = absurd (apart t ts other d.0 (q ∙ sym p))
distinct-HaveOneId (t ∷ ts) d text (suc one) zero p q = absurd (apart t ts one d.0 (p ∙ sym q))
distinct-HaveOneId (t ∷ ts) d text (suc one) (suc other) p q = ap suc (distinct-HaveOneId ts d.1 text one other p q)

module _ (text : List ℕ) where
  -- the first place of the text comes one later behind another text
  place-first : (t : List ℕ) (ts : List (List ℕ)) → bytes_eq text t ≡ true → position_or_len (bytes_eq text) (t ∷ ts) ≡ 0
  place-first t ts e = rw e refl

  place-later : (t : List ℕ) (ts : List (List ℕ)) → bytes_eq text t ≡ false → position_or_len (bytes_eq text) (t ∷ ts) ≡ suc (position_or_len (bytes_eq text) ts)
  place-later t ts e = rw e (omega arith)

  -- a first place below the length is the text's id
  HasId-place : (texts : List (List ℕ)) → position_or_len (bytes_eq text) texts < length texts → HasId texts text (position_or_len (bytes_eq text) texts)
  HasId-place [] below = absurd (omega arith)
  HasId-place (t ∷ ts) below = by (bytes_eq text t) refl (HasId-place ts)
    where
      by : (b : Bool) → bytes_eq text t ≡ b → (position_or_len (bytes_eq text) ts < length ts → HasId ts text (position_or_len (bytes_eq text) ts)) → HasId (t ∷ ts) text (position_or_len (bytes_eq text) (t ∷ ts))
      by true e rest = rw (place-first t ts e) (ap Some (sym ((bytes_decides text t).0 e)))
      by false e rest = rw (place-later t ts e) (rest (omega (arith, below, place-later t ts e)))

  -- where there is none, no place has the text
  IsNew-place : (texts : List (List ℕ)) → length texts ≤ position_or_len (bytes_eq text) texts → IsNew texts text
  IsNew-place [] past id has = none-some text has
  IsNew-place (t ∷ ts) past id has = by (bytes_eq text t) refl (IsNew-place ts) id has
    where
      by : (b : Bool) → bytes_eq text t ≡ b → (length ts ≤ position_or_len (bytes_eq text) ts → IsNew ts text) → (i : ℕ) → ¬ HasId (t ∷ ts) text i
      by true e rest i h = omega (arith, past, place-first t ts e)
      by false e rest zero h = true≢false (sym ((bytes_decides text t).1 (sym (same_Some t text h))) ∙ e)
      by false e rest (suc i) h = rest (omega (arith, past, place-later t ts e)) i h

  -- what `position` answers
  pub position-HasId : (texts : List (List ℕ)) (answer : Option ℕ) → answer ≡ position (bytes_eq text) texts → IfSome answer (HasId texts text)
  position-HasId texts None is = tt
  position-HasId texts (Some id) is =
      let at = cond_some (nat_lt (position_or_len (bytes_eq text) texts) (length texts)) (position_or_len (bytes_eq text) texts) id (sym is) in
      subst (HasId texts text) at.1 (HasId-place texts (ltb-true _ _ at.0))

  pub position-IsNew : (texts : List (List ℕ)) (answer : Option ℕ) → answer ≡ position (bytes_eq text) texts → IfNone answer (IsNew texts text)
  position-IsNew texts (Some id) is = tt
  position-IsNew texts None is =
      elim (dec_lt (position_or_len (bytes_eq text) texts) (length texts)) [
        | yes below ↦ absurd (none-some (position_or_len (bytes_eq text) texts) (is ∙ ap (λ b. cond b (Some (position_or_len (bytes_eq text) texts)) None) (lt-ltb _ _ below)))
        | no past ↦ IsNew-place texts (omega (arith, past))
      ]

  -- a text that is equal to one of them has its id
  HasId-any : (texts : List (List ℕ)) → list_any (bytes_eq text) texts ≡ true → (id : ℕ) × HasId texts text id
  HasId-any [] any = absurd (true≢false (sym any))
  HasId-any (t ∷ ts) any = by (bytes_eq text t) refl (HasId-any ts)
    where
      by : (b : Bool) → bytes_eq text t ≡ b → (list_any (bytes_eq text) ts ≡ true → (id : ℕ) × HasId ts text id) → (id : ℕ) × HasId (t ∷ ts) text id
      by true is rest = (0, ap Some (sym ((bytes_decides text t).0 is)))
      by false is rest = let found = rest (sym (ap (λ b. b || list_any (bytes_eq text) ts) is) ∙ any) in (suc found.0, found.1)

  -- one that is equal to none of them is new
  IsNew-none : (texts : List (List ℕ)) → list_any (bytes_eq text) texts ≡ false → IsNew texts text
  IsNew-none [] none id has = none-some text has
  IsNew-none (t ∷ ts) none zero has = true≢false (sym ((bytes_decides text t).1 (sym (same_Some t text has))) ∙ (or_parts (bytes_eq text t) (list_any (bytes_eq text) ts) none).0)
  IsNew-none (t ∷ ts) none (suc id) has = IsNew-none ts (or_parts (bytes_eq text t) (list_any (bytes_eq text) ts) none).1 id has

  -- what there is after an insertion
  pub insert_key-Interns : (texts : List (List ℕ)) → Interns texts text (insert_key bytes_eq texts text)
  insert_key-Interns texts = by (list_any (bytes_eq text) texts) refl
    where
      by : (b : Bool) → list_any (bytes_eq text) texts ≡ b → Interns texts text (cond b texts (texts ++ text ∷ []))
      by true any = let found = HasId-any texts any in inl (found.0, found.1, refl)
      by false none = inr (IsNew-none texts none, refl)

-- a text that stands at a place, and is equal to another, is that one
pub HasId-stored : (texts : List (List ℕ)) (text stored : List ℕ) (id : ℕ) → slice_get texts id ≡ Some stored → bytes_eq text stored ≡ true → HasId texts text id
HasId-stored texts text stored id at same = at ∙ ap Some (sym ((bytes_decides text stored).0 same))

-- a text that goes last leaves the ids of the others
KeepsIds-push : (old : List (List ℕ)) (text : List ℕ) → KeepsIds old (old ++ text ∷ [])
KeepsIds-push [] text other id has = absurd (none-some other has)
KeepsIds-push (x ∷ xs) text other zero has = has
KeepsIds-push (x ∷ xs) text other (suc id) has = KeepsIds-push xs text other id has

-- so does any text that comes in
pub KeepsIds-Interns : (old : List (List ℕ)) (text : List ℕ) (new : List (List ℕ)) → Interns old text new → KeepsIds old new
KeepsIds-Interns old text new (inl (id, has, same)) = subst (KeepsIds old) (sym same) (λ other i there. there)
KeepsIds-Interns old text new (inr (absent, grown)) = subst (KeepsIds old) (sym grown) (KeepsIds-push old text)

-- one more at most
pub length-Interns : (old : List (List ℕ)) (text : List ℕ) (new : List (List ℕ)) → Interns old text new → length new ≤ length old + 1
length-Interns old text new (inl (id, has, same)) = omega (arith, ap length same)
length-Interns old text new (inr (absent, grown)) = omega (arith, ap length grown, length-append old (text ∷ []))
