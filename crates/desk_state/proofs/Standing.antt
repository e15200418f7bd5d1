-- Rows are as the entries left them, where another entry comes: by what it does to its row, and to the entry that it takes
-- back, if it does.
use Rattle.std.proofs.Common.{◌≡◌, ℕ, zero, suc, ◌<◌, ◌≤◌, inl, inr, ◌&&◌, ◌||◌, Bool, true, false, ◌==◌, List, [], ◌∷◌, ◌++◌, length, Option, Some, None, slice_get, refl, sym, ◌∙◌, ap, subst, arith, true≢false}
use Rattle.std.proofs.lemmas.Bool.{cases_eq, eq-eqb}
use Rattle.std.proofs.lemmas.Option.{none-some, same_Some, slice_get_within}
use Rattle.desk_entries.specs.Entries.{Entry, entry_is, is_firm_on, is_live, is_on}
use Rattle.desk_entries.specs.Kept.{TakeWithin}
use Rattle.desk_entries.specs.Numbers.{last_up_to}
use Rattle.desk_entries.proofs.Numbers.{last-miss, last-passes, last-reaches, last-within}
use Rattle.desk_entries.proofs.Tied.{entry_is-at, entry_is-new, entry_is-old, length-snoc, same-pair, slice_get-new, slice_get-old, take-within}
use Rattle.desk_state.specs.LeftTexts.{CameWith, HasFrom, LeftTexts, inserts_back, is_live_on, last_live_on}
use Rattle.desk_state.proofs.LastLive.{place-within, plain-old, plain-other, plain-own, plain-same, taking-below, taking-gone, taking-not_new, taking-old, taking-other, taking-own, taking-new}

-- ---- what every desk keeps

-- Each row is as it was left; each live change has the texts that were left before it; what was deleted is gone; and
-- `next` is above all rows of entries.
pub record AreStanding (es : List Entry) (left : LeftTexts) (next : ℕ → ℕ) : Type 0 where
  pub now : (t r : ℕ) (texts : List (List ℕ)) → left (length es) t r ≡ Some texts → HasFrom es left t r texts (last_live_on es t r)
  pub before : (n : ℕ) (e : Entry) (texts : List (List ℕ)) → slice_get es n ≡ Some e → is_live es (suc n) ≡ true → e.deletes ≡ false → e.before ≡ Some texts
      → HasFrom es left e.table e.row texts (last_up_to (is_live_on es e.table e.row) n)
  pub gone : (n : ℕ) (e : Entry) → slice_get es n ≡ Some e → e.deletes ≡ true → left (length es) e.table e.row ≡ None
  pub known : (n : ℕ) (e : Entry) → slice_get es n ≡ Some e → e.row < next e.table
  pub takes : TakeWithin es

-- ---- what an entry does

-- what becomes of its row, whose texts were `was` and are `is`
pub data OwnRow (e : Entry) (was is : Option (List (List ℕ))) (next : ℕ) : Type 0 where
  inserted : (texts : List (List ℕ)) → e.before ≡ None → e.deletes ≡ false → e.row ≡ next → is ≡ Some texts → OwnRow e was is next
  changed : (old new : List (List ℕ)) → e.before ≡ Some old → e.deletes ≡ false → was ≡ Some old → is ≡ Some new → OwnRow e was is next
  deleted : (old : List (List ℕ)) → e.before ≡ Some old → e.deletes ≡ true → was ≡ Some old → is ≡ None → OwnRow e was is next

-- another entry leaves texts in its row alone
pub record IsMade (es : List Entry) (e : Entry) (left after : LeftTexts) (next next_after : ℕ → ℕ) : Type 0 where
  pub kept : (n t r : ℕ) → n ≤ length es → after n t r ≡ left n t r
  pub others : (t r : ℕ) → is_on t r e ≡ false → after (suc (length es)) t r ≡ left (length es) t r
  pub own : OwnRow e (left (length es) e.table e.row) (after (suc (length es)) e.table e.row) (next e.table)
  pub grows : (t : ℕ) → next t ≤ next_after t
  pub known : e.row < next_after e.table

-- what takes an entry back: an insertion is deleted, a change is put back, and what was deleted is inserted
pub data IsOpposite (taken e : Entry) (is : Option (List (List ℕ))) : Type 0 where
  undoes_insert : e.table ≡ taken.table → e.row ≡ taken.row → is ≡ None → IsOpposite taken e is
  undoes_change : (texts : List (List ℕ)) → e.table ≡ taken.table → e.row ≡ taken.row → taken.deletes ≡ false → taken.before ≡ Some texts → is ≡ Some texts → IsOpposite taken e is
  undoes_delete : taken.deletes ≡ true → e.before ≡ None → IsOpposite taken e is

-- the entry at this place is live and nobody built on it
pub record IsFree (es : List Entry) (k : ℕ) (taken : Entry) : Type 0 where
  pub at : slice_get es k ≡ Some taken
  pub live : is_live es (suc k) ≡ true
  pub last : last_up_to (is_firm_on es taken.table taken.row) (length es) ≤ suc k

-- ---- it is an entry that was there, or the new one

pub each-entry : (es : List Entry) (e : Entry) (P : ℕ → Entry → Type 0) → ((n : ℕ) (x : Entry) → slice_get es n ≡ Some x → P n x) → P (length es) e → (n : ℕ) (x : Entry) → slice_get (es ++ e ∷ []) n ≡ Some x → P n x
each-entry es e P old new n x at =
    let w = slice_get_within (es ++ e ∷ []) n x at in
    let v : n < suc (length es) = rw (length-snoc es e) at w in
    elim (cases_eq n (length es)) [ inl same ↦ here same | inr ne ↦ old n x (sym (slice_get-old es (e ∷ []) n (omega arith)) ∙ at) ]
  where
    here : n ≡ length es → P n x
    here same =
        let is : e ≡ x = same_Some e x (sym (slice_get-new es e) ∙ ap (slice_get (es ++ e ∷ [])) (sym same) ∙ at) in
        subst (λ y. P n y) is (subst (λ m. P m e) (sym same) new)

-- ---- what was left before stays so

-- an entry on a row names it
on-parts : (t r : ℕ) (e : Entry) → is_on t r e ≡ true → (e.table ≡ t) × (e.row ≡ r)
on-parts t r e on = same-pair (e.table, e.row) (t, r) on

on-own : (e x : Entry) → e.table ≡ x.table → e.row ≡ x.row → is_on x.table x.row e ≡ true
on-own e x table row = rw (eq-eqb e.table x.table table, eq-eqb e.row x.row row) refl

-- what is said of the row of an entry is said of a row that it is on
at-row : {X : Type 0} (f : ℕ → ℕ → X) (t r : ℕ) (e : Entry) → is_on t r e ≡ true → f t r ≡ f e.table e.row
at-row f t r e on = let pair = on-parts t r e on in ap (λ t. f t r) (sym pair.0) ∙ ap (λ r. f e.table r) (sym pair.1)

module _ (es : List Entry) (e : Entry) (left after : LeftTexts) (next next_after : ℕ → ℕ) (made : IsMade es e left after next next_after) where
  came-still : (t r : ℕ) (texts : List (List ℕ)) → CameWith es left t r texts → CameWith (es ++ e ∷ []) after t r texts
  came-still t r texts (inl first) = inl (made.kept 0 t r (omega arith) ∙ first)
  came-still t r texts (inr (zero, is, had)) = absurd (true≢false (sym is))
  came-still t r texts (inr (suc n, is, had)) =
      let within : suc n ≤ length es = by (slice_get es n) refl is in
      inr (suc n, entry_is-old (inserts_back t r) es e n within ∙ is, made.kept (suc n) t r within ∙ had)
    where
      by : (o : Option Entry) → slice_get es n ≡ o → entry_is (inserts_back t r) es (suc n) ≡ true → suc n ≤ length es
      by None at is = let no : false ≡ true = rw at at is in absurd (true≢false (sym no))
      by (Some x) at is = let w = slice_get_within es n x at in omega arith

  pub has-still : (t r : ℕ) (texts : List (List ℕ)) (n : ℕ) → n ≤ length es → HasFrom es left t r texts n → HasFrom (es ++ e ∷ []) after t r texts n
  has-still t r texts zero w has = came-still t r texts has
  has-still t r texts (suc n) w has = made.kept (suc n) t r w ∙ has

  long : length (es ++ e ∷ []) ≡ suc (length es)
  long = length-snoc es e

  -- ---- rows that are gone, and rows that entries know

  module _ (standing : AreStanding es left next) where
    known-still : (n : ℕ) (x : Entry) → slice_get (es ++ e ∷ []) n ≡ Some x → x.row < next_after x.table
    known-still = each-entry es e (λ n x. x.row < next_after x.table) (λ n x at. let a = standing.known n x at in let b = made.grows x.table in omega arith) made.known

    -- no deletion is behind a row that is there or that comes
    own-gone : (n : ℕ) (x : Entry) → slice_get es n ≡ Some x → x.deletes ≡ true → e.table ≡ x.table → e.row ≡ x.row → after (suc (length es)) e.table e.row ≡ None
    own-gone n x at deletes table row = by made.own
      where
        was : left (length es) e.table e.row ≡ None
        was = ap (λ t. left (length es) t e.row) table ∙ ap (λ r. left (length es) x.table r) row ∙ standing.gone n x at deletes

        by : OwnRow e (left (length es) e.table e.row) (after (suc (length es)) e.table e.row) (next e.table) → after (suc (length es)) e.table e.row ≡ None
        by (inserted texts before stays fresh is) = let k = standing.known n x at in let same : next e.table ≡ next x.table = ap next table in absurd (omega arith)
        by (changed old new before stays there is) = absurd (none-some old (sym was ∙ there))
        by (deleted old before goes there is) = is

    gone-old : (n : ℕ) (x : Entry) → slice_get es n ≡ Some x → x.deletes ≡ true → (b : Bool) → is_on x.table x.row e ≡ b → after (suc (length es)) x.table x.row ≡ None
    gone-old n x at deletes false off = made.others x.table x.row off ∙ standing.gone n x at deletes
    gone-old n x at deletes true on =
        let pair = on-parts x.table x.row e on in
        at-row (after (suc (length es))) x.table x.row e on ∙ own-gone n x at deletes pair.0 pair.1

    gone-new : e.deletes ≡ true → after (suc (length es)) e.table e.row ≡ None
    gone-new deletes = by made.own
      where
        by : OwnRow e (left (length es) e.table e.row) (after (suc (length es)) e.table e.row) (next e.table) → after (suc (length es)) e.table e.row ≡ None
        by (inserted texts before stays fresh is) = absurd (true≢false (sym deletes ∙ stays))
        by (changed old new before stays there is) = absurd (true≢false (sym deletes ∙ stays))
        by (deleted old before goes there is) = is

    gone-still : (n : ℕ) (x : Entry) → slice_get (es ++ e ∷ []) n ≡ Some x → x.deletes ≡ true → after (length (es ++ e ∷ [])) x.table x.row ≡ None
    gone-still n x at deletes =
        ap (λ len. after len x.table x.row) long
        ∙ each-entry es e (λ n x. x.deletes ≡ true → after (suc (length es)) x.table x.row ≡ None) (λ n x at d. gone-old n x at d (is_on x.table x.row e) refl) gone-new n x at deletes

    -- ---- the rows that are there, by those before it

    -- a row on which the entry isn't, where the last live one is the same as before
    row-other : (t r : ℕ) (texts : List (List ℕ)) → after (suc (length es)) t r ≡ Some texts → is_on t r e ≡ false → last_up_to (is_live_on (es ++ e ∷ []) t r) (suc (length es)) ≡ last_live_on es t r
        → HasFrom (es ++ e ∷ []) after t r texts (last_up_to (is_live_on (es ++ e ∷ []) t r) (suc (length es)))
    row-other t r texts there off same =
        let had = standing.now t r texts (sym (made.others t r off) ∙ there) in
        subst (HasFrom (es ++ e ∷ []) after t r texts) (sym same) (has-still t r texts (last_live_on es t r) (last-within (is_live_on es t r) (length es)) had)

    abbrev HasBefore : List Entry → LeftTexts → ℕ → Entry → Type 0
    HasBefore all texts_left n x = (texts : List (List ℕ)) → is_live all (suc n) ≡ true → x.deletes ≡ false → x.before ≡ Some texts
        → HasFrom all texts_left x.table x.row texts (last_up_to (is_live_on all x.table x.row) n)

    -- a change that was there, where those below it are as before
    before-old : (n : ℕ) (x : Entry) (texts : List (List ℕ)) → slice_get es n ≡ Some x → is_live es (suc n) ≡ true → x.deletes ≡ false → x.before ≡ Some texts
        → last_up_to (is_live_on (es ++ e ∷ []) x.table x.row) n ≡ last_up_to (is_live_on es x.table x.row) n
        → HasFrom (es ++ e ∷ []) after x.table x.row texts (last_up_to (is_live_on (es ++ e ∷ []) x.table x.row) n)
    before-old n x texts at live stays before same =
        let w = slice_get_within es n x at in
        let low = last-within (is_live_on es x.table x.row) n in
        subst (HasFrom (es ++ e ∷ []) after x.table x.row texts) (sym same) (has-still x.table x.row texts (last_up_to (is_live_on es x.table x.row) n) (omega arith) (standing.before n x texts at live stays before))

    -- ---- it takes none back

    module _ (takes : e.takes ≡ None) where
      plain-now : (t r : ℕ) (texts : List (List ℕ)) → after (suc (length es)) t r ≡ Some texts → (b : Bool) → is_on t r e ≡ b
          → HasFrom (es ++ e ∷ []) after t r texts (last_up_to (is_live_on (es ++ e ∷ []) t r) (suc (length es)))
      plain-now t r texts there true on = subst (HasFrom (es ++ e ∷ []) after t r texts) (sym (plain-own es e standing.takes takes t r on)) there
      plain-now t r texts there false off = row-other t r texts there off (plain-other es e standing.takes takes t r off)

      plain-before : HasBefore (es ++ e ∷ []) after (length es) e
      plain-before texts live stays before = by made.own
        where
          same : last_up_to (is_live_on (es ++ e ∷ []) e.table e.row) (length es) ≡ last_live_on es e.table e.row
          same = plain-same es e standing.takes takes e.table e.row (length es) (omega arith)

          was : left (length es) e.table e.row ≡ Some texts → HasFrom (es ++ e ∷ []) after e.table e.row texts (last_up_to (is_live_on (es ++ e ∷ []) e.table e.row) (length es))
          was there =
              subst (HasFrom (es ++ e ∷ []) after e.table e.row texts) (sym same)
              (has-still e.table e.row texts (last_live_on es e.table e.row) (last-within (is_live_on es e.table e.row) (length es)) (standing.now e.table e.row texts there))

          by : OwnRow e (left (length es) e.table e.row) (after (suc (length es)) e.table e.row) (next e.table)
              → HasFrom (es ++ e ∷ []) after e.table e.row texts (last_up_to (is_live_on (es ++ e ∷ []) e.table e.row) (length es))
          by (inserted values none holds fresh is) = absurd (none-some texts (sym none ∙ before))
          by (changed old new some holds there is) = was (there ∙ sym some ∙ before)
          by (deleted old some goes there is) = absurd (true≢false (sym goes ∙ stays))

      pub plain-standing : AreStanding (es ++ e ∷ []) after next_after
      plain-standing = record {
        now = λ t r texts there. subst (λ len. HasFrom (es ++ e ∷ []) after t r texts (last_up_to (is_live_on (es ++ e ∷ []) t r) len)) (sym long) (plain-now t r texts (ap (λ len. after len t r) (sym long) ∙ there) (is_on t r e) refl);
        before = λ n x texts at. each-entry es e (HasBefore (es ++ e ∷ []) after)
            (λ n x at texts live stays before. let w = slice_get_within es n x at in before-old n x texts at (sym (plain-old es e standing.takes takes n (omega arith)) ∙ live) stays before (plain-same es e standing.takes takes x.table x.row n (omega arith)))
            plain-before n x at texts;
        gone = gone-still;
        known = known-still;
        takes = take-within es e standing.takes (rw takes tt);
      }

    -- ---- it takes the one at this place back

    module _ (k : ℕ) (taken : Entry) (takes : e.takes ≡ Some (suc k)) (free : IsFree es k taken) (opposite : IsOpposite taken e (after (suc (length es)) e.table e.row)) where
      low : suc k ≤ length es
      low = place-within es e standing.takes k taken takes free.at

      -- an entry on the row that is live comes no later
      live-low : (t r m : ℕ) → is_on t r taken ≡ true → suc m ≤ length es → is_live_on es t r (suc m) ≡ true → suc m ≤ suc k
      live-low t r m on w live =
          let pair = on-parts t r taken on in
          let firm : is_firm_on es t r (suc m) ≡ true = live-firm (entry_is (is_on t r) es (suc m)) (is_live es (suc m)) (entry_is (λ (x : Entry). x.deletes) es (suc m)) live in
          let reach = last-reaches (is_firm_on es t r) (length es) m firm w in
          let last : last_up_to (is_firm_on es t r) (length es) ≤ suc k = subst (λ t. last_up_to (is_firm_on es t r) (length es) ≤ suc k) pair.0 (subst (λ r. last_up_to (is_firm_on es taken.table r) (length es) ≤ suc k) pair.1 free.last) in
          omega (arith, reach, last)
        where
          live-firm : (a b d : Bool) → (a && b) ≡ true → (a && (d || b)) ≡ true
          live-firm true true true h = refl
          live-firm true true false h = refl
          live-firm true false d h = absurd (true≢false (sym h))
          live-firm false b d h = absurd (true≢false (sym h))

      taken-live_on : (t r : ℕ) → is_on t r taken ≡ true → is_live_on es t r (suc k) ≡ true
      taken-live_on t r on = rw (entry_is-at (is_on t r) es k taken free.at, on, free.live) refl

      last-is : (t r : ℕ) → is_on t r taken ≡ true → last_up_to (is_live_on es t r) (length es) ≡ suc k
      last-is t r on = by (last_up_to (is_live_on es t r) (length es)) refl
        where
          reach : suc k ≤ last_up_to (is_live_on es t r) (length es)
          reach = last-reaches (is_live_on es t r) (length es) k (taken-live_on t r on) low

          by : (m : ℕ) → last_up_to (is_live_on es t r) (length es) ≡ m → last_up_to (is_live_on es t r) (length es) ≡ suc k
          by zero is = let a = reach in absurd (omega arith)
          by (suc m) is =
              let within = last-within (is_live_on es t r) (length es) in
              let most = live-low t r m on (omega arith) (last-passes (is_live_on es t r) (length es) m is) in
              let a = reach in
              omega arith

      taken-on_own : e.table ≡ taken.table → e.row ≡ taken.row → (t r : ℕ) → is_on t r e ≡ is_on t r taken
      taken-on_own table row t r = ap (λ x. (x == t) && (e.row == r)) table ∙ ap (λ x. (taken.table == t) && (x == r)) row

      -- no entry is on a row that is new
      none-on : (t r : ℕ) → next t ≤ r → (m : ℕ) → entry_is (is_on t r) es (suc m) ≡ false
      none-on t r above m = by (slice_get es m) refl
        where
          off : (x : Entry) → slice_get es m ≡ Some x → (b : Bool) → is_on t r x ≡ b → is_on t r x ≡ false
          off x at false h = h
          off x at true h = let pair = on-parts t r x h in let k = standing.known m x at in let same : next x.table ≡ next t = ap next pair.0 in absurd (omega arith)

          by : (o : Option Entry) → slice_get es m ≡ o → entry_is (is_on t r) es (suc m) ≡ false
          by None at = rw at refl
          by (Some x) at = entry_is-at (is_on t r) es m x at ∙ off x at (is_on t r x) refl

      last-none : (t r : ℕ) → next t ≤ r → (n : ℕ) → last_up_to (is_live_on es t r) n ≡ 0
      last-none t r above zero = refl
      last-none t r above (suc n) = last-miss (is_live_on es t r) n (rw (none-on t r above n) refl) ∙ last-none t r above n

      -- a row that the entry inserted
      row-inserted : (t r : ℕ) (texts : List (List ℕ)) → after (suc (length es)) t r ≡ Some texts → is_on t r e ≡ true → e.before ≡ None → e.row ≡ next e.table
          → HasFrom (es ++ e ∷ []) after t r texts (last_up_to (is_live_on (es ++ e ∷ []) t r) (suc (length es)))
      row-inserted t r texts there on before fresh =
          subst (HasFrom (es ++ e ∷ []) after t r texts) (sym none) (inr (suc (length es), inserts, there))
        where
          above : next t ≤ r
          above = let pair = on-parts t r e on in let same : next e.table ≡ next t = ap next pair.0 in omega arith

          off : is_on t r taken ≡ false
          off = sym (entry_is-at (is_on t r) es k taken free.at) ∙ none-on t r above k

          none : last_up_to (is_live_on (es ++ e ∷ []) t r) (suc (length es)) ≡ 0
          none = taking-not_new es e standing.takes k taken takes free.at t r ∙ taking-other es e standing.takes k taken takes free.at t r off (length es) (omega arith) ∙ last-none t r above (length es)

          inserts : entry_is (inserts_back t r) (es ++ e ∷ []) (suc (length es)) ≡ true
          inserts = entry_is-new (inserts_back t r) es e ∙ (rw (on, before, takes) refl)

      -- a row that is put back
      row-put_back : (t r : ℕ) (texts : List (List ℕ)) → is_on t r taken ≡ true → taken.deletes ≡ false → taken.before ≡ Some texts
          → HasFrom (es ++ e ∷ []) after t r texts (last_up_to (is_live_on (es ++ e ∷ []) t r) (suc (length es)))
      row-put_back t r texts on stays before =
          let pair = on-parts t r taken on in
          let had = standing.before k taken texts free.at free.live stays before in
          let there = subst (λ t. HasFrom es left t r texts (last_up_to (is_live_on es t r) k)) pair.0 (subst (λ r. HasFrom es left taken.table r texts (last_up_to (is_live_on es taken.table r) k)) pair.1 had) in
          let within = last-within (is_live_on es t r) k in
          let short = low in
          subst (HasFrom (es ++ e ∷ []) after t r texts) (sym (taking-own es e standing.takes k taken takes free.at t r on free.live (last-is t r on)))
          (has-still t r texts (last_up_to (is_live_on es t r) k) (omega arith) there)

      taking-on : (t r : ℕ) (texts : List (List ℕ)) → after (suc (length es)) t r ≡ Some texts → is_on t r e ≡ true → IsOpposite taken e (after (suc (length es)) e.table e.row)
          → HasFrom (es ++ e ∷ []) after t r texts (last_up_to (is_live_on (es ++ e ∷ []) t r) (suc (length es)))
      taking-on t r texts there on (undoes_insert table row is) = absurd (none-some texts (sym is ∙ sym (at-row (after (suc (length es))) t r e on) ∙ there))
      taking-on t r texts there on (undoes_change old table row stays before is) =
          let same : old ≡ texts = same_Some old texts (sym is ∙ sym (at-row (after (suc (length es))) t r e on) ∙ there) in
          row-put_back t r texts (sym (taken-on_own table row t r) ∙ on) stays (before ∙ ap Some same)
      taking-on t r texts there on (undoes_delete gone before) = by made.own
        where
          by : OwnRow e (left (length es) e.table e.row) (after (suc (length es)) e.table e.row) (next e.table)
              → HasFrom (es ++ e ∷ []) after t r texts (last_up_to (is_live_on (es ++ e ∷ []) t r) (suc (length es)))
          by (inserted values none holds fresh is) = row-inserted t r texts there on before fresh
          by (changed old new some holds was is) = absurd (none-some old (sym before ∙ some))
          by (deleted old some goes was is) = absurd (none-some old (sym before ∙ some))

      taking-off : (t r : ℕ) (texts : List (List ℕ)) → after (suc (length es)) t r ≡ Some texts → is_on t r e ≡ false → (b : Bool) → is_on t r taken ≡ b → IsOpposite taken e (after (suc (length es)) e.table e.row)
          → HasFrom (es ++ e ∷ []) after t r texts (last_up_to (is_live_on (es ++ e ∷ []) t r) (suc (length es)))
      taking-off t r texts there off false apart opp =
          row-other t r texts there off (taking-not_new es e standing.takes k taken takes free.at t r ∙ taking-other es e standing.takes k taken takes free.at t r apart (length es) (omega arith))
      taking-off t r texts there off true on (undoes_insert table row is) = absurd (true≢false (sym on ∙ sym (taken-on_own table row t r) ∙ off))
      taking-off t r texts there off true on (undoes_change old table row stays before is) = absurd (true≢false (sym on ∙ sym (taken-on_own table row t r) ∙ off))
      taking-off t r texts there off true on (undoes_delete gone before) =
          absurd (none-some texts (sym (at-row (left (length es)) t r taken on ∙ standing.gone k taken free.at gone) ∙ sym (made.others t r off) ∙ there))

      taking-now : (t r : ℕ) (texts : List (List ℕ)) → after (suc (length es)) t r ≡ Some texts → (b : Bool) → is_on t r e ≡ b
          → HasFrom (es ++ e ∷ []) after t r texts (last_up_to (is_live_on (es ++ e ∷ []) t r) (suc (length es)))
      taking-now t r texts there true on = taking-on t r texts there on opposite
      taking-now t r texts there false off = taking-off t r texts there off (is_on t r taken) refl opposite

      -- those below a change that still is live are as before: the entry that is taken back isn't among them
      below-same : (n : ℕ) (x : Entry) → slice_get es n ≡ Some x → is_live es (suc n) ≡ true → (n ≡ k → ⊥) → (b : Bool) → is_on x.table x.row taken ≡ b
          → last_up_to (is_live_on (es ++ e ∷ []) x.table x.row) n ≡ last_up_to (is_live_on es x.table x.row) n
      below-same n x at live apart false off = let w = slice_get_within es n x at in taking-other es e standing.takes k taken takes free.at x.table x.row off n (omega arith)
      below-same n x at live apart true on =
          let w = slice_get_within es n x at in
          let here : is_live_on es x.table x.row (suc n) ≡ true = rw (entry_is-at (is_on x.table x.row) es n x at, on-own x x refl refl, live) refl in
          let most = live-low x.table x.row n on (omega arith) here in
          taking-below es e standing.takes k taken takes free.at x.table x.row n (omega arith)

      taking-before_old : (n : ℕ) (x : Entry) → slice_get es n ≡ Some x → HasBefore (es ++ e ∷ []) after n x
      taking-before_old n x at texts live stays before =
          let w = slice_get_within es n x at in
          let apart : n ≡ k → ⊥ = λ same. true≢false (sym live ∙ ap (λ m. is_live (es ++ e ∷ []) (suc m)) same ∙ taking-gone es e standing.takes k taken takes free.at) in
          let was : is_live es (suc n) ≡ true = sym (taking-old es e standing.takes k taken takes free.at n (omega arith) apart) ∙ live in
          before-old n x texts at was stays before (below-same n x at was apart (is_on x.table x.row taken) refl)

      taking-before_new : HasBefore (es ++ e ∷ []) after (length es) e
      taking-before_new texts live stays before = absurd (true≢false (sym live ∙ taking-new es e standing.takes k taken takes free.at))

      pub taking-standing : AreStanding (es ++ e ∷ []) after next_after
      taking-standing = record {
        now = λ t r texts there. subst (λ len. HasFrom (es ++ e ∷ []) after t r texts (last_up_to (is_live_on (es ++ e ∷ []) t r) len)) (sym long) (taking-now t r texts (ap (λ len. after len t r) (sym long) ∙ there) (is_on t r e) refl);
        before = λ n x texts at. each-entry es e (HasBefore (es ++ e ∷ []) after) taking-before_old taking-before_new n x at texts;
        gone = gone-still;
        known = known-still;
        takes = take-within es e standing.takes (rw takes low);
      }
