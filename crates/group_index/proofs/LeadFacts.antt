-- Two rows tell the least partners of all rows of a group.
use Rattle.std.proofs.Common.{◌≡◌, ◌≢◌, ℕ, suc, ◌<◌, ◌≤◌, ◌⊎◌, Bool, true, false, cond, min, nat_lt, List, [], ◌∷◌, Option, Some, None, refl, sym, ap, ◌∙◌, subst, inl, inr, arith}
use Rattle.std.specs.Prelude.{nat_eq, IsTrue, Contains}
use Rattle.std.specs.Option.{option_map_or}
use Rattle.std.proofs.lemmas.Bool.Decides.{nat_tests}
use Rattle.cfd_semantics.specs.declared.pattern.Pattern.{Pattern}
use Rattle.cfd_semantics.specs.Pattern.{matches}
use Rattle.cfd_semantics.proofs.Members.{contains_nothing, contains_cases}
use Rattle.group_index.specs.Pairs.{Pair, ComesBefore, IsNextHead}
use Rattle.group_index.specs.Leads.{IsLeastOther, AreLeads, first_with, second_with, partner_by}

-- one A id more, of which the row is the least
module _ (cell : Pattern ℕ) (among among' : Pair → Type 0) (a row : ℕ) (kept : (p : Pair) → among p → among' p) (here : among' (a, row)) (parts : (p : Pair) → among' p → among p ⊎ ((p.0 ≡ a) × (row ≤ p.1)))
    (fresh : (p : Pair) → among p → p.0 ≢ a) (does : IsTrue (matches nat_eq cell a)) where
  pub leads_with : (first : Option Pair) (second : Option ℕ) → AreLeads cell among first second → AreLeads cell among' (first_with first a row) (second_with first second row)
  leads_with None second none = (
    here,
    does,
    (λ p inside match. elim (parts p inside) [ inl before ↦ absurd (none p before match) | inr own ↦ own.1 ]),
    (λ p inside match. elim (parts p inside) [ inl before ↦ absurd (none p before match) | inr own ↦ own.0 ]),
  )
  leads_with (Some first) second leads = by (nat_lt row first.1) refl
    where
      in_order : (b : Bool) → nat_lt row first.1 ≡ b → cond b (row < first.1) (first.1 ≤ row)
      in_order true is = grind (arith, nat_tests, is)
      in_order false is = grind (arith, nat_tests, is)

      -- the second row stays, or the new one comes before it
      others : first.1 ≤ row → (o : Option ℕ) → IsLeastOther cell among first.0 o → IsLeastOther cell among' first.0 (Some (option_map_or (min row) o row))
      others past None only = (
        (a, here, does, λ same. fresh first leads.0 (sym same)),
        λ p inside match apart. elim (parts p inside) [ inl before ↦ absurd (apart (only p before match)) | inr own ↦ own.1 ],
      )
      others past (Some r) least = elim (cases (min row r ≡ row) (min row r ≡ r) (either row r)) [
        | inl is ↦ (
          (a, subst (λ n. among' (a, n)) (sym is) here, does, λ same. fresh first leads.0 (sym same)),
          λ p inside match apart. elim (parts p inside) [ inl before ↦ let low = least.1 p before match apart in omega (arith, low, is) | inr own ↦ omega (arith, own.1, is) ],
        )
        | inr is ↦ (
          (least.0.0, subst (λ n. among' (least.0.0, n)) (sym is) (kept (least.0.0, r) least.0.1), least.0.2, least.0.3),
          λ p inside match apart. elim (parts p inside) [ inl before ↦ let low = least.1 p before match apart in omega (arith, low, is) | inr own ↦ omega (arith, own.1, is) ],
        )
      ]
        where
          either : (m n : ℕ) → (min m n ≡ m) ⊎ (min m n ≡ n)
          either m n = grind arith

          cases : (P Q : Type 0) → P ⊎ Q → P ⊎ Q
          cases P Q h = h

      by : (b : Bool) → nat_lt row first.1 ≡ b → AreLeads cell among' (cond b (Some (a, row)) (Some first)) (cond b (Some first.1) (Some (option_map_or (min row) second row)))
      by true is =
          let less : row < first.1 = in_order true is in (
            here,
            does,
            (λ p inside match. elim (parts p inside) [ inl before ↦ let low = leads.2 p before match in omega (arith, low, less) | inr own ↦ own.1 ]),
            ((first.0, kept first leads.0, leads.1, fresh first leads.0), λ p inside match apart. elim (parts p inside) [ inl before ↦ leads.2 p before match | inr own ↦ absurd (apart own.0) ]),
          )
      by false is =
          let past : first.1 ≤ row = in_order false is in (
            kept first leads.0,
            leads.1,
            (λ p inside match. elim (parts p inside) [ inl before ↦ leads.2 p before match | inr own ↦ omega (arith, own.1, past) ]),
            others past second leads.3,
          )

-- more pairs, none of which matches
leads_same : (cell : Pattern ℕ) (among among' : Pair → Type 0) → ((p : Pair) → among p → among' p) → ((p : Pair) → among' p → IsTrue (matches nat_eq cell p.0) → among p) → (first : Option Pair) (second : Option ℕ) → AreLeads cell among first second → AreLeads cell among' first second
leads_same cell among among' kept back None second none = λ p inside match. none p (back p inside match) match
leads_same cell among among' kept back (Some first) second leads = (
  kept first leads.0,
  leads.1,
  (λ p inside match. leads.2 p (back p inside match) match),
  other second leads.3,
)
  where
    other : (o : Option ℕ) → IsLeastOther cell among first.0 o → IsLeastOther cell among' first.0 o
    other None only = λ p inside match. only p (back p inside match) match
    other (Some r) least = ((least.0.0, kept (least.0.0, r) least.0.1, least.0.2, least.0.3), λ p inside match apart. least.1 p (back p inside match) match apart)

-- the least row of the others is the partner
pub partner_of_leads : (cell : Pattern ℕ) (among : Pair → Type 0) (first : Option Pair) (second : Option ℕ) (a : ℕ) → AreLeads cell among first second → IsLeastOther cell among a (partner_by first second a)
partner_of_leads cell among None second a none = λ p inside match. absurd (none p inside match)
partner_of_leads cell among (Some first) second a leads = by (nat_eq first.0 a) refl
  where
    by : (b : Bool) → nat_eq first.0 a ≡ b → IsLeastOther cell among a (cond b second (Some first.1))
    by true is = let same : first.0 ≡ a = grind (arith, nat_tests, is) in subst (λ b. IsLeastOther cell among b second) same leads.3
    by false is =
        let apart : first.0 ≢ a = λ same. absurd (grind (arith, nat_tests, is, same)) in
        ((first.0, leads.0, leads.1, apart), λ p inside match other. leads.2 p inside match)

-- ---- the walk over the A ids

-- the pair has been passed, where the walk is at that head
abbrev pub IsPassed : List Pair → Option Pair → Pair → Type 0
IsPassed pairs None p = Contains pairs p
IsPassed pairs (Some head) p = Contains pairs p × (p.0 < head.0)

-- the head is the first pair with its A id or a later one
abbrev pub IsHead : List Pair → Option Pair → Type 0
IsHead pairs None = Unit {0}
IsHead pairs (Some head) = Contains pairs head × ((p : Pair) → Contains pairs p → head.0 ≤ p.0 → ComesBefore head p)

pub walk_begins : (cell : Pattern ℕ) (pairs : List Pair) (head : Option Pair) → IsNextHead pairs None head → AreLeads cell (IsPassed pairs head) None None × IsHead pairs head
walk_begins cell pairs None none = ((λ p inside match. none p inside tt), tt)
walk_begins cell pairs (Some head) first = (
  (λ p passed match. elim (first.2 p passed.0 tt) [ inl below ↦ absurd (let past = passed.1 in omega (arith, below, past)) | inr same ↦ absurd (let past = passed.1 in let is = same.0 in omega (arith, is, past)) ]),
  (first.0, λ p inside past. first.2 p inside tt),
)

module _ (cell : Pattern ℕ) (pairs : List Pair) (head : Pair) (next : Option Pair) (is_head : IsHead pairs (Some head)) (then : IsNextHead pairs (Some head.0) next) where
  passed_more : (p : Pair) → IsPassed pairs (Some head) p → IsPassed pairs next p
  passed_more p passed = of next then
    where
      of : (o : Option Pair) → IsNextHead pairs (Some head.0) o → IsPassed pairs o p
      of None none = passed.0
      of (Some h) first = (passed.0, let after = first.1 in let below = passed.1 in omega (arith, after, below))

  head_passed : IsPassed pairs next head
  head_passed = of next then
    where
      of : (o : Option Pair) → IsNextHead pairs (Some head.0) o → IsPassed pairs o head
      of None none = is_head.0
      of (Some h) first = (is_head.0, first.1)

  -- what is passed now was passed, or has the head's A id
  passed_parts : (p : Pair) → IsPassed pairs next p → IsPassed pairs (Some head) p ⊎ ((p.0 ≡ head.0) × (head.1 ≤ p.1))
  passed_parts p passed = elim (order p.0 head.0) [
    | inl below ↦ inl (inside, below)
    | inr past ↦
        let level : p.0 ≡ head.0 = elim (order head.0 p.0) [ inl above ↦ absurd (not_after above) | inr under ↦ omega (arith, past, under) ] in
        elim (is_head.1 p inside past) [ inl less ↦ absurd (omega (arith, less, level)) | inr same ↦ inr (level, same.1) ]
  ]
    where
      order : (m n : ℕ) → (m < n) ⊎ (n ≤ m)
      order m n = grind arith

      member : (o : Option Pair) → IsPassed pairs o p → Contains pairs p
      member None it = it
      member (Some h) it = it.0

      inside : Contains pairs p
      inside = member next passed

      after_none : (o : Option Pair) → IsNextHead pairs (Some head.0) o → IsPassed pairs o p → head.0 < p.0 → ⊥
      after_none None none it above = none p (member None it) above
      after_none (Some h) first it above = elim (first.2 p it.0 above) [ inl less ↦ let below = it.1 in omega (arith, less, below) | inr same ↦ let below = it.1 in let is = same.0 in omega (arith, is, below) ]

      not_after : head.0 < p.0 → ⊥
      not_after above = after_none next then passed above

  pub walk_goes_on : (first : Option Pair) (second : Option ℕ) → AreLeads cell (IsPassed pairs (Some head)) first second
      → AreLeads cell (IsPassed pairs next) (cond (matches nat_eq cell head.0) (first_with first head.0 head.1) first) (cond (matches nat_eq cell head.0) (second_with first second head.1) second)
  walk_goes_on first second leads = by (matches nat_eq cell head.0) refl
    where
      by : (b : Bool) → matches nat_eq cell head.0 ≡ b → AreLeads cell (IsPassed pairs next) (cond b (first_with first head.0 head.1) first) (cond b (second_with first second head.1) second)
      by true does =
          leads_with cell (IsPassed pairs (Some head)) (IsPassed pairs next) head.0 head.1 passed_more head_passed passed_parts (λ p passed same. let below = passed.1 in absurd (omega (arith, below, same))) does first second leads
      by false isnt =
          leads_same cell (IsPassed pairs (Some head)) (IsPassed pairs next) passed_more
          (λ p passed match. elim (passed_parts p passed) [ inl before ↦ before | inr own ↦ absurd (let not : matches nat_eq cell p.0 ≡ false = ap (matches nat_eq cell) own.0 ∙ isnt in cc) ]) first second leads

-- the same of a walk whose head may be any
pub leads_go_on : (cell : Pattern ℕ) (pairs : List Pair) (at : Option Pair) (head : Pair) (next : Option Pair) (first : Option Pair) (second : Option ℕ) → at ≡ Some head → IsHead pairs at → IsNextHead pairs (Some head.0) next → AreLeads cell (IsPassed pairs at) first second
    → AreLeads cell (IsPassed pairs next) (cond (matches nat_eq cell head.0) (first_with first head.0 head.1) first) (cond (matches nat_eq cell head.0) (second_with first second head.1) second)
leads_go_on cell pairs at head next first second is is_head then leads =
    walk_goes_on cell pairs head next (subst (IsHead pairs) is is_head) then first second (subst (λ (o : Option Pair). AreLeads cell (IsPassed pairs o) first second) is leads)

pub head_goes_on : (pairs : List Pair) (head : Pair) (next : Option Pair) → IsNextHead pairs (Some head.0) next → IsHead pairs next
head_goes_on pairs head None none = tt
head_goes_on pairs head (Some h) first = (first.0, λ p inside past. let after = first.1 in first.2 p inside (omega (arith, after, past)))

-- ---- how many pairs are left

abbrev pub left : Option Pair → List Pair → ℕ
left None pairs = 0
left (Some head) [] = 0
left (Some head) (p ∷ ps) = cond (nat_lt p.0 head.0) (left (Some head) ps) (suc (left (Some head) ps))

no_more_left : (head later : Pair) → head.0 < later.0 → (pairs : List Pair) → left (Some later) pairs ≤ left (Some head) pairs
no_more_left head later above [] = omega arith
no_more_left head later above (p ∷ ps) = by (nat_lt p.0 head.0) refl (nat_lt p.0 later.0) refl (no_more_left head later above ps)
  where
    by : (b : Bool) → nat_lt p.0 head.0 ≡ b → (c : Bool) → nat_lt p.0 later.0 ≡ c → left (Some later) ps ≤ left (Some head) ps → cond c (left (Some later) ps) (suc (left (Some later) ps)) ≤ cond b (left (Some head) ps) (suc (left (Some head) ps))
    by true is true too rest = rest
    by true is false isnt rest = absurd (grind (arith, nat_tests, is, isnt, above))
    by false isnt true is rest = omega (arith, rest)
    by false isnt false is rest = omega (arith, rest)

fewer_left : (head later : Pair) → head.0 < later.0 → (pairs : List Pair) → Contains pairs head → left (Some later) pairs < left (Some head) pairs
fewer_left head later above [] inside = absurd (contains_nothing head inside)
fewer_left head later above (p ∷ ps) inside = elim (contains_cases head p ps inside) [
  | inl is ↦ here (nat_lt p.0 head.0) refl (nat_lt p.0 later.0) refl (ap (λ (q : Pair). q.0) is) (no_more_left head later above ps)
  | inr rest ↦ by (nat_lt p.0 head.0) refl (nat_lt p.0 later.0) refl (fewer_left head later above ps rest)
]
  where
    here : (b : Bool) → nat_lt p.0 head.0 ≡ b → (c : Bool) → nat_lt p.0 later.0 ≡ c → p.0 ≡ head.0 → left (Some later) ps ≤ left (Some head) ps → cond c (left (Some later) ps) (suc (left (Some later) ps)) < cond b (left (Some head) ps) (suc (left (Some head) ps))
    here true is c eq same rest = absurd (grind (arith, nat_tests, is, same))
    here false isnt true is same rest = omega (arith, rest)
    here false isnt false is same rest = absurd (grind (arith, nat_tests, is, same, above))

    by : (b : Bool) → nat_lt p.0 head.0 ≡ b → (c : Bool) → nat_lt p.0 later.0 ≡ c → left (Some later) ps < left (Some head) ps → cond c (left (Some later) ps) (suc (left (Some later) ps)) < cond b (left (Some head) ps) (suc (left (Some head) ps))
    by true is true too rest = rest
    by true is false isnt rest = absurd (grind (arith, nat_tests, is, isnt, above))
    by false isnt true is rest = omega (arith, rest)
    by false isnt false is rest = omega (arith, rest)

some_left : (head : Pair) (pairs : List Pair) → Contains pairs head → 0 < left (Some head) pairs
some_left head [] inside = absurd (contains_nothing head inside)
some_left head (p ∷ ps) inside = elim (contains_cases head p ps inside) [
  | inl is ↦ here (nat_lt p.0 head.0) refl (ap (λ (q : Pair). q.0) is)
  | inr rest ↦ by (nat_lt p.0 head.0) (some_left head ps rest)
]
  where
    here : (b : Bool) → nat_lt p.0 head.0 ≡ b → p.0 ≡ head.0 → 0 < cond b (left (Some head) ps) (suc (left (Some head) ps))
    here true is same = absurd (grind (arith, nat_tests, is, same))
    here false is same = omega arith

    by : (b : Bool) → 0 < left (Some head) ps → 0 < cond b (left (Some head) ps) (suc (left (Some head) ps))
    by true rest = rest
    by false rest = omega arith

pub walk_ends : (pairs : List Pair) (at : Option Pair) (head : Pair) (next : Option Pair) → at ≡ Some head → IsHead pairs at → IsNextHead pairs (Some head.0) next → left next pairs < left at pairs
walk_ends pairs at head next is is_head then =
    let own = subst (IsHead pairs) is is_head in
    subst (λ (o : Option Pair). left next pairs < left o pairs) (sym is) (of next then own.0)
  where
    of : (o : Option Pair) → IsNextHead pairs (Some head.0) o → Contains pairs head → left o pairs < left (Some head) pairs
    of None none inside = some_left head pairs inside
    of (Some h) first inside = fewer_left head h first.1 pairs inside
