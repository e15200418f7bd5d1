-- Chains of numbers: what becomes of one where the last number that counts doesn't count any more, and where another
-- number comes.
use Rattle.std.proofs.Common.{◌≡◌, ℕ, suc, ◌≤◌, ◌⊎◌, inl, inr, ◌&&◌, Bool, true, false, refl, sym, ◌∙◌, ap, arith, true≢false}
use Rattle.std.proofs.lemmas.Bool.{cases_eq}
use Rattle.desk_entries.specs.Numbers.{last_up_to}
use Rattle.desk_entries.specs.Kept.{IsChain}
use Rattle.desk_entries.proofs.Numbers.{last-hit, last-miss, last-same, last-without, last-reaches}

-- the members that count
abbrev pub counted : {Key : Type 0} → (Key → ℕ → Bool) → (ℕ → Bool) → Key → ℕ → Bool
counted is_member counts key n = is_member key n && counts n

module _ {Key : Type 0} (is_member : Key → ℕ → Bool) (len : ℕ) (top : Key → ℕ) (below : ℕ → ℕ) (counts : ℕ → Bool) (chain : IsChain is_member counts len top below) where
  -- the same numbers count
  pub chain-same : (now : ℕ → Bool) (top_now : Key → ℕ) → ((m : ℕ) → suc m ≤ len → now (suc m) ≡ counts (suc m)) → ((key : Key) → top_now key ≡ top key) → IsChain is_member now len top_now below
  chain-same now top_now same tops = record {
    tops = λ key. tops key ∙ chain.tops key ∙ sym (last-same (counted is_member counts key) (counted is_member now key) len (λ m w. ap (λ b. is_member key (suc m) && b) (same m w)));
    links = λ key place w mem cnt. chain.links key place w mem (sym (same place w) ∙ cnt) ∙ sym (last-same (counted is_member counts key) (counted is_member now key) place (λ m v. ap (λ b. is_member key (suc m) && b) (same m (omega arith))));
  }

  -- A number doesn't count any more that is the top of all keys of which it is a member.
  module _ (now : ℕ → Bool) (top_now : Key → ℕ) (k : ℕ) (within : suc k ≤ len) (was : counts (suc k) ≡ true) (gone : now (suc k) ≡ false)
      (same : (m : ℕ) → suc m ≤ len → (m ≡ k → ⊥) → now (suc m) ≡ counts (suc m))
      (own : (key : Key) → is_member key (suc k) ≡ true → (top key ≡ suc k) × (top_now key ≡ below k))
      (other : (key : Key) → is_member key (suc k) ≡ false → top_now key ≡ top key) where
    same-member : (key : Key) (m : ℕ) → suc m ≤ len → (m ≡ k → ⊥) → counted is_member now key (suc m) ≡ counted is_member counts key (suc m)
    same-member key m w ne = ap (λ b. is_member key (suc m) && b) (same m w ne)

    no-member : (key : Key) (m : ℕ) → is_member key (suc k) ≡ false → m ≡ k → counted is_member now key (suc m) ≡ counted is_member counts key (suc m)
    no-member key m out e = let h : is_member key (suc m) ≡ false = rw e out in rw h refl

    same-other : (key : Key) (m : ℕ) → is_member key (suc k) ≡ false → suc m ≤ len → counted is_member now key (suc m) ≡ counted is_member counts key (suc m)
    same-other key m out w = elim (cases_eq m k) [ inl e ↦ no-member key m out e | inr ne ↦ same-member key m w ne ]

    tops-retired : (key : Key) (b : Bool) → is_member key (suc k) ≡ b → top_now key ≡ last_up_to (counted is_member now key) len
    tops-retired key true h =
        let last : last_up_to (counted is_member counts key) len ≡ suc k = sym (chain.tops key) ∙ (own key h).0 in
        let none : counted is_member now key (suc k) ≡ false = rw (h, gone) refl in
        (own key h).1 ∙ chain.links key k within h was ∙ sym (last-without (counted is_member counts key) (counted is_member now key) len k last none (same-member key))
    tops-retired key false h = other key h ∙ chain.tops key ∙ sym (last-same (counted is_member counts key) (counted is_member now key) len (λ m w. same-other key m h w))

    -- below a number that counts, where the one that doesn't any more is a member of the same key
    not-above : (key : Key) (place m : ℕ) → suc place ≤ len → counted is_member counts key (suc place) ≡ true → is_member key (suc k) ≡ true → suc m ≤ place → m ≡ k → ⊥
    not-above key place m w passes mem v e =
        let last : last_up_to (counted is_member counts key) len ≡ suc k = sym (chain.tops key) ∙ (own key mem).0 in
        let reach : suc place ≤ last_up_to (counted is_member counts key) len = last-reaches (counted is_member counts key) len place passes w in
        let low : suc place ≤ suc k = rw last at reach in omega arith

    same-below : (key : Key) (place : ℕ) → suc place ≤ len → counted is_member counts key (suc place) ≡ true → (b : Bool) → is_member key (suc k) ≡ b → (m : ℕ) → suc m ≤ place → counted is_member now key (suc m) ≡ counted is_member counts key (suc m)
    same-below key place w passes true h m v = same-member key m (omega arith) (not-above key place m w passes h v)
    same-below key place w passes false h m v = same-other key m h (omega arith)

    links-retired : (key : Key) (place : ℕ) → suc place ≤ len → is_member key (suc place) ≡ true → now (suc place) ≡ true → (place ≡ k) ⊎ (place ≡ k → ⊥) → below place ≡ last_up_to (counted is_member now key) place
    links-retired key place w mem cnt (inl e) = let c : now (suc k) ≡ true = rw (sym e) cnt in absurd (true≢false (sym c ∙ gone))
    links-retired key place w mem cnt (inr ne) =
        let before : counts (suc place) ≡ true = sym (same place w ne) ∙ cnt in
        let passes : counted is_member counts key (suc place) ≡ true = rw (mem, before) refl in
        chain.links key place w mem before ∙ sym (last-same (counted is_member counts key) (counted is_member now key) place (same-below key place w passes (is_member key (suc k)) refl))

    pub chain-retired : IsChain is_member now len top_now below
    chain-retired = record {
      tops = λ key. tops-retired key (is_member key (suc k)) refl;
      links = λ key place w mem cnt. links-retired key place w mem cnt (cases_eq place k);
    }

  -- Another number comes.
  module _ (is_now : Key → ℕ → Bool) (now : ℕ → Bool) (top_now : Key → ℕ) (below_now : ℕ → ℕ)
      (members : (key : Key) (m : ℕ) → suc m ≤ len → is_now key (suc m) ≡ is_member key (suc m))
      (same : (m : ℕ) → suc m ≤ len → now (suc m) ≡ counts (suc m))
      (kept : (m : ℕ) → suc m ≤ len → below_now m ≡ below m)
      (hit : (key : Key) → is_now key (suc len) ≡ true → now (suc len) ≡ true → (top_now key ≡ suc len) × (below_now len ≡ top key))
      (miss : (key : Key) → counted is_now now key (suc len) ≡ false → top_now key ≡ top key) where
    agree : (key : Key) (m : ℕ) → suc m ≤ len → counted is_now now key (suc m) ≡ counted is_member counts key (suc m)
    agree key m w = rw (members key m w, same m w) refl

    was-top : (key : Key) → top key ≡ last_up_to (counted is_now now key) len
    was-top key = chain.tops key ∙ sym (last-same (counted is_member counts key) (counted is_now now key) len (agree key))

    tops-missed : (key : Key) → counted is_now now key (suc len) ≡ false → top_now key ≡ last_up_to (counted is_now now key) (suc len)
    tops-missed key e = miss key e ∙ was-top key ∙ sym (last-miss (counted is_now now key) len e)

    tops-pushed : (key : Key) (a b : Bool) → is_now key (suc len) ≡ a → now (suc len) ≡ b → top_now key ≡ last_up_to (counted is_now now key) (suc len)
    tops-pushed key true true mem cnt = (hit key mem cnt).0 ∙ sym (last-hit (counted is_now now key) len (rw (mem, cnt) refl))
    tops-pushed key true false mem cnt = tops-missed key (rw (mem, cnt) refl)
    tops-pushed key false b mem cnt = tops-missed key (rw mem refl)

    links-pushed : (key : Key) (place : ℕ) → suc place ≤ suc len → is_now key (suc place) ≡ true → now (suc place) ≡ true → (place ≡ len) ⊎ (place ≡ len → ⊥) → below_now place ≡ last_up_to (counted is_now now key) place
    links-pushed key place w mem cnt (inl e) = rw e ((hit key (rw (sym e) mem) (rw (sym e) cnt)).1 ∙ was-top key)
    links-pushed key place w mem cnt (inr ne) =
        let v : suc place ≤ len = omega arith in
        kept place v ∙ chain.links key place v (sym (members key place v) ∙ mem) (sym (same place v) ∙ cnt) ∙ sym (last-same (counted is_member counts key) (counted is_now now key) place (λ m u. agree key m (omega arith)))

    pub chain-pushed : IsChain is_now now (suc len) top_now below_now
    chain-pushed = record {
      tops = λ key. tops-pushed key (is_now key (suc len)) (now (suc len)) refl refl;
      links = λ key place w mem cnt. links-pushed key place w mem cnt (cases_eq place len);
    }
