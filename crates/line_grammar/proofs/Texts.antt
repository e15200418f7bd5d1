-- Reading and writing the spelling of a text.
use Rattle.std.proofs.Common.{length, ◌<◌, ◌⊎◌, inl, inr, ◌≡◌, ◌≢◌, ℕ, List, [], ◌∷◌, ◌++◌, Option, Some, None, refl, ap, sym, ◌∙◌, append_assoc, arith}
use Rattle.std.proofs.lemmas.Bool.Decides.{nat_tests}
use Rattle.std.proofs.lemmas.List.{append-nil}
use Rattle.std.specs.Str.{IsUtf8}
use Rattle.std.proofs.lemmas.Str.{IsUtf8-append}
use Rattle.std.proofs.lemmas.Bool.{cases_eq, ne_eqb}
use Rattle.line_grammar.proofs.Utf8.{IsUtf8-parts, IsUtf8-tail, IsUtf8-cons}
use Rattle.std.proofs.lemmas.Option.{none-some, some_pair_parts}
use Rattle.line_grammar.specs.Tokens.{escaped, with_byte, with_escaped, text_from}

-- ---- what a piece at the front gives

pub text_from-quote : (after : List ℕ) → text_from (39 ∷ after) ≡ Some ([], after)
unfolding text_from
text_from-quote [] = refl
text_from-quote (c ∷ after) = refl

pub text_from-escape : (c : ℕ) (behind : List ℕ) → text_from (92 ∷ c ∷ behind) ≡ with_escaped (escaped c) (text_from behind)
unfolding text_from
text_from-escape c behind = refl

pub text_from-lone_escape : text_from (92 ∷ []) ≡ None
unfolding text_from
text_from-lone_escape = refl

pub text_from-feed : (after : List ℕ) → text_from (10 ∷ after) ≡ None
unfolding text_from
text_from-feed [] = refl
text_from-feed (c ∷ after) = refl

pub text_from-return : (after : List ℕ) → text_from (13 ∷ after) ≡ None
unfolding text_from
text_from-return [] = refl
text_from-return (c ∷ after) = refl

pub text_from-plain : (b : ℕ) (after : List ℕ) → b ≢ 39 → b ≢ 92 → b ≢ 10 → b ≢ 13 → text_from (b ∷ after) ≡ with_byte b (text_from after)
unfolding text_from
text_from-plain b [] quote slash feed return' = grind (arith, nat_tests)
text_from-plain b (c ∷ after) quote slash feed return' = grind (arith, nat_tests)

-- ---- a text that is read piece by piece

-- what was read before, in front of what is read yet
abbrev pub with_front : List ℕ → Option (List ℕ × List ℕ) → Option (List ℕ × List ℕ)
with_front front None = None
with_front front (Some found) = Some (front ++ found.0, found.1)

pub with_front-nil : (found : Option (List ℕ × List ℕ)) → with_front [] found ≡ found
with_front-nil None = refl
with_front-nil (Some found) = refl

pub with_front-byte : (front : List ℕ) (b : ℕ) (found : Option (List ℕ × List ℕ)) → with_front front (with_byte b found) ≡ with_front (front ++ b ∷ []) found
with_front-byte front b None = refl
with_front-byte front b (Some found) = ap (λ (t : List ℕ). Some (t, found.1)) (sym (append_assoc front (b ∷ []) found.0))

-- ---- the same, from what a reader knows of the bytes

pub text_from-at_escape : (b c : ℕ) (after behind : List ℕ) (meant : Option ℕ) → b ≡ 92 → after ≡ c ∷ behind → meant ≡ escaped c → text_from (b ∷ after) ≡ with_escaped meant (text_from behind)
text_from-at_escape b c after behind meant slash parts means = rw (slash, parts, means) (text_from-escape c behind)

pub text_from-at_break : (b : ℕ) (after : List ℕ) → (b ≡ 10) ⊎ (b ≡ 13) → text_from (b ∷ after) ≡ None
text_from-at_break b after either = elim either as (λ _. text_from (b ∷ after) ≡ None) [ inl feed ↦ rw feed (text_from-feed after) | inr return' ↦ rw return' (text_from-return after) ]

pub text_from-at_quote : (b : ℕ) (text bytes all after : List ℕ) → b ≡ 39 → bytes ≡ b ∷ after → with_front text (text_from bytes) ≡ text_from all → Some (text, after) ≡ text_from all
text_from-at_quote b text bytes all after quote parts so_far = sym (ap (with_front text) (ap text_from parts ∙ ap (λ (x : ℕ). text_from (x ∷ after)) quote ∙ text_from-quote after) ∙ ap (λ (t : List ℕ). Some (t, after)) (append-nil text)) ∙ so_far

-- ---- texts are UTF-8

pub with_byte-some : (b : ℕ) (o : Option (List ℕ × List ℕ)) (text rest : List ℕ) → with_byte b o ≡ Some (text, rest) → (tail : List ℕ) × (o ≡ Some (tail, rest)) × (b ∷ tail ≡ text)
with_byte-some b None text rest e = absurd (none-some _ e)
with_byte-some b (Some found) text rest e = let parts = some_pair_parts (b ∷ found.0) text found.1 rest e in (found.0, ap (λ (r : List ℕ). Some (found.0, r)) parts.1, parts.0)

pub with_escaped-some : (m : Option ℕ) (o : Option (List ℕ × List ℕ)) (text rest : List ℕ) → with_escaped m o ≡ Some (text, rest) → (b : ℕ) × (m ≡ Some b) × (tail : List ℕ) × (o ≡ Some (tail, rest)) × (b ∷ tail ≡ text)
with_escaped-some None o text rest e = absurd (none-some _ e)
with_escaped-some (Some b) o text rest e = let found = with_byte-some b o text rest e in (b, refl, found.0, found.1, found.2)

pub escaped-ascii : (c b : ℕ) → escaped c ≡ Some b → (c < 128) × (b < 128)
escaped-ascii c b e = grind (arith, nat_tests)

pub text_from-at_end : (text bytes all : List ℕ) → bytes ≡ [] → with_front text (text_from bytes) ≡ text_from all → ◌≡◌ {A = Option (List ℕ × List ℕ)} None (text_from all)
unfolding text_from
text_from-at_end text bytes all ended so_far = sym (ap (λ (b : List ℕ). with_front text (text_from b)) ended) ∙ so_far

pub text_from-nil : ◌≡◌ {A = Option (List ℕ × List ℕ)} (text_from []) None
unfolding text_from
text_from-nil = refl

pub text_from-lone : (b : ℕ) → b ≢ 39 → text_from (b ∷ []) ≡ None
unfolding text_from
text_from-lone b quote = rw (ne_eqb b 39 quote) refl

abbrev AreUtf8 : List ℕ → List ℕ → List ℕ → Type 0
AreUtf8 front text rest = IsUtf8 (front ++ text) × IsUtf8 rest

at_quote : (front after text rest : List ℕ) (b : ℕ) → b ≡ 39 → IsUtf8 (front ++ b ∷ after) → text_from (b ∷ after) ≡ Some (text, rest) → AreUtf8 front text rest
at_quote front after text rest b quote utf8 e =
    let parts = some_pair_parts [] text after rest (sym (text_from-quote after) ∙ rw quote at e) in
    let cut = IsUtf8-parts front after b (omega arith) utf8 in
    (rw (← parts.0, append-nil front) cut.0, rw (← parts.1) cut.1)

at_escape : (front bytes text rest : List ℕ) (b c : ℕ) → b ≡ 92 → IsUtf8 (front ++ b ∷ c ∷ bytes) → text_from (b ∷ c ∷ bytes) ≡ Some (text, rest)
    → ((tail : List ℕ) → IsUtf8 bytes → text_from bytes ≡ Some (tail, rest) → AreUtf8 [] tail rest) → AreUtf8 front text rest
at_escape front bytes text rest b c slash utf8 e further =
    let found = with_escaped-some (escaped c) (text_from bytes) text rest (sym (text_from-escape c bytes) ∙ rw slash at e) in
    let low = escaped-ascii c found.0 found.1 in
    let cut = IsUtf8-parts front (c ∷ bytes) b (omega arith) utf8 in
    let after = further found.2 (IsUtf8-tail c bytes low.0 cut.1) found.3 in
    (rw (← found.4) (IsUtf8-append front (found.0 ∷ found.2) cut.0 (IsUtf8-cons found.0 found.2 low.1 after.0)), after.1)

at_plain : (front bytes text rest : List ℕ) (b : ℕ) → b ≢ 39 → b ≢ 92 → b ≢ 10 → b ≢ 13 → IsUtf8 (front ++ b ∷ bytes) → text_from (b ∷ bytes) ≡ Some (text, rest)
    → ((tail : List ℕ) → IsUtf8 ((front ++ b ∷ []) ++ bytes) → text_from bytes ≡ Some (tail, rest) → AreUtf8 (front ++ b ∷ []) tail rest) → AreUtf8 front text rest
at_plain front bytes text rest b quote slash feed return' utf8 e further =
    let found = with_byte-some b (text_from bytes) text rest (sym (text_from-plain b bytes quote slash feed return') ∙ e) in
    let after = further found.0 (rw (append_assoc front (b ∷ []) bytes) utf8) found.1 in
    (rw (← found.2) (rw (append_assoc front (b ∷ []) found.0) at after.0), after.1)

-- the text that is meant is UTF-8, and so is what follows it; front: bytes that stand for themselves before them
pub text_from-IsUtf8 : (front bytes text rest : List ℕ) → IsUtf8 (front ++ bytes) → text_from bytes ≡ Some (text, rest) → IsUtf8 (front ++ text) × IsUtf8 rest
text_from-IsUtf8 front [] text rest utf8 e = absurd (none-some _ (sym text_from-nil ∙ e))
text_from-IsUtf8 front (b ∷ []) text rest utf8 e =
    elim (cases_eq b 39) [ inl quote ↦ at_quote front [] text rest b quote utf8 e | inr other ↦ absurd (none-some _ (sym (text_from-lone b other) ∙ e)) ]
text_from-IsUtf8 front (b ∷ c ∷ bytes) text rest utf8 e =
    elim (cases_eq b 39) [
      | inl quote ↦ at_quote front (c ∷ bytes) text rest b quote utf8 e
      | inr no_quote ↦ elim (cases_eq b 92) [
        | inl slash ↦ at_escape front bytes text rest b c slash utf8 e (λ tail u s. text_from-IsUtf8 [] bytes tail rest u s)
        | inr no_slash ↦ elim (cases_eq b 10) [
          | inl feed ↦ absurd (none-some _ (sym (text_from-at_break b (c ∷ bytes) (inl feed)) ∙ e))
          | inr no_feed ↦ elim (cases_eq b 13) [
            | inl return' ↦ absurd (none-some _ (sym (text_from-at_break b (c ∷ bytes) (inr return')) ∙ e))
            | inr no_return ↦ at_plain front (c ∷ bytes) text rest b no_quote no_slash no_feed no_return utf8 e (λ tail u s. text_from-IsUtf8 (front ++ b ∷ []) (c ∷ bytes) tail rest u s)
          ]
        ]
      ]
    ]

-- a closing quote is behind the text
pub text_from-shorter : (bytes text rest : List ℕ) → text_from bytes ≡ Some (text, rest) → length rest < length bytes
text_from-shorter [] text rest e = absurd (none-some _ (sym text_from-nil ∙ e))
text_from-shorter (b ∷ []) text rest e =
    elim (cases_eq b 39) [
      | inl quote ↦ (let parts = some_pair_parts [] text [] rest (sym (text_from-quote []) ∙ rw quote at e) in rw (← parts.1) (omega arith))
      | inr other ↦ absurd (none-some _ (sym (text_from-lone b other) ∙ e))
    ]
text_from-shorter (b ∷ c ∷ bytes) text rest e =
    elim (cases_eq b 39) [
      | inl quote ↦ (let parts = some_pair_parts [] text (c ∷ bytes) rest (sym (text_from-quote (c ∷ bytes)) ∙ rw quote at e) in rw (← parts.1) (omega arith))
      | inr no_quote ↦ elim (cases_eq b 92) [
        | inl slash ↦ (let found = with_escaped-some (escaped c) (text_from bytes) text rest (sym (text_from-escape c bytes) ∙ rw slash at e) in omega (arith, text_from-shorter bytes found.2 rest found.3))
        | inr no_slash ↦ elim (cases_eq b 10) [
          | inl feed ↦ absurd (none-some _ (sym (text_from-at_break b (c ∷ bytes) (inl feed)) ∙ e))
          | inr no_feed ↦ elim (cases_eq b 13) [
            | inl return' ↦ absurd (none-some _ (sym (text_from-at_break b (c ∷ bytes) (inr return')) ∙ e))
            | inr no_return ↦ (let found = with_byte-some b (text_from (c ∷ bytes)) text rest (sym (text_from-plain b (c ∷ bytes) no_quote no_slash no_feed no_return) ∙ e) in omega (arith, text_from-shorter (c ∷ bytes) found.0 rest found.1))
          ]
        ]
      ]
    ]
