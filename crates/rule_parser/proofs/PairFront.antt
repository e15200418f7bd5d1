-- What a pair begins with.
use Rattle.std.proofs.Common.{◌≡◌, ℕ, true, false, List, [], ◌∷◌, Option, Some, None, refl, ap, sym, ◌∙◌}
use Rattle.std.specs.Prelude.{is_some}
use Rattle.std.proofs.lemmas.Option.{none-some, same_Some}
use Rattle.line_grammar.specs.Phrases.{◌>>=◌, name_at, after_name}
use Rattle.line_grammar.specs.Marks.{after_mark}
use Rattle.line_grammar.specs.declared.tokens.Mark.TheVariants.{Equals}
use Rattle.line_grammar.specs.declared.tokens.Token.{Token}
use Rattle.line_grammar.specs.declared.tokens.Token.TheVariants.{Name, Number, Quoted, Sign}
use Rattle.rule_parser.specs.RuleLines.{pair_at}

with_master : List ℕ → List ℕ × List Token → Option ((List ℕ × List ℕ) × List Token)
with_master name master = Some ((name, master.0), master.1)

master_at : (name : List ℕ) (rest : List Token) → is_some (name_at rest >>= with_master name) ≡ is_some (after_name rest)
unfolding with_master
master_at name [] = refl
master_at name (Name other ∷ rest) = refl
master_at name (Number n ∷ rest) = refl
master_at name (Quoted text ∷ rest) = refl
master_at name (Sign mark ∷ rest) = refl

-- what a name is followed by
behind_name : (tokens behind : List Token) → after_name tokens ≡ Some behind
    → (name : List ℕ) × (is_some (pair_at tokens) ≡ is_some (after_mark Equals behind >>= λ rest. name_at rest >>= with_master name))
unfolding pair_at with_master
behind_name [] behind found = absurd (none-some _ found)
behind_name (Name name ∷ tokens) behind found = (name, ap (λ (ts : List Token). is_some (after_mark Equals ts >>= λ rest. name_at rest >>= with_master name)) (same_Some _ _ found))
behind_name (Number n ∷ tokens) behind found = absurd (none-some _ found)
behind_name (Quoted text ∷ tokens) behind found = absurd (none-some _ found)
behind_name (Sign mark ∷ tokens) behind found = absurd (none-some _ found)

pub no_name : (tokens : List Token) → after_name tokens ≡ None → is_some (pair_at tokens) ≡ false
unfolding pair_at
no_name [] none = refl
no_name (Name name ∷ tokens) none = absurd (none-some _ (sym none))
no_name (Number n ∷ tokens) none = refl
no_name (Quoted text ∷ tokens) none = refl
no_name (Sign mark ∷ tokens) none = refl

pub no_equals : (tokens behind : List Token) → after_name tokens ≡ Some behind → after_mark Equals behind ≡ None → is_some (pair_at tokens) ≡ false
no_equals tokens behind found none =
    let pair = behind_name tokens behind found in
    pair.1 ∙ ap (λ (o : Option (List Token)). is_some (o >>= λ rest. name_at rest >>= with_master pair.0)) none

behind_equals : (tokens behind rest : List Token) → after_name tokens ≡ Some behind → after_mark Equals behind ≡ Some rest → is_some (pair_at tokens) ≡ is_some (after_name rest)
behind_equals tokens behind rest found equals =
    let pair = behind_name tokens behind found in
    pair.1 ∙ ap (λ (o : Option (List Token)). is_some (o >>= λ after. name_at after >>= with_master pair.0)) equals ∙ master_at pair.0 rest

pub no_master : (tokens behind rest : List Token) → after_name tokens ≡ Some behind → after_mark Equals behind ≡ Some rest → after_name rest ≡ None → is_some (pair_at tokens) ≡ false
no_master tokens behind rest found equals none = behind_equals tokens behind rest found equals ∙ ap is_some none

pub pair_begins : (tokens behind rest after : List Token) → after_name tokens ≡ Some behind → after_mark Equals behind ≡ Some rest → after_name rest ≡ Some after → is_some (pair_at tokens) ≡ true
pair_begins tokens behind rest after found equals master = behind_equals tokens behind rest found equals ∙ ap is_some master
