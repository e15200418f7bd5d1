-- Lists in the grammar of a line: LIST(p) is no p, or several with `,` between them; LIST1(p) has at least one.
use Rattle.std.specs.Prelude.{ℕ, zero, suc, List, [], ◌∷◌, length, Option, Some, None, is_some, if◌then◌else◌, ◌==◌}
use Rattle.line_grammar.specs.Marks.{after_mark}
use Rattle.line_grammar.specs.declared.tokens.Mark.TheVariants.{Comma}
use Rattle.line_grammar.specs.declared.tokens.Token.{Token}

-- What p reads at the front of the tokens, and the tokens after it. None: no p stands there.
abbrev pub Reader : Type 0 → Type 0
Reader A = List Token → Option (A × List Token)

abbrev pub in_front : {A : Type 0} → A → Option (List A × List Token) → Option (List A × List Token)
in_front x None = None
in_front x (Some found) = Some (x ∷ found.0, found.1)

-- the p that was read alone, or with the others behind the `,`
abbrev pub or_others : {A : Type 0} → (List Token → Option (List A × List Token)) → A → List Token → Option (List Token) → Option (List A × List Token)
or_others others x rest None = Some (x ∷ [], rest)
or_others others x rest (Some behind) = in_front x (others behind)

-- the p that was read, and those behind its `,`
abbrev pub and_others : {A : Type 0} → (List Token → Option (List A × List Token)) → Option (A × List Token) → Option (List A × List Token)
and_others others None = None
and_others others (Some found) = or_others others found.0 found.1 (after_mark Comma found.1)

-- LIST1(p) at the front, and the tokens after it; each p takes a token, which is what `room` counts
abbrev pub list1_within : {A : Type 0} → Reader A → ℕ → List Token → Option (List A × List Token)
list1_within p zero tokens = None
list1_within p (suc room) tokens = and_others (list1_within p room) (p tokens)

abbrev pub list1_at : {A : Type 0} → Reader A → List Token → Option (List A × List Token)
list1_at p tokens = list1_within p (length tokens) tokens

-- LIST(p) at the front: where no p stands there, it is empty
abbrev pub list_at : {A : Type 0} → Reader A → List Token → Option (List A × List Token)
list_at p tokens = if is_some (p tokens) then list1_at p tokens else Some ([], tokens)

-- what was read, where no token is left after it
abbrev pub none_after : {A : Type 0} → Option (A × List Token) → Option A
none_after None = None
none_after (Some found) = if length found.1 == 0 then Some found.0 else None
