use Rattle.std.proofs.Common.{ℕ, List, [], ◌∷◌, ◌++◌, ap, ◌∙◌, append_assoc}
use Rattle.std.specs.Prelude.{codes, slice_get}
use Rattle.std.specs.Option.{option_map_or}
use Rattle.line_grammar.specs.Spelling.{line_text}
use Rattle.cert_text.specs.CertText.{var_parts}
use Rattle.cert_check.proofs.NodeTexts.{appended, two_fit, two_text}
use Rattle.cert_check.proofs.tree_lines.push_two.Goals as goal

pub returns-clause-text : goal.returns-clause-text
returns-clause-text c =
    let one = slice_get c.args.names.now.vars c.args.one in
    let other = slice_get c.args.names.now.vars c.args.other in
    let first = c.extend_from_slice.new.self.items in
    let head = line_text (option_map_or var_parts one []) in
    let rest = line_text (option_map_or var_parts other []) in
    let both = c.in_ok-push_var-2.ensures.text ∙ ap (λ (t : List ℕ). t ++ rest) (c.in_ok-push.ensures.items ∙ ap (λ (t : List ℕ). t ++ 32 ∷ []) c.in_ok-push_var.ensures.text ∙ append_assoc first head (32 ∷ []))
    ∙ append_assoc first (head ++ 32 ∷ []) rest ∙ ap (λ (t : List ℕ). first ++ t) (append_assoc head (32 ∷ []) rest) in
    appended c.args.out.now.items first c.push_var-2.new.out.items (codes "two ") (head ++ (32 ∷ [] ++ rest)) _ c.in_ok-extend_from_slice.ensures.items (two_text one other c.requires) both

pub returns-clause-fit : goal.returns-clause-fit
returns-clause-fit c =
    let names = c.args.names.now in
    two_fit names.kind (slice_get names.vars c.args.one) (slice_get names.vars c.args.other) c.push_var.ensures.fit c.push_var-2.ensures.fit
