use Rattle.std.proofs.Common.{ℕ, List, [], arith, sym, ◌∙◌}
use Rattle.std.specs.Str.{bytes_eq}
use Rattle.csv.specs.Records.{fields_of}
use Rattle.csv_tables.proofs.FieldFacts.{position-at-take, position-none-take}
use Rattle.csv_tables.proofs.fields.place_of.Goals as goal

pub returns-then-eq : goal.returns-then-eq
returns-then-eq c =
    sym (position-at-take (λ (f : List ℕ). bytes_eq f c.args.text.now) (fields_of c.args.fields.now) c.args.count c.loop-place.place [] c.requires (omega arith) c.loop-place.invariant (sym (rw (c.field_bytes.ensures, c.as_bytes.ensures.value) at c.eq.ensures) ∙ c.if-eq.true))

pub returns : goal.returns
returns c =
    sym (position-none-take (λ (f : List ℕ). bytes_eq f c.args.text.now) (fields_of c.args.fields.now) c.args.count [] c.requires (λ k h. c.loop-place.invariant k (omega arith)))
