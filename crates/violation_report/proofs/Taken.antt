-- Lines that are put after others.
use Rattle.std.proofs.Common.{◌≡◌, List, [], ◌++◌, refl, sym, subst, arith}
use Rattle.std.proofs.lemmas.List.{append_assoc, append-nil}
use Rattle.rule_model.specs.Books.{Book}
use Rattle.violation_report.specs.Taking.{Takes}
use Rattle.violation_report.specs.Written.{AreTold}
use Rattle.violation_report.specs.declared.line.Line.{Line}
use Rattle.violation_report.specs.declared.taker.Texts.{Texts}

module _ {T : Type 0} (Took : T → List Line → T → Type 0) where
  pub takes-more : (old middle new : T) (first more : List Line) → Takes Took old first middle → Takes Took middle more new → Takes Took old (first ++ more) new
  takes-more old middle new first more one other start before so_far =
      subst (λ (lines : List Line). Took start lines new) (append_assoc before first more) (other start (before ++ first) (one start before so_far))

-- a list that takes lines has them behind those that it had
abbrev pub Appended : List Line → List Line → List Line → Type 0
Appended start lines end = end ≡ start ++ lines

pub appended : (old lines new : List Line) → Takes Appended old lines new → new ≡ old ++ lines
appended old lines new takes = takes old [] (sym (append-nil old))

pub told : (rules : Book) (old : Texts) (lines : List Line) (new : Texts) → Takes (AreTold rules) old lines new → AreTold rules old lines new
told rules old lines new takes = takes old [] (record { same_reference = refl; text = sym (append-nil old.out.now.items); count = omega arith })
