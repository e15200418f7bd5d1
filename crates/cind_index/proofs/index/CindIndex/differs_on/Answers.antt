use Rattle.std.proofs.Common.{◌≡◌, ◌∙◌, sym, ap, Bool, true, false, not, ◌&&◌, refl, Option, Bor}
use Rattle.row_store.specs.Tuple.{Tuple, ids_of, ids_behind}
use Rattle.row_store.specs.Watch.{entries_of}
use Rattle.cind_index.specs.Entries.{gives_on}
use Rattle.cind_index.specs.Index.{made_of}
use Rattle.cind_index.proofs.SideFacts.{wide_here, same_given, differ_given}
use Rattle.cind_index.proofs.index.CindIndex.differs_on.Goals as goal

not_false : (b : Bool) → not b ≡ false → b ≡ true
not_false true is = refl
not_false false is = absurd (cc)

not_true : (b : Bool) → not b ≡ true → b ≡ false
not_true true is = absurd (cc)
not_true false is = refl

pub returns-in-Some-clause-same : goal.returns-in-Some-clause-same
returns-in-Some-clause-same c agreed row e here =
    let index = c.args.self.now in
    let side = c.args.side in
    let one = ids_of c.in-Some.tuple.now in
    let other = ids_of c.args.other.now in
    let wide = c.requires.wide_one one (ap (λ (o : Option (Bor Tuple)). ids_behind o) c.in-Some.is) in
    ap (λ (o : Option (Bor Tuple)). entries_of (gives_on index.rule side row) (ids_behind o) e) c.in-Some.is
    ∙ same_given index.rule side row one other e (wide_here (made_of index) c.args.table side one here wide) (wide_here (made_of index) c.args.table side other here c.requires.wide_other) (sym c.agree_on.ensures ∙ not_false c.agree_on.result agreed)

pub returns-in-Some-clause-differ : goal.returns-in-Some-clause-differ
returns-in-Some-clause-differ c apart row e =
    let index = c.args.self.now in
    let side = c.args.side in
    let one = ids_of c.in-Some.tuple.now in
    let other = ids_of c.args.other.now in
    let here = c.if-table-table_on.false ∙ c.table_on.ensures in
    let wide = c.requires.wide_one one (ap (λ (o : Option (Bor Tuple)). ids_behind o) c.in-Some.is) in
    ap (λ (o : Option (Bor Tuple)). entries_of (gives_on index.rule side row) (ids_behind o) e && gives_on index.rule side row other e) c.in-Some.is
    ∙ differ_given index.rule side row one other e (wide_here (made_of index) c.args.table side one here wide) (wide_here (made_of index) c.args.table side other here c.requires.wide_other) (sym c.agree_on.ensures ∙ not_true c.agree_on.result apart)
