-- The rounds of asking, one after the other.
use Rattle.std.proofs.Common.{◌≡◌, ℕ, suc, ◌+◌, ◌<◌, ◌≤◌, ◌^◌, Bool, true, false, List, [], ◌∷◌, ◌++◌, length, take, drop, get_or, Result, Ok, Err, refl, sym, ap, ◌∙◌, subst, append_assoc, arith}
use Rattle.std.specs.Prelude.{All, IfOk}
use Rattle.std.specs.List.{insert}
use Rattle.std.proofs.lemmas.List.{append-nil, drop_all, drop_at, drop_more, get_or-map, length-append, length-map, length-take-le, length_push, map_push, take_all, take_at, take_more}
use Rattle.std.proofs.lemmas.List.Elements.{All-append, All-cons, All-head, All-nil, All-tail}
use Rattle.schema_core.specs.declared.schema.Schema.{Schema}
use Rattle.rule_model.specs.declared.dep.Dep.{Dep}
use Rattle.cfd_implication.specs.Answers.{IsImplicationAnswer}
use Rattle.rule_cover.specs.declared.fates.Fate.{Fate}
use Rattle.rule_cover.specs.declared.fates.Piece.{Piece}
use Rattle.rule_cover.specs.CoverText.{AreFateTexts, IsFateText}
use Rattle.rule_cover.specs.Fates.{AreRight, AreSomeRight, IsSomeAnswer, answer_of, left, numbers_of, stays}
use Rattle.rule_cover.specs.Pieces.{IsPiece}
use Rattle.rule_cover.specs.Rounds.{AskedPiece, Halves, again_if}

-- ---- one round

pub stay_is : (pieces : List Dep) (stay : ℕ) → stay ≤ length pieces → stay ≡ length (take stay pieces)
stay_is pieces stay le = sym (length-take-le stay pieces le)

pub put_back : (others : List Dep) (stay : ℕ) (piece : Dep) → stay ≤ length others
    → (let halves : Halves = record { before = take (stay + 1) (insert others stay piece); after = drop (stay + 1) (insert others stay piece) } in halves)
    ≡ record { before = take stay others ++ piece ∷ []; after = drop stay others }
put_back others stay piece le =
    let longer : length (take stay others ++ piece ∷ []) ≡ stay + 1 = length_push (take stay others) piece ∙ ap (λ n. n + 1) (length-take-le stay others le) in
    let whole : insert others stay piece ≡ (take stay others ++ piece ∷ []) ++ drop stay others = sym (append_assoc (take stay others) (piece ∷ []) (drop stay others)) in
    let front = ap (take (stay + 1)) whole ∙ take_at (take stay others ++ piece ∷ []) (drop stay others) (stay + 1) longer in
    let back = ap (drop (stay + 1)) whole ∙ drop_at (take stay others ++ piece ∷ []) (drop stay others) (stay + 1) longer in
    λ i. record { before = front i; after = back i }

pub stayed : (schema : Schema) (b : Bool) (before : List Dep) (piece : Dep) → All (IsPiece schema) before → IsPiece schema piece → All (IsPiece schema) (before ++ again_if b piece)
stayed schema true before piece all is = All-append (IsPiece schema) before (piece ∷ []) all (All-cons (IsPiece schema) piece [] is (All-nil (IsPiece schema)))
stayed schema false before piece all is = All-append (IsPiece schema) before [] all (All-nil (IsPiece schema))

-- the round behind the one in which a piece was asked
abbrev pub next_round : AskedPiece → Bool → Halves
next_round asked b = record { before = asked.before ++ again_if b asked.piece; after = asked.after }

abbrev pub round_of : AskedPiece → Halves
round_of asked = record { before = asked.before; after = asked.piece ∷ asked.after }

-- all pieces of a question are valid
pub all_others : (schema : Schema) (asked : AskedPiece) → All (IsPiece schema) asked.before → All (IsPiece schema) (asked.piece ∷ asked.after) → All (IsPiece schema) (asked.before ++ asked.after)
all_others schema asked before after = All-append (IsPiece schema) asked.before asked.after before (All-tail (IsPiece schema) asked.piece asked.after after)

-- ---- fates found so far

pub record HasFound (schema : Schema) (budget : ℕ) (pieces : List Dep) (numbers : List Piece) (index : ℕ) (round : Halves) (fates : List (Piece × Fate)) : Type 0 where
  pub numbered : numbers_of fates ≡ take index numbers
  pub others : length round.after + index ≡ length numbers
  pub before : All (IsPiece schema) round.before
  pub after : All (IsPiece schema) round.after
  pub goes_on : (rest : List (Piece × Fate)) → AreRight schema budget round.before round.after rest → AreRight schema budget [] pieces (fates ++ rest)

pub found_none : (schema : Schema) (budget : ℕ) (pieces : List Dep) (numbers : List Piece) → length numbers ≡ length pieces → All (IsPiece schema) pieces → HasFound schema budget pieces numbers 0 (record { before = []; after = pieces }) []
found_none schema budget pieces numbers long all = record {
  numbered = refl;
  others = omega (arith, long);
  before = All-nil (IsPiece schema);
  after = all;
  goes_on = λ rest right. right;
}

pub found_more : (schema : Schema) (budget : ℕ) (pieces : List Dep) (numbers : List Piece) (index : ℕ) (asked : AskedPiece) (fates : List (Piece × Fate)) (number : Piece) (fate : Fate)
    → index < length numbers → number ≡ get_or numbers index number
    → HasFound schema budget pieces numbers index (record { before = asked.before; after = asked.piece ∷ asked.after }) fates
    → IsImplicationAnswer schema (asked.before ++ asked.after) asked.piece budget (answer_of fate)
    → HasFound schema budget pieces numbers (index + 1) (record { before = asked.before ++ again_if (stays fate) asked.piece; after = asked.after }) (fates ++ (number, fate) ∷ [])
found_more schema budget pieces numbers index asked fates number fate lt is found answer = record {
  numbered = map_push (λ (f : Piece × Fate). f.0) fates (number, fate) ∙ ap (λ (ns : List Piece). ns ++ number ∷ []) found.numbered ∙ ap (λ (n : Piece). take index numbers ++ n ∷ []) is ∙ sym (take_more numbers index number lt);
  others = let l = found.others in omega (arith, l);
  before = stayed schema (stays fate) asked.before asked.piece found.before (All-head (IsPiece schema) asked.piece asked.after found.after);
  after = All-tail (IsPiece schema) asked.piece asked.after found.after;
  goes_on = λ rest right. subst (AreRight schema budget [] pieces) (sym (append_assoc fates ((number, fate) ∷ []) rest)) (found.goes_on ((number, fate) ∷ rest) (answer, right));
}

pub found_pushed : (schema : Schema) (budget : ℕ) (pieces : List Dep) (numbers : List Piece) (index : ℕ) (asked : AskedPiece) (fates longer : List (Piece × Fate)) (number : Piece) (fate : Fate)
    → index < length numbers → longer ≡ fates ++ (number, fate) ∷ [] → number ≡ get_or numbers index number
    → HasFound schema budget pieces numbers index (round_of asked) fates
    → IsImplicationAnswer schema (asked.before ++ asked.after) asked.piece budget (answer_of fate)
    → HasFound schema budget pieces numbers (index + 1) (next_round asked (stays fate)) longer
found_pushed schema budget pieces numbers index asked fates longer number fate lt pushed is found answer =
    subst (λ (all : List (Piece × Fate)). HasFound schema budget pieces numbers (index + 1) (next_round asked (stays fate)) all) (sym pushed) (found_more schema budget pieces numbers index asked fates number fate lt is found answer)

right_end : (schema : Schema) (budget : ℕ) (before after : List Dep) → length after ≡ 0 → AreRight schema budget before after []
right_end schema budget before [] none = tt
right_end schema budget before (piece ∷ after) none = absurd (omega (arith, none))

pub found_all : (schema : Schema) (budget : ℕ) (pieces : List Dep) (numbers : List Piece) (index : ℕ) (round : Halves) (fates : List (Piece × Fate)) → length numbers ≤ index
    → HasFound schema budget pieces numbers index round fates → (numbers_of fates ≡ numbers) × AreRight schema budget [] pieces fates
found_all schema budget pieces numbers index round fates le found =
    let l = found.others in (
      found.numbered ∙ take_all index numbers le,
      subst (AreRight schema budget [] pieces) (append-nil fates) (found.goes_on [] (right_end schema budget round.before round.after (omega (arith, l, le)))),
    )

-- ---- lines so far

pub some_asked : (schema : Schema) (budget : ℕ) (before after : List Dep) (fate : Piece × Fate) (fates : List (Piece × Fate)) → AreRight schema budget before after (fate ∷ fates) → 0 < length after
some_asked schema budget before [] fate fates right = absurd right
some_asked schema budget before (piece ∷ after) fate fates right = omega arith

pub right_long : (schema : Schema) (budget : ℕ) (before after : List Dep) (fates : List (Piece × Fate)) → AreRight schema budget before after fates → length after ≡ length fates
right_long schema budget before [] [] right = refl
right_long schema budget before [] (fate ∷ fates) right = absurd right
right_long schema budget before (piece ∷ after) [] right = absurd right
right_long schema budget before (piece ∷ after) (fate ∷ fates) right = ap suc (right_long schema budget (before ++ again_if (stays fate.1) piece) after fates right.1)

pub record HasTold (schema : Schema) (pieces : List Dep) (fates : List (Piece × Fate)) (index : ℕ) (round : Halves) (out : List ℕ) : Type 0 where
  pub right : AreSomeRight schema round.before round.after (drop index fates)
  pub before : All (IsPiece schema) round.before
  pub after : All (IsPiece schema) round.after
  pub count : length (left pieces fates) ≡ length round.before + length (left round.after (drop index fates))
  pub goes_on : (rest : List ℕ) → AreFateTexts schema round.before round.after (drop index fates) rest → AreFateTexts schema [] pieces fates (out ++ rest)

pub told_none : (schema : Schema) (pieces : List Dep) (fates : List (Piece × Fate)) → AreSomeRight schema [] pieces fates → All (IsPiece schema) pieces → HasTold schema pieces fates 0 (record { before = []; after = pieces }) []
told_none schema pieces fates right all = record {
  right = right;
  before = All-nil (IsPiece schema);
  after = all;
  count = omega arith;
  goes_on = λ rest texts. texts;
}

-- there is a piece for each fate
pub told_some : (schema : Schema) (pieces : List Dep) (fates : List (Piece × Fate)) (index : ℕ) (round : Halves) (out : List ℕ) (fate : Piece × Fate) → index < length fates → HasTold schema pieces fates index round out → 0 < length round.after
told_some schema pieces fates index round out fate lt told =
    some_asked schema told.right.0 round.before round.after (get_or fates index fate) (drop (index + 1) fates)
    (subst (λ (fs : List (Piece × Fate)). AreRight schema told.right.0 round.before round.after fs) (drop_more fates index fate lt) told.right.1)

left_more : (before : List Dep) (piece : Dep) (b : Bool) (rest : List Dep) → length before + length (again_if b piece ++ rest) ≡ length (before ++ again_if b piece) + length rest
left_more before piece true rest = let long = length-append before (piece ∷ []) in omega (arith, long)
left_more before piece false rest = let long = length-append before [] in omega (arith, long)

pub told_more : (schema : Schema) (pieces : List Dep) (fates : List (Piece × Fate)) (index : ℕ) (asked : AskedPiece) (out text : List ℕ) (fate : Piece × Fate)
    → index < length fates → fate ≡ get_or fates index fate
    → HasTold schema pieces fates index (record { before = asked.before; after = asked.piece ∷ asked.after }) out
    → IsFateText schema (asked.before ++ asked.after) asked.piece fate text
    → HasTold schema pieces fates (index + 1) (record { before = asked.before ++ again_if (stays fate.1) asked.piece; after = asked.after }) (out ++ text)
told_more schema pieces fates index asked out text fate lt is told own =
    let next : drop index fates ≡ fate ∷ drop (index + 1) fates = drop_more fates index fate lt ∙ ap (λ (f : Piece × Fate). f ∷ drop (index + 1) fates) (sym is) in
    let budget = told.right.0 in
    let right = subst (AreRight schema budget asked.before (asked.piece ∷ asked.after)) next told.right.1 in record {
      right = (budget, right.1);
      before = stayed schema (stays fate.1) asked.before asked.piece told.before (All-head (IsPiece schema) asked.piece asked.after told.after);
      after = All-tail (IsPiece schema) asked.piece asked.after told.after;
      count = told.count ∙ ap (λ (fs : List (Piece × Fate)). length asked.before + length (left (asked.piece ∷ asked.after) fs)) next ∙ left_more asked.before asked.piece (stays fate.1) (left asked.after (drop (index + 1) fates));
      goes_on = λ rest texts.
          subst (AreFateTexts schema [] pieces fates) (sym (append_assoc out text rest))
          (told.goes_on (text ++ rest) (subst (λ (fs : List (Piece × Fate)). AreFateTexts schema asked.before (asked.piece ∷ asked.after) fs (text ++ rest)) (sym next) (text, rest, own, texts, refl)));
    }

-- the answer by which the asked piece has its fate
pub told_answer : (schema : Schema) (pieces : List Dep) (fates : List (Piece × Fate)) (index : ℕ) (asked : AskedPiece) (out : List ℕ) (fate : Piece × Fate)
    → index < length fates → fate ≡ get_or fates index fate
    → HasTold schema pieces fates index (record { before = asked.before; after = asked.piece ∷ asked.after }) out
    → IsSomeAnswer schema (asked.before ++ asked.after) asked.piece fate.1
told_answer schema pieces fates index asked out fate lt is told =
    let next : drop index fates ≡ fate ∷ drop (index + 1) fates = drop_more fates index fate lt ∙ ap (λ (f : Piece × Fate). f ∷ drop (index + 1) fates) (sym is) in
    (told.right.0, (subst (AreRight schema told.right.0 asked.before (asked.piece ∷ asked.after)) next told.right.1).0)

no_more : (schema : Schema) (budget : ℕ) (before after : List Dep) → AreRight schema budget before after [] → after ≡ []
no_more schema budget before [] right = refl
no_more schema budget before (piece ∷ after) right = absurd right

-- all were told
pub told_all : (schema : Schema) (pieces : List Dep) (fates : List (Piece × Fate)) (index : ℕ) (round : Halves) (out : List ℕ) → length fates ≤ index → HasTold schema pieces fates index round out
    → (round.after ≡ []) × (length round.before ≡ length (left pieces fates)) × AreFateTexts schema [] pieces fates out
told_all schema pieces fates index round out le told =
    let ended = drop_all index fates le in
    let none = no_more schema told.right.0 round.before round.after (subst (AreRight schema told.right.0 round.before round.after) ended told.right.1) in
    let nothing : left round.after (drop index fates) ≡ [] = ap (λ (ds : List Dep). left ds (drop index fates)) none in
    let counted = told.count ∙ ap (λ (ds : List Dep). length round.before + length ds) nothing in
    let rest : AreFateTexts schema round.before round.after (drop index fates) [] =
    subst (λ (ds : List Dep). AreFateTexts schema round.before ds (drop index fates) []) (sym none)
    (subst (λ (fs : List (Piece × Fate)). AreFateTexts schema round.before [] fs []) (sym ended) refl) in
    (none, omega (arith, counted), subst (AreFateTexts schema [] pieces fates) (append-nil out) (told.goes_on [] rest))

-- ---- results

pub if_ok : {X E : Type 0} (P Q : X → Type 0) → ((x : X) → P x → Q x) → (result : Result X E) → IfOk result P → IfOk result Q
if_ok P Q more (Ok x) is = more x is
if_ok P Q more (Err error) is = tt

pub number_within : (fates : List (Piece × Fate)) (index : ℕ) (item : Piece × Fate) → index < length fates → item ≡ get_or fates index item → All (λ (number : Piece). number.row + 1 < 2 ^ 64) (numbers_of fates) → item.0.row + 1 < 2 ^ 64
number_within fates index item lt is within =
    let number = λ (f : Piece × Fate). f.0 in
    let long = length-map fates number in
    subst (λ (n : Piece). n.row + 1 < 2 ^ 64) (get_or-map number fates index item item.0 lt ∙ ap number (sym is)) (within index item.0 (omega (arith, lt, long)))
