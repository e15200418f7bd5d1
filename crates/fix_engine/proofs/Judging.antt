-- Where few moves may apply and no run goes on for ever, the runs from a stage can be judged: all maximal ones end in one
-- tuple, or two end in different ones.
use Rattle.std.proofs.Common.{◌≡◌, ℕ, zero, suc, ◌<◌, List, [], ◌∷◌, inl, inr, ◌⊎◌, refl, sym, subst, ◌∙◌, arith}
use Rattle.std.specs.Prelude.{◌≢◌}
use Rattle.rule_runs.specs.Runs.{IsMaximal, end_of}

-- the list has the element
abbrev pub Among : {X : Type 0} → List X → X → Type 0
Among [] x = ⊥
Among (y ∷ ys) x = (y ≡ x) ⊎ Among ys x

module _ {Stage Move Tuple : Type 0} (Applies : Stage → Move → Type 0) (after : Stage → Move → Stage) (tuple : Stage → Tuple) where
  abbrev pub Full : Stage → List Move → Type 0
  Full stage moves = IsMaximal Applies after stage moves

  -- where a run ends
  abbrev pub ends_in : Stage → List Move → Tuple
  ends_in stage moves = tuple (end_of Applies after stage moves)

  -- all maximal runs end where this one does
  pub record Agree (stage : Stage) : Type 0 where
    pub moves : List Move
    pub full : Full stage moves
    pub all : (other : List Move) → Full stage other → ends_in stage other ≡ ends_in stage moves

  -- two maximal runs end in different tuples
  pub record Differ (stage : Stage) : Type 0 where
    pub one : List Move
    pub other : List Move
    pub full_one : Full stage one
    pub full_other : Full stage other
    pub differ : ends_in stage one ≢ ends_in stage other

  -- all maximal runs that begin with one of the moves end where this one does
  record AgreeFrom (stage : Stage) (firsts : List Move) : Type 0 where
    moves : List Move
    full : Full stage moves
    all : (first : Move) (rest : List Move) → Among firsts first → Full stage (first ∷ rest) → ends_in stage (first ∷ rest) ≡ ends_in stage moves

  abbrev NoneApplies : Stage → List Move → Type 0
  NoneApplies stage firsts = (first : Move) → Among firsts first → ¬ Applies stage first

  -- what is known of the runs that begin with one of the moves
  abbrev Known : Stage → List Move → Type 0
  Known stage firsts = NoneApplies stage firsts ⊎ (AgreeFrom stage firsts ⊎ Differ stage)

  full-cons : (stage : Stage) (first : Move) (rest : List Move) → Applies stage first → Full (after stage first) rest → Full stage (first ∷ rest)
  full-cons stage first rest applies full = record { run = (applies, full.run); maximal = full.maximal }

  full-rest : (stage : Stage) (first : Move) (rest : List Move) → Full stage (first ∷ rest) → Full (after stage first) rest
  full-rest stage first rest full = record { run = full.run.1; maximal = full.maximal }

  differ-cons : (stage : Stage) (first : Move) → Applies stage first → Differ (after stage first) → Differ stage
  differ-cons stage first applies d = record {
    one = first ∷ d.one;
    other = first ∷ d.other;
    full_one = full-cons stage first d.one applies d.full_one;
    full_other = full-cons stage first d.other applies d.full_other;
    differ = d.differ;
  }

  -- what begins with this move ends as those do that agree behind it
  behind : (stage : Stage) (first : Move) (agree : Agree (after stage first)) (same : Move) (rest : List Move) → first ≡ same → Full stage (same ∷ rest) → ends_in stage (same ∷ rest) ≡ ends_in (after stage first) agree.moves
  behind stage first agree same rest is full =
      let full_first = subst (λ m. Full stage (m ∷ rest)) (sym is) full in
      subst (λ m. ends_in stage (m ∷ rest) ≡ ends_in (after stage first) agree.moves) is (agree.all rest (full-rest stage first rest full_first))

  with-none : (stage : Stage) (first : Move) (firsts : List Move) → Applies stage first → Agree (after stage first) → NoneApplies stage firsts → AgreeFrom stage (first ∷ firsts)
  with-none stage first firsts applies agree none = record {
    moves = first ∷ agree.moves;
    full = full-cons stage first agree.moves applies agree.full;
    all = λ same rest among full. elim among [
      | inl is ↦ behind stage first agree same rest is full
      | inr later ↦ absurd (none same later full.run.0)
    ];
  }

  with-same : (stage : Stage) (first : Move) (firsts : List Move) (agree : Agree (after stage first)) (known : AgreeFrom stage firsts) → ends_in (after stage first) agree.moves ≡ ends_in stage known.moves → AgreeFrom stage (first ∷ firsts)
  with-same stage first firsts agree known alike = record {
    moves = known.moves;
    full = known.full;
    all = λ same rest among full. elim among [
      | inl is ↦ behind stage first agree same rest is full ∙ alike
      | inr later ↦ known.all same rest later full
    ];
  }

  with-other : (stage : Stage) (first : Move) (firsts : List Move) → Applies stage first → (agree : Agree (after stage first)) (known : AgreeFrom stage firsts) → ends_in (after stage first) agree.moves ≢ ends_in stage known.moves → Differ stage
  with-other stage first firsts applies agree known apart = record {
    one = first ∷ agree.moves;
    other = known.moves;
    full_one = full-cons stage first agree.moves applies agree.full;
    full_other = known.full;
    differ = apart;
  }

  without : (stage : Stage) (first : Move) (firsts : List Move) → ¬ Applies stage first → Known stage firsts → Known stage (first ∷ firsts)
  without stage first firsts isnt known = elim known [
    | inl none ↦ inl (λ same among. elim among [
      | inl is ↦ λ applies. isnt (subst (λ m. Applies stage m) (sym is) applies)
      | inr later ↦ none same later
    ])
    | inr some ↦ inr (elim some [
      | inl agree ↦ inl (record {
        moves = agree.moves;
        full = agree.full;
        all = λ same rest among full. elim among [
          | inl is ↦ absurd (isnt (subst (λ m. Applies stage m) (sym is) full.run.0))
          | inr later ↦ agree.all same rest later full
        ];
      })
      | inr differ ↦ inr differ
    ])
  ]

  module _ (alike : (t u : Tuple) → (t ≡ u) ⊎ (t ≢ u)) where
    with-agree : (stage : Stage) (first : Move) (firsts : List Move) → Applies stage first → Agree (after stage first) → Known stage firsts → Known stage (first ∷ firsts)
    with-agree stage first firsts applies agree known = inr (elim known [
      | inl none ↦ inl (with-none stage first firsts applies agree none)
      | inr some ↦ elim some [
        | inl others ↦ elim (alike (ends_in (after stage first) agree.moves) (ends_in stage others.moves)) [
          | inl same ↦ inl (with-same stage first firsts agree others same)
          | inr apart ↦ inr (with-other stage first firsts applies agree others apart)
        ]
        | inr differ ↦ inr differ
      ]
    ])

    module _ (decides : (stage : Stage) (move : Move) → Applies stage move ⊎ ¬ Applies stage move) where
      known_of : (stage : Stage) → ((first : Move) → Applies stage first → Agree (after stage first) ⊎ Differ (after stage first)) → (firsts : List Move) → Known stage firsts
      known_of stage judged [] = inl (λ first among. absurd among)
      known_of stage judged (first ∷ firsts) =
          let others = known_of stage judged firsts in
          elim (decides stage first) [
            | inl applies ↦ elim (judged first applies) [
              | inl agree ↦ with-agree stage first firsts applies agree others
              | inr differ ↦ inr (inr (differ-cons stage first applies differ))
            ]
            | inr isnt ↦ without stage first firsts isnt others
          ]

      module _ (moves : List Move) (among : (stage : Stage) (move : Move) → Applies stage move → Among moves move) where
        -- nothing applies, so nothing is the one maximal run
        nothing : (stage : Stage) → NoneApplies stage moves → Agree stage
        nothing stage none = record {
          moves = [];
          full = record { run = tt; maximal = λ move applies. none move (among stage move applies) applies };
          all = only;
        }
          where
            only : (other : List Move) → Full stage other → ends_in stage other ≡ ends_in stage []
            only [] full = refl
            only (first ∷ rest) full = absurd (none first (among stage first full.run.0) full.run.0)

        -- where no move applies, a maximal run has none
        empty : (stage : Stage) (run : List Move) → Full stage [] → Full stage run → ends_in stage [] ≡ ends_in stage run
        empty stage [] none full = refl
        empty stage (first ∷ rest) none full = absurd (none.maximal first full.run.0)

        whole : (stage : Stage) → AgreeFrom stage moves → Agree stage
        whole stage known = record { moves = known.moves; full = known.full; all = every }
          where
            every : (other : List Move) → Full stage other → ends_in stage other ≡ ends_in stage known.moves
            every [] full = empty stage known.moves full known.full
            every (first ∷ rest) full = known.all first rest (among stage first full.run.0) full

        module _ (left : Stage → ℕ) (fewer : (stage : Stage) (move : Move) → Applies stage move → left (after stage move) < left stage) where
          within : (fuel : ℕ) (stage : Stage) → left stage < fuel → Agree stage ⊎ Differ stage
          within zero stage enough = absurd (omega arith)
          within (suc fuel) stage enough =
              elim (known_of stage (λ first applies. let less = fewer stage first applies in within fuel (after stage first) (omega arith)) moves) [
                | inl none ↦ inl (nothing stage none)
                | inr some ↦ elim some [
                  | inl agree ↦ inl (whole stage agree)
                  | inr differ ↦ inr differ
                ]
              ]

          -- all maximal runs end in one tuple, or two end in different ones
          pub judged : (stage : Stage) → Agree stage ⊎ Differ stage
          judged stage = within (suc (left stage)) stage (omega arith)
