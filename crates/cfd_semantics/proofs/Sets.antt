-- A set with at most one entry a row has at most one list by rising rows, and exactly one where it is finite.
use Rattle.std.proofs.Common.{◌≡◌, ℕ, suc, ◌<◌, ◌↔◌, ◌⊎◌, Bool, true, false, List, [], ◌∷◌, refl, sym, ap, ◌∙◌, subst, inl, inr, arith}
use Rattle.std.specs.Prelude.{IsTrue}
use Rattle.std.specs.List.{All, Contains}
use Rattle.std.proofs.lemmas.Bool.{cases_lt}
use Rattle.std.proofs.lemmas.List.Elements.{All-nil, All-cons, All-contains, All-weaker, All-contains_itself}
use Rattle.std.proofs.lemmas.List.Kept.{AllPairs-cons}
use Rattle.cfd_semantics.specs.EntrySets.{IsRising, HasOneARow, IsListOf, IsFinite}
use Rattle.cfd_semantics.proofs.Members.{contains-here, contains-there, contains_nothing, contains_cases}

module _ {E : Type 0} (row_of : E → ℕ) where
  pub rising-nil : IsRising row_of []
  rising-nil i j d before within = absurd (omega arith)

  pub rising-head : (e : E) (es : List E) → IsRising row_of (e ∷ es) → All (λ f. row_of e < row_of f) es
  rising-head e es rising k d within = rising 0 (suc k) d (omega arith) (omega arith)

  pub rising-tail : (e : E) (es : List E) → IsRising row_of (e ∷ es) → IsRising row_of es
  rising-tail e es rising i j d before within = rising (suc i) (suc j) d (omega arith) (omega arith)

  pub rising-cons : (e : E) (es : List E) → All (λ f. row_of e < row_of f) es → IsRising row_of es → IsRising row_of (e ∷ es)
  rising-cons e es above rising = AllPairs-cons (λ e f. row_of e < row_of f) e es above rising

  above_head : (e f : E) (es : List E) → IsRising row_of (e ∷ es) → Contains es f → row_of e < row_of f
  above_head e f es rising inside = All-contains (λ f. row_of e < row_of f) es f (rising-head e es rising) inside

  -- two members of one row are one
  pub one_a_row : (es : List E) → IsRising row_of es → (e f : E) → Contains es e → Contains es f → row_of e ≡ row_of f → e ≡ f
  one_a_row [] rising e f inside beside same = absurd (contains_nothing e inside)
  one_a_row (g ∷ gs) rising e f inside beside same = elim (contains_cases e g gs inside) [
    | inl is ↦ elim (contains_cases f g gs beside) [
      | inl too ↦ sym is ∙ too
      | inr later ↦ absurd (let above = above_head g f gs rising later in let at : row_of g ≡ row_of e = ap row_of is in omega arith)
    ]
    | inr later ↦ elim (contains_cases f g gs beside) [
      | inl is ↦ absurd (let above = above_head g e gs rising later in let at : row_of g ≡ row_of f = ap row_of is in omega arith)
      | inr too ↦ one_a_row gs (rising-tail g gs rising) e f later too same
    ]
  ]

  -- what is in the rest is in the other's rest
  rest_inside : (e : E) (es fs : List E) → IsRising row_of (e ∷ es) → ((g : E) → Contains (e ∷ es) g → Contains (e ∷ fs) g) → (g : E) → Contains es g → Contains fs g
  rest_inside e es fs rising same g inside = elim (contains_cases g e fs (same g (contains-there g e es inside))) [
    | inl is ↦ absurd (let above = above_head e g es rising inside in let at : row_of e ≡ row_of g = ap row_of is in omega arith)
    | inr later ↦ later
  ]

  -- rising lists with the same members are the same
  pub same_rising : (es fs : List E) → IsRising row_of es → IsRising row_of fs → ((g : E) → Contains es g ↔ Contains fs g) → es ≡ fs
  same_rising [] [] rising also same = refl
  same_rising [] (f ∷ fs) rising also same = absurd (contains_nothing f ((same f).1 (contains-here f fs)))
  same_rising (e ∷ es) [] rising also same = absurd (contains_nothing e ((same e).0 (contains-here e es)))
  same_rising (e ∷ es) (f ∷ fs) rising also same =
      let heads : e ≡ f = elim (contains_cases e f fs ((same e).0 (contains-here e es))) [
        | inl is ↦ sym is
        | inr later ↦ elim (contains_cases f e es ((same f).1 (contains-here f fs))) [
          | inl is ↦ is
          | inr beside ↦ absurd (let low = above_head f e fs also later in let high = above_head e f es rising beside in omega arith)
        ]
      ] in
      let moved : (g : E) → Contains (e ∷ es) g ↔ Contains (e ∷ fs) g = subst (λ h. (g : E) → Contains (e ∷ es) g ↔ Contains (h ∷ fs) g) (sym heads) same in
      let also_here : IsRising row_of (e ∷ fs) = subst (λ h. IsRising row_of (h ∷ fs)) (sym heads) also in
      subst (λ h. e ∷ es ≡ h ∷ fs) heads (ap (λ rest. e ∷ rest) (same_rising es fs (rising-tail e es rising) (rising-tail e fs also_here)
      (λ g. (rest_inside e es fs rising (λ h. (moved h).0) g, rest_inside e fs es also_here (λ h. (moved h).1) g))))

  module _ (holds : E → Bool) where
    -- a set has at most one list
    pub at_most_one_list : (es fs : List E) → IsListOf row_of holds es → IsListOf row_of holds fs → es ≡ fs
    at_most_one_list es fs one other =
        same_rising es fs one.rising other.rising (λ g. ((λ inside. (other.members g).0 ((one.members g).1 inside)), (λ inside. (one.members g).0 ((other.members g).1 inside))))

    -- a set that has a list has one entry a row
    pub one_a_row_of_list : (es : List E) → IsListOf row_of holds es → HasOneARow row_of holds
    one_a_row_of_list es list e f held beside same = one_a_row es list.rising e f ((list.members e).0 held) ((list.members f).0 beside) same

  -- ---- the list of a finite set

  all_of_members : (P : E → Type 0) (es : List E) → ((g : E) → Contains es g → P g) → All P es
  all_of_members P es each = All-weaker (Contains es) P each es (All-contains_itself es)

  -- a rising list of these and of one more
  abbrev ListWith : E → List E → Type 0
  ListWith e es = (fs : List E) × IsRising row_of fs × ((g : E) → Contains fs g ↔ ((e ≡ g) ⊎ Contains es g))

  put_first : (e : E) (es : List E) → IsRising row_of es → All (λ f. row_of e < row_of f) es → ListWith e es
  put_first e es rising above = (
    e ∷ es,
    rising-cons e es above rising,
    λ g. (
      (λ inside. contains_cases g e es inside),
      (λ one. elim one [ inl is ↦ subst (Contains (e ∷ es)) is (contains-here e es) | inr later ↦ contains-there g e es later ]),
    ),
  )

  put_later : (e f : E) (fs : List E) → row_of f < row_of e → IsRising row_of (f ∷ fs) → ListWith e fs → ListWith e (f ∷ fs)
  put_later e f fs below rising (gs, up, members) =
      let above : All (λ g. row_of f < row_of g) gs =
      all_of_members (λ g. row_of f < row_of g) gs (λ g inside. elim ((members g).0 inside) [
        | inl is ↦ subst (λ h. row_of f < row_of h) is below
        | inr later ↦ above_head f g fs rising later
      ]) in (
        f ∷ gs,
        rising-cons f gs above up,
        λ g. (
          (λ inside. elim (contains_cases g f gs inside) [
            | inl is ↦ inr (subst (Contains (f ∷ fs)) is (contains-here f fs))
            | inr later ↦ elim ((members g).0 later) [ inl is ↦ inl is | inr old ↦ inr (contains-there g f fs old) ]
          ]),
          (λ one. elim one [
            | inl is ↦ contains-there g f gs ((members g).1 (inl is))
            | inr old ↦ elim (contains_cases g f fs old) [
              | inl is ↦ subst (Contains (f ∷ gs)) is (contains-here f gs)
              | inr later ↦ contains-there g f gs ((members g).1 (inr later))
            ]
          ]),
        ),
      )

  put : (e : E) (es : List E) → IsRising row_of es → ((f : E) → Contains es f → row_of e ≡ row_of f → e ≡ f) → ListWith e es
  put e [] rising one = put_first e [] rising (All-nil _)
  put e (f ∷ fs) rising one = elim (cases_lt (row_of e) (row_of f)) [
    | inl below ↦ put_first e (f ∷ fs) rising (All-cons (λ g. row_of e < row_of g) f fs below (all_of_members (λ g. row_of e < row_of g) fs (λ g inside. let above = above_head f g fs rising inside in omega arith)))
    | inr past ↦ elim (cases_lt (row_of f) (row_of e)) [
      | inl above ↦ put_later e f fs above rising (put e fs (rising-tail f fs rising) (λ g inside same. one g (contains-there g f fs inside) same))
      | inr level ↦
          let is : e ≡ f = one f (contains-here f fs) (omega arith) in (
            f ∷ fs,
            rising,
            λ g. (
              (λ inside. inr inside),
              (λ either. elim either [ inl same ↦ subst (Contains (f ∷ fs)) (sym is ∙ same) (contains-here f fs) | inr inside ↦ inside ]),
            ),
          )
    ]
  ]

  module _ (holds : E → Bool) (one : HasOneARow row_of holds) where
    -- a rising list of the members that are among some entries
    abbrev ListAmong : List E → Type 0
    ListAmong some = (es : List E) × IsRising row_of es × ((g : E) → Contains es g ↔ (IsTrue (holds g) × Contains some g))

    among_more : (e : E) (rest : List E) (b : Bool) → holds e ≡ b → ListAmong rest → ListAmong (e ∷ rest)
    among_more e rest false is (es, up, members) = (
      es,
      up,
      λ g. (
        (λ inside. let both = (members g).0 inside in (both.0, contains-there g e rest both.1)),
        (λ both. elim (contains_cases g e rest both.1) [
          | inl same ↦ let held : holds e ≡ true = ap holds same ∙ both.0 in absurd (cc)
          | inr later ↦ (members g).1 (both.0, later)
        ]),
      ),
    )
    among_more e rest true is (es, up, members) =
        let with = put e es up (λ f inside same. one e f is ((members f).0 inside).0 same) in (
          with.0,
          with.1,
          λ g. (
            (λ inside. elim ((with.2 g).0 inside) [
              | inl same ↦ (subst (λ h. IsTrue (holds h)) same is, subst (Contains (e ∷ rest)) same (contains-here e rest))
              | inr old ↦ let both = (members g).0 old in (both.0, contains-there g e rest both.1)
            ]),
            (λ both. elim (contains_cases g e rest both.1) [
              | inl same ↦ (with.2 g).1 (inl same)
              | inr later ↦ (with.2 g).1 (inr ((members g).1 (both.0, later)))
            ]),
          ),
        )

    list_among : (some : List E) → ListAmong some
    list_among [] = ([], rising-nil, λ g. ((λ inside. absurd (contains_nothing g inside)), (λ both. absurd (contains_nothing g both.1))))
    list_among (e ∷ rest) = among_more e rest (holds e) refl (list_among rest)

    -- a finite set has a list
    pub list_of_finite : IsFinite holds → (es : List E) × IsListOf row_of holds es
    list_of_finite (some, all) =
        let among = list_among some in
        (among.0, record { rising = among.1; members = λ e. ((λ held. (among.2 e).1 (held, all e held)), (λ inside. ((among.2 e).0 inside).0)) })
