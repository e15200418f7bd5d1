-- What is written for a list of commands that are answered one after the other. What a state is, what a command is and what
-- is a reply to it is left open: a reply is any relation of a state, a command, the bytes that are written for the command
-- in that state, and the state that the command leaves.
use Rattle.std.specs.Prelude.{◌≡◌, ℕ, List, [], ◌∷◌, ◌++◌, ◌⊎◌, Option}
use Rattle.shelf_io.specs.Sink.{Appends, FrontOf}

abbrev pub Replies : Type 0 → Type 0 → Type 1
Replies State Command = State → Command → List ℕ → State → Type 0

-- The bytes are replies to the commands in order, one after the other, each in the state that the commands before it leave,
-- and this is the state that the last one leaves.
abbrev pub IsTranscript : {State Command : Type 0} → Replies State Command → State → List Command → List ℕ → State → Type 0
IsTranscript IsReply start [] bytes end = (bytes ≡ []) × (end ≡ start)
IsTranscript {State} IsReply start (command ∷ commands) bytes end =
    (reply : List ℕ) × (next : State) × (others : List ℕ) × IsReply start command reply next × (bytes ≡ reply ++ others) × IsTranscript IsReply next commands others end

-- all commands were answered: a transcript of them was appended, and this is the state that they leave
abbrev pub Answers : {State Command : Type 0} → Replies State Command → State → List Command → State → Option (List ℕ) → Option (List ℕ) → Type 0
Answers IsReply start commands end = Appends (λ bytes. IsTranscript IsReply start commands bytes end)

-- Replies to some of the commands, from the first on, and this is the state then: nothing stands behind a whole reply, or a
-- front of the reply to the next command, which then is the last that was answered.
abbrev pub IsCutShort : {State Command : Type 0} → Replies State Command → State → List Command → List ℕ → State → Type 0
IsCutShort IsReply start [] bytes end = (bytes ≡ []) × (end ≡ start)
IsCutShort {State} IsReply start (command ∷ commands) bytes end =
    ((bytes ≡ []) × (end ≡ start))
    ⊎ ((reply : List ℕ) × IsReply start command reply end × FrontOf (λ text. text ≡ reply) bytes)
    ⊎ ((reply : List ℕ) × (next : State) × (others : List ℕ) × IsReply start command reply next × (bytes ≡ reply ++ others) × IsCutShort IsReply next commands others end)

-- some of the commands were answered, from the first on: their replies were appended, the last perhaps not to its end, and
-- this is the state that they leave
abbrev pub AnswersFront : {State Command : Type 0} → Replies State Command → State → List Command → State → Option (List ℕ) → Option (List ℕ) → Type 0
AnswersFront IsReply start commands end = Appends (λ bytes. IsCutShort IsReply start commands bytes end)
