-- Plain words are what a command with as many positional arguments takes and reads.
use Rattle.std.proofs.Common.{◌≡◌, ◌∙◌, ℕ, Bool, true, false, List, [], ◌∷◌, Option, Some, None, refl, sym, ap, codes, arith}
use Rattle.std.specs.Prelude.{◌==◌, ◌&&◌, not, drop, map, find, option_map, option_and_then, slice_get, is_some, IsSome, IsTrue}
use Rattle.std.specs.List.{list_all}
use Rattle.std.proofs.lemmas.Option.{none-some}
use Rattle.std.specs.Borrow.{Bor}
use Rattle.std.specs.Str.{bytes_eq}
use Rattle.clap.specs.Lexer.{long_of, short_of}
use Rattle.clap.specs.Facts.{Entry}
use Rattle.clap.specs.Matches.{first_value}
use Rattle.clap.specs.Walk.{Held, Row, Rule, Text, Walk, after_step, finished, first_of, idle, nothing_held, row_of, rows_of, value, walk, walk_from, word_met}
use Rattle.clap.specs.Simple.{App, Shape, argument_words, built, entered, is_simple, matches_of, names_of}
use Rattle.clap.specs.Takes.{default_passes, entered_passes, is_valid, settle_passes, step_passes, takes, walk_passes, word_passes}
use Rattle.clap.specs.declared.parser.matches.Found.{Found}
use Rattle.clap.proofs.OnLiterals.{clap_on_literals}
use Rattle.clap.proofs.WalkLemmas.{find_row}
use Rattle.call_words.specs.ReadWords.{ArePlain, four_words, one_word, three_words, two_words}
use Rattle.call_words.specs.Words.{is_plain}

-- ---- one word

no_long : (b : ℕ) (bytes : Text) → (b == 45) ≡ false → long_of (b ∷ bytes) ≡ None
no_long b bytes plain = rw plain refl

no_short : (b : ℕ) (bytes : Text) → (b == 45) ≡ false → short_of (b ∷ bytes) ≡ None
no_short b bytes plain = rw plain refl

no_dashes : (b : ℕ) (bytes : Text) → (b == 45) ≡ false → bytes_eq (b ∷ bytes) (45 ∷ 45 ∷ []) ≡ false
no_dashes b bytes plain = rw plain refl

-- a plain word is a value
pub plain_met : (rules : List Rule) (position : ℕ) (b : ℕ) (bytes : Text) (h : Held) → (b == 45) ≡ false → word_met rules [] false idle position (b ∷ bytes) h ≡ (h, value)
plain_met rules position b bytes h plain = rw (no_dashes b bytes plain, no_long b bytes plain, no_short b bytes plain) refl

pub plain_passes : (s : Shape) (b : ℕ) (bytes : Text) (h : Held) → (b == 45) ≡ false → word_passes s [] false idle (b ∷ bytes) h ≡ true
plain_passes s b bytes h plain = rw (no_dashes b bytes plain, no_long b bytes plain, no_short b bytes plain) refl

-- ---- the commands are simple

pub one_is_simple : is_simple one_word ≡ true
unfolding clap_on_literals
one_is_simple = refl

pub two_is_simple : is_simple two_words ≡ true
unfolding clap_on_literals
two_is_simple = refl

pub three_is_simple : is_simple three_words ≡ true
unfolding clap_on_literals
three_is_simple = refl

pub four_is_simple : is_simple four_words ≡ true
unfolding clap_on_literals
four_is_simple = refl

-- ---- they take plain words

one_taken : (name : Text) (b : ℕ) (bytes : Text) → (b == 45) ≡ false → takes one_word (name ∷ (b ∷ bytes) ∷ []) ≡ true
unfolding clap_on_literals
one_taken name b bytes plain = rw (plain_met, plain_passes) refl

two_taken : (name : Text) (b : ℕ) (bytes : Text) (c : ℕ) (more : Text) → (b == 45) ≡ false → (c == 45) ≡ false → takes two_words (name ∷ (b ∷ bytes) ∷ (c ∷ more) ∷ []) ≡ true
unfolding clap_on_literals
two_taken name b bytes c more plain_b plain_c = rw (plain_met, plain_passes, plain_met, plain_passes) refl

three_taken : (name : Text) (b : ℕ) (bytes : Text) (c : ℕ) (more : Text) (d : ℕ) (last : Text) → (b == 45) ≡ false → (c == 45) ≡ false → (d == 45) ≡ false → takes three_words (name ∷ (b ∷ bytes) ∷ (c ∷ more) ∷ (d ∷ last) ∷ []) ≡ true
unfolding clap_on_literals
three_taken name b bytes c more d last plain_b plain_c plain_d = rw (plain_met, plain_passes, plain_met, plain_passes, plain_met, plain_passes) refl

-- a walk that waits for no value and met no subcommand
abbrev standing : Held → ℕ → Walk
standing h position = record { held = h; waiting = idle; position = position; is_trailing = false; stopped = None }

-- it goes on behind a plain word
on_word : (s : Shape) (h : Held) (position : ℕ) (b : ℕ) (bytes : Text) (rest : List Text) → (b == 45) ≡ false → step_passes s position h value ≡ true
    → walk_passes s [] (after_step s.rules (b ∷ bytes) (standing h position) h value) rest ≡ true → walk_passes s [] (standing h position) ((b ∷ bytes) ∷ rest) ≡ true
unfolding clap_on_literals
on_word s h position b bytes rest plain step further = rw (plain_met s.rules position b bytes h plain, plain_passes s b bytes h plain, step) further

-- what is asked once the walk has ended
abbrev ends_well : App → Walk → Bool
ends_well command walked =
    let s = command.top in
    entered_passes command walked.stopped
    && (settle_passes s.rules s.args_override_self walked.held
    && (list_all default_passes s.rules && is_valid s (finished s.rules walked.held) (is_some (entered command walked.stopped))))

without_turns : (entered turns rest : Bool) → turns ≡ true → (entered && rest) ≡ true → (entered && (turns && rest)) ≡ true
without_turns entered turns rest all others = rw all others

-- words are taken where the walk over them passes and ends well
taken_by : (command : App) (words : List Text) → is_simple command ≡ true
    → walk_passes (built command).top (names_of (built command)) (walk_from nothing_held) (argument_words command words) ≡ true
    → ends_well (built command) (walk (built command).top.rules (names_of (built command)) nothing_held (argument_words command words)) ≡ true
    → takes command words ≡ true
taken_by command words simple turns well =
    let c = built command in
    let s = c.top in
    let w = walk s.rules (names_of c) nothing_held (argument_words command words) in
    rw simple
    (without_turns (entered_passes c w.stopped) (walk_passes s (names_of c) (walk_from nothing_held) (argument_words command words))
    (settle_passes s.rules s.args_override_self w.held && (list_all default_passes s.rules && is_valid s (finished s.rules w.held) (is_some (entered c w.stopped)))) turns well)

four_taken : (name : Text) (b : ℕ) (bytes : Text) (c : ℕ) (more : Text) (d : ℕ) (width : Text) (e : ℕ) (support : Text) → (b == 45) ≡ false → (c == 45) ≡ false → (d == 45) ≡ false → (e == 45) ≡ false → takes four_words (name ∷ (b ∷ bytes) ∷ (c ∷ more) ∷ (d ∷ width) ∷ (e ∷ support) ∷ []) ≡ true
unfolding clap_on_literals
four_taken name b bytes c more d width e support plain_b plain_c plain_d plain_e =
    let top = (built four_words).top in
    taken_by four_words (name ∷ (b ∷ bytes) ∷ (c ∷ more) ∷ (d ∷ width) ∷ (e ∷ support) ∷ []) refl
    (on_word top nothing_held 1 b bytes ((c ∷ more) ∷ (d ∷ width) ∷ (e ∷ support) ∷ []) plain_b refl
    (on_word top _ 2 c more ((d ∷ width) ∷ (e ∷ support) ∷ []) plain_c refl (on_word top _ 3 d width ((e ∷ support) ∷ []) plain_d refl (on_word top _ 4 e support [] plain_e refl refl))))
    (rw (plain_met, plain_met, plain_met, plain_met) refl)

-- ---- and read them

one_read : (name : Text) (b : ℕ) (bytes : Text) → (b == 45) ≡ false → first_of (codes "PROJECT") (matches_of one_word (name ∷ (b ∷ bytes) ∷ [])) ≡ Some (b ∷ bytes)
unfolding clap_on_literals
one_read name b bytes plain = rw plain_met refl

two_read_first : (name : Text) (b : ℕ) (bytes : Text) (c : ℕ) (more : Text) → (b == 45) ≡ false → (c == 45) ≡ false → first_of (codes "PROJECT") (matches_of two_words (name ∷ (b ∷ bytes) ∷ (c ∷ more) ∷ [])) ≡ Some (b ∷ bytes)
unfolding clap_on_literals
two_read_first name b bytes c more plain_b plain_c = rw (plain_met, plain_met) refl

two_read_second : (name : Text) (b : ℕ) (bytes : Text) (c : ℕ) (more : Text) → (b == 45) ≡ false → (c == 45) ≡ false → first_of (codes "CERT") (matches_of two_words (name ∷ (b ∷ bytes) ∷ (c ∷ more) ∷ [])) ≡ Some (c ∷ more)
unfolding clap_on_literals
two_read_second name b bytes c more plain_b plain_c = rw (plain_met, plain_met) refl

three_read_first : (name : Text) (b : ℕ) (bytes : Text) (c : ℕ) (more : Text) (d : ℕ) (last : Text) → (b == 45) ≡ false → (c == 45) ≡ false → (d == 45) ≡ false → first_of (codes "PROJECT") (matches_of three_words (name ∷ (b ∷ bytes) ∷ (c ∷ more) ∷ (d ∷ last) ∷ [])) ≡ Some (b ∷ bytes)
unfolding clap_on_literals
three_read_first name b bytes c more d last plain_b plain_c plain_d = rw (plain_met, plain_met, plain_met) refl

three_read_second : (name : Text) (b : ℕ) (bytes : Text) (c : ℕ) (more : Text) (d : ℕ) (last : Text) → (b == 45) ≡ false → (c == 45) ≡ false → (d == 45) ≡ false → first_of (codes "ASKED") (matches_of three_words (name ∷ (b ∷ bytes) ∷ (c ∷ more) ∷ (d ∷ last) ∷ [])) ≡ Some (c ∷ more)
unfolding clap_on_literals
three_read_second name b bytes c more d last plain_b plain_c plain_d = rw (plain_met, plain_met, plain_met) refl

four_read_first : (name : Text) (b : ℕ) (bytes : Text) (c : ℕ) (more : Text) (d : ℕ) (width : Text) (e : ℕ) (support : Text) → (b == 45) ≡ false → (c == 45) ≡ false → (d == 45) ≡ false → (e == 45) ≡ false → first_of (codes "PROJECT") (matches_of four_words (name ∷ (b ∷ bytes) ∷ (c ∷ more) ∷ (d ∷ width) ∷ (e ∷ support) ∷ [])) ≡ Some (b ∷ bytes)
unfolding clap_on_literals
four_read_first name b bytes c more d width e support plain_b plain_c plain_d plain_e = rw (plain_met, plain_met, plain_met, plain_met) refl

four_read_second : (name : Text) (b : ℕ) (bytes : Text) (c : ℕ) (more : Text) (d : ℕ) (width : Text) (e : ℕ) (support : Text) → (b == 45) ≡ false → (c == 45) ≡ false → (d == 45) ≡ false → (e == 45) ≡ false → first_of (codes "TABLE") (matches_of four_words (name ∷ (b ∷ bytes) ∷ (c ∷ more) ∷ (d ∷ width) ∷ (e ∷ support) ∷ [])) ≡ Some (c ∷ more)
unfolding clap_on_literals
four_read_second name b bytes c more d width e support plain_b plain_c plain_d plain_e = rw (plain_met, plain_met, plain_met, plain_met) refl

-- ---- what a call reads

plain_byte : (b : ℕ) (rest : Bool) → IsTrue (not (b == 45) && rest) → ((b == 45) ≡ false) × IsTrue rest
plain_byte b rest h = go (b == 45) refl h
  where
    go : (t : Bool) → (b == 45) ≡ t → IsTrue (not t && rest) → ((b == 45) ≡ false) × IsTrue rest
    go true e h = absurd (cc)
    go false e h = (e, h)

-- one word is taken and read
pub record OneRead (words : List Text) : Type 0 where
  pub project : Text
  pub is : drop 1 words ≡ project ∷ []
  pub taken : takes one_word words ≡ true
  pub read : first_of (codes "PROJECT") (matches_of one_word words) ≡ Some project

pub read_one : (words : List Text) → ArePlain 1 words → OneRead words
read_one [] plain = absurd (omega (arith, plain.all))
read_one (name ∷ []) plain = absurd (omega (arith, plain.all))
read_one (name ∷ [] ∷ words) plain = absurd (cc (plain.plain))
read_one (name ∷ (b ∷ bytes) ∷ []) plain =
    let p = plain_byte b true plain.plain in
    record { project = b ∷ bytes; is = refl; taken = one_taken name b bytes p.0; read = one_read name b bytes p.0 }
read_one (name ∷ (b ∷ bytes) ∷ word ∷ words) plain = absurd (omega (arith, plain.all))

-- two words are
pub record TwoRead (words : List Text) : Type 0 where
  pub project : Text
  pub cert : Text
  pub are : drop 1 words ≡ project ∷ cert ∷ []
  pub taken : takes two_words words ≡ true
  pub read_first : first_of (codes "PROJECT") (matches_of two_words words) ≡ Some project
  pub read_second : first_of (codes "CERT") (matches_of two_words words) ≡ Some cert

-- and three
pub record ThreeRead (words : List Text) : Type 0 where
  pub project : Text
  pub asked : Text
  pub budget : Text
  pub are : drop 1 words ≡ project ∷ asked ∷ budget ∷ []
  pub taken : takes three_words words ≡ true
  pub read_first : first_of (codes "PROJECT") (matches_of three_words words) ≡ Some project
  pub read_second : first_of (codes "ASKED") (matches_of three_words words) ≡ Some asked

-- and four
pub record FourRead (words : List Text) : Type 0 where
  pub project : Text
  pub table : Text
  pub width : Text
  pub support : Text
  pub are : drop 1 words ≡ project ∷ table ∷ width ∷ support ∷ []
  pub taken : takes four_words words ≡ true
  pub read_first : first_of (codes "PROJECT") (matches_of four_words words) ≡ Some project
  pub read_second : first_of (codes "TABLE") (matches_of four_words words) ≡ Some table

pub read_two : (words : List Text) → ArePlain 2 words → TwoRead words
read_two [] plain = absurd (omega (arith, plain.all))
read_two (name ∷ []) plain = absurd (omega (arith, plain.all))
read_two (name ∷ word ∷ []) plain = absurd (omega (arith, plain.all))
read_two (name ∷ [] ∷ word ∷ words) plain = absurd (cc (plain.plain))
read_two (name ∷ (b ∷ bytes) ∷ [] ∷ words) plain =
    let p = plain_byte b (is_plain [] && list_all is_plain words) plain.plain in
    absurd (cc (p.1))
read_two (name ∷ (b ∷ bytes) ∷ (c ∷ more) ∷ []) plain =
    let p = plain_byte b (list_all is_plain ((c ∷ more) ∷ [])) plain.plain in
    let q = plain_byte c true p.1 in
    record {
      project = b ∷ bytes;
      cert = c ∷ more;
      are = refl;
      taken = two_taken name b bytes c more p.0 q.0;
      read_first = two_read_first name b bytes c more p.0 q.0;
      read_second = two_read_second name b bytes c more p.0 q.0;
    }
read_two (name ∷ (b ∷ bytes) ∷ (c ∷ more) ∷ word ∷ words) plain = absurd (omega (arith, plain.all))

pub read_three : (words : List Text) → ArePlain 3 words → ThreeRead words
read_three [] plain = absurd (omega (arith, plain.all))
read_three (name ∷ []) plain = absurd (omega (arith, plain.all))
read_three (name ∷ word ∷ []) plain = absurd (omega (arith, plain.all))
read_three (name ∷ word ∷ other ∷ []) plain = absurd (omega (arith, plain.all))
read_three (name ∷ [] ∷ word ∷ other ∷ words) plain = absurd (cc (plain.plain))
read_three (name ∷ (b ∷ bytes) ∷ [] ∷ other ∷ words) plain =
    let p = plain_byte b (is_plain [] && list_all is_plain (other ∷ words)) plain.plain in
    absurd (cc (p.1))
read_three (name ∷ (b ∷ bytes) ∷ (c ∷ more) ∷ [] ∷ words) plain =
    let p = plain_byte b (list_all is_plain ((c ∷ more) ∷ [] ∷ words)) plain.plain in
    let q = plain_byte c (is_plain [] && list_all is_plain words) p.1 in
    absurd (cc (q.1))
read_three (name ∷ (b ∷ bytes) ∷ (c ∷ more) ∷ (d ∷ last) ∷ []) plain =
    let p = plain_byte b (list_all is_plain ((c ∷ more) ∷ (d ∷ last) ∷ [])) plain.plain in
    let q = plain_byte c (list_all is_plain ((d ∷ last) ∷ [])) p.1 in
    let r = plain_byte d true q.1 in
    record {
      project = b ∷ bytes;
      asked = c ∷ more;
      budget = d ∷ last;
      are = refl;
      taken = three_taken name b bytes c more d last p.0 q.0 r.0;
      read_first = three_read_first name b bytes c more d last p.0 q.0 r.0;
      read_second = three_read_second name b bytes c more d last p.0 q.0 r.0;
    }
read_three (name ∷ (b ∷ bytes) ∷ (c ∷ more) ∷ (d ∷ last) ∷ word ∷ words) plain = absurd (omega (arith, plain.all))

pub read_four : (words : List Text) → ArePlain 4 words → FourRead words
read_four [] plain = absurd (omega (arith, plain.all))
read_four (name ∷ []) plain = absurd (omega (arith, plain.all))
read_four (name ∷ word ∷ []) plain = absurd (omega (arith, plain.all))
read_four (name ∷ word ∷ other ∷ []) plain = absurd (omega (arith, plain.all))
read_four (name ∷ word ∷ other ∷ third ∷ []) plain = absurd (omega (arith, plain.all))
read_four (name ∷ [] ∷ word ∷ other ∷ third ∷ words) plain = absurd (cc (plain.plain))
read_four (name ∷ (b ∷ bytes) ∷ [] ∷ other ∷ third ∷ words) plain =
    let p = plain_byte b (is_plain [] && list_all is_plain (other ∷ third ∷ words)) plain.plain in
    absurd (cc (p.1))
read_four (name ∷ (b ∷ bytes) ∷ (c ∷ more) ∷ [] ∷ third ∷ words) plain =
    let p = plain_byte b (list_all is_plain ((c ∷ more) ∷ [] ∷ third ∷ words)) plain.plain in
    let q = plain_byte c (is_plain [] && list_all is_plain (third ∷ words)) p.1 in
    absurd (cc (q.1))
read_four (name ∷ (b ∷ bytes) ∷ (c ∷ more) ∷ (d ∷ width) ∷ [] ∷ words) plain =
    let p = plain_byte b (list_all is_plain ((c ∷ more) ∷ (d ∷ width) ∷ [] ∷ words)) plain.plain in
    let q = plain_byte c (list_all is_plain ((d ∷ width) ∷ [] ∷ words)) p.1 in
    let r = plain_byte d (is_plain [] && list_all is_plain words) q.1 in
    absurd (cc (r.1))
read_four (name ∷ (b ∷ bytes) ∷ (c ∷ more) ∷ (d ∷ width) ∷ (e ∷ support) ∷ []) plain =
    let p = plain_byte b (list_all is_plain ((c ∷ more) ∷ (d ∷ width) ∷ (e ∷ support) ∷ [])) plain.plain in
    let q = plain_byte c (list_all is_plain ((d ∷ width) ∷ (e ∷ support) ∷ [])) p.1 in
    let r = plain_byte d (list_all is_plain ((e ∷ support) ∷ [])) q.1 in
    let s = plain_byte e true r.1 in
    record {
      project = b ∷ bytes;
      table = c ∷ more;
      width = d ∷ width;
      support = e ∷ support;
      are = refl;
      taken = four_taken name b bytes c more d width e support p.0 q.0 r.0 s.0;
      read_first = four_read_first name b bytes c more d width e support p.0 q.0 r.0 s.0;
      read_second = four_read_second name b bytes c more d width e support p.0 q.0 r.0 s.0;
    }
read_four (name ∷ (b ∷ bytes) ∷ (c ∷ more) ∷ (d ∷ width) ∷ (e ∷ support) ∷ word ∷ words) plain = absurd (omega (arith, plain.all))

-- what `get_str` gives, from the rows of a parse
first_text : (f : Found) (id : Text) → first_value f id ≡ first_of id (rows_of f)
first_text f id = sym (ap (option_and_then (λ (r : Row). slice_get r.values 0)) (find_row f.entries.items id) ∙ go (find (λ e. bytes_eq e.0.now id) f.entries.items))
  where
    first_now : (vals : List (Bor Text)) → slice_get (map (λ s. s.now) vals) 0 ≡ option_map (λ s. s.now) (slice_get vals 0)
    first_now [] = refl
    first_now (v ∷ vs) = refl

    go : (o : Option Entry) → option_and_then (λ (r : Row). slice_get r.values 0) (option_map row_of o) ≡ option_and_then (λ a. option_map (λ s. s.now) (slice_get a.vals.items 0)) (option_map (λ e. e.1) o)
    go None = refl
    go (Some e) = first_now e.1.vals.items

-- a text that is read is there
pub text_is : (found : Option (Bor Text)) (f : Found) (id text : Text) → option_map (λ s. s.now) found ≡ first_value f id → first_of id (rows_of f) ≡ Some text → option_map (λ s. s.now) found ≡ Some text
text_is found f id text given read = given ∙ first_text f id ∙ read

pub text_there : (found : Option (Bor Text)) (text : Text) → option_map (λ s. s.now) found ≡ Some text → IsSome found
text_there None text is = absurd (none-some text is)
text_there (Some found) text is = refl

pub text_same : (found : Option (Bor Text)) (text : Text) (given : Bor Text) → option_map (λ s. s.now) found ≡ Some text → found ≡ Some given → text ≡ given.now
text_same found text given is there = let same : Some text ≡ Some given.now = sym is ∙ ap (option_map (λ s. s.now)) there in cc
