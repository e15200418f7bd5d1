-- Words that a command takes, and the commands that take as many.
use Rattle.std.specs.Prelude.{◌≡◌, ℕ, ◌+◌, true, List, IsTrue, codes, drop, length}
use Rattle.std.specs.List.{list_all}
use Rattle.clap.specs.Words.{App, Rule, new_app, new_rule, with_rule}
use Rattle.call_words.specs.Words.{is_plain}

-- behind the first there are that many words, each of which is plain
pub record ArePlain (count : ℕ) (words : List (List ℕ)) : Type 0 where
  pub all : length words ≡ count + 1
  pub plain : IsTrue (list_all is_plain (drop 1 words))

-- ---- commands, each with the arguments that it wants

abbrev pub wanted : List ℕ → Rule
wanted id = record (new_rule id) { required = true }

abbrev pub one_word : App
one_word = with_rule (new_app (codes "run")) (wanted (codes "PROJECT"))

abbrev pub two_words : App
two_words = with_rule (with_rule (new_app (codes "check")) (wanted (codes "PROJECT"))) (wanted (codes "CERT"))

abbrev pub three_words : App
three_words =
    with_rule (with_rule (with_rule (new_app (codes "consistent")) (wanted (codes "PROJECT"))) (wanted (codes "ASKED"))) (wanted (codes "BUDGET"))

abbrev pub four_words : App
four_words =
    with_rule (with_rule (with_rule (with_rule (new_app (codes "find")) (wanted (codes "PROJECT"))) (wanted (codes "TABLE"))) (wanted (codes "WIDTH"))) (wanted (codes "SUPPORT"))
