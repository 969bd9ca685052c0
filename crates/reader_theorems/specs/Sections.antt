-- The sections of the sheet before the rules, over the row of a text with entries.
use Rattle.std.specs.Prelude.{ℕ, ◌+◌, List, ◌++◌, length, get_or}
use Rattle.tokens.specs.declared.Token.{Token}
use Rattle.language.specs.Layout.{flat}
use Rattle.parser.specs.ItemNumbers as items
use Rattle.sheet.specs.Comments.{text_words, header, trailing}
use Rattle.infer.specs.States.{state_section, final_section}
use Rattle.infer_symbols.specs.Alphabets.{gamma_codes, sigma_words, gamma_words}

-- the words of each
pub record Sections : Type 0 where
  pub states : List ℕ
  pub sigma : List ℕ
  pub gamma : List ℕ
  pub finals : List ℕ
  pub header : List ℕ
  pub trailing : List ℕ

-- the sections of a text in the words w, with the row ts and its first declarations; b is the blank
unfoldable pub sections_of : List ℕ → ℕ → List Token → List ℕ → List ℕ → Sections
unfolding state_section gamma_codes sigma_words gamma_words final_section header trailing flat
sections_of text b ts first w =
    let cs = gamma_codes text b ts first in
    record {
      states = state_section (length text + 1) ts first w;
      sigma = sigma_words b ts first cs;
      gamma = gamma_words b ts first cs;
      finals = final_section ts (get_or first items.final 0);
      header = flat text_words (header ts);
      trailing = flat text_words (trailing ts);
    }

-- the words of the sections, one behind the other
abbrev pub joined : Sections → List ℕ
joined s = s.states ++ (s.sigma ++ (s.gamma ++ (s.finals ++ (s.header ++ s.trailing))))
