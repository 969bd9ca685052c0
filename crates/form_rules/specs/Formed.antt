-- What the form of a rule asks of its words: symbols are scalar values, names and comments are UTF-8.
use Rattle.std.specs.Prelude.{ℕ, true, List, [], ◌∷◌, ◌≡◌}
use Rattle.std.specs.Coded.{×_prop, Unit-prop}
use Rattle.std.proofs.Props.{props}
use Rattle.chars.specs.Decoded.{scalars}
use Rattle.language.specs.Agreement.{groups}
use Rattle.sheet_view.specs.Rules.{from_of, to_of, comment_of, arity_of, leading_count_of, actions_from, leading_from}
use Rattle.form_lists.specs.Places.{Every, Utf8At, NameIn, column}

-- a rule of the sheet
pub record RuleFormed (text ws : List ℕ) : Type 0 where
  pub from : Utf8At text (from_of ws)
  pub to : Utf8At text (to_of ws)
  pub comment : Utf8At text (comment_of ws)
  pub reads : scalars (column 7 0 (arity_of ws) (actions_from ws)) ≡ true
  pub writes : scalars (column 7 3 (arity_of ws) (actions_from ws)) ≡ true
  pub leading : Every (NameIn text) (groups 2 (leading_count_of ws) (leading_from ws))

-- that names are UTF-8 can be so in one way only
name_one : (text ws : List ℕ) → IsProp (NameIn text ws)
name_one text ws = hlevel props

-- that the names of a list are UTF-8 can be so in one way only
pub names_one : (text : List ℕ) (l : List (List ℕ)) → IsProp (Every (NameIn text) l)
names_one text [] = Unit-prop
names_one text (ws ∷ l) = ×_prop (name_one text ws) (names_one text l)

-- that a rule is well formed can be so in one way only
pub formed_one : (text ws : List ℕ) → IsProp (RuleFormed text ws)
formed_one text ws = hlevel (props, names_one)
