-- The states of a row with entries. Of two more rows, the one holds at a word's index that of the first word with the same
-- characters, the other a mark for each of these: 1 if F lists the name, and 2 more once it was met.
use Rattle.std.specs.Prelude.{ℕ, ◌+◌, ◌*◌, ◌<◌, ◌≤◌, ◌≡◌, Bool, true, false, cond, List, [], ◌∷◌, ◌++◌, eqb, ltb, length, get_or, take, drop, set, replicate}
use Rattle.tokens.specs.declared.Token.{Token}
use Rattle.language.specs.Layout.{flat, place_words}
use Rattle.parser.specs.Row.{peek}
use Rattle.parser.specs.Views.{is_state}
use Rattle.assembler.specs.Rows.{rows, place_of}
use Rattle.assembler.specs.Entries.{Entry, entry_at, entries}
use Rattle.assembler.specs.Feeds.{Fed}
use Rattle.diag.specs.declared.Span.{Span}
use Rattle.infer.specs.Page.{indices_in}
use Rattle.parser.specs.ItemNumbers as items
use Rattle.assembler.specs.EntryNumbers as entry

-- the two rows stand in the words w behind the tokens, whose lines end at their line feeds, and what the first
-- holds of a state is an index of the second
pub record Scratch (size count : ℕ) (w : List ℕ) : Type 0 where
  pub few : count ≤ size
  pub room : 6 * size ≤ length w
  pub fed : Fed (rows count w)
  pub low : (x : ℕ) → x < count → is_state (peek (rows count w) x) ≡ true → get_or w (4 * size + x) 0 < size

-- what a row of first equal words holds of a state is an index of that row
abbrev pub Inside : ℕ → List Token → List ℕ → Type 0
Inside count ts firsts = (x : ℕ) → x < count → is_state (peek ts x) ≡ true → get_or firsts x 0 < length firsts

-- the first equal words that stand in w
abbrev pub firsts_in : ℕ → List ℕ → List ℕ
firsts_in size w = drop (4 * size) (take (5 * size) w)

-- the marks that stand in w
abbrev pub marks_in : ℕ → List ℕ → List ℕ
marks_in size w = drop (5 * size) w

-- the mark of the name at x
abbrev pub mark_of : List ℕ → List ℕ → ℕ → ℕ
mark_of firsts marks x = get_or marks (get_or firsts x 0) 0

-- no name of n tokens is marked
unfoldable pub unmarked : ℕ → List ℕ → List ℕ
unmarked n marks = replicate n 0 ++ drop n marks

module _ (firsts : List ℕ) (ts : List Token) where
  -- the name at x is listed in F
  unfoldable pub list_final : List ℕ → ℕ → List ℕ
  list_final marks x = cond (is_state (peek ts x)) (set marks (get_or firsts x 0) 1) marks

  -- the names at some indices are listed in F
  unfoldable pub list_finals : List ℕ → List ℕ → List ℕ
  unfolding list_final
  list_finals marks [] = marks
  list_finals marks (x ∷ xs) = list_finals (list_final marks x) xs

  -- the names that F of the first declarations lists
  unfoldable pub finals : List ℕ → List ℕ → List ℕ
  unfolding unmarked list_finals indices_in
  finals first marks = list_finals (unmarked (length ts) marks) (indices_in ts (get_or first items.final 0))

-- a state's words: its place, and 1 if it is final
abbrev pub name_words : Token → ℕ → List ℕ
name_words t m = t.start ∷ t.end ∷ m ∷ []

module _ (firsts : List ℕ) (ts : List Token) where
  -- what the name at x adds to the sheet: it is stored where it is met for the first time;
  -- again, but not final, where Q repeats it
  unfoldable pub name_adds : Bool → List ℕ → ℕ → List ℕ
  name_adds repeats marks x =
      let m = mark_of firsts marks x in
      cond (is_state (peek ts x)) (cond (ltb m 2) (name_words (peek ts x) m) (cond repeats (name_words (peek ts x) 0) [])) []

  -- the marks behind the name at x
  unfoldable pub name_marks : List ℕ → ℕ → List ℕ
  name_marks marks x =
      let m = mark_of firsts marks x in
      cond (is_state (peek ts x)) (cond (ltb m 2) (set marks (get_or firsts x 0) (m + 2)) marks) marks

  -- all names at some indices
  unfoldable pub names_add : Bool → List ℕ → List ℕ → List ℕ
  unfolding name_adds name_marks
  names_add repeats marks [] = []
  names_add repeats marks (x ∷ xs) = name_adds repeats marks x ++ names_add repeats (name_marks marks x) xs

  -- the marks behind the names at some indices
  unfoldable pub names_mark : List ℕ → List ℕ → List ℕ
  unfolding name_marks
  names_mark marks [] = marks
  names_mark marks (x ∷ xs) = names_mark (name_marks marks x) xs

-- the names that a rule mentions: from, and to, whose index its comma holds
unfoldable pub mention : List Token → Entry → List ℕ
mention ts e = cond (eqb e.first.kind entry.rule) ((e.at + entry.from) ∷ (peek ts (e.at + entry.parts)).start ∷ []) []

-- the names that the rules among some lines mention
unfoldable pub mentions : List Token → List Entry → List ℕ
unfolding mention
mentions ts [] = []
mentions ts (e ∷ es) = mention ts e ++ mentions ts es

-- the names that the line at an index mentions
abbrev pub mention_at : List Token → ℕ → List ℕ
mention_at ts e = mention ts (entry_at ts e)

-- the names that all rules of a row mention
abbrev pub all_mentions : List Token → List ℕ
all_mentions ts = mentions ts (entries ts)

-- a declared start
unfoldable pub start_name : List Token → ℕ → List ℕ
start_name ts s = cond (ltb s (length ts)) ((s + entry.value) ∷ []) []

-- the states where Q is not declared: the start (s), from and to of each rule, then F (f)
unfoldable pub inferred : List Token → ℕ → ℕ → List ℕ
unfolding start_name mentions entries indices_in
inferred ts s f = start_name ts s ++ (all_mentions ts ++ indices_in ts f)

module _ (firsts : List ℕ) (ts : List Token) (first : List ℕ) where
  -- the states, from the first declarations, once the finals are marked: those of a declared Q, each time; or inferred
  unfoldable pub states_add : List ℕ → List ℕ
  unfolding names_add indices_in inferred
  states_add marks =
      cond (ltb (get_or first items.states 0) (length ts)) (names_add firsts ts true marks (indices_in ts (get_or first items.states 0)))
      (names_add firsts ts false marks (inferred ts (get_or first items.start 0) (get_or first items.final 0)))

  -- the marks behind the states of the first declarations
  unfoldable pub states_mark : List ℕ → List ℕ
  unfolding names_mark indices_in inferred
  states_mark marks =
      cond (ltb (get_or first items.states 0) (length ts)) (names_mark firsts ts marks (indices_in ts (get_or first items.states 0)))
      (names_mark firsts ts marks (inferred ts (get_or first items.start 0) (get_or first items.final 0)))

  -- the section of states: before them, the names that F lists are marked
  unfoldable pub section : List ℕ → List ℕ
  unfolding states_add finals
  section marks = states_add (finals firsts ts first marks)

-- the section of states, with the two rows in w
unfoldable pub state_section : ℕ → List Token → List ℕ → List ℕ → List ℕ
unfolding section
state_section size ts first w = section (firsts_in size w) ts first (marks_in size w)

-- the place of the token at x, if a state stands there
unfoldable pub place_at : List Token → ℕ → List ℕ
place_at ts x = cond (is_state (peek ts x)) (place_words (place_of (peek ts x))) []

-- the section of finals: the place of each name that the line at f lists
unfoldable pub final_section : List Token → ℕ → List ℕ
unfolding flat place_at indices_in
final_section ts f = flat (place_at ts) (indices_in ts f)

-- the place of the first state, whose section stands in the sheet from the index i to before j; 4294967295 twice if there is none
unfoldable pub first_state : List ℕ → ℕ → ℕ → Span
first_state o i j = cond (ltb i j) (record { start = get_or o i 0; end = get_or o (i + 1) 0 }) (record { start = 0xffffffff; end = 0xffffffff })
