-- Paper 01, "Plain form": what the answer of a reading call stands for, from its head, its sheet and the text, as a caller has them.
use Rattle.std.specs.Prelude.{ℕ, zero, suc, ◌+◌, ◌-◌, ◌*◌, ◌&&◌, ◌≡◌, get_or, take, drop, Option, None, Some}
use Rattle.std.proofs.Math.Bool.{true, false}
use mathlib.Core.List.{List, [], ◌∷◌, map}
use Rattle.std.proofs.Math.Dec.{eqb}
use Rattle.chars.specs.Utf8.{decode}
use Rattle.lexer.specs.Tokens.{Span, span, unescape}
use Rattle.machine.specs.declared.Head.{Head}
use Rattle.language.specs.Machine.{Dir, left, right, stay}
use Rattle.language.specs.Content.{StateContent, ActionContent, RuleContent, Content}

-- an answer: the head that was returned, the words of the sheet, and the bytes of the text
pub record Answer : Type 0 where
  pub head : Head
  pub sheet : List ℕ
  pub text : List ℕ

-- the first words of a section's records, n of k words each
unfoldable pub groups : ℕ → ℕ → List ℕ → List (List ℕ)
groups k zero ws = []
groups k (suc n) ws = take k ws ∷ groups k n (drop k ws)

-- n records that each begin with their length
unfoldable pub records : ℕ → List ℕ → List (List ℕ)
records zero ws = []
records (suc n) ws = take (get_or ws 0 0) ws ∷ records n (drop (get_or ws 0 0) ws)

-- the i-th word
abbrev pub at : List ℕ → ℕ → ℕ
at ws i = get_or ws i 0

-- the place that stands in the words i and i + 1
abbrev pub place_at : List ℕ → ℕ → Span
place_at ws i = span (at ws i) (at ws (suc i))

-- the direction of a number
abbrev pub dir_of : ℕ → Dir
dir_of zero = left
dir_of (suc zero) = right
dir_of (suc (suc n)) = stay

-- the words of an action
unfoldable pub action_in : List ℕ → ActionContent
action_in ws = record { read = at ws 0; write = at ws 3; dir = dir_of (at ws 6) }

-- `text`: the bytes that places point into
module _ (text : List ℕ) where
  -- the characters at a place
  unfoldable pub characters_at : Span → List ℕ
  unfolding decode
  characters_at p = decode (take (p.end - p.start) (drop p.start text))

  -- the value of a string between its quotes
  unfoldable pub string_at : Span → List ℕ
  unfolding characters_at unescape
  string_at p = unescape (characters_at p)

  -- a comment, or none
  unfoldable pub comment_at : Span → Option (List ℕ)
  unfolding characters_at
  comment_at p = elim (eqb p.start 4294967295 && eqb p.end 4294967295) [ true ↦ None | false ↦ Some (characters_at p) ]

  -- a state from its words
  unfoldable pub state_in : List ℕ → StateContent
  unfolding characters_at
  state_in ws = record { name = characters_at (place_at ws 0); final = eqb (at ws 2) 1 }

  -- the text of a comment from the words of its place
  unfoldable pub text_in : List ℕ → List ℕ
  unfolding characters_at
  text_in ws = characters_at (place_at ws 0)

  -- a rule from its words
  unfoldable pub rule_in : List ℕ → RuleContent
  unfolding characters_at comment_at groups action_in text_in
  rule_in ws = record {
    from = characters_at (place_at ws 1);
    to = characters_at (place_at ws 3);
    comment = comment_at (place_at ws 7);
    leading = map text_in (groups 2 (at ws 10) (drop (11 + 7 * at ws 9) ws));
    actions = map action_in (groups 7 (at ws 9) (drop 11 ws));
  }

-- the machine that an answer stands for
unfoldable pub content_of_answer : Answer → Content
unfolding characters_at string_at state_in text_in rule_in groups records
content_of_answer a =
    let h = a.head in
    let t = a.text in
    let n = h.counts in
    let sigma = drop (3 * n.states) a.sheet in
    let gamma = drop (3 * n.sigma) sigma in
    let header = drop (3 * n.gamma + 2 * n.finals) gamma in
    let trailing = drop (2 * n.header) header in
    let rules = drop (2 * n.trailing) trailing in
    record {
      name = string_at t h.name;
      input = string_at t h.input;
      kind = h.kind;
      output = h.output;
      tapes = h.tapes;
      blank = h.blank;
      declared = h.declared;
      start = characters_at t h.start;
      states = map (state_in t) (groups 3 n.states a.sheet);
      sigma = map (λ ws. at ws 0) (groups 3 n.sigma sigma);
      gamma = map (λ ws. at ws 0) (groups 3 n.gamma gamma);
      header = map (text_in t) (groups 2 n.header header);
      trailing = map (text_in t) (groups 2 n.trailing trailing);
      rules = map (rule_in t) (records n.rules rules);
    }

-- two answers agree when they stand for the same machine
abbrev pub Agree : Answer → Answer → Type 0
Agree a b = content_of_answer a ≡ content_of_answer b
