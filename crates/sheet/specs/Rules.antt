-- Rules: their expansion into words, and how many words they take, over the lines of a row with entries.
use Rattle.std.specs.Prelude.{ℕ, ◌+◌, ◌-◌, ◌*◌, ◌%◌, ◌^◌, ◌<◌, ◌≤◌, cond, List, [], ◌∷◌, ◌++◌, length, take, drop, ◌==◌}
use Rattle.tokens.specs.declared.Token.{Token}
use Rattle.parser.specs.Row.{peek}
use Rattle.diag.specs.declared.Span.{Span}
use Rattle.language.specs.Assembly.{choices}
use Rattle.language.specs.Layout.{flat, rule_length, place_words, no_place}
use Rattle.assembler.specs.Rows.{place_of}
use Rattle.assembler.specs.Entries.{Entry, entries}
use Rattle.assembler.specs.Rules.{combinations}
use Rattle.sheet.specs.declared.comments.Pending.{Pending}
use Rattle.sheet.specs.declared.rules.Rule.{Rule}
use Rattle.sheet.specs.Comments.{text_of, text_words, between, nothing, passed, lead_from}
use Rattle.sheet.specs.Wheels.{read_sets, entries_of}
use Rattle.lexer.specs.KindWords as kinds
use Rattle.assembler.specs.EntryNumbers as entry

-- ---- what a token says

-- the character of a symbol: `_` and bare `␣` are the blank, a digit has its value, all others stand for themselves
unfoldable pub resolve : ℕ → Token → ℕ
resolve b t =
    cond (t.kind == kinds.word) (cond (t.value == 0x5F) b t.value)
    (cond (t.kind == kinds.number) ((0x30 + t.value) % 2 ^ 32)
    (cond (t.kind == kinds.other) (cond (t.value == 0x2423) b t.value) t.value))

-- what is written where r is read: `*` writes it back
unfoldable pub written : ℕ → Token → Token → ℕ
unfolding resolve
written b r w = cond (w.kind == kinds.star) (resolve b r) (resolve b w)

-- L 0, R 1, N 2
unfoldable pub move_of : Token → ℕ
move_of t = cond (t.value == 0x4C) 0 (cond (t.value == 0x52) 1 2)

-- ---- a rule's line

-- where a list of entries, or the one entry, begins: `(` is passed over
unfoldable pub first_entry : List Token → ℕ → ℕ
first_entry ts i = cond ((peek ts i).kind == kinds.l_paren) (i + 1) i

-- the parts of the rule whose line begins at the index i: the comma behind `from` holds the
-- indices of `to`, of the writes and of the moves
unfoldable pub rule_at : List Token → ℕ → ℕ → Rule
unfolding first_entry
rule_at ts i n =
    let q = peek ts (i + entry.parts) in record { line = i; to = q.start; write = first_entry ts q.end; dir = first_entry ts q.value; tapes = n }

-- the read sets of the rule whose line begins at the index i: the `(` behind its first token holds their number
unfoldable pub sets_of : List Token → ℕ → List (List Token)
unfolding read_sets first_entry
sets_of ts i = read_sets (peek ts (i + entry.counts)).start (drop (first_entry ts (i + entry.read)) ts)

-- the place of a rule's own comment, which stands before its line feed
unfoldable pub own_place : List Token → ℕ → Span
own_place ts i =
    let n = (peek ts i).value in
    let c = peek ts (n - 1) in
    cond (n == 0) no_place (cond (c.kind == kinds.comment) (text_of c) no_place)

-- ---- the words of a rule

-- a tape: r is read, w written, d the move
unfoldable pub tape_words : ℕ → Token → Token → Token → List ℕ
unfolding resolve written move_of
tape_words b r w d = resolve b r ∷ place_words (place_of r) ++ written b r w ∷ place_words (place_of w) ++ move_of d ∷ []

-- the tapes of a choice; writes and moves stand at every second index from w and d on
unfoldable pub tapes_words : ℕ → List Token → ℕ → ℕ → List Token → List ℕ
unfolding tape_words
tapes_words b ts w d [] = []
tapes_words b ts w d (r ∷ rs) = tape_words b r (peek ts w) (peek ts d) ++ tapes_words b ts (w + 2) (d + 2) rs

-- the places of from, to, line and comment
unfoldable pub places_words : List Token → Rule → Span → List ℕ
places_words ts r c = place_words (place_of (peek ts (r.line + entry.from))) ++ place_words (place_of (peek ts r.to)) ++ place_words (place_of (peek ts r.line)) ++ place_words c

-- a rule's length, the places of from, to, line and comment, arity and leading count
unfoldable pub head_words : List Token → Rule → Span → ℕ → ℕ → List ℕ
unfolding places_words
head_words ts r c n k = rule_length n k ∷ places_words ts r c ++ n ∷ k ∷ []

-- the rule of a choice: the words up to its tapes, its tapes, its leading comments
unfoldable pub rule_words : ℕ → List Token → Rule → Span → List Token → List Token → List ℕ
unfolding head_words tapes_words flat
rule_words b ts r c cs rs = head_words ts r c (length rs) (length cs) ++ (tapes_words b ts r.write r.dir rs ++ flat text_words cs)

-- what writing a rule asks for: its line is one of the tokens', of which there are few, and its tapes are no more than they
pub record Placed (count : ℕ) (r : Rule) : Type 0 where
  pub line : r.line < count
  pub few : r.tapes ≤ count
  pub small : 9 * count + 11 < 2 ^ 32
  pub write : r.write ≤ 2 ^ 32
  pub dir : r.dir ≤ 2 ^ 32

-- the indices of what the rule at the line reads
unfoldable pub entries_read : List Token → ℕ → List ℕ
unfolding entries_of first_entry
entries_read ts i = entries_of ts (peek ts (i + entry.counts)).start (first_entry ts (i + entry.read))

-- the comments go to the first rule
unfoldable pub dressed : ℕ → List Token → Rule → Span → List Token → List (List Token) → List ℕ
unfolding rule_words flat
dressed b ts r c cs [] = []
dressed b ts r c cs (rs ∷ more) = rule_words b ts r c cs rs ++ flat (rule_words b ts r no_place []) more

-- the rules that the line at the index i stands for; the comments that lead it begin at the index l
unfoldable pub expanded : ℕ → List Token → ℕ → ℕ → List ℕ
unfolding dressed rule_at own_place between choices sets_of
expanded b ts l i = dressed b ts (rule_at ts i (length (sets_of ts i))) (own_place ts i) (between ts l i) (choices (sets_of ts i))

-- the rules of the line at the index i, if it begins with a rule's entry
unfoldable pub line_rules : ℕ → List Token → Pending → ℕ → Token → List ℕ
unfolding expanded lead_from
line_rules b ts p i t = cond (t.kind == entry.rule) (expanded b ts (lead_from p) i) []

-- the rules of some lines, in front of which p is pending
unfoldable pub rules_from : ℕ → List Token → Pending → List Entry → List ℕ
unfolding line_rules passed
rules_from b ts p [] = []
rules_from b ts p (e ∷ es) = line_rules b ts p e.at e.first ++ rules_from b ts (passed p e.at e.first) es

-- the rules of a row
unfoldable pub rules : ℕ → List Token → List ℕ
unfolding rules_from entries
rules b ts = rules_from b ts nothing (entries ts)

-- ---- how many words the rules take, without expanding them

-- what the rule of the line at the index i reads: the tokens up to its next state
unfoldable pub read_tokens : List Token → ℕ → List Token
read_tokens ts i = take ((peek ts (i + entry.parts)).start - (i + entry.read)) (drop (i + entry.read) ts)

-- how many words the rules of a line take: the comments go to the first of them
unfoldable pub line_length : List Token → Pending → ℕ → Token → ℕ
unfolding read_tokens combinations between lead_from
line_length ts p i t =
    cond (t.kind == entry.rule) (combinations (read_tokens ts i) * rule_length (peek ts (i + entry.counts)).start 0 + 2 * length (between ts (lead_from p) i)) 0

-- how many words the rules of some lines take, in front of which p is pending
unfoldable pub lengths_from : List Token → Pending → List Entry → ℕ
unfolding line_length passed
lengths_from ts p [] = 0
lengths_from ts p (e ∷ es) = line_length ts p e.at e.first + lengths_from ts (passed p e.at e.first) es

-- how many words the rules of a row take
unfoldable pub rule_lengths : List Token → ℕ
unfolding lengths_from entries
rule_lengths ts = lengths_from ts nothing (entries ts)
