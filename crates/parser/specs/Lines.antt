-- Paper 01, "parser.rs, lines", over the tokens that stand in a row: `p ts i` reads from the index i on.
use Rattle.std.specs.Prelude.{ℕ, zero, suc, ◌+◌, ◌-◌, Bool, true, false, cond, List, [], ◌∷◌, eqb, length, drop, Option, Some, None, Result, Ok, Err}
use Rattle.lexer.specs.KeywordValues as keywords
use Rattle.lexer.specs.KindWords as kinds
use Rattle.parser.specs.Row.{peek}
use Rattle.parser.specs.Views.{span_of, is_kind, is_choice, is_state, is_symbol, is_write, is_direction, is_text, keyword_of, lead_of}
use Rattle.tokens.specs.declared.Token.{Token}
use Rattle.diag.specs.declared.Span.{Span}
unfoldable pub use Rattle.diag.specs.Codes.{code_number}
use Rattle.diag.specs.declared.Code.{Code}
use Rattle.diag.specs.declared.Code.TheVariants.{Unexpected, UnterminatedString, NoDirection}
use Rattle.parser.specs.declared.Failure.{Failure}
use Rattle.parser.specs.declared.Parts.{Parts}
use Rattle.parser.specs.declared.ItemKind.{ItemKind}
use Rattle.parser.specs.declared.ItemKind.TheVariants.{Machine, Kind, Input, Output, Tapes, States, InputAlphabet, TapeAlphabet, Blank, Start, Final, Transition}
use Rattle.parser.specs.declared.Lead.{Lead}
use Rattle.parser.specs.declared.Lead.TheVariants.{Equals, Nothing, Whole}
use Rattle.parser.specs.declared.Item.{Item}
use Rattle.parser.specs.declared.Line.{Line}
use Rattle.parser.specs.declared.Line.TheVariants.{Blank as NoItem, Comment as Remark, Item as AnItem}

-- what is read from an index on: the index behind it and what it makes, or why not
abbrev pub Parsed : Type 0 → Type 0
Parsed A = Result (ℕ × A) Failure

-- what was read up to the index i, with what it makes
pattern abbrev pub Done : {A : Type 0} → ℕ → A → Parsed A
Done i a = Ok (i, a)

-- a failure with its code and place
abbrev pub Failed : {A : Type 0} → Code → Span → Result A Failure
Failed c s = Err (record { code = c; span = s })

-- a parser: it makes a count of entries
abbrev pub Parser : Type 0
Parser = List Token → ℕ → Parsed ℕ

-- go on behind what was read, or keep the failure
unfoldable pub then : {A B : Type 0} → Parsed A → (ℕ → A → Result B Failure) → Result B Failure
then (Done i a) f = f i a
then (Err bad) f = Err bad

-- the code of a token that is not what is due: E002 for an unterminated string, else E001
unfoldable pub code_of : Token → Code
code_of t = cond (eqb t.kind kinds.unterminated_string) UnterminatedString Unexpected

-- the failure at a token that is not what is due
unfoldable pub unexpected : Token → Failure
unfolding code_of
unexpected t = record { code = code_of t; span = span_of t }

-- one token that passes a test
unfoldable pub one : (Token → Bool) → Parser
unfolding unexpected
one f ts i = cond (f (peek ts i)) (Done (i + 1) 1) (Err (unexpected (peek ts i)))

-- where a direction is due, what is none is E008
unfoldable pub direction : Parser
unfolding unexpected is_direction is_text
direction ts i =
    let t = peek ts i in
    cond (is_direction t) (Done (i + 1) 1) (cond (is_text t) (Failed NoDirection (span_of t)) (Err (unexpected t)))

-- behind an entry: a comma, and 1 for more to come; or the closing sign, and 0
unfoldable pub separator : ℕ → Parser
unfolding unexpected
separator close ts i =
    let t = peek ts i in
    cond (eqb t.kind kinds.comma) (Done (i + 1) 1) (cond (eqb t.kind close) (Done (i + 1) 0) (Err (unexpected t)))

-- entries of p parted by commas up to a sign of the kind `close`, where n stand before, and no more than k follow
unfoldable pub entries_from : Parser → ℕ → List Token → ℕ → ℕ → ℕ → Parsed ℕ
unfolding then unexpected separator
entries_from p close ts zero i n = Err (unexpected (peek ts i))
entries_from p close ts (suc k) i n =
    then (p ts i) λ j _.
    then (separator close ts j) λ next more. elim (eqb more 0) [ true ↦ Done next (n + 1) | false ↦ entries_from p close ts k next (n + 1) ]

-- all entries: each takes a token, so there are no more of them than tokens
unfoldable pub entries : Parser → ℕ → List Token → ℕ → ℕ → Parsed ℕ
unfolding entries_from
entries p close ts i n = entries_from p close ts (suc (length ts)) i n

-- a set that may be empty
unfoldable pub set : Parser → Parser
unfolding then one is_kind entries
set p ts i = then (one (is_kind kinds.l_brace) ts i) λ j _. cond (eqb (peek ts j).kind kinds.r_brace) (Done (j + 1) 0) (entries p kinds.r_brace ts j 0)

-- one entry, or several in parentheses
unfoldable pub tuple : Parser → Parser
unfolding entries
tuple p ts i = cond (eqb (peek ts i).kind kinds.l_paren) (entries p kinds.r_paren ts (i + 1) 0) (p ts i)

-- what a rule reads on one tape: a symbol, or a set that is not empty
unfoldable pub read_entry : Parser
unfolding then one is_symbol entries
read_entry ts i =
    cond (eqb (peek ts i).kind kinds.l_brace)
    (then (entries (one is_symbol) kinds.r_brace ts (i + 1) 0) λ j _. Done j 1)
    (one is_symbol ts i)

-- how the output is read: word, unary and a symbol, or binary and lsb or msb
unfoldable pub output : Parser
unfolding then one is_choice is_symbol
output ts i =
    then (one (is_choice keywords.word keywords.binary) ts i) λ j _.
    let v = (peek ts i).value in
    cond (eqb v keywords.unary) (one is_symbol ts j) (cond (eqb v keywords.binary) (one (is_choice keywords.lsb keywords.msb) ts j) (Done j 1))

-- `(`, a state and a comma
unfoldable pub side : Parser
unfolding then one is_kind is_state
side ts i = then (one (is_kind kinds.l_paren) ts i) λ j _. then (one is_state ts j) λ k _. one (is_kind kinds.comma) ts k

-- `)` and `=`
unfoldable pub equals : Parser
unfolding then one is_kind
equals ts i = then (one (is_kind kinds.r_paren) ts i) λ j _. one (is_kind kinds.eq) ts j

-- the parts of a rule's left side alone
abbrev pub left_parts : ℕ → ℕ → ℕ → Parts
left_parts i j n = record { from = i; read = j; reads = n; to = 0; write = 0; writes = 0; dir = 0; dirs = 0 }

-- no parts
abbrev pub no_parts : Parts
no_parts = left_parts 0 0 0

-- δ(FROM, READ) =
unfoldable pub left : List Token → ℕ → Parsed Parts
unfolding then one is_kind side tuple read_entry equals
left ts i =
    then (one (is_kind kinds.word) ts i) λ j _.
    then (side ts j) λ read _.
    then (tuple read_entry ts read) λ k reads.
    then (equals ts k) λ end _.
    Done end (left_parts (j + 1) read reads)

-- (TO, WRITE, MOVE)
unfoldable pub right : Parts → List Token → ℕ → Parsed Parts
unfolding then side tuple one is_write is_kind direction
right l ts i =
    then (side ts i) λ write _.
    then (tuple (one is_write) ts write) λ j writes.
    then (one (is_kind kinds.comma) ts j) λ dir _.
    then (tuple direction ts dir) λ k dirs.
    then (one (is_kind kinds.r_paren) ts k) λ end _.
    Done end (record { from = l.from; read = l.read; reads = l.reads; to = i + 1; write = write; writes = writes; dir = dir; dirs = dirs })

-- a rule, with δ
unfoldable pub transition : List Token → ℕ → Parsed Parts
unfolding then left right
transition ts i = then (left ts i) λ j l. right l ts j

-- a value that has no parts
unfoldable pub plain : Parsed ℕ → Parsed Parts
unfolding then
plain p = then p λ end _. Done end no_parts

-- the value of an item
unfoldable pub value : ItemKind → List Token → ℕ → Parsed Parts
unfolding plain one is_kind is_choice is_state is_symbol set output transition
value Machine ts i = plain (one (is_kind kinds.str) ts i)
value Kind ts i = plain (one (is_choice keywords.acceptor keywords.beaver) ts i)
value Input ts i = plain (one (is_kind kinds.str) ts i)
value Output ts i = plain (output ts i)
value Tapes ts i = plain (one (is_kind kinds.number) ts i)
value States ts i = plain (set (one is_state) ts i)
value InputAlphabet ts i = plain (set (one is_symbol) ts i)
value TapeAlphabet ts i = plain (set (one is_symbol) ts i)
value Blank ts i = plain (one is_symbol ts i)
value Start ts i = plain (one is_state ts i)
value Final ts i = plain (set (one is_state) ts i)
value Transition ts i = transition ts i

-- from the start of one token to the end of the last before the index j
abbrev pub spanning : List Token → ℕ → ℕ → Span
spanning ts i j = record { start = (peek ts i).start; end = (peek ts (j - 1)).end }

-- the index of what ends the line behind an item: one further where a comment stands first
unfoldable pub newline_at : List Token → ℕ → ℕ
newline_at ts i = cond (eqb (peek ts i).kind kinds.comment) (i + 1) i

-- what a line is, or why it is refused
abbrev pub Answer : Type 0
Answer = Result Line Failure

-- a line that holds nothing
pattern abbrev pub Empty : Answer
Empty = Ok NoItem

-- a line that is a comment alone, at the index i
pattern abbrev pub Comment : ℕ → Answer
Comment i = Ok (Remark i)

-- a line that holds an item
pattern abbrev pub Read : Item → Answer
Read x = Ok (AnItem x)

-- an item that stands from the index i on, with its value from the index v to j, which the line's end must follow
unfoldable pub finish : ItemKind → List Token → ℕ → ℕ → ℕ → Parts → Answer
unfolding unexpected newline_at
finish k ts i v j q =
    let n = newline_at ts j in
    cond (eqb (peek ts n).kind kinds.newline)
    (Read (record { kind = k; value = v; end = j; newline = n; span = spanning ts i j; value_span = spanning ts v j; parts = q }))
    (Err (unexpected (peek ts n)))

-- where the value of an item begins: behind the keyword, behind `=` where it is due, or with the keyword for a rule
unfoldable pub value_at : Lead → Parser
unfolding one is_kind
value_at Equals ts i = one (is_kind kinds.eq) ts (i + 1)
value_at Nothing ts i = Done (i + 1) 0
value_at Whole ts i = Done i 0

-- an item of a kind, whose keyword stands at the index i
unfoldable pub item_of : ItemKind → List Token → ℕ → Answer
unfolding then lead_of value_at value finish
item_of k ts i = then (value_at (lead_of k) ts i) λ v _. then (value k ts v) λ j q. finish k ts i v j q

-- what a token that starts an item, or no item, makes of its line
unfoldable pub item_from : Option ItemKind → List Token → ℕ → Answer
unfolding item_of unexpected
item_from (Some k) ts i = item_of k ts i
item_from None ts i = Err (unexpected (peek ts i))

-- an item, with its comment and the line's end
unfoldable pub item : List Token → ℕ → Answer
unfolding keyword_of item_from
item ts i = item_from (keyword_of (peek ts i)) ts i

-- a comment with nothing behind it
unfoldable pub is_comment : List Token → ℕ → Bool
is_comment ts i = cond (eqb (peek ts i).kind kinds.comment) (eqb (peek ts (i + 1)).kind kinds.newline) false

-- the line that begins at the index i
unfoldable pub line : List Token → ℕ → Answer
unfolding is_comment item
line ts i = cond (eqb (peek ts i).kind kinds.newline) Empty (cond (is_comment ts i) (Comment i) (item ts i))

-- how many tokens stand before the first line feed
unfoldable pub line_length : List Token → ℕ
line_length [] = 0
line_length (t ∷ r) = elim (eqb t.kind kinds.newline) [ true ↦ 0 | false ↦ suc (line_length r) ]

-- the index of the line feed that ends the line
unfoldable pub line_end : List Token → ℕ → ℕ
unfolding line_length
line_end ts i = i + line_length (drop i ts)
