-- The row once the result of each line stands in the line's first token.
use Rattle.std.specs.Prelude.{ℕ, suc, ◌+◌, ◌<◌, ◌^◌, List, [], ◌∷◌, ◌++◌, take, drop, set, Err}
use Rattle.tokens.specs.declared.Token.{Token}
use Rattle.diag.specs.declared.Span.{Span}
use Rattle.parser.specs.declared.Parts.{Parts}
use Rattle.parser.specs.declared.ItemKind.{ItemKind}
use Rattle.parser.specs.declared.ItemKind.TheVariants.{Machine, Kind, Input, Output, Tapes, States, InputAlphabet, TapeAlphabet, Blank, Start, Final, Transition}
use Rattle.parser.specs.declared.Item.{Item}
use Rattle.parser.specs.Row.{peek}
use Rattle.parser.specs.Lines.{Answer, Empty, Comment, Read, line, line_end, code_number}
use Rattle.assembler.specs.Entries.{behind}
use Rattle.lexer.specs.KindWords as kinds
use Rattle.parser.specs.ItemNumbers as items
use Rattle.assembler.specs.EntryNumbers as entry

-- a token's words
abbrev pub words_of : Token → List ℕ
words_of t = t.kind ∷ t.start ∷ t.end ∷ t.value ∷ []

-- the words of a row
unfoldable pub flat : List Token → List ℕ
flat [] = []
flat (t ∷ ts) = words_of t ++ flat ts

-- the items in the source's order
unfoldable pub item_number : ItemKind → ℕ
item_number Machine = items.machine
item_number Kind = items.kind
item_number Input = items.input
item_number Output = items.output
item_number Tapes = items.tapes
item_number States = items.states
item_number InputAlphabet = items.input_alphabet
item_number TapeAlphabet = items.tape_alphabet
item_number Blank = items.blank
item_number Start = items.start
item_number Final = items.final
item_number Transition = items.transition

-- the entry of an item in the line that begins at the index i: its kind, its place, and the index of the line feed
unfoldable pub item_entry : ℕ → Item → Token
unfolding item_number
item_entry i x = record { kind = entry.item + item_number x.kind; start = x.span.start; end = x.span.end; value = i + x.newline }

-- the entry of a line that failed
unfoldable pub failed_entry : ℕ → ℕ → Span → ℕ → Token
failed_entry i c s n = record { kind = entry.failed + c; start = s.start; end = s.end; value = i + n }

-- a rule's `(` holds the numbers of its reads, writes and moves
abbrev pub counts_of : Parts → Token
counts_of q = record { kind = kinds.l_paren; start = q.reads; end = q.writes; value = q.dirs }

-- the comma behind a rule's state holds the indices of the next state, the writes and the moves
abbrev pub parts_of : ℕ → Parts → Token
parts_of i q = record { kind = kinds.comma; start = i + q.to; end = i + q.write; value = i + q.dir }

-- the parts of a rule that begins at the index i fit into words
pub record PartsFit (i : ℕ) (q : Parts) : Type 0 where
  pub reads : q.reads < 2 ^ 32
  pub writes : q.writes < 2 ^ 32
  pub dirs : q.dirs < 2 ^ 32
  pub to : i + q.to < 2 ^ 32
  pub write : i + q.write < 2 ^ 32
  pub dir : i + q.dir < 2 ^ 32

-- the parts of a rule in its row
unfoldable pub with_parts : ItemKind → ℕ → Parts → List Token → List Token
with_parts Machine i q ts = ts
with_parts Kind i q ts = ts
with_parts Input i q ts = ts
with_parts Output i q ts = ts
with_parts Tapes i q ts = ts
with_parts States i q ts = ts
with_parts InputAlphabet i q ts = ts
with_parts TapeAlphabet i q ts = ts
with_parts Blank i q ts = ts
with_parts Start i q ts = ts
with_parts Final i q ts = ts
with_parts Transition i q ts = set (set ts entry.counts (counts_of q)) entry.parts (parts_of i q)

-- a line entered in the tokens from its first on
unfoldable pub enter_as : Answer → ℕ → List Token → List Token
unfolding item_entry failed_entry with_parts
enter_as Empty i ts = ts
enter_as (Comment k) i ts = ts
enter_as (Read x) i ts = with_parts x.kind i x.parts (set ts 0 (item_entry i x))
enter_as (Err bad) i ts = set ts 0 (failed_entry i (code_number bad.code) bad.span (line_end ts 0))

-- the line that begins with a list of tokens, entered in them
unfoldable pub enter_line : ℕ → List Token → List Token
unfolding enter_as
enter_line i ts = enter_as (line ts 0) i ts

-- the rows from the index i on; `ps` are the tokens that are left of a line that was entered
unfoldable pub entered_from : List Token → ℕ → List Token → List Token
unfolding enter_line behind
entered_from ps i [] = []
entered_from (p ∷ ps) i (t ∷ ts) = p ∷ entered_from ps (suc i) ts
entered_from [] i (t ∷ ts) = let l = enter_line i (t ∷ ts) in peek l 0 ∷ entered_from (take (behind i (peek l 0)) (drop 1 l)) (suc i) ts

-- all lines entered
unfoldable pub entered : List Token → List Token
unfolding entered_from
entered ts = entered_from [] 0 ts

-- the line at the index i of a row entered
abbrev pub enter_at : ℕ → List Token → List Token
enter_at i ts = take i ts ++ enter_line i (drop i ts)
