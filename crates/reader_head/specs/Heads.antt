-- The head from the first declarations, over the tokens of a row with entries. `first` has for each name, at its number, the
-- index of the line that declares it, which is no index of a token where none does.
use Rattle.std.specs.Prelude.{ℕ, ◌+◌, ◌-◌, ◌%◌, ◌^◌, cond, List, length, ◌==◌, nat_le, nat_lt, slice_index, Option, Some, None}
use Rattle.tokens.specs.declared.Token.{Token}
use Rattle.parser.specs.Row.{peek}
use Rattle.language.specs.Layout.{no_place}
use Rattle.sheet.specs.Rules.{resolve}
use Rattle.diag.specs.declared.Span.{Span}
use Rattle.machine.specs.declared.Kind.{Kind}
use Rattle.machine.specs.declared.Kind.TheVariants.{Acceptor, Transducer, Enumerator, Beaver}
use Rattle.machine.specs.declared.BitOrder.{BitOrder}
use Rattle.machine.specs.declared.BitOrder.TheVariants.{Lsb, Msb}
use Rattle.machine.specs.declared.Decoder.{Decoder}
use Rattle.machine.specs.declared.Decoder.TheVariants.{Word, Unary, Binary}
use Rattle.machine.specs.declared.Declared.{Declared}
use Rattle.machine.specs.declared.SourceMap.{SourceMap}
use Rattle.machine.specs.declared.Counts.{Counts}
use Rattle.machine.specs.declared.Head.{Head}
use Rattle.lexer.specs.KeywordValues as keywords
use Rattle.parser.specs.ItemNumbers as items
use Rattle.assembler.specs.EntryNumbers as entry

-- the token j behind the first of the line f, if there is such a line
unfoldable pub said : List Token → ℕ → ℕ → Option Token
said ts f j = cond (nat_lt f (length ts)) (Some (peek ts (f + j))) None

-- the place of the token j behind the first of the line f; none where there is no such line
unfoldable pub place_at : List Token → ℕ → ℕ → Span
place_at ts f j = let t = peek ts (f + j) in cond (nat_lt f (length ts)) (record { start = t.start; end = t.end }) no_place

-- the place between a string's quotes; the value of a string is how many bytes stand before it, and the sum never
-- wraps, since they stand inside the token
abbrev pub text_of : Token → Span
text_of t = record { start = (t.start + t.value) % 2 ^ 32; end = t.end - 1 }

-- the place between the quotes of the string behind the first token of the line f
unfoldable pub text_at : List Token → ℕ → Span
text_at ts f = cond (nat_lt f (length ts)) (text_of (peek ts (f + entry.bare_value))) no_place

-- the kind that a word says
unfoldable pub kind_of : ℕ → Kind
kind_of v = cond (v == keywords.acceptor) Acceptor (cond (v == keywords.enumerator) Enumerator (cond (v == keywords.beaver) Beaver Transducer))

-- the kind: a transducer unless declared
unfoldable pub kind_at : List Token → ℕ → Kind
unfolding kind_of
kind_at ts f = cond (nat_lt f (length ts)) (kind_of (peek ts (f + entry.bare_value)).value) Transducer

-- the order of bits that a word says
unfoldable pub order_of : ℕ → BitOrder
order_of v = cond (v == keywords.msb) Msb Lsb

-- the decoder that a word v says, and the token t behind it
unfoldable pub decoder_of : ℕ → ℕ → Token → Decoder
unfolding resolve order_of
decoder_of b v t = cond (v == keywords.unary) (Unary (resolve b t)) (cond (v == keywords.binary) (Binary (order_of t.value)) Word)

-- the decoder: a word unless declared
unfoldable pub decoder_at : ℕ → List Token → ℕ → Decoder
unfolding decoder_of
decoder_at b ts f = cond (nat_lt f (length ts)) (decoder_of b (peek ts (f + entry.bare_value)).value (peek ts (f + entry.value))) Word

-- the tapes: one unless declared, or where too many are
unfoldable pub tapes_at : List Token → ℕ → ℕ
tapes_at ts f = let v = (peek ts (f + entry.value)).value in cond (nat_lt f (length ts)) (cond (nat_le v 255) v 1) 1

-- the blank: U+2423 unless declared; `blank = _` gives U+2423
unfoldable pub blank_at : List Token → ℕ → ℕ
unfolding resolve
blank_at ts f = cond (nat_lt f (length ts)) (resolve 0x2423 (peek ts (f + entry.value))) 0x2423

-- the place of the start's name, or that of the first state
unfoldable pub start_at : List Token → ℕ → Span → Span
unfolding place_at
start_at ts f s = cond (nat_lt f (length ts)) (place_at ts f entry.value) s

-- which parts are declared, of n tokens
unfoldable pub declared_in : ℕ → List ℕ → Declared
declared_in n first = record {
  states = nat_lt (slice_index first items.states) n;
  input_alphabet = nat_lt (slice_index first items.input_alphabet) n;
  tape_alphabet = nat_lt (slice_index first items.tape_alphabet) n;
  start = nat_lt (slice_index first items.start) n;
  blank = nat_lt (slice_index first items.blank) n;
}

-- where the parts are declared: kind and Q as a whole, the others their values
unfoldable pub map_in : List Token → List ℕ → SourceMap
unfolding place_at
map_in ts first = record {
  kind = place_at ts (slice_index first items.kind) 0;
  input = place_at ts (slice_index first items.input) entry.bare_value;
  tapes = place_at ts (slice_index first items.tapes) entry.value;
  start = place_at ts (slice_index first items.start) entry.value;
  states = place_at ts (slice_index first items.states) 0;
}

-- the head, given the place of the first state and the section counts
unfoldable pub head_at : List Token → List ℕ → Span → Counts → Head
unfolding decoder_at text_at kind_at tapes_at blank_at declared_in start_at map_in
head_at ts first s n =
    let b = blank_at ts (slice_index first items.blank) in
    record {
      output = decoder_at b ts (slice_index first items.output);
      name = text_at ts (slice_index first items.machine);
      input = text_at ts (slice_index first items.input);
      kind = kind_at ts (slice_index first items.kind);
      tapes = tapes_at ts (slice_index first items.tapes);
      blank = b;
      declared = declared_in (length ts) first;
      start = start_at ts (slice_index first items.start) s;
      map = map_in ts first;
      counts = n;
    }
