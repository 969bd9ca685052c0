-- Lines at which a parser may go wrong, computed over the row.
use Rattle.diag.specs.declared.Code.TheVariants.{Unexpected, UnterminatedString, NoDirection}
use mathlib.Core.Path.{◌≡◌, refl}
use Prim.Native.Nat.{ℕ}
use mathlib.Core.List.{List, [], ◌∷◌, map}
use Rattle.lexer.specs.Text.{codes}
use Rattle.lexer.specs.Tokens.{span, tokens}
use Rattle.lexer.specs.Words.{flat}
use Rattle.parser.specs.Row.{tokens_in}
use Rattle.parser.specs.Lines.{Failed, Answer, Empty, Comment, Read, no_parts, line}
use Rattle.parser.specs.declared.Parts.{Parts}
use Rattle.parser.specs.declared.ItemKind.{ItemKind}
use Rattle.parser.specs.declared.ItemKind.TheVariants.{Output, States, Blank, Transition}

-- the first line of a text
abbrev first : List ℕ → Answer
first t = line (tokens_in (flat (tokens t))) 0

-- an item of a kind: the indices of its value, of its end and of the line feed; the
-- offsets of its end and of its value; its parts
abbrev item : ItemKind → ℕ → ℕ → ℕ → ℕ → ℕ → Parts → Answer
item k v j n e s q = Read (record { kind = k; value = v; end = j; newline = n; span = span 0 e; value_span = span s e; parts = q })

-- a text and its first line
record Sample : Type 0 where
  text : List ℕ
  gives : Answer

abbrev samples : List Sample
samples =
    record { text = codes " \n"; gives = Empty } ∷
    record { text = codes "// Q = {}"; gives = Comment 0 } ∷
    record { text = codes "Q = {}"; gives = item States 2 4 4 6 4 no_parts } ∷
    -- the comment is no part of the item
    record { text = codes "Q = {a, b} // two"; gives = item States 2 7 8 10 4 no_parts } ∷
    record { text = codes "Q = {a,}"; gives = Failed Unexpected (span 7 8) } ∷
    -- a comment where a value is due, and a line's end
    record { text = codes "Q={a // c "; gives = Failed Unexpected (span 5 9) } ∷
    record { text = codes "blank =\n"; gives = Failed Unexpected (span 7 8) } ∷
    record { text = codes "blank = '''"; gives = item Blank 2 3 3 11 8 no_parts } ∷
    record { text = codes "blank = '"; gives = Failed Unexpected (span 8 9) } ∷
    record { text = codes "input \"a"; gives = Failed UnterminatedString (span 6 8) } ∷
    record { text = codes "kind beaver Q"; gives = Failed Unexpected (span 12 13) } ∷
    record { text = codes "output unary'x'"; gives = Failed Unexpected (span 7 15) } ∷
    record { text = codes "output binary msb"; gives = item Output 1 3 3 17 7 no_parts } ∷
    -- directions: 'L' is one, 76 is none, a bracket is no word
    record { text = codes "δ(a,a)=(a,a,r)"; gives = Failed NoDirection (span 13 14) } ∷
    record { text = codes "δ(a,a)=(a,a,76)"; gives = Failed NoDirection (span 13 15) } ∷
    record { text = codes "δ(a,a)=(a,a,;)"; gives = Failed NoDirection (span 13 14) } ∷
    record { text = codes "δ(a,a)=(a,a,))"; gives = Failed Unexpected (span 13 14) } ∷
    record { text = codes "δ(a,a)=(a,a,'L')"; gives = item Transition 0 14 14 17 0 (record { from = 2; read = 4; reads = 1; to = 8; write = 10; writes = 1; dir = 12; dirs = 1 }) } ∷
    -- read sets are not empty, and no state is `_`
    record { text = codes "δ(a,{})=(a,a,R)"; gives = Failed Unexpected (span 6 7) } ∷
    record { text = codes "δ(a,())=(a,(),())"; gives = Failed Unexpected (span 6 7) } ∷
    record { text = codes "δ(_,a)=(a,a,R)"; gives = Failed Unexpected (span 3 4) } ∷
    record {
      text = codes "delta(a,({0,1},_))=(b,(*,;),(L,R))";
      gives = Failed Unexpected (span 25 26);
    } ∷
    record {
      text = codes "delta(a,({0,1},_))=(b,(*,x),(L,R))";
      gives = item Transition 0 30 30 34 0 (record { from = 2; read = 4; reads = 2; to = 16; write = 18; writes = 2; dir = 24; dirs = 2 });
    } ∷
    []

lines_are : map (λ s. first s.text) samples ≡ map (λ s. s.gives) samples
unfolding line tokens_in flat tokens
lines_are = refl
