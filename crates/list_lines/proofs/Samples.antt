-- What the list program prints, computed: the two samples of paper 01 word for word, the other lines and every refusal.
use Prim.Native.Nat.{ℕ}
use Prim.Native.String.{String}
use mathlib.Core.List.{List, [], ◌∷◌, map}
use mathlib.Core.Path.{◌≡◌, refl}
use lib.ListN.{replicate}
use Rattle.chars.specs.Utf8.{encode}
use Rattle.lexer.specs.Text.{codes}
use Rattle.list_lines.specs.Listing.{listed}

-- a text, and what is printed for it
record Sample : Type 0 where
  given : String
  printed : String

abbrev sample : String → String → Sample
sample s p = record { given = s; printed = p }

run : Sample → List ℕ
unfolding listed encode
run s = listed (encode (codes s.given))

want : Sample → List ℕ
unfolding encode
want s = encode (codes s.printed)

abbrev samples : List Sample
samples =
    sample "δ(a,{0,1})=(b,*,R)\n" "bytes=20\ndiagnostics=0\nstates=a b\nfinals=\nstart=a\nsigma=48 49\ngamma=9251 48 49\ntransitions=2\ntransition=a 48 b 48 R\ntransition=a 49 b 49 R\n" ∷
    sample "Q = {a,}" "bytes=8\ndiagnostics=1\ndiagnostic=1 7 8 none none 1:8\n" ∷
    sample "" "bytes=0\ndiagnostics=0\nstates=\nfinals=\nstart=\nsigma=\ngamma=9251\ntransitions=0\n" ∷
    sample "Σ = {a}\nSigma = {b}\nδ(p,{})=(p,a,R)" "bytes=37\ndiagnostics=2\ndiagnostic=11 9 20 0 8 2:1\ndiagnostic=1 27 28 none none 3:6\n" ∷
    sample "F = {g, f}\nδ(f,(a,b))=(γ,(*,'␣'),(L,N))" "bytes=43\ndiagnostics=0\nstates=f γ g\nfinals=f g\nstart=f\nsigma=97 98\ngamma=9251 97 98\ntransitions=1\ntransition=f 97,98 γ 97,9251 L,N\n" ∷
    -- five characters before the fault, in six bytes (P2 of paper 01); a character of three bytes before it; all of these and a tab;
    -- a line feed, behind which the column begins anew, and a carriage return, which is a column
    sample "δ(a,{})=(a,a,R)" "bytes=16\ndiagnostics=1\ndiagnostic=1 6 7 none none 1:6\n" ∷
    sample "Q={␣" "bytes=6\ndiagnostics=1\ndiagnostic=1 3 6 none none 1:4\n" ∷
    sample "δ(γ,'␣'\t}\r\n" "bytes=15\ndiagnostics=1\ndiagnostic=1 12 13 none none 1:9\n" ∷
    sample "// ␣␣␣\n\t\r?" "bytes=16\ndiagnostics=1\ndiagnostic=1 15 16 none none 2:3\n" ∷
    []

table : map run samples ≡ map want samples
unfolding run want
table = refl

-- refusals 1 (a text of 2,049 bytes), 3 and 4
table_refusals : map listed (replicate 2049 0x3F ∷ (0x61 ∷ 0xFF ∷ []) ∷ (0x61 ∷ 0xCC ∷ 0x80 ∷ []) ∷ []) ≡ codes "refused=1 0\n" ∷ codes "refused=3 1\n" ∷ codes "refused=4 1\n" ∷ []
unfolding listed
table_refusals = refl
