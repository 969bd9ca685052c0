-- What the program `run` prints, computed: every line, every stop, heads on both sides of zero, and each kind of refusal that
-- it gives. Its work is long enough for every text that it takes, so it never refuses with 2.
use Prim.Native.Nat.{ℕ, zero, suc}
use Prim.Native.String.{String}
use mathlib.Core.List.{List, [], ◌∷◌, ◌++◌, map}
use mathlib.Core.Path.{◌≡◌, refl}
use lib.ListN.{replicate}
use Rattle.chars.specs.Utf8.{encode}
use Rattle.lexer.specs.Text.{codes}
use Rattle.run_lines.specs.Printed.{printed}

-- a text, steps and cells, and what is printed for them
record Sample : Type 0 where
  given : String
  steps : ℕ
  cells : ℕ
  wanted : String

abbrev sample : String → ℕ → ℕ → String → Sample
sample text steps cells wanted = record { given = text; steps = steps; cells = cells; wanted = wanted }

run : Sample → List ℕ
unfolding printed encode
run s = printed (encode (codes s.given)) s.steps s.cells

want : Sample → List ℕ
unfolding encode
want s = encode (codes s.wanted)

abbrev samples : List Sample
samples =
    -- the busy beaver of two states: four ones
    sample "δ(A,_)=(B,1,R)\nδ(A,1)=(B,1,L)\nδ(B,_)=(A,1,L)\nδ(B,1)=(H,1,R)\nF={H}" 100 8
    "bytes=69\ntapes=1 half=4\nstop=halted\nsteps=6\nnonblank=4\nstate=H\nhead=0\ntape=-2 49 49 49 49\n" ∷
    -- a head below zero, and a blank between cells that are not
    sample "blank=0\nδ(a,{0,2})=(b,1,L)\nδ(b,0)=(c,0,L)\nδ(c,0)=(a,2,N)" 3 12
    "bytes=59\ntapes=1 half=6\nstop=spent\nsteps=3\nnonblank=2\nstate=a\nhead=-2\ntape=-2 50 48 49\n" ∷
    -- three tapes, one of them blank, and a cell left over; a name of two bytes
    sample "tapes=3\nδ(γ,(_,_,_))=(γ,(1,*,2),(R,N,L))" 5 13
    "bytes=43\ntapes=3 half=2\nstop=edge\nsteps=1\nnonblank=2\nstate=γ\nhead=1\ntape=0 49\nhead=0\ntape=\nhead=-1\ntape=0 50\n" ∷
    -- an input on the right half, and a blank in it that is not the last
    sample "input \"a␣b␣\"\nQ={q}" 9 8
    "bytes=22\ntapes=1 half=4\nstop=stuck\nsteps=0\nnonblank=2\nstate=q\nhead=0\ntape=0 97 9251 98\n" ∷
    -- no state at all
    sample "" 9 4 "bytes=0\ntapes=1 half=2\nstop=stuck\nsteps=0\nnonblank=0\nstate=\nhead=0\ntape=\n" ∷
    -- an entry with diagnostics, and machines that cannot run
    sample "Q = {a,}" 9 4 "bytes=8\ndiagnostics=1\ndiagnostic=1 7 8 none none 1:8\n" ∷
    sample "tapes=4" 9 8 "refused=8 0\n" ∷
    sample "δ(a,(_,_))=(a,(_,_),(N,N))" 9 8 "refused=9 0\n" ∷
    sample "input \"abc\"" 9 5 "refused=10 0\n" ∷
    []

table : map run samples ≡ map want samples
unfolding run want
table = refl

refused : List ℕ → List ℕ
unfolding printed
refused text = printed text 9 8

-- so many lines that are faults
faults : ℕ → List ℕ
faults zero = []
faults (suc n) = 0x78 ∷ 0x0A ∷ faults n

-- refusals 1 (a text of 65,537 bytes), 3, 4, and 5 (a diagnostic more than there are records)
given : List (List ℕ)
unfolding faults
given = replicate 65537 0x3F ∷ (0x61 ∷ 0xFF ∷ []) ∷ (0x61 ∷ 0xCC ∷ 0x80 ∷ []) ∷ faults 1025 ∷ []

table_refusals : map refused given
    ≡ codes "refused=1 0\n" ∷ codes "refused=3 1\n" ∷ codes "refused=4 1\n" ∷ codes "refused=5 1025\n" ∷ []
unfolding refused given
table_refusals = refl

-- refusal 6: 10,648 rules of three tapes
symbols : List ℕ
symbols = codes "{0,1,2,3,4,5,6,7,8,9,a,b,c,d,e,f,g,h,i,j,k,l}"

large : List ℕ
unfolding encode symbols
large = encode (codes "δ(a,(" ++ symbols ++ codes "," ++ symbols ++ codes "," ++ symbols ++ codes "))=(b,(*,*,*),(N,N,N))")

table_large : refused large ≡ codes "refused=6 340877\n"
unfolding refused large
table_large = refl
