-- Paper 01's samples P1 to P11, its traps, and what the Rust decides where the paper is silent: whole outcomes, computed. Expected words are those of the Rust.
use Prim.Native.Nat.{ℕ, ◌+◌, ◌*◌, ◌/◌}
use Prim.Native.String.{String}
use mathlib.Core.List.{List, [], ◌∷◌, ◌++◌, map}
use mathlib.Core.Path.{◌≡◌, refl}
use lib.ListN.{length, replicate}
use Rattle.chars.specs.Utf8.{encode, decode}
use Rattle.lexer.specs.Text.{codes}
use Rattle.language.specs.Content.{Content, content_of}
use Rattle.language.specs.Lines.{read_lines}
use Rattle.language.specs.Assembly.{diagnostics}
use Rattle.language.specs.Infer.{machine_of}
use Rattle.language.specs.Layout.{head_of, sheet_words}
use Rattle.language.specs.Outcome.{reply_words, work_needed, zeros, ReadOutcome, read_outcome, write_words, WriteOutcome, write_outcome}
use Rattle.language.specs.StateName.{state_name}
use Rattle.language.specs.Agreement.{content_of_answer}

-- the word of which two say that there is no place
abbrev pub ø : ℕ
ø = 4294967295

-- an outcome in words
pub record Flat : Type 0 where
  pub reply : List ℕ
  pub log : List ℕ
  pub sheet : List ℕ

unfoldable pub flatten : ReadOutcome (List ℕ) → Flat
unfolding reply_words
flatten o = record { reply = reply_words o.reply; log = o.log; sheet = o.sheet }

-- buffers are lent with this in every word
abbrev pub dirty : ℕ → List ℕ
dirty n = replicate n 7

-- a text that reads as a machine, with the words of its head and its sheet; or one with diagnostics, with those of its log
pub data Sample : Type 0 where
  reads : String → List ℕ → List ℕ → Sample
  faulty : String → List ℕ → Sample

unfoldable pub bytes : String → List ℕ
unfolding encode
bytes s = encode (codes s)

-- read with just enough work, and with two words more than the log or the sheet needs
unfoldable pub outcome : Sample → Flat
unfolding flatten read_outcome bytes
outcome (reads s head sheet) = flatten (read_outcome (bytes s) (work_needed (length (bytes s))) (dirty 7) (dirty (length sheet + 2)))
outcome (faulty s log) = flatten (read_outcome (bytes s) (work_needed (length (bytes s))) (dirty (length log + 2)) (dirty 3))

unfoldable pub expected : Sample → Flat
expected (reads s head sheet) = record { reply = 0 ∷ 0 ∷ 0 ∷ head; log = zeros 7; sheet = sheet ++ zeros 2 }
expected (faulty s log) = record { reply = ø ∷ length log / 5 ∷ 0 ∷ zeros 33; log = log ++ zeros 2; sheet = zeros 3 }

-- heads: decoder, name and input, kind tapes blank, flags, start, the map, counts; sheets: a line for each section, rule and tape
abbrev pub samples : List Sample
samples =
    -- P1
    reads "δ(a,{0,1})=(b,*,R)\n"
    (0 ∷ 0 ∷
    ø ∷ ø ∷ ø ∷ ø ∷
    1 ∷ 1 ∷ 9251 ∷
    0 ∷ 0 ∷ 0 ∷ 0 ∷ 0 ∷
    3 ∷ 4 ∷
    ø ∷ ø ∷ ø ∷ ø ∷ ø ∷ ø ∷ ø ∷ ø ∷ ø ∷ ø ∷
    2 ∷ 2 ∷ 3 ∷ 0 ∷ 0 ∷ 0 ∷ 2 ∷ [])
    (3 ∷ 4 ∷ 0 ∷ 13 ∷ 14 ∷ 0 ∷
    48 ∷ 0 ∷ 0 ∷ 49 ∷ 0 ∷ 0 ∷
    9251 ∷ 0 ∷ 0 ∷ 48 ∷ 0 ∷ 0 ∷ 49 ∷ 0 ∷ 0 ∷
    18 ∷ 3 ∷ 4 ∷ 13 ∷ 14 ∷ 0 ∷ 19 ∷ ø ∷ ø ∷ 1 ∷ 0 ∷
    48 ∷ 6 ∷ 7 ∷ 48 ∷ 15 ∷ 16 ∷ 1 ∷
    18 ∷ 3 ∷ 4 ∷ 13 ∷ 14 ∷ 0 ∷ 19 ∷ ø ∷ ø ∷ 1 ∷ 0 ∷
    49 ∷ 8 ∷ 9 ∷ 49 ∷ 15 ∷ 16 ∷ 1 ∷ []) ∷
    faulty "Q = {a,}" (1 ∷ 7 ∷ 8 ∷ ø ∷ ø ∷ []) ∷
    -- P2
    faulty "δ(a,{})=(a,a,R)" (1 ∷ 6 ∷ 7 ∷ ø ∷ ø ∷ []) ∷
    -- P3
    reads "tapes = 255"
    (0 ∷ 0 ∷
    ø ∷ ø ∷ ø ∷ ø ∷
    1 ∷ 255 ∷ 9251 ∷
    0 ∷ 0 ∷ 0 ∷ 0 ∷ 0 ∷
    ø ∷ ø ∷
    ø ∷ ø ∷ ø ∷ ø ∷ 8 ∷ 11 ∷ ø ∷ ø ∷ ø ∷ ø ∷
    0 ∷ 0 ∷ 1 ∷ 0 ∷ 0 ∷ 0 ∷ 0 ∷ [])
    (9251 ∷ 0 ∷ 0 ∷ []) ∷
    reads "tapes = 0"
    (0 ∷ 0 ∷
    ø ∷ ø ∷ ø ∷ ø ∷
    1 ∷ 0 ∷ 9251 ∷
    0 ∷ 0 ∷ 0 ∷ 0 ∷ 0 ∷
    ø ∷ ø ∷
    ø ∷ ø ∷ ø ∷ ø ∷ 8 ∷ 9 ∷ ø ∷ ø ∷ ø ∷ ø ∷
    0 ∷ 0 ∷ 1 ∷ 0 ∷ 0 ∷ 0 ∷ 0 ∷ [])
    (9251 ∷ 0 ∷ 0 ∷ []) ∷
    faulty "tapes = 256" (9 ∷ 8 ∷ 11 ∷ ø ∷ ø ∷ []) ∷
    -- P4
    faulty "tapes = 18446744073709551616" (9 ∷ 8 ∷ 28 ∷ ø ∷ ø ∷ []) ∷
    -- P5
    reads "blank = '''"
    (0 ∷ 0 ∷
    ø ∷ ø ∷ ø ∷ ø ∷
    1 ∷ 1 ∷ 39 ∷
    0 ∷ 0 ∷ 0 ∷ 0 ∷ 1 ∷
    ø ∷ ø ∷
    ø ∷ ø ∷ ø ∷ ø ∷ ø ∷ ø ∷ ø ∷ ø ∷ ø ∷ ø ∷
    0 ∷ 0 ∷ 1 ∷ 0 ∷ 0 ∷ 0 ∷ 0 ∷ [])
    (39 ∷ 0 ∷ 0 ∷ []) ∷
    -- P6
    faulty "blank = '" (1 ∷ 8 ∷ 9 ∷ ø ∷ ø ∷ []) ∷
    -- P7
    faulty "input \"a" (2 ∷ 6 ∷ 8 ∷ ø ∷ ø ∷ []) ∷
    -- P8
    faulty "δ(a,a)=(a,a,r)" (8 ∷ 13 ∷ 14 ∷ ø ∷ ø ∷ []) ∷
    -- P9
    faulty "δ(a,(a,b))=(a,a,R)" (10 ∷ 0 ∷ 19 ∷ ø ∷ ø ∷ []) ∷
    -- P10
    faulty "Σ = {a}\nSigma = {b}" (11 ∷ 9 ∷ 20 ∷ 0 ∷ 8 ∷ []) ∷
    -- P11
    reads ""
    (0 ∷ 0 ∷
    ø ∷ ø ∷ ø ∷ ø ∷
    1 ∷ 1 ∷ 9251 ∷
    0 ∷ 0 ∷ 0 ∷ 0 ∷ 0 ∷
    ø ∷ ø ∷
    ø ∷ ø ∷ ø ∷ ø ∷ ø ∷ ø ∷ ø ∷ ø ∷ ø ∷ ø ∷
    0 ∷ 0 ∷ 1 ∷ 0 ∷ 0 ∷ 0 ∷ 0 ∷ [])
    (9251 ∷ 0 ∷ 0 ∷ []) ∷
    -- one rule more than six read sets of 8
    faulty "δ(a,({a,b,c,d,e,f,g,h},{a,b,c,d,e,f,g,h},{a,b,c,d,e,f,g,h},{a,b,c,d,e,f,g,h},{a,b,c,d,e,f,g,h},{a,b,c,d,e,f,g,h}))=(a,(*,*,*,*,*,*),(R,R,R,R,R,R))\nδ(a,a)=(a,a,R)\nδ(a,a)=(a,a,R)" (9 ∷ 148 ∷ 163 ∷ ø ∷ ø ∷ []) ∷
    []

-- P1 to P11
pub table : map outcome samples ≡ map expected samples
unfolding outcome expected
table = refl

abbrev facts : List Sample
facts =
    -- `_` before a later blank
    reads "δ(a,_)=(a,x,R)\nblank = x"
    (0 ∷ 0 ∷
    ø ∷ ø ∷ ø ∷ ø ∷
    1 ∷ 1 ∷ 120 ∷
    0 ∷ 0 ∷ 0 ∷ 0 ∷ 1 ∷
    3 ∷ 4 ∷
    ø ∷ ø ∷ ø ∷ ø ∷ ø ∷ ø ∷ ø ∷ ø ∷ ø ∷ ø ∷
    1 ∷ 0 ∷ 1 ∷ 0 ∷ 0 ∷ 0 ∷ 1 ∷ [])
    (3 ∷ 4 ∷ 0 ∷
    120 ∷ 0 ∷ 0 ∷
    18 ∷ 3 ∷ 4 ∷ 9 ∷ 10 ∷ 0 ∷ 15 ∷ ø ∷ ø ∷ 1 ∷ 0 ∷
    120 ∷ 5 ∷ 6 ∷ 120 ∷ 11 ∷ 12 ∷ 1 ∷ []) ∷
    -- `a'b'` is one word
    reads "Q = {a'b'}"
    (0 ∷ 0 ∷
    ø ∷ ø ∷ ø ∷ ø ∷
    1 ∷ 1 ∷ 9251 ∷
    1 ∷ 0 ∷ 0 ∷ 0 ∷ 0 ∷
    5 ∷ 9 ∷
    ø ∷ ø ∷ ø ∷ ø ∷ ø ∷ ø ∷ ø ∷ ø ∷ 0 ∷ 10 ∷
    1 ∷ 0 ∷ 1 ∷ 0 ∷ 0 ∷ 0 ∷ 0 ∷ [])
    (5 ∷ 9 ∷ 0 ∷
    9251 ∷ 0 ∷ 0 ∷ []) ∷
    -- `'␣'` where another blank is declared
    reads "blank = x\nΣ = {'␣', ␣}"
    (0 ∷ 0 ∷
    ø ∷ ø ∷ ø ∷ ø ∷
    1 ∷ 1 ∷ 120 ∷
    0 ∷ 1 ∷ 0 ∷ 0 ∷ 1 ∷
    ø ∷ ø ∷
    ø ∷ ø ∷ ø ∷ ø ∷ ø ∷ ø ∷ ø ∷ ø ∷ ø ∷ ø ∷
    0 ∷ 2 ∷ 2 ∷ 0 ∷ 0 ∷ 0 ∷ 0 ∷ [])
    (9251 ∷ 16 ∷ 21 ∷ 120 ∷ 23 ∷ 26 ∷
    120 ∷ 0 ∷ 0 ∷ 9251 ∷ 0 ∷ 0 ∷ []) ∷
    -- the direction `'L'`
    reads "δ(a,a)=(a,a,'L')"
    (0 ∷ 0 ∷
    ø ∷ ø ∷ ø ∷ ø ∷
    1 ∷ 1 ∷ 9251 ∷
    0 ∷ 0 ∷ 0 ∷ 0 ∷ 0 ∷
    3 ∷ 4 ∷
    ø ∷ ø ∷ ø ∷ ø ∷ ø ∷ ø ∷ ø ∷ ø ∷ ø ∷ ø ∷
    1 ∷ 1 ∷ 2 ∷ 0 ∷ 0 ∷ 0 ∷ 1 ∷ [])
    (3 ∷ 4 ∷ 0 ∷
    97 ∷ 0 ∷ 0 ∷
    9251 ∷ 0 ∷ 0 ∷ 97 ∷ 0 ∷ 0 ∷
    18 ∷ 3 ∷ 4 ∷ 9 ∷ 10 ∷ 0 ∷ 17 ∷ ø ∷ ø ∷ 1 ∷ 0 ∷
    97 ∷ 5 ∷ 6 ∷ 97 ∷ 11 ∷ 12 ∷ 0 ∷ []) ∷
    -- the map's places
    reads "kind beaver // k\ninput \"a\"\ntapes = 2\nstart = a\nQ = {}"
    (0 ∷ 0 ∷
    ø ∷ ø ∷ 24 ∷ 25 ∷
    3 ∷ 2 ∷ 9251 ∷
    1 ∷ 0 ∷ 0 ∷ 1 ∷ 0 ∷
    45 ∷ 46 ∷
    0 ∷ 11 ∷ 23 ∷ 26 ∷ 35 ∷ 36 ∷ 45 ∷ 46 ∷ 47 ∷ 53 ∷
    0 ∷ 1 ∷ 2 ∷ 0 ∷ 1 ∷ 0 ∷ 0 ∷ [])
    (97 ∷ 0 ∷ 0 ∷
    9251 ∷ 0 ∷ 0 ∷ 97 ∷ 0 ∷ 0 ∷
    15 ∷ 16 ∷ []) ∷
    -- a name that Q repeats
    reads "Q={a,a}\nF={a}"
    (0 ∷ 0 ∷
    ø ∷ ø ∷ ø ∷ ø ∷
    1 ∷ 1 ∷ 9251 ∷
    1 ∷ 0 ∷ 0 ∷ 0 ∷ 0 ∷
    3 ∷ 4 ∷
    ø ∷ ø ∷ ø ∷ ø ∷ ø ∷ ø ∷ ø ∷ ø ∷ 0 ∷ 7 ∷
    2 ∷ 0 ∷ 1 ∷ 1 ∷ 0 ∷ 0 ∷ 0 ∷ [])
    (3 ∷ 4 ∷ 1 ∷ 5 ∷ 6 ∷ 0 ∷
    9251 ∷ 0 ∷ 0 ∷
    11 ∷ 12 ∷ []) ∷
    -- a declared Γ without the blank
    reads "Γ={a}"
    (0 ∷ 0 ∷
    ø ∷ ø ∷ ø ∷ ø ∷
    1 ∷ 1 ∷ 9251 ∷
    0 ∷ 0 ∷ 1 ∷ 0 ∷ 0 ∷
    ø ∷ ø ∷
    ø ∷ ø ∷ ø ∷ ø ∷ ø ∷ ø ∷ ø ∷ ø ∷ ø ∷ ø ∷
    0 ∷ 1 ∷ 2 ∷ 0 ∷ 0 ∷ 0 ∷ 0 ∷ [])
    (97 ∷ 0 ∷ 0 ∷
    97 ∷ 4 ∷ 5 ∷ 9251 ∷ 0 ∷ 0 ∷ []) ∷
    -- repeats
    reads "Γ={a,a,_,_}"
    (0 ∷ 0 ∷
    ø ∷ ø ∷ ø ∷ ø ∷
    1 ∷ 1 ∷ 9251 ∷
    0 ∷ 0 ∷ 1 ∷ 0 ∷ 0 ∷
    ø ∷ ø ∷
    ø ∷ ø ∷ ø ∷ ø ∷ ø ∷ ø ∷ ø ∷ ø ∷ ø ∷ ø ∷
    0 ∷ 2 ∷ 4 ∷ 0 ∷ 0 ∷ 0 ∷ 0 ∷ [])
    (97 ∷ 0 ∷ 0 ∷ 97 ∷ 0 ∷ 0 ∷
    97 ∷ 4 ∷ 5 ∷ 97 ∷ 6 ∷ 7 ∷ 9251 ∷ 8 ∷ 9 ∷ 9251 ∷ 10 ∷ 11 ∷ []) ∷
    reads "δ(a,{0,0})=(a,*,R)"
    (0 ∷ 0 ∷
    ø ∷ ø ∷ ø ∷ ø ∷
    1 ∷ 1 ∷ 9251 ∷
    0 ∷ 0 ∷ 0 ∷ 0 ∷ 0 ∷
    3 ∷ 4 ∷
    ø ∷ ø ∷ ø ∷ ø ∷ ø ∷ ø ∷ ø ∷ ø ∷ ø ∷ ø ∷
    1 ∷ 1 ∷ 2 ∷ 0 ∷ 0 ∷ 0 ∷ 2 ∷ [])
    (3 ∷ 4 ∷ 0 ∷
    48 ∷ 0 ∷ 0 ∷
    9251 ∷ 0 ∷ 0 ∷ 48 ∷ 0 ∷ 0 ∷
    18 ∷ 3 ∷ 4 ∷ 13 ∷ 14 ∷ 0 ∷ 19 ∷ ø ∷ ø ∷ 1 ∷ 0 ∷
    48 ∷ 6 ∷ 7 ∷ 48 ∷ 15 ∷ 16 ∷ 1 ∷
    18 ∷ 3 ∷ 4 ∷ 13 ∷ 14 ∷ 0 ∷ 19 ∷ ø ∷ ø ∷ 1 ∷ 0 ∷
    48 ∷ 8 ∷ 9 ∷ 48 ∷ 15 ∷ 16 ∷ 1 ∷ []) ∷
    -- the input enters Γ
    reads "input \"\\n\""
    (0 ∷ 0 ∷
    ø ∷ ø ∷ 7 ∷ 9 ∷
    1 ∷ 1 ∷ 9251 ∷
    0 ∷ 0 ∷ 0 ∷ 0 ∷ 0 ∷
    ø ∷ ø ∷
    ø ∷ ø ∷ 6 ∷ 10 ∷ ø ∷ ø ∷ ø ∷ ø ∷ ø ∷ ø ∷
    0 ∷ 1 ∷ 2 ∷ 0 ∷ 0 ∷ 0 ∷ 0 ∷ [])
    (10 ∷ 0 ∷ 0 ∷
    9251 ∷ 0 ∷ 0 ∷ 10 ∷ 0 ∷ 0 ∷ []) ∷
    reads "input \"_\""
    (0 ∷ 0 ∷
    ø ∷ ø ∷ 7 ∷ 8 ∷
    1 ∷ 1 ∷ 9251 ∷
    0 ∷ 0 ∷ 0 ∷ 0 ∷ 0 ∷
    ø ∷ ø ∷
    ø ∷ ø ∷ 6 ∷ 9 ∷ ø ∷ ø ∷ ø ∷ ø ∷ ø ∷ ø ∷
    0 ∷ 1 ∷ 2 ∷ 0 ∷ 0 ∷ 0 ∷ 0 ∷ [])
    (95 ∷ 0 ∷ 0 ∷
    9251 ∷ 0 ∷ 0 ∷ 95 ∷ 0 ∷ 0 ∷ []) ∷
    -- F against Q
    faulty "Q={a}\nF={b,b}" (3 ∷ 9 ∷ 10 ∷ ø ∷ ø ∷
    11 ∷ 11 ∷ 12 ∷ 9 ∷ 10 ∷ []) ∷
    faulty "Q={a,}\nF={b}" (1 ∷ 5 ∷ 6 ∷ ø ∷ ø ∷ []) ∷
    faulty "F={b}\nQ={a}" (3 ∷ 3 ∷ 4 ∷ ø ∷ ø ∷ []) ∷
    -- second and third declarations
    faulty "tapes=1\ntapes=256" (11 ∷ 8 ∷ 17 ∷ 0 ∷ 7 ∷ []) ∷
    faulty "tapes=256\ntapes=1" (9 ∷ 6 ∷ 9 ∷ ø ∷ ø ∷
    11 ∷ 10 ∷ 17 ∷ 0 ∷ 9 ∷ []) ∷
    faulty "blank=a\nblank=b // c\nblank=c" (11 ∷ 8 ∷ 15 ∷ 0 ∷ 7 ∷
    11 ∷ 21 ∷ 28 ∷ 0 ∷ 7 ∷ []) ∷
    -- a line's end
    faulty "blank =\n" (1 ∷ 7 ∷ 8 ∷ ø ∷ ø ∷ []) ∷
    faulty "blank =" (1 ∷ 7 ∷ 7 ∷ ø ∷ ø ∷ []) ∷
    faulty "Q=  \r\n" (1 ∷ 5 ∷ 6 ∷ ø ∷ ø ∷ []) ∷
    -- a comment where a value is due
    faulty "Q={a // c " (1 ∷ 5 ∷ 9 ∷ ø ∷ ø ∷ []) ∷
    -- unterminated strings
    faulty "\"x" (2 ∷ 0 ∷ 2 ∷ ø ∷ ø ∷ []) ∷
    faulty "blank = \"x" (2 ∷ 8 ∷ 10 ∷ ø ∷ ø ∷ []) ∷
    faulty "blank = x \"y" (2 ∷ 10 ∷ 12 ∷ ø ∷ ø ∷ []) ∷
    faulty "δ(a,a)=(a,a,\"R" (2 ∷ 13 ∷ 15 ∷ ø ∷ ø ∷ []) ∷
    -- where a direction is due
    faulty "δ(a,a)=(a,a,;)" (8 ∷ 13 ∷ 14 ∷ ø ∷ ø ∷ []) ∷
    faulty "δ(a,a)=(a,a,*)" (8 ∷ 13 ∷ 14 ∷ ø ∷ ø ∷ []) ∷
    faulty "δ(a,a)=(a,a,7)" (8 ∷ 13 ∷ 14 ∷ ø ∷ ø ∷ []) ∷
    faulty "δ(a,a)=(a,a,\"R\")" (1 ∷ 13 ∷ 16 ∷ ø ∷ ø ∷ []) ∷
    faulty "δ(a,a)=(a,a,()" (1 ∷ 14 ∷ 15 ∷ ø ∷ ø ∷ []) ∷
    -- empty and nested tuples
    faulty "δ(a,())=(a,(),())" (1 ∷ 6 ∷ 7 ∷ ø ∷ ø ∷ []) ∷
    faulty "δ(a,((a)))=(a,a,R)" (1 ∷ 6 ∷ 7 ∷ ø ∷ ø ∷ []) ∷
    -- bare `;`, `␣` and `_`
    faulty "Σ = {;}" (1 ∷ 6 ∷ 7 ∷ ø ∷ ø ∷ []) ∷
    reads "Σ = {␣, _, '_', ';'}"
    (0 ∷ 0 ∷
    ø ∷ ø ∷ ø ∷ ø ∷
    1 ∷ 1 ∷ 9251 ∷
    0 ∷ 1 ∷ 0 ∷ 0 ∷ 0 ∷
    ø ∷ ø ∷
    ø ∷ ø ∷ ø ∷ ø ∷ ø ∷ ø ∷ ø ∷ ø ∷ ø ∷ ø ∷
    0 ∷ 4 ∷ 3 ∷ 0 ∷ 0 ∷ 0 ∷ 0 ∷ [])
    (9251 ∷ 6 ∷ 9 ∷ 9251 ∷ 11 ∷ 12 ∷ 95 ∷ 14 ∷ 17 ∷ 59 ∷ 19 ∷ 22 ∷
    9251 ∷ 0 ∷ 0 ∷ 95 ∷ 0 ∷ 0 ∷ 59 ∷ 0 ∷ 0 ∷ []) ∷
    -- an empty comment
    reads "//"
    (0 ∷ 0 ∷
    ø ∷ ø ∷ ø ∷ ø ∷
    1 ∷ 1 ∷ 9251 ∷
    0 ∷ 0 ∷ 0 ∷ 0 ∷ 0 ∷
    ø ∷ ø ∷
    ø ∷ ø ∷ ø ∷ ø ∷ ø ∷ ø ∷ ø ∷ ø ∷ ø ∷ ø ∷
    0 ∷ 0 ∷ 1 ∷ 0 ∷ 1 ∷ 0 ∷ 0 ∷ [])
    (9251 ∷ 0 ∷ 0 ∷
    2 ∷ 2 ∷ []) ∷
    -- bare `*`, and the order of an inferred Γ
    reads "δ(a,{0,1})=(a,x,R)"
    (0 ∷ 0 ∷
    ø ∷ ø ∷ ø ∷ ø ∷
    1 ∷ 1 ∷ 9251 ∷
    0 ∷ 0 ∷ 0 ∷ 0 ∷ 0 ∷
    3 ∷ 4 ∷
    ø ∷ ø ∷ ø ∷ ø ∷ ø ∷ ø ∷ ø ∷ ø ∷ ø ∷ ø ∷
    1 ∷ 3 ∷ 4 ∷ 0 ∷ 0 ∷ 0 ∷ 2 ∷ [])
    (3 ∷ 4 ∷ 0 ∷
    48 ∷ 0 ∷ 0 ∷ 120 ∷ 0 ∷ 0 ∷ 49 ∷ 0 ∷ 0 ∷
    9251 ∷ 0 ∷ 0 ∷ 48 ∷ 0 ∷ 0 ∷ 120 ∷ 0 ∷ 0 ∷ 49 ∷ 0 ∷ 0 ∷
    18 ∷ 3 ∷ 4 ∷ 13 ∷ 14 ∷ 0 ∷ 19 ∷ ø ∷ ø ∷ 1 ∷ 0 ∷
    48 ∷ 6 ∷ 7 ∷ 120 ∷ 15 ∷ 16 ∷ 1 ∷
    18 ∷ 3 ∷ 4 ∷ 13 ∷ 14 ∷ 0 ∷ 19 ∷ ø ∷ ø ∷ 1 ∷ 0 ∷
    49 ∷ 8 ∷ 9 ∷ 120 ∷ 15 ∷ 16 ∷ 1 ∷ []) ∷
    -- the last tape fastest
    reads "δ(a,({0,1},{x,y}))=(b,(*,z),(R,N))"
    (0 ∷ 0 ∷
    ø ∷ ø ∷ ø ∷ ø ∷
    1 ∷ 1 ∷ 9251 ∷
    0 ∷ 0 ∷ 0 ∷ 0 ∷ 0 ∷
    3 ∷ 4 ∷
    ø ∷ ø ∷ ø ∷ ø ∷ ø ∷ ø ∷ ø ∷ ø ∷ ø ∷ ø ∷
    2 ∷ 5 ∷ 6 ∷ 0 ∷ 0 ∷ 0 ∷ 4 ∷ [])
    (3 ∷ 4 ∷ 0 ∷ 21 ∷ 22 ∷ 0 ∷
    48 ∷ 0 ∷ 0 ∷ 120 ∷ 0 ∷ 0 ∷ 122 ∷ 0 ∷ 0 ∷ 121 ∷ 0 ∷ 0 ∷ 49 ∷ 0 ∷ 0 ∷
    9251 ∷ 0 ∷ 0 ∷ 48 ∷ 0 ∷ 0 ∷ 120 ∷ 0 ∷ 0 ∷ 122 ∷ 0 ∷ 0 ∷ 121 ∷ 0 ∷ 0 ∷ 49 ∷ 0 ∷ 0 ∷
    25 ∷ 3 ∷ 4 ∷ 21 ∷ 22 ∷ 0 ∷ 35 ∷ ø ∷ ø ∷ 2 ∷ 0 ∷
    48 ∷ 7 ∷ 8 ∷ 48 ∷ 24 ∷ 25 ∷ 1 ∷
    120 ∷ 13 ∷ 14 ∷ 122 ∷ 26 ∷ 27 ∷ 2 ∷
    25 ∷ 3 ∷ 4 ∷ 21 ∷ 22 ∷ 0 ∷ 35 ∷ ø ∷ ø ∷ 2 ∷ 0 ∷
    48 ∷ 7 ∷ 8 ∷ 48 ∷ 24 ∷ 25 ∷ 1 ∷
    121 ∷ 15 ∷ 16 ∷ 122 ∷ 26 ∷ 27 ∷ 2 ∷
    25 ∷ 3 ∷ 4 ∷ 21 ∷ 22 ∷ 0 ∷ 35 ∷ ø ∷ ø ∷ 2 ∷ 0 ∷
    49 ∷ 9 ∷ 10 ∷ 49 ∷ 24 ∷ 25 ∷ 1 ∷
    120 ∷ 13 ∷ 14 ∷ 122 ∷ 26 ∷ 27 ∷ 2 ∷
    25 ∷ 3 ∷ 4 ∷ 21 ∷ 22 ∷ 0 ∷ 35 ∷ ø ∷ ø ∷ 2 ∷ 0 ∷
    49 ∷ 9 ∷ 10 ∷ 49 ∷ 24 ∷ 25 ∷ 1 ∷
    121 ∷ 15 ∷ 16 ∷ 122 ∷ 26 ∷ 27 ∷ 2 ∷ []) ∷
    -- inferred states: start, rules, F
    reads "F = {z, b}\nstart = s\nδ(b,0)=(c,0,L)"
    (0 ∷ 0 ∷
    ø ∷ ø ∷ ø ∷ ø ∷
    1 ∷ 1 ∷ 9251 ∷
    0 ∷ 0 ∷ 0 ∷ 1 ∷ 0 ∷
    19 ∷ 20 ∷
    ø ∷ ø ∷ ø ∷ ø ∷ ø ∷ ø ∷ 19 ∷ 20 ∷ ø ∷ ø ∷
    4 ∷ 1 ∷ 2 ∷ 2 ∷ 0 ∷ 0 ∷ 1 ∷ [])
    (19 ∷ 20 ∷ 0 ∷ 24 ∷ 25 ∷ 1 ∷ 30 ∷ 31 ∷ 0 ∷ 5 ∷ 6 ∷ 1 ∷
    48 ∷ 0 ∷ 0 ∷
    9251 ∷ 0 ∷ 0 ∷ 48 ∷ 0 ∷ 0 ∷
    5 ∷ 6 ∷ 8 ∷ 9 ∷
    18 ∷ 24 ∷ 25 ∷ 30 ∷ 31 ∷ 21 ∷ 36 ∷ ø ∷ ø ∷ 1 ∷ 0 ∷
    48 ∷ 26 ∷ 27 ∷ 48 ∷ 32 ∷ 33 ∷ 0 ∷ []) ∷
    -- outputs
    reads "output unary _\nblank = 0"
    (1 ∷ 48 ∷
    ø ∷ ø ∷ ø ∷ ø ∷
    1 ∷ 1 ∷ 48 ∷
    0 ∷ 0 ∷ 0 ∷ 0 ∷ 1 ∷
    ø ∷ ø ∷
    ø ∷ ø ∷ ø ∷ ø ∷ ø ∷ ø ∷ ø ∷ ø ∷ ø ∷ ø ∷
    0 ∷ 0 ∷ 1 ∷ 0 ∷ 0 ∷ 0 ∷ 0 ∷ [])
    (48 ∷ 0 ∷ 0 ∷ []) ∷
    reads "output binary msb"
    (2 ∷ 1 ∷
    ø ∷ ø ∷ ø ∷ ø ∷
    1 ∷ 1 ∷ 9251 ∷
    0 ∷ 0 ∷ 0 ∷ 0 ∷ 0 ∷
    ø ∷ ø ∷
    ø ∷ ø ∷ ø ∷ ø ∷ ø ∷ ø ∷ ø ∷ ø ∷ ø ∷ ø ∷
    0 ∷ 0 ∷ 1 ∷ 0 ∷ 0 ∷ 0 ∷ 0 ∷ [])
    (9251 ∷ 0 ∷ 0 ∷ []) ∷
    -- strings with escapes
    reads "machine \"a\\\"\\\\\\q\"\ninput \"é\""
    (0 ∷ 0 ∷
    9 ∷ 16 ∷ 25 ∷ 27 ∷
    1 ∷ 1 ∷ 9251 ∷
    0 ∷ 0 ∷ 0 ∷ 0 ∷ 0 ∷
    ø ∷ ø ∷
    ø ∷ ø ∷ 24 ∷ 28 ∷ ø ∷ ø ∷ ø ∷ ø ∷ ø ∷ ø ∷
    0 ∷ 1 ∷ 2 ∷ 0 ∷ 0 ∷ 0 ∷ 0 ∷ [])
    (233 ∷ 0 ∷ 0 ∷
    9251 ∷ 0 ∷ 0 ∷ 233 ∷ 0 ∷ 0 ∷ []) ∷
    -- comments
    reads "// h\n\n// t\nδ(a,a)=(a,a,R) // own\n\n// l1\n\n// l2\ndelta(b,b)=(b,b,L) //\n// end"
    (0 ∷ 0 ∷
    ø ∷ ø ∷ ø ∷ ø ∷
    1 ∷ 1 ∷ 9251 ∷
    0 ∷ 0 ∷ 0 ∷ 0 ∷ 0 ∷
    14 ∷ 15 ∷
    ø ∷ ø ∷ ø ∷ ø ∷ ø ∷ ø ∷ ø ∷ ø ∷ ø ∷ ø ∷
    2 ∷ 2 ∷ 3 ∷ 0 ∷ 1 ∷ 1 ∷ 2 ∷ [])
    (14 ∷ 15 ∷ 0 ∷ 54 ∷ 55 ∷ 0 ∷
    97 ∷ 0 ∷ 0 ∷ 98 ∷ 0 ∷ 0 ∷
    9251 ∷ 0 ∷ 0 ∷ 97 ∷ 0 ∷ 0 ∷ 98 ∷ 0 ∷ 0 ∷
    3 ∷ 4 ∷
    73 ∷ 76 ∷
    20 ∷ 14 ∷ 15 ∷ 20 ∷ 21 ∷ 11 ∷ 26 ∷ 30 ∷ 33 ∷ 1 ∷ 1 ∷
    97 ∷ 16 ∷ 17 ∷ 97 ∷ 22 ∷ 23 ∷ 1 ∷
    9 ∷ 10 ∷
    22 ∷ 54 ∷ 55 ∷ 60 ∷ 61 ∷ 48 ∷ 66 ∷ 69 ∷ 69 ∷ 1 ∷ 2 ∷
    98 ∷ 56 ∷ 57 ∷ 98 ∷ 62 ∷ 63 ∷ 0 ∷
    38 ∷ 40 ∷ 45 ∷ 47 ∷ []) ∷
    reads "// h\n\n// i\nkind acceptor // own\n\n// end"
    (0 ∷ 0 ∷
    ø ∷ ø ∷ ø ∷ ø ∷
    0 ∷ 1 ∷ 9251 ∷
    0 ∷ 0 ∷ 0 ∷ 0 ∷ 0 ∷
    ø ∷ ø ∷
    11 ∷ 24 ∷ ø ∷ ø ∷ ø ∷ ø ∷ ø ∷ ø ∷ ø ∷ ø ∷
    0 ∷ 0 ∷ 1 ∷ 0 ∷ 3 ∷ 1 ∷ 0 ∷ [])
    (9251 ∷ 0 ∷ 0 ∷
    3 ∷ 4 ∷ 9 ∷ 10 ∷ 28 ∷ 31 ∷
    36 ∷ 39 ∷ []) ∷
    reads "//   two spaces \n"
    (0 ∷ 0 ∷
    ø ∷ ø ∷ ø ∷ ø ∷
    1 ∷ 1 ∷ 9251 ∷
    0 ∷ 0 ∷ 0 ∷ 0 ∷ 0 ∷
    ø ∷ ø ∷
    ø ∷ ø ∷ ø ∷ ø ∷ ø ∷ ø ∷ ø ∷ ø ∷ ø ∷ ø ∷
    0 ∷ 0 ∷ 1 ∷ 0 ∷ 1 ∷ 0 ∷ 0 ∷ [])
    (9251 ∷ 0 ∷ 0 ∷
    3 ∷ 15 ∷ []) ∷
    []

table_facts : map outcome facts ≡ map expected facts
unfolding outcome expected
table_facts = refl

-- six read sets of 8 are 262,144 rules, and no more than the limit
at_the_limit : diagnostics (read_lines (codes "δ(a,({a,b,c,d,e,f,g,h},{a,b,c,d,e,f,g,h},{a,b,c,d,e,f,g,h},{a,b,c,d,e,f,g,h},{a,b,c,d,e,f,g,h},{a,b,c,d,e,f,g,h}))=(a,(*,*,*,*,*,*),(R,R,R,R,R,R))")) ≡ []
unfolding diagnostics read_lines
at_the_limit = refl

-- the answer to a text stands for the machine that the text describes
answered : String → Content
unfolding content_of_answer head_of sheet_words machine_of read_lines decode bytes
answered s =
    let m = machine_of (read_lines (decode (bytes s))) in
    content_of_answer (record { head = head_of m; sheet = sheet_words m ++ zeros 2; text = bytes s })

meant : String → Content
unfolding content_of machine_of read_lines
meant s = content_of (machine_of (read_lines (codes s)))

abbrev described : List String
described =
    "machine \"a\\\"\\q\"\ninput \"é\"\nQ = {a, a}\nF = {a}\nΓ = {0}" ∷
    "// h\n\n// l\nδ(a,({0,1},x))=(b,(*,_),(R,N)) // c\nδ(b,0)=(b,1,L)\n// t" ∷
    []

table_answers : map answered described ≡ map meant described
unfolding answered meant
table_answers = refl

-- ---- refusals

-- a call: the bytes of the text, words of work, log and sheet
record Call : Type 0 where
  text : List ℕ
  work : ℕ
  log : ℕ
  sheet : ℕ

abbrev call : List ℕ → ℕ → ℕ → ℕ → Call
call t w l s = record { text = t; work = w; log = l; sheet = s }

run : Call → Flat
unfolding flatten read_outcome
run c = flatten (read_outcome c.text c.work (dirty c.log) (dirty c.sheet))

abbrev refusal : ℕ → ℕ → List ℕ → List ℕ → Flat
refusal n v l s = record { reply = n ∷ v ∷ 0 ∷ zeros 33; log = l; sheet = s }

table_refusals : map run (
    call (0x61 ∷ []) 11 2 2 ∷
    call (0xD7 ∷ 0x90 ∷ 0xFF ∷ []) 24 2 2 ∷
    call (0x61 ∷ 0xCC ∷ 0x80 ∷ 0x61 ∷ []) 30 2 2 ∷
    call (0x3F ∷ 10 ∷ 0x3F ∷ []) 24 9 2 ∷
    call [] 6 2 2 ∷
    []
    ) ≡ refusal 2 0 (dirty 2) (dirty 2) ∷
    refusal 3 2 (dirty 2) (dirty 2) ∷
    refusal 4 1 (dirty 2) (dirty 2) ∷
    refusal 5 2 (zeros 9) (zeros 2) ∷
    refusal 6 3 (zeros 2) (zeros 2) ∷
    []
unfolding run
table_refusals = refl

-- ---- writing

record FlatWrite : Type 0 where
  reply : List ℕ
  log : List ℕ
  sheet : List ℕ
  output : List ℕ

flatten_write : WriteOutcome (List ℕ) → FlatWrite
flatten_write o = record { reply = write_words o.reply; log = o.log; sheet = o.sheet; output = o.output }

-- a text, and the bytes of output lent for it
record Writing : Type 0 where
  given : String
  room : ℕ

abbrev writing : String → ℕ → Writing
writing s n = record { given = s; room = n }

wrote : Writing → FlatWrite
unfolding write_outcome bytes flatten_write
wrote w = flatten_write (write_outcome (bytes w.given) (work_needed (length (bytes w.given))) (dirty 5) (dirty 4) (dirty w.room))

abbrev answer : ℕ → ℕ → List ℕ → List ℕ → List ℕ → FlatWrite
answer n v l s o = record { reply = n ∷ v ∷ 0 ∷ zeros 33; log = l; sheet = s; output = o }

table_writes : map wrote (writing "" 68 ∷ writing "" 64 ∷ writing "?" 70 ∷ writing "tapes=1\ntapes=1" 70 ∷ []) ≡
    answer 0 65 (zeros 5) (9251 ∷ 0 ∷ 0 ∷ 0 ∷ []) (encode (codes "machine \"\"\nkind transducer\ninput \"\"\noutput word\ntapes = 1\nF = {}\n") ++ dirty 3) ∷
    answer 7 65 (zeros 5) (9251 ∷ 0 ∷ 0 ∷ 0 ∷ []) (dirty 64) ∷
    answer ø 1 (1 ∷ 0 ∷ 1 ∷ ø ∷ ø ∷ []) (zeros 4) (dirty 70) ∷
    answer ø 1 (11 ∷ 8 ∷ 15 ∷ 0 ∷ 7 ∷ []) (zeros 4) (dirty 70) ∷
    []
unfolding wrote encode
table_writes = refl

-- ---- names of states

-- the names in the sheet of P1's first text: of states 0 and 1; of what would be state 2, whose words are no place in the text; of state 19, past the sheet
table_names : (let t = bytes "δ(a,{0,1})=(b,*,R)\n" in let s = (read_outcome t 126 [] (zeros 57)).sheet in state_name s t 0 ∷ state_name s t 1 ∷ state_name s t 2 ∷ state_name s t 19 ∷ [])
    ≡ codes "a" ∷ codes "b" ∷ [] ∷ [] ∷ []
unfolding read_outcome bytes state_name
table_names = refl
