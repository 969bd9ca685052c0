-- Whole batches, computed: what paper 02 says of request 2 and each point that it leaves open, by the smallest input that shows
-- it. Every word lent is dirty.
use Prim.Native.Nat.{ℕ, suc, ◌*◌}
use mathlib.Core.Bool.{Bool, true, false}
use mathlib.Core.List.{List, [], ◌∷◌, ◌++◌, map}
use mathlib.Core.Path.{◌≡◌, refl}
use lib.ListN.{length, replicate}
use Rattle.lexer.specs.Text.{same}
use Rattle.language.specs.Layout.{flag}
use Rattle.language.specs.Outcome.{zeros, read_outcome}
use Rattle.language.proofs.Samples.{ø, dirty, bytes}
use Rattle.running.specs.Batch.{BatchLent, entry_size, batch_words, batch_leaves_work, BatchOutcome, batch_outcome}

-- the blank that no machine declares
abbrev ␣ : ℕ
␣ = 9251

-- an outcome, its reply in words
record Flat : Type 0 where
  reply : List ℕ
  log : List ℕ
  sheet : List ℕ
  cells : List ℕ
  answers : List ℕ

flatten : BatchOutcome → Flat
flatten o = record { reply = batch_words o.reply; log = o.log; sheet = o.sheet; cells = o.cells; answers = o.answers }

-- texts back to back
joined : List (List ℕ) → List ℕ
joined [] = []
joined (t ∷ ts) = t ++ joined ts

-- the sheet of so many words behind the reading of the last of some texts
last_sheet : ℕ → List (List ℕ) → List ℕ → List ℕ
unfolding read_outcome
last_sheet n [] sheet = sheet
last_sheet n (t ∷ ts) sheet = last_sheet n ts (read_outcome t 3000 [] (dirty n)).sheet

-- an outcome with 1 for a sheet that is as it should be
compared : List ℕ → Flat → Flat
compared sheet f =
    record { reply = f.reply; log = f.log; sheet = flag (same f.sheet sheet) ∷ []; cells = f.cells; answers = f.answers }

data Sample : Type 0 where
  -- cells, allowance and texts of a batch that runs; its answers and cells
  runs : ℕ → ℕ → List (List ℕ) → List ℕ → List ℕ → Sample
  -- cells and texts of a batch that is refused; number, value, index, log and sheet
  refuses : ℕ → List (List ℕ) → ℕ → ℕ → ℕ → List ℕ → List ℕ → Sample
  -- texts, lengths, words of work, words for answers, on 3 cells; reply, log, sheet, cells, answers
  calls : List ℕ → List ℕ → ℕ → ℕ → List ℕ → List ℕ → List ℕ → List ℕ → List ℕ → Sample

-- what a batch of whole texts is lent: cells, allowance, sheet, and a word too many for the answers
lent_for : ℕ → ℕ → ℕ → List (List ℕ) → BatchLent
unfolding joined
lent_for cells allowance sheet ts = record {
  texts = joined ts;
  lengths = map length ts;
  allowance = allowance;
  work = 3000;
  log = dirty 6;
  sheet = dirty sheet;
  cells = dirty cells;
  answers = dirty (suc (entry_size * length ts));
}

-- what a batch is lent on 3 cells
lent_on_3 : List ℕ → List ℕ → ℕ → ℕ → BatchLent
lent_on_3 texts lengths work answers = record {
  texts = texts;
  lengths = lengths;
  allowance = 100;
  work = work;
  log = dirty 2;
  sheet = dirty 9;
  cells = dirty 3;
  answers = dirty answers;
}

outcome : Sample → Flat
unfolding flatten lent_for lent_on_3 compared last_sheet batch_outcome
outcome (runs cells allowance ts answers left) =
    compared (last_sheet 240 ts (dirty 240)) (flatten (batch_outcome (lent_for cells allowance 240 ts)))
outcome (refuses cells ts number value index log sheet) = flatten (batch_outcome (lent_for cells 18446744073709551615 60 ts))
outcome (calls t lengths work answers reply log sheet cells left) = flatten (batch_outcome (lent_on_3 t lengths work answers))

-- the log behind readings that give machines
log_behind : List (List ℕ) → List ℕ
log_behind [] = dirty 6
log_behind (t ∷ ts) = zeros 6

expected : Sample → Flat
unfolding log_behind
expected (runs cells allowance ts answers left) =
    record { reply = 0 ∷ 0 ∷ ø ∷ []; log = log_behind ts; sheet = 1 ∷ []; cells = left; answers = answers ++ dirty 1 }
expected (refuses cells ts number value index log sheet) = record {
  reply = number ∷ value ∷ index ∷ [];
  log = log;
  sheet = sheet;
  cells = dirty cells;
  answers = dirty (suc (entry_size * length ts));
}
expected (calls t lengths work answers reply log sheet cells left) =
    record { reply = reply; log = log; sheet = sheet; cells = cells; answers = left }

-- busy beavers of two, three and four states
bb2 : List ℕ
unfolding bytes
bb2 = bytes "δ(A,_)=(B,1,R)\nδ(A,1)=(B,1,L)\nδ(B,_)=(A,1,L)\nδ(B,1)=(H,1,R)\nF={H}"

bb3 : List ℕ
unfolding bytes
bb3 = bytes "δ(A,_)=(B,1,R)\nδ(A,1)=(H,1,R)\nδ(B,_)=(B,1,L)\nδ(B,1)=(C,_,R)\nδ(C,_)=(C,1,L)\nδ(C,1)=(A,1,L)\nF={H}"

bb3_erasing : List ℕ
unfolding bytes
bb3_erasing = bytes "δ(A,_)=(B,1,R)\nδ(A,1)=(H,1,R)\nδ(B,_)=(C,_,R)\nδ(B,1)=(B,1,R)\nδ(C,_)=(C,1,L)\nδ(C,1)=(A,1,L)\nF={H}"

bb4 : List ℕ
unfolding bytes
bb4 =
    bytes "kind beaver\nblank=0\nQ={A,B,C,D,H}\nF={H}\nδ(A,0)=(B,1,R)\nδ(A,1)=(B,1,L)\nδ(B,0)=(A,1,L)\nδ(B,1)=(C,0,L)\n"
    ++ bytes "δ(C,0)=(H,1,R)\nδ(C,1)=(D,1,L)\nδ(D,0)=(D,1,R)\nδ(D,1)=(A,0,R)"

abbrev samples : List Sample
unfolding bytes bb2 bb3 bb3_erasing bb4
samples =
    -- the busy beaver of two states halts after 6 steps with 4 ones; its last step uses up the allowance
    runs 8 6 (bb2 ∷ []) (0 ∷ 6 ∷ []) ((␣ ∷ ␣ ∷ []) ++ replicate 4 49 ++ (␣ ∷ ␣ ∷ [])) ∷
    -- of three states: the one that runs longest, 21 steps, and the one that writes most, 6 ones
    runs 12 100 (bb3 ∷ []) (0 ∷ 21 ∷ []) (replicate 5 ␣ ++ replicate 5 49 ++ (␣ ∷ ␣ ∷ [])) ∷
    runs 12 100 (bb3_erasing ∷ []) (0 ∷ 14 ∷ []) (replicate 5 ␣ ++ replicate 6 49 ++ (␣ ∷ [])) ∷
    -- of four states: 107 steps, 13 ones
    runs 32 18446744073709551615 (bb4 ∷ []) (0 ∷ 107 ∷ [])
    (replicate 6 48 ++ (49 ∷ 48 ∷ []) ++ replicate 12 49 ++ replicate 12 48) ∷
    -- the same, spent one step before it halts, and on tapes too short for it
    runs 32 106 (bb4 ∷ []) (2 ∷ 106 ∷ []) (replicate 8 48 ++ replicate 12 49 ++ replicate 12 48) ∷
    runs 16 1000 (bb4 ∷ []) (3 ∷ 92 ∷ []) ((49 ∷ 48 ∷ 49 ∷ 48 ∷ []) ++ replicate 8 49 ++ replicate 4 48) ∷
    -- halted and stuck are tested before spent
    runs 4 0 (bytes "Q={a}\nF={a}" ∷ []) (0 ∷ 0 ∷ []) (replicate 4 ␣) ∷
    runs 4 0 (bytes "Q={a}" ∷ []) (1 ∷ 0 ∷ []) (replicate 4 ␣) ∷
    -- spent is tested before edge
    runs 2 0 (bytes "δ(a,_)=(a,1,R)" ∷ []) (2 ∷ 0 ∷ []) (␣ ∷ ␣ ∷ []) ∷
    runs 2 1 (bytes "δ(a,_)=(a,1,R)" ∷ []) (3 ∷ 0 ∷ []) (␣ ∷ ␣ ∷ []) ∷
    runs 8 3 (bytes "δ(a,_)=(a,1,R)" ∷ []) (2 ∷ 3 ∷ []) (replicate 4 ␣ ++ replicate 3 49 ++ (␣ ∷ [])) ∷
    runs 8 4 (bytes "δ(a,_)=(a,1,R)" ∷ []) (3 ∷ 3 ∷ []) (replicate 4 ␣ ++ replicate 3 49 ++ (␣ ∷ [])) ∷
    -- at the edge nothing is done on any tape
    runs 8 100 (bytes "tapes=2\nδ(a,(_,_))=(a,(1,2),(N,R))\nδ(a,(1,_))=(a,(_,3),(N,R))" ∷ []) (3 ∷ 1 ∷ [])
    ((␣ ∷ ␣ ∷ 49 ∷ []) ++ replicate 3 ␣ ++ (50 ∷ ␣ ∷ [])) ∷
    -- the left half has one place more to go than the right
    runs 8 100 (bytes "δ(a,_)=(a,1,L)" ∷ []) (3 ∷ 4 ∷ []) ((␣ ∷ []) ++ replicate 4 49 ++ replicate 3 ␣) ∷
    -- a head that stays never leaves its tape
    runs 2 100 (bytes "δ(a,_)=(b,1,N)\nF={b}" ∷ []) (0 ∷ 1 ∷ []) (␣ ∷ 49 ∷ []) ∷
    -- states are names, and the first of equal names says whether it is final
    runs 4 100 (bytes "Q={b,a,a}\nF={a}\nstart=b\nδ(b,_)=(a,1,R)" ∷ []) (0 ∷ 1 ∷ []) (␣ ∷ ␣ ∷ 49 ∷ ␣ ∷ []) ∷
    -- a state that Q lacks is run by its name
    runs 8 3 (bytes "Q={a}\nδ(a,_)=(b,1,R)\nδ(b,_)=(a,2,R)" ∷ []) (2 ∷ 3 ∷ []) (replicate 4 ␣ ++ (49 ∷ 50 ∷ 49 ∷ ␣ ∷ [])) ∷
    -- without a start a machine is stuck, on the cells of a start
    runs 4 100 (bytes "" ∷ []) (1 ∷ 0 ∷ []) (replicate 4 ␣) ∷
    runs 4 100 (bytes "input \"1\"\nQ={}\nδ(a,_)=(a,1,R)" ∷ []) (1 ∷ 0 ∷ []) (␣ ∷ ␣ ∷ 49 ∷ ␣ ∷ []) ∷
    -- an undeclared start is the first of Q, whatever the rules begin with
    runs 4 100 (bytes "Q={a,b}\nδ(b,_)=(a,1,R)" ∷ []) (1 ∷ 0 ∷ []) (replicate 4 ␣) ∷
    -- the input is characters, escapes undone; a blank among them is a blank cell
    runs 8 100 (bytes "input \"\\\"\\\\\\n\\t\"\nQ={a}" ∷ []) (1 ∷ 0 ∷ []) (replicate 4 ␣ ++ (34 ∷ 92 ∷ 10 ∷ 9 ∷ [])) ∷
    runs 4 100 (bytes "input \"\\q\"\nQ={a}" ∷ []) (1 ∷ 0 ∷ []) (␣ ∷ ␣ ∷ 92 ∷ 113 ∷ []) ∷
    runs 6 100 (bytes "input \"äöü\"\nQ={a}" ∷ []) (1 ∷ 0 ∷ []) (replicate 3 ␣ ++ (228 ∷ 246 ∷ 252 ∷ [])) ∷
    runs 6 100 (bytes "blank=x\ninput \"_␣x\"\nQ={a}" ∷ []) (1 ∷ 0 ∷ []) (replicate 3 120 ++ (95 ∷ ␣ ∷ 120 ∷ [])) ∷
    -- an input as long as the right half fits
    runs 7 100 (bytes "input \"111\"\nQ={a}" ∷ []) (1 ∷ 0 ∷ []) (replicate 3 ␣ ++ replicate 3 49 ++ (7 ∷ [])) ∷
    -- half is as large as fits the machine's own tapes, and the cells left over are untouched
    runs 13 100 (bytes "Q={a}" ∷ []) (1 ∷ 0 ∷ []) (replicate 12 ␣ ++ (7 ∷ [])) ∷
    runs 13 100 (bytes "tapes=2\nQ={a}" ∷ []) (1 ∷ 0 ∷ []) (replicate 12 ␣ ++ (7 ∷ [])) ∷
    runs 13 100 (bytes "tapes=3\nQ={a}" ∷ []) (1 ∷ 0 ∷ []) (replicate 12 ␣ ++ (7 ∷ [])) ∷
    runs 7 100 (bytes "Q={a}" ∷ []) (1 ∷ 0 ∷ []) (replicate 6 ␣ ++ (7 ∷ [])) ∷
    runs 7 100 (bytes "tapes=2\nQ={a}" ∷ []) (1 ∷ 0 ∷ []) (replicate 4 ␣ ++ dirty 3) ∷
    runs 7 100 (bytes "tapes=3\nQ={a}" ∷ []) (1 ∷ 0 ∷ []) (replicate 6 ␣ ++ (7 ∷ [])) ∷
    -- cells that an entry leaves over are as the entry before left them
    runs 7 100 (bytes "δ(a,_)=(a,1,L)" ∷ bytes "tapes=2\nQ={a}" ∷ []) (3 ∷ 3 ∷ 1 ∷ 0 ∷ []) (replicate 6 ␣ ++ (7 ∷ [])) ∷
    runs 7 100 (bytes "δ(a,_)=(a,1,R)" ∷ bytes "tapes=2\nQ={a}" ∷ []) (3 ∷ 2 ∷ 1 ∷ 0 ∷ []) (replicate 4 ␣ ++ (49 ∷ ␣ ∷ 7 ∷ [])) ∷
    -- the first rule that matches is taken, also where equal ones follow
    runs 4 100 (bytes "δ(a,_)=(b,1,N)\nδ(a,_)=(c,2,N)\nF={b}" ∷ []) (0 ∷ 1 ∷ []) (␣ ∷ ␣ ∷ 49 ∷ ␣ ∷ []) ∷
    runs 4 100 (bytes "δ(a,{1,_})=(b,x,N)\nδ(a,_)=(c,2,N)\nF={c}" ∷ []) (1 ∷ 1 ∷ []) (␣ ∷ ␣ ∷ 120 ∷ ␣ ∷ []) ∷
    -- a rule behind comments
    runs 4 100 (bytes "// one\n// two\nδ(b,_)=(b,1,R)\nδ(a,_)=(b,2,L)\nstart=a" ∷ []) (1 ∷ 2 ∷ []) (␣ ∷ 49 ∷ 50 ∷ ␣ ∷ []) ∷
    -- all entries share one counter, each has an answer, and the cells are the last one's
    runs 8 13 (bb2 ∷ bb2 ∷ bb2 ∷ []) (0 ∷ 6 ∷ 0 ∷ 6 ∷ 2 ∷ 1 ∷ []) (replicate 4 ␣ ++ (49 ∷ []) ++ replicate 3 ␣) ∷
    -- with nothing left an entry may still be halted or stuck
    runs 8 2 (bytes "δ(a,_)=(a,1,R)" ∷ bytes "Q={a}\nF={a}" ∷ bytes "Q={a}" ∷ bytes "δ(a,_)=(a,1,R)" ∷ [])
    (2 ∷ 2 ∷ 0 ∷ 0 ∷ 1 ∷ 0 ∷ 2 ∷ 0 ∷ []) (replicate 8 ␣) ∷
    -- nothing stays of an earlier entry on the last one's tapes
    runs 4 100 (bytes "blank=x\nδ(a,x)=(b,1,N)\nF={b}" ∷ bytes "Q={a}" ∷ []) (0 ∷ 1 ∷ 1 ∷ 0 ∷ []) (replicate 4 ␣) ∷
    -- no entries
    runs 4 100 [] [] (dirty 4) ∷
    -- the kind plays no part
    runs 2 100 (bytes "kind enumerator\nF={a}\nδ(a,_)=(a,1,R)" ∷ []) (0 ∷ 0 ∷ []) (␣ ∷ ␣ ∷ []) ∷
    runs 4 100 (bytes "kind beaver\ninput \"1\"\nδ(a,1)=(b,2,R)" ∷ []) (1 ∷ 1 ∷ []) (␣ ∷ ␣ ∷ 50 ∷ ␣ ∷ []) ∷
    -- three tapes, each with its own move
    runs 13 1 (bytes "tapes=3\ninput \"1\"\nδ(a,(1,_,_))=(b,(2,3,4),(L,N,R))\nδ(b,(_,3,_))=(c,(5,6,7),(N,L,N))" ∷ [])
    (2 ∷ 1 ∷ []) ((␣ ∷ ␣ ∷ 50 ∷ []) ++ replicate 3 ␣ ++ (51 ∷ []) ++ replicate 3 ␣ ++ (52 ∷ ␣ ∷ 7 ∷ [])) ∷
    runs 13 2 (bytes "tapes=3\ninput \"1\"\nδ(a,(1,_,_))=(b,(2,3,4),(L,N,R))\nδ(b,(_,3,_))=(c,(5,6,7),(N,L,N))" ∷ [])
    (1 ∷ 2 ∷ []) ((␣ ∷ 53 ∷ 50 ∷ []) ++ replicate 3 ␣ ++ (54 ∷ []) ++ replicate 3 ␣ ++ (52 ∷ 55 ∷ 7 ∷ [])) ∷
    -- an entry with diagnostics is refused and gives their count
    refuses 8 (bytes "x" ∷ []) ø 1 0 (1 ∷ 0 ∷ 1 ∷ ø ∷ ø ∷ 0 ∷ []) (replicate 60 0) ∷
    refuses 8 (bytes "Q={a}" ∷ bytes "x" ∷ []) ø 1 1 (1 ∷ 0 ∷ 1 ∷ ø ∷ ø ∷ 0 ∷ []) (replicate 60 0) ∷
    -- a log for one diagnostic
    refuses 8 (bytes "x\nx" ∷ []) 5 2 0 (replicate 6 0) (replicate 60 0) ∷
    -- a sheet of 60 words
    refuses 8 (bytes "Q={a,b,c,d,e,f,g,h,i,j,k,l,m,n,o,p,q,r,s,t}" ∷ []) 6 63 0 (replicate 6 0) (replicate 60 0) ∷
    -- a character outside the set
    refuses 8 ((97 ∷ 204 ∷ 128 ∷ []) ∷ []) 4 1 0 (dirty 6) (dirty 60) ∷
    -- log and sheet are as the last reading left them
    refuses 8 (bytes "δ(a,_)=(a,_,N)" ∷ (255 ∷ []) ∷ []) 3 0 1 (replicate 6 0)
    ((3 ∷ 4 ∷ 0 ∷ ␣ ∷ 0 ∷ 0 ∷ 18 ∷ 3 ∷ 4 ∷ 9 ∷ 10 ∷ 0 ∷ 15 ∷ ø ∷ ø ∷ 1 ∷ 0 ∷ ␣ ∷ 5 ∷ 6 ∷ ␣ ∷ 11 ∷ 12 ∷ 2 ∷
    []) ++ replicate 36 0) ∷
    refuses 8 ((255 ∷ []) ∷ bytes "δ(a,_)=(a,_,N)" ∷ []) 3 0 0 (dirty 6) (dirty 60) ∷
    refuses 8 (bytes "δ(a,_)=(a,_,N)" ∷ bytes "tapes=4\nQ={a}" ∷ []) 8 0 1 (replicate 6 0)
    ((11 ∷ 12 ∷ 0 ∷ ␣ ∷ []) ++ replicate 56 0) ∷
    -- the first refused entry is named, not the smallest number
    refuses 8 (bytes "input \"111111111\"\nQ={a}" ∷ bytes "tapes=0" ∷ []) 10 0 0 (replicate 6 0)
    ((21 ∷ 22 ∷ 0 ∷ 49 ∷ 0 ∷ 0 ∷ ␣ ∷ 0 ∷ 0 ∷ 49 ∷ []) ++ replicate 50 0) ∷
    -- nothing runs before all are read: the first entry would use up the allowance
    refuses 8 (bytes "δ(a,_)=(a,_,N)" ∷ bytes "δ(a,_)=(a,_,N)" ∷ bytes "tapes=0" ∷ []) 8 0 2 (replicate 6 0)
    ((␣ ∷ []) ++ replicate 59 0) ∷
    -- an undeclared number of tapes is 1, whatever the rules' arity
    refuses 8 (bytes "δ(a,(0,1))=(a,(2,3),(R,R))" ∷ []) 9 0 0 (replicate 6 0)
    ((3 ∷ 4 ∷ 0 ∷ 48 ∷ 0 ∷ 0 ∷ 49 ∷ 0 ∷ 0 ∷ 50 ∷ 0 ∷ 0 ∷ 51 ∷ 0 ∷ 0 ∷ ␣ ∷ 0 ∷ 0 ∷ 48 ∷ 0 ∷ 0 ∷ 49 ∷ 0 ∷ 0 ∷ 50 ∷ 0 ∷ 0 ∷
    51 ∷ 0 ∷ 0 ∷ 25 ∷ 3 ∷ 4 ∷ 13 ∷ 14 ∷ 0 ∷ 27 ∷ ø ∷ ø ∷ 2 ∷ 0 ∷ 48 ∷ 6 ∷ 7 ∷ 50 ∷ 16 ∷ 17 ∷ 1 ∷ 49 ∷ 8 ∷ 9 ∷ 51 ∷ 18 ∷
    19 ∷ 1 ∷ []) ++ replicate 5 0) ∷
    -- the order is 8, then 9, then 10
    refuses 8 (bytes "tapes=0\ninput \"111111111\"" ∷ []) 8 0 0 (replicate 6 0)
    ((49 ∷ 0 ∷ 0 ∷ ␣ ∷ 0 ∷ 0 ∷ 49 ∷ []) ++ replicate 53 0) ∷
    refuses 8 (bytes "tapes=4\nδ(a,_)=(a,_,N)" ∷ []) 8 0 0 (replicate 6 0)
    ((11 ∷ 12 ∷ 0 ∷ ␣ ∷ 0 ∷ 0 ∷ 18 ∷ 11 ∷ 12 ∷ 17 ∷ 18 ∷ 8 ∷ 23 ∷ ø ∷ ø ∷ 1 ∷ 0 ∷ ␣ ∷ 13 ∷ 14 ∷ ␣ ∷ 19 ∷ 20 ∷ 2 ∷
    []) ++ replicate 36 0) ∷
    refuses 8 (bytes "tapes=2\nδ(a,_)=(a,_,N)" ∷ []) 9 0 0 (replicate 6 0)
    ((11 ∷ 12 ∷ 0 ∷ ␣ ∷ 0 ∷ 0 ∷ 18 ∷ 11 ∷ 12 ∷ 17 ∷ 18 ∷ 8 ∷ 23 ∷ ø ∷ ø ∷ 1 ∷ 0 ∷ ␣ ∷ 13 ∷ 14 ∷ ␣ ∷ 19 ∷ 20 ∷ 2 ∷
    []) ++ replicate 36 0) ∷
    refuses 1 (bytes "tapes=2\nδ(a,_)=(a,_,N)" ∷ []) 9 0 0 (replicate 6 0)
    ((11 ∷ 12 ∷ 0 ∷ ␣ ∷ 0 ∷ 0 ∷ 18 ∷ 11 ∷ 12 ∷ 17 ∷ 18 ∷ 8 ∷ 23 ∷ ø ∷ ø ∷ 1 ∷ 0 ∷ ␣ ∷ 13 ∷ 14 ∷ ␣ ∷ 19 ∷ 20 ∷ 2 ∷
    []) ++ replicate 36 0) ∷
    -- an input longer than the right half
    refuses 6 (bytes "input \"\\\"\\\\\\n\\t\"\nQ={a}" ∷ []) 10 0 0 (replicate 6 0)
    ((20 ∷ 21 ∷ 0 ∷ 34 ∷ 0 ∷ 0 ∷ 92 ∷ 0 ∷ 0 ∷ 10 ∷ 0 ∷ 0 ∷ 9 ∷ 0 ∷ 0 ∷ ␣ ∷ 0 ∷ 0 ∷ 34 ∷ 0 ∷ 0 ∷ 92 ∷ 0 ∷ 0 ∷ 10 ∷ 0 ∷ 0 ∷
    9 ∷ []) ++ replicate 32 0) ∷
    refuses 7 (bytes "input \"1111\"\nQ={a}" ∷ []) 10 0 0 (replicate 6 0)
    ((16 ∷ 17 ∷ 0 ∷ 49 ∷ 0 ∷ 0 ∷ ␣ ∷ 0 ∷ 0 ∷ 49 ∷ []) ++ replicate 50 0) ∷
    -- half is 0
    refuses 1 (bytes "" ∷ []) 10 0 0 (replicate 6 0) ((␣ ∷ []) ++ replicate 59 0) ∷
    refuses 5 (bytes "tapes=3" ∷ []) 10 0 0 (replicate 6 0) ((␣ ∷ []) ++ replicate 59 0) ∷
    -- lengths that pass the texts, however large they are
    calls (bytes "Q={a}") (ø ∷ ø ∷ []) 3000 4 (23 ∷ 0 ∷ ø ∷ []) (7 ∷ 7 ∷ []) (dirty 9) (dirty 3) (dirty 4) ∷
    calls (bytes "Q={a}") (9223372036854775808 ∷ 9223372036854775808 ∷ []) 3000 4 (23 ∷ 0 ∷ ø ∷ []) (7 ∷ 7 ∷ []) (dirty 9)
    (dirty 3) (dirty 4) ∷
    calls (bytes "Q={a}") (6 ∷ []) 3000 4 (23 ∷ 0 ∷ ø ∷ []) (7 ∷ 7 ∷ []) (dirty 9) (dirty 3) (dirty 4) ∷
    calls (bytes "Q={a}") (2 ∷ 4 ∷ []) 3000 4 (23 ∷ 0 ∷ ø ∷ []) (7 ∷ 7 ∷ []) (dirty 9) (dirty 3) (dirty 4) ∷
    -- surplus bytes are not read
    calls (81 ∷ 61 ∷ 123 ∷ 97 ∷ 125 ∷ 255 ∷ []) (5 ∷ []) 3000 2 (0 ∷ 0 ∷ ø ∷ []) (0 ∷ 0 ∷ [])
    ((3 ∷ 4 ∷ 0 ∷ ␣ ∷ []) ++ replicate 5 0) (␣ ∷ ␣ ∷ 7 ∷ []) (1 ∷ 0 ∷ []) ∷
    -- two entries, of one text
    calls (bytes "Q={a}Q={a}") (5 ∷ 5 ∷ []) 36 4 (0 ∷ 0 ∷ ø ∷ []) (0 ∷ 0 ∷ []) ((3 ∷ 4 ∷ 0 ∷ ␣ ∷ []) ++ replicate 5 0)
    (␣ ∷ ␣ ∷ 7 ∷ []) (1 ∷ 0 ∷ 1 ∷ 0 ∷ []) ∷
    -- room for the answers is asked for before any reading
    calls (255 ∷ []) (1 ∷ []) 3000 1 (23 ∷ 0 ∷ ø ∷ []) (7 ∷ 7 ∷ []) (dirty 9) (dirty 3) (7 ∷ []) ∷
    calls (bytes "Q={a}Q={a}") (5 ∷ 5 ∷ []) 3000 3 (23 ∷ 0 ∷ ø ∷ []) (7 ∷ 7 ∷ []) (dirty 9) (dirty 3) (dirty 3) ∷
    -- work is asked for by each entry that is read, not by all together
    calls (bytes "Q={a}\n\n\n\n\nQ={a}\n\n\n\n\n\n\n\n\n\n\n\n\n\n\n") (10 ∷ 20 ∷ []) 126 4 (0 ∷ 0 ∷ ø ∷ []) (0 ∷ 0 ∷ [])
    ((3 ∷ 4 ∷ 0 ∷ ␣ ∷ []) ++ replicate 5 0) (␣ ∷ ␣ ∷ 7 ∷ []) (1 ∷ 0 ∷ 1 ∷ 0 ∷ []) ∷
    calls (bytes "Q={a}\n\n\n\n\nQ={a}\n\n\n\n\n\n\n\n\n\n\n\n\n\n\n") (10 ∷ 20 ∷ []) 125 4 (2 ∷ 0 ∷ 1 ∷ []) (0 ∷ 0 ∷ [])
    ((3 ∷ 4 ∷ 0 ∷ ␣ ∷ []) ++ replicate 5 0) (dirty 3) (dirty 4) ∷
    calls (bytes "Q={a}") (5 ∷ []) 35 2 (2 ∷ 0 ∷ 0 ∷ []) (7 ∷ 7 ∷ []) (dirty 9) (dirty 3) (7 ∷ 7 ∷ []) ∷
    -- no entries: nothing is touched
    calls (bytes "Q={a}") [] 0 1 (0 ∷ 0 ∷ ø ∷ []) (7 ∷ 7 ∷ []) (dirty 9) (dirty 3) (7 ∷ []) ∷
    -- an entry of no bytes is a machine without a start
    calls (bytes "Q={a}") (0 ∷ []) 6 2 (0 ∷ 0 ∷ ø ∷ []) (0 ∷ 0 ∷ []) ((␣ ∷ []) ++ replicate 8 0) (␣ ∷ ␣ ∷ 7 ∷ []) (1 ∷ 0 ∷ []) ∷
    []

table : map outcome samples ≡ map expected samples
unfolding outcome expected samples
table = refl

-- work is untouched where nothing is read and where the first entry is refused before it is read into work: texts, lengths, words
-- of work, words for answers, whether it is
data WorkSample : Type 0 where
  calls_with : List ℕ → List ℕ → ℕ → ℕ → Bool → WorkSample

left_alone : WorkSample → Bool
unfolding lent_on_3 batch_outcome
left_alone (calls_with t lengths work answers e) =
    batch_leaves_work lengths (batch_outcome (lent_on_3 t lengths work answers)).reply

left_alone_expected : WorkSample → Bool
left_alone_expected (calls_with t lengths work answers e) = e

abbrev work_samples : List WorkSample
unfolding bytes
work_samples =
    calls_with (bytes "Q={a}") (6 ∷ []) 3000 4 true ∷
    calls_with (bytes "Q={a}") (5 ∷ []) 3000 1 true ∷
    calls_with (bytes "Q={a}") [] 3000 1 true ∷
    calls_with (bytes "Q={a}") (5 ∷ []) 35 2 true ∷
    calls_with (bytes "Q={a}") (5 ∷ []) 36 2 false ∷
    calls_with (255 ∷ []) (1 ∷ []) 3000 2 false ∷
    calls_with (bytes "Q={a}Q={a} ") (5 ∷ 6 ∷ []) 36 4 false ∷
    []

work_table : map left_alone work_samples ≡ map left_alone_expected work_samples
unfolding left_alone left_alone_expected work_samples
work_table = refl
