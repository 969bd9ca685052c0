-- How long the lines of a run can be: eight bytes for each cell, the bytes of the state's name, and 318 bytes for all else.
use Prim.Native.Nat.{ℕ, zero, suc, ◌+◌, ◌*◌, ◌-◌, ◌≤◌}
use native.Mathlib.Omega.{arith}
use mathlib.Core.List.{List, [], ◌∷◌, reverse, reverse-cons}
use mathlib.Core.Path.{◌≡◌, ap}
use lib.Dec.{eqb, ltb}
use lib.ListN.{length, take, drop, length-append, length-reverse}
use Rattle.chars.specs.Utf8.{encode}
use Rattle.language.specs.Content.{Content}
use Rattle.language.specs.Plain.{say, verbatim, each}
use Rattle.language.proofs.Every.{by_test, Every, every_append}
use Rattle.emit.specs.Decimal.{digits_from}
use Rattle.emit.proofs.Digits.{digits-any}
use Rattle.running.specs.Tape.{half, tape_cells}
use Rattle.running.specs.Run.{Stop, halted, stuck, spent, edge, Ended}
use Rattle.list_lines.specs.Listing.{number}
use Rattle.list_room.proofs.Pieces.{Short, ◌▸◌, less, said, ended, digits_short, number_short, bytes_short}
use Rattle.run_lines.specs.Lines.{tapes_line, stop_word, stop_line, steps_line, nonblank, nonblank_line, state_line}
use Rattle.run_lines.specs.Lines.{position_of, head_line, from_nonblank, to_nonblank, code, codes_from, tape_line, tape_lines, ended_lines}
use Rattle.run_lines.proofs.Ends.{nonblank_fewer}
use Rattle.run_room.proofs.Kept.{Code, every_drop, Kept}

-- ---- one line

tapes_short : (tapes h : ℕ) → Short 53 (tapes_line tapes h)
unfolding tapes_line
tapes_short tapes h = said "tapes=" ▸ number_short tapes ▸ said " half=" ▸ number_short h ▸ ended

word_short : (s : Stop) → Short 6 (say (stop_word s))
word_short halted = said "halted"
word_short stuck = less (omega arith) (said "stuck")
word_short spent = less (omega arith) (said "spent")
word_short edge = less (omega arith) (said "edge")

stop_short : (s : Stop) → Short 12 (stop_line s)
unfolding stop_line
stop_short s = said "stop=" ▸ word_short s ▸ ended

steps_short : (n : ℕ) → Short 27 (steps_line n)
unfolding steps_line
steps_short n = said "steps=" ▸ number_short n ▸ ended

nonblank_short : (blank : ℕ) (cells : List ℕ) → Short 30 (nonblank_line blank cells)
unfolding nonblank_line
nonblank_short blank cells = said "nonblank=" ▸ number_short (nonblank blank cells) ▸ ended

verbatim_short : (n : ℕ) (bytes : List ℕ) → length bytes ≤ n → Short n (verbatim bytes)
verbatim_short n bytes h = record { short = λ rest. omega (arith, length-append bytes rest) }

state_short : (n : ℕ) (name : List ℕ) → length name ≤ n → Short (7 + n) (state_line name)
unfolding state_line
state_short n name h = less (omega arith) (said "state=" ▸ verbatim_short n name h ▸ ended)

position_short : (h a : ℕ) → Short 21 (position_of h a)
unfolding position_of
position_short h a = by_test (ltb a h)
    (λ e. rw (e, position_of) (said "-" ▸ number_short (h - a)))
    (λ e. rw (e, position_of) (less (omega arith) (number_short (a - h))))

head_short : (h a : ℕ) → Short 27 (head_line h a)
unfolding head_line
head_short h a = said "head=" ▸ position_short h a ▸ ended

-- ---- a tape

-- a code point has seven digits at most
code_short : (c : ℕ) → Code c → Short 8 (code c)
unfolding code number
code_short c h = said " " ▸ digits
  where
    digits : Short 7 (digits_from 19 c)
    digits = record { short = λ rest. let e = digits-any 13 6 c rest (omega arith) in omega (arith, ap length e, digits_short 6 c rest) }

codes_short : (cs : List ℕ) → Every Code cs → Short (8 * length cs) (each code cs)
unfolding each
codes_short [] h = record { short = λ rest. omega arith }
codes_short (c ∷ cs) h = less (omega arith) (code_short c h.0 ▸ codes_short cs h.1)

from_short : (h a : ℕ) (cs : List ℕ) → Every Code cs → Short (21 + 8 * length cs) (codes_from h a cs)
unfolding codes_from
from_short h a [] k = record { short = λ rest. omega arith }
from_short h a (c ∷ cs) k = position_short h a ▸ codes_short (c ∷ cs) k

module _ (blank : ℕ) where
  nonblank_codes : (cs : List ℕ) → Every Code cs → Every Code (from_nonblank blank cs)
  unfolding from_nonblank
  nonblank_codes [] h = tt
  nonblank_codes (c ∷ cs) h = by_test (eqb c blank) (λ e. rw (e, from_nonblank) (nonblank_codes cs h.1)) (λ e. rw (e, from_nonblank) h)

every_reverse : (cs : List ℕ) → Every Code cs → Every Code (reverse cs)
every_reverse [] h = tt
every_reverse (c ∷ cs) h = rw reverse-cons (every_append Code (reverse cs) (c ∷ []) (every_reverse cs h.1) (h.0, tt))

shown_fewer : (blank : ℕ) (cs : List ℕ) → length (to_nonblank blank cs) ≤ length cs
unfolding to_nonblank
shown_fewer blank cs = omega (arith, length-reverse (from_nonblank blank (reverse cs)), nonblank_fewer blank (reverse cs), length-reverse cs)

shown_codes : (blank : ℕ) (cs : List ℕ) → Every Code cs → Every Code (to_nonblank blank cs)
unfolding to_nonblank
shown_codes blank cs h = every_reverse (from_nonblank blank (reverse cs)) (nonblank_codes blank (reverse cs) (every_reverse cs h))

tape_short : (h blank : ℕ) (cs : List ℕ) → Every Code cs → Short (27 + 8 * length cs) (tape_line h blank cs)
unfolding tape_line
tape_short h blank cs k =
    let rest = from_nonblank blank cs in
    let codes = from_short h (length cs - length rest) (to_nonblank blank rest) (shown_codes blank rest (nonblank_codes blank cs k)) in
    let i = shown_fewer blank rest in
    let j = nonblank_fewer blank cs in
    less (omega arith) (said "tape=" ▸ codes ▸ ended)

-- ---- all tapes

split_length : (n : ℕ) (cs : List ℕ) → length (take n cs) + length (drop n cs) ≡ length cs
split_length zero cs = omega arith
split_length (suc n) [] = omega arith
split_length (suc n) (c ∷ cs) = omega (arith, split_length n cs)

every_take : (n : ℕ) (cs : List ℕ) → Every Code cs → Every Code (take n cs)
every_take zero cs h = tt
every_take (suc n) [] h = tt
every_take (suc n) (c ∷ cs) h = (h.0, every_take n cs h.1)

tapes_of_short : (h blank : ℕ) (heads cs : List ℕ) → Every Code cs
    → Short (54 * length heads + 8 * length cs) (tape_lines h blank heads cs)
unfolding tape_lines
tapes_of_short h blank [] cs k = record { short = λ rest. omega arith }
tapes_of_short h blank (a ∷ heads) cs k =
    let own = take (2 * h) cs in
    let behind = drop (2 * h) cs in
    let i = split_length (2 * h) cs in
    less (omega arith)
    (head_short h a ▸ tape_short h blank own (every_take (2 * h) cs k) ▸ tapes_of_short h blank heads behind (every_drop Code (2 * h) cs k))

-- ---- a run

pub run_short : (n : ℕ) (text : List ℕ) (m : Content) (e : Ended) → Kept n m.tapes e.last → m.tapes ≤ 3
    → Short (318 + n + 8 * length e.last.cells) (ended_lines text m e)
unfolding ended_lines
run_short n text m e w few =
    let h = half (length e.last.cells) m.tapes in
    let k = w.few_heads in
    less (omega arith)
    (bytes_short text ▸ tapes_short m.tapes h ▸ stop_short e.stop ▸ steps_short e.steps
    ▸ nonblank_short m.blank (take (tape_cells h m.tapes) e.last.cells) ▸ state_short n (encode e.last.state) w.state_short
    ▸ tapes_of_short h m.blank e.last.heads e.last.cells w.cells_codes)
