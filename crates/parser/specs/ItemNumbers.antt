-- Describes the code: the numbers of items, in the source's order, under the names of `ItemKind`. A row of first declarations has
-- the word of an item at its number, and the entry of an item has it in its kind. Files use this one as `items`.
use Rattle.std.specs.Prelude.{ℕ}

abbrev pub machine : ℕ
machine = 0

abbrev pub kind : ℕ
kind = 1

abbrev pub input : ℕ
input = 2

abbrev pub output : ℕ
output = 3

abbrev pub tapes : ℕ
tapes = 4

abbrev pub states : ℕ
states = 5

abbrev pub input_alphabet : ℕ
input_alphabet = 6

abbrev pub tape_alphabet : ℕ
tape_alphabet = 7

abbrev pub blank : ℕ
blank = 8

abbrev pub start : ℕ
start = 9

abbrev pub final : ℕ
final = 10

abbrev pub transition : ℕ
transition = 11
