-- Describes the code: the values that words with a meaning of their own have in a row, under the names that
-- crates/lexer/src/keyword.rt gives them. Files use this one as `keywords`.
use Rattle.std.specs.Prelude.{ℕ, ◌+◌}

-- the value of a word of more characters than one: this and its number among the keywords
abbrev pub longer : ℕ
longer = 0x110000

abbrev pub machine : ℕ
machine = longer + 1

abbrev pub kind : ℕ
kind = longer + 2

abbrev pub input : ℕ
input = longer + 3

abbrev pub output : ℕ
output = longer + 4

abbrev pub tapes : ℕ
tapes = longer + 5

abbrev pub q : ℕ
q = 0x51

abbrev pub sigma_sign : ℕ
sigma_sign = 0x3A3

abbrev pub sigma : ℕ
sigma = longer + 8

abbrev pub gamma_sign : ℕ
gamma_sign = 0x393

abbrev pub gamma : ℕ
gamma = longer + 10

abbrev pub blank : ℕ
blank = longer + 11

abbrev pub start : ℕ
start = longer + 12

abbrev pub f : ℕ
f = 0x46

abbrev pub delta_sign : ℕ
delta_sign = 0x3B4

abbrev pub delta : ℕ
delta = longer + 15

abbrev pub acceptor : ℕ
acceptor = longer + 16

abbrev pub transducer : ℕ
transducer = longer + 17

abbrev pub enumerator : ℕ
enumerator = longer + 18

abbrev pub beaver : ℕ
beaver = longer + 19

abbrev pub word : ℕ
word = longer + 20

abbrev pub unary : ℕ
unary = longer + 21

abbrev pub binary : ℕ
binary = longer + 22

abbrev pub lsb : ℕ
lsb = longer + 23

abbrev pub msb : ℕ
msb = longer + 24
