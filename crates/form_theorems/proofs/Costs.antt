-- How many bytes each piece of a plain form puts before what follows.
use Prim.Native.Nat.{ℕ, zero, suc, ◌+◌, ◌*◌, ◌/◌, ◌%◌, ◌≤◌}
use Prim.Native.String as S
use native.Mathlib.Omega.{arith}
use mathlib.Core.Bool.{Bool, true, false}
use mathlib.Core.List.{List, [], ◌∷◌}
use Rattle.std.specs.Prelude.{Option, None, Some}
use mathlib.Core.Path.{◌≡◌, refl}
use lib.Dec.{ltb}
use lib.ListN.{length}
use Rattle.chars.specs.Utf8.{size, sizes}
use Rattle.chars.proofs.Theorems.{sizes-append}
use Rattle.machine.specs.declared.Kind.{Kind}
use Rattle.machine.specs.declared.Kind.TheVariants.{Acceptor, Transducer, Enumerator, Beaver}
use Rattle.machine.specs.declared.BitOrder.TheVariants.{Lsb, Msb}
use Rattle.machine.specs.declared.Decoder.{Decoder}
use Rattle.machine.specs.declared.Decoder.TheVariants.{Word, Unary, Binary}
use Rattle.language.specs.Machine.{Dir, left, right, stay}
use Rattle.language.specs.Plain.{Piece, ◌⨾◌, say, verbatim, end, only, each, commas, symbol, direction, escaped, in_string, escaped_text, string, decimal_from, decimal, comment, own_comment, kind_name, decoder}
use Rattle.language.proofs.Every.{by_test, Every, Maybe}

-- a piece puts at most n bytes before what follows
pub record Costs (p : Piece) (n : ℕ) : Type 0 where
  pub costs : (rest : List ℕ) → sizes (p rest) ≤ n + sizes rest

-- ---- characters

pub size_most : (c : ℕ) → size c ≤ 4
unfolding size
size_most c = by_test (ltb c 0x80) (λ e. rw e (omega arith)) (λ e. rw e (by_test (ltb c 0x800) (λ f. rw f (omega arith)) (λ f. rw f (by_test (ltb c 0x10000) (λ g. rw g (omega arith)) (λ g. rw g (omega arith))))))

size-least : (c : ℕ) → 1 ≤ size c
unfolding size
size-least c = by_test (ltb c 0x80) (λ e. rw e (omega arith)) (λ e. rw e (by_test (ltb c 0x800) (λ f. rw f (omega arith)) (λ f. rw f (by_test (ltb c 0x10000) (λ g. rw g (omega arith)) (λ g. rw g (omega arith))))))

pub length-sizes : (cs : List ℕ) → length cs ≤ sizes cs
unfolding sizes
length-sizes [] = omega arith
length-sizes (c ∷ cs) = omega (arith, size-least c, length-sizes cs)

-- ---- pieces

infixr 20 ◌▸◌
pub ◌▸◌ : {p q : Piece} {n k : ℕ} → Costs p n → Costs q k → Costs (p ⨾ q) (n + k)
◌▸◌ {q = q} a b = record { costs = λ rest. omega (arith, a.costs (q rest), b.costs rest) }

pub at_most : {p : Piece} {n : ℕ} (k : ℕ) → n ≤ k → Costs p n → Costs p k
at_most k h a = record { costs = λ rest. omega (arith, a.costs rest) }

pub nothing_costs : Costs (λ rest. rest) 0
nothing_costs = record { costs = λ rest. omega arith }

pub one_costs : (c : ℕ) → Costs (λ rest. c ∷ rest) 4
unfolding sizes
one_costs c = record { costs = λ rest. omega (arith, size_most c) }

say-sizes : (s : S.String) (rest : List ℕ) → sizes (say s rest) ≡ sizes (say s []) + sizes rest
unfolding sizes
say-sizes S.[] rest = omega arith
say-sizes (S.◌∷◌ c s) rest = omega (arith, say-sizes s rest)

pub say_costs : (s : S.String) (n : ℕ) → sizes (say s []) ≡ n → Costs (say s) n
say_costs s n e = record { costs = λ rest. omega (arith, say-sizes s rest, e) }

pub end_costs : Costs end 1
unfolding sizes size
end_costs = record { costs = λ rest. omega arith }

pub verbatim_costs : (w : List ℕ) (n : ℕ) → sizes w ≤ n → Costs (verbatim w) n
verbatim_costs w n h = record { costs = λ rest. omega (arith, sizes-append w rest) }

pub only_costs : {p : Piece} {n : ℕ} (b : Bool) → Costs p n → Costs (only b p) n
only_costs true a = a
only_costs false a = record { costs = λ rest. omega arith }

-- ---- lists

pub each_costs : {A : Type 0} (show : A → Piece) (k : ℕ) (l : List A) → Every (λ a. Costs (show a) k) l → Costs (each show l) (length l * k)
unfolding each
each_costs show k [] h = record { costs = λ rest. omega arith }
each_costs show k (a ∷ l) h = at_most (suc (length l) * k) (omega arith) (h.0 ▸ each_costs show k l h.1)

pub commas_costs : {A : Type 0} (show : A → Piece) (k : ℕ) (l : List A) → Every (λ a. Costs (show a) k) l → Costs (commas show l) (length l * (2 + k))
unfolding commas sizes size
commas_costs show k [] h = record { costs = λ rest. omega arith }
commas_costs show k (a ∷ []) h = at_most (1 * (2 + k)) (omega arith) h.0
commas_costs show k (a ∷ b ∷ l) h =
    at_most (suc (length (b ∷ l)) * (2 + k)) (omega arith) (h.0 ▸ say_costs ", " 2 refl ▸ commas_costs show k (b ∷ l) h.1)

-- ---- symbols, moves, strings and numbers

pub symbol_costs : (c : ℕ) → Costs (symbol c) 6
unfolding sizes size
symbol_costs c = say_costs "'" 1 refl ▸ one_costs c ▸ say_costs "'" 1 refl

pub direction_costs : (d : Dir) → Costs (direction d) 1
unfolding sizes size
direction_costs left = record { costs = λ rest. omega arith }
direction_costs right = record { costs = λ rest. omega arith }
direction_costs stay = record { costs = λ rest. omega arith }

inside_costs : (o : Option ℕ) (c : ℕ) → Costs (in_string o c) 5
unfolding in_string sizes size
inside_costs None c = at_most 5 (omega arith) (one_costs c)
inside_costs (Some e) c = record { costs = λ rest. omega (arith, size_most e) }

text_costs : (s : List ℕ) → Costs (escaped_text s) (length s * 5)
unfolding escaped_text
text_costs [] = record { costs = λ rest. omega arith }
text_costs (c ∷ s) = at_most (suc (length s) * 5) (omega arith) (inside_costs (escaped c) c ▸ text_costs s)

pub string_costs : (s : List ℕ) (n : ℕ) → length s ≤ n → Costs (string s) (5 * n + 2)
unfolding string sizes size
string_costs s n h = at_most (5 * n + 2) (omega arith) (say_costs "\"" 1 refl ▸ text_costs s ▸ say_costs "\"" 1 refl)

digits_costs : (k n : ℕ) → Costs (decimal_from k n) (4 * k + 4)
unfolding decimal_from
digits_costs zero n = one_costs (0x30 + n % 10)
digits_costs (suc k) n = by_test (ltb n 10)
    (λ e. rw (e, decimal_from) (at_most (4 * suc k + 4) (omega arith) (one_costs (0x30 + n))))
    (λ e. rw (e, decimal_from) (at_most (4 * suc k + 4) (omega arith) (digits_costs k (n / 10) ▸ one_costs (0x30 + n % 10))))

pub decimal_costs : (n : ℕ) → Costs (decimal n) 12
unfolding decimal
decimal_costs n = digits_costs 2 n

-- ---- comments, kinds and outputs

pub comment_costs : (s : List ℕ) (n : ℕ) → sizes s ≤ n → Costs (comment s) (3 + n)
unfolding sizes size
comment_costs [] n h = at_most (3 + n) (omega arith) (say_costs "//" 2 refl)
comment_costs (c ∷ s) n h = say_costs "// " 3 refl ▸ verbatim_costs (c ∷ s) n h

pub own_costs : (o : Option (List ℕ)) (n : ℕ) → Maybe (λ s. sizes s ≤ n) o → Costs (own_comment o) (4 + n)
unfolding sizes size
own_costs None n h = at_most (4 + n) (omega arith) nothing_costs
own_costs (Some s) n h = at_most (4 + n) (omega arith) (say_costs " " 1 refl ▸ comment_costs s n h)

pub kind_costs : (k : Kind) → Costs (say (kind_name k)) 10
unfolding sizes size
kind_costs Acceptor = at_most 10 (omega arith) (say_costs "acceptor" 8 refl)
kind_costs Transducer = say_costs "transducer" 10 refl
kind_costs Enumerator = say_costs "enumerator" 10 refl
kind_costs Beaver = at_most 10 (omega arith) (say_costs "beaver" 6 refl)

pub decoder_costs : (d : Decoder) → Costs (decoder d) 12
unfolding sizes size
decoder_costs Word = at_most 12 (omega arith) (say_costs "word" 4 refl)
decoder_costs (Unary c) = say_costs "unary " 6 refl ▸ symbol_costs c
decoder_costs (Binary Lsb) = at_most 12 (omega arith) (say_costs "binary lsb" 10 refl)
decoder_costs (Binary Msb) = at_most 12 (omega arith) (say_costs "binary msb" 10 refl)
