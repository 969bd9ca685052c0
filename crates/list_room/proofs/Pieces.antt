-- How long the pieces of a listing can be.
use Prim.Native.Nat.{ℕ, zero, suc, ◌+◌, ◌*◌, ◌-◌, ◌/◌, ◌%◌, ◌≤◌, min}
use Prim.Native.String as S
use native.Mathlib.Omega.{arith}
use mathlib.Core.Bool.{◌&&◌}
use mathlib.Core.List.{List, [], ◌∷◌}
use lib.Dec.{eqb, leb, ltb}
use lib.ListN.{length, take, drop, length-append}
use Rattle.lexer.specs.Tokens.{Span}
use Rattle.lexer.specs.Places.{part}
use Rattle.language.specs.Agreement.{groups, at, place_at, dir_of}
use Rattle.language.specs.Plain.{Piece, ◌⨾◌, say, end, each, direction}
use Rattle.emit.specs.Decimal.{digits_from}
use Rattle.positions.specs.Positions.{line_column}
use Rattle.list_lines.specs.Listing.{number, named, parted, codes, moves, place, related, position, diagnostic, diagnostic_lines, refused_line, bytes_line}
use Rattle.language.proofs.Every.{by_test}

-- a piece of n bytes at most
pub record Short (n : ℕ) (p : Piece) : Type 0 where
  pub short : (rest : List ℕ) → length (p rest) ≤ n + length rest

infixr 20 ◌▸◌
pub ◌▸◌ : {m n : ℕ} {p q : Piece} → Short m p → Short n q → Short (m + n) (p ⨾ q)
◌▸◌ {q = q} a b = record { short = λ rest. omega (arith, a.short (q rest), b.short rest) }

pub less : {m n : ℕ} {p : Piece} → m ≤ n → Short m p → Short n p
less h a = record { short = λ rest. omega (arith, h, a.short rest) }

-- how many characters a quoted text has
abbrev pub count : S.String → ℕ
count S.[] = 0
count (S.◌∷◌ c s) = suc (count s)

pub said : (s : S.String) → Short (count s) (say s)
said S.[] = record { short = λ rest. omega arith }
said (S.◌∷◌ c s) = record { short = λ rest. omega (arith, (said s).short rest) }

pub ended : Short 1 end
ended = record { short = λ rest. omega arith }

-- ---- numbers and names

pub digits_short : (k n : ℕ) (rest : List ℕ) → length (digits_from k n rest) ≤ suc k + length rest
unfolding digits_from
digits_short zero n rest = omega arith
digits_short (suc k) n rest = by_test (ltb n 10)
    (λ e. rw (e, digits_from) (omega arith))
    (λ e. rw (e, digits_from) (omega (arith, digits_short k (n / 10) ((0x30 + n % 10) ∷ rest))))

pub number_short : (n : ℕ) → Short 20 (number n)
unfolding number
number_short n = record { short = λ rest. omega (arith, digits_short 19 n rest) }

pub direction_short : (d : ℕ) → Short 1 (direction (dir_of d))
direction_short d = record { short = λ rest. omega arith }

-- the bytes of a place
abbrev pub span_bytes : Span → ℕ
span_bytes p = p.end - p.start

take_short : (n : ℕ) (l : List ℕ) → length (take n l) ≤ n
take_short zero l = omega arith
take_short (suc n) [] = omega arith
take_short (suc n) (a ∷ l) = omega (arith, take_short n l)

part_short : (t : List ℕ) (a b : ℕ) → length (part t a b) ≤ b - a
unfolding part
part_short t a b = by_test (leb a b && leb b (length t)) (λ e. rw (e, part) (take_short (b - a) (drop a t))) (λ e. rw (e, part) (omega arith))

pub named_short : (text : List ℕ) (p : Span) → Short (span_bytes p) (named text p)
unfolding named
named_short text p = record { short = λ rest. omega (arith, length-append (part text p.start p.end) rest, part_short text p.start p.end) }

-- ---- lists

-- members of n bytes at most, with a byte behind each
abbrev pub Within : ℕ → List Piece → Type 0
Within n [] = Unit {0}
Within n (p ∷ ps) = (k : ℕ) × (m : ℕ) × Short k p × Within m ps × (k + 1 + m ≤ n)

pub parted_short : (sep n : ℕ) (ps : List Piece) → Within n ps → Short n (parted sep ps)
unfolding parted
parted_short sep n [] h = record { short = λ rest. omega arith }
parted_short sep n (p ∷ []) h = record { short = λ rest. omega (arith, h.2.short rest, h.4) }
parted_short sep n (p ∷ q ∷ ps) h = record { short = λ rest. omega (arith, h.2.short (sep ∷ parted sep (q ∷ ps) rest), (parted_short sep h.1 (q ∷ ps) h.3).short rest, h.4) }

codes_within : (o k n : ℕ) (ws : List ℕ) → Within (21 * n) (codes o (groups k n ws))
unfolding codes groups
codes_within o k zero ws = tt
codes_within o k (suc n) ws = (20, 21 * n, number_short (at (take k ws) o), codes_within o k n (drop k ws), omega arith)

pub codes_short : (sep o k n : ℕ) (ws : List ℕ) → Short (21 * n) (parted sep (codes o (groups k n ws)))
codes_short sep o k n ws = parted_short sep (21 * n) (codes o (groups k n ws)) (codes_within o k n ws)

moves_within : (k n : ℕ) (ws : List ℕ) → Within (2 * n) (moves (groups k n ws))
unfolding moves groups
moves_within k zero ws = tt
moves_within k (suc n) ws = (1, 2 * n, direction_short (at (take k ws) 6), moves_within k n (drop k ws), omega arith)

pub moves_short : (sep k n : ℕ) (ws : List ℕ) → Short (2 * n) (parted sep (moves (groups k n ws)))
moves_short sep k n ws = parted_short sep (2 * n) (moves (groups k n ws)) (moves_within k n ws)

-- ---- lines

pub refused_short : (n v : ℕ) → Short 50 (refused_line n v)
unfolding refused_line
refused_short n v = said "refused=" ▸ number_short n ▸ said " " ▸ number_short v ▸ ended

pub bytes_short : (text : List ℕ) → Short 27 (bytes_line text)
unfolding bytes_line
bytes_short text = said "bytes=" ▸ number_short (length text) ▸ ended

place_short : (p : Span) → Short 41 (place p)
unfolding place
place_short p = number_short p.start ▸ said " " ▸ number_short p.end

related_short : (p : Span) → Short 41 (related p)
unfolding related
related_short p = by_test (eqb p.start 4294967295 && eqb p.end 4294967295)
    (λ e. rw (e, related) (less (omega arith) (said "none none")))
    (λ e. rw (e, related) (place_short p))

position_short : (text : List ℕ) (o : ℕ) → Short 41 (position text o)
unfolding position
position_short text o = number_short (line_column text o).line ▸ said ":" ▸ number_short (line_column text o).column

diagnostic_short : (text d : List ℕ) → Short 158 (diagnostic text d)
unfolding diagnostic
diagnostic_short text d =
    said "diagnostic=" ▸ number_short (at d 0) ▸ said " " ▸ place_short (place_at d 1) ▸ said " " ▸ related_short (place_at d 3) ▸ said " " ▸ position_short text (at d 1) ▸ ended

-- the first n diagnostics of a log
pub each_short : (text : List ℕ) (n : ℕ) (log : List ℕ) → Short (158 * n) (each (diagnostic text) (groups 5 n log))
unfolding each groups
each_short text zero log = record { short = λ rest. omega arith }
each_short text (suc n) log = less (omega arith) (diagnostic_short text (take 5 log) ▸ each_short text n (drop 5 log))

-- n diagnostics, of which the log holds k at most
pub diagnostics_short : (text : List ℕ) (n : ℕ) (log : List ℕ) (k : ℕ) → n ≤ k → Short (34 + 158 * k) (diagnostic_lines text n log)
unfolding diagnostic_lines
diagnostics_short text n log k h =
    less (omega (arith, h)) (said "diagnostics=" ▸ number_short n ▸ ended ▸ each_short text (min n (length log / 5)) log)
