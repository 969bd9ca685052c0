-- Bytes and numbers as pieces of what is printed.
use mathlib.Core.Path.{◌≡◌, refl}
use Prim.Native.Nat.{ℕ}
use mathlib.Core.List.{List, ◌++◌}
use Rattle.language.specs.Plain.{Piece, verbatim}
use Rattle.emit.specs.Decimal.{decimal}
use Rattle.emit.specs.declared.Output.{Output}
use Rattle.emit.specs.Appends.{Appends}
use Rattle.emit.proofs.Appends.{appended-append}
use Rattle.emit.proofs.Digits.{digits-rest}
use Rattle.emit.proofs.Chain as C
use Rattle.list_lines.specs.Listing.{number}
use Rattle.list_lines.specs.Puts.{Puts}

-- bytes that were appended
pub said : {bytes : List ℕ} {o r : Output} → Appends bytes o r → Puts (verbatim bytes) o r
said {bytes} a = C.known bytes (λ rest. refl) a

-- a number is its digits
pub number_digits : (n : ℕ) (rest : List ℕ) → number n rest ≡ decimal n ++ rest
unfolding number decimal
number_digits n rest = digits-rest 19 n rest

-- a number that was appended in decimal
pub counted : {n m : ℕ} {o r : Output} → n ≡ m → Appends (decimal n) o r → Puts (number m) o r
counted {n} {m} {o} {r} e a = rw (← e) (C.known (decimal n) (λ rest. number_digits n rest) a)

-- bytes behind bytes
pub ruleset chain = (appended-append, number_digits)

-- another name for the same piece
pub same : {p q : Piece} {o r : Output} → p ≡ q → Puts p o r → Puts q o r
same e u = rw e at u

-- what is still to be printed
abbrev pub Goes : Piece → Output → Piece → Output → Type 0
Goes p o p₀ o₀ = C.Goes (λ bytes. bytes) p o p₀ o₀
