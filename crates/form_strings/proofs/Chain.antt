-- Text as bytes: a piece of text is written when the bytes of its characters are appended.
use mathlib.Core.Path.{◌≡◌, refl}
use Prim.Native.Nat.{ℕ, ◌<◌}
use Prim.Native.String as S
use mathlib.Core.List.{List, [], ◌∷◌, ◌++◌}
use borrow.Author.Tests.{lt-ltb}
use Rattle.chars.specs.Utf8.{encode_one, encode}
use Rattle.chars.proofs.Theorems.{encode-append}
use Rattle.language.specs.Plain.{Piece, say}
use Rattle.emit.specs.declared.Output.{Output}
use Rattle.emit.specs.Appends.{Appends}
use Rattle.emit.proofs.Appends.{appended-append}
use Rattle.emit.proofs.Chain as C
use Rattle.form_strings.specs.Writes.{Writes}

-- a character is its bytes
pub encode_next : (c : ℕ) (rest : List ℕ) → encode (c ∷ rest) ≡ encode_one c ++ encode rest
unfolding encode
encode_next c rest = refl

-- in ASCII it is its own byte
pub ascii : (c : ℕ) (rest : List ℕ) → c < 0x80 → encode (c ∷ rest) ≡ c ∷ encode rest
unfolding encode encode_one
ascii c rest h = rw (lt-ltb c 0x80 h)

-- bytes behind bytes, and text behind text
pub ruleset chain = (appended-append, encode-append, ascii)

-- a piece whose bytes are known
pub known : {p : Piece} (bytes : List ℕ) {o r : Output} → ((rest : List ℕ) → encode (p rest) ≡ bytes ++ encode rest) → Appends bytes o r → Writes p o r
known bytes e a = C.known bytes e a

-- quoted text: in ASCII its code points are its bytes
pub spoken : (s : S.String) {o r : Output} → ((rest : List ℕ) → encode (say s rest) ≡ say s [] ++ encode rest) → Appends (say s []) o r → Writes (say s) o r
spoken s e a = known (say s []) e a

-- what is still to be written
abbrev pub Goes : Piece → Output → Piece → Output → Type 0
Goes p o p₀ o₀ = C.Goes encode p o p₀ o₀
