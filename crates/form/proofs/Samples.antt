-- Plain forms of texts, computed: what crates/language's own samples of the form leave out. Kinds, binary outputs, a name that Q
-- repeats, a blank and a Γ as they are declared, comments of expanded rules.
use Prim.Native.Nat.{ℕ}
use Prim.Native.String.{String}
use mathlib.Core.List.{List, [], ◌∷◌, map}
use mathlib.Core.Path.{◌≡◌, refl}
use Rattle.language.specs.Outcome.{form_of}
use Rattle.language.proofs.Samples.{bytes}

-- a text, and its form
record Sample : Type 0 where
  given : String
  form : String

abbrev sample : String → String → Sample
sample s f = record { given = s; form = f }

formed : Sample → List ℕ
unfolding form_of bytes
formed s = form_of (bytes s.given)

want : Sample → List ℕ
unfolding bytes
want s = bytes s.form

abbrev samples : List Sample
samples =
    sample "kind enumerator\noutput binary lsb\ntapes = 007\nQ = {a, b, a}\nF = {b, a}\nblank = _\nΓ = {x}"
    "machine \"\"\nkind enumerator\ninput \"\"\noutput binary lsb\ntapes = 7\nQ = {a, b, a}\nΓ = {'x', '␣'}\nblank = '␣'\nF = {a, b}\n" ∷
    sample "// h\n\n//\n//  l\nδ(a,{0,1})=(b,*,R) //c \nkind beaver\noutput binary msb\nΣ = {}\n//"
    "// h\nmachine \"\"\nkind beaver\ninput \"\"\noutput binary msb\ntapes = 1\nΣ = {}\nF = {}\n//\n//  l\nδ(a, ('0')) = (b, ('0'), (R)) // c\nδ(a, ('1')) = (b, ('1'), (R))\n//\n" ∷
    []

table : map formed samples ≡ map want samples
unfolding formed want
table = refl
