-- Comments: whether there is a text behind the slashes.
use mathlib.Core.Path.{◌≡◌, refl, sym, ap, ◌∙◌}
use Prim.Native.Nat.{ℕ}
use mathlib.Core.Bool.{true, false, false≢true}
use mathlib.Core.List.{List, [], ◌∷◌, ◌++◌}
use lib.Dec.{eqb}
use lib.ListN.{length}
use borrow.Author.Tests.{eq-eqb, eqb-true}
use Rattle.chars.specs.Utf8.{encode, decode}
use Rattle.chars.proofs.Laws.{decode-nil}
use Rattle.chars.proofs.Theorems.{encode-append}
use Rattle.lexer.specs.Tokens.{Span}
use Rattle.language.specs.Plain.{say, verbatim, comment}
use Rattle.language.specs.Agreement.{characters_at}
use Rattle.emit.specs.declared.Output.{Output}
use Rattle.emit.specs.Appends.{Appends}
use Rattle.form_strings.specs.Writes.{Writes}
use Rattle.form_lists.specs.Places.{bytes_at, Utf8At}
use Rattle.emit.proofs.Chain.{◌▹◌}
use Rattle.form_strings.proofs.Chain.{known}
use Rattle.std.proofs.lemmas.List.{nil_from_length}

module _ (text : List ℕ) (p : Span) (h : Utf8At text p) (bytes : List ℕ) (e : bytes ≡ bytes_at text p) (o : Output) where
  pub comment_empty : (r : Output) → true ≡ eqb (length bytes) 0 → Appends (0x2F ∷ 0x2F ∷ []) o r → Writes (comment (characters_at text p)) o r
  unfolding encode characters_at
  comment_empty r z a =
      let q : characters_at text p ≡ [] = ap decode (sym e ∙ nil_from_length bytes (eqb-true (length bytes) 0 (sym z))) ∙ decode-nil in
      rw q (known (0x2F ∷ 0x2F ∷ []) (λ rest. refl) a)

  pub comment_text_lem : (a r : Output) → false ≡ eqb (length bytes) 0 → Appends (0x2F ∷ 0x2F ∷ 0x20 ∷ []) o a → Appends bytes a r → Writes (comment (characters_at text p)) o r
  unfolding encode
  comment_text_lem a r z u v = go (characters_at text p) (h ∙ sym e)
    where
      go : (cs : List ℕ) → encode cs ≡ bytes → Writes (comment cs) o r
      go [] q = absurd (false≢true (z ∙ eq-eqb (length bytes) 0 (sym (ap length q))))
      go (c ∷ cs) q =
          known {p = say "// "} (0x2F ∷ 0x2F ∷ 0x20 ∷ []) (λ rest. refl) u
          ▹ known {p = verbatim (c ∷ cs)} bytes (λ rest. encode-append (c ∷ cs) rest ∙ ap (λ l. l ++ encode rest) q) v
