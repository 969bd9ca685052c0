-- Pieces one after the other: what one leaves, the next goes on from.
use mathlib.Core.Path.{◌≡◌, refl, sym, ap, ◌∙◌}
use Prim.Native.Nat.{ℕ}
use mathlib.Core.List.{List, ◌++◌}
use Rattle.emit.specs.Output.{appended}
use Rattle.emit.specs.declared.Output.{Output}
use Rattle.emit.specs.Appends.{held, lent_row, Appends}
use Rattle.emit.specs.Puts.{Puts}
use Rattle.emit.proofs.Appends.{appended-append}

-- what follows bytes that were appended goes behind them
pub added : (bytes : List ℕ) (o r : Output) → Appends bytes o r → (rest : List ℕ) → appended (held r) rest ≡ appended (held o) (bytes ++ rest)
added bytes o r a rest = ap (λ x. appended x rest) a.appends ∙ appended-append (held o) a.short bytes rest

-- a piece whose bytes are known was put
pub known : {code p : List ℕ → List ℕ} (bytes : List ℕ) {o r : Output} → ((rest : List ℕ) → code (p rest) ≡ bytes ++ code rest) → Appends bytes o r → Puts code p o r
known {code} bytes {o} {r} e a = record { put = λ rest. added bytes o r a (code rest) ∙ ap (appended (held o)) (sym (e rest)); same_row = a.same_row }

-- nothing was put
pub none : {code : List ℕ → List ℕ} {o : Output} → Puts code (λ rest. rest) o o
none = record { put = λ rest. refl; same_row = refl }

-- one piece was put and then another
infixr 20 ◌▹◌
pub ◌▹◌ : {code p q : List ℕ → List ℕ} {o a r : Output} → Puts code p o a → Puts code q a r → Puts code (λ rest. p (q rest)) o r
◌▹◌ {q = q} u v = record { put = λ rest. v.put rest ∙ u.put (q rest); same_row = v.same_row ∙ u.same_row }

-- another piece that is the same text was put
pub alike : {code p q : List ℕ → List ℕ} {o r : Output} → ((rest : List ℕ) → q rest ≡ p rest) → Puts code p o r → Puts code q o r
alike {code} {o = o} e u = record { put = λ rest. u.put rest ∙ ap (λ l. appended (held o) (code l)) (sym (e rest)); same_row = u.same_row }

-- ---- what is still to be put

-- to go on with p from o is to put p₀ from o₀
pub record Goes (code p : List ℕ → List ℕ) (o : Output) (p₀ : List ℕ → List ℕ) (o₀ : Output) : Type 0 where
  pub goes : (rest : List ℕ) → appended (held o) (code (p rest)) ≡ appended (held o₀) (code (p₀ rest))
  pub same_row : lent_row o ≡ lent_row o₀

-- all of it is still to be put
pub goes_start : {code p q : List ℕ → List ℕ} {o : Output} → ((rest : List ℕ) → p rest ≡ q rest) → Goes code p o q o
goes_start {code} {o = o} e = record { goes = λ rest. ap (λ l. appended (held o) (code l)) (e rest); same_row = refl }

-- a first piece was put
pub goes_from : {code q r : List ℕ → List ℕ} {o a : Output} → Puts code q o a → Goes code r a (λ rest. q (r rest)) o
goes_from {r = r} u = record { goes = λ rest. u.put (r rest); same_row = u.same_row }

-- a further piece was put
pub goes_on : {code p q r p₀ : List ℕ → List ℕ} {o a o₀ : Output} → ((rest : List ℕ) → p rest ≡ q (r rest)) → Goes code p o p₀ o₀ → Puts code q o a → Goes code r a p₀ o₀
goes_on {code} {r = r} {o = o} e g w =
    record { goes = λ rest. w.put (r rest) ∙ ap (λ l. appended (held o) (code l)) (sym (e rest)) ∙ g.goes rest; same_row = w.same_row ∙ g.same_row }

-- nothing is left
pub goes_end : {code p p₀ : List ℕ → List ℕ} {o o₀ : Output} → ((rest : List ℕ) → p rest ≡ rest) → Goes code p o p₀ o₀ → Puts code p₀ o₀ o
goes_end {code} {o = o} e g = record { put = λ rest. ap (λ l. appended (held o) (code l)) (sym (e rest)) ∙ g.goes rest; same_row = g.same_row }
