-- What is appended after one another, and lists between two signs.
use Rattle.std.proofs.Common.{ℕ, zero, suc, ◌+◌, ◌≤◌, ◌≡◌, sym, ap, ◌∙◌, eq-eqb, ne_eqb, List, [], ◌∷◌, ◌++◌, append_assoc, arith}
use Rattle.emit.specs.Output.{appended}
use Rattle.emit.specs.declared.Output.{Output}
use Rattle.emit.specs.Appends.{held, Appends}
use Rattle.emit.proofs.Chain.{added}
use Rattle.longest.specs.Line.{parted, enclosed}

-- bytes, and then others
pub after : {o p q : Output} (a b : List ℕ) → Appends a o p → Appends b p q → Appends (a ++ b) o q
after {o} {p} a b x y = record {
  appends = y.appends ∙ added a o p x b;
  same_row = y.same_row ∙ x.same_row;
  short = x.short;
}

-- the same bytes
pub same_bytes : {o p : Output} (a b : List ℕ) → a ≡ b → Appends a o p → Appends b o p
same_bytes {o} a b e x = record { appends = x.appends ∙ ap (appended (held o)) e; same_row = x.same_row; short = x.short }

-- one part more
pub parted_more : (part : ℕ → List ℕ) (i : ℕ) → 1 ≤ i → parted part (i + 1) ≡ parted part i ++ 0x2C ∷ part i
unfolding parted
parted_more part zero l = absurd (omega arith)
parted_more part (suc i) l = let e : suc i + 1 ≡ suc (suc i) = omega arith in rw e

-- a list by its length
module _ (opening closing : ℕ) (part : ℕ → List ℕ) (n : ℕ) where
  pub enclosed_one : n ≡ 1 → part 0 ≡ enclosed opening closing part n
  enclosed_one e = rw (eq-eqb n 1 e)

  pub enclosed_more : (n ≡ 1 → ⊥) → opening ∷ (parted part n ++ closing ∷ []) ≡ enclosed opening closing part n
  enclosed_more e = rw (ne_eqb n 1 e)

-- a comma and one part more, behind the parts so far
pub grown : (opening : ℕ) (part : ℕ → List ℕ) (i : ℕ) → 1 ≤ i → ((opening ∷ parted part i) ++ 0x2C ∷ []) ++ part i ≡ opening ∷ parted part (i + 1)
grown opening part i l =
    ap (λ (x : List ℕ). opening ∷ x) (append_assoc (parted part i) (0x2C ∷ []) (part i) ∙ sym (parted_more part i l))
