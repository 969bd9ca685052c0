-- Strings: what each character between the quotes gives is what the string's value gives, escaped again.
use mathlib.Core.Path.{◌≡◌, refl, sym, ap, subst, ◌∙◌}
use Prim.Native.Nat.{ℕ, suc, ◌<◌}
use native.Mathlib.Omega.{arith}
use mathlib.Core.Bool.{Bool, true, false, not, ◌&&◌, false≢true}
use mathlib.Core.List.{List, [], ◌∷◌, ◌++◌}
use lib.Dec.{eqb}
use lib.ListN.{length, drop}
use borrow.Author.Tests.{eqb-true}
use Rattle.chars.specs.Utf8.{decode, front}
use Rattle.chars.specs.Decoded.{decoded_at}
use Rattle.std.specs.Prelude as P
use Rattle.std.specs.Prelude.{Some, None, Option}
use Rattle.chars.proofs.Laws.{char_decode, none_decode}
use Rattle.lexer.specs.Tokens.{escape, Inner, ends, breaks, escapes, stands, inner_of, Inside, closed, unclosed, put, pass, inside, unescape}
use Rattle.language.specs.Plain.{Piece, escaped, in_string, escaped_text}
use Rattle.language.proofs.Every.{by_test}
use Rattle.emit.specs.declared.Output.{Output}
use Rattle.form_strings.specs.Writes.{Writes}
use Rattle.form_strings.specs.Strings.{is_escape, rewritten, Whole}
use Rattle.emit.proofs.Chain.{goes_start, goes_on, goes_end}
use Rattle.form_strings.proofs.Chain.{Goes}

-- ---- escapes

-- an escape as it is written again
pub escape-written : (c : ℕ) → is_escape c ≡ true → (rest : List ℕ) → rewritten true c rest ≡ 0x5C ∷ c ∷ rest
unfolding is_escape rewritten
escape-written c h rest =
    by_test (eqb c 0x22) (λ e. rw (eqb-true c 0x22 e))
    λ e₁. by_test (eqb c 0x5C) (λ e. rw (eqb-true c 0x5C e))
    λ e₂. by_test (eqb c 0x6E) (λ e. rw (eqb-true c 0x6E e))
    λ e₃. by_test (eqb c 0x74) (λ e. rw (eqb-true c 0x74 e))
    λ e₄.
    let p : escape c ≡ None = rw (e₁, escape) (rw (e₂, e₃, e₄)) in
    absurd (false≢true (sym (ap (λ (x : Option ℕ). elim x [ Some v ↦ true | None ↦ false ]) p) ∙ h))

-- it is in ASCII
pub escape_ascii : (c : ℕ) → is_escape c ≡ true → c < 0x80
unfolding is_escape
escape_ascii c h =
    by_test (eqb c 0x22) (λ e. omega (arith, eqb-true c 0x22 e))
    λ e₁. by_test (eqb c 0x5C) (λ e. omega (arith, eqb-true c 0x5C e))
    λ e₂. by_test (eqb c 0x6E) (λ e. omega (arith, eqb-true c 0x6E e))
    λ e₃. by_test (eqb c 0x74) (λ e. omega (arith, eqb-true c 0x74 e))
    λ e₄.
    let p : escape c ≡ None = rw (e₁, escape) (rw (e₂, e₃, e₄)) in
    absurd (false≢true (sym (ap (λ (x : Option ℕ). elim x [ Some v ↦ true | None ↦ false ]) p) ∙ h))

-- a backslash that stands for itself, and the character behind it
pub other-written : (c : ℕ) → is_escape c ≡ false → (rest : List ℕ) → rewritten true c rest ≡ 0x5C ∷ 0x5C ∷ in_string (escaped c) c rest
unfolding is_escape rewritten
other-written c h rest = go (escape c) refl
  where
    go : (o : Option ℕ) → escape c ≡ o → rewritten true c rest ≡ 0x5C ∷ 0x5C ∷ in_string (escaped c) c rest
    go None e = rw (e, rewritten)
    go (Some v) e = absurd (false≢true (sym (sym (ap (λ (x : Option ℕ). elim x [ Some v ↦ true | None ↦ false ]) e) ∙ h)))

pub ruleset slashes = (escape-written, other-written)

-- a backslash waits unless it stands behind one that waits
pub waits_then : (s b : Bool) → not s ≡ true → b ≡ (not s && b)
waits_then s b e = rw e

pub waits_else : (s b : Bool) → not s ≡ false → not s ≡ (not s && b)
waits_else s b e = rw e

-- ---- all characters of a string

-- the value of what is left, and that the quote behind it closes it
value_of : Inside → List ℕ
value_of (closed v n) = v
value_of unclosed = []

pub value_from : Bool → List ℕ → List ℕ
value_from b cs = value_of (inside b (cs ++ 0x22 ∷ []))

abbrev pub ClosedFrom : Bool → List ℕ → Type 0
ClosedFrom b cs = inside b (cs ++ 0x22 ∷ []) ≡ closed (value_from b cs) (suc (length cs))

closed_count : {v w : List ℕ} {m n : ℕ} → closed v m ≡ closed w n → m ≡ n
closed_count e = cc

closed_value : {v w : List ℕ} {m n : ℕ} → closed v m ≡ closed w n → v ≡ w
closed_value e = cc

pass_back : (i : Inside) (w : List ℕ) (m : ℕ) → pass i ≡ closed w (suc m) → (i ≡ closed (value_of i) m) × (w ≡ value_of i)
unfolding pass value_of
pass_back (closed v k) w m e = let p : k ≡ m = omega (arith, closed_count e) in (ap (closed v) p, sym (closed_value e))
pass_back unclosed w m e = absurd (let z : ◌≡◌ {A = ℕ} 0 1 = cc in omega arith)

put_back : (c : ℕ) (i : Inside) (w : List ℕ) (m : ℕ) → put c i ≡ closed w m → (i ≡ closed (value_of i) m) × (w ≡ c ∷ value_of i)
unfolding put value_of
put_back c (closed v k) w m e = (ap (closed v) (closed_count e), sym (closed_value e))
put_back c unclosed w m e = absurd (let z : ◌≡◌ {A = ℕ} 0 1 = cc in omega arith)

-- what is left behind a character
record Next (b w : Bool) (c : ℕ) (cs : List ℕ) : Type 0 where
  closes : ClosedFrom w cs
  value : (rest : List ℕ) → escaped_text (value_from b (c ∷ cs)) rest ≡ rewritten b c (escaped_text (value_from w cs) rest)

none_closed : {X : Type 0} {v : List ℕ} {n : ℕ} → unclosed ≡ closed v n → X
none_closed e = absurd (let z : ◌≡◌ {A = ℕ} 0 1 = cc in omega arith)

-- by what the character is
module _ (c : ℕ) (cs : List ℕ) where
  abbrev all : List ℕ
  all = cs ++ 0x22 ∷ []

  inner : (k : Inner) → inner_of c ≡ k
      → inside false (c ∷ all) ≡ elim k [ ends ↦ closed [] 1 | breaks ↦ unclosed | escapes ↦ pass (inside true all) | stands ↦ put c (pass (inside false all)) ]
  unfolding inside
  inner k e = rw (e, inside)

  next-slash : eqb c 0x22 ≡ false → eqb c 10 ≡ false → eqb c 0x5C ≡ true → ClosedFrom false (c ∷ cs) → Next false true c cs
  unfolding inside inner_of value_from rewritten
  next-slash e₁ e₂ e₃ h =
      let i : inside false (c ∷ all) ≡ pass (inside true all) = inner escapes (rw (e₁, inner_of) (rw (e₂, e₃))) in
      let k = pass_back (inside true all) (value_from false (c ∷ cs)) (suc (length cs)) (sym i ∙ h) in
      record { closes = k.0; value = λ rest. rw (e₃, k.1) }

  next-plain : eqb c 0x22 ≡ false → eqb c 10 ≡ false → eqb c 0x5C ≡ false → ClosedFrom false (c ∷ cs) → Next false false c cs
  unfolding inside inner_of value_from rewritten escaped_text
  next-plain e₁ e₂ e₃ h =
      let i : inside false (c ∷ all) ≡ put c (pass (inside false all)) = inner stands (rw (e₁, inner_of) (rw (e₂, e₃))) in
      let k = put_back c (pass (inside false all)) (value_from false (c ∷ cs)) (suc (suc (length cs))) (sym i ∙ h) in
      let m = pass_back (inside false all) (value_of (pass (inside false all))) (suc (length cs)) k.0 in
      record { closes = m.0; value = λ rest. rw (e₃, k.1, m.1) }

  next-bare : ClosedFrom false (c ∷ cs) → Next false (eqb c 0x5C) c cs
  unfolding inside inner_of
  next-bare h =
      by_test (eqb c 0x22)
      (λ e. let i : inside false (c ∷ all) ≡ closed [] 1 = inner ends (rw (e, inner_of)) in absurd (omega (arith, closed_count (sym i ∙ h))))
      λ e₁. by_test (eqb c 10)
      (λ e. let i : inside false (c ∷ all) ≡ unclosed = inner breaks (rw (e₁, inner_of) (rw e)) in none_closed (sym i ∙ h))
      λ e₂. by_test (eqb c 0x5C) (λ e₃. rw e₃ (next-slash e₁ e₂ e₃ h)) (λ e₃. rw e₃ (next-plain e₁ e₂ e₃ h))

  next-escape : (v : ℕ) → escape c ≡ Some v → ClosedFrom true (c ∷ cs) → Next true false c cs
  unfolding inside value_from rewritten escaped_text
  next-escape v e h =
      let i : inside true (c ∷ all) ≡ put v (pass (inside false all)) = rw (e, inside) in
      let k = put_back v (pass (inside false all)) (value_from true (c ∷ cs)) (suc (suc (length cs))) (sym i ∙ h) in
      let m = pass_back (inside false all) (value_of (pass (inside false all))) (suc (length cs)) k.0 in
      record { closes = m.0; value = λ rest. rw (k.1, m.1, e, rewritten) }

  next-other : escape c ≡ None → ClosedFrom true (c ∷ cs) → Next true false c cs
  unfolding inside value_from rewritten escaped_text
  next-other e h =
      by_test (eqb c 10)
      (λ f. let i : inside true (c ∷ all) ≡ unclosed = rw (e, inside) (rw f) in none_closed (sym i ∙ h))
      λ f.
      let l : Inside = put c (pass (inside false all)) in
      let i : inside true (c ∷ all) ≡ put 0x5C l = rw (e, inside) (rw f) in
      let j = put_back 0x5C l (value_from true (c ∷ cs)) (suc (suc (length cs))) (sym i ∙ h) in
      let k = put_back c (pass (inside false all)) (value_of l) (suc (suc (length cs))) j.0 in
      let m = pass_back (inside false all) (value_of (pass (inside false all))) (suc (length cs)) k.0 in
      record { closes = m.0; value = λ rest. rw (j.1, k.1, m.1, e, rewritten) }

  next-behind : (o : Option ℕ) → escape c ≡ o → ClosedFrom true (c ∷ cs) → Next true false c cs
  next-behind (Some v) e h = next-escape v e h
  next-behind None e h = next-other e h

  next : (b : Bool) → ClosedFrom b (c ∷ cs) → Next b (not b && eqb c 0x5C) c cs
  next false h = next-bare h
  next true h = next-behind (escape c) refl h

-- ---- the loop over them

unescape-value : (cs : List ℕ) → unescape cs ≡ value_from false cs
unfolding unescape value_from value_of
unescape-value cs = go (inside false (cs ++ 0x22 ∷ [])) refl
  where
    go : (i : Inside) → inside false (cs ++ 0x22 ∷ []) ≡ i → unescape cs ≡ value_from false cs
    go (closed v n) e = rw (e, unescape)
    go unclosed e = rw (e, unescape)

pub text_start : (part : List ℕ) → Whole (decode part) → ClosedFrom false (decode (drop 0 part))
text_start part h = h ∙ ap (λ v. closed v (suc (length (decode part)))) (unescape-value (decode part))

pub text_goes : (part : List ℕ) (o : Output) → Goes (escaped_text (value_from false (decode (drop 0 part)))) o (escaped_text (unescape (decode part))) o
text_goes part o = goes_start (λ rest. ap (λ v. escaped_text v rest) (sym (unescape-value (decode part))))

-- nothing is left: no backslash waits, and the value is at its end
value_none : (b : Bool) → ClosedFrom b [] → (rest : List ℕ) → escaped_text (value_from b []) rest ≡ rest
unfolding inside escaped_text value_from value_of
value_none false h rest = refl
value_none true h rest = none_closed h

module _ (part : List ℕ) (i : ℕ) (d : P.Option (ℕ × ℕ)) (s : d ≡ decoded_at i (front (drop i part))) (b : Bool) (h : ClosedFrom b (decode (drop i part))) where
  next-at : (c n : ℕ) → d ≡ Some (c, n) → Next b (not b && eqb c 0x5C) c (decode (drop n part))
  next-at c n e = next c (decode (drop n part)) b (subst (ClosedFrom b) (char_decode part i d s c n e) h)

  pub text_closes : (c n : ℕ) (t : Bool) → d ≡ Some (c, n) → t ≡ (not b && eqb c 0x5C) → ClosedFrom t (decode (drop n part))
  text_closes c n t e q = rw q (next-at c n e).closes

  module _ (o : Output) (p₀ : Piece) (o₀ : Output) (g : Goes (escaped_text (value_from b (decode (drop i part)))) o p₀ o₀) where
    pub text_on : (c n : ℕ) (t : Bool) (a : Output) → d ≡ Some (c, n) → t ≡ (not b && eqb c 0x5C) → Writes (rewritten b c) o a
        → Goes (escaped_text (value_from t (decode (drop n part)))) a p₀ o₀
    text_on c n t a e q w =
        goes_on (λ rest. ap (λ cs. escaped_text (value_from b cs) rest) (char_decode part i d s c n e) ∙ rw q ((next-at c n e).value rest)) g w

    text_done : decode (drop i part) ≡ [] → Writes p₀ o₀ o
    text_done e = goes_end (λ rest. ap (λ cs. escaped_text (value_from b cs) rest) e ∙ value_none b (subst (ClosedFrom b) e h) rest) g

    pub text_over : d ≡ None → Writes p₀ o₀ o
    text_over e = text_done (none_decode part i d s e)
