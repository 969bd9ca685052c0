-- The characters that are read behind a string's quote are its value.
use mathlib.Core.Path.{◌≡◌, refl, sym, ap, subst, ◌∙◌}
use mathlib.Core.Bool.{Bool, true, false}
use mathlib.Core.List.{List, [], ◌∷◌, ◌++◌}
use Rattle.std.specs.Prelude.{Option, None, Some}
use Prim.Native.Nat.{ℕ}
use borrow.Author.Tests.{eqb-true}
use lib.Dec.{eqb}
use Rattle.lexer.specs.Tokens.{escape, inner_of, Inside, closed, unclosed, put, pass, inside}
use Rattle.language.proofs.Every.{by_test}
use Rattle.infer_symbols.specs.Input.{ends_at, escape_code, escape_of, spelled_as, escapes_next, spelled}

-- the value of a string, nothing where it is unterminated
abbrev pub value_of : Inside → List ℕ
value_of (closed v k) = v
value_of unclosed = []

-- a string that ends
abbrev pub Ends : Inside → Type 0
Ends (closed v k) = Unit {0}
Ends unclosed = ⊥

pass_ends : (x : Inside) → Ends (pass x) → Ends x
unfolding pass
pass_ends (closed v k) h = tt
pass_ends unclosed h = h

put_ends : (c : ℕ) (x : Inside) → Ends (put c x) → Ends x
unfolding put
put_ends c (closed v k) h = tt
put_ends c unclosed h = h

pass-value : (x : Inside) → value_of (pass x) ≡ value_of x
unfolding pass
pass-value (closed v k) = refl
pass-value unclosed = refl

put-value : (c : ℕ) (x : Inside) → Ends x → value_of (put c x) ≡ c ∷ value_of x
unfolding put
put-value c (closed v k) h = refl
put-value c unclosed h = absurd h

-- what a backslash and e stand for
escape_mean : (e : ℕ) → elim (escape e) [ Some v ↦ v ∷ [] | None ↦ 0x5C ∷ e ∷ [] ] ≡ escape_of e
unfolding escape escape_of escape_code
escape_mean e = by_test (eqb e 0x22) (λ a. rw a) (λ a. by_test (eqb e 0x5C) (λ b. rw (a, b)) (λ b. by_test (eqb e 0x6E) (λ c. rw (a, b, c)) (λ c. by_test (eqb e 0x74) (λ d. rw (a, b, c, d)) (λ d. rw (a, b, c, d)))))

module _ (c : ℕ) (r : List ℕ) where
  -- how a string goes on where no backslash stands before
  inside_quote : eqb c 0x22 ≡ true → inside false (c ∷ r) ≡ closed [] 1
  unfolding inside inner_of
  inside_quote a = rw (a, inside)

  inside_feed : eqb c 0x22 ≡ false → eqb c 10 ≡ true → inside false (c ∷ r) ≡ unclosed
  unfolding inside inner_of
  inside_feed a b = rw (a, b, inside)

  inside_backslash : eqb c 0x22 ≡ false → eqb c 10 ≡ false → eqb c 0x5C ≡ true → inside false (c ∷ r) ≡ pass (inside true r)
  unfolding inside inner_of
  inside_backslash a b d = rw (a, b, d, inside)

  inside-plain : eqb c 0x22 ≡ false → eqb c 10 ≡ false → eqb c 0x5C ≡ false → inside false (c ∷ r) ≡ put c (pass (inside false r))
  unfolding inside inner_of
  inside-plain a b d = rw (a, b, d, inside)

  -- a backslash and a character that stand for one
  inside-escape : (v : ℕ) → escape c ≡ Some v → inside true (c ∷ r) ≡ put v (pass (inside false r))
  unfolding inside
  inside-escape v e = rw (e, inside)

  inside-other : escape c ≡ None → eqb c 10 ≡ false → inside true (c ∷ r) ≡ put 0x5C (put c (pass (inside false r)))
  unfolding inside
  inside-other e f = rw (e, f, inside)

  inside_broken : escape c ≡ None → eqb c 10 ≡ true → inside true (c ∷ r) ≡ unclosed
  unfolding inside
  inside_broken e f = rw (e, f, inside)

  spelled_ends : (b : Bool) → ends_at b c ≡ true → spelled b (c ∷ r) ≡ []
  unfolding spelled
  spelled_ends b e = rw (e, spelled)

  spelled-on : (b : Bool) → ends_at b c ≡ false → spelled b (c ∷ r) ≡ spelled_as b c ++ spelled (escapes_next b c) r
  unfolding spelled
  spelled-on b e = rw (e, spelled)

-- a line feed is no escape
feed_none : (c : ℕ) → eqb c 10 ≡ true → escape c ≡ None
unfolding escape
feed_none c e = let q : c ≡ 10 = eqb-true c 10 e in rw q

quote_feed : (c : ℕ) → eqb c 0x22 ≡ true → eqb c 10 ≡ false
quote_feed c e = let q : c ≡ 0x22 = eqb-true c 0x22 e in rw q

module _ (c : ℕ) where
  ends_quote : eqb c 0x22 ≡ true → ends_at false c ≡ true
  unfolding ends_at
  ends_quote a = rw (quote_feed c a, a)

  ends_not : eqb c 0x22 ≡ false → eqb c 10 ≡ false → ends_at false c ≡ false
  unfolding ends_at
  ends_not a d = rw (d, a)

  ends_escaped : eqb c 10 ≡ false → ends_at true c ≡ false
  unfolding ends_at
  ends_escaped d = rw d

  as_nothing : eqb c 0x5C ≡ true → spelled_as false c ≡ []
  unfolding spelled_as
  as_nothing e = rw e

  as_itself : eqb c 0x5C ≡ false → spelled_as false c ≡ c ∷ []
  unfolding spelled_as
  as_itself e = rw e

  as_escape : spelled_as true c ≡ escape_of c
  unfolding spelled_as
  as_escape = refl

  next_is : escapes_next false c ≡ eqb c 0x5C
  unfolding escapes_next
  next_is = refl

  next-not : escapes_next true c ≡ false
  unfolding escapes_next
  next-not = refl

  stands_for : (v : ℕ) → escape c ≡ Some v → escape_of c ≡ v ∷ []
  stands_for v e = sym (escape_mean c) ∙ ap (λ (o : Option ℕ). elim o [ Some v ↦ v ∷ [] | None ↦ 0x5C ∷ c ∷ [] ]) e

  stands_alone : escape c ≡ None → escape_of c ≡ 0x5C ∷ c ∷ []
  stands_alone e = sym (escape_mean c) ∙ ap (λ (o : Option ℕ). elim o [ Some v ↦ v ∷ [] | None ↦ 0x5C ∷ c ∷ [] ]) e

ends_pass : (x : Inside) → Ends x → Ends (pass x)
unfolding pass
ends_pass (closed v k) h = tt
ends_pass unclosed h = h

ends_put : (c : ℕ) (x : Inside) → Ends x → Ends (put c x)
unfolding put
ends_put c (closed v k) h = tt
ends_put c unclosed h = h

by_option : {A X : Type 0} (o : Option A) → ((a : A) → o ≡ Some a → X) → (o ≡ None → X) → X
by_option None f g = g refl
by_option (Some a) f g = f a refl

-- the characters behind a string's quote, up to its end, give its value
pub spell_mean : (b : Bool) (cs : List ℕ) → Ends (inside b cs) → spelled b cs ≡ value_of (inside b cs)
unfolding inside
spell_mean b [] h = absurd h
spell_mean false (c ∷ r) h = by_test (eqb c 0x22)
    (λ a. spelled_ends c r false (ends_quote c a) ∙ sym (ap value_of (inside_quote c r a)))
    (λ a. by_test (eqb c 10)
    (λ d. absurd (subst Ends (inside_feed c r a d) h))
    (λ d. by_test (eqb c 0x5C)
    (λ e.
    let i : Inside = inside true r in
    spelled-on c r false (ends_not c a d)
    ∙ ap (λ (x : List ℕ). x ++ spelled (escapes_next false c) r) (as_nothing c e)
    ∙ ap (λ (z : Bool). spelled z r) (next_is c ∙ e)
    ∙ spell_mean true r (pass_ends i (subst Ends (inside_backslash c r a d e) h))
    ∙ sym (pass-value i)
    ∙ sym (ap value_of (inside_backslash c r a d e)))
    (λ e.
    let i : Inside = inside false r in
    let on : Ends i = pass_ends i (put_ends c (pass i) (subst Ends (inside-plain c r a d e) h)) in
    spelled-on c r false (ends_not c a d)
    ∙ ap (λ (x : List ℕ). x ++ spelled (escapes_next false c) r) (as_itself c e)
    ∙ ap (λ (z : Bool). c ∷ spelled z r) (next_is c ∙ e)
    ∙ ap (λ (l : List ℕ). c ∷ l) (spell_mean false r on ∙ sym (pass-value i))
    ∙ sym (put-value c (pass i) (ends_pass i on))
    ∙ sym (ap value_of (inside-plain c r a d e)))))
spell_mean true (c ∷ r) h = by_test (eqb c 10)
    (λ d. absurd (subst Ends (inside_broken c r (feed_none c d) d) h))
    (λ d.
    let i : Inside = inside false r in
    let begun : spelled true (c ∷ r) ≡ escape_of c ++ spelled false r = spelled-on c r true (ends_escaped c d) ∙ ap (λ (x : List ℕ). x ++ spelled (escapes_next true c) r) (as_escape c) ∙ ap (λ (z : Bool). escape_of c ++ spelled z r) (next-not c) in
    by_option (escape c)
    (λ v e.
    let on : Ends i = pass_ends i (put_ends v (pass i) (subst Ends (inside-escape c r v e) h)) in
    begun ∙ ap (λ (x : List ℕ). x ++ spelled false r) (stands_for c v e) ∙ ap (λ (l : List ℕ). v ∷ l) (spell_mean false r on ∙ sym (pass-value i))
    ∙ sym (put-value v (pass i) (ends_pass i on)) ∙ sym (ap value_of (inside-escape c r v e)))
    (λ e.
    let on : Ends i = pass_ends i (put_ends c (pass i) (put_ends 0x5C (put c (pass i)) (subst Ends (inside-other c r e d) h))) in
    begun ∙ ap (λ (x : List ℕ). x ++ spelled false r) (stands_alone c e) ∙ ap (λ (l : List ℕ). 0x5C ∷ c ∷ l) (spell_mean false r on ∙ sym (pass-value i))
    ∙ sym (ap (λ (l : List ℕ). 0x5C ∷ l) (put-value c (pass i) (ends_pass i on))) ∙ sym (put-value 0x5C (put c (pass i)) (ends_put c (pass i) (ends_pass i on))) ∙ sym (ap value_of (inside-other c r e d))))
