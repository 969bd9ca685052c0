-- Entries parted by commas, without their bound: each entry takes a token, so the bound of `entries` is never met and drops out.
use Prim.Native.Nat.{ℕ, zero, suc, ◌≤◌, ◌<◌}
use native.Mathlib.Omega.{arith}
use mathlib.Core.Bool.{Bool, true, false}
use mathlib.Core.List.{List, [], ◌∷◌}
use Rattle.std.specs.Prelude.{Option, None, Some}
use mathlib.Core.Path.{◌≡◌, refl, ap, ◌∙◌, sym}
use lib.ListN.{length}
use Rattle.lexer.specs.Tokens.{TokenKind, Token}
use Rattle.language.specs.Machine.{Located}
use Rattle.language.specs.Parser.{Result, ok, fail, Parser, then, ◌>>=◌, give, unexpected, is_sign, goes_on, taken, branch, go_on, one, opened, at_most, entries, single}
use Rattle.language.specs.Lines.{symbol_in, symbol, read_entry}

-- what is left is shorter than n
abbrev pub Below : {P A : Type 0} → ℕ → Result P A → Type 0
Below n (ok a ts) = length ts < n
Below n (fail m p) = Unit {0}

module _ {P : Type 0} (stop : P) where
  -- a parser that takes a token, or fails where the line ends
  pub record Takes {A : Type 0} (p : Parser P A) : Type 0 where
    pub at_end_lem : p [] ≡ fail 1 stop
    pub takes : (ts : List (Token P)) → Below (length ts) (p ts)

  taken_below : {A : Type 0} (o : Option A) (bad : TokenKind → ℕ) (t : Token P) (ts : List (Token P)) → Below (suc (length ts)) (taken o bad t ts)
  unfolding taken
  taken_below None bad t ts = tt
  taken_below (Some a) bad t ts = omega arith

  one_below : {A : Type 0} (view : TokenKind → Option A) (bad : TokenKind → ℕ) (ts : List (Token P)) → Below (length ts) (one stop view bad ts)
  unfolding one
  one_below view bad [] = tt
  one_below view bad (t ∷ ts) = taken_below (view t.kind) bad t ts

  -- one token
  pub one-takes : {A : Type 0} (view : TokenKind → Option A) (bad : TokenKind → ℕ) → Takes (one stop view bad)
  unfolding one
  one-takes view bad = record { at_end_lem = refl; takes = one_below view bad }

  module _ {A : Type 0} {p : Parser P A} (e : Takes p) (c : ℕ) where
    -- behind an entry, with n entries more at most
    rest : ℕ → A → Parser P (List A)
    rest n a = one stop (goes_on c) unexpected >>= λ more. go_on more.value (at_most stop n p c) a

    go_on-same : (b : Bool) (a : A) (q r : Parser P (List A)) (ts : List (Token P)) → q ts ≡ r ts → go_on b q a ts ≡ go_on b r a ts
    unfolding go_on ◌>>=◌
    go_on-same true a q r ts h = ap (λ x. then x (λ more. give (a ∷ more))) h
    go_on-same false a q r ts h = refl

    more_same : (n m : ℕ) (a : A) (o : Result P (Located P Bool)) (k : ℕ) → Below k o → ((ts : List (Token P)) → length ts < k → at_most stop n p c ts ≡ at_most stop m p c ts)
        → then o (λ more. go_on more.value (at_most stop n p c) a) ≡ then o (λ more. go_on more.value (at_most stop m p c) a)
    unfolding then
    more_same n m a (ok b ts) k h f = go_on-same b.value a (at_most stop n p c) (at_most stop m p c) ts (f ts h)
    more_same n m a (fail x y) k h f = refl

    rest-same : (n m : ℕ) (a : A) (ts : List (Token P)) → ((us : List (Token P)) → length us < length ts → at_most stop n p c us ≡ at_most stop m p c us) → rest n a ts ≡ rest m a ts
    unfolding rest ◌>>=◌
    rest-same n m a ts f = more_same n m a (one stop (goes_on c) unexpected ts) (length ts) (one_below (goes_on c) unexpected ts) f

    first-same : (n m : ℕ) (o : Result P A) (k : ℕ) → Below k o → ((ts : List (Token P)) → length ts < k → at_most stop n p c ts ≡ at_most stop m p c ts) → then o (rest n) ≡ then o (rest m)
    unfolding then
    first-same n m (ok a ts) k h f = rest-same n m a ts (λ us g. f us (omega arith))
    first-same n m (fail x y) k h f = refl

    nothing_left : (n : ℕ) → at_most stop n p c [] ≡ fail 1 stop
    unfolding at_most ◌>>=◌ then
    nothing_left zero = refl
    nothing_left (suc n) = rw e.at_end_lem refl

    none_left : (n m : ℕ) (ts : List (Token P)) → length ts ≤ 0 → at_most stop n p c ts ≡ at_most stop m p c ts
    none_left n m [] h = nothing_left n ∙ sym (nothing_left m)
    none_left n m (t ∷ ts) h = absurd (omega arith)

    -- any bound that is long enough gives the same
    enough : (n m : ℕ) (ts : List (Token P)) → length ts ≤ n → length ts ≤ m → at_most stop n p c ts ≡ at_most stop m p c ts
    unfolding at_most ◌>>=◌ rest
    enough zero m ts h k = none_left zero m ts h
    enough (suc n) zero ts h k = none_left (suc n) zero ts k
    enough (suc n) (suc m) ts h k = first-same n m (p ts) (length ts) (e.takes ts) (λ us g. enough n m us (omega arith) (omega arith))

    -- an entry, and then the closing sign, or a comma and the entries that follow
    pub entries_are : (ts : List (Token P)) → entries stop p c ts ≡ (p >>= λ a. one stop (goes_on c) unexpected >>= λ more. go_on more.value (entries stop p c) a) ts
    unfolding entries at_most ◌>>=◌ rest
    entries_are ts = all_bound ts ∙ inside (p ts) (length ts) (e.takes ts)
      where
        all_bound : (ts : List (Token P)) → at_most stop (length ts) p c ts ≡ then (p ts) (rest (length ts))
        all_bound ts = enough (length ts) (suc (length ts)) ts (omega arith) (omega arith)

        behind : (k : ℕ) (a : A) (o : Result P (Located P Bool)) → Below k o → then o (λ more. go_on more.value (at_most stop k p c) a) ≡ then o (λ more. go_on more.value (entries stop p c) a)
        behind k a (ok b us) h = go_on-same b.value a (at_most stop k p c) (entries stop p c) us (enough k (length us) us (omega arith) (omega arith))
        behind k a (fail x y) h = refl

        further : (k : ℕ) (a : A) (us : List (Token P)) → length us < k → rest k a us ≡ then (one stop (goes_on c) unexpected us) (λ more. go_on more.value (entries stop p c) a)
        further k a us h = behind k a (one stop (goes_on c) unexpected us) (weaker (one stop (goes_on c) unexpected us) (one_below (goes_on c) unexpected us))
          where
            weaker : (o : Result P (Located P Bool)) → Below (length us) o → Below k o
            weaker (ok b vs) g = omega arith
            weaker (fail x y) g = tt

        inside : (o : Result P A) (k : ℕ) → Below k o → then o (rest k) ≡ then o (λ a ts. then (one stop (goes_on c) unexpected ts) (λ more. go_on more.value (entries stop p c) a))
        inside (ok a us) k h = further k a us h
        inside (fail x y) k h = refl

    go_on_below : (b : Bool) (a : A) (q : Parser P (List A)) (ts : List (Token P)) (k : ℕ) → length ts < k → Below k (q ts) → Below k (go_on b q a ts)
    unfolding go_on ◌>>=◌ then
    go_on_below true a q ts k h g = last (q ts) g
      where
        last : (o : Result P (List A)) → Below k o → Below k (then o (λ more. give (a ∷ more)))
        last (ok l us) g = g
        last (fail x y) g = tt
    go_on_below false a q ts k h g = h

    most_below : (n : ℕ) (ts : List (Token P)) → Below (length ts) (at_most stop n p c ts)
    unfolding at_most ◌>>=◌ then rest
    most_below zero ts = tt
    most_below (suc n) ts = first (p ts) (e.takes ts) (λ vs. most_below n vs)
      where
        second : (a : A) (us : List (Token P)) → length us < length ts → (o : Result P (Located P Bool)) → Below (length us) o → ((vs : List (Token P)) → Below (length vs) (at_most stop n p c vs))
            → Below (length ts) (then o (λ more. go_on more.value (at_most stop n p c) a))
        second a us h (ok b vs) g f = go_on_below b.value a (at_most stop n p c) vs (length ts) (omega arith) (weaker (at_most stop n p c vs) (f vs))
          where
            weaker : (o : Result P (List A)) → Below (length vs) o → Below (length ts) o
            weaker (ok l ws) g' = omega arith
            weaker (fail x y) g' = tt
        second a us h (fail x y) g f = tt

        first : (o : Result P A) → Below (length ts) o → ((vs : List (Token P)) → Below (length vs) (at_most stop n p c vs)) → Below (length ts) (then o (rest n))
        first (ok a us) h f = second a us h (one stop (goes_on c) unexpected us) (one_below (goes_on c) unexpected us) f
        first (fail x y) h f = tt

    -- entries take a token themselves
    pub entries-takes : Takes (entries stop p c)
    unfolding entries at_most
    entries-takes = record { at_end_lem = refl; takes = λ ts. most_below (length ts) ts }

  -- a single entry
  pub single_takes : {A : Type 0} {p : Parser P A} → Takes p → Takes (single stop p)
  unfolding single ◌>>=◌ then
  single_takes {p = p} e = record { at_end_lem = rw e.at_end_lem refl; takes = λ ts. alone (p ts) (length ts) (e.takes ts) }
    where
      alone : {A : Type 0} (o : Result P A) (k : ℕ) → Below k o → Below k (then o (λ a. give (a ∷ [])))
      alone (ok a us) k h = h
      alone (fail x y) k h = tt

  opened_below : {A : Type 0} (o : Option Bool) (p q : Parser P A) → Takes p → Takes q → (t : Token P) (ts : List (Token P)) → Below (suc (length ts)) (branch o p q t ts)
  unfolding branch
  opened_below None p q d e t ts = e.takes (t ∷ ts)
  opened_below (Some b) p q d e t ts = wider (p ts) (d.takes ts)
    where
      wider : {A : Type 0} (o : Result P A) → Below (length ts) o → Below (suc (length ts)) o
      wider (ok a us) h = omega arith
      wider (fail x y) h = tt

  pub opened_takes : {A : Type 0} {p q : Parser P A} (c : ℕ) → Takes p → Takes q → Takes (opened stop c p q)
  unfolding opened
  opened_takes {p = p} {q = q} c d e = record { at_end_lem = e.at_end_lem; takes = below }
    where
      below : (ts : List (Token P)) → Below (length ts) (opened stop c p q ts)
      below [] = rw e.at_end_lem tt
      below (t ∷ ts) = opened_below (is_sign c t.kind) p q d e t ts

  symbol-takes : Takes (symbol stop)
  unfolding symbol
  symbol-takes = one-takes symbol_in unexpected

  -- a read entry takes a token, so a tuple of them unfolds too
  pub read-takes : Takes (read_entry stop)
  unfolding read_entry
  read-takes = opened_takes 0x7B (entries-takes symbol-takes 0x7D) (single_takes symbol-takes)
