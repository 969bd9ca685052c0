-- Laws of the table's places: the hash, the slots, and what is stored.
use mathlib.Core.Path.{◌≡◌, refl, sym, ap, ◌∙◌}
use mathlib.Core.Bool.{Bool, true, false, ◌&&◌}
use mathlib.Core.List.{List, [], ◌∷◌, ◌++◌}
use Prim.Native.Nat.{ℕ, ◌+◌, ◌-◌, ◌*◌, ◌/◌, ◌%◌, ◌≤◌, ◌<◌}
use native.Mathlib.Omega.{arith}
use borrow.Author.Tests.{eq-eqb, ne_eqb, lt-ltb, le-ltb, le-leb, leb-true}
use lib.Dec.{eqb, leb}
use lib.ListN.{length, get_or, take, drop, length-append, length-take, length-drop}
use lib.Seq.{drop-cons, take_all, take-append_seam, get_or-append-add}
use Rattle.std.specs.Prelude.{Option, None, Some}
use Rattle.std.specs.Option.{unwrap_or}
use Rattle.std.specs.Int.{from_le_bytes, w32}
use Rattle.std.proofs.lemmas.Option.{none-some}
use Rattle.diag.proofs.Cases.{by_test_lem}
use Rattle.lexer.specs.Places.{part}
use Rattle.tokens.specs.declared.Token.{Token}
use Rattle.parser.specs.Row.{peek}
use Rattle.assembler_names.specs.Names.{has_name}
use Rattle.assembler_names.specs.Index.{step, rest_of, hash_from, letter_of, own_slot, front, final, hashed_slot, stops, filled}

-- ---- the last bytes
four : (a b c d : ℕ) → from_le_bytes w32 (a ∷ b ∷ c ∷ d ∷ []) ≡ a + b * 256 + c * 65536 + d * 16777216
four a b c d = refl

pub rest_0 : (l : List ℕ) → length l < 1 → 0 ≡ rest_of l
unfolding rest_of
rest_0 [] h = refl
rest_0 (a ∷ r) h = absurd (omega arith)

pub rest_1 : (l : List ℕ) (x : ℕ) → 1 ≤ length l → length l < 2 → x ≡ get_or l 0 0 → x ≡ rest_of l
unfolding rest_of
rest_1 [] x g h e = absurd (omega arith)
rest_1 (a ∷ []) x g h e = e
rest_1 (a ∷ b ∷ r) x g h e = absurd (omega arith)

pub rest_2 : (l : List ℕ) (x : ℕ) → 2 ≤ length l → length l < 3 → x ≡ from_le_bytes w32 (get_or l 0 0 ∷ get_or l 1 0 ∷ 0 ∷ 0 ∷ []) → x ≡ rest_of l
unfolding rest_of
rest_2 [] x g h e = absurd (omega arith)
rest_2 (a ∷ []) x g h e = absurd (omega arith)
rest_2 (a ∷ b ∷ []) x g h e = omega (arith, e, four a b 0 0)
rest_2 (a ∷ b ∷ c ∷ r) x g h e = absurd (omega arith)

pub rest_3 : (l : List ℕ) (x : ℕ) → 3 ≤ length l → length l < 4 → x ≡ from_le_bytes w32 (get_or l 0 0 ∷ get_or l 1 0 ∷ get_or l 2 0 ∷ 0 ∷ []) → x ≡ rest_of l
unfolding rest_of
rest_3 [] x g h e = absurd (omega arith)
rest_3 (a ∷ []) x g h e = absurd (omega arith)
rest_3 (a ∷ b ∷ []) x g h e = absurd (omega arith)
rest_3 (a ∷ b ∷ c ∷ []) x g h e = omega (arith, e, four a b c 0)
rest_3 (a ∷ b ∷ c ∷ d ∷ r) x g h e = absurd (omega arith)

pub rest_more : (l : List ℕ) → 4 ≤ length l → 0 ≡ rest_of l
unfolding rest_of
rest_more [] h = absurd (omega arith)
rest_more (a ∷ []) h = absurd (omega arith)
rest_more (a ∷ b ∷ []) h = absurd (omega arith)
rest_more (a ∷ b ∷ c ∷ []) h = absurd (omega arith)
rest_more (a ∷ b ∷ c ∷ d ∷ r) h = refl

-- ---- the hash
pub hash-end : (h : ℕ) (l : List ℕ) (q s v : ℕ) → length l < 4 → q ≡ rest_of l → s ≡ step h q → hash_from h l ≡ v → s ≡ v
unfolding hash_from rest_of
hash-end h [] q s v n e f g = f ∙ ap (step h) e ∙ g
hash-end h (a ∷ []) q s v n e f g = f ∙ ap (step h) e ∙ g
hash-end h (a ∷ b ∷ []) q s v n e f g = f ∙ ap (step h) e ∙ g
hash-end h (a ∷ b ∷ c ∷ []) q s v n e f g = f ∙ ap (step h) e ∙ g
hash-end h (a ∷ b ∷ c ∷ d ∷ r) q s v n e f g = absurd (omega arith)

pub hash-on : (h : ℕ) (l : List ℕ) (q s v : ℕ) → 4 ≤ length l → q ≡ from_le_bytes w32 (get_or l 0 0 ∷ get_or l 1 0 ∷ get_or l 2 0 ∷ get_or l 3 0 ∷ [])
    → s ≡ step h q → hash_from h l ≡ v → hash_from s (take (length l - 4) (drop 4 l)) ≡ v
unfolding hash_from
hash-on h [] q s v n p e g = absurd (omega arith)
hash-on h (a ∷ []) q s v n p e g = absurd (omega arith)
hash-on h (a ∷ b ∷ []) q s v n p e g = absurd (omega arith)
hash-on h (a ∷ b ∷ c ∷ []) q s v n p e g = absurd (omega arith)
hash-on h (a ∷ b ∷ c ∷ d ∷ l) q s v n p e g =
    let all : take (length (a ∷ b ∷ c ∷ d ∷ l) - 4) l ≡ l = take_all (length (a ∷ b ∷ c ∷ d ∷ l) - 4) l (omega arith) in
    ap (hash_from s) all ∙ ap (λ (s : ℕ). hash_from s l) (e ∙ ap (step h) (p ∙ four a b c d)) ∙ g

-- ---- the slots
pub own_none : (letters : ℕ) (l : List ℕ) → None ≡ letter_of l → None ≡ own_slot letters l
unfolding letter_of own_slot
own_none letters [] e = refl
own_none letters (a ∷ []) e = absurd (none-some a e)
own_none letters (a ∷ b ∷ r) e = refl

pub own_is : (letters : ℕ) (l : List ℕ) (c : ℕ) → Some c ≡ letter_of l → c < letters → Some c ≡ own_slot letters l
unfolding letter_of own_slot
own_is letters [] c e h = absurd (none-some c (sym e))
own_is letters (a ∷ []) c e h = let z : c ≡ a = ap (λ (o : Option ℕ). unwrap_or o 0) e in rw (lt-ltb a letters (omega arith)) e
own_is letters (a ∷ b ∷ r) c e h = absurd (none-some c (sym e))

pub own_past : (letters : ℕ) (l : List ℕ) (c : ℕ) → Some c ≡ letter_of l → letters ≤ c → None ≡ own_slot letters l
unfolding letter_of own_slot
own_past letters [] c e h = refl
own_past letters (a ∷ []) c e h = let z : c ≡ a = ap (λ (o : Option ℕ). unwrap_or o 0) e in rw (le-ltb a letters (omega arith))
own_past letters (a ∷ b ∷ r) c e h = refl

-- ---- the letter of a part of the text
not-one : (l : List ℕ) → (length l ≡ 1 → ⊥) → None ≡ letter_of l
unfolding letter_of
not-one [] n = refl
not-one (c ∷ []) n = absurd (n refl)
not-one (c ∷ d ∷ r) n = refl

and_left : (a b : Bool) → a && b ≡ true → a ≡ true
and_left true b e = refl
and_left false b e = e

and_right : (a b : Bool) → a && b ≡ true → b ≡ true
and_right true b e = e
and_right false b e = let z : ◌≡◌ {A = ℕ} 0 1 = cc in absurd (omega arith)

pub letter_long : (text : List ℕ) (a b : ℕ) → (a + 1 ≡ b → ⊥) → None ≡ letter_of (part text a b)
unfolding part letter_of
letter_long text a b n =
    by_test_lem (leb a b && leb b (length text)) (λ y. rw y (not-one (take (b - a) (drop a text)) (λ e. long y e))) (λ y. rw y)
  where
    long : leb a b && leb b (length text) ≡ true → length (take (b - a) (drop a text)) ≡ 1 → ⊥
    long y e =
        let l = leb-true a b (and_left (leb a b) (leb b (length text)) y) in
        let m = leb-true b (length text) (and_right (leb a b) (leb b (length text)) y) in
        n (omega (arith, length-take (b - a) (drop a text), length-drop a text))

pub letter_past : (text : List ℕ) (a b : ℕ) → length text < b → None ≡ letter_of (part text a b)
unfolding part letter_of
letter_past text a b h =
    by_test_lem (leb a b && leb b (length text)) (λ y. absurd (omega (arith, leb-true b (length text) (and_right (leb a b) (leb b (length text)) y)))) (λ y. rw y)

pub letter_is : (text : List ℕ) (a b : ℕ) → a + 1 ≡ b → b ≤ length text → Some (get_or text a 0) ≡ letter_of (part text a b)
unfolding part letter_of
letter_is text a b e h =
    let z : leb a b && leb b (length text) ≡ true = rw (le-leb a b (omega arith), le-leb b (length text) h) in
    let n : b - a ≡ 1 = omega arith in
    let o : take 1 (drop a text) ≡ get_or text a 0 ∷ [] = ap (take 1) (drop-cons text a 0 (omega arith)) in
    sym (rw (z, n) (ap letter_of o))

pub hashed_none : (letters span : ℕ) (name : List ℕ) → length name ≡ 0 → letters ≡ hashed_slot letters span name
unfolding hashed_slot hash_from rest_of
hashed_none letters span [] e = omega arith
hashed_none letters span (c ∷ r) e = absurd (omega arith)

pub hashed_is : (letters span : ℕ) (name before : List ℕ) (last h c : ℕ) → name ≡ before ++ (last ∷ []) → h ≡ hash_from 0 before → c ≡ last
    → letters + h * (span - letters - 32) / 1073741824 + c % 32 ≡ hashed_slot letters span name
unfolding hashed_slot
hashed_is letters span name before last h c e p q =
    let size : length name ≡ length before + 1 = ap length e ∙ length-append before (last ∷ []) in
    let k : length name - 1 ≡ length before = omega (arith, size) in
    let f : front name ≡ before = ap (λ (k : ℕ). take k name) k ∙ ap (take (length before)) e ∙ take-append_seam before (last ∷ []) in
    let z : length before ≡ length before + 0 = omega arith in
    let l : final name ≡ last = ap (λ (k : ℕ). get_or name k 0) (k ∙ z) ∙ ap (λ (n : List ℕ). get_or n (length before + 0) 0) e ∙ get_or-append-add before (last ∷ []) 0 0 in
    ap (λ (h : ℕ). letters + h * (span - letters - 32) / 1073741824 + c % 32) (p ∙ ap (hash_from 0) (sym f))
    ∙ ap (λ (c : ℕ). letters + hash_from 0 (front name) * (span - letters - 32) / 1073741824 + c % 32) (q ∙ sym l)

-- ---- a word stored
pub filled_empty : (v x : ℕ) → v ≡ 0 → filled v x ≡ x + 1
unfolding filled
filled_empty v x e = rw (eq-eqb v 0 e)

pub filled-held : (v x : ℕ) → (v ≡ 0 → ⊥) → filled v x ≡ v
unfolding filled
filled-held v x n = rw (ne_eqb v 0 n)

-- ---- a slot
module _ (text : List ℕ) (ts : List Token) (name : List ℕ) (v : ℕ) where
  pub stops_empty : v ≡ 0 → eqb v 0 ≡ stops text ts name v
  unfolding stops
  stops_empty e = rw (eq-eqb v 0 e)

  pub stops-filled : (v ≡ 0 → ⊥) → stops text ts name v ≡ has_name text name (peek ts (v - 1))
  unfolding stops
  stops-filled n = rw (ne_eqb v 0 n)
