-- Laws of the scans: what a scan finds from a place on, a character at a time.
use mathlib.Core.Path.{◌≡◌, refl, sym, ap, ◌∙◌}
use Prim.Native.Nat.{ℕ, ◌+◌, ◌-◌, ◌*◌, ◌≤◌, ◌<◌, min}
use native.Mathlib.Omega.{arith}
use mathlib.Core.Bool.{Bool, true, false, cond, ◌&&◌, ◌||◌}
use mathlib.Core.List.{List, [], ◌∷◌}
use mathlib.Core.Logic.{◌⊎◌, ⊎_elim}
use denote.Enum.Bare.{sameb}
use lib.Dec.{eqb, leb}
use lib.ListN.{length, take, drop}
use borrow.Author.Tests.{eq-eqb, ne_eqb, eqb-true, eqb-false, leb-true}
use Rattle.chars.specs.Utf8.{size, sizes, front, decode}
use Rattle.chars.specs.Decoded.{decoded_at}
use Rattle.chars.specs.Class.{class_of, classes}
use Rattle.chars.specs.Ranges.{Entry, row, lookup}
use Rattle.chars.specs.declared.Class.{Class}
use Rattle.chars.specs.declared.Class.TheVariants.{Letter, Digit, Space, Sign, Other}
use Rattle.std.specs.Prelude.{Option as Perhaps, Some, None, take_while, Option}
use Rattle.std.proofs.lemmas.List.Sums.{take_while-cons}
use Rattle.chars.proofs.Short.{short_least}
use Rattle.chars.specs.contracts.Class.{the_type}
use Rattle.chars.proofs.Tests.{and_both}
use Rattle.chars.specs.Short.{is_short}
use Rattle.chars.proofs.Laws.{char_next, char_falls, char_decode, none_decode, points_next}
use Rattle.std.proofs.Math.Bool.{or-false}
use Rattle.diag.proofs.Cases.{by_test_lem as by_test}
use Rattle.lexer.specs.Tokens.{is_letter, is_digit, is_space, is_word_continue, is_ascii_digit, is_whitespace, run, line, trim_cons, trim_end, escape, Inside, closed, unclosed, put, pass, inside}
use Rattle.lexer.specs.Starts.{is_word_start}
use Rattle.lexer.specs.Words.{value_from, value}
use Rattle.lexer.specs.Places.{line_at, trimmed_at, string_end}
use Rattle.lexer.specs.declared.Line.{Line}

-- ---- the tests of a character, by its class
module _ (c : ℕ) (k x : Class) (b : Bool) (e : k ≡ class_of c) (p : k ≡ x) where
  pub start_class : (c ≡ 0x5F → ⊥) → b ≡ is_letter x → b ≡ is_word_start c
  unfolding is_word_start
  start_class f q = rw (ne_eqb c 0x5F f, or-false) (q ∙ ap is_letter (sym p ∙ e))

  pub continue_class : (c ≡ 0x5F → ⊥) → (c ≡ 0x27 → ⊥) → b ≡ (is_letter x || is_digit x) → b ≡ is_word_continue c
  unfolding is_word_continue
  continue_class f g q = rw (ne_eqb c 0x5F f, ne_eqb c 0x27 g, ← e, p) (q ∙ simp or-false)

  pub continue_class_above : 0x80 ≤ c → b ≡ (is_letter x || is_digit x) → b ≡ is_word_continue c
  continue_class_above l q = continue_class (λ (z : c ≡ 0x5F). omega arith) (λ (z : c ≡ 0x27). omega arith) q

  pub digit_class : b ≡ is_digit x → b ≡ is_ascii_digit c
  unfolding is_ascii_digit
  digit_class q = q ∙ ap is_digit (sym p ∙ e)

  pub space_class : b ≡ is_space x → b ≡ is_whitespace c
  unfolding is_whitespace
  space_class q = q ∙ ap is_space (sym p ∙ e)

-- ---- a run of characters that pass a test
pub run_true : (f : ℕ → Bool) (c : ℕ) (r : List ℕ) → f c ≡ true → run f (c ∷ r) ≡ c ∷ run f r
unfolding run
run_true f c r e = rw (e, run)

pub run_false : (f : ℕ → Bool) (c : ℕ) (r : List ℕ) → f c ≡ false → run f (c ∷ r) ≡ []
unfolding run
run_false f c r e = rw (e, run)

pub sizes-nil : sizes [] ≡ 0
unfolding sizes
sizes-nil = refl

pub sizes-cons : (c : ℕ) (r : List ℕ) → sizes (c ∷ r) ≡ size c + sizes r
unfolding sizes
sizes-cons c r = refl

pub run-nil : (f : ℕ → Bool) → run f [] ≡ []
unfolding run
run-nil f = refl

module _ (f : ℕ → Bool) (t : List ℕ) (i : ℕ) (r : Perhaps (ℕ × ℕ)) (s : r ≡ decoded_at i (front (drop i t))) (v : ℕ) (inv : i + sizes (run f (decode (drop i t))) ≡ v) where
  pub run_on : (c n : ℕ) (w : Bool) → r ≡ Some (c, n) → w ≡ f c → w ≡ true → n + sizes (run f (decode (drop n t))) ≡ v
  run_on c n w e p q =
      let d = char_decode t i r s c n e in
      let m = char_next t i r s c n e in
      let u : sizes (run f (decode (drop i t))) ≡ size c + sizes (run f (decode (drop n t))) = rw (d, run_true f c (decode (drop n t)) (sym p ∙ q), sizes-cons) in
      omega arith

  pub run_off : (c n : ℕ) (w : Bool) → r ≡ Some (c, n) → w ≡ f c → w ≡ false → i ≡ v
  run_off c n w e p q =
      let u : sizes (run f (decode (drop i t))) ≡ 0 = rw (char_decode t i r s c n e, run_false f c (decode (drop n t)) (sym p ∙ q), sizes-nil) in
      omega arith

  pub run_none : r ≡ None → i ≡ v
  run_none e = let u : sizes (run f (decode (drop i t))) ≡ 0 = rw (none_decode t i r s e, run-nil, sizes-nil) in omega arith

-- ---- the value of a number
-- each row that gives a digit lies within 0 to 9
abbrev digit_row : Class → ℕ → ℕ → Bool
digit_row Digit lo hi = leb 0x30 lo && leb hi 0x39
digit_row Letter lo hi = true
digit_row Space lo hi = true
digit_row Sign lo hi = true
digit_row Other lo hi = true

abbrev digit_rows : List (Entry Class) → Bool
digit_rows [] = true
digit_rows (row lo hi k ∷ r) = digit_row k lo hi && digit_rows r

row_range : (k : Class) (lo hi c : ℕ) → digit_row k lo hi ≡ true → k ≡ Digit → lo ≤ c → c ≤ hi → (0x30 ≤ c) × (c ≤ 0x39)
row_range k lo hi c g e l h =
    let w = and_both (leb 0x30 lo) (leb hi 0x39) (sym (ap (λ (x : Class). digit_row x lo hi) e) ∙ g) in
    omega (arith, leb-true 0x30 lo w.0, leb-true hi 0x39 w.1)

rows-range : (t : List (Entry Class)) (c : ℕ) → digit_rows t ≡ true → lookup t Other c ≡ Digit → (0x30 ≤ c) × (c ≤ 0x39)
unfolding lookup
rows-range [] c g e = let z : ◌≡◌ {A = ℕ} 0 1 = cc in absurd (omega arith)
rows-range (row lo hi k ∷ r) c g e =
    let w = and_both (digit_row k lo hi) (digit_rows r) g in
    by_test (leb lo c && leb c hi)
    (λ b.
    let v = and_both (leb lo c) (leb c hi) b in
    row_range k lo hi c w.0 (sym (ap (λ (x : Bool). cond x k (lookup r Other c)) b) ∙ e) (leb-true lo c v.0) (leb-true c hi v.1))
    (λ b. rows-range r c w.1 (sym (ap (λ (x : Bool). cond x k (lookup r Other c)) b) ∙ e))

digit_of : (k : Class) → is_digit k ≡ true → k ≡ Digit
digit_of Digit e = refl
digit_of Letter e = cc
digit_of Space e = cc
digit_of Sign e = cc
digit_of Other e = cc

pub digit_range : (c : ℕ) → is_ascii_digit c ≡ true → (0x30 ≤ c) × (c ≤ 0x39)
unfolding is_ascii_digit class_of
digit_range c e = rows-range classes c refl (digit_of (class_of c) e)

-- values that agree up to 256 still do behind more digits
value_cut : (ds : List ℕ) (a b : ℕ) → min a 256 ≡ min b 256 → min (value_from a ds) 256 ≡ min (value_from b ds) 256
unfolding value_from
value_cut [] a b e = e
value_cut (d ∷ ds) a b e = value_cut ds (a * 10 + (d - 0x30)) (b * 10 + (d - 0x30)) (omega arith)

-- the loop of `number_value`: v stands for the digits passed
pub record Counted (t : List ℕ) (at i v : ℕ) : Type 0 where
  pub small : v ≤ 256
  pub same : min (value_from v (run is_ascii_digit (decode (drop i t)))) 256 ≡ min (value (run is_ascii_digit (decode (drop at t)))) 256

pub counted_start : (t : List ℕ) (at : ℕ) → Counted t at at 0
unfolding value
counted_start t at = record { small = omega arith; same = refl }

module _ (t : List ℕ) (at i v : ℕ) (r : Perhaps (ℕ × ℕ)) (s : r ≡ decoded_at i (front (drop i t))) (st : Counted t at i v) where
  pub counted-on : (c n u : ℕ) (w : Bool) → r ≡ Some (c, n) → w ≡ is_ascii_digit c → w ≡ true → u ≡ min (v * 10 + (c - 0x30)) 256 → Counted t at n u
  unfolding value_from
  counted-on c n u w e p q g =
      let l : List ℕ = run is_ascii_digit (decode (drop n t)) in
      let d : run is_ascii_digit (decode (drop i t)) ≡ c ∷ l = rw (char_decode t i r s c n e, run_true is_ascii_digit c (decode (drop n t)) (sym p ∙ q)) in
      record { small = omega arith; same = value_cut l u (v * 10 + (c - 0x30)) (omega arith) ∙ sym (ap (λ (x : List ℕ). min (value_from v x) 256) d) ∙ st.same }

  counted_stop : run is_ascii_digit (decode (drop i t)) ≡ [] → v ≡ min (value (run is_ascii_digit (decode (drop at t)))) 256
  unfolding value_from
  counted_stop d = let e = sym (ap (λ (x : List ℕ). min (value_from v x) 256) d) ∙ st.same in omega arith

  pub counted_off : (c n : ℕ) (w : Bool) → r ≡ Some (c, n) → w ≡ is_ascii_digit c → w ≡ false → v ≡ min (value (run is_ascii_digit (decode (drop at t)))) 256
  counted_off c n w e p q = counted_stop (rw (char_decode t i r s c n e, run_false is_ascii_digit c (decode (drop n t)) (sym p ∙ q)))

  pub counted_none : r ≡ None → v ≡ min (value (run is_ascii_digit (decode (drop at t)))) 256
  counted_none e = counted_stop (rw (none_decode t i r s e, run-nil))

-- ---- the rest of a line
pub line_feed : (c : ℕ) (r : List ℕ) → c ≡ 10 → line (c ∷ r) ≡ []
unfolding line
line_feed c r e = rw (eq-eqb c 10 e, line)

pub line_more : (c : ℕ) (r : List ℕ) → (c ≡ 10 → ⊥) → line (c ∷ r) ≡ c ∷ line r
unfolding line
line_more c r f = rw (ne_eqb c 10 f, line)

pub line-nil : line [] ≡ []
unfolding line
line-nil = refl

pub trimmed_same : (i : ℕ) (l : List ℕ) → trimmed_at i i l ≡ i + sizes l
unfolding sizes
trimmed_same i [] = omega arith
trimmed_same i (c ∷ r) = refl

trim_white : (c : ℕ) (l : List ℕ) (last i : ℕ) → is_whitespace c ≡ true → trimmed_at last i (trim_cons c l) ≡ trimmed_at last (i + size c) l
unfolding trim_cons sizes
trim_white c [] last i e = rw (e, trim_cons)
trim_white c (d ∷ r) last i e = omega arith

trim_other : (c : ℕ) (l : List ℕ) (last i : ℕ) → is_whitespace c ≡ false → trimmed_at last i (trim_cons c l) ≡ trimmed_at (i + size c) (i + size c) l
unfolding trim_cons sizes
trim_other c [] last i e = rw (e, trim_cons) (omega arith)
trim_other c (d ∷ r) last i e = omega arith

trim_cons_lem : (c : ℕ) (r : List ℕ) → trim_end (c ∷ r) ≡ trim_cons c (trim_end r)
unfolding trim_end
trim_cons_lem c r = refl

trim_nil : trim_end [] ≡ []
unfolding trim_end
trim_nil = refl

-- the loop of `line_end`
pub record Lined (t : List ℕ) (at i last : ℕ) : Type 0 where
  pub end : i + sizes (line (decode (drop i t))) ≡ at + sizes (line (decode (drop at t)))
  pub trimmed : trimmed_at last i (trim_end (line (decode (drop i t)))) ≡ at + sizes (trim_end (line (decode (drop at t))))

pub lined_start : (t : List ℕ) (at : ℕ) → Lined t at at at
lined_start t at = record { end = refl; trimmed = trimmed_same at (trim_end (line (decode (drop at t)))) }

module _ (t : List ℕ) (at i last : ℕ) (r : Perhaps (ℕ × ℕ)) (s : r ≡ decoded_at i (front (drop i t))) (st : Lined t at i last) where
  module _ (c n : ℕ) (e : r ≡ Some (c, n)) where
    module _ (f : c ≡ 10 → ⊥) (w : Bool) (p : w ≡ is_whitespace c) where
      on_line : line (decode (drop i t)) ≡ c ∷ line (decode (drop n t))
      on_line = rw (char_decode t i r s c n e, line_more c (decode (drop n t)) f)

      on-end : n + sizes (line (decode (drop n t))) ≡ at + sizes (line (decode (drop at t)))
      on-end = omega (arith, char_next t i r s c n e, st.end, ap sizes on_line ∙ sizes-cons c (line (decode (drop n t))))

      on_trim : trim_end (line (decode (drop i t))) ≡ trim_cons c (trim_end (line (decode (drop n t))))
      on_trim = ap trim_end on_line ∙ trim_cons_lem c (line (decode (drop n t)))

      tail : List ℕ
      tail = trim_end (line (decode (drop n t)))

      pub lined_white : w ≡ true → Lined t at n last
      unfolding tail
      lined_white q = record {
        end = on-end;
        trimmed =
            ap (λ (x : ℕ). trimmed_at last x tail) (char_next t i r s c n e) ∙ sym (trim_white c tail last i (sym p ∙ q))
            ∙ sym (ap (trimmed_at last i) on_trim) ∙ st.trimmed;
      }

      pub lined_other : w ≡ false → Lined t at n n
      unfolding tail
      lined_other q = record {
        end = on-end;
        trimmed =
            ap (λ (x : ℕ). trimmed_at x x tail) (char_next t i r s c n e) ∙ sym (trim_other c tail last i (sym p ∙ q))
            ∙ sym (ap (trimmed_at last i) on_trim) ∙ st.trimmed;
      }

  lined_stop : line (decode (drop i t)) ≡ [] → ◌≡◌ {A = Line} (record { trimmed = last; end = i }) (line_at at (decode (drop at t)))
  unfolding line_at sizes
  lined_stop d =
      let a : last ≡ at + sizes (trim_end (line (decode (drop at t)))) = sym (ap (λ (l : List ℕ). trimmed_at last i (trim_end l)) d ∙ ap (trimmed_at last i) trim_nil) ∙ st.trimmed in
      let b : i ≡ at + sizes (line (decode (drop at t))) = omega (arith, st.end, ap sizes d) in
      λ x. record { trimmed = a x; end = b x }

  pub lined_feed : (c n : ℕ) → r ≡ Some (c, n) → c ≡ 10 → ◌≡◌ {A = Line} (record { trimmed = last; end = i }) (line_at at (decode (drop at t)))
  lined_feed c n e f = lined_stop (rw (char_decode t i r s c n e, line_feed c (decode (drop n t)) f))

  pub lined_none : r ≡ None → ◌≡◌ {A = Line} (record { trimmed = last; end = i }) (line_at at (decode (drop at t)))
  lined_none e = lined_stop (rw (none_decode t i r s e, line-nil))

-- ---- a string
-- where a string ends that goes on behind a character c, at the place n
abbrev end_of : ℕ → List ℕ → Inside → Perhaps ℕ
end_of at cs (closed v n) = Some (at + sizes (take n cs))
end_of at cs unclosed = None

string_end_of : (b : Bool) (at : ℕ) (cs : List ℕ) → string_end b at cs ≡ end_of at cs (inside b cs)
unfolding string_end
string_end_of b at cs = go (inside b cs) refl
  where
    go : (x : Inside) → inside b cs ≡ x → string_end b at cs ≡ end_of at cs (inside b cs)
    go (closed v n) e = rw (e, string_end)
    go unclosed e = rw (e, string_end)

end-put : (at v : ℕ) (cs : List ℕ) (x : Inside) → end_of at cs (put v x) ≡ end_of at cs x
unfolding put
end-put at v cs (closed w n) = refl
end-put at v cs unclosed = refl

end-pass : (i c : ℕ) (cs : List ℕ) (x : Inside) → end_of i (c ∷ cs) (pass x) ≡ end_of (i + size c) cs x
unfolding pass sizes
end-pass i c cs (closed w n) = ap Some (omega arith)
end-pass i c cs unclosed = refl

-- how a string goes on behind a character that is no line feed: not at all, with a backslash standing before, or plainly
pub inside_quote : (c : ℕ) (r : List ℕ) → c ≡ 0x22 → inside false (c ∷ r) ≡ closed [] 1
unfolding inside
inside_quote c r e = rw e

pub inside-slash : (c : ℕ) (r : List ℕ) → c ≡ 0x5C → inside false (c ∷ r) ≡ pass (inside true r)
unfolding inside
inside-slash c r e = rw e

pub inside-plain : (c : ℕ) (r : List ℕ) → (c ≡ 10 → ⊥) → (c ≡ 0x22 → ⊥) → (c ≡ 0x5C → ⊥) → inside false (c ∷ r) ≡ put c (pass (inside false r))
unfolding inside
inside-plain c r f g h = rw (ne_eqb c 0x22 g, inside) (rw (ne_eqb c 10 f, ne_eqb c 0x5C h))

end-escaped : (i e : ℕ) (r : List ℕ) → (e ≡ 10 → ⊥) → end_of i (e ∷ r) (inside true (e ∷ r)) ≡ end_of (i + size e) r (inside false r)
unfolding inside
end-escaped i e r f = go (escape e) refl
  where
    go : (o : Option ℕ) → escape e ≡ o → end_of i (e ∷ r) (inside true (e ∷ r)) ≡ end_of (i + size e) r (inside false r)
    go (Some v) q = rw (q, inside) (end-put i v (e ∷ r) (pass (inside false r)) ∙ end-pass i e r (inside false r))
    go None q =
        rw (q, inside)
        (rw (ne_eqb e 10 f)
        (end-put i 0x5C (e ∷ r) (put e (pass (inside false r))) ∙ end-put i e (e ∷ r) (pass (inside false r)) ∙ end-pass i e r (inside false r)))

end_feed : (b : Bool) (i c : ℕ) (r : List ℕ) → c ≡ 10 → end_of i (c ∷ r) (inside b (c ∷ r)) ≡ None
unfolding inside
end_feed true i c r e = rw e
end_feed false i c r e = rw e

-- behind a character that is no quote and no line feed, a backslash stands before the rest where it is one
end-plain : (i c : ℕ) (r : List ℕ) → (c ≡ 10 → ⊥) → (c ≡ 0x22 → ⊥) → end_of i (c ∷ r) (inside false (c ∷ r)) ≡ end_of (i + size c) r (inside (eqb c 0x5C) r)
end-plain i c r f g =
    by_test (eqb c 0x5C)
    (λ b. rw (b, inside-slash c r (eqb-true c 0x5C b)) (end-pass i c r (inside true r)))
    (λ b.
    rw (b, inside-plain c r f g (eqb-false c 0x5C b))
    (end-put i c (c ∷ r) (pass (inside false r)) ∙ end-pass i c r (inside false r)))

module _ (t : List ℕ) (at i : ℕ) (b : Bool) (r : Perhaps (ℕ × ℕ)) (s : r ≡ decoded_at i (front (drop i t))) (v : Perhaps ℕ) (inv : string_end b i (decode (drop i t)) ≡ v) where
  stopped : decode (drop i t) ≡ [] → None ≡ v
  unfolding inside
  stopped d = sym (string_end_of b i (decode (drop i t)) ∙ ap (λ (l : List ℕ). end_of i l (inside b l)) d ∙ nothing b) ∙ inv
    where
      nothing : (b : Bool) → end_of i [] (inside b []) ≡ None
      nothing true = refl
      nothing false = refl

  pub string_none : r ≡ None → None ≡ v
  string_none e = stopped (none_decode t i r s e)

  module _ (c n : ℕ) (e : r ≡ Some (c, n)) where
    seen : end_of i (c ∷ decode (drop n t)) (inside b (c ∷ decode (drop n t))) ≡ v
    seen = sym (string_end_of b i (decode (drop i t)) ∙ ap (λ (l : List ℕ). end_of i l (inside b l)) (char_decode t i r s c n e)) ∙ inv

    pub string_feed : c ≡ 10 → None ≡ v
    string_feed f = sym (end_feed b i c (decode (drop n t)) f) ∙ seen

    pub string_closed : b ≡ false → c ≡ 0x22 → Some n ≡ v
    unfolding sizes
    string_closed p q =
        let m = char_next t i r s c n e in
        let o : n ≡ i + (size c + 0) = omega arith in
        ap Some o ∙ sym (ap (λ (x : Bool). end_of i (c ∷ decode (drop n t)) (inside x (c ∷ decode (drop n t)))) p
        ∙ ap (end_of i (c ∷ decode (drop n t))) (inside_quote c (decode (drop n t)) q)) ∙ seen

    -- a string's end from the place i on is its end from the place n on
    moved : (x : Bool) → end_of (i + size c) (decode (drop n t)) (inside x (decode (drop n t))) ≡ v → string_end x n (decode (drop n t)) ≡ v
    moved x g = string_end_of x n (decode (drop n t)) ∙ ap (λ (m : ℕ). end_of m (decode (drop n t)) (inside x (decode (drop n t)))) (char_next t i r s c n e) ∙ g

    pub string-escaped : (c ≡ 10 → ⊥) → b ≡ true → string_end false n (decode (drop n t)) ≡ v
    string-escaped f p =
        moved false (sym (end-escaped i c (decode (drop n t)) f)
        ∙ sym (ap (λ (x : Bool). end_of i (c ∷ decode (drop n t)) (inside x (c ∷ decode (drop n t)))) p) ∙ seen)

    pub string-plain : (c ≡ 10 → ⊥) → b ≡ false → (c ≡ 0x22 → ⊥) → string_end (eqb c 0x5C) n (decode (drop n t)) ≡ v
    string-plain f p g =
        moved (eqb c 0x5C) (sym (end-plain i c (decode (drop n t)) f g)
        ∙ sym (ap (λ (x : Bool). end_of i (c ∷ decode (drop n t)) (inside x (c ∷ decode (drop n t)))) p) ∙ seen)

-- the characters above ASCII that are passed over at once: behind them a string ends where it ended before them
short_rest : (c m n : ℕ) (cs : List ℕ) (b : Bool) → is_short c ≡ b → m ≡ n + sizes (take_while is_short (c ∷ cs)) → m ≡ cond b (n + size c + sizes (take_while is_short cs)) n
unfolding sizes
short_rest c m n cs true e p =
    let l : take_while is_short (c ∷ cs) ≡ c ∷ take_while is_short cs = take_while-cons is_short c cs ∙ rw e refl in
    let q : sizes (take_while is_short (c ∷ cs)) ≡ size c + sizes (take_while is_short cs) = ap sizes l in
    omega arith
short_rest c m n cs false e p =
    let l : take_while is_short (c ∷ cs) ≡ [] = take_while-cons is_short c cs ∙ rw e refl in
    let q : sizes (take_while is_short (c ∷ cs)) ≡ 0 = ap sizes l in
    omega arith

behind_short : (t : List ℕ) (v : Perhaps ℕ) (cs : List ℕ) (n m : ℕ) → decode (drop n t) ≡ cs → m ≡ n + sizes (take_while is_short cs) → string_end false n cs ≡ v
    → string_end false m (decode (drop m t)) ≡ v
unfolding sizes
behind_short t v [] n m d p q = let z : m ≡ n = omega arith in rw (z, d) q
behind_short t v (c ∷ cs) n m d p q =
    by_test (is_short c)
    (λ e. let l = short_least c e in
    behind_short t v cs (n + size c) m (points_next t n c cs d) (short_rest c m n cs true e p)
    (string_end_of false (n + size c) cs
    ∙ ap (λ (x : Bool). end_of (n + size c) cs (inside x cs)) (sym (ne_eqb c 0x5C (λ z. omega arith)))
    ∙ sym (end-plain n c cs (λ z. omega arith) (λ z. omega arith))
    ∙ sym (string_end_of false n (c ∷ cs)) ∙ q))
    (λ e. let z : m ≡ n = short_rest c m n cs false e p in rw (z, d) q)

module _ (t : List ℕ) (at i : ℕ) (b : Bool) (r : Perhaps (ℕ × ℕ)) (s : r ≡ decoded_at i (front (drop i t))) (v : Perhaps ℕ) (inv : string_end b i (decode (drop i t)) ≡ v)
    (c n : ℕ) (e : r ≡ Some (c, n)) where
  pub string-slash : (c ≡ 10 → ⊥) → b ≡ false → (c ≡ 0x22 → ⊥) → c ≡ 0x5C → string_end true n (decode (drop n t)) ≡ v
  string-slash f p g k = ap (λ (x : Bool). string_end x n (decode (drop n t))) (sym (eq-eqb c 0x5C k)) ∙ string-plain t at i b r s v inv c n e f p g

  pub string_above : (c ≡ 10 → ⊥) → b ≡ false → (c ≡ 0x22 → ⊥) → (c ≡ 0x5C → ⊥) → (m : ℕ) → m ≡ n + sizes (take_while is_short (decode (drop n t)))
      → string_end b m (decode (drop m t)) ≡ v
  string_above f p g k m a =
      ap (λ (x : Bool). string_end x m (decode (drop m t))) p
      ∙ behind_short t v (decode (drop n t)) n m refl a (ap (λ (x : Bool). string_end x n (decode (drop n t))) (sym (ne_eqb c 0x5C k)) ∙ string-plain t at i b r s v inv c n e f p g)

pub above_falls : (t : List ℕ) (i : ℕ) (r : Perhaps (ℕ × ℕ)) → r ≡ decoded_at i (front (drop i t)) → (c n : ℕ) → r ≡ Some (c, n) → (m : ℕ)
    → m ≡ n + sizes (take_while is_short (decode (drop n t))) → length t - m < length t - i
above_falls t i r s c n e m a = omega (arith, char_falls t i r s c n e, a)

-- ---- by class
pub above_in : (c : ℕ) (k : Class) → k ≡ class_of c → 0x80 ≤ c → (k ≡ Letter) ⊎ (k ≡ Digit) → true ≡ is_word_continue c
above_in c k e l = ⊎_elim (λ (p : k ≡ Letter). continue_class_above c k Letter true e p l refl) (λ (p : k ≡ Digit). continue_class_above c k Digit true e p l refl)

pub above_out : (c : ℕ) (k : Class) → k ≡ class_of c → 0x80 ≤ c → (k ≡ Letter → ⊥) → (k ≡ Digit → ⊥) → false ≡ is_word_continue c
above_out c k e l f g = go k refl
  where
    go : (x : Class) → k ≡ x → false ≡ is_word_continue c
    go Letter p = absurd (f p)
    go Digit p = absurd (g p)
    go Space p = continue_class_above c k Space false e p l refl
    go Sign p = continue_class_above c k Sign false e p l refl
    go Other p = continue_class_above c k Other false e p l refl

digit_test : (x : Class) → sameb the_type x Digit ≡ is_digit x
digit_test Letter = refl
digit_test Digit = refl
digit_test Space = refl
digit_test Sign = refl
digit_test Other = refl

pub digit_same : (c : ℕ) (k : Class) → k ≡ class_of c → sameb the_type k Digit ≡ is_ascii_digit c
unfolding is_ascii_digit
digit_same c k e = ap (λ (y : Class). sameb the_type y Digit) e ∙ digit_test (class_of c)

pub space_same : (c : ℕ) (k : Class) → k ≡ class_of c → sameb the_type k Space ≡ is_whitespace c
space_same c k e = go k refl
  where
    go : (x : Class) → k ≡ x → sameb the_type k Space ≡ is_whitespace c
    go Space p = ap (λ (y : Class). sameb the_type y Space) p ∙ space_class c k Space true e p refl
    go Letter p = ap (λ (y : Class). sameb the_type y Space) p ∙ space_class c k Letter false e p refl
    go Digit p = ap (λ (y : Class). sameb the_type y Space) p ∙ space_class c k Digit false e p refl
    go Sign p = ap (λ (y : Class). sameb the_type y Space) p ∙ space_class c k Sign false e p refl
    go Other p = ap (λ (y : Class). sameb the_type y Space) p ∙ space_class c k Other false e p refl

-- ---- what closes the goals of the scans
pub ruleset runs = (char_falls, run_on, run_off, run_none)

pub ruleset lines = (char_falls, lined_feed, lined_none)

pub ruleset strings = (char_falls, above_falls, string_none, string_feed, string_closed, string-escaped, string-slash, string_above)
