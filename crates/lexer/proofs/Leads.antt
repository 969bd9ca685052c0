-- Tokens of one ASCII character: what the table and the byte behind the character say is what the definition says.
use mathlib.Core.Path.{◌≡◌, refl, sym, ap, subst, ◌∙◌}
use Prim.Native.Nat.{ℕ, zero, suc, ◌+◌, ◌%◌, ◌≤◌, ◌<◌, min}
use native.Mathlib.Omega.{arith}
use native.Mathlib.Nat.{add-zero}
use mathlib.Core.Bool.{Bool, true, false, cond, not, ◌||◌}
use mathlib.Core.List.{List, [], ◌∷◌}
use mathlib.Core.Logic.{⊎_elim, inl, inr}
use lib.Dec.{eqb, ltb, leb}
use lib.ListN.{length, get_or, drop}
use borrow.Author.Tests.{eq-eqb, ne_eqb, eqb-true, eqb-false, le-leb, ltb-true, lt-ltb}
use Rattle.chars.specs.Utf8.{size, sizes, decode}
use Rattle.chars.specs.Class.{class_of}
use Rattle.chars.specs.declared.Class.{Class}
use Rattle.chars.specs.declared.Class.TheVariants.{Letter, Digit, Space, Sign, Other}
use types.Run.{OneOf}
use Rattle.chars.proofs.Tests.{lt-or-ge}
use Rattle.chars.proofs.Segments.{all_of}
use Rattle.std.proofs.lemmas.Bool.{not-true}
use Rattle.chars.proofs.Laws.{decode-end}
use Rattle.chars.proofs.Blocks.{ascii_decode}
use Rattle.lexer.specs.Tokens.{sign, tok, is_digit, is_ascii_digit, is_word_continue, is_whitespace, run, word_step, number_step, step}
use Rattle.lexer.specs.Words.{sign_number, position, value_from, value}
use Rattle.lexer.specs.Keywords.{keyword_bytes}
use Rattle.lexer.specs.Places.{part, Found, Tok, piece_of, piece}
use Rattle.lexer.specs.Quick.{other_lead, lead_of, leads_from, leads, AsciiAt, EndsAt, WordAt, QuickAt, quick_value, quick_piece}
use Rattle.diag.proofs.Cases.{by_test_lem as by_test}
use Rattle.lexer.proofs.Scans.{run_true, run_false, run-nil, sizes-nil, digit_range}
use Rattle.lexer.proofs.Keywords.{all_below, all_below_lem}
use Rattle.lexer.proofs.Ascii.{agree, agree_eq}
use Rattle.lexer.proofs.Pieces.{word-one, word_long, number_token, step_class, step-word, step_sign, sign_token, piece_of_lem, from_feed, from_space}

-- ---- the table
leads_from_lem : (n c j : ℕ) → j < n → get_or (leads_from n c) j 0 ≡ lead_of (c + j)
unfolding leads_from
leads_from_lem zero c j h = absurd (omega arith)
leads_from_lem (suc n) c zero h = ap lead_of (sym (add-zero c))
leads_from_lem (suc n) c (suc j) h = let e : suc c + j ≡ c + suc j = omega arith in leads_from_lem n (suc c) j (omega arith) ∙ ap lead_of e

lead_at : (c : ℕ) → c < 128 → get_or leads c 0 ≡ lead_of c
unfolding leads
lead_at c h = let e : 0 + c ≡ c = omega arith in leads_from_lem 128 0 c h ∙ ap lead_of e

pub lead_found : (table : List ℕ) (c k : ℕ) → table ≡ leads → c < 0x80 → k ≡ get_or table c 0 → k ≡ lead_of c
lead_found table c k e h p = p ∙ ap (λ (s : List ℕ). get_or s c 0) e ∙ lead_at c h

-- a character that begins 3 or more continues no word, and one that does not begin 1 is no digit
stops : all_below (λ (c : ℕ). cond (leb 3 (lead_of c)) (not (is_word_continue c)) true) 128 ≡ true
unfolding lead_of is_word_continue
stops = refl

ends : all_below (λ (c : ℕ). cond (eqb (lead_of c) 1) true (not (is_ascii_digit c))) 128 ≡ true
unfolding lead_of is_ascii_digit
ends = refl

-- none begins 18 or more
leads_low : all_below (λ (c : ℕ). ltb (lead_of c) 18) 128 ≡ true
unfolding lead_of
leads_low = refl

pub stop_word : (c : ℕ) → c < 128 → 3 ≤ lead_of c → is_word_continue c ≡ false
stop_word c h l =
    not-true (is_word_continue c)
    (sym (ap (λ (b : Bool). cond b (not (is_word_continue c)) true) (le-leb 3 (lead_of c) l))
    ∙ all_below_lem (λ (x : ℕ). cond (leb 3 (lead_of x)) (not (is_word_continue x)) true) 128 stops c h)

pub stop_number : (c : ℕ) → c < 128 → (lead_of c ≡ 1 → ⊥) → is_ascii_digit c ≡ false
stop_number c h f =
    not-true (is_ascii_digit c)
    (sym (ap (λ (b : Bool). cond b true (not (is_ascii_digit c))) (ne_eqb (lead_of c) 1 f))
    ∙ all_below_lem (λ (x : ℕ). cond (eqb (lead_of x) 1) true (not (is_ascii_digit x))) 128 ends c h)

-- the leads of the characters that continue a word, and of white space
continue_right : all_below (λ (c : ℕ). agree (leb (lead_of c) 2) (is_word_continue c)) 128 ≡ true
unfolding lead_of is_word_continue
continue_right = refl

blank_right : all_below (λ (c : ℕ). agree (eqb (lead_of c) 13 || eqb (lead_of c) 16) (is_whitespace c)) 128 ≡ true
unfolding lead_of is_whitespace
blank_right = refl

digit_right : all_below (λ (c : ℕ). agree (eqb (lead_of c) 1) (is_ascii_digit c)) 128 ≡ true
unfolding lead_of is_ascii_digit
digit_right = refl

pub digit_above : (c : ℕ) → 0x80 ≤ c → is_ascii_digit c ≡ false
digit_above c h = not-true (is_ascii_digit c) (go (is_ascii_digit c) refl)
  where
    go : (b : Bool) → is_ascii_digit c ≡ b → not b ≡ true
    go true e = let r = digit_range c e in absurd (omega (arith, r.1))
    go false e = refl

neither : (a b : Bool) → a ≡ false → b ≡ false → (a || b) ≡ false
neither false false e f = refl
neither false true e f = cc
neither true b e f = cc

module _ (c k : ℕ) (h : c < 128) (e : k ≡ lead_of c) where
  pub continue_lead : leb k 2 ≡ is_word_continue c
  continue_lead =
      ap (λ (x : ℕ). leb x 2) e
      ∙ agree_eq (leb (lead_of c) 2) (is_word_continue c) (all_below_lem (λ (x : ℕ). agree (leb (lead_of x) 2) (is_word_continue x)) 128 continue_right c h)

  pub digit_lead : eqb k 1 ≡ is_ascii_digit c
  digit_lead =
      ap (λ (x : ℕ). eqb x 1) e
      ∙ agree_eq (eqb (lead_of c) 1) (is_ascii_digit c) (all_below_lem (λ (x : ℕ). agree (eqb (lead_of x) 1) (is_ascii_digit x)) 128 digit_right c h)

  blank_lead : (eqb k 13 || eqb k 16) ≡ is_whitespace c
  blank_lead =
      ap (λ (x : ℕ). eqb x 13 || eqb x 16) e
      ∙ agree_eq (eqb (lead_of c) 13 || eqb (lead_of c) 16) (is_whitespace c)
      (all_below_lem (λ (x : ℕ). agree (eqb (lead_of x) 13 || eqb (lead_of x) 16) (is_whitespace x)) 128 blank_right c h)

  pub blank_in : OneOf (13 ∷ 16 ∷ []) k → true ≡ is_whitespace c
  blank_in p = sym (all_of (λ (x : ℕ). (eqb x 13 || eqb x 16) ≡ true) (13 ∷ 16 ∷ []) (refl, (refl, tt)) k p) ∙ blank_lead

  pub blank_out : (OneOf (13 ∷ 16 ∷ []) k → ⊥) → false ≡ is_whitespace c
  blank_out f = sym (neither (eqb k 13) (eqb k 16) (ne_eqb k 13 (λ e. f (inl e))) (ne_eqb k 16 (λ e. f (inr e)))) ∙ blank_lead

-- ---- what a character begins, by its lead
sign_range : (c : ℕ) → (4 ≤ sign_number c) × (sign_number c ≤ 11)
unfolding sign_number
sign_range c =
    by_test (eqb c 0x28) (λ e. rw e (omega arith, omega arith)) λ e0.
    by_test (eqb c 0x29) (λ e. rw (e0, e) (omega arith, omega arith)) λ e1.
    by_test (eqb c 0x7B) (λ e. rw (e0, e1, e) (omega arith, omega arith)) λ e2.
    by_test (eqb c 0x7D) (λ e. rw (e0, e1, e2, e) (omega arith, omega arith)) λ e3.
    by_test (eqb c 0x2C) (λ e. rw (e0, e1, e2, e3, e) (omega arith, omega arith)) λ e4.
    by_test (eqb c 0x3D) (λ e. rw (e0, e1, e2, e3, e4, e) (omega arith, omega arith)) λ e5.
    by_test (eqb c 0x2A) (λ e. rw (e0, e1, e2, e3, e4, e5, e) (omega arith, omega arith)) λ e6.
    rw (e0, e1, e2, e3, e4, e5, e6) (omega arith, omega arith)

abbrev by_class_lead : Class → ℕ → ℕ
by_class_lead Letter c = 0
by_class_lead Digit c = 1
by_class_lead Space c = 16
by_class_lead Sign c = sign_number c
by_class_lead Other c = other_lead c

lead_feed : (c : ℕ) → eqb c 10 ≡ true → lead_of c ≡ 13
unfolding lead_of
lead_feed c e = rw e

lead_class : (c : ℕ) → eqb c 10 ≡ false → (x : Class) → class_of c ≡ x → lead_of c ≡ by_class_lead x c
unfolding lead_of
lead_class c f Letter e = rw f (rw e)
lead_class c f Digit e = rw f (rw e)
lead_class c f Space e = rw f (rw e)
lead_class c f Sign e = rw f (rw e)
lead_class c f Other e = rw f (rw e)

other_lead_lem : (c : ℕ) → eqb c 0x5F ≡ false → eqb c 0x27 ≡ false → eqb c 0x22 ≡ false → eqb c 0x2F ≡ false → other_lead c ≡ sign_number c
unfolding other_lead
other_lead_lem c e f g h = rw (e, f, g, h)

-- a sign's piece
quick_sign : (o k c : ℕ) → 4 ≤ k → k ≤ 11 → quick_piece o k c ≡ Tok k (o + 1) c (o + 1)
unfolding quick_piece
quick_sign o k c l u = rw (ne_eqb k 16 (λ (e : k ≡ 16). omega arith), ne_eqb k 1 (λ (e : k ≡ 1). omega arith), ne_eqb k 13 (λ (e : k ≡ 13). omega arith))

size_ascii : (c : ℕ) → c < 0x80 → size c ≡ 1
unfolding size
size_ascii c l = rw (lt-ltb c 0x80 l)

module _ (t : List ℕ) (at c : ℕ) (m : at + 1 ≡ at + size c) where
  sign_piece : (x : Class) → class_of c ≡ x → (c ≡ 10 → ⊥) → step c (decode (drop (at + 1) t)) ≡ tok (sign c) (size c) 0 0 0
      → quick_piece at (sign_number c) c ≡ piece_of at (at + 1) (decode (drop (at + 1) t)) (step c (decode (drop (at + 1) t)))
  sign_piece x e f s =
      let r : List ℕ = decode (drop (at + 1) t) in
      let w = sign_range c in
      quick_sign at (sign_number c) c w.0 w.1 ∙ piece_of_lem at (at + 1) r _ _ _ s (sign_token at c (at + 1) (sign_number c) r m refl)

  class_piece : (x : Class) → class_of c ≡ x → (c ≡ 10 → ⊥) → 3 ≤ by_class_lead x c → by_class_lead x c < 17
      → quick_piece at (by_class_lead x c) c ≡ piece_of at (at + 1) (decode (drop (at + 1) t)) (step c (decode (drop (at + 1) t)))
  unfolding other_lead quick_piece
  class_piece Letter e f l u = absurd (omega arith)
  class_piece Digit e f l u = absurd (omega arith)
  class_piece Space e f l u = from_space t at c (at + 1) m f (class_of c) refl e
  class_piece Sign e f l u = sign_piece Sign e f (step_class c (decode (drop (at + 1) t)) f Sign e)
  class_piece Other e f l u =
      by_test (eqb c 0x5F) (λ p. let g : 3 ≤ 0 = rw p at l in absurd (omega arith)) λ p.
      by_test (eqb c 0x27) (λ q. let g : 3 ≤ 2 = rw (p, q) at l in absurd (omega arith)) λ q.
      by_test (eqb c 0x22) (λ w. let g : 17 < 17 = rw (p, q, w) at u in absurd (omega arith)) λ w.
      by_test (eqb c 0x2F) (λ z. let g : 17 < 17 = rw (p, q, w, z) at u in absurd (omega arith)) λ z.
      subst (λ (k : ℕ). quick_piece at k c ≡ piece_of at (at + 1) (decode (drop (at + 1) t)) (step c (decode (drop (at + 1) t)))) (sym (other_lead_lem c p q w z))
      (sign_piece Other e f
      (step_class c (decode (drop (at + 1) t)) f Other e
      ∙ step_sign c (decode (drop (at + 1) t)) (eqb-false c 0x5F p) (eqb-false c 0x22 w) (eqb-false c 0x27 q) (eqb-false c 0x2F z)))

  feed_piece : eqb c 10 ≡ true → quick_piece at 13 c ≡ piece_of at (at + 1) (decode (drop (at + 1) t)) (step c (decode (drop (at + 1) t)))
  unfolding quick_piece
  feed_piece p = from_feed t at c (at + 1) m (eqb-true c 10 p)

  lead-piece : (k : ℕ) → k ≡ lead_of c → 3 ≤ k → k < 17 → quick_piece at k c ≡ piece_of at (at + 1) (decode (drop (at + 1) t)) (step c (decode (drop (at + 1) t)))
  lead-piece k e l u =
      by_test (eqb c 10)
      (λ p. subst (λ (j : ℕ). quick_piece at j c ≡ piece_of at (at + 1) (decode (drop (at + 1) t)) (step c (decode (drop (at + 1) t)))) (sym (e ∙ lead_feed c p)) (feed_piece p))
      (λ p.
      let g : k ≡ by_class_lead (class_of c) c = e ∙ lead_class c p (class_of c) refl in
      subst (λ (j : ℕ). quick_piece at j c ≡ piece_of at (at + 1) (decode (drop (at + 1) t)) (step c (decode (drop (at + 1) t)))) (sym g)
      (class_piece (class_of c) refl (eqb-false c 10 p) (omega arith) (omega arith)))

-- a character that begins a word or a number
word-lead : (c : ℕ) (r : List ℕ) → lead_of c ≡ 0 → step c r ≡ word_step c r
unfolding other_lead
word-lead c r e =
    by_test (eqb c 10) (λ p. let g : ◌≡◌ {A = ℕ} 13 0 = sym (lead_feed c p) ∙ e in absurd (omega arith)) (λ p. go p (class_of c) refl)
  where
    go : eqb c 10 ≡ false → (x : Class) → class_of c ≡ x → step c r ≡ word_step c r
    go p Letter q = step_class c r (eqb-false c 10 p) Letter q
    go p Digit q = let g : ◌≡◌ {A = ℕ} 1 0 = sym (lead_class c p Digit q) ∙ e in absurd (omega arith)
    go p Space q = let g : ◌≡◌ {A = ℕ} 16 0 = sym (lead_class c p Space q) ∙ e in absurd (omega arith)
    go p Sign q = let g : sign_number c ≡ 0 = sym (lead_class c p Sign q) ∙ e in absurd (omega (arith, sign_range c))
    go p Other q =
        let g : other_lead c ≡ 0 = sym (lead_class c p Other q) ∙ e in
        by_test (eqb c 0x5F) (λ z. step_class c r (eqb-false c 10 p) Other q ∙ step-word c r (eqb-true c 0x5F z)) λ z0.
        by_test (eqb c 0x27) (λ z. let k : ◌≡◌ {A = ℕ} 2 0 = rw (z0, z) at g in absurd (omega arith)) λ z1.
        by_test (eqb c 0x22) (λ z. let k : ◌≡◌ {A = ℕ} 17 0 = rw (z0, z1, z) at g in absurd (omega arith)) λ z2.
        by_test (eqb c 0x2F) (λ z. let k : ◌≡◌ {A = ℕ} 17 0 = rw (z0, z1, z2, z) at g in absurd (omega arith)) λ z3.
        absurd (omega (arith, sign_range c, other_lead_lem c z0 z1 z2 z3))

number-lead : (c : ℕ) (r : List ℕ) → lead_of c ≡ 1 → (step c r ≡ number_step c r) × (is_ascii_digit c ≡ true)
unfolding other_lead is_ascii_digit
number-lead c r e =
    by_test (eqb c 10) (λ p. let g : ◌≡◌ {A = ℕ} 13 1 = sym (lead_feed c p) ∙ e in absurd (omega arith)) (λ p. go p (class_of c) refl)
  where
    go : eqb c 10 ≡ false → (x : Class) → class_of c ≡ x → (step c r ≡ number_step c r) × (is_ascii_digit c ≡ true)
    go p Letter q = let g : ◌≡◌ {A = ℕ} 0 1 = sym (lead_class c p Letter q) ∙ e in absurd (omega arith)
    go p Digit q = (step_class c r (eqb-false c 10 p) Digit q, ap is_digit q)
    go p Space q = let g : ◌≡◌ {A = ℕ} 16 1 = sym (lead_class c p Space q) ∙ e in absurd (omega arith)
    go p Sign q = let g : sign_number c ≡ 1 = sym (lead_class c p Sign q) ∙ e in absurd (omega (arith, sign_range c))
    go p Other q =
        let g : other_lead c ≡ 1 = sym (lead_class c p Other q) ∙ e in
        by_test (eqb c 0x5F) (λ z. let k : ◌≡◌ {A = ℕ} 0 1 = rw z at g in absurd (omega arith)) λ z0.
        by_test (eqb c 0x27) (λ z. let k : ◌≡◌ {A = ℕ} 2 1 = rw (z0, z) at g in absurd (omega arith)) λ z1.
        by_test (eqb c 0x22) (λ z. let k : ◌≡◌ {A = ℕ} 17 1 = rw (z0, z1, z) at g in absurd (omega arith)) λ z2.
        by_test (eqb c 0x2F) (λ z. let k : ◌≡◌ {A = ℕ} 17 1 = rw (z0, z1, z2, z) at g in absurd (omega arith)) λ z3.
        absurd (omega (arith, sign_range c, other_lead_lem c z0 z1 z2 z3))

digit_value : (c : ℕ) → 0x30 ≤ c → c ≤ 0x39 → c % 16 ≡ min (value (c ∷ [])) 256
unfolding value value_from
digit_value c l u = omega arith

-- ---- `ends_at`
-- the lead of the byte b
pub ascii_at : (t : List ℕ) (at b x k : ℕ) → at < length t → b ≡ get_or t at 0 → b < 0x80 → x ≡ b → k ≡ lead_of x → AsciiAt t at k
ascii_at t at b x k h e l f g = record { inside = h; ascii = subst (λ (y : ℕ). y < 0x80) e l; lead = g ∙ ap lead_of (f ∙ e) }

-- where the text ends, or an ASCII character stands at whose lead no character of a token stands, the token's characters end
pub run_ends : (f : ℕ → Bool) (P : ℕ → Type 0) (t : List ℕ) (at : ℕ) → EndsAt P t at → ((c : ℕ) → c < 0x80 → P (lead_of c) → f c ≡ false) → run f (decode (drop at t)) ≡ []
run_ends f P t at e stop =
    ⊎_elim
    (λ (h : at < length t). ap (run f) (ascii_decode t at h (e.ascii h)) ∙ run_false f (get_or t at 0) (decode (drop (at + 1) t)) (stop (get_or t at 0) (e.ascii h) (e.lead h)))
    (λ (h : length t ≤ at). ap (run f) (decode-end t at h) ∙ run-nil f)
    (lt-or-ge at (length t))

-- what stands at a place where there is an ASCII character
module _ (t : List ℕ) (at : ℕ) (h : at < length t) (ascii : get_or t at 0 < 0x80) where
  ascii_next : at + 1 ≡ at + size (get_or t at 0)
  ascii_next = omega (arith, size_ascii (get_or t at 0) ascii)

  ascii_seen : (y : Found) → y ≡ piece_of at (at + 1) (decode (drop (at + 1) t)) (step (get_or t at 0) (decode (drop (at + 1) t))) → y ≡ piece at (decode (drop at t))
  unfolding piece
  ascii_seen y p =
      p ∙ ap (λ (j : ℕ). piece_of at j (decode (drop (at + 1) t)) (step (get_or t at 0) (decode (drop (at + 1) t)))) ascii_next
      ∙ sym (ap (piece at) (ascii_decode t at h ascii))

-- ---- `word_value`
module _ (t : List ℕ) (at end : ℕ) (w : WordAt t at) (g : end ≡ at + 1 + sizes (run is_word_continue (decode (drop (at + 1) t)))) where
  word-seen : (y : Found) → y ≡ piece_of at (at + 1) (decode (drop (at + 1) t)) (word_step (get_or t at 0) (decode (drop (at + 1) t))) → y ≡ piece at (decode (drop at t))
  word-seen y p =
      let r : List ℕ = decode (drop (at + 1) t) in
      ascii_seen t at w.inside w.ascii y (piece_of_lem at (at + 1) r _ _ _ (word-lead (get_or t at 0) r w.lead) p)

  pub value-one : (c : ℕ) → c ≡ get_or t at 0 → end ≡ at + 1 → Tok 0 end c end ≡ piece at (decode (drop at t))
  value-one c e q =
      ap (λ (x : ℕ). Tok 0 end x end) e
      ∙ word-seen (Tok 0 end (get_or t at 0) end)
      (word-one t at (get_or t at 0) (at + 1) end (ascii_next t at w.inside w.ascii) (ascii_decode t at w.inside w.ascii) (omega (arith, w.inside)) g q)

  pub value_long : (name : List ℕ) (k : ℕ) → (end ≡ at + 1 → ⊥) → name ≡ part t at end → k ≡ position 1 keyword_bytes name → Tok 0 end (0x110000 + k) end ≡ piece at (decode (drop at t))
  value_long name k f p q =
      word-seen (Tok 0 end (0x110000 + k) end)
      (word_long t at (get_or t at 0) (at + 1) end (ascii_next t at w.inside w.ascii) (ascii_decode t at w.inside w.ascii) (omega (arith, w.inside)) g name k f p q)

-- ---- `lead_at`
module _ (t : List ℕ) (at k : ℕ) (a : AsciiAt t at k) where
  next : at + 1 ≡ at + size (get_or t at 0)
  next = ascii_next t at a.inside a.ascii

  seen : (y : Found) → y ≡ piece_of at (at + 1) (decode (drop (at + 1) t)) (step (get_or t at 0) (decode (drop (at + 1) t))) → y ≡ piece at (decode (drop at t))
  seen = ascii_seen t at a.inside a.ascii

  pub no_word : k ≡ 18 → WordAt t at
  no_word p = absurd (omega (arith, a.lead, ltb-true (lead_of (get_or t at 0)) 18 (all_below_lem (λ (c : ℕ). ltb (lead_of c) 18) 128 leads_low (get_or t at 0) a.ascii)))

  at_once : quick_piece at k (get_or t at 0) ≡ piece at (decode (drop at t)) → QuickAt t at k
  at_once p = record { inside = a.inside; seen = p }

  pub quick_lead : 3 ≤ k → k < 17 → QuickAt t at k
  quick_lead m n = at_once (seen (quick_piece at k (get_or t at 0)) (lead-piece t at (get_or t at 0) next k a.lead m n))

  pub quick_word : k ≡ 0 → run is_word_continue (decode (drop (at + 1) t)) ≡ [] → QuickAt t at k
  unfolding quick_piece
  quick_word p f =
      let r : List ℕ = decode (drop (at + 1) t) in
      let o : at + 1 ≡ at + 1 + sizes (run is_word_continue r) = omega (arith, ap sizes f, sizes-nil) in
      at_once
      (ap (λ (j : ℕ). quick_piece at j (get_or t at 0)) p
      ∙ seen (Tok 0 (at + 1) (get_or t at 0) (at + 1))
      (piece_of_lem at (at + 1) r _ _ _ (word-lead (get_or t at 0) r (sym a.lead ∙ p))
      (word-one t at (get_or t at 0) (at + 1) (at + 1) next (ascii_decode t at a.inside a.ascii) (omega arith) o refl)))

  pub quick_number : k ≡ 1 → run is_ascii_digit (decode (drop (at + 1) t)) ≡ [] → QuickAt t at k
  unfolding quick_piece
  quick_number p f =
      let c : ℕ = get_or t at 0 in
      let r : List ℕ = decode (drop (at + 1) t) in
      let w = number-lead c r (sym a.lead ∙ p) in
      let u = digit_range c w.1 in
      let o : at + 1 ≡ at + 1 + sizes (run is_ascii_digit r) = omega (arith, ap sizes f, sizes-nil) in
      let v : run is_ascii_digit (decode (drop at t)) ≡ c ∷ [] =
      ap (run is_ascii_digit) (ascii_decode t at a.inside a.ascii) ∙ run_true is_ascii_digit c r w.1 ∙ ap (λ (s : List ℕ). c ∷ s) f in
      at_once
      (ap (λ (j : ℕ). quick_piece at j c) p
      ∙ seen (Tok 1 (at + 1) (c % 16) (at + 1))
      (piece_of_lem at (at + 1) r _ _ _ w.0
      (number_token t at c (at + 1) (at + 1) (c % 16) next (ascii_decode t at a.inside a.ascii) w.1 o
      (digit_value c u.0 u.1 ∙ ap (λ (s : List ℕ). min (value s) 256) (sym v)))))

-- ---- `value_of`
module _ (k b c : ℕ) (e : c ≡ b) where
  pub value_digit : k ≡ 1 → c % 16 ≡ quick_value k b
  unfolding quick_value
  value_digit p = rw (eq-eqb k 1 p, e)

  pub value_none : (k ≡ 1 → ⊥) → k ≡ 13 → 0 ≡ quick_value k b
  unfolding quick_value
  value_none f p = rw (ne_eqb k 1 f, eq-eqb k 13 p)

  pub value-code : (k ≡ 1 → ⊥) → (k ≡ 13 → ⊥) → c ≡ quick_value k b
  unfolding quick_value
  value-code f g = rw (ne_eqb k 1 f, ne_eqb k 13 g, e)

-- the value of a word of one character, and of a longer one
pub ruleset values = (value-one, value_long)

-- the value of a token of one ASCII character
pub ruleset quick_values = (value_digit, value_none, value-code)
