-- Eight bytes at once: what the definitions say of a line and of a string behind them is what they say before them.
use mathlib.Core.Path.{◌≡◌, refl, sym, ap, subst, ◌∙◌}
use Prim.Native.Nat.{ℕ, ◌+◌, ◌-◌, ◌*◌, ◌/◌, ◌≤◌, ◌<◌}
use native.Mathlib.Omega.{arith}
use mathlib.Core.Bool.{Bool, true, false, ◌&&◌, not}
use mathlib.Core.List.{List, []}
use lib.Dec.{leb, ltb, eqb}
use lib.ListN.{length, get_or, take, drop, length-take}
use borrow.Author.Tests.{leb-true, ltb-true, eqb-false}
use Rattle.chars.specs.Utf8.{front, decode}
use Rattle.chars.specs.Decoded.{decoded_at}
use Rattle.std.specs.Prelude.{Option as Perhaps, Some, None, unwrap_or}
use Rattle.std.specs.Bool.{⊤}
use Rattle.std.specs.List.{AllWithin, HoldsAt}
use Rattle.std.specs.Option.{MatchOption}
use Rattle.std.specs.Simd.{first_chunks}
use Rattle.chars.proofs.Tests.{and_both}
use Rattle.std.proofs.lemmas.Bool.{not-true}
use Rattle.chars.proofs.Front.{char_at_ascii, rest_bytes}
use Rattle.chars.proofs.Blocks.{many, block_byte, in_blocks}
use Rattle.lexer.specs.Tokens.{is_whitespace}
use Rattle.lexer.specs.Places.{string_end}
use Rattle.lexer.specs.Blocks.{plain_byte, inner_byte, LineBlock}
use Rattle.diag.proofs.Cases.{by_test_lem as by_test}
use Rattle.lexer.proofs.Scans.{Lined, lined_start, lined_white, lined_other, string-plain}
use Rattle.lexer.proofs.Ascii.{blank_dark}

-- ---- the bytes
plain-range : (b : ℕ) → plain_byte b ≡ true → (0x20 ≤ b) × (b < 0x80)
unfolding plain_byte
plain-range b e = let w = and_both (leb 0x20 b) (ltb b 0x80) e in (leb-true 0x20 b w.0, ltb-true b 0x80 w.1)

inner_range : (b : ℕ) → inner_byte b ≡ true → (0x20 ≤ b) × (b < 0x80) × (eqb b 0x22 ≡ false) × (eqb b 0x5C ≡ false)
unfolding inner_byte
inner_range b e =
    let w = and_both (plain_byte b && not (eqb b 0x22)) (not (eqb b 0x5C)) e in
    let u = and_both (plain_byte b) (not (eqb b 0x22)) w.0 in
    let v = plain-range b u.0 in
    (v.0, v.1, not-true (eqb b 0x22) u.1, not-true (eqb b 0x5C) w.1)

-- ---- a line
module _ (t : List ℕ) (at i : ℕ) (h : i < length t) (p : plain_byte (get_or t i 0) ≡ true) (last : ℕ) (st : Lined t at i last) where
  here : Some (get_or t i 0, i + 1) ≡ decoded_at i (front (drop i t))
  here = char_at_ascii t i (get_or t i 0) h refl (plain-range (get_or t i 0) p).1

  no_feed : get_or t i 0 ≡ 10 → ⊥
  no_feed e = omega (arith, plain-range (get_or t i 0) p)

  line_dark : (get_or t i 0 ≡ 0x20 → ⊥) → Lined t at (i + 1) (i + 1)
  line_dark f =
      let w = plain-range (get_or t i 0) p in
      lined_other t at i last (Some (get_or t i 0, i + 1)) here st (get_or t i 0) (i + 1) refl no_feed false (sym (blank_dark (get_or t i 0) w.0 w.1 f)) refl

  line-any : (n : ℕ) × Lined t at (i + 1) n
  line-any =
      by_test (is_whitespace (get_or t i 0))
      (λ e. (last, lined_white t at i last (Some (get_or t i 0, i + 1)) here st (get_or t i 0) (i + 1) refl no_feed true (sym e) refl))
      (λ e. (i + 1, lined_other t at i last (Some (get_or t i 0, i + 1)) here st (get_or t i 0) (i + 1) refl no_feed false (sym e) refl))

  line_blank : get_or t i 0 ≡ 0x20 → Lined t at (i + 1) last
  unfolding is_whitespace
  line_blank e =
      lined_white t at i last (Some (get_or t i 0, i + 1)) here st (get_or t i 0) (i + 1) refl no_feed true (sym (ap is_whitespace e)) refl

-- plain bytes up to a place: the line goes on there, and ends without white space behind the last that is no space
module _ (t : List ℕ) (at : ℕ) (k : ℕ) (h : at + k ≤ length t) (each : (j : ℕ) → j < k → plain_byte (get_or t (at + j) 0) ≡ true) where
  line-upto : (m : ℕ) → m ≤ k → (n : ℕ) × Lined t at (at + m) n
  line-upto m l =
      many t (λ (j : ℕ). (n : ℕ) × Lined t at j n) (λ (x : ℕ). plain_byte x ≡ true) (λ j g q s. line-any t at j g q s.0 s.1) m at (omega arith)
      (λ (j : ℕ) (g : j < m). each j (omega arith)) (at, lined_start t at)

  line-end : (m : ℕ) → m + 1 ≡ k → (get_or t (at + m) 0 ≡ 0x20 → ⊥) → Lined t at (at + k) (at + k)
  line-end m o f =
      let s = line-upto m (omega arith) in
      let z : at + m + 1 ≡ at + k = omega arith in
      let w : Lined t at (at + m + 1) (at + m + 1) = line_dark t at (at + m) (omega arith) (each m (omega arith)) s.0 s.1 f in
      rw z at w

module _ (t : List ℕ) (at : ℕ) (k : ℕ) (h : at + k ≤ length t) (each : (j : ℕ) → j < k → plain_byte (get_or t (at + j) 0) ≡ true) where
  line-blank : (m : ℕ) → m + 2 ≡ k → (get_or t (at + m) 0 ≡ 0x20 → ⊥) → get_or t (at + (m + 1)) 0 ≡ 0x20 → Lined t at (at + k) (at + (m + 1))
  line-blank m o f g =
      let z : at + (m + 1) + 1 ≡ at + k = omega arith in
      let u : Lined t at (at + (m + 1)) (at + (m + 1)) = line-end t at (m + 1) (omega arith) (λ j l. each j (omega arith)) m refl f in
      let w : Lined t at (at + (m + 1) + 1) (at + (m + 1)) = line_blank t at (at + (m + 1)) (omega arith) (each (m + 1) (omega arith)) (at + (m + 1)) u g in
      rw z at w

-- what is known of the place behind the blocks passed
pub record Parted (t : List ℕ) (at end : ℕ) : Type 0 where
  pub from : end ≤ at → Lined t at end end
  pub dark : at < end → (get_or t (end - 1) 0 ≡ 0x20 → ⊥) → Lined t at end end
  pub blank : at < end → get_or t (end - 1) 0 ≡ 0x20 → Lined t at end (end - 1)

module _ (t : List ℕ) (at : ℕ) (h : at ≤ length t) (blocks : List (List ℕ)) (e : blocks ≡ first_chunks 8 (length (take (length t - at) (drop at t)) / 8) (take (length t - at) (drop at t)))
    (long : length blocks ≡ length (take (length t - at) (drop at t)) / 8) where
  line-front : (n : ℕ) → n ≤ length blocks → AllWithin LineBlock blocks 0 n → Parted t at (at + 8 * n)
  line-front n g f =
      let xs : List ℕ = take (length t - at) (drop at t) in
      let size = length-take (length t - at) (drop at t) in
      let all : AllWithin LineBlock (first_chunks 8 (length xs / 8) xs) 0 n = subst (λ (bs : List (List ℕ)). AllWithin LineBlock bs 0 n) e f in
      let plains = in_blocks (λ (x : ℕ). plain_byte x ≡ true) xs (length xs / 8) n (omega arith) (λ j b m l. (all j [] (omega arith) m).plain b l) in
      let each = λ (j : ℕ) (l : j < 8 * n). subst (λ (x : ℕ). plain_byte x ≡ true) (rest_bytes t at h j) (plains j l) in
      let byte = λ (j b : ℕ) (l : j < n) (m : b < 8). block_byte xs (length xs / 8) j b [] (omega arith) m ∙ rest_bytes t at h (8 * j + b) in
      record {
        from = λ l. let z : at ≡ at + 8 * n = omega arith in subst (λ (x : ℕ). Lined t at x x) z (lined_start t at);
        dark = λ l d.
            let z : at + (8 * n - 1) ≡ at + 8 * n - 1 = omega arith in
            line-end t at (8 * n) (omega (arith, size)) each (8 * n - 1) (omega arith) (λ y. d (ap (λ (x : ℕ). get_or t x 0) (sym z) ∙ y));
        blank = λ l b.
            let z : at + (8 * n - 2 + 1) ≡ at + 8 * n - 1 = omega arith in
            let last : 8 * (n - 1) + 7 ≡ 8 * n - 2 + 1 = omega arith in
            let other : 8 * (n - 1) + 6 ≡ 8 * n - 2 = omega arith in
            let seven = ap (λ (x : ℕ). get_or t x 0) z ∙ b in
            let w : Lined t at (at + 8 * n) (at + (8 * n - 2 + 1)) = line-blank t at (8 * n) (omega (arith, size)) each (8 * n - 2) (omega arith)
            (λ y. (all (n - 1) [] (omega arith) (omega arith)).dark
            (byte (n - 1) 7 (omega arith) (omega arith) ∙ ap (λ (x : ℕ). get_or t (at + x) 0) last ∙ seven)
            (byte (n - 1) 6 (omega arith) (omega arith) ∙ ap (λ (x : ℕ). get_or t (at + x) 0) other ∙ y)) seven in
            rw z at w;
      }

  pub line-blocks : (r : Perhaps ℕ) → MatchOption r (AllWithin LineBlock blocks 0 (length blocks)) (λ n. (n < length blocks) × HoldsAt (λ _. ⊤) blocks n × AllWithin LineBlock blocks 0 n)
      → Parted t at (at + 8 * unwrap_or r (length blocks))
  line-blocks None f = line-front (length blocks) (omega arith) f
  line-blocks (Some n) w = line-front n (omega (arith, w.0)) w.2

-- ---- a string
-- each of eight bytes stands for itself
abbrev pub AllInner : List ℕ → Type 0
AllInner b = (j : ℕ) → j < 8 → inner_byte (get_or b j 0) ≡ true

string_inner : (t : List ℕ) (i : ℕ) (v : Perhaps ℕ) → i < length t → inner_byte (get_or t i 0) ≡ true → string_end false i (decode (drop i t)) ≡ v → string_end false (i + 1) (decode (drop (i + 1) t)) ≡ v
string_inner t i v h p q =
    let c : ℕ = get_or t i 0 in
    let w = inner_range c p in
    sym (ap (λ (b : Bool). string_end b (i + 1) (decode (drop (i + 1) t))) w.3)
    ∙ string-plain t 0 i false (Some (c, i + 1)) (char_at_ascii t i c h refl w.1) v q c (i + 1) refl (λ (z : c ≡ 10). omega arith) refl (eqb-false c 0x22 w.2)

-- the blocks of such bytes at a place, as many as there are
module _ (t : List ℕ) (at : ℕ) (v : Perhaps ℕ) (h : at ≤ length t) (blocks : List (List ℕ)) (e : blocks ≡ first_chunks 8 (length (take (length t - at) (drop at t)) / 8) (take (length t - at) (drop at t)))
    (long : length blocks ≡ length (take (length t - at) (drop at t)) / 8) (p : string_end false at (decode (drop at t)) ≡ v) where
  string-front : (n : ℕ) → n ≤ length blocks → AllWithin AllInner blocks 0 n → string_end false (at + 8 * n) (decode (drop (at + 8 * n) t)) ≡ v
  string-front n g f =
      let xs : List ℕ = take (length t - at) (drop at t) in
      let all : AllWithin AllInner (first_chunks 8 (length xs / 8) xs) 0 n = subst (λ (bs : List (List ℕ)). AllWithin AllInner bs 0 n) e f in
      let each = in_blocks (λ (x : ℕ). inner_byte x ≡ true) xs (length xs / 8) n (omega arith) (λ j b m l. all j [] (omega arith) m b l) in
      many t (λ (j : ℕ). string_end false j (decode (drop j t)) ≡ v) (λ (x : ℕ). inner_byte x ≡ true) (λ j l r s. string_inner t j v l r s) (8 * n) at
      (omega (arith, length-take (length t - at) (drop at t))) (λ j l. subst (λ (x : ℕ). inner_byte x ≡ true) (rest_bytes t at h j) (each j l)) p

  pub string-blocks : (r : Perhaps ℕ) → MatchOption r (AllWithin AllInner blocks 0 (length blocks)) (λ n. (n < length blocks) × HoldsAt (λ _. ⊤) blocks n × AllWithin AllInner blocks 0 n)
      → string_end false (at + 8 * unwrap_or r (length blocks)) (decode (drop (at + 8 * unwrap_or r (length blocks)) t)) ≡ v
  string-blocks None f = string-front (length blocks) (omega arith) f
  string-blocks (Some n) w = string-front n (omega (arith, w.0)) w.2
