-- What storing does: words after words, words past the room, and what is still to be stored.
use mathlib.Core.Path.{◌≡◌, refl, sym, ap, ap₂, ◌∙◌}
use Prim.Native.Nat.{ℕ, suc, ◌+◌, ◌-◌, ◌≤◌, ◌<◌, min}
use native.Mathlib.Omega.{arith}
use mathlib.Core.List.{List, [], ◌∷◌, ◌++◌, append_assoc}
use lib.ListN.{length, get_or, take, drop, set, drop_of_length-le}
use borrow.Rule.Slice.PartMut.{put_mid, Post-is}
use native.Mathlib.Numerals.{add-one}
use lib.Seq.{sets, sets-eq, set_out, drop-cons}
use Rattle.sheet.specs.declared.put.Sheet.{Sheet}
use Rattle.sheet.specs.Puts.{Held, held, lent_row, put, Puts}

-- what is held, from its parts
abbrev pub holding : List ℕ → ℕ → Held
holding row at = record { row = row; at = at }

pub put-append : (h : Held) (a b : List ℕ) → put (put h a) b ≡ put h (a ++ b)
unfolding put
put-append h [] b = refl
put-append h (x ∷ a) b = put-append (record { row = set h.row h.at x; at = min (h.at + 1) 18446744073709551615 }) a b

-- words behind words
pub ruleset chain = (put-append)

-- ---- nothing, and words by one call before those by the next
pub puts_none : (s : Sheet) → Puts [] s s
unfolding put
puts_none s = record { puts = refl; same_row = refl }

infixr 20 ◌▹◌
pub ◌▹◌ : {a b : List ℕ} {s p r : Sheet} → Puts a s p → Puts b p r → Puts (a ++ b) s r
◌▹◌ {a} {b} {s} {p} {r} u v = record { puts = v.puts ∙ ap (λ x. put x b) u.puts ∙ put-append (held s) a b; same_row = v.same_row ∙ u.same_row }

-- what puts some words puts those that equal them
pub puts_as : {a b : List ℕ} {s r : Sheet} → b ≡ a → Puts a s r → Puts b s r
puts_as e u = rw e u

-- ---- what is still to be stored: with it, all that was to be stored from the first sheet on
pub record Left (rest : List ℕ) (now : Sheet) (all : List ℕ) (first : Sheet) : Type 0 where
  pub left : put (held now) rest ≡ put (held first) all
  pub same_row : lent_row now ≡ lent_row first

pub left_start : {rest all : List ℕ} {s : Sheet} → rest ≡ all → Left rest s all s
left_start {s = s} e = record { left = ap (put (held s)) e; same_row = refl }

module _ {rest all : List ℕ} {now first : Sheet} where
  pub left_on : {one more : List ℕ} {then : Sheet} → rest ≡ one ++ more → Left rest now all first → Puts one now then → Left more then all first
  left_on {one} {more} {then} e l u =
      record {
        left = ap (λ x. put x more) u.puts ∙ put-append (held now) one more ∙ ap (put (held now)) (sym e) ∙ l.left;
        same_row = u.same_row ∙ l.same_row;
      }

  pub left_end : rest ≡ [] → Left rest now all first → Puts all first now
  unfolding put
  left_end e l = record { puts = ap (put (held now)) (sym e) ∙ l.left; same_row = l.same_row }

  -- with the last words, all is stored
  pub left_last : {then : Sheet} → Left rest now all first → Puts rest now then → Puts all first then
  left_last l u = record { puts = u.puts ∙ l.left; same_row = u.same_row ∙ l.same_row }

-- ---- a word, and a few
pub word_put : (row : List ℕ) (at x : ℕ) → holding (set row at x) (min (at + 1) 18446744073709551615) ≡ put (holding row at) (x ∷ [])
unfolding put
word_put row at x = refl

pub word_past : (row : List ℕ) (at x : ℕ) → length row ≤ at → holding row (min (at + 1) 18446744073709551615) ≡ put (holding row at) (x ∷ [])
unfolding put
word_past row at x h = ap (λ (l : List ℕ). holding l (min (at + 1) 18446744073709551615)) (sym (set_out row at x h))

-- what is left of a few words goes behind those that are stored
pub words_on : (words : List ℕ) (i : ℕ) (now then first : Sheet) → i < length words → Left (drop i words) now words first → Puts (get_or words i 0 ∷ []) now then → Left (drop (i + 1) words) then words first
words_on words i now then first h l u = left_on (drop-cons words i 0 h ∙ ap (λ (k : ℕ). get_or words i 0 ∷ drop k words) (sym (add-one i))) l u

pub words_all : (words : List ℕ) (i : ℕ) (now first : Sheet) → length words ≤ i → Left (drop i words) now words first → Puts words first now
words_all words i now first h l = left_end (drop_of_length-le words {i = i} h) l

-- where the count stays below 64 bits, the words stand in the row and the count is behind them
pub put_stored : (words row : List ℕ) (at : ℕ) → at + length words < 18446744073709551616 → put (holding row at) words ≡ holding (sets row at words) (at + length words)
unfolding put
put_stored [] row at h = let e : at ≡ at + 0 = omega arith in ap (holding row) e
put_stored (x ∷ ws) row at h =
    let e : min (at + 1) 18446744073709551615 ≡ suc at = omega arith in
    let f : suc at + length ws ≡ at + suc (length ws) = omega arith in
    ap (λ (k : ℕ). put (holding (set row at x) k) ws) e ∙ put_stored ws (set row at x) (suc at) (omega arith) ∙ ap (holding (sets (set row at x) (suc at) ws)) f

-- at once, where there is room for all
pub words_at_once : (row : List ℕ) (at : ℕ) (words new : List ℕ) (n m : ℕ) → length words ≡ n → m ≡ n → at + n ≤ length row → length row < 18446744073709551616 → new ≡ words
    → holding (put_mid at m row new) (at + n) ≡ put (holding row at) words
words_at_once row at words new n m e f h s w =
    let rows : put_mid at m row new ≡ sets row at words =
    ap₂ (λ (m : ℕ) (new : List ℕ). put_mid at m row new) (f ∙ k) w
    ∙ ap (λ (l : List ℕ). take at row ++ (words ++ l)) (Post-is at (at + n) row (omega arith))
    ∙ sym (append_assoc (take at row) words (drop (at + n) row))
    ∙ sym (rw e at (sets-eq words row at (omega (arith, e)))) in
    ap₂ holding rows (ap (λ (k : ℕ). at + k) (sym e)) ∙ sym (put_stored words row at (omega (arith, e)))
  where
    k : n ≡ at + n - at
    k = omega arith
