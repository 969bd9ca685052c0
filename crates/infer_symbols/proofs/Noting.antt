-- What noting does: characters after characters, and what is still to be noted.
use mathlib.Core.Path.{◌≡◌, refl, sym, ap, ◌∙◌}
use mathlib.Core.Bool.{true, false}
use mathlib.Core.List.{List, [], ◌∷◌, ◌++◌}
use Prim.Native.Nat.{ℕ, ◌+◌, ◌-◌, ◌≤◌, ◌<◌}
use native.Mathlib.Omega.{arith}
use native.Mathlib.Numerals.{add-one}
use borrow.Author.Tests.{eqb-true, eqb-false}
use borrow.Rule.Slice.Mut.{set_vals}
use lib.Dec.{eqb}
use lib.ListN.{length, length-append, get_or, take, set, length-set}
use lib.Seq.{take-suc-set, take-set-le, set-get_or, length-take-le}
use Rattle.diag.proofs.Cases.{by_test_lem}
use Rattle.language.specs.Infer.{member}
use Rattle.tokens.specs.declared.Token.{Token}
use Rattle.language.proofs.Facts.{map-append}
use Rattle.sheet.specs.Rules.{resolve}
use Rattle.infer_symbols.specs.Codes.{noted_all, slot, hint_of, Looked, Hinted}
use Rattle.infer_symbols.specs.Symbols.{codes_of}
use Rattle.infer_symbols.specs.Notes.{listed, Sound, Fits, Notes, Uses}
use Rattle.infer_symbols.specs.declared.codes.Codes.{Codes}
use Rattle.infer_symbols.proofs.CodeLaws.{noted-append, noted_all_more, noted_in, noted-new, more_other, more_first}

-- ---- nothing, and characters by one call before those by the next
pub notes_none : (s : Codes) → Notes [] s s
unfolding noted_all
notes_none s = record { same_row = refl; size = refl; many = refl; sound = λ h. h; notes = λ h f. refl }

fits-front : (a b : List ℕ) (s : Codes) → Fits (a ++ b) s → Fits a s
fits-front a b s f = omega (arith, f, ap length (noted-append (listed s) a b), noted_all_more (noted_all (listed s) a) b)

pub notes_then : {a b : List ℕ} {s p r : Codes} → Notes a s p → Notes b p r → Notes (a ++ b) s r
notes_then {a} {b} {s} {p} {r} u v = record {
  same_row = v.same_row ∙ u.same_row;
  size = v.size ∙ u.size;
  many = v.many ∙ u.many;
  sound = λ h. v.sound (u.sound h);
  notes = λ h f.
      let e : noted_all (listed p) b ≡ noted_all (listed s) (a ++ b) = ap (λ (l : List ℕ). noted_all l b) (u.notes h (fits-front a b s f)) ∙ sym (noted-append (listed s) a b) in
      v.notes (u.sound h) (omega (arith, f, ap length e, u.size)) ∙ e;
}

-- what notes some characters notes those that equal them
pub notes_as : {a b : List ℕ} {s r : Codes} → b ≡ a → Notes a s r → Notes b s r
notes_as e u = rw e u

-- characters that give the same on top of those that are noted
pub notes_like : {a b : List ℕ} {s r : Codes} → (Sound s → noted_all (listed s) a ≡ noted_all (listed s) b) → Notes a s r → Notes b s r
notes_like e u = record {
  same_row = u.same_row;
  size = u.size;
  many = u.many;
  sound = u.sound;
  notes = λ h f. u.notes h (omega (arith, f, ap length (e h))) ∙ e h;
}

-- ---- what is still to be noted: with it, all that was to be noted from the first codes on
pub record Left (rest : List ℕ) (now : Codes) (all : List ℕ) (first : Codes) : Type 0 where
  pub left : (r : Codes) → Notes rest now r → Notes all first r

module _ {rest all : List ℕ} {now first : Codes} where
  pub left_start : rest ≡ all → now ≡ first → Left rest now all first
  left_start e f = rw (e, f) record { left = λ r u. u }

  pub left_on : {one more : List ℕ} {then : Codes} → rest ≡ one ++ more → Left rest now all first → Notes one now then → Left more then all first
  left_on e l u = record { left = λ r v. l.left r (notes_as e (notes_then u v)) }

  pub left_as : {more : List ℕ} {then : Codes} → then ≡ now → rest ≡ more → Left rest now all first → Left more then all first
  left_as e f l = rw (e, ← f) l

  pub left_like : {more : List ℕ} → (Sound now → noted_all (listed now) more ≡ noted_all (listed now) rest) → Left rest now all first → Left more now all first
  left_like e l = record { left = λ r u. l.left r (notes_like e u) }

  pub left_end : rest ≡ [] → Left rest now all first → Notes all first now
  left_end e l = l.left now (notes_as e (notes_none now))

  -- with the last characters, all is noted
  pub left_last : {then : Codes} → Left rest now all first → Notes rest now then → Notes all first then
  left_last l u = l.left _ u

-- ---- the same of symbols
codes-append : (blank : ℕ) (xs ys : List Token) → codes_of blank (xs ++ ys) ≡ codes_of blank xs ++ codes_of blank ys
codes-append blank xs ys = map-append (resolve blank) xs ys

pub record Yet (blank : ℕ) (rest : List Token) (now : Codes) (all : List Token) (first : Codes) : Type 0 where
  pub left : Left (codes_of blank rest) now (codes_of blank all) first

module _ {blank : ℕ} where
  pub uses_none : (s : Codes) → Uses blank [] s s
  uses_none s = record { notes = notes_none s }

  pub uses_as : {xs ys : List Token} {s r : Codes} → ys ≡ xs → Uses blank xs s r → Uses blank ys s r
  uses_as e u = rw e u

  pub uses_on : {xs ys : List Token} {s p r : Codes} → Uses blank xs s p → Uses blank ys p r → Uses blank (xs ++ ys) s r
  uses_on {xs} {ys} u v = record { notes = notes_as (codes-append blank xs ys) (notes_then u.notes v.notes) }

  pub yet_start : {rest all : List Token} {now first : Codes} → rest ≡ all → now ≡ first → Yet blank rest now all first
  yet_start e f = record { left = left_start (ap (codes_of blank) e) f }

  pub yet_on : {rest one more all : List Token} {now first then : Codes} → rest ≡ one ++ more → Yet blank rest now all first → Uses blank one now then → Yet blank more then all first
  yet_on {one = one} {more = more} e l u = record { left = left_on (ap (codes_of blank) e ∙ codes-append blank one more) l.left u.notes }

  pub yet_end : {rest all : List Token} {now first : Codes} → rest ≡ [] → Yet blank rest now all first → Uses blank all first now
  yet_end e l = record { notes = left_end (ap (codes_of blank) e) l.left }

-- ---- one character: it is there, there is no room for it, or it is stored, with its hint where that is 0
module _ (s : Codes) (c : ℕ) where
  pub note_there : (Sound s → true ≡ member eqb (listed s) c) → Notes (c ∷ []) s s
  note_there e = record { same_row = refl; size = refl; many = refl; sound = λ h. h; notes = λ h f. sym (noted_in (listed s) c (sym (e h))) }

  pub note_full : length s.row.now ≤ s.count → Notes (c ∷ []) s s
  note_full full = record {
    same_row = refl;
    size = refl;
    many = refl;
    sound = λ h. h;
    notes = λ h f. by_test_lem (member eqb (listed s) c) (λ y. sym (noted_in (listed s) c y))
        (λ n. absurd (omega (arith, f, full, ap length (noted-new (listed s) c n), length-append (listed s) (c ∷ []), length-take-le s.count s.row.now h.low, h.low)));
  }

  module _ (room : s.count < length s.row.now) (new : Sound s → false ≡ member eqb (listed s) c) where
    stored : (row : List ℕ) → length row ≡ length s.row.now → (Sound s → take s.count row ≡ listed s) → (Sound s → Hinted s.hints (s.count + 1) (set row s.count c))
        → Notes (c ∷ []) s (record { row = set_vals (set row s.count c) s.row; hints = s.hints; count = s.count + 1 })
    stored row long same hints = record {
      same_row = refl;
      size = length-set row s.count c ∙ long;
      many = refl;
      sound = λ h. record { low = omega (arith, room, long, length-set row s.count c); hints = hints h };
      notes = λ h f.
          ap (λ (k : ℕ). take k (set row s.count c)) (add-one s.count) ∙ take-suc-set row s.count c (omega (arith, room, long)) ∙ ap (λ (l : List ℕ). l ++ c ∷ []) (same h)
          ∙ sym (noted-new (listed s) c (sym (new h)));
    }

    pub note_other : (Looked s.hints s.count s.row.now c → hint_of s.row.now c ≡ 0 → ⊥)
        → Notes (c ∷ []) s (record { row = set_vals (set s.row.now s.count c) s.row; hints = s.hints; count = s.count + 1 })
    note_other other = stored s.row.now refl (λ h. refl) (λ h. more_other s.hints s.count c s.row.now h.hints room (λ l nz z. other l z))

    pub note_first : (i : ℕ) → Looked s.hints s.count s.row.now c × (i ≡ length s.row.now - 1 - slot c) → get_or s.row.now i 0 ≡ 0
        → Notes (c ∷ []) s (record { row = set_vals (set (set s.row.now i c) s.count c) s.row; hints = s.hints; count = s.count + 1 })
    note_first i at z = stored (set s.row.now i c) (length-set s.row.now i c) (λ h. take-set-le s.count s.row.now i c (omega (arith, at.0.one, at.0.room, at.1)))
        (λ h. by_test_lem (eqb c 0)
        (λ y.
        let e : set s.row.now i c ≡ s.row.now = ap (set s.row.now i) (eqb-true c 0 y ∙ sym z) ∙ set-get_or s.row.now i 0 in
        rw e (more_other s.hints s.count c s.row.now h.hints room (λ l nz q. nz (eqb-true c 0 y))))
        (λ n. more_first s.hints s.count c s.row.now h.hints room at.0 i at.1 (eqb-false c 0 n)))
