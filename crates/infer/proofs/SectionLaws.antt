-- Laws of the sections of states and finals.
use mathlib.Core.Path.{◌≡◌, sym, ap, ◌∙◌}
use mathlib.Core.Bool.{Bool, true, false}
use mathlib.Core.List.{List, [], ◌++◌}
use Prim.Native.Nat.{ℕ, ◌+◌, ◌≤◌, ◌<◌}
use native.Mathlib.Omega.{arith}
use borrow.Author.Tests.{lt-ltb, le-ltb}
use lib.ListN.{length, get_or, take, drop, replicate, length-take}
use Rattle.diag.specs.declared.Span.{Span}
use Rattle.language.specs.Layout.{flat, place_words}
use Rattle.tokens.specs.declared.Token.{Token}
use Rattle.parser.specs.Row.{peek}
use Rattle.parser.specs.Views.{is_state}
use Rattle.assembler.specs.Rows.{place_of}
use Rattle.sheet.specs.declared.put.Sheet.{Sheet}
use Rattle.sheet.specs.Puts.{Puts}
use Rattle.sheet.proofs.Puts.{puts_none, puts_as, ◌▹◌}
use Rattle.infer.specs.States.{unmarked, list_finals, names_add, names_mark, inferred, finals, states_add, states_mark, section, place_at, final_section, first_state}
use Rattle.infer.specs.Page.{indices_in}
use Rattle.infer.proofs.Pages.{indices_at, indices_start, indices_on}

-- ---- the places of F: with those that are left, all will have been stored
abbrev pub Placing : List Token → ℕ → ℕ → Sheet → Sheet → Type 0
Placing ts f x out out₀ = (out' : Sheet) → Puts (flat (place_at ts) (indices_at ts x)) out out' → Puts (final_section ts f) out₀ out'

pub placing_start : (ts : List Token) (f : ℕ) (out : Sheet) → Placing ts f (f + 1) out out
unfolding final_section
placing_start ts f out s u = puts_as (ap (flat (place_at ts)) (sym (indices_start ts f))) u

module _ (ts : List Token) (f x : ℕ) (out out₀ : Sheet) (p : Placing ts f x out out₀) where
  pub placing_end : indices_at ts x ≡ [] → Puts (final_section ts f) out₀ out
  unfolding flat
  placing_end e = p out (puts_as (ap (flat (place_at ts)) e) (puts_none out))

  module _ (t : Token) (at : t ≡ peek ts x) (low : x < length ts) (here : t.kind ≡ 13 → ⊥) (b : Bool) (test : b ≡ is_state t) where
    next : (out' : Sheet) → Puts (place_at ts x) out out' → Placing ts f (x + 1) out' out₀
    unfolding flat
    next out' u s v = p s (puts_as (ap (flat (place_at ts)) (indices_on ts x low (λ k. here (ap (λ (t : Token). t.kind) at ∙ k)))) (u ▹ v))

    state_is : is_state (peek ts x) ≡ b
    state_is = ap is_state (sym at) ∙ sym test

    pub placing_state : (p : Span) (out' then : Sheet) → then ≡ out' → b ≡ true → p ≡ place_of t → Puts (place_words p) out out' → Placing ts f (x + 1) then out₀
    unfolding place_at
    placing_state p out' then o e g u = rw o (next out' (puts_as (rw (state_is, e, g, at)) u))

    pub placing_other : (then : Sheet) → then ≡ out → b ≡ false → Placing ts f (x + 1) then out₀
    unfolding place_at
    placing_other then o e = rw o (next out (puts_as (rw (state_is, e)) (puts_none out)))

-- ---- the states
module _ (firsts : List ℕ) (ts : List Token) (first marks : List ℕ) where
  pub states_declared : get_or first 5 0 < length ts → states_add firsts ts first marks ≡ names_add firsts ts true marks (indices_in ts (get_or first 5 0))
  unfolding states_add
  states_declared h = rw (lt-ltb (get_or first 5 0) (length ts) h)

  pub states_inferred : length ts ≤ get_or first 5 0 → states_add firsts ts first marks ≡ names_add firsts ts false marks (inferred ts (get_or first 9 0) (get_or first 10 0))
  unfolding states_add
  states_inferred h = rw (le-ltb (get_or first 5 0) (length ts) h)

  pub marks_declared : get_or first 5 0 < length ts → states_mark firsts ts first marks ≡ names_mark firsts ts marks (indices_in ts (get_or first 5 0))
  unfolding states_mark
  marks_declared h = rw (lt-ltb (get_or first 5 0) (length ts) h)

  pub marks_inferred : length ts ≤ get_or first 5 0 → states_mark firsts ts first marks ≡ names_mark firsts ts marks (inferred ts (get_or first 9 0) (get_or first 10 0))
  unfolding states_mark
  marks_inferred h = rw (le-ltb (get_or first 5 0) (length ts) h)

  pub section_is : (marks' : List ℕ) → marks' ≡ finals firsts ts first marks → section firsts ts first marks ≡ states_add firsts ts first marks'
  unfolding section
  section_is marks' e = rw e

-- the marks cleared as far as there are tokens, and F marked in them
pub finals_are : (firsts : List ℕ) (ts : List Token) (first marks : List ℕ) (n : ℕ) (zeros marks' : List ℕ) → n ≡ length ts → length ts ≤ length marks → zeros ≡ replicate (length (take n marks)) 0
    → marks' ≡ list_finals firsts ts (zeros ++ drop n marks) (indices_in ts (get_or first 10 0)) → marks' ≡ finals firsts ts first marks
unfolding finals unmarked
finals_are firsts ts first marks n zeros marks' e h z f =
    let k : length (take n marks) ≡ length ts = omega (arith, length-take n marks) in
    f ∙ ap (λ (m : List ℕ). list_finals firsts ts m (indices_in ts (get_or first 10 0))) (ap (λ (l : List ℕ). l ++ drop n marks) (z ∙ ap (λ (k : ℕ). replicate k 0) k) ∙ ap (λ (k : ℕ). replicate (length ts) 0 ++ drop k marks) e)

-- ---- the first state
pub first_there : (o : List ℕ) (i j x y : ℕ) → i < j → x ≡ get_or o i 0 → y ≡ get_or o (i + 1) 0 → ◌≡◌ {A = Span} (record { start = x; end = y }) (first_state o i j)
unfolding first_state
first_there o i j x y h e f = rw (lt-ltb i j h, e, f)

pub first-none : (o : List ℕ) (i j : ℕ) → j ≤ i → ◌≡◌ {A = Span} (record { start = 0xffffffff; end = 0xffffffff }) (first_state o i j)
unfolding first_state
first-none o i j h = rw (le-ltb i j h)
