-- Laws of the walks over the names of a line and over all rules.
use mathlib.Core.Path.{◌≡◌, refl, sym, ap, subst, ◌∙◌}
use mathlib.Core.Bool.{Bool, true, false, cond}
use mathlib.Core.List.{List, [], ◌∷◌, ◌++◌}
use Prim.Native.Nat.{ℕ, ◌+◌, ◌*◌, ◌≤◌, ◌<◌}
use native.Mathlib.Omega.{arith}
use borrow.Author.Tests.{lt-ltb, le-ltb, eq-eqb, ne_eqb}
use lib.Dec.{eqb}
use lib.ListN.{length, length-append}
use Rattle.tokens.specs.declared.Token.{Token}
use Rattle.parser.specs.Row.{peek}
use Rattle.assembler.specs.Entries.{Entry, entry_at, behind, entries}
use Rattle.assembler.specs.Feeds.{AllFed}
use Rattle.assembler.proofs.Rows.{entries_at, entries-step, entries-end, entries_few, fed_on}
use Rattle.sheet.specs.declared.put.Sheet.{Sheet}
use Rattle.infer.specs.declared.names.Names.{Names}
use Rattle.infer.specs.Names.{row_of, Named}
use Rattle.infer.specs.States.{list_final, list_finals, mention, mentions, start_name}
use Rattle.infer.proofs.Pages.{indices_at, indices_on}
use Rattle.infer.proofs.NameLaws.{named_none, named_as, ◌▸◌}

-- ---- F: what is still to be listed
module _ (firsts : List ℕ) (ts : List Token) (target marks : List ℕ) (x : ℕ) (left : list_finals firsts ts marks (indices_at ts x) ≡ target) where
  pub listing_on : x < length ts → ((peek ts x).kind ≡ 13 → ⊥) → (marks' : List ℕ) → marks' ≡ list_final firsts ts marks x → list_finals firsts ts marks' (indices_at ts (x + 1)) ≡ target
  unfolding list_finals
  listing_on h e marks' f = ap (λ (m : List ℕ). list_finals firsts ts m (indices_at ts (x + 1))) f ∙ sym (ap (list_finals firsts ts marks) (indices_on ts x h e)) ∙ left

  pub listing_end : indices_at ts x ≡ [] → marks ≡ target
  unfolding list_finals
  listing_end e = sym (ap (list_finals firsts ts marks) e) ∙ left

-- ---- names: with those that are left, all will have been stored
abbrev pub Rest : Names → Bool → List ℕ → List ℕ → Sheet → List ℕ → List ℕ → Sheet → Type 0
Rest n repeats left marks out all marks₀ out₀ = (marks' : List ℕ) (out' : Sheet) → Named n repeats left marks marks' out out' → Named n repeats all marks₀ marks' out₀ out'

module _ {n : Names} {repeats : Bool} {left marks : List ℕ} {out : Sheet} {all marks₀ : List ℕ} {out₀ : Sheet} where
  pub rest_on : (front more marks' : List ℕ) (out' : Sheet) → left ≡ front ++ more → Rest n repeats left marks out all marks₀ out₀ → Named n repeats front marks marks' out out' → Rest n repeats more marks' out' all marks₀ out₀
  rest_on front more marks' out' e r u m s v = r m s (named_as e (u ▸ v))

  pub rest_end : left ≡ [] → Rest n repeats left marks out all marks₀ out₀ → Named n repeats all marks₀ marks out₀ out
  rest_end e r = r marks out (named_as e (named_none))

pub rest_start : {n : Names} {repeats : Bool} {left marks : List ℕ} {out : Sheet} {all : List ℕ} → left ≡ all → Rest n repeats left marks out all marks out
rest_start e m s v = named_as (sym e) v

-- ---- a rule
module _ (ts : List Token) (e : ℕ) (t : Token) (at : t ≡ peek ts e) where
  pub mention_none : (t.kind ≡ 27 → ⊥) → mention ts (entry_at ts e) ≡ []
  unfolding mention
  mention_none h = let k : eqb (peek ts e).kind 27 ≡ false = ap (λ (t : Token). eqb t.kind 27) (sym at) ∙ ne_eqb t.kind 27 h in rw k

  pub mention_both : (q : Token) (x y : ℕ) → q ≡ peek ts (e + 3) → t.kind ≡ 27 → x ≡ e + 2 → y ≡ q.start → mention ts (entry_at ts e) ≡ x ∷ y ∷ []
  unfolding mention
  mention_both q x y c h f g = let k : eqb (peek ts e).kind 27 ≡ true = ap (λ (t : Token). eqb t.kind 27) (sym at) ∙ eq-eqb t.kind 27 h in rw (k, f, g, c)

-- ---- all rules: those from the line at e on are left
pub record Mentioning (n : Names) (e : ℕ) (marks : List ℕ) (out : Sheet) (marks₀ : List ℕ) (out₀ : Sheet) : Type 0 where
  pub rest : Rest n false (mentions (row_of n) (entries_at (row_of n) e)) marks out (mentions (row_of n) (entries (row_of n))) marks₀ out₀
  pub fed : AllFed (entries_at (row_of n) e)

pub mentioning_start : (n : Names) (marks : List ℕ) (out : Sheet) → Mentioning n 0 marks out marks out
unfolding entries
mentioning_start n marks out = record { rest = rest_start refl; fed = n.fed }

module _ (n : Names) (e : ℕ) (marks : List ℕ) (out : Sheet) (marks₀ : List ℕ) (out₀ : Sheet) (m : Mentioning n e marks out marks₀ out₀) where
  pub mentioning_on : e < length (row_of n) → (t : Token) → t ≡ peek (row_of n) e → (marks' : List ℕ) (out' : Sheet) (j : ℕ) → Named n false (mention (row_of n) (entry_at (row_of n) e)) marks marks' out out'
      → j ≡ e + 1 + behind e t → Mentioning n j marks' out' marks₀ out₀
  unfolding mentions
  mentioning_on h t at marks' out' j u z =
      let ts : List Token = row_of n in
      let next : e + 1 + behind e (peek ts e) ≡ j = ap (λ (t : Token). e + 1 + behind e t) (sym at) ∙ sym z in
      let lines : entries_at ts e ≡ entry_at ts e ∷ entries_at ts j = entries-step ts e h ∙ ap (λ (j : ℕ). entry_at ts e ∷ entries_at ts j) next in
      record {
        rest = rest_on (mention ts (entry_at ts e)) (mentions ts (entries_at ts j)) marks' out' (ap (mentions ts) lines) m.rest u;
        fed = subst (λ (j : ℕ). AllFed (entries_at ts j)) next (fed_on ts e m.fed h);
      }

  pub mentioning_end : length (row_of n) ≤ e → Named n false (mentions (row_of n) (entries (row_of n))) marks₀ marks out₀ out
  unfolding mentions
  mentioning_end h = rest_end (ap (mentions (row_of n)) (entries-end (row_of n) e h)) m.rest

-- two for each line at most
mention_few : (ts : List Token) (e : Entry) → length (mention ts e) ≤ 2
unfolding mention
mention_few ts e = go (eqb e.first.kind 27)
  where
    go : (b : Bool) → length (cond b ((e.at + 2) ∷ (peek ts (e.at + 3)).start ∷ []) []) ≤ 2
    go true = omega arith
    go false = omega arith

mentions_few : (ts : List Token) (es : List Entry) → length (mentions ts es) ≤ 2 * length es
unfolding mentions
mentions_few ts [] = omega arith
mentions_few ts (e ∷ es) = omega (arith, length-append (mention ts e) (mentions ts es), mention_few ts e, mentions_few ts es)

pub mentions-all : (ts : List Token) → length (mentions ts (entries ts)) ≤ 2 * length ts
unfolding entries
mentions-all ts = omega (arith, mentions_few ts (entries ts), entries_few ts)

-- ---- a declared start
pub start_none : (ts : List Token) (s : ℕ) → length ts ≤ s → start_name ts s ≡ []
unfolding start_name
start_none ts s h = rw (le-ltb s (length ts) h)

pub start_there : (ts : List Token) (s i : ℕ) → i ≡ s → s < length ts → start_name ts s ≡ (i + 2) ∷ []
unfolding start_name
start_there ts s i e h = rw (lt-ltb s (length ts) h, ← e)
