-- Where a machine's state stands in the text are the bytes of its name; where there is no state there are none.
use mathlib.Core.Path.{◌≡◌, sym, ap, subst, ◌∙◌}
use Prim.Native.Nat.{ℕ, ◌-◌, ◌≤◌}
use native.Mathlib.Omega.{arith}
use mathlib.Core.Bool.{true, ◌&&◌}
use mathlib.Core.List.{List, [], ◌++◌}
use borrow.Author.Tests.{le-leb}
use lib.Dec.{eqb, leb}
use lib.ListN.{length, take, drop}
use Rattle.std.proofs.lemmas.List.Elements.{All-contains, All-from_recursion}
use Rattle.chars.specs.Utf8.{sizes, decode, encode}
use Rattle.chars.proofs.Theorems.{decode-scalars, length-encode, sizes-append, valid_whole}
use Rattle.chars.proofs.Laws.{decode-nil}
use Rattle.lexer.specs.Tokens.{TokenKind, word, Span, tokens}
use Rattle.lexer.specs.Places.{part}
use Rattle.language.specs.Layout.{no_place}
use Rattle.language.specs.Agreement.{characters_at}
use Rattle.language.specs.Outcome.{admitted}
use Rattle.language.proofs.Claim.{is_valid}
use Rattle.language.proofs.Every.{by_test}
use Rattle.language.proofs.TokenPlaces.{Stands, stands_bytes, stands_at, Placed, tokens_placed}
use Rattle.form_theorems.specs.Read.{machine_in}
use Rattle.runner_names_theorems.specs.Names.{NamePlace, WordPlace}
use Rattle.runner_names_theorems.proofs.Words.{name_word}
use Rattle.runner_loop.proofs.NoStart.{is_nowhere, is_somewhere}

module _ (t : List ℕ) (ok : admitted t ≡ true) where
  abbrev cs : List ℕ
  cs = decode t

  whole : encode cs ≡ t
  whole = valid_whole t (is_valid t ok)

  -- a word stands where its token does
  word_stands : (k : TokenKind) (place inner : Span) (w : List ℕ) → k ≡ word w
      → Placed cs (record { kind = k; place = place; inner = inner }) → Stands cs place w
  word_stands k place inner w e h = rw e at h

  name_stands : (p : Span) → NamePlace (machine_in t) p → (w : List ℕ) × Stands cs p w
  name_stands p n =
      let w : WordPlace cs p = name_word cs p n in
      let placed : Placed cs w.token = All-contains (Placed cs) (tokens cs) w.token (All-from_recursion (Placed cs) (tokens cs) (tokens_placed cs)) w.among in
      (w.name, subst (λ (q : Span). Stands cs q w.name) w.placed (word_stands w.token.kind w.token.place w.token.inner w.name w.is_word placed))

  -- what stands in the text lies inside it
  inside : (p : Span) (w : List ℕ) → Stands cs p w → (p.start ≤ p.end) × (p.end ≤ length t)
  inside p w h = (
    omega (arith, h.start_is, h.end_is),
    omega (arith, h.end_is, ap length whole, length-encode cs, sizes-append h.before (w ++ h.behind), sizes-append w h.behind, ap sizes h.parts),
  )

  part_in : (p : Span) → p.start ≤ p.end → p.end ≤ length t → part t p.start p.end ≡ take (p.end - p.start) (drop p.start t)
  unfolding part
  part_in p a b = rw (part, le-leb p.start p.end a, le-leb p.end (length t) b)

  stands_part : (p : Span) (w : List ℕ) → Stands cs p w → part t p.start p.end ≡ encode (characters_at t p)
  stands_part p w h =
      let i = inside p w h in
      let bytes : take (p.end - p.start) (drop p.start t) ≡ encode w = subst (λ l. take (p.end - p.start) (drop p.start l) ≡ encode w) whole (stands_bytes cs p w h) in
      let chars : characters_at t p ≡ w = subst (λ l. characters_at l p ≡ w) whole (stands_at cs p w (decode-scalars t) h) in
      part_in p i.0 i.1 ∙ bytes ∙ ap encode (sym chars)

  none_part : part t 4294967295 4294967295 ≡ encode (characters_at t no_place)
  unfolding part characters_at encode
  none_part = by_test (leb 4294967295 4294967295 && leb 4294967295 (length t)) (λ e. rw (e, part) (sym no_bytes)) (λ e. rw (e, part) (sym no_bytes))
    where
      no_bytes : encode (decode []) ≡ []
      no_bytes = ap encode decode-nil

  -- the bytes at the place of a name, or at none
  pub state_part : (p : Span) → ((p ≡ no_place → ⊥) → NamePlace (machine_in t) p) → part t p.start p.end ≡ encode (characters_at t p)
  state_part p n = by_test (eqb p.start 4294967295 && eqb p.end 4294967295)
      (λ e. let q = is_nowhere p e in rw q none_part)
      (λ e. let h = name_stands p (n (is_somewhere p e)) in stands_part p h.0 h.1)
