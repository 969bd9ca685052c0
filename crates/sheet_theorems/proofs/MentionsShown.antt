-- Tokens of a text show what the language's views see in them: symbols, writes, read sets, states and strings.
use mathlib.Core.Path.{◌≡◌, refl, sym, ap, subst, ◌∙◌}
use mathlib.Core.Bool.{Bool, true, false}
use mathlib.Core.List.{List, [], ◌∷◌, map}
use Rattle.std.specs.Prelude.{Option, None, Some}
use Prim.Native.Nat.{ℕ}
use native.Mathlib.Omega.{arith}
use Rattle.diag.specs.declared.Span.{Span as Place}
use Rattle.lexer.specs.Tokens.{TokenKind, word, number, quoted, str, sign, comment, newline, unterminated_string, unterminated_quote, Token as Lexed}
use Rattle.lexer.proofs.Placed.{Placed, All}
use Rattle.tokens.specs.declared.Token.{Token}
use Rattle.parser.specs.Views.{is_kind, is_state, is_symbol}
use Rattle.parser.specs.Meaning.{token_of, located, or_else, text_of, Sound, seen_on, seen, ReadPart, opens, closes, passes, reads, read_part, joins, outside, inside, read_sets}
use Rattle.parser.proofs.Views.{is_some, names_star, sees_sign, sees_symbol, sees_state, sees_string}
use Rattle.language.specs.Machine.{Located}
use Rattle.language.specs.Parser.{is_sign}
use Rattle.language.specs.Lines.{RawSymbol, state_in, symbol_in, write_in, string_in}
use Rattle.assembler.proofs.Braces.{balanced, false_true}
use Rattle.assembler.proofs.SetsMean.{AllSound, Reads, read_by, balanced_by}
use Rattle.assembler.proofs.NamesMean.{seen_by, state-word}
use Rattle.assembler.proofs.EntriesMean.{Tokens}
use Rattle.sheet_theorems.proofs.Shows.{StateShows, TextShows, SymbolsShow, no_symbols, no_symbol, one_symbol, WritesShow, no_writes, no_write, write_back, one-write, ReadsShow, no_reads, no_read, opens as opening, closes as closing, alone, member}
use Rattle.sheet_theorems.proofs.TokensShow.{none-some, symbol_shown}
use Rattle.sheet_theorems.proofs.ReadsShown.{other-symbol, reads-symbol, outside_by, inside_by}

-- `*` is no symbol
star_symbol : (t : Lexed Place) → Sound t → is_some (is_sign 0x2A t.kind) ≡ true → is_symbol (token_of t) ≡ false
unfolding is_kind
star_symbol t s e = other-symbol (token_of t) 10 (omega arith) (λ q. omega arith) (sees_sign 0x2A 10 names_star t.kind t.place t.inner s ∙ e)

-- what is written, by its parts
write_by : (k : TokenKind) (a : Option Bool) (c : Option RawSymbol) → is_sign 0x2A k ≡ a → symbol_in k ≡ c
    → write_in k ≡ elim a [ Some b ↦ Some None | None ↦ elim c [ Some s ↦ Some (Some s) | None ↦ None ] ]
unfolding write_in
write_by k a c p q =
    ap (λ (a : Option Bool). elim a [ Some b ↦ Some None | None ↦ elim (symbol_in k) [ Some s ↦ Some (Some s) | None ↦ None ] ]) p ∙ second a
  where
    second : (a : Option Bool) → ◌≡◌ {A = Option (Option RawSymbol)} (elim a [ Some b ↦ Some None | None ↦ elim (symbol_in k) [ Some s ↦ Some (Some s) | None ↦ None ] ])
        (elim a [ Some b ↦ Some None | None ↦ elim c [ Some s ↦ Some (Some s) | None ↦ None ] ])
    second (Some b) = refl
    second None = ap (λ (c : Option RawSymbol). elim c [ Some s ↦ Some (Some s) | None ↦ None ]) q

-- an open set has a rest
no_rest : {X : Type 0} (ts : List Token) → ReadsShow true ts [] → X
no_rest (t ∷ ts) (no_read a b c r) = no_rest ts r
no_rest {X = X} [] r = elim r [ ]

module _ (text : List ℕ) where
  -- ---- symbols
  pub symbols-show : (m : Tokens) → AllSound m → All (Placed text) m → SymbolsShow (map token_of m) (seen symbol_in m)
  unfolding seen seen_on
  symbols-show [] s p = no_symbols
  symbols-show (t ∷ m) s p = go (symbol_in t.kind) refl (symbols-show m s.1 p.1)
    where
      test : (v : Option RawSymbol) → symbol_in t.kind ≡ v → is_symbol (token_of t) ≡ is_some v
      test v e = sees_symbol t.kind t.place t.inner s.0 ∙ ap is_some e

      go : (v : Option RawSymbol) → symbol_in t.kind ≡ v → SymbolsShow (map token_of m) (seen symbol_in m) → SymbolsShow (token_of t ∷ map token_of m) (seen symbol_in (t ∷ m))
      go None e r = subst (SymbolsShow (token_of t ∷ map token_of m)) (sym (seen_by symbol_in t m None e)) (no_symbol (test None e) r)
      go (Some a) e r = subst (SymbolsShow (token_of t ∷ map token_of m)) (sym (seen_by symbol_in t m (Some a) e)) (one_symbol (test (Some a) e) (symbol_shown t a p.0.good e) r)

  -- ---- writes
  pub writes-show : (m : Tokens) → AllSound m → All (Placed text) m → WritesShow (map token_of m) (seen write_in m)
  unfolding seen seen_on
  writes-show [] s p = no_writes
  writes-show (t ∷ m) s p = go (is_sign 0x2A t.kind) (symbol_in t.kind) refl refl (writes-show m s.1 p.1)
    where
      test : (v : Option RawSymbol) → symbol_in t.kind ≡ v → is_symbol (token_of t) ≡ is_some v
      test v e = sees_symbol t.kind t.place t.inner s.0 ∙ ap is_some e

      go : (a : Option Bool) (c : Option RawSymbol) → is_sign 0x2A t.kind ≡ a → symbol_in t.kind ≡ c → WritesShow (map token_of m) (seen write_in m)
          → WritesShow (token_of t ∷ map token_of m) (seen write_in (t ∷ m))
      go (Some x) c e f r =
          subst (WritesShow (token_of t ∷ map token_of m)) (sym (seen_by write_in t m (Some None) (write_by t.kind (Some x) c e f))) (write_back (star_symbol t s.0 (ap is_some e)) r)
      go None (Some a) e f r =
          subst (WritesShow (token_of t ∷ map token_of m)) (sym (seen_by write_in t m (Some (Some a)) (write_by t.kind None (Some a) e f)))
          (one-write (test (Some a) f) (symbol_shown t a p.0.good f) r)
      go None None e f r = subst (WritesShow (token_of t ∷ map token_of m)) (sym (seen_by write_in t m None (write_by t.kind None None e f))) (no_write (test None f) r)

  -- ---- read sets
  joined : (t : Lexed Place) (s : RawSymbol) (ts : List Token) (ss : List (List (Located Place RawSymbol))) → Placed text t → read_part t.kind ≡ reads s → Reads (reads s) (token_of t)
      → ReadsShow true ts ss → ReadsShow true (token_of t ∷ ts) (joins (record { value = s; place = t.place }) ss)
  unfolding joins
  joined t s ts [] p e h r = no_rest ts r
  joined t s ts (l ∷ ss) p e h r = member h.0 h.1 h.2 (symbol_shown t s p.good (reads-symbol t.kind s e)) r

  pub reads-show : (b : Bool) (m : Tokens) → AllSound m → All (Placed text) m → balanced b (map token_of m) ≡ true → ReadsShow b (map token_of m) (read_sets b m)
  unfolding read_sets balanced outside inside
  reads-show false [] s p e = no_reads
  reads-show true [] s p e = false_true e
  reads-show false (t ∷ m) s p e = go (read_part t.kind) refl (read_by t s.0) (reads-show false m s.1 p.1) (reads-show true m s.1 p.1)
    where
      go : (r : ReadPart) → read_part t.kind ≡ r → Reads r (token_of t) → (balanced false (map token_of m) ≡ true → ReadsShow false (map token_of m) (read_sets false m))
          → (balanced true (map token_of m) ≡ true → ReadsShow true (map token_of m) (read_sets true m)) → ReadsShow false (token_of t ∷ map token_of m) (read_sets false (t ∷ m))
      go opens q h f g = subst (ReadsShow false (token_of t ∷ map token_of m)) (sym (outside_by t m opens q)) (opening h (g (sym (balanced_by opens (token_of t) false (map token_of m) h) ∙ e)))
      go closes q h f g = false_true (sym (balanced_by closes (token_of t) false (map token_of m) h) ∙ e)
      go (reads x) q h f g =
          subst (ReadsShow false (token_of t ∷ map token_of m)) (sym (outside_by t m (reads x) q))
          (alone h.0 h.1 h.2 (symbol_shown t x p.0.good (reads-symbol t.kind x q)) (f (sym (balanced_by (reads x) (token_of t) false (map token_of m) h) ∙ e)))
      go passes q h f g =
          subst (ReadsShow false (token_of t ∷ map token_of m)) (sym (outside_by t m passes q)) (no_read h.0 h.1 h.2 (f (sym (balanced_by passes (token_of t) false (map token_of m) h) ∙ e)))
  reads-show true (t ∷ m) s p e = go (read_part t.kind) refl (read_by t s.0) (reads-show false m s.1 p.1) (reads-show true m s.1 p.1)
    where
      go : (r : ReadPart) → read_part t.kind ≡ r → Reads r (token_of t) → (balanced false (map token_of m) ≡ true → ReadsShow false (map token_of m) (read_sets false m))
          → (balanced true (map token_of m) ≡ true → ReadsShow true (map token_of m) (read_sets true m)) → ReadsShow true (token_of t ∷ map token_of m) (read_sets true (t ∷ m))
      go opens q h f g = false_true (sym (balanced_by opens (token_of t) true (map token_of m) h) ∙ e)
      go closes q h f g =
          subst (ReadsShow true (token_of t ∷ map token_of m)) (sym (inside_by t m closes q)) (closing h.0 h.1 (f (sym (balanced_by closes (token_of t) true (map token_of m) h) ∙ e)))
      go (reads x) q h f g =
          subst (ReadsShow true (token_of t ∷ map token_of m)) (sym (inside_by t m (reads x) q))
          (joined t x (map token_of m) (read_sets true m) p.0 q h (g (sym (balanced_by (reads x) (token_of t) true (map token_of m) h) ∙ e)))
      go passes q h f g =
          subst (ReadsShow true (token_of t ∷ map token_of m)) (sym (inside_by t m passes q)) (no_read h.0 h.1 h.2 (g (sym (balanced_by passes (token_of t) true (map token_of m) h) ∙ e)))

  -- ---- one token
  pub state_shows : (t : Lexed Place) → Sound t → Placed text t → is_state (token_of t) ≡ true → StateShows text (token_of t) (located state_in [] t)
  state_shows t s p e = go (state_in t.kind) refl (sym (sees_state t.kind t.place t.inner s) ∙ e)
    where
      go : (v : Option (List ℕ)) → state_in t.kind ≡ v → is_some v ≡ true → StateShows text (token_of t) (record { value = or_else [] (state_in t.kind); place = t.place })
      go None q h = false_true h
      go (Some w) q h = record {
        state = e;
        name = record { token = t; placed = p; spelled = state-word t.kind w q ∙ ap word (sym (ap (or_else []) q)); place = refl; words = refl };
      }

  string-kind : (k : TokenKind) (v : List ℕ) → string_in k ≡ Some v → k ≡ str v
  unfolding string_in
  string-kind (str w) v e = let z : w ≡ v = cc in ap str z
  string-kind (word w) v e = none-some v e
  string-kind (number w) v e = none-some v e
  string-kind (quoted c) v e = none-some v e
  string-kind (sign c) v e = none-some v e
  string-kind (comment w) v e = none-some v e
  string-kind newline v e = none-some v e
  string-kind unterminated_string v e = none-some v e
  string-kind unterminated_quote v e = none-some v e

  pub text_shows : (t : Lexed Place) → Sound t → Placed text t → is_kind 3 (token_of t) ≡ true → TextShows text (token_of t) (text_of t)
  text_shows t s p e = go (string_in t.kind) refl (sym (sees_string t.kind t.place t.inner s) ∙ e)
    where
      go : (v : Option (List ℕ)) → string_in t.kind ≡ v → is_some v ≡ true → TextShows text (token_of t) (text_of t)
      go None q h = false_true h
      go (Some w) q h = record { token = t; placed = p; spelled = string-kind t.kind w q ∙ ap str (sym (ap (or_else []) q)); inner = refl; place = refl; words = refl }
