-- A rule over the row is the language's, and its parts say where its lists stand and how long they are.
use Rattle.std.specs.Prelude.{Err, Option, None}
use mathlib.Core.Path.{◌≡◌, refl, sym, ap, subst, ◌∙◌}
use Prim.Native.Nat.{ℕ, ◌+◌}
use native.Mathlib.Omega.{arith}
use mathlib.Core.Bool.{Bool, true, false}
use mathlib.Core.List.{List, [], ◌∷◌, ◌++◌, append-nil, append_assoc}
use lib.ListN.{length, length-append}
use Rattle.lexer.specs.Tokens.{TokenKind, sign, Span, Token}
use Rattle.language.specs.Machine.{Located}
use Rattle.language.specs.Parser.{Result, ok, fail, Parser, is_sign, give, ◌>>=◌}
use Rattle.language.specs.Parser.{then as bind, expect, tuple as tupled}
use Rattle.language.specs.Lines.{RawSymbol, RawTransition, state_in, symbol_in, bracket, write_in, direction_in, state, direction as directed, read_entry as read_one, write_entry, transition as ruled}
use Rattle.parser.specs.Views.{is_kind, is_state, is_write}
use Rattle.parser.specs.Lines.{Parsed, Done, then, one, direction, tuple, read_entry, side, equals, left_parts, left, right, transition, code_number}
use Rattle.parser.specs.Row.{peek}
use Rattle.parser.specs.Meaning.{token_of, at, between, or_else, located, seen, read_sets, read_part, passes, rule_of}
use Rattle.lexer.specs.Words.{kind_number}
use lib.Dec.{eqb}
use Rattle.tokens.specs.declared.Token.{Token as Words}
use Rattle.parser.specs.declared.Parts.{Parts}
use Rattle.parser.proofs.Views.{names_l_paren, names_r_paren, names-comma, names-eq, is_some}
use Rattle.parser.proofs.Simulates.{Stops, Fits, One, once, is_sign_lem, At, row, at_first, at-behind, at-between, sign_fits}
use Rattle.parser.proofs.Values.{Says, Reads, seen_past, reads_past, part_l_paren, part_r_paren, part-eq, state_fits, reads_fits, writes_fits, directions_fits}

-- a value over the row, and one of the language: `Means parts end value`
abbrev pub Gives : {B : Type 0} → ℕ → List (Token Span) → (Parts → ℕ → B → Type 0) → Parsed Parts → Result Span B → Type 0
Gives i l Means (Done j q) (ok b r) = (f : List (Token Span)) × (l ≡ f ++ r) × (j ≡ i + length f) × Means q j b
Gives i l Means (Done j q) (fail c p) = ⊥
Gives i l Means (Err bad) (ok b r) = ⊥
Gives i l Means (Err bad) (fail d p) = (code_number bad.code ≡ d) × (bad.span ≡ p)

-- one part behind another
on_then : (x : Parsed ℕ) (k : ℕ → ℕ → Parsed ℕ) (f : ℕ → ℕ → Parsed Parts) → then (then x k) f ≡ then x (λ j n. then (k j n) f)
unfolding then
on_then (Done i n) k f = refl
on_then (Err bad) k f = refl

value_on : (x : Parsed ℕ) (k : ℕ → ℕ → Parsed Parts) (f : ℕ → Parts → Parsed Parts) → then (then x k) f ≡ then x (λ j n. then (k j n) f)
unfolding then
value_on (Done i n) k f = refl
value_on (Err bad) k f = refl

on_same : (x : Parsed ℕ) (f g : ℕ → ℕ → Parsed Parts) → ((j n : ℕ) → f j n ≡ g j n) → then x f ≡ then x g
unfolding then
on_same (Done i n) f g e = e i n
on_same (Err bad) f g e = refl

on-side : (ws : List Words) (i : ℕ) (f : ℕ → ℕ → Parsed Parts) → then (side ws i) f ≡ then (one (is_kind 4) ws i) (λ j _. then (one is_state ws j) (λ k _. then (one (is_kind 8) ws k) f))
unfolding side
on-side ws i f =
    on_then (one (is_kind 4) ws i) (λ j _. then (one is_state ws j) λ k _. one (is_kind 8) ws k) f ∙
    on_same (one (is_kind 4) ws i) (λ j _. then (then (one is_state ws j) λ k _. one (is_kind 8) ws k) f) (λ j _. then (one is_state ws j) (λ k _. then (one (is_kind 8) ws k) f))
    (λ j _. on_then (one is_state ws j) (λ k _. one (is_kind 8) ws k) f)

on-equals : (ws : List Words) (i : ℕ) (f : ℕ → ℕ → Parsed Parts) → then (equals ws i) f ≡ then (one (is_kind 5) ws i) (λ j _. then (one (is_kind 9) ws j) f)
unfolding equals
on-equals ws i f = on_then (one (is_kind 5) ws i) (λ j _. one (is_kind 9) ws j) f

-- what the parts of a rule say
pub record Ruled (ts : List (Token Span)) (q : Parts) (j : ℕ) (r : RawTransition Span) : Type 0 where
  pub same : r ≡ rule_of ts q j
  pub reads : q.reads ≡ length r.read
  pub writes : q.writes ≡ length r.write
  pub dirs : q.dirs ≡ length r.dir

module _ (ts : List (Token Span)) (junk : List Words) (z : Token Span) (more : List (Token Span)) (ends : Stops z.kind) where
  abbrev ws : List Words
  ws = row ts junk z more

  abbrev Here : ℕ → List (Token Span) → Type 0
  Here = At ts junk z more

  pub on_gives : {A B : Type 0} (M : List (Token Span) → A → Type 0) (count : A → ℕ) (Means : Parts → ℕ → B → Type 0) (i : ℕ) (l : List (Token Span)) → Here i l
      → (x : Parsed ℕ) (y : Result Span A) → Fits i l M count x y → (k : ℕ → ℕ → Parsed Parts) (K : A → Parser Span B)
      → ((f r : List (Token Span)) (a : A) → l ≡ f ++ r → M f a → Here (i + length f) r → Gives (i + length f) r Means (k (i + length f) (count a)) (K a r))
      → Gives i l Means (then x k) (bind y K)
  unfolding then bind
  on_gives M count Means i l here (Err bad) (fail d q) h k K go = h
  on_gives M count Means i l here (Err bad) (ok a r) h k K go = absurd h
  on_gives M count Means i l here (Done j m) (fail d q) h k K go = absurd h
  on_gives {A} {B} M count Means i l here (Done j m) (ok a r) (f, e, q, n, w) k K go =
      subst (λ (m : ℕ). Gives i l Means (k j m) (K a r)) (sym n)
      (subst (λ (j : ℕ). Gives i l Means (k j (count a)) (K a r)) (sym q)
      (further (k (i + length f) (count a)) (K a r) (go f r a e w (at-behind ts junk z more i l f r here e))))
    where
      further : (x : Parsed Parts) (y : Result Span B) → Gives (i + length f) r Means x y → Gives i l Means x y
      further (Err bad) (fail d q) h = h
      further (Err bad) (ok a r) h = absurd h
      further (Done j m) (fail d q) h = absurd h
      further (Done j m) (ok b r₂) (f₂, e₂, q₂, w₂) =
          (f ++ f₂, e ∙ ap (λ (x : List (Token Span)). f ++ x) e₂ ∙ sym (append_assoc f f₂ r₂), omega (arith, length-append f f₂), w₂)

  -- what a view says of the token at an index
  pub located-at : {A : Type 0} (view : TokenKind → Option A) (d : A) (i : ℕ) (l f r : List (Token Span)) (a : Located Span A) → Here i l → l ≡ f ++ r → One view f a → a ≡ located view d (at ts i)
  located-at {A} view d i l f r a here e o =
      let q : l ≡ o.taker ∷ r = e ∙ ap (λ (x : List (Token Span)). x ++ r) o.front in
      let h : at ts i ≡ o.taker = (at_first ts junk z more i o.taker r (subst (Here i) q here)).0 in
      rw h (ap (λ (p : Span). record { value = a.value; place = p }) (sym o.there) ∙ ap (λ (x : Option A). record { value = or_else d x; place = o.taker.place }) (sym o.says))

  -- what is read from a range: the front f gives v, and what stands behind it up to the range's end gives nothing
  pub in_range : {B : Type 0} (R : List (Token Span) → List B) (v : List B) (i j : ℕ) (l f g r : List (Token Span)) → Here i l → l ≡ (f ++ g) ++ r → j ≡ i + length (f ++ g)
      → ((g : List (Token Span)) → R (f ++ g) ≡ v ++ R g) → R g ≡ [] → v ≡ R (between ts i j)
  in_range {B} R v i j l f g r here e q reads nothing =
      sym (ap (λ (k : ℕ). R (between ts i k)) q ∙ ap R (at-between ts junk z more i l (f ++ g) r here e) ∙ reads g ∙ ap (λ (x : List B). v ++ x) nothing ∙ append-nil v)

  -- a sign of which a view says nothing
  past_one : {A : Type 0} (view : TokenKind → Option A) (c : ℕ) (f : List (Token Span)) (a : Located Span Bool) → view (sign c) ≡ None → One (is_sign c) f a → seen view f ≡ []
  unfolding seen
  past_one view c f a e o = ap (seen view) o.front ∙ seen_past view c e o.taker [] (is_sign_lem c o.taker.kind (ap is_some o.says))

  pub length-one : {A : Type 0} (view : TokenKind → Option A) (f : List (Token Span)) (a : Located Span A) → One view f a → length f ≡ 1
  length-one view f a o = ap length o.front

  no_write : write_in (sign 0x2C) ≡ None
  unfolding write_in is_sign symbol_in bracket
  no_write = refl

  no_direction : direction_in (sign 0x29) ≡ None
  unfolding direction_in
  no_direction = refl

  -- (TO, WRITE, MOVE) behind a left side
  right_of : Located Span (List ℕ) → List (List (Located Span RawSymbol)) → Parser Span (RawTransition Span)
  right_of from read = do
    _ ← expect z.place 0x28
    to ← state z.place
    _ ← expect z.place 0x2C
    write ← tupled z.place (write_entry z.place)
    _ ← expect z.place 0x2C
    dir ← tupled z.place (directed z.place)
    _ ← expect z.place 0x29
    give (record { from = from; read = read; to = to; write = write; dir = dir })

  right_gives : (p : Parts) (from : Located Span (List ℕ)) (read : List (List (Located Span RawSymbol))) (i : ℕ) (l : List (Token Span)) → Here i l
      → from ≡ located state_in [] (at ts p.from) → p.reads ≡ length read
      → ((f r : List (Token Span)) (a : Located Span Bool) → l ≡ f ++ r → One (is_sign 0x28) f a → read ≡ read_sets false (between ts p.read (i + 1)))
      → Gives i l (Ruled ts) (right p ws i) (right_of from read l)
  unfolding right right_of rule_of ◌>>=◌
  right_gives p from read i l here from_is reads-is read_is =
      let K₀ : ℕ → ℕ → Parsed Parts = λ write _.
      then (tuple (one is_write) ws write) λ j writes.
      then (one (is_kind 8) ws j) λ dir _.
      then (tuple direction ws dir) λ k dirs.
      then (one (is_kind 5) ws k) λ end _.
      Done end (record { from = p.from; read = p.read; reads = p.reads; to = i + 1; write = write; writes = writes; dir = dir; dirs = dirs }) in
      subst (λ (x : Parsed Parts). Gives i l (Ruled ts) x (right_of from read l)) (sym (on-side ws i K₀))
      (on_gives (One (is_sign 0x28)) once (Ruled ts) i l here (one (is_kind 4) ws i) (expect z.place 0x28 l) (sign_fits ts junk z more ends 0x28 4 names_l_paren i l here) _ _ λ f₁ r₁ a₁ e₁ o₁ at₁.
      on_gives (One state_in) once (Ruled ts) (i + length f₁) r₁ at₁ (one is_state ws (i + length f₁)) (state z.place r₁) (state_fits ts junk z more ends (i + length f₁) r₁ at₁) _ _ λ f₂ r₂ to e₂ o₂ at₂.
      let i₂ : ℕ = i + length f₁ + length f₂ in
      on_gives (One (is_sign 0x2C)) once (Ruled ts) i₂ r₂ at₂ (one (is_kind 8) ws i₂) (expect z.place 0x2C r₂) (sign_fits ts junk z more ends 0x2C 8 names-comma i₂ r₂ at₂) _ _ λ f₃ r₃ a₃ e₃ o₃ at₃.
      let i₃ : ℕ = i₂ + length f₃ in
      on_gives (Says ts junk z more ends write_in) length (Ruled ts) i₃ r₃ at₃ (tuple (one is_write) ws i₃) (tupled z.place (write_entry z.place) r₃) (writes_fits ts junk z more ends i₃ r₃ at₃) _ _
      λ f₄ r₄ write e₄ w₄ at₄.
      let i₄ : ℕ = i₃ + length f₄ in
      on_gives (One (is_sign 0x2C)) once (Ruled ts) i₄ r₄ at₄ (one (is_kind 8) ws i₄) (expect z.place 0x2C r₄) (sign_fits ts junk z more ends 0x2C 8 names-comma i₄ r₄ at₄) _ _ λ f₅ r₅ a₅ e₅ o₅ at₅.
      let i₅ : ℕ = i₄ + length f₅ in
      on_gives (Says ts junk z more ends direction_in) length (Ruled ts) i₅ r₅ at₅ (tuple direction ws i₅) (tupled z.place (directed z.place) r₅) (directions_fits ts junk z more ends i₅ r₅ at₅) _ _
      λ f₆ r₆ dir e₆ w₆ at₆.
      let i₆ : ℕ = i₅ + length f₆ in
      on_gives (One (is_sign 0x29)) once (Ruled ts) i₆ r₆ at₆ (one (is_kind 5) ws i₆) (expect z.place 0x29 r₆) (sign_fits ts junk z more ends 0x29 5 names_r_paren i₆ r₆ at₆) _ _ λ f₇ r₇ a₇ e₇ o₇ at₇.
      let to_is : to ≡ located state_in [] (at ts (i + 1)) =
      located-at state_in [] (i + length f₁) r₁ f₂ r₂ to at₁ e₂ o₂ ∙ ap (λ (n : ℕ). located state_in [] (at ts (i + n))) (length-one (is_sign 0x28) f₁ a₁ o₁) in
      let write_is : write ≡ seen write_in (between ts i₃ i₅) =
      in_range (seen write_in) write i₃ i₅ r₃ f₄ f₅ r₅ at₃ (e₄ ∙ ap (λ (x : List (Token Span)). f₄ ++ x) e₅ ∙ sym (append_assoc f₄ f₅ r₅)) (omega (arith, length-append f₄ f₅)) w₄ (past_one write_in 0x2C f₅ a₅ no_write o₅) in
      let dir-is : dir ≡ seen direction_in (between ts i₅ (i₆ + length f₇)) =
      in_range (seen direction_in) dir i₅ (i₆ + length f₇) r₅ f₆ f₇ r₇ at₅ (e₆ ∙ ap (λ (x : List (Token Span)). f₆ ++ x) e₇ ∙ sym (append_assoc f₆ f₇ r₇)) (omega (arith, length-append f₆ f₇)) w₆ (past_one direction_in 0x29 f₇ a₇ no_direction o₇) in (
        [],
        refl,
        omega arith,
        record {
          same = rw (← from_is, ← read_is f₁ r₁ a₁ e₁ o₁, ← to_is, ← write_is, ← dir-is);
          reads = reads-is;
          writes = refl;
          dirs = refl;
        },
      ))

  -- a rule behind δ, one part behind another
  behind : ℕ → ℕ → ℕ → Parsed Parts
  behind j read n =
      then (tuple read_entry ws read) λ k reads.
      then (one (is_kind 5) ws k) λ c _.
      then (one (is_kind 9) ws c) λ end _.
      right (left_parts (j + 1) read reads) ws end

  flattened : (j : ℕ) → then (then (side ws j) λ read _. then (tuple read_entry ws read) λ k reads. then (equals ws k) λ end _. Done end (left_parts (j + 1) read reads)) (λ e p. right p ws e) ≡ then (side ws j) (behind j)
  unfolding behind then
  flattened j =
      let F : ℕ → Parts → Parsed Parts = λ e p. right p ws e in
      let E : ℕ → ℕ → ℕ → ℕ → Parsed Parts = λ read reads end _. Done end (left_parts (j + 1) read reads) in
      let T : ℕ → ℕ → ℕ → Parsed Parts = λ read k reads. then (equals ws k) (E read reads) in
      value_on (side ws j) (λ read _. then (tuple read_entry ws read) (T read)) F ∙
      on_same (side ws j) (λ read _. then (then (tuple read_entry ws read) (T read)) F) (behind j) (λ read n.
      value_on (tuple read_entry ws read) (T read) F ∙
      on_same (tuple read_entry ws read) (λ k reads. then (T read k reads) F) (λ k reads. then (one (is_kind 5) ws k) λ c _. then (one (is_kind 9) ws c) λ end _. right (left_parts (j + 1) read reads) ws end) (λ k reads.
      value_on (equals ws k) (E read reads) F ∙
      on-equals ws k (λ end _. right (left_parts (j + 1) read reads) ws end)))

  -- nothing is read in `)`, `=` and `(`
  reads_none : (c : ℕ) (f : List (Token Span)) (a : Located Span Bool) (g : List (Token Span)) → read_part (sign c) ≡ passes → One (is_sign c) f a → read_sets false (f ++ g) ≡ read_sets false g
  reads_none c f a g e o = ap (λ (x : List (Token Span)). read_sets false (x ++ g)) o.front ∙ reads_past c e o.taker g (is_sign_lem c o.taker.kind (ap is_some o.says))

  rule_gives : (i : ℕ) (l : List (Token Span)) → Here i l → Gives i l (Ruled ts) (then (side ws i) (behind i)) (ruled z.place l)
  unfolding ruled right_of behind ◌>>=◌ read_sets
  rule_gives i l here =
      subst (λ (x : Parsed Parts). Gives i l (Ruled ts) x (ruled z.place l)) (sym (on-side ws i (behind i)))
      (on_gives (One (is_sign 0x28)) once (Ruled ts) i l here (one (is_kind 4) ws i) (expect z.place 0x28 l) (sign_fits ts junk z more ends 0x28 4 names_l_paren i l here) _ _ λ f₁ r₁ a₁ e₁ o₁ at₁.
      on_gives (One state_in) once (Ruled ts) (i + length f₁) r₁ at₁ (one is_state ws (i + length f₁)) (state z.place r₁) (state_fits ts junk z more ends (i + length f₁) r₁ at₁) _ _ λ f₂ r₂ from e₂ o₂ at₂.
      let i₂ : ℕ = i + length f₁ + length f₂ in
      on_gives (One (is_sign 0x2C)) once (Ruled ts) i₂ r₂ at₂ (one (is_kind 8) ws i₂) (expect z.place 0x2C r₂) (sign_fits ts junk z more ends 0x2C 8 names-comma i₂ r₂ at₂) _ _ λ f₃ r₃ a₃ e₃ o₃ at₃.
      let i₃ : ℕ = i₂ + length f₃ in
      on_gives (Reads ts junk z more ends) length (Ruled ts) i₃ r₃ at₃ (tuple read_entry ws i₃) (tupled z.place (read_one z.place) r₃) (reads_fits ts junk z more ends i₃ r₃ at₃) _ _ λ f₄ r₄ read e₄ w₄ at₄.
      let i₄ : ℕ = i₃ + length f₄ in
      on_gives (One (is_sign 0x29)) once (Ruled ts) i₄ r₄ at₄ (one (is_kind 5) ws i₄) (expect z.place 0x29 r₄) (sign_fits ts junk z more ends 0x29 5 names_r_paren i₄ r₄ at₄) _ _ λ f₅ r₅ a₅ e₅ o₅ at₅.
      let i₅ : ℕ = i₄ + length f₅ in
      on_gives (One (is_sign 0x3D)) once (Ruled ts) i₅ r₅ at₅ (one (is_kind 9) ws i₅) (expect z.place 0x3D r₅) (sign_fits ts junk z more ends 0x3D 9 names-eq i₅ r₅ at₅) _ _ λ f₆ r₆ a₆ e₆ o₆ at₆.
      let i₆ : ℕ = i₅ + length f₆ in
      right_gives (left_parts (i + 1) i₃ (length read)) from read i₆ r₆ at₆
      (located-at state_in [] (i + length f₁) r₁ f₂ r₂ from at₁ e₂ o₂ ∙ ap (λ (n : ℕ). located state_in [] (at ts (i + n))) (length-one (is_sign 0x28) f₁ a₁ o₁))
      refl
      (λ f₇ r₇ a₇ e₇ o₇.
      let g : List (Token Span) = f₅ ++ (f₆ ++ f₇) in
      let cut : r₃ ≡ (f₄ ++ g) ++ r₇ =
      e₄ ∙ ap (λ (x : List (Token Span)). f₄ ++ x)
      (e₅ ∙ ap (λ (x : List (Token Span)). f₅ ++ x) (e₆ ∙ ap (λ (x : List (Token Span)). f₆ ++ x) e₇ ∙ sym (append_assoc f₆ f₇ r₇)) ∙ sym (append_assoc f₅ (f₆ ++ f₇) r₇))
      ∙ sym (append_assoc f₄ g r₇) in
      let empty : read_sets false g ≡ [] =
      reads_none 0x29 f₅ a₅ (f₆ ++ f₇) part_r_paren o₅ ∙ reads_none 0x3D f₆ a₆ f₇ part-eq o₆ ∙ ap (read_sets false) (sym (append-nil f₇)) ∙ reads_none 0x28 f₇ a₇ [] part_l_paren o₇ in
      in_range (read_sets false) read i₃ (i₆ + 1) r₃ f₄ g r₇ at₃ cut
      (omega (arith, length-append f₄ g, length-append f₅ (f₆ ++ f₇), length-append f₆ f₇, length-one (is_sign 0x28) f₇ a₇ o₇)) w₄ empty))

  pub transition_gives : (i : ℕ) (t : Token Span) (l : List (Token Span)) → Here i (t ∷ l) → kind_number t.kind ≡ 0 → Gives (i + 1) l (Ruled ts) (transition ws i) (ruled z.place l)
  unfolding transition left one is_kind token_of then
  transition_gives i t l here k =
      let e : eqb (peek ws i).kind 0 ≡ true = ap (λ (x : Words). eqb x.kind 0) (at_first ts junk z more i t l here).1 ∙ ap (λ (n : ℕ). eqb n 0) k in
      rw e (subst (λ (x : Parsed Parts). Gives (i + 1) l (Ruled ts) x (ruled z.place l)) (sym (flattened (i + 1))) (rule_gives (i + 1) l (at-behind ts junk z more i (t ∷ l) (t ∷ []) l here refl)))
