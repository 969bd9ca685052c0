-- The row of a text, once assembled without a diagnostic, shows the language's lines: each line does, and no rule is dropped.
use mathlib.Core.Path.{◌≡◌, refl, subst}
use mathlib.Core.Bool.{Bool, true, false, ◌&&◌}
use mathlib.Core.List.{List, [], ◌∷◌, ◌++◌, map}
use Rattle.std.specs.Prelude.{Option}
use Prim.Native.Nat.{ℕ, ◌+◌, ◌≤◌, ◌<◌, ◌^◌}
use native.Mathlib.Omega.{arith}
use borrow.Author.Tests.{eqb-true, leb-true}
use lib.Dec.{eqb, leb}
use lib.ListN.{length}
use Rattle.diag.specs.declared.Span.{Span as Place}
use Rattle.lexer.proofs.Placed.{Placed, All}
use Rattle.tokens.specs.declared.Token.{Token}
use Rattle.parser.specs.Row.{peek}
use Rattle.parser.specs.Lines.{line}
use Rattle.parser.specs.Meaning.{token_of, AllLexed}
use Rattle.language.specs.Machine.{Located}
use Rattle.language.specs.Lines.{RawTransition, Item, machine_item, input_item, kind_item, output_item, tapes_item, states_item, final_item, input_alphabet_item, tape_alphabet_item, blank_item, start_item, transition_item, Line, blank_line, comment_line, item_line, error_line, lines, covering}
use Rattle.language.specs.Assembly as A
use Rattle.language.proofs.Columns
use Rattle.language.proofs.Every.{Every, every_any}
use Rattle.language.proofs.Counts.{kept_every}
use Rattle.assembler.specs.Entries.{entry_at, behind, entries}
use Rattle.assembler.specs.Entered.{entered}
use Rattle.assembler.proofs.Means.{Means, AllMean}
use Rattle.assembler.proofs.EntriesMean.{Tokens, Lines, lines_end, lines-on, lines_mean, lines_from, line_means_lem}
use Rattle.sheet_theorems.proofs.Shows.{Shows, Shown, Said}
use Rattle.sheet_theorems.proofs.BodyShown.{kept-all}
use Rattle.sheet_theorems.proofs.LineShown.{Expands, ExpandsItem, ExpandsLine, item-mentions, item_parsed, line_shows}

-- ---- with no diagnostic of rules each rule expands
verdict_expands : (n : ℕ) (r : RawTransition Place) → A.verdict n r ≡ A.expands → Expands r
unfolding A.verdict
verdict_expands n r e = go (eqb (length r.write) (length r.read)) (eqb (length r.dir) (length r.read)) (leb (n + A.combinations r.read) 262144) refl refl refl e
  where
    go : (a d c : Bool) → eqb (length r.write) (length r.read) ≡ a → eqb (length r.dir) (length r.read) ≡ d → leb (n + A.combinations r.read) 262144 ≡ c
        → elim (a && d) [ false ↦ A.wrong_arity | true ↦ elim c [ true ↦ A.expands | false ↦ A.too_many ] ] ≡ A.expands → Expands r
    go true true true p q s e =
        let f : n + A.combinations r.read ≤ 262144 = leb-true (n + A.combinations r.read) 262144 s in
        record { writes = eqb-true (length r.write) (length r.read) p; dirs = eqb-true (length r.dir) (length r.read) q; few = omega arith }
    go true true false p q s e = absurd (let z : ◌≡◌ {A = ℕ} 0 1 = cc in omega arith)
    go true false c p q s e = absurd (let z : ◌≡◌ {A = ℕ} 0 1 = cc in omega arith)
    go false d c p q s e = absurd (let z : ◌≡◌ {A = ℕ} 0 1 = cc in omega arith)

abbrev ExpandsRaw : A.RuleLine Place → Type 0
ExpandsRaw l = Expands l.raw

all-expand : (rs : List (A.RuleLine Place)) → A.rule_errors 0 false rs ≡ [] → Every ExpandsRaw rs
all-expand rs e =
    subst (Every ExpandsRaw) (kept-all 0 rs e) (kept_every (λ l. Unit {0}) ExpandsRaw (λ n l h v. verdict_expands n l.raw v) 0 rs (every_any (λ l. Unit {0}) (λ l. tt) rs))

-- the rules of the body are those of the lines, whatever comments are pending
abbrev Comments : Type 0
Comments = List (Located Place (List ℕ))

item_expands : (k : Item Place) (seen : Bool) (old block : Comments) (p : Place) (c : Option (Located Place (List ℕ))) (body : A.Body Place)
    → Every ExpandsRaw (A.attach_item (Columns.parts k).rule seen old block p c body).rules → ExpandsItem k × Every ExpandsRaw body.rules
unfolding A.attach_item A.add_header A.add_rule
item_expands (transition_item r) seen old block p c body e = e
item_expands (machine_item x) seen old block p c body e = (tt, e)
item_expands (kind_item x) seen old block p c body e = (tt, e)
item_expands (input_item x) seen old block p c body e = (tt, e)
item_expands (output_item x) seen old block p c body e = (tt, e)
item_expands (tapes_item x) seen old block p c body e = (tt, e)
item_expands (states_item x) seen old block p c body e = (tt, e)
item_expands (input_alphabet_item x) seen old block p c body e = (tt, e)
item_expands (tape_alphabet_item x) seen old block p c body e = (tt, e)
item_expands (blank_item x) seen old block p c body e = (tt, e)
item_expands (start_item x) seen old block p c body e = (tt, e)
item_expands (final_item x) seen old block p c body e = (tt, e)

lines-expand : (ls : List (Line Place)) (seen : Bool) (old block : Comments) → Every ExpandsRaw (A.attach seen old block ls).rules → Every ExpandsLine ls
unfolding A.attach
lines-expand [] seen old block e = tt
lines-expand (blank_line ∷ ls) seen old block e = (tt, lines-expand ls seen (old ++ block) [] e)
lines-expand (comment_line c ∷ ls) seen old block e = (tt, lines-expand ls seen old (block ++ c ∷ []) e)
lines-expand (error_line n p ∷ ls) seen old block e = (tt, lines-expand ls true [] [] e)
lines-expand (item_line k p c ∷ ls) seen old block e =
    let i = item_expands k seen old block p c (A.attach true [] [] ls) e in
    (i.0, lines-expand ls true [] [] i.1)

-- ---- all lines
shown_if : (text : List ℕ) (ts : List Token) (i : ℕ) (ls : List (Line Place)) → Lines (λ i l. ExpandsLine l → Shows text ts i l) ts i ls → Every ExpandsLine ls → Shown text ts i ls
shown_if text ts i [] (lines_end h) e = lines_end h
shown_if text ts i (l ∷ ls) (lines-on h m r) e = lines-on h (m e.0) (shown_if text ts (i + 1 + behind i (peek ts i)) ls r e.1)

module _ (text : List ℕ) (l : Tokens) (a : AllLexed l) (p : All (Placed text) l) where
  abbrev E : List Token
  E = entered (map token_of l)

  pub text_shown : length text < 2 ^ 32 → A.rule_errors 0 false (A.body_of (lines covering l)).rules ≡ [] → Shown text (entered (map token_of l)) 0 (lines covering l)
  unfolding entered A.body_of
  text_shown small e =
      shown_if text E 0 (lines covering l)
      (lines_from text E (λ i y. ExpandsLine y → Shows text E i y) (λ i t r a p d f. line_shows text E i t r a p d small f) (length l) 0 l (omega arith) a p (omega arith) refl)
      (lines-expand (lines covering l) false [] [] (all-expand (A.body_of (lines covering l)).rules e))

  pub text_said : AllMean (Said text (entered (map token_of l))) (entered (map token_of l)) (entries (entered (map token_of l))) (lines covering l)
  unfolding entered entries
  text_said =
      lines_mean (Said text E) (λ i y. Means (Said text E) (entry_at E i) y) E (λ i y m. m) 0 (lines covering l)
      (lines_from text E (λ i y. Means (Said text E) (entry_at E i) y)
      (λ i t r a p d. line_means_lem text E i t r a p d (Said text E) (λ x e. (item-mentions text E i t r a p d x e, item_parsed text E i t r a p d x e, refl)) (line (map token_of (t ∷ r)) 0) refl)
      (length l) 0 l (omega arith) a p (omega arith) refl)

-- ---- no diagnostics
last_empty : {X : Type 0} (a b : List X) → a ++ b ≡ [] → b ≡ []
last_empty [] b e = e
last_empty (x ∷ a) b e = absurd (let z : ◌≡◌ {A = ℕ} 0 1 = cc in omega arith)

pub no_rule_errors : (ls : List (Line Place)) → A.diagnostics_of ls ≡ [] → A.rule_errors 0 false (A.body_of ls).rules ≡ []
unfolding A.diagnostics_of
no_rule_errors ls e =
    let is = A.items ls in
    let r = A.rule_errors 0 false (A.body_of ls).rules in
    let f = A.final_errors (A.states_in is) [] (A.finals_in is) in
    let d = A.declaration_errors [] is in
    last_empty f r (last_empty d (f ++ r) (last_empty (A.line_errors ls) (d ++ (f ++ r)) e))
