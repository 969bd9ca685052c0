-- The machine of an admitted text: its symbols are code points, and each name is a part of the text.
use Prim.Native.Nat.{ℕ, ◌+◌, ◌≤◌}
use native.Mathlib.Omega.{arith}
use mathlib.Core.Bool.{true, ◌&&◌}
use mathlib.Core.List.{List, [], ◌∷◌, ◌++◌, map}
use mathlib.Core.Path.{◌≡◌, sym, ap, subst}
use borrow.Author.Tests.{ltb-true}
use lib.Dec.{leb, ltb}
use lib.ListN.{length}
use Rattle.std.specs.Prelude.{Option, None, Some}
use Rattle.chars.specs.Utf8.{scalar, sizes, decode, encode}
use Rattle.chars.specs.Decoded.{scalars}
use Rattle.chars.proofs.Theorems.{length-encode, sizes-append, valid_whole}
use Rattle.lexer.specs.Tokens.{Span}
use Rattle.language.specs.Machine.{Located, Machine}
use Rattle.language.specs.Content.{RuleContent, value_or, rule_content, content_of}
use Rattle.language.specs.Lines.{read_lines}
use Rattle.language.specs.Infer.{machine_of}
use Rattle.language.specs.Outcome.{admitted}
use Rattle.language.proofs.Every.{by_test, Every, Maybe, and_left, and_right, every_impl, every_map}
use Rattle.language.proofs.TokenPlaces.{Stands}
use Rattle.language.proofs.ParseSound.{GoodCode}
use Rattle.language.proofs.AssemblyHolds.{GoodRuleOf}
use Rattle.language.proofs.AssemblySound.{GoodAction, GoodRule}
use Rattle.language.proofs.ContentSound.{GoodContent, content_good}
use Rattle.language.proofs.Facts.{facts_of, content_facts}
use Rattle.language.proofs.AnswerBack.{placed_in, machine_placed}
use Rattle.language.proofs.RoundTrip.{admitted_fine, fine_scalars, read_good}
use Rattle.language.proofs.Claim.{is_valid}
use Rattle.running.specs.Batch.{content_of_text}
use Rattle.run_room.proofs.Kept.{Code, RuleBound, Bound}

-- ---- code points

scalar_code : (c : ℕ) → scalar c ≡ true → Code c
unfolding scalar
scalar_code c e = by_test (ltb c 0xD800)
    (λ t. let l = ltb-true c 0xD800 t in omega arith)
    (λ t. let f : (leb 0xE000 c && ltb c 0x110000) ≡ true = rw t at e in ltb-true c 0x110000 (and_right (leb 0xE000 c) (ltb c 0x110000) f))

scalars_codes : (cs : List ℕ) → scalars cs ≡ true → Every Code cs
unfolding scalars
scalars_codes [] e = tt
scalars_codes (c ∷ cs) e =
    (scalar_code c (and_left (scalar c) (scalars cs) e), scalars_codes cs (and_right (scalar c) (scalars cs) e))

good_code : (c : ℕ) → GoodCode c → Code c
good_code c h = (scalars_codes (c ∷ []) (fine_scalars (c ∷ []) (h.1, tt))).0

both : {A : Type 0} (p q r : A → Type 0) → ((a : A) → p a → q a → r a) → (l : List A) → Every p l → Every q l → Every r l
both p q r f [] h k = tt
both p q r f (a ∷ l) h k = (f a h.0 k.0, both p q r f l h.1 k.1)

-- ---- names

module _ (t : List ℕ) (ok : admitted t ≡ true) where
  abbrev cs : List ℕ
  cs = decode t

  abbrev m : Machine Span
  m = machine_of (read_lines cs)

  -- what stands in the text is no longer than it
  part_short : (p : Span) (w : List ℕ) → Stands cs p w → length (encode w) ≤ length t
  part_short p w h = omega (
    arith,
    length-encode w,
    length-encode cs,
    ap length (valid_whole t (is_valid t ok)),
    ap sizes h.parts,
    sizes-append h.before (w ++ h.behind),
    sizes-append w h.behind,
  )

  start_part : (o : Option (Located Span (List ℕ))) → Maybe (λ l. Stands cs l.place l.value) o → length (encode (value_or o)) ≤ length t
  unfolding value_or encode
  start_part None h = omega arith
  start_part (Some l) h = part_short l.place l.value h

  fine : GoodContent (content_of m)
  fine = subst GoodContent (sym (content_facts (read_lines cs))) (content_good (facts_of (read_lines cs)) (read_good cs (admitted_fine t ok)))

  -- the next state of each rule
  tos_short : Every (λ r. length (encode r.to) ≤ length t) (map rule_content m.rules)
  unfolding rule_content
  tos_short = every_map (GoodRuleOf (placed_in cs)) (λ r. length (encode r.to) ≤ length t) rule_content
      (λ r g. part_short r.to.place r.to.value g.to_good) m.rules (machine_placed cs).rules_good

  rule_bound : (r : RuleContent) → GoodRule r → length (encode r.to) ≤ length t → RuleBound (length t) r
  rule_bound r g k =
      record { writes = every_impl GoodAction (λ a. Code a.write) (λ a h. good_code a.write h.1) r.actions g.rule-actions; to_short = k }

  pub text_bound : Bound (length t) (content_of_text t)
  unfolding content_of_text content_of
  text_bound = record {
    blank_code = good_code m.blank fine.c_blank;
    input_codes = scalars_codes (content_of m).input (fine_scalars (content_of m).input fine.c_input);
    start_short = start_part m.start (machine_placed cs).start_good;
    rules_bound = both GoodRule (λ r. length (encode r.to) ≤ length t) (RuleBound (length t)) rule_bound (map rule_content m.rules) fine.c_rules tos_short;
  }
