-- Every answer to an admitted text is well formed: names, strings and comments stand where its places say, and its symbols are
-- characters of the text's set.
use Prim.Native.Nat.{ℕ, suc, ◌+◌, ◌-◌, ◌*◌, ◌<◌}
use native.Mathlib.Omega.{arith}
use mathlib.Core.Bool.{true}
use mathlib.Core.List.{List, [], ◌∷◌, ◌++◌, map}
use Rattle.std.specs.Prelude.{Option, None, Some}
use mathlib.Core.Path.{◌≡◌, refl, sym, ap, ap₂, subst, ◌∙◌}
use lib.ListN.{length, get_or, drop}
use Rattle.chars.specs.Utf8.{scalar, sizes, encode, decode}
use Rattle.chars.specs.Decoded.{scalars}
use Rattle.chars.proofs.Theorems.{decode-scalars, length-encode, valid_whole}
use Rattle.chars.proofs.Tests.{and_both}
use Rattle.lexer.specs.Tokens.{Span, closed, unescape}
use Rattle.machine.specs.declared.Decoder.{Decoder}
use Rattle.machine.specs.declared.Decoder.TheVariants.{Word, Unary, Binary}
use Rattle.machine.specs.declared.Head.{Head}
use Rattle.language.specs.Machine.{Located, State, Rule, Machine}
use Rattle.language.specs.Content.{content_of}
use Rattle.language.specs.Lines.{read_lines}
use Rattle.language.specs.Infer.{machine_of}
use Rattle.language.specs.Layout.{place_or_none, located_words, flat, head_of, state_words, rule_words, sheet_words}
use Rattle.language.specs.Agreement.{Answer, groups, records, place_at, action_in, characters_at, rule_in, content_of_answer}
use Rattle.language.specs.Outcome.{admitted, zeros, form_of}
use Rattle.language.proofs.Every as L
use Rattle.language.proofs.Every.{Maybe}
use Rattle.language.proofs.TokenPlaces.{Stands, stands_bytes, stands_at, encloses_value}
use Rattle.language.proofs.ParseSound.{GoodCode}
use Rattle.language.proofs.AssemblyHolds.{GoodRuleOf, GoodMachine}
use Rattle.language.proofs.AssemblySound.{GoodAction, GoodRule}
use Rattle.language.proofs.ContentSound.{GoodDecoder, GoodContent, content_good}
use Rattle.language.proofs.Facts.{facts_of, content_facts}
use Rattle.language.proofs.AnswerBack.{placed_in, groups_back, records_back, state-length, leading_words, sections, header_at, trailing_at, rules-at, sigma_on, header_on, trailing_on, rule_words_on, answer_back, machine_placed, answer_of_text}
use Rattle.language.proofs.RoundTrip.{admitted_fine, fine_scalars, read_good}
use Rattle.language.proofs.Claim.{is_short, is_valid}
use Rattle.language.specs.Plain.{plain}
use Rattle.form_strings.specs.Strings.{Whole}
use Rattle.form.specs.Answers.{answer}
use Rattle.form_lists.specs.Places.{Every, Utf8At, NameIn}
use Rattle.form_rules.specs.Formed.{RuleFormed}
use Rattle.form.specs.WellFormed.{DecoderFormed, WellFormed}
use Rattle.form_theorems.specs.Read.{machine_in, ReadAs}

-- ---- members

every_of : {A : Type 0} (p q : A → Type 0) → ((a : A) → p a → q a) → (l : List A) → L.Every p l → Every q l
every_of p q f [] h = tt
every_of p q f (a ∷ l) h = (f a h.0, every_of p q f l h.1)

every_map : {A B : Type 0} (p : A → Type 0) (q : B → Type 0) (g : A → B) → ((a : A) → p a → q (g a)) → (l : List A) → L.Every p l → Every q (map g l)
every_map p q g f [] h = tt
every_map p q g f (a ∷ l) h = (f a h.0, every_map p q g f l h.1)

every_back : {A B : Type 0} (q : B → Type 0) (g : A → B) (l : List A) → L.Every q (map g l) → L.Every (λ a. q (g a)) l
every_back q g [] h = tt
every_back q g (a ∷ l) h = (h.0, every_back q g l h.1)

both : {A : Type 0} (p q r : A → Type 0) → ((a : A) → p a → q a → r a) → (l : List A) → Every p l → L.Every q l → Every r l
both p q r f [] h k = tt
both p q r f (a ∷ l) h k = (f a h.0 k.0, both p q r f l h.1 k.1)

-- ---- places

-- the text: the bytes of cs
module _ (cs : List ℕ) (valid : scalars cs ≡ true) where
  stands_utf8 : (p : Span) (w : List ℕ) → Stands cs p w → Utf8At (encode cs) p
  stands_utf8 p w h = ap encode (stands_at cs p w valid h) ∙ sym (stands_bytes cs p w h)

  place_utf8 : (o : Option (Located Span (List ℕ))) → Maybe (λ l. Stands cs l.place l.value) o → Utf8At (encode cs) (place_or_none o)
  unfolding place_or_none characters_at decode encode
  place_utf8 None h = refl
  place_utf8 (Some l) h = stands_utf8 l.place l.value h

  string_whole : (o : Option (Located Span (List ℕ))) → Maybe (placed_in cs).text o → Whole (characters_at (encode cs) (place_or_none o))
  unfolding place_or_none characters_at decode unescape
  string_whole None h = refl
  string_whole (Some l) h =
      let raw : List ℕ = h.0 in
      subst Whole (sym (stands_at cs l.place raw valid h.2)) (h.1 ∙ ap (λ v. closed v (suc (length raw))) (sym (encloses_value raw l.value h.1)))

  note_utf8 : (l : Located Span (List ℕ)) → Stands cs l.place l.value → NameIn (encode cs) (located_words l)
  note_utf8 l h = stands_utf8 l.place l.value h

  state_utf8 : (s : State Span) → Stands cs s.name.place s.name.value → NameIn (encode cs) (state_words s)
  unfolding state_words
  state_utf8 s h = stands_utf8 s.name.place s.name.value h

  -- a rule's names and comments
  record PlacesFormed (ws : List ℕ) : Type 0 where
    from : Utf8At (encode cs) (place_at ws 1)
    to : Utf8At (encode cs) (place_at ws 3)
    comment : Utf8At (encode cs) (place_at ws 7)
    leading : Every (NameIn (encode cs)) (groups 2 (get_or ws 10 0) (drop (11 + 7 * get_or ws 9 0) ws))

  rule-places : (r : Rule Span) → GoodRuleOf (placed_in cs) r → PlacesFormed (rule_words r)
  unfolding rule_words
  rule-places r h = record {
    from = stands_utf8 r.from.place r.from.value h.from_good;
    to = stands_utf8 r.to.place r.to.value h.to_good;
    comment = place_utf8 r.comment h.comment_good;
    leading = subst (Every (NameIn (encode cs))) (sym (leading_words r)) (every_map _ (NameIn (encode cs)) located_words note_utf8 r.leading h.leading_good);
  }

-- ---- symbols

codes-scalar : (l : List ℕ) → L.Every GoodCode l → scalars l ≡ true
codes-scalar l h = fine_scalars l (L.every_impl GoodCode _ (λ c k. k.1) l h)

code-scalar : (c : ℕ) → GoodCode c → scalar c ≡ true
unfolding scalars
code-scalar c h = (and_both (scalar c) true (codes-scalar (c ∷ []) (h, tt))).0

decoder-formed : (d : Decoder) → GoodDecoder d → DecoderFormed d
decoder-formed Word h = tt
decoder-formed (Unary c) h = code-scalar c h
decoder-formed (Binary o) h = tt

-- what a rule reads and writes
module _ (gs : List (List ℕ)) (h : L.Every GoodAction (map action_in gs)) where
  reads-scalar : scalars (map (λ g. get_or g 0 0) gs) ≡ true
  unfolding action_in
  reads-scalar = codes-scalar (map (λ g. get_or g 0 0) gs) (L.every_map (λ g. GoodAction (action_in g)) GoodCode (λ g. get_or g 0 0) (λ g k. k.0) gs (every_back GoodAction action_in gs h))

  writes-scalar : scalars (map (λ g. get_or g 3 0) gs) ≡ true
  unfolding action_in
  writes-scalar = codes-scalar (map (λ g. get_or g 3 0) gs) (L.every_map (λ g. GoodAction (action_in g)) GoodCode (λ g. get_or g 3 0) (λ g k. k.1) gs (every_back GoodAction action_in gs h))

-- ---- the whole answer

module _ (cs : List ℕ) (valid : scalars cs ≡ true) (short : sizes cs < 4294967295) (m : Machine Span) (good : GoodMachine (placed_in cs) m) (fine : GoodContent (content_of m)) (rest : List ℕ) where
  abbrev answered : Answer
  answered = record { head = head_of m; sheet = sheet_words m ++ rest; text = encode cs }

  -- the records of its rules
  abbrev rule_rows : List (List ℕ)
  rule_rows = records (length m.rules) (drop (2 * length m.trailing) (drop (2 * length m.header) (drop (3 * length m.gamma + 2 * length m.finals) (drop (3 * length m.sigma) (drop (3 * length m.states) (sheet_words m ++ rest))))))

  back : content_of_answer answered ≡ content_of m
  back = answer_back cs valid short m good rest

  rule-formed : (ws : List ℕ) → PlacesFormed cs valid ws → GoodRule (rule_in (encode cs) ws) → RuleFormed (encode cs) ws
  unfolding rule_in
  rule-formed ws p g = record {
    from = p.from;
    to = p.to;
    comment = p.comment;
    reads = reads-scalar (groups 7 (get_or ws 9 0) (drop 11 ws)) g.rule-actions;
    writes = writes-scalar (groups 7 (get_or ws 9 0) (drop 11 ws)) g.rule-actions;
    leading = p.leading;
  }

  notes_utf8 : (l : List (Located Span (List ℕ))) (more ws : List ℕ) → ws ≡ flat located_words l ++ more → L.Every (λ n. Stands cs n.place n.value) l → Every (NameIn (encode cs)) (groups 2 (length l) ws)
  notes_utf8 l more ws e h =
      subst (Every (NameIn (encode cs))) (sym (ap (groups 2 (length l)) e ∙ groups_back located_words 2 (λ n. refl) l more))
      (every_map _ (NameIn (encode cs)) located_words (note_utf8 cs valid) l h)

  states_utf8 : Every (NameIn (encode cs)) (groups 3 (length m.states) (sheet_words m ++ rest))
  states_utf8 =
      subst (Every (NameIn (encode cs)))
      (sym (ap (groups 3 (length m.states)) (sections cs valid short m good rest) ∙ groups_back state_words 3 state-length m.states (sigma_on cs valid short m good rest)))
      (every_map _ (NameIn (encode cs)) state_words (state_utf8 cs valid) m.states good.states_good)

  pub answer-formed : WellFormed answered
  unfolding head_of content_of content_of_answer header_on trailing_on rule_words_on
  answer-formed = record {
    head_part = record {
      name = string_whole cs valid m.name good.name_good;
      input = string_whole cs valid m.input good.input_good;
      output = decoder-formed m.output fine.c_output;
    };
    declared_part = record {
      names = states_utf8;
      sigma_codes = λ d. ap (λ c. scalars c.sigma) back ∙ codes-scalar (content_of m).sigma (fine.c_sigma d);
      gamma_codes = λ d. ap (λ c. scalars c.gamma) back ∙ codes-scalar (content_of m).gamma (fine.c_gamma d);
      blank = code-scalar m.blank fine.c_blank;
      start = place_utf8 cs valid m.start good.start_good;
    };
    body_part = record {
      header_texts = notes_utf8 m.header (trailing_on cs valid short m good rest) _ (header_at cs valid short m good rest) good.header_good;
      trailing_texts = notes_utf8 m.trailing (rule_words_on cs valid short m good rest) _ (trailing_at cs valid short m good rest) good.trailing_good;
      rule_records = both (PlacesFormed cs valid) (λ ws. GoodRule (rule_in (encode cs) ws)) (RuleFormed (encode cs)) rule-formed rule_rows
          (subst (Every (PlacesFormed cs valid)) (sym (ap (records (length m.rules)) (rules-at cs valid short m good rest) ∙ records_back m.rules rest))
          (every_map _ (PlacesFormed cs valid) rule_words (rule-places cs valid) m.rules good.rules_good))
          (every_back GoodRule (rule_in (encode cs)) rule_rows (subst (λ c. L.Every GoodRule c.rules) (sym back) fine.c_rules));
    };
  }

-- the answer to an admitted text, whatever stands behind the words of its sheet
pub text_formed : (t rest : List ℕ) → admitted t ≡ true
    → WellFormed (record { head = head_of (machine_of (read_lines (decode t))); sheet = sheet_words (machine_of (read_lines (decode t))) ++ rest; text = t })
text_formed t rest h =
    let m : Machine Span = machine_of (read_lines (decode t)) in
    let whole : encode (decode t) ≡ t = valid_whole t (is_valid t h) in
    let short : sizes (decode t) < 4294967295 = omega (arith, is_short t h, sym (length-encode (decode t)), ap length whole) in
    let fine : GoodContent (content_of m) = subst GoodContent (sym (content_facts (read_lines (decode t)))) (content_good (facts_of (read_lines (decode t))) (read_good (decode t) (admitted_fine t h))) in
    subst (λ x. WellFormed (record { head = head_of m; sheet = sheet_words m ++ rest; text = x })) whole (answer-formed (decode t) (decode-scalars t) short m (machine_placed (decode t)) fine rest)

-- what a caller has who read a text as a machine
module _ (t : List ℕ) (head : Head) (sheet : List ℕ) (r : ReadAs t head sheet) where
  -- the words behind the sheet's
  rest : List ℕ
  rest = zeros (length sheet - length (sheet_words (machine_in t)))

  answer_is : answer head sheet t ≡ record { head = head_of (machine_in t); sheet = sheet_words (machine_in t) ++ rest; text = t }
  unfolding rest
  answer_is = ap₂ (λ (h : Head) (s : List ℕ). record { head = h; sheet = s; text = t }) r.head_is r.sheet_is

  -- the answer is as `plain_form` asks
  pub read-formed : WellFormed (answer head sheet t)
  read-formed = subst WellFormed (sym answer_is) (text_formed t rest r.is_admitted)

  -- what `plain_form` writes is the text's form
  pub read-form : encode (plain (content_of_answer (answer head sheet t))) ≡ form_of t
  unfolding form_of
  read-form =
      ap (λ a. encode (plain (content_of_answer a))) answer_is ∙
      ap (λ c. encode (plain c)) (answer_of_text t rest (is_valid t r.is_admitted) (omega (arith, is_short t r.is_admitted)))
