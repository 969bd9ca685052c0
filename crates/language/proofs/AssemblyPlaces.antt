-- Places do not steer assembly either: the facts and the codes of the diagnostics are those of the lines without places.
use Prim.Native.Nat.{ℕ, ◌+◌, ◌*◌}
use mathlib.Core.Bool.{Bool, true, false, ◌&&◌}
use mathlib.Core.List.{List, [], ◌∷◌, ◌++◌, map, map-map}
use Rattle.std.specs.Prelude.{Option, None, Some, unwrap_or, option_to_list}
use mathlib.Core.Path.{◌≡◌, refl, ap, ap₂, ◌∙◌, sym}
use lib.Dec.{eqb, leb}
use lib.ListN.{length-map}
use Rattle.lexer.specs.Text.{same}
use Rattle.language.specs.Machine.{Located, Dir, Action}
use Rattle.language.specs.Content.{ActionContent, optional, values, rule_content}
use Rattle.language.specs.Lines.{RawSymbol, raw_blank, RawTransition, Item, machine_item, input_item, kind_item, output_item, tapes_item, states_item, final_item, input_alphabet_item, tape_alphabet_item, blank_item, start_item, transition_item, Line, blank_line, comment_line, item_line, error_line}
use Rattle.language.specs.Assembly.{items, first, found, resolve, blank_of, states_in, finals_in, RuleLine, Body, add_header, add_rule, at_end, leads, unled, attach_item, attach, body_of, combinations, Verdict, expands, wrong_arity, too_many, verdict, kept, each_front, choices, written, actions, rule_of, dressed, expand, expand_all, Diagnostic, diagnostic, line_errors, declaration, is_number, declared_at, earlier, tapes_error, declaration_error, declaration_errors, listed_at, unknown_error, final_error, final_errors, rule_errors, diagnostics_of}
use Rattle.language.proofs.Columns.{Parts, parts, select}
use Rattle.language.proofs.Every.{by_test}
use Rattle.language.proofs.Facts.{map_option, facts_from, facts_of, map-append}
use Rattle.language.proofs.ParsePlaces.{on_loc, on_text, on_raw, on_item, on_line}

pub found_none : {P A : Type 0} (part : Parts P → Option A) (i : Located P (Item P)) (is : List (Located P (Item P))) → part (parts i.value) ≡ None → found (first (select part) (i ∷ is)) ≡ found (first (select part) is)
unfolding first
found_none part i is e = rw (e, first)

pub found_some : {P A : Type 0} (part : Parts P → Option A) (i : Located P (Item P)) (is : List (Located P (Item P))) {a : A} → part (parts i.value) ≡ Some a → found (first (select part) (i ∷ is)) ≡ Some a
unfolding first found
found_some part i is e = rw (e, first)

module _ {P : Type 0} (n : ℕ) (r : RuleLine P) (rs : List (RuleLine P)) where
  pub kept_expands : verdict n r.raw ≡ expands → kept n (r ∷ rs) ≡ r ∷ kept (n + combinations r.raw.read) rs
  unfolding kept
  kept_expands e = rw (e, kept)

  pub kept_arity : verdict n r.raw ≡ wrong_arity → kept n (r ∷ rs) ≡ kept n rs
  unfolding kept
  kept_arity e = rw (e, kept)

  pub kept_many : verdict n r.raw ≡ too_many → kept n (r ∷ rs) ≡ kept n rs
  unfolding kept
  kept_many e = rw (e, kept)

each_natural : {A B : Type 0} (g : A → B) (s : List A) (ls : List (List A)) → each_front (map g s) (map (map g) ls) ≡ map (map g) (each_front s ls)
unfolding each_front
each_natural g [] ls = refl
each_natural g (a ∷ s) ls =
    ap₂ (λ x y. x ++ y) (map-map (λ l. g a ∷ l) (map g) ls ∙ sym (map-map (map g) (λ l. a ∷ l) ls)) (each_natural g s ls)
    ∙ sym (map-append (map g) (map (λ l. a ∷ l) ls) (each_front s ls))

pub choices_natural : {A B : Type 0} (g : A → B) (ss : List (List A)) → choices (map (map g) ss) ≡ map (map g) (choices ss)
unfolding choices
choices_natural g [] = refl
choices_natural g (s ∷ ss) = ap (each_front (map g s)) (choices_natural g ss) ∙ each_natural g s (choices ss)

declared_yes : {P : Type 0} (n : ℕ) (i : Located P (Item P)) (is : List (Located P (Item P))) → is_number n (declaration i.value) ≡ true → declared_at n (i ∷ is) ≡ Some i.place
unfolding declared_at
declared_yes n i is e = rw (e, declared_at)

declared_no : {P : Type 0} (n : ℕ) (i : Located P (Item P)) (is : List (Located P (Item P))) → is_number n (declaration i.value) ≡ false → declared_at n (i ∷ is) ≡ declared_at n is
unfolding declared_at
declared_no n i is e = rw (e, declared_at)

module _ {P : Type 0} where
  twice_none : (before : List (Located P (Item P))) (i : Located P (Item P)) → earlier (declaration i.value) before ≡ None → declaration_error before i ≡ tapes_error (parts i.value).tapes
  unfolding declaration_error
  twice_none before i e = rw (e, declaration_error)

  twice_some : (before : List (Located P (Item P))) (i : Located P (Item P)) (p : P) → earlier (declaration i.value) before ≡ Some p → declaration_error before i ≡ diagnostic 11 i.place (Some p) ∷ []
  unfolding declaration_error
  twice_some before i p e = rw (e, declaration_error)

  listed_yes : (w : List ℕ) (x : Located P (List ℕ)) (l : List (Located P (List ℕ))) → same x.value w ≡ true → listed_at w (x ∷ l) ≡ Some x.place
  unfolding listed_at
  listed_yes w x l e = rw (e, listed_at)

  listed_no : (w : List ℕ) (x : Located P (List ℕ)) (l : List (Located P (List ℕ))) → same x.value w ≡ false → listed_at w (x ∷ l) ≡ listed_at w l
  unfolding listed_at
  listed_no w x l e = rw (e, listed_at)

  unknown_absent : (q : List (Located P (List ℕ))) (x : Located P (List ℕ)) → listed_at x.value q ≡ None → unknown_error (Some q) x ≡ diagnostic 3 x.place None ∷ []
  unfolding unknown_error
  unknown_absent q x e = rw (e, unknown_error)

  unknown_there : (q : List (Located P (List ℕ))) (x : Located P (List ℕ)) (p : P) → listed_at x.value q ≡ Some p → unknown_error (Some q) x ≡ []
  unfolding unknown_error
  unknown_there q x p e = rw (e, unknown_error)

  final_new : (q : Option (List (Located P (List ℕ)))) (before : List (Located P (List ℕ))) (x : Located P (List ℕ)) → listed_at x.value before ≡ None → final_error q before x ≡ unknown_error q x
  unfolding final_error
  final_new q before x e = rw (e, final_error)

  final_repeat : (q : Option (List (Located P (List ℕ)))) (before : List (Located P (List ℕ))) (x : Located P (List ℕ)) (p : P) → listed_at x.value before ≡ Some p → final_error q before x ≡ diagnostic 11 x.place (Some p) ∷ []
  unfolding final_error
  final_repeat q before x p e = rw (e, final_error)

module _ {P : Type 0} (n : ℕ) (r : RuleLine P) (rs : List (RuleLine P)) where
  pub error_expands : (cut : Bool) → verdict n r.raw ≡ expands → rule_errors n cut (r ∷ rs) ≡ rule_errors (n + combinations r.raw.read) cut rs
  unfolding rule_errors
  error_expands cut e = rw (e, rule_errors)

  pub error_arity : (cut : Bool) → verdict n r.raw ≡ wrong_arity → rule_errors n cut (r ∷ rs) ≡ diagnostic 10 r.line None ∷ rule_errors n cut rs
  unfolding rule_errors
  error_arity cut e = rw (e, rule_errors)

  pub error_many : verdict n r.raw ≡ too_many → rule_errors n false (r ∷ rs) ≡ diagnostic 9 r.line None ∷ rule_errors n true rs
  unfolding rule_errors
  error_many e = rw (e, rule_errors)

  error_more : verdict n r.raw ≡ too_many → rule_errors n true (r ∷ rs) ≡ rule_errors n true rs
  unfolding rule_errors
  error_more e = rw (e, rule_errors)

four-append : {A B : Type 0} (g : A → B) (a b c d : List A) → map g (a ++ (b ++ (c ++ d))) ≡ map g a ++ (map g b ++ (map g c ++ map g d))
four-append g a b c d = map-append g a (b ++ (c ++ d)) ∙ ap (λ t. map g a ++ t) (map-append g b (c ++ d) ∙ ap (λ t. map g b ++ t) (map-append g c d))

-- a verdict from the numbers of entries written, read and moved, and of rules
abbrev judge : ℕ → ℕ → ℕ → ℕ → Verdict
judge w r d n = elim (eqb w r && eqb d r) [ false ↦ wrong_arity | true ↦ elim (leb n 262144) [ true ↦ expands | false ↦ too_many ] ]

module _ {P Q : Type 0} (f : P → Q) where
  -- ---- declarations

  abbrev on_items : Located P (Item P) → Located Q (Item Q)
  on_items i = record { value = on_item f i.value; place = f i.place }

  abbrev on_parts : Parts P → Parts Q
  on_parts p = record {
    machine = map_option (on_text f) p.machine;
    kind = p.kind;
    input = map_option (on_text f) p.input;
    output = p.output;
    tapes = map_option (on_loc f) p.tapes;
    states = map_option (map (on_loc f)) p.states;
    sigma = map_option (map (on_loc f)) p.sigma;
    gamma = map_option (map (on_loc f)) p.gamma;
    blank = p.blank;
    start = map_option (on_loc f) p.start;
    finals = map_option (map (on_loc f)) p.finals;
    rule = map_option (on_raw f) p.rule;
  }

  parts_natural : (i : Item P) → parts (on_item f i) ≡ on_parts (parts i)
  parts_natural (machine_item x) = refl
  parts_natural (kind_item x) = refl
  parts_natural (input_item x) = refl
  parts_natural (output_item x) = refl
  parts_natural (tapes_item x) = refl
  parts_natural (states_item x) = refl
  parts_natural (input_alphabet_item x) = refl
  parts_natural (tape_alphabet_item x) = refl
  parts_natural (blank_item x) = refl
  parts_natural (start_item x) = refl
  parts_natural (final_item x) = refl
  parts_natural (transition_item x) = refl

  items_natural : (ls : List (Line P)) → items (map (on_line f) ls) ≡ map on_items (items ls)
  unfolding items
  items_natural [] = refl
  items_natural (blank_line ∷ ls) = items_natural ls
  items_natural (comment_line c ∷ ls) = items_natural ls
  items_natural (error_line n p ∷ ls) = items_natural ls
  items_natural (item_line i p c ∷ ls) = ap (λ t. record { value = on_item f i; place = f p } ∷ t) (items_natural ls)

  -- what is found is the same, seen through g
  found_natural : {A B : Type 0} (part : Parts P → Option A) (part' : Parts Q → Option B) (g : A → B) → ((p : Parts P) → part' (on_parts p) ≡ map_option g (part p))
      → (is : List (Located P (Item P))) → found (first (select part') (map on_items is)) ≡ map_option g (found (first (select part) is))
  unfolding first found
  found_natural part part' g e [] = refl
  found_natural part part' g e (i ∷ is) = go (part (parts i.value)) refl (found_natural part part' g e is)
    where
      seen : (o : Option _) → part (parts i.value) ≡ o → part' (parts (on_item f i.value)) ≡ map_option g o
      seen o h = ap part' (parts_natural i.value) ∙ (e (parts i.value) ∙ ap (map_option g) h)

      go : (o : Option _) → part (parts i.value) ≡ o → found (first (select part') (map on_items is)) ≡ map_option g (found (first (select part) is)) → found (first (select part') (map on_items (i ∷ is))) ≡ map_option g (found (first (select part) (i ∷ is)))
      go None h r = found_none part' (on_items i) (map on_items is) (seen None h) ∙ (r ∙ sym (ap (map_option g) (found_none part i is h)))
      go (Some a) h r = found_some part' (on_items i) (map on_items is) (seen (Some a) h) ∙ sym (ap (map_option g) (found_some part i is h))

  -- ---- comments and rules

  abbrev on_rule_line : RuleLine P → RuleLine Q
  on_rule_line r = record { raw = on_raw f r.raw; line = f r.line; comment = map_option (on_loc f) r.comment; leading = map (on_loc f) r.leading }

  abbrev on_body : Body P → Body Q
  on_body b = record { header = map (on_loc f) b.header; rules = map on_rule_line b.rules; trailing = map (on_loc f) b.trailing }

  abbrev Comments : Type 0
  Comments = List (Located P (List ℕ))

  end_natural : (seen : Bool) (cs : Comments) → at_end seen (map (on_loc f) cs) ≡ on_body (at_end seen cs)
  unfolding at_end
  end_natural true cs = refl
  end_natural false cs = refl

  leads_natural : (seen : Bool) (old block : Comments) → leads seen (map (on_loc f) old) (map (on_loc f) block) ≡ map (on_loc f) (leads seen old block)
  unfolding leads
  leads_natural true old block = sym (map-append (on_loc f) old block)
  leads_natural false old block = refl

  unled_natural : (seen : Bool) (old : Comments) → unled seen (map (on_loc f) old) ≡ map (on_loc f) (unled seen old)
  unfolding unled
  unled_natural true old = refl
  unled_natural false old = refl

  own_natural : (c : Option (Located P (List ℕ))) → option_to_list (map_option (on_loc f) c) ≡ map (on_loc f) (option_to_list c)
  own_natural None = refl
  own_natural (Some c) = refl

  header_natural : (h : Comments) (b : Body P) → add_header (map (on_loc f) h) (on_body b) ≡ on_body (add_header h b)
  unfolding add_header
  header_natural h b = ap (λ t. record { header = t; rules = map on_rule_line b.rules; trailing = map (on_loc f) b.trailing }) (sym (map-append (on_loc f) h b.header))

  attach_item_lem : (o : Option (RawTransition P)) (seen : Bool) (old block : Comments) (p : P) (c : Option (Located P (List ℕ))) (b : Body P)
      → attach_item (map_option (on_raw f) o) seen (map (on_loc f) old) (map (on_loc f) block) (f p) (map_option (on_loc f) c) (on_body b) ≡ on_body (attach_item o seen old block p c b)
  unfolding attach_item
  attach_item_lem None seen old block p c b =
      ap (λ h. add_header h (on_body b)) (ap₂ (λ x y. x ++ y) (sym (map-append (on_loc f) old block)) (own_natural c) ∙ sym (map-append (on_loc f) (old ++ block) (option_to_list c)))
      ∙ header_natural (old ++ block ++ option_to_list c) b
  attach_item_lem (Some r) seen old block p c b =
      ap₂ (λ h l. add_header h (add_rule (record { raw = on_raw f r; line = f p; comment = map_option (on_loc f) c; leading = l }) (on_body b))) (unled_natural seen old) (leads_natural seen old block)
      ∙ header_natural (unled seen old) (add_rule (record { raw = r; line = p; comment = c; leading = leads seen old block }) b)

  attach_natural : (seen : Bool) (old block : Comments) (ls : List (Line P)) → attach seen (map (on_loc f) old) (map (on_loc f) block) (map (on_line f) ls) ≡ on_body (attach seen old block ls)
  unfolding attach
  attach_natural seen old block [] = ap (at_end seen) (sym (map-append (on_loc f) old block)) ∙ end_natural seen (old ++ block)
  attach_natural seen old block (blank_line ∷ ls) = ap (λ t. attach seen t [] (map (on_line f) ls)) (sym (map-append (on_loc f) old block)) ∙ attach_natural seen (old ++ block) [] ls
  attach_natural seen old block (comment_line c ∷ ls) =
      ap (λ t. attach seen (map (on_loc f) old) t (map (on_line f) ls)) (sym (map-append (on_loc f) block (c ∷ []))) ∙ attach_natural seen old (block ++ c ∷ []) ls
  attach_natural seen old block (error_line n p ∷ ls) = attach_natural true [] [] ls
  attach_natural seen old block (item_line i p c ∷ ls) =
      ap₂ (λ o b. attach_item o seen (map (on_loc f) old) (map (on_loc f) block) (f p) (map_option (on_loc f) c) b) (ap (λ q. q.rule) (parts_natural i)) (attach_natural true [] [] ls)
      ∙ attach_item_lem (parts i).rule seen old block p c (attach true [] [] ls)

  body_natural : (ls : List (Line P)) → body_of (map (on_line f) ls) ≡ on_body (body_of ls)
  unfolding body_of
  body_natural ls = attach_natural false [] [] ls

  combinations_natural : {A : Type 0} (ss : List (List (Located P A))) → combinations (map (map (on_loc f)) ss) ≡ combinations ss
  unfolding combinations
  combinations_natural [] = refl
  combinations_natural (s ∷ ss) = ap₂ (λ a b. a * b) (length-map s (on_loc f)) (combinations_natural ss)

  verdict_natural : (n : ℕ) (r : RawTransition P) → verdict n (on_raw f r) ≡ verdict n r
  unfolding verdict
  verdict_natural n r = λ i. judge (length-map r.write (on_loc f) i) (length-map r.read (map (on_loc f)) i) (length-map r.dir (on_loc f) i) (n + combinations_natural r.read i)

  kept_case : (n : ℕ) (r : RuleLine P) (rs : List (RuleLine P)) (v : Verdict) → verdict n r.raw ≡ v → ((k : ℕ) → kept k (map on_rule_line rs) ≡ map on_rule_line (kept k rs))
      → kept n (map on_rule_line (r ∷ rs)) ≡ map on_rule_line (kept n (r ∷ rs))
  kept_case n r rs expands e h =
      kept_expands n (on_rule_line r) (map on_rule_line rs) (verdict_natural n r.raw ∙ e)
      ∙ (ap (λ t. on_rule_line r ∷ t) (ap (λ k. kept (n + k) (map on_rule_line rs)) (combinations_natural r.raw.read) ∙ h (n + combinations r.raw.read)) ∙ sym (ap (map on_rule_line) (kept_expands n r rs e)))
  kept_case n r rs wrong_arity e h = kept_arity n (on_rule_line r) (map on_rule_line rs) (verdict_natural n r.raw ∙ e) ∙ (h n ∙ sym (ap (map on_rule_line) (kept_arity n r rs e)))
  kept_case n r rs too_many e h = kept_many n (on_rule_line r) (map on_rule_line rs) (verdict_natural n r.raw ∙ e) ∙ (h n ∙ sym (ap (map on_rule_line) (kept_many n r rs e)))

  kept_natural : (n : ℕ) (rs : List (RuleLine P)) → kept n (map on_rule_line rs) ≡ map on_rule_line (kept n rs)
  unfolding kept
  kept_natural n [] = refl
  kept_natural n (r ∷ rs) = kept_case n r rs (verdict n r.raw) refl (λ k. kept_natural k rs)

  -- ---- expansion

  abbrev act : {R : Type 0} → Action R → ActionContent
  act a = record { read = a.read.value; write = a.write.value; dir = a.dir }

  actions_natural : (b : ℕ) (rs : List (Located P RawSymbol)) (ws : List (Located P (Option RawSymbol))) (ds : List (Located P Dir))
      → map act (actions b (map (on_loc f) rs) (map (on_loc f) ws) (map (on_loc f) ds)) ≡ map act (actions b rs ws ds)
  unfolding actions
  actions_natural b [] ws ds = refl
  actions_natural b (r ∷ rs) [] ds = refl
  actions_natural b (r ∷ rs) (w ∷ ws) [] = refl
  actions_natural b (r ∷ rs) (w ∷ ws) (d ∷ ds) = ap (λ t. record { read = resolve b r.value; write = written b r.value w.value; dir = d.value } ∷ t) (actions_natural b rs ws ds)

  optional_natural : (c : Option (Located P (List ℕ))) → optional (map_option (on_loc f) c) ≡ optional c
  unfolding optional
  optional_natural None = refl
  optional_natural (Some c) = refl

  values_natural : {A : Type 0} (l : List (Located P A)) → values (map (on_loc f) l) ≡ values l
  unfolding values
  values_natural l = map-map (λ x. x.value) (on_loc f) l

  rule_natural : (b : ℕ) (l : RuleLine P) (c : Option (Located P (List ℕ))) (cs : List (Located P (List ℕ))) (rs : List (Located P RawSymbol))
      → rule_content (rule_of b (on_rule_line l) (map_option (on_loc f) c) (map (on_loc f) cs) (map (on_loc f) rs)) ≡ rule_content (rule_of b l c cs rs)
  unfolding rule_of rule_content
  rule_natural b l c cs rs = λ i. record {
    from = l.raw.from.value;
    to = l.raw.to.value;
    comment = optional_natural c i;
    leading = values_natural cs i;
    actions = actions_natural b rs l.raw.write l.raw.dir i;
  }

  more_natural : (b : ℕ) (l : RuleLine P) (css : List (List (Located P RawSymbol)))
      → map rule_content (map (rule_of b (on_rule_line l) None []) (map (map (on_loc f)) css)) ≡ map rule_content (map (rule_of b l None []) css)
  more_natural b l [] = refl
  more_natural b l (rs ∷ css) = ap₂ (λ x y. x ∷ y) (rule_natural b l None [] rs) (more_natural b l css)

  dressed_natural : (b : ℕ) (l : RuleLine P) (css : List (List (Located P RawSymbol))) → map rule_content (dressed b (on_rule_line l) (map (map (on_loc f)) css)) ≡ map rule_content (dressed b l css)
  unfolding dressed
  dressed_natural b l [] = refl
  dressed_natural b l (rs ∷ css) = ap₂ (λ x y. x ∷ y) (rule_natural b l l.comment l.leading rs) (more_natural b l css)

  expand_natural : (b : ℕ) (l : RuleLine P) → map rule_content (expand b (on_rule_line l)) ≡ map rule_content (expand b l)
  unfolding expand
  expand_natural b l = ap (λ t. map rule_content (dressed b (on_rule_line l) t)) (choices_natural (on_loc f) l.raw.read) ∙ dressed_natural b l (choices l.raw.read)

  expand_all_natural : (b : ℕ) (ls : List (RuleLine P)) → map rule_content (expand_all b (map on_rule_line ls)) ≡ map rule_content (expand_all b ls)
  unfolding expand_all
  expand_all_natural b [] = refl
  expand_all_natural b (l ∷ ls) =
      map-append rule_content (expand b (on_rule_line l)) (expand_all b (map on_rule_line ls))
      ∙ (ap₂ (λ x y. x ++ y) (expand_natural b l) (expand_all_natural b ls) ∙ sym (map-append rule_content (expand b l) (expand_all b ls)))

  -- ---- facts

  twice : {A B C : Type 0} (h : B → C) (g : A → B) (k : A → C) → ((a : A) → h (g a) ≡ k a) → (o : Option A) → map_option h (map_option g o) ≡ map_option k o
  twice h g k e None = refl
  twice h g k e (Some a) = ap Some (e a)

  id_option : {A : Type 0} (o : Option A) → map_option (λ a. a) o ≡ o
  id_option None = refl
  id_option (Some a) = refl

  or_natural : {A : Type 0} (o : Option (List (Located P A))) → values (unwrap_or (map_option (map (on_loc f)) o) []) ≡ values (unwrap_or o [])
  or_natural None = values_natural []
  or_natural (Some l) = values_natural l

  from_natural : (is : List (Located P (Item P))) (body : Body P) → facts_from (map on_items is) (on_body body) ≡ facts_from is body
  unfolding facts_from states_in finals_in blank_of
  from_natural is body =
      let blank = found_natural (λ p. p.blank) (λ p. p.blank) (λ s. s) (λ p. sym (id_option p.blank)) is ∙ id_option (found (first (select λ p. p.blank) is)) in
      λ i. record {
        name = (ap (map_option (λ t. t.value.value)) (found_natural (λ p. p.machine) (λ p. p.machine) (on_text f) (λ p. refl) is) ∙ twice (λ t. t.value.value) (on_text f) (λ t. t.value.value) (λ t. refl) (found (first (select λ p. p.machine) is))) i;
        input = (ap (map_option (λ t. t.value.value)) (found_natural (λ p. p.input) (λ p. p.input) (on_text f) (λ p. refl) is) ∙ twice (λ t. t.value.value) (on_text f) (λ t. t.value.value) (λ t. refl) (found (first (select λ p. p.input) is))) i;
        kind = (found_natural (λ p. p.kind) (λ p. p.kind) (λ k. k) (λ p. sym (id_option p.kind)) is ∙ id_option (found (first (select λ p. p.kind) is))) i;
        output = (found_natural (λ p. p.output) (λ p. p.output) (λ k. k) (λ p. sym (id_option p.output)) is ∙ id_option (found (first (select λ p. p.output) is))) i;
        tapes = (ap (map_option (λ t. t.value)) (found_natural (λ p. p.tapes) (λ p. p.tapes) (on_loc f) (λ p. refl) is) ∙ twice (λ t. t.value) (on_loc f) (λ t. t.value) (λ t. refl) (found (first (select λ p. p.tapes) is))) i;
        states = (ap (map_option values) (found_natural (λ p. p.states) (λ p. p.states) (map (on_loc f)) (λ p. refl) is) ∙ twice values (map (on_loc f)) values values_natural (found (first (select λ p. p.states) is))) i;
        finals = (ap (λ o. values (unwrap_or o [])) (found_natural (λ p. p.finals) (λ p. p.finals) (map (on_loc f)) (λ p. refl) is) ∙ or_natural (found (first (select λ p. p.finals) is))) i;
        sigma = (ap (map_option values) (found_natural (λ p. p.sigma) (λ p. p.sigma) (map (on_loc f)) (λ p. refl) is) ∙ twice values (map (on_loc f)) values values_natural (found (first (select λ p. p.sigma) is))) i;
        gamma = (ap (map_option values) (found_natural (λ p. p.gamma) (λ p. p.gamma) (map (on_loc f)) (λ p. refl) is) ∙ twice values (map (on_loc f)) values values_natural (found (first (select λ p. p.gamma) is))) i;
        blank = blank i;
        start = (ap (map_option (λ t. t.value)) (found_natural (λ p. p.start) (λ p. p.start) (on_loc f) (λ p. refl) is) ∙ twice (λ t. t.value) (on_loc f) (λ t. t.value) (λ t. refl) (found (first (select λ p. p.start) is))) i;
        header = values_natural body.header i;
        trailing = values_natural body.trailing i;
        rules = (ap₂ (λ o l. map rule_content (expand_all (resolve 0x2423 (unwrap_or o raw_blank)) l)) blank (kept_natural 0 body.rules) ∙ expand_all_natural (blank_of is) (kept 0 body.rules)) i;
      }

  pub facts_natural : (ls : List (Line P)) → facts_of (map (on_line f) ls) ≡ facts_of ls
  unfolding facts_of
  facts_natural ls = ap₂ facts_from (items_natural ls) (body_natural ls) ∙ from_natural (items ls) (body_of ls)

  -- ---- diagnostics

  abbrev on_diagnostic : Diagnostic P → Diagnostic Q
  on_diagnostic d = record { code = d.code; place = f d.place; related = map_option f d.related }

  errors_natural : (ls : List (Line P)) → line_errors (map (on_line f) ls) ≡ map on_diagnostic (line_errors ls)
  unfolding line_errors
  errors_natural [] = refl
  errors_natural (blank_line ∷ ls) = errors_natural ls
  errors_natural (comment_line c ∷ ls) = errors_natural ls
  errors_natural (item_line i p c ∷ ls) = errors_natural ls
  errors_natural (error_line n p ∷ ls) = ap (λ t. diagnostic n (f p) None ∷ t) (errors_natural ls)

  number_natural : (i : Item P) → declaration (on_item f i) ≡ declaration i
  unfolding declaration
  number_natural (machine_item x) = refl
  number_natural (kind_item x) = refl
  number_natural (input_item x) = refl
  number_natural (output_item x) = refl
  number_natural (tapes_item x) = refl
  number_natural (states_item x) = refl
  number_natural (input_alphabet_item x) = refl
  number_natural (tape_alphabet_item x) = refl
  number_natural (blank_item x) = refl
  number_natural (start_item x) = refl
  number_natural (final_item x) = refl
  number_natural (transition_item x) = refl

  declared_natural : (n : ℕ) (is : List (Located P (Item P))) → declared_at n (map on_items is) ≡ map_option f (declared_at n is)
  unfolding declared_at
  declared_natural n [] = refl
  declared_natural n (i ∷ is) = by_test (is_number n (declaration i.value))
      (λ e. declared_yes n (on_items i) (map on_items is) (ap (is_number n) (number_natural i.value) ∙ e) ∙ sym (ap (map_option f) (declared_yes n i is e)))
      (λ e. declared_no n (on_items i) (map on_items is) (ap (is_number n) (number_natural i.value) ∙ e) ∙ (declared_natural n is ∙ sym (ap (map_option f) (declared_no n i is e))))

  earlier_natural : (o : Option ℕ) (is : List (Located P (Item P))) → earlier o (map on_items is) ≡ map_option f (earlier o is)
  unfolding earlier
  earlier_natural None is = refl
  earlier_natural (Some n) is = declared_natural n is

  tapes_natural : (o : Option (Located P ℕ)) → tapes_error (map_option (on_loc f) o) ≡ map on_diagnostic (tapes_error o)
  unfolding tapes_error
  tapes_natural None = refl
  tapes_natural (Some n) = by_test (leb n.value 255) (λ e. rw (e, tapes_error)) (λ e. rw (e, tapes_error))

  declaration_natural : (before : List (Located P (Item P))) (i : Located P (Item P)) → declaration_error (map on_items before) (on_items i) ≡ map on_diagnostic (declaration_error before i)
  declaration_natural before i = go (earlier (declaration i.value) before) refl
    where
      seen : (o : Option P) → earlier (declaration i.value) before ≡ o → earlier (declaration (on_item f i.value)) (map on_items before) ≡ map_option f o
      seen o e = ap (λ n. earlier n (map on_items before)) (number_natural i.value) ∙ (earlier_natural (declaration i.value) before ∙ ap (map_option f) e)

      go : (o : Option P) → earlier (declaration i.value) before ≡ o → declaration_error (map on_items before) (on_items i) ≡ map on_diagnostic (declaration_error before i)
      go None e = twice_none (map on_items before) (on_items i) (seen None e) ∙ (ap tapes_error (ap (λ q. q.tapes) (parts_natural i.value)) ∙ (tapes_natural (parts i.value).tapes ∙ sym (ap (map on_diagnostic) (twice_none before i e))))
      go (Some p) e = twice_some (map on_items before) (on_items i) (f p) (seen (Some p) e) ∙ sym (ap (map on_diagnostic) (twice_some before i p e))

  declarations_natural : (before is : List (Located P (Item P))) → declaration_errors (map on_items before) (map on_items is) ≡ map on_diagnostic (declaration_errors before is)
  unfolding declaration_errors
  declarations_natural before [] = refl
  declarations_natural before (i ∷ is) =
      ap₂ (λ x y. x ++ y) (declaration_natural before i) (ap (λ t. declaration_errors t (map on_items is)) (sym (map-append on_items before (i ∷ []))) ∙ declarations_natural (before ++ i ∷ []) is)
      ∙ sym (map-append on_diagnostic (declaration_error before i) (declaration_errors (before ++ i ∷ []) is))

  listed_natural : (w : List ℕ) (l : List (Located P (List ℕ))) → listed_at w (map (on_loc f) l) ≡ map_option f (listed_at w l)
  unfolding listed_at
  listed_natural w [] = refl
  listed_natural w (x ∷ l) = by_test (same x.value w)
      (λ e. listed_yes w (on_loc f x) (map (on_loc f) l) e ∙ sym (ap (map_option f) (listed_yes w x l e)))
      (λ e. listed_no w (on_loc f x) (map (on_loc f) l) e ∙ (listed_natural w l ∙ sym (ap (map_option f) (listed_no w x l e))))

  unknown_natural : (q : Option (List (Located P (List ℕ)))) (x : Located P (List ℕ)) → unknown_error (map_option (map (on_loc f)) q) (on_loc f x) ≡ map on_diagnostic (unknown_error q x)
  unfolding unknown_error
  unknown_natural None x = refl
  unknown_natural (Some q) x = go (listed_at x.value q) refl
    where
      go : (o : Option P) → listed_at x.value q ≡ o → unknown_error (Some (map (on_loc f) q)) (on_loc f x) ≡ map on_diagnostic (unknown_error (Some q) x)
      go None e = unknown_absent (map (on_loc f) q) (on_loc f x) (listed_natural x.value q ∙ ap (map_option f) e) ∙ sym (ap (map on_diagnostic) (unknown_absent q x e))
      go (Some p) e = unknown_there (map (on_loc f) q) (on_loc f x) (f p) (listed_natural x.value q ∙ ap (map_option f) e) ∙ sym (ap (map on_diagnostic) (unknown_there q x p e))

  final_natural : (q : Option (List (Located P (List ℕ)))) (before : List (Located P (List ℕ))) (x : Located P (List ℕ))
      → final_error (map_option (map (on_loc f)) q) (map (on_loc f) before) (on_loc f x) ≡ map on_diagnostic (final_error q before x)
  final_natural q before x = go (listed_at x.value before) refl
    where
      go : (o : Option P) → listed_at x.value before ≡ o → final_error (map_option (map (on_loc f)) q) (map (on_loc f) before) (on_loc f x) ≡ map on_diagnostic (final_error q before x)
      go None e = final_new (map_option (map (on_loc f)) q) (map (on_loc f) before) (on_loc f x) (listed_natural x.value before ∙ ap (map_option f) e) ∙ (unknown_natural q x ∙ sym (ap (map on_diagnostic) (final_new q before x e)))
      go (Some p) e = final_repeat (map_option (map (on_loc f)) q) (map (on_loc f) before) (on_loc f x) (f p) (listed_natural x.value before ∙ ap (map_option f) e) ∙ sym (ap (map on_diagnostic) (final_repeat q before x p e))

  finals_natural : (q : Option (List (Located P (List ℕ)))) (before l : List (Located P (List ℕ))) → final_errors (map_option (map (on_loc f)) q) (map (on_loc f) before) (map (on_loc f) l) ≡ map on_diagnostic (final_errors q before l)
  unfolding final_errors
  finals_natural q before [] = refl
  finals_natural q before (x ∷ l) =
      ap₂ (λ a b. a ++ b) (final_natural q before x) (ap (λ t. final_errors (map_option (map (on_loc f)) q) t (map (on_loc f) l)) (sym (map-append (on_loc f) before (x ∷ []))) ∙ finals_natural q (before ++ x ∷ []) l)
      ∙ sym (map-append on_diagnostic (final_error q before x) (final_errors q (before ++ x ∷ []) l))

  rules_case : (n : ℕ) (cut : Bool) (r : RuleLine P) (rs : List (RuleLine P)) (v : Verdict) → verdict n r.raw ≡ v → ((k : ℕ) (c : Bool) → rule_errors k c (map on_rule_line rs) ≡ map on_diagnostic (rule_errors k c rs))
      → rule_errors n cut (map on_rule_line (r ∷ rs)) ≡ map on_diagnostic (rule_errors n cut (r ∷ rs))
  rules_case n cut r rs expands e h =
      error_expands n (on_rule_line r) (map on_rule_line rs) cut (verdict_natural n r.raw ∙ e)
      ∙ (ap (λ k. rule_errors (n + k) cut (map on_rule_line rs)) (combinations_natural r.raw.read) ∙ (h (n + combinations r.raw.read) cut ∙ sym (ap (map on_diagnostic) (error_expands n r rs cut e))))
  rules_case n cut r rs wrong_arity e h =
      error_arity n (on_rule_line r) (map on_rule_line rs) cut (verdict_natural n r.raw ∙ e) ∙ (ap (λ t. diagnostic 10 (f r.line) None ∷ t) (h n cut) ∙ sym (ap (map on_diagnostic) (error_arity n r rs cut e)))
  rules_case n false r rs too_many e h =
      error_many n (on_rule_line r) (map on_rule_line rs) (verdict_natural n r.raw ∙ e) ∙ (ap (λ t. diagnostic 9 (f r.line) None ∷ t) (h n true) ∙ sym (ap (map on_diagnostic) (error_many n r rs e)))
  rules_case n true r rs too_many e h = error_more n (on_rule_line r) (map on_rule_line rs) (verdict_natural n r.raw ∙ e) ∙ (h n true ∙ sym (ap (map on_diagnostic) (error_more n r rs e)))

  rules_natural : (n : ℕ) (cut : Bool) (rs : List (RuleLine P)) → rule_errors n cut (map on_rule_line rs) ≡ map on_diagnostic (rule_errors n cut rs)
  unfolding rule_errors
  rules_natural n cut [] = refl
  rules_natural n cut (r ∷ rs) = rules_case n cut r rs (verdict n r.raw) refl (λ k c. rules_natural k c rs)

  else_natural : (o : Option (List (Located P (List ℕ)))) → unwrap_or (map_option (map (on_loc f)) o) [] ≡ map (on_loc f) (unwrap_or o [])
  else_natural None = refl
  else_natural (Some l) = refl

  pub diagnostics_natural : (ls : List (Line P)) → diagnostics_of (map (on_line f) ls) ≡ map on_diagnostic (diagnostics_of ls)
  unfolding diagnostics_of states_in finals_in
  diagnostics_natural ls =
      let is = items ls in
      let q = found (first (select λ p. p.states) is) in
      let l = unwrap_or (found (first (select λ p. p.finals) is)) [] in
      ap₂ (λ x y. x ++ y) (errors_natural ls)
      (ap₂ (λ x y. x ++ y) (ap (declaration_errors []) (items_natural ls) ∙ declarations_natural [] is)
      (ap₂ (λ x y. x ++ y)
      (ap (λ is. final_errors (found (first (select λ p. p.states) is)) [] (unwrap_or (found (first (select λ p. p.finals) is)) [])) (items_natural ls)
      ∙ (ap₂ (λ q l. final_errors q [] (unwrap_or l [])) (found_natural (λ p. p.states) (λ p. p.states) (map (on_loc f)) (λ p. refl) is) (found_natural (λ p. p.finals) (λ p. p.finals) (map (on_loc f)) (λ p. refl) is)
      ∙ (ap (final_errors (map_option (map (on_loc f)) q) []) (else_natural (found (first (select λ p. p.finals) is))) ∙ finals_natural q [] l)))
      (ap (λ b. rule_errors 0 false b.rules) (body_natural ls) ∙ rules_natural 0 false (body_of ls).rules)))
      ∙ sym (four-append on_diagnostic (line_errors ls) (declaration_errors [] is) (final_errors q [] l) (rule_errors 0 false (body_of ls).rules))
