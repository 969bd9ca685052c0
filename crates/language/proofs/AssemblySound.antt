-- What well-formed lines say is well formed, and stands for at most 262,144 rules.
use Prim.Native.Nat.{ℕ, ◌≤◌}
use mathlib.Core.List.{List, [], ◌∷◌, map}
use Rattle.std.specs.Prelude.{Option, None, Some, unwrap_or}
use mathlib.Core.Path.{refl, sym, subst}
use lib.ListN.{length, length-map}
use Rattle.language.specs.Machine.{Located, Dir, Action}
use Rattle.language.specs.Content.{ActionContent, RuleContent, optional, values, rule_content}
use Rattle.language.specs.Lines.{RawSymbol, raw_blank, glyph, Text, Item, Line}
use Rattle.language.specs.Assembly.{items, first, found, resolve, blank_of, states_in, finals_in, RuleLine, body_of, kept, each_front, choices, written, actions, rule_of, dressed, expand, expand_all}
use Rattle.language.proofs.Columns.{select}
use Rattle.language.specs.Infer.{machine_of}
use Rattle.language.proofs.Every.{Every, Maybe, Filled, every_append, every_map, every_impl}
use Rattle.language.proofs.Facts.{Facts, map_option, blank_c, facts_from, facts_of, map-append}
use Rattle.language.proofs.LexSound.{AllFine, fine}
use Rattle.language.proofs.ParseHolds.{EachOfSome, GoodLine}
use Rattle.language.proofs.AssemblyHolds.{GoodRuleLine, items_good, found_good, body_good, kept_good}
use Rattle.language.proofs.ReadCounts.{rules-within}
use Rattle.language.proofs.ParseSound.{GoodName, GoodCode, GoodSymbol, GoodComment, GoodOutput, writable}

-- ---- rules and facts

abbrev pub GoodAction : ActionContent → Type 0
GoodAction a = GoodCode a.read × GoodCode a.write

pub record GoodRule (r : RuleContent) : Type 0 where
  pub rule_from : GoodName r.from
  pub rule_to : GoodName r.to
  pub rule_own : Maybe GoodComment r.comment
  pub rule-leads : Every GoodComment r.leading
  pub rule-actions : Every GoodAction r.actions
  pub rule-some : Filled r.actions

pub record GoodFacts (f : Facts) : Type 0 where
  pub f_name : Maybe AllFine f.name
  pub f_input : Maybe AllFine f.input
  pub f_output : Maybe GoodOutput f.output
  pub f_states : Maybe (Every GoodName) f.states
  pub f_finals : Every GoodName f.finals
  pub f_sigma : Maybe (Every GoodSymbol) f.sigma
  pub f_gamma : Maybe (Every GoodSymbol) f.gamma
  pub f_blank : Maybe GoodSymbol f.blank
  pub f_start : Maybe GoodName f.start
  pub f_header : Every GoodComment f.header
  pub f_trailing : Every GoodComment f.trailing
  pub f_rules : Every GoodRule f.rules
  pub f_count : length f.rules ≤ 262144

-- ---- symbols

pub resolve_good : (b : ℕ) (s : RawSymbol) → GoodCode b → GoodSymbol s → GoodCode (resolve b s)
unfolding resolve
resolve_good b raw_blank h k = h
resolve_good b (glyph c) h k = k

written_good : (b : ℕ) (r : RawSymbol) (w : Option RawSymbol) → GoodCode b → GoodSymbol r → Maybe GoodSymbol w → GoodCode (written b r w)
unfolding written
written_good b r None g h k = resolve_good b r g h
written_good b r (Some w) g h k = resolve_good b w g k

pub blank_good : (o : Option RawSymbol) → Maybe GoodSymbol o → GoodCode (blank_c o)
unfolding blank_c fine
blank_good None h = (refl, refl)
blank_good (Some s) h = resolve_good 0x2423 s (refl, refl) h

module _ {P : Type 0} where
  abbrev Note : Located P (List ℕ) → Type 0
  Note c = GoodComment c.value

  abbrev Sym : Located P RawSymbol → Type 0
  Sym s = GoodSymbol s.value

  -- ---- expansion

  -- a choice has good symbols, one for each list
  abbrev Choice : List (List (Located P RawSymbol)) → List (Located P RawSymbol) → Type 0
  Choice ss rs = Every Sym rs × (Filled ss → Filled rs)

  each_good : (t s : List (Located P RawSymbol)) (ss : List (List (Located P RawSymbol))) (cs : List (List (Located P RawSymbol))) → Every Sym s → Every (Choice ss) cs → Every (Choice (t ∷ ss)) (each_front s cs)
  unfolding each_front
  each_good t [] ss cs h k = tt
  each_good t (a ∷ s) ss cs h k =
      every_append (Choice (t ∷ ss)) (map (λ l. a ∷ l) cs) (each_front s cs) (every_map (Choice ss) (Choice (t ∷ ss)) (λ l. a ∷ l) (λ l g. ((h.0, g.0), λ _. tt)) cs k) (each_good t s ss cs h.1 k)

  choices_good : (ss : List (List (Located P RawSymbol))) → Every (Every Sym) ss → Every (Choice ss) (choices ss)
  unfolding choices
  choices_good [] h = ((tt, λ e. e), tt)
  choices_good (s ∷ ss) h = each_good s s ss (choices ss) h.0 (choices_good ss h.1)

  abbrev act : Action P → ActionContent
  act a = record { read = a.read.value; write = a.write.value; dir = a.dir }

  actions_good : (b : ℕ) → GoodCode b → (rs : List (Located P RawSymbol)) (ws : List (Located P (Option RawSymbol))) (ds : List (Located P Dir)) → Every Sym rs → Every (λ w. Maybe GoodSymbol w.value) ws
      → Every GoodAction (map act (actions b rs ws ds))
  unfolding actions
  actions_good b g [] ws ds h k = tt
  actions_good b g (r ∷ rs) [] ds h k = tt
  actions_good b g (r ∷ rs) (w ∷ ws) [] h k = tt
  actions_good b g (r ∷ rs) (w ∷ ws) (d ∷ ds) h k = ((resolve_good b r.value g h.0, written_good b r.value w.value g h.0 k.0), actions_good b g rs ws ds h.1 k.1)

  actions-some : (b : ℕ) (rs : List (Located P RawSymbol)) (ws : List (Located P (Option RawSymbol))) (ds : List (Located P Dir)) → Filled rs → Filled ws → Filled ds → Filled (map act (actions b rs ws ds))
  unfolding actions
  actions-some b [] ws ds h k g = h
  actions-some b (r ∷ rs) [] ds h k g = k
  actions-some b (r ∷ rs) (w ∷ ws) [] h k g = g
  actions-some b (r ∷ rs) (w ∷ ws) (d ∷ ds) h k g = tt

  optional_good : (c : Option (Located P (List ℕ))) → Maybe Note c → Maybe GoodComment (optional c)
  unfolding optional
  optional_good None h = tt
  optional_good (Some c) h = h

  values_good : {A : Type 0} (good : A → Type 0) (l : List (Located P A)) → Every (λ x. good x.value) l → Every good (values l)
  unfolding values
  values_good good l h = every_map (λ x. good x.value) good (λ x. x.value) (λ x g. g) l h

  rule_good : (b : ℕ) → GoodCode b → (l : RuleLine P) → GoodRuleLine writable l → (c : Option (Located P (List ℕ))) (cs : List (Located P (List ℕ))) → Maybe Note c → Every Note cs
      → (rs : List (Located P RawSymbol)) → Choice l.raw.read rs → GoodRule (rule_content (rule_of b l c cs rs))
  unfolding rule_content rule_of
  rule_good b g l h c cs k e rs x = record {
    rule_from = h.raw_good.from_good;
    rule_to = h.raw_good.to_good;
    rule_own = optional_good c k;
    rule-leads = values_good GoodComment cs e;
    rule-actions = actions_good b g rs l.raw.write l.raw.dir x.0 h.raw_good.write_good.1;
    rule-some = actions-some b rs l.raw.write l.raw.dir (x.1 h.raw_good.read_good.0) h.raw_good.write_good.0 h.raw_good.dir_good;
  }

  more_good : (b : ℕ) → GoodCode b → (l : RuleLine P) → GoodRuleLine writable l → (css : List (List (Located P RawSymbol))) → Every (Choice l.raw.read) css → Every GoodRule (map rule_content (map (rule_of b l None []) css))
  more_good b g l h [] k = tt
  more_good b g l h (rs ∷ css) k = (rule_good b g l h None [] tt tt rs k.0, more_good b g l h css k.1)

  dressed_good : (b : ℕ) → GoodCode b → (l : RuleLine P) → GoodRuleLine writable l → (css : List (List (Located P RawSymbol))) → Every (Choice l.raw.read) css → Every GoodRule (map rule_content (dressed b l css))
  unfolding dressed
  dressed_good b g l h [] k = tt
  dressed_good b g l h (rs ∷ css) k = (rule_good b g l h l.comment l.leading h.comment_good h.leading_good rs k.0, more_good b g l h css k.1)

  expand_good : (b : ℕ) → GoodCode b → (ls : List (RuleLine P)) → Every (GoodRuleLine writable) ls → Every GoodRule (map rule_content (expand_all b ls))
  unfolding expand_all expand
  expand_good b g [] h = tt
  expand_good b g (l ∷ ls) h =
      subst (Every GoodRule) (sym (map-append rule_content (expand b l) (expand_all b ls)))
      (every_append GoodRule (map rule_content (expand b l)) (map rule_content (expand_all b ls))
      (dressed_good b g l h.0 (choices l.raw.read) (choices_good l.raw.read (every_impl (EachOfSome Sym) (Every Sym) (λ s k. k.1) l.raw.read h.0.raw_good.read_good.1)))
      (expand_good b g ls h.1))

-- ---- facts

option_good : {A B : Type 0} (good : A → Type 0) (fine : B → Type 0) (g : A → B) → ((a : A) → good a → fine (g a)) → (o : Option A) → Maybe good o → Maybe fine (map_option g o)
option_good good fine g e None h = tt
option_good good fine g e (Some a) h = e a h

module _ {P : Type 0} where
  else_good : (o : Option (List (Located P (List ℕ)))) → Maybe (Every (λ n. GoodName n.value)) o → Every GoodName (values (unwrap_or o []))
  unfolding values
  else_good None h = tt
  else_good (Some l) h = values_good GoodName l h

  blank_is : (is : List (Located P (Item P))) → Maybe GoodSymbol (found (first (select λ p. p.blank) is)) → GoodCode (blank_of is)
  unfolding blank_of blank_c
  blank_is is k = blank_good (found (first (select λ p. p.blank) is)) k

  pub facts_good : (ls : List (Line P)) → Every (GoodLine writable) ls → GoodFacts (facts_of ls)
  unfolding facts_of facts_from states_in finals_in body_of machine_of
  facts_good ls h =
      let is = items ls in
      let g = items_good writable ls h in
      let body = body_good writable ls h in
      let blank = found_good writable GoodSymbol (λ p. p.blank) (λ p k. k.blank_part) is g in
      record {
        f_name = option_good {A = Text P} (λ t. AllFine t.value.value) AllFine (λ t. t.value.value) (λ t k. k) (found (first (select λ p. p.machine) is)) (found_good writable (λ t. AllFine t.value.value) (λ p. p.machine) (λ p k. k.machine-part) is g);
        f_input = option_good {A = Text P} (λ t. AllFine t.value.value) AllFine (λ t. t.value.value) (λ t k. k) (found (first (select λ p. p.input) is)) (found_good writable (λ t. AllFine t.value.value) (λ p. p.input) (λ p k. k.input_part) is g);
        f_output = found_good writable GoodOutput (λ p. p.output) (λ p k. k.output-part) is g;
        f_states = option_good {A = List (Located P (List ℕ))} (Every (λ n. GoodName n.value)) (Every GoodName) values (values_good GoodName) (found (first (select λ p. p.states) is)) (found_good writable (Every (λ n. GoodName n.value)) (λ p. p.states) (λ p k. k.states-part) is g);
        f_finals = else_good (found (first (select λ p. p.finals) is)) (found_good writable (Every (λ n. GoodName n.value)) (λ p. p.finals) (λ p k. k.finals-part) is g);
        f_sigma = option_good (Every (Sym {P = P})) (Every GoodSymbol) values (values_good GoodSymbol) (found (first (select λ p. p.sigma) is)) (found_good writable (Every (Sym {P = P})) (λ p. p.sigma) (λ p k. k.sigma-part) is g);
        f_gamma = option_good (Every (Sym {P = P})) (Every GoodSymbol) values (values_good GoodSymbol) (found (first (select λ p. p.gamma) is)) (found_good writable (Every (Sym {P = P})) (λ p. p.gamma) (λ p k. k.gamma-part) is g);
        f_blank = blank;
        f_start = option_good {A = Located P (List ℕ)} (λ n. GoodName n.value) GoodName (λ n. n.value) (λ n k. k) (found (first (select λ p. p.start) is)) (found_good writable (λ n. GoodName n.value) (λ p. p.start) (λ p k. k.start-part) is g);
        f_header = values_good GoodComment (body_of ls).header body.header_good;
        f_trailing = values_good GoodComment (body_of ls).trailing body.trailing_good;
        f_rules = expand_good (blank_of is) (blank_is is blank) (kept 0 (body_of ls).rules) (kept_good writable ls h);
        f_count = rw length-map (rules-within ls);
      }
