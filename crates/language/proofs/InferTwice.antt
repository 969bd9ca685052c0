-- Inferring twice is inferring once, of every machine value: what was inferred lists all that a second inference mentions, in the same order.
use Prim.Native.Nat.{ℕ}
use mathlib.Core.Bool.{Bool, true, false, ◌&&◌, ◌||◌, false≢true}
use mathlib.Core.List.{List, [], ◌∷◌, ◌++◌, map, append-nil}
use mathlib.Core.Path.{◌≡◌, refl, ap, ap₂, ◌∙◌, sym}
use borrow.Author.Tests.{eqb-true, eq-eqb}
use lib.Dec.{eqb}
use Rattle.lexer.specs.Text.{same}
use Rattle.language.specs.Content.{StateContent}
use Rattle.language.specs.Infer.{member, fresh}
use Rattle.language.specs.Inference.{is_empty, if_declared, if_undeclared, rule_names, rule_glyphs, is_final_in, state_of, infer_states_of, infer_start_of, add_blank, infer_gamma_of, infer_sigma_of, mentions_of, used_of, infer, InferTwice}
use mathlib.Core.Logic.{◌⊎◌, inl, inr}
use Rattle.chars.proofs.Tests.{or_cases}
use Rattle.language.proofs.Every.{by_test, and_left, and_right, and_both, or_left, or_right, Every, every_impl}
use Rattle.language.proofs.Fresh.{grow, fresh-append, fresh_known, stable, member_self}
use Rattle.language.proofs.InferAgain.{same_refl, same-eq}

-- ---- states

names-of : (ss : List StateContent) (ws : List (List ℕ)) → map (λ s. s.name) (map (state_of ss) ws) ≡ ws
unfolding state_of
names-of ss [] = refl
names-of ss (w ∷ ws) = ap (λ t. w ∷ t) (names-of ss ws)

final-less : (old : List StateContent) (ws : List (List ℕ)) (w : List ℕ) → is_final_in (map (state_of old) ws) w ≡ true → is_final_in old w ≡ true
unfolding is_final_in state_of
final-less old [] w t = absurd (false≢true t)
final-less old (x ∷ ws) w t = go (final-less old ws w) (or_cases (is_final_in old x && same x w) (is_final_in (map (state_of old) ws) w) t)
  where
    go : (is_final_in (map (state_of old) ws) w ≡ true → is_final_in old w ≡ true) → ((is_final_in old x && same x w) ≡ true) ⊎ (is_final_in (map (state_of old) ws) w ≡ true) → is_final_in old w ≡ true
    go f (inl h) = ap (is_final_in old) (sym (same-eq x w (and_right (is_final_in old x) (same x w) h))) ∙ and_left (is_final_in old x) (same x w) h
    go f (inr h) = f h

final-more : (old : List StateContent) (ws : List (List ℕ)) (w : List ℕ) → member same ws w ≡ true → is_final_in old w ≡ true → is_final_in (map (state_of old) ws) w ≡ true
unfolding is_final_in state_of member
final-more old [] w h f = absurd (false≢true h)
final-more old (x ∷ ws) w h f = go (λ e. final-more old ws w e f) (or_cases (same x w) (member same ws w) h)
  where
    go : (member same ws w ≡ true → is_final_in (map (state_of old) ws) w ≡ true) → (same x w ≡ true) ⊎ (member same ws w ≡ true) → ((is_final_in old x && same x w) || is_final_in (map (state_of old) ws) w) ≡ true
    go k (inl e) = or_left (is_final_in old x && same x w) (is_final_in (map (state_of old) ws) w) (and_both (is_final_in old x) (same x w) (ap (is_final_in old) (same-eq x w e) ∙ f) e)
    go k (inr e) = or_right (is_final_in old x && same x w) (is_final_in (map (state_of old) ws) w) (k e)

iff-eq : (a b : Bool) → (a ≡ true → b ≡ true) → (b ≡ true → a ≡ true) → a ≡ b
iff-eq true true f g = refl
iff-eq true false f g = sym (f refl)
iff-eq false true f g = g refl
iff-eq false false f g = refl

map-every : {A B : Type 0} (f g : A → B) (l : List A) → Every (λ a. f a ≡ g a) l → map f l ≡ map g l
map-every f g [] h = refl
map-every f g (a ∷ l) h = ap₂ (λ x y. x ∷ y) h.0 (map-every f g l h.1)

-- the marks of a list of names that was inferred are found again
marks-again : (old : List StateContent) (ws : List (List ℕ)) → map (state_of (map (state_of old) ws)) ws ≡ map (state_of old) ws
unfolding state_of
marks-again old ws = map-every (state_of (map (state_of old) ws)) (state_of old) ws
    (every_impl (λ w. member same ws w ≡ true) (λ w. state_of (map (state_of old) ws) w ≡ state_of old w)
    (λ w e. ap (λ (b : Bool). record { name = w; final = b }) (iff-eq (is_final_in (map (state_of old) ws) w) (is_final_in old w) (final-less old ws w) (final-more old ws w e))) ws (member_self same same_refl same-eq ws))

states-twice : (b : Bool) (ms : List (List ℕ)) (ss : List StateContent) → infer_states_of b ms (infer_states_of b ms ss) ≡ infer_states_of b ms ss
unfolding infer_states_of
states-twice true ms ss = refl
states-twice false ms ss =
    let ws : List (List ℕ) = fresh same is_empty (ms ++ map (λ s. s.name) ss) in
    let old : List (List ℕ) = map (λ s. s.name) ss in
    let names : fresh same is_empty (ms ++ map (λ s. s.name) (map (state_of ss) ws)) ≡ ws =
    ap (λ l. fresh same is_empty (ms ++ l)) (names-of ss ws ∙ sym (append-nil ws))
    ∙ (ap (λ l. fresh same is_empty (ms ++ (fresh same is_empty (ms ++ l) ++ []))) (sym (append-nil old)) ∙ (stable same same_refl same-eq is_empty ms old [] ∙ ap (λ l. fresh same is_empty (ms ++ l)) (append-nil old))) in
    ap (map (state_of (map (state_of ss) ws))) names ∙ marks-again ss ws

-- ---- the start

start-part : (b : Bool) (w : List ℕ) (ss : List StateContent) → if_declared b (infer_start_of b w ss ∷ []) ≡ if_declared b (w ∷ [])
unfolding if_declared infer_start_of
start-part true w ss = refl
start-part false w ss = refl

start-twice : (b : Bool) (w : List ℕ) (ss : List StateContent) → infer_start_of b (infer_start_of b w ss) ss ≡ infer_start_of b w ss
unfolding infer_start_of
start-twice true w ss = refl
start-twice false w ss = refl

-- ---- symbols

eqb-refl : (c : ℕ) → eqb c c ≡ true
eqb-refl c = eq-eqb c c refl

member-last : (b : ℕ) (l : List ℕ) → member eqb (l ++ b ∷ []) b ≡ true
unfolding member
member-last b [] = or_left (eqb b b) false (eqb-refl b)
member-last b (c ∷ l) = or_right (eqb c b) (member eqb (l ++ b ∷ []) b) (member-last b l)

added-there : (b : ℕ) (l : List ℕ) → member eqb l b ≡ true → add_blank b l ≡ l
unfolding add_blank
added-there b l e = rw (e, add_blank)

added-last : (b : ℕ) (l : List ℕ) → member eqb l b ≡ false → add_blank b l ≡ l ++ b ∷ []
unfolding add_blank
added-last b l e = rw (e, add_blank)

added-twice : (b : ℕ) (l : List ℕ) → add_blank b (add_blank b l) ≡ add_blank b l
added-twice b l = by_test (member eqb l b)
    (λ e. ap (add_blank b) (added-there b l e))
    (λ e. ap (add_blank b) (added-last b l e) ∙ (added-there b (l ++ b ∷ []) (member-last b l) ∙ sym (added-last b l e)))

-- a known member between others is passed over
skip : (b : ℕ) (xs r : List ℕ) → fresh eqb (eqb b) (xs ++ (b ∷ r)) ≡ fresh eqb (eqb b) (xs ++ r)
unfolding fresh
skip b xs r =
    fresh-append eqb eqb-refl eqb-true (eqb b) xs (b ∷ r)
    ∙ (ap (λ t. fresh eqb (eqb b) xs ++ t) (fresh_known eqb eqb-refl eqb-true (grow eqb eqb-refl eqb-true (eqb b) xs) (b ∷ []) r (or_right (member eqb xs b) (eqb b b) (eqb-refl b), tt))
    ∙ sym (fresh-append eqb eqb-refl eqb-true (eqb b) xs r))

gamma-twice : (d : Bool) (b : ℕ) (xs g ys : List ℕ) → infer_gamma_of d b xs (infer_gamma_of d b xs g ys) ys ≡ infer_gamma_of d b xs g ys
unfolding infer_gamma_of
gamma-twice true b xs g ys = added-twice b g
gamma-twice false b xs g ys = ap (λ t. b ∷ t) (skip b xs (fresh eqb (eqb b) (xs ++ (g ++ ys)) ++ ys) ∙ stable eqb eqb-refl eqb-true (eqb b) xs g ys)

sigma-part : (d : Bool) (b : ℕ) (s g : List ℕ) → if_declared d (infer_sigma_of d b s g) ≡ if_declared d s
unfolding if_declared infer_sigma_of
sigma-part true b s g = refl
sigma-part false b s g = refl

sigma-twice : (d : Bool) (b : ℕ) (s g : List ℕ) → infer_sigma_of d b (infer_sigma_of d b s g) g ≡ infer_sigma_of d b s g
unfolding infer_sigma_of
sigma-twice true b s g = refl
sigma-twice false b s g = refl

-- ---- the machine

-- Inferring a second time changes nothing, whatever the machine and whichever of its parts are declared.
pub infer-infer : InferTwice
unfolding infer mentions_of used_of
infer-infer m =
    let d = m.declared in
    let b = m.blank in
    let ss = infer_states_of d.states (mentions_of m) m.states in
    let ys = if_undeclared d.input_alphabet m.input in
    let g = infer_gamma_of d.tape_alphabet b (used_of m) m.gamma ys in
    let mentions-eq : mentions_of (infer m) ≡ mentions_of m = ap (λ l. l ++ rule_names m.rules) (start-part d.start m.start ss) in
    let glyphs-eq : used_of (infer m) ≡ used_of m = ap (λ l. l ++ rule_glyphs m.rules) (sigma-part d.input_alphabet b m.sigma g) in
    let states-eq : infer_states_of d.states (mentions_of (infer m)) ss ≡ ss = ap (λ l. infer_states_of d.states l ss) mentions-eq ∙ states-twice d.states (mentions_of m) m.states in
    let gamma-eq : infer_gamma_of d.tape_alphabet b (used_of (infer m)) g ys ≡ g = ap (λ l. infer_gamma_of d.tape_alphabet b l g ys) glyphs-eq ∙ gamma-twice d.tape_alphabet b (used_of m) m.gamma ys in
    λ i. record {
      name = m.name;
      input = m.input;
      kind = m.kind;
      output = m.output;
      tapes = m.tapes;
      blank = b;
      declared = d;
      start = (ap (infer_start_of d.start (infer_start_of d.start m.start ss)) states-eq ∙ start-twice d.start m.start ss) i;
      states = states-eq i;
      sigma = (ap (infer_sigma_of d.input_alphabet b (infer_sigma_of d.input_alphabet b m.sigma g)) gamma-eq ∙ sigma-twice d.input_alphabet b m.sigma g) i;
      gamma = gamma-eq i;
      header = m.header;
      trailing = m.trailing;
      rules = m.rules;
    }
