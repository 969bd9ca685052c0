-- What a record shows of its rule's actions: of one to three tapes, the fields that stand in its words.
use Rattle.std.proofs.Common.{◌≡◌, ℕ, zero, suc, ◌+◌, ◌*◌, ◌<◌, ◌≤◌, List, [], ◌∷◌, map, length, get_or, take, refl, ap, ap₂, ◌∙◌, arith, get_or-take, length-take}
use Rattle.lexer.specs.Tokens.{span}
use Rattle.language.specs.Content.{ActionContent}
use Rattle.language.specs.Agreement.{at, dir_of, rule_in}
use Rattle.sheet_view.specs.Rules.{from_of, to_of, arity_of, read_of, write_of, move_of}
use Rattle.sheet_view.proofs.Views.{arity_is, action_is}

-- a list of one to three, by its elements
three : {A : Type 0} (n : ℕ) → 1 ≤ n → n ≤ 3 → (f : ℕ → A) (l : List A) → length l ≡ n → ((k : ℕ) (d : A) → k < n → get_or l k d ≡ f k)
    → l ≡ take n (f 0 ∷ f 1 ∷ f 2 ∷ [])
three zero a b f l e h = absurd (omega arith)
three (suc zero) a b f [] e h = absurd (omega (arith, e))
three (suc zero) a b f (x ∷ []) e h = ap (λ y. y ∷ []) (h 0 x (omega arith))
three (suc zero) a b f (x ∷ y ∷ l) e h = absurd (omega (arith, e))
three (suc (suc zero)) a b f [] e h = absurd (omega (arith, e))
three (suc (suc zero)) a b f (x ∷ []) e h = absurd (omega (arith, e))
three (suc (suc zero)) a b f (x ∷ y ∷ []) e h = ap₂ (λ u v. u ∷ v ∷ []) (h 0 x (omega arith)) (h 1 x (omega arith))
three (suc (suc zero)) a b f (x ∷ y ∷ z ∷ l) e h = absurd (omega (arith, e))
three (suc (suc (suc zero))) a b f [] e h = absurd (omega (arith, e))
three (suc (suc (suc zero))) a b f (x ∷ []) e h = absurd (omega (arith, e))
three (suc (suc (suc zero))) a b f (x ∷ y ∷ []) e h = absurd (omega (arith, e))
three (suc (suc (suc zero))) a b f (x ∷ y ∷ z ∷ []) e h =
    ap₂ (λ u v. u ∷ v) (h 0 x (omega arith)) (ap₂ (λ u v. u ∷ v ∷ []) (h 1 x (omega arith)) (h 2 x (omega arith)))
three (suc (suc (suc zero))) a b f (x ∷ y ∷ z ∷ w ∷ l) e h = absurd (omega (arith, e))
three (suc (suc (suc (suc n)))) a b f l e h = absurd (omega arith)

map-take : {A B : Type 0} (f : A → B) (n : ℕ) (l : List A) → map f (take n l) ≡ take n (map f l)
map-take f zero l = refl
map-take f (suc n) [] = refl
map-take f (suc n) (a ∷ l) = ap (λ x. f a ∷ x) (map-take f n l)

-- a record of m words that stands in front of others, as long as its actions need
module _ (t rest : List ℕ) (m n : ℕ) (long : 11 + 7 * n ≤ length (take m rest)) where
  abbrev ws : List ℕ
  ws = take m rest

  same_word : (o : ℕ) → o < 11 + 7 * n → at ws o ≡ at rest o
  same_word o h = get_or-take m rest o 0 (omega (arith, h, long, length-take m rest))

  pub from_shown : from_of ws ≡ from_of rest
  from_shown = ap₂ span (same_word 1 (omega arith)) (same_word 2 (omega arith))

  pub to_shown : to_of ws ≡ to_of rest
  to_shown = ap₂ span (same_word 3 (omega arith)) (same_word 4 (omega arith))

  module _ (least : 1 ≤ n) (most : n ≤ 3) (arity : arity_of ws ≡ n) where
    abbrev action : ℕ → ActionContent
    action k = record { read = read_of rest k; write = write_of rest k; dir = dir_of (move_of rest k) }

    actions_shown : (rule_in t ws).actions ≡ take n (action 0 ∷ action 1 ∷ action 2 ∷ [])
    actions_shown = three n least most action (rule_in t ws).actions (arity_is t ws ∙ arity) (λ k d h.
        action_is t ws k d (omega (arith, arity, h))
        ∙ ap (λ x. record { read = x; write = write_of ws k; dir = dir_of (move_of ws k) }) (same_word (11 + 7 * k) (omega (arith, h)))
        ∙ ap (λ x. record { read = read_of rest k; write = x; dir = dir_of (move_of ws k) }) (same_word (11 + 7 * k + 3) (omega (arith, h)))
        ∙ ap (λ x. record { read = read_of rest k; write = write_of rest k; dir = dir_of x }) (same_word (11 + 7 * k + 6) (omega (arith, h))))

    pub reads_shown : map (λ a. a.read) (rule_in t ws).actions ≡ take n (read_of rest 0 ∷ read_of rest 1 ∷ read_of rest 2 ∷ [])
    reads_shown = ap (map (λ a. a.read)) actions_shown ∙ map-take (λ a. a.read) n (action 0 ∷ action 1 ∷ action 2 ∷ [])

    pub writes_shown : map (λ a. a.write) (rule_in t ws).actions ≡ take n (write_of rest 0 ∷ write_of rest 1 ∷ write_of rest 2 ∷ [])
    writes_shown = ap (map (λ a. a.write)) actions_shown ∙ map-take (λ a. a.write) n (action 0 ∷ action 1 ∷ action 2 ∷ [])

    pub dirs_shown : map (λ a. a.dir) (rule_in t ws).actions
        ≡ take n (dir_of (move_of rest 0) ∷ dir_of (move_of rest 1) ∷ dir_of (move_of rest 2) ∷ [])
    dirs_shown = ap (map (λ a. a.dir)) actions_shown ∙ map-take (λ a. a.dir) n (action 0 ∷ action 1 ∷ action 2 ∷ [])
