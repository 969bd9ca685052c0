-- Wheels turned from the last: every choice of one member of each, in the order of `choices`.
use Rattle.std.proofs.Common.{◌≡◌, ℕ, zero, suc, Bool, true, false, cond, List, [], ◌∷◌, ◌++◌, map, length, get_or, set, sym, refl, ap, ◌∙◌, arith}
use Rattle.std.specs.Prelude.{Option, None, Some}
use Rattle.sheet.specs.Turns.{Wheel, rest, full, left, turned, later}
use Rattle.language.specs.Assembly.{each_front, choices}

module _ {E C A : Type 0} (w : Wheel E C A) where
  -- the wheels before t started again
  unfoldable again : ℕ → List E → List C → List C
  again zero es cs = cs
  again (suc t) es cs = again t es (set cs t (w.first (get_or es t w.no_entry)))

  again_front : (t : ℕ) (e : E) (es : List E) (c : C) (cs : List C) → again (suc t) (e ∷ es) (c ∷ cs) ≡ w.first e ∷ again t es cs
  unfolding again
  again_front zero e es c cs = refl
  again_front (suc t) e es c cs = again_front t e es c (set cs t (w.first (get_or es t w.no_entry)))

  again_all : (es : List E) (cs : List C) → length cs ≡ length es → again (length es) es cs ≡ map w.first es
  unfolding again
  again_all [] [] h = refl
  again_all [] (c ∷ cs) h = absurd (omega arith)
  again_all (e ∷ es) [] h = absurd (omega arith)
  again_all (e ∷ es) (c ∷ cs) h = again_front (length es) e es c cs ∙ ap (λ (l : List C). w.first e ∷ l) (again_all es cs (omega arith))

  -- the first of the wheels turns once all others have
  unfoldable joined : E → C → Option (List C) → List C → Option (List C)
  joined e c (Some cs) l = Some (c ∷ cs)
  joined e c None l = cond (w.goes_on e c) (Some (w.step c ∷ l)) None

  turned_front : (t : ℕ) (e : E) (es : List E) (c : C) (cs : List C) → turned w (e ∷ es) (c ∷ cs) (suc t) ≡ joined e c (turned w es cs t) (again t es cs)
  unfolding turned joined again
  turned_front zero e es c cs = go (w.goes_on e c)
    where
      go : (b : Bool) → elim b [ true ↦ Some (w.step c ∷ cs) | false ↦ None ] ≡ cond b (Some (w.step c ∷ cs)) None
      go true = refl
      go false = refl
  turned_front (suc t) e es c cs = go (w.goes_on (get_or es t w.no_entry) (get_or cs t w.no_position)) (turned_front t e es c (set cs t (w.first (get_or es t w.no_entry))))
    where
      on : List C
      on = set cs t (w.step (get_or cs t w.no_position))

      off : List C
      off = set cs t (w.first (get_or es t w.no_entry))

      go : (b : Bool) → turned w (e ∷ es) (c ∷ off) (suc t) ≡ joined e c (turned w es off t) (again t es off)
          → elim b [ true ↦ Some (c ∷ on) | false ↦ turned w (e ∷ es) (c ∷ off) (suc t) ] ≡ joined e c (elim b [ true ↦ Some on | false ↦ turned w es off t ]) (again t es off)
      go true h = refl
      go false h = h

  module _ (wheels : (e : E) (c : C) → w.from e c ≡ w.value c ∷ rest w e c) where
    -- at the first positions all choices are left
    pub left-all : (es : List E) → left w es (map w.first es) ≡ choices (map (full w) es)
    unfolding left each_front choices
    left-all [] = refl
    left-all (e ∷ es) =
        let more : List (List A) = each_front (rest w e (w.first e)) (choices (map (full w) es)) in
        ap (λ (ls : List (List A)). map (λ l. w.value (w.first e) ∷ l) ls ++ more) (left-all es)
        ∙ ap (λ (m : List A). each_front m (choices (map (full w) es))) (sym (wheels e (w.first e)))

    left-front : (e : E) (es : List E) (c : C) (cs : List C) (o : Option (List C)) → left w es cs ≡ map w.value cs ∷ later w es o
        → left w (e ∷ es) (c ∷ cs) ≡ map w.value (c ∷ cs) ∷ later w (e ∷ es) (joined e c o (map w.first es))
    unfolding left later joined each_front choices
    left-front e es c cs (Some ds) h = ap (λ (ls : List (List A)). map (λ l. w.value c ∷ l) ls ++ each_front (rest w e c) (choices (map (full w) es))) h
    left-front e es c cs None h =
        ap (λ (ls : List (List A)). map (λ l. w.value c ∷ l) ls ++ each_front (rest w e c) (choices (map (full w) es))) h
        ∙ ap (λ (ls : List (List A)). map w.value (c ∷ cs) ∷ ls) (go (w.goes_on e c))
      where
        go : (b : Bool) → each_front (cond b (w.from e (w.step c)) []) (choices (map (full w) es)) ≡ later w (e ∷ es) (cond b (Some (w.step c ∷ map w.first es)) None)
        go true =
            ap (λ (m : List A). each_front m (choices (map (full w) es))) (wheels e (w.step c))
            ∙ ap (λ (ls : List (List A)). map (λ l. w.value (w.step c) ∷ l) ls ++ each_front (rest w e (w.step c)) (choices (map (full w) es))) (sym (left-all es))
        go false = refl

    -- the present choice, and those behind a turn of all wheels
    pub left_turned : (es : List E) (cs : List C) → length cs ≡ length es → left w es cs ≡ map w.value cs ∷ later w es (turned w es cs (length es))
    unfolding left turned later
    left_turned [] [] h = refl
    left_turned [] (c ∷ cs) h = absurd (omega arith)
    left_turned (e ∷ es) [] h = absurd (omega arith)
    left_turned (e ∷ es) (c ∷ cs) h =
        let n : ℕ = length es in
        let same : length cs ≡ length es = omega arith in
        let one : turned w (e ∷ es) (c ∷ cs) (suc n) ≡ joined e c (turned w es cs n) (map w.first es) =
        turned_front n e es c cs ∙ ap (joined e c (turned w es cs n)) (again_all es cs same) in
        left-front e es c cs (turned w es cs n) (left_turned es cs same)
        ∙ ap (λ (o : Option (List C)). map w.value (c ∷ cs) ∷ later w (e ∷ es) o) (sym one)
