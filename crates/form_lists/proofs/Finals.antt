-- Final states: a state that is not final gives nothing, a final one its name behind those written before.
use mathlib.Core.Path.{◌≡◌, sym, ap, ap₂, subst, ◌∙◌}
use Prim.Native.Nat.{ℕ, ◌+◌, ◌*◌, ◌≤◌, ◌<◌}
use native.Mathlib.Omega.{arith}
use mathlib.Core.Bool.{Bool, true, false}
use mathlib.Core.List.{List, [], ◌∷◌, map}
use lib.Dec.{eqb, ltb}
use lib.ListN.{get_or}
use Rattle.language.specs.Plain.{Piece, say, only, commas, verbatim, final_names}
use Rattle.language.specs.Agreement.{groups, place_at, characters_at, state_in}
use Rattle.diag.specs.declared.Span.{Span}
use Rattle.emit.specs.declared.Output.{Output}
use Rattle.form_strings.specs.Writes.{Writes}
use Rattle.emit.proofs.Chain.{goes_start, goes_end}
use Rattle.form_strings.proofs.Chain.{Goes}
use Rattle.sheet_view.proofs.Records.{left, left-none, word_in}
use Rattle.form_lists.proofs.Lists.{place_in, rest_all, rest_of, more, more_start, more_none, more_on}

-- the names of the final ones of the states from the i-th on
pub finals : List ℕ → ℕ → ℕ → List ℕ → List (List ℕ)
finals text n i ws = final_names (map (state_in text) (left 3 n i (3 * i) ws))

module _ (text : List ℕ) (n : ℕ) (ws : List ℕ) where
  pub finals-start : (o : Output) → Goes (more verbatim 0 (finals text n 0 ws)) o (commas verbatim (final_names (map (state_in text) (groups 3 n ws)))) o
  unfolding finals
  finals-start o =
      goes_start (λ rest. more_start verbatim (finals text n 0 ws) rest ∙ ap (λ l. commas verbatim (final_names (map (state_in text) l)) rest) (rest_all 3 n ws))

  finals-none : (i : ℕ) → n ≤ i → finals text n i ws ≡ []
  unfolding finals final_names
  finals-none i h = ap (λ l. final_names (map (state_in text) l)) (left-none 3 n i (3 * i) ws h)

  pub finals-end : (i k : ℕ) (o : Output) (p₀ : Piece) (o₀ : Output) → n ≤ i → Goes (more verbatim k (finals text n i ws)) o p₀ o₀ → Writes p₀ o₀ o
  finals-end i k o p₀ o₀ h g = goes_end (λ rest. ap (λ l. more verbatim k l rest) (finals-none i h) ∙ more_none verbatim k rest) g

  module _ (i : ℕ) (h : i < n) (b : Bool) (e : b ≡ eqb (get_or ws (3 * i + 2) 0) 1) where
    name : List ℕ
    name = characters_at text (place_at ws (3 * i))

    others : List (List ℕ)
    others = finals text n (i + 1) ws

    -- by whether the i-th is final
    finals-next : (c : Bool) → b ≡ c → finals text n i ws ≡ elim c [ true ↦ name ∷ others | false ↦ others ]
    unfolding finals final_names state_in name others
    finals-next c q =
        let p = place_in 3 (3 * i) ws (omega arith) in
        let v = word_in 3 (3 * i) 2 ws (omega arith) in
        ap (λ l. final_names (map (state_in text) l)) (rest_of 3 n i ws h)
        ∙ ap₂ (λ s x. final_names (record { name = characters_at text s; final = eqb x 1 } ∷ map (state_in text) (left 3 n (i + 1) (3 * (i + 1)) ws))) p v
        ∙ ap (λ x. elim x [ true ↦ name ∷ others | false ↦ others ]) (sym e ∙ q)

    module _ (k : ℕ) (o : Output) (p₀ : Piece) (o₀ : Output) (g : Goes (more verbatim k (finals text n i ws)) o p₀ o₀) where
      pub finals-not : b ≡ false → Goes (more verbatim k (finals text n (i + 1) ws)) o p₀ o₀
      unfolding others
      finals-not q = subst (λ l. Goes (more verbatim k l) o p₀ o₀) (finals-next false q) g

      pub finals-on : (q : Span) (a r : Output) → b ≡ true → q ≡ place_at ws (3 * i) → Writes (only (ltb 0 k) (say ", ")) o a
          → Writes (verbatim (characters_at text q)) a r → Goes (more verbatim (k + 1) (finals text n (i + 1) ws)) r p₀ o₀
      unfolding others name
      finals-on q a r f p u v =
          more_on verbatim k name others (finals text n i ws) (finals-next true f) g u
          (subst (λ s. Writes (verbatim (characters_at text s)) a r) p v)
