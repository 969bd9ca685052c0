-- Laws of the loop of `next`: as long as nothing is found, what is to be found stays the same.
use mathlib.Core.Path.{◌≡◌, ap, subst, ◌∙◌}
use Rattle.std.specs.Prelude.{None, Some}
use mathlib.Core.List.{List, [], ◌∷◌, ◌++◌}
use Prim.Native.Nat.{ℕ, ◌≤◌, ◌<◌}
use lib.ListN.{length}
use Rattle.diag.specs.declared.Diagnostic.{Diagnostic}
use Rattle.diag_search.specs.declared.Search.{Search}
use Rattle.diag_search.specs.declared.Step.{Step}
use Rattle.diag_search.specs.Cursor.{option_list, taken}
use Rattle.diag_search.specs.Pending.{pending, left}
use Rattle.diag_search.specs.Stands.{Stands, Stepped}

-- from the search s to q nothing was found
pub record Going (text w₀ : List ℕ) (s : Search) (w : List ℕ) (q : Search) : Type 0 where
  pub same : pending text w₀ s ≡ pending text w q
  pub stands : Stands text w q
  pub some : 1 ≤ length (pending text w q)
  pub size : length w ≡ length w₀

took_none : (r : Step) → r.found ≡ None → taken r ≡ []
unfolding taken
took_none r e = ap option_list e

took_one : (r : Step) (d : Diagnostic) → r.found ≡ Some d → taken r ≡ d ∷ []
unfolding taken
took_one r d e = ap option_list e

module _ (text w₀ : List ℕ) (s : Search) (w : List ℕ) (q : Search) (g : Going text w₀ s w q) (v : List ℕ) (r : Step) (p : Stepped text w v q r) where
  pub going_on : r.found ≡ None → Going text w₀ s v r.search
  going_on e =
      let same : pending text w q ≡ pending text v r.search = p.found ∙ ap (λ (ds : List Diagnostic). ds ++ pending text v r.search) (took_none r e) in
      record {
        same = g.same ∙ same;
        stands = p.stands;
        some = subst (λ (ds : List Diagnostic). 1 ≤ length ds) same g.some;
        size = p.size ∙ g.size;
      }

  pub going_less : left r.search < left q
  going_less = p.less

  pub found-next : (d : Diagnostic) → r.found ≡ Some d → pending text w₀ s ≡ d ∷ pending text v r.search
  found-next d e = g.same ∙ p.found ∙ ap (λ (ds : List Diagnostic). ds ++ pending text v r.search) (took_one r d e)

  pub found_stands : Stands text v r.search
  found_stands = p.stands

  pub found-size : length v ≡ length w₀
  found-size = p.size ∙ g.size
