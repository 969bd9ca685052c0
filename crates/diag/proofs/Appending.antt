-- Laws of what is appended to a log.
use mathlib.Core.Path.{◌≡◌, refl, sym, ap, subst, ◌∙◌}
use mathlib.Core.List.{List, [], ◌∷◌, ◌++◌}
use Prim.Native.Nat.{◌+◌}
use lib.ListN.{length}
use Rattle.diag.specs.declared.Diagnostic.{Diagnostic}
use Rattle.diag.specs.declared.log.Log.{Log}
use Rattle.diag.specs.Log as D
use Rattle.diag.specs.Log.{appended, append_all, logged}
use Rattle.diag.specs.Appends.{Appends}
use Rattle.diag.proofs.Appended.{append_all-append, append_all-count}

pub appends_none : (l : Log) → Appends l l []
unfolding append_all
appends_none l = record { same_row = refl; written = refl }

pub appends_one : (l l' : Log) (d : Diagnostic) → l'.row.ghost_name ≡ l.row.ghost_name → logged l'.row.now l'.count ≡ appended (logged l.row.now l.count) d → Appends l l' (d ∷ [])
unfolding append_all
appends_one l l' d e f = record { same_row = e; written = f }

pub appends_then : (l l' l'' : Log) (xs ys : List Diagnostic) → Appends l l' xs → Appends l' l'' ys → Appends l l'' (xs ++ ys)
appends_then l l' l'' xs ys p q =
    record {
      same_row = q.same_row ∙ p.same_row;
      written = q.written ∙ ap (λ (w : D.Log). append_all w ys) p.written ∙ sym (append_all-append (logged l.row.now l.count) xs ys);
    }

pub appends_count : (l l' : Log) (ds : List Diagnostic) → Appends l l' ds → l'.count ≡ l.count + length ds
appends_count l l' ds p = ap (λ (w : D.Log). w.count) p.written ∙ append_all-count (logged l.row.now l.count) ds

-- what was appended, said otherwise
pub appends_as : (l l' : Log) (ds es : List Diagnostic) → Appends l l' ds → ds ≡ es → Appends l l' es
appends_as l l' ds es p e = subst (λ (xs : List Diagnostic). Appends l l' xs) e p

pub appends_nothing : (l : Log) (ds : List Diagnostic) → [] ≡ ds → Appends l l ds
appends_nothing l ds e = appends_as l l [] ds (appends_none l) e
