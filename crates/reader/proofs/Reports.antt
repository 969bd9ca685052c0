-- Row 5 over the words of the log is the definition's: its stable sort is the log's, and its words are the records.
use mathlib.Core.Path.{◌≡◌, refl, sym, ap, ◌∙◌}
use mathlib.Core.Bool.{true, false}
use mathlib.Core.List.{List, [], ◌∷◌, map}
use Prim.Native.Nat.{ℕ, ◌+◌, ◌*◌, ◌/◌, ◌≤◌, ◌<◌}
use native.Mathlib.Omega.{arith}
use borrow.Author.Tests.{ltb-true, ltb-false, lt-ltb, le-ltb, le-leb, lt-leb}
use lib.Dec.{leb, ltb}
use lib.ListN.{length, length-map}
use Rattle.diag.specs.declared.Span.{Span}
use Rattle.language.specs.Assembly as A
use Rattle.language.specs.Layout as L
use Rattle.language.specs.Outcome.{zeros, ReadOutcome, read_diagnostics}
use Rattle.diag.specs.declared.Diagnostic.{Diagnostic}
use Rattle.diag.specs.Sort.{insert_by, insert_all, sort_by}
use Rattle.diag.specs.Log as D
use Rattle.diag.proofs.Cases.{by_test_lem}
use Rattle.diag.proofs.Records.{length-flat}
use Rattle.assembler.specs.Records.{record_of}
use Rattle.diag_report.specs.Report.{report_reply}

-- ---- two stable sorts: the definition's inserts the first element last, before those that are not smaller; the log's the last element last, behind those
-- that are not greater
insert : Diagnostic → List Diagnostic → List Diagnostic
insert d [] = d ∷ []
insert d (e ∷ l) = elim (leb d.span.start e.span.start) [ true ↦ d ∷ e ∷ l | false ↦ e ∷ insert d l ]

abbrev key : Diagnostic → ℕ
key d = d.span.start

-- one step of each
module _ (d e : Diagnostic) (l : List Diagnostic) where
  before : key d ≤ key e → insert d (e ∷ l) ≡ d ∷ e ∷ l
  unfolding insert
  before h = rw (insert, le-leb (key d) (key e) h)

  behind : key e < key d → insert d (e ∷ l) ≡ e ∷ insert d l
  unfolding insert
  behind h = rw (insert, lt-leb (key d) (key e) h)

  below : key d < key e → insert_by key d (e ∷ l) ≡ d ∷ e ∷ l
  unfolding insert_by
  below h = rw (insert_by, lt-ltb (key d) (key e) h)

  above : key e ≤ key d → insert_by key d (e ∷ l) ≡ e ∷ insert_by key d l
  unfolding insert_by
  above h = rw (insert_by, le-ltb (key d) (key e) h)

by_order : {X : Type 0} (m n : ℕ) → (m < n → X) → (n ≤ m → X) → X
by_order m n f g = by_test_lem (ltb m n) (λ t. f (ltb-true m n t)) (λ t. g (ltb-false m n t))

nothing : (d : Diagnostic) → insert_by key d [] ≡ d ∷ []
unfolding insert_by
nothing d = refl

-- an earlier element and a later one may be inserted in either order
insert_commutes : (a b : Diagnostic) (l : List Diagnostic) → insert_by key b (insert a l) ≡ insert a (insert_by key b l)
unfolding insert
insert_commutes a b [] = by_order (key b) (key a)
    (λ h. below b a [] h ∙ sym (ap (insert a) (nothing b) ∙ behind a b [] h))
    (λ h. above b a [] h ∙ ap (λ (l : List Diagnostic). a ∷ l) (nothing b) ∙ sym (ap (insert a) (nothing b) ∙ before a b [] h))
insert_commutes a b (e ∷ l) = by_order (key e) (key a)
    (λ h. ap (insert_by key b) (behind a e l h) ∙ by_order (key b) (key e)
    (λ g. below b e (insert a l) g ∙ sym (ap (insert a) (below b e l g) ∙ behind a b (e ∷ l) (omega arith) ∙ ap (λ (l : List Diagnostic). b ∷ l) (behind a e l h)))
    (λ g. above b e (insert a l) g ∙ ap (λ (l : List Diagnostic). e ∷ l) (insert_commutes a b l) ∙ sym (ap (insert a) (above b e l g) ∙ behind a e (insert_by key b l) h)))
    (λ h. ap (insert_by key b) (before a e l h) ∙ by_order (key b) (key a)
    (λ g. below b a (e ∷ l) g ∙ sym (ap (insert a) (below b e l (omega arith)) ∙ behind a b (e ∷ l) g ∙ ap (λ (l : List Diagnostic). b ∷ l) (before a e l h)))
    (λ g. above b a (e ∷ l) g ∙ by_order (key b) (key e)
    (λ k. ap (λ (l : List Diagnostic). a ∷ l) (below b e l k) ∙ sym (ap (insert a) (below b e l k) ∙ before a b (e ∷ l) g))
    (λ k. ap (λ (l : List Diagnostic). a ∷ l) (above b e l k) ∙ sym (ap (insert a) (above b e l k) ∙ before a e (insert_by key b l) h))))

insert_all_lem : (a : Diagnostic) (l ds : List Diagnostic) → insert_all key (insert a l) ds ≡ insert a (insert_all key l ds)
unfolding insert_all
insert_all_lem a l [] = refl
insert_all_lem a l (b ∷ ds) = ap (λ (k : List Diagnostic). insert_all key k ds) (insert_commutes a b l) ∙ insert_all_lem a (insert_by key b l) ds

sort-step : (d : Diagnostic) (ds : List Diagnostic) → sort_by key (d ∷ ds) ≡ insert d (sort_by key ds)
unfolding insert_all insert
sort-step d ds = ap (λ (k : List Diagnostic). insert_all key k ds) (nothing d) ∙ insert_all_lem d [] ds

insert-same : (d : A.Diagnostic Span) (ds : List (A.Diagnostic Span)) → map record_of (A.insert d ds) ≡ insert (record_of d) (map record_of ds)
unfolding A.insert insert record_of
insert-same d [] = refl
insert-same d (e ∷ ds) = by_test_lem (leb d.place.start e.place.start)
    (λ t. rw (A.insert, insert, t))
    (λ t. rw (A.insert, insert, t, insert-same d ds))

pub sort-same : (ds : List (A.Diagnostic Span)) → map record_of (A.sort ds) ≡ D.sort (map record_of ds)
unfolding A.sort insert_all
sort-same [] = refl
sort-same (d ∷ ds) = insert-same d (A.sort ds) ∙ ap (insert (record_of d)) (sort-same ds) ∙ sym (sort-step (record_of d) (map record_of ds))

insert-length : (d : A.Diagnostic Span) (ds : List (A.Diagnostic Span)) → length (A.insert d ds) ≡ 1 + length ds
unfolding A.insert
insert-length d [] = refl
insert-length d (e ∷ ds) = by_test_lem (leb d.place.start e.place.start) (λ t. rw (A.insert, t) (omega arith)) (λ t. rw (A.insert, t) (omega (arith, insert-length d ds)))

pub sort-length : (ds : List (A.Diagnostic Span)) → length (A.sort ds) ≡ length ds
unfolding A.sort
sort-length [] = refl
sort-length (d ∷ ds) = omega (arith, insert-length d (A.sort ds), sort-length ds)

-- ---- row 5
pub report-same : (ds : List (A.Diagnostic Span)) (n s : ℕ)
    → ◌≡◌ {A = ReadOutcome (List ℕ)} (record { reply = report_reply n (length ds); log = D.log_after n (D.sort (map record_of ds)); sheet = zeros s }) (read_diagnostics (A.sort ds) n s)
unfolding report_reply read_diagnostics L.log_words D.log_after D.padded
report-same ds n s =
    let k : length (A.sort ds) ≡ length ds = sort-length ds in
    let w : L.log_words (A.sort ds) ≡ D.flat (D.sort (map record_of ds)) = ap D.flat (sort-same ds) in
    let m : length (D.sort (map record_of ds)) ≡ length ds = ap length (sym (sort-same ds)) ∙ length-map (A.sort ds) record_of ∙ k in
    by_test_lem (ltb (n / 5) (length ds))
    (λ t. let h : n / 5 < length ds = ltb-true (n / 5) (length ds) t in
    rw (report_reply, read_diagnostics, D.log_after, k, t, m, lt-leb (5 * length ds) n (omega arith), k))
    (λ t. let h : length ds ≤ n / 5 = ltb-false (n / 5) (length ds) t in
    rw (report_reply, read_diagnostics, D.log_after, D.padded, k, t, m, le-leb (5 * length ds) n (omega arith), w, k, length-flat (D.sort (map record_of ds)), m))
