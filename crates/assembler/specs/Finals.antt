-- The names that Q declares and F lists, and the diagnostics of F.
use Rattle.std.specs.Prelude.{ℕ, suc, ◌+◌, ◌*◌, ◌≤◌, ◌<◌, ◌^◌, ◌≡◌, Bool, true, false, cond, List, [], ◌∷◌, ◌++◌, eqb, ltb, length, get_or, drop, Option, None, Some}
use Rattle.tokens.specs.declared.Token.{Token}
use Rattle.parser.specs.Row.{peek}
use Rattle.parser.specs.Views.{is_state}
use Rattle.diag.specs.declared.Diagnostic.{Diagnostic}
use Rattle.diag.specs.Log.{error, with_related}
use Rattle.assembler.specs.Rows.{place_of}
use Rattle.assembler.specs.Names.{same_name, is_word}
use Rattle.lexer.specs.KindWords as kinds
use Rattle.parser.specs.ItemNumbers as items
pub use Rattle.assembler_names.specs.Names.{Interned}
pub use Rattle.assembler_names.specs.Rows.{Kept}

-- the index of a state's name, of another token none
unfoldable pub name_at : ℕ → Token → List ℕ
unfolding is_state
name_at i t = cond (is_state t) (i ∷ []) []

-- the indices of the names up to the line's end, counted from i
unfoldable pub names_from : ℕ → List Token → List ℕ
unfolding name_at
names_from i [] = []
names_from i (t ∷ ts) = elim (eqb t.kind kinds.newline) [ true ↦ [] | false ↦ name_at i t ++ names_from (suc i) ts ]

-- the names of the set in the line at an index; none where there is no such line
unfoldable pub names_of : List Token → ℕ → List ℕ
unfolding names_from
names_of ts f = names_from (suc f) (drop (suc f) ts)

-- the first of a list of indices whose name is that of x
unfoldable pub listed : List ℕ → List Token → ℕ → List ℕ → Option ℕ
unfolding same_name
listed text ts x [] = None
listed text ts x (j ∷ js) = elim (same_name text (peek ts j) (peek ts x)) [ true ↦ Some j | false ↦ listed text ts x js ]

-- a name absent from a declared Q: E003
unfoldable pub unknown_error : List ℕ → List Token → Bool → List ℕ → ℕ → List Diagnostic
unfolding listed
unknown_error text ts declared qs f = cond declared (elim (listed text ts f qs) [ Some j ↦ [] | None ↦ error 3 (place_of (peek ts f)) ∷ [] ]) []

-- a repeat: E011, related to its first listing
unfoldable pub final_error : List ℕ → List Token → Bool → List ℕ → List ℕ → ℕ → List Diagnostic
unfolding listed unknown_error
final_error text ts declared qs before f = elim (listed text ts f before) [
  | Some j ↦ with_related (error 11 (place_of (peek ts f))) (place_of (peek ts j)) ∷ []
  | None ↦ unknown_error text ts declared qs f
]

-- the diagnostic of a token of F's line: of a name, and of another token none
unfoldable pub final_error_at : List ℕ → List Token → Bool → List ℕ → List ℕ → ℕ → List Diagnostic
unfolding final_error is_state
final_error_at text ts declared qs before i = cond (is_state (peek ts i)) (final_error text ts declared qs before i) []

-- the diagnostics of the names that F lists
unfoldable pub final_errors : List ℕ → List Token → Bool → List ℕ → List ℕ → List ℕ → List Diagnostic
unfolding final_error
final_errors text ts declared qs before [] = []
final_errors text ts declared qs before (f ∷ fs) = final_error text ts declared qs before f ++ final_errors text ts declared qs (before ++ f ∷ []) fs

-- the diagnostics of F, from the first declarations
unfoldable pub finals_errors : List ℕ → List Token → List ℕ → List Diagnostic
unfolding final_errors names_of
finals_errors text ts first =
    let q = get_or first items.states 0 in
    final_errors text ts (ltb q (length ts)) (names_of ts q) [] (names_of ts (get_or first items.final 0))

-- ---- marks: a word of scratch for each first equal word
-- what a name is marked with: 2 and the index of its first listing in F, else 1 if Q has it, else 0
unfoldable pub mark_by : Option ℕ → Option ℕ → ℕ
mark_by (Some j) q = j + 2
mark_by None (Some k) = 1
mark_by None None = 0

-- the mark of the name at x, where Q has the names qs and F has come by those before
unfoldable pub mark_of : List ℕ → List Token → List ℕ → List ℕ → ℕ → ℕ
unfolding listed mark_by
mark_of text ts qs before x = mark_by (listed text ts x before) (listed text ts x qs)

-- the words w hold at a the row of first equal words, and at b the mark of each name
pub record Marks (text : List ℕ) (ts : List Token) (a b : ℕ) (w : List ℕ) (qs before : List ℕ) : Type 0 where
  pub marks : (x : ℕ) → x < length ts → is_word (peek ts x) ≡ true → get_or w (b + get_or w (a + x) 0) 0 ≡ mark_of text ts qs before x

-- the row of marks holds the mark of each name, at the place that the row of first equal words gives
pub record MarkedIn (text : List ℕ) (ts : List Token) (firsts marks qs before : List ℕ) : Type 0 where
  pub marks-at : (x : ℕ) → x < length ts → is_word (peek ts x) ≡ true → get_or marks (get_or firsts x 0) 0 ≡ mark_of text ts qs before x

-- where the rows stand: the tokens, then the row of first equal words at a, then the marks at b
pub record Laid (count a b : ℕ) (w : List ℕ) : Type 0 where
  pub tokens : 4 * count ≤ a
  pub words : a + count ≤ b
  pub marks : b + count ≤ length w
  pub few : count < 2 ^ 31
