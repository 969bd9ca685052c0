-- The first declaration of each name, and the diagnostics of declarations.
use Rattle.std.specs.Prelude.{ℕ, ◌+◌, ◌-◌, Bool, false, cond, List, [], ◌∷◌, ◌++◌, Option, None, Some, eqb, leb, ltb, length, get_or, set, replicate}
use Rattle.tokens.specs.declared.Token.{Token}
use Rattle.diag.specs.declared.Diagnostic.{Diagnostic}
use Rattle.diag.specs.Log.{error, with_related}
use Rattle.parser.specs.Row.{peek}
use Rattle.assembler.specs.Rows.{place_of}
use Rattle.assembler.specs.Entries.{Entry}
use Rattle.parser.specs.ItemNumbers as items
use Rattle.assembler.specs.EntryNumbers as entry

-- the items that declare one of the eleven names
unfoldable pub declares : Token → Bool
declares t = cond (leb entry.item t.kind) (ltb t.kind entry.rule) false

-- the number of the name that an item declares
abbrev pub name_of : Token → ℕ
name_of t = t.kind - entry.item

-- no name is declared: an index of no token for each
abbrev pub undeclared : List ℕ
undeclared = replicate items.transition 0xffffffff

-- the first declarations of n tokens with one more line
unfoldable pub declare : ℕ → List ℕ → Entry → List ℕ
unfolding declares
declare n first e =
    let k = name_of e.first in
    cond (declares e.first) (cond (ltb (get_or first k 0) n) first (set first k e.at)) first

-- the line of a first declaration, an index among n tokens; a number that is none of their indices stands for none
abbrev pub line : ℕ → ℕ → Option ℕ
line n f = cond (ltb f n) (Some f) None

-- the indices of the first declarations
unfoldable pub declarations : ℕ → List ℕ → List Entry → List ℕ
unfolding declare
declarations n first [] = first
declarations n first (e ∷ es) = declarations n (declare n first e) es

-- tapes above 255: E009 at the value, the third token
unfoldable pub tapes_error : Entry → List Diagnostic
tapes_error e =
    let v = peek e.rest 1 in
    cond (eqb e.first.kind (entry.item + items.tapes)) (cond (ltb 255 v.value) (error 9 (place_of v) ∷ []) []) []

-- a second declaration: E011, related to the first
unfoldable pub declaration_error : List Token → List ℕ → Entry → List Diagnostic
unfolding declares tapes_error
declaration_error ts first e =
    let f = get_or first (name_of e.first) 0 in
    cond (declares e.first) (cond (ltb f (length ts)) (with_related (error 11 (place_of e.first)) (place_of (peek ts f)) ∷ []) (tapes_error e)) []

-- the diagnostics of the declarations of all lines
unfoldable pub declaration_errors : List Token → List ℕ → List Entry → List Diagnostic
unfolding declaration_error declare
declaration_errors ts first [] = []
declaration_errors ts first (e ∷ es) = declaration_error ts first e ++ declaration_errors ts (declare (length ts) first e) es
