-- The diagnostics of declarations, once the first declaration of every name is known: a line repeats a name
-- if it is not the first that declares it.
use Rattle.std.specs.Prelude.{ℕ, cond, List, [], ◌∷◌, ◌++◌, eqb, get_or}
use Rattle.tokens.specs.declared.Token.{Token}
use Rattle.diag.specs.declared.Diagnostic.{Diagnostic}
use Rattle.diag.specs.Log.{error, with_related}
use Rattle.parser.specs.Row.{peek}
use Rattle.assembler.specs.Rows.{place_of}
use Rattle.assembler.specs.Entries.{Entry}
use Rattle.assembler.specs.Declarations.{declares, name_of, tapes_error}

-- the diagnostic of a declaration: E011 for a second one, related to the first; that of its value for a first one
unfoldable pub name_error : List Token → List ℕ → Entry → List Diagnostic
unfolding declares tapes_error
name_error ts first e =
    let f = get_or first (name_of e.first) 0 in
    cond (declares e.first) (cond (eqb f e.at) (tapes_error e) (with_related (error 11 (place_of e.first)) (place_of (peek ts f)) ∷ [])) []

-- the diagnostics of all declarations
unfoldable pub name_errors : List Token → List ℕ → List Entry → List Diagnostic
unfolding name_error
name_errors ts first [] = []
name_errors ts first (e ∷ es) = name_error ts first e ++ name_errors ts first es
