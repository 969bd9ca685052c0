-- Σ and Γ of a row with entries, in words of the sheet: a character and its place, 0 0 where it is inferred.
use Rattle.std.specs.Prelude.{ℕ, Bool, cond, List, [], ◌∷◌, ◌++◌, eqb, ltb, length, get_or, drop}
use Rattle.language.specs.Layout.{flat, place_words}
use Rattle.tokens.specs.declared.Token.{Token}
use Rattle.assembler.specs.Rows.{place_of}
use Rattle.assembler.specs.Entries.{entries}
use Rattle.sheet.specs.Rules.{resolve}
use Rattle.infer_symbols.specs.Codes.{noted_all}
use Rattle.infer_symbols.specs.Symbols.{line_range, symbols_in, has_blank, rules_symbols, codes_of}
use Rattle.infer_symbols.specs.Input.{input_of}
use Rattle.parser.specs.ItemNumbers as items

-- the words of a listed symbol
abbrev pub listed_words : ℕ → Token → List ℕ
listed_words b t = resolve b t ∷ place_words (place_of t)

-- the words of an inferred symbol
abbrev pub inferred_words : ℕ → List ℕ
inferred_words c = c ∷ 0 ∷ 0 ∷ []

-- a symbol of Γ that is not the blank, as one of Σ
unfoldable pub other_words : ℕ → Token → List ℕ
unfolding resolve
other_words b t = cond (eqb (resolve b t) b) [] (inferred_words (resolve b t))

-- a symbol of a line: of an undeclared Σ, or as it is listed
abbrev pub symbol_words : Bool → ℕ → Token → List ℕ
symbol_words inferred b = cond inferred (other_words b) (listed_words b)

-- the characters of the line at f
abbrev pub line_codes : ℕ → List Token → ℕ → List ℕ
line_codes b ts f = codes_of b (symbols_in ts f)

-- what an undeclared Γ holds besides the blank: a declared Σ and what the rules use; or what they use and the input
unfoldable pub candidates : List ℕ → ℕ → List Token → List ℕ → List ℕ
unfolding symbols_in rules_symbols entries input_of
candidates text b ts first =
    let rules = codes_of b (rules_symbols ts (entries ts)) in
    cond (ltb (get_or first items.input_alphabet 0) (length ts)) (line_codes b ts (get_or first items.input_alphabet 0) ++ rules) (rules ++ input_of text ts (get_or first items.input 0))

-- an undeclared Γ: the blank, then each of the candidates once
unfoldable pub gamma_codes : List ℕ → ℕ → List Token → List ℕ → List ℕ
unfolding candidates noted_all
gamma_codes text b ts first = noted_all (b ∷ []) (candidates text b ts first)

-- a declared Γ, with the blank last if it lacks it
unfoldable pub declared_gamma : ℕ → List Token → ℕ → List ℕ
unfolding symbols_in has_blank flat
declared_gamma b ts g = flat (listed_words b) (symbols_in ts g) ++ cond (has_blank b (line_range ts g)) [] (inferred_words b)

-- Γ, whose codes are cs where it is not declared
unfoldable pub gamma_words : ℕ → List Token → List ℕ → List ℕ → List ℕ
unfolding declared_gamma flat
gamma_words b ts first cs = cond (ltb (get_or first items.tape_alphabet 0) (length ts)) (declared_gamma b ts (get_or first items.tape_alphabet 0)) (flat inferred_words cs)

-- an undeclared Σ: Γ less the blank; the line at g declares Γ, or its codes are cs, the blank first
unfoldable pub inferred_sigma : ℕ → List Token → ℕ → List ℕ → List ℕ
unfolding symbols_in flat other_words
inferred_sigma b ts g cs = cond (ltb g (length ts)) (flat (other_words b) (symbols_in ts g)) (flat inferred_words (drop 1 cs))

-- Σ, of which the codes of Γ are cs where neither is declared
unfoldable pub sigma_words : ℕ → List Token → List ℕ → List ℕ → List ℕ
unfolding symbols_in flat inferred_sigma
sigma_words b ts first cs = cond (ltb (get_or first items.input_alphabet 0) (length ts)) (flat (listed_words b) (symbols_in ts (get_or first items.input_alphabet 0))) (inferred_sigma b ts (get_or first items.tape_alphabet 0) cs)
