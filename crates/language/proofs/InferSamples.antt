-- No combination of the five flags is empty: 32 texts, one for each, computed. Of each, `infer` gives what the Rust infers.
-- Comparisons end in a truth value, so that a definition that is wrong is refused in seconds.
use Prim.Native.Nat.{ℕ}
use Prim.Native.String.{String}
use mathlib.Core.Bool.{Bool, true, false, ◌&&◌}
use mathlib.Core.List.{List, [], ◌∷◌, ◌++◌, map}
use mathlib.Core.Path.{◌≡◌, refl}
use Rattle.chars.specs.Utf8.{encode}
use Rattle.lexer.specs.Text.{codes, same}
use Rattle.machine.specs.declared.Declared.{Declared}
use Rattle.language.specs.Content.{Content, content_of}
use Rattle.language.specs.Lines.{read_lines}
use Rattle.language.specs.Assembly.{diagnostics}
use Rattle.language.specs.Infer.{machine_of}
use Rattle.language.specs.Inference.{infer, assembled}
use Rattle.language.specs.Outcome.{admitted}

-- ---- the texts

-- all combinations of the flags
abbrev both : List Bool
both = false ∷ true ∷ []

abbrev each : {A B : Type 0} → (A → List B) → List A → List B
each f [] = []
each f (a ∷ l) = f a ++ each f l

abbrev pub combinations : List Declared
combinations =
    each (λ q. each (λ s. each (λ g. each (λ w. map (λ b. record { states = q; input_alphabet = s; tape_alphabet = g; start = w; blank = b }) both) both) both) both) both

-- a line where its flag is set
abbrev line : Bool → String → List ℕ
line true s = codes s
line false s = []

-- what is declared, F, an input and two rules: the states are mentioned in another order than Q and F have, and Γ holds the blank
-- unless another is declared
abbrev pub text : Declared → List ℕ
text d =
    line d.states "Q={d,c,b,a,c}\n" ++ (line d.input_alphabet "Σ={2,1,2}\n" ++ (line d.tape_alphabet "Γ={3,'␣',1,3}\n" ++ (line d.start "start=c\n" ++ (line d.blank "blank=4\n"
    ++ codes "F={b,c}\ninput \"532\"\nδ(a,1)=(b,0,R)\nδ(b,_)=(a,_,R)\n"))))

-- ---- what is computed of them

abbrev is_nil : {A : Type 0} → List A → Bool
is_nil [] = true
is_nil (a ∷ l) = false

abbrev all : {A : Type 0} → (A → Bool) → List A → Bool
all p [] = true
all p (a ∷ l) = p a && all p l

-- each is admitted and has no diagnostic
admitted_all : all (λ d. admitted (encode (text d))) combinations ≡ true
unfolding admitted encode
admitted_all = refl

quiet_all : all (λ d. is_nil (diagnostics (read_lines (text d)))) combinations ≡ true
unfolding diagnostics read_lines
quiet_all = refl

abbrev read : Declared → Content
read d = content_of (machine_of (read_lines (text d)))

-- no combination is left out
flags_all : map (λ d. (read d).declared) combinations ≡ combinations
unfolding read_lines machine_of content_of
flags_all = refl

-- ---- what the Rust gives

-- the states, a final one with a star; the start; Σ; Γ
shown : Content → List ℕ
shown m = each (λ s. s.name ++ (elim s.final [ true ↦ codes "*" | false ↦ [] ] ++ codes " ")) m.states ++ (codes "; " ++ (m.start ++ (codes "; " ++ (m.sigma ++ (codes "; " ++ m.gamma)))))

-- of each combination, as the Rust infers it
abbrev rust : List String
rust =
    "a b* c* ; a; 10532; ␣10532" ∷
    "a b* c* ; a; 10532; 410532" ∷
    "c* a b* ; c; 10532; ␣10532" ∷
    "c* a b* ; c; 10532; 410532" ∷
    "a b* c* ; a; 313; 3␣13" ∷
    "a b* c* ; a; 3␣13; 3␣134" ∷
    "c* a b* ; c; 313; 3␣13" ∷
    "c* a b* ; c; 3␣13; 3␣134" ∷
    "a b* c* ; a; 212; ␣210" ∷
    "a b* c* ; a; 212; 4210" ∷
    "c* a b* ; c; 212; ␣210" ∷
    "c* a b* ; c; 212; 4210" ∷
    "a b* c* ; a; 212; 3␣13" ∷
    "a b* c* ; a; 212; 3␣134" ∷
    "c* a b* ; c; 212; 3␣13" ∷
    "c* a b* ; c; 212; 3␣134" ∷
    "d c* b* a c ; d; 10532; ␣10532" ∷
    "d c* b* a c ; d; 10532; 410532" ∷
    "d c* b* a c ; c; 10532; ␣10532" ∷
    "d c* b* a c ; c; 10532; 410532" ∷
    "d c* b* a c ; d; 313; 3␣13" ∷
    "d c* b* a c ; d; 3␣13; 3␣134" ∷
    "d c* b* a c ; c; 313; 3␣13" ∷
    "d c* b* a c ; c; 3␣13; 3␣134" ∷
    "d c* b* a c ; d; 212; ␣210" ∷
    "d c* b* a c ; d; 212; 4210" ∷
    "d c* b* a c ; c; 212; ␣210" ∷
    "d c* b* a c ; c; 212; 4210" ∷
    "d c* b* a c ; d; 212; 3␣13" ∷
    "d c* b* a c ; d; 212; 3␣134" ∷
    "d c* b* a c ; c; 212; 3␣13" ∷
    "d c* b* a c ; c; 212; 3␣134" ∷ []

abbrev inferred : List ℕ → Content
inferred t = infer (assembled (read_lines t))

abbrev agree : List Declared → List String → Bool
agree [] [] = true
agree [] (r ∷ rs) = false
agree (d ∷ ds) [] = false
agree (d ∷ ds) (r ∷ rs) = same (shown (inferred (text d))) (codes r) && agree ds rs

-- `infer` gives the same
rust_all : agree combinations rust ≡ true
unfolding infer assembled read_lines shown
rust_all = refl

-- ---- where a wrong definition shows (must-fail)

-- the blank is added to a declared Γ only where it is lacking
blank_there : same (inferred (codes "Γ={'␣',a}\n")).gamma (codes "␣a") ≡ true
unfolding infer assembled read_lines
blank_there = refl

-- a state that F lists stays final
mark_kept : same (shown (inferred (codes "F={b}\nδ(a,0)=(b,0,R)\n"))) (codes "a b* ; a; 0; ␣0") ≡ true
unfolding infer assembled read_lines shown
mark_kept = refl

-- mentions come before the states that are listed, which are F's here
mentions_first : same (shown (inferred (codes "F={c,b}\nδ(a,0)=(b,0,R)\n"))) (codes "a b* c* ; a; 0; ␣0") ≡ true
unfolding infer assembled read_lines shown
mentions_first = refl

-- the input comes after what the rules use
input_last : same (inferred (codes "input \"ba\"\nδ(p,a)=(p,c,R)\n")).gamma (codes "␣acb") ≡ true
unfolding infer assembled read_lines
input_last = refl
