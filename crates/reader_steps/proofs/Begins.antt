-- What entering an admitted text gives: the outcome of assembly, in room that holds ten words for each diagnostic.
use mathlib.Core.Path.{◌≡◌, refl, sym, ap, subst, ◌∙◌}
use mathlib.Core.List.{List, [], ◌∷◌}
use Rattle.std.specs.Prelude.{None}
use Prim.Native.Nat.{ℕ}
use native.Mathlib.Omega.{arith}
use lib.ListN.{length}
use Rattle.chars.specs.Utf8.{decode}
use Rattle.lexer.specs.Tokens.{Span, tokens}
use Rattle.lexer.specs.Words.{flat, onto}
use Rattle.language.specs.Assembly.{Diagnostic, diagnostics_of}
use Rattle.language.specs.Outcome.{refusal_of}
use Rattle.assembler.specs.Entered.{entered}
use Rattle.assembler.specs.Assembled.{Tokenized, has_states}
use Rattle.diag_search.specs.declared.Search.{Search}
use Rattle.diag_search.specs.Stands.{Started}
use Rattle.reader_theorems.specs.Ready.{lines_of, Ready}
use Rattle.reader_theorems.proofs.Few.{diagnostics_few}
use Rattle.reader.proofs.Calls.{tokenized}
use Rattle.reader_steps.specs.Begun.{Begun}

module _ (t w : List ℕ) (a : refusal_of t (length w) ≡ None) (count : ℕ) (w₁ : List ℕ) (n : count ≡ length (tokens (decode t))) (e : w₁ ≡ onto (flat (tokens (decode t))) w) where
  read_in_lem : Tokenized t count w₁
  read_in_lem = tokenized t w a count w₁ n e

  module _ (w₂ : List ℕ) (s : Search) (st : Started t count w₁ w₂ s) where
    ready : diagnostics_of (lines_of t) ≡ [] → Ready t count w₂ s.first
    ready z = record {
      short = read_in_lem.short;
      room = omega (arith, st.entered.size, read_in_lem.room);
      many = n;
      row = st.entered.row ∙ ap entered read_in_lem.row;
      names = λ y. st.named.sound (st.errors ∙ ap length z) (ap (has_states count s.first) st.rules ∙ y);
      declared = st.first;
      none_found = z;
    }

    pub begun : Begun t w₂ s
    begun = record {
      stands = st.stands;
      whole = st.whole;
      errors = st.errors;
      room = omega (arith, st.errors, diagnostics_few t, st.entered.size, read_in_lem.room);
      rules = st.rules;
      ready = λ z. subst (λ (k : ℕ). Ready t k w₂ s.first) (sym st.many) (ready z);
    }

-- ---- no diagnostics
pub none_found : (t w : List ℕ) (s : Search) → Begun t w s → s.errors ≡ 0 → diagnostics_of (lines_of t) ≡ []
none_found t w s b h = go (diagnostics_of (lines_of t)) refl
  where
    go : (ds : List (Diagnostic Span)) → diagnostics_of (lines_of t) ≡ ds → ds ≡ []
    go [] e = refl
    go (d ∷ ds) e = absurd (omega (arith, b.errors, ap length e))

pub machine-ready : (t w : List ℕ) (s : Search) → Begun t w s → s.errors ≡ 0 → Ready t s.count w s.first
machine-ready t w s b h = b.ready (none_found t w s b h)
