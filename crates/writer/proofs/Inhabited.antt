-- The claim is not empty: for paper 01's P1 all that it asks is there, computed; a call of each kind with lent rows that hold
-- other words, and so what it says of them.
use Prim.Native.Nat.{ℕ, ◌≤◌}
use Prim.Native.String.{String}
use mathlib.Core.Bool.{false}
use mathlib.Core.List.{List, [], ◌∷◌, ◌++◌}
use mathlib.Core.Path.{◌≡◌, refl, sym}
use native.Mathlib.Omega.{arith}
use lib.ListN.{length, replicate, length-replicate}
use Rattle.chars.specs.Utf8.{decode}
use Rattle.language.specs.Lines.{read_lines}
use Rattle.language.specs.Assembly.{diagnostics}
use Rattle.language.specs.Infer.{machine_of}
use Rattle.language.specs.Layout.{head_of, sheet_words}
use Rattle.language.specs.Outcome.{admitted, work_needed, zeros, filled, words_needed, form_of, read_outcome, write_outcome}
use Rattle.language.specs.Claim.{Writable, BothAgree}
use Rattle.language.proofs.Samples.{bytes}
use Rattle.language.proofs.Claim.{not-refused, read_is}
use Rattle.machine.specs.declared.Head.{Head}
use Rattle.diag.specs.declared.Span.{Span}
use Rattle.machine.specs.declared.Kind.TheVariants.{Transducer}
use Rattle.machine.specs.declared.Decoder.TheVariants.{Word}
use Rattle.std.specs.Prelude.{Ok}
use Rattle.reader_answer.specs.declared.Answer.TheVariants.{Machine}
use Rattle.writer_answer.specs.declared.WriteAnswer.TheVariants.{Written}
use Rattle.writer.specs.Claim.{ReadCall, WriteCall, form, answered, Claim}
use Rattle.writer.proofs.Claim.{claim}

-- P1
abbrev pub text : List ℕ
text = 0xCE ∷ 0xB4 ∷ 40 ∷ 97 ∷ 44 ∷ 123 ∷ 48 ∷ 44 ∷ 49 ∷ 125 ∷ 41 ∷ 61 ∷ 40 ∷ 98 ∷ 44 ∷ 42 ∷ 44 ∷ 82 ∷ 41 ∷ 10 ∷ []

-- the plain form of P1
abbrev pub plain : String
plain = "machine \"\"\nkind transducer\ninput \"\"\noutput word\ntapes = 1\nF = {}\nδ(a, ('0')) = (b, ('0'), (R))\nδ(a, ('1')) = (b, ('1'), (R))\n"

is_text_lem : text ≡ bytes "δ(a,{0,1})=(b,*,R)\n"
unfolding bytes
is_text_lem = refl

form_is : form_of text ≡ bytes plain
unfolding form_of bytes
form_is = refl

pub writable : Writable text
unfolding admitted diagnostics read_lines decode form_of
writable = record { is_admitted = refl; no_diagnostic = refl; form_short = omega arith }

abbrev none : Span
none = record { start = 4294967295; end = 4294967295 }

-- the head that a call answers with
abbrev pub head : Head
head = record {
  output = Word;
  name = none;
  input = none;
  kind = Transducer;
  tapes = 1;
  blank = 0x2423;
  declared = record { states = false; input_alphabet = false; tape_alphabet = false; start = false; blank = false };
  start = record { start = 3; end = 4 };
  map = record { kind = none; input = none; tapes = none; start = none; states = none };
  counts = record { states = 2; sigma = 2; gamma = 3; finals = 0; header = 0; trailing = 0; rules = 2 };
}

-- the sheet that reading P1 leaves
abbrev pub sheet : List ℕ
sheet =
    3 ∷ 4 ∷ 0 ∷ 13 ∷ 14 ∷ 0 ∷
    48 ∷ 0 ∷ 0 ∷ 49 ∷ 0 ∷ 0 ∷
    9251 ∷ 0 ∷ 0 ∷ 48 ∷ 0 ∷ 0 ∷ 49 ∷ 0 ∷ 0 ∷
    18 ∷ 3 ∷ 4 ∷ 13 ∷ 14 ∷ 0 ∷ 19 ∷ 4294967295 ∷ 4294967295 ∷ 1 ∷ 0 ∷ 48 ∷ 6 ∷ 7 ∷ 48 ∷ 15 ∷ 16 ∷ 1 ∷
    18 ∷ 3 ∷ 4 ∷ 13 ∷ 14 ∷ 0 ∷ 19 ∷ 4294967295 ∷ 4294967295 ∷ 1 ∷ 0 ∷ 49 ∷ 8 ∷ 9 ∷ 49 ∷ 15 ∷ 16 ∷ 1 ∷ []

-- a call of `read`, lent a log of 7 words and a sheet of two words more than it needs
pub read_call : ReadCall read_outcome text
unfolding words_needed read_lines decode read_outcome
read_call = record {
  lent = record { work = 126; log = replicate 7 7; sheet = replicate 59 7; work_fits = omega arith; sheet_fits = omega arith };
  answer = Ok (Machine head);
  log = replicate 7 0;
  sheet = sheet ++ 0 ∷ 0 ∷ [];
  contract = refl;
}

-- a call of `write`, lent an output of two bytes more than the form
pub write_call : WriteCall write_outcome text
unfolding words_needed read_lines decode form_of write_outcome bytes
write_call = record {
  lent = record { work = 126; log = replicate 7 7; sheet = replicate 57 7; work_fits = omega arith; sheet_fits = omega arith };
  output_lent = replicate 129 7;
  output_fits = omega arith;
  answer = Ok (Written 127);
  log = replicate 7 0;
  sheet = sheet;
  output = bytes plain ++ 7 ∷ 7 ∷ [];
  contract = refl;
}

-- the claim of these calls, so that it speaks of something
pub claimed : Claim read_outcome write_outcome text text read_call read_call write_call write_call
claimed = claim text text writable writable read_call read_call write_call write_call

-- ---- every text of the claim's kind

-- has a call of `read`, so that the claim's last part is not empty either
unfoldable pub reads : (t : List ℕ) → Writable t → ReadCall read_outcome t
reads t good =
    let m = machine_of (read_lines (decode t)) in
    let rows = replicate {A = ℕ} (words_needed (read_lines (decode t))) 7 in
    let fits : words_needed (read_lines (decode t)) ≤ length rows = omega (arith, length-replicate {A = ℕ} (words_needed (read_lines (decode t))) 7) in
    record {
      lent = record { work = work_needed (length t); log = []; sheet = rows; work_fits = omega arith; sheet_fits = fits };
      answer = Ok (Machine (head_of m));
      log = zeros 0;
      sheet = filled (sheet_words m) (length rows);
      contract = sym (read_is t (work_needed (length t)) [] rows (not-refused t good.is_admitted (work_needed (length t)) (omega arith)) good.no_diagnostic fits);
    }

-- the form of P1 is read again, as a machine that agrees
pub agrees : BothAgree (answered (reads (form write_call) claimed.form_writable)) (answered read_call)
agrees = claimed.form_agrees (reads (form write_call) claimed.form_writable)
