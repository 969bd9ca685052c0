-- The machine that a description gives, each part with its place; P is the type of places. Its parts without a place have the code's own types.
use Rattle.std.specs.Prelude.{ℕ, Bool, List, Option}
use Rattle.machine.specs.declared.Kind.{Kind}
use Rattle.machine.specs.declared.Decoder.{Decoder}
use Rattle.machine.specs.declared.Declared.{Declared}

-- a value with the place where it is written
pub record Located (P A : Type 0) : Type 0 where
  pub value : A
  pub place : P

-- a move of a head: L, R, N
pub data Dir : Type 0 where
  left right stay : Dir

-- a state: its name, and whether it is final
pub record State (P : Type 0) : Type 0 where
  pub name : Located P (List ℕ)
  pub final : Bool

-- what a rule does on one tape: code points read and written, and the move
pub record Action (P : Type 0) : Type 0 where
  pub read : Located P ℕ
  pub write : Located P ℕ
  pub dir : Dir

-- an expanded rule; `line` is the place of the rule as written, without its comment
pub record Rule (P : Type 0) : Type 0 where
  pub from : Located P (List ℕ)
  pub to : Located P (List ℕ)
  pub line : P
  pub comment : Option (Located P (List ℕ))
  pub leading : List (Located P (List ℕ))
  pub actions : List (Action P)

-- a symbol of Σ or Γ: its code point, and its place if it is declared and not inferred
pub record Symbol (P : Type 0) : Type 0 where
  pub code : ℕ
  pub declared_at : Option P

-- the places of the source map: kind and Q the whole declaration, the others the value alone
pub record SourceMap (P : Type 0) : Type 0 where
  pub kind : Option P
  pub input : Option P
  pub tapes : Option P
  pub start : Option P
  pub states : Option P

-- the whole machine; `start` is none where there is no state, `finals` are the places of the states that F lists
pub record Machine (P : Type 0) : Type 0 where
  pub name : Option (Located P (List ℕ))
  pub input : Option (Located P (List ℕ))
  pub kind : Kind
  pub output : Decoder
  pub tapes : ℕ
  pub blank : ℕ
  pub declared : Declared
  pub start : Option (Located P (List ℕ))
  pub map : SourceMap P
  pub states : List (State P)
  pub sigma : List (Symbol P)
  pub gamma : List (Symbol P)
  pub finals : List P
  pub header : List (Located P (List ℕ))
  pub trailing : List (Located P (List ℕ))
  pub rules : List (Rule P)
