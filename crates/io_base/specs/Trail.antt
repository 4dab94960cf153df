-- The calls that were made of a sink or a source, and what each answered, the newest first.
use Rattle.std.specs.Prelude.{ℕ, List, [], ◌∷◌, ◌++◌, length, take, Result, Ok, Err}
use Rattle.io_base.specs.declared.fault.IoFault.{IoFault}

-- a `give` of these bytes, and its answer
pub record GiveCall : Type 0 where
  pub bytes : List ℕ
  pub answer : Result (Unit {0}) IoFault

-- the gives, and one more
abbrev pub given_more : List GiveCall → List ℕ → Result (Unit {0}) IoFault → List GiveCall
given_more calls bytes answer = record { bytes = bytes; answer = answer } ∷ calls

-- what a give that answered so got across for sure
abbrev pub accepted_of : List ℕ → Result (Unit {0}) IoFault → List ℕ
accepted_of bytes (Ok _) = bytes
accepted_of bytes (Err _) = []

-- the bytes of the gives that answered Ok, in their order
abbrev pub accepted : List GiveCall → List ℕ
accepted [] = []
accepted (call ∷ calls) = accepted calls ++ accepted_of call.bytes call.answer

-- a `take` into a buffer of so many bytes, and the bytes that it answered
pub record TakeCall : Type 0 where
  pub room : ℕ
  pub answer : Result (List ℕ) IoFault

-- the bytes that a take answered which left the buffer so
abbrev pub answered_bytes : Result ℕ IoFault → List ℕ → Result (List ℕ) IoFault
answered_bytes (Ok n) into = Ok (take n into)
answered_bytes (Err fault) into = Err fault

-- the takes, and one more
abbrev pub taken_more : List TakeCall → Result ℕ IoFault → List ℕ → List TakeCall
taken_more calls answer into = record { room = length into; answer = answered_bytes answer into } ∷ calls

-- what a take that answered so gave
abbrev pub obtained_of : Result (List ℕ) IoFault → List ℕ
obtained_of (Ok bytes) = bytes
obtained_of (Err _) = []

-- all the bytes that the takes answered, in their order
abbrev pub obtained : List TakeCall → List ℕ
obtained [] = []
obtained (call ∷ calls) = obtained calls ++ obtained_of call.answer
