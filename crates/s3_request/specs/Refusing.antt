-- Answers that a refusal may stand in the place of.
use Rattle.std.specs.Prelude.{◌≡◌, Bool, cond, Option, Some, None, Result, Ok, Err}
use Rattle.call_types.specs.declared.refusal.Refusal.{Refusal}
use Rattle.s3_request.specs.declared.fault.CallFault.{CallFault}
use Rattle.s3_request.specs.declared.fault.CallFault.TheVariants.{Refused, NoMemory}

-- what comes next, where nothing was refused
abbrev pub and_then : {A B : Type 0} → Result A Refusal → (A → Result B Refusal) → Result B Refusal
and_then (Ok value) next = next value
and_then (Err why) next = Err why

-- a value, or this refusal where there is none
abbrev pub or_refusal : {A : Type 0} → Refusal → Option A → Result A Refusal
or_refusal why (Some value) = Ok value
or_refusal why None = Err why

-- nothing, or this refusal where the test fails
abbrev pub unless : Bool → Refusal → Result (Unit {0}) Refusal
unless holds why = cond holds (Ok tt) (Err why)

-- A result is this answer: its value, or its refusal. Want of memory may come at any time.
abbrev pub Gives : {A : Type 0} → Result A Refusal → Result A CallFault → Type 0
Gives answer (Ok value) = answer ≡ Ok value
Gives answer (Err (Refused why)) = answer ≡ Err why
Gives answer (Err NoMemory) = Unit {0}

-- A fault is this refusal, or want of memory.
abbrev pub IsRefusal : Refusal → CallFault → Type 0
IsRefusal why (Refused given) = given ≡ why
IsRefusal why NoMemory = Unit {0}
