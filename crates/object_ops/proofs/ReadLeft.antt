-- How much is left of a HeadObject and a GetObject falls with their steps, and where a read is under way there is a pin.
use Rattle.std.proofs.Common.{◌≡◌, ◌<◌, ◌+◌, ◌*◌, ◌^◌, ◌∙◌, ℕ, Bool, true, false, List, Option, Some, None, subst, sym, refl, ap, arith}
use Rattle.std.specs.Prelude.{if◌then◌else◌, nat_lt}
use Rattle.call_types.specs.declared.feed.Cut.{Cut}
use Rattle.call_types.specs.declared.names.Key.{Key}
use Rattle.call_types.specs.declared.names.Mode.{Mode}
use Rattle.call_types.specs.declared.names.VersionName.{VersionName}
use Rattle.call_types.specs.declared.version.Version.{Version}
use Rattle.call_types.specs.declared.why.Why.{Why}
use Rattle.drive_base.specs.declared.plan.SetPlan.{SetPlan}
use Rattle.slot_core.specs.declared.holding.Pin.{Pin}
use Rattle.receipts.specs.Registers.{bucket_slot, key_slot}
use Rattle.op_steps.specs.declared.looking.Looked.{Looked}
use Rattle.op_steps.specs.declared.looking.Looked.TheVariants as looked_of
use Rattle.op_steps.specs.declared.next.OpNext.TheVariants.{Section}
use Rattle.object_ops.specs.Read.{Looks, Plans, fetched_state, lacks_pin, left_of, needs_pin, step_of}
use Rattle.object_ops.specs.ReadStands.{Begins, told_state}
use Rattle.object_ops.specs.ReadingPlan.{IsOfAsk, PlansSo, drives_of}
use Rattle.object_ops.specs.ReadingStep.{StepsFall, TellsNext}
use Rattle.object_ops.specs.declared.read_outcome.Begun.{Begun}
use Rattle.object_ops.specs.declared.read_op.ReadKind.{ReadKind}
use Rattle.object_ops.specs.declared.read_op.ReadKind.TheVariants as asks
use Rattle.object_ops.specs.declared.read_op.ReadState.{ReadState}
use Rattle.object_ops.specs.declared.read_op.ReadState.TheVariants.{Beginning, Ending, Fetching, Giving, Looking}
use Rattle.object_ops.specs.declared.reading.Reading.{Reading}
use Rattle.object_ops.specs.declared.reading.Stepped.{Stepped}
use Rattle.object_ops.specs.declared.reading.Stepped.TheVariants.{Gives, Goes, LacksMemory, Refused}
use Rattle.object_ops.specs.declared.reading.Planned.{Planned}
use Rattle.object_ops.specs.declared.reading.Planned.TheVariants as planned_of
use Rattle.object_ops.specs.declared.reading.Started.{Started}
use Rattle.object_ops.specs.declared.reading.Started.TheVariants as started_of
use Rattle.object_ops.proofs.ReadingBars.{slot_in}

abbrev is_so : Bool → Type 0
is_so true = Unit {0}
is_so false = ⊥

not_both : {Z : Type 0} → true ≡ false → Z
not_both wrong = absurd (subst is_so wrong tt)

-- where an op needs its pin it has one
pub has_pin : (state : ReadState) (held : Option Pin) → lacks_pin state held ≡ false → needs_pin state ≡ true → held ≡ None → ⊥
has_pin state held has needs none = not_both (sym needs ∙ subst (λ (p : Option Pin). lacks_pin state p ≡ false) none has)

-- a read that has its pin has it in each later state
pub held_on : (old new : ReadState) (held : Option Pin) → lacks_pin old held ≡ false → needs_pin old ≡ true → lacks_pin new held ≡ false
held_on old new None has needs = not_both (sym needs ∙ has)
held_on old new (Some pin) has needs = refl

-- ---- the slot of the section that comes next

pub at_look : (at : Key) (state : ReadState) (k : ℕ) → state ≡ Looking → step_of state at ≡ Section k → k ≡ bucket_slot at.bucket
at_look at state k is step = sym (ap slot_in (subst (λ s. step_of s at ≡ Section k) is step))

pub at_begin : (at : Key) (state : ReadState) (mode : Mode) (k : ℕ) → state ≡ Beginning mode → step_of state at ≡ Section k → k ≡ key_slot at
at_begin at state mode k is step = sym (ap slot_in (subst (λ s. step_of s at ≡ Section k) is step))

pub at_end : (at : Key) (state : ReadState) (cut : Option Cut) (k : ℕ) → state ≡ Ending cut → step_of state at ≡ Section k → k ≡ key_slot at
at_end at state cut k is step = sym (ap slot_in (subst (λ s. step_of s at ≡ Section k) is step))

-- ---- what is left

looks_below : (looked : Looked) (later : ReadState) (reading : Option Reading) → Looks looked later → left_of later reading < 3 * 2 ^ 64 + 9
looks_below (looked_of.There mode) later reading is = subst (λ s. left_of s reading < 3 * 2 ^ 64 + 9) (sym is) (omega arith)
looks_below (looked_of.Refused why) later reading is = subst (λ s. left_of s reading < 3 * 2 ^ 64 + 9) (sym is) (omega arith)
looks_below looked_of.LacksMemory later reading is = subst (λ s. left_of s reading < 3 * 2 ^ 64 + 9) (sym is) (omega arith)

pub looks_left : (state : ReadState) (looked : Looked) (later : ReadState) (reading : Option Reading) → state ≡ Looking → Looks looked later
    → left_of later reading < left_of state reading
looks_left state looked later reading is goes = subst (λ s. left_of later reading < left_of s reading) (sym is) (looks_below looked later reading goes)

-- a reading is over the drives of the set
read_over : (set : SetPlan) (kind : ReadKind) (version : Version) (id : Option VersionName) (r : Reading) → IsOfAsk set kind version id r
    → drives_of set (Some r) ≡ set.drives
read_over set asks.Head version id r is = absurd is
read_over set (asks.Get ask) version id r is = ap (λ (s : SetPlan). s.drives) is.set_is

module _ (set : SetPlan) (kind : ReadKind) (matches : Option (List ℕ)) where
  plans_left : (made : Planned) (version : Version) (id : Option VersionName) (state : ReadState) (reading : Option Reading) → PlansSo set version id kind matches made → Plans made state reading
      → left_of state reading < 3 * 2 ^ 64 + 8
  plans_left (planned_of.Tells told) version id state reading so is = subst (λ s. left_of s reading < 3 * 2 ^ 64 + 8) (sym is.0) (omega arith)
  plans_left (planned_of.Reads r) version id state reading so is = subst (λ s. left_of s reading < 3 * 2 ^ 64 + 8) (sym is.0)
      (subst (λ o. left_of Fetching o < 3 * 2 ^ 64 + 8) (sym is.1) (omega (arith, so.2.few)))
  plans_left planned_of.LacksMemory version id state reading so is = subst (λ s. left_of s reading < 3 * 2 ^ 64 + 8) (sym is.0) (omega arith)

  begins_below : (started : Started) (begun : Begun) → Begins set kind matches started begun → left_of begun.state begun.reading < 3 * 2 ^ 64 + 8
  begins_below (started_of.Found version id pin) begun is = plans_left is.1.0 version id begun.state begun.reading is.1.1 is.1.2
  begins_below (started_of.Refused why) begun is = subst (λ s. left_of s begun.reading < 3 * 2 ^ 64 + 8) (sym is.1) (omega arith)
  begins_below started_of.LacksMemory begun is = subst (λ s. left_of s begun.reading < 3 * 2 ^ 64 + 8) (sym is.1) (omega arith)

  pub begins_left : (state : ReadState) (reading : Option Reading) (mode : Mode) (started : Started) (begun : Begun) → state ≡ Beginning mode
      → Begins set kind matches started begun → left_of begun.state begun.reading < left_of state reading
  begins_left state reading mode started begun is begins = subst (λ s. left_of begun.state begun.reading < left_of s reading) (sym is) (begins_below started begun begins)

  -- what is read is over the set
  plans_of : (made : Planned) (version : Version) (id : Option VersionName) (state : ReadState) (reading : Option Reading) → PlansSo set version id kind matches made → Plans made state reading
      → drives_of set reading ≡ set.drives
  plans_of (planned_of.Tells told) version id state reading so is = ap (drives_of set) is.1
  plans_of (planned_of.Reads r) version id state reading so is = ap (drives_of set) is.1 ∙ read_over set kind version id r so.1
  plans_of planned_of.LacksMemory version id state reading so is = ap (drives_of set) is.1

  pub begins_of : (started : Started) (begun : Begun) → Begins set kind matches started begun → drives_of set begun.reading ≡ set.drives
  begins_of (started_of.Found version id pin) begun is = plans_of is.1.0 version id begun.state begun.reading is.1.1 is.1.2
  begins_of (started_of.Refused why) begun is = ap (drives_of set) is.2
  begins_of started_of.LacksMemory begun is = ap (drives_of set) is.2

  pub begins_held : (started : Started) (begun : Begun) → Begins set kind matches started begun → lacks_pin begun.state begun.pin ≡ false
  begins_held (started_of.Found version id pin) begun is = subst (λ p. lacks_pin begun.state p ≡ false) (sym is.0) refl
  begins_held (started_of.Refused why) begun is = subst (λ p. lacks_pin begun.state p ≡ false) (sym is.0) (subst (λ s. needs_pin s ≡ false) (sym is.1) refl)
  begins_held started_of.LacksMemory begun is = subst (λ p. lacks_pin begun.state p ≡ false) (sym is.0) (subst (λ s. needs_pin s ≡ false) (sym is.1) refl)

-- after a step of a reading
giving_most : (t : Bool) (n : ℕ) (r : Reading) → r.told ≡ t → r.calls < n → left_of Giving (Some r) < 3 * n + 3
giving_most true n r is few = rw is (omega (arith, few))
giving_most false n r is few = rw is (omega (arith, few))

refused_left : (t : Bool) (whys : List Why) (n : ℕ) (r : Reading) → left_of (fetched_state (Refused whys) t) (Some r) < 3 * n + 3
refused_left true whys n r = omega arith
refused_left false whys n r = omega arith

pub fetched_left : (stepped : Stepped) (old new : Reading) → StepsFall stepped old.calls new.calls
    → left_of (fetched_state stepped new.told) (Some new) < left_of Fetching (Some old)
fetched_left Goes old new falls = omega (arith, falls)
fetched_left Gives old new falls = giving_most new.told old.calls new refl falls
fetched_left (Refused whys) old new falls = refused_left new.told whys old.calls new
fetched_left LacksMemory old new falls = omega arith

-- after a telling
left_by : (b : Bool) (old new : Reading) → old.told ≡ true → new.calls ≡ old.calls
    → left_of (if b then Fetching else Ending None) (Some new) < left_of Giving (Some old)
left_by true old new is calls = rw is (omega (arith, calls))
left_by false old new is calls = rw is (omega arith)

told_left_by : (t : Bool) (n : ℕ) (cut : Option Cut) (old new : Reading) → old.told ≡ t → new.told ≡ true → new.calls ≡ old.calls
    → left_of (told_state n t cut) (Some new) < left_of Giving (Some old)
told_left_by true n None old new is told calls = left_by (nat_lt 0 n) old new is calls
told_left_by false n None old new is told calls = rw (is, told) (omega (arith, calls))
told_left_by true n (Some cut) old new is told calls = rw is (omega arith)
told_left_by false n (Some cut) old new is told calls = rw is (omega arith)

pub told_left : (cut : Option Cut) (old new : Reading) → TellsNext old new
    → left_of (told_state new.left old.told cut) (Some new) < left_of Giving (Some old)
told_left cut old new tells = told_left_by old.told new.left cut old new refl tells.told_is tells.calls_is
