-- What the log has after the look at the bucket.
use Rattle.std.proofs.Common.{◌≡◌, ◌∙◌, ℕ, zero, List, [], ◌∷◌, All, Option, Some, None, MatchOption, inl, inr, refl, sym, subst, arith}
use Rattle.audit_trail.specs.declared.entry.Deed.{Deed}
use Rattle.audit_trail.specs.declared.entry.Deed.TheVariants.{Kept}
use Rattle.audit_trail.specs.declared.entry.Entry.{Entry}
use Rattle.call_types.specs.declared.refusal.Refusal.{Refusal}
use Rattle.call_types.specs.declared.refusal.Refusal.TheVariants.{SeqSpent as SeqSpentRefusal}
use Rattle.call_types.specs.declared.reply.Reply.{Reply}
use Rattle.call_types.specs.declared.reply.Reply.TheVariants as reply_of
use Rattle.slot_core.specs.Stubs.{IsStub, Says}
use Rattle.slot_core.specs.Views.{SlotNumbers}
use Rattle.slot_core.specs.declared.slot.SlotFault.{SlotFault}
use Rattle.slot_core.specs.declared.stub.Stub.{Stub}
use Rattle.receipts.specs.Events.{IsUntold, Log, Section, Shown, sections_of}
use Rattle.receipts.specs.Events.Event.{BarredFrom, Turned}
use Rattle.receipts.specs.Looks.{EndsAtLook, HasEntry, IsIdle}
use Rattle.receipts.specs.Paying.{ChangesNothing, LeavesAll}
use Rattle.receipts.specs.Registers.{bucket_slot}
use Rattle.receipts.specs.declared.barred.Barred.TheVariants.{Spent}
use Rattle.op_steps.specs.BucketLooks.{SaysBucket}
use Rattle.op_steps.specs.Notes.{note_of, noted}
use Rattle.op_steps.specs.declared.looking.Looked.{Looked}
use Rattle.op_steps.specs.declared.looking.Looked.TheVariants as looked_of
use Rattle.object_ops.specs.Reading.{HasFound, IsFresh}
use Rattle.object_ops.proofs.ReadingTell.{none_all, one_all}

-- the entry of a section
pub has_entry : (slot : ℕ) (name : List ℕ) (deed : Deed) (numbers : SlotNumbers) (entry : Entry) (fault : Option SlotFault) (made : Stub) → numbers.index ≡ slot
    → entry.ticket ≡ numbers.turns → IsStub numbers (Some entry) fault made → entry.name ≡ name → entry.deed ≡ deed → HasEntry slot name deed (note_of made)
has_entry slot name deed numbers entry fault made index ticket is named done = record {
  slot_is = is.slot ∙ index;
  entry = entry;
  entry_is = is.entry_is;
  ticket_is = ticket ∙ sym is.ticket;
  name_is = named;
  deed_is = done;
}

-- what is said of the entry of a stub
pub said : (P : Entry → Type 0) (made : Stub) (entry : Entry) → made.entry ≡ Some entry → Says (Some made) P → P entry
said P made entry is says = subst (λ e. MatchOption e (Unit {0}) P) is says

-- one that found no memory answers that alone
abbrev pub no_refusal : Option Refusal → Type 0
no_refusal None = Unit {0}
no_refusal (Some why) = ⊥

-- a section that looked changed nothing
kept_idle : (slot : ℕ) (name : List ℕ) (section : Section) → HasEntry slot name Kept section.note → ChangesNothing section
kept_idle slot name section x =
    subst (λ e. MatchOption e (Unit {0}) (λ made. LeavesAll made.deed)) (sym x.entry_is) (subst LeavesAll (sym x.deed_is) tt)

none_idle : (slot : ℕ) (name : List ℕ) (section : Section) → IsIdle slot name section.note → ChangesNothing section
none_idle slot name section (inl none) = subst (λ e. MatchOption e (Unit {0}) (λ made. LeavesAll made.deed)) (sym none) tt
none_idle slot name section (inr kept) = kept_idle slot name section kept

ends_idle : (bucket : List ℕ) (reply : Reply) (log : Log) → EndsAtLook bucket reply log → All ChangesNothing (sections_of log)
ends_idle bucket reply log (inl x) = subst (All ChangesNothing) (sym x.sections) (one_all ChangesNothing x.look (kept_idle _ _ x.look x.lacks.entry))
ends_idle bucket reply log (inr (inl x)) = subst (All ChangesNothing) (sym x.sections) (one_all ChangesNothing x.look (none_idle _ _ x.look x.idle))
ends_idle bucket reply log (inr (inr x)) = subst (All ChangesNothing) (sym x.sections) (none_all ChangesNothing)

turn_idle : (k : ℕ) (stub : Option Stub) (shown : Shown) → All ChangesNothing (sections_of (Turned k (noted stub) shown ∷ []))
    → IsFresh (Turned k (noted stub) shown ∷ [])
turn_idle k stub shown idle = record { untold = one_all IsUntold (Turned k (noted stub) shown) tt; uncut = refl; untaken = refl; idle = idle }

-- what a log has after the look, by what it showed
abbrev pub AfterLook : List ℕ → Looked → Log → Type 0
AfterLook bucket (looked_of.There mode) log = HasFound bucket mode log
AfterLook bucket (looked_of.Refused why) log = IsFresh log × EndsAtLook bucket (reply_of.Refused why) log
AfterLook bucket looked_of.LacksMemory log = IsFresh log

pub looks : (bucket : List ℕ) (looked : Looked) (k : ℕ) (stub : Option Stub) (shown : Shown) → SaysBucket bucket looked (Turned k (noted stub) shown ∷ [])
    → AfterLook bucket looked (Turned k (noted stub) shown ∷ [])
looks bucket (looked_of.There mode) k stub shown x = record {
  fresh = turn_idle k stub shown (subst (All ChangesNothing) (sym x.sections) (one_all ChangesNothing x.look (kept_idle _ _ x.look x.finds.looks.entry)));
  uncalled = λ drive. refl;
  look = x.look;
  sections = x.sections;
  finds = x.finds;
}
looks bucket (looked_of.Refused why) k stub shown x = (turn_idle k stub shown (ends_idle bucket (reply_of.Refused why) (Turned k (noted stub) shown ∷ []) x), x)
looks bucket looked_of.LacksMemory k stub shown x = turn_idle k stub shown x

-- a look that can't be done
pub bars : (bucket : List ℕ) → EndsAtLook bucket (reply_of.Refused SeqSpentRefusal) (BarredFrom (bucket_slot bucket) Spent ∷ [])
bars bucket = inr (inr (record { sections = refl; barred = record { spent = (zero, omega arith, refl); told = refl } }))
