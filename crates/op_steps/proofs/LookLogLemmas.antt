-- What the log of a look at a bucket says, whose one section is the look.
use Rattle.std.proofs.Common.{◌≡◌, ◌∙◌, ℕ, zero, suc, List, [], ◌∷◌, All, Option, Some, None, Err, MatchOption, option_and_then, inl, inr, refl, sym, ap, subst, arith}
use Rattle.audit_trail.specs.declared.entry.Deed.TheVariants.{Kept}
use Rattle.audit_trail.specs.declared.entry.Entry.{Entry}
use Rattle.bucket_book.specs.Content.{IsBucketOf, content_of}
use Rattle.call_types.specs.declared.names.Mode.{Mode}
use Rattle.call_types.specs.declared.refusal.Refusal.{Refusal}
use Rattle.call_types.specs.declared.reply.Reply.TheVariants.{Refused as RefusedReply}
use Rattle.slot_core.specs.Sections.{SaysKept}
use Rattle.slot_core.specs.Stubs.{IsStub, Says, StubOfEntry, Writes, WritesNone}
use Rattle.slot_core.specs.Views.{SlotNumbers}
use Rattle.slot_core.specs.declared.slot.SlotFault.{SlotFault}
use Rattle.slot_core.specs.declared.slot.SlotFault.TheVariants.{AuditFailed, Key, NoMemory as NoMemoryFault, NotInFlight, Quorum, SeqSpent}
use Rattle.slot_core.specs.declared.stub.Stub.{Stub}
use Rattle.receipts.specs.Bucketing.{BucketIsThere}
use Rattle.receipts.specs.Events.{Shown, sections_of}
use Rattle.receipts.specs.Events.Event.{Turned}
use Rattle.receipts.specs.Events.Shown.{ContentShown, NoneShown}
use Rattle.receipts.specs.Looks.{EndsAtLook, HasEntry, IsIdle, IsOfSection, LooksAt}
use Rattle.receipts.specs.Paying.{ChangesNothing, LeavesAll}
use Rattle.receipts.specs.Registers.{bucket_register, bucket_slot}
use Rattle.op_steps.specs.Notes.{note_of, noted, refusal_by}

-- the entry of a look
look_entry : (bucket : List ℕ) (numbers : SlotNumbers) (entry : Entry) (fault : Option SlotFault) (made : Stub) → numbers.index ≡ bucket_slot bucket
    → entry.ticket ≡ numbers.turns → IsStub numbers (Some entry) fault made → Says (Some made) (SaysKept (bucket_register bucket))
    → HasEntry (bucket_slot bucket) (bucket_register bucket) Kept (note_of made)
look_entry bucket numbers entry fault made index ticket is says =
    let kept : SaysKept (bucket_register bucket) entry =
    subst (λ e. MatchOption e (Unit {0}) (SaysKept (bucket_register bucket))) is.entry_is says in
    record {
      slot_is = is.slot ∙ index;
      entry = entry;
      entry_is = is.entry_is;
      ticket_is = ticket ∙ sym is.ticket;
      name_is = kept.name_is;
      deed_is = kept.deed_is;
    }

-- what a stub of a look says
saying : (bucket : List ℕ) (stub : Option Stub) (made : Stub) → stub ≡ Some made → Says stub (SaysKept (bucket_register bucket))
    → Says (Some made) (SaysKept (bucket_register bucket))
saying bucket stub made is says = subst (λ s. Says s (SaysKept (bucket_register bucket))) is says

-- a look that was done showed the content
looked_at : (bucket content : List ℕ) (numbers : SlotNumbers) (stub : Option Stub) (x : Writes numbers None stub) → numbers.index ≡ bucket_slot bucket
    → Says stub (SaysKept (bucket_register bucket))
    → LooksAt (bucket_slot bucket) (bucket_register bucket) content (record { note = note_of x.0; shown = ContentShown content })
looked_at bucket content numbers stub x index says = record {
  entry = look_entry bucket numbers x.2.0 None x.0 index x.2.1 x.2.2 (saying bucket stub x.0 x.1 says);
  unrefused = ap (option_and_then refusal_by) x.2.2.fault_is;
  shown = refl;
}

-- one that found the bucket
pub there_of : (bucket content : List ℕ) (mode : Mode) (numbers : SlotNumbers) (stub : Option Stub) → Writes numbers None stub → numbers.index ≡ bucket_slot bucket
    → Says stub (SaysKept (bucket_register bucket)) → IsBucketOf content mode
    → BucketIsThere bucket mode (Turned numbers.index (noted stub) (ContentShown content) ∷ [])
there_of bucket content mode numbers stub x index says is =
    subst (λ s. BucketIsThere bucket mode (Turned numbers.index (noted s) (ContentShown content) ∷ [])) (sym x.1) (record {
      look = record { note = note_of x.0; shown = ContentShown content };
      sections = refl;
      finds = record { content = content; looks = looked_at bucket content numbers stub x index says; is_bucket = is };
    })

-- one that found none
pub lacks_of : (bucket : List ℕ) (why : Refusal) (numbers : SlotNumbers) (stub : Option Stub) → Writes numbers None stub → numbers.index ≡ bucket_slot bucket
    → Says stub (SaysKept (bucket_register bucket)) → RefusedReply why ≡ RefusedReply Refusal.NoSuchBucket
    → EndsAtLook bucket (RefusedReply why) (Turned numbers.index (noted stub) (ContentShown (content_of None)) ∷ [])
lacks_of bucket why numbers stub x index says told =
    subst (λ s. EndsAtLook bucket (RefusedReply why) (Turned numbers.index (noted s) (ContentShown (content_of None)) ∷ [])) (sym x.1) (inl (record {
      look = record { note = note_of x.0; shown = ContentShown (content_of None) };
      sections = refl;
      lacks = looked_at bucket (content_of None) numbers stub x index says;
      told = told;
    }))

-- one that was refused
refused_of : (bucket : List ℕ) (why : Refusal) (numbers : SlotNumbers) (fault : SlotFault) (made : Stub) → numbers.index ≡ bucket_slot bucket
    → made.slot ≡ numbers.index → made.fault ≡ Some fault → IsIdle (bucket_slot bucket) (bucket_register bucket) (note_of made)
    → refusal_by fault ≡ Some why → IsOfSection why → EndsAtLook bucket (RefusedReply why) (Turned numbers.index (noted (Some made)) NoneShown ∷ [])
refused_of bucket why numbers fault made index slot is idle by of = inr (inl (record {
  look = record { note = note_of made; shown = NoneShown };
  sections = refl;
  idle = idle;
  refuses = record {
    slot_is = slot ∙ index;
    why = why;
    of_section = of;
    refused = ap (option_and_then refusal_by) is ∙ by;
    told = refl;
  };
}))

-- one whose refusal has an entry
wrote_refused : (bucket : List ℕ) (why : Refusal) (numbers : SlotNumbers) (fault : SlotFault) (stub : Option Stub) → Writes numbers (Some fault) stub
    → numbers.index ≡ bucket_slot bucket → Says stub (SaysKept (bucket_register bucket)) → refusal_by fault ≡ Some why → IsOfSection why
    → EndsAtLook bucket (RefusedReply why) (Turned numbers.index (noted stub) NoneShown ∷ [])
wrote_refused bucket why numbers fault stub x index says by of =
    subst (λ s. EndsAtLook bucket (RefusedReply why) (Turned numbers.index (noted s) NoneShown ∷ [])) (sym x.1)
    (refused_of bucket why numbers fault x.0 index x.2.2.slot x.2.2.fault_is
    (inr (look_entry bucket numbers x.2.0 (Some fault) x.0 index x.2.1 x.2.2 (saying bucket stub x.0 x.1 says))) by of)

-- one whose refusal has none
bare_refused : (bucket : List ℕ) (why : Refusal) (numbers : SlotNumbers) (fault : SlotFault) (stub : Option Stub) → WritesNone numbers fault stub
    → numbers.index ≡ bucket_slot bucket → refusal_by fault ≡ Some why → IsOfSection why
    → EndsAtLook bucket (RefusedReply why) (Turned numbers.index (noted stub) NoneShown ∷ [])
bare_refused bucket why numbers fault stub x index by of =
    subst (λ s. EndsAtLook bucket (RefusedReply why) (Turned numbers.index (noted s) NoneShown ∷ [])) (sym x.1)
    (refused_of bucket why numbers fault x.0 index x.2.slot x.2.fault_is (inl x.2.entry_is) by of)

-- no refusal
abbrev is_none : Option Refusal → Type 0
is_none None = Unit {0}
is_none (Some why) = ⊥

-- one that was refused, by its fault
pub fault_says : (bucket : List ℕ) (why : Refusal) (numbers : SlotNumbers) (fault : SlotFault) (stub : Option Stub)
    → StubOfEntry {T = List ℕ} numbers (Err fault) stub → numbers.index ≡ bucket_slot bucket → Says stub (SaysKept (bucket_register bucket))
    → refusal_by fault ≡ Some why → IsOfSection why → EndsAtLook bucket (RefusedReply why) (Turned numbers.index (noted stub) NoneShown ∷ [])
fault_says bucket why numbers (Quorum fault) stub x index says by of = wrote_refused bucket why numbers (Quorum fault) stub x index says by of
fault_says bucket why numbers (Key fault) stub x index says by of = wrote_refused bucket why numbers (Key fault) stub x index says by of
fault_says bucket why numbers SeqSpent stub x index says by of = bare_refused bucket why numbers SeqSpent stub x index by of
fault_says bucket why numbers (AuditFailed before after) stub x index says by of = bare_refused bucket why numbers (AuditFailed before after) stub x index by of
fault_says bucket why numbers NoMemoryFault stub x index says by of = absurd (subst is_none by tt)
fault_says bucket why numbers (NotInFlight id) stub x index says by of = wrote_refused bucket why numbers (NotInFlight id) stub x index says by of

-- a look changes nothing
kept_entry : (name : List ℕ) (entry : Option Entry) → MatchOption entry (Unit {0}) (SaysKept name) → MatchOption entry (Unit {0}) (λ e. LeavesAll e.deed)
kept_entry name None says = tt
kept_entry name (Some entry) says = subst LeavesAll (sym says.deed_is) tt

pub kept_all : (k : ℕ) (name : List ℕ) (stub : Option Stub) (shown : Shown) → Says stub (SaysKept name) → All ChangesNothing (sections_of (Turned k (noted stub) shown ∷ []))
kept_all k name None shown says i d low = absurd (omega (arith, low))
kept_all k name (Some made) shown says zero d low = kept_entry name made.entry says
kept_all k name (Some made) shown says (suc i) d low = absurd (omega (arith, low))
