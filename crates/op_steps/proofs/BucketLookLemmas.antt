-- What a log says of the bucket, whose one section is the look at it.
use Rattle.std.proofs.Common.{◌≡◌, ℕ, List, [], ◌∷◌, Option, Result, inl, inr, sym, ap, subst}
use Rattle.call_types.specs.declared.reply.Reply.TheVariants.{Refused as RefusedReply}
use Rattle.drive_base.specs.View.{views}
use Rattle.drive_base.specs.declared.drive.Drive.{Ghosts}
use Rattle.slot_core.specs.Sections.{SaysKept}
use Rattle.slot_core.specs.Stubs.{Says, StubOfEntry}
use Rattle.slot_core.specs.Views.{SlotNumbers}
use Rattle.slot_core.specs.declared.slot.SlotFault.{SlotFault}
use Rattle.slot_core.specs.declared.stub.Stub.{Stub}
use Rattle.receipts.specs.Bucketing.{BucketIsThere}
use Rattle.receipts.specs.Events.Event.{Turned}
use Rattle.receipts.specs.Looks.{EndsAtLook}
use Rattle.receipts.specs.Registers.{bucket_register, bucket_slot}
use Rattle.op_steps.specs.Looking.{LookSays, shown_by}
use Rattle.op_steps.specs.Notes.{noted}
use Rattle.op_steps.specs.Store.{SlotSeen}
use Rattle.op_steps.proofs.LookLemmas.{look_is_turn}
use Rattle.op_steps.proofs.LookLogLemmas.{fault_says, kept_all, lacks_of, there_of}
use Rattle.op_steps.specs.BucketLooks.{LooksSo, SaysBucket, ShowsLook}
use Rattle.op_steps.specs.declared.looking.Look.{Look}
use Rattle.op_steps.specs.declared.looking.Looked.{Looked}
use Rattle.op_steps.specs.declared.looking.Looked.TheVariants.{LacksMemory, Refused, There}

-- what the log of a look says, by its answer
look_says : (bucket : List ℕ) (numbers : SlotNumbers) (answer : Result (List ℕ) SlotFault) (stub : Option Stub) (looked : Looked)
    → numbers.index ≡ bucket_slot bucket → StubOfEntry numbers answer stub → Says stub (SaysKept (bucket_register bucket)) → ShowsLook answer looked
    → SaysBucket bucket looked (Turned numbers.index (noted stub) (shown_by answer) ∷ [])
look_says bucket numbers answer stub (There mode) index x says (content, is, of) =
    subst (λ a. BucketIsThere bucket mode (Turned numbers.index (noted stub) (shown_by a) ∷ [])) (sym is)
    (there_of bucket content mode numbers stub (subst (λ (a : Result (List ℕ) SlotFault). StubOfEntry numbers a stub) is x) index says of)
look_says bucket numbers answer stub (Refused why) index x says (inl (is, told)) =
    subst (λ a. EndsAtLook bucket (RefusedReply why) (Turned numbers.index (noted stub) (shown_by a) ∷ [])) (sym is)
    (lacks_of bucket why numbers stub (subst (λ (a : Result (List ℕ) SlotFault). StubOfEntry numbers a stub) is x) index says (ap RefusedReply told))
look_says bucket numbers answer stub (Refused why) index x says (inr (fault, is, by, of)) =
    subst (λ a. EndsAtLook bucket (RefusedReply why) (Turned numbers.index (noted stub) (shown_by a) ∷ [])) (sym is)
    (fault_says bucket why numbers fault stub (subst (λ (a : Result (List ℕ) SlotFault). StubOfEntry numbers a stub) is x) index says by of)
look_says bucket numbers answer stub LacksMemory index x says shows = kept_all numbers.index (bucket_register bucket) stub (shown_by answer) says

-- a look, as a step
pub looks_so : {D : Type 0} (ghosts : Ghosts D) (name : List ℕ) (was now : SlotSeen D) (answer : Result (List ℕ) SlotFault) (look : Look) (old new : List D)
    → LookSays ghosts was now name answer look.stub old new → ShowsLook answer look.looked
    → LooksSo ghosts name was now look (views ghosts old) (views ghosts new)
looks_so ghosts name was now answer look old new says shows = record {
  shown = shown_by answer;
  turns = λ claim. look_is_turn ghosts was now name answer look.stub old new claim says;
  says = λ bucket named index. look_says bucket was.numbers answer look.stub look.looked index says.turns.stub_is
      (subst (λ n. Says look.stub (SaysKept n)) named says.says) shows;
}
