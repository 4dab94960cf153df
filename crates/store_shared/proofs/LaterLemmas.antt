-- A call that is not served yet is told so.
use Rattle.std.proofs.Common.{◌<◌, ℕ, [], ◌∷◌, Option, ap, inl, refl, arith}
use Rattle.std.specs.Prelude.{Result, Ok, Err}
use Rattle.call_types.specs.declared.feed.Cut.{Cut}
use Rattle.call_types.specs.declared.refusal.Refusal.TheVariants.{NotImplemented}
use Rattle.call_types.specs.declared.reply.Reply.TheVariants.{Refused}
use Rattle.desk_base.specs.Answering.{Task}
use Rattle.desk_base.specs.Telling.{Effect, Telling}
use Rattle.desk_base.specs.Telling.Telling.{Head as TheHead}
use Rattle.desk_base.specs.declared.call.Call.{Call}
use Rattle.desk_base.specs.declared.call.Call.TheVariants.{ListBuckets, CreateBucket, HeadBucket, GetVersioning, PutVersioning, Put, Get, Head, Delete, List2, ListVersions, Create, Part, Complete, Abort}
use Rattle.drive_base.specs.declared.plan.SetPlan.{SetPlan}
use Rattle.receipts.specs.Events.Event.{Told}
use Rattle.receipts.specs.Owes.{OwesCall}
use Rattle.op_steps.specs.Notes.{notes_by}
use Rattle.op_steps.specs.Ready.{IsReady}
use Rattle.op_steps.specs.Store.{FeedSeen, TellerSeen}
use Rattle.op_steps.proofs.TellLemmas.{told_pays}
use Rattle.store_shared.specs.Answers.{NotesAre, cut_by}
use Rattle.store_shared.specs.Later.{HasNoStub, IsLater, TellsLater}
use Rattle.store_shared.specs.Serving.{IsToldAlone}
use Rattle.store_shared.specs.declared.op_desk.Receipt.{Receipt}
use Rattle.store_shared.proofs.UnitLemmas.{tell_any}
use Rattle.store_shared.proofs.WireLemmas.{WiresRan, wires}

-- that is what is owed before anything was done
later_owed : (set : SetPlan) (call : Call) (now : ℕ) → IsLater call → OwesCall set call now (Refused NotImplemented) []
later_owed set ListBuckets now later = absurd later
later_owed set (CreateBucket bucket) now later = absurd later
later_owed set (HeadBucket bucket) now later = absurd later
later_owed set (GetVersioning bucket) now later = absurd later
later_owed set (PutVersioning bucket long) now later = absurd later
later_owed set (Put at content md5 long) now later = absurd later
later_owed set (Get at pick ask matches) now later = absurd later
later_owed set (Head at pick matches) now later = absurd later
later_owed set (Delete at pick) now later = absurd later
later_owed set (List2 bucket page) now later = absurd later
later_owed set (ListVersions bucket page) now later = absurd later
later_owed set (Create at content) now later = inl (refl, refl)
later_owed set (Part at upload number md5 long) now later = (refl, refl)
later_owed set (Complete at upload long) now later = (refl, refl)
later_owed set (Abort at upload) now later = inl (refl, refl)

is_ready : (set : SetPlan) (task : Task) → IsLater task.call → IsReady set task (Refused NotImplemented) []
is_ready set task later = record {
  untold = λ k d l. let below : k < 0 = l in absurd (omega arith);
  uncut = refl;
  owed = later_owed set task.call task.now later;
}

-- a receipt without stubs has the notes of a log without sections
no_notes : (result : Result Receipt Cut) (telling : Telling) (cut : Option Cut) → HasNoStub result → NotesAre result (Told telling cut ∷ [])
no_notes (Ok receipt) telling cut none = ap notes_by none
no_notes (Err why) telling cut none = ([], refl)

-- a call that is told so is served by that telling alone
pub later_told : {T : Type 0} (takes breaks : Effect T) (set : SetPlan) (task : Task) (result : Result Receipt Cut) (feed : FeedSeen) (old new : TellerSeen T)
    → IsLater task.call → TellsLater takes breaks result old new
    → IsToldAlone set task result (Told (TheHead (Refused NotImplemented)) (cut_by result) ∷ [])
later_told takes breaks set task result feed old new later (moves, none) = record {
  feed = feed;
  faults = old.faults;
  faults_after = new.faults;
  told = (new.faults, tell_any takes breaks (TheHead (Refused NotImplemented)) (cut_by result) old new moves, refl);
  pays = told_pays takes breaks set task (Refused NotImplemented) [] (cut_by result) old new refl (λ more. refl) (is_ready set task later) moves;
  notes = no_notes result (TheHead (Refused NotImplemented)) (cut_by result) none;
}

-- and so its feed and its teller go on
pub later_wired : {T : Type 0} (takes breaks : Effect T) (result : Result Receipt Cut) (feed : FeedSeen) (old new : TellerSeen T) → TellsLater takes breaks result old new
    → WiresRan takes breaks (Told (TheHead (Refused NotImplemented)) (cut_by result) ∷ []) (wires feed old) (wires feed new)
later_wired takes breaks result feed old new (moves, none) = (new, moves, refl)
