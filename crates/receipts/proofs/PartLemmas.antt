-- What is owed to an UploadPart stays so while a log grows, and shows the part.
use Rattle.std.proofs.Common.{◌≡◌, ◌∙◌, ℕ, List, ◌∷◌, ◌++◌, Option, inl, inr, ap, subst}
use Rattle.std.specs.Prelude.{Bool, true, false, MatchBool, None, Some}
use Rattle.call_types.specs.declared.names.Key.{Key}
use Rattle.call_types.specs.declared.refusal.Refusal.TheVariants.{NoSuchUpload}
use Rattle.call_types.specs.declared.reply.Reply.{Reply}
use Rattle.call_types.specs.declared.reply.Reply.TheVariants.{Refused, Stored}
use Rattle.call_types.specs.declared.version.PartRecord.{PartRecord}
use Rattle.drive_base.specs.declared.plan.SetPlan.{SetPlan}
use Rattle.md5.specs.Md5.{md5}
use Rattle.stamp_id.specs.declared.version.VersionId.{VersionId}
use Rattle.upload_book.specs.Storing.{Leaves, etag_of, is_open, stored_at}
use Rattle.version_list.specs.Answers.{IsServed}
use Rattle.receipts.specs.Committing.{EndsAtCommit, Target}
use Rattle.receipts.specs.Dues.{IsDueReply}
use Rattle.call_types.specs.declared.act.Brief.{Brief}
use Rattle.receipts.specs.Events.{Log, Section, body_of}
use Rattle.receipts.specs.PartLaws.{PartIsStored, PartTellsTag, PartsAskDrives, QuietKeepsPart}
use Rattle.receipts.specs.Parts.{IsPartOf, PartEnds, part_put, part_target}
use Rattle.receipts.specs.Putting.{PutIsAnswered}
use Rattle.receipts.specs.Uploads.{upload_of}
use Rattle.receipts.proofs.ActLemmas.{at_look, shows_commit, unserved}
use Rattle.receipts.proofs.AskingLemmas.{put_asks_drives}
use Rattle.receipts.proofs.CommitOweLemmas.{ends_at_commit}
use Rattle.receipts.proofs.GrowLemmas.{Grows, quiet_grows}
use Rattle.receipts.proofs.ListOweLemmas.{spent}
use Rattle.receipts.proofs.OweLemmas.{put_answered}

part_ends : (at : Key) (target : Target) (reply : Reply) (log later : Log) → Grows log later → PartEnds at target reply log → PartEnds at target reply later
part_ends at target reply log later g x = record {
  look = x.look;
  mode = x.mode;
  bucket = x.bucket;
  waits = x.waits;
  waited = x.waited;
  ends = elim x.ends [
    | inl made ↦ inl (ends_at_commit target (x.look ∷ x.waits) reply log later g made)
    | inr (inl refused) ↦ inr (inl (record { own = refused.own; sections = g.sections ∙ refused.sections; idle = refused.idle; refuses = refused.refuses }))
    | inr (inr barred) ↦ inr (inr (record { sections = g.sections ∙ barred.sections; barred = spent _ reply log later g barred.barred }))
  ];
}

pub quiet_keeps_part : QuietKeepsPart
quiet_keeps_part set at upload number stated now reply log more quiet owed =
    let grows = quiet_grows log more quiet in
    put_answered set (part_put set at (upload_of upload) number now) stated reply log (log ++ more) grows
    (λ id body ended. part_ends at (part_target at (upload_of upload) number now (IsPartOf set body id now)) reply log (log ++ more) grows ended) owed

-- an answer that isn't refused is that of a commit
committed : (set : SetPlan) (at : Key) (upload : VersionId) (number : ℕ) (stated : Option (List ℕ)) (now : ℕ) (reply : Reply) (log : Log)
    → PutIsAnswered set (part_put set at upload number now) stated reply log → IsServed reply
    → (id : VersionId) × (before : List Section) × EndsAtCommit (part_target at upload number now (IsPartOf set (body_of log) id now)) before reply log
committed set at upload number stated now reply log (inl ended) served = absurd (at_look at.bucket reply log ended served)
committed set at upload number stated now reply log (inr (inl put)) served = elim put.commit.ends [
  | inl made ↦ (put.id, put.commit.look ∷ put.commit.waits, made)
  | inr (inl refused) ↦ absurd (unserved reply _ refused.refuses.told served)
  | inr (inr barred) ↦ absurd (unserved reply _ barred.barred.told served)
]
committed set at upload number stated now reply log (inr (inr (inl barred))) served = absurd (unserved reply _ barred.barred.told served)
committed set at upload number stated now reply log (inr (inr (inr (inl begun)))) served = absurd (unserved reply _ begun.refuses.told served)
committed set at upload number stated now reply log (inr (inr (inr (inr (inl differs))))) served = absurd (unserved reply _ differs.told served)
committed set at upload number stated now reply log (inr (inr (inr (inr (inr few))))) served = absurd (unserved reply _ few.told served)

-- a store that isn't refused tells the tag of its part
stores_tag : (opened : Bool) (part : PartRecord) (now : ℕ) (old new : Option PartRecord) (reply : Reply)
    → MatchBool opened (Leaves (Stored (etag_of part) None) (Some (stored_at part now)) reply new) (Leaves (Refused NoSuchUpload) old reply new)
    → IsServed reply → reply ≡ Stored (etag_of part) None
stores_tag true part now old new reply stores served = stores.0
stores_tag false part now old new reply stores served = absurd (unserved reply NoSuchUpload stores.0 served)

makes_tag : (set : SetPlan) (at : Key) (upload : VersionId) (number now : ℕ) (body : List ℕ) (id : VersionId) (before : List Section) (reply : Reply) (log : Log)
    → EndsAtCommit (part_target at upload number now (IsPartOf set body id now)) before reply log → IsServed reply
    → reply ≡ Stored (record { md5 = md5 body; parts = 0 }) None
makes_tag set at upload number now body id before reply log x served = elim x.ends [
  | inl made ↦
      let part = made.is_call.0 in
      let due = subst (λ (c : Brief). IsDueReply c reply) made.is_call.2 made.due in
      stores_tag (is_open upload due.state) part now due.old due.new reply due.step served ∙ ap (λ (p : PartRecord). Stored (etag_of p) None) made.is_call.1.is
  | inr refused ↦ absurd (unserved reply _ refused.refuses.told served)
]

pub part_tells_tag : PartTellsTag
part_tells_tag set at upload number stated now reply log owed served =
    let x = committed set at (upload_of upload) number stated now reply log owed served in
    makes_tag set at (upload_of upload) number now (body_of log) x.0 x.1 reply log x.2 served

pub part_is_stored : PartIsStored
part_is_stored set at upload number stated now reply log owed served =
    let x = committed set at (upload_of upload) number stated now reply log owed served in
    let done = shows_commit (part_target at (upload_of upload) number now (IsPartOf set (body_of log) x.0 now)) x.1 reply log x.2 served in (
      x.0,
      done.is_call.1.0,
      done.is_call.1.1,
      record { note = done.note; there = done.there; call = done.call; is_call = (done.is_call.0, done.is_call.1.2); entry = done.entry },
    )

pub parts_ask_drives : PartsAskDrives
parts_ask_drives set at upload number stated now reply log none put some =
    put_asks_drives set (part_put set at upload number now) stated reply log none put some
