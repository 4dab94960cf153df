-- What holds of all that a put is of: its register, its deed, its call, and what that owes.
use Rattle.std.proofs.Common.{◌≡◌, ◌⊎◌, ◌<◌, ◌≤◌, ℕ, zero, suc, List, [], ◌∷◌, Option, Some, IsUtf8, codes, length, slice_index, inl, refl, arith}
use Rattle.std.proofs.lemmas.Str.{IsUtf8-append, IsUtf8-from_ascii}
use Rattle.call_types.specs.declared.names.Mode.{Mode}
use Rattle.call_types.specs.declared.reply.Reply.{Reply}
use Rattle.call_types.specs.declared.reply.Reply.TheVariants.{Found}
use Rattle.desk_base.specs.Answering.{bytes_after}
use Rattle.desk_base.specs.Calls.{IsKey, stated_length}
use Rattle.drive_base.specs.declared.plan.SetPlan.{SetPlan}
use Rattle.put_stage.specs.declared.answers.Staged.{Staged}
use Rattle.receipts.specs.Events.{Log, body_of}
use Rattle.receipts.specs.Owes.{OwesCall}
use Rattle.receipts.specs.Putting.{PutIsAnswered}
use Rattle.receipts.specs.Spans.{GivesBytes}
use Rattle.slot_core.specs.Commits.{FitsFlight}
use Rattle.slot_core.specs.declared.holding.Flight.{Flight}
use Rattle.slot_data.specs.Disks.{IsForKeyOf}
use Rattle.slot_history.specs.Names.{key_name, path_of}
use Rattle.slot_rules.specs.Deeds.{IsLawfulDeed, IsNamedDeed, IsOfNoPart, brings_of, name_of}
use Rattle.stamp_id.specs.declared.version.VersionId.{VersionId}
use Rattle.object_ops.specs.PutTarget.{call_of, deed_of, key_of, kind_of, put_of, register_of}
use Rattle.object_ops.specs.declared.put_target.PutTarget.{PutTarget}
use Rattle.object_ops.specs.declared.put_target.PutTarget.TheVariants.{Object}
use Rattle.object_ops.proofs.ReadingKey.{key_short}

-- ---- its register

-- it is that of its key, or of a part of the key
pub register_for : (target : PutTarget) → IsForKeyOf (key_name (key_of target)) (register_of target)
register_for (Object at kind) = record { at = at; name_is = refl; given_is = inl refl }

slash_low : (i : ℕ) → slice_index (47 ∷ []) i < 128
slash_low zero = omega arith
slash_low (suc i) = omega arith

key_front_low : (i : ℕ) → slice_index (codes "k/") i < 128
key_front_low zero = omega arith
key_front_low (suc zero) = omega arith
key_front_low (suc (suc i)) = omega arith

-- it is text where the bucket and the key are
pub register_text : (target : PutTarget) → IsUtf8 (key_of target).bucket → IsUtf8 (key_of target).key → IsUtf8 (register_of target)
register_text (Object at kind) bucket key =
    IsUtf8-append (codes "k/") (path_of at) (IsUtf8-from_ascii (codes "k/") key_front_low)
    (IsUtf8-append at.bucket (47 ∷ at.key) bucket (IsUtf8-append (47 ∷ []) at.key (IsUtf8-from_ascii (47 ∷ []) slash_low) key))

pub register_short : (target : PutTarget) → IsKey (key_of target) → length (register_of target) ≤ 1129
register_short (Object at kind) is = key_short at is

-- ---- its deed

pub deed_brings : (target : PutTarget) (mode : Mode) (id : VersionId) (staged : Staged)
    → brings_of (deed_of target mode id staged) ≡ Some (record { id = id; print = staged.print; size = staged.length })
deed_brings (Object at kind) mode id staged = refl

pub deed_name : (target : PutTarget) (mode : Mode) (id : VersionId) (staged : Staged) → name_of (deed_of target mode id staged) ≡ register_of target
deed_name (Object at kind) mode id staged = refl

pub deed_lawful : (target : PutTarget) (mode : Mode) (id : VersionId) (staged : Staged) → length (kind_of target) ≤ 255
    → IsLawfulDeed (deed_of target mode id staged)
deed_lawful (Object at kind) mode id staged short = short

pub deed_named : (target : PutTarget) (mode : Mode) (id : VersionId) (staged : Staged) → IsUtf8 (key_of target).bucket → IsUtf8 (key_of target).key
    → IsNamedDeed (deed_of target mode id staged)
deed_named (Object at kind) mode id staged bucket key = (bucket, key)

pub deed_no_part : (target : PutTarget) (mode : Mode) (id : VersionId) (staged : Staged) → IsOfNoPart (deed_of target mode id staged)
deed_no_part (Object at kind) mode id staged = tt

pub deed_fits : (target : PutTarget) (mode : Mode) (flight : Flight) (staged : Staged) → FitsFlight (deed_of target mode flight.id staged) (Some flight)
deed_fits (Object at kind) mode flight staged = (flight, refl, refl)

-- ---- its call

pub call_long : (target : PutTarget) (stated : Option (List ℕ)) (long : ℕ) → stated_length (call_of target stated long) ≡ long
call_long (Object at kind) stated long = refl

-- no byte follows the head of its reply
pub none_after : (target : PutTarget) (stated : Option (List ℕ)) (long : ℕ) (reply : Reply) → 0 ≡ bytes_after reply (call_of target stated long)
none_after (Object at kind) stated long (Found version span id) = refl
none_after (Object at kind) stated long other = refl

pub gives_none : (target : PutTarget) (set : SetPlan) (stated : Option (List ℕ)) (long : ℕ) (reply : Reply) (log : Log)
    → GivesBytes set (call_of target stated long) reply [] log
gives_none (Object at kind) set stated long (Found version span id) log = refl
gives_none (Object at kind) set stated long other log = refl

-- what it is answered
abbrev pub OwesPut : PutTarget → SetPlan → Option (List ℕ) → ℕ → Reply → Log → Type 0
OwesPut target set stated now reply log = PutIsAnswered set (put_of target set now) stated reply log

pub owes_call : (target : PutTarget) (set : SetPlan) (stated : Option (List ℕ)) (long now : ℕ) (reply : Reply) (log : Log) → length (body_of log) ≡ long
    → OwesPut target set stated now reply log → OwesCall set (call_of target stated long) now reply log
owes_call (Object at kind) set stated long now reply log whole owes = (whole, owes)
