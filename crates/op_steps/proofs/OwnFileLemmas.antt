-- What the calls that an op may make leave of the files of a drive that tells them.
use Rattle.std.proofs.Common.{◌≡◌, ◌≢◌, ◌⊎◌, ◌∙◌, ℕ, false, List, Contains, Option, Some, None, Ok, Err, ap, drop, inl, inr, refl, subst, sym, arith}
use Rattle.std.specs.Str.{bytes_eq}
use Rattle.std.proofs.lemmas.Map.{update_other}
use Rattle.body_print.specs.Names.{manifest_name, shard_name}
use Rattle.drive_base.specs.DriveModel.{FilesAfter}
use Rattle.drive_base.specs.Files.{Files, Named, with_loose, with_name, with_placed}
use Rattle.drive_base.specs.Leaves.{AnyLoose, Placed, PlacedOrNot}
use Rattle.drive_base.specs.Trail.{DriveCall, Size, Read, Append, Sync, Rename, Discard, Remove, Names}
use Rattle.drive_base.specs.View.{DriveView}
use Rattle.drive_base.specs.declared.fault.DriveFault.TheVariants.{Absent, Failed, NoMemory}
use Rattle.stamp_id.specs.declared.version.VersionId.{VersionId}
use Rattle.slot_history.specs.Standing.{Flying}
use Rattle.slot_history.proofs.MemberLemmas.{same_or_other}
use Rattle.slot_history.proofs.NameLemmas.{first_bytes, hex_texts_are_one}
use Rattle.op_steps.specs.Calls.{IsOwnLoose, IsOwnPlace, IsTakenName, MayCall}
use Rattle.op_steps.specs.Claims.{Claim}
use Rattle.op_steps.specs.Moves.{IsDataName, IsLooseName, KeepsOthers, LosesFile}
use Rattle.op_steps.specs.OwnFiles.{OwnCallsKeepOthers, OwnCallsLoseOwnFiles}

-- ---- names

differ : (a b : List ℕ) → a ≢ b → bytes_eq a b ≡ false
differ a b apart = elim (same_or_other a b) [
  | inl same ↦ absurd (apart same)
  | inr other ↦ other
]

-- a name is one of the two under which the data of an id is kept
abbrev IsNameOf : VersionId → List ℕ → Type 0
IsNameOf id name = (name ≡ manifest_name id) ⊎ (name ≡ shard_name id)

-- it is so of one id alone
name_of_one : (a b : VersionId) (name : List ℕ) → IsNameOf a name → IsNameOf b name → a ≡ b
name_of_one a b name (inl one) (inl two) = hex_texts_are_one a b (ap (drop 2) (sym one ∙ two))
name_of_one a b name (inl one) (inr two) = absurd (first_bytes 109 115 _ _ (λ same. omega arith) (sym one ∙ two))
name_of_one a b name (inr one) (inl two) = absurd (first_bytes 115 109 _ _ (λ same. omega arith) (sym one ∙ two))
name_of_one a b name (inr one) (inr two) = hex_texts_are_one a b (ap (drop 2) (sym one ∙ two))

-- the names that an op may use are names of data
own_loose : (claim : Claim) (loose : List ℕ) → IsOwnLoose claim loose → IsLooseName loose
own_loose claim loose (f, flies, is) = (f.id, is)

place_loose : (claim : Claim) (loose name : List ℕ) → IsOwnPlace claim loose name → IsLooseName loose
place_loose claim loose name (f, flies, inl manifest) = (f.id, inl manifest.0)
place_loose claim loose name (f, flies, inr shard) = (f.id, inr shard.0)

place_name : (claim : Claim) (loose name : List ℕ) → (own : IsOwnPlace claim loose name) → IsNameOf own.0.id name
place_name claim loose name (f, flies, inl manifest) = inl manifest.1
place_name claim loose name (f, flies, inr shard) = inr shard.1

-- ---- what is no data stays

pub same_files : (old new : Files) → new ≡ old → KeepsOthers old new
same_files old new same = subst (λ (f : Files). KeepsOthers old f) (sym same) (record { kept = λ name other. refl; shown = λ name other. refl; loose = λ name other. refl })

-- what is kept twice
pub keeps_twice : (old mid new : Files) → KeepsOthers old mid → KeepsOthers mid new → KeepsOthers old new
keeps_twice old mid new first second = record {
  kept = λ name other. second.kept name other ∙ first.kept name other;
  shown = λ name other. second.shown name other ∙ first.shown name other;
  loose = λ name other. second.loose name other ∙ first.loose name other;
}

-- where one loose file of data is changed
loose_keeps : (old : Files) (loose : List ℕ) (new : Files) → IsLooseName loose → AnyLoose old loose new → KeepsOthers old new
loose_keeps old loose new of_data any = record {
  kept = λ name other. ap (λ (f : Files). f.kept name) any.1;
  shown = λ name other. ap (λ (f : Files). f.shown name) any.1;
  loose = λ name other. ap (λ (f : Files). f.loose name) any.1
      ∙ update_other bytes_eq old.loose loose any.0 name (differ loose name (λ same. other (subst IsLooseName same of_data)));
}

-- where one file of data is put in place, or taken away
placed_keeps : (old : Files) (at : List ℕ) (w : Option (List ℕ)) (new : Files) → IsDataName at → new ≡ with_placed old at w → KeepsOthers old new
placed_keeps old at w new of_data is = record {
  kept = λ name other. ap (λ (f : Files). f.kept name) is
      ∙ update_other bytes_eq old.kept at w name (differ at name (λ same. other (subst IsDataName same of_data)));
  shown = λ name other. ap (λ (f : Files). f.shown name) is
      ∙ update_other bytes_eq old.shown at w name (differ at name (λ same. other (subst IsDataName same of_data)));
  loose = λ name other. ap (λ (f : Files). f.loose name) is;
}

rename_keeps : (old : Files) (loose at : List ℕ) (new : Files) → IsLooseName loose → IsDataName at → Placed old loose at new → KeepsOthers old new
rename_keeps old loose at new is_loose is_data placed =
    keeps_twice old (with_loose old loose None) new (loose_keeps old loose (with_loose old loose None) is_loose (None, refl))
    (placed_keeps (with_loose old loose None) at (Some placed.bytes) new is_data placed.is)

perhaps_keeps : (old : Files) (loose at : List ℕ) (new : Files) → IsLooseName loose → IsDataName at → PlacedOrNot old loose at new → KeepsOthers old new
perhaps_keeps old loose at new is_loose is_data perhaps = elim perhaps [
  | inl any ↦ loose_keeps old loose new is_loose any
  | inr done ↦ keeps_twice old done.0 new (rename_keeps old loose at done.0 is_loose is_data done.1) (loose_keeps done.0 loose new is_loose done.2)
]

others_stay : (claim : Claim) (call : DriveCall) (old new : DriveView) → MayCall claim call → FilesAfter call old new → KeepsOthers old.files new.files
others_stay claim (Size name (Ok n)) old new may is = same_files old.files new.files is.1
others_stay claim (Size name (Err Absent)) old new may is = same_files old.files new.files is.1
others_stay claim (Size name (Err Failed)) old new may is = same_files old.files new.files is
others_stay claim (Size name (Err NoMemory)) old new may is = absurd is
others_stay claim (Read name at into (Ok n) filled) old new may is = same_files old.files new.files is.1
others_stay claim (Read name at into (Err Absent) filled) old new may is = same_files old.files new.files is.1
others_stay claim (Read name at into (Err Failed) filled) old new may is = same_files old.files new.files is
others_stay claim (Read name at into (Err NoMemory) filled) old new may is = absurd is
others_stay claim (Append loose bytes (Ok done)) old new may is = loose_keeps old.files loose new.files (own_loose claim loose may) (_, is)
others_stay claim (Append loose bytes (Err Absent)) old new may is = absurd is
others_stay claim (Append loose bytes (Err Failed)) old new may is = loose_keeps old.files loose new.files (own_loose claim loose may) is
others_stay claim (Append loose bytes (Err NoMemory)) old new may is = absurd is
others_stay claim (Sync loose (Ok done)) old new may is = loose_keeps old.files loose new.files (own_loose claim loose may) (_, is.2)
others_stay claim (Sync loose (Err Absent)) old new may is = same_files old.files new.files is.1
others_stay claim (Sync loose (Err Failed)) old new may is = loose_keeps old.files loose new.files (own_loose claim loose may) is
others_stay claim (Sync loose (Err NoMemory)) old new may is = absurd is
others_stay claim (Rename loose at (Ok done)) old new may is =
    rename_keeps old.files loose at new.files (place_loose claim loose at may) (may.0.id, place_name claim loose at may) is
others_stay claim (Rename loose at (Err Absent)) old new may is = same_files old.files new.files is.1
others_stay claim (Rename loose at (Err Failed)) old new may is =
    perhaps_keeps old.files loose at new.files (place_loose claim loose at may) (may.0.id, place_name claim loose at may) is
others_stay claim (Rename loose at (Err NoMemory)) old new may is = absurd is
others_stay claim (Discard loose (Ok done)) old new may is = loose_keeps old.files loose new.files (own_loose claim loose may) (None, is.1)
others_stay claim (Discard loose (Err Absent)) old new may is = same_files old.files new.files is.1
others_stay claim (Discard loose (Err Failed)) old new may is = loose_keeps old.files loose new.files (own_loose claim loose may) is
others_stay claim (Discard loose (Err NoMemory)) old new may is = absurd is
others_stay claim (Remove at (Ok done)) old new may is = placed_keeps old.files at None new.files (may.0, may.2) is.1
others_stay claim (Remove at (Err Absent)) old new may is = same_files old.files new.files is.1
others_stay claim (Remove at (Err Failed)) old new may is = elim is [
  | inl same ↦ same_files old.files new.files same
  | inr gone ↦ placed_keeps old.files at None new.files (may.0, may.2) gone
]
others_stay claim (Remove at (Err NoMemory)) old new may is = absurd is
others_stay claim (Names from most (Ok names)) old new may is = same_files old.files new.files is.1
others_stay claim (Names from most (Err Absent)) old new may is = absurd is
others_stay claim (Names from most (Err Failed)) old new may is = same_files old.files new.files is
others_stay claim (Names from most (Err NoMemory)) old new may is = same_files old.files new.files is

pub own_calls_keep_others : OwnCallsKeepOthers
own_calls_keep_others claim call old new may model told = others_stay claim call old new may (model.files told)

-- ---- of which ids files are lost

-- none is, where all that is kept stays
none_lost : (id : VersionId) (old new : Files) → new.kept ≡ old.kept → LosesFile id old new → ⊥
none_lost id old new same (inl (bytes, was, gone)) = gone (ap (λ (kept : Named (List ℕ)). kept (manifest_name id)) same ∙ was)
none_lost id old new same (inr (bytes, was, gone)) = gone (ap (λ (kept : Named (List ℕ)). kept (shard_name id)) same ∙ was)

-- where something else is put under one name it is of that id
lost_at : (old new : Files) (of id : VersionId) (at : List ℕ) (w : Option (List ℕ)) → IsNameOf of at → new.kept ≡ with_name old.kept at w
    → LosesFile id old new → of ≡ id
lost_at old new of id at w named is (inl (bytes, was, gone)) = elim (same_or_other at (manifest_name id)) [
  | inl same ↦ name_of_one of id at named (inl same)
  | inr apart ↦ absurd (gone (ap (λ (kept : Named (List ℕ)). kept (manifest_name id)) is
      ∙ (update_other bytes_eq old.kept at w (manifest_name id) apart ∙ was)))
]
lost_at old new of id at w named is (inr (bytes, was, gone)) = elim (same_or_other at (shard_name id)) [
  | inl same ↦ name_of_one of id at named (inr same)
  | inr apart ↦ absurd (gone (ap (λ (kept : Named (List ℕ)). kept (shard_name id)) is
      ∙ (update_other bytes_eq old.kept at w (shard_name id) apart ∙ was)))
]

-- nor where all files stay
pub same_lost : (id : VersionId) (old new : Files) → new ≡ old → LosesFile id old new → ⊥
same_lost id old new same loses = none_lost id old new (ap (λ (f : Files). f.kept) same) loses

loose_lost : (id : VersionId) (old : Files) (loose : List ℕ) (new : Files) → AnyLoose old loose new → LosesFile id old new → ⊥
loose_lost id old loose new any loses = none_lost id old new (ap (λ (f : Files). f.kept) any.1) loses

perhaps_lost : (of id : VersionId) (old : Files) (loose at : List ℕ) (new : Files) → IsNameOf of at → PlacedOrNot old loose at new → LosesFile id old new → of ≡ id
perhaps_lost of id old loose at new named perhaps loses = elim perhaps [
  | inl any ↦ absurd (loose_lost id old loose new any loses)
  | inr done ↦ lost_at old new of id at (Some done.1.bytes) named (ap (λ (f : Files). f.kept) done.2.1 ∙ ap (λ (f : Files). f.kept) done.1.is) loses
]

-- an op took an id from the trash, or has a put of it under way
abbrev IsOwnId : Claim → VersionId → Type 0
IsOwnId claim id = Contains claim.taken id ⊎ ((f : Flying) × (claim.flight ≡ Some f) × (f.id ≡ id))

taken_lost : (claim : Claim) (old new : Files) (id : VersionId) (at : List ℕ) → (own : IsTakenName claim at) → new ≡ with_placed old at None → LosesFile id old new
    → IsOwnId claim id
taken_lost claim old new id at own is loses = inl (subst (λ (v : VersionId). Contains claim.taken v)
    (lost_at old new own.0 id at None own.2 (ap (λ (f : Files). f.kept) is) loses) own.1)

own_lost : (claim : Claim) (call : DriveCall) (old new : DriveView) (id : VersionId) → MayCall claim call → FilesAfter call old new
    → LosesFile id old.files new.files → IsOwnId claim id
own_lost claim (Size name (Ok n)) old new id may is loses = absurd (same_lost id old.files new.files is.1 loses)
own_lost claim (Size name (Err Absent)) old new id may is loses = absurd (same_lost id old.files new.files is.1 loses)
own_lost claim (Size name (Err Failed)) old new id may is loses = absurd (same_lost id old.files new.files is loses)
own_lost claim (Size name (Err NoMemory)) old new id may is loses = absurd is
own_lost claim (Read name at into (Ok n) filled) old new id may is loses = absurd (same_lost id old.files new.files is.1 loses)
own_lost claim (Read name at into (Err Absent) filled) old new id may is loses = absurd (same_lost id old.files new.files is.1 loses)
own_lost claim (Read name at into (Err Failed) filled) old new id may is loses = absurd (same_lost id old.files new.files is loses)
own_lost claim (Read name at into (Err NoMemory) filled) old new id may is loses = absurd is
own_lost claim (Append loose bytes (Ok done)) old new id may is loses = absurd (loose_lost id old.files loose new.files (_, is) loses)
own_lost claim (Append loose bytes (Err Absent)) old new id may is loses = absurd is
own_lost claim (Append loose bytes (Err Failed)) old new id may is loses = absurd (loose_lost id old.files loose new.files is loses)
own_lost claim (Append loose bytes (Err NoMemory)) old new id may is loses = absurd is
own_lost claim (Sync loose (Ok done)) old new id may is loses = absurd (loose_lost id old.files loose new.files (_, is.2) loses)
own_lost claim (Sync loose (Err Absent)) old new id may is loses = absurd (same_lost id old.files new.files is.1 loses)
own_lost claim (Sync loose (Err Failed)) old new id may is loses = absurd (loose_lost id old.files loose new.files is loses)
own_lost claim (Sync loose (Err NoMemory)) old new id may is loses = absurd is
own_lost claim (Rename loose at (Ok done)) old new id may is loses =
    inr (may.0, may.1, lost_at old.files new.files may.0.id id at (Some is.bytes) (place_name claim loose at may) (ap (λ (f : Files). f.kept) is.is) loses)
own_lost claim (Rename loose at (Err Absent)) old new id may is loses = absurd (same_lost id old.files new.files is.1 loses)
own_lost claim (Rename loose at (Err Failed)) old new id may is loses =
    inr (may.0, may.1, perhaps_lost may.0.id id old.files loose at new.files (place_name claim loose at may) is loses)
own_lost claim (Rename loose at (Err NoMemory)) old new id may is loses = absurd is
own_lost claim (Discard loose (Ok done)) old new id may is loses = absurd (loose_lost id old.files loose new.files (None, is.1) loses)
own_lost claim (Discard loose (Err Absent)) old new id may is loses = absurd (same_lost id old.files new.files is.1 loses)
own_lost claim (Discard loose (Err Failed)) old new id may is loses = absurd (loose_lost id old.files loose new.files is loses)
own_lost claim (Discard loose (Err NoMemory)) old new id may is loses = absurd is
own_lost claim (Remove at (Ok done)) old new id may is loses = taken_lost claim old.files new.files id at may is.1 loses
own_lost claim (Remove at (Err Absent)) old new id may is loses = absurd (same_lost id old.files new.files is.1 loses)
own_lost claim (Remove at (Err Failed)) old new id may is loses = elim is [
  | inl same ↦ absurd (same_lost id old.files new.files same loses)
  | inr gone ↦ taken_lost claim old.files new.files id at may gone loses
]
own_lost claim (Remove at (Err NoMemory)) old new id may is loses = absurd is
own_lost claim (Names from most (Ok names)) old new id may is loses = absurd (same_lost id old.files new.files is.1 loses)
own_lost claim (Names from most (Err Absent)) old new id may is loses = absurd is
own_lost claim (Names from most (Err Failed)) old new id may is loses = absurd (same_lost id old.files new.files is loses)
own_lost claim (Names from most (Err NoMemory)) old new id may is loses = absurd (same_lost id old.files new.files is loses)

pub own_calls_lose_own_files : OwnCallsLoseOwnFiles
own_calls_lose_own_files claim call old new id may model told loses = own_lost claim call old new id may (model.files told) loses
