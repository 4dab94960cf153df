-- No reply is told without the calls that it speaks of.
use Rattle.std.proofs.Common.{◌≡◌, ◌∙◌, ◌<◌, ℕ, zero, suc, List, [], ◌∷◌, ◌++◌, ap, arith, cond, inl, inr, length, length-append, refl, Some, slice_index_or, subst, sym}
use Rattle.std.specs.Prelude.{Ok}
use Rattle.std.proofs.lemmas.Bool.Decides.{eqb_tells}
use Rattle.call_types.specs.Good.{good_count}
use Rattle.call_types.specs.declared.why.FileKind.TheVariants.{Format, Manifest as ManifestKind, Register, Shard}
use Rattle.call_types.specs.declared.why.Why.{Why}
use Rattle.call_types.specs.declared.why.Why.TheVariants.{Behind, Damaged, Failed, Good, Lacks}
use Rattle.drive_base.specs.Calls.{MadeCall, Seen}
use Rattle.drive_base.specs.Calls.Seen.{Faulted, Unwritten}
use Rattle.drive_base.specs.Trail.{Append, DriveCall, Rename, Sync}
use Rattle.drive_base.specs.declared.plan.SetPlan.{SetPlan}
use Rattle.body_print.specs.Names.{loose_manifest_name, loose_shard_name, manifest_name, shard_name}
use Rattle.body_print.specs.Staging.{appends}
use Rattle.stamp_id.specs.declared.version.VersionId.{VersionId}
use Rattle.receipts.specs.Asking.{PutsAskDrives, PutsReachAll, RefusedReadsAskDrives}
use Rattle.receipts.specs.Events.{Event, Log, Saw, body_of, called_in, calls_at}
use Rattle.receipts.specs.Events.Event.{Called, Turned}
use Rattle.receipts.specs.Registers.{key_register, key_slot}
use Rattle.receipts.specs.Letters.{IsBadManifest, IsInUse, ManifestLetter, Wanted}
use Rattle.receipts.specs.Putting.{PutIsCommitted, PutOf, object_put}
use Rattle.body_print.specs.Plans.{data_plan}
use Rattle.drive_base.specs.Plan.{write_drives}
use Rattle.call_types.specs.declared.reply.Reply.{Reply}
use Rattle.std.specs.Prelude.{Option}
use Rattle.receipts.specs.Staging.{Staging, StagedLetter, TookData}
use Rattle.receipts.proofs.JoinLemmas.{calls_join}

-- a log that has a call of a drive has one
some_call : (k : ℕ) (made : MadeCall) (log : Log) (place : ℕ) → place < length log → slice_index_or log place (Called k made) ≡ Called k made
    → calls_at k log ≡ [] → ⊥
some_call k made [] place low is none = absurd (omega (arith, low))
some_call k made (event ∷ log) zero low is none =
    let first : calls_at k (Called k made ∷ log) ≡ [] = subst (λ (e : Event). calls_at k (e ∷ log) ≡ []) is none in
    elim (eqb_tells k k) [
      | inl same ↦
          let long = ap (length {A = DriveCall}) (subst (λ b. cond b (made.call ∷ []) [] ++ calls_at k log ≡ []) same.0 first) in
          absurd (omega (arith, long))
      | inr other ↦ absurd (other.1 refl)
    ]
some_call k made (event ∷ log) (suc place) low is none =
    some_call k made log place (omega (arith, low)) is (rest_none (called_in k event) (calls_at k log) none)
  where
    rest_none : (front rest : List DriveCall) → front ++ rest ≡ [] → rest ≡ []
    rest_none [] rest none = none
    rest_none (call ∷ front) rest none = absurd cc

saw_some : (k : ℕ) (seen : Seen) (log : Log) → Saw log k seen → calls_at k log ≡ [] → ⊥
saw_some k seen log saw none = some_call k saw.made log saw.called.0 saw.called.1 saw.called.2 none

-- some drive is good among more than none
some_good : (whys : List Why) → 0 < good_count whys → (k : ℕ) × (k < length whys) × (slice_index_or whys k Good ≡ Good)
some_good [] some = absurd (omega (arith, some))
some_good (Good ∷ whys) some = (zero, omega arith, refl)
some_good (Failed b a ∷ whys) some = let more = some_good whys some in (suc more.0, (let low = more.1 in omega (arith, low)), more.2)
some_good (Damaged damage ∷ whys) some = let more = some_good whys some in (suc more.0, (let low = more.1 in omega (arith, low)), more.2)
some_good (Behind ballot ∷ whys) some = let more = some_good whys some in (suc more.0, (let low = more.1 in omega (arith, low)), more.2)
some_good (Lacks kind ∷ whys) some = let more = some_good whys some in (suc more.0, (let low = more.1 in omega (arith, low)), more.2)

-- a drive that took a shard and a manifest was called
took_some : (id : VersionId) (shard manifest : List ℕ) (log : Log) (k : ℕ) → TookData id shard manifest log k → calls_at k log ≡ [] → ⊥
took_some id shard manifest log k took none =
    let long = ap (length {A = DriveCall}) (sym took.calls ∙ none) in
    let parts = length-append (appends (loose_shard_name id) took.pieces) (Sync (loose_shard_name id) (Ok tt) ∷ Append (loose_manifest_name id) manifest (Ok tt)
    ∷ Sync (loose_manifest_name id) (Ok tt) ∷ Rename (loose_manifest_name id) (manifest_name id) (Ok tt) ∷ Rename (loose_shard_name id) (shard_name id) (Ok tt) ∷ []) in
    absurd (omega (arith, long, parts))

pub put_asks_drives : (set : SetPlan) (of : PutOf) (stated : Option (List ℕ)) (reply : Reply) (log : Log) → ((k : ℕ) → calls_at k log ≡ [])
    → (put : PutIsCommitted set of stated reply log) → 0 < write_drives (data_plan set put.id).drives (data_plan set put.id).parity → ⊥
put_asks_drives set of stated reply log none put some =
    let enough = put.staged.enough in
    let good = some_good put.staged.whys (omega (arith, some, enough)) in
    let low : good.0 < set.drives = (let counted = put.staged.counted in let inside = good.1 in omega (arith, counted, inside)) in
    let staging : Staging = record { id = put.id; body = body_of log; shards = put.staged.shards } in
    let behind : Log = Turned (key_slot of.at) (Some put.own) put.shown ∷ put.rest in
    let letter = subst (λ (w : Why). StagedLetter set of.register staging put.front good.0 w) good.2 (put.staged.each good.0 low) in
    took_some put.id _ _ put.front good.0 letter.1 (front_none (calls_at good.0 put.front) (calls_at good.0 behind)
    (sym (calls_join good.0 put.front behind) ∙ (ap (calls_at good.0) (sym put.parts) ∙ none good.0)))
  where
    front_none : (front rest : List DriveCall) → front ++ rest ≡ [] → front ≡ []
    front_none [] rest none = refl
    front_none (call ∷ front) rest none = absurd cc

pub puts_ask_drives : PutsAskDrives
puts_ask_drives set at kind stated now reply log none put some = put_asks_drives set (object_put set at kind now) stated reply log none put some

-- a drive in use that failed at nothing and forgot nothing took its data, by its letter
healthy_took : (set : SetPlan) (register : List ℕ) (staging : Staging) (log : Log) (k : ℕ) (why : Why) → IsInUse set k
    → ((name : List ℕ) (before after : ℕ) → Saw log k (Faulted name before after) → ⊥) → ((name : List ℕ) → Saw log k (Unwritten name) → ⊥)
    → StagedLetter set register staging log k why → StagedLetter set register staging log k Good
healthy_took set register staging log k Good used sound kept letter = letter
healthy_took set register staging log k (Failed b a) used sound kept letter = absurd (elim letter.1 [ inl shard ↦ sound _ b a shard | inr manifest ↦ sound _ b a manifest ])
healthy_took set register staging log k (Damaged damage) used sound kept letter = absurd letter
healthy_took set register staging log k (Behind ballot) used sound kept letter = absurd letter
healthy_took set register staging log k (Lacks Format) used sound kept letter = absurd (used letter)
healthy_took set register staging log k (Lacks Register) used sound kept letter = absurd letter
healthy_took set register staging log k (Lacks ManifestKind) used sound kept letter = absurd (kept _ letter.1)
healthy_took set register staging log k (Lacks Shard) used sound kept letter = absurd (kept _ letter.1)

pub puts_reach_all : PutsReachAll
puts_reach_all set at kind stated now reply log put k low used sound kept =
    (healthy_took set (key_register at) (record { id = put.id; body = body_of log; shards = put.staged.shards }) put.front k (slice_index_or put.staged.whys k Good) used sound kept
    (put.staged.each k low)).1

letter_calls : (set : SetPlan) (wanted : Wanted) (log : Log) (k : ℕ) (why : Why) → IsInUse set k → ManifestLetter set wanted log k why → calls_at k log ≡ [] → ⊥
letter_calls set wanted log k Good used letter none = absurd letter
letter_calls set wanted log k (Failed b a) used letter none = saw_some k _ log letter.1 none
letter_calls set wanted log k (Damaged damage) used letter none = by letter.1
  where
    by : IsBadManifest set wanted log k → ⊥
    by (inl long) = saw_some k _ log long.1 none
    by (inr (inl cut)) = saw_some k _ log cut.sized none
    by (inr (inr other)) = saw_some k _ log other.1.sized none
letter_calls set wanted log k (Behind ballot) used letter none = absurd letter
letter_calls set wanted log k (Lacks Format) used letter none = used letter
letter_calls set wanted log k (Lacks Register) used letter none = absurd letter
letter_calls set wanted log k (Lacks ManifestKind) used letter none = saw_some k _ log letter.1 none
letter_calls set wanted log k (Lacks Shard) used letter none = absurd letter

pub refused_reads_ask_drives : RefusedReadsAskDrives
refused_reads_ask_drives set wanted whys log k serves low used none = letter_calls set wanted log k (slice_index_or whys k Good) used (serves.each k low) none
