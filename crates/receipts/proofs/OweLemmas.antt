-- What is owed stays owed while a log grows.
use Rattle.std.proofs.Common.{◌≡◌, ◌≢◌, ◌∙◌, ℕ, List, [], ◌∷◌, ◌++◌, Some, Option, Contains, length, slice_index_or, append_assoc, inl, inr, sym, ap, subst, ◌≤◌, ◌*◌}
use Rattle.call_types.specs.declared.act.Act.TheVariants as act_of
use Rattle.call_types.specs.declared.act.Brief.{Brief}
use Rattle.call_types.specs.declared.names.Key.{Key}
use Rattle.call_types.specs.declared.names.Pick.{Pick}
use Rattle.call_types.specs.declared.names.RangeAsk.{RangeAsk}
use Rattle.call_types.specs.declared.names.Span.{Span}
use Rattle.call_types.specs.declared.reply.Reply.{Reply}
use Rattle.call_types.specs.declared.reply.Reply.TheVariants as reply_of
use Rattle.call_types.specs.declared.version.Version.{Version}
use Rattle.call_types.specs.declared.why.FileKind.TheVariants as kind
use Rattle.call_types.specs.declared.why.Why.{Why}
use Rattle.call_types.specs.declared.why.Why.TheVariants.{Behind, Damaged, Failed, Good, Lacks}
use Rattle.drive_base.specs.declared.plan.SetPlan.{SetPlan}
use Rattle.stamp_id.specs.declared.stamp.ChangeId.{ChangeId}
use Rattle.stamp_id.specs.declared.version.VersionId.{VersionId}
use Rattle.desk_base.specs.Telling.{Telling}
use Rattle.shard_file.specs.Stripes.{stripe_size}
use Rattle.std.specs.List.{flat_map}
use Rattle.desk_base.specs.declared.call.Call.{Call}
use Rattle.desk_base.specs.declared.call.Call.TheVariants as call_of
use Rattle.receipts.specs.Bucketing.{BucketActOwes, BucketIsThere, GetVersioningOwes, HeadBucketOwes, PutVersioningOwes, bucket_target}
use Rattle.md5.specs.Md5.{md5}
use Rattle.call_types.specs.declared.refusal.Refusal.TheVariants.{BadDigest}
use Rattle.call_types.specs.declared.names.Mode.{Mode}
use Rattle.call_types.specs.declared.names.VersionName.{VersionName}
use Rattle.s3_docs.specs.Documents.{IsDocument, IsPlace}
use Rattle.s3_docs.specs.Machine.Value.{Versioning}
use Rattle.s3_docs.specs.declared.prologue.Root.TheVariants.{VersioningConfiguration}
use Rattle.receipts.specs.Events.{Event, Log, body_of}
use Rattle.receipts.specs.Events.Event.{Turned}
use Rattle.receipts.specs.Letters.{BlockLetter, CannotRead, FewBlocks, FewTook, IsBadManifest, IsBadShard, IsGoodBlock, ManifestLetter, NoneServes, ShowedAt, ShowedBlock, ShowedTable, StageLetter, Wanted, Wants, bytes_in}
use Rattle.receipts.specs.Owes.{IsWhole, OwesCall}
use Rattle.receipts.specs.Putting.{BodyIsNotTaken, DigestDiffers, IsAgreed, PutIsAnswered, PutIsCommitted, PutIsNotBegun, PutOf, PutOwes, PutsBody, object_put}
use Rattle.receipts.specs.Reading.{BodyIsLost, EndsBeforeRead, GetOwes, HeadOwes, ReadsKey, SpanIsTold, TellsRead}
use Rattle.receipts.specs.Registers.{key_slot}
use Rattle.receipts.specs.Pages.{keys_rule, versions_rule}
use Rattle.receipts.specs.Staging.{IsStaged}
use Rattle.receipts.specs.Uploads.{upload_of}
use Rattle.receipts.proofs.CommitOweLemmas.{deed_owes, ends_at_commit, has_looked, key_barred, key_committed}
use Rattle.receipts.proofs.GrowLemmas.{Grows, saw_grows}
use Rattle.receipts.proofs.ListOweLemmas.{ends_at_look, list_buckets_owes, page_owes, spent}

-- the letters of a stage
stage_letter : (set : SetPlan) (id : VersionId) (log later : Log) (k : ℕ) (why : Why) → Grows log later → StageLetter set id log k why → StageLetter set id later k why
stage_letter set id log later k Good g h = h
stage_letter set id log later k (Failed before after) g h = (
  h.0,
  elim h.1 [
    | inl shard ↦ inl (saw_grows log later k _ g.calls shard)
    | inr manifest ↦ inr (saw_grows log later k _ g.calls manifest)
  ],
)
stage_letter set id log later k (Damaged damage) g h = h
stage_letter set id log later k (Behind ballot) g h = h
stage_letter set id log later k (Lacks kind.Format) g h = h
stage_letter set id log later k (Lacks kind.Register) g h = h
stage_letter set id log later k (Lacks kind.Manifest) g h = (h.0, saw_grows log later k _ g.calls h.1)
stage_letter set id log later k (Lacks kind.Shard) g h = (h.0, saw_grows log later k _ g.calls h.1)

few_took : (set : SetPlan) (slot : ℕ) (whys : List Why) (log later : Log) → Grows log later → FewTook set slot whys log → FewTook set slot whys later
few_took set slot whys log later g x = record {
  id = x.id;
  few = x.few;
  of_slot = x.of_slot;
  each = λ k l. stage_letter set x.id log later k (slice_index_or whys k Good) g (x.each k l);
}

-- those of manifests
bad_manifest : (set : SetPlan) (wanted : Wanted) (log later : Log) (k : ℕ) → Grows log later → IsBadManifest set wanted log k → IsBadManifest set wanted later k
bad_manifest set wanted log later k g (inl x) = inl (x.0, saw_grows log later k _ g.calls x.1, x.2)
bad_manifest set wanted log later k g (inr (inl x)) =
    inr (inl (record { long = x.long; sized = saw_grows log later k _ g.calls x.sized; place = x.place; short = saw_grows log later k _ g.calls x.short }))
bad_manifest set wanted log later k g (inr (inr x)) =
    inr (inr (x.0, record { sized = saw_grows log later k _ g.calls x.1.sized; showed = saw_grows log later k _ g.calls x.1.showed; none = x.1.none }))

manifest_letter : (set : SetPlan) (wanted : Wanted) (log later : Log) (k : ℕ) (why : Why) → Grows log later
    → ManifestLetter set wanted log k why → ManifestLetter set wanted later k why
manifest_letter set wanted log later k Good g h = h
manifest_letter set wanted log later k (Failed before after) g h = (h.0, saw_grows log later k _ g.calls h.1)
manifest_letter set wanted log later k (Damaged damage) g h = (h.0, bad_manifest set wanted log later k g h.1)
manifest_letter set wanted log later k (Behind ballot) g h = h
manifest_letter set wanted log later k (Lacks kind.Format) g h = h
manifest_letter set wanted log later k (Lacks kind.Register) g h = h
manifest_letter set wanted log later k (Lacks kind.Manifest) g h = (h.0, saw_grows log later k _ g.calls h.1)
manifest_letter set wanted log later k (Lacks kind.Shard) g h = h

none_serves : (set : SetPlan) (wanted : Wanted) (whys : List Why) (log later : Log) → Grows log later → NoneServes set wanted whys log → NoneServes set wanted whys later
none_serves set wanted whys log later g x = record {
  counted = x.counted;
  each = λ k l. manifest_letter set wanted log later k (slice_index_or whys k Good) g (x.each k l);
}

-- those of blocks, by the calls of a part of each log
showed_at : (log later : Log) (k : ℕ) (name : List ℕ) (place : ℕ) (bytes : List ℕ) → ((event : Event) → Contains log event → Contains later event)
    → ShowedAt log k name place bytes → ShowedAt later k name place bytes
showed_at log later k name place bytes keeps x =
    record { from = x.from; gap = x.gap; more = x.more; called = saw_grows log later k _ keeps x.called; place_is = x.place_is; piece = x.piece }

showed_table : (wants : Wants) (log later : Log) (k : ℕ) (table : List ℕ) → ((event : Event) → Contains log event → Contains later event)
    → ShowedTable wants log k table → ShowedTable wants later k table
showed_table wants log later k table keeps x = record { size = x.size; showed = showed_at log later k _ _ table keeps x.showed }

showed_block : (wants : Wants) (log later : Log) (k : ℕ) (block : List ℕ) → ((event : Event) → Contains log event → Contains later event)
    → ShowedBlock wants log k block → ShowedBlock wants later k block
showed_block wants log later k block keeps x = record { size = x.size; showed = showed_at log later k _ _ block keeps x.showed }

bad_shard : (wants : Wants) (log later since after : Log) (k : ℕ) → ((event : Event) → Contains log event → Contains later event)
    → ((event : Event) → Contains since event → Contains after event) → IsBadShard wants log since k → IsBadShard wants later after k
bad_shard wants log later since after k keeps goes_on (inl x) =
    inl (record { table = x.table; showed = showed_table wants since after k x.table goes_on x.showed; differs = x.differs })
bad_shard wants log later since after k keeps goes_on (inr (inl x)) = inr (inl (record {
  table = x.table;
  showed_table = showed_table wants log later k x.table keeps x.showed_table;
  rooted = x.rooted;
  block = x.block;
  showed = showed_block wants since after k x.block goes_on x.showed;
  differs = x.differs;
}))
bad_shard wants log later since after k keeps goes_on (inr (inr x)) =
    inr (inr (record { place = x.place; long = x.long; ends = x.ends; asked = x.asked; short = saw_grows since after k _ goes_on x.short }))

good_block : (wants : Wants) (log later since after : Log) (k : ℕ) → ((event : Event) → Contains log event → Contains later event)
    → ((event : Event) → Contains since event → Contains after event) → IsGoodBlock wants log since k → IsGoodBlock wants later after k
good_block wants log later since after k keeps goes_on x = record {
  table = x.table;
  showed_table = showed_table wants log later k x.table keeps x.showed_table;
  rooted = x.rooted;
  block = x.block;
  showed = showed_block wants since after k x.block goes_on x.showed;
  same = x.same;
}

block_letter : (set : SetPlan) (wants : Wants) (log later since after : Log) (k : ℕ) (why : Why)
    → ((event : Event) → Contains log event → Contains later event) → ((event : Event) → Contains since event → Contains after event)
    → BlockLetter set wants log since k why → BlockLetter set wants later after k why
block_letter set wants log later since after k Good keeps goes_on h = (h.0, good_block wants log later since after k keeps goes_on h.1)
block_letter set wants log later since after k (Failed before behind) keeps goes_on h = (h.0, saw_grows since after k _ goes_on h.1)
block_letter set wants log later since after k (Damaged damage) keeps goes_on h = (h.0, bad_shard wants log later since after k keeps goes_on h.1)
block_letter set wants log later since after k (Behind ballot) keeps goes_on h = h
block_letter set wants log later since after k (Lacks kind.Format) keeps goes_on h = h
block_letter set wants log later since after k (Lacks kind.Register) keeps goes_on h = h
block_letter set wants log later since after k (Lacks kind.Manifest) keeps goes_on h = h
block_letter set wants log later since after k (Lacks kind.Shard) keeps goes_on h = (h.0, saw_grows since after k _ goes_on h.1)

pub few_blocks : (set : SetPlan) (wanted : Wanted) (next : ℕ) (whys : List Why) (log later : Log) → Grows log later
    → FewBlocks set wanted next whys log → FewBlocks set wanted next whys later
few_blocks set wanted next whys log later g x = let since = g.since x.is_since.before x.since x.is_since.parts in record {
  manifest = x.manifest;
  serves = x.serves;
  drive = x.drive;
  number = x.number;
  part = x.part;
  stripe = x.stripe;
  next_in = x.next_in;
  needed = x.needed;
  since = since.0;
  is_since = record {
    before = x.is_since.before;
    parts = since.1;
    showed = x.is_since.showed;
    recent = subst (λ (tale : List Telling). length (flat_map bytes_in tale) ≤ 3 * stripe_size) (sym since.2) x.is_since.recent;
  };
  few = x.few;
  each = λ k l. block_letter set _ log later x.since since.0 k (slice_index_or whys k Good) g.calls since.3 (x.each k l);
}

pub cannot_read : (set : SetPlan) (wanted : Wanted) (next : ℕ) (whys : List Why) (log later : Log) → Grows log later
    → CannotRead set wanted next whys log → CannotRead set wanted next whys later
cannot_read set wanted next whys log later g (inl x) = inl (none_serves set wanted whys log later g x)
cannot_read set wanted next whys log later g (inr x) = inr (few_blocks set wanted next whys log later g x)

pub body_lost : (set : SetPlan) (version : Version) (span : Span) (next : ℕ) (whys : List Why) (log later : Log) → Grows log later
    → BodyIsLost set version span next whys log → BodyIsLost set version span next whys later
body_lost set version span next whys log later g x =
    record { wanted = x.wanted; is_wanted = x.is_wanted; some = x.some; cause = cannot_read set x.wanted next whys log later g x.cause }

-- puts, where the ends of commits stay
put_committed : (set : SetPlan) (put : PutOf) (stated : Option (List ℕ)) (reply : Reply) (log later : Log) → Grows log later
    → ((id : VersionId) (body : List ℕ) → put.Ends id body reply log → put.Ends id body reply later)
    → PutIsCommitted set put stated reply log → PutIsCommitted set put stated reply later
put_committed set put stated reply log later g ends x =
    let own = Turned (key_slot put.at) (Some x.own) x.shown in
    let grown = g.since (x.front ++ own ∷ []) x.rest (x.parts ∙ sym (append_assoc x.front (own ∷ []) x.rest)) in
    record {
      agreed = subst (λ body. IsAgreed stated body) (sym g.body) x.agreed;
      id = x.id;
      of_slot = x.of_slot;
      front = x.front;
      own = x.own;
      shown = x.shown;
      rest = grown.0;
      parts = grown.1 ∙ append_assoc x.front (own ∷ []) grown.0;
      looked = x.looked;
      staged = subst (λ body. IsStaged set put.register x.id body x.front) (sym g.body) x.staged;
      commit = subst (λ body. put.Ends x.id body reply later) (sym g.body) (ends x.id (body_of log) x.commit);
    }

put_not_begun : (at : Key) (reply : Reply) (log later : Log) → Grows log later → PutIsNotBegun at reply log → PutIsNotBegun at reply later
put_not_begun at reply log later g x = record {
  look = x.look;
  own = x.own;
  sections = g.sections ∙ x.sections;
  mode = x.mode;
  bucket = x.bucket;
  no_entry = x.no_entry;
  refuses = x.refuses;
  spent = x.spent;
}

-- a digest that is told is that of a body
record Differs (given body : List ℕ) (reply : Reply) : Type 0 where
  differs : given ≢ md5 body
  told : reply ≡ reply_of.Refused (BadDigest given (md5 body))

digest_differs : (at : Key) (stated : Option (List ℕ)) (reply : Reply) (log later : Log) → Grows log later
    → DigestDiffers at stated reply log → DigestDiffers at stated reply later
digest_differs at stated reply log later g x =
    let differs : Differs x.given (body_of later) reply =
    subst (λ body. Differs x.given body reply) (sym g.body) (record { differs = x.differs; told = x.told }) in
    record {
      looked = has_looked at.bucket log later g x.looked;
      given = x.given;
      given_is = x.given_is;
      differs = differs.differs;
      told = differs.told;
    }

not_taken : (set : SetPlan) (at : Key) (stated : Option (List ℕ)) (reply : Reply) (log later : Log) → Grows log later
    → BodyIsNotTaken set at stated reply log → BodyIsNotTaken set at stated reply later
not_taken set at stated reply log later g x = record {
  looked = has_looked at.bucket log later g x.looked;
  agreed = subst (λ body. IsAgreed stated body) (sym g.body) x.agreed;
  whys = x.whys;
  few = few_took set _ x.whys log later g x.few;
  told = x.told;
}

pub put_answered : (set : SetPlan) (put : PutOf) (stated : Option (List ℕ)) (reply : Reply) (log later : Log) → Grows log later
    → ((id : VersionId) (body : List ℕ) → put.Ends id body reply log → put.Ends id body reply later)
    → PutIsAnswered set put stated reply log → PutIsAnswered set put stated reply later
put_answered set put stated reply log later g ends (inl x) = inl (ends_at_look put.at.bucket reply log later g x)
put_answered set put stated reply log later g ends (inr (inl x)) = inr (inl (put_committed set put stated reply log later g ends x))
put_answered set put stated reply log later g ends (inr (inr (inl x))) = inr (inr (inl (key_barred put.at reply log later g x)))
put_answered set put stated reply log later g ends (inr (inr (inr (inl x)))) = inr (inr (inr (inl (put_not_begun put.at reply log later g x))))
put_answered set put stated reply log later g ends (inr (inr (inr (inr (inl x))))) =
    inr (inr (inr (inr (inl (digest_differs put.at stated reply log later g x)))))
put_answered set put stated reply log later g ends (inr (inr (inr (inr (inr x))))) =
    inr (inr (inr (inr (inr (not_taken set put.at stated reply log later g x)))))

put_owes : (set : SetPlan) (at : Key) (kinds : List ℕ) (stated : Option (List ℕ)) (now : ℕ) (reply : Reply) (log later : Log) → Grows log later
    → PutOwes set at kinds stated now reply log → PutOwes set at kinds stated now reply later
put_owes set at kinds stated now reply log later g x =
    put_answered set (object_put set at kinds now) stated reply log later g
    (λ id body ended. key_committed at now (PutsBody set kinds body id) reply log later g ended) x

-- reads
reads_key : (at : Key) (pick : Pick) (whole : Reply) (log later : Log) → Grows log later → ReadsKey at pick whole log → ReadsKey at pick whole later
reads_key at pick whole log later g x =
    record { look = x.look; own = x.own; sections = g.sections ∙ x.sections; mode = x.mode; bucket = x.bucket; entry = x.entry; due = x.due }

before_read : (at : Key) (reply : Reply) (log later : Log) → Grows log later → EndsBeforeRead at reply log → EndsBeforeRead at reply later
before_read at reply log later g (inl x) = inl (ends_at_look at.bucket reply log later g x)
before_read at reply log later g (inr (inl x)) = inr (inl (record {
  look = x.look;
  own = x.own;
  sections = g.sections ∙ x.sections;
  mode = x.mode;
  bucket = x.bucket;
  idle = x.idle;
  refuses = x.refuses;
}))
before_read at reply log later g (inr (inr x)) = inr (inr (key_barred at reply log later g x))

span_told : (set : SetPlan) (ask : RangeAsk) (version : Version) (id : Option VersionName) (reply : Reply) (log later : Log) → Grows log later
    → SpanIsTold set ask version id reply log → SpanIsTold set ask version id reply later
span_told set ask version id reply log later g x = record {
  span = x.span;
  plans = x.plans;
  told = elim x.told [
    | inl found ↦ inl found
    | inr lost ↦ inr (lost.0, body_lost set version x.span x.span.at lost.0 log later g lost.1, lost.2)
  ];
}

tells_read : (set : SetPlan) (ask : RangeAsk) (matches : Option (List ℕ)) (whole reply : Reply) (log later : Log) → Grows log later
    → TellsRead set ask matches whole reply log → TellsRead set ask matches whole reply later
tells_read set ask matches (reply_of.Found version span id) reply log later g (inl fails) = inl fails
tells_read set ask matches (reply_of.Found version span id) reply log later g (inr (met, inl x)) =
    inr (met, inl (span_told set ask version id reply log later g x))
tells_read set ask matches (reply_of.Found version span id) reply log later g (inr (met, inr x)) = inr (met, inr x)
tells_read set ask matches (reply_of.Refused why) reply log later g x = x
tells_read set ask matches reply_of.Plain reply log later g x = absurd x
tells_read set ask matches (reply_of.Buckets rows) reply log later g x = absurd x
tells_read set ask matches (reply_of.Mode mode) reply log later g x = absurd x
tells_read set ask matches (reply_of.Stored etag id) reply log later g x = absurd x
tells_read set ask matches (reply_of.Deleted id marker) reply log later g x = absurd x
tells_read set ask matches (reply_of.Page rows cut) reply log later g x = absurd x
tells_read set ask matches (reply_of.Versions rows cut) reply log later g x = absurd x
tells_read set ask matches (reply_of.Opened id) reply log later g x = absurd x
tells_read set ask matches (reply_of.Completed etag id) reply log later g x = absurd x

get_owes : (set : SetPlan) (at : Key) (pick : Pick) (ask : RangeAsk) (matches : Option (List ℕ)) (reply : Reply) (log later : Log) → Grows log later
    → GetOwes set at pick ask matches reply log → GetOwes set at pick ask matches reply later
get_owes set at pick ask matches reply log later g (inl x) = inl (before_read at reply log later g x)
get_owes set at pick ask matches reply log later g (inr x) = inr (record {
  whole = x.whole;
  reads = reads_key at pick x.whole log later g x.reads;
  tells = tells_read set ask matches x.whole reply log later g x.tells;
})

head_owes : (at : Key) (pick : Pick) (matches : Option (List ℕ)) (reply : Reply) (log later : Log) → Grows log later
    → HeadOwes at pick matches reply log → HeadOwes at pick matches reply later
head_owes at pick matches reply log later g (inl x) = inl (before_read at reply log later g x)
head_owes at pick matches reply log later g (inr x) =
    inr (record { whole = x.whole; reads = reads_key at pick x.whole log later g x.reads; tells = x.tells })

-- buckets
bucket_there : (bucket : List ℕ) (mode : Mode) (log later : Log) → Grows log later → BucketIsThere bucket mode log → BucketIsThere bucket mode later
bucket_there bucket mode log later g x = record { look = x.look; sections = g.sections ∙ x.sections; finds = x.finds }

head_bucket_owes : (bucket : List ℕ) (reply : Reply) (log later : Log) → Grows log later → HeadBucketOwes bucket reply log → HeadBucketOwes bucket reply later
head_bucket_owes bucket reply log later g (inl x) = inl (ends_at_look bucket reply log later g x)
head_bucket_owes bucket reply log later g (inr x) = inr (x.0, bucket_there bucket x.0 log later g x.1, x.2)

get_versioning_owes : (bucket : List ℕ) (reply : Reply) (log later : Log) → Grows log later
    → GetVersioningOwes bucket reply log → GetVersioningOwes bucket reply later
get_versioning_owes bucket reply log later g (inl x) = inl (ends_at_look bucket reply log later g x)
get_versioning_owes bucket reply log later g (inr x) = inr (x.0, bucket_there bucket x.0 log later g x.1, x.2)

bucket_act_owes : (bucket : List ℕ) (call : Option ChangeId → Brief) (reply : Reply) (log later : Log) → Grows log later
    → BucketActOwes bucket call reply log → BucketActOwes bucket call reply later
bucket_act_owes bucket call reply log later g (inl x) = inl (ends_at_commit (bucket_target bucket call) [] reply log later g x)
bucket_act_owes bucket call reply log later g (inr x) =
    inr (record { sections = g.sections ∙ x.sections; barred = spent _ reply log later g x.barred })

put_versioning_owes : (bucket : List ℕ) (now : ℕ) (reply : Reply) (log later : Log) → Grows log later
    → PutVersioningOwes bucket now reply log → PutVersioningOwes bucket now reply later
put_versioning_owes bucket now reply log later g (inl x) = inl (record {
  mode = x.mode;
  document = subst (λ body. IsDocument VersioningConfiguration body (Versioning x.mode)) (sym g.body) x.document;
  owes = bucket_act_owes bucket _ reply log later g x.owes;
})
put_versioning_owes bucket now reply log later g (inr x) = inr (record {
  sections = g.sections ∙ x.sections;
  place = x.place;
  is_place = subst (λ body. IsPlace VersioningConfiguration body x.place) (sym g.body) x.is_place;
  told = x.told;
})

whole : (call : Call) (log later : Log) → Grows log later → IsWhole call log → IsWhole call later
whole call log later g x = ap length g.body ∙ x

pub call_owes : (set : SetPlan) (call : Call) (now : ℕ) (reply : Reply) (log later : Log) → Grows log later
    → OwesCall set call now reply log → OwesCall set call now reply later
call_owes set call_of.ListBuckets now reply log later g x = (whole call_of.ListBuckets log later g x.0, list_buckets_owes reply log later g x.1)
call_owes set (call_of.CreateBucket bucket) now reply log later g x =
    (whole (call_of.CreateBucket bucket) log later g x.0, bucket_act_owes bucket _ reply log later g x.1)
call_owes set (call_of.HeadBucket bucket) now reply log later g x =
    (whole (call_of.HeadBucket bucket) log later g x.0, head_bucket_owes bucket reply log later g x.1)
call_owes set (call_of.GetVersioning bucket) now reply log later g x =
    (whole (call_of.GetVersioning bucket) log later g x.0, get_versioning_owes bucket reply log later g x.1)
call_owes set (call_of.PutVersioning bucket long) now reply log later g x =
    (whole (call_of.PutVersioning bucket long) log later g x.0, put_versioning_owes bucket now reply log later g x.1)
call_owes set (call_of.Put at kinds stated long) now reply log later g x =
    (whole (call_of.Put at kinds stated long) log later g x.0, put_owes set at kinds stated now reply log later g x.1)
call_owes set (call_of.Get at pick ask matches) now reply log later g x =
    (whole (call_of.Get at pick ask matches) log later g x.0, get_owes set at pick ask matches reply log later g x.1)
call_owes set (call_of.Head at pick matches) now reply log later g x =
    (whole (call_of.Head at pick matches) log later g x.0, head_owes at pick matches reply log later g x.1)
call_owes set (call_of.Delete at pick) now reply log later g x =
    (whole (call_of.Delete at pick) log later g x.0, deed_owes at (act_of.Delete pick) now reply log later g x.1)
call_owes set (call_of.List2 bucket page) now reply log later g x =
    (whole (call_of.List2 bucket page) log later g x.0, page_owes (keys_rule page) bucket reply log later g x.1)
call_owes set (call_of.ListVersions bucket page) now reply log later g x =
    (whole (call_of.ListVersions bucket page) log later g x.0, page_owes (versions_rule page) bucket reply log later g x.1)
call_owes set (call_of.Create at kinds) now reply log later g (inl x) = inl (x.0, g.sections ∙ x.1)
call_owes set (call_of.Create at kinds) now reply log later g (inr x) =
    inr (whole (call_of.Create at kinds) log later g x.0, deed_owes at (act_of.Create kinds) now reply log later g x.1)
call_owes set (call_of.Part at upload number stated long) now reply log later g x = (x.0, g.sections ∙ x.1)
call_owes set (call_of.Complete at upload long) now reply log later g x = (x.0, g.sections ∙ x.1)
call_owes set (call_of.Abort at upload) now reply log later g (inl x) = inl (x.0, g.sections ∙ x.1)
call_owes set (call_of.Abort at upload) now reply log later g (inr x) =
    inr (whole (call_of.Abort at upload) log later g x.0, deed_owes at (act_of.Abort (upload_of upload)) now reply log later g x.1)
