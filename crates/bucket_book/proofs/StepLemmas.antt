-- The laws of steps, act by act.
use Rattle.std.proofs.Common.{◌≡◌, Option, Some, None, refl, sym, ◌∙◌}
use Rattle.call_types.specs.declared.names.Mode.TheVariants.{Never, Enabled, Suspended}
use Rattle.call_types.specs.declared.reply.Reply.{Reply}
use Rattle.bucket_book.specs.declared.record.BucketRecord.{BucketRecord}
use Rattle.bucket_book.specs.declared.step.BucketAct.TheVariants as act
use Rattle.bucket_book.specs.Step.{Leaves, with_mode}
use Rattle.bucket_book.specs.Laws.{IsLater, BucketsStay, StepsAreOne}

-- what leaves a reply and a row leaves no others
leaves_one : (done : Reply) (row : Option BucketRecord) (reply other : Reply) (new left : Option BucketRecord) → Leaves done row reply new → Leaves done row other left → (reply ≡ other) × (new ≡ left)
leaves_one done row reply other new left p q = (p.0 ∙ sym q.0, p.1 ∙ sym q.1)

pub steps_one : StepsAreOne
steps_one None act.Make now reply other new left p q = leaves_one _ _ reply other new left p q
steps_one None (act.SetMode mode) now reply other new left p q = leaves_one _ _ reply other new left p q
steps_one None act.Head now reply other new left p q = leaves_one _ _ reply other new left p q
steps_one None act.GetMode now reply other new left p q = leaves_one _ _ reply other new left p q
steps_one (Some there) act.Make now reply other new left p q = leaves_one _ _ reply other new left p q
steps_one (Some there) (act.SetMode mode) now reply other new left p q = leaves_one _ _ reply other new left p q
steps_one (Some there) act.Head now reply other new left p q = leaves_one _ _ reply other new left p q
steps_one (Some there) act.GetMode now reply other new left p q = leaves_one _ _ reply other new left p q

-- a bucket is later than itself
stays : (old : BucketRecord) (row : Option BucketRecord) → row ≡ Some old → (new : BucketRecord) × (row ≡ Some new) × IsLater old new
stays old row e = (old, e, record { created = refl; mode = λ apart. apart })

pub buckets_stay : BucketsStay
buckets_stay old act.Make now reply row lawful p = stays old row p.1
buckets_stay old (act.SetMode Never) now reply row lawful p = absurd lawful
buckets_stay old (act.SetMode Enabled) now reply row lawful p = (with_mode old Enabled, p.1, record { created = refl; mode = λ apart e. absurd cc })
buckets_stay old (act.SetMode Suspended) now reply row lawful p = (with_mode old Suspended, p.1, record { created = refl; mode = λ apart e. absurd cc })
buckets_stay old act.Head now reply row lawful p = stays old row p.1
buckets_stay old act.GetMode now reply row lawful p = stays old row p.1
