-- A deed that needs no body is lawful, its register has a lawful name, and it comes with no put.
use Rattle.std.proofs.Common.{◌≡◌, None, true, IsUtf8, refl}
use Rattle.std.proofs.lemmas.Str.{IsUtf8-had}
use Rattle.call_types.specs.declared.act.Act.TheVariants as act
use Rattle.version_list.specs.State.{IsKind}
use Rattle.slot_rules.specs.Deeds.{IsLawfulDeed, IsNamedDeed, IsOfNoPart}
use Rattle.slot_rules.specs.declared.commit.Commit.TheVariants.{Key, Part, MakeBucket, SetMode}
use Rattle.slot_rules.specs.declared.commit.Commit.{Commit}
use Rattle.slot_core.specs.Commits.{FitsFlight}
use Rattle.object_ops.specs.KeyDeeds.{act_of, bucket_in, deed_needs_none, key_in, kind_in, needs_no_body}
use Rattle.object_ops.specs.declared.deed_op.KeyDeed.{KeyDeed}
use Rattle.object_ops.specs.declared.key_act.KeyAct.{KeyAct}
use Rattle.object_ops.specs.declared.key_act.KeyAct.TheVariants as asks

-- no act that is asked brings data
pub brings_none : (ask : KeyAct) → needs_no_body (act_of ask) ≡ true
brings_none (asks.Delete pick) = refl
brings_none (asks.Create kind) = refl
brings_none (asks.Abort upload) = refl

pub by_act : (deed : Commit) → deed_needs_none deed ≡ true → IsKind (kind_in deed) → IsUtf8 (bucket_in deed) → IsUtf8 (key_in deed)
    → IsLawfulDeed deed × IsNamedDeed deed × FitsFlight deed None
by_act (Key at mode (act.Put data_id print size md5 kind)) none short bucket key = absurd cc
by_act (Key at mode (act.Delete pick)) none short bucket key = (tt, (bucket, key), refl)
by_act (Key at mode (act.Create kind)) none short bucket key = (short, (bucket, key), refl)
by_act (Key at mode (act.Complete upload parts data_id print size md5)) none short bucket key = absurd cc
by_act (Key at mode (act.Abort upload)) none short bucket key = (tt, (bucket, key), refl)
by_act (Part at upload number part) none short bucket key = absurd cc
by_act (MakeBucket name) none short bucket key = absurd cc
by_act (SetMode name mode) none short bucket key = absurd cc

abbrev pub can_commit : (deed : KeyDeed) → IsLawfulDeed deed.commit × IsNamedDeed deed.commit × FitsFlight deed.commit None
can_commit deed = by_act deed.commit deed.bodyless deed.kind_short (IsUtf8-had (bucket_in deed.commit) deed.bucket_text)
    (IsUtf8-had (key_in deed.commit) deed.key_text)

-- it is of no part
pub by_key : (deed : Commit) → deed_needs_none deed ≡ true → IsOfNoPart deed
by_key (Key at mode done) none = tt
by_key (Part at upload number part) none = absurd cc
by_key (MakeBucket name) none = tt
by_key (SetMode name mode) none = tt

abbrev pub of_no_part : (deed : KeyDeed) → IsOfNoPart deed.commit
of_no_part deed = by_key deed.commit deed.bodyless
