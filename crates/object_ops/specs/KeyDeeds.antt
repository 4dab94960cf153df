-- Acts on keys that need no body, and the deeds that do them.
use Rattle.std.specs.Prelude.{ℕ, false, Bool, List, [], is_none}
use Rattle.call_types.specs.declared.act.Act.{Act}
use Rattle.call_types.specs.declared.act.Act.TheVariants as act
use Rattle.slot_rules.specs.Deeds.{act_brings}
use Rattle.slot_rules.specs.declared.commit.Commit.TheVariants.{Key, Part, MakeBucket, SetMode}
use Rattle.slot_rules.specs.declared.commit.Commit.{Commit}
use Rattle.receipts.specs.Uploads.{upload_of}
use Rattle.object_ops.specs.declared.key_act.KeyAct.{KeyAct}
use Rattle.object_ops.specs.declared.key_act.KeyAct.TheVariants.{Abort, Create, Delete}

-- the act that is asked
abbrev pub act_of : KeyAct → Act
act_of (Delete pick) = act.Delete pick
act_of (Create kind) = act.Create kind
act_of (Abort upload) = act.Abort (upload_of upload)

-- an act needs no body: it brings no data. A deed does one
abbrev pub needs_no_body : Act → Bool
needs_no_body done = is_none (act_brings done)

abbrev pub deed_needs_none : Commit → Bool
deed_needs_none (Key at mode done) = needs_no_body done
deed_needs_none other = false

-- the content type that an act without a body states, and that a deed's does
abbrev pub kind_of : Act → List ℕ
kind_of (act.Create kind) = kind
kind_of other = []

abbrev pub kind_in : Commit → List ℕ
kind_in (Key at mode done) = kind_of done
kind_in other = []

-- its bucket and its key
abbrev pub bucket_in : Commit → List ℕ
bucket_in (Key at mode done) = at.bucket
bucket_in (Part at upload number part) = at.bucket
bucket_in (MakeBucket bucket) = bucket
bucket_in (SetMode bucket mode) = bucket

abbrev pub key_in : Commit → List ℕ
key_in (Key at mode done) = at.key
key_in other = []
