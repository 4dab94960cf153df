-- Refusals of a key as those of a call.
use Rattle.call_types.specs.declared.refusal.Refusal.{Refusal}
use Rattle.call_types.specs.declared.refusal.Refusal.TheVariants as call
use Rattle.call_types.specs.declared.refusal.KeyRefusal.{KeyRefusal}
use Rattle.call_types.specs.declared.refusal.KeyRefusal.TheVariants.{NoSuchKey, NoSuchVersion, MarkerNamed, VersionLimit, NoSuchUpload, InvalidPart, PartOrder, PartSmall, UploadLimit}

-- the refusal of the call that the state of a key refuses
abbrev pub refusal_of : KeyRefusal → Refusal
refusal_of (NoSuchKey marker) = call.NoSuchKey marker
refusal_of NoSuchVersion = call.NoSuchVersion
refusal_of (MarkerNamed id modified) = call.MarkerNamed id modified
refusal_of VersionLimit = call.VersionLimit
refusal_of NoSuchUpload = call.NoSuchUpload
refusal_of InvalidPart = call.InvalidPart
refusal_of PartOrder = call.PartOrder
refusal_of PartSmall = call.PartSmall
refusal_of UploadLimit = call.UploadLimit
