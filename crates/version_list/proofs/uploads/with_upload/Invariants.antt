use Rattle.std.proofs.Common.{◌≡◌, take}
use Rattle.version_list.proofs.uploads.with_upload.Given as goal

abbrev pub invariant-loop-upload : goal.invariant-loop-upload
invariant-loop-upload l = l.list.items ≡ take l.upload-index l.uploads
