-- What stands in an account stands in a longer one.
use Rattle.std.proofs.Common.{ℕ, ◌∙◌, List, [], ◌∷◌, ◌++◌, ◌+◌, length, ap, inl, inr, arith}
use Rattle.std.specs.Prelude.{Some}
use Rattle.std.proofs.Math.Seq.{get_or-append_seam}
use Rattle.std.proofs.lemmas.List.{get_or-append-add, get_or_append_left, length-append}
use Rattle.std.proofs.lemmas.Option.{get_or_from_slice_get, slice_get-get_or, slice_get_within}
use Rattle.call_types.specs.declared.why.Why.{Why}
use Rattle.stamp_id.specs.declared.version.VersionId.{VersionId}
use Rattle.drive_base.specs.Calls.{Seen, Showed, Tells}
use Rattle.manifest_file.specs.declared.manifest.Manifest.{Manifest}
use Rattle.manifest_file.specs.declared.manifest.ManifestPart.{ManifestPart}
use Rattle.get_read.specs.Account.{Account, Call, Stands}
use Rattle.get_read.specs.Causes.{Wanted}
use Rattle.get_read.specs.Given.{AreOfSpanIn, ClashIn, IsFoundIn, MetIn}
use Rattle.get_read.specs.Letters.{GaveBlockIn, IsBlockIn, IsTableIn, NoBlockOf, NoManifestOf, ShowedAt}

-- so does a call
pub stands_on : (calls more : Account) (k : ℕ) (seen : Seen) → Stands calls k seen → Stands (calls ++ more) k seen
stands_on calls more k seen stands =
    let call : Call = record { drive = k; made = stands.made } in
    let at = stands.place in
    let low = slice_get_within calls at call stands.is in
    record {
      place = at;
      made = stands.made;
      is = slice_get-get_or (calls ++ more) at call (omega (arith, low, length-append calls more))
          ∙ ap Some (get_or_append_left calls more call at low ∙ get_or_from_slice_get calls at call call stands.is);
      tells = stands.tells;
    }

-- and the last one
pub stands_last : (calls : Account) (call : Call) (seen : Seen) → Tells call.made seen → Stands (calls ++ call ∷ []) call.drive seen
stands_last calls call seen tells = record {
  place = length calls;
  made = call.made;
  is = slice_get-get_or (calls ++ call ∷ []) (length calls) call (omega (arith, length-append calls (call ∷ [])))
      ∙ ap Some (get_or-append_seam calls call [] call);
  tells = tells;
}

-- what was met
pub met_on : (calls more : Account) (bytes : List ℕ) → MetIn calls bytes → MetIn (calls ++ more) bytes
met_on calls more bytes (inl it) = inl (it.0, it.1, it.2, it.3, stands_on calls more it.0 (Showed it.1 it.2 it.3) it.4, it.5)
met_on calls more bytes (inr it) = inr (it.0, it.1, it.2, it.3, stands_on calls more it.0 _ it.4, it.5)

-- a clash
pub clash_on : (n p : ℕ) (body print : List ℕ) (calls more : Account) → ClashIn n p body print calls → ClashIn n p body print (calls ++ more)
clash_on n p body print calls more clash = record { read = clash.read; met = met_on calls more clash.read clash.met; clash = clash.clash }

-- what was given
pub span_on : (n p : ℕ) (print : List ℕ) (from to : ℕ) (given : List ℕ) (calls more : Account) → AreOfSpanIn n p print from to given calls
    → AreOfSpanIn n p print from to given (calls ++ more)
span_on n p print from to given calls more are = λ body has. elim (are body has) [
  | inl same ↦ inl same
  | inr clash ↦ inr (clash_on n p body print calls more clash)
]

-- a manifest that was found
pub found_on : (wanted : Wanted) (id : VersionId) (m : Manifest) (calls more : Account) → IsFoundIn wanted id m calls → IsFoundIn wanted id m (calls ++ more)
found_on wanted id m calls more found = record {
  canonical = found.canonical;
  serves = found.serves;
  drive = found.drive;
  sized = stands_on calls more found.drive _ found.sized;
  showed = stands_on calls more found.drive _ found.showed;
}

-- the cause of a drive without a manifest
pub no_manifest_on : (wanted : Wanted) (id : VersionId) (out : ℕ) (calls more : Account) (k : ℕ) (why : Why) → NoManifestOf wanted id out calls k why
    → NoManifestOf wanted id out (calls ++ more) k why
no_manifest_on wanted id out calls more k why (inl is_out) = inl is_out
no_manifest_on wanted id out calls more k why (inr told) = inr (
  told.0,
  (
    told.1.0,
    stands_on calls more k told.1.0 told.1.1,
    elim told.1.2 [
      | inl size ↦ inl size
      | inr (inl long) ↦ inr (inl long)
      | inr (inr (inl cut)) ↦ inr (inr (inl (cut.0, stands_on calls more k _ cut.1, cut.2)))
      | inr (inr (inr other)) ↦ inr (inr (inr (other.0, stands_on calls more k _ other.1, other.2, other.3)))
    ],
  ),
)

-- bytes that were shown
pub showed_on : (calls more : Account) (k : ℕ) (name : List ℕ) (at : ℕ) (bytes : List ℕ) → ShowedAt calls k name at bytes
    → ShowedAt (calls ++ more) k name at bytes
showed_on calls more k name at bytes showed = (showed.0, showed.1, showed.2, stands_on calls more k _ showed.3, showed.4, showed.5)

-- a digest table
pub table_on : (d : ℕ) (part : ManifestPart) (root : List ℕ) (calls more : Account) (k : ℕ) (table : List ℕ) → IsTableIn d part root calls k table
    → IsTableIn d part root (calls ++ more) k table
table_on d part root calls more k table is = record {
  size = is.size;
  bytes = is.bytes;
  digest = is.digest;
  showed = showed_on calls more k _ _ table is.showed;
}

-- a block, of a stripe to which the reader turned
pub block_on : (d : ℕ) (part : ManifestPart) (i : ℕ) (root : List ℕ) (calls since more : Account) (k : ℕ) (digest block : List ℕ)
    → IsBlockIn d part i root calls since k digest block → IsBlockIn d part i root (calls ++ more) (since ++ more) k digest block
block_on d part i root calls since more k digest block is = record {
  table = is.table;
  is_table = table_on d part root calls more k is.table is.is_table;
  size = is.size;
  bytes = is.bytes;
  stored = is.stored;
  showed = showed_on since more k _ _ block is.showed;
}

-- the cause of a drive without a block
pub no_block_on : (d : ℕ) (part : ManifestPart) (i : ℕ) (root : List ℕ) (out : ℕ) (calls since more : Account) (k : ℕ) (why : Why)
    → NoBlockOf d part i root out calls since k why → NoBlockOf d part i root out (calls ++ more) (since ++ more) k why
no_block_on d part i root out calls since more k why (inl is_out) = inl is_out
no_block_on d part i root out calls since more k why (inr (in_use, inl told)) = inr (in_use, inl (told.0, stands_on since more k told.0 told.1, told.2))
no_block_on d part i root out calls since more k why (inr (in_use, inr other)) =
    inr (in_use, inr (other.0, other.1, block_on d part i root calls since more k other.0 other.1 other.2, other.3, other.4))

-- what stands in the last calls stands in all
stands_late : (before since : Account) (k : ℕ) (seen : Seen) → Stands since k seen → Stands (before ++ since) k seen
stands_late before since k seen stands =
    let call : Call = record { drive = k; made = stands.made } in
    let at = stands.place in
    let low = slice_get_within since at call stands.is in
    record {
      place = length before + at;
      made = stands.made;
      is = slice_get-get_or (before ++ since) (length before + at) call (omega (arith, low, length-append before since))
          ∙ ap Some (get_or-append-add before since at call ∙ get_or_from_slice_get since at call call stands.is);
      tells = stands.tells;
    }

-- a block that was given since the reader turned to its stripe was given
pub gave_late : (d : ℕ) (part : ManifestPart) (i : ℕ) (root : List ℕ) (before since : Account) (k : ℕ) (block : List ℕ)
    → GaveBlockIn d part i root (before ++ since) since k block → GaveBlockIn d part i root (before ++ since) (before ++ since) k block
gave_late d part i root before since k block gave =
    let is = gave.is_block in
    record {
      digest = gave.digest;
      is_block = record {
        table = is.table;
        is_table = is.is_table;
        size = is.size;
        bytes = is.bytes;
        stored = is.stored;
        showed = (is.showed.0, is.showed.1, is.showed.2, stands_late before since k _ is.showed.3, is.showed.4, is.showed.5);
      };
      same = gave.same;
    }
