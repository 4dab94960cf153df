use Rattle.std.proofs.Common.{◌≡◌, ◌∷◌, [], ◌++◌, ℕ, List, Bool, Err, ap, subst}
use Rattle.std.specs.Prelude.{map, ◌||◌}
use Rattle.std.specs.Global.{Vec}
use Rattle.std.proofs.Math.Path.{fun_ext}
use Rattle.std.proofs.lemmas.Result.{err_from_is_err_and}
use Rattle.std.proofs.lemmas.List.{map_push}
use Rattle.call_types.specs.declared.version.Upload.{Upload}
use Rattle.field_reader.specs.Format.{Format}
use Rattle.field_reader.specs.Reading.{Gives}
use Rattle.field_reader.proofs.Series.{begins, goes_on, stops, is_done}
use Rattle.version_list.specs.Rows.{UploadRow, upload_row}
use Rattle.version_list.specs.Layout.{upload, uploads, upload_names, is_among}
use Rattle.version_list.specs.Known.{is_known}
use Rattle.version_list.proofs.Known.{uploads_known, none_more}
use Rattle.version_list.proofs.reading.take_uploads.Goals as goal

-- the format of an upload after others, where some names were used before them
abbrev part : (List ℕ → Bool) → List UploadRow → Format UploadRow
part used before = upload (λ id. used id || is_among (upload_names before) id)

pub loop-init : goal.loop-init
unfolding uploads
loop-init c =
    let none : map upload_row c.new-uploads.result.items ≡ [] = ap (λ us. map upload_row us) c.new-uploads.ensures.items in
    record {
      read = begins (part (is_known c.args.names.now)) _ c.args.count c.args.fields.now none;
      known = none_more c.args.names.now _ none;
    }

pub returns-in_err-upload : goal.returns-in_err-upload
returns-in_err-upload c =
    let p = err_from_is_err_and c.from_residual.result c.from_residual.ensures.1 in
    let used = is_known c.args.names.now in
    let front = map upload_row c.loop.uploads.items in
    let after = c.take_upload.new.fields in
    let test : is_known c.loop.names ≡ (λ id. used id || is_among (upload_names front) id) = fun_ext c.loop.invariant.known in
    let one = subst (λ (test : List ℕ → Bool). Gives upload_row (Err c.in_err-upload.field-0.0) after (upload test c.loop.fields)) test c.in_err-upload.ensures.gives in
    rw (p.1, p.2) (stops upload_row (λ (us : Vec Upload). map upload_row us.items) c.in_err-upload.field-0.0 after after (part used) front
    c.args.count c.loop.counter c.loop.fields (uploads used c.args.count c.args.fields.now) c.loop-test.true one c.loop.invariant.read)

pub loop-preserved : goal.loop-preserved
loop-preserved c =
    let used = is_known c.args.names.now in
    let row = upload_row c.in_ok-upload.upload in
    let front = map upload_row c.loop.uploads.items in
    let items : map upload_row c.push.new.self.items ≡ front ++ row ∷ [] = rw c.in_ok-push.ensures.items (map_push upload_row c.loop.uploads.items c.in_ok-upload.upload) in
    let test : is_known c.loop.names ≡ (λ id. used id || is_among (upload_names front) id) = fun_ext c.loop.invariant.known in
    let one = rw test at c.in_ok-upload.ensures.gives in
    rw items (record {
      read = goes_on (part used) front c.args.count c.loop.counter c.loop.fields row c.take_upload.new.fields (uploads used c.args.count c.args.fields.now) c.loop-test.true one c.loop.invariant.read;
      known = uploads_known used c.loop.names c.take_upload.new.names front row c.loop.invariant.known c.in_ok-upload.ensures.known;
    })

pub returns : goal.returns
returns c =
    let used = is_known c.args.names.now in
    is_done (part used) (map upload_row c.loop.uploads.items) c.args.count c.loop.counter c.loop.fields (uploads used c.args.count c.args.fields.now) c.loop-test.false c.loop.invariant.read
