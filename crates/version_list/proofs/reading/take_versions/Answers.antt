use Rattle.std.proofs.Common.{◌≡◌, ◌∷◌, [], ◌++◌, ℕ, List, Bool, Err, ap, subst}
use Rattle.std.specs.Prelude.{map}
use Rattle.std.specs.Global.{Vec}
use Rattle.std.proofs.Math.Path.{fun_ext}
use Rattle.std.proofs.lemmas.Result.{err_from_is_err_and}
use Rattle.std.proofs.lemmas.List.{map_push}
use Rattle.call_types.specs.declared.version.Version.{Version}
use Rattle.field_reader.specs.Reading.{Gives}
use Rattle.field_reader.proofs.Series.{begins, goes_on, stops, is_done}
use Rattle.version_list.specs.Rows.{version_row}
use Rattle.version_list.specs.Layout.{version, versions, version_names, is_among}
use Rattle.version_list.specs.Known.{is_known}
use Rattle.version_list.proofs.Known.{versions_known, none_known}
use Rattle.version_list.proofs.reading.take_versions.Goals as goal

pub loop-init : goal.loop-init
unfolding versions
loop-init c =
    let none : map version_row c.new-versions.result.items ≡ [] = ap (λ vs. map version_row vs) c.new-versions.ensures.items in
    record {
      read = begins (λ before. version (is_among (version_names before))) _ c.args.count c.args.fields.now none;
      known = none_known c.args.names.now _ none c.requires;
    }

pub returns-in_err-version-clause-gives : goal.returns-in_err-version-clause-gives
returns-in_err-version-clause-gives c =
    let p = err_from_is_err_and c.from_residual.result c.from_residual.ensures.1 in
    let test : is_known c.loop.names ≡ is_among (version_names (map version_row c.loop.versions.items)) = fun_ext c.loop.invariant.known in
    let one = subst (λ (used : List ℕ → Bool). Gives version_row (Err c.in_err-version.field-0.0) c.take_version.new.fields (version used c.loop.fields)) test c.in_err-version.ensures.gives in
    rw (p.1, p.2) (stops version_row (λ (vs : Vec Version). map version_row vs.items) c.in_err-version.field-0.0 c.take_version.new.fields c.take_version.new.fields (λ before. version (is_among (version_names before)))
    (map version_row c.loop.versions.items) c.args.count c.loop.counter c.loop.fields (versions c.args.count c.args.fields.now) c.loop-test.true one c.loop.invariant.read)

pub loop-preserved : goal.loop-preserved
loop-preserved c =
    let row = version_row c.in_ok-version.version in
    let front = map version_row c.loop.versions.items in
    let items : map version_row c.push.new.self.items ≡ front ++ row ∷ [] = rw c.in_ok-push.ensures.items (map_push version_row c.loop.versions.items c.in_ok-version.version) in
    let test : is_known c.loop.names ≡ is_among (version_names front) = fun_ext c.loop.invariant.known in
    let one = rw test at c.in_ok-version.ensures.gives in
    rw items (record {
      read = goes_on (λ before. version (is_among (version_names before))) front c.args.count c.loop.counter c.loop.fields row c.take_version.new.fields (versions c.args.count c.args.fields.now) c.loop-test.true one c.loop.invariant.read;
      known = versions_known c.loop.names c.take_version.new.names front row c.loop.invariant.known c.in_ok-version.ensures.known;
    })

pub returns-clause-gives : goal.returns-clause-gives
returns-clause-gives c =
    is_done (λ before. version (is_among (version_names before))) (map version_row c.loop.versions.items) c.args.count c.loop.counter c.loop.fields (versions c.args.count c.args.fields.now) c.loop-test.false c.loop.invariant.read

pub returns-clause-known : goal.returns-clause-known
returns-clause-known c = fun_ext c.loop.invariant.known
