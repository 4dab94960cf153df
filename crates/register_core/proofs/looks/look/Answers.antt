use Rattle.std.proofs.Common.{◌≡◌, ◌<◌, ◌≤◌, ◌^◌, ◌∙◌, ℕ, List, length, subst, sym, ap, refl, arith}
use Rattle.std.specs.Prelude.{Option, Some, None, Result, ◌↔◌}
use Rattle.std.specs.Int.{IsBitSet}
use Rattle.drive_base.specs.Plan.{data_drives, write_drives}
use Rattle.register_file.specs.declared.record.RegFile.{RegFile}
use Rattle.register_core.specs.Found.{Concludes, content_of, found_at}
use Rattle.register_core.specs.Looks.{LanesAreRead, Looks, MayForward}
use Rattle.register_file.specs.Lengths.{longest_file}
use Rattle.register_core.specs.Records.{settled_file}
use Rattle.register_core.specs.declared.faults.QuorumFault.{QuorumFault}
use Rattle.register_core.specs.declared.looks.Looked.{Looked}
use Rattle.register_core.proofs.ConcludingLemmas.{err_is}
use Rattle.register_core.proofs.FindsLemmas.{LookLaws}
use Rattle.register_core.proofs.LookLemmas.{base_canonical, looks_refused, looks_unsaid, pending_lawful, sees_looked}
use Rattle.register_core.proofs.looks.look.Goals as goal

pub conclude-requires : goal.conclude-requires
conclude-requires g c =
    let D = g.D.Drive in
    let read : LanesAreRead D c.args.out c.longest_file-most.result c.args.name.now c.in_ok-files.field-0.files.items c.in_ok-files.field-0.whys c.args.lanes.now
    c.read_lanes.new.lanes = c.in_ok-files.ensures.read in
    let files : c.as_slice-files.result.now ≡ c.in_ok-files.field-0.files.items = c.as_slice-files.ensures.value in
    let items : c.as_slice.result.now ≡ c.in_ok-rows.rows.items = c.as_slice.ensures.value in
    record {
      disks = c.requires.disks;
      files = ap length files ∙ read.counted ∙ c.requires.lanes;
      rows = items ∙ c.in_ok-rows.ensures;
    }

pub returns-in_err-said-clause-outcome : goal.returns-in_err-said-clause-outcome
returns-in_err-said-clause-outcome g c =
    let D = g.D.Drive in
    let files : c.as_slice-files.result.now ≡ c.in_ok-files.field-0.files.items = c.as_slice-files.ensures.value in
    let longest : ℕ = g.R.ContentRule.most_bytes c.args.rule.now in
    let most : c.longest_file-most.result ≡ longest_file longest = c.longest_file-most.ensures ∙ ap longest_file c.longest-longest.ensures in
    let read : LanesAreRead D c.args.out (longest_file longest) c.args.name.now c.as_slice-files.result.now c.in_ok-files.field-0.whys c.args.lanes.now
    c.read_lanes.new.lanes =
    subst (λ (m : ℕ). LanesAreRead D c.args.out m c.args.name.now c.as_slice-files.result.now c.in_ok-files.field-0.whys c.args.lanes.now
    c.read_lanes.new.lanes) most
    (subst (λ (fs : List (Option RegFile)). LanesAreRead D c.args.out c.longest_file-most.result c.args.name.now fs c.in_ok-files.field-0.whys c.args.lanes.now
    c.read_lanes.new.lanes) (sym files) c.in_ok-files.ensures.read) in
    let laws : LookLaws = record {
      settled = c.verdict_laws.ensures.settled;
      pending = c.verdict_laws.ensures.pending;
      calm = c.calm_laws.ensures.settles;
      places = c.place_laws.ensures.shown;
      files = c.file_laws.ensures.files;
    } in
    let passed = err_is c.from_residual-in_err-said.result c.in_err-said.field-0.0 c.from_residual-in_err-said.ensures.1 in
    subst (λ (result : Result Looked QuorumFault). Looks D c.args.set c.args.out c.args.name.now (g.R.ContentRule.fault_in c.args.rule.now) longest
    result c.args.lanes.now c.read_lanes.new.lanes c.args.disks.now c.conclude.new.disks) (sym passed)
    (looks_unsaid D c.args.set c.args.out c.args.name.now (g.R.ContentRule.fault_in c.args.rule.now) longest c.as_slice-files.result.now
    c.in_ok-files.field-0.whys c.in_err-said.field-0.0 c.args.lanes.now c.read_lanes.new.lanes c.args.disks.now c.conclude.new.disks laws c.requires.lanes read
    c.in_err-said.ensures.outcome)

pub returns-in_err-accept-clause-outcome : goal.returns-in_err-accept-clause-outcome
returns-in_err-accept-clause-outcome g c =
    let D = g.D.Drive in
    let set = c.args.set in
    let said = c.in_ok-said.said in
    let files : c.as_slice-files.result.now ≡ c.in_ok-files.field-0.files.items = c.as_slice-files.ensures.value in
    let longest : ℕ = g.R.ContentRule.most_bytes c.args.rule.now in
    let most : c.longest_file-most.result ≡ longest_file longest = c.longest_file-most.ensures ∙ ap longest_file c.longest-longest.ensures in
    let read : LanesAreRead D c.args.out (longest_file longest) c.args.name.now c.as_slice-files.result.now c.in_ok-files.field-0.whys c.args.lanes.now
    c.read_lanes.new.lanes =
    subst (λ (m : ℕ). LanesAreRead D c.args.out m c.args.name.now c.as_slice-files.result.now c.in_ok-files.field-0.whys c.args.lanes.now
    c.read_lanes.new.lanes) most
    (subst (λ (fs : List (Option RegFile)). LanesAreRead D c.args.out c.longest_file-most.result c.args.name.now fs c.in_ok-files.field-0.whys c.args.lanes.now
    c.read_lanes.new.lanes) (sym files) c.in_ok-files.ensures.read) in
    let laws : LookLaws = record {
      settled = c.verdict_laws.ensures.settled;
      pending = c.verdict_laws.ensures.pending;
      calm = c.calm_laws.ensures.settles;
      places = c.place_laws.ensures.shown;
      files = c.file_laws.ensures.files;
    } in
    let concluded : Concludes (write_drives set.drives set.parity) (data_drives set.drives set.parity) c.as_slice-files.result.now said.base said.pending
    × MayForward D set said.pending c.args.disks.now c.conclude.new.disks = c.in_ok-said.ensures.outcome in
    let passed = err_is c.from_residual-in_err-accept.result c.in_err-accept.field-0.0 c.from_residual-in_err-accept.ensures.1 in
    subst (λ (result : Result Looked QuorumFault). Looks D set c.args.out c.args.name.now (g.R.ContentRule.fault_in c.args.rule.now) longest
    result c.args.lanes.now c.read_lanes.new.lanes c.args.disks.now c.conclude.new.disks) (sym passed)
    (looks_refused D (Unit {0}) set c.args.out c.args.name.now (g.R.ContentRule.fault_in c.args.rule.now) longest c.as_slice-files.result.now
    c.in_ok-files.field-0.whys said.base said.pending c.content_of-content.result.now c.in_err-accept.field-0.0 c.args.lanes.now c.read_lanes.new.lanes
    c.args.disks.now c.conclude.new.disks laws read concluded.0 concluded.1 c.content_of-content.ensures c.in_err-accept.ensures.answer)

pub returns-clause-outcome : goal.returns-clause-outcome
returns-clause-outcome g c =
    let D = g.D.Drive in
    let set = c.args.set in
    let said = c.in_ok-said.said in
    let files : c.as_slice-files.result.now ≡ c.in_ok-files.field-0.files.items = c.as_slice-files.ensures.value in
    let longest : ℕ = g.R.ContentRule.most_bytes c.args.rule.now in
    let most : c.longest_file-most.result ≡ longest_file longest = c.longest_file-most.ensures ∙ ap longest_file c.longest-longest.ensures in
    let read : LanesAreRead D c.args.out (longest_file longest) c.args.name.now c.as_slice-files.result.now c.in_ok-files.field-0.whys c.args.lanes.now
    c.read_lanes.new.lanes =
    subst (λ (m : ℕ). LanesAreRead D c.args.out m c.args.name.now c.as_slice-files.result.now c.in_ok-files.field-0.whys c.args.lanes.now
    c.read_lanes.new.lanes) most
    (subst (λ (fs : List (Option RegFile)). LanesAreRead D c.args.out c.longest_file-most.result c.args.name.now fs c.in_ok-files.field-0.whys c.args.lanes.now
    c.read_lanes.new.lanes) (sym files) c.in_ok-files.ensures.read) in
    let laws : LookLaws = record {
      settled = c.verdict_laws.ensures.settled;
      pending = c.verdict_laws.ensures.pending;
      calm = c.calm_laws.ensures.settles;
      places = c.place_laws.ensures.shown;
      files = c.file_laws.ensures.files;
    } in
    let concluded : Concludes (write_drives set.drives set.parity) (data_drives set.drives set.parity) c.as_slice-files.result.now said.base said.pending
    × MayForward D set said.pending c.args.disks.now c.conclude.new.disks = c.in_ok-said.ensures.outcome in
    let accepted : g.R.ContentRule.fault_in c.args.rule.now c.content_of-content.result.now ≡ None = c.in_ok-accept.ensures.answer in
    let same : c.content_of-content.result.now ≡ content_of said.base said.pending = c.content_of-content.ensures in
    let clean : (k : ℕ) → k < length c.as_slice-files.result.now → IsBitSet c.clean_of.result k ↔ (found_at c.as_slice-files.result.now k ≡ Some (settled_file said.base))
    = c.clean_of.ensures.bits in
    record {
      found = c.as_slice-files.result.now;
      read = read;
      rows = c.in_ok-rows.ensures;
      named = c.in_ok-from_str.ensures.ok;
      plan = refl;
      longest_is = c.longest-longest.ensures;
      lawful = pending_lawful D (write_drives set.drives set.parity) (data_drives set.drives set.parity) c.args.out (longest_file longest) c.args.name.now
          c.as_slice-files.result.now c.in_ok-files.field-0.whys c.args.lanes.now c.read_lanes.new.lanes said.base said.pending read concluded.0;
      canonical = base_canonical D (write_drives set.drives set.parity) (data_drives set.drives set.parity) c.args.out (longest_file longest) c.args.name.now
          c.as_slice-files.result.now c.in_ok-files.field-0.whys c.args.lanes.now c.read_lanes.new.lanes said.base said.pending read concluded.0;
      concludes = concluded.0;
      may_forward = concluded.1;
      accepted = ap (g.R.ContentRule.fault_in c.args.rule.now) (sym same) ∙ accepted;
      clean = λ k low. clean k (omega (arith, read.counted));
      none_else = subst (λ (n : ℕ). c.clean_of.result < 2 ^ n) read.counted c.clean_of.ensures.none_else;
      within = subst (λ (bytes : List ℕ). length bytes ≤ longest) same c.in_ok-accept.ensures.within;
      seen = sees_looked D set c.args.out (longest_file longest) c.args.name.now c.as_slice-files.result.now
          (record { name = c.in_ok-from_str.field-0; set = set; longest = c.longest-longest.result; rows = c.in_ok-rows.rows; whys = c.in_ok-files.field-0.whys; base = said.base; pending = said.pending; clean = c.clean_of.result })
          c.args.lanes.now c.read_lanes.new.lanes laws c.requires.lanes read c.in_ok-rows.ensures concluded.0 clean;
    }
