use Rattle.std.proofs.Common.{◌≡◌, ◌≢◌, true, rules, refl, inl, inr}
use Rattle.drive_base.specs.declared.fault.DriveFault.TheVariants.{Absent}
use Rattle.drive_file.specs.FileDrive.{folder_view}
use Rattle.drive_file.proofs.AskLemmas.{sync_forgot, sync_lost}
use Rattle.drive_file.proofs.drive.FileDrive.ask_sync.Goals as goal

pub returns-then-self-clause-asks : goal.returns-then-self-clause-asks
returns-then-self-clause-asks g c = record {
  folder = refl;
  loose = refl;
  lost = λ e. refl;
  calls = record { tried = g.F.Folder.calls c.args.self.now.system; breaks = inr refl; file = inr (c.if-self.true, inr refl) };
}

pub returns-then-forget : goal.returns-then-forget
returns-then-forget g c =
    let here = folder_view g.F.Folder c.args.self.now in
    let there : c.args.self.now.lost ≡ true → ⊥ = λ e. absurd (let stays = c.if-self.false in cc) in
    let found : c.in-Err-Failed.field-0 ≢ Absent = search rules in
    record {
      faults = refl;
      known = inr (record { names = refl; loss = refl });
      asks = record {
        folder = refl;
        loose = refl;
        lost = λ e. absurd (there e);
        calls = sync_forgot here (record here { calls = g.F.Folder.calls c.forget.new.system }) c.args.loose.now c.as_str.result.now
            c.as_str-in-Err-Failed.result.now c.in-Err-Failed.field-0 (g.F.Folder.calls c.sync.new.system) found c.as_str.ensures.value c.as_str-in-Err-Failed.ensures.value
            c.in-Err-Failed.ensures c.if-forget.ensures.gone;
      };
      trail = refl;
    }

pub returns-else-forget : goal.returns-else-forget
returns-else-forget g c =
    let here = folder_view g.F.Folder c.args.self.now in
    let there : c.args.self.now.lost ≡ true → ⊥ = λ e. absurd (let stays = c.if-self.false in cc) in
    let found : c.in-Err-Failed.field-0 ≢ Absent = search rules in
    record {
      faults = refl;
      known = inl refl;
      asks = record {
        folder = refl;
        loose = refl;
        lost = λ e. absurd (there e);
        calls = sync_lost here (record here { calls = g.F.Folder.calls c.forget.new.system; lost = true }) c.args.loose.now c.as_str.result.now
            c.as_str-in-Err-Failed.result.now c.in-Err-Failed.field-0 (g.F.Folder.calls c.sync.new.system) found c.as_str.ensures.value
            c.as_str-in-Err-Failed.ensures.value c.in-Err-Failed.ensures refl c.if-forget.ensures.there;
      };
      trail = refl;
    }
