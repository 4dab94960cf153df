use Rattle.std.proofs.Common.{◌≡◌, ◌∙◌, refl, sym}
use Rattle.drive_base.proofs.ViewLemmas.{untouched_are_only_read}
use Rattle.drive_base.specs.View.{views}
use Rattle.get_read.specs.declared.state.State.TheVariants.{Searching, Fetching, Ended, Refused}
use Rattle.get_read.proofs.ReaderLemmas.{ended_stays, refused_stays}
use Rattle.get_read.proofs.reader.Reader.step.Goals as goal

pub returns-in-Ended-clause-read : goal.returns-in-Ended-clause-read
returns-in-Ended-clause-read g c = untouched_are_only_read (views g.D.Drive c.args.drives.now)

pub returns-in-Refused-clause-read : goal.returns-in-Refused-clause-read
returns-in-Refused-clause-read g c = untouched_are_only_read (views g.D.Drive c.args.drives.now)

pub returns-in-Searching-clause-steps : goal.returns-in-Searching-clause-steps
returns-in-Searching-clause-steps g c =
    let is : c.args.self.now.state ≡ Searching c.in-Searching.search = sym c.replace-state.ensures.value ∙ c.in-Searching.is in
    record { asked = c.search.ensures.asked; step = rw is c.search.ensures.steps }

pub returns-in-Fetching-clause-steps : goal.returns-in-Fetching-clause-steps
returns-in-Fetching-clause-steps g c =
    let is : c.args.self.now.state ≡ Fetching c.in-Fetching.fetching = sym c.replace-state.ensures.value ∙ c.in-Fetching.is in
    record { asked = c.fetch.ensures.asked; step = rw is c.fetch.ensures.steps }

pub returns-in-Ended-clause-steps : goal.returns-in-Ended-clause-steps
returns-in-Ended-clause-steps g c =
    let is : c.args.self.now.state ≡ Ended c.in-Ended.manifest = sym c.replace-state.ensures.value ∙ c.in-Ended.is in
    let stays = ended_stays g.D.Drive c.args.self.now.asked c.in-Ended.manifest c.end.new.self.piece.items c.args.drives.now in
    record { asked = c.end.ensures.asked; step = rw (is, c.end.ensures.state, c.end.ensures.step) stays }

pub returns-in-Refused-clause-steps : goal.returns-in-Refused-clause-steps
returns-in-Refused-clause-steps g c =
    let is : c.args.self.now.state ≡ Refused c.in-Refused.fault = sym c.replace-state.ensures.value ∙ c.in-Refused.is in
    let stays = refused_stays g.D.Drive c.args.self.now.asked c.in-Refused.fault c.refuse.new.self.piece.items c.args.drives.now in
    record { asked = c.refuse.ensures.asked; step = rw (is, c.refuse.ensures.state, c.refuse.ensures.fault) stays }

pub returns-in-Searching-clause-fewer : goal.returns-in-Searching-clause-fewer
returns-in-Searching-clause-fewer g c =
    let is : c.args.self.now.state ≡ Searching c.in-Searching.search = sym c.replace-state.ensures.value ∙ c.in-Searching.is in
    rw is c.search.ensures.fewer

pub returns-in-Fetching-clause-fewer : goal.returns-in-Fetching-clause-fewer
returns-in-Fetching-clause-fewer g c =
    let is : c.args.self.now.state ≡ Fetching c.in-Fetching.fetching = sym c.replace-state.ensures.value ∙ c.in-Fetching.is in
    rw is c.fetch.ensures.fewer

pub returns-in-Ended-clause-fewer : goal.returns-in-Ended-clause-fewer
returns-in-Ended-clause-fewer g c = rw (c.end.ensures.state, c.end.ensures.step) refl

pub returns-in-Refused-clause-fewer : goal.returns-in-Refused-clause-fewer
returns-in-Refused-clause-fewer g c = rw (c.refuse.ensures.state, c.refuse.ensures.fault) refl
