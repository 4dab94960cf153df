use Rattle.std.proofs.Common.{rules, ◌≡◌, ◌+◌, ◌∙◌, ◌∷◌, [], ℕ, List, length, slice_index_or, ap, subst, arith}
use Rattle.std.specs.Global.{Global}
use Rattle.std.proofs.lemmas.List.{length-append}
use Rattle.drive_base.specs.Plan.{data_drives}
use Rattle.get_read.specs.Blocks.{all_bytes}
use Rattle.get_read.specs.Windows.{TookRun, digests_in}
use Rattle.get_read.proofs.WindowLemmas.{turned_took}
use Rattle.get_read.proofs.fetch.Fetching.take_run.Goals as goal

pub returns-then-len-read_quorum-clause-takes : goal.returns-then-len-read_quorum-clause-takes
returns-then-len-read_quorum-clause-takes c =
    let w = c.args.window in
    let next = c.in_ok-window.window in
    let table = slice_index_or (all_bytes c.args.self.now.part.tables.items) w.tried [] in
    let took : TookRun w next c.args.run.now (digests_in table w.first w.count) =
    subst (λ (t : List ℕ). TookRun w next c.args.run.now (digests_in t w.first w.count)) c.table-table.ensures c.in_ok-window.ensures.took in
    turned_took Global c.args.self.now.asked.wanted.set w next c.args.run.now (digests_in table w.first w.count) c.go_on.new.self.ahead took c.go_on.ensures.goes

pub returns-clause-takes : goal.returns-clause-takes
returns-clause-takes c =
    let w = c.args.window in
    let next = c.in_ok-window.window in
    let table = slice_index_or (all_bytes c.args.self.now.part.tables.items) w.tried [] in
    let took : TookRun w next c.args.run.now (digests_in table w.first w.count) =
    subst (λ (t : List ℕ). TookRun w next c.args.run.now (digests_in t w.first w.count)) c.table-table.ensures c.in_ok-window.ensures.took in
    let d = data_drives c.args.self.now.asked.wanted.set.drives c.args.self.now.asked.wanted.set.parity in
    let rows : length next.rows.items ≡ length w.rows.items + 1 = ap (length {A = ℕ}) took.rows ∙ length-append w.rows.items (w.tried ∷ []) in
    let verified = c.verifies.ensures (search rules) in
    (c.requires.none, (next, took, omega (arith, rows, c.requires.fits.fewer), verified, c.in_ok-bytes.ensures))
