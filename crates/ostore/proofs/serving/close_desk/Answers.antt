use Rattle.std.proofs.Common.{◌≡◌, ◌<◌, ◌∙◌, ℕ, ap, length, sym, subst}
use Rattle.ostore.proofs.serving.close_desk.Goals as goal

pub returns-in-Ok-clause-store : goal.returns-in-Ok-clause-store
returns-in-Ok-clause-store g c =
    let x = c.in-Ok.ensures.ok in
    let count = x.closed.count in
    record {
      count = count;
      index = λ k d inside. x.index k d (subst (λ n. k < n) count inside);
      of_set = λ k d inside. x.of_set k d (subst (λ n. k < n) count inside);
      drives = ap length x.drives ∙ (c.args.end.whole.drives ∙ ap (λ s. s.drives) (c.requires.fits.set ∙ sym x.set));
    }
