use Rattle.std.proofs.Common.{◌≡◌, Bool, true, false, cond, refl, ap, ◌∙◌}
use Rattle.std.specs.Prelude.{◌||◌}
use Rattle.std.proofs.lemmas.Map.Text.{is_eq-slice_cmp}
use Rattle.version_list.specs.Known.{is_known}
use Rattle.version_list.proofs.names.Names.add.Goals as goal

or_else : (b x : Bool) → cond b true x ≡ (b || x)
or_else true x = refl
or_else false x = refl

pub returns-clause-known : goal.returns-clause-known
unfolding is_known
returns-clause-known c = λ bytes.
    let old = is_known c.args.self.now bytes in
    c.in_ok-insert.ensures.updates.0 bytes ∙ ap (λ (b : Bool). cond b true old) (is_eq-slice_cmp c.args.name bytes) ∙ or_else _ old
