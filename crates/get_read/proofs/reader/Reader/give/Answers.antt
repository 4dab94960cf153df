use Rattle.std.proofs.Common.{◌≡◌, ◌∙◌, ℕ, length, take, drop, ◌-◌, ◌*◌, ap, inl, inr, subst, sym, arith}
use Rattle.std.specs.Global.{Global}
use Rattle.std.specs.Prelude.{Vec}
use Rattle.std.proofs.lemmas.List.{drop-take}
use Rattle.shard_file.specs.Stripes.{stripe_size}
use Rattle.get_read.specs.Turns.{BeginsAt, IsPartOn}
use Rattle.get_read.specs.declared.state.Asked.{Asked}
use Rattle.get_read.proofs.GivingLemmas.{piece_wanted}
use Rattle.get_read.proofs.reader.Reader.give.Goals as goal

pub returns-then-at-reach-clause-gives : goal.returns-then-at-reach-clause-gives
returns-then-at-reach-clause-gives c =
    let f = c.args.fetching in
    let reach : c.args.self.now.asked.wanted.reach ≡ f.asked.wanted.reach = ap (λ (a : Asked). a.wanted.reach) (sym c.requires.same) in
    let is = piece_wanted f c.args.self.now.asked.wanted.reach c.args.stripe.items c.piece_of.result.items reach c.requires.long (c.piece_of.ensures ∙ drop-take (f.at - f.part.begin - f.work.stripe * stripe_size) c.min-most.result c.args.stripe.items
    ∙ ap (λ (n : ℕ). take n (drop (f.at - f.part.begin - f.work.stripe * stripe_size) c.args.stripe.items)) (omega arith)) in
    let same : c.end.new.self.piece.items ≡ c.piece_of.result.items = ap (λ (v : Vec ℕ Global). v.items) c.end.ensures.piece in
    let count : length c.end.new.self.piece.items ≡ length c.piece_of.result.items = ap (length {A = ℕ}) same in
    rw c.end.ensures.step (same ∙ is.0, omega (arith, count, is.1), inl (omega (arith, count, reach), c.end.ensures.state))

pub returns-clause-gives : goal.returns-clause-gives
returns-clause-gives c =
    let f = c.args.fetching in
    let reach : c.args.self.now.asked.wanted.reach ≡ f.asked.wanted.reach = ap (λ (a : Asked). a.wanted.reach) (sym c.requires.same) in
    let is = piece_wanted f c.args.self.now.asked.wanted.reach c.args.stripe.items c.piece_of.result.items reach c.requires.long (c.piece_of.ensures ∙ drop-take (f.at - f.part.begin - f.work.stripe * stripe_size) c.min-most.result c.args.stripe.items
    ∙ ap (λ (n : ℕ). take n (drop (f.at - f.part.begin - f.work.stripe * stripe_size) c.args.stripe.items)) (omega arith)) in
    let same : c.fetch_on.new.self.piece.items ≡ c.piece_of.result.items = ap (λ (v : Vec ℕ Global). v.items) c.fetch_on.ensures.piece in
    let count : length c.fetch_on.new.self.piece.items ≡ length c.piece_of.result.items = ap (length {A = ℕ}) same in
    let next = c.in_ok-next.next in
    rw c.fetch_on.ensures.step (
      same ∙ is.0,
      omega (arith, count, is.1),
      inr (
        next,
        c.fetch_on.ensures.state,
        subst (λ (n : ℕ). BeginsAt f.asked f.manifest n next) (omega (arith, count)) c.in_ok-next.ensures.0,
        subst (λ (n : ℕ). IsPartOn next.asked.wanted.set.drives f.part n next.part) (omega (arith, count)) c.in_ok-next.ensures.1,
      ),
    )
