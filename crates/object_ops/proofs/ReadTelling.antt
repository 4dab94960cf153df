-- The pieces that a GetObject tells, and its calls of data drives, as an op does them.
use Rattle.std.proofs.Common.{◌≡◌, ◌<◌, ◌+◌, ◌-◌, ◌∙◌, ℕ, Bool, true, false, List, [], ◌∷◌, ◌++◌, Option, Some, None, length, inl, inr, ap, refl, subst, sym, arith}
use Rattle.std.specs.Prelude.{if◌then◌else◌}
use Rattle.std.proofs.lemmas.Bool.{cases_lt, lt-ltb}
use Rattle.std.proofs.lemmas.List.{length-append}
use Rattle.std.proofs.lemmas.List.Elements.{Contains-append_left}
use Rattle.call_types.specs.declared.feed.Cut.{Cut}
use Rattle.call_types.specs.declared.names.Key.{Key}
use Rattle.call_types.specs.declared.names.Pick.{Pick}
use Rattle.call_types.specs.declared.names.RangeAsk.{RangeAsk}
use Rattle.call_types.specs.declared.names.Span.{Span}
use Rattle.desk_base.specs.Answering.{Task}
use Rattle.desk_base.specs.Telling.{Effect, Telling as Utterance}
use Rattle.desk_base.specs.Telling.Telling.{Head as TheHead, Piece}
use Rattle.drive_base.specs.View.{views}
use Rattle.drive_base.specs.declared.drive.Drive.{Ghosts}
use Rattle.drive_base.specs.declared.plan.SetPlan.{SetPlan}
use Rattle.get_read.specs.Readers.{IsAccountOf, all_calls}
use Rattle.get_read.specs.declared.reader.Reader.{Reader}
use Rattle.slot_core.specs.declared.holding.Pin.{Pin}
use Rattle.receipts.specs.Events.{Log}
use Rattle.receipts.specs.Events.Event.{Called, Told}
use Rattle.receipts.specs.Paying.{Pays}
use Rattle.receipts.specs.Registers.{key_slot}
use Rattle.op_steps.specs.Claims.{Claim}
use Rattle.op_steps.specs.Moves.{TellMoves}
use Rattle.op_steps.specs.Store.{TellerSeen}
use Rattle.op_steps.specs.Words.{CallsSo, TellsSo}
use Rattle.object_ops.specs.Read.{ReadStands, fetched_state}
use Rattle.object_ops.specs.ReadStands.{task_by, told_state}
use Rattle.object_ops.specs.Reading.{HasPin}
use Rattle.object_ops.specs.ReadingTold.{AreLogged, HasTold, IsFetching, IsGiving, TellsBytes, TellsNone}
use Rattle.object_ops.specs.ReadingPlan.{IsOfSpan}
use Rattle.object_ops.specs.ReadingStep.{ReadsSo, StaysReading, TellsNext, next_telling}
use Rattle.object_ops.specs.declared.read_op.ReadKind.{ReadKind}
use Rattle.object_ops.specs.declared.read_op.ReadKind.TheVariants as asks
use Rattle.object_ops.specs.declared.read_op.ReadState.{ReadState}
use Rattle.object_ops.specs.declared.read_op.ReadState.TheVariants.{Ending, Fetching, Giving}
use Rattle.object_ops.specs.declared.reading.Reading.{Reading}
use Rattle.object_ops.specs.declared.reading.Stepped.{Stepped}
use Rattle.object_ops.proofs.ReadingCalls.{logged_all}
use Rattle.object_ops.proofs.ReadingFetch.{fetched}
use Rattle.object_ops.proofs.ReadingPays.{head_cut, head_owed, head_told, of_front, of_version, piece_cut, piece_told, the_task, whole_pays}

module _ (set : SetPlan) (at : Key) (pick : Pick) (ask : RangeAsk) (matches : Option (List ℕ)) (now : ℕ) where
  abbrev task : Task
  task = the_task set at pick ask matches now

  abbrev Stands : ReadState → Option Pin → Option Reading → Claim → Log → Type 0
  Stands state pin reading claim log = ReadStands set task at pick (asks.Get ask) state pin reading claim log

  -- what is told next, by whether the head was told
  abbrev next_by : Bool → Reading → Utterance
  next_by told r = if told then Piece r.reader.piece.items else TheHead r.reply

  module _ (r later : Reading) (log : Log) (x : IsGiving set task at pick ask r log) (tells : TellsNext r later) where
    of_span_on : IsOfSpan set ask x.version x.id later
    of_span_on = rw (tells.span_is, tells.reader_is) (record {
      plans = x.of_span.plans;
      reply_is = tells.reply_is ∙ x.of_span.reply_is;
      wanted = x.of_span.wanted;
      set_is = x.of_span.set_is;
      span_is = x.of_span.span_is;
    })

    -- its calls are in the log, with a telling behind it
    logged_on : (telling : Utterance) (cut : Option Cut) → AreLogged (all_calls x.told) (log ++ Told telling cut ∷ [])
    logged_on telling cut = λ call there. Contains-append_left log (Told telling cut ∷ []) (Called call.drive call.made) (x.all_logged call there)

    -- the head was told
    head_gives : r.told ≡ false → TellsNone task at pick x.version x.id x.bytes log → IsGiving set task at pick ask later (log ++ Told (TheHead r.reply) None ∷ [])
    head_gives is none =
        let left : later.left ≡ r.left = tells.left_is ∙ ap (λ b. if b then r.left - length r.reader.piece.items else r.left) is in
        let told : TellsBytes set task x.version r.span x.id [] (log ++ Told (TheHead r.reply) None ∷ []) =
        subst (λ h. TellsBytes set task x.version r.span x.id [] (log ++ Told (TheHead h) None ∷ [])) (sym x.of_span.reply_is)
        (head_told set at pick ask matches now x.version r.span x.id log (head_owed set at pick ask matches now x.version r.span x.id x.bytes log x.of_span.plans none)) in
        record {
          version = x.version;
          id = x.id;
          of_span = of_span_on;
          told = x.told;
          bytes = x.bytes;
          account = rw tells.reader_is x.account;
          all_logged = logged_on (TheHead r.reply) None;
          turned = x.turned;
          counted = omega (arith, x.counted, left, ap (λ (s : Span). s.length) tells.span_is);
          some = rw tells.reader_is x.some;
          fits = rw tells.reader_is (omega (arith, x.fits, left));
          has_told = subst (λ t. HasTold set task at pick x.version later.span x.id t x.bytes (log ++ Told (TheHead r.reply) None ∷ [])) (sym tells.told_is)
              (rw tells.span_is (subst (λ b. TellsBytes set task x.version r.span x.id b (log ++ Told (TheHead r.reply) None ∷ [])) (sym none.none) told));
        }

    -- ---- a piece was told

    piece_left : r.told ≡ true → later.left ≡ r.left - length r.reader.piece.items
    piece_left is = tells.left_is ∙ ap (λ b. if b then r.left - length r.reader.piece.items else r.left) is

    piece_counts : r.told ≡ true → length (x.bytes ++ r.reader.piece.items) + later.left ≡ r.span.length
    piece_counts is = omega (arith, length-append x.bytes r.reader.piece.items, piece_left is, x.counted, x.fits)

    piece_so : TellsBytes set task x.version r.span x.id x.bytes log
        → TellsBytes set task x.version r.span x.id (x.bytes ++ r.reader.piece.items) (log ++ Told (Piece r.reader.piece.items) None ∷ [])
    piece_so bytes = piece_told set at pick ask matches now x.version r.span x.id x.bytes r.reader.piece.items log bytes

    -- and more are due
    piece_fetches : r.told ≡ true → 0 < later.left → TellsBytes set task x.version r.span x.id x.bytes log
        → IsFetching set task at pick ask later (log ++ Told (Piece r.reader.piece.items) None ∷ [])
    piece_fetches is more bytes = record {
      version = x.version;
      id = x.id;
      of_span = of_span_on;
      told = x.told;
      given = x.bytes ++ r.reader.piece.items;
      account = subst (λ (q : Reader). IsAccountOf q x.told (x.bytes ++ r.reader.piece.items)) (sym tells.reader_is) x.account;
      all_logged = logged_on (Piece r.reader.piece.items) None;
      logged = logged_all x.told (log ++ Told (Piece r.reader.piece.items) None ∷ []) x.turned (logged_on (Piece r.reader.piece.items) None);
      counted = piece_counts is ∙ sym (ap (λ (s : Span). s.length) tells.span_is);
      more = more;
      some = λ told. omega (arith, length-append x.bytes r.reader.piece.items, x.some);
      has_told = subst (λ t. HasTold set task at pick x.version later.span x.id t (x.bytes ++ r.reader.piece.items) (log ++ Told (Piece r.reader.piece.items) None ∷ []))
          (sym tells.told_is) (rw tells.span_is (piece_so bytes));
    }

    -- or it was the last one
    piece_ends : r.told ≡ true → later.left ≡ 0 → TellsBytes set task x.version r.span x.id x.bytes log
        → Pays set task None (log ++ Told (Piece r.reader.piece.items) None ∷ [])
    piece_ends is none bytes = whole_pays set at pick ask matches now x.version r.span x.id (x.bytes ++ r.reader.piece.items) (log ++ Told (Piece r.reader.piece.items) None ∷ [])
        (piece_so bytes) (omega (arith, piece_counts is, none))
        (of_version set ask x.version x.id r x.told (x.bytes ++ r.reader.piece.items) (log ++ Told (Piece r.reader.piece.items) None ∷ []) x.of_span
        (logged_on (Piece r.reader.piece.items) None) x.account.exact)

    -- it failed to be told
    piece_fails : {T : Type 0} (takes breaks : Effect T) (cut : Cut) (old new : TellerSeen T) → TellsBytes set task x.version r.span x.id x.bytes log
        → TellMoves takes breaks (Piece r.reader.piece.items) (Some cut) old new → Pays set task (Some cut) (log ++ Told (Piece r.reader.piece.items) (Some cut) ∷ [])
    piece_fails takes breaks cut old new bytes moves =
        let asked = r.reader.asked in
        piece_cut set at pick ask matches now x.version r.span x.id takes breaks x.bytes r.reader.piece.items log cut old new bytes (omega (arith, x.counted))
        (omega (arith, length-append x.bytes r.reader.piece.items, x.counted, x.fits))
        (of_version set ask x.version x.id r x.told x.bytes (log ++ Told (Piece r.reader.piece.items) (Some cut) ∷ []) x.of_span
        (logged_on (Piece r.reader.piece.items) (Some cut))
        (of_front asked.wanted.set.drives asked.wanted.set.parity asked.wanted.print asked.span.at asked.wanted.reach x.bytes r.reader.piece.items (all_calls x.told)
        x.account.exact))
        (of_version set ask x.version x.id r x.told (x.bytes ++ r.reader.piece.items) (log ++ Told (Piece r.reader.piece.items) (Some cut) ∷ []) x.of_span
        (logged_on (Piece r.reader.piece.items) (Some cut)) x.account.exact)
        moves

    -- how far it is after a piece, by how much is left
    by_left : (pin : Option Pin) (claim : Claim) → r.told ≡ true → HasPin (key_slot at) pin claim → TellsBytes set task x.version r.span x.id x.bytes log
        → Stands (told_state later.left true None) pin (Some later) claim (log ++ Told (Piece r.reader.piece.items) None ∷ [])
    by_left pin claim is has bytes = elim (cases_lt 0 later.left) [
      | inl more ↦ subst (λ b. Stands (if b then Fetching else Ending None) pin (Some later) claim (log ++ Told (Piece r.reader.piece.items) None ∷ []))
          (sym (lt-ltb 0 later.left more)) (has, piece_fetches is more bytes)
      | inr none ↦
          let zero_left : later.left ≡ 0 = omega (arith, none) in
          subst (λ n. Stands (told_state n true None) pin (Some later) claim (log ++ Told (Piece r.reader.piece.items) None ∷ [])) (sym zero_left)
          (has, piece_ends is zero_left bytes)
    ]

    -- how far it is after a telling
    by_told : {T : Type 0} (takes breaks : Effect T) (t : Bool) (cut : Option Cut) (pin : Option Pin) (claim : Claim) (old new : TellerSeen T) → r.told ≡ t
        → HasPin (key_slot at) pin claim → HasTold set task at pick x.version r.span x.id t x.bytes log → TellMoves takes breaks (next_by t r) cut old new
        → Stands (told_state later.left t cut) pin (Some later) claim (log ++ Told (next_by t r) cut ∷ [])
    by_told takes breaks false None pin claim old new is has none moves = (has, head_gives is none)
    by_told takes breaks false (Some cut) pin claim old new is has none moves = (
      has,
      subst (λ h. Pays set task (Some cut) (log ++ Told (TheHead h) (Some cut) ∷ [])) (sym x.of_span.reply_is)
          (head_cut set at pick ask matches now x.version r.span x.id takes breaks log cut old new
          (head_owed set at pick ask matches now x.version r.span x.id x.bytes log x.of_span.plans none)
          (subst (λ h. TellMoves takes breaks (TheHead h) (Some cut) old new) x.of_span.reply_is moves)),
    )
    by_told takes breaks true None pin claim old new is has bytes moves = by_left pin claim is has bytes
    by_told takes breaks true (Some cut) pin claim old new is has bytes moves = (has, piece_fails takes breaks cut old new bytes moves)

  -- of the head, or of a piece
  pub give_so : {T : Type 0} (takes breaks : Effect T) (r later : Reading) (pin : Option Pin) (cut : Option Cut) (old new : TellerSeen T) → TellsNext r later
      → TellMoves takes breaks (next_telling r) cut old new
      → TellsSo takes breaks (ReadStands set task at pick (asks.Get ask) Giving pin (Some r)) (ReadStands set task at pick (asks.Get ask) (told_state later.left r.told cut) pin (Some later)) old new
  give_so takes breaks r later pin cut old new tells moves claim log x =
      (next_telling r, cut, by_told r later log x.1 tells takes breaks r.told cut pin claim old new refl x.0 x.1.has_told moves, moves)

  -- ---- the calls of data drives

  pub fetch_so : {D : Type 0} (ghosts : Ghosts D) (old new : Reading) (stepped : Stepped) (pin : Option Pin) (before after : List D) → StaysReading old new
      → ReadsSo ghosts old new stepped before after → length after ≡ length before
      → CallsSo (ReadStands set task at pick (asks.Get ask) Fetching pin (Some old)) (ReadStands set task at pick (asks.Get ask) (fetched_state stepped new.told) pin (Some new)) set
      (views ghosts before) (views ghosts after)
  fetch_so ghosts old new stepped pin before after stays reads long claim log x =
      fetched ghosts set at pick ask matches now old new stepped pin claim log before after stays reads long x.0 x.1

-- as the op does it, by its fields
module _ (set : SetPlan) (at : Key) (pick : Pick) where
  abbrev OpStands : ReadKind → Option (List ℕ) → ℕ → ReadState → Option Pin → Option Reading → Claim → Log → Type 0
  OpStands kind matches now state pin reading claim log = ReadStands set (task_by at pick kind matches now) at pick kind state pin reading claim log

  -- a HeadObject reads nothing
  none_fetched : {D : Type 0} (ghosts : Ghosts D) (matches : Option (List ℕ)) (now : ℕ) (reading more : Option Reading) (later : ReadState) (pin : Option Pin)
      (before after : List D) → CallsSo (OpStands asks.Head matches now Fetching pin reading) (OpStands asks.Head matches now later pin more) set
      (views ghosts before) (views ghosts after)
  none_fetched ghosts matches now reading more later pin before after claim log x = absurd x.1

  none_gives : {T : Type 0} (takes breaks : Effect T) (matches : Option (List ℕ)) (now : ℕ) (reading more : Option Reading) (later : ReadState) (pin : Option Pin)
      (old new : TellerSeen T) → TellsSo takes breaks (OpStands asks.Head matches now Giving pin reading) (OpStands asks.Head matches now later pin more) old new
  none_gives takes breaks matches now reading more later pin old new claim log x = absurd x.1

  pub fetch_as : {D : Type 0} (ghosts : Ghosts D) (kind : ReadKind) (matches : Option (List ℕ)) (now : ℕ) (old new : Reading) (stepped : Stepped)
      (state later : ReadState) (pin : Option Pin) (reading : Option Reading) (before after : List D)
      → state ≡ Fetching → reading ≡ Some old → later ≡ fetched_state stepped new.told → StaysReading old new
      → ReadsSo ghosts old new stepped before after → length after ≡ length before
      → CallsSo (OpStands kind matches now state pin reading) (OpStands kind matches now later pin (Some new)) set (views ghosts before) (views ghosts after)
  fetch_as ghosts asks.Head matches now old new stepped state later pin reading before after is has goes stays reads long =
      rw is (none_fetched ghosts matches now reading (Some new) later pin before after)
  fetch_as ghosts (asks.Get ask) matches now old new stepped state later pin reading before after is has goes stays reads long =
      rw (is, has, goes) (fetch_so set at pick ask matches now ghosts old new stepped pin before after stays reads long)

  pub give_as : {T : Type 0} (takes breaks : Effect T) (kind : ReadKind) (matches : Option (List ℕ)) (now : ℕ) (r next : Reading)
      (state later : ReadState) (pin : Option Pin) (reading : Option Reading) (cut : Option Cut) (old new : TellerSeen T)
      → state ≡ Giving → reading ≡ Some r → later ≡ told_state next.left r.told cut → TellsNext r next
      → TellMoves takes breaks (next_telling r) cut old new
      → TellsSo takes breaks (OpStands kind matches now state pin reading) (OpStands kind matches now later pin (Some next)) old new
  give_as takes breaks asks.Head matches now r next state later pin reading cut old new is has goes tells moves =
      rw is (none_gives takes breaks matches now reading (Some next) later pin old new)
  give_as takes breaks (asks.Get ask) matches now r next state later pin reading cut old new is has goes tells moves =
      rw (is, has, goes) (give_so set at pick ask matches now takes breaks r next pin cut old new tells moves)
