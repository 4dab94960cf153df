-- Bytes that a PutObject takes of its body, as steps.
use Rattle.std.proofs.Common.{◌≡◌, ◌<◌, ℕ, zero, suc, Bool, true, false, ◌==◌, List, [], ◌∷◌, ◌++◌, All, Some, None, MatchOption, length, inl, inr, refl, sym, subst, cond, arith}
use Rattle.audit_trail.specs.declared.entry.Deed.TheVariants.{Kept}
use Rattle.call_types.specs.declared.feed.Cut.{Cut}
use Rattle.call_types.specs.declared.feed.Cut.TheVariants as cut
use Rattle.call_types.specs.declared.names.Key.{Key}
use Rattle.call_types.specs.declared.reply.Reply.{Reply}
use Rattle.put_stage.specs.declared.stage.StageNext.{StageNext}
use Rattle.put_stage.specs.declared.stage.StageNext.TheVariants.{Fill, Finish, Step}
use Rattle.drive_base.specs.declared.plan.SetPlan.{SetPlan}
use Rattle.receipts.specs.Events.{Log, Section, sections_of}
use Rattle.receipts.specs.Events.Event.{Fed}
use Rattle.receipts.specs.Looks.{HasEntry, IsIdle}
use Rattle.receipts.specs.Paying.{ChangesNothing, LeavesAll, Pays}
use Rattle.receipts.specs.Registers.{key_slot}
use Rattle.op_steps.specs.Moves.{FeedCause, FeedMoves}
use Rattle.op_steps.specs.Store.{FeedSeen}
use Rattle.op_steps.specs.Words.{FeedsSo}
use Rattle.op_steps.specs.declared.next.OpNext.{OpNext}
use Rattle.op_steps.specs.declared.next.OpNext.TheVariants as next
use Rattle.object_ops.specs.Clearing.{files_left, next_of}
use Rattle.object_ops.specs.Put.{PutAsk, left_at, long_by, step_at, task_of, work_step}
use Rattle.object_ops.specs.PutStageCalls.{DrainsTo, FeedsTo, FillsTo, feed_cut}
use Rattle.object_ops.specs.PutStands.{Drains, IsDecided, PutStandsAt}
use Rattle.object_ops.specs.PutTarget.{key_of}
use Rattle.object_ops.specs.declared.clearing.Clearing.{Clearing}
use Rattle.object_ops.specs.declared.put_stage_calls.PutFed.{PutFed}
use Rattle.object_ops.specs.declared.put_state.PutState.{PutState}
use Rattle.object_ops.specs.declared.put_state.PutState.TheVariants as state
use Rattle.object_ops.proofs.PutLefts.{owes_left}
use Rattle.object_ops.proofs.PutLogs.{cut_pays, decided_stands, drain_on}
use Rattle.object_ops.proofs.PutOpLemmas.{fill_so, left_on}
use Rattle.object_ops.proofs.ReadingTell.{none_all, one_all}

-- ---- what is decided changed nothing

kept_idle : (slot : ℕ) (name : List ℕ) (section : Section) → HasEntry slot name Kept section.note → ChangesNothing section
kept_idle slot name section x =
    subst (λ e. MatchOption e (Unit {0}) (λ made. LeavesAll made.deed)) (sym x.entry_is) (subst LeavesAll (sym x.deed_is) tt)

bare_idle : (section : Section) → section.note.entry ≡ None → ChangesNothing section
bare_idle section none = subst (λ e. MatchOption e (Unit {0}) (λ made. LeavesAll made.deed)) (sym none) tt

none_idle : (slot : ℕ) (name : List ℕ) (section : Section) → IsIdle slot name section.note → ChangesNothing section
none_idle slot name section (inl none) = bare_idle section none
none_idle slot name section (inr kept) = kept_idle slot name section kept

two_all : (a b : Section) → ChangesNothing a → ChangesNothing b → All ChangesNothing (a ∷ b ∷ [])
two_all a b x y zero d l = x
two_all a b x y (suc zero) d l = y
two_all a b x y (suc (suc k)) d l = let below : suc (suc k) < 2 = l in absurd (omega arith)

pub decided_idle : (at : Key) (told : Reply) (log : Log) → IsDecided at told log → All ChangesNothing (sections_of log)
decided_idle at told log (inl (inl x)) = subst (All ChangesNothing) (sym x.sections) (one_all ChangesNothing x.look (kept_idle _ _ x.look x.lacks.entry))
decided_idle at told log (inl (inr (inl x))) = subst (All ChangesNothing) (sym x.sections) (one_all ChangesNothing x.look (none_idle _ _ x.look x.idle))
decided_idle at told log (inl (inr (inr x))) = subst (All ChangesNothing) (sym x.sections) (none_all ChangesNothing)
decided_idle at told log (inr (inl x)) =
    subst (All ChangesNothing) (sym x.looked.sections) (one_all ChangesNothing x.looked.look (kept_idle _ _ x.looked.look x.looked.finds.looks.entry))
decided_idle at told log (inr (inr x)) =
    subst (All ChangesNothing) (sym x.sections) (two_all x.look x.own (kept_idle _ _ x.look x.bucket.looks.entry) (bare_idle x.own x.no_entry))

-- a feed fails for its source, or ends too early
fed_kind : (why : Cut) (old new : FeedSeen) → FeedCause (Some why) old new → feed_cut why ≡ Some why
fed_kind cut.ReadFault old new cause = refl
fed_kind (cut.BodyCut read stated) old new cause = refl
fed_kind cut.WriteFault old new cause = absurd cause
fed_kind (cut.ShardCut whys) old new cause = absurd cause
fed_kind cut.NoMemory old new cause = absurd cause

-- bytes come next only in two states
abbrev pub is_feed : OpNext → Type 0
is_feed (next.Section k) = ⊥
is_feed next.Data = ⊥
is_feed next.Feed = Unit {0}
is_feed next.Tell = ⊥
is_feed next.Done = ⊥

fill_next : (slot : ℕ) (n : StageNext) → work_step slot n ≡ next.Feed → n ≡ Fill
fill_next slot Fill is = refl
fill_next slot Step is = absurd (subst is_feed (sym is) tt)
fill_next slot Finish is = absurd (subst is_feed (sym is) tt)

cleared_in : (slot : ℕ) (takes empty : Bool) → cond takes (next.Section slot) (cond empty next.Done next.Data) ≡ next.Feed → ⊥
cleared_in slot true empty same = absurd (subst is_feed (sym same) tt)
cleared_in slot false true same = absurd (subst is_feed (sym same) tt)
cleared_in slot false false same = absurd (subst is_feed (sym same) tt)

cleared_feeds : (slot : ℕ) (clearing : Clearing) → next_of slot clearing ≡ next.Feed → ⊥
cleared_feeds slot clearing is = cleared_in slot clearing.takes (length (files_left clearing) == 0) is

module _ (ask : PutAsk) (read : ℕ) where
  drain_so : (clearing : Clearing) (one : PutState) (told : Reply) (fed : PutFed) (old new : FeedSeen) → one ≡ state.Draining told
      → old.view.given ≡ read → old.view.stated ≡ ask.long → new.view.given ≡ fed.read → DrainsTo told read ask.long fed old new
      → FeedsSo (PutStandsAt ask read clearing one) (PutStandsAt ask fed.read clearing fed.state) old new
  drain_so clearing one told fed old new is given stated given_now (inl x) claim log s =
      let here = subst (λ (t : PutState). PutStandsAt ask read clearing t claim log) is s in
      let gave = x.moves.gave.given in (
        x.bytes,
        None,
        decided_stands ask fed.read clearing told fed.state claim (log ++ Fed x.bytes None ∷ []) x.owes x.within
            (left_on ask read (key_slot (key_of ask.target)) clearing claim log (Fed x.bytes None) here.0)
            (subst (λ n. Drains ask n told (log ++ Fed x.bytes None ∷ [])) (omega (arith, gave, given, given_now)) (drain_on ask read told log x.bytes here.1)),
        x.moves,
      )
  drain_so clearing one told fed old new is given stated given_now (inr (why, same, moves)) claim log s =
      let here = subst (λ (t : PutState). PutStandsAt ask read clearing t claim log) is s in
      let kind = fed_kind why old new moves.cause in
      let idle = decided_idle (key_of ask.target) told log here.1.decided in
      let read_is = here.1.read_is in (
        [],
        Some why,
        subst (λ (t : PutState). PutStandsAt ask fed.read clearing t claim (log ++ Fed [] (Some why) ∷ [])) (sym same) (
          left_on ask read (key_slot (key_of ask.target)) clearing claim log (Fed [] (Some why)) here.0,
          subst (λ c. Pays ask.set (task_of ask) (Some why) (log ++ Fed [] c ∷ [])) kind
              (cut_pays ask log [] why old new here.1.untold here.1.uncut idle (omega (arith, read_is, given)) stated
              (subst (λ c. FeedMoves [] c old new) (sym kind) moves) (inr kind)),
        ),
        moves,
      )

  pub feed_so : (clearing : Clearing) (one : PutState) (fed : PutFed) (old new : FeedSeen) → step_at (key_of ask.target) clearing one ≡ next.Feed → long_by ask.long read one ≡ ask.long
      → old.view.given ≡ read → old.view.stated ≡ ask.long → new.view.given ≡ fed.read → FeedsTo one read ask.long fed old new
      → FeedsSo (PutStandsAt ask read clearing one) (PutStandsAt ask fed.read clearing fed.state) old new
  feed_so clearing state.Looking fed old new step counted given stated given_now feeds = absurd (subst is_feed (sym step) tt)
  feed_so clearing (state.Beginning mode) fed old new step counted given stated given_now feeds = absurd (subst is_feed (sym step) tt)
  feed_so clearing (state.Staging work) fed old new step counted given stated given_now feeds =
      fill_so ask read clearing (state.Staging work) work fed old new refl counted given stated (feeds (fill_next (key_slot (key_of ask.target)) work.next step))
  feed_so clearing (state.Dropping flight why) fed old new step counted given stated given_now feeds = absurd (subst is_feed (sym step) tt)
  feed_so clearing (state.Draining told) fed old new step counted given stated given_now feeds =
      drain_so clearing (state.Draining told) told fed old new refl given stated given_now feeds
  feed_so clearing (state.Telling told) fed old new step counted given stated given_now feeds = absurd (subst is_feed (sym step) tt)
  feed_so clearing (state.Told why) fed old new step counted given stated given_now feeds = absurd (cleared_feeds (key_slot (key_of ask.target)) clearing step)

-- ---- how much is left

pub feed_left : (set : SetPlan) (at : Key) (long read : ℕ) (clearing : Clearing) (one : PutState) (fed : PutFed) (old new : FeedSeen) → step_at at clearing one ≡ next.Feed
    → FeedsTo one read long fed old new → left_at set long fed.read clearing fed.state < left_at set long read clearing one
feed_left set at long read clearing state.Looking fed old new step feeds = absurd (subst is_feed (sym step) tt)
feed_left set at long read clearing (state.Beginning mode) fed old new step feeds = absurd (subst is_feed (sym step) tt)
feed_left set at long read clearing (state.Staging work) fed old new step feeds = by fed.state (feeds (fill_next (key_slot at) work.next step))
  where
    by : (s : PutState) → FillsTo work s old new → left_at set long fed.read clearing s < left_at set long read clearing (state.Staging work)
    by state.Looking f = absurd f
    by (state.Beginning mode) f = absurd f
    by (state.Staging later) f = let fewer = f.fewer in omega (arith, fewer)
    by (state.Dropping flight why) f = omega arith
    by (state.Draining told) f = absurd f
    by (state.Telling told) f = absurd f
    by (state.Told why) f = absurd f
feed_left set at long read clearing (state.Dropping flight why) fed old new step feeds = absurd (subst is_feed (sym step) tt)
feed_left set at long read clearing (state.Draining told) fed old new step (inl x) =
    let short = owes_left set long fed.read clearing told fed.state x.owes in
    let more = x.more in
    let within = x.within in
    omega (arith, short, more, within)
feed_left set at long read clearing (state.Draining told) fed old new step (inr (why, is, moves)) =
    subst (λ (s : PutState). left_at set long fed.read clearing s < left_at set long read clearing (state.Draining told)) (sym is) (omega arith)
feed_left set at long read clearing (state.Telling told) fed old new step feeds = absurd (subst is_feed (sym step) tt)
feed_left set at long read clearing (state.Told why) fed old new step feeds = absurd (cleared_feeds (key_slot at) clearing step)
