-- A desk that tells one refusal does what is asked of a desk.
use Rattle.std.proofs.Common.{◌≡◌, ℕ, ◌+◌, List, [], Option, Some, None, inl, inr, refl, sym, ap, arith, length, append-nil}
use Rattle.std.specs.Prelude.{Result, Ok, Err}
use Rattle.std.specs.Io.KnownBytes.{prepend_known, append_known}
use Rattle.call_types.specs.Feeds.{FeedView, Gave}
use Rattle.call_types.specs.declared.feed.Cut.{Cut}
use Rattle.call_types.specs.declared.feed.Cut.TheVariants.{ReadFault, BodyCut, WriteFault, ShardCut, NoMemory}
use Rattle.call_types.specs.declared.reply.Reply.TheVariants.{Refused}
use Rattle.call_types.specs.declared.refusal.Refusal.{Refusal}
use Rattle.desk_base.specs.Answering.{CallTells, CutCause, Serves, tale_of}
use Rattle.desk_base.specs.Telling.{Effect, Telling, Tells, TellsCause}
use Rattle.desk_base.specs.Telling.Telling.{Head}
use Rattle.desk_base.specs.declared.call.Call.{Call}

-- nothing more is left
nothing_left : (left : Option (List ℕ)) → left ≡ prepend_known [] left
nothing_left None = refl
nothing_left (Some left) = refl

-- nor was anything taken
nothing_more : (taken : Option (List ℕ)) → taken ≡ append_known taken []
nothing_more None = refl
nothing_more (Some taken) = ap Some (sym (append-nil taken))

-- no byte was given
gave_none : (feed : FeedView) → Gave [] feed feed
gave_none feed = record {
  stated = refl;
  given = omega arith;
  left = nothing_left feed.left;
  taken = nothing_more feed.taken;
  ended = λ none ended. ended;
}

-- one refusal is a whole reply
pub refusal_serves : {T : Type 0} (takes breaks : Effect T) (call : Call) (why : Refusal) (result : Result (Unit {0}) Cut) (feed : FeedView) (old new : T) (a b : ℕ)
    → Tells takes breaks result (Head (Refused why)) old new → TellsCause result a b
    → Serves takes breaks (λ body tale. CallTells call result tale) call result feed feed old new
refusal_serves takes breaks call why (Ok _) feed old new a b told cause = record {
  body = [];
  took = gave_none feed;
  tale = tale_of (Refused why) [];
  told = (new, told, refl);
  whole = (Refused why, [], refl, refl);
  answers = (Refused why, [], refl, refl);
}
refusal_serves takes breaks call why (Err ReadFault) feed old new a b told cause = absurd cause
refusal_serves takes breaks call why (Err (BodyCut _ _)) feed old new a b told cause = absurd cause
refusal_serves takes breaks call why (Err WriteFault) feed old new a b told cause = record {
  body = [];
  took = gave_none feed;
  tale = tale_of (Refused why) [];
  told = record { earlier = []; last = Head (Refused why); are = refl; mid = old; took = refl; broke = told };
  whole = inr (Refused why, [], omega arith, refl);
  answers = inr (Refused why, [], omega arith, refl);
}
refusal_serves takes breaks call why (Err (ShardCut _)) feed old new a b told cause = absurd cause
refusal_serves takes breaks call why (Err NoMemory) feed old new a b told cause = record {
  body = [];
  took = gave_none feed;
  tale = [];
  told = sym told;
  whole = inl refl;
  answers = inl refl;
}

-- and has its cause
pub refusal_cause : (result : Result (Unit {0}) Cut) (feed : FeedView) (reads a b : ℕ) → TellsCause result a b → CutCause result feed reads reads a b
refusal_cause (Ok _) feed reads a b cause = (refl, cause)
refusal_cause (Err ReadFault) feed reads a b cause = absurd cause
refusal_cause (Err (BodyCut _ _)) feed reads a b cause = absurd cause
refusal_cause (Err WriteFault) feed reads a b cause = (refl, cause)
refusal_cause (Err (ShardCut _)) feed reads a b cause = absurd cause
refusal_cause (Err NoMemory) feed reads a b cause = (refl, cause)
