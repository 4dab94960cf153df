-- What a log does to the feed and the teller alone, and how their counts of faults move.
use Rattle.std.proofs.Common.{◌≡◌, ◌<◌, ◌∙◌, ℕ, List, [], ◌∷◌, ◌++◌, length, Option, Some, None, append_assoc, append-nil, ap, refl, subst, sym, arith}
use Rattle.std.proofs.lemmas.List.{length-append}
use Rattle.std.specs.Io.KnownBytes.{IsAtEnd, append_known, prepend_known}
use Rattle.call_types.specs.Feeds.{FeedEnded, FeedView, Gave}
use Rattle.call_types.specs.declared.feed.Cut.{Cut}
use Rattle.call_types.specs.declared.feed.Cut.TheVariants as cut_of
use Rattle.desk_base.specs.Telling.{Effect}
use Rattle.drive_base.specs.declared.plan.SetPlan.{SetPlan}
use Rattle.fault_base.specs.Counts.{Rose}
use Rattle.receipts.specs.Events.{Log, Note, Shown, body_of, cuts_of}
use Rattle.receipts.specs.Events.Event.{BarredFrom, Called, Fed, Told, Turned}
use Rattle.receipts.specs.declared.barred.Barred.{Barred}
use Rattle.op_steps.specs.Moves.{FeedMoves, TellMoves}
use Rattle.op_steps.specs.Steps.{RanOver}
use Rattle.op_steps.specs.Store.{FeedSeen, StoreOver, TellerSeen}

-- a feed and a teller
pub record Wires (T : Type 0) : Type 0 where
  pub feed : FeedSeen
  pub teller : TellerSeen T

abbrev pub wires : {T : Type 0} → FeedSeen → TellerSeen T → Wires T
wires feed teller = record { feed = feed; teller = teller }

-- those of a store
abbrev pub wires_of : {S T : Type 0} → StoreOver S T → Wires T
wires_of store = wires store.feed store.teller

module _ {T : Type 0} (takes breaks : Effect T) where
  -- what a log does to them
  abbrev pub WiresRan : Log → Wires T → Wires T → Type 0
  WiresRan [] old new = new ≡ old
  WiresRan (Turned k made shown ∷ log) old new = WiresRan log old new
  WiresRan (BarredFrom k why ∷ log) old new = WiresRan log old new
  WiresRan (Called k made ∷ log) old new = WiresRan log old new
  WiresRan (Fed bytes cut ∷ log) old new = (mid : FeedSeen) × FeedMoves bytes cut old.feed mid × WiresRan log (wires mid old.teller) new
  WiresRan (Told telling cut ∷ log) old new = (mid : TellerSeen T) × TellMoves takes breaks telling cut old.teller mid × WiresRan log (wires old.feed mid) new

  module _ {S : Type 0} (turns : ℕ → Option Note → Shown → StoreOver S T → StoreOver S T → Type 0)
      (bars : ℕ → Barred → StoreOver S T → StoreOver S T → Type 0) (set : SetPlan)
      (turn_stays : (k : ℕ) (made : Option Note) (shown : Shown) (old new : StoreOver S T) → turns k made shown old new → wires_of new ≡ wires_of old)
      (bar_stays : (k : ℕ) (why : Barred) (old new : StoreOver S T) → bars k why old new → wires_of new ≡ wires_of old) where
    -- the steps of a store are such, where sections leave both
    pub wires_ran : (log : Log) (old new : StoreOver S T) → RanOver turns bars takes breaks set log old new → WiresRan log (wires_of old) (wires_of new)
    wires_ran [] old new ran = ap wires_of ran
    wires_ran (Turned k made shown ∷ log) old new (mid, step, ran) =
        subst (λ w. WiresRan log w (wires_of new)) (turn_stays k made shown old mid step) (wires_ran log mid new ran)
    wires_ran (BarredFrom k why ∷ log) old new (mid, step, ran) =
        subst (λ w. WiresRan log w (wires_of new)) (bar_stays k why old mid step) (wires_ran log mid new ran)
    wires_ran (Called k made ∷ log) old new (mid, step, ran) =
        subst (λ w. WiresRan log w (wires_of new)) (ap wires_of step.leaves) (wires_ran log mid new ran)
    wires_ran (Fed bytes cut ∷ log) old new (mid, step, ran) =
        (mid.feed, step.moves, subst (λ w. WiresRan log w (wires_of new)) (ap wires_of step.leaves) (wires_ran log mid new ran))
    wires_ran (Told telling cut ∷ log) old new (mid, step, ran) =
        (mid.teller, step.moves, subst (λ w. WiresRan log w (wires_of new)) (ap wires_of step.leaves) (wires_ran log mid new ran))

  -- over two logs in a row
  pub ran_split : (log more : Log) (old new : Wires T) → WiresRan (log ++ more) old new → (mid : Wires T) × WiresRan log old mid × WiresRan more mid new
  ran_split [] more old new ran = (old, refl, ran)
  ran_split (Turned k made shown ∷ log) more old new ran = ran_split log more old new ran
  ran_split (BarredFrom k why ∷ log) more old new ran = ran_split log more old new ran
  ran_split (Called k made ∷ log) more old new ran = ran_split log more old new ran
  ran_split (Fed bytes cut ∷ log) more old new (mid, moves, ran) =
      let rest = ran_split log more (wires mid old.teller) new ran in
      (rest.0, (mid, moves, rest.1), rest.2)
  ran_split (Told telling cut ∷ log) more old new (mid, moves, ran) =
      let rest = ran_split log more (wires old.feed mid) new ran in
      (rest.0, (mid, moves, rest.1), rest.2)

-- bytes before other bytes, and then what is known
prepend_twice : (a b : List ℕ) (known : Option (List ℕ)) → prepend_known a (prepend_known b known) ≡ prepend_known (a ++ b) known
prepend_twice a b None = refl
prepend_twice a b (Some known) = ap Some (sym (append_assoc a b known))

prepend_none : (known : Option (List ℕ)) → known ≡ prepend_known [] known
prepend_none None = refl
prepend_none (Some known) = refl

at_end : (known : Option (List ℕ)) → IsAtEnd (prepend_known [] known) → IsAtEnd known
at_end None done = done
at_end (Some known) done = done

-- what is known, and behind it nothing, or two lists of bytes
append_none : (known : Option (List ℕ)) → known ≡ append_known known []
append_none None = refl
append_none (Some known) = ap Some (sym (append-nil known))

append_twice : (known : Option (List ℕ)) (a b : List ℕ) → append_known (append_known known a) b ≡ append_known known (a ++ b)
append_twice None a b = refl
append_twice (Some known) a b = ap Some (append_assoc known a b)

gave_none : (feed : FeedView) → Gave [] feed feed
gave_none feed = record {
  stated = refl;
  given = omega arith;
  left = prepend_none feed.left;
  taken = append_none feed.taken;
  ended = λ none ended. ended;
}

-- where two lists of bytes are none together, each is none
front_none : (a b : List ℕ) → a ++ b ≡ [] → a ≡ []
front_none [] b none = refl
front_none (byte ∷ a) b none = cc

back_none : (a b : List ℕ) → a ++ b ≡ [] → b ≡ []
back_none [] b none = none
back_none (byte ∷ a) b none = cc

gave_more : (a b : List ℕ) (old mid new : FeedView) → Gave a old mid → Gave b mid new → Gave (a ++ b) old new
gave_more a b old mid new one two = record {
  stated = two.stated ∙ one.stated;
  given = let first = one.given in let second = two.given in let joined = length-append a b in omega (arith, first, second, joined);
  left = one.left ∙ (ap (prepend_known a) two.left ∙ prepend_twice a b new.left);
  taken = two.taken ∙ (ap (λ known. append_known known b) one.taken ∙ append_twice old.taken a b);
  ended = λ none ended. two.ended (back_none a b none) (one.ended (front_none a b none) ended);
}

module _ {T : Type 0} (takes breaks : Effect T) where
  -- the bytes of a log were given
  pub gave_all : (log : Log) (old new : Wires T) → WiresRan takes breaks log old new → Gave (body_of log) old.feed.view new.feed.view
  gave_all [] old new ran = subst (λ (w : Wires T). Gave [] old.feed.view w.feed.view) (sym ran) (gave_none old.feed.view)
  gave_all (Turned k made shown ∷ log) old new ran = gave_all log old new ran
  gave_all (BarredFrom k why ∷ log) old new ran = gave_all log old new ran
  gave_all (Called k made ∷ log) old new ran = gave_all log old new ran
  gave_all (Fed bytes cut ∷ log) old new (mid, moves, ran) =
      gave_more bytes (body_of log) old.feed.view mid.view new.feed.view moves.gave (gave_all log (wires mid old.teller) new ran)
  gave_all (Told telling cut ∷ log) old new (mid, moves, ran) = gave_all log (wires old.feed mid) new ran

-- no source failed
abbrev pub NoneFailed : List Cut → Type 0
NoneFailed [] = Unit {0}
NoneFailed (cut_of.ReadFault ∷ cuts) = ⊥
NoneFailed (cut_of.BodyCut read stated ∷ cuts) = NoneFailed cuts
NoneFailed (cut_of.WriteFault ∷ cuts) = NoneFailed cuts
NoneFailed (cut_of.ShardCut whys ∷ cuts) = NoneFailed cuts
NoneFailed (cut_of.NoMemory ∷ cuts) = NoneFailed cuts

-- one did
abbrev pub OneFailed : List Cut → Type 0
OneFailed [] = ⊥
OneFailed (cut_of.ReadFault ∷ cuts) = NoneFailed cuts
OneFailed (cut_of.BodyCut read stated ∷ cuts) = OneFailed cuts
OneFailed (cut_of.WriteFault ∷ cuts) = OneFailed cuts
OneFailed (cut_of.ShardCut whys ∷ cuts) = OneFailed cuts
OneFailed (cut_of.NoMemory ∷ cuts) = OneFailed cuts

-- a body ended before its stated length
abbrev pub OneEnded : ℕ → ℕ → List Cut → Type 0
OneEnded read stated [] = ⊥
OneEnded read stated (cut_of.ReadFault ∷ cuts) = OneEnded read stated cuts
OneEnded read stated (cut_of.BodyCut r s ∷ cuts) = (r ≡ read) × (s ≡ stated)
OneEnded read stated (cut_of.WriteFault ∷ cuts) = OneEnded read stated cuts
OneEnded read stated (cut_of.ShardCut whys ∷ cuts) = OneEnded read stated cuts
OneEnded read stated (cut_of.NoMemory ∷ cuts) = OneEnded read stated cuts

module _ {T : Type 0} (takes breaks : Effect T) where
  pub reads_stay : (log : Log) (old new : Wires T) → WiresRan takes breaks log old new → NoneFailed (cuts_of log) → new.feed.faults ≡ old.feed.faults
  reads_stay [] old new ran none = ap (λ (w : Wires T). w.feed.faults) ran
  reads_stay (Turned k made shown ∷ log) old new ran none = reads_stay log old new ran none
  reads_stay (BarredFrom k why ∷ log) old new ran none = reads_stay log old new ran none
  reads_stay (Called k made ∷ log) old new ran none = reads_stay log old new ran none
  reads_stay (Fed bytes None ∷ log) old new (mid, moves, ran) none = reads_stay log (wires mid old.teller) new ran none ∙ moves.cause
  reads_stay (Fed bytes (Some cut_of.ReadFault) ∷ log) old new (mid, moves, ran) none = absurd none
  reads_stay (Fed bytes (Some (cut_of.BodyCut read stated)) ∷ log) old new (mid, moves, ran) none =
      reads_stay log (wires mid old.teller) new ran none ∙ moves.cause.4
  reads_stay (Fed bytes (Some cut_of.WriteFault) ∷ log) old new (mid, moves, ran) none = absurd moves.cause
  reads_stay (Fed bytes (Some (cut_of.ShardCut whys)) ∷ log) old new (mid, moves, ran) none = absurd moves.cause
  reads_stay (Fed bytes (Some cut_of.NoMemory) ∷ log) old new (mid, moves, ran) none = absurd moves.cause
  reads_stay (Told telling None ∷ log) old new (mid, moves, ran) none = reads_stay log (wires old.feed mid) new ran none
  reads_stay (Told telling (Some cut_of.ReadFault) ∷ log) old new (mid, moves, ran) none = absurd moves
  reads_stay (Told telling (Some (cut_of.BodyCut read stated)) ∷ log) old new (mid, moves, ran) none = absurd moves
  reads_stay (Told telling (Some cut_of.WriteFault) ∷ log) old new (mid, moves, ran) none = reads_stay log (wires old.feed mid) new ran none
  reads_stay (Told telling (Some (cut_of.ShardCut whys)) ∷ log) old new (mid, moves, ran) none = absurd moves
  reads_stay (Told telling (Some cut_of.NoMemory) ∷ log) old new (mid, moves, ran) none = reads_stay log (wires old.feed mid) new ran none

  pub reads_rise : (log : Log) (old new : Wires T) → WiresRan takes breaks log old new → OneFailed (cuts_of log) → Rose old.feed.faults new.feed.faults
  reads_rise [] old new ran one = absurd one
  reads_rise (Turned k made shown ∷ log) old new ran one = reads_rise log old new ran one
  reads_rise (BarredFrom k why ∷ log) old new ran one = reads_rise log old new ran one
  reads_rise (Called k made ∷ log) old new ran one = reads_rise log old new ran one
  reads_rise (Fed bytes None ∷ log) old new (mid, moves, ran) one =
      subst (λ n. Rose n new.feed.faults) moves.cause (reads_rise log (wires mid old.teller) new ran one)
  reads_rise (Fed bytes (Some cut_of.ReadFault) ∷ log) old new (mid, moves, ran) one =
      subst (λ n. Rose old.feed.faults n) (sym (reads_stay log (wires mid old.teller) new ran one)) moves.cause
  reads_rise (Fed bytes (Some (cut_of.BodyCut read stated)) ∷ log) old new (mid, moves, ran) one =
      subst (λ n. Rose n new.feed.faults) moves.cause.4 (reads_rise log (wires mid old.teller) new ran one)
  reads_rise (Fed bytes (Some cut_of.WriteFault) ∷ log) old new (mid, moves, ran) one = absurd moves.cause
  reads_rise (Fed bytes (Some (cut_of.ShardCut whys)) ∷ log) old new (mid, moves, ran) one = absurd moves.cause
  reads_rise (Fed bytes (Some cut_of.NoMemory) ∷ log) old new (mid, moves, ran) one = absurd moves.cause
  reads_rise (Told telling None ∷ log) old new (mid, moves, ran) one = reads_rise log (wires old.feed mid) new ran one
  reads_rise (Told telling (Some cut_of.ReadFault) ∷ log) old new (mid, moves, ran) one = absurd moves
  reads_rise (Told telling (Some (cut_of.BodyCut read stated)) ∷ log) old new (mid, moves, ran) one = absurd moves
  reads_rise (Told telling (Some cut_of.WriteFault) ∷ log) old new (mid, moves, ran) one = reads_rise log (wires old.feed mid) new ran one
  reads_rise (Told telling (Some (cut_of.ShardCut whys)) ∷ log) old new (mid, moves, ran) one = absurd moves
  reads_rise (Told telling (Some cut_of.NoMemory) ∷ log) old new (mid, moves, ran) one = reads_rise log (wires old.feed mid) new ran one

-- a body met its end, and bytes were given after
pub record EndedSo (read stated : ℕ) (new : FeedView) : Type 0 where
  pub mid : FeedView
  pub more : List ℕ
  pub read_is : read ≡ mid.given
  pub stated_is : stated ≡ mid.stated
  pub short : mid.given < mid.stated
  pub at_end : FeedEnded mid
  pub gave : Gave more mid new

module _ {T : Type 0} (takes breaks : Effect T) where
  pub ended_so : (read stated : ℕ) (log : Log) (old new : Wires T) → WiresRan takes breaks log old new → OneEnded read stated (cuts_of log)
      → EndedSo read stated new.feed.view
  ended_so read stated [] old new ran one = absurd one
  ended_so read stated (Turned k made shown ∷ log) old new ran one = ended_so read stated log old new ran one
  ended_so read stated (BarredFrom k why ∷ log) old new ran one = ended_so read stated log old new ran one
  ended_so read stated (Called k made ∷ log) old new ran one = ended_so read stated log old new ran one
  ended_so read stated (Fed bytes None ∷ log) old new (mid, moves, ran) one = ended_so read stated log (wires mid old.teller) new ran one
  ended_so read stated (Fed bytes (Some cut_of.ReadFault) ∷ log) old new (mid, moves, ran) one = ended_so read stated log (wires mid old.teller) new ran one
  ended_so read stated (Fed bytes (Some (cut_of.BodyCut r s)) ∷ log) old new (mid, moves, ran) one = record {
    mid = mid.view;
    more = body_of log;
    read_is = sym one.0 ∙ moves.cause.0;
    stated_is = sym one.1 ∙ moves.cause.1;
    short = moves.cause.2;
    at_end = moves.cause.3;
    gave = gave_all takes breaks log (wires mid old.teller) new ran;
  }
  ended_so read stated (Fed bytes (Some cut_of.WriteFault) ∷ log) old new (mid, moves, ran) one = absurd moves.cause
  ended_so read stated (Fed bytes (Some (cut_of.ShardCut whys)) ∷ log) old new (mid, moves, ran) one = absurd moves.cause
  ended_so read stated (Fed bytes (Some cut_of.NoMemory) ∷ log) old new (mid, moves, ran) one = absurd moves.cause
  ended_so read stated (Told telling None ∷ log) old new (mid, moves, ran) one = ended_so read stated log (wires old.feed mid) new ran one
  ended_so read stated (Told telling (Some cut_of.ReadFault) ∷ log) old new (mid, moves, ran) one = absurd moves
  ended_so read stated (Told telling (Some (cut_of.BodyCut r s)) ∷ log) old new (mid, moves, ran) one = absurd moves
  ended_so read stated (Told telling (Some cut_of.WriteFault) ∷ log) old new (mid, moves, ran) one = ended_so read stated log (wires old.feed mid) new ran one
  ended_so read stated (Told telling (Some (cut_of.ShardCut whys)) ∷ log) old new (mid, moves, ran) one = absurd moves
  ended_so read stated (Told telling (Some cut_of.NoMemory) ∷ log) old new (mid, moves, ran) one = ended_so read stated log (wires old.feed mid) new ran one

-- bytes of no length
none_long : (bytes : List ℕ) → length bytes ≡ 0 → bytes ≡ []
none_long [] long = refl
none_long (byte ∷ bytes) long = absurd (omega (arith, long))

-- where as many were read as were given, none were given after
pub ends_there : (read stated : ℕ) (new : FeedView) → EndedSo read stated new → read ≡ new.given
    → (read ≡ new.given) × (stated ≡ new.stated) × (new.given < new.stated) × FeedEnded new
ends_there read stated new x all =
    let is = x.read_is in
    let given = x.gave.given in
    let short = x.short in
    let stays = x.gave.stated in
    let none = none_long x.more (omega (arith, all, is, given)) in (
      all,
      x.stated_is ∙ sym stays,
      omega (arith, all, is, short, stays),
      record {
        left = at_end new.left (subst (λ left. IsAtEnd left) (x.gave.left ∙ ap (λ bytes. prepend_known bytes new.left) none) x.at_end.left);
        ended = x.gave.ended none x.at_end.ended;
      },
    )
