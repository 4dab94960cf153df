-- What a log tells, and how the count of faults of the sink moves.
use Rattle.std.proofs.Common.{◌≡◌, ◌∙◌, [], ◌∷◌, Some, None, ap, subst, sym}
use Rattle.call_types.specs.declared.feed.Cut.TheVariants as cut_of
use Rattle.desk_base.specs.Answering.{BreaksLast as BrokeLast}
use Rattle.desk_base.specs.Telling.{Effect, Telling, TellsAll}
use Rattle.fault_base.specs.Counts.{Rose}
use Rattle.receipts.specs.Events.{Log, cuts_of, tale_of, tried_of}
use Rattle.receipts.specs.Events.Event.{BarredFrom, Called, Fed, Told, Turned}
use Rattle.receipts.proofs.TriedLemmas.{BreaksLast, NoneBroke, told_before, told_none, tried_last}
use Rattle.store_shared.proofs.WireLemmas.{Wires, WiresRan, ran_split, wires}

module _ {T : Type 0} (takes breaks : Effect T) where
  -- where no sink failed all was told, and its count stays
  pub told_all : (log : Log) (old new : Wires T) → WiresRan takes breaks log old new → NoneBroke (cuts_of log)
      → TellsAll takes old.teller.value (tale_of log) new.teller.value
  told_all [] old new ran none = sym (ap (λ (w : Wires T). w.teller.value) ran)
  told_all (Turned k made shown ∷ log) old new ran none = told_all log old new ran none
  told_all (BarredFrom k why ∷ log) old new ran none = told_all log old new ran none
  told_all (Called k made ∷ log) old new ran none = told_all log old new ran none
  told_all (Fed bytes None ∷ log) old new (mid, moves, ran) none = told_all log (wires mid old.teller) new ran none
  told_all (Fed bytes (Some cut_of.ReadFault) ∷ log) old new (mid, moves, ran) none = told_all log (wires mid old.teller) new ran none
  told_all (Fed bytes (Some (cut_of.BodyCut read stated)) ∷ log) old new (mid, moves, ran) none = told_all log (wires mid old.teller) new ran none
  told_all (Fed bytes (Some cut_of.WriteFault) ∷ log) old new (mid, moves, ran) none = absurd none
  told_all (Fed bytes (Some (cut_of.ShardCut whys)) ∷ log) old new (mid, moves, ran) none = told_all log (wires mid old.teller) new ran none
  told_all (Fed bytes (Some cut_of.NoMemory) ∷ log) old new (mid, moves, ran) none = told_all log (wires mid old.teller) new ran none
  told_all (Told telling None ∷ log) old new (mid, moves, ran) none = (mid.value, moves.0, told_all log (wires old.feed mid) new ran none)
  told_all (Told telling (Some cut_of.ReadFault) ∷ log) old new (mid, moves, ran) none = absurd moves
  told_all (Told telling (Some (cut_of.BodyCut read stated)) ∷ log) old new (mid, moves, ran) none = absurd moves
  told_all (Told telling (Some cut_of.WriteFault) ∷ log) old new (mid, moves, ran) none = absurd none
  told_all (Told telling (Some (cut_of.ShardCut whys)) ∷ log) old new (mid, moves, ran) none = absurd moves
  told_all (Told telling (Some cut_of.NoMemory) ∷ log) old new (mid, moves, ran) none =
      subst (λ value. TellsAll takes value (tale_of log) new.teller.value) moves.0 (told_all log (wires old.feed mid) new ran none)

  pub writes_stay : (log : Log) (old new : Wires T) → WiresRan takes breaks log old new → NoneBroke (cuts_of log) → new.teller.faults ≡ old.teller.faults
  writes_stay [] old new ran none = ap (λ (w : Wires T). w.teller.faults) ran
  writes_stay (Turned k made shown ∷ log) old new ran none = writes_stay log old new ran none
  writes_stay (BarredFrom k why ∷ log) old new ran none = writes_stay log old new ran none
  writes_stay (Called k made ∷ log) old new ran none = writes_stay log old new ran none
  writes_stay (Fed bytes None ∷ log) old new (mid, moves, ran) none = writes_stay log (wires mid old.teller) new ran none
  writes_stay (Fed bytes (Some cut_of.ReadFault) ∷ log) old new (mid, moves, ran) none = writes_stay log (wires mid old.teller) new ran none
  writes_stay (Fed bytes (Some (cut_of.BodyCut read stated)) ∷ log) old new (mid, moves, ran) none = writes_stay log (wires mid old.teller) new ran none
  writes_stay (Fed bytes (Some cut_of.WriteFault) ∷ log) old new (mid, moves, ran) none = absurd none
  writes_stay (Fed bytes (Some (cut_of.ShardCut whys)) ∷ log) old new (mid, moves, ran) none = writes_stay log (wires mid old.teller) new ran none
  writes_stay (Fed bytes (Some cut_of.NoMemory) ∷ log) old new (mid, moves, ran) none = writes_stay log (wires mid old.teller) new ran none
  writes_stay (Told telling None ∷ log) old new (mid, moves, ran) none = writes_stay log (wires old.feed mid) new ran none ∙ moves.1
  writes_stay (Told telling (Some cut_of.ReadFault) ∷ log) old new (mid, moves, ran) none = absurd moves
  writes_stay (Told telling (Some (cut_of.BodyCut read stated)) ∷ log) old new (mid, moves, ran) none = absurd moves
  writes_stay (Told telling (Some cut_of.WriteFault) ∷ log) old new (mid, moves, ran) none = absurd none
  writes_stay (Told telling (Some (cut_of.ShardCut whys)) ∷ log) old new (mid, moves, ran) none = absurd moves
  writes_stay (Told telling (Some cut_of.NoMemory) ∷ log) old new (mid, moves, ran) none = writes_stay log (wires old.feed mid) new ran none ∙ moves.1

  -- the sink failed in the midst of the last telling
  pub record BrokeSo (telling : Telling) (log : Log) (old new : Wires T) : Type 0 where
    pub told : BrokeLast takes breaks old.teller.value (tried_of log) new.teller.value
    pub rose : Rose old.teller.faults new.teller.faults

  pub broke_so : (telling : Telling) (log : Log) (old new : Wires T) (x : BreaksLast telling log) → WiresRan takes breaks log old new
      → BrokeSo telling log old new
  broke_so telling log old new x ran =
      let parts = ran_split takes breaks x.before (Told telling (Some cut_of.WriteFault) ∷ x.rest) old new
      (subst (λ l. WiresRan takes breaks l old new) x.parts ran) in
      let mid = parts.0 in
      let before = parts.1 in
      let after = parts.2.0 in
      let moves = parts.2.1 in
      let rest = parts.2.2 in
      let none_before = subst NoneBroke (sym x.no_cut_before) tt in
      let none_behind = subst NoneBroke (sym x.no_cut_behind) tt in
      let stays : after.value ≡ new.teller.value = subst (λ tale. TellsAll takes after.value tale new.teller.value) (told_none x.rest x.last)
      (told_all x.rest (wires mid.feed after) new rest none_behind) in
      record {
        told = record {
          earlier = tale_of log;
          last = telling;
          are = tried_last telling log x;
          mid = mid.teller.value;
          took = subst (λ tale. TellsAll takes old.teller.value tale mid.teller.value) (sym (told_before telling log x))
              (told_all x.before old mid before none_before);
          broke = subst (λ value. breaks mid.teller.value telling value) stays moves.0;
        };
        rose = subst (λ n. Rose n new.teller.faults) (writes_stay x.before old mid before none_before)
            (subst (λ n. Rose mid.teller.faults n) (sym (writes_stay x.rest (wires mid.feed after) new rest none_behind)) moves.1);
      }
