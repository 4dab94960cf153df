-- What the log has where the begin of a read can't be done.
use Rattle.std.proofs.Common.{◌≡◌, ◌∙◌, ℕ, [], ◌∷◌, ◌++◌, Contains, Option, Some, None, inr, refl, subst, sym}
use Rattle.std.proofs.lemmas.List.Elements.{Contains-push}
use Rattle.call_types.specs.declared.names.Key.{Key}
use Rattle.call_types.specs.declared.names.Mode.{Mode}
use Rattle.call_types.specs.declared.refusal.Refusal.TheVariants.{SeqSpent}
use Rattle.call_types.specs.declared.reply.Reply.TheVariants as reply_of
use Rattle.slot_core.specs.declared.holding.Pin.{Pin}
use Rattle.receipts.specs.Committing.{KeyIsBarred}
use Rattle.receipts.specs.Events.{IsQuiet, IsUntold, Log}
use Rattle.receipts.specs.Events.Event.{BarredFrom}
use Rattle.receipts.specs.Paying.{ChangesNothing}
use Rattle.receipts.specs.Registers.{key_slot}
use Rattle.receipts.specs.declared.barred.Barred.{Barred}
use Rattle.receipts.specs.declared.barred.Barred.TheVariants.{Spent}
use Rattle.receipts.proofs.GrowLemmas.{quiet_sections}
use Rattle.op_steps.specs.Claims.{Claim}
use Rattle.op_steps.specs.Words.{LetsGo}
use Rattle.op_steps.specs.declared.next.OpNext.{OpNext}
use Rattle.op_steps.specs.declared.next.OpNext.TheVariants.{Data, Done, Feed, Section, Tell}
use Rattle.object_ops.specs.Reading.{HasFound, HasPin, IsFresh}
use Rattle.object_ops.proofs.ReadingTell.{none_all, one_all, quiet_fresh}

-- the slot of a section
abbrev pub slot_in : OpNext → ℕ
slot_in (Section k) = k
slot_in Data = 0
slot_in Feed = 0
slot_in Tell = 0
slot_in Done = 0

-- a section that can't be done
pub bar_fresh : (k : ℕ) (why : Barred) → IsFresh (BarredFrom k why ∷ [])
bar_fresh k why = record { untold = one_all IsUntold (BarredFrom k why) tt; uncut = refl; untaken = refl; idle = none_all ChangesNothing }

-- nothing is told of it, and a slot that is spent is
pub key_bars : (at : Key) (mode : Mode) (log : Log) (k : ℕ) (why : Barred) → HasFound at.bucket mode log
    → IsFresh (log ++ BarredFrom k why ∷ [])
    × (why ≡ Spent → key_slot at ≡ k → KeyIsBarred at (reply_of.Refused SeqSpent) (log ++ BarredFrom k why ∷ []))
key_bars at mode log k why found = (
  quiet_fresh log (BarredFrom k why ∷ []) (one_all IsQuiet (BarredFrom k why) tt) found.fresh,
  λ spent slot. record {
    looked = record {
      look = found.look;
      sections = quiet_sections log (BarredFrom k why ∷ []) (one_all IsQuiet (BarredFrom k why) tt) ∙ found.sections;
      mode = mode;
      finds = found.finds;
    };
    barred = record {
      spent = subst (λ w. Contains (log ++ BarredFrom k w ∷ []) (BarredFrom (key_slot at) Spent)) (sym spent)
          (subst (λ i. Contains (log ++ BarredFrom i Spent ∷ []) (BarredFrom (key_slot at) Spent)) slot (Contains-push log (BarredFrom (key_slot at) Spent)));
      told = refl;
    };
  },
)

-- a read that can't be ended lets go of nothing, since its section could not be done
pub bar_lets_go : (slot k : ℕ) (pin : Option Pin) (claim : Claim) (log : Log) (why : Barred) → slot ≡ k → HasPin slot pin claim
    → LetsGo claim (log ++ BarredFrom k why ∷ [])
bar_lets_go slot k None claim log why same holds = absurd holds
bar_lets_go slot k (Some pin) claim log why same holds =
    subst (λ c. LetsGo c (log ++ BarredFrom k why ∷ [])) (sym holds.claim_is)
    (inr (refl, (why, subst (λ i. Contains (log ++ BarredFrom i why ∷ []) (BarredFrom slot why)) same (Contains-push log (BarredFrom slot why)))))
