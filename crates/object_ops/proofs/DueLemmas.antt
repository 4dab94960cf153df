-- That the reply to a change of a key is due, by what its commit says.
use Rattle.std.proofs.Common.{◌≡◌, ◌∙◌, ℕ, Bool, List, Option, Some, None, Ok, Err, inl, inr, refl, sym, subst}
use Rattle.audit_trail.specs.declared.entry.Deed.{Deed}
use Rattle.audit_trail.specs.declared.entry.Deed.TheVariants.{Done}
use Rattle.call_types.specs.Refusals.{refusal_of}
use Rattle.call_types.specs.declared.act.Act.{Act}
use Rattle.call_types.specs.declared.act.Brief.TheVariants.{Answer, Change}
use Rattle.call_types.specs.declared.names.Key.{Key}
use Rattle.call_types.specs.declared.names.Mode.{Mode}
use Rattle.call_types.specs.declared.refusal.KeyRefusal.{KeyRefusal}
use Rattle.call_types.specs.declared.reply.Reply.{Reply}
use Rattle.call_types.specs.declared.reply.Reply.TheVariants.{Refused}
use Rattle.call_types.specs.declared.why.Why.{Why}
use Rattle.drive_base.specs.declared.drive.Drive.{Ghosts}
use Rattle.drive_base.specs.Files.{Files}
use Rattle.stamp_id.specs.declared.stamp.ChangeId.{ChangeId}
use Rattle.stamp_id.specs.declared.version.VersionId.{VersionId}
use Rattle.version_list.specs.Step.{Step}
use Rattle.version_list.specs.declared.state.KeyState.{KeyState}
use Rattle.version_list.proofs.LawProofs.{injective}
use Rattle.slot_history.specs.Contents.{SpellsKey}
use Rattle.slot_history.specs.Doing.{DoesChange}
use Rattle.slot_history.specs.State.{Registers}
use Rattle.slot_rules.specs.declared.commit.Commit.TheVariants.{Key as KeyCommit}
use Rattle.slot_rules.specs.declared.commit.Committed.{Committed}
use Rattle.slot_core.specs.CommitCauses.{CommitCause, FoundSo, WroteSo}
use Rattle.slot_core.specs.Views.{SlotNumbers}
use Rattle.slot_core.specs.declared.slot.SlotFault.TheVariants.{Key as KeyFault}
use Rattle.receipts.specs.Dues.{IsDueChange}

-- one content under every name
abbrev alone : List ℕ → Registers
alone content name = record { change = 0; content = content }

-- a step of a key, from the state that one content spells to that of another
pub record StepsKey (content new : List ℕ) (mode : Mode) (act : Act) (id : VersionId) (now : ℕ) (reply : Reply) : Type 0 where
  pub old_state : KeyState
  pub new_state : KeyState
  pub spells_old : SpellsKey content old_state
  pub spells_new : SpellsKey new new_state
  pub step : Step old_state mode act id now reply new_state

steps_of : (name content new : List ℕ) (at : Key) (mode : Mode) (act : Act) (id : VersionId) (now : ℕ) (reply : Reply)
    → DoesChange (alone content) name at mode act id now reply new → StepsKey content new mode act id now reply
steps_of name content new at mode act id now reply x = record {
  old_state = x.old_state;
  new_state = x.new_state;
  spells_old = x.spells_old;
  spells_new = x.spells_new;
  step = x.step;
}

-- one content spells one state
same_state : (content : List ℕ) (a b : KeyState) → SpellsKey content a → SpellsKey content b → a ≡ b
same_state content a b x y = injective a b x.canonical y.canonical (sym x.is ∙ y.is)

-- what an entry says of a change that was done, and that its reply is due
pub record DoneSo (slot : ℕ) (at : Key) (mode : Mode) (act : Act) (now : ℕ) (reply : Reply) (entered : Deed) : Type 0 where
  pub change : Option ChangeId
  pub deed_is : entered ≡ Done (Change at mode act change now) (Answer reply)
  pub due : IsDueChange slot mode act change now reply

abbrev is_some : Option ChangeId → Type 0
is_some None = ⊥
is_some (Some change) = Unit {0}

module _ {D : Type 0} (ghosts : Ghosts D) where
  found_so : (numbers later : SlotNumbers) (at : Key) (mode : Mode) (act : Act) (put : Option VersionId) (now : ℕ) (reply : Reply) (entered : Deed) (old new disks disks_after : List D)
      → FoundSo ghosts numbers later (KeyCommit at mode act) put now reply entered old new disks disks_after
      → DoneSo numbers.index at mode act now reply entered
  found_so numbers later at mode act put now reply entered old new disks disks_after x =
      let steps = steps_of _ x.content x.content at mode act x.id now reply (x.does (alone x.content) refl (inr (inl (at, refl)))) in
      record {
        change = None;
        deed_is = x.deed_is;
        due = record {
          old = steps.old_state;
          new = steps.new_state;
          id = x.id;
          step = steps.step;
          drawn = λ differs. absurd (differs (same_state x.content steps.new_state steps.old_state steps.spells_new steps.spells_old));
          id_is = λ own is. absurd (subst is_some (sym is) tt);
        };
      }

  wrote_so : (numbers later : SlotNumbers) (at : Key) (mode : Mode) (act : Act) (put : Option VersionId) (now : ℕ) (reply : Reply) (letters : List Why) (entered : Deed)
      (old new disks disks_after : List D)
      → WroteSo ghosts numbers later (KeyCommit at mode act) put now reply (Ok letters) entered old new disks disks_after
      → DoneSo numbers.index at mode act now reply entered
  wrote_so numbers later at mode act put now reply letters entered old new disks disks_after x =
      let steps = steps_of _ x.content x.own.content at mode act x.is_own.id now reply (x.is_own.does (alone x.content) refl (inr (inl (at, refl)))) in
      record {
        change = Some x.own.change;
        deed_is = x.deed_is;
        due = record {
          old = steps.old_state;
          new = steps.new_state;
          id = x.is_own.id;
          step = steps.step;
          drawn = λ differs. refl;
          id_is = λ own is. (x.is_own.id_change ∙ change_of is, x.is_own.id_slot);
        };
      }
    where
      change_of : {a b : ChangeId} → Some a ≡ Some b → a ≡ b
      change_of e = cc

  -- a commit that was done
  pub done_so : (numbers later : SlotNumbers) (at : Key) (mode : Mode) (act : Act) (put : Option VersionId) (now : ℕ) (made : Committed) (entered : Deed) (old new disks disks_after : List D)
      → CommitCause ghosts numbers later (KeyCommit at mode act) put now (Ok made) entered old new disks disks_after
      → DoneSo numbers.index at mode act now made.done entered
  done_so numbers later at mode act put now made entered old new disks disks_after (inl found) =
      found_so numbers later at mode act put now made.done entered old new disks disks_after found
  done_so numbers later at mode act put now made entered old new disks disks_after (inr (letters, wrote)) =
      wrote_so numbers later at mode act put now made.done letters entered old new disks disks_after wrote

  -- one that the state of the key refuses
  pub refused_so : (numbers later : SlotNumbers) (at : Key) (mode : Mode) (act : Act) (put : Option VersionId) (now : ℕ) (why : KeyRefusal) (entered : Deed) (old new disks disks_after : List D)
      → CommitCause ghosts numbers later (KeyCommit at mode act) put now (Err (KeyFault why)) entered old new disks disks_after
      → DoneSo numbers.index at mode act now (Refused (refusal_of why)) entered
  refused_so numbers later at mode act put now why entered old new disks disks_after found =
      found_so numbers later at mode act put now (Refused (refusal_of why)) entered old new disks disks_after found
