-- What the completion after a read's look leaves and tells.
use Rattle.std.proofs.Common.{◌≡◌, ℕ, List, Ok, Err, length, inl, inr, refl, subst, sym}
use Rattle.drive_base.specs.declared.drive.Drive.{Ghosts}
use Rattle.call_types.specs.declared.names.Key.{Key}
use Rattle.call_types.specs.declared.names.Mode.{Mode}
use Rattle.call_types.specs.declared.names.Pick.{Pick}
use Rattle.register_core.specs.Found.{content_of}
use Rattle.register_core.specs.declared.faults.QuorumFault.{QuorumFault}
use Rattle.register_core.specs.declared.faults.QuorumFault.TheVariants.{ReadQuorum, WriteQuorum, Undecided, NoMemory}
use Rattle.slot_data.specs.Holding.{Holding}
use Rattle.slot_history.specs.Names.{key_name}
use Rattle.slot_history.specs.Standing.{Records}
use Rattle.slot_history.specs.State.{IsHeld, State}
use Rattle.slot_rules.specs.Owning.{base_after}
use Rattle.slot_rules.specs.Rules.{longest_for, rule_for}
use Rattle.slot_rules.specs.declared.site.Drawn.{Drawn}
use Rattle.slot_rules.specs.declared.site.Site.{Site}
use Rattle.slot_core.specs.Causes.{LookCause}
use Rattle.slot_core.specs.RegisterLook.{CallsForward}
use Rattle.slot_core.specs.PeekSection.{GivesBy, GivesOver, IsRefusal}
use Rattle.slot_core.specs.ReadSection.{FinishesPlan, KnownRead, LooksForRead, PlansRead, ReadGave}
use Rattle.slot_core.specs.Settlement.{SettledOn, SettlesAfter, numbers_at}
use Rattle.slot_core.specs.Standing.{SlotStands}
use Rattle.slot_core.specs.declared.read_section.Planned.{Planned}
use Rattle.slot_core.specs.declared.peek_section.Peeked.{Peeked}
use Rattle.slot_core.specs.declared.peek_section.Peeked.TheVariants.{Found, Refused, LacksMemory}
use Rattle.slot_core.specs.declared.read_plan.ReadPlan.{ReadPlan}
use Rattle.slot_core.proofs.CauseLemmas.{cause_of_forward}
use Rattle.slot_core.proofs.ReadLemmas.{known_read}
use Rattle.slot_core.proofs.ReadTurnLemmas.{read_gave}
use Rattle.slot_core.proofs.TurnLemmas.{forward_has_memory, settled_known}
use Rattle.slot_core.specs.LanesStay.{FilesStay, TellsStay}

module _ {D : Type 0} (ghosts : Ghosts D) where
  -- a completion that was refused
  pub refusal_finishes : (site : Site) (drawn later : Drawn) (name : List ℕ) (planned : Planned) (fault : QuorumFault) (peeked : Peeked ReadPlan) (mid new : List D)
      → IsRefusal fault peeked
      → SettlesAfter ghosts {E = QuorumFault} site drawn later name planned.ready (Err fault) mid new
      → CallsForward ghosts site drawn later planned.ready.first (Err fault) mid new
      → FinishesPlan ghosts site drawn later name planned peeked mid new
  refusal_finishes site drawn later name planned (ReadQuorum whys) peeked mid new is settles calls =
      subst (λ (p : Peeked ReadPlan). FinishesPlan ghosts site drawn later name planned p mid new) (sym is) (λ same. absurd cc, settles, calls)
  refusal_finishes site drawn later name planned (WriteQuorum whys) peeked mid new is settles calls =
      subst (λ (p : Peeked ReadPlan). FinishesPlan ghosts site drawn later name planned p mid new) (sym is) (λ same. absurd cc, settles, calls)
  refusal_finishes site drawn later name planned (Undecided k u whys) peeked mid new is settles calls =
      subst (λ (p : Peeked ReadPlan). FinishesPlan ghosts site drawn later name planned p mid new) (sym is) (λ same. absurd cc, settles, calls)
  refusal_finishes site drawn later name planned NoMemory peeked mid new is settles calls =
      absurd (forward_has_memory ghosts site drawn later planned.ready.first NoMemory mid new calls refl)

  -- what the whole leaves
  pub finished_leaves : (site : Site) (drawn later : Drawn) (name : List ℕ) (at : Key) (mode : Mode) (pick : Pick) (planned : Planned) (peeked : Peeked ReadPlan)
      (old mid new disks disks_after : List D) (holding : Holding) (records : Records) (state : State)
      → name ≡ key_name at → LooksForRead ghosts site drawn name at mode pick (Ok planned) old mid disks disks_after
      → length mid ≡ length old → FilesStay ghosts old mid → TellsStay ghosts old mid
      → FinishesPlan ghosts site drawn later name planned peeked mid new
      → SlotStands ghosts.tells ghosts.files (numbers_at site drawn) holding.flights old records state
      → GivesOver ghosts.tells ghosts.files (numbers_at site drawn) (numbers_at site later) holding (λ plan late now. KnownRead site.turns at mode pick plan late now) peeked new records state
  finished_leaves site drawn later name at mode pick planned (Found plan late) old mid new disks disks_after holding records state named looks long stay tells_stay done s =
      let ready = planned.ready in
      let found = content_of ready.looked.base ready.looked.pending in
      let register : IsHeld state.registers name = inr (inl (at, named)) in
      let plans = subst (λ (p : ReadPlan). PlansRead site.turns at mode pick looks.1.state p) (sym done.0) looks.1.plans in
      settled_known ghosts.tells ghosts.files (numbers_at site drawn) (numbers_at site later) holding
      (λ (after : Records) (now : State). SettledOn name (base_after ready.looked.base ready.first) found late after now)
      (λ (after : Records) (now : State). KnownRead site.turns at mode pick plan late now) new records state
      (λ after now known. known_read name site.turns at mode pick plan (base_after ready.looked.base ready.first) found late looks.1.state after now named looks.1.spells plans known)
      (done.2 (rule_for name) (longest_for name) old disks disks_after holding records state looks.0 long stay tells_stay register s)
  finished_leaves site drawn later name at mode pick planned (Refused fault) old mid new disks disks_after holding records state named looks long stay tells_stay done s =
      let register : IsHeld state.registers name = inr (inl (at, named)) in
      done.1 (rule_for name) (longest_for name) old disks disks_after holding records state looks.0 long stay tells_stay register s
  finished_leaves site drawn later name at mode pick planned LacksMemory old mid new disks disks_after holding records state named looks long stay tells_stay done s = absurd done

  -- and its calls
  pub finished_calls : (site : Site) (drawn later : Drawn) (name : List ℕ) (at : Key) (mode : Mode) (pick : Pick) (planned : Planned) (peeked : Peeked ReadPlan)
      (old mid new disks disks_after : List D)
      → name ≡ key_name at → LooksForRead ghosts site drawn name at mode pick (Ok planned) old mid disks disks_after
      → FilesStay ghosts old mid → FinishesPlan ghosts site drawn later name planned peeked mid new
      → GivesBy ghosts (numbers_at site drawn) (numbers_at site later) (key_name at)
      (λ plan late. ReadGave ghosts (numbers_at site drawn) (numbers_at site later) at (λ state. PlansRead site.turns at mode pick state plan) late old new disks disks_after)
      peeked old new disks disks_after
  finished_calls site drawn later name at mode pick planned (Found plan late) old mid new disks disks_after named looks stay done =
      subst (λ (p : ReadPlan). ReadGave ghosts (numbers_at site drawn) (numbers_at site later) at (λ state. PlansRead site.turns at mode pick state p) late
      old new disks disks_after) (sym done.0)
      (read_gave ghosts site drawn later name at mode pick planned late old mid new disks disks_after named looks stay done.1 done.3)
  finished_calls site drawn later name at mode pick planned (Refused fault) old mid new disks disks_after named looks stay done = (
    done.0,
    subst (λ (n : List ℕ). LookCause ghosts (numbers_at site drawn) (numbers_at site later) n (rule_for n) (longest_for n) fault old new disks disks_after) named
        (cause_of_forward ghosts site drawn later name (rule_for name) (longest_for name) planned.ready fault old mid new disks disks_after looks.0 stay done.2),
  )
  finished_calls site drawn later name at mode pick planned LacksMemory old mid new disks disks_after named looks stay done = absurd done
