-- What a run of the program comes to.
use Rattle.std.specs.Prelude.{◌≡◌, ◌⊎◌, ℕ, List, Option, Some, None}
use Rattle.audit_trail.specs.declared.entry.Entry.{Entry}
use Rattle.drive_base.specs.View.{views}
use Rattle.drive_base.specs.declared.drive.Drive.{Ghosts}
use Rattle.log_laws.specs.Calling.{CallsRan, HoldsOn, joined}
use Rattle.op_steps.specs.Moves.{DrivesKeep}
use Rattle.op_steps.specs.Store.{slots_seen}
use Rattle.serve_loop.specs.Deeds.{Wires}
use Rattle.serve_loop.specs.Session.{Session}
use Rattle.serve_loop.specs.declared.ends.ConnectionEnd.{ConnectionEnd}
use Rattle.store_shared.specs.OpeningAll.{StoreIsOpen}
use Rattle.store_shared.specs.Passes.{disks_of, set_of, slots_of}
use Rattle.store_shared.specs.declared.pass.StoreParts.{StoreParts}
use Rattle.store_shared.specs.declared.pass.PlainPass.{PlainPass}
use Rattle.term_gate.specs.Terms.{EachTells, IsKept}
use Rattle.term_gate.specs.declared.refusal.OpenRefusal.{OpenRefusal}
use Rattle.ostore.specs.History.{AllRan}
use Rattle.ostore.specs.Logs.{desk_answers, pipe_logs}
use Rattle.ostore.specs.Opening.{NotOpens}
use Rattle.ostore.specs.Rigs.{ArePartsOf, StoreIsClosed}
use Rattle.ostore.specs.Statuses.{refusal_status, status_of}
use Rattle.ostore.specs.Trails.{LogsLeadTrails}
use Rattle.ostore.specs.declared.rig.Ended.{Ended}
use Rattle.ostore.specs.declared.rig.Rig.{Rig}

module _ {D A : Type 0} (ghosts : Ghosts D) (entries : A → Option (List Entry)) (count : A → ℕ) where
  -- nothing was done: the rig is handed back, and the streams stay
  pub record DidNothing (status : ℕ) (rig : Rig D A) (ended : Ended D A (Unit {0})) (before after : Wires) : Type 0 where
    pub status_is : ended.status ≡ status
    pub rig_is : ended.rig ≡ Some rig
    pub opening : ended.opening ≡ None
    pub line : ended.line ≡ None
    pub starved : ended.starved ≡ 0
    pub still : after ≡ before

  -- The theorem of a connection. Bodies: what was taken and given is a session over an open store, in which each call has a log that pays what it owes,
  -- and these logs are those of calls one after another, which name all that was asked of the data drives meanwhile. History: over their log in one each audit has got its entries, and these lead to what the lanes stand for; data drives that
  -- tell keep what is no data, so that the term of this life is kept. Holders: over it the data of each slot goes on to hold, with what these entries lead to.
  pub record Piped (clock : Option ℕ) (rig after : Rig D A) (end : ConnectionEnd) (wires wires_after : Wires) : Type 0 where
    pub parts : StoreParts D A
    pub are : ArePartsOf rig parts
    pub opened : PlainPass D A
    pub opens : StoreIsOpen ghosts entries count rig.set parts opened
    pub stop : PlainPass D A
    pub session : Session (desk_answers ghosts entries count) clock opened stop end wires wires_after
    pub calls : CallsRan ghosts (set_of opened) (pipe_logs ghosts entries count clock opened stop end wires wires_after session)
        (slots_seen entries count (slots_of opened)) (views ghosts (disks_of opened)) (slots_seen entries count (slots_of stop)) (views ghosts (disks_of stop))
    pub trails : LogsLeadTrails ghosts (pipe_logs ghosts entries count clock opened stop end wires wires_after session) (disks_of opened) (disks_of stop)
    pub closed : StoreIsClosed rig.set stop after
    pub history : AllRan entries ghosts.tells ghosts.files (set_of opened) opens.opened.term
        (joined (pipe_logs ghosts entries count clock opened stop end wires wires_after session)) rig.slots.items after.slots.items
    pub drives : DrivesKeep (views ghosts (disks_of opened)) (views ghosts (disks_of stop))
    pub term_kept : EachTells (views ghosts parts.disks.items) → IsKept rig.set opens.opened.term (views ghosts (disks_of stop))
    pub holders : HoldsOn ghosts (set_of opened)
        (joined (pipe_logs ghosts entries count clock opened stop end wires wires_after session))
        (slots_seen entries count (slots_of opened)) (views ghosts (disks_of opened)) (slots_seen entries count (slots_of stop)) (views ghosts (disks_of stop))

  -- no store was opened over a rig, which comes back
  abbrev pub WasRefused : Rig D A → Ended D A (Unit {0}) → Wires → Wires → Type 0
  WasRefused rig ended before after = (rig_after : Rig D A) × (why : OpenRefusal) × (ended.rig ≡ Some rig_after) × (ended.opening ≡ Some why) × (ended.line ≡ None)
      × (ended.starved ≡ 0) × (ended.status ≡ refusal_status why) × NotOpens ghosts entries count rig rig_after why × (after ≡ before)

  -- what `pipe` comes to; it counts no connection as ended for want of memory, since its status tells that
  abbrev pub Pipes : Option ℕ → Rig D A → Ended D A (Unit {0}) → Wires → Wires → Type 0
  Pipes clock rig ended before after =
      ((rig_after : Rig D A) × (end : ConnectionEnd) × (ended.rig ≡ Some rig_after) × (ended.opening ≡ None) × (ended.line ≡ None) × (ended.starved ≡ 0) × (ended.status ≡ status_of end)
      × Piped clock rig rig_after end before after)
      ⊎ WasRefused rig ended before after
