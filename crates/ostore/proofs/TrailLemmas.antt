-- The calls in the logs of connections, one log behind another, are those that were made of the drives.
use Rattle.std.proofs.Common.{◌≡◌, ◌∙◌, ℕ, zero, suc, List, [], ◌∷◌, ◌++◌, All, Option, ap, append-nil, append_assoc, refl, subst, sym}
use Rattle.std.proofs.lemmas.List.Elements.{All-head, All-tail}
use Rattle.audit_trail.specs.declared.entry.Entry.{Entry}
use Rattle.drive_base.specs.Trail.{DriveCall}
use Rattle.drive_base.specs.declared.drive.Drive.{Ghosts}
use Rattle.receipts.specs.Events.{Log}
use Rattle.log_laws.specs.Calling.{joined}
use Rattle.op_steps.specs.Trails.{LeadsTrail}
use Rattle.serve_loop.specs.Deeds.{Wires}
use Rattle.serve_loop.specs.Doors.{DoorView, ServedSince, Sight}
use Rattle.serve_loop.specs.Session.{Session}
use Rattle.serve_loop.specs.declared.ends.ConnectionEnd.{ConnectionEnd}
use Rattle.store_shared.specs.Passes.{disks_of}
use Rattle.store_shared.specs.Sections.{AnswersAmong, TurnedSection}
use Rattle.store_shared.specs.SharedPasses.{drives_of, shared_holds}
use Rattle.store_shared.specs.Trails.{PlainAnswersHaveTrails, SharedAnswersHaveTrails, trail_at}
use Rattle.store_shared.specs.declared.pass.PlainPass.{PlainPass}
use Rattle.store_shared.specs.declared.shared.SharedPass.{SharedPass}
use Rattle.ostore.specs.Logs.{among_log, desk_answers, desk_log, pipe_logs, served_logs}
use Rattle.ostore.specs.Sharing.{IsUncalled}
use Rattle.ostore.specs.Trails.{AreUncalled, LogsLeadTrails}
use Rattle.ostore.proofs.LogLemmas.{leads_served, leads_session}

-- the calls in a log, and those in one behind it
leads_on : (k : ℕ) (one two : Log) (old mid new : List DriveCall) → LeadsTrail k one old mid → LeadsTrail k two mid new → LeadsTrail k (one ++ two) old new
leads_on k [] two old mid new same rest = subst (λ (calls : List DriveCall). LeadsTrail k two calls new) same rest
leads_on k (event ∷ one) two old mid new (next, adds, more) rest = (next, adds, leads_on k one two next mid new more rest)

-- logs, and logs behind them, as one
joined_on : (one two : List Log) → joined (one ++ two) ≡ joined one ++ joined two
joined_on [] two = refl
joined_on (log ∷ one) two = ap (λ (l : Log). log ++ l) (joined_on one two) ∙ sym (append_assoc log (joined one) (joined two))

module _ {D : Type 0} (ghosts : Ghosts D) where
  trails_stay : (drives : List D) → LogsLeadTrails ghosts [] drives drives
  trails_stay drives k = refl

  trails_on : (one two : List Log) (old mid new : List D) → LogsLeadTrails ghosts one old mid → LogsLeadTrails ghosts two mid new
      → LogsLeadTrails ghosts (one ++ two) old new
  trails_on one two old mid new first second k =
      subst (λ (l : Log). LeadsTrail k l (trail_at ghosts old k) (trail_at ghosts new k)) (sym (joined_on one two))
      (leads_on k (joined one) (joined two) (trail_at ghosts old k) (trail_at ghosts mid k) (trail_at ghosts new k) (first k) (second k))

  -- a log alone
  trails_one : (log : Log) (old new : List D) → ((k : ℕ) → LeadsTrail k log (trail_at ghosts old k) (trail_at ghosts new k))
      → LogsLeadTrails ghosts (log ∷ []) old new
  trails_one log old new leads k = subst (λ (l : Log). LeadsTrail k l (trail_at ghosts old k) (trail_at ghosts new k)) (sym (append-nil log)) (leads k)

  -- no call was made of any of these
  pub none_called : (drives : List D) → All (IsUncalled ghosts) drives → AreUncalled ghosts drives
  none_called [] all k = refl
  none_called (drive ∷ drives) all zero = All-head (IsUncalled ghosts) drive drives all
  none_called (drive ∷ drives) all (suc k) = none_called drives (All-tail (IsUncalled ghosts) drive drives all) k

module _ {D A : Type 0} (ghosts : Ghosts D) (entries : A → Option (List Entry)) (count : A → ℕ) where
  -- over a connection by `pipe`
  pub session_trails : PlainAnswersHaveTrails ghosts entries count → (clock : Option ℕ) (old new : PlainPass D A) (end : ConnectionEnd) (before after : Wires)
      (session : Session (desk_answers ghosts entries count) clock old new end before after)
      → LogsLeadTrails ghosts (pipe_logs ghosts entries count clock old new end before after session) (disks_of old) (disks_of new)
  session_trails have clock old new end before after session =
      leads_session (desk_answers ghosts entries count) (desk_log ghosts entries count)
      (λ logs (a b : PlainPass D A). LogsLeadTrails ghosts logs (disks_of a) (disks_of b))
      (λ a. trails_stay ghosts (disks_of a))
      (λ one two a b c. trails_on ghosts one two (disks_of a) (disks_of b) (disks_of c))
      (λ task a b body tale result did. trails_one ghosts did.log (disks_of a) (disks_of b) (have task a b body tale result did))
      clock old new end before after session

  -- and over the connections that a worker served
  pub served_trails : SharedAnswersHaveTrails ghosts entries count → (made : ℕ → List (TurnedSection D A)) (clock : Option ℕ) {S T : Type 0} {starved : ℕ} (seen : Sight S T)
      (old now : SharedPass D A) (start here : DoorView S T)
      (served : ServedSince (AnswersAmong ghosts entries count made) clock seen shared_holds old now start here starved)
      → LogsLeadTrails ghosts (served_logs (AnswersAmong ghosts entries count made) (among_log ghosts entries count made) clock seen shared_holds old now start here served)
      (drives_of old) (drives_of now)
  served_trails have made clock seen old now start here served =
      leads_served (AnswersAmong ghosts entries count made) (among_log ghosts entries count made)
      (λ logs (a b : SharedPass D A). LogsLeadTrails ghosts logs (drives_of a) (drives_of b))
      (λ a. trails_stay ghosts (drives_of a))
      (λ one two a b c. trails_on ghosts one two (drives_of a) (drives_of b) (drives_of c))
      (λ task a b body tale result did. trails_one ghosts did.2.did.log (drives_of a) (drives_of b) (have task a b body tale result did.2.did))
      clock seen shared_holds old now start here served
