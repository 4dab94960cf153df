-- A commit of a slot, by that of its lanes.
use Rattle.std.proofs.Common.{◌≡◌, ◌≢◌, ◌⊎◌, ◌<◌, ◌∙◌, ℕ, suc, List, [], ◌∷◌, ◌++◌, map, Option, None, Some, Result, Ok, Err, length, ap, subst, sym, refl, inl, inr, arith}
use Rattle.std.specs.Prelude.{MatchOption, slice_index_or}
use Rattle.std.specs.List.{AllByRecursion}
use Rattle.std.proofs.lemmas.List.{append-nil}
use Rattle.drive_base.specs.declared.drive.Drive.{Ghosts}
use Rattle.stamp_id.specs.declared.version.VersionId.{VersionId}
use Rattle.audit_trail.specs.declared.entry.Deed.{Deed}
use Rattle.call_types.specs.Refusals.{refusal_of}
use Rattle.call_types.specs.declared.reply.Reply.{Reply}
use Rattle.call_types.specs.declared.reply.Reply.TheVariants.{Refused}
use Rattle.call_types.specs.declared.why.Why.{Why}
use Rattle.register_file.specs.declared.record.Next.{Next}
use Rattle.register_core.specs.declared.faults.QuorumFault.{QuorumFault}
use Rattle.version_list.specs.State.{AreDistinct}
use Rattle.slot_history.specs.Contents.{NamedData, number_of_id}
use Rattle.slot_history.specs.Standing.{Flying}
use Rattle.slot_history.specs.State.{TakesOut}
use Rattle.slot_history.proofs.TakenLemmas.{left_apart, taken_there}
use Rattle.slot_data.specs.Holding.{Holding, IsInFlight}
use Rattle.slot_data.specs.Rows.{flying_of}
use Rattle.slot_data.specs.declared.rows.FlightRow.{FlightRow}
use Rattle.slot_rules.specs.Deeds.{brings_of, name_of}
use Rattle.slot_rules.specs.Fields.{AreApart}
use Rattle.slot_rules.specs.declared.commit.Commit.{Commit}
use Rattle.slot_rules.specs.declared.commit.Committed.{Committed}
use Rattle.slot_core.specs.CommitOutcome.{Lands, kept_with}
use Rattle.slot_core.specs.CommitCauses.{CommitCause, FoundSo, OwnIsWritten, WroteSo}
use Rattle.slot_core.specs.Commits.{ChecksFlight, CommitHolds, FitsFlight, FlightEnds, GoneByAnswer, NothingBegun}
use Rattle.slot_core.specs.PutEnds.{ChecksLanding, FitsLanding, LandsPut, LandsRow, flight_put, handed, put_of}
use Rattle.slot_core.specs.Views.{SlotNumbers}
use Rattle.slot_core.specs.declared.slot.SlotFault.{SlotFault}
use Rattle.slot_core.specs.declared.slot.SlotFault.TheVariants.{Quorum, Key as KeyFault, SeqSpent, AuditFailed, NoMemory, NotInFlight}
use Rattle.slot_core.specs.declared.holding.Flight.{Flight}
use Rattle.slot_core.specs.declared.flights.Landing.{Landing}
use Rattle.slot_core.specs.declared.flights.Landing.TheVariants.{Ended, Missing}
use Rattle.slot_core.proofs.LaneLemmas.{with_turns}
use Rattle.slot_core.proofs.TakingLemmas.{none_flies, taken_mapped}

-- ---- the put that ends

-- the numbers of puts differ
apart_first : (x : FlightRow) (xs : List FlightRow) → ((k : ℕ) (d : FlightRow) → k < length xs → number_of_id x.id ≢ number_of_id (slice_index_or xs k d).id)
    → AllByRecursion (λ (n : ℕ). number_of_id x.id ≢ n) (map (λ (f : Flying). number_of_id f.id) (map flying_of xs))
apart_first x [] each = tt
apart_first x (y ∷ ys) each = (each 0 y (omega arith), apart_first x ys (λ k d below. each (suc k) d (omega arith)))

apart_distinct : (rows : List FlightRow) → AreApart rows → AreDistinct (map (λ (f : Flying). number_of_id f.id) (map flying_of rows))
apart_distinct [] apart = tt
apart_distinct (x ∷ xs) apart = (
  apart_first x xs (λ k d below. apart 0 (suc k) d (omega arith) (omega arith)),
  apart_distinct xs (λ i j d order below. apart (suc i) (suc j) d (omega arith) (omega arith)),
)

-- it ends, and no other has its number
lands_put : (id : VersionId) (landing : Landing) (old new : List FlightRow) → AreApart old → LandsPut id landing old new → Lands (put_of landing) (map flying_of old) (map flying_of new)
lands_put put (Ended None) old new apart lands = absurd lands
lands_put put (Ended (Some id)) old new apart lands =
    let row : FlightRow = lands.1.0 in
    let taken = taken_mapped flying_of row old new lands.1.2 in (
      flying_of row,
      lands.1.1,
      taken,
      (λ g there same. left_apart (λ (f : Flying). number_of_id f.id) (flying_of row) (map flying_of old) (map flying_of new) taken (apart_distinct old apart) g there
          (same ∙ ap number_of_id (sym lands.1.1))),
    )
lands_put put (Missing id) old new apart lands = ap (map flying_of) lands.1.1

pub lands_row : (flight : Option Flight) (landing : Landing) (old new : List FlightRow) → AreApart old → LandsRow flight landing old new
    → Lands (put_of landing) (map flying_of old) (map flying_of new)
lands_row None landing old new apart lands =
    subst (λ (l : Landing). Lands (put_of l) (map flying_of old) (map flying_of new)) (sym lands.0) (ap (map flying_of) lands.1)
lands_row (Some flight) landing old new apart lands = lands_put flight.id landing old new apart lands

-- so the flight isn't listed any more
ends_put : (put : VersionId) (landing : Landing) (old new : List FlightRow) → LandsPut put landing old new
    → ((f : Flying) × (f.id ≡ put) × TakesOut f (map flying_of old) (map flying_of new)) ⊎ ((IsInFlight (map flying_of old) put → ⊥) × (map flying_of new ≡ map flying_of old))
ends_put put (Ended None) old new lands = absurd lands
ends_put put (Ended (Some id)) old new lands = inl (flying_of lands.1.0, lands.1.1 ∙ sym lands.0, taken_mapped flying_of lands.1.0 old new lands.1.2)
ends_put put (Missing id) old new lands = inr (
  (λ flying. none_flies old id lands.1.0 (subst (λ (x : VersionId). IsInFlight (map flying_of old) x) lands.0 flying)),
  ap (map flying_of) lands.1.1,
)

pub flight_ends : (flight : Option Flight) (landing : Landing) (old new : List FlightRow) → LandsRow flight landing old new
    → FlightEnds flight (map flying_of old) (map flying_of new)
flight_ends None landing old new lands = ap (map flying_of) lands.1
flight_ends (Some flight) landing old new lands = ends_put flight.id landing old new lands

-- what a commit leaves in memory
pub commit_holds : (flight : Option Flight) (landing : Landing) (rows new : List FlightRow) (answer : Result Committed SlotFault) (held kept : Holding) (more trash : List VersionId)
    → held.flights ≡ map flying_of rows → LandsRow flight landing rows new → GoneByAnswer answer more → trash ≡ held.trash ++ more
    → kept ≡ kept_with held (map flying_of new) trash → CommitHolds flight answer held kept
commit_holds flight landing rows new answer held kept more trash listed lands gone added is = record {
  rest = map flying_of new;
  ends = subst (λ (l : List Flying). FlightEnds flight l (map flying_of new)) (sym listed) (flight_ends flight landing rows new lands);
  gone = more;
  gone_is = gone;
  holds = is ∙ ap (λ (t : List VersionId). kept_with held (map flying_of new) t) added;
}

-- the same where nothing is gone
pub commit_holds_none : (flight : Option Flight) (landing : Landing) (rows new : List FlightRow) (fault : SlotFault) (answer : Result Committed SlotFault) (held kept : Holding)
    → held.flights ≡ map flying_of rows → LandsRow flight landing rows new → answer ≡ Err fault → kept ≡ kept_with held (map flying_of new) held.trash
    → CommitHolds flight answer held kept
commit_holds_none flight landing rows new fault answer held kept listed lands told is =
    commit_holds flight landing rows new answer held kept [] held.trash listed lands (subst (λ (a : Result Committed SlotFault). GoneByAnswer a []) (sym told) refl)
    (sym (append-nil held.trash)) is

-- the put that was handed in
handed_put : (put : VersionId) (landing : Landing) (old new : List FlightRow) → LandsPut put landing old new → handed landing ≡ Some put
handed_put put (Ended None) old new lands = absurd lands
handed_put put (Ended (Some id)) old new lands = ap (λ (x : VersionId). Some x) (sym lands.0)
handed_put put (Missing id) old new lands = ap (λ (x : VersionId). Some x) (sym lands.0)

pub handed_flight : (flight : Option Flight) (landing : Landing) (old new : List FlightRow) → LandsRow flight landing old new → handed landing ≡ flight_put flight
handed_flight None landing old new lands = ap handed lands.0
handed_flight (Some flight) landing old new lands = handed_put flight.id landing old new lands

-- ---- deeds that fit

fits_none : (brings : Option NamedData) (flight : Option Flight) → flight ≡ None → MatchOption brings (flight ≡ None) (λ named. (f : Flight) × (flight ≡ Some f) × (f.id ≡ named.id))
    → MatchOption brings (put_of (Ended None) ≡ None) (λ named. put_of (Ended None) ≡ Some named.id)
fits_none None flight none fits = refl
fits_none (Some named) flight none fits = absurd (let clash : None ≡ Some fits.0 = sym none ∙ fits.1 in cc)

fits_put : (brings : Option NamedData) (flight : Flight) (id : VersionId) → flight.id ≡ id
    → MatchOption brings (Some flight ≡ None) (λ named. (f : Flight) × (Some flight ≡ Some f) × (f.id ≡ named.id))
    → MatchOption brings (put_of (Ended (Some id)) ≡ None) (λ named. put_of (Ended (Some id)) ≡ Some named.id)
fits_put None flight id is fits = absurd cc
fits_put (Some named) flight id is fits =
    let same : flight ≡ fits.0 = (let both : Some flight ≡ Some fits.0 = fits.1 in cc) in
    ap (λ (x : VersionId). Some x) (sym is ∙ (ap (λ (f : Flight). f.id) same ∙ fits.2))

fits_landed : (deed : Commit) (flight : Flight) (landing : Landing) (old new : List FlightRow) → FitsFlight deed (Some flight) → LandsPut flight.id landing old new → FitsLanding deed landing
fits_landed deed flight (Ended None) old new fits lands = absurd lands
fits_landed deed flight (Ended (Some id)) old new fits lands = fits_put (brings_of deed) flight id lands.0 fits
fits_landed deed flight (Missing id) old new fits lands = tt

pub fits_landing : (deed : Commit) (flight : Option Flight) (landing : Landing) (old new : List FlightRow) → FitsFlight deed flight → LandsRow flight landing old new
    → FitsLanding deed landing
fits_landing deed None landing old new fits lands =
    subst (λ (l : Landing). FitsLanding deed l) (sym lands.0) (fits_none (brings_of deed) None refl fits)
fits_landing deed (Some flight) landing old new fits lands = fits_landed deed flight landing old new fits lands

-- ---- checks

-- a put whose row was taken was listed
row_listed : (put id : VersionId) (old new : List FlightRow) → put ≡ id → (row : FlightRow) × (row.id ≡ id) × TakesOut row old new → IsInFlight (map flying_of old) put
row_listed put id old new same taken = record {
  flight = flying_of taken.0;
  there = taken_there (flying_of taken.0) (map flying_of old) (map flying_of new) (taken_mapped flying_of taken.0 old new taken.2);
  id_is = taken.1 ∙ sym same;
}

checks_put : (flight : Flight) (landing : Landing) (old new : List FlightRow) (held : Holding) (answer : Result Committed SlotFault) → held.flights ≡ map flying_of old
    → LandsPut flight.id landing old new → ChecksLanding landing answer → ChecksFlight (Some flight) held answer
checks_put flight (Ended None) old new held answer listed lands checks = absurd lands
checks_put flight (Ended (Some id)) old new held answer listed lands checks = record {
  unlisted = λ f is none.
      let same : flight ≡ f = (let both : Some flight ≡ Some f = is in cc) in
      absurd (none (subst (λ (l : List Flying). IsInFlight l f.id) (sym listed)
      (row_listed f.id id old new (ap (λ (x : Flight). x.id) (sym same) ∙ lands.0) lands.1)));
  refused = λ x told. absurd (checks x told);
}
checks_put flight (Missing id) old new held answer listed lands checks = record {
  unlisted = λ f is none. checks.0;
  refused = λ x told.
      let same : x ≡ id = checks.1 x told in (
        (flight, refl, lands.0 ∙ sym same),
        (λ flying. none_flies old id lands.1.0 (subst (λ (y : VersionId). IsInFlight (map flying_of old) y) same (subst (λ (l : List Flying). IsInFlight l x) listed flying))),
      );
}

pub checks_flight : (flight : Option Flight) (landing : Landing) (old new : List FlightRow) (held : Holding) (answer : Result Committed SlotFault) → held.flights ≡ map flying_of old
    → LandsRow flight landing old new → ChecksLanding landing answer → ChecksFlight flight held answer
checks_flight None landing old new held answer listed lands checks =
    let nothing : ChecksLanding (Ended None) answer = subst (λ (l : Landing). ChecksLanding l answer) lands.0 checks in
    record {
      unlisted = λ f is none. absurd (let clash : None ≡ Some f = is in cc);
      refused = λ x told. absurd (nothing x told);
    }
checks_flight (Some flight) landing old new held answer listed lands checks = checks_put flight landing old new held answer listed lands checks

-- a section that was refused for its numbers
pub checks_spent : (flight : Option Flight) (held : Holding) (answer : Result Committed SlotFault) → answer ≡ Err SeqSpent → ChecksFlight flight held answer
checks_spent flight held answer spent = record {
  unlisted = λ f is none. subst NothingBegun (sym spent) tt;
  refused = λ x told. absurd (let both : Err SeqSpent ≡ Err (NotInFlight x) = sym spent ∙ told in cc);
}

-- ---- causes don't go by how many sections were done

module _ {D : Type 0} (ghosts : Ghosts D) where
  found_turned : (numbers later : SlotNumbers) (turns : ℕ) (deed : Commit) (put : Option VersionId) (now : ℕ) (reply : Reply) (entered : Deed) (old new disks disks_after : List D)
      → FoundSo ghosts numbers later deed put now reply entered old new disks disks_after
      → FoundSo ghosts numbers (with_turns later turns) deed put now reply entered old new disks disks_after
  found_turned numbers later turns deed put now reply entered old new disks disks_after f = record {
    rule = f.rule;
    longest = f.longest;
    rule_is = f.rule_is;
    content = f.content;
    gave = f.gave;
    id = f.id;
    does = f.does;
    deed_is = f.deed_is;
  }

  written_turned : (numbers later : SlotNumbers) (turns : ℕ) (name : List ℕ) (rule : List ℕ → Option ℕ) (longest : ℕ) (content : List ℕ) (own : Next)
      (result : Result (List Why) QuorumFault) (old new disks disks_after : List D)
      → OwnIsWritten ghosts numbers later name rule longest content own result old new disks disks_after
      → OwnIsWritten ghosts numbers (with_turns later turns) name rule longest content own result old new disks disks_after
  written_turned numbers later turns name rule longest content own result old new disks disks_after (inl w) = inl (record {
    looked = w.looked;
    mid = w.mid;
    concluded = w.concluded;
    long = w.long;
    tell = w.tell;
    settled = w.settled;
    content_is = w.content_is;
    draft = w.draft;
    drafted = w.drafted;
    writes = w.writes;
  })
  written_turned numbers later turns name rule longest content own result old new disks disks_after (inr w) = inr (record {
    looked = w.looked;
    mid = w.mid;
    concluded = w.concluded;
    long = w.long;
    tell = w.tell;
    found = w.found;
    pending = w.pending;
    content_is = w.content_is;
    ballot = w.ballot;
    first = w.first;
    first_drafted = w.first_drafted;
    letters = w.letters;
    middle = w.middle;
    between = w.between;
    forward = w.forward;
    draft = w.draft;
    drafted = w.drafted;
    writes = w.writes;
  })

  wrote_turned : (numbers later : SlotNumbers) (turns : ℕ) (deed : Commit) (put : Option VersionId) (now : ℕ) (reply : Reply) (result : Result (List Why) QuorumFault)
      (entered : Deed) (old new disks disks_after : List D) → WroteSo ghosts numbers later deed put now reply result entered old new disks disks_after
      → WroteSo ghosts numbers (with_turns later turns) deed put now reply result entered old new disks disks_after
  wrote_turned numbers later turns deed put now reply result entered old new disks disks_after w = record {
    rule = w.rule;
    longest = w.longest;
    rule_is = w.rule_is;
    content = w.content;
    own = w.own;
    is_own = record {
      change = w.is_own.change;
      term = w.is_own.term;
      seq = w.is_own.seq;
      drawn = w.is_own.drawn;
      adds = w.is_own.adds;
      id = w.is_own.id;
      id_change = w.is_own.id_change;
      id_slot = w.is_own.id_slot;
      does = w.is_own.does;
      changed = w.is_own.changed;
    };
    written = written_turned numbers later turns (name_of deed) w.rule w.longest w.content w.own result old new disks disks_after w.written;
    deed_is = w.deed_is;
  }

  turned_commit : (numbers later : SlotNumbers) (turns : ℕ) (deed : Commit) (put : Option VersionId) (now : ℕ) (answer : Result Committed SlotFault) (entered : Deed)
      (old new disks disks_after : List D) → CommitCause ghosts numbers later deed put now answer entered old new disks disks_after
      → CommitCause ghosts numbers (with_turns later turns) deed put now answer entered old new disks disks_after
  turned_commit numbers later turns deed put now (Ok made) entered old new disks disks_after (inl f) = inl (found_turned numbers later turns deed put now made.done entered old new disks disks_after f)
  turned_commit numbers later turns deed put now (Ok made) entered old new disks disks_after (inr w) =
      inr (w.0, wrote_turned numbers later turns deed put now made.done (Ok w.0) entered old new disks disks_after w.1)
  turned_commit numbers later turns deed put now (Err (Quorum fault)) entered old new disks disks_after cause = (
    cause.0,
    elim cause.1 [
      | inl l ↦ inl (record { rule = l.rule; longest = l.longest; rule_is = l.rule_is; cause = l.cause; deed_is = l.deed_is })
      | inr w ↦ inr (w.0, wrote_turned numbers later turns deed put now w.0 (Err fault) entered old new disks disks_after w.1)
    ],
  )
  turned_commit numbers later turns deed put now (Err (KeyFault why)) entered old new disks disks_after cause =
      found_turned numbers later turns deed put now (Refused (refusal_of why)) entered old new disks disks_after cause
  turned_commit numbers later turns deed put now (Err SeqSpent) entered old new disks disks_after cause = cause
  turned_commit numbers later turns deed put now (Err (AuditFailed before after)) entered old new disks disks_after cause = cause
  turned_commit numbers later turns deed put now (Err NoMemory) entered old new disks disks_after cause = cause
  turned_commit numbers later turns deed put now (Err (NotInFlight id)) entered old new disks disks_after cause = cause

  pub commit_turned : (numbers later : SlotNumbers) (turns : ℕ) (deed : Commit) (put put_is : Option VersionId) (now : ℕ) (answer : Result Committed SlotFault) (entered : Deed)
      (old old_is new new_is disks disks_after : List D) → put_is ≡ put → old_is ≡ old → new_is ≡ new
      → CommitCause ghosts numbers later deed put_is now answer entered old_is new_is disks disks_after
      → CommitCause ghosts numbers (with_turns later turns) deed put now answer entered old new disks disks_after
  commit_turned numbers later turns deed put put_is now answer entered old old_is new new_is disks disks_after same_put same_old same_new cause =
      turned_commit numbers later turns deed put now answer entered old new disks disks_after
      (subst (λ (p : Option VersionId). CommitCause ghosts numbers later deed p now answer entered old new disks disks_after) same_put
      (subst (λ (l : List D). CommitCause ghosts numbers later deed put_is now answer entered old l disks disks_after) same_new
      (subst (λ (l : List D). CommitCause ghosts numbers later deed put_is now answer entered l new_is disks disks_after) same_old cause)))
