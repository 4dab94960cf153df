-- Each answer of a look, from the answers of its steps.
use Rattle.std.proofs.Common.{◌≡◌, ℕ, ◌+◌, ◌<◌, ◌≤◌, ◌∙◌, List, Option, Some, None, length, map, ap, subst, sym, inl, inr, arith}
use Rattle.std.specs.Prelude.{Bool, ◌↔◌, Err, slice_index_or}
use Rattle.std.specs.Int.{IsBitSet}
use Rattle.std.proofs.lemmas.Bool.Decides.{nat_tests}
use Rattle.call_types.specs.declared.why.Why.{Why}
use Rattle.drive_base.specs.declared.drive.Drive.{Ghosts}
use Rattle.drive_base.specs.Files.{Files}
use Rattle.drive_base.specs.Plan.{data_drives, write_drives}
use Rattle.drive_base.specs.declared.plan.SetPlan.{SetPlan}
use Rattle.sealed_record.specs.Fields.{IfThere}
use Rattle.register_file.specs.Record.{IsCanonical, IsCanonicalNext}
use Rattle.register_file.specs.declared.record.RegFile.{RegFile}
use Rattle.register_file.specs.declared.record.Base.{Base}
use Rattle.register_file.specs.declared.record.Next.{Next}
use Rattle.vote_core.specs.Lane.{Lane}
use Rattle.vote_core.specs.Shown.{Overlap}
use Rattle.register_core.specs.Found.{Concludes, IsLawfulPending, RefusedLetter, content_of, found_at}
use Rattle.register_core.specs.Looks.{LaneIsRead, LanesAreRead, Looks, MayForward, Sees, Accepts, IsConcluded}
use Rattle.register_core.specs.LaneWrites.{letter_at}
use Rattle.register_core.specs.OnLanes.{AreLanes}
use Rattle.register_file.specs.Lengths.{longest_file}
use Rattle.register_core.specs.Records.{row_of, settled_file}
use Rattle.register_core.specs.Seen.{LookedSeen}
use Rattle.register_core.specs.declared.faults.QuorumFault.{QuorumFault}
use Rattle.register_core.specs.declared.faults.QuorumFault.TheVariants.{ReadQuorum, WriteQuorum, Undecided, NoMemory}
use Rattle.register_core.specs.declared.looks.Looked.{Looked}
use Rattle.register_core.proofs.FindsLemmas.{LookLaws, concluded_base, looked_seen, refused_seen, undecided_seen}
use Rattle.register_core.proofs.FoundLemmas.{found_below}
use Rattle.register_core.proofs.SeenLemmas.{element, lanes_seen}

-- any drives that take a write and any that answer a read have one in common
pub quorums_meet : (n p : ℕ) → 1 ≤ p → p + p ≤ n → n < write_drives n p + data_drives n p
quorums_meet n p some half = grind (arith, nat_tests)

settled_canonical : (file : RegFile) (base : Base) → IsCanonical file → file.base ≡ base → IsCanonical (settled_file base)
settled_canonical file base canonical same = subst (λ (b : Base). IsCanonical (settled_file b)) same (record { base = canonical.base; next = tt })

-- a file that was read is canonical
read_canonical : (most : ℕ) (name : List ℕ) (read : Option RegFile) (file : RegFile) (why : Why) (out : Type 0) (tells : Bool) (files : Files) (old new : ℕ)
    → read ≡ Some file → LaneIsRead most name read why out tells files old new → IsCanonical file
read_canonical most name read file why out tells files old new is read_so =
    (subst (λ (r : Option RegFile). LaneIsRead most name r why out tells files old new) is read_so).3

module _ {D : Type 0} (ghosts : Ghosts D) where
  -- the base that is concluded makes a canonical record
  pub base_canonical : (w d out most : ℕ) (name : List ℕ) (found : List (Option RegFile)) (whys : List Why) (old new : List D) (base : Base) (pending : Option Next)
      → LanesAreRead ghosts out most name found whys old new → Concludes w d found base pending → IsCanonical (settled_file base)
  base_canonical w d out most name found whys old new base pending read concludes =
      let finds = concluded_base w d found base pending concludes in
      let below = found_below found finds.0 finds.1.0 finds.1.1 in
      let here : finds.0 < length old = omega (arith, read.counted) in
      let e = element old finds.0 here in
      settled_canonical finds.1.0 base
      (read_canonical most name (found_at found finds.0) finds.1.0 (letter_at whys finds.0) (IsBitSet out finds.0)
      (ghosts.tells (slice_index_or old finds.0 e)) (ghosts.files (slice_index_or old finds.0 e)) (ghosts.count (slice_index_or old finds.0 e)) (ghosts.count (slice_index_or new finds.0 e))
      finds.1.1 (read.each finds.0 e here)) finds.1.2

  -- a next that was found is lawful
  next_lawful : (file : RegFile) (next : Next) → IsCanonical file → file.next ≡ Some next → IsLawfulPending (Some next)
  next_lawful file next canonical is =
      let follows : IsCanonicalNext file.base.change next = subst (λ (n : Option Next). IfThere (IsCanonicalNext file.base.change) n) is canonical.next in
      (follows.adds, follows.content)

  -- what is pending is lawful
  pub pending_lawful : (w d out most : ℕ) (name : List ℕ) (found : List (Option RegFile)) (whys : List Why) (old new : List D) (base : Base) (pending : Option Next)
      → LanesAreRead ghosts out most name found whys old new → Concludes w d found base pending → IsLawfulPending pending
  pending_lawful w d out most name found whys old new base None read concludes = tt
  pending_lawful w d out most name found whys old new base (Some next) read (base_lane, lane, k, u, verdict, base_is, finds) =
      let below = found_below found lane finds.0 finds.1 in
      let here : lane < length old = omega (arith, read.counted) in
      let e = element old lane here in
      next_lawful finds.0 next
      (read_canonical most name (found_at found lane) finds.0 (letter_at whys lane) (IsBitSet out lane)
      (ghosts.tells (slice_index_or old lane e)) (ghosts.files (slice_index_or old lane e)) (ghosts.count (slice_index_or old lane e)) (ghosts.count (slice_index_or new lane e))
      finds.1 (read.each lane e here)) finds.2

  -- a set's lanes, any w of which meet any d
  meet : (set : SetPlan) (out : ℕ) (name : List ℕ) (old : List D) (lanes : List Lane) → length old ≡ set.drives → AreLanes ghosts.files out name old lanes
      → Overlap (length lanes) (write_drives set.drives set.parity) (data_drives set.drives set.parity)
  meet set out name old lanes sized are =
      let quorums = quorums_meet set.drives set.parity set.some_parity set.half_at_most in
      omega (arith, are.counted)

  -- what a look that could conclude sees
  pub sees_looked : (set : SetPlan) (out most : ℕ) (name : List ℕ) (found : List (Option RegFile)) (looked : Looked) (old new : List D) → LookLaws
      → length old ≡ set.drives → LanesAreRead ghosts out most name found looked.whys old new → looked.rows.items ≡ map row_of found
      → Concludes (write_drives set.drives set.parity) (data_drives set.drives set.parity) found looked.base looked.pending
      → ((k : ℕ) → k < length found → IsBitSet looked.clean k ↔ (found_at found k ≡ Some (settled_file looked.base)))
      → Sees ghosts out name old (LookedSeen (write_drives set.drives set.parity) found looked)
  sees_looked set out most name found looked old new laws sized read rows concludes clean lanes told honest are =
      let seen = lanes_seen ghosts out most name found looked.whys old new laws.files laws.places read lanes told honest are in
      looked_seen (write_drives set.drives set.parity) (data_drives set.drives set.parity) found lanes looked laws seen (meet set out name old lanes sized are) rows concludes clean

  -- nothing can be said
  pub looks_unsaid : (set : SetPlan) (out : ℕ) (name : List ℕ) (rule : List ℕ → Option ℕ) (longest : ℕ) (found : List (Option RegFile)) (whys : List Why) (fault : QuorumFault)
      (old new disks disks_after : List D) → LookLaws → length old ≡ set.drives
      → LanesAreRead ghosts out (longest_file longest) name found whys old new
      → IsConcluded ghosts set found whys (Err fault) disks disks_after
      → Looks ghosts set out name rule longest (Err fault) old new disks disks_after
  looks_unsaid set out name rule longest found whys (ReadQuorum letters) old new disks disks_after laws sized read few =
      inl (record {
        found = found;
        read = subst (λ (ws : List Why). LanesAreRead ghosts out (longest_file longest) name found ws old new) (sym few.0) read;
        few = few.1;
        not_asked = few.2;
        seen = lanes_seen ghosts out (longest_file longest) name found whys old new laws.files laws.places read;
      })
  looks_unsaid set out name rule longest found whys (WriteQuorum letters) old new disks disks_after laws sized read never = absurd never
  looks_unsaid set out name rule longest found whys (Undecided k u letters) old new disks disks_after laws sized read stopped = record {
    found = found;
    letters = whys;
    read = read;
    base_lane = stopped.base_lane;
    lane = stopped.lane;
    verdict = stopped.verdict;
    next = stopped.next;
    next_is = stopped.next_is;
    adds = stopped.lacks.adds;
    adds_is = stopped.lacks.adds_is;
    looked_for = stopped.lacks.looked_for;
    few = stopped.lacks.few;
    seen = λ lanes told honest are.
        let seen = lanes_seen ghosts out (longest_file longest) name found whys old new laws.files laws.places read lanes told honest are in
        undecided_seen (write_drives set.drives set.parity) (data_drives set.drives set.parity) found lanes stopped.base_lane stopped.lane k u stopped.next laws seen
        (meet set out name old lanes sized are) stopped.verdict stopped.next_is;
  }
  looks_unsaid set out name rule longest found whys NoMemory old new disks disks_after laws sized read unsaid = tt

  -- the content is refused
  pub looks_refused : (T : Type 0) (set : SetPlan) (out : ℕ) (name : List ℕ) (rule : List ℕ → Option ℕ) (longest : ℕ) (found : List (Option RegFile)) (whys : List Why)
      (base : Base) (pending : Option Next) (content : List ℕ) (fault : QuorumFault) (old new disks disks_after : List D) → LookLaws
      → LanesAreRead ghosts out (longest_file longest) name found whys old new
      → Concludes (write_drives set.drives set.parity) (data_drives set.drives set.parity) found base pending
      → MayForward ghosts set pending disks disks_after
      → content ≡ content_of base pending → Accepts {T = T} (rule content) found content whys (Err fault)
      → Looks ghosts set out name rule longest (Err fault) old new disks disks_after
  looks_refused T set out name rule longest found whys base pending content (ReadQuorum letters) old new disks disks_after laws read concludes may same (place, broken, refused) =
      inr (record {
        found = found;
        letters = whys;
        read = read;
        base = base;
        pending = pending;
        concludes = concludes;
        may_forward = may;
        place = place;
        broken = ap rule (sym same) ∙ broken;
        counted = refused.counted ∙ read.lettered;
        each = λ k low. subst (λ (bytes : List ℕ). RefusedLetter (found_at found k) bytes place (letter_at whys k) (letter_at letters k)) same
            (refused.each k (omega (arith, read.counted)));
        seen = λ lanes told honest are.
            let seen = lanes_seen ghosts out (longest_file longest) name found whys old new laws.files laws.places read lanes told honest are in
            refused_seen (write_drives set.drives set.parity) (data_drives set.drives set.parity) found lanes base pending seen concludes;
      })
  looks_refused T set out name rule longest found whys base pending content (WriteQuorum letters) old new disks disks_after laws read concludes may same never = absurd never
  looks_refused T set out name rule longest found whys base pending content (Undecided k u letters) old new disks disks_after laws read concludes may same never = absurd never
  looks_refused T set out name rule longest found whys base pending content NoMemory old new disks disks_after laws read concludes may same unsaid = tt
