-- Over the log of a call on a store that holds a read of data that its section found goes on, where enough data drives serve in it.
use Rattle.std.proofs.Common.{◌≡◌, ◌≢◌, ◌⊎◌, ◌∙◌, ◌+◌, ◌<◌, ◌≤◌, ℕ, List, [], ◌∷◌, ◌++◌, Contains, Option, Some, None, ap, inl, inr, length, refl, subst, sym, take, arith}
use Rattle.std.specs.Prelude.{map, slice_get}
use Rattle.std.specs.Option.{option_map}
use Rattle.std.specs.Int.{IsBitSet}
use Rattle.std.proofs.lemmas.List.Elements.{Contains-append_left}
use Rattle.std.proofs.lemmas.Option.{get_or_from_slice_get, none-some, slice_get-map, slice_get_within}
use Rattle.call_types.specs.declared.why.Why.{Why}
use Rattle.desk_base.specs.Telling.{Effect}
use Rattle.drive_base.specs.Calls.{MadeCall, Tells}
use Rattle.drive_base.specs.Calls.Seen.{Showed}
use Rattle.drive_base.specs.DriveSet.{count_in}
use Rattle.drive_base.specs.Plan.{data_drives, write_drives}
use Rattle.drive_base.specs.View.{view_at}
use Rattle.drive_base.specs.declared.drive.Drive.{Ghosts}
use Rattle.drive_base.specs.declared.plan.SetPlan.{SetPlan}
use Rattle.file_access.proofs.SightLemmas.{calls_tell_what_was_so}
use Rattle.stamp_id.specs.declared.version.VersionId.{VersionId}
use Rattle.body_print.specs.Clashes.{IsClash}
use Rattle.body_print.specs.Names.{manifest_name}
use Rattle.manifest_file.specs.Print.{Cut, cut_of, text_under}
use Rattle.manifest_file.specs.Spelling.{file_of}
use Rattle.manifest_file.specs.Table.{ManifestsAreNoLonger}
use Rattle.manifest_file.specs.declared.manifest.Manifest.{Manifest}
use Rattle.manifest_file.specs.declared.manifest.ManifestPart.{ManifestPart}
use Rattle.manifest_file.specs.declared.manifest.TheConstants.{LONGEST_FILE}
use Rattle.manifest_file.proofs.PrintText.{tells_parts, texts_are_bytes}
use Rattle.slot_history.specs.Contents.{NamedData}
use Rattle.slot_history.proofs.MemberLemmas.{other_is_other, same_or_other}
use Rattle.slot_data.specs.Disks.{Disks}
use Rattle.receipts.specs.Events.{Log, Saw}
use Rattle.receipts.specs.Events.Event.{Called, Turned}
use Rattle.receipts.specs.Letters.{FewBlocks, IsInUse, Serves, Wanted}
use Rattle.op_steps.specs.Claims.{Claim}
use Rattle.log_laws.specs.Laws.{AllHold, EachStepKeepsData, RanKeepsHistory}
use Rattle.op_steps.specs.Leading.{Standing}
use Rattle.log_laws.specs.Reads.{CallsServe, EnoughServe, NamesOther, ReadGoesOn, ReadsData, ShowsAnother}
use Rattle.op_steps.specs.Steps.{Ran}
use Rattle.op_steps.specs.Store.{AreInOrder, Store}
use Rattle.log_laws.proofs.ReadFilesLemmas.{HoldsData, stands_in}
use Rattle.log_laws.proofs.ReadHolderLemmas.{Held, at_call, given, held_there, served}
use Rattle.log_laws.proofs.ReadLetterLemmas.{saw_in}
use Rattle.log_laws.proofs.ReadMomentLemmas.{Along, Parted, along_back, along_section, in_whole, part_at}
use Rattle.log_laws.proofs.ReadMomentLemmas.{ReadMoment}
use Rattle.log_laws.proofs.ReadNamedLemmas.{data_found, found_leaves, found_names}
use Rattle.log_laws.proofs.ReadStayLemmas.{Holds}
use Rattle.log_laws.proofs.ReadTextLemmas.{first_file}
use Rattle.op_steps.proofs.SectionLemmas.{counted_in_use}

-- the part at a place of a manifest, where another has one with the same cuts
record PartThere (parts : List ManifestPart) (number : ℕ) (cut : Cut) : Type 0 where
  part : ManifestPart
  is : slice_get parts number ≡ Some part
  cut_is : cut_of part ≡ cut

part_there : (parts : List ManifestPart) (number : ℕ) (cut : Cut) → option_map cut_of (slice_get parts number) ≡ Some cut → PartThere parts number cut
part_there parts number cut is = by (slice_get parts number) refl
  where
    by : (w : Option ManifestPart) → slice_get parts number ≡ w → PartThere parts number cut
    by None none = absurd (none-some cut (sym (ap (option_map cut_of) none) ∙ is))
    by (Some part) some = (
        let both : Some (cut_of part) ≡ Some cut = sym (ap (option_map cut_of) some) ∙ is in
        record { part = part; is = some; cut_is = cc })

-- one manifest has one part at a place
same_part : (m n : Manifest) (number : ℕ) (p q : ManifestPart) → m ≡ n → slice_get m.parts number ≡ Some p → slice_get n.parts number ≡ Some q → p.id ≡ q.id
same_part m n number p q same one two = (
    let both : Some p ≡ Some q = sym one ∙ (ap (λ (x : Manifest). slice_get x.parts number) same ∙ two) in
    let equal : p ≡ q = cc in
    ap (λ (x : ManifestPart). x.id) equal)

module _ {D T : Type 0} (ghosts : Ghosts D) (takes breaks : Effect T) (set : SetPlan) (unseen : Disks) (claims : List Claim) where
  -- a front of a log in which data that a section found is named, or coming, before each step
  record NamedIn (disks : ℕ) (wanted : Wanted) (front log : Log) (old new : Store D T) : Type 0 where
    more : Log
    whole : log ≡ front ++ more
    to : Store D T
    ran : Ran ghosts takes breaks set front old to
    leads_on : Ran ghosts takes breaks set more to new
    serve : CallsServe ghosts takes breaks set disks front old to ran
    slot : ℕ
    small : slot < 64
    name : List ℕ
    named : NamedData
    id_is : named.id ≡ wanted.id
    print_is : named.print ≡ wanted.print
    reaches : wanted.reach ≤ named.size
    holds : HoldsData ghosts takes breaks set unseen claims [] slot small name named old
    along : Along ghosts takes breaks set unseen claims [] slot small name named front old to ran

  named_in : EachStepKeepsData ghosts takes breaks → RanKeepsHistory ghosts takes breaks → (log : Log) (old new : Store D T)
      → (x : Holds ghosts takes breaks set unseen claims [] old) (ran : Ran ghosts takes breaks set log old new) (disks : ℕ) (wanted : Wanted) (front more : Log)
      → CallsServe ghosts takes breaks set disks log old new ran → log ≡ front ++ more → (r : ReadsData wanted front)
      → NamedIn disks wanted (r.before ++ Turned r.slot (Some r.note) r.shown ∷ r.after) log old new
  named_in step_law history log old new x ran disks wanted front more serve is r =
      let whole : log ≡ (r.before ++ Turned r.slot (Some r.note) r.shown ∷ r.after) ++ more = is ∙ ap (λ (l : Log). l ++ more) r.parts in
      let both = subst (λ (l : Log). (x : Ran ghosts takes breaks set l old new) × CallsServe ghosts takes breaks set disks l old new x) whole (ran, serve) in
      from whole (part_at ghosts takes breaks set disks (r.before ++ Turned r.slot (Some r.note) r.shown ∷ r.after) more old new both.0 both.1)
    where
      -- its slot is one of 64
      in_store : (to : Store D T) (led : Ran ghosts takes breaks set (r.before ++ Turned r.slot (Some r.note) r.shown ∷ r.after) old to)
          → CallsServe ghosts takes breaks set disks (r.before ++ Turned r.slot (Some r.note) r.shown ∷ r.after) old to led → r.slot < 64
      in_store to led serves =
          let y = part_at ghosts takes breaks set disks r.before (Turned r.slot (Some r.note) r.shown ∷ r.after) old to led serves in
          let count = (history set r.before old y.mid x.order y.led).0.count in
          let inside = y.leads_on.1.is.0 in
          omega (arith, inside, count)

      from : log ≡ (r.before ++ Turned r.slot (Some r.note) r.shown ∷ r.after) ++ more → Parted ghosts takes breaks set disks (r.before ++ Turned r.slot (Some r.note) r.shown ∷ r.after) more old new
          → NamedIn disks wanted (r.before ++ Turned r.slot (Some r.note) r.shown ∷ r.after) log old new
      from whole y =
          let small = in_store y.mid y.led y.serve in
          let object = data_found wanted r.entry r.finds in
          let along = along_back ghosts takes breaks set unseen claims [] r.slot small r.entry.name object.named r.before (Turned r.slot (Some r.note) r.shown ∷ r.after) old y.mid y.led r.idle x
          (λ mid last z. along_section ghosts takes breaks set unseen claims [] r.slot small r.entry.name object.named
          (Turned r.slot (Some r.note) r.shown) r.after mid y.mid last z
          (found_leaves r.slot r.note r.shown r.entry wanted r.finds r.entry_is) r.still
          (λ to moves. found_names r.slot r.note r.shown r.entry (z.at r.slot) to wanted r.finds object r.entry_is moves)) in
          record {
            more = more;
            whole = whole;
            to = y.mid;
            ran = y.led;
            leads_on = y.leads_on;
            serve = y.serve;
            slot = r.slot;
            small = small;
            name = r.entry.name;
            named = object.named;
            id_is = object.id_is;
            print_is = object.print_is;
            reaches = object.reaches;
            holds = record { holds = x; names = along.0 };
            along = along.1;
          }

  -- a drive that showed another manifest than is held
  module _ (disks : ℕ) (wanted : Wanted) (front log : Log) (old new : Store D T) (b : NamedIn disks wanted front log old new)
      (in_use : (k : ℕ) → k < set.drives → IsBitSet disks k → IsInUse set k)
      (enough : set.drives + data_drives set.drives set.parity ≤ count_in disks set.drives + write_drives set.drives set.parity)
      (h : Held ghosts takes breaks set unseen claims [] b.slot b.small b.name b.named disks wanted b.id_is b.print_is b.reaches in_use enough old b.holds) where
    abbrev Moment : ℕ → MadeCall → Type 0
    Moment k made = ReadMoment ghosts takes breaks set unseen claims [] b.slot b.small b.name b.named h.m h.canonical disks old.disks h.some front old b.to k made

    -- at its moment no drive keeps another
    kept_is_held : (k : ℕ) (made : MadeCall) (moment : Moment k made) → (IsBitSet set.out k → ⊥) → k < set.drives → (file : List ℕ)
        → (view_at moment.x.before.disks k).files.kept (manifest_name wanted.id) ≡ Some file → file ≡ file_of h.m
    kept_is_held k made moment used inside file kept =
        let at = stands_in ghosts takes breaks set unseen claims [] b.slot b.small b.name b.named moment.x.before moment.holds in
        let disks_then = moment.x.before.disks in
        let count = at.tell.count in
        let own : (j : ℕ) (bytes : List ℕ) → j < set.drives → (IsBitSet set.out j → ⊥) → (view_at disks_then j).files.kept (manifest_name b.named.id) ≡ Some bytes
        → bytes ≡ file_of at.holders.manifest =
        λ j bytes low free is. at.holders.alike j bytes low
        (ap (λ files. files (manifest_name b.named.id)) (counted_in_use unseen set.out disks_then j (omega (arith, count, low)) free) ∙ is) in
        own k file inside used (subst (λ (v : VersionId). (view_at disks_then k).files.kept (manifest_name v) ≡ Some file) (sym b.id_is) kept)
        ∙ sym (own h.some.drive (file_of h.m) h.some.within h.some.in_use
        (moment.keeps.manifests h.some.drive b.named.id (file_of h.m) h.some.within h.some.in_use (inl refl) h.some.kept))

    another : (m : Manifest) → Serves set wanted m → (m ≡ h.m → ⊥) → IsClash (text_under m) (text_under h.m) ⊎ NamesOther m h.m → (drive : ℕ)
        (made : MadeCall) → Tells made (Showed (manifest_name wanted.id) 0 (file_of m)) → Moment drive made → ShowsAnother ghosts takes breaks set disks wanted log old new
    another m serves apart how drive made tells moment =
        let at = stands_in ghosts takes breaks set unseen claims [] b.slot b.small b.name b.named moment.x.before moment.holds in
        let moves = moment.x.step.moves in
        let within = moves.within in
        let count = at.tell.count in
        let inside : drive < set.drives = omega (arith, within, count) in
        let used = moves.in_use in
        let unkept : (file : List ℕ) → (view_at moment.x.before.disks drive).files.kept (manifest_name wanted.id) ≡ Some file → file_of m ≢ take (length (file_of m)) file =
        λ file kept begins. apart (first_file m h.m serves.canonical h.canonical
        (begins ∙ ap (take (length (file_of m))) (kept_is_held drive made moment used inside file kept))) in
        record {
          drive = drive;
          within = inside;
          is_other = λ bit.
              let shows = (moment.serves bit).shows (manifest_name wanted.id) (wanted.id, inl refl) in
              let so = calls_tell_what_was_so made (Showed (manifest_name wanted.id) 0 (file_of m)) (view_at moment.x.before.disks drive)
              (view_at moment.x.after.disks drive) moves.was_made tells in
              let piece = so.2 (at.tell.tell drive inside used) in
              unkept piece.0 (sym shows ∙ piece.1) piece.2;
          shown = m;
          serves = serves;
          made = made;
          tells = tells;
          called = in_whole ghosts takes breaks set log [] front b.more old old b.to new (Called drive made) b.whole refl b.leads_on moment.x;
          unkept = unkept;
          holder = h.some.drive;
          is_of_set = h.bit;
          held = h.m;
          held_serves = h.serves;
          kept = subst (λ (v : VersionId). (view_at moment.x.before.disks h.some.drive).files.kept (manifest_name v) ≡ Some (file_of h.m)) b.id_is
              (moment.keeps.manifests h.some.drive b.named.id (file_of h.m) h.some.within h.some.in_use (inl refl) h.some.kept);
          differ = how;
        }

    moment_at : (k : ℕ) (made : MadeCall) → Contains front (Called k made) → Moment k made
    moment_at k made there = at_call ghosts takes breaks set unseen claims [] b.slot b.small b.name b.named disks wanted b.id_is b.print_is b.reaches in_use enough old
        b.holds h front b.to b.ran b.serve b.along k made there

    -- too few blocks
    blocked : (next : ℕ) (whys : List Why) → FewBlocks set wanted next whys front → ShowsAnother ghosts takes breaks set disks wanted log old new
    blocked next whys few = elim (same_or_other (text_under few.manifest) (text_under h.m)) [
      | inl same ↦ (
          let cuts : map cut_of few.manifest.parts ≡ map cut_of h.m.parts = (tells_parts few.manifest h.m few.serves.canonical h.canonical same).2 in
          let own : slice_get (map cut_of few.manifest.parts) few.number ≡ Some (cut_of few.part) =
          slice_get-map cut_of few.manifest.parts few.number ∙ ap (option_map cut_of) few.next_in.is in
          let held : option_map cut_of (slice_get h.m.parts few.number) ≡ Some (cut_of few.part) =
          sym (slice_get-map cut_of h.m.parts few.number) ∙ (ap (λ (l : List Cut). slice_get l few.number) (sym cuts) ∙ own) in
          by_part same (part_there h.m.parts few.number (cut_of few.part) held))
      | inr apart ↦
          let differ = other_is_other (text_under few.manifest) (text_under h.m) apart in
          another few.manifest few.serves (λ same. differ (ap text_under same)) (inl (record {
            read_bytes = texts_are_bytes few.manifest few.serves.canonical;
            other_bytes = texts_are_bytes h.m h.canonical;
            differ = differ;
            same = sym few.serves.printed ∙ h.serves.printed;
          })) few.drive shown.made shown.tells (moment_at few.drive shown.made shown.called)
    ]
      where
        shown : Saw front few.drive (Showed (manifest_name wanted.id) 0 (file_of few.manifest))
        shown = saw_in few.is_since.before front (λ event there. subst (λ (l : Log). Contains l event) (sym few.is_since.parts)
            (Contains-append_left few.is_since.before few.since event there)) few.drive (Showed (manifest_name wanted.id) 0 (file_of few.manifest)) few.is_since.showed

        by_part : text_under few.manifest ≡ text_under h.m → PartThere h.m.parts few.number (cut_of few.part)
            → ShowsAnother ghosts takes breaks set disks wanted log old new
        by_part same x =
            let there : Contains h.m.parts x.part = (
              few.number,
              slice_get_within h.m.parts few.number x.part x.is,
              get_or_from_slice_get h.m.parts few.number x.part x.part x.is,
            ) in
            let differ : few.part.id ≢ x.part.id = λ same_id.
            given ghosts takes breaks set unseen claims [] b.slot b.small b.name b.named disks wanted b.id_is b.print_is b.reaches in_use enough old b.holds h front b.to b.ran
            b.serve b.along next whys few x.part there same_id
            (sym (ap (λ (c : Cut). c.0) x.cut_is)) (sym (ap (λ (c : Cut). c.1) x.cut_is)) in
            another few.manifest few.serves (λ equal. differ (same_part few.manifest h.m few.number few.part x.part equal few.next_in.is x.is)) (inr (record {
              text = same;
              number = few.number;
              part = few.part;
              other = x.part;
              part_is = few.next_in.is;
              other_is = x.is;
              differ = differ;
            })) few.drive shown.made shown.tells (moment_at few.drive shown.made shown.called)

  -- over the part that a read is
  part_goes_on : ManifestsAreNoLonger LONGEST_FILE → (disks : ℕ) (wanted : Wanted) (front log : Log) (old new : Store D T)
      → ((k : ℕ) → k < set.drives → IsBitSet disks k → IsInUse set k)
      → set.drives + data_drives set.drives set.parity ≤ count_in disks set.drives + write_drives set.drives set.parity → NamedIn disks wanted front log old new
      → ReadGoesOn ghosts takes breaks set disks wanted front log old new
  part_goes_on lengths disks wanted front log old new in_use enough b =
      let h = held_there ghosts takes breaks set unseen claims [] b.slot b.small b.name b.named disks wanted b.id_is b.print_is b.reaches in_use enough old b.holds in
      record {
        manifests = served ghosts takes breaks set unseen claims [] b.slot b.small b.name b.named disks wanted b.id_is b.print_is b.reaches in_use enough old b.holds h
            front b.to b.ran b.serve b.along lengths;
        blocks = blocked disks wanted front log old new b in_use enough h;
      }

  pub read_goes_on : EachStepKeepsData ghosts takes breaks → RanKeepsHistory ghosts takes breaks → ManifestsAreNoLonger LONGEST_FILE → (log : Log) (old new : Store D T)
      (at : ℕ → Standing) → AreInOrder set old.slots old.disks → old.claim.slot < 64 → AllHold ghosts.tells ghosts.files unseen old claims [] at
      → (ran : Ran ghosts takes breaks set log old new) (disks : ℕ) (wanted : Wanted) (front more : Log) → EnoughServe ghosts takes breaks set disks wanted log old new ran
      → log ≡ front ++ more → ReadsData wanted front → ReadGoesOn ghosts takes breaks set disks wanted front log old new
  read_goes_on step_law history lengths log old new at order low held ran disks wanted front more s is r =
      subst (λ (l : Log). ReadGoesOn ghosts takes breaks set disks wanted l log old new) (sym r.parts)
      (part_goes_on lengths disks wanted (r.before ++ Turned r.slot (Some r.note) r.shown ∷ r.after) log old new s.in_use s.enough
      (named_in step_law history log old new (record { order = order; low = low; at = at; held = held }) ran disks wanted front more s.serve is r))
