-- What is planned of a deed.
use Rattle.std.proofs.Common.{◌≡◌, ◌≢◌, ◌≤◌, ◌∙◌, ℕ, List, [], ◌∷◌, ◌++◌, Option, None, Some, Result, Ok, Err, length, take, drop, append_assoc, length-append, ◌+◌, ap, subst, sym, refl, arith}
use Rattle.std.specs.Prelude.{MatchOption, IfSome, unwrap_or}
use Rattle.std.specs.List.{flat_map}
use Rattle.std.specs.Result.{IfOk}
use Rattle.std.proofs.lemmas.List.{append-nil}
use Rattle.std.proofs.Math.Seq.{take-append_seam, drop-append_seam}
use Rattle.stamp_id.specs.VersionId.{id_bytes}
use Rattle.stamp_id.specs.declared.stamp.ChangeId.{ChangeId}
use Rattle.stamp_id.specs.declared.version.VersionId.{VersionId}
use Rattle.stamp_id.proofs.IdLemmas.{length-id_bytes}
use Rattle.call_types.specs.Refusals.{refusal_of}
use Rattle.call_types.specs.declared.act.Act.{Act}
use Rattle.call_types.specs.declared.act.Brief.{Brief}
use Rattle.call_types.specs.declared.act.Brief.TheVariants.{Answer}
use Rattle.call_types.specs.declared.act.Brief.TheVariants as brief
use Rattle.call_types.specs.declared.names.Key.{Key as KeyName}
use Rattle.call_types.specs.declared.names.Mode.{Mode}
use Rattle.call_types.specs.declared.refusal.KeyRefusal.{KeyRefusal}
use Rattle.call_types.specs.declared.reply.Reply.{Reply}
use Rattle.call_types.specs.declared.reply.Reply.TheVariants.{Refused}
use Rattle.bucket_book.specs.Content.{content_of as bucket_content}
use Rattle.bucket_book.specs.Laws.{ContentIsInjective}
use Rattle.bucket_book.specs.Step.{Serves as ServesBucket, Step as BucketSteps, after_change}
use Rattle.bucket_book.specs.Table.{IsCanonical as IsCanonicalRecord}
use Rattle.bucket_book.specs.declared.record.BucketRecord.{BucketRecord}
use Rattle.bucket_book.specs.declared.step.BucketAct.{BucketAct}
use Rattle.bucket_book.specs.declared.step.BucketAct.TheVariants as bucket
use Rattle.bucket_book.specs.declared.step.BucketStep.{BucketStep}
use Rattle.version_list.specs.Answers.{IsDone, Serves, state_after}
use Rattle.version_list.specs.Gone.{gone_ids}
use Rattle.version_list.specs.Laws.{SpellingIsInjective}
use Rattle.version_list.specs.Spelling.{spelling}
use Rattle.version_list.specs.State.{IsCanonical}
use Rattle.version_list.specs.Step.{Step}
use Rattle.version_list.specs.declared.outcome.Applied.{Applied}
use Rattle.version_list.specs.declared.state.KeyState.{KeyState}
use Rattle.version_list.proofs.GoneLemmas.{gone_bytes-same}
use Rattle.slot_history.specs.Contents.{SpellsBucket, SpellsKey}
use Rattle.slot_history.specs.Doing.{DoesBucket}
use Rattle.slot_history.specs.Names.{bucket_name, key_name}
use Rattle.slot_history.specs.State.{IsHeld, Registers}
use Rattle.slot_rules.specs.Deeds.{call_of}
use Rattle.slot_rules.specs.Planning.{Applies, DoesOver, IsBucketDeed, IsGoneBy, IsPlanned}
use Rattle.slot_rules.specs.declared.commit.Commit.{Commit}
use Rattle.slot_rules.specs.declared.commit.Commit.TheVariants.{Key, Part, MakeBucket, SetMode}
use Rattle.slot_rules.specs.declared.planning.Planned.{Planned}
use Rattle.slot_rules.specs.declared.rules.TheConstants.{BUCKET_BYTES, KEY_BYTES}
use Rattle.slot_rules.proofs.SizeLemmas.{bucket_short, key_short}

-- ---- ids from bytes

-- the first 16 bytes of ids are those of the first, and the others are those of the others
first_piece : (id : VersionId) (ids : List VersionId) → take 16 (flat_map id_bytes (id ∷ ids)) ≡ id_bytes id
first_piece id ids = ap (λ (n : ℕ). take n (flat_map id_bytes (id ∷ ids))) (sym (length-id_bytes id)) ∙ take-append_seam (id_bytes id) (flat_map id_bytes ids)

other_pieces : (id : VersionId) (ids : List VersionId) → drop 16 (flat_map id_bytes (id ∷ ids)) ≡ flat_map id_bytes ids
other_pieces id ids = ap (λ (n : ℕ). drop n (flat_map id_bytes (id ∷ ids))) (sym (length-id_bytes id)) ∙ drop-append_seam (id_bytes id) (flat_map id_bytes ids)

-- some ids were read, and these bytes are those of the others
abbrev pub ReadSoFar : List VersionId → List VersionId → List ℕ → Type 0
ReadSoFar ids done left = (rest : List VersionId) × (ids ≡ done ++ rest) × (left ≡ flat_map id_bytes rest)

-- the first bytes are those of an id
pub piece_is : (ids done : List VersionId) (left piece : List ℕ) → 16 ≤ length left → piece ≡ take 16 left → ReadSoFar ids done left
    → (id : VersionId) × (piece ≡ id_bytes id) × ReadSoFar ids (done ++ id ∷ []) (drop 16 left)
piece_is ids done left piece long is so = by so.0 so.1 so.2
  where
    by : (rest : List VersionId) → ids ≡ done ++ rest → left ≡ flat_map id_bytes rest
        → (id : VersionId) × (piece ≡ id_bytes id) × ReadSoFar ids (done ++ id ∷ []) (drop 16 left)
    by [] all none = let no : ⊥ = omega (arith, ap length none) in absurd no
    by (id ∷ rest) all these = (
      id,
      is ∙ ap (take 16) these ∙ first_piece id rest,
      (rest, all ∙ sym (append_assoc done (id ∷ []) rest), ap (drop 16) these ∙ other_pieces id rest),
    )

-- once no whole id is left, all were read
pub all_read : (ids done : List VersionId) (left : List ℕ) → (16 ≤ length left → ⊥) → ReadSoFar ids done left → done ≡ ids
all_read ids done left few so = by so.0 so.1 so.2
  where
    by : (rest : List VersionId) → ids ≡ done ++ rest → left ≡ flat_map id_bytes rest → done ≡ ids
    by [] all none = sym (all ∙ append-nil done)
    by (id ∷ rest) all these =
        let long : length (id_bytes id) ≤ length left = subst (λ (l : List ℕ). length (id_bytes id) ≤ length l) (sym these) (first_long (id_bytes id) (flat_map id_bytes rest)) in
        let sixteen = length-id_bytes id in
        absurd (few (omega arith))
      where
        first_long : (x y : List ℕ) → length x ≤ length (x ++ y)
        first_long [] y = omega arith
        first_long (b ∷ x) y = let rest = first_long x y in omega arith

-- no id has bytes but one
pub no_ids : (ids : List VersionId) → flat_map id_bytes ids ≡ [] → ids ≡ []
no_ids [] none = refl
no_ids (id ∷ ids) none = absurd (let long = length-id_bytes id in let no = ap length none in
    let more : length (flat_map id_bytes (id ∷ ids)) ≡ length (id_bytes id) + length (flat_map id_bytes ids) = length-append (id_bytes id) (flat_map id_bytes ids) in omega arith)

-- a key whose versions stay has nothing that is gone
pub none_gone : (state : KeyState) → gone_ids state.versions state.versions ≡ []
none_gone state = no_ids (gone_ids state.versions state.versions) (gone_bytes-same state.versions)

-- what a step that is done is answered
pub done_answers : (Due : Reply → KeyState → Type 0) (told : Brief) (new : KeyState) → IsDone Due told new → (reply : Reply) × (told ≡ Answer reply)
done_answers Due (brief.Read at mode pick) new done = absurd done
done_answers Due (brief.Gather at upload parts) new done = absurd done
done_answers Due (brief.Change at mode made change now) new done = absurd done
done_answers Due (brief.Part at upload number part change now) new done = absurd done
done_answers Due (brief.MakeBucket name change now) new done = absurd done
done_answers Due (brief.SetMode name mode change now) new done = absurd done
done_answers Due (Answer reply) new done = (reply, refl)

-- what is so of a result is so in other words
pub if_ok : {T E : Type 0} (P Q : T → Type 0) (result : Result T E) → ((x : T) → P x → Q x) → IfOk result P → IfOk result Q
if_ok P Q (Ok x) words is = words x is
if_ok P Q (Err e) words is = tt

-- ---- keys

module _ (at : KeyName) (mode : Mode) (done : Act) (id : VersionId) (now : ℕ) (state : KeyState) (content : List ℕ) (spells : SpellsKey content state) where
  -- the content that a state has
  spells_other : (bytes : List ℕ) → bytes ≡ content → SpellsKey bytes state
  spells_other bytes same = record { canonical = spells.canonical; is = same ∙ spells.is }

  -- an act does this
  does_so : (reply : Reply) (new : List ℕ) (after : KeyState) → SpellsKey new after → Step state mode done id now reply after → (change : Option ChangeId)
      → DoesOver (key_name at) content (call_of (Key at mode done) change now) id reply new
  does_so reply new after spelled step change registers is held = record {
    name_is = refl;
    old_state = state;
    spells_old = spells_other (registers (key_name at)).content is;
    new_state = after;
    spells_new = spelled;
    step = step;
  }

  -- the data that is gone
  gone_so : SpellingIsInjective → (new : List ℕ) (after : KeyState) (gone : List VersionId) → SpellsKey new after → gone ≡ gone_ids state.versions after.versions
      → IsGoneBy (Key at mode done) content new gone
  gone_so one new after gone spelled is before later first second =
      let same : before ≡ state = one before state first.canonical spells.canonical (sym first.is ∙ spells.is) in
      let other : later ≡ after = one later after second.canonical spelled.canonical (sym second.is ∙ spelled.is) in
      is ∙ (ap (λ (k : KeyState). gone_ids k.versions after.versions) (sym same) ∙ ap (λ (k : KeyState). gone_ids before.versions k.versions) (sym other))

  -- a refusal is planned
  pub refused_planned : SpellingIsInjective → (why : KeyRefusal) (planned : Planned) → Step state mode done id now (Refused (refusal_of why)) state
      → planned.reply ≡ Refused (refusal_of why) → planned.refused ≡ Some why → planned.content ≡ None → planned.gone.items ≡ []
      → IsPlanned (Key at mode done) now id content planned
  refused_planned one why planned step reply refused none gone =
      let stays : unwrap_or planned.content content ≡ content = ap (λ (o : Option (List ℕ)). unwrap_or o content) none in
      record {
        does = λ change. subst (λ (r : Reply). DoesOver (key_name at) content (call_of (Key at mode done) change now) id r (unwrap_or planned.content content)) (sym reply)
            (does_so (Refused (refusal_of why)) (unwrap_or planned.content content) state (spells_other (unwrap_or planned.content content) stays) step change);
        changed = subst (λ (o : Option (List ℕ)). IfSome o (λ new. new ≢ content)) (sym none) tt;
        short = subst (λ (o : Option (List ℕ)). IfSome o (λ new. length new ≤ KEY_BYTES)) (sym none) tt;
        refused = subst (λ (o : Option KeyRefusal). IfSome o (λ w. (planned.reply ≡ Refused (refusal_of w)) × (planned.content ≡ None))) (sym refused) (reply, none);
        gone = gone_so one (unwrap_or planned.content content) state planned.gone.items (spells_other (unwrap_or planned.content content) stays)
            (gone ∙ sym (none_gone state));
        none_gone = λ is. gone;
      }

  module _ (one : SpellingIsInjective) (applied : Applied) (planned : Planned) (a : Applies applied planned) (s : Serves (Step state mode done id now) state applied)
      (canonical : IfSome applied.state IsCanonical) where
    -- the state that the planned content spells
    spells_after : (o : Option KeyState) → applied.state ≡ o → SpellsKey (unwrap_or planned.content content) (state_after state applied)
    spells_after None is =
        let none : planned.content ≡ None =
        subst (λ (o : Option KeyState). MatchOption o (planned.content ≡ None) (λ new. planned.content ≡ Some (spelling new))) is a.content in
        subst (λ (k : KeyState). SpellsKey (unwrap_or planned.content content) k) (sym (ap (λ (o : Option KeyState). unwrap_or o state) is))
        (spells_other (unwrap_or planned.content content) (ap (λ (o : Option (List ℕ)). unwrap_or o content) none))
    spells_after (Some new) is =
        let some : planned.content ≡ Some (spelling new) =
        subst (λ (o : Option KeyState). MatchOption o (planned.content ≡ None) (λ k. planned.content ≡ Some (spelling k))) is a.content in
        subst (λ (k : KeyState). SpellsKey (unwrap_or planned.content content) k) (sym (ap (λ (o : Option KeyState). unwrap_or o state) is))
        (record {
          canonical = subst (λ (o : Option KeyState). IfSome o IsCanonical) is canonical;
          is = ap (λ (o : Option (List ℕ)). unwrap_or o content) some;
        })

    -- a content is planned where the state is another one
    other_content : (o : Option KeyState) → applied.state ≡ o → IfSome planned.content (λ new. new ≢ content)
    other_content None is =
        let none : planned.content ≡ None =
        subst (λ (o : Option KeyState). MatchOption o (planned.content ≡ None) (λ new. planned.content ≡ Some (spelling new))) is a.content in
        subst (λ (o : Option (List ℕ)). IfSome o (λ new. new ≢ content)) (sym none) tt
    other_content (Some new) is =
        let some : planned.content ≡ Some (spelling new) =
        subst (λ (o : Option KeyState). MatchOption o (planned.content ≡ None) (λ k. planned.content ≡ Some (spelling k))) is a.content in
        let other : new ≢ state = subst (λ (o : Option KeyState). IfSome o (λ k. k ≢ state)) is s.changed in
        let good : IsCanonical new = subst (λ (o : Option KeyState). IfSome o IsCanonical) is canonical in
        subst (λ (o : Option (List ℕ)). IfSome o (λ bytes. bytes ≢ content)) (sym some)
        (λ same. other (one new state good spells.canonical (same ∙ spells.is)))

    -- and it isn't too long
    short_content : (o : Option KeyState) → applied.state ≡ o → IfSome planned.content (λ new. length new ≤ KEY_BYTES)
    short_content None is =
        let none : planned.content ≡ None =
        subst (λ (o : Option KeyState). MatchOption o (planned.content ≡ None) (λ new. planned.content ≡ Some (spelling new))) is a.content in
        subst (λ (o : Option (List ℕ)). IfSome o (λ new. length new ≤ KEY_BYTES)) (sym none) tt
    short_content (Some new) is =
        let some : planned.content ≡ Some (spelling new) =
        subst (λ (o : Option KeyState). MatchOption o (planned.content ≡ None) (λ k. planned.content ≡ Some (spelling k))) is a.content in
        let good : IsCanonical new = subst (λ (o : Option KeyState). IfSome o IsCanonical) is canonical in
        subst (λ (o : Option (List ℕ)). IfSome o (λ bytes. length bytes ≤ KEY_BYTES)) (sym some) (key_short new good)

    -- where none is planned nothing is gone
    none_planned : (o : Option KeyState) → applied.state ≡ o → planned.content ≡ None → planned.gone.items ≡ []
    none_planned None is none =
        let same : state_after state applied ≡ state = ap (λ (o : Option KeyState). unwrap_or o state) is in
        a.gone (gone_ids state.versions (state_after state applied).versions) s.gone
        ∙ (ap (λ (k : KeyState). gone_ids state.versions k.versions) same ∙ none_gone state)
    none_planned (Some new) is none =
        let some : planned.content ≡ Some (spelling new) =
        subst (λ (o : Option KeyState). MatchOption o (planned.content ≡ None) (λ k. planned.content ≡ Some (spelling k))) is a.content in
        absurd (let clash : None ≡ Some (spelling new) = sym none ∙ some in cc)

    -- what is done is planned
    pub applied_planned : IsPlanned (Key at mode done) now id content planned
    applied_planned =
        let step = subst (λ (b : Brief). IsDone (Step state mode done id now) b (state_after state applied)) a.reply s.done in
        let spelled = spells_after applied.state refl in
        record {
          does = does_so planned.reply (unwrap_or planned.content content) (state_after state applied) spelled step.1;
          changed = other_content applied.state refl;
          short = short_content applied.state refl;
          refused = subst (λ (o : Option KeyRefusal). IfSome o (λ w. (planned.reply ≡ Refused (refusal_of w)) × (planned.content ≡ None))) (sym a.none) tt;
          gone = gone_so one (unwrap_or planned.content content) (state_after state applied) planned.gone.items spelled
              (a.gone (gone_ids state.versions (state_after state applied).versions) s.gone);
          none_gone = none_planned applied.state refl;
        }

-- ---- buckets

module _ (done : BucketAct) (now : ℕ) (row : Option BucketRecord) (content : List ℕ) (spells : SpellsBucket content row) (one : ContentIsInjective)
    (step : BucketStep) (planned : Planned) (s : ServesBucket row done now step) (canonical : IfSome step.changed IsCanonicalRecord)
    (spelled : MatchOption step.changed (planned.content ≡ None) (λ there. planned.content ≡ Some (bucket_content (Some there))))
    (reply : planned.reply ≡ step.reply) (none : planned.refused ≡ None) (gone : planned.gone.items ≡ []) where
  none_changed : step.changed ≡ None → planned.content ≡ None
  none_changed is = subst (λ (o : Option BucketRecord). MatchOption o (planned.content ≡ None) (λ there. planned.content ≡ Some (bucket_content (Some there)))) is spelled

  some_changed : (there : BucketRecord) → step.changed ≡ Some there → planned.content ≡ Some (bucket_content (Some there))
  some_changed there is =
      subst (λ (o : Option BucketRecord). MatchOption o (planned.content ≡ None) (λ x. planned.content ≡ Some (bucket_content (Some x)))) is spelled

  -- the record that the planned content spells
  row_after : (o : Option BucketRecord) → step.changed ≡ o → SpellsBucket (unwrap_or planned.content content) (after_change row step.changed)
  row_after None is =
      subst (λ (r : Option BucketRecord). SpellsBucket (unwrap_or planned.content content) r) (sym (ap (after_change row) is))
      (record { canonical = spells.canonical; is = ap (λ (c : Option (List ℕ)). unwrap_or c content) (none_changed is) ∙ spells.is })
  row_after (Some there) is =
      subst (λ (r : Option BucketRecord). SpellsBucket (unwrap_or planned.content content) r) (sym (ap (after_change row) is))
      (record {
        canonical = subst (λ (o : Option BucketRecord). IfSome o IsCanonicalRecord) is canonical;
        is = ap (λ (c : Option (List ℕ)). unwrap_or c content) (some_changed there is);
      })

  other_row : (o : Option BucketRecord) → step.changed ≡ o → IfSome planned.content (λ new. new ≢ content)
  other_row None is = subst (λ (o : Option (List ℕ)). IfSome o (λ new. new ≢ content)) (sym (none_changed is)) tt
  other_row (Some there) is =
      let other : Some there ≢ row = subst (λ (o : Option BucketRecord). IfSome o (λ x. Some x ≢ row)) is s.changed in
      let good : IsCanonicalRecord there = subst (λ (o : Option BucketRecord). IfSome o IsCanonicalRecord) is canonical in
      subst (λ (o : Option (List ℕ)). IfSome o (λ new. new ≢ content)) (sym (some_changed there is))
      (λ same. other (one (Some there) row good spells.canonical (same ∙ spells.is)))

  short_row : (o : Option BucketRecord) → step.changed ≡ o → IfSome planned.content (λ new. length new ≤ BUCKET_BYTES)
  short_row None is = subst (λ (o : Option (List ℕ)). IfSome o (λ new. length new ≤ BUCKET_BYTES)) (sym (none_changed is)) tt
  short_row (Some there) is = subst (λ (o : Option (List ℕ)). IfSome o (λ new. length new ≤ BUCKET_BYTES)) (sym (some_changed there is))
      (bucket_short (bucket_content (Some there)) (Some there) refl)

  does_row : (bucket : List ℕ) (made : BucketAct) → done ≡ made → (registers : Registers) → (registers (bucket_name bucket)).content ≡ content
      → IsHeld registers (bucket_name bucket) → DoesBucket registers (bucket_name bucket) bucket made now planned.reply (unwrap_or planned.content content)
  does_row bucket made same registers is held = record {
    name_is = refl;
    old_row = row;
    spells_old = record { canonical = spells.canonical; is = is ∙ spells.is };
    new_row = after_change row step.changed;
    spells_new = row_after step.changed refl;
    step = subst (λ (r : Reply). BucketSteps row made now r (after_change row step.changed)) (sym reply)
        (subst (λ (a : BucketAct). BucketSteps row a now step.reply (after_change row step.changed)) same s.due);
  }

  not_refused : IfSome planned.refused (λ why. (planned.reply ≡ Refused (refusal_of why)) × (planned.content ≡ None))
  not_refused = subst (λ (o : Option KeyRefusal). IfSome o (λ why. (planned.reply ≡ Refused (refusal_of why)) × (planned.content ≡ None))) (sym none) tt

  -- what is done to a bucket is planned
  pub bucket_planned : (deed : Commit) (id : VersionId) → IsBucketDeed deed done → IsPlanned deed now id content planned
  bucket_planned (Key at mode made) id is = absurd is
  bucket_planned (Part at upload number part) id is = absurd is
  bucket_planned (MakeBucket name) id is = record {
    does = λ change. does_row name bucket.Make is;
    changed = other_row step.changed refl;
    short = short_row step.changed refl;
    refused = not_refused;
    gone = gone;
    none_gone = λ same. gone;
  }
  bucket_planned (SetMode name mode) id is = record {
    does = λ change. does_row name (bucket.SetMode mode) is;
    changed = other_row step.changed refl;
    short = short_row step.changed refl;
    refused = not_refused;
    gone = gone;
    none_gone = λ same. gone;
  }
