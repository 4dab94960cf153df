-- What the asking of a desk comes to where its call was cut.
use Rattle.std.proofs.Common.{zero, suc, ◌≡◌, ◌⊎◌, inl, inr, ◌≤◌, ◌<◌, ◌+◌, nat_lt, ℕ, Bool, true, List, [], ◌∷◌, ◌++◌, length, take, refl, sym, ap, ◌∙◌, subst, arith, append_assoc, append-nil}
use Rattle.std.proofs.Math.Seq.{take-append-add}
use Rattle.std.proofs.lemmas.Bool.{lt-ltb}
use Rattle.std.proofs.lemmas.Grind.{flat_map-append}
use Rattle.std.specs.List.{concat}
use Rattle.std.specs.Prelude.{Result, Ok, Err}
use Rattle.fault_base.specs.Counts.{Rose}
use Rattle.http_wire.specs.Answers.{Wired}
use Rattle.http_wire.specs.Taking.{SourceView}
use Rattle.call_types.specs.Feeds.{Gave}
use Rattle.call_types.specs.declared.feed.Cut.{Cut}
use Rattle.call_types.specs.declared.feed.Cut.TheVariants.{ReadFault, BodyCut, WriteFault, ShardCut, NoMemory}
use Rattle.call_types.specs.declared.reply.Reply.{Reply}
use Rattle.call_types.specs.declared.reply.Reply.TheVariants as reply
use Rattle.desk_base.specs.Answering.{CallTells, CutCause, Task, WasTold, bytes_after, given_of}
use Rattle.desk_base.specs.Calls.{stated_length}
use Rattle.desk_base.specs.Telling.{Telling, TellsAll}
use Rattle.desk_base.specs.declared.call.Call.{Call}
use Rattle.desk_base.specs.declared.call.Call.TheVariants as call
use Rattle.serve_loop.specs.Deeds.{wires, IsCutBy, IsFront, IsServed}
use Rattle.serve_loop.specs.Intakes.{feed_of, unread_of}
use Rattle.serve_loop.specs.Sending.{Sent, SinkView}
use Rattle.serve_loop.specs.Session.{CountsSo}
use Rattle.serve_loop.specs.Replies.{BreaksText, Replying, TakesText, Told, tale_in, text_in}
use Rattle.serve_loop.specs.Turns.{AskCutSo, AskGoes, Asking, AsksShort, BreaksOff, Finishes, asking_text, end_for}
use Rattle.serve_loop.proofs.AskLemmas.{asked_done, served_so, silent_so, taken_long, told_text}
use Rattle.serve_loop.proofs.IntakeLemmas.{taken_of}
use Rattle.serve_loop.proofs.MovedLemmas.{moved_of}
use Rattle.serve_loop.proofs.RestLemmas.{front_all}
use Rattle.serve_loop.proofs.SentLemmas.{sent_both}
use Rattle.serve_loop.proofs.TellingLemmas.{broken, taken, takes_all}

-- the result of a call that was cut
abbrev pub failed : (R : Type 0) → Cut → Result R Cut
failed R why = Err why

-- a call that takes a body is followed by none
no_body : (n m : ℕ) (call : Call) → n < given_of call m → stated_length call ≡ 0
no_body n m call.ListBuckets less = refl
no_body n m (call.CreateBucket bucket) less = refl
no_body n m (call.HeadBucket bucket) less = refl
no_body n m (call.GetVersioning bucket) less = refl
no_body n m (call.PutVersioning bucket long) less = absurd (omega (arith, less))
no_body n m (call.Put at kind md5 long) less = absurd (omega (arith, less))
no_body n m (call.Get at pick ask matches) less = refl
no_body n m (call.Head at pick matches) less = refl
no_body n m (call.Delete at pick) less = refl
no_body n m (call.List2 bucket page) less = refl
no_body n m (call.ListVersions bucket page) less = refl
no_body n m (call.Create at kind) less = refl
no_body n m (call.Part at upload number md5 long) less = absurd (omega (arith, less))
no_body n m (call.Complete at upload long) less = absurd (omega (arith, less))
no_body n m (call.Abort at upload) less = refl

-- all waits, or the call takes no body
pub waits_so : (n : ℕ) → (nat_lt 0 n ≡ true) ⊎ (n ≡ 0)
waits_so zero = inr refl
waits_so (suc n) = inl (lt-ltb 0 (suc n) (omega arith))

-- what a teller was told where a call was cut
pub record BreaksSo (reply : Replying) (tale : List Telling) (told told_after : Told) : Type 0 where
  pub earlier : List Telling
  pub last : Telling
  pub are : tale ≡ earlier ++ last ∷ []
  pub mid : Told
  pub same : mid.reply ≡ told.reply
  pub took : TakesText (tale_in reply earlier) told mid
  pub broke : BreaksText (text_in reply last) mid told_after

abbrev pub WasSo : Cut → Replying → (tale : List Telling) → (told told_after : Told) → Type 0
WasSo WriteFault reply tale told told_after = BreaksSo reply tale told told_after
WasSo ReadFault reply tale told told_after = TakesText (tale_in reply tale) told told_after
WasSo (BodyCut _ _) reply tale told told_after = TakesText (tale_in reply tale) told told_after
WasSo (ShardCut _) reply tale told told_after = TakesText (tale_in reply tale) told told_after
WasSo NoMemory reply tale told told_after = TakesText (tale_in reply tale) told told_after

pub was_so : {T N : Type 0} (R : Type 0) (view : T → Told) (name : T → N) (why : Cut) (tale : List Telling) (old new : T)
    → WasTold (taken view name) (broken view name) (failed R why) old tale new → (name new ≡ name old) × WasSo why (view old).reply tale (view old) (view new)
was_so R view name ReadFault tale old new told = takes_all view name tale old new told
was_so R view name (BodyCut read all) tale old new told = takes_all view name tale old new told
was_so R view name (ShardCut whys) tale old new told = takes_all view name tale old new told
was_so R view name NoMemory tale old new told = takes_all view name tale old new told
was_so R view name WriteFault tale old new told =
    let first = takes_all view name told.earlier old told.mid told.took in (
      told.broke.0 ∙ first.0,
      record {
        earlier = told.earlier;
        last = told.last;
        are = told.are;
        mid = view told.mid;
        same = first.1.same;
        took = first.1;
        broke = subst (λ r. BreaksText (text_in r told.last) (view told.mid) (view new)) first.1.same told.broke.1;
      },
    )

-- the text of a tale is that of what came before the last thing, and then that one's
tale_last : (reply : Replying) (tale earlier : List Telling) (last : Telling) → tale ≡ earlier ++ last ∷ [] → tale_in reply earlier ++ text_in reply last ≡ tale_in reply tale
tale_last reply tale earlier last are =
    sym (ap (tale_in reply) are ∙ flat_map-append (text_in reply) earlier (last ∷ []) ∙ ap (λ l. tale_in reply earlier ++ l) (append-nil (text_in reply last)))

-- the reply that is told to a desk's teller
abbrev pub replying : Asking → Bool → Replying
replying asking waits = record { head = asking.head; call = asking.call; now = asking.now; close = asking.close; waits = waits }

-- all waits, or no body is to be read
all_waits : (asking : Asking) (waits : Bool) (told : Told) → told.reply ≡ replying asking waits → (waits ≡ true) ⊎ (asking.long ≡ 0) → (told.reply.waits ≡ true) ⊎ (asking.long ≡ 0)
all_waits asking waits told is (inl all) = inl (ap (λ (r : Replying). r.waits) is ∙ all)
all_waits asking waits told is (inr none) = inr none

-- a call whose body was cut takes none
bytes_taken : (n : ℕ) (told : Reply) (call : Call) → n < bytes_after told call → stated_length call ≡ 0
bytes_taken n (reply.Found version span id) call less = no_body n span.length call less
bytes_taken n other call less = absurd (omega (arith, less))

none_taken : (R : Type 0) (call : Call) (tale : List Telling) (whys : _) → CallTells call (failed R (ShardCut whys)) tale → stated_length call ≡ 0
none_taken R call tale whys (told, pieces, less, are) = bytes_taken (length (concat pieces)) told call less

module _ {M R : Type 0} (answers : Task → M → M → List ℕ → List Telling → Result R Cut → Type 0) where
  -- a call was cut, and so much of its reply was given
  short_gave : (why by : Cut) (asking : Asking) (old new : M) (body : List ℕ) (tale : List Telling) (stated stated_after : ℕ) (wire wire_after : Wired) (source after : SourceView)
      (reads reads_after : ℕ) (sink sink_after : SinkView) (writes writes_after : ℕ) (out : List ℕ)
      → asking.long ≡ wire.body_left → wire.body_left ≡ stated → wire_after.body_left ≤ stated_after
      → Gave body (feed_of stated wire source) (feed_of stated_after wire_after after)
      → CallTells asking.call (failed R by) tale → answers (record { call = asking.call; now = asking.now }) old new body tale (failed R by) → IsCutBy why by
      → Sent out sink sink_after → (length body < asking.long → out ≡ []) → reads ≤ reads_after → writes ≤ writes_after
      → AskCutSo why asking tale body out (wires (unread_of wire source) sink reads writes) (wires (unread_of wire_after after) sink_after reads_after writes_after)
      → CountsSo (end_for why) (wires (unread_of wire source) sink reads writes) (wires (unread_of wire_after after) sink_after reads_after writes_after)
      → AsksShort answers why asking old new (wires (unread_of wire source) sink reads writes) (wires (unread_of wire_after after) sink_after reads_after writes_after)
  short_gave why by asking old new body tale stated stated_after wire wire_after source after reads reads_after sink sink_after writes writes_after out is fresh within gave whole did cut_by sent silent read wrote cause counts = record {
    read = body;
    tale = tale;
    part = omega (arith, taken_long body asking.long stated stated_after wire wire_after source after is fresh within gave);
    came = inr (by, cut_by, subst (λ l. IsServed answers asking.call asking.now l tale (failed R by) old new) (append-nil body) (served_so answers asking (failed R by) old new body [] tale whole did));
    out = out;
    silent = silent;
    cause = cause;
    moved = moved_of body out (unread_of wire source) (unread_of wire_after after) sink sink_after reads reads_after writes writes_after
        (taken_of body stated stated_after wire wire_after source after gave) sent read wrote;
    counts = counts;
  }

  -- what all cuts but those of the sink share: what was told was given in part
  short_told : (why : Cut) (asking : Asking) (old new : M) (body : List ℕ) (tale : List Telling) (stated stated_after : ℕ) (wire wire_after : Wired) (source after : SourceView)
      (reads reads_after : ℕ) (told told_mid told_after : Told) (writes writes_after : ℕ)
      → asking.long ≡ wire.body_left → wire.body_left ≡ stated → wire_after.body_left ≤ stated_after
      → Gave body (feed_of stated wire source) (feed_of stated_after wire_after after)
      → CallTells asking.call (failed R why) tale → answers (record { call = asking.call; now = asking.now }) old new body tale (failed R why) → IsCutBy why why
      → (told.reply.waits ≡ true) ⊎ (asking.long ≡ 0) → (takes : TakesText (asking_text asking tale) told told_mid)
      → told_after.sink ≡ told_mid.sink → reads ≤ reads_after → writes ≤ writes_after
      → AskCutSo why asking tale body takes.more (wires (unread_of wire source) told.sink reads writes) (wires (unread_of wire_after after) told_after.sink reads_after writes_after)
      → CountsSo (end_for why) (wires (unread_of wire source) told.sink reads writes) (wires (unread_of wire_after after) told_after.sink reads_after writes_after)
      → AsksShort answers why asking old new (wires (unread_of wire source) told.sink reads writes) (wires (unread_of wire_after after) told_after.sink reads_after writes_after)
  short_told why asking old new body tale stated stated_after wire wire_after source after reads reads_after told told_mid told_after writes writes_after is fresh within gave whole did by silent takes given read wrote cause counts =
      short_gave why why asking old new body tale stated stated_after wire wire_after source after reads reads_after told.sink told_after.sink writes writes_after takes.more
      is fresh within gave whole did by (subst (Sent takes.more told.sink) (sym given) takes.gave)
      (silent_so (asking_text asking tale) body asking.long told told_mid silent takes) read wrote cause counts

  -- the text that a teller was told is that of the reply
  takes_asked : (asking : Asking) (waits : Bool) (tale : List Telling) (told told_mid : Told) → told.reply ≡ replying asking waits
      → TakesText (tale_in told.reply tale) told told_mid → TakesText (asking_text asking tale) told told_mid
  takes_asked asking waits tale told told_mid is takes = subst (λ r. TakesText (tale_in r tale) told told_mid) is takes

  module _ {T N : Type 0} (view : T → Told) (name : T → N) where
    -- the desk answered, over what its teller was told
    pub asked_well : (result : Result (Unit {0}) Cut) (asking : Asking) (waits : Bool) (old new : M) (receipt : R) (body : List ℕ) (tale : List Telling)
        (stated stated_after : ℕ) (wire wire_mid wire_after : Wired) (source mid after : SourceView) (reads reads_mid reads_after : ℕ) (told told_mid told_after : T) (writes writes_mid writes_after : ℕ)
        → asking.long ≡ wire.body_left → wire.body_left ≡ stated → wire_mid.body_left ≤ stated_after
        → Gave body (feed_of stated wire source) (feed_of stated_after wire_mid mid)
        → CallTells asking.call (Ok receipt) tale → answers (record { call = asking.call; now = asking.now }) old new body tale (Ok receipt)
        → TellsAll (taken view name) told tale told_mid → (view told).reply ≡ replying asking waits → (view told).held ≡ [] → (waits ≡ true) ⊎ (asking.long ≡ 0)
        → reads_mid ≡ reads → writes_mid ≡ writes
        → Finishes result wire_mid wire_after mid after reads_mid reads_after (view told_mid) (view told_after) writes_mid writes_after
        → AskGoes answers result asking old new (wires (unread_of wire source) (view told).sink reads writes) (wires (unread_of wire_after after) (view told_after).sink reads_after writes_after)
    asked_well result asking waits old new receipt body tale stated stated_after wire wire_mid wire_after source mid after reads reads_mid reads_after told told_mid told_after writes writes_mid writes_after is fresh within gave whole did tells reply none silent read wrote finishes =
        asked_done answers result asking old new receipt body tale stated stated_after wire wire_mid wire_after source mid after reads reads_mid reads_after (view told) (view told_mid) (view told_after) writes writes_mid writes_after
        is fresh within gave whole did none (all_waits asking waits (view told) reply silent)
        (takes_asked asking waits tale (view told) (view told_mid) reply (takes_all view name tale told told_mid tells).1) read wrote finishes

    -- the desk's call was cut, over what its teller was told
    pub asked_cut : (why : Cut) (result : Result (Unit {0}) Cut) (asking : Asking) (waits : Bool) (old new : M) (body : List ℕ) (tale : List Telling)
        (stated stated_after : ℕ) (wire wire_after : Wired) (source after : SourceView) (reads reads_after : ℕ) (told told_mid told_after : T) (writes writes_mid writes_after : ℕ)
        → asking.long ≡ wire.body_left → wire.body_left ≡ stated → wire_after.body_left ≤ stated_after → asking.long ≡ stated_length asking.call
        → Gave body (feed_of stated wire source) (feed_of stated_after wire_after after)
        → CallTells asking.call (failed R why) tale → answers (record { call = asking.call; now = asking.now }) old new body tale (failed R why)
        → WasTold (taken view name) (broken view name) (failed R why) told tale told_mid → (view told).reply ≡ replying asking waits → (view told).held ≡ []
        → (waits ≡ true) ⊎ (asking.long ≡ 0)
        → CutCause (failed R why) (feed_of stated_after wire_after after) reads reads_after writes writes_mid
        → BreaksOff why result (view told_mid) (view told_after) writes_mid writes_after
        → AskGoes answers result asking old new (wires (unread_of wire source) (view told).sink reads writes) (wires (unread_of wire_after after) (view told_after).sink reads_after writes_after)
    asked_cut ReadFault (Ok _) asking waits old new body tale stated stated_after wire wire_after source after reads reads_after told told_mid told_after writes writes_mid writes_after is fresh within takes_body gave whole did tells reply none silent cause breaks = absurd breaks
    asked_cut ReadFault (Err e) asking waits old new body tale stated stated_after wire wire_after source after reads reads_after told told_mid told_after writes writes_mid writes_after is fresh within takes_body gave whole did tells reply none silent cause breaks =
        let takes = takes_asked asking waits tale (view told) (view told_mid) reply (was_so R view name ReadFault tale told told_mid tells).1 in
        subst (λ w. AsksShort answers w asking old new (wires (unread_of wire source) (view told).sink reads writes) (wires (unread_of wire_after after) (view told_after).sink reads_after writes_after)) (sym breaks.0)
        (short_told ReadFault asking old new body tale stated stated_after wire wire_after source after reads reads_after (view told) (view told_mid) (view told_after) writes writes_after
        is fresh within gave whole did refl (all_waits asking waits (view told) reply silent) takes breaks.1 cause.0.0 (omega (arith, cause.1, breaks.2))
        (cause.0, subst (IsFront takes.more) (told_text (asking_text asking tale) (view told) (view told_mid) none takes) (front_all takes.more (view told_mid).held))
        (breaks.2 ∙ cause.1))
    asked_cut (BodyCut r s) (Ok _) asking waits old new body tale stated stated_after wire wire_after source after reads reads_after told told_mid told_after writes writes_mid writes_after is fresh within takes_body gave whole did tells reply none silent cause breaks = absurd breaks
    asked_cut (BodyCut r s) (Err e) asking waits old new body tale stated stated_after wire wire_after source after reads reads_after told told_mid told_after writes writes_mid writes_after is fresh within takes_body gave whole did tells reply none silent cause breaks =
        let takes = takes_asked asking waits tale (view told) (view told_mid) reply (was_so R view name (BodyCut r s) tale told told_mid tells).1 in
        let waits_all = all_waits asking waits (view told) reply silent in
        let long = taken_long body asking.long stated stated_after wire wire_after source after is fresh within gave in
        let short : length body < asking.long = omega (arith, long, cause.2, within) in
        subst (λ w. AsksShort answers w asking old new (wires (unread_of wire source) (view told).sink reads writes) (wires (unread_of wire_after after) (view told_after).sink reads_after writes_after)) (sym breaks.0)
        (short_told (BodyCut r s) asking old new body tale stated stated_after wire wire_after source after reads reads_after (view told) (view told_mid) (view told_after) writes writes_after
        is fresh within gave whole did refl waits_all takes breaks.1 (omega (arith, cause.4)) (omega (arith, cause.5, breaks.2))
        (short, record { left = cause.3.left; takes = cause.3.ended }, silent_so (asking_text asking tale) body asking.long (view told) (view told_mid) waits_all takes short)
        (cause.4, breaks.2 ∙ cause.5))
    asked_cut NoMemory (Ok _) asking waits old new body tale stated stated_after wire wire_after source after reads reads_after told told_mid told_after writes writes_mid writes_after is fresh within takes_body gave whole did tells reply none silent cause breaks = absurd breaks
    asked_cut NoMemory (Err e) asking waits old new body tale stated stated_after wire wire_after source after reads reads_after told told_mid told_after writes writes_mid writes_after is fresh within takes_body gave whole did tells reply none silent cause breaks =
        let takes = takes_asked asking waits tale (view told) (view told_mid) reply (was_so R view name NoMemory tale told told_mid tells).1 in
        subst (λ w. AsksShort answers w asking old new (wires (unread_of wire source) (view told).sink reads writes) (wires (unread_of wire_after after) (view told_after).sink reads_after writes_after)) (sym breaks.0)
        (short_told NoMemory asking old new body tale stated stated_after wire wire_after source after reads reads_after (view told) (view told_mid) (view told_after) writes writes_after
        is fresh within gave whole did refl (all_waits asking waits (view told) reply silent) takes breaks.1 (omega (arith, cause.0)) (omega (arith, cause.1, breaks.2))
        (subst (IsFront takes.more) (told_text (asking_text asking tale) (view told) (view told_mid) none takes) (front_all takes.more (view told_mid).held))
        (cause.0, breaks.2 ∙ cause.1))
    asked_cut WriteFault (Ok _) asking waits old new body tale stated stated_after wire wire_after source after reads reads_after told told_mid told_after writes writes_mid writes_after is fresh within takes_body gave whole did tells reply none silent cause breaks = absurd breaks
    asked_cut WriteFault (Err e) asking waits old new body tale stated stated_after wire wire_after source after reads reads_after told told_mid told_after writes writes_mid writes_after is fresh within takes_body gave whole did tells reply none silent cause breaks =
        let so = (was_so R view name WriteFault tale told told_mid tells).1 in
        let took = takes_asked asking waits so.earlier (view told) so.mid reply so.took in
        let last = text_in (replying asking waits) so.last in
        let broke : BreaksText last so.mid (view told_mid) = subst (λ r. BreaksText (text_in r so.last) so.mid (view told_mid)) reply so.broke in
        let text : took.more ++ (so.mid.held ++ last) ≡ asking_text asking tale =
        sym (append_assoc took.more so.mid.held last) ∙ ap (λ l. l ++ last) (told_text (asking_text asking so.earlier) (view told) so.mid none took) ∙ tale_last (replying asking waits) tale so.earlier so.last so.are in
        let out = took.more ++ take broke.count (so.mid.held ++ last) in
        subst (λ w. AsksShort answers w asking old new (wires (unread_of wire source) (view told).sink reads writes) (wires (unread_of wire_after after) (view told_after).sink reads_after writes_after)) (sym breaks.0)
        (short_gave WriteFault WriteFault asking old new body tale stated stated_after wire wire_after source after reads reads_after (view told).sink (view told_after).sink writes writes_after out
        is fresh within gave whole did (inl refl)
        (subst (Sent out (view told).sink) (sym breaks.1) (sent_both took.more (take broke.count (so.mid.held ++ last)) (view told).sink so.mid.sink (view told_mid).sink took.gave broke.front))
        (λ short. elim silent [ inl all ↦ absurd (broke.waits (ap (λ (r : Replying). r.waits) (so.same ∙ reply) ∙ all)) | inr nil ↦ absurd (omega (arith, nil, short)) ])
        (omega (arith, cause.0)) (omega (arith, cause.1.0, breaks.2)) (
          subst (λ w. Rose writes w) (sym breaks.2) cause.1,
          (length took.more + broke.count, sym (take-append-add took.more (so.mid.held ++ last) broke.count) ∙ ap (take (length took.more + broke.count)) text),
        )
        cause.0)
    asked_cut (ShardCut whys) (Ok _) asking waits old new body tale stated stated_after wire wire_after source after reads reads_after told told_mid told_after writes writes_mid writes_after is fresh within takes_body gave whole did tells reply none silent cause breaks = absurd breaks
    asked_cut (ShardCut whys) (Err e) asking waits old new body tale stated stated_after wire wire_after source after reads reads_after told told_mid told_after writes writes_mid writes_after is fresh within takes_body gave whole did tells reply none silent cause breaks =
        let takes = takes_asked asking waits tale (view told) (view told_mid) reply (was_so R view name (ShardCut whys) tale told told_mid tells).1 in
        let text = told_text (asking_text asking tale) (view told) (view told_mid) none takes in
        let long = taken_long body asking.long stated stated_after wire wire_after source after is fresh within gave in
        let nil = takes_body ∙ none_taken R asking.call tale whys whole in
        elim breaks [
          | inl (same, given, counted) ↦ subst (λ w. AsksShort answers w asking old new (wires (unread_of wire source) (view told).sink reads writes) (wires (unread_of wire_after after) (view told_after).sink reads_after writes_after)) (sym same)
              (short_gave (ShardCut whys) (ShardCut whys) asking old new body tale stated stated_after wire wire_after source after reads reads_after (view told).sink (view told_after).sink writes writes_after
              (takes.more ++ (view told_mid).held) is fresh within gave whole did refl
              (sent_both takes.more (view told_mid).held (view told).sink (view told_mid).sink (view told_after).sink takes.gave given)
              (λ short. absurd (omega (arith, nil, short))) (omega (arith, cause.0)) (omega (arith, cause.1, counted))
              (whole, omega (arith, long, nil), text) (cause.0, counted ∙ cause.1))
          | inr (same, front, rose) ↦ subst (λ w. AsksShort answers w asking old new (wires (unread_of wire source) (view told).sink reads writes) (wires (unread_of wire_after after) (view told_after).sink reads_after writes_after)) (sym same)
              (short_gave WriteFault (ShardCut whys) asking old new body tale stated stated_after wire wire_after source after reads reads_after (view told).sink (view told_after).sink writes writes_after
              (takes.more ++ take front.count (view told_mid).held) is fresh within gave whole did (inr (whys, refl))
              (sent_both takes.more (take front.count (view told_mid).held) (view told).sink (view told_mid).sink (view told_after).sink takes.gave front.front)
              (λ short. absurd (omega (arith, nil, short))) (omega (arith, cause.0)) (omega (arith, cause.1, rose.0)) (
                subst (λ w. Rose w writes_after) cause.1 rose,
                (length takes.more + front.count, sym (take-append-add takes.more (view told_mid).held front.count) ∙ ap (take (length takes.more + front.count)) text),
              )
              cause.0)
        ]
