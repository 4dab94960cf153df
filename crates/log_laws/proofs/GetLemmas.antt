-- What the log of a GetObject that is told letters says of its read.
use Rattle.std.proofs.Common.{◌≡◌, ◌≤◌, ℕ, zero, suc, List, [], ◌∷◌, ◌++◌, Option, Some, None, Ok, ap, refl, subst, sym, arith}
use Rattle.std.specs.Prelude.{All, MatchOption}
use Rattle.std.proofs.lemmas.Grind.{flat_map-append}
use Rattle.audit_trail.specs.declared.entry.Deed.TheVariants.{Done, Kept}
use Rattle.audit_trail.specs.declared.entry.Entry.{Entry}
use Rattle.call_types.specs.declared.act.Brief.TheVariants.{Answer, Read}
use Rattle.call_types.specs.declared.names.Key.{Key}
use Rattle.call_types.specs.declared.names.Mode.{Mode}
use Rattle.call_types.specs.declared.names.Pick.{Pick}
use Rattle.call_types.specs.declared.names.RangeAsk.{RangeAsk}
use Rattle.call_types.specs.declared.names.RangeAsk.TheVariants.{From, FromTo, Last, Whole}
use Rattle.call_types.specs.declared.names.Span.{Span}
use Rattle.call_types.specs.declared.names.VersionName.{VersionName}
use Rattle.call_types.specs.declared.reply.Reply.TheVariants.{Found}
use Rattle.call_types.specs.declared.version.Version.{Version}
use Rattle.call_types.specs.declared.version.What.{What}
use Rattle.call_types.specs.declared.version.What.TheVariants.{Marker, Object}
use Rattle.span_plan.specs.Span.{Plans, end_of}
use Rattle.receipts.specs.Events.{Event, Log, Section, section_in, sections_of}
use Rattle.receipts.specs.Events.Event.{BarredFrom, Called, Fed, Told, Turned}
use Rattle.receipts.specs.Letters.{Wanted}
use Rattle.receipts.specs.Looks.{FindsBucket, HasEntry}
use Rattle.receipts.specs.Paying.{ChangesNothing, LeavesAll}
use Rattle.receipts.specs.Reading.{IsWanted}
use Rattle.receipts.specs.Registers.{bucket_register, bucket_slot, key_register, key_slot}
use Rattle.receipts.specs.Spans.{body_length}
use Rattle.log_laws.specs.Reads.{IsStill, LeavesSlot, ReadsData}

-- ---- the last section of a log

-- the events before a section and behind it, where no other has a note
pub record LastSection (log : Log) (front : List Section) (own : Section) : Type 0 where
  pub before : Log
  pub slot : ℕ
  pub after : Log
  pub is : log ≡ before ++ Turned slot (Some own.note) own.shown ∷ after
  pub front_is : sections_of before ≡ front
  pub none_after : sections_of after ≡ []

-- behind one event more
past_event : (event : Event) (log : Log) (front : List Section) (own : Section) → LastSection log front own → LastSection (event ∷ log) (section_in event ++ front) own
past_event event log front own x = record {
  before = event ∷ x.before;
  slot = x.slot;
  after = x.after;
  is = ap (λ (l : Log). event ∷ l) x.is;
  front_is = ap (λ (l : List Section). section_in event ++ l) x.front_is;
  none_after = x.none_after;
}

last_section : (log : Log) (front : List Section) (own : Section) → sections_of log ≡ front ++ own ∷ [] → LastSection log front own
last_section [] [] own e = absurd cc
last_section [] (first ∷ front) own e = absurd cc
last_section (Turned k None shown ∷ log) front own e = past_event (Turned k None shown) log front own (last_section log front own e)
last_section (Turned k (Some made) shown ∷ log) [] own e = (
    let here : Section = record { note = made; shown = shown } in
    let same : here ≡ own = cc in
    let none : sections_of log ≡ [] = cc in
    record {
      before = [];
      slot = k;
      after = log;
      is = ap (λ (s : Section). Turned k (Some s.note) s.shown ∷ log) same;
      front_is = refl;
      none_after = none;
    })
last_section (Turned k (Some made) shown ∷ log) (first ∷ front) own e = (
    let here : Section = record { note = made; shown = shown } in
    let same : here ≡ first = cc in
    let rest : sections_of log ≡ front ++ own ∷ [] = cc in
    subst (λ (s : Section). LastSection (Turned k (Some made) shown ∷ log) (s ∷ front) own) same
    (past_event (Turned k (Some made) shown) log front own (last_section log front own rest)))
last_section (BarredFrom k why ∷ log) front own e = past_event (BarredFrom k why) log front own (last_section log front own e)
last_section (Called k made ∷ log) front own e = past_event (Called k made) log front own (last_section log front own e)
last_section (Fed bytes cut ∷ log) front own e = past_event (Fed bytes cut) log front own (last_section log front own e)
last_section (Told telling cut ∷ log) front own e = past_event (Told telling cut) log front own (last_section log front own e)

-- ---- behind it each slot is still

still_event : (slot : ℕ) (event : Event) (more : List Section) → section_in event ++ more ≡ [] → IsStill slot event
still_event slot (Turned k None shown) more e = λ same. refl
still_event slot (Turned k (Some made) shown) more e = absurd cc
still_event slot (BarredFrom k why) more e = tt
still_event slot (Called k made) more e = tt
still_event slot (Fed bytes cut) more e = tt
still_event slot (Told telling cut) more e = tt

none_past : (event : Event) (more : List Section) → section_in event ++ more ≡ [] → more ≡ []
none_past (Turned k None shown) more e = e
none_past (Turned k (Some made) shown) more e = absurd cc
none_past (BarredFrom k why) more e = e
none_past (Called k made) more e = e
none_past (Fed bytes cut) more e = e
none_past (Told telling cut) more e = e

still_behind : (slot : ℕ) (log : Log) → sections_of log ≡ [] → All (IsStill slot) log
still_behind slot [] none k d low = absurd (omega (arith, low))
still_behind slot (event ∷ log) none zero d low = still_event slot event (sections_of log) none
still_behind slot (event ∷ log) none (suc k) d low = still_behind slot log (none_past event (sections_of log) none) k d (omega (arith, low))

pub sections_join : (log more : Log) → sections_of (log ++ more) ≡ sections_of log ++ sections_of more
sections_join log more = flat_map-append section_in log more

-- ---- and before it nothing changes

shifted : (P : Section → Type 0) (first : Section) (rest : List Section) → All P (first ∷ rest) → All P rest
shifted P first rest all k d low = all (suc k) d (omega (arith, low))

idle_before : (slot : ℕ) (log : Log) → All ChangesNothing (sections_of log) → All (LeavesSlot slot) log
idle_before slot [] all k d low = absurd (omega (arith, low))
idle_before slot (Turned j None shown ∷ log) all zero d low = λ own. tt
idle_before slot (Turned j (Some made) shown ∷ log) all zero d low = λ own. all 0 (record { note = made; shown = shown }) (omega arith)
idle_before slot (BarredFrom j why ∷ log) all zero d low = tt
idle_before slot (Called j made ∷ log) all zero d low = tt
idle_before slot (Fed bytes cut ∷ log) all zero d low = tt
idle_before slot (Told telling cut ∷ log) all zero d low = tt
idle_before slot (Turned j None shown ∷ log) all (suc k) d low = idle_before slot log all k d (omega (arith, low))
idle_before slot (Turned j (Some made) shown ∷ log) all (suc k) d low =
    idle_before slot log (shifted ChangesNothing (record { note = made; shown = shown }) (sections_of log) all) k d (omega (arith, low))
idle_before slot (BarredFrom j why ∷ log) all (suc k) d low = idle_before slot log all k d (omega (arith, low))
idle_before slot (Called j made ∷ log) all (suc k) d low = idle_before slot log all k d (omega (arith, low))
idle_before slot (Fed bytes cut ∷ log) all (suc k) d low = idle_before slot log all k d (omega (arith, low))
idle_before slot (Told telling cut ∷ log) all (suc k) d low = idle_before slot log all k d (omega (arith, low))

-- a look changes nothing
look_idle : (slot : ℕ) (name : List ℕ) (look : Section) → HasEntry slot name Kept look.note → All ChangesNothing (look ∷ [])
look_idle slot name look entry zero d low =
    subst (λ (e : Option Entry). MatchOption e (Unit {0}) (λ made. LeavesAll made.deed)) (sym entry.entry_is) (subst LeavesAll (sym entry.deed_is) tt)
look_idle slot name look entry (suc k) d low = absurd (omega (arith, low))

-- ---- what is wanted lies in the body

ends_within : (n : ℕ) (ask : RangeAsk) → end_of n ask ≤ n
ends_within n Whole = omega arith
ends_within n (FromTo first last) = omega arith
ends_within n (From first) = omega arith
ends_within n (Last count) = omega arith

reach_within : (what : What) (ask : RangeAsk) (span : Span) (wanted : Wanted) → IsWanted what span wanted → Plans (body_length what) ask (Ok span)
    → wanted.reach ≤ body_length what
reach_within Marker ask span wanted is plans = absurd is
reach_within (Object data_id print size md5 parts upload kind) ask span wanted is plans =
    let most = ends_within size ask in
    let ends = plans.2 in
    let reach = is.2 in
    omega (arith, most, ends, reach)

-- a log whose sections are a look and a read of a key is that of a read of the version's data
pub reads_found : (log : Log) (look own : Section) (at : Key) (mode : Mode) (pick : Pick) (version : Version) (whole : Span) (id : Option VersionName) (ask : RangeAsk)
    (span : Span) (wanted : Wanted) → sections_of log ≡ look ∷ own ∷ [] → FindsBucket at.bucket mode look
    → HasEntry (key_slot at) (key_register at) (Done (Read at mode pick) (Answer (Found version whole id))) own.note
    → IsWanted version.what span wanted → Plans (body_length version.what) ask (Ok span) → ReadsData wanted log
reads_found log look own at mode pick version whole id ask span wanted sections bucket entry is_wanted plans =
    let x = last_section log (look ∷ []) own sections in
    record {
      before = x.before;
      slot = x.slot;
      note = own.note;
      shown = own.shown;
      after = x.after;
      parts = x.is;
      entry = entry.entry;
      entry_is = entry.entry_is;
      finds = record {
        at = at;
        mode = mode;
        pick = pick;
        version = version;
        whole = whole;
        id = id;
        deed_is = entry.deed_is;
        span = span;
        is_wanted = is_wanted;
        within = reach_within version.what ask span wanted is_wanted plans;
      };
      idle = idle_before x.slot x.before (subst (λ (l : List Section). All ChangesNothing l) (sym x.front_is)
          (look_idle (bucket_slot at.bucket) (bucket_register at.bucket) look bucket.looks.entry));
      still = still_behind x.slot x.after x.none_after;
    }
