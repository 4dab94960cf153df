-- What one section more adds to the log of a list of buckets.
use Rattle.std.proofs.Common.{◌≡◌, ◌≢◌, ◌⊎◌, ◌∙◌, ℕ, ◌+◌, ◌<◌, List, [], ◌∷◌, ◌++◌, All, Contains, Option, Some, None, append-nil, append_assoc, length, slice_index_or, inl, inr, refl, sym, ap, ap₂, subst, subst₂, arith}
use Rattle.std.proofs.lemmas.List.Elements.{All-contains, All-get_or, All-push, All-weaker, Contains-append_left, Contains-push, Contains-push_cases}
use Rattle.std.specs.List.Sorted.{IsStrictlySortedBy}
use Rattle.audit_trail.specs.declared.entry.Deed.TheVariants.{Kept}
use Rattle.audit_trail.specs.declared.entry.Entry.{Entry}
use Rattle.bucket_book.specs.Content.{IsCanonicalRow, content_of}
use Rattle.bucket_book.specs.Laws.{ContentIsInjective}
use Rattle.bucket_book.specs.Name.{IsBucketName}
use Rattle.bucket_book.specs.declared.record.BucketRecord.{BucketRecord}
use Rattle.call_types.specs.declared.reply.BucketRow.{BucketRow}
use Rattle.drive_base.specs.Names.{IsBefore, IsPage, byte_order}
use Rattle.std.specs.declared.cmp.Ordering.TheVariants.{Less}
use Rattle.std.proofs.lemmas.Map.Keys.{Less-from_sorted}
use Rattle.std.proofs.lemmas.List.{get_or_default}
use Rattle.drive_base.specs.declared.drive.TheConstants.{LONGEST_NAME}
use Rattle.receipts.specs.BucketLists.{FindsRow, row_order}
use Rattle.receipts.specs.Events.{IsUntold, Log, Note, Section, body_of, cuts_of, sections_of}
use Rattle.receipts.specs.Events.Event.{Turned}
use Rattle.receipts.specs.Events.{Shown}
use Rattle.receipts.specs.Events.Shown.{ContentShown, NamesShown, NoneShown}
use Rattle.receipts.specs.Looks.{HasEntry}
use Rattle.receipts.specs.Paging.{DoesNothing, IsAskedFor}
use Rattle.receipts.specs.Registers.{bucket_register, bucket_slot}
use Rattle.receipts.proofs.JoinLemmas.{bodies_join, cuts_join, sections_join}
use Rattle.bucket_ops.specs.Lists.{HasAsked, HasFound, IsAmong, IsAtPage, IsBehind, IsInPage, LooksAtBucket, LooksOnlyAt, WasLookedAt}
use Rattle.bucket_ops.specs.Rows.{AddsRow, row_of}
use Rattle.bucket_ops.specs.Seeking.{Sheet, page_names, with_names, with_rows}
use Rattle.receipts.proofs.OrderLemmas.{behind_other, never_itself}
use Rattle.bucket_ops.proofs.RowLemmas.{puts_all, puts_keeps, puts_own, puts_rises}

-- a log with one section more that has a note
abbrev pub with_section : Log → ℕ → Section → Log
with_section log k section = log ++ Turned k (Some section.note) section.shown ∷ []

pub one_more : (log : Log) (k : ℕ) (section : Section) → sections_of (with_section log k section) ≡ sections_of log ++ section ∷ []
one_more log k section = sections_join log (Turned k (Some section.note) section.shown ∷ [])

-- nothing was told, cut or taken by it
pub untold_more : (log : Log) (k : ℕ) (note : Option Note) (shown : Shown) → All IsUntold log → All IsUntold (log ++ Turned k note shown ∷ [])
untold_more log k note shown untold = All-push IsUntold log (Turned k note shown) untold tt

pub uncut_more : (log : Log) (k : ℕ) (note : Option Note) (shown : Shown) → cuts_of log ≡ [] → cuts_of (log ++ Turned k note shown ∷ []) ≡ []
uncut_more log k note shown uncut = cuts_join log (Turned k note shown ∷ []) ∙ (append-nil (cuts_of log) ∙ uncut)

pub body_more : (log : Log) (k : ℕ) (note : Option Note) (shown : Shown) → body_of log ≡ [] → body_of (log ++ Turned k note shown ∷ []) ≡ []
body_more log k note shown none = bodies_join log (Turned k note shown ∷ []) ∙ (append-nil (body_of log) ∙ none)

-- what was there is there, and so is the new one
still_there : (log : Log) (k : ℕ) (section x : Section) → Contains (sections_of log) x → Contains (sections_of (with_section log k section)) x
still_there log k section x there = subst (λ l. Contains l x) (sym (one_more log k section)) (Contains-append_left (sections_of log) (section ∷ []) x there)

now_there : (log : Log) (k : ℕ) (section : Section) → Contains (sections_of (with_section log k section)) section
now_there log k section = subst (λ l. Contains l section) (sym (one_more log k section)) (Contains-push (sections_of log) section)

old_or_new : (log : Log) (k : ℕ) (section x : Section) → Contains (sections_of (with_section log k section)) x → Contains (sections_of log) x ⊎ (section ≡ x)
old_or_new log k section x there = Contains-push_cases (sections_of log) section x (subst (λ l. Contains l x) (one_more log k section) there)

all_more : (P : Section → Type 0) (log : Log) (k : ℕ) (section : Section) → All P (sections_of log) → P section → All P (sections_of (with_section log k section))
all_more P log k section all own = subst (All P) (sym (one_more log k section)) (All-push P (sections_of log) section all own)

parts_more : (log : Log) (k : ℕ) (section : Section) (before : List Section) (asked : Section) (after : List Section) → sections_of log ≡ before ++ asked ∷ after
    → sections_of (with_section log k section) ≡ before ++ asked ∷ (after ++ section ∷ [])
parts_more log k section before asked after parts =
    one_more log k section ∙ (ap (λ l. l ++ section ∷ []) parts ∙ append_assoc before (asked ∷ after) (section ∷ []))

looked_still : (bucket : List ℕ) (sections : List Section) (section : Section) → WasLookedAt bucket sections → WasLookedAt bucket (sections ++ section ∷ [])
looked_still bucket sections section was = (was.0, was.1, Contains-append_left sections (section ∷ []) was.1 was.2, was.3)

asked_still : (log : Log) (k : ℕ) (section : Section) (bucket : List ℕ) → IsAskedFor (bucket_slot bucket) (bucket_register bucket) (sections_of log)
    → IsAskedFor (bucket_slot bucket) (bucket_register bucket) (sections_of (with_section log k section))
asked_still log k section bucket asked = record {
  page = asked.page;
  before = asked.before;
  asked = asked.asked;
  after = asked.after ++ section ∷ [];
  parts = parts_more log k section asked.before asked.asked asked.after asked.parts;
  asks = asked.asks;
  looks = λ shown. looked_still bucket asked.after section (asked.looks shown);
}

has_asked_still : (slot : ℕ) (from : List ℕ) (log : Log) (k : ℕ) (section : Section) → HasAsked slot from log → HasAsked slot from (with_section log k section)
has_asked_still slot from log k section has = record {
  begins = has.begins;
  asked = λ bucket lawful behind. asked_still log k section bucket (has.asked bucket lawful behind);
}

found_row_still : (log : Log) (k : ℕ) (section : Section) (row : BucketRow) → (look : Section) × Contains (sections_of log) look × FindsRow row look
    → (look : Section) × Contains (sections_of (with_section log k section)) look × FindsRow row look
found_row_still log k section row was = (was.0, still_there log k section was.0 was.1, was.2)

-- a page of names that is shown begins the work on its names
module _ (sheet : Sheet) (names : List (List ℕ)) (log : Log) (k : ℕ) (note : Note) where
  abbrev section : Section
  section = record { note = note; shown = NamesShown sheet.from page_names names }

  shows_no_content : (content : List ℕ) → section.shown ≡ ContentShown content → ⊥
  shows_no_content content same = cc

  found_after_page : HasFound sheet.rows log → DoesNothing section → HasFound sheet.rows (with_section log k section)
  found_after_page has idle = record {
    untold = untold_more log k (Some note) section.shown has.untold;
    uncut = uncut_more log k (Some note) section.shown has.uncut;
    no_body = body_more log k (Some note) section.shown has.no_body;
    idle = all_more DoesNothing log k section has.idle idle;
    rising = has.rising;
    found = All-weaker _ _ (found_row_still log k section) sheet.rows has.found;
    given = λ row look there finds. elim (old_or_new log k section look there) [
      | inl was ↦ has.given row look was finds
      | inr same ↦ absurd (shows_no_content _ (subst (λ (s : Section). s.shown ≡ ContentShown (content_of (Some finds.there))) (sym same) finds.looks.shown))
    ];
  }

  none_among : (name : List ℕ) → IsAmong name names 0 → ⊥
  none_among name among = let below = among.1 in omega (arith, below)

  pub page_shown : IsAtPage sheet log → HasEntry sheet.slot [] Kept note → note.refusal ≡ None → IsPage sheet.from page_names LONGEST_NAME names
      → IsInPage (with_names sheet names) 0 (with_section log k section)
  page_shown at entry unrefused page = record {
    found = found_after_page at.found (sheet.slot, [], entry);
    asked = has_asked_still sheet.slot sheet.from log k section at.asked;
    page = page;
    before = sections_of log;
    section = section;
    after = [];
    parts = one_more log k section;
    lists = record { entry = entry; unrefused = unrefused; shown = refl };
    looked = λ bucket lawful slot among. absurd (none_among (bucket_register bucket) among);
    only = λ bucket content look there looks. elim (old_or_new log k section look there) [
      | inl was ↦ inl (at.only bucket content look was looks)
      | inr same ↦ absurd (shows_no_content content (subst (λ (s : Section). s.shown ≡ ContentShown content) (sym same) looks.shown))
    ];
  }

-- what an entry names, what a section shows, and the bucket of a register's name
abbrev name_in : Option Entry → List ℕ
name_in None = []
name_in (Some entry) = entry.name

abbrev content_in : Shown → List ℕ
content_in NoneShown = []
content_in (ContentShown content) = content
content_in (NamesShown from most names) = []

abbrev pub behind_two : List ℕ → List ℕ
behind_two [] = []
behind_two (a ∷ []) = []
behind_two (a ∷ b ∷ rest) = rest

abbrev record_in : BucketRecord → Option BucketRecord → BucketRecord
record_in other None = other
record_in other (Some there) = there

abbrev make_row : List ℕ → ℕ → BucketRow
make_row name created = record { name = name; created = created }

less_or_same : (a b : ℕ) → a < b + 1 → (a < b) ⊎ (a ≡ b)
less_or_same a b below = grind (arith, below)

abbrev is_there : Option BucketRecord → Type 0
is_there None = ⊥
is_there (Some there) = Unit {0}

-- the look at the bucket of a name adds what it found
module _ (one : ContentIsInjective) (sheet : Sheet) (own : ℕ) (bucket content : List ℕ) (rows : List BucketRow) (log : Log) (k : ℕ) (note : Note)
    (page : IsInPage sheet own log) (within : own < length sheet.names) (named : slice_index_or sheet.names own (bucket_register bucket) ≡ bucket_register bucket)
    (other : bucket_register bucket ≢ sheet.from) (slot : bucket_slot bucket ≡ sheet.slot) (entry : HasEntry sheet.slot (bucket_register bucket) Kept note)
    (unrefused : note.refusal ≡ None) where
  abbrev look_section : Section
  look_section = record { note = note; shown = ContentShown content }

  own_look : LooksAtBucket bucket content look_section
  own_look = record {
    entry = subst (λ s. HasEntry s (bucket_register bucket) Kept note) (sym slot) entry;
    unrefused = unrefused;
    shown = refl;
  }

  -- a look's section looks at one bucket, and shows one content
  one_bucket : (a seen : List ℕ) → LooksAtBucket a seen look_section → a ≡ bucket
  one_bucket a seen looks =
      ap behind_two (sym looks.entry.name_is ∙ (ap name_in (sym looks.entry.entry_is ∙ entry.entry_is) ∙ entry.name_is))

  one_content : (a seen : List ℕ) → LooksAtBucket a seen look_section → seen ≡ content
  one_content a seen looks = ap content_in (sym looks.shown)

  -- no look was at this bucket before
  from_before : IsBefore sheet.from (bucket_register bucket)
  from_before = behind_other sheet.from (bucket_register bucket)
      (subst (λ n. byte_order n sheet.from ≢ Less) named (All-get_or (λ n. byte_order n sheet.from ≢ Less) sheet.names own (bucket_register bucket) within page.page.begins))
      other

  not_behind : IsBehind sheet.slot sheet.from bucket → ⊥
  not_behind (inl below) = omega (arith, below, slot)
  not_behind (inr at) = at.1 from_before

  not_among : IsAmong (bucket_register bucket) sheet.names own → ⊥
  not_among among = never_itself (bucket_register bucket) (subst₂ (λ a b. IsBefore a b) among.2 named
      (Less-from_sorted byte_order sheet.names among.0 own (bucket_register bucket) page.page.rising among.1 within))

  none_before : (seen : List ℕ) (look : Section) → Contains (sections_of log) look → LooksAtBucket bucket seen look → ⊥
  none_before seen look there looks = elim (page.only bucket seen look there looks) [
    | inl behind ↦ not_behind behind
    | inr among ↦ not_among among.1
  ]

  none_named : (row : BucketRow) → Contains sheet.rows row → row.name ≢ bucket
  none_named row there same =
      let was : (look : Section) × Contains (sections_of log) look × FindsRow row look = All-contains (λ (r : BucketRow). (look : Section) × Contains (sections_of log) look × FindsRow r look) sheet.rows row page.found.found there in
      none_before (content_of (Some was.2.there)) was.0 was.1 (subst (λ b. LooksAtBucket b (content_of (Some was.2.there)) was.0) same was.2.looks)

  -- the rows after it
  rows_rise : (there : Option BucketRecord) → AddsRow bucket there sheet.rows rows → IsStrictlySortedBy row_order rows
  rows_rise None adds = subst (IsStrictlySortedBy row_order) (sym adds) page.found.rising
  rows_rise (Some there) adds = puts_rises bucket there sheet.rows rows page.found.rising none_named adds

  abbrev IsFound : BucketRow → Type 0
  IsFound row = (look : Section) × Contains (sections_of (with_section log k look_section)) look × FindsRow row look

  old_found : All IsFound sheet.rows
  old_found = All-weaker _ IsFound (found_row_still log k look_section) sheet.rows page.found.found

  rows_found : (there : Option BucketRecord) → IsCanonicalRow there → content ≡ content_of there → AddsRow bucket there sheet.rows rows → All IsFound rows
  rows_found None canonical is adds = subst (All IsFound) (sym adds) old_found
  rows_found (Some there) canonical is adds = puts_all IsFound bucket there sheet.rows rows adds (
    look_section,
    now_there log k look_section,
    record {
      there = there;
      canonical = canonical;
      looks = subst (λ c. LooksAtBucket bucket c look_section) is own_look;
      created = refl;
    },
  ) old_found

  row_kept : (there : Option BucketRecord) (row : BucketRow) → AddsRow bucket there sheet.rows rows → Contains sheet.rows row → Contains rows row
  row_kept None row adds was = subst (λ l. Contains l row) (sym adds) was
  row_kept (Some there) row adds was = puts_keeps bucket there sheet.rows rows row adds was

  row_given : (there : Option BucketRecord) (row : BucketRow) → IsCanonicalRow there → content ≡ content_of there → AddsRow bucket there sheet.rows rows
      → FindsRow row look_section → Contains rows row
  row_given None row canonical is adds finds =
      let same : Some finds.there ≡ None = one (Some finds.there) None finds.canonical tt (one_content row.name _ finds.looks ∙ is) in
      absurd (subst is_there same tt)
  row_given (Some there) row canonical is adds finds =
      let same : Some finds.there ≡ Some there = one (Some finds.there) (Some there) finds.canonical canonical (one_content row.name _ finds.looks ∙ is) in
      let name_is : row.name ≡ bucket = one_bucket row.name _ finds.looks in
      let created_is : row.created ≡ there.created = finds.created ∙ ap (λ r. (record_in there r).created) same in
      let row_is : row ≡ row_of bucket there = ap₂ make_row name_is created_is in
      subst (λ r. Contains rows r) (sym row_is) (puts_own bucket there sheet.rows rows adds)

  look_found : (there : Option BucketRecord) → IsCanonicalRow there → content ≡ content_of there → AddsRow bucket there sheet.rows rows
      → HasFound rows (with_section log k look_section)
  look_found there canonical is adds = record {
    untold = untold_more log k (Some note) look_section.shown page.found.untold;
    uncut = uncut_more log k (Some note) look_section.shown page.found.uncut;
    no_body = body_more log k (Some note) look_section.shown page.found.no_body;
    idle = all_more DoesNothing log k look_section page.found.idle (sheet.slot, bucket_register bucket, entry);
    rising = rows_rise there adds;
    found = rows_found there canonical is adds;
    given = λ row look in_log finds. elim (old_or_new log k look_section look in_log) [
      | inl was ↦ row_kept there row adds (page.found.given row look was finds)
      | inr same ↦ row_given there row canonical is adds (subst (λ s. FindsRow row s) (sym same) finds)
    ];
  }

  -- which names are done with after it
  looked_own : (a : List ℕ) → IsBucketName a → bucket_slot a ≡ sheet.slot → IsAmong (bucket_register a) sheet.names (own + 1)
      → (bucket_register a ≡ sheet.from) ⊎ WasLookedAt a (page.after ++ look_section ∷ [])
  looked_own a lawful at among = elim (less_or_same among.0 own among.1) [
    | inl less ↦ elim (page.looked a lawful at (among.0, less, among.2)) [
      | inl first ↦ inl first
      | inr was ↦ inr (looked_still a page.after look_section was)
    ]
    | inr same ↦ (
        let names_same : bucket_register bucket ≡ bucket_register a = sym named ∙ (get_or_default sheet.names own (bucket_register bucket) (bucket_register a) within
        ∙ (ap (λ i. slice_index_or sheet.names i (bucket_register a)) (sym same) ∙ among.2)) in
        inr (content, look_section, Contains-push page.after look_section, subst (λ b. LooksAtBucket b content look_section) (ap behind_two names_same) own_look)
        )
  ]

  only_own : LooksOnlyAt (λ a. IsBehind sheet.slot sheet.from a ⊎ ((bucket_slot a ≡ sheet.slot) × IsAmong (bucket_register a) sheet.names (own + 1)))
      (with_section log k look_section)
  only_own a seen look there looks = elim (old_or_new log k look_section look there) [
    | inl was ↦ elim (page.only a seen look was looks) [
      | inl behind ↦ inl behind
      | inr among ↦ inr (among.0, (among.1.0, (let below = among.1.1 in omega (arith, below)), among.1.2))
    ]
    | inr same ↦ (
        let is : a ≡ bucket = one_bucket a seen (subst (λ s. LooksAtBucket a seen s) (sym same) looks) in
        inr (ap bucket_slot is ∙ slot, (own, omega arith, subst (λ b. slice_index_or sheet.names own (bucket_register b) ≡ bucket_register b) (sym is) named))
        )
  ]

  pub bucket_looked : (there : Option BucketRecord) → IsCanonicalRow there → content ≡ content_of there → AddsRow bucket there sheet.rows rows
      → IsInPage (with_rows sheet rows) (own + 1) (with_section log k look_section)
  bucket_looked there canonical is adds = record {
    found = look_found there canonical is adds;
    asked = has_asked_still sheet.slot sheet.from log k look_section page.asked;
    page = page.page;
    before = page.before;
    section = page.section;
    after = page.after ++ look_section ∷ [];
    parts = parts_more log k look_section page.before page.section page.after page.parts;
    lists = page.lists;
    looked = looked_own;
    only = only_own;
  }
