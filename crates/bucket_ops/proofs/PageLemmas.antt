-- What a page of names decides, once all its names are done with.
use Rattle.std.proofs.Common.{◌≡◌, ◌≢◌, ◌⊎◌, ◌∙◌, ℕ, ◌+◌, ◌-◌, ◌<◌, ◌≤◌, List, [], ◌∷◌, All, codes, length, slice_index_or, inl, inr, refl, sym, subst, subst₂, arith}
use Rattle.std.proofs.lemmas.List.{get_or_default}
use Rattle.std.proofs.lemmas.List.Elements.{All-get_or}
use Rattle.bucket_book.specs.Name.{IsBucketName}
use Rattle.drive_base.specs.Names.{IsBefore, byte_order}
use Rattle.std.specs.declared.cmp.Ordering.TheVariants.{Less}
use Rattle.receipts.specs.BucketLists.{BucketsAreListed}
use Rattle.receipts.specs.Events.{Log, sections_of}
use Rattle.receipts.specs.Paging.{IsAskedFor, ListsPage}
use Rattle.receipts.specs.Registers.{bucket_register, bucket_slot}
use Rattle.receipts.proofs.RegisterLemmas.{bucket_slot_below}
use Rattle.bucket_ops.specs.Lists.{HasFound, IsAmong, IsAtPage, IsBehind, IsInPage, IsUpTo, LooksOnlyAt, WasLookedAt}
use Rattle.bucket_ops.specs.Seeking.{EndsSlot, IsFirstPage, IsNextPage, IsPassed, Sheet, page_names}
use Rattle.receipts.proofs.OrderLemmas.{before_trans, never_itself, sides, upto_itself, upto_last, upto_trans}
use Rattle.bucket_ops.proofs.OrderLemmas.{behind_begin}

-- the names up to a place are done with where those up to an earlier one are, and the others are passed over
looked_more : (sheet : Sheet) (done end : ℕ) (log : Log) (page : IsInPage sheet done log) → ((k : ℕ) (d : List ℕ) → done ≤ k → k < end
    → IsPassed sheet.slot sheet.from (slice_index_or sheet.names k d)) → (bucket : List ℕ) → IsBucketName bucket → bucket_slot bucket ≡ sheet.slot
    → IsAmong (bucket_register bucket) sheet.names end → (bucket_register bucket ≡ sheet.from) ⊎ WasLookedAt bucket page.after
looked_more sheet done end log page passed bucket lawful slot among = elim (sides_of among.0 done) [
  | inl below ↦ page.looked bucket lawful slot (among.0, below, among.2)
  | inr above ↦ inl (sym among.2 ∙ passed among.0 (bucket_register bucket) above among.1 bucket lawful slot among.2)
]
  where
    sides_of : (k n : ℕ) → (k < n) ⊎ (n ≤ k)
    sides_of k n = grind arith

only_more : (sheet : Sheet) (done end : ℕ) (log : Log) → done ≤ end → IsInPage sheet done log → LooksOnlyAt (λ bucket. IsBehind sheet.slot sheet.from bucket
    ⊎ ((bucket_slot bucket ≡ sheet.slot) × IsAmong (bucket_register bucket) sheet.names end)) log
only_more sheet done end log long page bucket content look there looks = elim (page.only bucket content look there looks) [
  | inl behind ↦ inl behind
  | inr among ↦ inr (among.0, (among.1.0, (let below = among.1.1 in omega (arith, below, long)), among.1.2))
]

pub passed_more : (sheet : Sheet) (done end : ℕ) (log : Log) → done ≤ end → IsInPage sheet done log → ((k : ℕ) (d : List ℕ) → done ≤ k → k < end
    → IsPassed sheet.slot sheet.from (slice_index_or sheet.names k d)) → IsInPage sheet end log
passed_more sheet done end log long page passed = record {
  found = page.found;
  asked = page.asked;
  page = page.page;
  before = page.before;
  section = page.section;
  after = page.after;
  parts = page.parts;
  lists = page.lists;
  looked = looked_more sheet done end log page passed;
  only = only_more sheet done end log long page;
}

-- no bucket's register stands up to the begin of their names
pub none_at_begin : (bucket : List ℕ) → IsBucketName bucket → IsUpTo (bucket_register bucket) (codes "b/") → ⊥
none_at_begin [] lawful upto = let long = lawful.long in omega (arith, long)
none_at_begin (byte ∷ rest) lawful upto = upto refl

module _ (sheet : Sheet) (log : Log) (page : IsInPage sheet (length sheet.names) log) where
  abbrev last : List ℕ → List ℕ
  last d = slice_index_or sheet.names (length sheet.names - 1) d

  -- a bucket behind the begin of the page that the page reaches was asked for
  reached : (bucket : List ℕ) → IsBucketName bucket → bucket_slot bucket ≡ sheet.slot → IsBefore sheet.from (bucket_register bucket)
      → (length sheet.names ≡ page_names → All (λ given. IsBefore given (bucket_register bucket)) sheet.names → ⊥)
      → IsAskedFor (bucket_slot bucket) (bucket_register bucket) (sections_of log)
  reached bucket lawful slot behind ends = record {
    page = record { from = sheet.from; most = page_names; names = sheet.names };
    before = page.before;
    asked = page.section;
    after = page.after;
    parts = page.parts;
    asks = record {
      lists = subst (λ s. ListsPage s (record { from = sheet.from; most = page_names; names = sheet.names }) page.section) (sym slot) page.lists;
      reaches = record {
        begins = λ before. never_itself sheet.from (before_trans sheet.from (bucket_register bucket) sheet.from behind before);
        ends = ends;
      };
    };
    looks = λ shown. elim (page.looked bucket lawful slot shown) [
      | inl first ↦ absurd (never_itself sheet.from (subst (λ n. IsBefore sheet.from n) first behind))
      | inr was ↦ was
    ];
  }

  last_before : (d bucket : List ℕ) → 0 < length sheet.names → All (λ given. IsBefore given (bucket_register bucket)) sheet.names
      → IsBefore (last d) (bucket_register bucket)
  last_before d bucket some all = All-get_or (λ given. IsBefore given (bucket_register bucket)) sheet.names (length sheet.names - 1) d (omega (arith, some)) all

  from_last : (d : List ℕ) → 0 < length sheet.names → IsUpTo sheet.from (last d)
  from_last d some = All-get_or (λ name. byte_order name sheet.from ≢ Less) sheet.names (length sheet.names - 1) d (omega (arith, some)) page.page.begins

  begin_last : (d : List ℕ) → 0 < length sheet.names → IsUpTo (codes "b/") (last d)
  begin_last d some = upto_trans (codes "b/") sheet.from (last d) page.asked.begins (from_last d some)

  -- the buckets up to the last name of the page are done with
  asked_page : (d : List ℕ) → 0 < length sheet.names → (bucket : List ℕ) → IsBucketName bucket → IsBehind sheet.slot (last d) bucket
      → IsAskedFor (bucket_slot bucket) (bucket_register bucket) (sections_of log)
  asked_page d some bucket lawful (inl below) = page.asked.asked bucket lawful (inl below)
  asked_page d some bucket lawful (inr at) = elim (sides (bucket_register bucket) sheet.from) [
    | inl upto ↦ page.asked.asked bucket lawful (inr (at.0, upto))
    | inr behind ↦ reached bucket lawful at.0 behind (λ full all. at.1 (last_before d bucket some all))
  ]

  only_page : (d : List ℕ) → 0 < length sheet.names → LooksOnlyAt (IsBehind sheet.slot (last d)) log
  only_page d some bucket content look there looks = elim (page.only bucket content look there looks) [
    | inl (inl below) ↦ inl below
    | inl (inr at) ↦ inr (at.0, upto_trans (bucket_register bucket) sheet.from (last d) at.1 (from_last d some))
    | inr among ↦ inr (among.0, subst (λ n. IsUpTo n (last d)) among.1.2 (among_upto (bucket_register bucket) among.1.0 among.1.1))
  ]
    where
      among_upto : (n : List ℕ) (k : ℕ) → k < length sheet.names → IsUpTo (slice_index_or sheet.names k n) (last d)
      among_upto n k inside = subst (λ l. IsUpTo (slice_index_or sheet.names k n) l)
          (get_or_default sheet.names (length sheet.names - 1) n d (omega (arith, some)))
          (upto_last sheet.names k n page.page.rising inside)

  pub at_next_page : (later : Sheet) → IsNextPage sheet later → IsAtPage later log
  at_next_page later next =
      let from_is : last [] ≡ later.from = sym (next.from_is []) in
      let slot_is : sheet.slot ≡ later.slot = sym next.slot_is in
      record {
        found = subst (λ rows. HasFound rows log) (sym next.rows_are) page.found;
        asked = record {
          begins = subst (λ n. IsUpTo (codes "b/") n) from_is (begin_last [] next.some);
          asked = subst₂ (λ s n. (bucket : List ℕ) → IsBucketName bucket → IsBehind s n bucket
              → IsAskedFor (bucket_slot bucket) (bucket_register bucket) (sections_of log)) slot_is from_is (asked_page [] next.some);
        };
        only = subst₂ (λ s n. LooksOnlyAt (IsBehind s n) log) slot_is from_is (only_page [] next.some);
      }

  -- where the slot's names end, its buckets are done with
  asked_slot : EndsSlot sheet.names → (bucket : List ℕ) → IsBucketName bucket → bucket_slot bucket < sheet.slot + 1
      → IsAskedFor (bucket_slot bucket) (bucket_register bucket) (sections_of log)
  asked_slot ends bucket lawful below = elim (less_or_same (bucket_slot bucket) sheet.slot below) [
    | inl less ↦ page.asked.asked bucket lawful (inl less)
    | inr same ↦ elim (sides (bucket_register bucket) sheet.from) [
      | inl upto ↦ page.asked.asked bucket lawful (inr (same, upto))
      | inr behind ↦ reached bucket lawful same behind (λ full all. never_full ends full all)
    ]
  ]
    where
      less_or_same : (a b : ℕ) → a < b + 1 → (a < b) ⊎ (a ≡ b)
      less_or_same a b below = grind (arith, below)

      never_full : EndsSlot sheet.names → length sheet.names ≡ page_names → All (λ given. IsBefore given (bucket_register bucket)) sheet.names → ⊥
      never_full (inl short) full all = omega (arith, short, full)
      never_full (inr without) full all = never_itself (last []) (before_trans (last []) (bucket_register bucket) (last [])
          (last_before [] bucket without.some all) (behind_begin (last []) bucket (begin_last [] without.some) (λ other. without.none [] other)))

  only_slot : LooksOnlyAt (λ bucket. bucket_slot bucket < sheet.slot + 1) log
  only_slot bucket content look there looks = elim (page.only bucket content look there looks) [
    | inl (inl below) ↦ omega (arith, below)
    | inl (inr at) ↦ (let same = at.0 in omega (arith, same))
    | inr among ↦ (let same = among.0 in omega (arith, same))
  ]

  pub at_next_slot : (later : Sheet) → EndsSlot sheet.names → IsFirstPage (sheet.slot + 1) sheet.rows later → IsAtPage later log
  at_next_slot later ends first = record {
    found = subst (λ rows. HasFound rows log) (sym first.rows_are) page.found;
    asked = record {
      begins = subst (λ n. IsUpTo (codes "b/") n) (sym first.from_is) (upto_itself (codes "b/"));
      asked = λ bucket lawful behind. asked_slot ends bucket lawful (first_behind bucket later ends first lawful behind);
    };
    only = λ bucket content look there looks. inl (subst (λ s. bucket_slot bucket < s) (sym first.slot_is) (only_slot bucket content look there looks));
  }
    where
      first_behind : (bucket : List ℕ) (later : Sheet) → EndsSlot sheet.names → IsFirstPage (sheet.slot + 1) sheet.rows later → IsBucketName bucket
          → IsBehind later.slot later.from bucket → bucket_slot bucket < sheet.slot + 1
      first_behind bucket later ends first lawful (inl below) = subst (λ s. bucket_slot bucket < s) first.slot_is below
      first_behind bucket later ends first lawful (inr at) =
          absurd (none_at_begin bucket lawful (subst (λ n. IsUpTo (bucket_register bucket) n) first.from_is at.1))

  pub all_listed : EndsSlot sheet.names → sheet.slot ≡ 63 → BucketsAreListed sheet.rows (sections_of log)
  all_listed ends last_slot = record {
    asked = λ bucket lawful. asked_slot ends bucket lawful (let below = bucket_slot_below bucket in omega (arith, below, last_slot));
    rising = page.found.rising;
    found = page.found.found;
    given = page.found.given;
    idle = page.found.idle;
  }
