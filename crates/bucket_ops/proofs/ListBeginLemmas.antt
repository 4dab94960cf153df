-- A list that has done nothing yet stands for the empty log.
use Rattle.std.proofs.Common.{ℕ, List, [], Contains, codes, inl, inr, refl, sym, subst, arith}
use Rattle.std.proofs.lemmas.List.Elements.{All-nil}
use Rattle.std.specs.List.Sorted.{IsStrictlySortedBy}
use Rattle.bucket_book.specs.Name.{IsBucketName}
use Rattle.receipts.specs.BucketLists.{FindsRow, row_order}
use Rattle.receipts.specs.Events.{IsUntold, Section, sections_of}
use Rattle.receipts.specs.Paging.{DoesNothing}
use Rattle.bucket_ops.specs.Lists.{HasFound, IsAtPage, IsBehind, IsUpTo}
use Rattle.bucket_ops.specs.Seeking.{IsFirstPage, Sheet}
use Rattle.receipts.proofs.OrderLemmas.{upto_itself}
use Rattle.bucket_ops.proofs.PageLemmas.{none_at_begin}

none_there : (section : Section) → Contains [] section → ⊥
none_there section there = let below = there.1 in omega (arith, below)

no_row_rises : IsStrictlySortedBy row_order []
unfolding IsStrictlySortedBy
no_row_rises = tt

nothing_found : HasFound [] []
nothing_found = record {
  untold = All-nil IsUntold;
  uncut = refl;
  no_body = refl;
  idle = All-nil DoesNothing;
  rising = no_row_rises;
  found = All-nil (λ row. (look : Section) × Contains (sections_of []) look × FindsRow row look);
  given = λ row look there finds. absurd (none_there look there);
}

none_behind : (bucket : List ℕ) → IsBucketName bucket → IsBehind 0 (codes "b/") bucket → ⊥
none_behind bucket lawful (inl below) = omega (arith, below)
none_behind bucket lawful (inr at) = none_at_begin bucket lawful at.1

pub begins_at_page : (sheet : Sheet) → IsFirstPage 0 [] sheet → IsAtPage sheet []
begins_at_page sheet first = record {
  found = subst (λ rows. HasFound rows []) (sym first.rows_are) nothing_found;
  asked = record {
    begins = subst (λ n. IsUpTo (codes "b/") n) (sym first.from_is) (upto_itself (codes "b/"));
    asked = λ bucket lawful behind. absurd (none_behind bucket lawful
        (subst (λ s. IsBehind s (codes "b/") bucket) first.slot_is (subst (λ n. IsBehind sheet.slot n bucket) first.from_is behind)));
  };
  only = λ bucket content look there looks. absurd (none_there look there);
}
