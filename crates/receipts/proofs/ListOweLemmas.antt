-- What listings owe stays owed while a log grows, and so does how a call ends at the look at its bucket.
use Rattle.std.proofs.Common.{◌∙◌, ℕ, List, All, inl, inr, subst, sym}
use Rattle.call_types.specs.declared.reply.Reply.{Reply}
use Rattle.receipts.specs.BucketLists.{BucketsAreListed, ListBucketsOwes}
use Rattle.receipts.specs.Events.{Log}
use Rattle.receipts.specs.Listing.{PageOwes}
use Rattle.receipts.specs.Looks.{EndsAtLook, TellsSpent}
use Rattle.receipts.specs.Pages.{PageRule}
use Rattle.receipts.specs.Paging.{DoesNothing, ListingIsBarred, ListingIsRefused}
use Rattle.receipts.proofs.GrowLemmas.{Grows}

pub spent : (slot : ℕ) (reply : Reply) (log later : Log) → Grows log later → TellsSpent slot reply log → TellsSpent slot reply later
spent slot reply log later g x = record { spent = g.calls _ x.spent; told = x.told }

pub ends_at_look : (bucket : List ℕ) (reply : Reply) (log later : Log) → Grows log later → EndsAtLook bucket reply log → EndsAtLook bucket reply later
ends_at_look bucket reply log later g (inl x) = inl (record { look = x.look; sections = g.sections ∙ x.sections; lacks = x.lacks; told = x.told })
ends_at_look bucket reply log later g (inr (inl x)) =
    inr (inl (record { look = x.look; sections = g.sections ∙ x.sections; idle = x.idle; refuses = x.refuses }))
ends_at_look bucket reply log later g (inr (inr x)) = inr (inr (record { sections = g.sections ∙ x.sections; barred = spent _ reply log later g x.barred }))

listing_barred : (reply : Reply) (log later : Log) → Grows log later → ListingIsBarred reply log → ListingIsBarred reply later
listing_barred reply log later g x = record {
  idle = subst (All DoesNothing) (sym g.sections) x.idle;
  slot = x.slot;
  in_store = x.in_store;
  barred = spent x.slot reply log later g x.barred;
}

pub list_buckets_owes : (reply : Reply) (log later : Log) → Grows log later → ListBucketsOwes reply log → ListBucketsOwes reply later
list_buckets_owes reply log later g (inl x) = inl (x.0, x.1, subst (BucketsAreListed x.0) (sym g.sections) x.2)
list_buckets_owes reply log later g (inr (inl x)) = inr (inl (subst (ListingIsRefused reply) (sym g.sections) x))
list_buckets_owes reply log later g (inr (inr x)) = inr (inr (listing_barred reply log later g x))

pub page_owes : (rule : PageRule) (bucket : List ℕ) (reply : Reply) (log later : Log) → Grows log later → PageOwes rule bucket reply log → PageOwes rule bucket reply later
page_owes rule bucket reply log later g (inl x) = inl (ends_at_look bucket reply log later g x)
page_owes rule bucket reply log later g (inr x) = inr (record {
  look = x.look;
  rest = x.rest;
  sections = g.sections ∙ x.sections;
  mode = x.mode;
  finds = x.finds;
  tells = elim x.tells [
    | inl listed ↦ inl listed
    | inr (inl refused) ↦ inr (inl refused)
    | inr (inr barred) ↦ inr (inr (listing_barred reply log later g barred))
  ];
})
