-- How a call ends that commits a change to a key or a bucket stays so while a log grows.
use Rattle.std.proofs.Common.{◌∙◌, ℕ, List, [], ◌∷◌, inl, inr}
use Rattle.call_types.specs.declared.act.Act.{Act}
use Rattle.call_types.specs.declared.names.Key.{Key}
use Rattle.call_types.specs.declared.reply.Reply.{Reply}
use Rattle.receipts.specs.Committing.{EndsAtCommit, HasLooked, KeyIsBarred, KeyIsCommitted, Target, act_target}
use Rattle.receipts.specs.Deeds.{DeedOwes}
use Rattle.receipts.specs.Events.{Log, Section}
use Rattle.receipts.proofs.GrowLemmas.{Grows}
use Rattle.receipts.proofs.ListOweLemmas.{ends_at_look, spent}

-- the looks
pub has_looked : (bucket : List ℕ) (log later : Log) → Grows log later → HasLooked bucket log → HasLooked bucket later
has_looked bucket log later g x = record { look = x.look; sections = g.sections ∙ x.sections; mode = x.mode; finds = x.finds }

pub key_barred : (at : Key) (reply : Reply) (log later : Log) → Grows log later → KeyIsBarred at reply log → KeyIsBarred at reply later
key_barred at reply log later g x = record { looked = has_looked at.bucket log later g x.looked; barred = spent _ reply log later g x.barred }

-- commits, and calls that are no more than a look and a commit
pub ends_at_commit : (target : Target) (before : List Section) (reply : Reply) (log later : Log) → Grows log later
    → EndsAtCommit target before reply log → EndsAtCommit target before reply later
ends_at_commit target before reply log later g x = record { own = x.own; sections = g.sections ∙ x.sections; ends = x.ends }

pub key_committed : (at : Key) (now : ℕ) (IsAct : Act → Type 0) (reply : Reply) (log later : Log) → Grows log later
    → KeyIsCommitted at now IsAct reply log → KeyIsCommitted at now IsAct reply later
key_committed at now IsAct reply log later g x = record {
  look = x.look;
  mode = x.mode;
  bucket = x.bucket;
  commit = ends_at_commit (act_target at x.mode now IsAct) (x.look ∷ []) reply log later g x.commit;
}

pub deed_owes : (at : Key) (act : Act) (now : ℕ) (reply : Reply) (log later : Log) → Grows log later
    → DeedOwes at act now reply log → DeedOwes at act now reply later
deed_owes at act now reply log later g (inl x) = inl (ends_at_look at.bucket reply log later g x)
deed_owes at act now reply log later g (inr (inl x)) = inr (inl (key_committed at now _ reply log later g x))
deed_owes at act now reply log later g (inr (inr x)) = inr (inr (key_barred at reply log later g x))
