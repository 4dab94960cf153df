-- Logs in which nothing was told yet.
use Rattle.std.proofs.Common.{◌<◌, ◌∙◌, ℕ, zero, suc, [], ◌∷◌, ◌++◌, All, Option, Some, None, MatchOption, inl, ap, refl, subst, sym, arith}
use Rattle.std.proofs.lemmas.List.Elements.{All-append}
use Rattle.audit_trail.specs.declared.entry.Entry.{Entry}
use Rattle.call_types.specs.declared.feed.Cut.TheVariants.{NoMemory}
use Rattle.desk_base.specs.Answering.{Task}
use Rattle.drive_base.specs.declared.plan.SetPlan.{SetPlan}
use Rattle.slot_core.specs.Stubs.{Says}
use Rattle.slot_core.specs.declared.stub.Stub.{Stub}
use Rattle.receipts.specs.Events.{IsQuiet, IsUntold, Log, Shown, body_of, cuts_of, sections_of}
use Rattle.receipts.specs.Events.Event.{Turned}
use Rattle.receipts.specs.Paying.{ChangesNothing, LeavesAll, Pays}
use Rattle.receipts.proofs.GrowLemmas.{quiet_bodies, quiet_cuts, quiet_sections, quiet_untold}
use Rattle.receipts.proofs.JoinLemmas.{bodies_join, cuts_join, sections_join}
use Rattle.op_steps.specs.Notes.{note_of, noted}
use Rattle.op_steps.proofs.TellLemmas.{none_pays, none_told}
use Rattle.object_ops.specs.Reading.{IsFresh}

-- of one item all is so that is so of it
pub one_all : {A : Type 0} (P : A → Type 0) (x : A) → P x → All P (x ∷ [])
one_all P x is zero d l = is
one_all P x is (suc k) d l = let below : suc k < 1 = l in absurd (omega arith)

pub none_all : {A : Type 0} (P : A → Type 0) → All P []
none_all P k d l = let below : k < 0 = l in absurd (omega arith)

-- an entry leaves all as it was, if there is one
idle_entry : (P : Entry → Type 0) (entry : Option Entry) → ((e : Entry) → P e → LeavesAll e.deed) → MatchOption entry (Unit {0}) P
    → MatchOption entry (Unit {0}) (λ e. LeavesAll e.deed)
idle_entry P None leaves says = tt
idle_entry P (Some entry) leaves says = leaves entry says

-- a section whose entry leaves all as it was keeps a log fresh
pub turn_fresh : (P : Entry → Type 0) (k : ℕ) (stub : Option Stub) (shown : Shown) → ((e : Entry) → P e → LeavesAll e.deed) → Says stub P
    → IsFresh (Turned k (noted stub) shown ∷ [])
turn_fresh P k None shown leaves says = record {
  untold = one_all IsUntold (Turned k None shown) tt;
  uncut = refl;
  untaken = refl;
  idle = none_all ChangesNothing;
}
turn_fresh P k (Some made) shown leaves says = record {
  untold = one_all IsUntold (Turned k (noted (Some made)) shown) tt;
  uncut = refl;
  untaken = refl;
  idle = one_all ChangesNothing (record { note = note_of made; shown = shown }) (idle_entry P made.entry leaves says);
}

pub more_fresh : (log more : Log) → IsFresh log → IsFresh more → IsFresh (log ++ more)
more_fresh log more x y = record {
  untold = All-append IsUntold log more x.untold y.untold;
  uncut = cuts_join log more ∙ (ap (λ l. l ++ cuts_of more) x.uncut ∙ y.uncut);
  untaken = bodies_join log more ∙ (ap (λ l. l ++ body_of more) x.untaken ∙ y.untaken);
  idle = subst (All ChangesNothing) (sym (sections_join log more)) (All-append ChangesNothing (sections_of log) (sections_of more) x.idle y.idle);
}

-- quiet events keep it fresh
pub quiet_fresh : (log more : Log) → All IsQuiet more → IsFresh log → IsFresh (log ++ more)
quiet_fresh log more quiet x = record {
  untold = All-append IsUntold log more x.untold (quiet_untold more quiet);
  uncut = quiet_cuts log more quiet ∙ x.uncut;
  untaken = quiet_bodies log more quiet ∙ x.untaken;
  idle = subst (All ChangesNothing) (sym (quiet_sections log more quiet)) x.idle;
}

-- want of memory pays for itself
pub fresh_pays : (set : SetPlan) (task : Task) (log : Log) → IsFresh log → Pays set task (Some NoMemory) log
fresh_pays set task log x = none_pays set task log x.uncut (none_told log x.untold) (inl x.idle)
