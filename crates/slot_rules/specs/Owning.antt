-- A section's own change: its base, its id, its numbers and its draft.
use Rattle.std.specs.Prelude.{◌≡◌, ◌≢◌, ℕ, ◌+◌, IfOk, List, Option, None, Result, Some}
use Rattle.call_types.specs.declared.reply.Reply.{Reply}
use Rattle.stamp_id.specs.declared.stamp.ChangeId.{ChangeId}
use Rattle.stamp_id.specs.declared.version.VersionId.{VersionId}
use Rattle.register_file.specs.Record.{IsContent}
use Rattle.register_file.specs.declared.record.Base.{Base}
use Rattle.register_file.specs.declared.record.Next.{Next}
use Rattle.register_core.specs.Drafts.{IsDraftAfterDraft, IsDraftAfterLook}
use Rattle.register_core.specs.Found.{content_of}
use Rattle.register_core.specs.declared.drafts.Draft.{Draft}
use Rattle.register_core.specs.declared.looks.Looked.{Looked}
use Rattle.slot_rules.specs.Deeds.{call_of, name_of}
use Rattle.slot_rules.specs.Planning.{DoesOver, adds_of}
use Rattle.slot_rules.specs.declared.commit.Commit.{Commit}
use Rattle.slot_rules.specs.declared.ready.Ready.{Ready}
use Rattle.slot_rules.specs.declared.owning.Own.{Own}
use Rattle.slot_rules.specs.declared.owning.OwnIds.{OwnIds}
use Rattle.slot_rules.specs.declared.site.Site.{Site}

-- the base on which a section works: that of its look, or the one that completing what was pending leaves
abbrev pub base_after : Base → Option Draft → Base
base_after base None = base
base_after base (Some draft) = draft.value

-- a slot in one of its lives, from which numbers and ids are drawn
pub record SlotLife : Type 0 where
  pub index : ℕ
  pub term : ℕ

-- that in which a section is done
abbrev pub life_at : Site → SlotLife
life_at site = record { index = site.index; term = site.term }

-- a section's own change is that of the put which it ends, or the next number of the slot after so many
abbrev pub IsOwnChange : SlotLife → ℕ → Option VersionId → ChangeId → Type 0
IsOwnChange life last None change = (change.0.term ≡ life.term) × (change.0.seq ≡ last + 1)
IsOwnChange life last (Some id) change = change ≡ id.change

-- its id in the slot
pub record IsOwnId (life : SlotLife) (last : ℕ) (put : Option VersionId) (id : VersionId) : Type 0 where
  pub change : IsOwnChange life last put id.change
  pub slot : id.slot ≡ life.index

-- the sequence number of its ballot, which is drawn after it
abbrev pub own_seq : ℕ → Option VersionId → ℕ
own_seq last None = last + 2
own_seq last (Some id) = last + 1

-- how many numbers are drawn to complete what is pending
abbrev pub again_takes : Option Draft → ℕ
again_takes None = 0
again_takes (Some draft) = 1

-- the id that it has, by what is completed first
abbrev pub id_over : OwnIds → Option Draft → VersionId
id_over ids None = ids.alone
id_over ids (Some draft) = ids.after

-- its draft: over what the look settled, or over what is completed first
abbrev pub IsOwnDraft : Looked → Option Draft → Next → Draft → Type 0
IsOwnDraft looked None own draft = IsDraftAfterLook looked own draft
IsOwnDraft looked (Some first) own draft = IsDraftAfterDraft first own draft

-- a change may be drafted over what a section is ready to complete
abbrev pub IsDraftable : Looked → Option Draft → Type 0
IsDraftable looked None = IsContent looked.base.content
IsDraftable looked (Some first) = IsContent first.value.content × (first.longest ≡ looked.longest)

-- the own change of a deed that leaves another content than the one that stands after the completion of what is pending
pub record IsOwnOf (site : Site) (last : ℕ) (ready : Ready) (deed : Commit) (put : Option VersionId) (now : ℕ) (reply : Reply) (own : Own) : Type 0 where
  pub next : Next
  pub drafted : IsOwnDraft ready.looked ready.first next own.draft
  pub parent : next.parent ≡ (base_after ready.looked.base ready.first).change
  pub change : IsOwnChange (life_at site) last put next.change
  pub change_is : own.change ≡ next.change
  pub term : next.ballot.term ≡ site.term
  pub seq : next.ballot.seq ≡ own_seq last put
  pub seq_is : own.seq ≡ own_seq last put
  pub adds : next.adds ≡ adds_of deed
  pub id : VersionId
  pub id_change : id.change ≡ next.change
  pub id_slot : id.slot ≡ site.index
  pub does : DoesOver (name_of deed) (content_of ready.looked.base ready.looked.pending) (call_of deed (Some next.change) now) id reply next.content
  pub changed : next.content ≢ content_of ready.looked.base ready.looked.pending

-- where a call of the deed leaves another content than the register's, the own change is one that leaves it
abbrev pub OwnLeaves : {E : Type 0} → Site → ℕ → Ready → Commit → Option VersionId → VersionId → List ℕ → Result Own E → Type 0
OwnLeaves site last ready deed put id content result = (now : ℕ) (reply : Reply) → (
    let found : List ℕ = content_of ready.looked.base ready.looked.pending in
    DoesOver (name_of deed) found (call_of deed (Some id.change) now) id reply content
    → content ≢ found
    → IfOk result (λ own. (is : IsOwnOf site last ready deed put now reply own) × (is.next.content ≡ content)))
