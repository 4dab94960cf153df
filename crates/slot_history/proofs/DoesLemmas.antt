-- What a call does opens no upload but the one that is drawn, and stores a part of an open upload only.
use Rattle.std.proofs.Common.{◌≡◌, ◌≢◌, ◌⊎◌, inl, inr, ℕ, Bool, true, false, List, refl, sym, subst, ◌∙◌}
use Rattle.stamp_id.specs.declared.version.VersionId.{VersionId}
use Rattle.call_types.specs.declared.act.Act.{Act}
use Rattle.call_types.specs.declared.act.Brief.{Brief}
use Rattle.call_types.specs.declared.act.Brief.TheVariants as brief
use Rattle.call_types.specs.declared.names.Key.{Key}
use Rattle.call_types.specs.declared.names.Mode.{Mode}
use Rattle.call_types.specs.declared.reply.Reply.{Reply}
use Rattle.call_types.specs.declared.version.PartRecord.{PartRecord}
use Rattle.version_list.specs.declared.state.KeyState.{KeyState}
use Rattle.version_list.proofs.LawProofs.{injective}
use Rattle.upload_book.specs.Storing.{is_open}
use Rattle.slot_history.specs.Contents.{HasOpen}
use Rattle.slot_history.specs.Doing.{Does, DoesChange, DoesPart}
use Rattle.slot_history.specs.Names.{key_name, part_name}
use Rattle.slot_history.specs.State.{Registers}
use Rattle.slot_history.proofs.NameLemmas.{bucket_not_key, bucket_not_part, key_not_part, part_names_tell}
use Rattle.slot_history.proofs.StepLemmas.{open_after}

-- ---- uploads

-- a content that stays opens no upload
stays_opens : (old new : List ℕ) (id upload : VersionId) → new ≡ old → HasOpen new upload → HasOpen old upload ⊎ (id ≡ upload)
stays_opens old new id upload stays h = inl (subst (λ (content : List ℕ). HasOpen content upload) stays h)

-- a change of a key opens no upload but the one that is drawn
change_opens :
    (registers : Registers) (name : List ℕ) (at : Key) (mode : Mode) (act : Act) (id : VersionId) (now : ℕ) (reply : Reply) (new : List ℕ)
    → DoesChange registers name at mode act id now reply new → (upload : VersionId) → HasOpen new upload
    → HasOpen (registers name).content upload ⊎ (id ≡ upload)
change_opens registers name at mode act id now reply new d upload h =
    let same : h.state ≡ d.new_state = injective h.state d.new_state h.spells.canonical d.spells_new.canonical (sym h.spells.is ∙ d.spells_new.is) in
    let opened : is_open upload d.new_state ≡ true = subst (λ (s : KeyState). is_open upload s ≡ true) same h.opened in
    elim (open_after upload d.old_state mode act id now reply d.new_state d.step opened) [
      | inl before ↦ inl record { state = d.old_state; spells = d.spells_old; opened = before }
      | inr drawn ↦ inr drawn
    ]

-- what a call does to a key opens no upload but the one that is drawn
pub does_opens :
    (registers : Registers) (name : List ℕ) (call : Brief) (id : VersionId) (reply : Reply) (new : List ℕ) → Does registers name call id reply new
    → (at : Key) (upload : VersionId) → name ≡ key_name at → HasOpen new upload → HasOpen (registers name).content upload ⊎ (id ≡ upload)
does_opens registers name (brief.Read key mode pick) id reply new d at upload is h = stays_opens (registers name).content new id upload d.stays h
does_opens registers name (brief.Gather key of parts) id reply new d at upload is h = stays_opens (registers name).content new id upload d.stays h
does_opens registers name (brief.Change key mode act change now) id reply new d at upload is h =
    change_opens registers name key mode act id now reply new d upload h
does_opens registers name (brief.Part key of number part change now) id reply new d at upload is h = absurd (key_not_part at key of number (sym is ∙ d.name_is))
does_opens registers name (brief.MakeBucket named change now) id reply new d at upload is h = absurd (bucket_not_key named at (sym d.name_is ∙ is))
does_opens registers name (brief.SetMode named mode change now) id reply new d at upload is h = absurd (bucket_not_key named at (sym d.name_is ∙ is))
does_opens registers name (brief.Answer told) id reply new d at upload is h = absurd d

-- ---- parts

-- a part that is stored is that of an open upload
stores_open :
    (registers : Registers) (name : List ℕ) (at : Key) (upload : VersionId) (number : ℕ) (part : PartRecord) (now : ℕ) (reply : Reply) (new : List ℕ)
    → DoesPart registers name at upload number part now reply new → new ≢ (registers name).content → HasOpen (registers (key_name at)).content upload
stores_open registers name at upload number part now reply new d changed = by (is_open upload d.state) refl
  where
    by : (b : Bool) → is_open upload d.state ≡ b → HasOpen (registers (key_name at)).content upload
    by true opened = record { state = d.state; spells = d.spells; opened = opened }
    by false closed = absurd (changed (d.leaves closed))

-- a call that changes what is under the name of a part finds its upload open
pub does_part :
    (registers : Registers) (name : List ℕ) (call : Brief) (id : VersionId) (reply : Reply) (new : List ℕ) → Does registers name call id reply new
    → new ≢ (registers name).content → (at : Key) (upload : VersionId) (number : ℕ) → name ≡ part_name at upload number
    → HasOpen (registers (key_name at)).content upload
does_part registers name (brief.Read key mode pick) id reply new d changed at upload number is = absurd (changed d.stays)
does_part registers name (brief.Gather key of parts) id reply new d changed at upload number is = absurd (changed d.stays)
does_part registers name (brief.Change key mode act change now) id reply new d changed at upload number is =
    absurd (key_not_part key at upload number (sym d.name_is ∙ is))
does_part registers name (brief.Part key of more part change now) id reply new d changed at upload number is =
    let tells = part_names_tell key at of upload more number (sym d.name_is ∙ is) in
    let opened = stores_open registers name key of more part now reply new d changed in
    subst (λ (n : List ℕ). HasOpen (registers n).content upload) tells.1
    (subst (λ (u : VersionId). HasOpen (registers (key_name key)).content u) tells.0 opened)
does_part registers name (brief.MakeBucket named change now) id reply new d changed at upload number is =
    absurd (bucket_not_part named at upload number (sym d.name_is ∙ is))
does_part registers name (brief.SetMode named mode change now) id reply new d changed at upload number is =
    absurd (bucket_not_part named at upload number (sym d.name_is ∙ is))
does_part registers name (brief.Answer told) id reply new d changed at upload number is = absurd d
