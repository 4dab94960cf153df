-- What is planned of the store of a part.
use Rattle.std.proofs.Common.{◌≡◌, ◌≢◌, ◌≤◌, ◌∙◌, ℕ, Bool, true, false, List, [], Option, None, Some, length, ap, subst, sym, refl, inl, inr, arith}
use Rattle.std.specs.Prelude.{IfSome, MatchBool, nat_eq, unwrap_or, ◌&&◌}
use Rattle.std.specs.Str.{bytes_eq}
use Rattle.std.proofs.lemmas.Bool.{eqb-true}
use Rattle.std.proofs.lemmas.Slice.Eq.{bytes_eq-Decides}
use Rattle.stamp_id.specs.declared.version.VersionId.{VersionId}
use Rattle.call_types.specs.Refusals.{refusal_of}
use Rattle.call_types.specs.declared.names.Key.{Key as KeyName}
use Rattle.call_types.specs.declared.refusal.KeyRefusal.{KeyRefusal}
use Rattle.call_types.specs.declared.refusal.Refusal.TheVariants.{NoSuchUpload}
use Rattle.call_types.specs.declared.reply.Reply.TheVariants.{Refused, Stored}
use Rattle.call_types.specs.declared.version.PartRecord.{PartRecord}
use Rattle.upload_book.specs.Content.{IsCanonicalRow, content_of}
use Rattle.upload_book.specs.Laws.{ContentIsInjective}
use Rattle.upload_book.specs.Storing.{Leaves, etag_of, stored_at}
use Rattle.upload_book.specs.Table.{IsCanonical}
use Rattle.upload_book.proofs.Lawful.{length_bytes}
use Rattle.version_list.specs.Naming.{same_id}
use Rattle.version_list.proofs.NamingLemmas.{same_id-true}
use Rattle.slot_history.specs.Contents.{HasOpen, SpellsPart}
use Rattle.slot_history.specs.Doing.{DoesPart}
use Rattle.slot_history.specs.Names.{key_name, part_name}
use Rattle.slot_history.specs.State.{IsHeld, Registers}
use Rattle.slot_history.proofs.NameLemmas.{bucket_not_part, key_not_part, part_names_tell}
use Rattle.slot_rules.specs.Planning.{IsPlanned, SpellsStored}
use Rattle.slot_rules.specs.declared.commit.Commit.TheVariants.{Part}
use Rattle.slot_rules.specs.declared.planning.Planned.{Planned}

-- the key of a part whose name is held has the upload open
pub held_open : (registers : Registers) (at : KeyName) (upload : VersionId) (number : ℕ) → IsHeld registers (part_name at upload number)
    → HasOpen (registers (key_name at)).content upload
held_open registers at upload number held = elim held [
  | inl bucket ↦ absurd (bucket_not_part bucket.0 at upload number (sym bucket.1))
  | inr other ↦ elim other [
    | inl key ↦ absurd (key_not_part key.0 at upload number (sym key.1))
    | inr o ↦
        let tells = part_names_tell at o.at upload o.upload number o.number o.name_is in
        subst (λ (n : List ℕ). HasOpen (registers n).content upload) (sym tells.1)
        (subst (λ (u : VersionId). HasOpen (registers (key_name o.at)).content u) (sym tells.0) o.opened)
  ]
]

-- a part's content isn't long
pub part_short : (content : List ℕ) (row : Option PartRecord) → IsCanonicalRow row → content ≡ content_of row → length content ≤ 80
part_short content None canonical is = let long = ap (λ (bytes : List ℕ). length bytes) is in omega arith
part_short content (Some there) canonical is =
    let long = ap (λ (bytes : List ℕ). length bytes) is in let size = length_bytes there canonical in omega arith

-- parts that pass the test of equality are the same
and_left : (a b : Bool) → (a && b) ≡ true → a ≡ true
and_left true b h = refl
and_left false b h = cc

and_right : (a b : Bool) → (a && b) ≡ true → b ≡ true
and_right true b h = h
and_right false b h = cc

pub same_part : (a b : PartRecord) → (same_id a.data_id b.data_id && (bytes_eq a.print b.print && (nat_eq a.length b.length
    && (bytes_eq a.md5 b.md5 && nat_eq a.modified b.modified)))) ≡ true → a ≡ b
same_part a b h =
    let print = bytes_eq a.print b.print in
    let size = nat_eq a.length b.length in
    let md5 = bytes_eq a.md5 b.md5 in
    let modified = nat_eq a.modified b.modified in
    let one = and_right (same_id a.data_id b.data_id) (print && (size && (md5 && modified))) h in
    let two = and_right print (size && (md5 && modified)) one in
    let three = and_right size (md5 && modified) two in
    let id_is = same_id-true a.data_id b.data_id (and_left (same_id a.data_id b.data_id) (print && (size && (md5 && modified))) h) in
    let print_is : a.print ≡ b.print = (bytes_eq-Decides a.print b.print).0 (and_left print (size && (md5 && modified)) one) in
    let size_is = eqb-true a.length b.length (and_left size (md5 && modified) two) in
    let md5_is : a.md5 ≡ b.md5 = (bytes_eq-Decides a.md5 b.md5).0 (and_left md5 modified three) in
    let modified_is = eqb-true a.modified b.modified (and_right md5 modified three) in
    λ i. record { data_id = id_is i; print = print_is i; length = size_is i; md5 = md5_is i; modified = modified_is i }

module _ (at : KeyName) (upload : VersionId) (number : ℕ) (part : PartRecord) (now : ℕ) (id : VersionId) (row : Option PartRecord) (content : List ℕ)
    (spells : SpellsPart content row) (one : ContentIsInjective) (planned : Planned) (canonical : IsCanonical (stored_at part now))
    (spelled : SpellsStored row (stored_at part now) planned.content) (reply : planned.reply ≡ Stored (etag_of part) None)
    (none : planned.refused ≡ None) (gone : planned.gone.items ≡ []) where
  abbrev kept : PartRecord
  kept = stored_at part now

  spells_after : (o : Option (List ℕ)) → SpellsStored row kept o → SpellsPart (unwrap_or o content) (Some kept)
  spells_after None same = subst (λ (r : Option PartRecord). SpellsPart content r) same spells
  spells_after (Some new) is = record { canonical = canonical; is = is.0 }

  other_content : (o : Option (List ℕ)) → SpellsStored row kept o → IfSome o (λ new. new ≢ content)
  other_content None same = tt
  other_content (Some new) is = λ same. is.1 (one row (Some kept) spells.canonical canonical (sym spells.is ∙ (sym same ∙ is.0)))

  short_content : (o : Option (List ℕ)) → SpellsStored row kept o → IfSome o (λ new. length new ≤ 80)
  short_content None same = tt
  short_content (Some new) is = part_short new (Some kept) canonical is.0

  does_part : (registers : Registers) → (registers (part_name at upload number)).content ≡ content → IsHeld registers (part_name at upload number)
      → DoesPart registers (part_name at upload number) at upload number part now planned.reply (unwrap_or planned.content content)
  does_part registers is held =
      let opened : HasOpen (registers (key_name at)).content upload = held_open registers at upload number held in
      record {
        name_is = refl;
        state = opened.state;
        spells = opened.spells;
        old_row = row;
        new_row = Some kept;
        spells_old = λ is_so. record { canonical = spells.canonical; is = is ∙ spells.is };
        leaves = λ shut. absurd (let clash : true ≡ false = sym opened.opened ∙ shut in cc);
        spells_new = λ is_so. spells_after planned.content spelled;
        step = subst (λ (b : Bool). MatchBool b (Leaves (Stored (etag_of part) None) (Some kept) planned.reply (Some kept)) (Leaves (Refused NoSuchUpload) row planned.reply (Some kept)))
            (sym opened.opened) (reply, refl);
      }

  -- the store of a part is planned
  pub part_planned : IsPlanned (Part at upload number part) now id content planned
  part_planned = record {
    does = λ change. does_part;
    changed = other_content planned.content spelled;
    short = short_content planned.content spelled;
    refused = subst (λ (o : Option KeyRefusal). IfSome o (λ why. (planned.reply ≡ Refused (refusal_of why)) × (planned.content ≡ None))) (sym none) tt;
    gone = gone;
    none_gone = λ same. gone;
  }
