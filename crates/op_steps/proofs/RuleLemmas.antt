-- A content that a section refuses breaks the rule of its register.
use Rattle.std.proofs.Common.{◌≡◌, ◌∙◌, ◌+◌, ◌≤◌, ℕ, List, Option, Some, None, ap, sym, inl, inr, refl, arith}
use Rattle.std.proofs.lemmas.Option.{none-some}
use Rattle.bucket_book.specs.Content.{content_fault}
use Rattle.bucket_book.proofs.ContentLemmas.{contents_no_fault}
use Rattle.upload_book.specs.Content.{content_fault as part_fault}
use Rattle.upload_book.proofs.ContentLemmas.{contents_no_fault as parts_no_fault}
use Rattle.call_types.specs.declared.names.Key.{Key}
use Rattle.stamp_id.specs.declared.version.VersionId.{VersionId}
use Rattle.version_list.specs.NamesId.{names_id}
use Rattle.version_list.specs.declared.state.KeyState.{KeyState}
use Rattle.slot_history.specs.Contents.{NamesId, SpellsKey}
use Rattle.slot_history.specs.Names.{bucket_name, key_name, part_name}
use Rattle.slot_rules.specs.Deeds.{name_of}
use Rattle.slot_rules.specs.Owning.{IsOwnId}
use Rattle.slot_rules.specs.Rules.{key_fault, longest_for, rule_for}
use Rattle.slot_rules.specs.declared.commit.Commit.TheVariants.{Key as KeyDeed, Part as PartDeed, MakeBucket, SetMode}
use Rattle.slot_rules.specs.declared.commit.Commit.{Commit}
use Rattle.slot_core.specs.CommitCauses.{IsRuleOf, life_of}
use Rattle.slot_core.specs.Views.{SlotNumbers}
use Rattle.op_steps.specs.Causes.{BreaksRule, IsNextId, IsPutOf}
use Rattle.op_steps.specs.Claims.{Claim}
use Rattle.op_steps.proofs.AcceptLemmas.{bucket_of, either, key_accepted, key_of, look_content, part_of}

-- what a look at a register of this name refuses
pub look_breaks : (numbers : SlotNumbers) (claim : Claim) (name content : List ℕ) (place : ℕ) → rule_for name content ≡ Some place → BreaksRule numbers claim name content
look_breaks numbers claim name content place broken canonical = absurd (none-some place (sym (look_content name content canonical).0 ∙ broken))

-- the id of a section's own change is one that it may have
next_id : (numbers : SlotNumbers) (claim : Claim) (last : ℕ) (put : Option VersionId) (id : VersionId) → numbers.seq ≤ last → IsPutOf claim put
    → IsOwnId (life_of numbers) last put id → IsNextId numbers claim id
next_id numbers claim last None id up own is = record {
  slot = is.slot;
  change = inr (is.change.0, let seq = is.change.1 in omega (arith, seq, up));
}
next_id numbers claim last (Some put) id up own is = record {
  slot = is.slot;
  change = inl (own.0, own.1, is.change ∙ sym (ap (λ (v : VersionId). v.change) own.2));
}

-- a key's content that is refused to a section, whose change may have these ids, names one of them
names_next : (numbers : SlotNumbers) (claim : Claim) (at : Key) (content : List ℕ) (place : ℕ) (alone after : VersionId) → IsNextId numbers claim alone
    → IsNextId numbers claim after → key_fault (Some alone) (Some after) content ≡ Some place → (state : KeyState) → SpellsKey content state
    → (id : VersionId) × IsNextId numbers claim id × NamesId (key_name at) content id
names_next numbers claim at content place alone after first second broken state spells = elim (either (names_id alone state)) [
  | inl named ↦ (alone, first, inl (record { at = at; name_is = refl; state = state; spells = spells; names = named }))
  | inr none ↦ elim (either (names_id after state)) [
    | inl named ↦ (after, second, inl (record { at = at; name_is = refl; state = state; spells = spells; names = named }))
    | inr also ↦ absurd (none-some place (sym (key_accepted (Some alone) (Some after) content state spells none also) ∙ broken))
  ]
]

bucket_breaks : (numbers : SlotNumbers) (claim : Claim) (bucket content : List ℕ) (place : ℕ) → content_fault content ≡ Some place
    → BreaksRule numbers claim (bucket_name bucket) content
bucket_breaks numbers claim bucket content place broken canonical =
    let x = bucket_of bucket content canonical in
    absurd (none-some place (sym (ap (λ (v : List ℕ). content_fault v) x.1.is ∙ contents_no_fault x.0 x.1.canonical) ∙ broken))

part_breaks : (numbers : SlotNumbers) (claim : Claim) (at : Key) (upload : VersionId) (number : ℕ) (content : List ℕ) (place : ℕ) → part_fault content ≡ Some place
    → BreaksRule numbers claim (part_name at upload number) content
part_breaks numbers claim at upload number content place broken canonical =
    let x = part_of at upload number content canonical in
    absurd (none-some place (sym (ap (λ (v : List ℕ). part_fault v) x.1.is ∙ parts_no_fault x.0 x.1.canonical) ∙ broken))

-- what a commit of a deed refuses
pub deed_breaks : (numbers : SlotNumbers) (claim : Claim) (deed : Commit) (put : Option VersionId) (rule : List ℕ → Option ℕ) (longest : ℕ) → IsPutOf claim put
    → IsRuleOf numbers deed put rule longest → (content : List ℕ) (place : ℕ) → rule content ≡ Some place → BreaksRule numbers claim (name_of deed) content
deed_breaks numbers claim (KeyDeed at mode act) put rule longest own (alone, after, first, second, rule_is, most) content place broken canonical =
    let x = key_of at content canonical in
    names_next numbers claim at content place alone after (next_id numbers claim numbers.seq put alone (omega arith) own first)
    (next_id numbers claim (numbers.seq + 1) put after (omega arith) own second)
    (sym (ap (λ (r : List ℕ → Option ℕ). r content) rule_is) ∙ broken) x.0 x.1
deed_breaks numbers claim (PartDeed at upload number part) put rule longest own (rule_is, most) content place broken canonical =
    part_breaks numbers claim at upload number content place (sym (ap (λ (r : List ℕ → Option ℕ). r content) rule_is) ∙ broken) canonical
deed_breaks numbers claim (MakeBucket bucket) put rule longest own (rule_is, most) content place broken canonical =
    bucket_breaks numbers claim bucket content place (sym (ap (λ (r : List ℕ → Option ℕ). r content) rule_is) ∙ broken) canonical
deed_breaks numbers claim (SetMode bucket mode) put rule longest own (rule_is, most) content place broken canonical =
    bucket_breaks numbers claim bucket content place (sym (ap (λ (r : List ℕ → Option ℕ). r content) rule_is) ∙ broken) canonical

-- the longest content of a deed's register is that by its name
pub deed_longest : (numbers : SlotNumbers) (deed : Commit) (put : Option VersionId) (rule : List ℕ → Option ℕ) (longest : ℕ) → IsRuleOf numbers deed put rule longest
    → longest ≡ longest_for (name_of deed)
deed_longest numbers (KeyDeed at mode act) put rule longest (alone, after, first, second, rule_is, most) = most
deed_longest numbers (PartDeed at upload number part) put rule longest (rule_is, most) = most
deed_longest numbers (MakeBucket bucket) put rule longest (rule_is, most) = most
deed_longest numbers (SetMode bucket mode) put rule longest (rule_is, most) = most
