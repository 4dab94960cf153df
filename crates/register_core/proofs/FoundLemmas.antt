-- What is found of a lane: records that are there, and records that are equal.
use Rattle.std.proofs.Common.{◌≡◌, ℕ, ◌<◌, ◌∙◌, List, Option, Some, None, length, ap, sym, refl, inl, inr}
use Rattle.std.specs.Prelude.{Bool, false, IsTrue, ◌↔◌, ◌==◌, ◌&&◌, bytes_eq, slice_index_or}
use Rattle.std.specs.Bool.{Decides}
use Rattle.std.proofs.lemmas.Bool.{cases_lt}
use Rattle.std.proofs.lemmas.Bool.Decides.{Decides-and, Decides-eqb, Decides-like}
use Rattle.std.proofs.lemmas.List.{get_or_default}
use Rattle.std.proofs.Math.ListN.{get_or-eq_default}
use lib.Pointwise.{bytes_decides}
use Rattle.std.specs.Option.{is_some}
use Rattle.stamp_id.proofs.IdLemmas.{ballot_by_parts}
use Rattle.register_core.specs.Records.{settled_file}
use Rattle.register_file.specs.declared.record.Next.{Next}
use Rattle.stamp_id.specs.declared.stamp.Ballot.{Ballot}
use Rattle.stamp_id.specs.declared.stamp.ChangeId.{ChangeId}
use Rattle.register_file.specs.declared.record.RegFile.{RegFile}
use Rattle.register_file.specs.declared.record.Base.{Base}
use Rattle.register_core.specs.Found.{HasContent, found_at}

-- a file that was found is on a lane
pub found_below : (files : List (Option RegFile)) (k : ℕ) (file : RegFile) → found_at files k ≡ Some file → k < length files
found_below files k file is = elim (cases_lt k (length files)) [
  | inl low ↦ low
  | inr high ↦ let none = get_or-eq_default files None high in absurd cc
]

-- what was looked up is what was found
pub found_is : (files : List (Option RegFile)) (k : ℕ) (there : RegFile) (read : Option RegFile) (file : RegFile) → found_at files k ≡ Some there
    → read ≡ slice_index_or files k read → read ≡ Some file → found_at files k ≡ Some file
found_is files k there read file is same now =
    get_or_default files k None read (found_below files k there is) ∙ sym same ∙ now

-- what was looked up on a lane is what was found there
pub looked_up : (files : List (Option RegFile)) (k : ℕ) (read : Option RegFile) → k < length files → read ≡ slice_index_or files k read → found_at files k ≡ read
looked_up files k read low same = get_or_default files k None read low ∙ sym same

-- the lane of this index has exactly the base
abbrev pub IsClean : List (Option RegFile) → Base → ℕ → Type 0
IsClean files base k = found_at files k ≡ Some (settled_file base)

-- the test of two ballots
ballot_decides : (a b : Ballot) → Decides ((a.term == b.term) && (a.seq == b.seq)) (a ≡ b)
ballot_decides a b = Decides-like _ (λ same. ballot_by_parts a b same.0 same.1)
    (λ same. (ap (λ (x : Ballot). x.term) same, ap (λ (x : Ballot). x.seq) same))
    (Decides-and _ _ (Decides-eqb a.term b.term) (Decides-eqb a.seq b.seq))

change_by_part : (a b : ChangeId) → a.0 ≡ b.0 → a ≡ b
change_by_part a b same = λ i. record { 0 = same i }

base_by_parts : (a b : Base) → a.ballot ≡ b.ballot → a.change ≡ b.change → a.content ≡ b.content → a ≡ b
base_by_parts a b ballot change content = λ i. record { ballot = ballot i; change = change i; content = content i }

-- the test of two bases
base_decides : (a b : Base) → Decides (((a.ballot.term == b.ballot.term) && (a.ballot.seq == b.ballot.seq))
    && (((a.change.0.term == b.change.0.term) && (a.change.0.seq == b.change.0.seq)) && bytes_eq a.content b.content)) (a ≡ b)
base_decides a b = Decides-like _ (λ same. base_by_parts a b same.0 (change_by_part a.change b.change same.1.0) same.1.1)
    (λ same. (ap (λ (x : Base). x.ballot) same, (ap (λ (x : Base). x.change.0) same, ap (λ (x : Base). x.content) same)))
    (Decides-and _ _ (ballot_decides a.ballot b.ballot)
    (Decides-and _ _ (ballot_decides a.change.0 b.change.0) (bytes_decides a.content b.content)))

-- nothing is there
none_is : {A : Type 0} → (x : Option A) → is_some x ≡ false → x ≡ None
none_is None none = refl
none_is (Some a) none = absurd cc

file_by_parts : (file : RegFile) (base : Base) → file.base ≡ base → file.next ≡ None → file ≡ settled_file base
file_by_parts file base same none = λ i. record { base = same i; next = none i }

-- the test of a file that should be settled with a base
pub settled_decides : (read : Option RegFile) (file : RegFile) (base : Base) (answer : Bool) → read ≡ Some file → is_some file.next ≡ false
    → answer ≡ (((file.base.ballot.term == base.ballot.term) && (file.base.ballot.seq == base.ballot.seq))
    && (((file.base.change.0.term == base.change.0.term) && (file.base.change.0.seq == base.change.0.seq)) && bytes_eq file.base.content base.content))
    → IsTrue answer ↔ (read ≡ Some (settled_file base))
settled_decides read file base answer is none same = (
  λ yes. is ∙ ap Some (file_by_parts file base ((base_decides file.base base).0 (sym same ∙ yes)) (none_is file.next none)),
  λ found. same ∙ (base_decides file.base base).1 (base_same (sym is ∙ found)),
)
  where
    base_same : Some file ≡ Some (settled_file base) → file.base ≡ base
    base_same e = ap (λ (x : RegFile). x.base) (file_same e)
      where
        file_same : Some file ≡ Some (settled_file base) → file ≡ settled_file base
        file_same e = cc

-- a content that isn't the base's is a file's where it is the next's
pub next_content : (read : Option RegFile) (file : RegFile) (next : Next) (content : List ℕ) (base_test answer : Bool) → read ≡ Some file
    → file.next ≡ Some next → Decides base_test (file.base.content ≡ content) → Decides answer (next.content ≡ content) → base_test ≡ false
    → IsTrue answer ↔ ((found : RegFile) × (read ≡ Some found) × HasContent found content)
next_content read file next content base_test answer is next_is base_decided decided other =
    (λ yes. (file, is, inr (next, next_is, decided.0 yes)), λ found. from found.0 found.1 found.2)
  where
    same_next : (found : RegFile) (n : Next) → Some file ≡ Some found → found.next ≡ Some n → n.content ≡ content → next.content ≡ content
    same_next found n same is_next e = cc

    same_base : (found : RegFile) → Some file ≡ Some found → found.base.content ≡ content → file.base.content ≡ content
    same_base found same e = cc

    from : (found : RegFile) → read ≡ Some found → HasContent found content → IsTrue answer
    from found same (inl e) = let yes = base_decided.1 (same_base found (sym is ∙ same) e) in absurd cc
    from found same (inr (n, is_next, e)) = decided.1 (same_next found n (sym is ∙ same) is_next e)
