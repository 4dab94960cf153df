-- The id that is read of a text is the one whose text it is.
use Rattle.std.proofs.Common.{◌≡◌, ◌↔◌, ℕ, ◌^◌, ◌<◌, ◌≤◌, Bool, true, false, List, refl, sym, ap, ◌∙◌, arith}
use Rattle.std.specs.Prelude.{Option, Some, None, cond}
use Rattle.std.specs.Str.{bytes_eq}
use Rattle.std.proofs.lemmas.Slice.Eq.{bytes_eq-Decides}
use Rattle.uuid.specs.Text.{parsed}
use Rattle.stamp_id.specs.VersionId.{id_bytes, id_text}
use Rattle.stamp_id.specs.declared.stamp.Ballot.{Ballot}
use Rattle.stamp_id.specs.declared.stamp.ChangeId.{ChangeId}
use Rattle.stamp_id.specs.declared.version.VersionId.{VersionId}
use Rattle.stamp_id.proofs.IdLemmas.{ballot_by_parts, id_by_parts, high_word-id_bytes, low_word-id_bytes, parsed-id_text}
use Rattle.s3_request.specs.Names.{id_within, id_at, if_text, id_of}

-- the numbers of an id are those of one
found : (v : VersionId) (term slot seq : ℕ) (a : Dec (term < 2 ^ 48)) (b : Dec (1 ≤ term)) (c : Dec (slot < 64)) (d : Dec (seq < 2 ^ 62)) (e : Dec (1 ≤ seq))
    → term ≡ v.change.0.term → slot ≡ v.slot → seq ≡ v.change.0.seq → id_within term slot seq a b c d e ≡ Some v
found v term slot seq (yes a) (yes b) (yes c) (yes d) (yes e) same_term same_slot same_seq =
    let ballot : Ballot = record { term = term; seq = seq; term_fits = a; seq_fits = d } in
    let change : ChangeId = record { 0 = ballot } in
    let id : VersionId = record { change = change; slot = slot; slot_fits = c; term_counts = b; seq_counts = e } in
    let ballots : ballot ≡ v.change.0 = ballot_by_parts ballot v.change.0 same_term same_seq in
    let changes : change ≡ v.change = λ i. record { 0 = ballots i } in
    ap Some (id_by_parts id v changes same_slot)
found v term slot seq (no wrong) b c d e same_term same_slot same_seq = absurd (wrong (rw same_term v.change.0.term_fits))
found v term slot seq (yes a) (no wrong) c d e same_term same_slot same_seq = absurd (wrong (rw same_term v.term_counts))
found v term slot seq (yes a) (yes b) (no wrong) d e same_term same_slot same_seq = absurd (wrong (rw same_slot v.slot_fits))
found v term slot seq (yes a) (yes b) (yes c) (no wrong) e same_term same_slot same_seq = absurd (wrong (rw same_seq v.change.0.seq_fits))
found v term slot seq (yes a) (yes b) (yes c) (yes d) (no wrong) same_term same_slot same_seq = absurd (wrong (rw same_seq v.seq_counts))

at_bytes : (v : VersionId) → id_at (Some (id_bytes v)) ≡ Some v
at_bytes v =
    let slot_fits = v.slot_fits in
    let seq_fits = v.change.0.seq_fits in
    let high = high_word-id_bytes v in
    let low = low_word-id_bytes v in
    found v _ _ _ _ _ _ _ _ (omega arith) (omega arith) (omega arith)

bytes_same : (text : List ℕ) → bytes_eq text text ≡ true
bytes_same text = (bytes_eq-Decides text text).1 refl

of_text : (v : VersionId) → id_of (id_text v) ≡ Some v
unfolding id_of
of_text v =
    ap (λ o. if_text (id_text v) (id_at o)) (sym (parsed-id_text v)) ∙ (ap (if_text (id_text v)) (at_bytes v)
    ∙ ap (λ b. cond b (Some v) None) (bytes_same (id_text v)))

is_none : {A : Type 0} → (x : A) → None ≡ Some x → ⊥
is_none x e = absurd cc

some_same : {A : Type 0} → (x y : A) → Some x ≡ Some y → x ≡ y
some_same x y e = cc

kept : (text : List ℕ) (v id : VersionId) (same : Bool) → bytes_eq text (id_text v) ≡ same → cond same (Some v) None ≡ Some id → text ≡ id_text id
kept text v id true same is = (bytes_eq-Decides text (id_text v)).0 same ∙ ap id_text (some_same v id is)
kept text v id false same is = absurd (is_none id is)

spelled : (text : List ℕ) (found : Option VersionId) (id : VersionId) → if_text text found ≡ Some id → text ≡ id_text id
spelled text None id is = absurd (is_none id is)
spelled text (Some v) id is = kept text v id _ refl is

text_of_id : (text : List ℕ) (id : VersionId) → id_of text ≡ Some id → text ≡ id_text id
unfolding id_of
text_of_id text id is = spelled text (id_at (parsed text)) id is

pub id_of-is : (text : List ℕ) (id : VersionId) → (id_of text ≡ Some id) ↔ (text ≡ id_text id)
id_of-is text id = (text_of_id text id, λ is. ap id_of is ∙ of_text id)
