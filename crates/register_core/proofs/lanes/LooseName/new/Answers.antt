use Rattle.std.proofs.Common.{◌≡◌, ◌*◌, List, ℕ, length, replicate, take, drop, refl, sym, ap, ◌∙◌, subst}
use Rattle.std.specs.Prelude.{IsTrue}
use Rattle.std.specs.Str.{is_utf8}
use Rattle.std.specs.Int.{w64, to_be_bytes}
use Rattle.hex.specs.Hex.{encode_lower}
use Rattle.register_core.proofs.LooseLemmas.{length_term, loose_name-IsUtf8, room_after, written_letters}
use Rattle.register_core.proofs.lanes.LooseName.new.Goals as goal

pub write_digits-requires-2 : goal.write_digits-requires-2
write_digits-requires-2 c =
    let first : c.write_digits.new.place ≡ encode_lower (drop 2 (to_be_bytes w64 c.args.term)) =
    c.write_digits.ensures ∙ ap (λ (bytes : List ℕ). encode_lower (take 6 (drop 2 bytes))) c.to_be_bytes.ensures in
    room_after c.write_digits.new.place (replicate 16 119) (ap (length {A = ℕ}) first ∙ length_term c.args.term) refl
    ∙ sym (ap (λ (bytes : List ℕ). 2 * length bytes) c.to_be_bytes-2.ensures)

pub invariant_of-result : goal.invariant_of-result
invariant_of-result c =
    let first : c.write_digits.new.place ≡ encode_lower (drop 2 (to_be_bytes w64 c.args.term)) =
    c.write_digits.ensures ∙ ap (λ (bytes : List ℕ). encode_lower (take 6 (drop 2 bytes))) c.to_be_bytes.ensures in
    let second : c.write_digits-2.new.place ≡ encode_lower (to_be_bytes w64 c.args.number) =
    c.write_digits-2.ensures ∙ ap encode_lower c.to_be_bytes-2.ensures in
    record {
      text = subst (λ (xs : List ℕ). IsTrue (is_utf8 xs))
          (sym (written_letters c.args.term c.args.number c.write_digits.new.place c.write_digits-2.new.place (replicate 16 119) first second refl))
          (loose_name-IsUtf8 c.args.term c.args.number);
    }

pub returns : goal.returns
returns c =
    let first : c.write_digits.new.place ≡ encode_lower (drop 2 (to_be_bytes w64 c.args.term)) =
    c.write_digits.ensures ∙ ap (λ (bytes : List ℕ). encode_lower (take 6 (drop 2 bytes))) c.to_be_bytes.ensures in
    let second : c.write_digits-2.new.place ≡ encode_lower (to_be_bytes w64 c.args.number) =
    c.write_digits-2.ensures ∙ ap encode_lower c.to_be_bytes-2.ensures in
    written_letters c.args.term c.args.number c.write_digits.new.place c.write_digits-2.new.place (replicate 16 119) first second refl
