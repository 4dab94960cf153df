use Rattle.std.proofs.Common.{◌≡◌, ◌∙◌, ◌∷◌, ◌++◌, [], ℕ, List, ap, drop, set, take, refl, sym, subst, ◌+◌, ◌/◌, ◌%◌}
use Rattle.std.specs.Prelude.{IsTrue}
use Rattle.std.specs.Int.{w64, to_be_bytes}
use Rattle.std.specs.Str.{is_utf8}
use Rattle.hex.specs.Hex.{encode_lower}
use Rattle.term_gate.specs.Formats.{loose_format_name}
use Rattle.term_gate.proofs.LooseLemmas.{loose_name-IsUtf8, written_letters}
use Rattle.term_gate.proofs.loose.LooseName.new.Goals as goal

-- the letters from the digits of the term's last six bytes
letters : (bytes : List ℕ) (term index : ℕ) (place : List ℕ) → place ≡ encode_lower (take 6 (drop 2 bytes)) → bytes ≡ to_be_bytes w64 term
    → set (set (102 ∷ (place ++ 102 ∷ 102 ∷ [])) 13 (48 + index / 10)) 14 (48 + index % 10) ≡ loose_format_name term index
letters bytes term index place written is =
    let digits : place ≡ encode_lower (drop 2 (to_be_bytes w64 term)) = written ∙ ap (λ (b : List ℕ). encode_lower (take 6 (drop 2 b))) is in
    written_letters term index place (48 + index / 10) (48 + index % 10) digits refl refl

pub invariant_of-result : goal.invariant_of-result
invariant_of-result c = record {
  text = subst (λ (name : List ℕ). IsTrue (is_utf8 name))
      (sym (letters c.to_be_bytes.result c.args.term c.args.index c.write_digits.new.place c.write_digits.ensures c.to_be_bytes.ensures))
      (loose_name-IsUtf8 c.args.term c.args.index c.requires);
}

pub returns : goal.returns
returns c = letters c.to_be_bytes.result c.args.term c.args.index c.write_digits.new.place c.write_digits.ensures c.to_be_bytes.ensures
