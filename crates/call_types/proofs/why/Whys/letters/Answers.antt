use Rattle.std.proofs.Common.{◌≡◌, ◌<◌, ◌∷◌, ◌++◌, [], take, length, get_or, sym, ap, ◌∙◌, arith, rules}
use Rattle.std.proofs.lemmas.List.{take_more, take_more_set, map_push}
use Rattle.call_types.specs.declared.why.Why.TheVariants.{Good}
use Rattle.call_types.specs.Letters.{letter_of, letters_of}
use Rattle.call_types.proofs.GoodLemmas.{why_found}
use Rattle.call_types.proofs.why.Whys.letters.Goals as goal

pub loop-k-preserved : goal.loop-k-preserved
loop-k-preserved c =
    let whys = c.args.self.now in
    let k = c.loop-k.k in
    let low : k < length whys = omega arith in
    let room : k < length c.loop-k.place = search rules in
    let at = why_found whys k c.get.result Good low c.get.ensures in
    let letter : letter_of (get_or whys k Good) ≡ c.letter.result = ap letter_of at ∙ sym c.letter.ensures in
    take_more_set c.loop-k.place k c.letter.result room
    ∙ ap (λ l. l ++ c.letter.result ∷ []) c.loop-k.invariant
    ∙ ap (λ x. letters_of (take k whys) ++ x ∷ []) (sym letter)
    ∙ sym (map_push letter_of (take k whys) (get_or whys k Good))
    ∙ ap letters_of (sym (take_more whys k Good low))
