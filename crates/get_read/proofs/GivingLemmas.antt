-- What a stripe adds to what a reader gave.
use Rattle.std.proofs.Common.{◌≡◌, ◌∙◌, ℕ, zero, suc, ◌+◌, ◌-◌, ◌*◌, ◌<◌, ◌≤◌, List, [], ◌++◌, length, slice_index_or, min, take, drop, ap, refl, subst, sym, inl, inr, arith}
use Rattle.std.specs.List.{concat}
use Rattle.std.proofs.lemmas.Bool.{cases_lt}
use Rattle.std.proofs.lemmas.List.{length-append, length-drop, length-take, take_all}
use Rattle.std.proofs.lemmas.List.Sums.{sum_by_more}
use Rattle.stamp_id.specs.declared.version.VersionId.{VersionId}
use Rattle.drive_base.specs.declared.plan.SetPlan.{SetPlan}
use Rattle.manifest_file.proofs.PrintText.{texts_are_bytes}
use Rattle.manifest_file.specs.Print.{cut_of, text_under}
use Rattle.manifest_file.specs.declared.manifest.Manifest.{Manifest}
use Rattle.manifest_file.specs.declared.manifest.ManifestPart.{ManifestPart}
use Rattle.shard_file.proofs.ShardLemmas.{concat-take_more}
use Rattle.shard_file.specs.Stripes.{stripe_length, stripe_size}
use Rattle.body_print.proofs.ByteLemmas.{text_is_bytes}
use Rattle.body_print.proofs.ClashLemmas.{one_or_two}
use Rattle.body_print.proofs.CutLemmas.{text_tells_cuts}
use Rattle.body_print.specs.Names.{manifest_name}
use Rattle.body_print.specs.Prints.{IsCutAs, IsCutOf}
use Rattle.get_read.specs.Account.{Account}
use Rattle.get_read.specs.Progress.{IsRunBy}
use Rattle.get_read.specs.Causes.{body_length}
use Rattle.get_read.specs.Given.{AreOfSpanIn, IsFoundIn}
use Rattle.get_read.specs.Outcomes.{wanted_of}
use Rattle.get_read.specs.Turns.{wanted_of_stripe}
use Rattle.get_read.specs.declared.fetch.Fetching.{Fetching as FetchingRecord}
use Rattle.get_read.proofs.SpanByLemmas.{goes_on, of_body}

-- where the pieces of a body begin that is cut as parts say
cut_begins : (n p : ℕ) (parts : List ManifestPart) (d : ManifestPart) (cut : List (List ℕ)) → IsCutAs n p parts cut → (i : ℕ) → i ≤ length parts
    → length (concat (take i cut)) ≡ body_length (take i parts)
cut_begins n p parts d cut is zero low = refl
cut_begins n p parts d cut is (suc i) low =
    let before = cut_begins n p parts d cut is i (omega arith) in
    let more = concat-take_more cut i (omega (arith, is.count, low)) in
    let sum = sum_by_more (λ (part : ManifestPart). part.length) parts i d (omega arith) in
    let long : length (slice_index_or cut i []) ≡ (slice_index_or parts i d).length = let so : IsCutOf n p (slice_index_or cut i []) (cut_of (slice_index_or parts i d)) = is.each i d (omega arith) in sym so.0 in
    let next : suc i ≡ i + 1 = omega arith in
    ap (λ (m : ℕ). length (concat (take m cut))) next ∙ ap (length {A = ℕ}) more ∙ length-append (concat (take i cut)) (slice_index_or cut i [])
    ∙ omega (arith, before, long, sum) ∙ ap (λ (m : ℕ). body_length (take m parts)) (sym next)

-- a stripe goes on with the span of every body with the print, or there is a clash
pub given_on : (set : SetPlan) (print : List ℕ) (id : VersionId) (from reach : ℕ) (m : Manifest) (part : ManifestPart) (place i size at : ℕ) (given stripe next : List ℕ)
    (account : Account) → IsFoundIn (wanted_of set print reach) id m account → place < length m.parts
    → ((d : ManifestPart) → slice_index_or m.parts place d ≡ part)
    → at ≡ from + length given → at < reach → body_length (take place m.parts) + i * stripe_size ≤ at
    → at < body_length (take place m.parts) + i * stripe_size + size → at < body_length (take place m.parts) + part.length
    → next ≡ take (reach - at) (drop (at - body_length (take place m.parts) - i * stripe_size) stripe)
    → IsRunBy set part i size stripe account → AreOfSpanIn set.drives set.parity print from reach given account
    → AreOfSpanIn set.drives set.parity print from reach (given ++ next) account
given_on set print id from reach m part place i size at given stripe next account found inside part_is at_is before begun ends within is by are = λ body has.
    elim (are body has) [
      | inr clash ↦ inr clash
      | inl same ↦ elim (one_or_two (text_under m) has.text) [
        | inl text ↦
            let cut = has.parts in
            let n = set.drives in
            let p = set.parity in
            let fits = found.serves.fits in
            let told : IsCutAs n p m.parts cut = text_tells_cuts n p m body print (record { canonical = found.canonical; drives = fits.drives; parity = fits.parity }) has text in
            let bytes = slice_index_or cut place [] in
            let so : IsCutOf n p bytes (cut_of part) = subst (λ (q : ManifestPart). IsCutOf n p bytes (cut_of q)) (part_is part) (told.each place part inside) in
            let low : place < length cut = omega (arith, inside, told.count) in
            elim (by.exact bytes (sym so.0) so.1) [
              | inl is_stripe ↦
                  let begin : length (concat (take place cut)) ≡ body_length (take place m.parts) = cut_begins n p m.parts part cut told place (omega arith) in
                  let of_so = of_body cut place i size at reach low (omega (arith, begin, begun)) (omega (arith, begin, ends)) (omega (arith, begin, within, so.0)) (omega arith) in
                  let next_is : next ≡ take (reach - at) (drop (at - length (concat (take place cut)) - i * stripe_size) (take size (drop (stripe_size * i) bytes))) =
                  is ∙ ap (λ (s : List ℕ). take (reach - at) (drop (at - body_length (take place m.parts) - i * stripe_size) s)) is_stripe
                  ∙ ap (λ (b : ℕ). take (reach - at) (drop (at - b - i * stripe_size) (take size (drop (stripe_size * i) bytes)))) (sym begin) in
                  let next_of : next ≡ take (length next) (drop at (take reach (concat cut))) =
                  subst (λ (s : List ℕ). s ≡ take (length s) (drop at (take reach (concat cut)))) (sym next_is) of_so in
                  let all : take reach body ≡ take reach (concat cut) = ap (take reach) has.joins in
                  inl (goes_on given next (take reach body) from same
                  (subst (λ (b : List ℕ). next ≡ take (length next) (drop (from + length given) b)) (sym all)
                  (subst (λ (q : ℕ). next ≡ take (length next) (drop q (take reach (concat cut)))) at_is next_of)))
              | inr clash ↦ inr (record {
                read = clash.read;
                met = clash.met;
                clash = record {
                  other = clash.other;
                  clash = clash.clash;
                  is_hashed = record { parts = has.parts; text = has.text; joins = has.joins; under = has.under; hashed = has.hashed; is = inr (place, low, clash.is) };
                };
              })
            ]
        | inr differ ↦ inr (record {
          read = text_under m;
          met = inr (found.drive, manifest_name id, m, found.canonical, found.showed, refl);
          clash = record {
            other = has.text;
            clash = record {
              read_bytes = texts_are_bytes m found.canonical;
              other_bytes = text_is_bytes set.drives set.parity has.parts has.text has.under;
              differ = differ;
              same = sym found.serves.print ∙ has.hashed;
            };
            is_hashed = record { parts = has.parts; text = has.text; joins = has.joins; under = has.under; hashed = has.hashed; is = inl refl };
          };
        })
      ]
    ]

-- the first bytes of a list, at most as many as it has
take_few : (n : ℕ) (xs : List ℕ) → take (min n (length xs)) xs ≡ take n xs
take_few n xs = elim (cases_lt n (length xs)) [
  | inl low ↦ ap (λ (k : ℕ). take k xs) (omega (arith, low))
  | inr past ↦ take_all (min n (length xs)) xs (omega (arith, past)) ∙ sym (take_all n xs (omega (arith, past)))
]

-- what is given of a stripe, and of what comes with it, is what is wanted of it, and not empty
pub piece_wanted : (f : FetchingRecord) (reach : ℕ) (stripe piece : List ℕ) → reach ≡ f.asked.wanted.reach → stripe_length f.part.long f.work.stripe ≤ length stripe
    → piece ≡ take (min (reach - f.at) (length stripe - (f.at - f.part.begin - f.work.stripe * stripe_size))) (drop (f.at - f.part.begin - f.work.stripe * stripe_size) stripe)
    → (piece ≡ wanted_of_stripe f stripe) × (0 < length piece)
piece_wanted f reach stripe piece reach_is long is =
    let k = f.at - f.part.begin - f.work.stripe * stripe_size in
    let rest = drop k stripe in
    let left : length rest ≡ length stripe - k = length-drop k stripe in
    let begun = f.begun in
    let in_part = f.in_part in
    let in_stripe = f.in_stripe in
    let before_end = f.before_end in
    let count : length piece ≡ min (min (reach - f.at) (length stripe - k)) (length rest) = ap (length {A = ℕ}) is ∙ length-take (min (reach - f.at) (length stripe - k)) rest in (
      is ∙ ap (λ (n : ℕ). take (min (reach - f.at) n) rest) (sym left) ∙ take_few (reach - f.at) rest ∙ ap (λ (r : ℕ). take (r - f.at) rest) reach_is,
      omega (arith, count, left, long, reach_is, begun, in_part, in_stripe, before_end),
    )
