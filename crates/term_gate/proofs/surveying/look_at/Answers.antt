use Rattle.std.proofs.Common.{◌≡◌, ◌<◌, ◌∙◌, ◌+◌, arith, ◌++◌, ◌∷◌, [], ℕ, ap, subst, sym, length}
use Rattle.std.specs.Prelude.{Option, None}
use Rattle.std.proofs.lemmas.List.{get_or_default, length-append}
use Rattle.std.proofs.lemmas.Option.{get_or_from_slice_get}
use Rattle.call_types.specs.declared.why.FileKind.TheVariants.{Format}
use Rattle.call_types.specs.declared.why.Why.{Why}
use Rattle.call_types.specs.declared.why.Why.TheVariants.{Lacks}
use Rattle.term_gate.specs.Reading.{format_at, why_at}
use Rattle.term_gate.specs.Surveying.{IsSeen}
use Rattle.term_gate.specs.declared.record.Format.{Format as DriveFormat}
use Rattle.term_gate.proofs.DecidingLemmas.{seen_more}
use Rattle.term_gate.proofs.surveying.look_at.Goals as goal

pub loop-index-preserved : goal.loop-index-preserved
loop-index-preserved c =
    let set = c.args.set.now in
    let formats = c.args.reading.now.formats.items in
    let whys = c.args.reading.now.whys in
    let i = c.loop-index.index in
    let items = c.loop-index.seens.items in
    let found = c.seen_of-seen.result in
    let pushed : c.push.new.self.items ≡ items ++ found ∷ [] = c.in_ok-push.ensures.items in
    let why_is : why_at whys i ≡ c.get-why.result = get_or_from_slice_get whys i c.get-why.result (Lacks Format) c.get-why.ensures in
    let low : i < length formats = omega (arith, c.requires.formats) in
    let format_is : format_at formats i ≡ c.index.result.now = sym (get_or_default formats i c.index.result.now None low) ∙ sym c.index.ensures in
    let here : IsSeen set i (format_at formats i) (why_at whys i) found =
    subst (λ (f : Option DriveFormat). IsSeen set i f (why_at whys i) found) (sym format_is)
    (subst (λ (why : Why). IsSeen set i c.index.result.now why found) (sym why_is) c.seen_of-seen.ensures) in
    record {
      counted = ap length pushed ∙ length-append items (found ∷ []) ∙ ap (λ (n : ℕ). n + 1) c.loop-index.invariant.counted;
      each = seen_more set formats whys items c.push.new.self.items i found pushed c.loop-index.invariant.counted here c.loop-index.invariant.each;
    }
