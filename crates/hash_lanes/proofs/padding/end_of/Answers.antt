use Rattle.std.proofs.Common.{◌≡◌, ℕ, ◌-◌, ◌/◌, ◌%◌, ◌*◌, ap, drop, length, take, refl, arith, ◌∙◌}
use Rattle.std.proofs.lemmas.List.{length-drop, take_rest}
use Rattle.hash_lanes.proofs.Messages.{end_of_from}
use Rattle.hash_lanes.proofs.padding.end_of.Goals as goal

pub returns : goal.returns
returns c =
    let m = c.args.message.now in
    let at : ℕ = length m / 64 * 64 in
    let rest : ℕ = length (take (length m - at) (drop at m)) in
    let left : rest ≡ length m % 64 = omega (arith, ap length (take_rest m at), length-drop at m) in
    end_of_from m c.copy_from_slice.new.self _ _ c.end_length-end.result _ rest left c.end_length-end.ensures.value
    (c.copy_from_slice.ensures.after ∙ take_rest m at) refl (c.copy_from_slice-2.ensures.after ∙ c.to_be_bytes.ensures)
