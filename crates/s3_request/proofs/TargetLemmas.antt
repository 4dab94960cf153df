-- The place that a target names.
use Rattle.std.proofs.Common.{◌≡◌, ℕ, List, ◌∙◌, ap, sym, true, false}
use Rattle.std.specs.Prelude.{cond, ◌&&◌, Ok, Err}
use Rattle.std.specs.Str.{IsUtf8, is_utf8}
use Rattle.std.proofs.lemmas.Bool.{false_from_ne_true}
use Rattle.std.proofs.lemmas.Str.{IsUtf8-from_is_utf8, is_utf8-from_IsUtf8}
use Rattle.call_types.specs.declared.refusal.Refusal.TheVariants.{InvalidURI}
use Rattle.s3_request.specs.Target.{begins_with_slash, path_of, place_in, place_of}

pub is_utf8_not : (bytes : List ℕ) → (IsUtf8 bytes → ⊥) → is_utf8 bytes ≡ false
is_utf8_not bytes never = false_from_ne_true (is_utf8 bytes) (λ holds. never (IsUtf8-from_is_utf8 bytes holds))

pub placed : (target path : List ℕ) → begins_with_slash target ≡ true → path ≡ path_of target → IsUtf8 (path_of target) → place_of target ≡ Ok (place_in path)
placed target path begins is utf8 =
    ap (λ b. cond (b && is_utf8 (path_of target)) (Ok (place_in (path_of target))) (Err InvalidURI)) begins
    ∙ (ap (λ b. cond b (Ok (place_in (path_of target))) (Err InvalidURI)) (is_utf8-from_IsUtf8 (path_of target) utf8)
    ∙ ap (λ p. Ok (place_in p)) (sym is))

pub no_path : (target : List ℕ) → begins_with_slash target ≡ true → (IsUtf8 (path_of target) → ⊥) → place_of target ≡ Err InvalidURI
no_path target begins never =
    ap (λ b. cond (b && is_utf8 (path_of target)) (Ok (place_in (path_of target))) (Err InvalidURI)) begins
    ∙ ap (λ b. cond b (Ok (place_in (path_of target))) (Err InvalidURI)) (is_utf8_not (path_of target) never)
