-- When an answer serves a call.
use Rattle.std.proofs.Common.{◌≡◌, ◌≢◌, ℕ, ◌<◌, ◌∷◌, length, inr, arith, Option, Some, None, MatchOption, IfSome, unwrap_or, List, sym, ap, ◌∙◌, subst}
use Rattle.call_types.specs.declared.names.Mode.{Mode}
use Rattle.call_types.specs.declared.names.VersionName.{VersionName}
use Rattle.call_types.specs.declared.version.Version.{Version}
use Rattle.call_types.specs.declared.version.Upload.{Upload}
use Rattle.version_list.specs.Naming.{kept}
use Rattle.version_list.specs.Step.{AddsVersion, replaced}
use Rattle.call_types.specs.declared.act.Brief.{Brief}
use Rattle.call_types.specs.declared.act.Brief.TheVariants.{Answer}
use Rattle.call_types.specs.declared.reply.Reply.{Reply}
use Rattle.version_list.specs.declared.state.KeyState.{KeyState}
use Rattle.version_list.specs.declared.outcome.Applied.{Applied}
use Rattle.version_list.specs.declared.outcome.Outcome.{Outcome}
use Rattle.version_list.specs.Gone.{gone_bytes}
use Rattle.version_list.specs.Answers.{IsServed, IsDone, Serves, Leaves, state_after}

-- what a change leaves
abbrev LeavesState : KeyState → KeyState → Option KeyState → Type 0
LeavesState old new state = MatchOption state (new ≡ old) (λ made. (made ≡ new) × (new ≢ old))

left : (old new : KeyState) (state : Option KeyState) → LeavesState old new state → unwrap_or state old ≡ new
left old new None same = sym same
left old new (Some made) (same, other) = same

other_left : (old new : KeyState) (state : Option KeyState) → LeavesState old new state → IfSome state (λ made. made ≢ old)
other_left old new None same = tt
other_left old new (Some made) (same, other) = λ e. other (sym same ∙ e)

-- A change that leaves the state that is due, answered with the reply that is due.
pub Serves-Leaves :
    (Due : Reply → KeyState → Type 0) (old new : KeyState) (reply : Reply) (outcome : Outcome) (applied : Applied)
    → applied.state ≡ outcome.state → applied.done ≡ Answer reply → applied.gone ≡ outcome.gone
    → Leaves old new outcome → IsServed reply → Due reply new → Serves Due old applied
Serves-Leaves Due old new reply outcome applied state done gone leaves served due =
    let leaves_state : LeavesState old new applied.state = subst (LeavesState old new) (sym state) leaves.state in
    let after : state_after old applied ≡ new = left old new applied.state leaves_state in
    let P : Brief → Type 0 = λ brief. IsDone Due brief (state_after old applied) in
    record {
      done = subst P (sym done) (served, subst (Due reply) (sym after) due);
      changed = other_left old new applied.state leaves_state;
      gone = gone ∙ leaves.gone ∙ ap (λ (s : KeyState). gone_bytes old.versions s.versions) (sym after);
    }

-- A version that is put in front where it has a place.
pub AddsVersion-done :
    (old : KeyState) (mode : Mode) (v made : Version) (uploads : List Upload) (done reply : Reply) (goes : Option VersionName)
    (shown : List Version) (n : ℕ) → shown ≡ old.versions → goes ≡ replaced mode → n ≡ length (kept goes shown) → n < 10000
    → made ≡ v → reply ≡ done
    → AddsVersion old mode v uploads done reply record { versions = made ∷ kept goes old.versions; uploads = uploads }
AddsVersion-done old mode v made uploads done reply goes shown n s g count below m r =
    let stay : kept goes old.versions ≡ kept (replaced mode) old.versions = ap (λ o. kept o old.versions) g in
    let shown_stay : kept goes shown ≡ kept goes old.versions = ap (kept goes) s in
    let same : n ≡ length (kept (replaced mode) old.versions) = count ∙ ap length shown_stay ∙ ap length stay in
    inr (omega arith, (r, λ i. record { versions = m i ∷ stay i; uploads = uploads }))
