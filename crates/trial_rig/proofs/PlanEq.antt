-- Two plans of sets with the same parts are one.
use Rattle.std.proofs.Common.{◌≡◌, ℕ, ◌+◌, ◌≤◌, List, ap, subst, ◌∙◌}
use Rattle.std.specs.Coded.{le_prop}
use Rattle.drive_base.specs.declared.plan.SetPlan.{SetPlan}

-- a plan of these numbers
abbrev pub made : (id : List ℕ) (d p o : ℕ) → 4 ≤ d → d ≤ 16 → 1 ≤ p → p + p ≤ d → SetPlan
made id d p o enough few some half = record { id = id; drives = d; parity = p; out = o; enough_drives = enough; few_drives = few; some_parity = some; half_at_most = half }

same_proofs : (id : List ℕ) (d p o : ℕ) (e e' : 4 ≤ d) (f f' : d ≤ 16) (s s' : 1 ≤ p) (h h' : p + p ≤ d) → made id d p o e f s h ≡ made id d p o e' f' s' h'
same_proofs id d p o e e' f f' s s' h h' =
    ap (λ (x : 4 ≤ d). made id d p o x f s h) (le_prop e e')
    ∙ (ap (λ (x : d ≤ 16). made id d p o e' x s h) (le_prop f f')
    ∙ (ap (λ (x : 1 ≤ p). made id d p o e' f' x h) (le_prop s s')
    ∙ ap (λ (x : p + p ≤ d). made id d p o e' f' s' x) (le_prop h h')))

pub one_plan : (a b : SetPlan) → a.id ≡ b.id → a.drives ≡ b.drives → a.parity ≡ b.parity → a.out ≡ b.out → a ≡ b
one_plan a b same_id same_drives same_parity same_out =
    let At : List ℕ → ℕ → ℕ → ℕ → Type 0 = λ i x y z. (e : 4 ≤ x) (f : x ≤ 16) (s : 1 ≤ y) (h : y + y ≤ x) → a ≡ made i x y z e f s h in
    let here : At a.id a.drives a.parity a.out = λ e f s h. same_proofs a.id a.drives a.parity a.out a.enough_drives e a.few_drives f a.some_parity s a.half_at_most h in
    let by_id : At b.id a.drives a.parity a.out = subst (λ i. At i a.drives a.parity a.out) same_id here in
    let by_drives : At b.id b.drives a.parity a.out = subst (λ x. At b.id x a.parity a.out) same_drives by_id in
    let by_parity : At b.id b.drives b.parity a.out = subst (λ y. At b.id b.drives y a.out) same_parity by_drives in
    let by_out : At b.id b.drives b.parity b.out = subst (λ z. At b.id b.drives b.parity z) same_out by_parity in
    by_out b.enough_drives b.few_drives b.some_parity b.half_at_most
