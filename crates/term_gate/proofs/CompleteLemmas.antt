-- An opening that can succeed is refused for want of memory alone.
use Rattle.std.proofs.Common.{◌≡◌, ◌⊎◌, ◌<◌, ◌≤◌, ◌+◌, ◌^◌, ℕ, List, Option, None, Some, length, lit<, refl, sym, ap, subst, ◌∙◌, inl, inr, arith}
use Rattle.std.specs.Prelude.{IsTrue, Err}
use Rattle.std.specs.Int.{IsBitSet}
use Rattle.std.specs.Int.Bits.{and_zero_l}
use Rattle.std.proofs.lemmas.Bool.Decides.{nat_tests}
use Rattle.call_types.specs.declared.why.FileKind.TheVariants.{Format}
use Rattle.call_types.specs.declared.why.Why.{Why}
use Rattle.call_types.specs.declared.why.Why.TheVariants.{Good, Lacks}
use Rattle.drive_base.specs.DriveSet.{count_in}
use Rattle.drive_base.specs.Plan.{data_drives, write_drives}
use Rattle.drive_base.specs.View.{AllGoOn, DriveView, view_at}
use Rattle.drive_base.specs.declared.plan.SetPlan.{SetPlan}
use Rattle.drive_base.proofs.SetLemmas.{smaller_sets_count_less}
use Rattle.drive_base.proofs.ViewLemmas.{only_read_go_on}
use Rattle.term_gate.specs.Complete.{CanBeRead, CanBeWritten, CanMake, CanOpen, EachOwn, NoneLacks, Serves, Shows, ShowsNone, WasOpened}
use Rattle.term_gate.specs.Deciding.{AllAnswered, AllGood, AreAbsent, IsTop, term_of}
use Rattle.term_gate.specs.Formats.{IsOf, format_name}
use Rattle.term_gate.specs.Table.{format_file}
use Rattle.term_gate.specs.Laws.{IsPlanFor, OpeningIsComplete}
use Rattle.term_gate.specs.Opening.{CountGood, Follows, IsBeingMade, IsOther, IsUnmade, TakesTerm, TermIsWritten}
use Rattle.term_gate.specs.Reading.{AreRead, DriveIsRead, format_at, why_at}
use Rattle.term_gate.specs.Writing.{AreWritten, file_for}
use Rattle.term_gate.specs.declared.record.Format.{Format as DriveFormat}
use Rattle.term_gate.specs.declared.refusal.OpenRefusal.{OpenRefusal}
use Rattle.term_gate.specs.declared.refusal.OpenRefusal.TheVariants.{WrongSet, OpenQuorum, NoMemory, TermSpent, AuditFailed}
use Rattle.term_gate.proofs.OpenLemmas.{from_goes_on, made_goes_on, takes_go_on}
use Rattle.term_gate.proofs.ServeLemmas.{all_in, read_none, read_shown, serves_first, serves_then, written_good}
use Rattle.term_gate.proofs.TermLemmas.{none_found, read_lacks}

-- what a format that was read shows
found_shows : (f : DriveFormat) (why : Why) (old new : DriveView) → IsTrue old.tells → DriveIsRead (Some f) why old new → Shows f old
found_shows f why old new told read = record { canonical = read.2; shown = read.3 told }

-- where each drive shows its own format, none is another's
no_other : (set : SetPlan) (found wanted : DriveFormat) (old new : List DriveView) → EachOwn set old → IsOther set found wanted old new → ⊥
no_other set found wanted old new own is =
    let k = is.other.place in
    let lt : k < length old = omega (arith, is.other.within, is.read.counted) in
    let read : DriveIsRead (Some found) (why_at is.whys k) (view_at old k) (view_at new k) =
    subst (λ (f : Option DriveFormat). DriveIsRead f (why_at is.whys k) (view_at old k) (view_at new k)) is.other.is (is.read.drives.each k lt) in
    is.other.other (own.own k found lt (found_shows found (why_at is.whys k) (view_at old k) (view_at new k) (own.tell k lt tt) read)).0

-- the greatest term isn't the last
found_low : (set : SetPlan) (k : ℕ) (f : Option DriveFormat) (why : Why) (old new : DriveView) → IsTrue old.tells
    → ((g : DriveFormat) → Shows g old → IsOf set k g × (g.term + 1 < 2 ^ 48)) → DriveIsRead f why old new → term_of f + 1 < 2 ^ 48
found_low set k (Some f) why old new told own read = (own f (found_shows f why old new told read)).1
found_low set k None why old new told own read = lit< tt

top_low : (set : SetPlan) (formats : List (Option DriveFormat)) (whys : List Why) (top : ℕ) (old mid : List DriveView) → EachOwn set old
    → AreRead formats whys old mid
    → IsTop formats top → top + 1 < 2 ^ 48
top_low set formats whys top old mid own read top_is = elim top_is.had [
  | inl none ↦ subst (λ (t : ℕ). t + 1 < 2 ^ 48) (sym none) (lit< tt)
  | inr (k, lt, is) ↦
      let here : k < length old = omega (arith, lt, read.counted) in
      subst (λ (t : ℕ). t + 1 < 2 ^ 48) is
      (found_low set k (format_at formats k) (why_at whys k) (view_at old k) (view_at mid k) (own.tell k here tt) (λ g shows. own.own k g here shows)
      (read.drives.each k here))
]

-- a term that is below the last one is taken where enough drives take it
take_refused : (set : SetPlan) (top out : ℕ) (refusal : OpenRefusal) (old new : List DriveView) → top + 1 < 2 ^ 48
    → ((whys : List Why) (taken : ℕ) → TermIsWritten set top out whys taken old new → write_drives set.drives set.parity ≤ taken)
    → TakesTerm set top out (Err refusal) old new → refusal ≡ NoMemory
take_refused set top out (WrongSet found wanted) old new low enough takes = absurd takes
take_refused set top out (OpenQuorum whys) old new low enough (taken, written, few) =
    absurd (let many = enough whys taken written in omega (arith, many, few))
take_refused set top out NoMemory old new low enough takes = refl
take_refused set top out TermSpent old new low enough (same, last) = absurd (omega (arith, low, last))
take_refused set top out (AuditFailed before after) old new low enough takes = absurd takes

-- drives with good letters are as many as are counted
good_enough : (whys : List Why) (count most mask n : ℕ) → CountGood whys count → length whys ≡ n → most ≤ count_in mask n
    → ((k : ℕ) → k < n → IsBitSet mask k → why_at whys k ≡ Good) → most ≤ count
good_enough whys count most mask n counts long enough good =
    let within : count_in mask n ≤ count_in counts.mask n =
    smaller_sets_count_less n mask counts.mask (λ k lt bit. (counts.good.bits k (omega (arith, lt, long))).1 (good k lt bit)) in
    let same : count_in counts.mask (length whys) ≡ count_in counts.mask n = ap (count_in counts.mask) long in
    omega (arith, within, same, enough, counts.count_is)

-- a set that was made before isn't being made
not_making : (set : SetPlan) (readers : ℕ) (formats : List (Option DriveFormat)) (whys : List Why) (top : ℕ) (old mid new : List DriveView)
    → EachOwn set old → AllGoOn old mid → AllGoOn mid new → CanBeRead set readers old new → WasOpened readers old ⊎ NoneLacks old
    → AreRead formats whys old mid → IsTop formats top → IsBeingMade whys top → ⊥
not_making set readers formats whys top old mid new own one two can (inl (k, lt, bit, (f, shows, high))) read top_is (none, lacks) =
    let there : k < length mid = omega (arith, lt, one.long) in
    let serves : Serves (view_at old k) (view_at mid k) = serves_first (view_at old k) (view_at mid k) (view_at new k) (one.each k lt)
    (two.each k there) (can.serve k lt bit) in
    let found = read_shown (format_at formats k) (why_at whys k) f (view_at old k) (view_at mid k) (read.drives.each k lt) serves shows in
    let most : f.term ≤ top = subst (λ (g : Option DriveFormat). term_of g ≤ top) found.0 (top_is.none_above k (omega (arith, lt, read.counted))) in
    omega (arith, most, high, none)
not_making set readers formats whys top old mid new own one two can (inr none_lacks) read top_is (none, (k, lt, lacks)) =
    let here : k < length old = omega (arith, lt, read.lettered) in
    none_lacks k here (read_lacks (format_at formats k) (why_at whys k) (view_at old k) (view_at mid k) (read.drives.each k here) lacks (own.tell k here tt))

-- the drives that can be read are good
reads_enough : (set : SetPlan) (readers good : ℕ) (formats : List (Option DriveFormat)) (whys : List Why) (old mid new : List DriveView)
    → AllGoOn old mid → AllGoOn mid new → CanBeRead set readers old new → AreRead formats whys old mid → CountGood whys good
    → data_drives set.drives set.parity ≤ good
reads_enough set readers good formats whys old mid new one two can read counts =
    good_enough whys good (data_drives set.drives set.parity) readers (length old) counts read.lettered can.enough
    (λ k lt bit.
    let it = can.shows k lt bit in
    let there : k < length mid = omega (arith, lt, one.long) in
    let serves : Serves (view_at old k) (view_at mid k) = serves_first (view_at old k) (view_at mid k) (view_at new k) (one.each k lt)
    (two.each k there) (can.serve k lt bit) in
    (read_shown (format_at formats k) (why_at whys k) it.0 (view_at old k) (view_at mid k) (read.drives.each k lt) serves it.1).1)

-- the drives that can be written take the term
writes_enough : (set : SetPlan) (top out taken : ℕ) (formats : List (Option DriveFormat)) (whys told : List Why) (old mid new : List DriveView)
    → EachOwn set old → AllGoOn old mid → AllGoOn mid new → CanBeWritten set old new → AreRead formats whys old mid → AreAbsent whys out
    → TermIsWritten set top out told taken mid new → write_drives set.drives set.parity ≤ taken
writes_enough set top out taken formats whys told old mid new own one two can read absent written =
    good_enough told taken (write_drives set.drives set.parity) can.writers (length old) written.took (written.wrote.lettered ∙ one.long) can.enough
    (λ k lt bit.
    let there : k < length mid = omega (arith, lt, one.long) in
    let serves : Serves (view_at mid k) (view_at new k) = serves_then (view_at old k) (view_at mid k) (view_at new k) (one.each k lt)
    (two.each k there) (can.serve k lt bit) in
    written_good (file_for set k (top + 1)) (top + 1) out (Lacks Format) k (why_at told k) (view_at mid k) (view_at new k) (written.wrote.drives.each k there)
    (λ is. absurd (can.formatted k lt bit (read_lacks (format_at formats k) (why_at whys k) (view_at old k) (view_at mid k) (read.drives.each k lt)
    ((absent k).0 is).1 (own.tell k lt tt))))
    serves)

-- a set that can be opened is refused for want of memory alone
can_open : (set : SetPlan) (refusal : OpenRefusal) (old new : List DriveView) → CanOpen set old new → Follows set (Err refusal) old new → refusal ≡ NoMemory
can_open set refusal old new can all =
    let one = only_read_go_on old all.mid all.read.read.only in
    let two = from_goes_on set all.whys all.top (Err refusal) all.mid new all.goes_on in
    let low = top_low set all.formats all.whys all.top old all.mid can.own all.read.read all.read.top_is in
    elim all.goes_on [
      | inl (making, rest) ↦ absurd (not_making set can.readers all.formats all.whys all.top old all.mid new can.own one two can.read can.made all.read.read all.read.top_is making)
      | inr (made, (good, counts, inl (enough, (out, absent, takes)))) ↦
          take_refused set all.top out refusal all.mid new low
          (λ told taken written. writes_enough set all.top out taken all.formats all.whys told old all.mid new can.own one two can.written all.read.read absent written) takes
      | inr (made, (good, counts, inr (few, is, same))) ↦
          absurd (let many = reads_enough set can.readers good all.formats all.whys old all.mid new one two can.read all.read.read counts in omega
          (arith, many, few))
    ]

-- a set that can be made is being made
makes_it : (set : SetPlan) (formats : List (Option DriveFormat)) (whys : List Why) (top : ℕ) (old mid : List DriveView) → CanMake set old mid
    → AreRead formats whys old mid → IsTop formats top → IsBeingMade whys top × AllAnswered whys
makes_it set formats whys top old mid can read top_is = (
  (top_none, (can.some.0, omega (arith, can.some.1, read.lettered), lacks can.some.0 can.some.1 can.some.2)),
  λ k lt.
      let here : k < length old = omega (arith, lt, read.lettered) in
      elim (can.unopened k here) [
        | inl none ↦ inr (lacks k here none)
        | inr (f, shows, zero_term) ↦ inl (read_shown (format_at formats k) (why_at whys k) f (view_at old k) (view_at mid k) (read.drives.each k here)
            (can.each k here) shows).1
      ],
)
  where
    lacks : (k : ℕ) → k < length old → ShowsNone (view_at old k) → why_at whys k ≡ Lacks Format
    lacks k lt none = read_none (format_at formats k) (why_at whys k) (view_at old k) (view_at mid k) (read.drives.each k lt) (can.each k lt) none

    term_none : (k : ℕ) → k < length old → (f : Option DriveFormat) → DriveIsRead f (why_at whys k) (view_at old k) (view_at mid k) → term_of f ≡ 0
    term_none k lt None is = refl
    term_none k lt (Some f) is = elim (can.unopened k lt) [
      | inl none ↦ absurd (none_found ((view_at old k).files.shown format_name) (format_file f) none (is.3 (can.own.tell k lt tt)))
      | inr (g, shows, zero_term) ↦
          let found = read_shown (Some f) (why_at whys k) g (view_at old k) (view_at mid k) is (can.each k lt) shows in
          ap (λ (x : Option DriveFormat). term_of x) found.0 ∙ zero_term
    ]

    top_none : top ≡ 0
    top_none = elim top_is.had [
      | inl none ↦ none
      | inr (k, lt, is) ↦ let here : k < length old = omega (arith, lt, read.counted) in sym is ∙ term_none k here (format_at formats k) (read.drives.each k here)
    ]

-- each drive takes what is written while the set is made
all_take : (set : SetPlan) (term passed : ℕ) (other : Why) (whys : List Why) (old new : List DriveView)
    → ((k : ℕ) → k < length old → Serves (view_at old k) (view_at new k))
    → ((k : ℕ) → IsBitSet passed k → other ≡ Good) → AreWritten set term passed other whys old new → AllGood whys
all_take set term passed other whys old new serve is wrote k lt =
    let here : k < length old = omega (arith, lt, wrote.lettered) in
    written_good (file_for set k term) term passed other k (why_at whys k) (view_at old k) (view_at new k) (wrote.drives.each k here) (is k) (serve k here)

-- a write needs no more drives than there are
writes_at_most : (n p : ℕ) → 4 ≤ n → p + p ≤ n → write_drives n p ≤ n
writes_at_most n p four half = grind (arith, nat_tests)

-- no drive is in the set of none
in_none : (k : ℕ) (other : Why) → IsBitSet 0 k → other ≡ Good
in_none k other bit = absurd (bit (and_zero_l (2 ^ k)))

-- the drives that serve over a first call do, and over the rest
serve_first : (old mid new : List DriveView) → AllGoOn old mid → AllGoOn mid new → ((k : ℕ) → k < length old → Serves (view_at old k) (view_at new k))
    → (k : ℕ) → k < length old → Serves (view_at old k) (view_at mid k)
serve_first old mid new one two serve k lt =
    serves_first (view_at old k) (view_at mid k) (view_at new k) (one.each k lt) (two.each k (omega (arith, lt, one.long))) (serve k lt)

serve_then : (old mid new : List DriveView) → AllGoOn old mid → AllGoOn mid new → ((k : ℕ) → k < length old → Serves (view_at old k) (view_at new k))
    → (k : ℕ) → k < length mid → Serves (view_at mid k) (view_at new k)
serve_then old mid new one two serve k lt =
    let here : k < length old = omega (arith, lt, one.long) in
    serves_then (view_at old k) (view_at mid k) (view_at new k) (one.each k here) (two.each k lt) (serve k here)

-- a set isn't refused while it is made
not_unmade : (set : SetPlan) (whys told : List Why) (old new : List DriveView) → AllAnswered whys
    → ((k : ℕ) → k < length old → Serves (view_at old k) (view_at new k))
    → IsUnmade set whys told old new → ⊥
not_unmade set whys told old new answered serve (inl refused) = refused.1 answered
not_unmade set whys told old new answered serve (inr (made, bad)) = bad (all_take set 0 made.passed Good told old new serve (λ k bit. refl) made.wrote)

-- all drives take the first term
first_enough : (set : SetPlan) (told : List Why) (taken : ℕ) (old new : List DriveView) → 4 ≤ set.drives → set.parity + set.parity ≤ set.drives
    → length old ≡ set.drives
    → ((k : ℕ) → k < length old → Serves (view_at old k) (view_at new k)) → TermIsWritten set 0 0 told taken old new → write_drives set.drives set.parity ≤ taken
first_enough set told taken old new four half long serve written =
    let good : AllGood told = all_take set 1 0 (Lacks Format) told old new serve (λ k bit. in_none k (Lacks Format) bit) written.wrote in
    let all : count_in written.took.mask (length told) ≡ length told = all_in written.took.mask (length told)
    (λ k lt. (written.took.good.bits k lt).1 (good k lt)) in
    let most = writes_at_most set.drives set.parity four half in
    omega (arith, most, all, long, written.wrote.lettered, written.took.count_is)

-- a set that can be made is refused for want of memory alone
can_make : (set : SetPlan) (refusal : OpenRefusal) (old new : List DriveView) → IsPlanFor set old → CanMake set old new
    → Follows set (Err refusal) old new → refusal ≡ NoMemory
can_make set refusal old new plan can all =
    let one = only_read_go_on old all.mid all.read.read.only in
    let two = from_goes_on set all.whys all.top (Err refusal) all.mid new all.goes_on in
    let first : CanMake set old all.mid = record { own = can.own; each = serve_first old all.mid new one two can.each; unopened = can.unopened; some = can.some } in
    let serve = serve_then old all.mid new one two can.each in
    let is = makes_it set all.formats all.whys all.top old all.mid first all.read.read all.read.top_is in
    elim all.goes_on [
      | inl (making, inl (made_at, written, made, good, takes)) ↦
          let three = made_goes_on set all.whys written all.mid made_at made in
          let four = takes_go_on set 0 0 (Err refusal) made_at new takes in
          let last = serve_then all.mid made_at new three four serve in
          take_refused set 0 0 refusal made_at new (lit< tt)
          (λ told taken wrote. first_enough set told taken made_at new plan.four plan.half (three.long ∙ one.long ∙ plan.long) last wrote) takes
      | inl (making, inr (inl (told, e, unmade))) ↦ absurd (not_unmade set all.whys told all.mid new is.1 serve unmade)
      | inl (making, inr (inr (e, same))) ↦ (let both : Err refusal ≡ Err NoMemory = e in cc)
      | inr (not, rest) ↦ absurd (not is.0)
    ]

either_way : (set : SetPlan) (refusal : OpenRefusal) (old new : List DriveView) → IsPlanFor set old → CanOpen set old new ⊎ CanMake set old new
    → Follows set (Err refusal) old new → refusal ≡ NoMemory
either_way set refusal old new plan (inl can) all = can_open set refusal old new can all
either_way set refusal old new plan (inr can) all = can_make set refusal old new plan can all

own_of : (set : SetPlan) (old new : List DriveView) → CanOpen set old new ⊎ CanMake set old new → EachOwn set old
own_of set old new (inl can) = can.own
own_of set old new (inr can) = can.own

pub complete : OpeningIsComplete
complete set (WrongSet found wanted) old new plan opens can = absurd (no_other set found wanted old new (own_of set old new can) opens)
complete set (OpenQuorum whys) old new plan opens can = either_way set (OpenQuorum whys) old new plan can opens
complete set NoMemory old new plan opens can = refl
complete set TermSpent old new plan opens can = either_way set TermSpent old new plan can opens
complete set (AuditFailed before after) old new plan opens can = absurd opens
