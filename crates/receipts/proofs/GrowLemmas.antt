-- Logs that grow by quiet events, and what their calls told.
use Rattle.std.proofs.Common.{◌≡◌, ◌∙◌, ℕ, zero, suc, List, [], ◌∷◌, ◌++◌, All, Contains, map, slice_index_or, append-nil, append_assoc, ap, ap₂, refl, arith}
use Rattle.std.specs.List.{flat_map}
use Rattle.std.proofs.lemmas.List.Elements.{Contains-append_left}
use Rattle.drive_base.specs.Calls.{Seen}
use Rattle.receipts.specs.Events.{Event, IsQuiet, IsUntold, Log, Saw, body_of, cut_in, cuts_of, section_in, sections_of, taken_in, tale_of, told_in}
use Rattle.receipts.specs.Events.Event.{Called}
use Rattle.receipts.specs.Laws.{QuietKeepsNotes}
use Rattle.receipts.proofs.JoinLemmas.{bodies_join, cuts_join, quiet_is_silent, sections_join, tales_join}

-- what is true of all is true of the first, and of the rest
pub all_head : {A : Type 0} (P : A → Type 0) (x : A) (xs : List A) → All P (x ∷ xs) → P x
all_head P x xs h = h zero x (omega arith)

pub all_tail : {A : Type 0} (P : A → Type 0) (x : A) (xs : List A) → All P (x ∷ xs) → All P xs
all_tail P x xs h k d l = h (suc k) d (omega (arith, l))

-- a reading of quiet events is empty, where each of them adds nothing to it
pub none_of : {A : Type 0} (f : Event → List A) → ((event : Event) → IsQuiet event → f event ≡ []) → (more : Log) → All IsQuiet more → flat_map f more ≡ []
none_of f silent [] quiet = refl
none_of f silent (event ∷ more) quiet =
    ap₂ (λ a b. a ++ b) (silent event (all_head IsQuiet event more quiet)) (none_of f silent more (all_tail IsQuiet event more quiet))

-- a reading of a log stays while quiet events are added
pub same_after : {A : Type 0} (f : Event → List A) → ((event : Event) → IsQuiet event → f event ≡ []) → (log more : Log) → All IsQuiet more
    → flat_map f log ++ flat_map f more ≡ flat_map f log
same_after f silent log more quiet = ap (λ rest. flat_map f log ++ rest) (none_of f silent more quiet) ∙ append-nil (flat_map f log)

pub quiet_sections : (log more : Log) → All IsQuiet more → sections_of (log ++ more) ≡ sections_of log
quiet_sections log more quiet = sections_join log more ∙ same_after section_in (λ event h. (quiet_is_silent event h).section) log more quiet

pub quiet_bodies : (log more : Log) → All IsQuiet more → body_of (log ++ more) ≡ body_of log
quiet_bodies log more quiet = bodies_join log more ∙ same_after taken_in (λ event h. (quiet_is_silent event h).taken) log more quiet

pub quiet_tales : (log more : Log) → All IsQuiet more → tale_of (log ++ more) ≡ tale_of log
quiet_tales log more quiet = tales_join log more ∙ same_after told_in (λ event h. (quiet_is_silent event h).told) log more quiet

pub quiet_cuts : (log more : Log) → All IsQuiet more → cuts_of (log ++ more) ≡ cuts_of log
quiet_cuts log more quiet = cuts_join log more ∙ same_after cut_in (λ event h. (quiet_is_silent event h).cut) log more quiet

pub quiet_notes : QuietKeepsNotes
quiet_notes log more quiet = ap (map (λ section. section.note)) (quiet_sections log more quiet)

pub quiet_untold : (more : Log) → All IsQuiet more → All IsUntold more
quiet_untold more quiet k d l = (quiet_is_silent (slice_index_or more k d) (quiet k d l)).untold

-- what a call told in a log it told in each that has the events of this one
pub saw_grows : (log later : Log) (k : ℕ) (seen : Seen) → ((event : Event) → Contains log event → Contains later event) → Saw log k seen → Saw later k seen
saw_grows log later k seen keeps x = record { made = x.made; called = keeps (Called k x.made) x.called; tells = x.tells }

pub saw_more : (log more : Log) (k : ℕ) (seen : Seen) → Saw log k seen → Saw (log ++ more) k seen
saw_more log more k seen x = saw_grows log (log ++ more) k seen (λ event h. Contains-append_left log more event h) x

-- a log grows: its sections and what was taken stay, and what was called stays called, also in its last part, in which nothing more is told
pub record Grows (log later : Log) : Type 0 where
  pub sections : sections_of later ≡ sections_of log
  pub body : body_of later ≡ body_of log
  pub calls : (event : Event) → Contains log event → Contains later event
  pub since : (before s : Log) → log ≡ before ++ s → (t : Log) × (later ≡ before ++ t) × (tale_of t ≡ tale_of s)
      × ((event : Event) → Contains s event → Contains t event)

pub quiet_grows : (log more : Log) → All IsQuiet more → Grows log (log ++ more)
quiet_grows log more quiet = record {
  sections = quiet_sections log more quiet;
  body = quiet_bodies log more quiet;
  calls = λ event h. Contains-append_left log more event h;
  since = λ before s parts. (
    s ++ more,
    ap (λ l. l ++ more) parts ∙ append_assoc before s more,
    quiet_tales s more quiet,
    λ event h. Contains-append_left s more event h,
  );
}
