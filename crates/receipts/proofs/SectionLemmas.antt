-- What one section more adds to a log.
use Rattle.std.proofs.Common.{◌≡◌, ◌⊎◌, ◌∙◌, ℕ, List, [], ◌∷◌, ◌++◌, All, Contains, Option, Some, append-nil, append_assoc, sym, ap, subst}
use Rattle.std.proofs.lemmas.List.Elements.{All-push, Contains-append_left, Contains-push, Contains-push_cases}
use Rattle.receipts.specs.Events.{IsUntold, Log, Note, Section, Shown, body_of, cuts_of, sections_of}
use Rattle.receipts.specs.Events.Event.{Turned}
use Rattle.receipts.proofs.JoinLemmas.{bodies_join, cuts_join, sections_join}

-- a log with one section more that has a note
abbrev pub with_section : Log → ℕ → Section → Log
with_section log k section = log ++ Turned k (Some section.note) section.shown ∷ []

pub one_more : (log : Log) (k : ℕ) (section : Section) → sections_of (with_section log k section) ≡ sections_of log ++ section ∷ []
one_more log k section = sections_join log (Turned k (Some section.note) section.shown ∷ [])

-- nothing was told, cut or taken by it
pub untold_more : (log : Log) (k : ℕ) (note : Option Note) (shown : Shown) → All IsUntold log → All IsUntold (log ++ Turned k note shown ∷ [])
untold_more log k note shown untold = All-push IsUntold log (Turned k note shown) untold tt

pub uncut_more : (log : Log) (k : ℕ) (note : Option Note) (shown : Shown) → cuts_of log ≡ [] → cuts_of (log ++ Turned k note shown ∷ []) ≡ []
uncut_more log k note shown uncut = cuts_join log (Turned k note shown ∷ []) ∙ (append-nil (cuts_of log) ∙ uncut)

pub body_more : (log : Log) (k : ℕ) (note : Option Note) (shown : Shown) → body_of log ≡ [] → body_of (log ++ Turned k note shown ∷ []) ≡ []
body_more log k note shown none = bodies_join log (Turned k note shown ∷ []) ∙ (append-nil (body_of log) ∙ none)

-- what was there is there, and so is the new one
pub still_there : (log : Log) (k : ℕ) (section x : Section) → Contains (sections_of log) x → Contains (sections_of (with_section log k section)) x
still_there log k section x there = subst (λ l. Contains l x) (sym (one_more log k section)) (Contains-append_left (sections_of log) (section ∷ []) x there)

pub now_there : (log : Log) (k : ℕ) (section : Section) → Contains (sections_of (with_section log k section)) section
now_there log k section = subst (λ l. Contains l section) (sym (one_more log k section)) (Contains-push (sections_of log) section)

pub old_or_new : (log : Log) (k : ℕ) (section x : Section) → Contains (sections_of (with_section log k section)) x → Contains (sections_of log) x ⊎ (section ≡ x)
old_or_new log k section x there = Contains-push_cases (sections_of log) section x (subst (λ l. Contains l x) (one_more log k section) there)

pub all_more : (P : Section → Type 0) (log : Log) (k : ℕ) (section : Section) → All P (sections_of log) → P section → All P (sections_of (with_section log k section))
all_more P log k section all own = subst (All P) (sym (one_more log k section)) (All-push P (sections_of log) section all own)

pub parts_more : (log : Log) (k : ℕ) (section : Section) (before : List Section) (asked : Section) (after : List Section) → sections_of log ≡ before ++ asked ∷ after
    → sections_of (with_section log k section) ≡ before ++ asked ∷ (after ++ section ∷ [])
parts_more log k section before asked after parts =
    one_more log k section ∙ (ap (λ l. l ++ section ∷ []) parts ∙ append_assoc before (asked ∷ after) (section ∷ []))
