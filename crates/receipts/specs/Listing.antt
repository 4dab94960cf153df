-- What ListObjectsV2 and ListObjectVersions owe.
use Rattle.std.specs.Prelude.{◌≡◌, ◌⊎◌, ℕ, ◌<◌, true, false, List, ◌∷◌, All, Contains, map, take, Some, MatchOption}
use Rattle.std.specs.List.Sorted.{IsStrictlySortedBy}
use Rattle.std.specs.declared.cmp.Ordering.{Ordering}
use Rattle.call_types.specs.declared.names.Key.{Key}
use Rattle.call_types.specs.declared.names.Mode.{Mode}
use Rattle.call_types.specs.declared.reply.Reply.{Reply}
use Rattle.call_types.specs.declared.reply.VersionRow.{VersionRow}
use Rattle.desk_base.specs.Calls.{IsKey}
use Rattle.desk_base.specs.declared.asks.ListAsk.{ListAsk}
use Rattle.desk_base.specs.declared.asks.VersionsAsk.{VersionsAsk}
use Rattle.drive_base.specs.Names.{byte_order}
use Rattle.version_list.specs.Spelling.{spelling}
use Rattle.version_list.specs.State.{IsCanonical}
use Rattle.receipts.specs.Events.{Log, Section, sections_of}
use Rattle.receipts.specs.Looks.{EndsAtLook, FindsBucket, LooksAt}
use Rattle.receipts.specs.Pages.{Candidate, PageRule, group_in, group_of, is_before, is_truncated, keys_rule, last_given, name_of, page_of, row_name, rows_of, versions_rule, wants}
use Rattle.receipts.specs.Paging.{DoesNothing, IsAskedFor, ListingIsBarred, ListingIsRefused}
use Rattle.receipts.specs.Registers.{key_register, key_slot}

-- a key of a bucket
abbrev pub key_in : List ℕ → List ℕ → Key
key_in bucket key = record { bucket = bucket; key = key }

-- a section looked at the register of a key, and was shown the spelling of its state
pub record ViewsKey (bucket : List ℕ) (candidate : Candidate) (section : Section) : Type 0 where
  pub canonical : IsCanonical candidate.state
  pub looks : LooksAt (key_slot (key_in bucket candidate.key)) (key_register (key_in bucket candidate.key)) (spelling candidate.state) section

-- a key was asked for, and where its name was shown, the later look gave one of the candidates
pub record KeyIsAskedFor (bucket key : List ℕ) (looked : List Candidate) (sections : List Section) : Type 0 where
  pub asked : IsAskedFor (key_slot (key_in bucket key)) (key_register (key_in bucket key)) sections
  pub given : (shown : Contains asked.page.names (key_register (key_in bucket key)))
      → (candidate : Candidate) × (candidate.key ≡ key) × Contains looked candidate × ViewsKey bucket candidate (asked.looks shown).1

-- a key is due on a page: it isn't left out, it is in no group that is a row of the page, and where the page is cut it isn't behind its last row
pub record IsDue (rule : PageRule) (rows : List VersionRow) (key : List ℕ) : Type 0 where
  pub wanted : wants rule key ≡ true
  pub ungrouped : (group : List ℕ) → group_of rule key ≡ Some group → Contains (map group_in (take rule.most rows)) (Some group) → ⊥
  pub within : is_truncated rule rows ≡ true → MatchOption (last_given rule rows) ⊥ (λ last. is_before (name_of last) (row_name rule key) ≡ false)

-- the order of candidates: that of their keys
abbrev pub key_order : Candidate → Candidate → Ordering
key_order a b = byte_order a.key b.key

-- The reply is the page of the keys that were looked at, which rise, each with the state that a look found. Each key that is due was asked for. No section did
-- anything of its own.
pub record KeysAreListed (rule : PageRule) (bucket : List ℕ) (reply : Reply) (sections : List Section) : Type 0 where
  pub looked : List Candidate
  pub rising : IsStrictlySortedBy key_order looked
  pub viewed : All (λ candidate. (look : Section) × Contains sections look × ViewsKey bucket candidate look) looked
  pub told : reply ≡ page_of rule (rows_of rule looked)
  pub due : 0 < rule.most → (key : List ℕ) → IsKey (key_in bucket key) → IsDue rule (rows_of rule looked) key → KeyIsAskedFor bucket key looked sections
  pub idle : All DoesNothing sections

-- behind the look that found the bucket the listing's own sections stand
pub record PageIsTold (rule : PageRule) (bucket : List ℕ) (reply : Reply) (log : Log) : Type 0 where
  pub look : Section
  pub rest : List Section
  pub sections : sections_of log ≡ look ∷ rest
  pub mode : Mode
  pub finds : FindsBucket bucket mode look
  pub tells : KeysAreListed rule bucket reply rest ⊎ ListingIsRefused reply rest ⊎ ListingIsBarred reply log

-- what a listing of a bucket is answered
abbrev pub PageOwes : PageRule → List ℕ → Reply → Log → Type 0
PageOwes rule bucket reply log = EndsAtLook bucket reply log ⊎ PageIsTold rule bucket reply log

abbrev pub List2Owes : List ℕ → ListAsk → Reply → Log → Type 0
List2Owes bucket ask reply log = PageOwes (keys_rule ask) bucket reply log

abbrev pub ListVersionsOwes : List ℕ → VersionsAsk → Reply → Log → Type 0
ListVersionsOwes bucket ask reply log = PageOwes (versions_rule ask) bucket reply log
