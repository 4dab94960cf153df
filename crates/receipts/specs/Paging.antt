-- How a listing goes over the names of registers, page by page, and how it may end early.
use Rattle.std.specs.Prelude.{◌≡◌, ◌≢◌, ℕ, ◌<◌, List, [], ◌∷◌, ◌++◌, All, Contains, length, None}
use Rattle.std.specs.declared.cmp.Ordering.TheVariants.{Less}
use Rattle.audit_trail.specs.declared.entry.Deed.TheVariants.{Kept}
use Rattle.call_types.specs.declared.reply.Reply.{Reply}
use Rattle.drive_base.specs.Names.{IsBefore, byte_order}
use Rattle.receipts.specs.Events.{Log, Section, sections_of}
use Rattle.receipts.specs.Events.Shown.{NamesShown}
use Rattle.receipts.specs.Looks.{HasEntry, IsIdle, LooksAt, TellsRefusal, TellsSpent}

-- one name doesn't stand behind another
abbrev pub IsUpTo : List ℕ → List ℕ → Type 0
IsUpTo a b = byte_order b a ≢ Less

-- a page of names of a slot's registers, from one on, so many at most
pub record Page : Type 0 where
  pub from : List ℕ
  pub most : ℕ
  pub names : List (List ℕ)

-- a section listed the names of a slot's registers, and was shown this page
pub record ListsPage (slot : ℕ) (page : Page) (section : Section) : Type 0 where
  pub entry : HasEntry slot [] Kept section.note
  pub unrefused : section.note.refusal ≡ None
  pub shown : section.shown ≡ NamesShown page.from page.most page.names

-- a page would have a name, if it were shown: the name isn't before its begin, and the page isn't full before the name
pub record Reaches (page : Page) (name : List ℕ) : Type 0 where
  pub begins : byte_order name page.from ≢ Less
  pub ends : length page.names ≡ page.most → All (λ given. IsBefore given name) page.names → ⊥

-- a section listed names of a slot, by a page that reaches the name of a register
pub record AsksFor (slot : ℕ) (register : List ℕ) (page : Page) (section : Section) : Type 0 where
  pub lists : ListsPage slot page section
  pub reaches : Reaches page register

-- a register was asked for, and where its name was shown it was looked at later
pub record IsAskedFor (slot : ℕ) (register : List ℕ) (sections : List Section) : Type 0 where
  pub page : Page
  pub before : List Section
  pub asked : Section
  pub after : List Section
  pub parts : sections ≡ before ++ asked ∷ after
  pub asks : AsksFor slot register page asked
  pub looks : Contains page.names register → (content : List ℕ) × (look : Section) × Contains after look × LooksAt slot register content look

-- a section did nothing of its own, at a register or at none
abbrev pub DoesNothing : Section → Type 0
DoesNothing section = (slot : ℕ) × (name : List ℕ) × HasEntry slot name Kept section.note

-- the last of the sections was refused, and none did anything of its own
pub record ListingIsRefused (reply : Reply) (sections : List Section) : Type 0 where
  pub before : List Section
  pub last : Section
  pub parts : sections ≡ before ++ last ∷ []
  pub idle_before : All DoesNothing before
  pub slot : ℕ
  pub in_store : slot < 64
  pub name : List ℕ
  pub idle : IsIdle slot name last.note
  pub refuses : TellsRefusal slot last.note reply

-- or the next one could not be done
pub record ListingIsBarred (reply : Reply) (log : Log) : Type 0 where
  pub idle : All DoesNothing (sections_of log)
  pub slot : ℕ
  pub in_store : slot < 64
  pub barred : TellsSpent slot reply log
