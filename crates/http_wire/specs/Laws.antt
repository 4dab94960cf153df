-- That what decides of a text decides one way.
use Rattle.std.specs.Prelude.{◌≡◌, ℕ, List, [], ◌++◌, take}
use Rattle.std.specs.Io.KnownBytes.{prepend_known, IsAtEnd}
use Rattle.httparse.specs.Grammar.{RequestHead, print_request, EndsInTarget}
use Rattle.http_wire.specs.Heads.{BeginsHead, IsOpen, IsBad, IsTooLong, most_bytes}
use Rattle.http_wire.specs.declared.fault.WireFault.{WireFault}
use Rattle.http_wire.specs.declared.reading.Reading.TheVariants.{Whole, End, Refused}
use Rattle.http_wire.specs.Parts.{HeadParts, parts_of}
use Rattle.http_wire.specs.Answers.{Wired, ReadsNext, GivesPart}
use Rattle.http_wire.specs.Taking.{HandsOn, SourceView}

-- a text begins with one head at most, and then it is neither open nor refused; one that is open is not refused, and one
-- that is bad has reached no limit, but for a text that ends inside a target, where the test for UTF-8 may come later
pub record HeadsExclude : Type 0 where
  pub one_head : (text after rest : List ℕ) (h k : RequestHead) → BeginsHead text h after → BeginsHead text k rest → (h ≡ k) × (after ≡ rest)
  pub whole_open : (text after : List ℕ) (h : RequestHead) → BeginsHead text h after → ¬ (IsOpen text)
  pub whole_bad : (text after : List ℕ) (h : RequestHead) → BeginsHead text h after → ¬ (IsBad (take most_bytes text))
  pub whole_long : (text after : List ℕ) (h : RequestHead) → BeginsHead text h after → ¬ (IsTooLong (take most_bytes text))
  pub open_long : (text : List ℕ) → IsOpen text → ¬ (IsTooLong (take most_bytes text))
  pub open_bad : (text : List ℕ) → IsOpen text → IsBad (take most_bytes text) → EndsInTarget text
  pub bad_long : (text : List ℕ) → IsBad text → IsTooLong text → EndsInTarget (take 65535 text)

-- what has decided stays so whatever follows, and what is open was open before: the pieces in which bytes come change
-- nothing, but where a text ends inside a target
pub record HeadsStay : Type 0 where
  pub whole_more : (text more after : List ℕ) (h : RequestHead) → BeginsHead text h after → BeginsHead (text ++ more) h (after ++ more)
  pub bad_more : (text more : List ℕ) → IsBad (take most_bytes text) → IsBad (take most_bytes (text ++ more))
  pub long_more : (text more : List ℕ) → IsTooLong (take most_bytes text) → IsTooLong (take most_bytes (text ++ more))
  pub open_before : (text more : List ℕ) → IsOpen (text ++ more) → IsOpen text

-- what a wire gives is what was unread, in order, where the unread bytes are those that wait and then those that are left
-- of the source: a head is all its bytes, a refusal and the end are none; and it is what the takes answered, in order
pub record GivesInOrder : Type 0 where
  pub head : (head : HeadParts) (n : ℕ) (before waits : List ℕ) (source after : SourceView) (faults faults_after : ℕ)
      → ReadsNext (Whole head n) before waits source after faults faults_after
      → (tree : RequestHead) × (head ≡ parts_of tree) × HandsOn (print_request tree) before waits source after
      × (prepend_known before source.left ≡ prepend_known (print_request tree) (prepend_known waits after.left))
  pub refused : (fault : WireFault) (before waits : List ℕ) (source after : SourceView) (faults faults_after : ℕ)
      → ReadsNext (Refused fault) before waits source after faults faults_after
      → HandsOn [] before waits source after × (prepend_known before source.left ≡ prepend_known waits after.left)
  pub end : (before waits : List ℕ) (source after : SourceView) (faults faults_after : ℕ)
      → ReadsNext End before waits source after faults faults_after
      → HandsOn [] before waits source after × (prepend_known before source.left ≡ prepend_known waits after.left)
      × IsAtEnd (prepend_known before source.left)
  pub part : (n : ℕ) (into : List ℕ) (old new : Wired) (source after : SourceView) (faults faults_after : ℕ)
      → GivesPart n into old new source after faults faults_after
      → HandsOn (take n into) old.waits new.waits source after
      × (prepend_known old.waits source.left ≡ prepend_known (take n into) (prepend_known new.waits after.left))
