-- What an intake shows, and the rest of a body that it passes over.
use Rattle.std.specs.Prelude.{◌≡◌, ◌-◌, ◌<◌, ℕ, List, [], ◌∷◌, ◌++◌, length, take, Some, None, Result, Ok, Err}
use Rattle.std.specs.Io.KnownBytes.{prepend_known}
use Rattle.fault_base.specs.Counts.{Rose}
use Rattle.io_base.specs.Trail.{TakeCall, obtained}
use Rattle.http_wire.specs.Answers.{Wired}
use Rattle.http_wire.specs.Taking.{HasEnded, SourceView, Taken, took_none}
use Rattle.call_types.specs.Feeds.{FeedView}
use Rattle.call_types.specs.declared.feed.Cut.{Cut}
use Rattle.call_types.specs.declared.feed.Cut.TheVariants.{ReadFault, BodyCut, WriteFault, ShardCut, NoMemory}

-- of all bytes that were taken those that were handed on, where these wait, which are the last
abbrev pub handed : List ℕ → List ℕ → List ℕ
handed waits all = take (length all - length waits) all

-- the bytes that wait are the last of those that the takes answered
abbrev pub AreLast : List ℕ → List TakeCall → Type 0
AreLast waits takes = obtained takes ≡ handed waits (obtained takes) ++ waits

-- the takes of a source of which bytes wait that count as not taken: one take that answered the others stands for all, and shows no end
abbrev pub settled : List ℕ → List TakeCall → List TakeCall
settled [] takes = takes
settled (byte ∷ waits) takes = record { room = 0; answer = Ok (handed (byte ∷ waits) (obtained takes)) } ∷ []

-- a source with bytes that wait: these and those that are left of it were not read yet
abbrev pub with_waiting : List ℕ → SourceView → SourceView
with_waiting waits source = record { left = prepend_known waits source.left; takes = settled waits source.takes }

-- that of a wire
abbrev pub unread_of : Wired → SourceView → SourceView
unread_of wire source = with_waiting wire.waits source

-- a body of a stated length, some of which is left
abbrev pub feed_of : ℕ → Wired → SourceView → FeedView
feed_of stated wire source = record {
  stated = stated;
  given = stated - wire.body_left;
  left = (unread_of wire source).left;
  taken = Some (obtained (unread_of wire source).takes);
  ended = took_none (unread_of wire source).takes;
}

-- no body is left, and nothing was refused
pub record IsAtRest (wire : Wired) : Type 0 where
  pub nothing : wire.body_left ≡ 0
  pub passes : wire.refused ≡ None

-- the rest of a body was read, and the next head may be read
pub record PassedOver (old new : Wired) (source after : SourceView) (faults faults_after : ℕ) : Type 0 where
  pub rest : List ℕ
  pub long : length rest ≡ old.body_left
  pub took : Taken rest (unread_of old source) (unread_of new after)
  pub at_rest : IsAtRest new
  pub counted : faults_after ≡ faults

-- some of it was read
pub record PassedPart (old new : Wired) (source after : SourceView) : Type 0 where
  pub part : List ℕ
  pub long : length part < old.body_left
  pub took : Taken part (unread_of old source) (unread_of new after)

-- some of it was read, and then the source ended or failed
abbrev pub CutsOver : Cut → (old new : Wired) → (source after : SourceView) → (faults faults_after : ℕ) → Type 0
CutsOver ReadFault old new source after faults faults_after = PassedPart old new source after × Rose faults faults_after
CutsOver (BodyCut _ _) old new source after faults faults_after = PassedPart old new source after × HasEnded (unread_of new after) × (faults_after ≡ faults)
CutsOver WriteFault old new source after faults faults_after = ⊥
CutsOver (ShardCut _) old new source after faults faults_after = ⊥
CutsOver NoMemory old new source after faults faults_after = ⊥

-- the rest of a body was passed over, or some of it
abbrev pub PassesOver : {U : Type 0} → Result U Cut → (old new : Wired) → (source after : SourceView) → (faults faults_after : ℕ) → Type 0
PassesOver (Ok _) old new source after faults faults_after = PassedOver old new source after faults faults_after
PassesOver (Err why) old new source after faults faults_after = CutsOver why old new source after faults faults_after

-- nothing is refused behind what was given
abbrev pub LiftsRefusal : {T E : Type 0} → Result T E → Wired → Type 0
LiftsRefusal (Ok _) wire = wire.refused ≡ None
LiftsRefusal (Err _) wire = Unit {0}
