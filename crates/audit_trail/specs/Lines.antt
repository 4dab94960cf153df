-- Lines of entries.
use Rattle.std.specs.Prelude.{◌≡◌, ◌≢◌, ℕ, Bool, List, [], ◌∷◌, ◌++◌, All, codes, decimal, Option, MatchBool}
use Rattle.std.specs.Io.KnownBytes.{append_known}
use Rattle.fault_base.specs.Counts.{Rose}
use Rattle.io_base.specs.Sink.{GaveFront}
use Rattle.percent_encoding.specs.Percent.{percent_encode}
use Rattle.audit_trail.specs.declared.entry.Deed.{Deed}
use Rattle.audit_trail.specs.declared.entry.Deed.TheVariants.{Done, Refused, Kept, Opened}
use Rattle.audit_trail.specs.declared.entry.Entry.{Entry}
use Rattle.audit_trail.specs.declared.lines.TheConstants.{ESCAPED}

-- the word of a deed, between two spaces
abbrev pub deed_text : Deed → List ℕ
deed_text (Done call reply) = codes " done "
deed_text (Refused change call) = codes " refused "
deed_text Kept = codes " kept "
deed_text (Opened term) = codes " opened "

-- the line of an entry
abbrev pub line_of : Entry → List ℕ
line_of entry = decimal entry.ticket ++ (deed_text entry.deed ++ (percent_encode ESCAPED entry.name ++ 10 ∷ []))

-- what a sink has got of a line, told or not: all of it, or a front of it where the sink failed, which it then counted
abbrev pub CutsLine : List ℕ → Bool → Option (List ℕ) → Option (List ℕ) → ℕ → ℕ → Type 0
CutsLine line cut old new before after = MatchBool cut
    (GaveFront line old new × Rose before after)
    ((new ≡ append_known old line) × (after ≡ before))

-- an escaped name has no line feed
abbrev pub NamesKeepTheLine : Type 0
NamesKeepTheLine = (name : List ℕ) → All (λ byte. byte ≢ 10) (percent_encode ESCAPED name)
