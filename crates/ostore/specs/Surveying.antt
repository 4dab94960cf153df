-- What the command `status` comes to.
use Rattle.std.specs.Prelude.{◌≡◌, ◌⊎◌, ℕ, List, [], ◌∷◌, Vec, Some, None}
use Rattle.std.specs.Global.{Global}
use Rattle.drive_base.specs.View.{AllOnlyRead, DriveView, views}
use Rattle.drive_base.specs.declared.drive.Drive.{Ghosts}
use Rattle.drive_base.specs.declared.plan.SetPlan.{SetPlan}
use Rattle.fault_base.specs.Counts.{Rose}
use Rattle.serve_loop.specs.Deeds.{Wires}
use Rattle.serve_loop.specs.Sending.{Sent, SentFront, SinkView}
use Rattle.term_gate.specs.Surveying.{Surveys}
use Rattle.term_gate.specs.declared.seen.Seen.{Seen}
use Rattle.ostore.specs.Document.{document_text}
use Rattle.ostore.specs.Statuses.{done, out_of_memory, write_fault}
use Rattle.ostore.specs.declared.rig.Ended.{Ended}
use Rattle.ostore.specs.declared.rig.Rig.{Rig}

-- the sink that wires show
abbrev pub sink_of : Wires → SinkView
sink_of wires = record { given = wires.given; gives = wires.gives }

-- a text was given whole, or a front of it where the sink failed
abbrev pub GivesText : ℕ → List ℕ → SinkView → SinkView → ℕ → ℕ → Type 0
GivesText status text sink sink_after faults faults_after =
    ((status ≡ done) × Sent text sink sink_after × (faults_after ≡ faults))
    ⊎ ((status ≡ write_fault) × SentFront text sink sink_after × Rose faults faults_after)

-- drives were surveyed, and the document of that was given, or a front of it where the sink failed
pub record TellsSurvey (set : SetPlan) (status : ℕ) (drives drives_after : List DriveView) (sink sink_after : SinkView) (faults faults_after : ℕ) : Type 0 where
  pub seens : List Seen
  pub term : ℕ
  pub surveys : Surveys set seens term drives drives_after
  pub gives : GivesText status (document_text set seens term) sink sink_after faults faults_after

-- a survey was told, or there was no memory, and nothing was given
abbrev pub Tells : SetPlan → ℕ → List DriveView → List DriveView → SinkView → SinkView → ℕ → ℕ → Type 0
Tells set status drives drives_after sink sink_after faults faults_after =
    TellsSurvey set status drives drives_after sink sink_after faults faults_after
    ⊎ ((status ≡ out_of_memory) × (sink_after ≡ sink) × (faults_after ≡ faults))

module _ {D A : Type 0} (ghosts : Ghosts D) where
  -- of a rig the data drives alone were called, and these were only read
  pub record OnlyLooked (rig after : Rig D A) : Type 0 where
    pub set_is : after.set ≡ rig.set
    pub slots : after.slots.items ≡ rig.slots.items
    pub row : Vec D Global
    pub rows : rig.data.items ≡ row ∷ []
    pub row_after : Vec D Global
    pub rows_after : after.data.items ≡ row_after ∷ []
    pub only : AllOnlyRead (views ghosts row.items) (views ghosts row_after.items)

  -- what `status` comes to: the rig is handed back, and a survey of its data drives told, for which the source is not asked
  pub record Surveyed (rig : Rig D A) (ended : Ended D A (Unit {0})) (before after : Wires) : Type 0 where
    pub rig_after : Rig D A
    pub rig_is : ended.rig ≡ Some rig_after
    pub opening : ended.opening ≡ None
    pub line : ended.line ≡ None
    pub starved : ended.starved ≡ 0
    pub left : after.left ≡ before.left
    pub takes : after.takes ≡ before.takes
    pub reads : after.read_faults ≡ before.read_faults
    pub looked : OnlyLooked rig rig_after
    pub tells : Tells rig.set ended.status (views ghosts looked.row.items) (views ghosts looked.row_after.items)
        (sink_of before) (sink_of after) before.write_faults after.write_faults
