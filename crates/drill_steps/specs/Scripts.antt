-- What a script's lines do one after another, and that it is turns of lives.
use Rattle.std.specs.Prelude.{◌≡◌, List, [], ◌∷◌, ◌++◌, ℕ, Option}
use Rattle.audit_trail.specs.declared.entry.Entry.{Entry}
use Rattle.desk_base.specs.Telling.{Effect}
use Rattle.drill_script.specs.declared.line.Line.{Line}
use Rattle.drill_script.specs.declared.line.Line.TheVariants.{Set, Put, Fill, Get, GetVersion, Range, Delete, DeleteVersion, Go, Run, UpTo, Lose, Back, Hurt, Fuse, Stop}
use Rattle.drive_base.specs.declared.drive.Drive.{Ghosts}
use Rattle.drive_base.specs.declared.plan.SetPlan.{SetPlan}
use Rattle.op_steps.specs.declared.op.Op.{Ghosts as Ops}
use Rattle.drill_steps.specs.Lines.{ByGo, ByRun, ByUpTo, HurtDoes, StartDoes, StepsDo, StopDoes, StrikeDoes, Wording}
use Rattle.drill_steps.specs.Lives.{AreHonestLives, LivesRan, Place, Turn}

-- a line does no damage and opens no store, so it asks nothing of damage
abbrev pub IsHarmless : Line → Type 0
IsHarmless (Set drives parity mode) = Unit {0}
IsHarmless (Put actor key body) = Unit {0}
IsHarmless (Fill actor key length) = Unit {0}
IsHarmless (Get actor key) = Unit {0}
IsHarmless (GetVersion actor key id) = Unit {0}
IsHarmless (Range actor key from to) = Unit {0}
IsHarmless (Delete actor key) = Unit {0}
IsHarmless (DeleteVersion actor key id) = Unit {0}
IsHarmless (Go actor) = Unit {0}
IsHarmless (Run actor) = Unit {0}
IsHarmless (UpTo actor) = Unit {0}
IsHarmless (Lose index) = Unit {0}
IsHarmless (Back index) = Unit {0}
IsHarmless (Hurt index name place) = ⊥
IsHarmless (Fuse index calls late) = Unit {0}
IsHarmless Stop = ⊥

abbrev pub AreHarmless : List Line → Type 0
AreHarmless [] = Unit {0}
AreHarmless (line ∷ lines) = IsHarmless line × AreHarmless lines

module _ {D A O T : Type 0} (ghosts : Ghosts D) (entries : A → Option (List Entry)) (count : A → ℕ) (takes breaks : Effect T) (ops : Ops O)
    (words : Wording O ops.Asked) (set : SetPlan) where
  -- what a line of a script behind its first does to a store, and the text that it gives
  abbrev pub LineDoes : Line → Place D A O T → Place D A O T → List ℕ → Type 0
  LineDoes (Set drives parity mode) old new text = ⊥
  LineDoes (Put actor key body) old new text = StartDoes ghosts takes breaks ops words (Put actor key body) actor old new text
  LineDoes (Fill actor key length) old new text = StartDoes ghosts takes breaks ops words (Fill actor key length) actor old new text
  LineDoes (Get actor key) old new text = StartDoes ghosts takes breaks ops words (Get actor key) actor old new text
  LineDoes (GetVersion actor key id) old new text = StartDoes ghosts takes breaks ops words (GetVersion actor key id) actor old new text
  LineDoes (Range actor key from to) old new text = StartDoes ghosts takes breaks ops words (Range actor key from to) actor old new text
  LineDoes (Delete actor key) old new text = StartDoes ghosts takes breaks ops words (Delete actor key) actor old new text
  LineDoes (DeleteVersion actor key id) old new text = StartDoes ghosts takes breaks ops words (DeleteVersion actor key id) actor old new text
  LineDoes (Go actor) old new text = StepsDo ghosts takes breaks ops words (ByGo ghosts takes breaks ops) actor old new text
  LineDoes (Run actor) old new text = StepsDo ghosts takes breaks ops words (ByRun ghosts takes breaks ops) actor old new text
  LineDoes (UpTo actor) old new text = StepsDo ghosts takes breaks ops words (ByUpTo ghosts takes breaks ops words.pauses) actor old new text
  LineDoes (Lose index) old new text = StrikeDoes ghosts takes breaks ops words old new text
  LineDoes (Back index) old new text = StrikeDoes ghosts takes breaks ops words old new text
  LineDoes (Hurt index name place) old new text = HurtDoes ghosts takes breaks ops words old new text
  LineDoes (Fuse index calls late) old new text = StrikeDoes ghosts takes breaks ops words old new text
  LineDoes Stop old new text = StopDoes ghosts entries count ops words set old new text

  -- lines one after another, with their texts
  abbrev pub LinesDo : List Line → Place D A O T → Place D A O T → List ℕ → Type 0
  LinesDo [] old new text = (new ≡ old) × (text ≡ [])
  LinesDo (line ∷ lines) old new text = (mid : Place D A O T) × (first rest : List ℕ) × LineDoes line old mid first × LinesDo lines mid new rest
      × (text ≡ first ++ rest)

module _ {D A O T : Type 0} (ghosts : Ghosts D) (entries : A → Option (List Entry)) (count : A → ℕ) (takes breaks : Effect T) (ops : Ops O) (set : SetPlan) where
  -- turns lead from one place to another, and where this is so they ask nothing of damage
  pub record AreTurns (calm : Type 0) (old new : Place D A O T) : Type 0 where
    pub turns : List Turn
    pub ran : LivesRan ghosts entries count takes breaks ops set turns old new
    pub honest : calm → AreHonestLives ghosts entries count takes breaks ops set turns old new ran

module _ {D A O T : Type 0} (ghosts : Ghosts D) (entries : A → Option (List Entry)) (count : A → ℕ) (takes breaks : Effect T) (ops : Ops O) where
  -- any lines of a script are turns of lives, and where none is a `hurt` or a `stop` they ask nothing of damage
  abbrev pub LinesAreTurns : Type 0
  LinesAreTurns = (words : Wording O ops.Asked) (set : SetPlan) (lines : List Line) (old new : Place D A O T) (text : List ℕ)
      → LinesDo ghosts entries count takes breaks ops words set lines old new text
      → AreTurns ghosts entries count takes breaks ops set (AreHarmless lines) old new
