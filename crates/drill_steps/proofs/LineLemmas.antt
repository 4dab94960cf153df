-- The lines of a script are turns of lives, and those that do no damage ask nothing of it.
use Rattle.std.proofs.Common.{◌≡◌, ℕ, Bool, true, false, List, [], ◌∷◌, ◌++◌, Option, inl, inr, refl, sym, subst}
use Rattle.audit_trail.specs.declared.entry.Entry.{Entry}
use Rattle.desk_base.specs.Telling.{Effect}
use Rattle.drill_script.specs.declared.line.Line.{Line}
use Rattle.drill_script.specs.declared.line.Line.TheVariants.{Set, Put, Fill, Get, GetVersion, Range, Delete, DeleteVersion, Go, Run, UpTo, Lose, Back, Hurt, Fuse, Stop}
use Rattle.drive_base.specs.declared.drive.Drive.{Ghosts}
use Rattle.drive_base.specs.declared.plan.SetPlan.{SetPlan}
use Rattle.receipts.specs.Events.{Log}
use Rattle.op_steps.specs.declared.op.Op.{Ghosts as Ops}
use Rattle.drill_steps.specs.Laws.{IsHonestRun}
use Rattle.drill_steps.specs.Lines.{ByGo, ByRun, ByUpTo, Driving, Either, HurtDoes, IsGo, IsRun, IsUpTo, LifeEnds, OpeningDoes, StartDoes, StepsDo, StopDoes, StopsSo, StrikeDoes, Wording, ends_go}
use Rattle.drill_steps.specs.Lives.{AreHonestLives, Lives, LivesRan, Place, Turn}
use Rattle.drill_steps.specs.Lives.Turn.{Closed, Damaged, Lived, Opened, Refused, Rested}
use Rattle.drill_steps.specs.Scripts.{AreHarmless, AreTurns, IsHarmless, LineDoes, LinesAreTurns, LinesDo}
use Rattle.drill_steps.specs.Worlds.{Move, World, WorldRan}
use Rattle.drill_steps.specs.Worlds.Move.{Ended, Hurt as Damages, Started, Stepped, Struck}

-- no move is damage
abbrev HurtFree : List Move → Type 0
HurtFree [] = Unit {0}
HurtFree (Started n ∷ moves) = HurtFree moves
HurtFree (Stepped n more ∷ moves) = HurtFree moves
HurtFree (Ended n log ∷ moves) = HurtFree moves
HurtFree (Struck ∷ moves) = HurtFree moves
HurtFree (Damages ∷ moves) = ⊥

none_free : (moves : List Move) → moves ≡ [] → HurtFree moves
none_free moves same = subst (λ m. HurtFree m) (sym same) tt

either_way : (b : Bool) (One Other Then : Type 0) → (One → Then) → (Other → Then) → Either b One Other → Then
either_way true One Other Then one other x = one x
either_way false One Other Then one other x = other x

run_free : (number : ℕ) (moves : List Move) → IsRun number moves → HurtFree moves
run_free number [] x = absurd x
run_free number (Started n ∷ moves) x = absurd x
run_free number (Stepped n more ∷ moves) x = run_free number moves x.1
run_free number (Ended n log ∷ moves) x = none_free moves x.1
run_free number (Struck ∷ moves) x = absurd x
run_free number (Damages ∷ moves) x = absurd x

module _ {D O T : Type 0} (ghosts : Ghosts D) (takes breaks : Effect T) (ops : Ops O) (set : SetPlan) where
  -- such moves ask nothing
  free_honest : (moves : List Move) (old new : World D O T) (ran : WorldRan ghosts takes breaks ops set moves old new) → HurtFree moves
      → IsHonestRun ghosts takes breaks ops set moves old new ran
  free_honest [] old new ran free = tt
  free_honest (Started n ∷ moves) old new ran free = (tt, free_honest moves ran.0 new ran.2 free)
  free_honest (Stepped n more ∷ moves) old new ran free = (tt, free_honest moves ran.0 new ran.2 free)
  free_honest (Ended n log ∷ moves) old new ran free = (tt, free_honest moves ran.0 new ran.2 free)
  free_honest (Struck ∷ moves) old new ran free = (tt, free_honest moves ran.0 new ran.2 free)
  free_honest (Damages ∷ moves) old new ran free = absurd free

  stops_free : (number : ℕ) (moves : List Move) (world : World D O T) → StopsSo ghosts takes breaks ops set number moves world → HurtFree moves
  stops_free number moves world (inl ended) = subst (λ m. HurtFree m) (sym ended.1) tt
  stops_free number moves world (inr stays) = none_free moves stays.0

  go_free : (number : ℕ) (moves : List Move) (old new : World D O T) (ran : WorldRan ghosts takes breaks ops set moves old new)
      → IsGo ghosts takes breaks ops set number moves old new ran → HurtFree moves
  go_free number [] old new ran x = absurd x
  go_free number (Started n ∷ moves) old new ran x = absurd x
  go_free number (Stepped n more ∷ moves) old new ran x =
      either_way (ends_go more) (StopsSo ghosts takes breaks ops set number moves ran.0) (IsGo ghosts takes breaks ops set number moves ran.0 new ran.2)
      (HurtFree moves) (stops_free number moves ran.0) (go_free number moves ran.0 new ran.2) x.1
  go_free number (Ended n log ∷ moves) old new ran x = none_free moves x.1
  go_free number (Struck ∷ moves) old new ran x = absurd x
  go_free number (Damages ∷ moves) old new ran x = absurd x

  upto_free : (pauses : O → Log → Bool) (number : ℕ) (between : Bool) (moves : List Move) (old new : World D O T)
      (ran : WorldRan ghosts takes breaks ops set moves old new) → IsUpTo ghosts takes breaks ops set pauses number between moves old new ran → HurtFree moves
  upto_free pauses number between [] old new ran x = tt
  upto_free pauses number between (Started n ∷ moves) old new ran x = absurd x
  upto_free pauses number between (Stepped n more ∷ moves) old new ran x = upto_free pauses number (ends_go more) moves ran.0 new ran.2 x.1.1
  upto_free pauses number between (Ended n log ∷ moves) old new ran x = none_free moves x.1
  upto_free pauses number between (Struck ∷ moves) old new ran x = absurd x
  upto_free pauses number between (Damages ∷ moves) old new ran x = absurd x

module _ {D A O T : Type 0} (ghosts : Ghosts D) (entries : A → Option (List Entry)) (count : A → ℕ) (takes breaks : Effect T) (ops : Ops O) (set : SetPlan) where
  -- nothing is no turn, and moves are one
  no_turn : (calm : Type 0) (old new : Place D A O T) → new ≡ old → AreTurns ghosts entries count takes breaks ops set calm old new
  no_turn calm old new same = record { turns = []; ran = same; honest = λ so. tt }

  life_turn : (calm : Type 0) (moves : List Move) (old new : Place D A O T) (x : Lives ghosts takes breaks ops moves old new)
      → (calm → HurtFree moves) → AreTurns ghosts entries count takes breaks ops set calm old new
  life_turn calm moves old new x free = record {
    turns = Lived moves ∷ [];
    ran = (new, x, refl);
    honest = λ so. (free_honest ghosts takes breaks ops x.plan moves x.before x.after x.ran (free so), tt);
  }

  -- turns one after another
  join_lives : (one two : List Turn) (old mid new : Place D A O T) (first : LivesRan ghosts entries count takes breaks ops set one old mid)
      (second : LivesRan ghosts entries count takes breaks ops set two mid new) → (ran : LivesRan ghosts entries count takes breaks ops set (one ++ two) old new)
      × (AreHonestLives ghosts entries count takes breaks ops set one old mid first → AreHonestLives ghosts entries count takes breaks ops set two mid new second
      → AreHonestLives ghosts entries count takes breaks ops set (one ++ two) old new ran)
  join_lives [] two old mid new same second =
      subst (λ (p : Place D A O T). (ran : LivesRan ghosts entries count takes breaks ops set two p new)
      × (Unit {0} → AreHonestLives ghosts entries count takes breaks ops set two mid new second
      → AreHonestLives ghosts entries count takes breaks ops set two p new ran)) same (second, λ none all. all)
  join_lives (turn ∷ one) two old mid new (next, x, ran) second =
      let more = join_lives one two next mid new ran second in ((next, x, more.0), λ a b. (a.0, more.1 a.1 b))

  join_turns : (calm quiet : Type 0) (old mid new : Place D A O T) → AreTurns ghosts entries count takes breaks ops set calm old mid
      → AreTurns ghosts entries count takes breaks ops set quiet mid new → AreTurns ghosts entries count takes breaks ops set (calm × quiet) old new
  join_turns calm quiet old mid new one two =
      let both = join_lives one.turns two.turns old mid new one.ran two.ran in
      record { turns = one.turns ++ two.turns; ran = both.0; honest = λ so. both.1 (one.honest so.0) (two.honest so.1) }

module _ {D A O T : Type 0} (ghosts : Ghosts D) (entries : A → Option (List Entry)) (count : A → ℕ) (takes breaks : Effect T) (ops : Ops O)
    (words : Wording O ops.Asked) (set : SetPlan) where
  -- a line that begins an actor
  starts : (line : Line) (name : List ℕ) (old new : Place D A O T) (text : List ℕ) → StartDoes ghosts takes breaks ops words line name old new text
      → AreTurns ghosts entries count takes breaks ops set (Unit {0}) old new
  starts line name old new text (inl shut) = no_turn ghosts entries count takes breaks ops set (Unit {0}) old new shut.1.stays
  starts line name old new text (inr (inl taken)) = no_turn ghosts entries count takes breaks ops set (Unit {0}) old new taken.1.stays
  starts line name old new text (inr (inr begins)) =
      life_turn ghosts entries count takes breaks ops set (Unit {0}) (Started begins.number ∷ []) old new begins.life (λ so. tt)

  -- one that drives an actor
  drives : (By : Driving ghosts takes breaks ops) → ((number : ℕ) (plan : SetPlan) (moves : List Move) (before after : World D O T)
      (ran : WorldRan ghosts takes breaks ops plan moves before after) → By number plan moves before after ran → HurtFree moves)
      → (name : List ℕ) (old new : Place D A O T) (text : List ℕ) → StepsDo ghosts takes breaks ops words By name old new text
      → AreTurns ghosts entries count takes breaks ops set (Unit {0}) old new
  drives By free name old new text (inl none) = no_turn ghosts entries count takes breaks ops set (Unit {0}) old new none.1.stays
  drives By free name old new text (inr x) =
      life_turn ghosts entries count takes breaks ops set (Unit {0}) x.moves old new x.life
      (λ so. free x.number x.life.plan x.moves x.life.before x.life.after x.life.ran x.by)

  -- trouble
  strikes : (old new : Place D A O T) (text : List ℕ) → StrikeDoes ghosts takes breaks ops words old new text
      → AreTurns ghosts entries count takes breaks ops set (Unit {0}) old new
  strikes old new text (silent, inl life) = life_turn ghosts entries count takes breaks ops set (Unit {0}) (Struck ∷ []) old new life (λ so. tt)
  strikes old new text (silent, inr rests) = record { turns = Rested ∷ []; ran = (new, rests, refl); honest = λ so. (tt, tt) }

  -- damage
  hurts : (old new : Place D A O T) (text : List ℕ) → HurtDoes ghosts takes breaks ops words old new text
      → AreTurns ghosts entries count takes breaks ops set ⊥ old new
  hurts old new text (silent, inl same) = no_turn ghosts entries count takes breaks ops set ⊥ old new same
  hurts old new text (silent, inr (inl life)) = life_turn ghosts entries count takes breaks ops set ⊥ (Damages ∷ []) old new life (λ so. absurd so)
  hurts old new text (silent, inr (inr rests)) = record { turns = Damaged ∷ []; ran = (new, rests, refl); honest = λ so. absurd so }

  -- the end of a life and the next one
  life_ends : (old new : Place D A O T) (text : List ℕ) → LifeEnds ghosts entries count ops words set old new text
      → AreTurns ghosts entries count takes breaks ops set (Unit {0}) old new
  life_ends old new text (inl shut) = no_turn ghosts entries count takes breaks ops set (Unit {0}) old new shut.1.0
  life_ends old new text (inr closes) = record { turns = Closed ∷ []; ran = (new, closes.0, refl); honest = λ so. (tt, tt) }

  opening : (old new : Place D A O T) (text : List ℕ) → OpeningDoes ghosts entries count ops words set old new text
      → AreTurns ghosts entries count takes breaks ops set ⊥ old new
  opening old new text (inl opens) = record { turns = Opened opens.0 ∷ []; ran = (new, opens.1, refl); honest = λ so. absurd so }
  opening old new text (inr refused) = record { turns = Refused ∷ []; ran = (new, refused.0, refl); honest = λ so. absurd so }

  stops : (old new : Place D A O T) (text : List ℕ) → StopDoes ghosts entries count ops words set old new text
      → AreTurns ghosts entries count takes breaks ops set ⊥ old new
  stops old new text x =
      let one = life_ends old x.shut x.ended x.ends in
      let two : AreTurns ghosts entries count takes breaks ops set (Unit {0}) x.shut x.stopped =
      record { turns = Rested ∷ []; ran = (x.stopped, x.stops, refl); honest = λ so. (tt, tt) } in
      let three = opening x.stopped new x.opening x.opens in
      let both = join_turns ghosts entries count takes breaks ops set (Unit {0}) ⊥ x.shut x.stopped new two three in
      let all = join_turns ghosts entries count takes breaks ops set (Unit {0}) (Unit {0} × ⊥) old x.shut new one both in
      record { turns = all.turns; ran = all.ran; honest = λ so. absurd so }

  -- any line
  line_turns : (line : Line) (old new : Place D A O T) (text : List ℕ) → LineDoes ghosts entries count takes breaks ops words set line old new text
      → AreTurns ghosts entries count takes breaks ops set (IsHarmless line) old new
  line_turns (Set drives parity mode) old new text x = absurd x
  line_turns (Put actor key body) old new text x = starts (Put actor key body) actor old new text x
  line_turns (Fill actor key length) old new text x = starts (Fill actor key length) actor old new text x
  line_turns (Get actor key) old new text x = starts (Get actor key) actor old new text x
  line_turns (GetVersion actor key id) old new text x = starts (GetVersion actor key id) actor old new text x
  line_turns (Range actor key from to) old new text x = starts (Range actor key from to) actor old new text x
  line_turns (Delete actor key) old new text x = starts (Delete actor key) actor old new text x
  line_turns (DeleteVersion actor key id) old new text x = starts (DeleteVersion actor key id) actor old new text x
  line_turns (Go actor) old new text x = drives (ByGo ghosts takes breaks ops)
      (λ number plan moves before after ran by. go_free ghosts takes breaks ops plan number moves before after ran by) actor old new text x
  line_turns (Run actor) old new text x = drives (ByRun ghosts takes breaks ops)
      (λ number plan moves before after ran by. run_free number moves by) actor old new text x
  line_turns (UpTo actor) old new text x = drives (ByUpTo ghosts takes breaks ops words.pauses)
      (λ number plan moves before after ran by. upto_free ghosts takes breaks ops plan words.pauses number true moves before after ran by) actor old new text x
  line_turns (Lose index) old new text x = strikes old new text x
  line_turns (Back index) old new text x = strikes old new text x
  line_turns (Hurt index name place) old new text x = hurts old new text x
  line_turns (Fuse index calls late) old new text x = strikes old new text x
  line_turns Stop old new text x = stops old new text x

  -- and any lines
  lines_turns : (lines : List Line) (old new : Place D A O T) (text : List ℕ) → LinesDo ghosts entries count takes breaks ops words set lines old new text
      → AreTurns ghosts entries count takes breaks ops set (AreHarmless lines) old new
  lines_turns [] old new text x = no_turn ghosts entries count takes breaks ops set (Unit {0}) old new x.0
  lines_turns (line ∷ lines) old new text (mid, first, rest, one, more, same) =
      join_turns ghosts entries count takes breaks ops set (IsHarmless line) (AreHarmless lines) old mid new (line_turns line old mid first one)
      (lines_turns lines mid new rest more)

module _ {D A O T : Type 0} (ghosts : Ghosts D) (entries : A → Option (List Entry)) (count : A → ℕ) (takes breaks : Effect T) (ops : Ops O) where
  pub lines_are_turns : LinesAreTurns ghosts entries count takes breaks ops
  lines_are_turns words set lines old new text x = lines_turns ghosts entries count takes breaks ops words set lines old new text x
