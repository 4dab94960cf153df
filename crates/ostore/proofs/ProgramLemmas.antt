-- Words say one command alone.
use Rattle.std.proofs.Common.{◌≡◌, ◌∙◌, ℕ, List, [], ◌∷◌, ◌++◌, Option, String, length, reverse, slice_index_or, ap, refl, sym, subst, arith}
use Rattle.std.proofs.lemmas.List.{reverse-append}
use Rattle.audit_trail.specs.declared.entry.Entry.{Entry}
use Rattle.drive_base.specs.declared.drive.Drive.{Ghosts}
use Rattle.drive_base.specs.declared.plan.SetPlan.{SetPlan}
use Rattle.serve_loop.specs.Deeds.{Wires}
use Rattle.ostore.specs.Program.{Does, Fits}
use Rattle.ostore.specs.Rigs.{IsRigOf}
use Rattle.command_line.specs.Words.{Says, command_word}
use Rattle.command_line.specs.declared.plan.Command.{Command}
use Rattle.command_line.specs.declared.plan.Command.TheVariants.{Pipe, Serve, Status}
use Rattle.command_line.specs.declared.plan.Plan.{Plan}
use Rattle.ostore.specs.declared.rig.Ended.{Ended}
use Rattle.ostore.specs.declared.rig.Rig.{Rig}

-- the last element of a list
one_last : {X : Type 0} (xs ys : List X) (x y : X) → xs ++ x ∷ [] ≡ ys ++ y ∷ [] → x ≡ y
one_last xs ys x y same =
    let turned : x ∷ reverse xs ≡ y ∷ reverse ys = sym (reverse-append xs (x ∷ [])) ∙ (ap reverse same ∙ reverse-append ys (y ∷ [])) in
    ap (λ l. slice_index_or l 0 x) turned

-- the words of two commands differ in their lengths
one_word : (one two : Command) → command_word one ≡ command_word two → one ≡ two
one_word Pipe Pipe same = refl
one_word Pipe Serve same = absurd (let e : 4 ≡ 5 = ap length same in omega (arith, e))
one_word Pipe Status same = absurd (let e : 4 ≡ 6 = ap length same in omega (arith, e))
one_word Serve Pipe same = absurd (let e : 5 ≡ 4 = ap length same in omega (arith, e))
one_word Serve Serve same = refl
one_word Serve Status same = absurd (let e : 5 ≡ 6 = ap length same in omega (arith, e))
one_word Status Pipe same = absurd (let e : 6 ≡ 4 = ap length same in omega (arith, e))
one_word Status Serve same = absurd (let e : 6 ≡ 5 = ap length same in omega (arith, e))
one_word Status Status same = refl

pub one_command : {Y : Type 0} (words : List (String Y)) (one two : Plan) → Says words one → Says words two → one.command ≡ two.command
one_command words one two first second = one_word one.command two.command (one_last _ _ (command_word one.command) (command_word two.command) (sym first.are ∙ second.are))

module _ {D A : Type 0} (ghosts : Ghosts D) (entries : A → Option (List Entry)) (count : A → ℕ) where
  -- what one plan of these words comes to is what any plan of them comes to
  pub does_as : {Y : Type 0} (words : List (String Y)) (one two : Plan) (clock : Option ℕ) (rig : Rig D A) (ended : Ended D A (Unit {0})) (before after : Wires)
      → Says words one → Says words two → Does ghosts entries count one.command clock rig ended before after
      → Does ghosts entries count two.command clock rig ended before after
  does_as words one two clock rig ended before after first second does =
      subst (λ c. Does ghosts entries count c clock rig ended before after) (one_command words one two first second) does

  -- what a command comes to, by its name
  pub does_so : (command named : Command) (clock : Option ℕ) (rig : Rig D A) (ended : Ended D A (Unit {0})) (before after : Wires) → command ≡ named
      → Does ghosts entries count named clock rig ended before after → Does ghosts entries count command clock rig ended before after
  does_so command named clock rig ended before after is does = subst (λ c. Does ghosts entries count c clock rig ended before after) (sym is) does

-- a rig that fits words is of its own set
pub fits_itself : {D A Y : Type 0} (words : List (String Y)) (rig : Rig D A) (plan : Plan) → Fits words rig → Says words plan → IsRigOf rig.set rig
fits_itself words rig plan fits says = let is = fits plan says in subst (λ set. IsRigOf set rig) (sym is.set_is) is
