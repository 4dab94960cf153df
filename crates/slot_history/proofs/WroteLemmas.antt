-- A write under one name: what it leaves under each name, whether the value stays or moves.
use Rattle.std.proofs.Common.{◌≡◌, ◌⊎◌, ◌≤◌, ◌∙◌, ℕ, false, List, [], Contains, bytes_eq, sym, subst, inl, inr}
use Rattle.stamp_id.specs.declared.version.VersionId.{VersionId}
use Rattle.call_types.specs.declared.names.Key.{Key}
use Rattle.vote_core.specs.Lane.{Lane}
use Rattle.vote_core.specs.Sound.{IsLive}
use Rattle.slot_history.specs.Contents.{HasOpen, IsContentOf, NamedData, NamesData, NamesId, number_of_id}
use Rattle.slot_history.specs.Names.{key_name, part_name}
use Rattle.slot_history.specs.Sections.{IsOnItsWay}
use Rattle.slot_history.specs.Standing.{AreBlank, Flying, IsAdded, IsLawfulUnder, IsSpent, Records, Stands}
use Rattle.slot_history.specs.State.{IsHeld, Register, State, Waiting}
use Rattle.register_caller.specs.WrittenLanes.{LeavesLanes, Written}
use Rattle.slot_history.specs.Writing.{WritesUnder}
use Rattle.slot_history.proofs.MemberLemmas.{same_or_other}
use Rattle.slot_history.proofs.StandLemmas.{lawful_still}

-- a write under one name: where it was made, what was written, and what it left
pub record Setting : Type 0 where
  pub w : ℕ
  pub drives : ℕ
  pub last : ℕ
  pub later : ℕ
  pub flights : List Flying
  pub rest : List Flying
  pub old : Records
  pub new : Records
  pub state : State
  pub name : List ℕ
  pub x : Written
  pub after : List Lane
  pub now : ℕ
  pub shows : List ℕ

-- the register that stood there, and the one that was written
abbrev pub stood : Setting → Register
stood s = s.state.registers s.name

abbrev pub made : Setting → Register
made s = record { change = s.x.change; content = s.x.content }

-- the write was made over lanes that stood for a state, and what was written was in order
pub record Wrote (s : Setting) : Type 0 where
  pub some : 1 ≤ s.w
  pub enough : s.w ≤ s.drives
  pub up : s.last ≤ s.later
  pub stands : Stands s.w s.drives s.last s.flights s.old s.state
  pub left : LeavesLanes s.w s.later s.x (s.old s.name) (stood s).change (stood s).content s.after s.now s.shows
  pub writes : WritesUnder s.name s.after s.old s.new
  pub held : IsHeld s.state.registers s.name
  pub spent : (c : ℕ) → IsSpent s.last s.flights c → IsSpent s.later s.rest c
  pub flying : (f : Flying) → Contains s.rest f → number_of_id f.id ≤ s.later
  pub own_spent : IsSpent s.later s.rest s.x.change
  pub canonical : (s.x.content ≡ []) ⊎ IsContentOf s.name s.x.content
  pub ids : (id : VersionId) → NamesId s.name s.x.content id → IsSpent s.later s.rest (number_of_id id)
  pub brings : (named : NamedData) → NamesData s.name s.x.content named → NamesData s.name (stood s).content named ⊎ IsAdded s.x.adds named
  pub opens : (at : Key) (upload : VersionId) → s.name ≡ key_name at → HasOpen s.x.content upload
      → HasOpen (stood s).content upload ⊎ (number_of_id upload ≡ s.x.change)
  pub parts : (at : Key) (upload : VersionId) (number : ℕ) → s.name ≡ part_name at upload number → Contains s.state.applied (number_of_id upload)

-- the lanes under each name are those that the write left, or as before
pub lanes_after : (s : Setting) → Wrote s → (name : List ℕ)
    → ((s.name ≡ name) × (s.new name ≡ s.after)) ⊎ ((bytes_eq s.name name ≡ false) × (s.new name ≡ s.old name))
lanes_after s wrote name = elim (same_or_other s.name name) [
  | inl same ↦ inl (same, subst (λ n. s.new n ≡ s.after) same wrote.writes.is)
  | inr other ↦ inr (other, wrote.writes.stays name other)
]

-- they are lawful under the name that was written
lawful_written : (s : Setting) → Wrote s → IsLawfulUnder s.drives s.later s.rest s.after s.name
lawful_written s wrote =
    let was : IsLawfulUnder s.drives s.later s.rest (s.old s.name) s.name =
    lawful_still s.drives s.last s.later s.flights s.rest (s.old s.name) s.name wrote.up wrote.spent (wrote.stands.lawful_under s.name) in
    record {
      counted = wrote.left.counted ∙ was.counted;
      drawn = wrote.left.holds.sound.drawn;
      contents = λ a c content there has. elim (wrote.left.records a c content there has) [
        | inl before ↦ was.contents before.0 c content before.1 before.2
        | inr written ↦ elim wrote.canonical [
          | inl empty ↦ inl (written.1 ∙ empty)
          | inr canonical ↦ inr (subst (λ (bytes : List ℕ). IsContentOf s.name bytes) (sym written.1) canonical)
        ]
      ];
      ids = λ a c content id there has names. elim (wrote.left.records a c content there has) [
        | inl before ↦ was.ids before.0 c content id before.1 before.2 names
        | inr written ↦ wrote.ids id (subst (λ (bytes : List ℕ). NamesId s.name bytes id) written.1 names)
      ];
      changes = λ a c content there has. elim (wrote.left.records a c content there has) [
        | inl before ↦ was.changes before.0 c content before.1 before.2
        | inr written ↦ subst (λ n. IsSpent s.later s.rest n) (sym written.0) wrote.own_spent
      ];
    }

-- and under each name
pub lawful_after : (s : Setting) → Wrote s → (name : List ℕ) → IsLawfulUnder s.drives s.later s.rest (s.new name) name
lawful_after s wrote name = elim (lanes_after s wrote name) [
  | inl own ↦ subst (λ (l : List Lane). IsLawfulUnder s.drives s.later s.rest l name) (sym own.1)
      (subst (λ n. IsLawfulUnder s.drives s.later s.rest s.after n) own.0 (lawful_written s wrote))
  | inr else ↦ subst (λ (l : List Lane). IsLawfulUnder s.drives s.later s.rest l name) (sym else.1)
      (lawful_still s.drives s.last s.later s.flights s.rest (s.old name) name wrote.up wrote.spent (wrote.stands.lawful_under name))
]

-- nothing is kept of the parts of an upload that was never opened
pub uploads_after : (s : Setting) → Wrote s → (at : Key) (upload : VersionId) (number : ℕ)
    → AreBlank (s.new (part_name at upload number)) ⊎ Contains s.state.applied (number_of_id upload)
uploads_after s wrote at upload number = elim (lanes_after s wrote (part_name at upload number)) [
  | inl own ↦ inr (wrote.parts at upload number own.0)
  | inr else ↦ elim (wrote.stands.uploads at upload number) [
    | inl none ↦ inl (subst (λ (l : List Lane). AreBlank l) (sym else.1) none)
    | inr done ↦ inr done
  ]
]

-- what is on its way under another name was so before
pub way_elsewhere : (s : Setting) → Wrote s → (moved : State) (q : Waiting) → bytes_eq s.name q.name ≡ false
    → moved.registers q.name ≡ s.state.registers q.name → IsHeld s.state.registers q.name → Contains s.state.pending q
    → IsOnItsWay s.new moved q → IsOnItsWay s.old s.state q
way_elsewhere s wrote moved q other same held there way =
    let lanes : s.new q.name ≡ s.old q.name = wrote.writes.stays q.name other in
    record {
      held = held;
      lane = way.lane;
      there = subst (λ (l : List Lane). Contains l way.lane) lanes way.there;
      next = way.next;
      has = way.has;
      live = subst (λ (l : List Lane). IsLive l (s.state.registers q.name).change way.lane way.next) lanes
          (subst (λ (r : Register). IsLive (s.new q.name) r.change way.lane way.next) same way.live);
      waits = record {
        there = there;
        change_is = way.waits.change_is;
        name_is = way.waits.name_is;
        parent_is = way.waits.parent_is;
        content_is = way.waits.content_is;
      };
    }
