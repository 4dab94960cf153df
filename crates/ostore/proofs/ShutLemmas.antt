-- A rig over which no store was opened is handed back.
use Rattle.std.proofs.Common.{◌≡◌, ◌⊎◌, ◌≤◌, ◌∙◌, ◌+◌, ℕ, List, [], ◌∷◌, ◌++◌, Option, Err, Vec, append-nil, append_assoc, length, reverse, slice_index_or, ap, refl, sym, subst, inl, inr, arith}
use Rattle.std.proofs.lemmas.List.{length-append, length-reverse}
use Rattle.audit_trail.specs.declared.entry.Entry.{Entry}
use Rattle.drive_base.specs.View.{views}
use Rattle.drive_base.specs.declared.drive.Drive.{Ghosts}
use Rattle.std.specs.Global.{Global}
use Rattle.drive_base.specs.declared.plan.SetPlan.{SetPlan}
use Rattle.slot_core.specs.declared.slot.Slot.{Slot}
use Rattle.slot_core.specs.declared.slot.SlotParts.{SlotParts}
use Rattle.store_shared.proofs.OpeningLemmas.{opened_count}
use Rattle.store_shared.specs.Opening.{AreOpened, SetRefuses, SlotRefuses, with_out}
use Rattle.store_shared.specs.OpeningAll.{OpensStore, StoreIsOpen}
use Rattle.store_shared.specs.declared.pass.NotOpened.{NotOpened}
use Rattle.store_shared.specs.declared.pass.StoreParts.{StoreParts}
use Rattle.term_gate.specs.declared.refusal.OpenRefusal.TheVariants.{NoMemory}
use Rattle.ostore.specs.Opening.{AreLeft, IsAway, IsShop, IsShut, NotOpens, SetIsRefused, SlotIsRefused}
use Rattle.ostore.specs.Rigs.{ArePartsOf, IsRigOf}
use Rattle.store_shared.specs.Closing.{SlotsAreShut}
use Rattle.ostore.specs.declared.opening.Shop.{Shop}
use Rattle.ostore.specs.declared.opening.Shut.{Shut}
use Rattle.ostore.specs.declared.rig.Rig.{Rig}

-- the one row of a rig
pub only_row : {X : Type 0} (rows front : List X) (row : X) → length rows ≡ 1 → rows ≡ front ++ row ∷ [] → rows ≡ row ∷ []
only_row rows [] row one is = is
only_row rows (x ∷ front) row one is = absurd (let long = ap length is ∙ length-append (x ∷ front) (row ∷ []) in omega (arith, one, long))

module _ {D A : Type 0} where
  -- the row of a rig that was taken out of it has a drive for each of the set
  pub row_drives : (rig : Rig D A) (front : List (Vec D Global)) (row : Vec D Global) → IsRigOf rig.set rig → rig.data.items ≡ front ++ row ∷ []
      → length row.items ≡ rig.set.drives
  row_drives rig front row fits is =
      let one : length rig.data.items ≡ 1 = ap length fits.row.rows in
      let same : row ∷ [] ≡ fits.row.row ∷ [] = sym (only_row rig.data.items front row one is) ∙ fits.row.rows in
      ap (λ (l : List (Vec D Global)). length (slice_index_or l 0 row).items) same ∙ fits.row.disks

module _ {D A : Type 0} (ghosts : Ghosts D) (entries : A → Option (List Entry)) (count : A → ℕ) where
  -- slots that were opened and closed again
  opened_closed : (set : SetPlan) (term index : ℕ) (all : List (SlotParts D A)) (slots : List (Slot D A)) (more : List (SlotParts D A))
      → AreOpened entries count set term index all slots → SlotsAreShut slots more → AreLeft ghosts entries count term all more
  opened_closed set term index [] slots more none closed = subst (λ l. SlotsAreShut l more) none closed
  opened_closed set term index (parts ∷ all) slots more (slot, rest, is, opened, others) closed =
      let c : SlotsAreShut (slot ∷ rest) more = subst (λ l. SlotsAreShut l more) is closed in (
        c.0,
        c.1,
        c.2,
        record { lanes = c.3.lanes ∙ opened.lanes; audit = ap entries c.3.audit ∙ opened.entry; counted = ap count c.3.audit ∙ opened.counted },
        opened_closed set term (index + 1) all rest c.1 others c.4,
      )

  -- nothing was done to a rig
  pub nothing_opened : (rig : Rig D A) (parts : StoreParts D A) → ArePartsOf rig parts → NotOpens ghosts entries count rig rig NoMemory
  nothing_opened rig parts are = record {
    parts = parts;
    are = are;
    left = parts;
    is = are;
    set_is = refl;
    cause = inr (record { slots = refl; cause = inr (refl, refl) });
  }

  -- what was not opened and what is open are 64 slots at the most
  pub few_back : (set : SetPlan) (parts : StoreParts D A) (back : NotOpened D A) → length parts.slots.items ≡ 64
      → OpensStore ghosts entries count set parts (Err back) → length back.parts.slots.items + length back.slots.items ≤ 64
  few_back set parts back counted (inl r) =
      let k = r.keeps in
      let old = ap length k.old_is ∙ length-append k.front (k.was ∷ []) in
      let new = ap length k.new_is ∙ length-append k.front (k.now ∷ []) in
      let all = ap length r.behind.all_is ∙ length-append r.front r.behind.behind in
      let slots = opened_count entries count (with_out set r.opened.out) r.opened.term (length r.front) r.behind.behind (reverse back.slots.items) r.behind.opened in
      let turned = length-reverse back.slots.items in
      omega (arith, counted, old, new, all, slots, turned)
  few_back set parts back counted (inr r) =
      let left = ap length r.left_is in
      let none = ap length r.slots_are in
      omega (arith, counted, left, none)

  module _ (set : SetPlan) (rig : Rig D A) (parts : StoreParts D A) (same : rig.set ≡ set) (are : ArePartsOf rig parts) where
    -- the store is open
    pub shop_of : (shop : Shop D A) → StoreIsOpen ghosts entries count set parts shop.pass → IsAway shop.away → shop.away.set ≡ set
        → IsShop ghosts entries count rig shop
    shop_of shop opens away set_is = record {
      parts = parts;
      are = are;
      opens = subst (λ s. StoreIsOpen ghosts entries count s parts shop.pass) (sym same) opens;
      away = away;
      set_is = set_is ∙ sym same;
    }

    module _ (back : NotOpened D A) (shut : Shut D A) (is : IsShut set back shut) where
      -- the parts of the rig that is handed back
      abbrev left_parts : StoreParts D A
      left_parts = record { disks = back.parts.disks; slots = shut.rig.slots }

      -- a slot was refused
      slot_is_refused : SlotRefuses entries count set back.why (views ghosts parts.disks.items) (views ghosts back.parts.disks.items) parts.slots.items
          back.parts.slots.items back.slots.items → SlotIsRefused ghosts entries count set back.why parts left_parts
      slot_is_refused r =
          let k = r.keeps in
          let more = is.slots.0 in
          let behind = r.behind.behind in
          record {
            opened = r.opened;
            taken = r.taken;
            front = k.front;
            was = k.was;
            now = k.now;
            behind = behind;
            behind_left = more;
            old_is = r.behind.all_is ∙ (ap (λ l. l ++ behind) k.old_is ∙ append_assoc k.front (k.was ∷ []) behind);
            new_is = is.slots.1 ∙ (ap (λ l. l ++ more) k.new_is ∙ append_assoc k.front (k.now ∷ []) more);
            lanes = k.lanes;
            entries_stay = k.entries_stay;
            cause = k.cause;
            others = opened_closed (with_out set r.opened.out) r.opened.term (length r.front) behind (reverse back.slots.items) more r.behind.opened is.slots.2;
          }

      -- the set was refused
      set_is_refused : SetRefuses entries count set back.why (views ghosts parts.disks.items) (views ghosts back.parts.disks.items) parts.slots.items
          back.parts.slots.items [] back.slots.items → SetIsRefused ghosts entries count set back.why parts left_parts
      set_is_refused r =
          let none : is.slots.0 ≡ [] = subst (λ (l : List (Slot D A)). SlotsAreShut (reverse l) is.slots.0) r.slots_are is.slots.2 in
          record {
            slots = is.slots.1 ∙ (ap (λ l. back.parts.slots.items ++ l) none ∙ (append-nil back.parts.slots.items ∙ r.left_is));
            cause = r.cause;
          }

      -- either of them
      refused_by : OpensStore ghosts entries count set parts (Err back)
          → SlotIsRefused ghosts entries count set back.why parts left_parts ⊎ SetIsRefused ghosts entries count set back.why parts left_parts
      refused_by (inl r) = inl (slot_is_refused r)
      refused_by (inr r) = inr (set_is_refused r)

      -- the store is not open, and the rig is handed back
      pub shut_of : OpensStore ghosts entries count set parts (Err back) → NotOpens ghosts entries count rig shut.rig shut.why
      shut_of refused = record {
        parts = parts;
        are = are;
        left = left_parts;
        is = record { slots = refl; disks = is.disks };
        set_is = is.set_is ∙ sym same;
        cause = subst (λ s. SlotIsRefused ghosts entries count s shut.why parts left_parts ⊎ SetIsRefused ghosts entries count s shut.why parts left_parts) (sym same)
            (subst (λ why. SlotIsRefused ghosts entries count set why parts left_parts ⊎ SetIsRefused ghosts entries count set why parts left_parts) (sym is.why)
            (refused_by refused));
      }
