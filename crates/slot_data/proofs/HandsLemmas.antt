-- The data of a slot stands while ops take trash and find data dead, learn what has its holders, and are done with either; and while numbers are drawn.
use Rattle.std.proofs.Common.{◌≡◌, inl, inr, ℕ, ◌≤◌, List, [], ◌∷◌, Contains, sym, subst, arith}
use Rattle.std.proofs.lemmas.List.Elements.{Contains-append_cases}
use Rattle.stamp_id.specs.declared.version.VersionId.{VersionId}
use Rattle.drive_base.specs.declared.plan.SetPlan.{SetPlan}
use Rattle.slot_history.specs.Contents.{number_of_id}
use Rattle.slot_history.specs.Standing.{Records}
use Rattle.slot_history.specs.State.{State}
use Rattle.slot_data.specs.Disks.{AreInOrder, Disks, HasHolders}
use Rattle.slot_data.specs.Holding.{Hands, Holding, IsPinned, Known, Pinned}
use Rattle.slot_data.specs.Laws.{DeadIsTaken, HandsAreFreed, HoldersAreKnown, NumbersAreDrawn, TrashIsTaken}
use Rattle.slot_data.specs.Live.{IsLiveData}
use Rattle.slot_data.specs.Moves.{with_known, with_taken, with_trash}
use Rattle.slot_data.specs.Standing.{DataStands, HandsStand, IsListed, PinsStand, TrashStands}
use Rattle.slot_data.proofs.ListedLemmas.{Within, held_more, listed_more, live_more, one_there, read_pin}

-- numbers are drawn
pub files_drawn : (set : SetPlan) (slot last later : ℕ) (disks : Disks) → last ≤ later → AreInOrder set slot last disks → AreInOrder set slot later disks
files_drawn set slot last later disks above files = record {
  manifests = λ k id bytes inside of is. (let low = files.manifests k id bytes inside of is in omega (arith, low, above));
  shards = λ k id bytes inside of is. (let low = files.shards k id bytes inside of is in omega (arith, low, above));
  pieces = λ whole id of piece. (let low = files.pieces whole id of piece in omega (arith, low, above));
  of_slot = files.of_slot;
  joined = files.joined;
  single = files.single;
}

pub pins_drawn :
    (set : SetPlan) (slot last later : ℕ) (records : Records) (pins : List Pinned) (disks : Disks) → last ≤ later
    → PinsStand set slot last records pins disks → PinsStand set slot later records pins disks
pins_drawn set slot last later records pins disks above p = record {
  differ = p.differ;
  of_slot = p.of_slot;
  drawn = λ id is. (let low = p.drawn id is in omega (arith, low, above));
  named = p.named;
  held = p.held;
  parts = p.parts;
}

pub numbers_are_drawn : NumbersAreDrawn
numbers_are_drawn set slot last later records state holding disks hands above d = record {
  names = d.names;
  files = files_drawn set slot last later disks above d.files;
  flights = d.flights;
  pins = pins_drawn set slot last later records holding.pins disks above d.pins;
  trash = record {
    unheld = d.trash.unheld;
    no_part = d.trash.no_part;
    of_slot = d.trash.of_slot;
    drawn = λ id there. (let low = d.trash.drawn id there in omega (arith, low, above));
  };
  in_hand = record {
    dead = d.in_hand.dead;
    of_slot = d.in_hand.of_slot;
    drawn = λ id there. (let low = d.in_hand.drawn id there in omega (arith, low, above));
    listed = d.in_hand.listed;
    holders = d.in_hand.holders;
  };
  holders = d.holders;
}

-- other hands
pub with_hands :
    (set : SetPlan) (slot last : ℕ) (records : Records) (state : State) (holding : Holding) (disks : Disks) (hands other : Hands)
    → DataStands set slot last records state holding disks hands → HandsStand set slot last records state holding disks other
    → DataStands set slot last records state holding disks other
with_hands set slot last records state holding disks hands other d stand = record {
  names = d.names;
  files = d.files;
  flights = d.flights;
  pins = d.pins;
  trash = d.trash;
  in_hand = stand;
  holders = d.holders;
}

-- ops are done
pub hands_are_freed : HandsAreFreed
hands_are_freed set slot last records state holding disks hands less taken known d = with_hands set slot last records state holding disks hands less d (record {
  dead = λ id there. d.in_hand.dead id (taken id there);
  of_slot = λ id there. d.in_hand.of_slot id (taken id there);
  drawn = λ id there. d.in_hand.drawn id (taken id there);
  listed = λ x there. d.in_hand.listed x (known x there);
  holders = λ x there. d.in_hand.holders x (known x there);
})

-- an op finds data dead
pub dead_is_taken : DeadIsTaken
dead_is_taken set slot last records state holding disks hands id dead of drawn d =
    with_hands set slot last records state holding disks hands (with_taken hands (id ∷ [])) d (record {
      dead = λ x there live. elim (Contains-append_cases hands.taken (id ∷ []) x there) [
        | inl before ↦ d.in_hand.dead x before live
        | inr now ↦ dead (subst (λ (y : VersionId). IsLiveData set records state holding disks y) (sym (one_there id x now)) live)
      ];
      of_slot = λ x there. elim (Contains-append_cases hands.taken (id ∷ []) x there) [
        | inl before ↦ d.in_hand.of_slot x before
        | inr now ↦ subst (λ (y : VersionId). y.slot ≡ slot) (one_there id x now) of
      ];
      drawn = λ x there. elim (Contains-append_cases hands.taken (id ∷ []) x there) [
        | inl before ↦ d.in_hand.drawn x before
        | inr now ↦ subst (λ (y : VersionId). number_of_id y ≤ last) (one_there id x now) drawn
      ];
      listed = d.in_hand.listed;
      holders = d.in_hand.holders;
    })

-- an op learns what has its holders
pub holders_are_known : HoldersAreKnown
holders_are_known set slot last records state holding disks hands x listed holders d =
    with_hands set slot last records state holding disks hands (with_known hands x) d (record {
      dead = d.in_hand.dead;
      of_slot = d.in_hand.of_slot;
      drawn = d.in_hand.drawn;
      listed = λ y there. elim (Contains-append_cases hands.known (x ∷ []) y there) [
        | inl before ↦ d.in_hand.listed y before
        | inr now ↦ subst (λ (z : Known). IsListed holding z.named.id) (one_there x y now) listed
      ];
      holders = λ y there. elim (Contains-append_cases hands.known (x ∷ []) y there) [
        | inl before ↦ d.in_hand.holders y before
        | inr now ↦ subst (λ (z : Known). HasHolders set disks z.named z.name) (one_there x y now) holders
      ];
    })

-- trash that isn't pinned isn't live
pub trash_not_live :
    (set : SetPlan) (slot last : ℕ) (records : Records) (state : State) (holding : Holding) (disks : Disks) (id : VersionId)
    → TrashStands set slot last records state holding disks → Contains holding.trash id → (IsPinned holding.pins id → ⊥)
    → IsLiveData set records state holding disks id → ⊥
trash_not_live set slot last records state holding disks id t there unpinned live = elim live [
  | inl held ↦ t.unheld id there held
  | inr read ↦
      let pinned = read_pin holding.pins read.0 read.1 in
      let same : id ≡ read.0 = elim read.2 [
        | inl whole ↦ whole
        | inr piece ↦ t.no_part id read.0 there pinned piece
      ] in
      unpinned (subst (λ (y : VersionId). IsPinned holding.pins y) (sym same) pinned)
]

-- an op takes trash
pub trash_is_taken : TrashIsTaken
trash_is_taken set slot last records state holding disks hands ids left takes d =
    let now = with_trash holding left in
    let same : Within holding.flights holding.flights = λ x there. there in
    let pins : Within holding.pins holding.pins = λ x there. there in
    record {
      names = d.names;
      files = d.files;
      flights = record {
        of_slot = d.flights.of_slot;
        differ = d.flights.differ;
        unnamed = d.flights.unnamed;
        unpinned = d.flights.unpinned;
        no_trash = λ f there trash. d.flights.no_trash f there (takes.left_there f.id trash);
        no_part = d.flights.no_part;
        gathered = d.flights.gathered;
        named = d.flights.named;
      };
      pins = d.pins;
      trash = record {
        unheld = λ id there held. d.trash.unheld id (takes.left_there id there) (held_more set records state disks now holding same pins id held);
        no_part = λ id whole there. d.trash.no_part id whole (takes.left_there id there);
        of_slot = λ id there. d.trash.of_slot id (takes.left_there id there);
        drawn = λ id there. d.trash.drawn id (takes.left_there id there);
      };
      in_hand = record {
        dead = λ id there live.
            let before = live_more set records state disks now holding same pins id live in
            elim (Contains-append_cases hands.taken ids id there) [
              | inl old ↦ d.in_hand.dead id old before
              | inr new ↦ trash_not_live set slot last records state holding disks id d.trash (takes.there id new) (takes.unpinned id new) before
            ];
        of_slot = λ id there. elim (Contains-append_cases hands.taken ids id there) [
          | inl old ↦ d.in_hand.of_slot id old
          | inr new ↦ d.trash.of_slot id (takes.there id new)
        ];
        drawn = λ id there. elim (Contains-append_cases hands.taken ids id there) [
          | inl old ↦ d.in_hand.drawn id old
          | inr new ↦ d.trash.drawn id (takes.there id new)
        ];
        listed = λ x there. listed_more holding now same pins x.named.id (d.in_hand.listed x there);
        holders = d.in_hand.holders;
      };
      holders = d.holders;
    }
