-- Data drives that several workers share.
use Rattle.std.specs.Prelude.{◌≡◌, ◌⊎◌, ℕ, ◌<◌, false, All, List, [], Vec, length, map, slice_index_or}
use Rattle.std.specs.Global.{Global}
use Rattle.drive_base.specs.declared.drive.Drive.{Ghosts}

module _ {D : Type 0} (ghosts : Ghosts D) where
  -- a drive that is shared tells nothing, and has met no fault yet
  pub record IsShared (drive : D) : Type 0 where
    pub tells : ghosts.tells drive ≡ false
    pub count : ghosts.count drive ≡ 0

  -- so are all of these
  abbrev pub AreShared : List D → Type 0
  AreShared drives = All IsShared drives

  -- no call was made of a drive yet
  abbrev pub IsUncalled : D → Type 0
  IsUncalled drive = ghosts.trail drive ≡ []

  module _ {Root : Type 0} (root : D → Root) where
    -- each of these was shared, or is as it was, and leads to what it led to
    pub record EachShared (old new : List D) : Type 0 where
      pub long : length new ≡ length old
      pub each : (k : ℕ) (d : D) → k < length old
          → (slice_index_or new k d ≡ slice_index_or old k d) ⊎ IsShared (slice_index_or new k d)
      pub roots : map root new ≡ map root old

    -- these are shared ways to the drives to which those lead, in their order, by which no call was made yet
    pub record LeadTo (drives ways : List D) : Type 0 where
      pub shared : AreShared ways
      pub uncalled : All IsUncalled ways
      pub roots : map root ways ≡ map root drives

    -- a row of such ways
    abbrev pub IsRowTo : List D → Vec D Global → Type 0
    IsRowTo drives row = LeadTo drives row.items
