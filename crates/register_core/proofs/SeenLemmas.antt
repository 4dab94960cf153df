-- What was read of each lane is its record.
use Rattle.std.proofs.Common.{◌≡◌, ℕ, zero, suc, ◌<◌, ◌∙◌, [], ◌∷◌, List, Option, Some, None, length, map, ap, ap₂, subst, sym, refl, inl, inr, arith}
use Rattle.std.specs.Prelude.{Bool, IsTrue, slice_index_or}
use Rattle.std.specs.Int.{IsBitSet}
use Rattle.std.specs.Option.{is_some, option_map}
use Rattle.std.proofs.lemmas.List.{length-map}
use Rattle.seal_file.specs.Sealing.{IsDamage}
use Rattle.seal_file.proofs.SealedLemmas.{no_damage}
use Rattle.call_types.specs.Good.{is_good}
use Rattle.call_types.specs.declared.why.Why.{Why}
use Rattle.call_types.specs.declared.why.Why.TheVariants.{Good, Failed, Damaged, Behind, Lacks}
use Rattle.drive_base.specs.declared.drive.Drive.{Ghosts}
use Rattle.drive_base.specs.Files.{Files}
use Rattle.register_file.specs.Table.{FileIsInjective}
use Rattle.register_file.specs.Record.{IsCanonical}
use Rattle.register_file.specs.Spelling.{file_of, register_kind, spelling}
use Rattle.register_file.specs.declared.record.RegFile.{RegFile}
use Rattle.register_file.specs.declared.record.Adds.{Adds}
use Rattle.register_file.specs.declared.record.Next.{Next}
use Rattle.vote_core.specs.Lane.{Lane, lane_at}
use Rattle.vote_core.specs.Laws.{ShownByPlaces}
use Rattle.vote_core.specs.Row.{is_good as is_good_row}
use Rattle.vote_core.specs.Shown.{ShowLanes, ShowsLane, ShowsNext}
use Rattle.vote_core.specs.declared.row.Row.{Row}
use Rattle.register_core.specs.Found.{found_at}
use Rattle.register_core.specs.Looks.{LaneIsRead, LanesAreRead, Sees}
use Rattle.register_core.specs.LaneWrites.{letter_at}
use Rattle.register_core.specs.Records.{HasLane, IsHonest, ShowsFile, StandsFor, added_of, lane_of, next_of, row_of, row_of_next}
use Rattle.register_core.specs.Seen.{AreSeen}
use Rattle.register_core.proofs.ConcludingLemmas.{row_found}

-- two canonical records that stand for the same are the same record of a lane
stands_same : (kept : Option (List ℕ)) (a b : RegFile) → FileIsInjective → IsCanonical a → IsCanonical b → StandsFor kept a → StandsFor kept b
    → lane_of a ≡ lane_of b
stands_same None a b injective good fine p q = p ∙ sym q
stands_same (Some bytes) a b injective good fine p q = ap lane_of (injective a b good fine (sym p ∙ q))

-- what shows a record stands for it
shown_stands : (most : ℕ) (shown : Option (List ℕ)) (file : RegFile) → ShowsFile most shown file → StandsFor shown file
shown_stands most None file shows = shows
shown_stands most (Some bytes) file shows = shows.0

-- what is shown and stands for a record is what is kept
kept_stands : (kept shown : Option (List ℕ)) (file : RegFile) → IsHonest kept shown → StandsFor shown file → StandsFor kept file
kept_stands kept shown file (inl same) stands = subst (λ (bytes : Option (List ℕ)). StandsFor bytes file) same stands
kept_stands kept shown file (inr (bytes, is, damaged)) stands =
    let same : bytes ≡ file_of file = subst (λ (b : Option (List ℕ)). StandsFor b file) is stands in
    absurd (no_damage register_kind (spelling file) damaged.0 refl (subst (λ (b : List ℕ). IsDamage register_kind b damaged.0) same damaged.1))

-- the record that was read of a lane is the one that it keeps
lane_seen : (most : ℕ) (name : List ℕ) (file : RegFile) (why : Why) (out : Type 0) (tells : Bool) (files : Files) (old new : ℕ) (lane : Lane) → FileIsInjective
    → LaneIsRead most name (Some file) why out tells files old new
    → ((out → ⊥) → IsTrue tells) → ((out → ⊥) → IsHonest (files.kept name) (files.shown name)) → ((out → ⊥) → HasLane (files.kept name) lane)
    → lane ≡ lane_of file
lane_seen most name file why out tells files old new lane injective read told honest keeps =
    let has = keeps read.1 in
    has.3 ∙ stands_same (files.kept name) has.0 file injective has.1 read.3 has.2
    (kept_stands (files.kept name) (files.shown name) file (honest read.1) (shown_stands most (files.shown name) file (read.4 (told read.1))))

-- some element of a list that has a place
pub element : {D : Type 0} (drives : List D) (k : ℕ) → k < length drives → D
element [] k low = absurd (omega arith)
element (d ∷ drives) k low = d

-- a part that is there is there in another form
is_some_map : (adds : Option Adds) → is_some adds ≡ is_some (option_map added_of adds)
is_some_map None = refl
is_some_map (Some adds) = refl

-- a row shows the next of its file
shows_next : (next : Option Next) → ShowsNext (option_map row_of_next next) (option_map next_of next)
shows_next None = tt
shows_next (Some next) = record { ballot = refl; change = refl; adds = is_some_map next.adds }

-- a row shows the record of its file, and of a lane of which nothing was read it shows nothing
shows_read : (read : Option RegFile) (lane : Lane) → ((file : RegFile) → read ≡ Some file → lane ≡ lane_of file) → ShowsLane (row_of read) lane
shows_read None lane seen = tt
shows_read (Some file) lane seen = subst (λ (x : Lane). ShowsLane (row_of (Some file)) x) (sym (seen file refl)) (refl, refl, shows_next file.next)

-- the rows show lanes whose records the files are
rows_show : (found : List (Option RegFile)) (lanes : List Lane) → ShownByPlaces → length found ≡ length lanes
    → ((k : ℕ) (file : RegFile) → k < length lanes → found_at found k ≡ Some file → lane_at lanes k ≡ lane_of file) → ShowLanes (map row_of found) lanes
rows_show found lanes by_places counted each =
    by_places (map row_of found) lanes (length-map found row_of ∙ counted)
    (λ k low. subst (λ (row : Row). ShowsLane row (lane_at lanes k)) (sym (row_found found k))
    (shows_read (found_at found k) (lane_at lanes k) (λ file is. each k file low is)))

-- lanes that tell, and whose damage is honest, are seen as they are
pub lanes_seen : {D : Type 0} (ghosts : Ghosts D) (out most : ℕ) (name : List ℕ) (found : List (Option RegFile)) (whys : List Why)
    (old new : List D) → FileIsInjective → ShownByPlaces → LanesAreRead ghosts out most name found whys old new
    → Sees ghosts out name old (AreSeen found)
lanes_seen ghosts out most name found whys old new injective by_places read lanes told honest are =
    let counted : length found ≡ length lanes = read.counted ∙ sym are.counted in
    let each : (k : ℕ) (file : RegFile) → k < length lanes → found_at found k ≡ Some file → lane_at lanes k ≡ lane_of file =
    (λ k file low is.
    let here : k < length old = omega (arith, are.counted) in
    let d = element old k here in
    lane_seen most name file (letter_at whys k) (IsBitSet out k) (ghosts.tells (slice_index_or old k d)) (ghosts.files (slice_index_or old k d))
    (ghosts.count (slice_index_or old k d)) (ghosts.count (slice_index_or new k d)) (lane_at lanes k) injective
    (subst (λ (r : Option RegFile). LaneIsRead most name r (letter_at whys k) (IsBitSet out k) (ghosts.tells (slice_index_or old k d)) (ghosts.files (slice_index_or old k d))
    (ghosts.count (slice_index_or old k d)) (ghosts.count (slice_index_or new k d))) is (read.each k d here))
    (told k d here) (honest k d here) (are.each k d here)) in
    record { counted = counted; each = each; rows = rows_show found lanes by_places counted each }

-- a letter is good exactly where the row is
letter_on : (most : ℕ) (name : List ℕ) (read : Option RegFile) (why : Why) (out : Type 0) (tells : Bool) (files : Files) (old new : ℕ)
    → LaneIsRead most name read why out tells files old new → is_good why ≡ is_good_row (row_of read)
letter_on most name (Some file) why out tells files old new is = ap is_good is.0
letter_on most name None Good out tells files old new is = absurd is
letter_on most name None (Failed before after) out tells files old new is = refl
letter_on most name None (Damaged damage) out tells files old new is = refl
letter_on most name None (Behind ballot) out tells files old new is = refl
letter_on most name None (Lacks kind) out tells files old new is = refl

-- letters and rows that agree place by place
on_by_places : (whys : List Why) (found : List (Option RegFile)) → length whys ≡ length found
    → ((k : ℕ) → k < length found → is_good (letter_at whys k) ≡ is_good_row (row_of (found_at found k)))
    → map is_good whys ≡ map is_good_row (map row_of found)
on_by_places [] [] same at = refl
on_by_places [] (read ∷ found) same at = absurd (omega arith)
on_by_places (why ∷ whys) [] same at = absurd (omega arith)
on_by_places (why ∷ whys) (read ∷ found) same at =
    ap₂ (λ (b : Bool) (bs : List Bool). b ∷ bs) (at zero (omega arith)) (on_by_places whys found (omega arith) (λ k below. at (suc k) (omega arith)))

-- what was read of each lane has letters that agree with its rows
pub letters_on : {D : Type 0} (ghosts : Ghosts D) (out most : ℕ) (name : List ℕ) (found : List (Option RegFile)) (whys : List Why)
    (old new : List D) → length found ≡ length old → length whys ≡ length old
    → ((k : ℕ) (d : D) → k < length old → LaneIsRead most name (found_at found k) (letter_at whys k) (IsBitSet out k)
    (ghosts.tells (slice_index_or old k d)) (ghosts.files (slice_index_or old k d)) (ghosts.count (slice_index_or old k d)) (ghosts.count (slice_index_or new k d)))
    → map is_good whys ≡ map is_good_row (map row_of found)
letters_on ghosts out most name found whys old new counted lettered each =
    on_by_places whys found (lettered ∙ sym counted) (λ k low.
    let here : k < length old = omega arith in
    let d = element old k here in
    letter_on most name (found_at found k) (letter_at whys k) (IsBitSet out k) (ghosts.tells (slice_index_or old k d)) (ghosts.files (slice_index_or old k d))
    (ghosts.count (slice_index_or old k d)) (ghosts.count (slice_index_or new k d)) (each k d here))
