-- Further stripes, of the body or of its end.
use Rattle.std.proofs.Common.{◌≡◌, ◌∙◌, ℕ, ◌*◌, ◌≤◌, List, [], ◌++◌, ap, arith, drop, length, refl, slice_index_or, subst, sym, take}
use Rattle.std.specs.Prelude.{◌⊎◌}
use Rattle.std.specs.List.{concat}
use Rattle.std.proofs.lemmas.List.{take_at}
use Rattle.md5.specs.Md5.{Holds}
use Rattle.shard_file.specs.Stripes.{stripe_size}
use Rattle.put_stage.specs.StripeBlocks.{all_bytes}
use Rattle.put_stage.specs.Windows.{AreWholeStripes}
use Rattle.put_stage.proofs.FillLemmas.{none_then_some, of_a_body, took_window, whole_before, whole_or_one, window_few}
use Rattle.put_stage.proofs.fills.take_window.Goals as goal

pub room_of-requires : goal.room_of-requires
room_of-requires g c = window_few c.args.load.now.set.drives c.args.load.now.left c.next_len-long.result c.next_len-long.ensures

pub coded_window-requires : goal.coded_window-requires
coded_window-requires g c =
    let load = c.args.load.now in
    let next = c.next_len-long.ensures in
    let gave = c.in_ok-read_into.ensures.gave in
    let bytes = c.read_into.new.into.items in
    record {
      some = omega (arith, next.some c.requires.some, gave.long);
      few = omega (arith, window_few load.set.drives load.left c.next_len-long.result next, gave.long);
      whole = subst (λ (long : ℕ). AreWholeStripes long ⊎ (long ≤ stripe_size)) (sym gave.long) (whole_or_one load.set.drives load.left c.next_len-long.result next);
    }

pub add_digests-requires : goal.add_digests-requires
add_digests-requires g c =
    let load = c.args.load.now in
    let counted : length c.as_mut_slice.result.now ≡ load.set.drives = ap length c.as_mut_slice.ensures.value ∙ load.tables_of_all in
    ap length c.as_slice-2.ensures.value ∙ c.in_ok-window.ensures.counted ∙ ap (λ (n : ℕ). c.in_ok-window.window.count * n) (sym counted)

pub conclude-requires : goal.conclude-requires
conclude-requires g c = of_a_body c.args.load.now.alone c.args.load.now.left c.args.load.now.none_left c.requires.some

pub returns-then-load-gt0-clause-takes : goal.returns-then-load-gt0-clause-takes
returns-then-load-gt0-clause-takes g c =
    let load = c.args.load.now in
    let bytes = c.read_into.new.into.items in
    let gave = c.in_ok-read_into.ensures.gave in
    let next = c.next_len-long.ensures in
    let count = c.in_ok-window.window.count in
    let held_long : length c.add_digests.new.tables ≡ load.tables.len = omega (arith, c.as_mut_slice.ensures.len) in
    let tables_are = take_at c.add_digests.new.tables (drop (length c.add_digests.new.tables) load.tables.items) load.tables.len held_long in
    let counted : length c.as_mut_slice.result.now ≡ load.set.drives = ap length c.as_mut_slice.ensures.value ∙ load.tables_of_all in
    let update : (body : List ℕ) → Holds load.hasher body → Holds c.update.new.self (body ++ bytes) =
    λ body holds. subst (λ (more : List ℕ). Holds c.update.new.self (body ++ more)) c.as_slice.ensures.value (c.update.ensures body holds) in (
      bytes,
      took_window load _ bytes (record { set = refl; id = refl; name = refl; alone = refl; long = refl; stated = refl })
          c.requires.some (omega (arith, gave.long, next.some c.requires.some)) (omega (arith, gave.long, next.few)) gave.left
          (λ more. subst AreWholeStripes (sym gave.long) (whole_before load.set.drives load.left c.next_len-long.result c.read_into.new.left next (omega (arith, gave.long, gave.left)) more))
          c.in_ok-window.ensures
          (λ k low.
          ap (λ tables. slice_index_or (all_bytes tables) k []) tables_are
          ∙ c.in_ok-add_digests.ensures k (omega (arith, counted, low))
          ∙ ap (λ tables. slice_index_or (all_bytes tables) k [] ++ concat (take count (drop (count * k) c.as_slice-2.result.now))) c.as_mut_slice.ensures.value
          ∙ ap (λ (digests : List (List ℕ)). slice_index_or (all_bytes load.tables.items) k [] ++ concat (take count (drop (count * k) digests))) c.as_slice-2.ensures.value)
          (λ body holds more. update body holds)
          (λ body shards holds none size tables are. absurd (none_then_some c.read_into.new.left none c.if-load-gt0.true)),
      gave.gave,
    )

pub returns-clause-takes : goal.returns-clause-takes
returns-clause-takes g c =
    let load = c.args.load.now in
    let bytes = c.read_into.new.into.items in
    let gave = c.in_ok-read_into.ensures.gave in
    let next = c.next_len-long.ensures in
    let count = c.in_ok-window.window.count in
    let held_long : length c.add_digests.new.tables ≡ load.tables.len = omega (arith, c.as_mut_slice.ensures.len) in
    let tables_are = take_at c.add_digests.new.tables (drop (length c.add_digests.new.tables) load.tables.items) load.tables.len held_long in
    let counted : length c.as_mut_slice.result.now ≡ load.set.drives = ap length c.as_mut_slice.ensures.value ∙ load.tables_of_all in
    let update : (body : List ℕ) → Holds load.hasher body → Holds c.update.new.self (body ++ bytes) =
    λ body holds. subst (λ (more : List ℕ). Holds c.update.new.self (body ++ more)) c.as_slice.ensures.value (c.update.ensures body holds) in (
      bytes,
      took_window load _ bytes (record { set = refl; id = refl; name = refl; alone = refl; long = refl; stated = refl })
          c.requires.some (omega (arith, gave.long, next.some c.requires.some)) (omega (arith, gave.long, next.few)) gave.left
          (λ more. subst AreWholeStripes (sym gave.long) (whole_before load.set.drives load.left c.next_len-long.result c.read_into.new.left next (omega (arith, gave.long, gave.left)) more))
          c.in_ok-window.ensures
          (λ k low.
          ap (λ tables. slice_index_or (all_bytes tables) k []) tables_are
          ∙ c.in_ok-add_digests.ensures k (omega (arith, counted, low))
          ∙ ap (λ tables. slice_index_or (all_bytes tables) k [] ++ concat (take count (drop (count * k) c.as_slice-2.result.now))) c.as_mut_slice.ensures.value
          ∙ ap (λ (digests : List (List ℕ)). slice_index_or (all_bytes load.tables.items) k [] ++ concat (take count (drop (count * k) digests))) c.as_slice-2.ensures.value)
          (λ body holds more. absurd (omega (arith, c.if-load-gt0.false, more)))
          (λ body shards holds none size tables are.
          let hashed : Holds c.replace-hasher.result (body ++ bytes) = subst (λ hasher. Holds hasher (body ++ bytes)) (sym c.replace-hasher.ensures.value) (update body holds) in
          let tag = c.finalize.ensures (body ++ bytes) hashed in
          let made = c.in_ok-load.ensures (body ++ bytes) shards size tag are tables in
          record { manifest = made.manifest; print = made.print; etag = made.etag }),
      gave.gave,
    )
