-- What the answer of a call tells was so.
use Rattle.std.proofs.Common.{◌≡◌, ◌⊎◌, ◌∙◌, ◌+◌, ◌<◌, ◌≤◌, ◌-◌, ℕ, List, [], ◌++◌, append-nil, ap, arith, inl, inr, length, refl, subst, sym}
use Rattle.std.specs.Prelude.{Ok, Err, drop, max, min, slice_index, take}
use Rattle.std.proofs.lemmas.List.{drop_all, length-drop, length-take-le}
use Rattle.drive_base.specs.Calls.{AnswerTells, ReadTells, Seen, bytes_read}
use Rattle.drive_base.specs.DriveModel.{DriveModel}
use Rattle.drive_base.specs.Leaves.{ReadBytes}
use Rattle.drive_base.specs.Trail.{DriveCall, Size, Read, Append, Sync, Rename, Discard, Remove, Names}
use Rattle.drive_base.specs.View.{DriveView}
use Rattle.drive_base.specs.declared.fault.DriveFault.TheVariants.{Absent, Failed, NoMemory}
use Rattle.file_access.specs.Sights.{CallsTellWhatWasSo, WasSo}

-- a buffer that was filled has a piece of the file
filled_piece : (file into filled : List ℕ) (at count : ℕ) → ReadBytes file at into count filled → count ≡ length into → filled ≡ take (length filled) (drop at file)
filled_piece file into filled at count is whole =
    let none : drop count into ≡ [] = drop_all count into (omega (arith, whole)) in
    let piece : filled ≡ take count (drop at file) =
    is.filled ∙ (ap (λ (rest : List ℕ). take count (drop at file) ++ rest) none ∙ append-nil (take count (drop at file))) in
    let room = length-drop at file in
    let counted = is.count in
    let fits : count ≤ length (drop at file) = omega (arith, counted, room) in
    let long : length filled ≡ count = ap length piece ∙ length-take-le count (drop at file) fits in
    piece ∙ ap (λ (n : ℕ). take n (drop at file)) (sym long)

-- what was told of it
read_so : (name : List ℕ) (at : ℕ) (into : List ℕ) (count : ℕ) (filled : List ℕ) (seen : Seen) (old new : DriveView) → DriveModel (Read name at into (Ok count) filled) old new
    → ((place : ℕ) → slice_index filled place < 256) → ReadTells name at into count filled seen → WasSo seen old new
read_so name at into count filled seen old new model bytes (inl (whole, is)) = subst (λ (s : Seen). WasSo s old new) (sym is) (
  model.count,
  bytes,
  λ told. let read = (model.files told).0 in (read.0, read.1, filled_piece read.0 into filled at count read.2 whole),
)
read_so name at into count filled seen old new model bytes (inr (short, is)) = subst (λ (s : Seen). WasSo s old new) (sym is) (
  model.count,
  λ told.
      let read = (model.files told).0 in
      let n = read.2.count in
      (read.0, read.1, omega (arith, n, short), grind (arith, n, short)),
)

told_so : (call : DriveCall) (before after : ℕ) (seen : Seen) (old new : DriveView) → DriveModel call old new → before ≡ old.count → after ≡ new.count
    → ((place : ℕ) → slice_index (bytes_read call) place < 256) → AnswerTells call before after seen → WasSo seen old new
told_so (Size name (Ok n)) before after seen old new model from to bytes is =
    subst (λ (s : Seen). WasSo s old new) (sym is) (model.count, λ told. (model.files told).0)
told_so (Size name (Err Absent)) before after seen old new model from to bytes is =
    subst (λ (s : Seen). WasSo s old new) (sym is) (model.count, λ told. (model.files told).0)
told_so (Size name (Err Failed)) before after seen old new model from to bytes is = subst (λ (s : Seen). WasSo s old new) (sym is) (from, to, model.count)
told_so (Size name (Err NoMemory)) before after seen old new model from to bytes is = absurd is
told_so (Read name at into (Ok count) filled) before after seen old new model from to bytes is = read_so name at into count filled seen old new model bytes is
told_so (Read name at into (Err Absent) filled) before after seen old new model from to bytes is =
    subst (λ (s : Seen). WasSo s old new) (sym is) (model.count, λ told. (model.files told).0)
told_so (Read name at into (Err Failed) filled) before after seen old new model from to bytes is =
    subst (λ (s : Seen). WasSo s old new) (sym is) (from, to, model.count)
told_so (Read name at into (Err NoMemory) filled) before after seen old new model from to bytes is = absurd is
told_so (Append loose bytes (Ok done)) before after seen old new model from to read is = absurd is
told_so (Append loose bytes (Err Absent)) before after seen old new model from to read is = absurd model.count
told_so (Append loose bytes (Err Failed)) before after seen old new model from to read is =
    subst (λ (s : Seen). WasSo s old new) (sym is) (from, to, model.count)
told_so (Append loose bytes (Err NoMemory)) before after seen old new model from to read is = absurd is
told_so (Sync loose (Ok done)) before after seen old new model from to bytes is = absurd is
told_so (Sync loose (Err Absent)) before after seen old new model from to bytes is =
    subst (λ (s : Seen). WasSo s old new) (sym is) (model.count, λ told. (model.files told).0)
told_so (Sync loose (Err Failed)) before after seen old new model from to bytes is = subst (λ (s : Seen). WasSo s old new) (sym is) (from, to, model.count)
told_so (Sync loose (Err NoMemory)) before after seen old new model from to bytes is = absurd is
told_so (Rename loose name (Ok done)) before after seen old new model from to bytes is = absurd is
told_so (Rename loose name (Err Absent)) before after seen old new model from to bytes is =
    subst (λ (s : Seen). WasSo s old new) (sym is) (model.count, λ told. (model.files told).0)
told_so (Rename loose name (Err Failed)) before after seen old new model from to bytes is =
    subst (λ (s : Seen). WasSo s old new) (sym is) (from, to, model.count)
told_so (Rename loose name (Err NoMemory)) before after seen old new model from to bytes is = absurd is
told_so (Discard loose (Ok done)) before after seen old new model from to bytes is = absurd is
told_so (Discard loose (Err Absent)) before after seen old new model from to bytes is =
    subst (λ (s : Seen). WasSo s old new) (sym is) (model.count, λ told. (model.files told).0)
told_so (Discard loose (Err Failed)) before after seen old new model from to bytes is =
    subst (λ (s : Seen). WasSo s old new) (sym is) (from, to, model.count)
told_so (Discard loose (Err NoMemory)) before after seen old new model from to bytes is = absurd is
told_so (Remove name (Ok done)) before after seen old new model from to bytes is = absurd is
told_so (Remove name (Err Absent)) before after seen old new model from to bytes is =
    subst (λ (s : Seen). WasSo s old new) (sym is) (model.count, λ told. (model.files told).0)
told_so (Remove name (Err Failed)) before after seen old new model from to bytes is = subst (λ (s : Seen). WasSo s old new) (sym is) (from, to, model.count)
told_so (Remove name (Err NoMemory)) before after seen old new model from to bytes is = absurd is
told_so (Names from most (Ok names)) before after seen old new model begin to bytes is = absurd is
told_so (Names from most (Err Absent)) before after seen old new model begin to bytes is = absurd model.count
told_so (Names from most (Err Failed)) before after seen old new model begin to bytes is =
    subst (λ (s : Seen). WasSo s old new) (sym is) (begin, to, model.count)
told_so (Names from most (Err NoMemory)) before after seen old new model begin to bytes is = absurd is

pub calls_tell_what_was_so : CallsTellWhatWasSo
calls_tell_what_was_so made seen old new was tells = told_so made.call made.before made.after seen old new was.model was.before was.after was.bytes tells
