-- Bytes that a reader gave, by the log that has its calls.
use Rattle.std.proofs.Common.{◌+◌, ℕ, List, [], ◌∷◌, ◌++◌, Contains, append-nil, inl, inr, refl, subst, sym}
use Rattle.std.proofs.lemmas.List.Elements.{Contains-append_left, Contains-push, Contains-push_cases}
use Rattle.std.proofs.lemmas.Option.{get_or_from_slice_get, slice_get_within}
use Rattle.slot_history.proofs.TakenLemmas.{none_there}
use Rattle.call_types.specs.declared.names.Span.{Span}
use Rattle.call_types.specs.declared.version.What.{What}
use Rattle.call_types.specs.declared.version.What.TheVariants.{Marker, Object}
use Rattle.drive_base.specs.Calls.{MadeCall, Seen}
use Rattle.drive_base.specs.Calls.Seen.{Showed}
use Rattle.drive_base.specs.declared.plan.SetPlan.{SetPlan}
use Rattle.manifest_file.specs.Spelling.{file_of}
use Rattle.get_read.specs.Account.{Account, Call, Stands}
use Rattle.get_read.specs.Given.{AreOfSpanIn, ClashIn as ReaderClash, MetIn}
use Rattle.receipts.specs.Clashes.{ClashIn, WasMet}
use Rattle.receipts.specs.Events.{Log, Saw}
use Rattle.receipts.specs.Events.Event.{Called}
use Rattle.receipts.specs.Letters.{Wanted}
use Rattle.receipts.specs.Reading.{IsWanted}
use Rattle.receipts.specs.Spans.{AreOfSpan, AreOfVersion}
use Rattle.object_ops.specs.ReadingTold.{AreLogged}

-- the call of a drive
abbrev call_of : ℕ → MadeCall → Call
call_of k made = record { drive = k; made = made }

-- what a call told that stands in an account, it told in the log
pub saw_so : (calls : Account) (log : Log) → AreLogged calls log → (k : ℕ) (seen : Seen) → Stands calls k seen → Saw log k seen
saw_so calls log logged k seen x = record {
  made = x.made;
  called = logged (call_of k x.made) (
    x.place,
    slice_get_within calls x.place (call_of k x.made) x.is,
    get_or_from_slice_get calls x.place (call_of k x.made) (call_of k x.made) x.is,
  );
  tells = x.tells;
}

met_so : (calls : Account) (log : Log) (bytes : List ℕ) → AreLogged calls log → MetIn calls bytes → WasMet bytes log
met_so calls log bytes logged (inl x) = inl (record {
  drive = x.0;
  name = x.1;
  place = x.2;
  more = x.3;
  called = saw_so calls log logged x.0 (Showed x.1 x.2 x.3) x.4;
  piece = x.5;
})
met_so calls log bytes logged (inr x) = inr (record {
  drive = x.0;
  name = x.1;
  manifest = x.2;
  canonical = x.3;
  called = saw_so calls log logged x.0 (Showed x.1 0 (file_of x.2)) x.4;
  text = x.5;
})

clash_so : (set : SetPlan) (body print : List ℕ) (calls : Account) (log : Log) → AreLogged calls log → ReaderClash set.drives set.parity body print calls
    → ClashIn set body print log
clash_so set body print calls log logged x = record { read = x.read; met = met_so calls log x.read logged x.met; clash = x.clash }

-- what a reader gave is of the span
pub span_so : (set : SetPlan) (print : List ℕ) (span : Span) (given : List ℕ) (calls : Account) (log : Log) → AreLogged calls log
    → AreOfSpanIn set.drives set.parity print span.at (span.at + span.length) given calls → AreOfSpan set print span given log
span_so set print span given calls log logged x body has = elim (x body has) [
  | inl exact ↦ inl exact
  | inr clash ↦ inr (clash_so set body print calls log logged clash)
]

pub version_so : (set : SetPlan) (what : What) (span : Span) (wanted : Wanted) (given : List ℕ) (log : Log) → IsWanted what span wanted
    → AreOfSpan set wanted.print span given log → AreOfVersion set what span given log
version_so set Marker span wanted given log is x = absurd is
version_so set (Object data_id print size md5 parts upload kind) span wanted given log is x = subst (λ p. AreOfSpan set p span given log) is.1 x

-- no bytes are of each span
pub none_of_version : (set : SetPlan) (what : What) (span : Span) (wanted : Wanted) (log : Log) → IsWanted what span wanted → AreOfVersion set what span [] log
none_of_version set Marker span wanted log is = absurd is
none_of_version set (Object data_id print size md5 parts upload kind) span wanted log is = λ body has. inl refl

-- ---- accounts in a growing log

pub none_logged : (log : Log) → AreLogged [] log
none_logged log call there = absurd (none_there call there)

-- one call more
pub call_logged : (calls : Account) (call : Call) (log : Log) → AreLogged calls log → AreLogged (calls ++ call ∷ []) (log ++ Called call.drive call.made ∷ [])
call_logged calls call log logged other there = elim (Contains-push_cases calls call other there) [
  | inl before ↦ Contains-append_left log (Called call.drive call.made ∷ []) (Called other.drive other.made) (logged other before)
  | inr own ↦ subst (λ (c : Call). Contains (log ++ Called call.drive call.made ∷ []) (Called c.drive c.made)) own
      (Contains-push log (Called call.drive call.made))
]

-- none more
pub event_logged : (calls : Account) (log more : Log) → AreLogged calls log → AreLogged (calls ++ []) (log ++ more)
event_logged calls log more logged = subst (λ l. AreLogged l (log ++ more)) (sym (append-nil calls))
    (λ call there. Contains-append_left log more (Called call.drive call.made) (logged call there))
