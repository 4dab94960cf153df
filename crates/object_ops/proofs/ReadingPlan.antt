-- What a version, a condition and a range come to, by what the span's plan and the reader say.
use Rattle.std.proofs.Common.{◌≡◌, ◌+◌, ℕ, List, Option, Ok, false, true, inr, refl, subst, sym, arith}
use Rattle.body_print.specs.Plans.{data_plan}
use Rattle.call_types.specs.declared.names.RangeAsk.{RangeAsk}
use Rattle.call_types.specs.declared.names.Span.{Span}
use Rattle.call_types.specs.declared.names.VersionName.{VersionName}
use Rattle.call_types.specs.declared.reply.Reply.TheVariants.{Found}
use Rattle.call_types.specs.declared.version.Version.{Version}
use Rattle.call_types.specs.declared.version.What.{What}
use Rattle.drive_base.specs.declared.plan.SetPlan.{SetPlan}
use Rattle.get_read.specs.Readers.{Begins}
use Rattle.get_read.specs.declared.reader.Reader.{Reader}
use Rattle.span_plan.specs.Span.{Plans}
use Rattle.stamp_id.specs.declared.version.VersionId.{VersionId}
use Rattle.receipts.specs.Letters.{Wanted}
use Rattle.receipts.specs.Reading.{IsWanted, is_met}
use Rattle.receipts.specs.Spans.{body_length}
use Rattle.object_ops.specs.ReadingPlan.{IsOfAsk, PlansSo, wanted_by}
use Rattle.object_ops.specs.declared.read_op.ReadKind.{ReadKind}
use Rattle.object_ops.specs.declared.read_op.ReadKind.TheVariants as asks
use Rattle.object_ops.specs.declared.reading.Reading.{Reading}
use Rattle.object_ops.specs.declared.reading.Planned.TheVariants.{Reads, Tells}

-- what is wanted of a version's body, up to the end of a span
abbrev pub wanted_so : VersionId → List ℕ → Span → Wanted
wanted_so id print span = record { id = id; print = print; reach = span.at + span.length }

module _ (set : SetPlan) (version : Version) (id : Option VersionName) (kind : ReadKind) (ask : RangeAsk) (matches : Option (List ℕ)) (what : What)
    (gets : kind ≡ asks.Get ask) (is : version.what ≡ what) (met : is_met matches version.what ≡ true) where
  -- the span is empty
  pub empty_so : (span : Span) (wanted : Wanted) → Plans (body_length what) ask (Ok span) → span.length ≡ 0 → IsWanted what span wanted
      → PlansSo set version id kind matches (Tells (Found version span id))
  empty_so span wanted plans empty is_wanted = subst (λ k. PlansSo set version id k matches (Tells (Found version span id))) (sym gets) (inr (
    met,
    inr (record {
      span = span;
      plans = subst (λ w. Plans (body_length w) ask (Ok span)) (sym is) plans;
      empty = empty;
      wanted = wanted;
      is_wanted = subst (λ w. IsWanted w span wanted) (sym is) is_wanted;
      told = refl;
    }),
  ))

  -- it has bytes, which a reader is to give
  abbrev pub reading_so : Span → Reader → Reading
  reading_so span reader =
      record { reader = reader; reply = Found version span id; span = span; left = span.length; told = false; calls = 18446744073709551615 }

  pub reads_so : (data_id : VersionId) (print : List ℕ) (span : Span) (reader : Reader) → Plans (body_length what) ask (Ok span) → (span.length ≡ 0 → ⊥)
      → Begins (data_plan set data_id) print data_id span reader → IsWanted what span (wanted_by reader.asked)
      → PlansSo set version id kind matches
      (Reads (reading_so span reader))
  reads_so data_id print span reader plans some begins is_wanted = (
    met,
    subst (λ k. IsOfAsk set k version id (reading_so span reader)) (sym gets) (record {
      plans = subst (λ w. Plans (body_length w) ask (Ok span)) (sym is) plans;
      reply_is = refl;
      wanted = subst (λ w. IsWanted w span (wanted_by reader.asked)) (sym is) is_wanted;
      set_is = begins.set_is;
      span_is = begins.span_is;
    }),
    record { some = omega (arith, some); left = refl; few = omega arith; untold = refl; none = begins.none },
  )
