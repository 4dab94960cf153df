-- A listing that has done nothing yet stands for the empty log, and what it makes its names of is text.
use Rattle.std.proofs.Common.{◌≡◌, ◌<◌, ℕ, zero, suc, Bool, true, false, List, [], ◌∷◌, All, IfOk, IsUtf8, Ok, Err, Option, Some, None, Result, slice_index, inl, inr, refl, ◌∙◌, ap, subst, sym, arith}
use Rattle.std.specs.Prelude.{if◌then◌else◌, is_some}
use Rattle.std.proofs.lemmas.Str.{IsUtf8-from_ascii}
use Rattle.bucket_book.specs.Name.{IsBucketName, IsNameByte}
use Rattle.desk_base.specs.Calls.{IsListAsk, IsText, IsVersionsAsk}
use Rattle.desk_base.specs.declared.asks.ListAsk.{ListAsk}
use Rattle.desk_base.specs.declared.asks.VersionsAsk.{VersionsAsk}
use Rattle.desk_base.specs.declared.call.Call.{Call}
use Rattle.drive_base.specs.declared.plan.SetPlan.{SetPlan}
use Rattle.fault_base.specs.declared.memory.NoMemory.{NoMemory}
use Rattle.list_page.specs.Asks.{rule_of}
use Rattle.list_page.specs.Starting.{first_key, start_of}
use Rattle.receipts.specs.Pages.{PageRule, begins_with, keys_rule, versions_rule}
use Rattle.receipts.specs.Registers.{bucket_slot}
use Rattle.receipts.proofs.RegisterLemmas.{bucket_slot_below}
use Rattle.op_steps.specs.Claims.{no_claim}
use Rattle.list_ops.specs.Lists.{HasPaged, IsPageTask}
use Rattle.list_ops.specs.Names.{front}
use Rattle.list_ops.specs.OpStands.{IsNewPage, StandsFor, asked_call, asked_rule, op_task}
use Rattle.list_ops.specs.declared.asked.Asked.{Asked}
use Rattle.list_ops.specs.declared.asked.Asked.TheVariants.{Keys, Versions}
use Rattle.list_ops.specs.declared.page_op.PageOp.{PageOp}

-- the names of buckets are UTF-8
name_byte_low : (byte : ℕ) → IsNameByte byte → byte < 128
name_byte_low byte (inl (inl letter)) = let above = letter.0 in let below = letter.1 in omega (arith, below)
name_byte_low byte (inl (inr digit)) = let above = digit.0 in let below = digit.1 in omega (arith, below)
name_byte_low byte (inr (inl dot)) = omega (arith, dot)
name_byte_low byte (inr (inr hyphen)) = omega (arith, hyphen)

name_low : (name : List ℕ) → All IsNameByte name → (i : ℕ) → slice_index name i < 128
name_low [] all i = omega arith
name_low (byte ∷ rest) all zero = name_byte_low byte (all zero 0 (omega arith))
name_low (byte ∷ rest) all (suc i) = name_low rest (λ k d l. all (suc k) d (omega (arith, l))) i

pub name_is_utf8 : (name : List ℕ) → IsBucketName name → IsUtf8 name
name_is_utf8 name is = IsUtf8-from_ascii name (name_low name is.bytes)

pub none_is_utf8 : IsUtf8 []
none_is_utf8 = IsUtf8-from_ascii [] (λ i. omega arith)

-- the key from which on a listing looks is UTF-8
later_if : (b : Bool) (a c : List ℕ) → IsUtf8 a → IsUtf8 c → IsUtf8 (if b then c else a)
later_if true a c first second = second
later_if false a c first second = first

start_is_utf8 : (prefix : List ℕ) (start : Option (List ℕ)) → IsUtf8 prefix → IsText start → IsUtf8 (start_of prefix start)
start_is_utf8 prefix None is text = is
start_is_utf8 prefix (Some start) is text = later_if (begins_with prefix start) prefix start is text

first_is_utf8 : (rule : PageRule) → IsUtf8 rule.prefix → IsText rule.key_after → IsText rule.name_after → IsUtf8 (first_key rule)
first_is_utf8 rule prefix key name = later_if _ (start_of rule.prefix rule.key_after) (start_of rule.prefix rule.name_after)
    (start_is_utf8 rule.prefix rule.key_after prefix key) (start_is_utf8 rule.prefix rule.name_after prefix name)

unless : (b : Bool) (start : Option (List ℕ)) → IsText start → IsText (if b then None else start)
unless true start text = tt
unless false start text = text

pub keys_first_utf8 : (ask : ListAsk) → IsListAsk ask → IsUtf8 (first_key (keys_rule ask))
keys_first_utf8 ask lawful = first_is_utf8 (keys_rule ask) lawful.prefix (unless (is_some ask.token) ask.start_after lawful.start_after) lawful.token

pub versions_first_utf8 : (ask : VersionsAsk) → IsVersionsAsk ask → IsUtf8 (first_key (versions_rule ask))
versions_first_utf8 ask lawful = first_is_utf8 (versions_rule ask) lawful.prefix lawful.key_marker tt

-- what an op stands for that has done nothing yet
abbrev pub Stands : PageOp → Type 0
Stands op = (slot : ℕ) × (slot < 64) × StandsFor op (no_claim slot) []

task_by : (bucket : List ℕ) (asked : Asked) (now : ℕ) (rule : PageRule) → rule ≡ asked_rule asked
    → IsPageTask (record { call = asked_call bucket asked; now = now }) rule bucket
task_by bucket (Keys ask) now rule is = inl (ask, refl, is)
task_by bucket (Versions ask) now rule is = inr (ask, refl, is)

pub begins : (set : SetPlan) (call : Call) (now : ℕ) (result : Result PageOp NoMemory) → IfOk result (IsNewPage set call now) → IfOk result Stands
begins set call now (Ok op) is = (
  bucket_slot op.target.bucket,
  bucket_slot_below op.target.bucket,
  record {
    none = refl;
    is_page = task_by op.target.bucket op.asked op.now (rule_of op.target.ask) is.rule_is;
    paged = subst (λ state. HasPaged op.set (op_task op) (rule_of op.target.ask) op.target.bucket state []) (sym is.state_is) refl;
  },
)
begins set call now (Err fault) is = tt

pub begin_is : (bucket own begin : List ℕ) → own ≡ bucket → begin ≡ front bucket → begin ≡ front own
begin_is bucket own begin same is = is ∙ sym (ap front same)
