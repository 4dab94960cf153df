-- Behind each byte some document goes on.
use Rattle.std.proofs.Common.{◌≡◌, refl, sym, ◌∙◌, ℕ, zero, suc, ◌+◌, ◌-◌, ◌<◌, ◌⊎◌, Bool, true, false, ◌||◌, eqb, ltb, leb, List, [], ◌∷◌, ◌++◌, length, codes, Option, Some, None, arith}
use Rattle.std.specs.Str.{bytes_eq}
use Rattle.std.proofs.lemmas.Bool.{ne_eqb, false_from_ne_true}
use Rattle.std.proofs.lemmas.List.{length_push, same_from_push}
use Rattle.std.proofs.lemmas.Slice.Eq.{bytes_eq-Decides}
use Rattle.call_types.specs.declared.version.PartRef.{PartRef}
use Rattle.call_types.specs.declared.names.Mode.TheVariants.{Enabled}
use Rattle.call_types.specs.declared.names.Mode.{Mode}
use Rattle.s3_docs.specs.declared.prologue.Root.{Root}
use Rattle.s3_docs.specs.declared.prologue.Root.TheVariants.{CompleteMultipartUpload, VersioningConfiguration}
use Rattle.s3_docs.specs.Machine.{Value, Parts, Versioning, Field, PartNumber, ETag, Status, Holder, Part, Configuration, Quotation, State, Expect, Start, Opened, Declaration, Mark, Before, Rooted, Spaced, Quote, Quoted, Between, Tag, Inside, Inner, Name, Text, Awaiting, Ending, Digits, Reference, Hex, After, Numbered, Other, due, within, end_tag, naming, with_number, with_md5, with_mode, md5_of, quote_text, behind_hex}
use Rattle.s3_docs.specs.Outcomes.{Says, outcome}

-- some bytes make a document of what has come
abbrev pub IsLive : State → Type 0
IsLive state = (more : List ℕ) × (value : Value) × (outcome state more ≡ Says value)

-- what is kept of the numbers of digits
abbrev pub IsLawful : State → Type 0
IsLawful (Expect now_due then_due next) = IsLawful next
IsLawful (Digits holder count value) = (0 < value) ⊎ (count < 5)
IsLawful (Hex holder quotation digits) = length digits < 32
IsLawful other = Unit {0}

-- the byte that is due has come
pub outcome-due : (bytes : List ℕ) (next : State) (more : List ℕ) → outcome (due bytes next) (bytes ++ more) ≡ outcome next more
outcome-due [] next more = refl
outcome-due (b ∷ bytes) next more = let same : eqb b b ≡ true = search arith in rw same (outcome-due bytes next more)

-- bytes that lead to a live state
leads : (from to : State) (front : List ℕ) → ((more : List ℕ) → outcome from (front ++ more) ≡ outcome to more) → IsLive to → IsLive from
leads from to front reads live = (front ++ live.0, live.1, reads live.0 ∙ live.2)

due_live : (bytes : List ℕ) (next : State) → IsLive next → IsLive (due bytes next)
due_live bytes next live = leads (due bytes next) next bytes (outcome-due bytes next) live

tag_live : (parts : List PartRef) (some : eqb (length parts) 0 ≡ false) → IsLive (Between parts)
tag_live parts some = leads (Between parts) (After (Parts parts)) (codes "</CompleteMultipartUpload>") (λ more. rw some refl) ([], Parts parts, refl)

pushed_live : (parts : List PartRef) (part : PartRef) → IsLive (Between (parts ++ part ∷ []))
pushed_live parts part = tag_live (parts ++ part ∷ []) (ne_eqb _ 0 (λ e. omega (arith, e, length_push parts part)))

-- 32 hex digits
abbrev zeros : List ℕ
zeros = codes "00000000000000000000000000000000"

whole_live : (parts : List PartRef) (number : ℕ) (md5 : List ℕ) → IsLive (Inside (Part parts (Some number) (Some md5)))
whole_live parts number md5 =
    let part : PartRef = record { number = number; md5 = md5 } in
    leads _ (Between (parts ++ part ∷ [])) (codes "</Part>") (λ more. refl) (pushed_live parts part)

tagged_live : (parts : List PartRef) (number : Option ℕ) (md5 : List ℕ) → IsLive (Inside (Part parts number (Some md5)))
tagged_live parts (Some number) md5 = whole_live parts number md5
tagged_live parts None md5 =
    leads _ (Inside (Part parts (Some 1) (Some md5))) (codes "<PartNumber>1</PartNumber>") (λ more. refl) (whole_live parts 1 md5)

part_live : (parts : List PartRef) (number : Option ℕ) (md5 : Option (List ℕ)) → IsLive (Inside (Part parts number md5))
part_live parts number (Some md5) = tagged_live parts number md5
part_live parts None None =
    leads _ (Inside (Part parts None (Some (md5_of zeros)))) (codes "<ETag>00000000000000000000000000000000</ETag>") (λ more. refl)
    (tagged_live parts None (md5_of zeros))
part_live parts (Some number) None =
    leads _ (Inside (Part parts (Some number) (Some (md5_of zeros)))) (codes "<ETag>00000000000000000000000000000000</ETag>") (λ more. refl)
    (tagged_live parts (Some number) (md5_of zeros))

moded_live : (mode : Mode) → IsLive (Inside (Configuration (Some mode)))
moded_live mode =
    leads _ (After (Versioning mode)) (codes "</VersioningConfiguration>") (λ more. refl) ([], Versioning mode, refl)

inside_live : (holder : Holder) → IsLive (Inside holder)
inside_live (Part parts number md5) = part_live parts number md5
inside_live (Configuration (Some mode)) = moded_live mode
inside_live (Configuration None) =
    leads _ (Inside (Configuration (Some Enabled))) (codes "<Status>Enabled</Status>") (λ more. refl) (moded_live Enabled)

within_live : (root : Root) → IsLive (within root)
within_live CompleteMultipartUpload =
    leads _ (Inside (Part [] None None)) (codes "<Part>") (λ more. refl) (part_live [] None None)
within_live VersioningConfiguration = inside_live (Configuration None)

inner_live : (holder : Holder) → IsLive (Inner holder)
inner_live (Part parts number md5) = leads _ (Inside (Part parts number md5)) (codes "A/>") (λ more. refl) (inside_live (Part parts number md5))
inner_live (Configuration mode) = leads _ (Inside (Configuration mode)) (codes "A/>") (λ more. refl) (inside_live (Configuration mode))

-- a name that ends with `x` is no field's
not_field : (name front : List ℕ) (last : ℕ) → (last ≡ 120 → ⊥) → bytes_eq (name ++ 120 ∷ []) (front ++ last ∷ []) ≡ false
not_field name front last other =
    false_from_ne_true (bytes_eq (name ++ 120 ∷ []) (front ++ last ∷ [])) (λ same.
    other (sym (same_from_push name front 120 last ((bytes_eq-Decides (name ++ 120 ∷ []) (front ++ last ∷ [])).0 same)).1))

other_name : (holder : Holder) (name : List ℕ) → naming holder (name ++ 120 ∷ []) ≡ Other
other_name (Part parts number md5) name =
    rw (not_field name (codes "PartNumbe") 114 (λ e. omega (arith, e)), not_field name (codes "ETa") 103 (λ e. omega (arith, e))) refl
other_name (Configuration mode) name = rw (not_field name (codes "Statu") 115 (λ e. omega (arith, e))) refl

name_live : (holder : Holder) (name : List ℕ) → IsLive (Name holder name)
name_live holder name =
    leads _ (Inside holder) (codes "x/>") (λ more. rw (other_name holder name) refl) (inside_live holder)

text_live : (holder : Holder) (name : List ℕ) → IsLive (Text holder name)
text_live holder name =
    leads _ (end_tag name (Inside holder)) (codes "<") (λ more. refl)
    (leads _ (due name (Expect 62 [] (Inside holder))) (codes "/") (λ more. refl)
    (due_live name (Expect 62 [] (Inside holder)) (leads _ (Inside holder) (codes ">") (λ more. refl) (inside_live holder))))

ending_live : (holder : Holder) (field : Field) → IsLive (Ending holder field)
ending_live holder PartNumber = leads _ (Inside holder) (codes "</PartNumber>") (λ more. refl) (inside_live holder)
ending_live holder ETag = leads _ (Inside holder) (codes "</ETag>") (λ more. refl) (inside_live holder)
ending_live holder Status = leads _ (Inside holder) (codes "</Status>") (λ more. refl) (inside_live holder)

awaiting_live : (holder : Holder) (field : Field) → IsLive (Awaiting holder field)
awaiting_live holder PartNumber = leads _ (Ending (with_number holder 1) PartNumber) (codes "1 ") (λ more. refl) (ending_live (with_number holder 1) PartNumber)
awaiting_live holder ETag = leads _ (Ending (with_md5 holder (md5_of zeros)) ETag) (codes "00000000000000000000000000000000") (λ more. refl) (ending_live (with_md5 holder (md5_of zeros)) ETag)
awaiting_live holder Status = leads _ (Ending (with_mode holder Enabled) Status) (codes "Enabled") (λ more. refl) (ending_live (with_mode holder Enabled) Status)

or_true : (b : Bool) → (b || true) ≡ true
or_true true = refl
or_true false = refl

digits_live : (holder : Holder) (count value : ℕ) → (0 < value) ⊎ (count < 5) → IsLive (Digits holder count value)
digits_live holder count (suc value) lawful =
    let positive : ltb 0 (suc value) ≡ true = search arith in
    leads _ (Ending (with_number holder (suc value)) PartNumber) (codes " ") (λ more. rw positive refl) (ending_live (with_number holder (suc value)) PartNumber)
digits_live holder count zero lawful =
    let few : count < 5 = grind arith in
    let within : leb (count + 1) 5 ≡ true = search (arith, few) in
    leads _ (Digits holder (count + 1) 1) (codes "1") (λ more. rw (within, or_true (ltb (count + 1) 5)) refl)
    (leads _ (Ending (with_number holder 1) PartNumber) (codes " ") (λ more. refl) (ending_live (with_number holder 1) PartNumber))

quoted_live : (holder : Holder) (quotation : Quotation) → IsLive (due (quote_text quotation) (Ending holder ETag))
quoted_live holder quotation = due_live (quote_text quotation) (Ending holder ETag) (ending_live holder ETag)

hex_live : (missing : ℕ) (holder : Holder) (quotation : Quotation) (digits : List ℕ) → length digits + missing ≡ 32 → IsLive (behind_hex holder quotation digits)
hex_live zero holder quotation digits whole =
    let full : eqb (length digits) 32 ≡ true = search (arith, whole) in
    rw full (quoted_live (with_md5 holder (md5_of digits)) quotation)
hex_live (suc missing) holder quotation digits whole =
    let short : eqb (length digits) 32 ≡ false = ne_eqb (length digits) 32 (λ e. omega (arith, e, whole)) in
    let live : IsLive (behind_hex holder quotation (digits ++ 48 ∷ [])) =
    hex_live missing holder quotation (digits ++ 48 ∷ []) (omega (arith, whole, length_push digits 48)) in
    rw short (leads (Hex holder quotation digits) (behind_hex holder quotation (digits ++ 48 ∷ [])) (codes "0") (λ more. refl) live)

rooted_live : (root : Root) → IsLive (Rooted root)
rooted_live root = leads _ (within root) (codes ">") (λ more. refl) (within_live root)

before_live : (root : Root) → IsLive (Before root)
before_live CompleteMultipartUpload = leads _ (Rooted CompleteMultipartUpload) (codes "<CompleteMultipartUpload") (λ more. refl) (rooted_live CompleteMultipartUpload)
before_live VersioningConfiguration = leads _ (Rooted VersioningConfiguration) (codes "<VersioningConfiguration") (λ more. refl) (rooted_live VersioningConfiguration)

opened_live : (root : Root) → IsLive (Opened root)
opened_live CompleteMultipartUpload = leads _ (Rooted CompleteMultipartUpload) (codes "CompleteMultipartUpload") (λ more. refl) (rooted_live CompleteMultipartUpload)
opened_live VersioningConfiguration = leads _ (Rooted VersioningConfiguration) (codes "VersioningConfiguration") (λ more. refl) (rooted_live VersioningConfiguration)

quote_live : (root : Root) (quote : ℕ) → IsLive (Quoted root quote)
quote_live root quote =
    let same : eqb quote quote ≡ true = search arith in
    leads _ (within root) (quote ∷ codes ">") (λ more. rw same refl) (within_live root)

between_live : (parts : List PartRef) → IsLive (Between parts)
between_live parts = leads _ (Inside (Part parts None None)) (codes "<Part>") (λ more. refl) (part_live parts None None)

-- each lawful state is live
pub live : (state : State) → IsLawful state → IsLive state
live (Expect b bytes next) lawful = due_live (b ∷ bytes) next (live next lawful)
live (Start root) lawful = leads _ (Opened root) (codes "<") (λ more. refl) (opened_live root)
live (Opened root) lawful = opened_live root
live (Declaration root) lawful = leads _ (Before root) (codes "?>") (λ more. refl) (before_live root)
live (Mark root) lawful = leads _ (Before root) (codes ">") (λ more. refl) (before_live root)
live (Before root) lawful = before_live root
live (Rooted root) lawful = rooted_live root
live (Spaced root) lawful = leads _ (within root) (codes "xmlns=''>") (λ more. refl) (within_live root)
live (Quote root) lawful = leads _ (Quoted root 34) (codes "\"") (λ more. refl) (quote_live root 34)
live (Quoted root quote) lawful = quote_live root quote
live (Between parts) lawful = between_live parts
live (Tag parts) lawful = leads _ (Inside (Part parts None None)) (codes "Part>") (λ more. refl) (part_live parts None None)
live (Inside holder) lawful = inside_live holder
live (Inner holder) lawful = inner_live holder
live (Name holder name) lawful = name_live holder name
live (Text holder name) lawful = text_live holder name
live (Awaiting holder field) lawful = awaiting_live holder field
live (Ending holder field) lawful = ending_live holder field
live (Digits holder count value) lawful = digits_live holder count value lawful
live (Reference holder) lawful = leads _ (Hex holder Numbered []) (codes "#34;") (λ more. refl) (hex_live 32 holder Numbered [] refl)
live (Hex holder quotation digits) lawful =
    let short : eqb (length digits) 32 ≡ false = ne_eqb (length digits) 32 (λ e. omega (arith, e, lawful)) in
    let live = hex_live (32 - length digits) holder quotation digits (omega (arith, lawful)) in
    rw short at live
live (After value) lawful = ([], value, refl)
