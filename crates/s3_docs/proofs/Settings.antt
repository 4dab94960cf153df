-- The content of a VersioningConfiguration, in both directions.
use Rattle.std.proofs.Common.{◌≡◌, ◌≢◌, refl, sym, ◌∙◌, ap, subst, ℕ, zero, suc, ◌<◌, inl, inr, Bool, true, false, List, [], ◌∷◌, ◌++◌, length, codes, Option, Some, None, arith}
use Rattle.std.specs.Str.{bytes_eq}
use Rattle.std.specs.Option.{option_to_list}
use Rattle.std.proofs.lemmas.Bool.{false≢true, false_from_ne_true}
use Rattle.std.proofs.lemmas.Slice.Eq.{bytes_eq-Decides}
use Rattle.call_types.specs.declared.names.Mode.{Mode}
use Rattle.call_types.specs.declared.names.Mode.TheVariants.{Never, Enabled, Suspended}
use Rattle.s3_docs.specs.Machine.{Value, Versioning, Holder, Configuration, State, Inside, Inner, Name, Awaiting, Ending, After, due, naming, closes}
use Rattle.s3_docs.specs.Machine as machine
use Rattle.s3_docs.specs.Outcomes.{Says, outcome, goes_on}
use Rattle.s3_docs.specs.Reads.{NoNameByte}
use Rattle.s3_docs.specs.Grammar.{◌·◌, IsGap, IsName, Setting, Status, Else, mode_name, IsAsked, setting_text, IsSetting, settings_text, AreSettings, modes}
use Rattle.s3_docs.proofs.Forward.{gap_read, passed_read}
use Rattle.s3_docs.proofs.Back.{Opened, not_failed, open_back, due_back, inner_back, content_back}
use Rattle.s3_docs.proofs.BackValues.{mode_back}
use Rattle.s3_docs.proofs.BackParts.{field_back, spent_back, behind_le, passed_longer, after_back}

mode_read : (mode : Mode) → IsAsked mode → (rest : List ℕ)
    → outcome (Awaiting (Configuration None) machine.Status) (mode_name mode · rest) ≡ outcome (Ending (Configuration (Some mode)) machine.Status) rest
mode_read Never asked rest = absurd asked
mode_read Enabled asked rest = refl
mode_read Suspended asked rest = refl

pub settings_read : (settings : List Setting) (known : Option Mode) (mode : Mode) → AreSettings settings → option_to_list known ++ modes settings ≡ mode ∷ [] → (rest : List ℕ)
    → outcome (Inside (Configuration known)) (settings_text settings rest) ≡ outcome (Inside (Configuration (Some mode))) rest
settings_read [] None mode are one rest = absurd (no_cons one)
  where
    no_cons : [] ≡ mode ∷ [] → ⊥
    no_cons e = grind arith
settings_read [] (Some known) mode are one rest = let same : known ≡ mode = grind arith in rw same refl
settings_read (Status gap before asked after ∷ settings) None mode are one rest =
    let next = settings_text settings rest in
    let last = after · codes "</Status>" · next in
    gap_read (Inside (Configuration None)) refl gap are.0.0 (codes "<Status>" · before · mode_name asked · last)
    ∙ gap_read (Awaiting (Configuration None) machine.Status) refl before are.0.1 (mode_name asked · last)
    ∙ mode_read asked are.0.2 last
    ∙ gap_read (Ending (Configuration (Some asked)) machine.Status) refl after are.0.3 (codes "</Status>" · next)
    ∙ settings_read settings (Some asked) mode are.1 one rest
settings_read (Status gap before asked after ∷ settings) (Some known) mode are one rest = absurd (two known asked (modes settings) mode one)
  where
    two : (a b : Mode) (others : List Mode) (c : Mode) → a ∷ b ∷ others ≡ c ∷ [] → ⊥
    two a b others c e = grind arith
settings_read (Else passed ∷ settings) known mode are one rest =
    passed_read (Configuration known) passed are.0.0 (rw (differs passed.name (codes "Status") are.0.1) refl) (settings_text settings rest)
    ∙ settings_read settings known mode are.1 one rest
  where
    differs : (a b : List ℕ) → a ≢ b → bytes_eq a b ≡ false
    differs a b other = false_from_ne_true (bytes_eq a b) (λ same. other ((bytes_eq-Decides a b).0 same))

-- an element, and what follows it
record SettingBack (known : Option Mode) (bytes : List ℕ) (value : Value) : Type 0 where
  setting : Setting
  rest : List ℕ
  next : Option Mode
  whole : bytes ≡ setting_text setting rest
  is : IsSetting setting
  same_modes : (settings : List Setting) → option_to_list known ++ modes (setting ∷ settings) ≡ option_to_list next ++ modes settings
  goes : outcome (Inside (Configuration next)) rest ≡ Says value

status_setting : (known : Option Mode) (value : Value) (bytes gap rest : List ℕ) → bytes ≡ gap · codes "<Status" · rest → IsGap gap → NoNameByte rest
    → outcome (Name (Configuration known) (codes "Status")) rest ≡ Says value → SettingBack known bytes value
status_setting (Some known) value bytes gap rest whole g no_name goes = spent_back (Configuration (Some known)) (codes "Status") value rest refl no_name goes
status_setting None value bytes gap rest whole g no_name goes =
    let field = field_back (Configuration None) machine.Status (codes "Status") value rest refl no_name goes in
    let m = mode_back (Configuration None) value field.0 field.2 in
    let t = m.4 in
    record {
      setting = Status gap m.0 t.mode t.after;
      rest = t.rest;
      next = Some t.mode;
      whole = whole ∙ ap (λ (rest : List ℕ). gap · codes "<Status" · rest) (field.1 ∙ ap (62 ∷◌) (m.2 ∙ ap (m.0 ·◌) t.whole));
      is = (g, m.3, t.asked, t.after_is);
      same_modes = λ settings. refl;
      goes = t.goes;
    }

setting_back : (known : Option Mode) (value : Value) (bytes gap name rest : List ℕ) → bytes ≡ gap · (60 ∷ (name · rest)) → IsGap gap → IsName name → NoNameByte rest
    → outcome (Name (Configuration known) name) rest ≡ Says value → SettingBack known bytes value
setting_back known value bytes gap name rest whole g is no_name goes = by_name (bytes_eq name (codes "Status")) refl
  where
    by_name : (test : Bool) → bytes_eq name (codes "Status") ≡ test → SettingBack known bytes value
    by_name true test =
        let same = (bytes_eq-Decides name (codes "Status")).0 test in
        status_setting known value bytes gap rest (whole ∙ ap (λ (name : List ℕ). gap · (60 ∷ (name · rest))) same) g no_name
        (subst (λ (name : List ℕ). outcome (Name (Configuration known) name) rest ≡ Says value) same goes)
    by_name false test =
        let c = content_back (Configuration known) name (rw test refl) value rest no_name goes in
        record {
          setting = Else (record { gap = gap; name = name; text = c.0 });
          rest = c.1;
          next = known;
          whole = whole ∙ ap (λ (rest : List ℕ). gap · (60 ∷ (name · rest))) c.2;
          is = (record { gap = g; name = is; text = c.3 }, λ same. false≢true (sym test ∙ (bytes_eq-Decides name (codes "Status")).1 same));
          same_modes = λ settings. refl;
          goes = c.4;
        }

setting_longer : (setting : Setting) (rest : List ℕ) → length rest < length (setting_text setting rest)
setting_longer (Status gap before mode after) rest =
    let last = after · codes "</Status>" · rest in
    omega (
      arith,
      behind_le gap (codes "<Status>" · before · mode_name mode · last),
      behind_le before (mode_name mode · last),
      behind_le (mode_name mode) last,
      behind_le after (codes "</Status>" · rest),
    )
setting_longer (Else passed) rest = passed_longer passed rest

-- the elements and the root's end
pub record SettingsBack (known : Option Mode) (bytes : List ℕ) (value : Value) : Type 0 where
  pub settings : List Setting
  pub mode : Mode
  pub last_gap : List ℕ
  pub after : List ℕ
  pub whole : bytes ≡ settings_text settings (last_gap · codes "</VersioningConfiguration>" · after)
  pub are : AreSettings settings
  pub one : option_to_list known ++ modes settings ≡ mode ∷ []
  pub gap_is : IsGap last_gap
  pub after_is : IsGap after
  pub value_is : Versioning mode ≡ value

settings_end : (known : Option Mode) (value : Value) (bytes gap rest : List ℕ) → bytes ≡ gap · codes "</" · rest → IsGap gap
    → goes_on (closes (Configuration known)) (λ next. outcome next rest) (length (47 ∷ rest)) ≡ Says value → SettingsBack known bytes value
settings_end None value bytes gap rest whole is goes = not_failed (length (47 ∷ rest)) value goes
settings_end (Some mode) value bytes gap rest whole is goes =
    let last = due_back (codes "VersioningConfiguration>") (After (Versioning mode)) value rest goes in
    let end = after_back (Versioning mode) value last.0 last.2 in
    record {
      settings = [];
      mode = mode;
      last_gap = gap;
      after = last.0;
      whole = whole ∙ ap (λ (rest : List ℕ). gap · codes "</" · rest) last.1;
      are = tt;
      one = refl;
      gap_is = is;
      after_is = end.0;
      value_is = end.1;
    }

pub settings_back : (fuel : ℕ) (known : Option Mode) (value : Value) (bytes : List ℕ) → length bytes < fuel → outcome (Inside (Configuration known)) bytes ≡ Says value
    → SettingsBack known bytes value
settings_back zero known value bytes below goes = absurd (omega (arith, below))
settings_back (suc fuel) known value bytes below goes = elim (inner_back (Configuration known) value start.rest start.goes) [
  | inl ended ↦ settings_end known value bytes start.gap ended.rest (start.whole ∙ ap (λ (rest : List ℕ). start.gap · (60 ∷ rest)) ended.whole) start.is ended.goes
  | inr started ↦
      with_setting (setting_back known value bytes start.gap started.name started.rest
      (start.whole ∙ ap (λ (rest : List ℕ). start.gap · (60 ∷ rest)) started.whole) start.is started.is started.no_name started.goes)
      (λ known bytes below goes. settings_back fuel known value bytes below goes)
]
  where
    start : Opened (Inner (Configuration known)) bytes value
    start = open_back (Inside (Configuration known)) (Inner (Configuration known)) (refl, refl, λ b. refl) value bytes goes

    with_setting : SettingBack known bytes value
        → ((known : Option Mode) (bytes : List ℕ) → length bytes < fuel → outcome (Inside (Configuration known)) bytes ≡ Says value → SettingsBack known bytes value)
        → SettingsBack known bytes value
    with_setting setting later =
        let longer : length setting.rest < length bytes = rw setting.whole (setting_longer setting.setting setting.rest) in
        let more = later setting.next setting.rest (omega (arith, longer, below)) setting.goes in
        record {
          settings = setting.setting ∷ more.settings;
          mode = more.mode;
          last_gap = more.last_gap;
          after = more.after;
          whole = setting.whole ∙ ap (setting_text setting.setting) more.whole;
          are = (setting.is, more.are);
          one = setting.same_modes more.settings ∙ more.one;
          gap_is = more.gap_is;
          after_is = more.after_is;
          value_is = more.value_is;
        }
