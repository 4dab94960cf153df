-- A line, as it is read option by option.
use Rattle.std.proofs.Common.{codes, ◌≡◌, ◌≢◌, ℕ, Bool, true, false, List, [], ◌∷◌, ◌++◌, All, length, map, Option, Some, None, MatchOption, is_some, String, ◌⊎◌, ◌≤◌, inl, inr, slice_index_or, ◌==◌, zero, suc, refl, sym, ap, subst, ◌∙◌, arith, append_assoc}
use Rattle.std.specs.Borrow.{Bor}
use Rattle.std.specs.List.{flat_map}
use Rattle.std.specs.Prelude.{option_map}
use Rattle.std.specs.String.{string_bytes}
use Rattle.std.proofs.lemmas.Bool.{eqb-false}
use Rattle.std.proofs.lemmas.List.{append-nil}
use Rattle.std.proofs.lemmas.List.Concat.{flat_map-append}
use Rattle.std.proofs.lemmas.List.Elements.{All-nil, All-push, All-head, All-tail}
use Rattle.command_line.specs.Words.{AreDistinct, Choice, IsChoice, choice_words, command_word}
use Rattle.command_line.specs.Values.{AreChoices, AreValues, BeginsWithNone, IsCommandWord, IsEnd, IsFound, IsLine, IsNoCommand, IsNoLine, IsNoName, IsSplit, LacksDashes, Takes, behind, name_text, value_in, value_of}
use Rattle.command_line.specs.declared.line.Found.{Found}
use Rattle.command_line.specs.declared.line.Line.{Line}
use Rattle.command_line.specs.declared.options.OptionName.{OptionName}
use Rattle.command_line.specs.declared.options.Options.{Options}
use Rattle.command_line.specs.declared.plan.Command.{Command}
use Rattle.command_line.proofs.ChoiceLemmas.{front_of, joined_words, named, option_named, parted_words, plain_name, same_split}
use Rattle.command_line.proofs.ValueLemmas.{names_of, none_before, once_more, value_more}

-- the words up to the rest are options, and these are their values
pub record ReadTo (words rest : List (List ℕ)) (options : Options) : Type 0 where
  pub choices : List Choice
  pub each : All IsChoice choices
  pub once : AreDistinct (names_of choices)
  pub are : words ≡ flat_map choice_words choices ++ rest
  pub values : AreValues choices options

-- nothing was read
pub read_none : (words : List (List ℕ)) (options : Options) → ((name : OptionName) → value_in options name ≡ None) → ReadTo words words options
read_none words options none = record { choices = []; each = All-nil IsChoice; once = tt; are = refl; values = none }

push_words : (cs : List Choice) (c : Choice) (rest : List (List ℕ)) → flat_map choice_words cs ++ (choice_words c ++ rest) ≡ flat_map choice_words (cs ++ c ∷ []) ++ rest
push_words cs c rest = rw (flat_map-append choice_words cs (c ∷ []), append-nil (choice_words c), append_assoc (flat_map choice_words cs) (choice_words c) rest) refl

-- the words up to an option and with it
found_words : (words rest after : List (List ℕ)) (options : Options) (r : ReadTo words rest options) (c : Choice) → rest ≡ choice_words c ++ after → words ≡ flat_map choice_words (r.choices ++ c ∷ []) ++ after
found_words words rest after options r c is = r.are ∙ (ap (λ (x : List (List ℕ)). flat_map choice_words r.choices ++ x) is ∙ push_words r.choices c after)

-- the value of the option's name before it
value_there : (words rest : List (List ℕ)) (options : Options) (r : ReadTo words rest options) (found : Found) (f : IsFound rest found) → value_in options found.name ≡ value_of r.choices f.choice.name
value_there words rest options r found f = r.values found.name ∙ ap (value_of r.choices) (sym f.name)

-- one option more was read
pub read_more : (words rest : List (List ℕ)) (options more : Options) (found : Found) → ReadTo words rest options → IsFound rest found → Takes options found.name found.value.now more
    → ReadTo words (map string_bytes found.rest.now) more
read_more words rest options more found r f t =
    let none : value_of r.choices f.choice.name ≡ None = sym (value_there words rest options r found f) ∙ t.free in
    record {
      choices = r.choices ++ f.choice ∷ [];
      each = All-push IsChoice r.choices f.choice r.each f.is;
      once = once_more r.choices f.choice r.once none;
      are = found_words words rest (map string_bytes found.rest.now) options r f.choice f.are;
      values = λ name. t.each name ∙ (rw (← f.name, ← f.value, r.values name) (sym (value_more r.choices f.choice (name_text name) none)));
    }

-- a reading of words whose front was read
ahead : (words rest : List (List ℕ)) (options : Options) (r : ReadTo words rest options) (ds : List Choice) (command : Command) → AreChoices words ds command
    → (more : List Choice) × (ds ≡ r.choices ++ more) × (rest ≡ flat_map choice_words more ++ command_word command ∷ [])
ahead words rest options r ds command d = front_of r.choices ds rest command r.each d.each (sym r.are ∙ d.are)

-- an option whose name has a value already is no part of a line
pub read_twice : (words rest : List (List ℕ)) (options : Options) (found : Found) → ReadTo words rest options → IsFound rest found → is_some (value_in options found.name) ≡ true → IsNoLine words
read_twice words rest options found r f has ds command d =
    let front = front_of (r.choices ++ f.choice ∷ []) ds (map string_bytes found.rest.now) command (All-push IsChoice r.choices f.choice r.each f.is) d.each
    (sym (found_words words rest (map string_bytes found.rest.now) options r f.choice f.are) ∙ d.are) in
    let are : ds ≡ r.choices ++ (f.choice ∷ front.0) = front.1 ∙ append_assoc r.choices (f.choice ∷ []) front.0 in
    let once : AreDistinct (names_of (r.choices ++ (f.choice ∷ front.0))) = subst (λ (xs : List Choice). AreDistinct (names_of xs)) are d.once in
    let none : value_in options found.name ≡ None = value_there words rest options r found f ∙ none_before r.choices f.choice front.0 once in
    let some : false ≡ true = rw none at has in
    cc

of_last : (cs : List Choice) (m : Choice) (more : List Choice) → All IsChoice (cs ++ (m ∷ more)) → IsChoice m
of_last [] m more all = All-head IsChoice m more all
of_last (c ∷ cs) m more all = of_last cs m more (All-tail IsChoice c (cs ++ (m ∷ more)) all)

-- words behind which there is neither an option nor a command are no line
pub read_wrong : (words rest : List (List ℕ)) (options : Options) → ReadTo words rest options → BeginsWithNone rest → IsNoCommand rest → IsNoLine words
read_wrong words rest options r none stray ds command d =
    let a = ahead words rest options r ds command d in
    by_more a.0 a.1 a.2
  where
    by_more : (more : List Choice) → ds ≡ r.choices ++ more → rest ≡ flat_map choice_words more ++ command_word command ∷ [] → ⊥
    by_more [] e f = stray command f
    by_more (m ∷ more) e f =
        let all : All IsChoice (r.choices ++ (m ∷ more)) = subst (λ (xs : List Choice). All IsChoice xs) e d.each in
        none m (flat_map choice_words more ++ command_word command ∷ []) (of_last r.choices m more all) (f ∙ append_assoc (choice_words m) (flat_map choice_words more) (command_word command ∷ []))

-- options and then a command are a line
pub read_whole : (words rest : List (List ℕ)) (options : Options) (line : Line) → ReadTo words rest options → line.options ≡ options → IsCommandWord rest line.command → IsLine words line
read_whole words rest options line r same is = record {
  choices = r.choices;
  read = record { each = r.each; once = r.once; are = r.are ∙ ap (λ (x : List (List ℕ)). flat_map choice_words r.choices ++ x) is };
  values = λ name. ap (λ (o : Options). value_in o name) same ∙ r.values name;
}

-- ---- one option

-- an option's parts, where its first word splits into a name and a value
abbrev pub Fits : List ℕ → Option (List ℕ) → Choice → List (List ℕ) → List (List ℕ) → Type 0
Fits name None c rest after = (c.name ≡ name) × (c.joined ≡ false) × (rest ≡ c.value ∷ after)
Fits name (Some value) c rest after = (c.name ≡ name) × (c.joined ≡ true) × (c.value ≡ value) × (rest ≡ after)

-- an option that words begin with is what their first word splits into
pub fits : (word name : List ℕ) (value : Option (Bor (List ℕ))) → IsSplit word name value → (c : Choice) → IsChoice c → (rest after : List (List ℕ)) → word ∷ rest ≡ choice_words c ++ after
    → Fits name (option_map (λ (t : Bor (List ℕ)). t.now) value) c rest after
fits word name value s c is rest after e = by_joined c.joined refl value s
  where
    by_joined : (j : Bool) → c.joined ≡ j → (v : Option (Bor (List ℕ))) → IsSplit word name v → Fits name (option_map (λ (t : Bor (List ℕ)). t.now) v) c rest after
    by_joined true j None t =
        let f = rw (joined_words c j) at e in
        let same : name ++ behind None ≡ c.name ++ behind (Some c.value) = cc (t.is) in
        let parts = same_split name c.name None (Some c.value) t.plain (plain_name c.name is.named) same in
        absurd (cc (parts.1))
    by_joined true j (Some v) t =
        let f = rw (joined_words c j) at e in
        let same : name ++ behind (Some v.now) ≡ c.name ++ behind (Some c.value) = cc (t.is) in
        let parts = same_split name c.name (Some v.now) (Some c.value) t.plain (plain_name c.name is.named) same in
        let value_is : c.value ≡ v.now = cc (parts.1) in
        (sym parts.0, j, value_is, cc)
    by_joined false j None t =
        let f = rw (parted_words c j) at e in
        let same : name ++ behind None ≡ c.name ++ behind None = cc (t.is) in
        let parts = same_split name c.name None None t.plain (plain_name c.name is.named) same in
        (sym parts.0, j, cc)
    by_joined false j (Some v) t =
        let f = rw (parted_words c j) at e in
        let same : name ++ behind (Some v.now) ≡ c.name ++ behind None = cc (t.is) in
        let parts = same_split name c.name (Some v.now) None t.plain (plain_name c.name is.named) same in
        absurd (cc (parts.1))

-- words whose first word doesn't begin with `--` begin with no option
pub none_lacking : (word : List ℕ) (rest : List (List ℕ)) → LacksDashes word → BeginsWithNone (word ∷ rest)
none_lacking word rest lacks c after is e = by_joined c.joined refl
  where
    by_joined : (j : Bool) → c.joined ≡ j → ⊥
    by_joined true j = let f = rw (joined_words c j) at e in lacks (c.name ++ behind (Some c.value)) cc
    by_joined false j = let f = rw (parted_words c j) at e in lacks (c.name ++ behind None) cc

-- whose name is no option's
pub none_named : (word name : List ℕ) (value : Option (Bor (List ℕ))) (rest : List (List ℕ)) → IsSplit word name value → IsNoName name → BeginsWithNone (word ∷ rest)
none_named word name value rest s none c after is e =
    let which = named c.name is.named in
    none which.0 (sym (name_fits value s) ∙ which.1)
  where
    name_fits : (v : Option (Bor (List ℕ))) → IsSplit word name v → c.name ≡ name
    name_fits None t = (fits word name None t c is rest after e).0
    name_fits (Some v) t = (fits word name (Some v) t c is rest after e).0

-- whose value is empty
pub none_joined : (word name : List ℕ) (value : Bor (List ℕ)) (rest : List (List ℕ)) → IsSplit word name (Some value) → length value.now ≡ 0 → BeginsWithNone (word ∷ rest)
none_joined word name value rest s empty c after is e =
    let f = fits word name (Some value) s c is rest after e in
    let same : length c.value ≡ length value.now = ap (length {A = ℕ}) f.2 in
    omega (arith, is.some)

-- whose name has no value behind it
pub none_alone : (word name : List ℕ) → IsSplit word name None → BeginsWithNone (word ∷ [])
none_alone word name s c after is e = let f = (fits word name None s c is [] after e).2 in cc

-- or one that is empty, or begins with `-`
pub none_parted : (word name value : List ℕ) (rest : List (List ℕ)) → IsSplit word name None → (length value ≡ 0) ⊎ (slice_index_or value 0 0 ≡ 45) → BeginsWithNone (word ∷ (value ∷ rest))
none_parted word name value rest s bad c after is e =
    let f = fits word name None s c is (value ∷ rest) after e in
    let same : c.value ≡ value = cc (f.2) in
    elim bad [
      | inl empty ↦ let long : length c.value ≡ length value = ap (length {A = ℕ}) same in omega (arith, is.some)
      | inr dash ↦ is.plain f.1 (ap (λ (t : List ℕ). slice_index_or t 0 0) same ∙ dash)
    ]

joined_are : (word name text value : List ℕ) (rest after : List (List ℕ)) → name ≡ text → rest ≡ after → word ≡ codes "--" ++ (name ++ behind (Some value))
    → word ∷ rest ≡ choice_words (record { name = text; value = value; joined = true }) ++ after
joined_are word name text value rest after same_name same_rest is =
    ap (λ (w : List ℕ). w ∷ rest) (is ∙ (ap (λ (n : List ℕ). codes "--" ++ (n ++ behind (Some value))) same_name ∙ ap (λ (t : List ℕ). codes "--" ++ t) (sym (append_assoc text (codes "=") value))))
    ∙ ap (λ (r : List (List ℕ)). (codes "--" ++ text ++ codes "=" ++ value) ∷ r) same_rest

parted_are : (word name text value : List ℕ) (rest after : List (List ℕ)) → name ≡ text → rest ≡ after → word ≡ codes "--" ++ (name ++ behind None)
    → word ∷ (value ∷ rest) ≡ choice_words (record { name = text; value = value; joined = false }) ++ after
parted_are word name text value rest after same_name same_rest is =
    ap (λ (w : List ℕ). w ∷ (value ∷ rest)) (is ∙ ap (λ (t : List ℕ). codes "--" ++ t) (append-nil name ∙ same_name))
    ∙ ap (λ (r : List (List ℕ)). (codes "--" ++ text) ∷ (value ∷ r)) same_rest

-- words whose first word splits into a name of an option and a value begin with that option
pub found_joined : (word name : List ℕ) (which : OptionName) (value : Bor (List ℕ)) (rest : List (List ℕ)) (found : Found) → IsSplit word name (Some value) → name ≡ name_text which → 1 ≤ length value.now
    → found.name ≡ which → found.value.now ≡ value.now → rest ≡ map string_bytes found.rest.now → IsFound (word ∷ rest) found
found_joined word name which value rest found s named_so long is_name is_value is_rest =
    let c : Choice = record { name = name_text which; value = value.now; joined = true } in
    record {
      choice = c;
      is = record { named = option_named which; some = long; plain = λ e. absurd cc };
      name = ap name_text (sym is_name);
      value = sym is_value;
      are = joined_are word name (name_text which) value.now rest (map string_bytes found.rest.now) named_so is_rest s.is;
    }

-- and words whose first word is a name, and the second a value
pub found_parted : (word name : List ℕ) (which : OptionName) (value : List ℕ) (rest : List (List ℕ)) (found : Found) → IsSplit word name None → name ≡ name_text which → 1 ≤ length value → slice_index_or value 0 0 ≢ 45
    → found.name ≡ which → found.value.now ≡ value → rest ≡ map string_bytes found.rest.now → IsFound (word ∷ (value ∷ rest)) found
found_parted word name which value rest found s named_so long plain is_name is_value is_rest =
    let c : Choice = record { name = name_text which; value = value; joined = false } in
    record {
      choice = c;
      is = record { named = option_named which; some = long; plain = λ e. plain };
      name = ap name_text (sym is_name);
      value = sym is_value;
      are = parted_are word name (name_text which) value rest (map string_bytes found.rest.now) named_so is_rest s.is;
    }

-- ---- words of the program

-- the bytes of words are those of the first and of the rest
pub first_word : {Y : Type 0} (words : List (String Y)) (word : String Y) (rest : List (String Y)) (text : List ℕ) → words ≡ word ∷ rest → text ≡ string_bytes word → map string_bytes words ≡ text ∷ map string_bytes rest
first_word words word rest text are is = ap (map string_bytes) are ∙ ap (λ (w : List ℕ). w ∷ map string_bytes rest) (sym is)

-- a text that isn't empty is long
pub long_text : (text : List ℕ) (empty : Bool) → empty ≡ (length text == 0) → empty ≡ false → 1 ≤ length text
long_text text empty is not_so = let apart = eqb-false (length text) 0 (sym is ∙ not_so) in above (length text) apart
  where
    above : (n : ℕ) → n ≢ 0 → 1 ≤ n
    above zero apart = absurd (apart refl)
    above (suc n) apart = omega arith

-- ---- the end of a line

-- where no option follows, the line ends with a command or is none
pub read_end : (words rest : List (List ℕ)) (options : Options) (result : Option Line) → ReadTo words rest options → BeginsWithNone rest → MatchOption result (IsNoCommand rest) (IsEnd options rest) → MatchOption result (IsNoLine words) (IsLine words)
read_end words rest options None r none end = read_wrong words rest options r none end
read_end words rest options (Some line) r none end = read_whole words rest options line r end.0 end.1
