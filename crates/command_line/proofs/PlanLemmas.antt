-- A plan, from the values of options.
use Rattle.std.proofs.Common.{◌≡◌, ℕ, ◌+◌, ◌/◌, ◌≤◌, List, [], ◌∷◌, ◌++◌, Option, Some, None, MatchOption, String, codes, map, sym, ap, subst, ◌∙◌, arith}
use Rattle.std.specs.Coded.{le_prop}
use Rattle.std.specs.List.{flat_map}
use Rattle.std.specs.Prelude.{option_map}
use Rattle.std.specs.String.{string_bytes}
use Rattle.drive_base.specs.Plan.{usual_parity_of}
use Rattle.drive_base.specs.declared.plan.SetPlan.{SetPlan}
use Rattle.uuid.specs.Text.{parsed}
use Rattle.command_line.specs.Words.{AreDistinct, Choice, IsCommandLine, IsNumber, IsNumberIn, OptionSays, Says, SaysSet, choice_words, command_word}
use Rattle.command_line.specs.Values.{AreChoices, IsIdOf, IsLine, IsListenOf, IsNoLine, IsNumberOr, IsRootOf, IsSetIn, IsSetOf, name_text, nil_id, value_in, value_of}
use Rattle.command_line.specs.declared.line.Line.{Line}
use Rattle.command_line.specs.declared.options.OptionName.{OptionName}
use Rattle.command_line.specs.declared.options.OptionName.TheVariants.{Root, Drives, Parity, Set, Listen, Workers}
use Rattle.command_line.specs.declared.plan.Command.{Command}
use Rattle.command_line.specs.declared.plan.Plan.{Plan}
use Rattle.command_line.proofs.ChoiceLemmas.{same_reading}
use Rattle.command_line.proofs.NumberLemmas.{same_number}
use Rattle.command_line.proofs.ValueLemmas.{names_of, said_value, value_said}

-- ---- a set

bounded_parity : (drives usual : ℕ) (value : Option (List ℕ)) (n : ℕ) → MatchOption value (n ≡ usual) (λ text. IsNumber text n) → 1 ≤ n → n + n ≤ drives → IsNumberOr 1 (drives / 2) usual value n
bounded_parity drives usual None n is some half = is
bounded_parity drives usual (Some text) n is some half = record { number = is; above = some; below = omega arith }

free_parity : (drives usual : ℕ) (value : Option (List ℕ)) (n : ℕ) → IsNumberOr 1 (drives / 2) usual value n → MatchOption value (n ≡ usual) (λ text. IsNumber text n)
free_parity drives usual None n is = is
free_parity drives usual (Some text) n is = is.number

-- what options say of a set is said of their values
set_values : (cs : List Choice) (set : SetPlan) → AreDistinct (names_of cs) → SaysSet cs set → IsSetOf (value_of cs (codes "drives")) (value_of cs (codes "parity")) (value_of cs (codes "set")) set
set_values cs set once s =
    let free = value_said cs (codes "parity") (λ text. IsNumber text set.parity) (set.parity ≡ usual_parity_of set.drives) once s.parity in
    record {
      has_drives = value_said cs (codes "drives") (λ text. IsNumberIn 4 16 text set.drives) (set.drives ≡ 4) once s.drives;
      has_parity = bounded_parity set.drives (usual_parity_of set.drives) (value_of cs (codes "parity")) set.parity free s.some_parity s.half_at_most;
      has_id = value_said cs (codes "set") (λ text. parsed text ≡ Some set.id) (set.id ≡ nil_id) once s.id;
      none_out = s.out;
    }

-- what values say of a set is what their options say
values_set : (cs : List Choice) (set : SetPlan) → IsSetOf (value_of cs (codes "drives")) (value_of cs (codes "parity")) (value_of cs (codes "set")) set → SaysSet cs set
values_set cs set s = record {
  drives = said_value cs (codes "drives") (λ text. IsNumberIn 4 16 text set.drives) (set.drives ≡ 4) s.has_drives;
  parity = said_value cs (codes "parity") (λ text. IsNumber text set.parity) (set.parity ≡ usual_parity_of set.drives)
      (free_parity set.drives (usual_parity_of set.drives) (value_of cs (codes "parity")) set.parity s.has_parity);
  some_parity = set.some_parity;
  half_at_most = set.half_at_most;
  id = said_value cs (codes "set") (λ text. parsed text ≡ Some set.id) (set.id ≡ nil_id) s.has_id;
  out = s.none_out;
}

-- ---- the plan of a line

-- a command line is a reading of its words
read_of : (words : List (List ℕ)) (plan : Plan) (says : IsCommandLine words plan) → AreChoices words says.choices plan.command
read_of words plan says = record { each = says.each; once = says.once; are = says.are }

-- the options of a plan that the words of a line say are the line's
same_line : (words : List (List ℕ)) (line : Line) (is : IsLine words line) (plan : Plan) (says : IsCommandLine words plan) → says.choices ≡ is.choices
same_line words line is plan says = (same_reading words says.choices is.choices plan.command line.command (read_of words plan says) is.read).0

-- what holds of a value of options holds of the line's
at_line : (words : List (List ℕ)) (line : Line) (is : IsLine words line) (P : Option (List ℕ) → Type 0) (cs : List Choice) → cs ≡ is.choices → (name : OptionName) → P (value_of cs (name_text name)) → P (value_in line.options name)
at_line words line is P cs same name holds = subst P (ap (λ (xs : List Choice). value_of xs (name_text name)) same ∙ sym (is.values name)) holds

-- the set of a plan that the words of a line say is what the line's values say
pub set_said : (words : List (List ℕ)) (line : Line) → IsLine words line → (plan : Plan) → IsCommandLine words plan → IsSetIn line.options plan.set
set_said words line is plan says =
    let same = same_line words line is plan says in
    let s = set_values says.choices plan.set says.once says.set in
    record {
      has_drives = at_line words line is (λ v. IsNumberOr 4 16 4 v plan.set.drives) says.choices same Drives s.has_drives;
      has_parity = at_line words line is (λ v. IsNumberOr 1 (plan.set.drives / 2) (usual_parity_of plan.set.drives) v plan.set.parity) says.choices same Parity s.has_parity;
      has_id = at_line words line is (λ v. IsIdOf v plan.set.id) says.choices same Set s.has_id;
      none_out = s.none_out;
    }

workers_value : (cs : List Choice) (workers : ℕ) → AreDistinct (names_of cs) → OptionSays cs (codes "workers") (λ text. IsNumberIn 1 64 text workers) (workers ≡ 16) → IsNumberOr 1 64 16 (value_of cs (codes "workers")) workers
workers_value cs workers once said = value_said cs (codes "workers") (λ text. IsNumberIn 1 64 text workers) (workers ≡ 16) once said

-- its workers too
pub workers_said : (words : List (List ℕ)) (line : Line) → IsLine words line → (plan : Plan) → IsCommandLine words plan → IsNumberOr 1 64 16 (value_in line.options Workers) plan.workers
workers_said words line is plan says =
    at_line words line is (λ v. IsNumberOr 1 64 16 v plan.workers) says.choices (same_line words line is plan says) Workers (workers_value says.choices plan.workers says.once says.workers)

-- what holds of a value of the line holds of its options'
back : (words : List (List ℕ)) (line : Line) (is : IsLine words line) (P : Option (List ℕ) → Type 0) (name : OptionName) → P (value_in line.options name) → P (value_of is.choices (name_text name))
back words line is P name holds = subst P (is.values name) holds

-- a plan with a line's command and what its values say is what the words say
pub says_plan : (words : List (List ℕ)) (line : Line) → IsLine words line → (plan : Plan) → plan.command ≡ line.command → IsSetIn line.options plan.set → IsNumberOr 1 64 16 (value_in line.options Workers) plan.workers
    → IsRootOf (value_in line.options Root) plan.root → IsListenOf (value_in line.options Listen) (string_bytes plan.listen) → IsCommandLine words plan
says_plan words line is plan command set workers root listen =
    let s : IsSetOf (value_of is.choices (codes "drives")) (value_of is.choices (codes "parity")) (value_of is.choices (codes "set")) plan.set = record {
      has_drives = back words line is (λ v. IsNumberOr 4 16 4 v plan.set.drives) Drives set.has_drives;
      has_parity = back words line is (λ v. IsNumberOr 1 (plan.set.drives / 2) (usual_parity_of plan.set.drives) v plan.set.parity) Parity set.has_parity;
      has_id = back words line is (λ v. IsIdOf v plan.set.id) Set set.has_id;
      none_out = set.none_out;
    } in
    record {
      choices = is.choices;
      each = (is.read).each;
      once = (is.read).once;
      are = subst (λ (c : Command). words ≡ flat_map choice_words is.choices ++ command_word c ∷ []) (sym command) (is.read).are;
      set = values_set is.choices plan.set s;
      workers = said_value is.choices (codes "workers") (λ text. IsNumberIn 1 64 text plan.workers) (plan.workers ≡ 16) (back words line is (λ v. IsNumberOr 1 64 16 v plan.workers) Workers workers);
      listen = said_value is.choices (codes "listen") (λ text. string_bytes plan.listen ≡ text) (string_bytes plan.listen ≡ codes "127.0.0.1:9000") (back words line is (λ v. IsListenOf v (string_bytes plan.listen)) Listen listen);
      root = said_value is.choices (codes "root") (λ text. MatchOption plan.root ⊥ (λ root. string_bytes root ≡ text)) (plan.root ≡ None) (back words line is (λ v. IsRootOf v plan.root) Root root);
    }

-- ---- one plan

-- a set of these numbers
abbrev made : (id : List ℕ) (d p o : ℕ) → 4 ≤ d → d ≤ 16 → 1 ≤ p → p + p ≤ d → SetPlan
made id d p o enough few some half = record { id = id; drives = d; parity = p; out = o; enough_drives = enough; few_drives = few; some_parity = some; half_at_most = half }

same_proofs : (id : List ℕ) (d p o : ℕ) (e e' : 4 ≤ d) (f f' : d ≤ 16) (s s' : 1 ≤ p) (h h' : p + p ≤ d) → made id d p o e f s h ≡ made id d p o e' f' s' h'
same_proofs id d p o e e' f f' s s' h h' =
    ap (λ (x : 4 ≤ d). made id d p o x f s h) (le_prop e e')
    ∙ (ap (λ (x : d ≤ 16). made id d p o e' x s h) (le_prop f f')
    ∙ (ap (λ (x : 1 ≤ p). made id d p o e' f' x h) (le_prop s s')
    ∙ ap (λ (x : p + p ≤ d). made id d p o e' f' s' x) (le_prop h h')))

same_numbers : (id : List ℕ) (d p o : ℕ) (e : 4 ≤ d) (f : d ≤ 16) (s : 1 ≤ p) (h : p + p ≤ d) (d' p' : ℕ) → d ≡ d' → p ≡ p'
    → (e' : 4 ≤ d') (f' : d' ≤ 16) (s' : 1 ≤ p') (h' : p' + p' ≤ d') → made id d p o e f s h ≡ made id d' p' o e' f' s' h'
same_numbers id d p o e f s h d' p' same_d same_p =
    let At : ℕ → ℕ → Type 0 = λ x y. (e' : 4 ≤ x) (f' : x ≤ 16) (s' : 1 ≤ y) (h' : y + y ≤ x) → made id d p o e f s h ≡ made id x y o e' f' s' h' in
    let here : At d p = λ e' f' s' h'. same_proofs id d p o e e' f f' s s' h h' in
    let drives : At d' p = subst (λ x. At x p) same_d here in
    subst (λ y. At d' y) same_p drives

-- sets with equal numbers and ids are equal
pub same_set : (a b : SetPlan) → a.id ≡ b.id → a.drives ≡ b.drives → a.parity ≡ b.parity → a.out ≡ b.out → a ≡ b
same_set a b id drives parity out =
    ap (λ (x : List ℕ). made x a.drives a.parity a.out a.enough_drives a.few_drives a.some_parity a.half_at_most) id
    ∙ (ap (λ (x : ℕ). made b.id a.drives a.parity x a.enough_drives a.few_drives a.some_parity a.half_at_most) out
    ∙ same_numbers b.id a.drives a.parity b.out a.enough_drives a.few_drives a.some_parity a.half_at_most b.drives b.parity drives parity b.enough_drives b.few_drives b.some_parity b.half_at_most)

same_id : (value : Option (List ℕ)) (a b : List ℕ) → IsIdOf value a → IsIdOf value b → a ≡ b
same_id None a b x y = x ∙ sym y
same_id (Some text) a b x y = cc

-- values say one set
one_set : (drives parity id : Option (List ℕ)) (a b : SetPlan) → IsSetOf drives parity id a → IsSetOf drives parity id b → a ≡ b
one_set drives parity id a b x y =
    let d : a.drives ≡ b.drives = same_number 4 16 4 drives a.drives b.drives x.has_drives y.has_drives in
    let other = y.has_parity in
    let same = rw (sym d) at other in
    same_set a b (same_id id a.id b.id x.has_id y.has_id) d (same_number 1 (a.drives / 2) (usual_parity_of a.drives) parity a.parity b.parity x.has_parity same) (x.none_out ∙ sym y.none_out)

same_listen : (value : Option (List ℕ)) (a b : List ℕ) → IsListenOf value a → IsListenOf value b → a ≡ b
same_listen None a b x y = x ∙ sym y
same_listen (Some text) a b x y = x ∙ sym y

same_root : {Y : Type 0} (value : Option (List ℕ)) (a b : Option (String Y)) → IsRootOf value a → IsRootOf value b → option_map string_bytes a ≡ option_map string_bytes b
same_root None a b x y = ap (option_map string_bytes) (x ∙ sym y)
same_root (Some text) None b x y = absurd x
same_root (Some text) (Some a) None x y = absurd y
same_root (Some text) (Some a) (Some b) x y = ap Some (x ∙ sym y)

-- what two plans have in common that the same words say: all, but for where their texts lie
pub record AreAlike (p q : Plan) : Type 0 where
  pub set : p.set ≡ q.set
  pub command : p.command ≡ q.command
  pub workers : p.workers ≡ q.workers
  pub root : option_map string_bytes p.root ≡ option_map string_bytes q.root
  pub listen : string_bytes p.listen ≡ string_bytes q.listen

-- words say one plan
pub says_one : {Y : Type 0} (words : List (String Y)) (p q : Plan) → Says words p → Says words q → AreAlike p q
says_one words p q a b =
    let texts = map string_bytes words in
    let r = same_reading texts a.choices b.choices p.command q.command (read_of texts p a) (read_of texts q b) in
    let cs = a.choices in
    let once = subst (λ (xs : List Choice). AreDistinct (names_of xs)) (sym r.0) b.once in
    let set = subst (λ (xs : List Choice). SaysSet xs q.set) (sym r.0) b.set in
    let workers = subst (λ (xs : List Choice). OptionSays xs (codes "workers") (λ text. IsNumberIn 1 64 text q.workers) (q.workers ≡ 16)) (sym r.0) b.workers in
    let listen = subst (λ (xs : List Choice). OptionSays xs (codes "listen") (λ text. string_bytes q.listen ≡ text) (string_bytes q.listen ≡ codes "127.0.0.1:9000")) (sym r.0) b.listen in
    let root = subst (λ (xs : List Choice). OptionSays xs (codes "root") (λ text. MatchOption q.root ⊥ (λ root. string_bytes root ≡ text)) (q.root ≡ None)) (sym r.0) b.root in
    record {
      set = one_set (value_of cs (codes "drives")) (value_of cs (codes "parity")) (value_of cs (codes "set")) p.set q.set (set_values cs p.set a.once a.set) (set_values cs q.set once set);
      command = r.1;
      workers = same_number 1 64 16 (value_of cs (codes "workers")) p.workers q.workers (workers_value cs p.workers a.once a.workers) (workers_value cs q.workers once workers);
      root = same_root (value_of cs (codes "root")) p.root q.root
          (value_said cs (codes "root") (λ text. MatchOption p.root ⊥ (λ root. string_bytes root ≡ text)) (p.root ≡ None) a.once a.root)
          (value_said cs (codes "root") (λ text. MatchOption q.root ⊥ (λ root. string_bytes root ≡ text)) (q.root ≡ None) once root);
      listen = same_listen (value_of cs (codes "listen")) (string_bytes p.listen) (string_bytes q.listen)
          (value_said cs (codes "listen") (λ text. string_bytes p.listen ≡ text) (string_bytes p.listen ≡ codes "127.0.0.1:9000") a.once a.listen)
          (value_said cs (codes "listen") (λ text. string_bytes q.listen ≡ text) (string_bytes q.listen ≡ codes "127.0.0.1:9000") once listen);
    }

-- ---- words that say no plan

-- words that are no line say none
pub no_line : (words : List (List ℕ)) → IsNoLine words → (plan : Plan) → IsCommandLine words plan → ⊥
no_line words none plan says = none says.choices plan.command (read_of words plan says)
