-- Words are options and a command in one way alone.
use Rattle.std.proofs.Common.{◌≡◌, ℕ, zero, suc, ◌<◌, Bool, true, false, List, [], ◌∷◌, ◌++◌, All, Contains, codes, slice_index_or, Option, Some, None, refl, sym, ap, subst, ◌∙◌, arith, append_assoc, rules}
use Rattle.std.specs.List.{flat_map}
use Rattle.std.proofs.lemmas.List.{append-nil}
use Rattle.std.proofs.lemmas.List.Elements.{All-head, All-tail}
use Rattle.command_line.specs.Words.{Choice, IsChoice, choice_words, command_word, option_names}
use Rattle.command_line.specs.Values.{AreChoices, IsPlain, behind, name_text}
use Rattle.command_line.specs.declared.options.OptionName.{OptionName}
use Rattle.command_line.specs.declared.options.OptionName.TheVariants.{Root, Drives, Parity, Set, Listen, Workers}
use Rattle.command_line.specs.declared.plan.Command.{Command}
use Rattle.command_line.specs.declared.plan.Command.TheVariants.{Pipe, Serve, Status}

-- ---- names

-- what holds of each of the six names holds of the name at a place
at_name : (P : List ℕ → Type 0) → P (codes "root") → P (codes "drives") → P (codes "parity") → P (codes "set") → P (codes "listen") → P (codes "workers")
    → (k : ℕ) (name : List ℕ) → slice_index_or option_names k name ≡ name → k < 6 → P name
at_name P r d p s l w zero name is low = subst P is r
at_name P r d p s l w (suc zero) name is low = subst P is d
at_name P r d p s l w (suc (suc zero)) name is low = subst P is p
at_name P r d p s l w (suc (suc (suc zero))) name is low = subst P is s
at_name P r d p s l w (suc (suc (suc (suc zero)))) name is low = subst P is l
at_name P r d p s l w (suc (suc (suc (suc (suc zero))))) name is low = subst P is w
at_name P r d p s l w (suc (suc (suc (suc (suc (suc k)))))) name is low = absurd (omega arith)

-- what holds of each of the six names holds of each name of an option
of_name : (P : List ℕ → Type 0) → P (codes "root") → P (codes "drives") → P (codes "parity") → P (codes "set") → P (codes "listen") → P (codes "workers")
    → (name : List ℕ) → Contains option_names name → P name
of_name P r d p s l w name has = at_name P r d p s l w has.0 name has.2 has.1

-- no name has `=`
pub plain_name : (name : List ℕ) → Contains option_names name → IsPlain name
plain_name name has = of_name IsPlain (search rules) (search rules) (search rules) (search rules) (search rules) (search rules) name has

-- each name of an option is one of the six
pub named : (name : List ℕ) → Contains option_names name → (which : OptionName) × (name ≡ name_text which)
named name has = of_name (λ text. (which : OptionName) × (text ≡ name_text which)) (Root, refl) (Drives, refl) (Parity, refl) (Set, refl) (Listen, refl) (Workers, refl) name has

-- each of the six is the name of an option
pub option_named : (which : OptionName) → Contains option_names (name_text which)
option_named Root = (0, omega arith, refl)
option_named Drives = (1, omega arith, refl)
option_named Parity = (2, omega arith, refl)
option_named Set = (3, omega arith, refl)
option_named Listen = (4, omega arith, refl)
option_named Workers = (5, omega arith, refl)

-- ---- a word splits in one way

same_behind : (v w : Option (List ℕ)) → behind v ≡ behind w → v ≡ w
same_behind None None e = refl
same_behind None (Some w) e = cc
same_behind (Some v) None e = cc
same_behind (Some v) (Some w) e = let s : v ≡ w = cc in ap Some s

-- a name with no `=`, and what stands behind it
pub same_split : (n m : List ℕ) (v w : Option (List ℕ)) → IsPlain n → IsPlain m → n ++ behind v ≡ m ++ behind w → (n ≡ m) × (v ≡ w)
same_split [] [] v w p q e = (refl, same_behind v w e)
same_split [] (y ∷ m) None w p q e = absurd cc
same_split [] (y ∷ m) (Some v) w p q e = let h : y ≡ 61 = cc in absurd (q.0 h)
same_split (x ∷ n) [] v None p q e = absurd cc
same_split (x ∷ n) [] v (Some w) p q e = let h : x ≡ 61 = cc in absurd (p.0 h)
same_split (x ∷ n) (y ∷ m) v w p q e =
    let h : x ≡ y = cc in
    let t : n ++ behind v ≡ m ++ behind w = cc in
    let s = same_split n m v w p.1 q.1 t in
    let u : n ≡ m = s.0 in
    (cc, s.1)

-- ---- options

-- an option in one word
pub joined_words : (c : Choice) → c.joined ≡ true → choice_words c ≡ (codes "--" ++ (c.name ++ behind (Some c.value))) ∷ []
joined_words c e = rw (e, append_assoc c.name (codes "=") c.value) refl

-- an option in two words
pub parted_words : (c : Choice) → c.joined ≡ false → choice_words c ≡ (codes "--" ++ (c.name ++ behind None)) ∷ c.value ∷ []
parted_words c e = rw (e, append-nil c.name) refl

same_fields : (c d : Choice) → c.name ≡ d.name → c.value ≡ d.value → c.joined ≡ d.joined → c ≡ d
same_fields c d n v j =
    let a : c ≡ record c { name = d.name } = ap (λ (x : List ℕ). record c { name = x }) n in
    let b : record c { name = d.name } ≡ record c { name = d.name; value = d.value } = ap (λ (x : List ℕ). record c { name = d.name; value = x }) v in
    let e : record c { name = d.name; value = d.value } ≡ d = ap (λ (x : Bool). record d { joined = x }) j in
    a ∙ (b ∙ e)

-- both in one word
same_joined : (c d : Choice) → IsChoice c → IsChoice d → c.joined ≡ true → d.joined ≡ true → (r s : List (List ℕ)) → choice_words c ++ r ≡ choice_words d ++ s → (c ≡ d) × (r ≡ s)
same_joined c d p q i j r s e =
    let f = rw (joined_words c i, joined_words d j) at e in
    let word : c.name ++ behind (Some c.value) ≡ d.name ++ behind (Some d.value) = cc in
    let parts = same_split c.name d.name (Some c.value) (Some d.value) (plain_name c.name p.named) (plain_name d.name q.named) word in
    let value : c.value ≡ d.value = cc (parts.1) in
    (same_fields c d parts.0 value (i ∙ sym j), cc)

-- one in one word, and one in two
mixed : (c d : Choice) → IsChoice c → IsChoice d → c.joined ≡ true → d.joined ≡ false → (r s : List (List ℕ)) → choice_words c ++ r ≡ choice_words d ++ s → ⊥
mixed c d p q i j r s e =
    let f = rw (joined_words c i, parted_words d j) at e in
    let word : c.name ++ behind (Some c.value) ≡ d.name ++ behind None = cc in
    let parts = same_split c.name d.name (Some c.value) None (plain_name c.name p.named) (plain_name d.name q.named) word in
    cc (parts.1)

-- both in two words
same_parted : (c d : Choice) → IsChoice c → IsChoice d → c.joined ≡ false → d.joined ≡ false → (r s : List (List ℕ)) → choice_words c ++ r ≡ choice_words d ++ s → (c ≡ d) × (r ≡ s)
same_parted c d p q i j r s e =
    let f = rw (parted_words c i, parted_words d j) at e in
    let word : c.name ++ behind None ≡ d.name ++ behind None = cc in
    let parts = same_split c.name d.name None None (plain_name c.name p.named) (plain_name d.name q.named) word in
    let value : c.value ≡ d.value = cc in
    (same_fields c d parts.0 value (i ∙ sym j), cc)

-- words begin with one option alone
pub same_choice : (c d : Choice) → IsChoice c → IsChoice d → (r s : List (List ℕ)) → choice_words c ++ r ≡ choice_words d ++ s → (c ≡ d) × (r ≡ s)
same_choice c d p q r s e = by_joined c.joined d.joined refl refl
  where
    by_joined : (i j : Bool) → c.joined ≡ i → d.joined ≡ j → (c ≡ d) × (r ≡ s)
    by_joined true true i j = same_joined c d p q i j r s e
    by_joined true false i j = absurd (mixed c d p q i j r s e)
    by_joined false true i j = absurd (mixed d c q p j i s r (sym e))
    by_joined false false i j = same_parted c d p q i j r s e

-- an option's first word is no command
pub no_command : (c : Choice) (command : Command) (r s : List (List ℕ)) → choice_words c ++ r ≡ command_word command ∷ s → ⊥
no_command c command r s e = by_parts c.joined refl command e
  where
    apart : (text : List ℕ) (which : Command) (more : List (List ℕ)) → (45 ∷ text) ∷ more ≡ command_word which ∷ s → ⊥
    apart text Pipe more f = let h : ◌≡◌ {A = ℕ} 45 112 = cc in omega (arith, h)
    apart text Serve more f = let h : ◌≡◌ {A = ℕ} 45 115 = cc in omega (arith, h)
    apart text Status more f = let h : ◌≡◌ {A = ℕ} 45 115 = cc in omega (arith, h)

    by_parts : (j : Bool) → c.joined ≡ j → (which : Command) → choice_words c ++ r ≡ command_word which ∷ s → ⊥
    by_parts true j which f = apart _ which _ (rw (joined_words c j) at f)
    by_parts false j which f = apart _ which _ (rw (parted_words c j) at f)

-- ---- options in a row

-- what was read as options is the front of any reading, and the rest is read in the same way
pub front_of : (cs ds : List Choice) (rest : List (List ℕ)) (command : Command) → All IsChoice cs → All IsChoice ds
    → flat_map choice_words cs ++ rest ≡ flat_map choice_words ds ++ command_word command ∷ []
    → (more : List Choice) × (ds ≡ cs ++ more) × (rest ≡ flat_map choice_words more ++ command_word command ∷ [])
front_of [] ds rest command p q e = (ds, refl, e)
front_of (c ∷ cs) [] rest command p q e =
    absurd (no_command c command (flat_map choice_words cs ++ rest) [] (rw (append_assoc (choice_words c) (flat_map choice_words cs) rest) at e))
front_of (c ∷ cs) (d ∷ ds) rest command p q e =
    let left = rw (append_assoc (choice_words c) (flat_map choice_words cs) rest) at e in
    let both = rw (append_assoc (choice_words d) (flat_map choice_words ds) (command_word command ∷ [])) at left in
    let same = same_choice c d (All-head IsChoice c cs p) (All-head IsChoice d ds q) (flat_map choice_words cs ++ rest) (flat_map choice_words ds ++ command_word command ∷ []) both in
    let more = front_of cs ds rest command (All-tail IsChoice c cs p) (All-tail IsChoice d ds q) same.1 in
    let first : c ≡ d = same.0 in
    let others : ds ≡ cs ++ more.0 = more.1 in
    (more.0, cc, more.2)

same_command : (a b : Command) → command_word a ≡ command_word b → a ≡ b
same_command Pipe Pipe e = refl
same_command Pipe Serve e = let h : ◌≡◌ {A = ℕ} 112 115 = cc in absurd (omega (arith, h))
same_command Pipe Status e = let h : ◌≡◌ {A = ℕ} 112 115 = cc in absurd (omega (arith, h))
same_command Serve Pipe e = let h : ◌≡◌ {A = ℕ} 115 112 = cc in absurd (omega (arith, h))
same_command Serve Serve e = refl
same_command Serve Status e = let h : ◌≡◌ {A = ℕ} 101 116 = cc in absurd (omega (arith, h))
same_command Status Pipe e = let h : ◌≡◌ {A = ℕ} 115 112 = cc in absurd (omega (arith, h))
same_command Status Serve e = let h : ◌≡◌ {A = ℕ} 116 101 = cc in absurd (omega (arith, h))
same_command Status Status e = refl

-- words are these options and this command alone
pub same_reading : (words : List (List ℕ)) (cs ds : List Choice) (a b : Command) → AreChoices words cs a → AreChoices words ds b → (cs ≡ ds) × (a ≡ b)
same_reading words cs ds a b p q =
    let front = front_of cs ds (command_word a ∷ []) b p.each q.each (sym p.are ∙ q.are) in
    ended front.0 front.1 front.2
  where
    ended : (more : List Choice) → ds ≡ cs ++ more → command_word a ∷ [] ≡ flat_map choice_words more ++ command_word b ∷ [] → (cs ≡ ds) × (a ≡ b)
    ended [] e f = let word : command_word a ≡ command_word b = cc in (sym (e ∙ append-nil cs), same_command a b word)
    ended (m ∷ more) e f =
        absurd (no_command m a (flat_map choice_words more ++ command_word b ∷ []) [] (sym (rw (append_assoc (choice_words m) (flat_map choice_words more) (command_word b ∷ [])) at f)))
