-- The document of the command `status`.
use Rattle.std.specs.Prelude.{◌==◌, ℕ, List, ◌∷◌, ◌++◌, codes, decimal, if◌then◌else◌, map}
use Rattle.std.specs.List.{join_with_byte}
use Rattle.drive_base.specs.declared.plan.SetPlan.{SetPlan}
use Rattle.term_gate.specs.declared.seen.Seen.{Seen}
use Rattle.term_gate.specs.declared.seen.Seen.TheVariants.{Good, Absent, Damaged, Failed, Other}
use Rattle.uuid.specs.Text.{hyphenated_text, lower}

-- the word for what was found on a drive, in its quotes
abbrev pub seen_word : Seen → List ℕ
seen_word Good = codes "\"good\""
seen_word Absent = codes "\"absent\""
seen_word Damaged = codes "\"damaged\""
seen_word Failed = codes "\"failed\""
seen_word Other = codes "\"other\""

-- the words for what was found on each drive, with commas between
abbrev pub seen_words : List Seen → List ℕ
seen_words seens = join_with_byte 44 (map seen_word seens)

-- a word with a comma before it, unless it is at the first place
abbrev pub behind_comma : ℕ → List ℕ → List ℕ
behind_comma place word = if place == 0 then word else 44 ∷ word

-- what a survey found, as a compact JSON object and LF
abbrev pub document_text : SetPlan → List Seen → ℕ → List ℕ
document_text set seens term = codes "{\"drives\":" ++ decimal set.drives ++ codes ",\"formats\":[" ++ seen_words seens
    ++ codes "],\"parity\":" ++ decimal set.parity ++ codes ",\"set\":\"" ++ hyphenated_text lower set.id ++ codes "\",\"term\":" ++ decimal term ++ codes "}\n"
