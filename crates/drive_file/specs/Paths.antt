-- How the names of files are spelled below a drive's folder.
use Rattle.std.specs.Prelude.{◌≡◌, ℕ, zero, suc, nat_le, if◌then◌else◌, List, [], ◌∷◌, ◌++◌, length, take, drop, codes}
use Rattle.hex.specs.Hex.{IsBytes, encode_lower}

-- what stands after the digits of a group that isn't the last: it is a folder's
abbrev pub next_group : List ℕ
next_group = codes "_/"

-- the digits of a name, of which at most so many groups of 100 bytes are cut off
unfoldable pub spelled_within : ℕ → List ℕ → List ℕ
spelled_within zero name = encode_lower name
spelled_within (suc groups) name =
    if nat_le (length name) 100 then encode_lower name
    else encode_lower (take 100 name) ++ (next_group ++ spelled_within groups (drop 100 name))

-- the spelling of a name: each group but the last is of 100 bytes, so of 200 digits
abbrev pub spelled : List ℕ → List ℕ
spelled name = spelled_within (length name) name

-- two names have two spellings
abbrev pub SpellingsDiffer : Type 0
SpellingsDiffer = (one other : List ℕ) → IsBytes one → IsBytes other → spelled one ≡ spelled other → one ≡ other

-- the path of what has this spelling below a folder
abbrev pub path_below : List ℕ → List ℕ → List ℕ
path_below folder spelling = (folder ++ codes "/") ++ spelling

-- the path of the file of a name below a folder
abbrev pub path_in : List ℕ → List ℕ → List ℕ
path_in folder name = path_below folder (spelled name)

-- the folder of a name's first group, behind the text of what it is in
abbrev pub group_folder : List ℕ → List ℕ → List ℕ
group_folder text name = (text ++ encode_lower (take 100 name)) ++ codes "_"

-- the folders of the groups of a name, of which at most so many are cut off, the outermost first
unfoldable pub inner_within : ℕ → List ℕ → List ℕ → List (List ℕ)
inner_within zero text name = []
inner_within (suc groups) text name =
    if nat_le (length name) 100 then []
    else group_folder text name ∷ inner_within groups (group_folder text name ++ codes "/") (drop 100 name)

-- the folders between a folder and the file of a name below it
abbrev pub inner_folders : List ℕ → List ℕ → List (List ℕ)
inner_folders folder name = inner_within (length name) (folder ++ codes "/") name
