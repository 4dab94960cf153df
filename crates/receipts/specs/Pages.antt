-- The rules of a page of a listing (Amazon S3 API, ListObjectsV2 and ListObjectVersions): which rows the keys of a bucket make, and where the page is cut.
use Rattle.std.specs.Prelude.{ℕ, ◌+◌, Bool, true, false, not, nat_lt, ◌==◌, ◌&&◌, ◌||◌, if◌then◌else◌, List, [], ◌∷◌, ◌++◌, length, map, take, drop, fold, bytes_eq, position, Option, Some, None, is_some, option_map, unwrap_or}
use Rattle.std.specs.List.{last_or, starts_with}
use Rattle.std.specs.Ordering.{is_lt}
use Rattle.call_types.specs.declared.names.VersionName.{VersionName}
use Rattle.call_types.specs.declared.reply.PageCut.{PageCut}
use Rattle.call_types.specs.declared.reply.PageRow.{PageRow}
use Rattle.call_types.specs.declared.reply.PageRow.TheVariants as key_row
use Rattle.call_types.specs.declared.reply.Reply.{Reply}
use Rattle.call_types.specs.declared.reply.Reply.TheVariants.{Page, Versions}
use Rattle.call_types.specs.declared.reply.VersionRow.{VersionRow}
use Rattle.call_types.specs.declared.reply.VersionRow.TheVariants as row
use Rattle.call_types.specs.declared.version.Version.{Version}
use Rattle.call_types.specs.declared.version.What.{What}
use Rattle.call_types.specs.declared.version.What.TheVariants.{Marker, Object}
use Rattle.desk_base.specs.declared.asks.ListAsk.{ListAsk}
use Rattle.desk_base.specs.declared.asks.VersionsAsk.{VersionsAsk}
use Rattle.drive_base.specs.Names.{byte_order}
use Rattle.version_list.specs.Naming.{has_name, is_marker}
use Rattle.version_list.specs.declared.state.KeyState.{KeyState}

-- a key that a listing looked at, and its state
pub record Candidate : Type 0 where
  pub key : List ℕ
  pub state : KeyState

-- what a page is to hold: names that begin with the prefix; keys with the delimiter behind it as one row for all of a group; so many rows at most; each
-- version and marker of a key, or its current object alone. Keys up to `key_after` are left out, but of that key itself the versions behind `id_after` are
-- given, where one is named; and rows up to `name_after` are left out
pub record PageRule : Type 0 where
  pub prefix : List ℕ
  pub delimiter : List ℕ
  pub most : ℕ
  pub versions : Bool
  pub key_after : Option (List ℕ)
  pub id_after : Option VersionName
  pub name_after : Option (List ℕ)

-- ListObjectsV2: `start-after` leaves out keys, where no token is given, and a token leaves out rows
abbrev pub keys_rule : ListAsk → PageRule
keys_rule ask = record {
  prefix = ask.prefix;
  delimiter = ask.delimiter;
  most = ask.most;
  versions = false;
  key_after = if is_some ask.token then None else ask.start_after;
  id_after = None;
  name_after = ask.token;
}

-- ListObjectVersions: `key-marker` leaves out keys
abbrev pub versions_rule : VersionsAsk → PageRule
versions_rule ask = record {
  prefix = ask.prefix;
  delimiter = ask.delimiter;
  most = ask.most;
  versions = true;
  key_after = ask.key_marker;
  id_after = ask.id_marker;
  name_after = None;
}

-- one text stands before another, byte by byte
abbrev pub is_before : List ℕ → List ℕ → Bool
is_before a b = is_lt (byte_order a b)

-- a text begins with another
abbrev pub begins_with : List ℕ → List ℕ → Bool
begins_with front text = starts_with (λ a b. a == b) text front

-- a text up to the end of the first place at which a delimiter stands in it
abbrev pub up_to : List ℕ → List ℕ → Option (List ℕ)
up_to delimiter [] = None
up_to delimiter (byte ∷ rest) = if begins_with delimiter (byte ∷ rest)
    then Some delimiter
    else option_map (λ front. byte ∷ front) (up_to delimiter rest)

-- the group of a key that begins with the prefix: the key up to the end of the delimiter's first place behind the prefix
abbrev pub group_of : PageRule → List ℕ → Option (List ℕ)
group_of rule key = if length rule.delimiter == 0
    then None
    else option_map (λ front. rule.prefix ++ front) (up_to rule.delimiter (drop (length rule.prefix) key))

-- the name of the row that a key is in
abbrev pub row_name : PageRule → List ℕ → List ℕ
row_name rule key = unwrap_or (group_of rule key) key

-- a text stands behind another, where there is one
abbrev pub is_behind : Option (List ℕ) → List ℕ → Bool
is_behind None text = true
is_behind (Some before) text = is_before before text

-- two texts are there and are the same
abbrev pub are_same : Option (List ℕ) → Option (List ℕ) → Bool
are_same None other = false
are_same (Some text) None = false
are_same (Some text) (Some other) = bytes_eq text other

-- a key is the one of which some versions may be left out
abbrev pub is_begun : PageRule → List ℕ → Bool
is_begun rule key = are_same rule.key_after (Some key) && is_some rule.id_after

-- a listing of versions leaves out the group whose name its `key-marker` is
abbrev pub is_marked : PageRule → List ℕ → Bool
is_marked rule key = rule.versions && are_same rule.key_after (group_of rule key)

-- a key isn't left out
abbrev pub wants : PageRule → List ℕ → Bool
wants rule key = begins_with rule.prefix key && (is_behind rule.key_after key || is_begun rule key) && is_behind rule.name_after (row_name rule key)
    && not (is_marked rule key)

-- the row of what a version is, with its key, its name, whether it is the current one, and when it was made
abbrev pub what_row : List ℕ → VersionName → Bool → ℕ → What → VersionRow
what_row key id latest modified Marker = row.Marker key id latest modified
what_row key id latest modified (Object data_id print size md5 parts upload kind) = row.Object key id latest modified size (record { md5 = md5; parts = parts })

-- the row of a version of a key, and whether that is its current one
abbrev pub row_of : List ℕ → Bool → Version → VersionRow
row_of key latest version = what_row key version.id latest version.modified version.what

-- the rows of all versions of a key, the newest first
abbrev pub all_rows : List ℕ → List Version → List VersionRow
all_rows key [] = []
all_rows key (version ∷ older) = row_of key true version ∷ map (row_of key false) older

-- the row of its current version, if that is an object
abbrev pub current_row : List ℕ → List Version → List VersionRow
current_row key [] = []
current_row key (version ∷ older) = if is_marker version.what then [] else row_of key true version ∷ []

-- how many of the versions stand up to the one of a name, that one among them: none, if none has the name
abbrev pub count_up_to : Option VersionName → List Version → ℕ
count_up_to None versions = 0
count_up_to (Some name) versions = unwrap_or (option_map (λ place. place + 1) (position (has_name name) versions)) 0

-- how many versions of a key are left out
abbrev pub left_out : PageRule → Candidate → ℕ
left_out rule candidate = if is_begun rule candidate.key then count_up_to rule.id_after candidate.state.versions else 0

-- the rows of the versions of a key that are given
abbrev pub version_rows : PageRule → Candidate → List VersionRow
version_rows rule candidate = if rule.versions
    then drop (left_out rule candidate) (all_rows candidate.key candidate.state.versions)
    else current_row candidate.key candidate.state.versions

-- some rows of a key, or in their place one of its group
abbrev pub grouped_rows : Option (List ℕ) → List VersionRow → List VersionRow
grouped_rows None rows = rows
grouped_rows (Some group) [] = []
grouped_rows (Some group) (first ∷ more) = row.Group group ∷ []

-- the rows of a key: those of its versions, or the row of its group, if it has some
abbrev pub candidate_rows : PageRule → Candidate → List VersionRow
candidate_rows rule candidate = grouped_rows (group_of rule candidate.key) (version_rows rule candidate)

-- the group of a row, if it is one of a group
abbrev pub group_in : VersionRow → Option (List ℕ)
group_in (row.Object key id latest modified size etag) = None
group_in (row.Marker key id latest modified) = None
group_in (row.Group group) = Some group

abbrev pub group_of_last : Option VersionRow → Option (List ℕ)
group_of_last None = None
group_of_last (Some last) = group_in last

-- a key is in a group that is the last of the rows
abbrev pub is_in_last : PageRule → List VersionRow → List ℕ → Bool
is_in_last rule rows key = are_same (group_of_last (last_or None rows)) (group_of rule key)

-- the rows with those of a key more: keys that are left out make none, and a group that is the last row is given once
abbrev pub with_candidate : PageRule → List VersionRow → Candidate → List VersionRow
with_candidate rule rows candidate = if wants rule candidate.key && not (is_in_last rule rows candidate.key)
    then rows ++ candidate_rows rule candidate
    else rows

-- the rows of keys that rise
abbrev pub rows_of : PageRule → List Candidate → List VersionRow
rows_of rule candidates = fold (with_candidate rule) [] candidates

-- the name of a row
abbrev pub name_of : VersionRow → List ℕ
name_of (row.Object key id latest modified size etag) = key
name_of (row.Marker key id latest modified) = key
name_of (row.Group group) = group

-- the version of a row; a group has none
abbrev pub id_of : VersionRow → Option VersionName
id_of (row.Object key id latest modified size etag) = Some id
id_of (row.Marker key id latest modified) = Some id
id_of (row.Group group) = None

-- whether there is a further row behind a page. A page for which no row is asked has none
abbrev pub is_truncated : PageRule → List VersionRow → Bool
is_truncated rule rows = nat_lt 0 rule.most && nat_lt rule.most (length rows)

-- the last row of a page
abbrev pub last_given : PageRule → List VersionRow → Option VersionRow
last_given rule rows = last_or None (take rule.most rows)

-- the version of the row at which a listing of versions ends
abbrev pub next_id_of : Bool → Option VersionRow → Option VersionName
next_id_of false last = None
next_id_of true None = None
next_id_of true (Some last) = id_of last

-- where a page ends
abbrev pub cut_of : PageRule → List VersionRow → PageCut
cut_of rule rows = if is_truncated rule rows
    then record { truncated = true; next = option_map name_of (last_given rule rows); next_id = next_id_of rule.versions (last_given rule rows) }
    else record { truncated = false; next = None; next_id = None }

-- a row of a listing of keys
abbrev pub key_row_of : VersionRow → PageRow
key_row_of (row.Object key id latest modified size etag) = key_row.Object key modified size etag
key_row_of (row.Marker key id latest modified) = key_row.Group key
key_row_of (row.Group group) = key_row.Group group

-- the page: the first rows, and where it ends
abbrev pub page_of : PageRule → List VersionRow → Reply
page_of rule rows = if rule.versions
    then Versions (take rule.most rows) (cut_of rule rows)
    else Page (map key_row_of (take rule.most rows)) (cut_of rule rows)
