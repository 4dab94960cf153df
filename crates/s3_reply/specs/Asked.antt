-- What a reply answers.
use Rattle.std.specs.Prelude.{ℕ, Bool, false, not, ◌==◌, List, [], codes, bytes_eq, Option, Some, None, option_map}
use Rattle.std.specs.Borrow.{Bor}
use Rattle.std.specs.List.{take_while}
use Rattle.http_wire.specs.Parts.{HeadParts}
use Rattle.desk_base.specs.declared.call.Call.{Call}
use Rattle.call_types.specs.declared.reply.Reply.{Reply}

-- a reply, with the head and the call that it answers: no head where the head was refused, and no call where none was read
pub record Asked : Type 0 where
  pub head : Option HeadParts
  pub call : Option Call
  pub reply : Reply

-- the head and the call behind references
abbrev pub seen_head : Option (Bor HeadParts) → Option HeadParts
seen_head head = option_map (λ h. h.now) head

abbrev pub seen_call : Option (Bor Call) → Option Call
seen_call call = option_map (λ c. c.now) call

-- a reply with these
abbrev pub asked_of : Option (Bor HeadParts) → Option (Bor Call) → Reply → Asked
asked_of head call reply = record { head = seen_head head; call = seen_call call; reply = reply }

-- whether the reply has no body: the method is HEAD, and the head was not refused
abbrev pub is_silent : Option HeadParts → Bool
is_silent None = false
is_silent (Some head) = bytes_eq head.method (codes "HEAD")

-- a target without its query
abbrev pub path_part : List ℕ → List ℕ
path_part target = take_while (λ b. not (b == 63)) target

-- the path as received, empty where the head was refused
abbrev pub path_of : Option HeadParts → List ℕ
path_of None = []
path_of (Some head) = path_part head.target
