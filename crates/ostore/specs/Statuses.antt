-- The exit statuses.
use Rattle.std.specs.Prelude.{◌==◌, ℕ, List, Option, Some, None, codes, if◌then◌else◌}
use Rattle.serve_loop.specs.declared.ends.ConnectionEnd.{ConnectionEnd}
use Rattle.serve_loop.specs.declared.ends.ConnectionEnd.TheVariants.{Over, Closed, InputCut, ReadFault, WriteFault, ReplyCut, NoMemory}
use Rattle.term_gate.specs.declared.refusal.OpenRefusal.{OpenRefusal}
use Rattle.term_gate.specs.declared.refusal.OpenRefusal.TheVariants as refusal

-- the exit status where all was done
abbrev pub done : ℕ
done = 0

-- that of words that are no command
abbrev pub usage : ℕ
usage = 2

-- that of a store that was not opened
abbrev pub not_opened : ℕ
not_opened = 3

-- that of a source that failed
abbrev pub read_fault : ℕ
read_fault = 4

-- that of a sink that failed
abbrev pub write_fault : ℕ
write_fault = 5

-- that of a run that found no memory
abbrev pub out_of_memory : ℕ
out_of_memory = 6

-- that of a source that ended inside a head or a body
abbrev pub input_cut : ℕ
input_cut = 8

-- that of a connection that the server closed
abbrev pub closed : ℕ
closed = 9

-- that of a reply whose body was cut after its head
abbrev pub reply_cut : ℕ
reply_cut = 10

-- the exit status for each way in which a connection ends
abbrev pub status_of : ConnectionEnd → ℕ
status_of Over = done
status_of ReadFault = read_fault
status_of WriteFault = write_fault
status_of NoMemory = out_of_memory
status_of InputCut = input_cut
status_of Closed = closed
status_of (ReplyCut whys) = reply_cut

-- that for each cause for which a store is not opened
abbrev pub refusal_status : OpenRefusal → ℕ
refusal_status (refusal.WrongSet found wanted) = not_opened
refusal_status (refusal.OpenQuorum whys) = not_opened
refusal_status refusal.NoMemory = out_of_memory
refusal_status refusal.TermSpent = not_opened
refusal_status (refusal.AuditFailed before after) = not_opened

-- what each exit status says
abbrev pub cause_words : ℕ → Option (List ℕ)
cause_words status =
    if status == usage then Some (codes "usage")
    else if status == not_opened then Some (codes "opening refused")
    else if status == read_fault then Some (codes "read fault")
    else if status == write_fault then Some (codes "write fault")
    else if status == out_of_memory then Some (codes "out of memory")
    else if status == input_cut then Some (codes "input cut")
    else if status == closed then Some (codes "closed")
    else if status == reply_cut then Some (codes "reply cut")
    else None
