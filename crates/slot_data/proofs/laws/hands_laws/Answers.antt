use Rattle.slot_data.proofs.HandsLemmas.{dead_is_taken, hands_are_freed, holders_are_known, trash_is_taken}
use Rattle.slot_data.proofs.laws.hands_laws.Goals as goal

pub returns-clause-trash : goal.returns-clause-trash
returns-clause-trash c = trash_is_taken

pub returns-clause-dead : goal.returns-clause-dead
returns-clause-dead c = dead_is_taken

pub returns-clause-known : goal.returns-clause-known
returns-clause-known c = holders_are_known

pub returns-clause-freed : goal.returns-clause-freed
returns-clause-freed c = hands_are_freed
