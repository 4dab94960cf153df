use Rattle.std.proofs.Common.{◌≡◌, ◌++◌, List}
use Rattle.std.specs.Prelude.{vec_len}
use Rattle.store_shared.specs.SharedPasses.{FitsDesk, shared_holds}
use Rattle.store_shared.specs.declared.shared.SharedPass.{SharedPass}
use Rattle.ostore.specs.Workers.{AreUnited, FitsEach}
use Rattle.ostore.proofs.dealing.unite.Given as goal

-- the last passes are joined, and those that are left are the desk's
abbrev pub invariant-loop-other : goal.invariant-loop-other
invariant-loop-other g l = record {
  fits : FitsDesk l.desk (shared_holds l.whole);
  fit : FitsEach l.desk l.passes.items;
  gone : List (SharedPass g.row.D.Denot g.row.A.Denot);
  are : l.initial.passes.items ≡ l.passes.items ++ gone;
  united : AreUnited l.initial.whole gone l.whole;
}

abbrev pub decreases-loop-other : goal.decreases-loop-other
decreases-loop-other g l = vec_len l.passes
