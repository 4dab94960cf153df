-- A clause on a result, by what is known of the result.
use Rattle.std.specs.Prelude.{◌≡◌, true, false, Result, Ok, Err, OnOk, OnErr, is_err}
use Rattle.std.proofs.Common.{rules}

module _ {T E P : Type 0} where
  -- what holds anyway holds after an error
  pub on_err : (r : Result T E) → P → OnErr r P
  on_err (Ok _) p = search rules
  on_err (Err _) p = p

  -- after an error
  pub after_err : (r : Result T E) → is_err r ≡ true → OnErr r P → P
  after_err (Ok _) e h = absurd (cc)
  after_err (Err _) e h = h

  -- after a success
  pub after_ok : (r : Result T E) → is_err r ≡ false → OnOk r P → P
  after_ok (Ok _) e h = h
  after_ok (Err _) e h = absurd (cc)
