-- What writing leaves in a buffer.
use Rattle.std.specs.Prelude.{◌≡◌, ℕ, cond, List, ◌++◌, length, drop, Ok, Err, Result, nat_le}

-- The page's bytes were written: the answer is their number and the bytes past them stay. Where the buffer is too
-- short the answer is 19, and the buffer stays.
pub record Wrote (page before after : List ℕ) (r : Result ℕ ℕ) : Type 0 where
  pub answer : r ≡ cond (nat_le (length page) (length before)) (Ok (length page)) (Err 19)
  pub buffer : after ≡ cond (nat_le (length page) (length before)) (page ++ drop (length page) before) before
