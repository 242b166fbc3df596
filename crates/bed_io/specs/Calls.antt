-- Calls by their numbers, some of which are to fail.
use Rattle.std.specs.Prelude.{ℕ, Bool, ◌==◌, List}
use Rattle.std.specs.List.{list_any}
use Rattle.bed_io.specs.Counts.{one_more}

pub record CallsState : Type 0 where
  -- how many calls were made
  pub made : ℕ
  -- the numbers of the calls that are to fail; the first call has the number 1
  pub to_fail : List ℕ

-- the next call is one that is to fail
abbrev pub next_fails : CallsState → Bool
next_fails calls = list_any (λ number. number == one_more calls.made) calls.to_fail

-- the calls after one more
abbrev pub after_call : CallsState → CallsState
after_call calls = record { made = one_more calls.made; to_fail = calls.to_fail }
