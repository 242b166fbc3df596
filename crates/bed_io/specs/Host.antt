-- What a host is seen as, and what a call of it does.
use Rattle.std.specs.Prelude.{ℕ, List, [], ◌∷◌, ◌++◌, drop, unwrap_or, slice_get, option_and_then, Option}
use Rattle.std.specs.Option.{option_map}

-- a host as its callers see it
pub record HostState : Type 0 where
  pub name : List ℕ
  -- how many words a call takes
  pub arity : ℕ
  -- the calls made, in their order, each by its arguments and its answer
  pub log : List (List ℕ × ℕ)
  -- the answers of the next calls
  pub waiting : List ℕ

-- the answer of the next call: the first that waits, or 0
abbrev pub next_answer : HostState → ℕ
next_answer host = unwrap_or (slice_get host.waiting 0) 0

-- the host after a call with these arguments
abbrev pub called : HostState → List ℕ → HostState
called host args = record { name = host.name; arity = host.arity; log = host.log ++ (args, next_answer host) ∷ []; waiting = drop 1 host.waiting }

-- an argument of an entry of the log, both by their numbers from 0
abbrev pub argument_at : HostState → ℕ → ℕ → Option ℕ
argument_at host entry argument = option_and_then (λ call. slice_get call.0 argument) (slice_get host.log entry)

-- the answer of an entry of the log
abbrev pub answer_at : HostState → ℕ → Option ℕ
answer_at host entry = option_map (λ call. call.1) (slice_get host.log entry)
