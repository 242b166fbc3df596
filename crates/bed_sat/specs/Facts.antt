-- When a pure fact is true.
use Rattle.std.specs.Prelude.{◌≡◌, ◌≢◌, ℕ, ◌<◌, ◌≤◌, Option, Some, List, Contains}
use Rattle.bed_lang.specs.declared.logic.Pure.{Pure}
use Rattle.bed_lang.specs.declared.logic.Pure.TheVariants as pure
use Rattle.bed_lang.specs.Values.{Values, value, list_value}

-- Words are compared without sign. `code(e, N)` says that code with the signature named N stands at address e: it is read
-- against a map from addresses to names of signatures, the code map (after XCAP, where a code pointer assertion is a form of
-- its own, read against the code heap specification).
module _ (codes : ℕ → Option (List ℕ)) (labels : List ℕ → ℕ) (ν : Values) where
  abbrev pub IsTrueFact : Pure → Type 0
  IsTrueFact (pure.Equal a b) = value labels ν a ≡ value labels ν b
  IsTrueFact (pure.Unequal a b) = value labels ν a ≢ value labels ν b
  IsTrueFact (pure.Less a b) = value labels ν a < value labels ν b
  IsTrueFact (pure.AtMost a b) = value labels ν a ≤ value labels ν b
  IsTrueFact (pure.Same s t) = list_value labels ν s ≡ list_value labels ν t
  IsTrueFact (pure.Member a s) = Contains (list_value labels ν s) (value labels ν a)
  IsTrueFact (pure.NonMember a s) = Contains (list_value labels ν s) (value labels ν a) → ⊥
  IsTrueFact (pure.Code a name) = codes (value labels ν a) ≡ Some name.bytes
