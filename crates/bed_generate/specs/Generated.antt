-- The module of the generator: a chain of functions of any length, of which each calls the one before it and returns what it
-- returned. It is made as a tree, so all its places are 0.
use Rattle.std.specs.Prelude.{ℕ, ◌-◌, ◌*◌, Bool, nat_eq, if◌then◌else◌, None, List, [], ◌∷◌, ◌++◌, map, codes}
use Rattle.std.specs.Fmt.{decimal}
use Rattle.std.specs.List.{range_with_len}
use Rattle.bed_lang.specs.declared.word.Name.{Name}
use Rattle.bed_lang.specs.declared.word.Var.TheVariants as var
use Rattle.bed_lang.specs.declared.word.Word.{Word}
use Rattle.bed_lang.specs.declared.word.Word as word
use Rattle.bed_lang.specs.declared.logic.Pure.{Pure}
use Rattle.bed_lang.specs.declared.logic.Pure.TheVariants as pure
use Rattle.bed_lang.specs.declared.logic.Term.{Term}
use Rattle.bed_lang.specs.declared.logic.Term.TheVariants as term
use Rattle.bed_lang.specs.declared.logic.Assertion.{Assertion}
use Rattle.bed_lang.specs.declared.module.Operand.{Operand}
use Rattle.bed_lang.specs.declared.module.Operand.TheVariants as operand
use Rattle.bed_lang.specs.declared.module.Op.TheVariants as op
use Rattle.bed_lang.specs.declared.module.Rel.TheVariants as rel
use Rattle.bed_lang.specs.declared.module.Test.{Test}
use Rattle.bed_lang.specs.declared.module.Signature.{Signature}
use Rattle.bed_lang.specs.declared.module.Function.{Function}
use Rattle.bed_lang.specs.declared.module.Module.{Module}
use Rattle.bed_lang.specs.declared.statement.Stmt.{Stmt}
use Rattle.bed_lang.specs.declared.statement.StmtKind.{StmtKind}
use Rattle.bed_lang.specs.declared.statement.StmtKind as kind
use Rattle.bed_lang.specs.Prelude.{name, word as variable}

-- the names `Si` and `fi`, with i in decimal digits
abbrev pub signature_name : ℕ → Name
signature_name i = name (codes "S" ++ decimal i)

abbrev pub function_name : ℕ → Name
function_name i = name (codes "f" ++ decimal i)

-- a variable as an operand, `old x`, and `result`
abbrev pub local : List ℕ → Operand
local x = operand.Local (name x)

abbrev pub old_value : List ℕ → Word
old_value x = word.Var (var.Old (name x))

abbrev pub answer : Word
answer = word.Var (var.Answer 0)

-- an assertion without binders; the term of a fact; a statement
abbrev pub assertion : List Term → Assertion
assertion terms = record { at = 0; binders = []; terms = terms }

abbrev pub fact : Pure → Term
fact p = term.Pure p

abbrev pub statement : StmtKind → Stmt
statement kind = record { at = 0; kind = kind }

-- signature Si(n) reserving 3i-2 pre emp post [result = n];
abbrev pub signature : ℕ → Signature
signature i = record {
  name = signature_name i;
  params = name (codes "n") ∷ [];
  reserve = 3 * i - 2;
  logical = [];
  pre = assertion (term.Emp ∷ []);
  post = assertion (fact (pure.Equal answer (variable (codes "n"))) ∷ []);
}

-- i < n
abbrev pub below : Test
below = record { at = 0; rel = rel.Less; left = local (codes "i"); right = local (codes "n") }

-- [i <= n] * [n = old n]
abbrev pub counted : Assertion
counted = assertion (
    fact (pure.AtMost (variable (codes "i")) (variable (codes "n")))
    ∷ fact (pure.Equal (variable (codes "n")) (old_value (codes "n"))) ∷ [])

-- i <- i + 1;
abbrev pub increase : Stmt
increase = statement (kind.Compute (name (codes "i")) op.Add (local (codes "i")) (operand.Number 1))

-- { i <- 0; while i < n invariant [i <= n] * [n = old n] { i <- i + 1; } return i; }
abbrev pub counting : List Stmt
counting =
    statement (kind.Assign (name (codes "i")) (operand.Number 0))
    ∷ statement (kind.While below 0 counted (increase ∷ []))
    ∷ statement (kind.Return (local (codes "i"))) ∷ []

-- [x = old n]
abbrev pub answered : Assertion
answered = assertion (fact (pure.Equal (variable (codes "x")) (old_value (codes "n"))) ∷ [])

-- { x <- call &fi(n) after [x = old n]; return x; }
abbrev pub calling : ℕ → List Stmt
calling i =
    statement (kind.Call 0 (name (codes "x")) (operand.Label (function_name i)) None (local (codes "n") ∷ []) [] answered)
    ∷ statement (kind.Return (local (codes "x"))) ∷ []

-- The first function counts up to its argument, with the local i; function i, i > 1, calls function i - 1, with the local x.
abbrev pub local_of : ℕ → List ℕ
local_of i = if nat_eq i 1 then codes "i" else codes "x"

abbrev pub body_of : ℕ → List Stmt
body_of i = if nat_eq i 1 then counting else calling (i - 1)

-- function fi: Si locals .. { .. }
abbrev pub function : Bool → ℕ → Function
function exported i = record {
  name = function_name i;
  exported = exported;
  signature = signature_name i;
  locals = name (local_of i) ∷ [];
  body = body_of i;
  end = 0;
}

-- the module `gen` of k signatures and k functions, of which the last alone is exported
abbrev pub generated : ℕ → Module
generated k = record {
  name = name (codes "gen");
  signatures = map signature (range_with_len 1 k);
  predicates = [];
  imports = [];
  functions = map (λ i. function (nat_eq i k) i) (range_with_len 1 k);
}
