-- Small texts with the conditions that they owe, which are valid or aren't.
use Rattle.std.specs.Prelude.{◌≡◌, ℕ, true, false, Some, None, List, [], ◌∷◌, map, length, codes, All}
use Rattle.bed_lang.specs.declared.word.Name.{Name}
use Rattle.bed_lang.specs.declared.word.Sort.TheVariants as sort
use Rattle.bed_lang.specs.declared.word.Var.TheVariants as var
use Rattle.bed_lang.specs.declared.word.Word.{Word, Number, Var as WordVar}
use Rattle.bed_lang.specs.declared.logic.Pure.TheVariants as pure
use Rattle.bed_lang.specs.declared.logic.Atom.TheVariants as atom
use Rattle.bed_lang.specs.declared.logic.Term.TheVariants as term
use Rattle.bed_lang.specs.declared.logic.Assertion.{Assertion}
use Rattle.bed_lang.specs.declared.module.Operand.TheVariants as operand
use Rattle.bed_lang.specs.declared.module.Op.TheVariants as op
use Rattle.bed_lang.specs.declared.module.Rel.TheVariants as rel
use Rattle.bed_lang.specs.declared.module.Test.{Test}
use Rattle.bed_lang.specs.declared.module.Hint.TheVariants as hint
use Rattle.bed_lang.specs.declared.module.Action.TheVariants as action
use Rattle.bed_lang.specs.declared.module.Signature.{Signature}
use Rattle.bed_lang.specs.declared.module.Function.{Function}
use Rattle.bed_lang.specs.declared.module.Module.{Module}
use Rattle.bed_lang.specs.declared.statement.Stmt.{Stmt}
use Rattle.bed_lang.specs.declared.statement.StmtKind.{Assign, Compute, Load, Call, If, While, Return, Hint as HintStmt}
use Rattle.bed_lang.specs.declared.condition.Goal.TheVariants.{Meets, Returns}
use Rattle.bed_lang.specs.declared.condition.Cond.{Cond}
use Rattle.bed_lang.specs.Prelude.{name, word, bind}
use Rattle.bed_table.specs.ListLoops.{field_at}
use Rattle.bed_lang.specs.Declarations.{all_declarations}
use Rattle.bed_sat.specs.Conditions.{conditions}
use Rattle.bed_sat.specs.Valid.{IsValid}
use Rattle.bed_sat.specs.Examples.{asserts}

-- a name and a word variable at their places
abbrev pub name_at : List ℕ → ℕ → Name
name_at bytes at = record { bytes = bytes; at = at }

abbrev pub word_at : List ℕ → ℕ → Word
word_at x at = WordVar (var.Named (name_at x at))

-- ---- a loop that counts:
--
-- module m;
-- signature C(n) reserving 1 pre emp post [result = n];
-- export function count: C locals i { i <- 0; while i < n invariant [i <= n] * [n = old n] { i <- i + 1; } return i; }

abbrev pub counting_signature : Signature
counting_signature = record {
  name = name_at (codes "C") 20;
  params = name_at (codes "n") 22 ∷ [];
  reserve = 1;
  logical = [];
  pre = record { at = 41; binders = []; terms = term.Emp ∷ [] };
  post = record { at = 50; binders = []; terms = term.Pure (pure.Equal (WordVar (var.Answer 51)) (word_at (codes "n") 60)) ∷ [] };
}

-- [i <= n] * [n = old n]
abbrev pub counting_invariant : Assertion
counting_invariant = record {
  at = 130;
  binders = [];
  terms = term.Pure (pure.AtMost (word_at (codes "i") 131) (word_at (codes "n") 136))
      ∷ term.Pure (pure.Equal (word_at (codes "n") 142) (WordVar (var.Old (name_at (codes "n") 146)))) ∷ [];
}

-- i < n, and its negation n <= i
abbrev pub counting_test : Test
counting_test = record {
  at = 114;
  rel = rel.Less;
  left = operand.Local (name_at (codes "i") 114);
  right = operand.Local (name_at (codes "n") 118);
}

abbrev pub counting_is_over : Test
counting_is_over = record {
  at = 114;
  rel = rel.AtMost;
  left = operand.Local (name_at (codes "n") 118);
  right = operand.Local (name_at (codes "i") 114);
}

abbrev pub counting_function : Function
counting_function = record {
  name = name_at (codes "count") 80;
  exported = true;
  signature = name_at (codes "C") 87;
  locals = name_at (codes "i") 96 ∷ [];
  body = record { at = 100; kind = Assign (name_at (codes "i") 100) (operand.Number 0) }
      ∷ record {
        at = 108;
        kind = While counting_test 120 counting_invariant (record {
          at = 155;
          kind = Compute (name_at (codes "i") 155) op.Add (operand.Local (name_at (codes "i") 160)) (operand.Number 1);
        } ∷ []);
      }
      ∷ record { at = 169; kind = Return (operand.Local (name_at (codes "i") 176)) } ∷ [];
  end = 179;
}

abbrev pub counting_module : Module
counting_module = record {
  name = name_at (codes "m") 7;
  signatures = counting_signature ∷ [];
  predicates = [];
  imports = [];
  functions = counting_function ∷ [];
}

-- from emp, i <- 0, to the invariant
abbrev pub counting_begins : Cond
counting_begins = record {
  «module» = name_at (codes "m") 7;
  function = name_at (codes "count") 80;
  at = 120;
  locals = name_at (codes "n") 22 ∷ name_at (codes "i") 96 ∷ [];
  entry = true;
  start = counting_signature.pre;
  actions = action.Assign (name_at (codes "i") 100) (operand.Number 0) ∷ [];
  goal = Meets counting_invariant;
  hints = [];
}

-- from the invariant, assume i < n, i <- i + 1, to the invariant
abbrev pub counting_goes_on : Cond
counting_goes_on = record counting_begins {
  entry = false;
  start = counting_invariant;
  actions = action.Assume counting_test
      ∷ action.Compute (name_at (codes "i") 155) op.Add (operand.Local (name_at (codes "i") 160)) (operand.Number 1) ∷ [];
}

-- from the invariant, assume n <= i, to return i
abbrev pub counting_ends : Cond
counting_ends = record counting_begins {
  at = 169;
  entry = false;
  start = counting_invariant;
  actions = action.Assume counting_is_over ∷ [];
  goal = Returns (operand.Local (name_at (codes "i") 176));
}

-- these are its conditions, and they are valid
abbrev pub CountingExample : Type 0
CountingExample = conditions counting_module ≡ counting_begins ∷ counting_goes_on ∷ counting_ends ∷ []

abbrev pub CountingIsValidExample : Type 0
CountingIsValidExample = All (IsValid (all_declarations (counting_module ∷ []))) (conditions counting_module)

-- ---- a body with a join and a call

-- the place of a condition, the number of its actions, and `before` of each of its hints
abbrev pub shape : Cond → ℕ × ℕ × List ℕ
shape c = (c.at, length c.actions, map (λ h. h.before) c.hints)

-- the function `f` of signature S with these locals and this body
abbrev pub function_of : List Name → List Stmt → Function
function_of locals body = record {
  name = name (codes "f");
  exported = true;
  signature = name (codes "S");
  locals = locals;
  body = body;
  end = 0;
}

-- a module of such a function
abbrev pub module_of : Signature → Function → Module
module_of S f = record { name = name (codes "m"); signatures = S ∷ []; predicates = []; imports = []; functions = f ∷ [] }

-- and with `signature G(x) pre emp post [result = x];` and `import g: G;`
abbrev pub imported_signature : Signature
imported_signature = record {
  name = name (codes "G");
  params = name (codes "x") ∷ [];
  reserve = 0;
  logical = [];
  pre = asserts (term.Emp ∷ []);
  post = asserts (term.Pure (pure.Equal (WordVar (var.Answer 0)) (word (codes "x"))) ∷ []);
}

abbrev pub importing_module_of : Signature → Function → Module
importing_module_of S f = record (module_of S f) {
  signatures = S ∷ imported_signature ∷ [];
  imports = record { name = name (codes "g"); signature = name (codes "G") } ∷ [];
}

-- signature S(params) reserving 4 pre .. post ..
abbrev pub signature : List Name → Assertion → Assertion → Signature
signature params pre post = record { name = name (codes "S"); params = params; reserve = 4; logical = []; pre = pre; post = post }

abbrev pub just_emp : Assertion
just_emp = asserts (term.Emp ∷ [])

-- y, and [y = 7]
abbrev pub y : Name
y = name (codes "y")

abbrev pub is_seven : Assertion
is_seven = asserts (term.Pure (pure.Equal (word (codes "y")) (Number 7)) ∷ [])

-- if p = 0 { y <- 7; } else { return 7; } join [y = 7]; hint claim [y = 7];
-- y <- call &g(y) using claim [y = 7] after [y = 7]; return y;
-- The place of `return 7` is 25, of the join 30, of the call's first token 50 and of `return y` 60.
abbrev pub joining_function : Function
joining_function = function_of (y ∷ []) (
    record {
      at = 10;
      kind = If (record { at = 13; rel = rel.Equal; left = operand.Local (name (codes "p")); right = operand.Number 0 })
          (record { at = 20; kind = Assign y (operand.Number 7) } ∷ [])
          (record { at = 25; kind = Return (operand.Number 7) } ∷ [])
          (Some (record { place = 30; assertion = is_seven }));
    }
    ∷ record { at = 40; kind = HintStmt (hint.Claim (pure.Equal (word (codes "y")) (Number 7))) }
    ∷ record {
      at = 50;
      kind = Call 55 y (operand.Label (name (codes "g"))) None (operand.Local y ∷ []) (hint.Claim (pure.Equal (word (codes "y")) (Number 7)) ∷ []) is_seven;
    }
    ∷ record { at = 60; kind = Return (operand.Local y) } ∷ []
    )

abbrev pub joining_module : Module
joining_module = importing_module_of (signature (name (codes "p") ∷ []) just_emp just_emp) joining_function

-- y <- 7 comes to the join, and return 7 doesn't; the call has one hint before it and one `using`
abbrev pub JoiningExample : Type 0
JoiningExample =
    map shape (conditions joining_module)
    ≡ (30, 2, []) ∷ (25, 1, []) ∷ (50, 0, 0 ∷ 1 ∷ []) ∷ (60, 0, []) ∷ []

-- ---- a call that is valid

-- signature S() reserving 4 pre emp post [result = 7]; .. y <- call &g(7) after [y = 7]; return y;
abbrev pub calling_function : Function
calling_function = function_of (y ∷ []) (
    record { at = 10; kind = Call 15 y (operand.Label (name (codes "g"))) None (operand.Number 7 ∷ []) [] is_seven }
    ∷ record { at = 20; kind = Return (operand.Local y) } ∷ []
    )

-- [result = 7]
abbrev pub returns_seven : Assertion
returns_seven = asserts (term.Pure (pure.Equal (WordVar (var.Answer 0)) (Number 7)) ∷ [])

abbrev pub calling_module : Module
calling_module = importing_module_of (signature [] just_emp returns_seven) calling_function

abbrev pub CallIsValidExample : Type 0
CallIsValidExample = All (IsValid (all_declarations (calling_module ∷ []))) (conditions calling_module)

-- ---- conditions that aren't valid

-- the text owes one condition, and that isn't valid
abbrev pub IsRefuted : Module → Type 0
IsRefuted m = (c : Cond) × (conditions m ≡ c ∷ []) × (IsValid (all_declarations (m ∷ [])) c → ⊥)

-- exists v: word. p |-> v
abbrev pub some_cell : Assertion
some_cell = record {
  at = 0;
  binders = bind (codes "v") sort.Word ∷ [];
  terms = term.Atom (atom.Cell (word (codes "p")) (word (codes "v"))) ∷ [];
}

-- pre exists v: word. p |-> v post emp; return 0: the cell is forgotten
abbrev pub forgetting_function : Function
forgetting_function = function_of [] (record { at = 10; kind = Return (operand.Number 0) } ∷ [])

abbrev pub forgetting_module : Module
forgetting_module = module_of (signature (name (codes "p") ∷ []) some_cell just_emp) forgetting_function

abbrev pub ForgottenCellExample : Type 0
ForgottenCellExample = IsRefuted forgetting_module

-- pre emp post emp; y <- [p]; return y: there is no cell
abbrev pub loading_function : Function
loading_function = function_of (y ∷ []) (
    record { at = 10; kind = Load y (field_at (name (codes "p")) 0) }
    ∷ record { at = 20; kind = Return (operand.Local y) } ∷ []
    )

abbrev pub loading_module : Module
loading_module = module_of (signature (name (codes "p") ∷ []) just_emp just_emp) loading_function

abbrev pub UnmappedLoadExample : Type 0
UnmappedLoadExample = IsRefuted loading_module

-- pre emp post [a < result]; y <- a + 1; return y: the sum wraps
abbrev pub adding_function : Function
adding_function = function_of (y ∷ []) (
    record { at = 10; kind = Compute y op.Add (operand.Local (name (codes "a"))) (operand.Number 1) }
    ∷ record { at = 20; kind = Return (operand.Local y) } ∷ []
    )

-- [a < result]
abbrev pub is_above : Assertion
is_above = asserts (term.Pure (pure.Less (word (codes "a")) (WordVar (var.Answer 0))) ∷ [])

abbrev pub adding_module : Module
adding_module = module_of (signature (name (codes "a") ∷ []) just_emp is_above) adding_function

abbrev pub WrappingSumExample : Type 0
WrappingSumExample = IsRefuted adding_module
