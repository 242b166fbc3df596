-- Small bodies with calls, stores and loads, whose conditions are valid or aren't. Above each example stands a slip in a
-- definition under which it would be false.
use Rattle.std.specs.Prelude.{◌≡◌, true, false, Some, None, List, [], ◌∷◌, codes, All}
use Rattle.bed_machine.specs.Memory.{Memory}
use Rattle.bed_lang.specs.declared.word.Sort.TheVariants as sort
use Rattle.bed_lang.specs.declared.word.Var.TheVariants as var
use Rattle.bed_lang.specs.declared.word.Word.{Word, Number, Add, Var as WordVar}
use Rattle.bed_lang.specs.declared.logic.Pure.TheVariants as pure
use Rattle.bed_lang.specs.declared.logic.Atom.TheVariants as atom
use Rattle.bed_lang.specs.declared.logic.Term.{Term}
use Rattle.bed_lang.specs.declared.logic.Term.TheVariants as term
use Rattle.bed_lang.specs.declared.logic.Assertion.{Assertion}
use Rattle.bed_lang.specs.declared.module.Operand.TheVariants as operand
use Rattle.bed_lang.specs.declared.module.Function.{Function}
use Rattle.bed_lang.specs.declared.module.Module.{Module}
use Rattle.bed_lang.specs.declared.module.Signature.{Signature}
use Rattle.bed_lang.specs.declared.statement.Stmt.{Stmt}
use Rattle.bed_lang.specs.declared.statement.StmtKind.{Assign, Load, LoadByte, Store, StoreByte, Call, Return}
use Rattle.bed_lang.specs.declared.condition.Cond.{Cond}
use Rattle.bed_lang.specs.Prelude.{name, word, bind}
use Rattle.bed_lang.specs.Values.{Values}
use Rattle.bed_table.specs.ListLoops.{field_at}
use Rattle.bed_lang.specs.Declarations.{all_declarations}
use Rattle.bed_sat.specs.Conditions.{conditions}
use Rattle.bed_sat.specs.Valid.{CallHolds, IsValid}
use Rattle.bed_sat.specs.Examples.{asserts}
use Rattle.bed_sat.specs.ConditionExamples.{y, just_emp, is_seven, signature, imported_signature, function_of, module_of, joining_function, calling_module, IsRefuted}
use Rattle.bed_sat.specs.ConditionLaws.{is_live}

-- the first condition that the text owes isn't valid
abbrev pub IsRefutedFirst : Module → Type 0
IsRefutedFirst m = (c : Cond) × (cs : List Cond) × (conditions m ≡ c ∷ cs) × (IsValid (all_declarations (m ∷ [])) c → ⊥)

-- the conditions that the text owes are valid
abbrev pub AreValid : Module → Type 0
AreValid m = All (IsValid (all_declarations (m ∷ []))) (conditions m)

-- ---- calls

-- signature S() reserving 4 pre .. post ..; signature G(x) pre .. post [result = x]; import g: G; .. y <- call &g(7) after ..; return y;
abbrev pub callee : Assertion → Signature
callee given = record imported_signature { pre = given }

abbrev pub calling_body : Assertion → Function
calling_body after = function_of (y ∷ []) (
    record { at = 10; kind = Call 15 y (operand.Label (name (codes "g"))) None (operand.Number 7 ∷ []) [] after }
    ∷ record { at = 20; kind = Return (operand.Local y) } ∷ []
    )

abbrev pub calling_text : (pre given after post : Assertion) → Module
calling_text pre given after post = record (module_of (signature [] pre post) (calling_body after)) {
  signatures = signature [] pre post ∷ callee given ∷ [];
  imports = record { name = name (codes "g"); signature = name (codes "G") } ∷ [];
}

-- [y = 8]
abbrev pub is_eight : Assertion
is_eight = asserts (term.Pure (pure.Equal (word (codes "y")) (Number 8)) ∷ [])

-- Slip: `CallHolds` doesn't ask for `after`. The answer is 7.
abbrev pub WrongAfterExample : Type 0
WrongAfterExample = IsRefutedFirst (calling_text just_emp just_emp is_eight just_emp)

-- exists v: word. x |-> v
abbrev pub argument_cell : Assertion
argument_cell = record {
  at = 0;
  binders = bind (codes "v") sort.Word ∷ [];
  terms = term.Atom (atom.Cell (word (codes "x")) (word (codes "v"))) ∷ [];
}

-- Slip: `CallHolds` doesn't ask for the precondition. There is no cell at 7.
abbrev pub NoCellExample : Type 0
NoCellExample = IsRefutedFirst (calling_text just_emp argument_cell is_seven just_emp)

-- 4096 |-> 3
abbrev pub three : Term
three = term.Atom (atom.Cell (Number 4096) (Number 3))

-- Slip: `CallHolds` drops the rest. `after` doesn't speak of the cell.
abbrev pub DroppedCellExample : Type 0
DroppedCellExample = IsRefutedFirst (calling_text (asserts (three ∷ [])) just_emp is_seven just_emp)

-- [y = 7] and [result = 7], with the cell beside
abbrev pub seven_beside : Assertion
seven_beside = asserts (three ∷ term.Pure (pure.Equal (word (codes "y")) (Number 7)) ∷ [])

abbrev pub result_beside : Assertion
result_beside = asserts (three ∷ term.Pure (pure.Equal (WordVar (var.Answer 0)) (Number 7)) ∷ [])

-- Slip: `CallHolds` reads the precondition on all memory, or `after` on the callee's alone. The callee needs nothing.
abbrev pub CellStaysExample : Type 0
CellStaysExample = AreValid (calling_text (asserts (three ∷ [])) just_emp seven_beside result_beside)

-- Slip: `CallHolds` doesn't ask for the target's code. Here no code is known.
abbrev pub UnknownTargetExample : Type 0
UnknownTargetExample =
    (ν : Values) (h : Memory)
    → CallHolds (record { decls = all_declarations (calling_module ∷ []); codes = λ a. None; labels = λ f. 0 }) (operand.Local y)
    (Some (name (codes "G"))) (operand.Number 7 ∷ []) y is_seven ν h
    → ⊥

-- ---- stores and loads

-- exists v: word. p + 4 |-> v, and p + 4 |-> 7 * [result = 7]
abbrev pub field : Word
field = Add (word (codes "p")) (Number 4)

abbrev pub some_field : Assertion
some_field = record { at = 0; binders = bind (codes "v") sort.Word ∷ []; terms = term.Atom (atom.Cell field (word (codes "v"))) ∷ [] }

abbrev pub seven_stored : Assertion
seven_stored =
    asserts (term.Atom (atom.Cell field (Number 7)) ∷ term.Pure (pure.Equal (WordVar (var.Answer 0)) (Number 7)) ∷ [])

-- [p + 4] <- 7; y <- [p + 4]; return y;
abbrev pub storing_function : Function
storing_function = function_of (y ∷ []) (
    record { at = 10; kind = Store (field_at (name (codes "p")) 4) (operand.Number 7) }
    ∷ record { at = 20; kind = Load y (field_at (name (codes "p")) 4) }
    ∷ record { at = 30; kind = Return (operand.Local y) } ∷ []
    )

abbrev pub storing_module : Module
storing_module = module_of (signature (name (codes "p") ∷ []) some_field seven_stored) storing_function

-- Slip: `Does` stores nothing, or not at the place, or loads another word.
abbrev pub StoringExample : Type 0
StoringExample = AreValid storing_module

-- exists v: word. p |->b v, and p |->b 7 * [result = 7]
abbrev pub some_byte : Assertion
some_byte = record {
  at = 0;
  binders = bind (codes "v") sort.Word ∷ [];
  terms = term.Atom (atom.Byte (word (codes "p")) (word (codes "v"))) ∷ [];
}

abbrev pub seven_byte : Assertion
seven_byte =
    asserts (term.Atom (atom.Byte (word (codes "p")) (Number 7)) ∷ term.Pure (pure.Equal (WordVar (var.Answer 0)) (Number 7)) ∷ [])

-- byte [p] <- 263; y <- byte [p]; return y;
abbrev pub byte_function : Function
byte_function = function_of (y ∷ []) (
    record { at = 10; kind = StoreByte (field_at (name (codes "p")) 0) (operand.Number 263) }
    ∷ record { at = 20; kind = LoadByte y (field_at (name (codes "p")) 0) }
    ∷ record { at = 30; kind = Return (operand.Local y) } ∷ []
    )

abbrev pub byte_module : Module
byte_module = module_of (signature (name (codes "p") ∷ []) some_byte seven_byte) byte_function

-- Slip: `Does` stores or loads a word, or more than the low byte.
abbrev pub ByteExample : Type 0
ByteExample = AreValid byte_module

-- [4096] <- 3; return 0;
abbrev pub unmapped_function : Function
unmapped_function = function_of [] (
    record { at = 10; kind = Store (record { base = operand.Number 4096; disp = 0 }) (operand.Number 3) }
    ∷ record { at = 20; kind = Return (operand.Number 0) } ∷ []
    )

abbrev pub unmapped_module : Module
unmapped_module = module_of (signature [] just_emp (asserts (three ∷ []))) unmapped_function

-- Slip: `Does` makes memory by a store. There is no cell before.
abbrev pub UnmappedStoreExample : Type 0
UnmappedStoreExample = IsRefuted unmapped_module

-- ---- where control comes

-- return 7; y <- 7;
abbrev pub dead_body : List Stmt
dead_body = record { at = 10; kind = Return (operand.Number 7) } ∷ record { at = 20; kind = Assign y (operand.Number 7) } ∷ []

-- Slip: `is_live` is never true, so that the law of live bodies is empty; or it is always true.
abbrev pub LiveBodiesExample : Type 0
LiveBodiesExample = (is_live joining_function.body ≡ true) × (is_live dead_body ≡ false)
