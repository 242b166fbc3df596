-- Small memories, assertions and programs, on which the definitions can be seen at work.
use Rattle.std.specs.Prelude.{◌≡◌, ℕ, ◌+◌, true, Some, None, List, [], ◌∷◌, ◌++◌, codes, nat_eq, if◌then◌else◌}
use Rattle.bed_machine.specs.declared.machine.Flags.TheVariants.{Unknown}
use Rattle.bed_machine.specs.Memory.{Memory, empty}
use Rattle.bed_machine.specs.Machine.{MachineState}
use Rattle.bed_lang.specs.declared.word.Sort.TheVariants as sort
use Rattle.bed_lang.specs.declared.word.Var.TheVariants as var
use Rattle.bed_lang.specs.declared.word.Word.{Word, Number, Var as WordVar}
use Rattle.bed_lang.specs.declared.word.Seq.{Nil, Cons}
use Rattle.bed_lang.specs.declared.logic.Pure.TheVariants as pure
use Rattle.bed_lang.specs.declared.logic.Atom.TheVariants as atom
use Rattle.bed_lang.specs.declared.logic.Term.{Term}
use Rattle.bed_lang.specs.declared.logic.Term.TheVariants as term
use Rattle.bed_lang.specs.declared.logic.Assertion.{Assertion}
use Rattle.bed_lang.specs.declared.module.Signature.{Signature}
use Rattle.bed_lang.specs.Values.{Values}
use Rattle.bed_sat.specs.Parts.{union}
use Rattle.bed_sat.specs.Cells.{IsBlock}
use Rattle.bed_sat.specs.Assertions.{World, blank, Holds}
use Rattle.bed_lang.specs.Prelude.{name, word, bind, segment, prelude}
use Rattle.bed_sat.specs.Runs.{Outside, IsHonest}
use Rattle.bed_sat.specs.Sound.{Linked, IsStart, IsSound}

-- the memory with these bytes in a row at an address
abbrev pub bytes_at : ℕ → List ℕ → Memory
bytes_at a [] x = None
bytes_at a (b ∷ bs) x = if nat_eq x a then Some b else bytes_at (a + 1) bs x

-- an assertion without binders
abbrev pub asserts : List Term → Assertion
asserts terms = record { at = 0; binders = []; terms = terms }

-- the prelude alone is declared
abbrev pub prelude_world : World
prelude_world = record {
  decls = record { signatures = []; predicates = prelude; labels = [] };
  codes = λ a. None;
  labels = λ f. 0;
}

-- the words 1 and 2 at 1000
abbrev pub two_words : Memory
two_words = bytes_at 1000 (1 ∷ 0 ∷ 0 ∷ 0 ∷ 2 ∷ 0 ∷ 0 ∷ 0 ∷ [])

-- block(1000, 2)
abbrev pub block_of_two : Assertion
block_of_two = asserts (term.Atom (atom.Block (Number 1000) (Number 2)) ∷ [])

-- 1000 |-> 1
abbrev pub one_cell : Assertion
one_cell = asserts (term.Atom (atom.Cell (Number 1000) (Number 1)) ∷ [])

-- a node of element 7 at 1000, whose next one is at 1008: a node of element 8, the last one
abbrev pub two_nodes : Memory
two_nodes = bytes_at 1000 (7 ∷ 0 ∷ 0 ∷ 0 ∷ 240 ∷ 3 ∷ 0 ∷ 0 ∷ 8 ∷ 0 ∷ 0 ∷ 0 ∷ 0 ∷ 0 ∷ 0 ∷ 0 ∷ [])

-- lseg(1000, 0, cons(7, cons(8, nil)))
abbrev pub segment_of_two : Assertion
segment_of_two = asserts (segment (Number 1000) (Number 0) (Cons (Number 7) (Cons (Number 8) Nil)) ∷ [])

-- e |->b 256
abbrev pub byte_above : Word → Assertion
byte_above e = asserts (term.Atom (atom.Byte e (Number 256)) ∷ [])

-- 4294967293 |-> v: the fourth byte has no address
abbrev pub cell_too_high : Word → Assertion
cell_too_high v = asserts (term.Atom (atom.Cell (Number 4294967293) v) ∷ [])

-- exactly the part with both words is the block, and no word is forgotten
abbrev pub BlockExample : Type 0
BlockExample = Holds prelude_world blank two_words block_of_two

abbrev pub ForgottenExample : Type 0
ForgottenExample = Holds prelude_world blank two_words one_cell → ⊥

abbrev pub SegmentExample : Type 0
SegmentExample = Holds prelude_world blank two_nodes segment_of_two

-- these hold nowhere, whatever the values and the world
abbrev pub NowhereExample : Type 0
NowhereExample =
    (w : World) (ν : Values) (h : Memory)
    → ((e : Word) → Holds w ν h (byte_above e) → ⊥) × ((v : Word) → Holds w ν h (cell_too_high v) → ⊥)

-- a block wraps: two words at 4294967292 are those at 4294967292 and at 0, on some memory
abbrev pub WrapExample : Type 0
WrapExample = (h : Memory) × IsBlock 4294967292 2 h

-- signature S() pre emp post [result = n]
abbrev pub returning : ℕ → Signature
returning n = record {
  name = name (codes "S");
  params = [];
  reserve = 0;
  logical = [];
  pre = asserts (term.Emp ∷ []);
  post = asserts (term.Pure (pure.Equal (WordVar (var.Answer 0)) (Number n)) ∷ []);
}

-- mov [ebp+0], esi; mov ecx, n; mov eax, ecx; mov esi, [ebp+0]; jmp esi
abbrev pub returning_code : ℕ → List ℕ
returning_code n =
    0x89 ∷ 0xB5 ∷ 0 ∷ 0 ∷ 0 ∷ 0 ∷ 0xB9 ∷ n ∷ 0 ∷ 0 ∷ 0 ∷ 0x8B ∷ 0xC1 ∷ 0x8B ∷ 0xB5 ∷ 0 ∷ 0 ∷ 0 ∷ 0 ∷ 0xFF ∷ 0xE6 ∷ []

-- one exported function at 0x00400000 that says it returns `said` and returns `returned`, each below 256
abbrev pub returning_program : (said returned : ℕ) → Linked
returning_program said returned = record {
  code = record { base = 0x400000; bytes = returning_code returned };
  functions = record { address = 0x400000; signature = returning said; exported = true } ∷ [];
  loops = [];
  imports = [];
  decls = record { signatures = returning said ∷ []; predicates = prelude; labels = (name (codes "seven"), name (codes "S")) ∷ [] };
  labels = λ f. 0x400000;
}

-- a start of it: the frame of one word is at 0x80000000, and the return address is 0x1000
abbrev pub start_state : MachineState
start_state = record {
  regs = record { eax = 0; ecx = 0; edx = 0; ebx = 0; esp = 0; ebp = 0x80000000; esi = 0x1000; edi = 0 };
  eip = 0x400000;
  flags = Unknown;
  memory = bytes_at 0x80000000 (0 ∷ 0 ∷ 0 ∷ 0 ∷ []);
}

abbrev pub no_outside : Outside
no_outside a = None

-- a program that returns what it says is sound, and has a start
abbrev pub SevenExample : Type 0
SevenExample =
    IsSound (returning_program 7 7)
    × IsStart (returning_program 7 7) no_outside (record { address = 0x400000; signature = returning 7; exported = true }) blank start_state empty

-- one that returns another number isn't
abbrev pub EightExample : Type 0
EightExample = IsSound (returning_program 7 8) → ⊥

-- signature I(x) pre emp post [result = x]
abbrev pub identity : Signature
identity = record {
  name = name (codes "I");
  params = name (codes "x") ∷ [];
  reserve = 0;
  logical = [];
  pre = asserts (term.Emp ∷ []);
  post = asserts (term.Pure (pure.Equal (WordVar (var.Answer 0)) (word (codes "x"))) ∷ []);
}

-- as `returning_code`, but for mov ecx, [ebp+4]: the argument
abbrev pub identity_code : List ℕ
identity_code =
    0x89 ∷ 0xB5 ∷ 0 ∷ 0 ∷ 0 ∷ 0 ∷ 0x8B ∷ 0x8D ∷ 4 ∷ 0 ∷ 0 ∷ 0 ∷ 0x8B ∷ 0xC1 ∷ 0x8B ∷ 0xB5 ∷ 0 ∷ 0 ∷ 0 ∷ 0 ∷ 0xFF ∷ 0xE6 ∷ []

-- two functions, one right after the other
abbrev pub two_functions : Linked
two_functions = record {
  code = record { base = 0x400000; bytes = returning_code 7 ++ identity_code };
  functions = record { address = 0x400000; signature = returning 7; exported = true }
      ∷ record { address = 0x400015; signature = identity; exported = true } ∷ [];
  loops = [];
  imports = [];
  decls = record { signatures = returning 7 ∷ identity ∷ []; predicates = prelude; labels = [] };
  labels = λ f. 0;
}

abbrev pub TwoFunctionsExample : Type 0
TwoFunctionsExample = IsSound two_functions

-- signature S() pre exists n: word. block(4096, n) post emp
abbrev pub loose : Signature
loose = record {
  name = name (codes "S");
  params = [];
  reserve = 0;
  logical = [];
  pre = record { at = 0; binders = bind (codes "n") sort.Word ∷ []; terms = term.Atom (atom.Block (Number 4096) (word (codes "n"))) ∷ [] };
  post = asserts (term.Emp ∷ []);
}

abbrev pub loose_world : World
loose_world = record {
  decls = record { signatures = loose ∷ []; predicates = []; labels = [] };
  codes = λ a. None;
  labels = λ f. 0;
}

abbrev pub loose_outside : Outside
loose_outside a = if nat_eq a 0x500000 then Some (codes "S") else None

-- a call of it, with one word at 4096
abbrev pub loose_call : MachineState
loose_call = record {
  regs = record { eax = 0; ecx = 0; edx = 0; ebx = 0; esp = 0; ebp = 0x80000000; esi = 0x400000; edi = 0 };
  eip = 0x500000;
  flags = Unknown;
  memory = union (bytes_at 0x80000000 (0 ∷ 0 ∷ 0 ∷ 0 ∷ [])) (bytes_at 4096 (0 ∷ 0 ∷ 0 ∷ 0 ∷ []));
}

-- A warning: nobody can answer this call. It enters with the word as its own and with the word as the starter's, and no state is
-- a return for both. So of what follows such a call nothing is said: the memory of a precondition of the outside should be fixed
-- by the arguments and by the memory.
abbrev pub LooseExample : Type 0
LooseExample = (t : MachineState) → IsHonest loose_world loose_outside loose_call t → ⊥

-- a warning: a program whose list of functions is empty is sound, whatever its code
abbrev pub NoFunctionsExample : Type 0
NoFunctionsExample = (p : Linked) → p.functions ≡ [] → IsSound p
