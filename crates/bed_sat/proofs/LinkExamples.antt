-- What stands where in the code of small modules, computed.
use Rattle.std.proofs.Common.{◌≡◌, ℕ, ◌+◌, Bool, true, false, List, [], ◌∷◌, ◌++◌, map, codes, refl, ◌∙◌, ap, ap₂}
use Rattle.bed_lang.specs.declared.word.Name.{Name}
use Rattle.bed_lang.specs.declared.logic.Assertion.{Assertion}
use Rattle.bed_lang.specs.declared.module.Op.{Op}
use Rattle.bed_lang.specs.declared.module.Op.TheVariants.{Add}
use Rattle.bed_lang.specs.declared.module.Operand.{Operand}
use Rattle.bed_lang.specs.declared.module.Operand.TheVariants.{Number, Local}
use Rattle.bed_lang.specs.declared.module.Test.{Test}
use Rattle.bed_lang.specs.declared.module.Module.{Module}
use Rattle.bed_lang.specs.declared.statement.Stmt.{Stmt}
use Rattle.bed_lang.specs.declared.statement.StmtKind.{StmtKind-F, Compute, While, Return}
use Rattle.bed_lang.specs.declared.statement.StmtKind.TheVariants.{rolls-Compute, rolls-While, rolls-Return}
use Rattle.bed_lang.specs.Prelude.{name}
use Rattle.bed_lang.specs.Declarations.{all_signatures}
use Rattle.bed_table.specs.Pieces.{Piece, Head, sequence, heads_of}
use Rattle.bed_table.specs.CodeTable.{entry, assignment, computation, loop, answer}
use Rattle.bed_table.specs.Code.{piece, body_piece}
use Rattle.bed_table.specs.Layout.{Defined, define, function_size, Placed, placed, address_of, function_label, import_label, label_address, heads_at}
use Rattle.bed_sat.specs.Written.{statement}
use Rattle.bed_sat.specs.Linking.{functions_at, loop_at, loops_at}
use Rattle.bed_sat.specs.ConditionExamples.{name_at, counting_signature, counting_invariant, counting_test, counting_function, imported_signature}
use Rattle.bed_sat.specs.SoundExamples.{CountingLinkExample, ImportingLinkExample, returning_function, first_module, second_module, two_linked, TwoModulesLinkExample}
use Rattle.bed_sat.proofs.WrittenCode.{piece_roll, piece-Assign}

piece-Compute : (at : ℕ) (x : Name) (op : Op) (a b : Operand) → piece (statement at (Compute x op a b)) ≡ computation x op a b
piece-Compute at x op a b = piece_roll (StmtKind-F.Compute x op a b) at _ (rolls-Compute x op a b)

piece-While : (at : ℕ) (t : Test) (place : ℕ) (A : Assertion) (body : List Stmt) → piece (statement at (While t place A body)) ≡ loop t A (body_piece body)
piece-While at t place A body = piece_roll (StmtKind-F.While t place A body) at _ (rolls-While t place A body)

piece-Return : (at : ℕ) (a : Operand) → piece (statement at (Return a)) ≡ answer a
piece-Return at a = piece_roll (StmtKind-F.Return a) at _ (rolls-Return a)

counting_pieces : map piece counting_function.body
    ≡ assignment (name_at (codes "i") 100) (Number 0)
    ∷ loop counting_test counting_invariant (sequence (computation (name_at (codes "i") 155) Add (Local (name_at (codes "i") 160)) (Number 1) ∷ []))
    ∷ answer (Local (name_at (codes "i") 176)) ∷ []
counting_pieces = simp (piece-Assign, piece-While, piece-Compute, piece-Return) refl

pub counting_link_example : CountingLinkExample
counting_link_example = (
  refl,
  ap (λ (ps : List Piece). map (loop_at counting_signature (name_at (codes "n") 22 ∷ name_at (codes "i") 96 ∷ [])) (heads_of 0x400000 (entry ∷ sequence ps ∷ [])) ++ []) counting_pieces,
)

pub importing_link_example : ImportingLinkExample
importing_link_example = (refl, refl)

-- ---- two modules

abbrev modules : List Module
modules = first_module ∷ second_module ∷ []

abbrev given : List (Name × ℕ)
given = (name (codes "say"), 0x500000) ∷ []

abbrev h : Defined
h = define first_module.signatures (returning_function (codes "h") false)

abbrev g : Defined
g = define first_module.signatures (returning_function (codes "g") true)

abbrev count : Defined
count = define second_module.signatures counting_function

returning_pieces : (called : List ℕ) (exported : Bool) → map piece (returning_function called exported).body ≡ answer (Local (name (codes "x"))) ∷ []
returning_pieces called exported = ap (λ (q : Piece). q ∷ []) (piece-Return 10 (Local (name (codes "x"))))

-- each of the first module's functions has 22 bytes
sized : (called : List ℕ) (exported : Bool) → function_size (define first_module.signatures (returning_function called exported)) ≡ 22
sized called exported = ap (λ (ps : List Piece). (sequence (entry ∷ sequence ps ∷ [])).size) (returning_pieces called exported)

-- where the three functions stand
abbrev stand : List Placed
stand = record { defined = h; address = 0x400000 } ∷ record { defined = g; address = 0x400016 } ∷ record { defined = count; address = 0x40002C } ∷ []

they_stand : placed modules 0x400000 ≡ stand
they_stand =
    ap₂ (λ (k l : ℕ). record { defined = h; address = 0x400000 } ∷ record { defined = g; address = 0x400000 + k } ∷ record { defined = count; address = 0x400000 + k + l } ∷ [])
    (sized (codes "h") false) (sized (codes "g") true)

labels_are : (called : List ℕ) → label_address modules 0x400000 given called ≡ address_of (map function_label stand ++ map import_label given) called
labels_are called = ap (λ (ps : List Placed). address_of (map function_label ps ++ map import_label given) called) they_stand

-- the loops are those of the last function
heads_of_returning : (called : List ℕ) (exported : Bool) (at : ℕ) → heads_at (record { defined = define first_module.signatures (returning_function called exported); address = at }) ≡ []
heads_of_returning called exported at = ap (λ (ps : List Piece). heads_of at (entry ∷ sequence ps ∷ [])) (returning_pieces called exported)

loops_are : two_linked.loops ≡ map (loop_at counting_signature (name_at (codes "n") 22 ∷ name_at (codes "i") 96 ∷ [])) (heads_of 0x40002C (entry ∷ body_piece counting_function.body ∷ [])) ++ []
loops_are =
    ap (loops_at (all_signatures modules)) they_stand
    ∙ ap₂ (λ (k l : List Head). map (loop_at imported_signature h.locals) k ++ (map (loop_at imported_signature g.locals) l ++ loops_at (all_signatures modules) (record { defined = count; address = 0x40002C } ∷ [])))
    (heads_of_returning (codes "h") false 0x400000) (heads_of_returning (codes "g") true 0x400016)

pub two_modules_link_example : TwoModulesLinkExample
two_modules_link_example = (
  ap (functions_at (all_signatures modules)) they_stand,
  loops_are
      ∙ ap (λ (ps : List Piece). map (loop_at counting_signature (name_at (codes "n") 22 ∷ name_at (codes "i") 96 ∷ [])) (heads_of 0x40002C (entry ∷ sequence ps ∷ [])) ++ []) counting_pieces,
  ap (λ (k : ℕ). record { address = k; signature = codes "G" } ∷ []) (labels_are (codes "say")),
  labels_are (codes "h"),
  labels_are (codes "g"),
  labels_are (codes "count"),
  labels_are (codes "say"),
)
