-- What the definitions say, as laws and by examples.
use Rattle.std.specs.Prelude.{◌≡◌, ℕ, true, false, ◌⊎◌, List, [], ◌∷◌, Some, None}
use Rattle.bed_lang.specs.declared.word.Name.{Name}
use Rattle.bed_lang.specs.declared.module.Module.{Module}
use Rattle.bed_lang.specs.declared.module.Operand.{Operand}
use Rattle.bed_lang.specs.declared.module.Operand.TheVariants as operand
use Rattle.bed_lang.specs.declared.module.Signature.{Signature}
use Rattle.bed_lang.specs.declared.statement.Stmt.{Stmt}
use Rattle.bed_lang.specs.declared.statement.StmtKind.{Return}
use Rattle.bed_lang.specs.Skeletons.{skeleton}
use Rattle.bed_names.specs.declared.error.NameError.{NameError}
use Rattle.bed_names.specs.declared.error.NameError.TheVariants.{Dead, StackRoom}
use Rattle.bed_names.specs.Bare.{module_is_resolved}
use Rattle.bed_names.specs.Faults.{goes_before, refusal}
use Rattle.bed_names.specs.Statements.{Surroundings, callee_faults, body_falls, body_faults}
use Rattle.bed_names.specs.Modules.{area_of}
use Rattle.bed_names.specs.Resolved.{resolved}

abbrev pub Among : NameError → List NameError → Type 0
Among f [] = ⊥
Among f (g ∷ gs) = (f ≡ g) ⊎ Among f gs

-- what is refused is a fault
abbrev pub RefusalIsFault : Type 0
RefusalIsFault = (faults : List NameError) (f : NameError) → refusal faults ≡ Some f → Among f faults

-- nothing is refused only where there is no fault
abbrev pub FaultsAreRefused : Type 0
FaultsAreRefused = (faults : List NameError) → refusal faults ≡ None → faults ≡ []

-- no fault goes before the refusal
abbrev pub NoFaultGoesBefore : Type 0
NoFaultGoesBefore =
    (faults : List NameError) (f g : NameError) → refusal faults ≡ Some f → Among g faults → goes_before g f ≡ false

-- where the names of a module are resolved, no bare argument is left
abbrev pub NoBareArgumentIsLeft : Type 0
NoBareArgumentIsLeft = (m : Module) → module_is_resolved (resolved m) ≡ true

-- resolving names changes nothing that code reads
abbrev pub ResolvingKeepsSkeletons : Type 0
ResolvingKeepsSkeletons = (m : Module) → skeleton (resolved m) ≡ skeleton m

-- return n;
abbrev pub return_at : ℕ → ℕ → Stmt
return_at at n = record { at = at; kind = Return (operand.Number n) }

-- { return 1; return 2; } is dead at the second `return`, and doesn't fall through
abbrev pub SecondReturnIsDead : Type 0
SecondReturnIsDead =
    (i : Surroundings) (first second : ℕ)
    → (body_faults i (return_at first 1 ∷ return_at second 2 ∷ []) ≡ Dead second ∷ [])
    × (body_falls i (return_at first 1 ∷ return_at second 2 ∷ []) ≡ false)

-- a caller with one local and `reserving 3` may call a function of one argument with `reserving 0`; one with `reserving 1`
-- needs 3 words and there are 2
abbrev pub CallsNeedRoom : Type 0
CallsNeedRoom =
    (caller callee : Signature) (local x : Name) (a : Operand) (at : ℕ) → caller.reserve ≡ 3 → callee.params ≡ x ∷ []
    → (callee.reserve ≡ 0 → callee_faults (area_of (Some caller) (local ∷ [])) (Some callee) (a ∷ []) at ≡ [])
    × (callee.reserve ≡ 1
    → callee_faults (area_of (Some caller) (local ∷ [])) (Some callee) (a ∷ []) at ≡ StackRoom at 3 2 ∷ [])
