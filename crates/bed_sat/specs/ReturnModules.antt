-- Functions that only return a number or one of their arguments, as trees.
use Rattle.std.specs.Prelude.{◌≡◌, ℕ, Some, List, [], ◌∷◌}
use Rattle.bed_lang.specs.declared.word.Name.{Name}
use Rattle.bed_lang.specs.declared.module.Operand.{Operand}
use Rattle.bed_lang.specs.declared.module.Operand.TheVariants as operand
use Rattle.bed_lang.specs.declared.module.Signature.{Signature}
use Rattle.bed_lang.specs.declared.module.Function.{Function}
use Rattle.bed_lang.specs.declared.statement.StmtKind.{Return}
use Rattle.bed_lang.specs.Lookups.{first_signature}
use Rattle.bed_table.specs.Words.{number_of}
use Rattle.bed_sat.specs.Returns.{ReturnValue, OfNumber, OfArgument, IsReturnSignature}

-- an operand says the value: it is the number, or the local with this number, from 0
abbrev pub OperandSays : List Name → Operand → ReturnValue → Type 0
OperandSays locals a (OfNumber n) = a ≡ operand.Number n
OperandSays locals a (OfArgument i) = (x : Name) × (a ≡ operand.Local x) × (number_of locals x.bytes ≡ i)

-- the function has no locals but its arguments, its body is just `return a`, and its signature promises that value
pub record IsReturnFunction (signatures : List Signature) (f : Function) : Type 0 where
  pub signature : Signature
  pub found : first_signature signatures f.signature.bytes ≡ Some signature
  pub value : ReturnValue
  pub promises : IsReturnSignature signature value
  pub locals : f.locals ≡ []
  pub place : ℕ
  pub returned : Operand
  pub body : f.body ≡ record { at = place; kind = Return returned } ∷ []
  pub says : OperandSays signature.params returned value

abbrev pub AreReturnFunctions : List Signature → List Function → Type 0
AreReturnFunctions signatures [] = Unit {0}
AreReturnFunctions signatures (f ∷ fs) = IsReturnFunction signatures f × AreReturnFunctions signatures fs
