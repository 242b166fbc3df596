-- Code of functions that only return a number or one of their arguments.
use Rattle.std.specs.Prelude.{◌≡◌, ℕ, ◌+◌, ◌*◌, ◌≤◌, ◌<◌, Some, List, [], ◌∷◌, ◌++◌, length, slice_get}
use Rattle.bed_machine.specs.declared.registers.Reg.TheVariants.{Eax, Ecx, Ebp, Esi}
use Rattle.bed_machine.specs.declared.instructions.Rm.TheVariants.{Reg as InRegister, Mem}
use Rattle.bed_machine.specs.declared.instructions.Ins.{Ins}
use Rattle.bed_machine.specs.declared.instructions.Ins.TheVariants.{MovImm, MovTo, MovFrom, JmpReg}
use Rattle.bed_lang.specs.Numbers.{wrap}
use Rattle.bed_machine.specs.Instructions.{row}
use Rattle.bed_lang.specs.declared.word.Name.{Name}
use Rattle.bed_lang.specs.declared.word.Var.TheVariants as var
use Rattle.bed_lang.specs.declared.word.Word.{Word, Number, Var as WordVar}
use Rattle.bed_lang.specs.declared.logic.Pure.TheVariants as pure
use Rattle.bed_lang.specs.declared.logic.Term.TheVariants as term
use Rattle.bed_lang.specs.declared.module.Signature.{Signature}
use Rattle.bed_sat.specs.Sound.{FunctionAt, Linked}

-- what a function returns: a number, or the argument with this number, from 0
pub data ReturnValue : Type 0 where
  OfNumber : ℕ → ReturnValue
  OfArgument : ℕ → ReturnValue

-- mov ecx, the value: an argument stands in the frame, after the return address
abbrev pub fetch : ReturnValue → Ins
fetch (OfNumber n) = MovImm Ecx n
fetch (OfArgument i) = MovFrom Ecx (Mem Ebp (wrap (4 + 4 * i)))

-- mov [ebp+0], esi; mov ecx, the value; mov eax, ecx; mov esi, [ebp+0]; jmp esi
abbrev pub return_code : ReturnValue → List ℕ
return_code v =
    row (MovTo (Mem Ebp 0) Esi) ++ (row (fetch v) ++ (row (MovFrom Eax (InRegister Ecx))
    ++ (row (MovFrom Esi (Mem Ebp 0)) ++ row (JmpReg Esi))))

-- the parameter with number i, from 0, and no other has this name
pub record IsParameter (params : List Name) (name : List ℕ) (i : ℕ) : Type 0 where
  pub parameter : Name
  pub at : slice_get params i ≡ Some parameter
  pub named : parameter.bytes ≡ name
  pub alone : (j : ℕ) (x : Name) → slice_get params j ≡ Some x → x.bytes ≡ name → j ≡ i

-- a word says the value: it is the number, or the parameter
abbrev pub Says : List Name → Word → ReturnValue → Type 0
Says params a (OfNumber n) = (n < 4294967296) × (a ≡ Number n)
Says params a (OfArgument i) = (x : Name) × (a ≡ WordVar (var.Named x)) × IsParameter params x.bytes i

-- the precondition is just `emp`, and the postcondition just `[result = a]`, where a says the value
pub record IsReturnSignature (S : Signature) (v : ReturnValue) : Type 0 where
  pub pre_binders : S.pre.binders ≡ []
  pub pre_terms : S.pre.terms ≡ term.Emp ∷ []
  pub post_binders : S.post.binders ≡ []
  pub place : ℕ
  pub word : Word
  pub post_terms : S.post.terms ≡ term.Pure (pure.Equal (WordVar (var.Answer place)) word) ∷ []
  pub says : Says S.params word v

-- these bytes, from this address on, are the code of the functions, one right after the other
abbrev pub AreReturns : ℕ → List FunctionAt → List ℕ → Type 0
AreReturns address [] bytes = bytes ≡ []
AreReturns address (f ∷ fs) bytes =
    (v : ReturnValue) × (others : List ℕ) × (f.address ≡ address) × (bytes ≡ return_code v ++ others)
    × IsReturnSignature f.signature v × AreReturns (address + length (return_code v)) fs others

-- the code ends at or below 2^32, it is that of such functions, and there are no loops
pub record IsReturnProgram (p : Linked) : Type 0 where
  pub fits : p.code.base + length p.code.bytes ≤ 4294967296
  pub laid : AreReturns p.code.base p.functions p.code.bytes
  pub no_loops : p.loops ≡ []
