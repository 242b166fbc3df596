-- Code that is functions laid out one right after the other.
use Rattle.std.specs.Prelude.{◌≡◌, ℕ, ◌+◌, ◌≤◌, ◌<◌, Some, List, length, map, Contains}
use Rattle.bed_lang.specs.Lookups.{signature_named}
use Rattle.bed_sat.specs.Sound.{FunctionAt, LoopAt, Linked}
use Rattle.bed_il.specs.declared.blocks.Inst.TheVariants.{LowerSp}
use Rattle.bed_il.specs.declared.blocks.Block.{Block}
use Rattle.bed_il.specs.Fit.{FitFunction, HasCode}
use Rattle.bed_laws.specs.Keeps.{LoopHead}
use Rattle.bed_layout.specs.Functions.{BlockFunction, places_in, code_bytes, StandFrom}

-- a function of the modules is one of these, with its address and signature
pub record IsFunctionOf (fs : List BlockFunction) (h : FunctionAt) : Type 0 where
  pub function : BlockFunction
  pub listed : Contains fs function
  pub address : function.address ≡ h.address
  pub signature : function.site.signature ≡ h.signature

-- a loop of the modules is one of a function among these, with its address, its function's signature and locals, and its invariant
pub record IsLoopOf (fs : List BlockFunction) (l : LoopAt) : Type 0 where
  pub function : BlockFunction
  pub listed : Contains fs function
  pub head : LoopHead
  pub among : Contains function.heads head
  pub address : places_in function head.label ≡ l.address
  pub signature : function.site.signature ≡ l.signature
  pub locals : function.site.site.locals ≡ l.locals
  pub invariant : head.invariant ≡ l.invariant

-- Code is made of these functions, one right after the other from its base, and ends at or below 2^32. Their blocks fit, and the block
-- of each loop's head has instructions, so that control is at the head's address there alone. The functions and loops of the modules
-- are theirs, and each signature is the declared one of its name.
pub record IsPlaced (p : Linked) (fs : List BlockFunction) : Type 0 where
  pub bytes : p.code.bytes ≡ code_bytes p.labels (map (λ (f : BlockFunction). f.blocks) fs) p.code.base
  pub stand : StandFrom fs p.code.base
  pub end : p.code.base + length p.code.bytes ≤ 4294967296
  pub fit : (f : BlockFunction) → Contains fs f → FitFunction f.blocks f.entry
  pub heads : (f : BlockFunction) → Contains fs f → (x : LoopHead) → Contains f.heads x → HasCode f.blocks x.label
  pub words : (f : BlockFunction) → Contains fs f → (b : Block) → Contains f.blocks b → (n : ℕ) → Contains b.insts (LowerSp n) → n < 4294967296
  pub functions : (h : FunctionAt) → Contains p.functions h → IsFunctionOf fs h
  pub loops : (l : LoopAt) → Contains p.loops l → IsLoopOf fs l
  pub declared : (h : FunctionAt) → Contains p.functions h → signature_named p.decls h.signature.name.bytes ≡ Some h.signature
