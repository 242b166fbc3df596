-- Where a turn leads: to a label that the blocks name.
use Rattle.std.proofs.Common.{◌≡◌, ℕ, zero, suc, ◌+◌, Bool, true, false, if◌then◌else◌, Option, Some, None, Result, Ok, Err, List, [], ◌∷◌, ◌++◌, Contains, inl, inr, refl, sym, ap, subst, arith}
use Rattle.std.proofs.lemmas.List.Elements.{Contains-append_left, Contains-append_right}
use Rattle.bed_machine.specs.declared.registers.Reg.{Reg}
use Rattle.bed_machine.specs.declared.registers.Reg.TheVariants.{Eax, Ecx, Edx, Ebx, Esp, Ebp, Esi, Edi}
use Rattle.bed_il.specs.declared.blocks.Inst.{Inst}
use Rattle.bed_il.specs.declared.blocks.Inst.TheVariants.{SaveReturn, Fetch, Keep, KeepAnswer, Apply, LoadWord, LoadByte, StoreWord, StoreByte, RaiseSp, LowerSp, ReturnTo, SetAnswer, TakeReturn}
use Rattle.bed_il.specs.declared.blocks.Jump.{Jump}
use Rattle.bed_il.specs.declared.blocks.Jump.TheVariants.{Goto, Fall, Test, Register}
use Rattle.bed_il.specs.declared.blocks.Block.{Block}
use Rattle.bed_il.specs.BlockMachine.{BlockState, Within, Returns, Calls, Strays, Faults, Missing, il_move, to_next, follows, in_block, in_blocks, compares, block_at, back_label}
use Rattle.bed_il.specs.Fit.{back_labels, jump_labels, named_labels}
use Rattle.bed_layout.proofs.PlaceLemmas.{found_cases, none_some, some_same}

pub within_same : {x y : BlockState} → Within x ≡ Within y → x ≡ y
within_same z = cc

pub calls_same : {o x : Option ℕ} → Calls o ≡ Calls x → o ≡ x
calls_same z = cc

pub returns_within : {x : BlockState} → Returns ≡ Within x → ⊥
returns_within z = cc

pub calls_within : {o : Option ℕ} {x : BlockState} → Calls o ≡ Within x → ⊥
calls_within z = cc

pub strays_within : {x : BlockState} → Strays ≡ Within x → ⊥
strays_within z = cc

pub faults_within : {a : ℕ} {x : BlockState} → Faults a ≡ Within x → ⊥
faults_within z = cc

missing_within : {x : BlockState} → Missing ≡ Within x → ⊥
missing_within z = cc

within_returns : {x : BlockState} → Within x ≡ Returns → ⊥
within_returns z = cc

calls_returns : {o : Option ℕ} → Calls o ≡ Returns → ⊥
calls_returns z = cc

strays_returns : Strays ≡ Returns → ⊥
strays_returns z = cc

faults_returns : {a : ℕ} → Faults a ≡ Returns → ⊥
faults_returns z = cc

within_calls : {x : BlockState} {o : Option ℕ} → Within x ≡ Calls o → ⊥
within_calls z = cc

returns_calls : {o : Option ℕ} → Returns ≡ Calls o → ⊥
returns_calls z = cc

strays_calls : {o : Option ℕ} → Strays ≡ Calls o → ⊥
strays_calls z = cc

faults_calls : {a : ℕ} {o : Option ℕ} → Faults a ≡ Calls o → ⊥
faults_calls z = cc

missing_calls : {o : Option ℕ} → Missing ≡ Calls o → ⊥
missing_calls z = cc

-- a jump by a register isn't within the blocks

pub register_within : (r : Reg) (is : List Inst) (s t : BlockState) → follows (Register r) is s ≡ Within t → ⊥
register_within Eax is s t e = strays_within e
register_within Ecx is s t e = strays_within e
register_within Edx is s t e = calls_within e
register_within Ebx is s t e = strays_within e
register_within Esp is s t e = strays_within e
register_within Ebp is s t e = strays_within e
register_within Esi is s t e = returns_within e
register_within Edi is s t e = strays_within e

register_returns : (r : Reg) (is : List Inst) (s : BlockState) → follows (Register r) is s ≡ Returns → r ≡ Esi
register_returns Eax is s e = absurd (strays_returns e)
register_returns Ecx is s e = absurd (strays_returns e)
register_returns Edx is s e = absurd (calls_returns e)
register_returns Ebx is s e = absurd (strays_returns e)
register_returns Esp is s e = absurd (strays_returns e)
register_returns Ebp is s e = absurd (strays_returns e)
register_returns Esi is s e = refl
register_returns Edi is s e = absurd (strays_returns e)

register_calls : (r : Reg) (is : List Inst) (s : BlockState) (o : Option ℕ) → follows (Register r) is s ≡ Calls o → (r ≡ Edx) × (back_label is ≡ o)
register_calls Eax is s o e = absurd (strays_calls e)
register_calls Ecx is s o e = absurd (strays_calls e)
register_calls Edx is s o e = (refl, calls_same e)
register_calls Ebx is s o e = absurd (strays_calls e)
register_calls Esp is s o e = absurd (strays_calls e)
register_calls Ebp is s o e = absurd (strays_calls e)
register_calls Esi is s o e = absurd (returns_calls e)
register_calls Edi is s o e = absurd (strays_calls e)

pub jump_returns : (j : Jump) (is : List Inst) (s : BlockState) → follows j is s ≡ Returns → j ≡ Register Esi
jump_returns (Goto k) is s e = absurd (within_returns e)
jump_returns (Fall k) is s e = absurd (within_returns e)
jump_returns (Test r y n) is s e = absurd (within_returns e)
jump_returns (Register r) is s e = ap Register (register_returns r is s e)

pub jump_calls : (j : Jump) (is : List Inst) (s : BlockState) (o : Option ℕ) → follows j is s ≡ Calls o → (j ≡ Register Edx) × (back_label is ≡ o)
jump_calls (Goto k) is s o e = absurd (within_calls e)
jump_calls (Fall k) is s o e = absurd (within_calls e)
jump_calls (Test r y n) is s o e = absurd (within_calls e)
jump_calls (Register r) is s o e = let c = register_calls r is s o e in (ap Register c.0, c.1)

pub inst_returns : (r : Result BlockState ℕ) → to_next r ≡ Returns → ⊥
inst_returns (Ok v) e = within_returns e
inst_returns (Err x) e = faults_returns e

pub inst_calls : (r : Result BlockState ℕ) (o : Option ℕ) → to_next r ≡ Calls o → ⊥
inst_calls (Ok v) o e = within_calls e
inst_calls (Err x) o e = faults_calls e

pub inst_within : (r : Result BlockState ℕ) (t : BlockState) → to_next r ≡ Within t → (v : BlockState) × (r ≡ Ok v) × (t ≡ record v { next = v.next + 1 })
inst_within (Ok v) t e = (v, refl, sym (within_same e))
inst_within (Err x) t e = absurd (faults_within e)

-- which labels a jump and a call name

first_of_two : {x y : ℕ} → Contains (x ∷ y ∷ []) x
first_of_two = (zero, omega arith, refl)

second_of_two : {x y : ℕ} → Contains (x ∷ y ∷ []) y
second_of_two = (suc zero, omega arith, refl)

only_one : {x : ℕ} → Contains (x ∷ []) x
only_one = (zero, omega arith, refl)

by_test : (b : Bool) (y n l : ℕ) → (if b then y else n) ≡ l → Contains (y ∷ n ∷ []) l
by_test true y n l e = subst (Contains (y ∷ n ∷ [])) e first_of_two
by_test false y n l e = subst (Contains (y ∷ n ∷ [])) e second_of_two

jump_names : (j : Jump) (is : List Inst) (s t : BlockState) → follows j is s ≡ Within t → Contains (jump_labels j) t.label
jump_names (Goto k) is s t e = subst (Contains (k ∷ [])) (ap (λ (x : BlockState). x.label) (within_same e)) only_one
jump_names (Fall k) is s t e = subst (Contains (k ∷ [])) (ap (λ (x : BlockState). x.label) (within_same e)) only_one
jump_names (Test r y n) is s t e = by_test (compares r s.first s.second) y n t.label (ap (λ (x : BlockState). x.label) (within_same e))
jump_names (Register r) is s t e = absurd (register_within r is s t e)

pub back_named : (is : List Inst) (k : ℕ) → back_label is ≡ Some k → Contains (back_labels is) k
back_named [] k e = absurd (none_some e)
back_named (ReturnTo l ∷ is) k e = (zero, omega arith, some_same e)
back_named (SaveReturn ∷ is) k e = back_named is k e
back_named (Fetch into value ∷ is) k e = back_named is k e
back_named (Keep d ∷ is) k e = back_named is k e
back_named (KeepAnswer d ∷ is) k e = back_named is k e
back_named (Apply o ∷ is) k e = back_named is k e
back_named (LoadWord d ∷ is) k e = back_named is k e
back_named (LoadByte d ∷ is) k e = back_named is k e
back_named (StoreWord d ∷ is) k e = back_named is k e
back_named (StoreByte d ∷ is) k e = back_named is k e
back_named (RaiseSp n ∷ is) k e = back_named is k e
back_named (LowerSp n ∷ is) k e = back_named is k e
back_named (SetAnswer ∷ is) k e = back_named is k e
back_named (TakeReturn ∷ is) k e = back_named is k e

-- a label to which a ReturnTo among the instructions leads
pub return_named : (is : List Inst) (k : ℕ) → Contains is (ReturnTo k) → Contains (back_labels is) k
return_named [] k h = let lt = h.1 in absurd (omega arith)
return_named (ReturnTo l ∷ is) k (zero, lt, e) = (zero, omega arith, to_same e)
  where
    to_same : {x y : ℕ} → ReturnTo x ≡ ReturnTo y → x ≡ y
    to_same z = cc
return_named (ReturnTo l ∷ is) k (suc j, lt, e) = let m = return_named is k (j, omega arith, e) in (suc m.0, omega (arith, m.1), m.2)
return_named (SaveReturn ∷ is) k (zero, lt, e) = absurd (cc)
return_named (SaveReturn ∷ is) k (suc j, lt, e) = return_named is k (j, omega arith, e)
return_named (Fetch into value ∷ is) k (zero, lt, e) = absurd (cc)
return_named (Fetch into value ∷ is) k (suc j, lt, e) = return_named is k (j, omega arith, e)
return_named (Keep d ∷ is) k (zero, lt, e) = absurd (cc)
return_named (Keep d ∷ is) k (suc j, lt, e) = return_named is k (j, omega arith, e)
return_named (KeepAnswer d ∷ is) k (zero, lt, e) = absurd (cc)
return_named (KeepAnswer d ∷ is) k (suc j, lt, e) = return_named is k (j, omega arith, e)
return_named (Apply o ∷ is) k (zero, lt, e) = absurd (cc)
return_named (Apply o ∷ is) k (suc j, lt, e) = return_named is k (j, omega arith, e)
return_named (LoadWord d ∷ is) k (zero, lt, e) = absurd (cc)
return_named (LoadWord d ∷ is) k (suc j, lt, e) = return_named is k (j, omega arith, e)
return_named (LoadByte d ∷ is) k (zero, lt, e) = absurd (cc)
return_named (LoadByte d ∷ is) k (suc j, lt, e) = return_named is k (j, omega arith, e)
return_named (StoreWord d ∷ is) k (zero, lt, e) = absurd (cc)
return_named (StoreWord d ∷ is) k (suc j, lt, e) = return_named is k (j, omega arith, e)
return_named (StoreByte d ∷ is) k (zero, lt, e) = absurd (cc)
return_named (StoreByte d ∷ is) k (suc j, lt, e) = return_named is k (j, omega arith, e)
return_named (RaiseSp n ∷ is) k (zero, lt, e) = absurd (cc)
return_named (RaiseSp n ∷ is) k (suc j, lt, e) = return_named is k (j, omega arith, e)
return_named (LowerSp n ∷ is) k (zero, lt, e) = absurd (cc)
return_named (LowerSp n ∷ is) k (suc j, lt, e) = return_named is k (j, omega arith, e)
return_named (SetAnswer ∷ is) k (zero, lt, e) = absurd (cc)
return_named (SetAnswer ∷ is) k (suc j, lt, e) = return_named is k (j, omega arith, e)
return_named (TakeReturn ∷ is) k (zero, lt, e) = absurd (cc)
return_named (TakeReturn ∷ is) k (suc j, lt, e) = return_named is k (j, omega arith, e)

-- what a block names, the blocks name
pub block_names : (B : List Block) (l : ℕ) (b : Block) (k : ℕ) → block_at B l ≡ Some b → Contains (back_labels b.insts ++ jump_labels b.jump) k → Contains (named_labels B) k
block_names [] l b k found is = absurd (none_some found)
block_names (d ∷ B) l b k found is = elim (found_cases d B l b found) [
  | inl r ↦ Contains-append_left (back_labels d.insts ++ jump_labels d.jump) (named_labels B) k (subst (λ (z : Block). Contains (back_labels z.insts ++ jump_labels z.jump) k) (sym r.1) is)
  | inr r ↦ Contains-append_right (back_labels d.insts ++ jump_labels d.jump) (named_labels B) k (block_names B l b k r.1 is)
]

pub jump_named : (B : List Block) (l : ℕ) (b : Block) (k : ℕ) → block_at B l ≡ Some b → Contains (jump_labels b.jump) k → Contains (named_labels B) k
jump_named B l b k found is = block_names B l b k found (Contains-append_right (back_labels b.insts) (jump_labels b.jump) k is)

pub call_named : (B : List Block) (l : ℕ) (b : Block) (k : ℕ) → block_at B l ≡ Some b → Contains (back_labels b.insts) k → Contains (named_labels B) k
call_named B l b k found is = block_names B l b k found (Contains-append_left (back_labels b.insts) (jump_labels b.jump) k is)

-- a turn to the first instruction of a block goes to a label that is named

module _ (functions : List ℕ → ℕ) (places : ℕ → ℕ) where
  to_first : (r : Result BlockState ℕ) (t : BlockState) → to_next r ≡ Within t → t.next ≡ 0 → ⊥
  to_first r t e z = let v = inst_within r t e in let q = ap (λ (x : BlockState). x.next) v.2 in absurd (omega arith)

  block_targets : (i : Option Inst) (b : Block) (s t : BlockState) → in_block functions places i b s ≡ Within t → t.next ≡ 0 → Contains (jump_labels b.jump) t.label
  block_targets None b s t e z = jump_names b.jump b.insts s t e
  block_targets (Some i) b s t e z = absurd (to_first _ t e z)

  targets : (o : Option Block) (s t : BlockState) → in_blocks functions places o s ≡ Within t → t.next ≡ 0 → (b : Block) × (o ≡ Some b) × Contains (jump_labels b.jump) t.label
  targets None s t e z = absurd (missing_within e)
  targets (Some b) s t e z = (b, refl, block_targets _ b s t e z)

  pub within_named : (B : List Block) (s t : BlockState) → il_move functions places B s ≡ Within t → t.next ≡ 0 → Contains (named_labels B) t.label
  within_named B s t e z = let r = targets _ s t e z in jump_named B s.label r.0 t.label r.1 r.2

  block_calls : (i : Option Inst) (b : Block) (s : BlockState) (o : Option ℕ) → in_block functions places i b s ≡ Calls o → back_label b.insts ≡ o
  block_calls None b s o e = (jump_calls b.jump b.insts s o e).1
  block_calls (Some i) b s o e = absurd (inst_calls _ o e)

  calls_from : (x : Option Block) (s : BlockState) (o : Option ℕ) → in_blocks functions places x s ≡ Calls o → (b : Block) × (x ≡ Some b) × (back_label b.insts ≡ o)
  calls_from None s o e = absurd (missing_calls e)
  calls_from (Some b) s o e = (b, refl, block_calls _ b s o e)

  -- a call comes back to a label that is named
  pub calls_named : (B : List Block) (s : BlockState) (label : ℕ) → il_move functions places B s ≡ Calls (Some label) → Contains (named_labels B) label
  calls_named B s label e = let r = calls_from _ s (Some label) e in call_named B s.label r.0 label r.1 (back_named r.0.insts label r.2)
