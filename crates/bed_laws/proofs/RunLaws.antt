-- Runs of blocks inside of runs of more blocks.
use Rattle.std.proofs.Common.{◌≡◌, ℕ, zero, suc, ◌<◌, ◌≤◌, Option, Some, None, List, Contains, inl, inr, ◌⊎◌, refl, sym, ◌∙◌, ap, subst, arith}
use Rattle.bed_sat.specs.Assertions.{World}
use Rattle.bed_il.specs.declared.blocks.Block.{Block}
use Rattle.bed_il.specs.BlockMachine.{BlockState, Move, Within, Returns, Calls, Strays, Faults, Missing, il_move, block_at, in_blocks}
use Rattle.bed_laws.specs.Activations.{FunctionSite, Activation}
use Rattle.bed_laws.specs.Keeps.{LoopHead, IsNow, Turns, Safe}

-- blocks and heads are among others, which have no further head at their labels
pub record Among (B : List Block) (heads : List LoopHead) (C : List Block) (all : List LoopHead) : Type 0 where
  pub at_block : (l : ℕ) (b : Block) → block_at B l ≡ Some b → block_at C l ≡ Some b
  pub at_head : (l : ℕ) (b : Block) → block_at B l ≡ Some b → (x : LoopHead) → Contains all x → l ≡ x.label → Contains heads x

pub among_trans : {B : List Block} {hb : List LoopHead} {C : List Block} {hc : List LoopHead} {D : List Block} {hd : List LoopHead} → Among B hb C hc → Among C hc D hd → Among B hb D hd
among_trans p q = record {
  at_block = λ l b e. q.at_block l b (p.at_block l b e);
  at_head = λ l b e x is same. p.at_head l b e x (q.at_head l b (p.at_block l b e) x is same) same;
}

pub some_or_none : {A : Type 0} (o : Option A) → (o ≡ None) ⊎ ((x : A) × (o ≡ Some x))
some_or_none None = inl refl
some_or_none (Some x) = inr (x, refl)

module _ (w : World) (c : FunctionSite) (places : ℕ → ℕ) (a : Activation) where
  module _ (B : List Block) (heads : List LoopHead) (C : List Block) (all : List LoopHead) (Q R : BlockState → Type 0) where
    pub turns_more : (P P2 : BlockState → Type 0) → ((t : BlockState) → P t → P2 t) → (m : Move) (s : BlockState) → Turns w c places B heads a Q P m s → Turns w c places C all a R P2 m s
    turns_more P P2 f (Within t) s p = f t p
    turns_more P P2 f Returns s p = p
    turns_more P P2 f (Calls back) s p = record { label = p.label; is_label = p.is_label; rp = p.rp; bytes = p.bytes; name = p.name; callee = p.callee; code = p.code; declared = p.declared; values = p.values; rest = p.rest; enters = p.enters; keeps = p.keeps; goes_on = λ t l n ok. f t (p.goes_on t l n ok) }
    turns_more P P2 f Strays s p = p
    turns_more P P2 f (Faults b) s p = p
    turns_more P P2 f Missing s p = p

  pub safe_now : (B : List Block) (heads : List LoopHead) (Q : BlockState → Type 0) (n : ℕ) (s : BlockState) → Safe w c places B heads a Q n s → IsNow w c places B heads a Q s
  safe_now B heads Q zero s safe = safe
  safe_now B heads Q (suc n) s safe = safe.0

  module _ (B : List Block) (heads : List LoopHead) (C : List Block) (all : List LoopHead) (among : Among B heads C all) (Q R : BlockState → Type 0) where
    link_now : (s : BlockState) (b : Block) → block_at B s.label ≡ Some b → IsNow w c places B heads a Q s → IsNow w c places C all a R s
    link_now s b e now = record {
      rest = now.rest;
      head = λ x is l n. now.head x (among.at_head s.label b e x is l) l n;
      beyond = λ none. absurd (not_none (sym (among.at_block s.label b e) ∙ none));
    }
      where
        not_none : {A : Type 0} {x : A} → Some x ≡ None → ⊥
        not_none q = cc

    same_move : (s : BlockState) (b : Block) → block_at B s.label ≡ Some b → il_move w.labels places B s ≡ il_move w.labels places C s
    same_move s b e = ap (λ o. in_blocks w.labels places o s) (e ∙ sym (among.at_block s.label b e))

    -- a run goes on in more blocks: what is reached beyond the first is safe for as many turns as are left
    pub link : (n : ℕ) → ((m : ℕ) → m ≤ n → (t : BlockState) → Q t → Safe w c places C all a R m t) → (s : BlockState) → Safe w c places B heads a Q n s → Safe w c places C all a R n s
    link zero go s safe = elim (some_or_none (block_at B s.label)) [
      | inl none ↦ go 0 (omega arith) s (safe.beyond none)
      | inr some ↦ link_now s some.0 some.1 safe
    ]
    link (suc n) go s safe = elim (some_or_none (block_at B s.label)) [
      | inl none ↦ go (suc n) (omega arith) s (safe.0.beyond none)
      | inr some ↦ (
        link_now s some.0 some.1 safe.0,
        turns_more B heads C all Q R _ _ (λ t. link n (λ m le. go m (omega arith)) t) _ s
            (subst (λ m. Turns w c places B heads a Q (Safe w c places B heads a Q n) m s) (same_move s some.0 some.1) safe.1),
      )
    ]
