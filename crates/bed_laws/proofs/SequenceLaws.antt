-- Spans of labels, and the law of a sequence.
use Rattle.std.proofs.Common.{◌≡◌, ◌≢◌, ℕ, zero, suc, ◌+◌, ◌<◌, ◌≤◌, Option, Some, None, List, [], ◌∷◌, ◌++◌, Contains, inl, inr, ◌⊎◌, refl, sym, ◌∙◌, ap, subst, arith}
use Rattle.std.proofs.lemmas.List.Folds.{find-append}
use Rattle.std.proofs.lemmas.List.Elements.{Contains-append_left, Contains-append_right, Contains-append_cases}
use Rattle.bed_lang.specs.declared.condition.Cond.{Cond}
use Rattle.bed_sat.specs.Parts.{Includes}
use Rattle.bed_sat.specs.Assertions.{World}
use Rattle.bed_sat.specs.Conditions.{Path}
use Rattle.bed_sat.proofs.PartLaws.{joins_left, joins_right, includes_trans}
use Rattle.bed_il.specs.declared.blocks.Block.{Block}
use Rattle.bed_il.specs.BlockMachine.{BlockState, block_at, in_blocks}
use Rattle.bed_laws.specs.Activations.{FunctionSite, Activation}
use Rattle.bed_laws.specs.Described.{IsSure, AreSure, Describes}
use Rattle.bed_laws.specs.Keeps.{LoopHead, IsNow, Turns, Safe, Reaches, Keeps, AllHold, Law}
use Rattle.bed_laws.specs.Spans.{Spans}
use Rattle.bed_laws.proofs.RunLaws.{Among, some_or_none, link}

some_none : {A : Type 0} {x : A} → Some x ≡ None → ⊥
some_none q = cc

-- no block has a label beyond
pub not_there : {B : List Block} {heads : List LoopHead} {lo hi : ℕ} (sp : Spans B heads lo hi) (l : ℕ) → (l < lo) ⊎ (hi ≤ l) → block_at B l ≡ None
not_there {B = B} sp l out = elim (some_or_none (block_at B l)) [
  | inl none ↦ none
  | inr some ↦ (let i = sp.blocks_in l some.0 some.1 in absurd (omega arith))
]

pub append_front : (B C : List Block) (l : ℕ) (b : Block) → block_at B l ≡ Some b → block_at (B ++ C) l ≡ Some b
append_front B C l b e = find-append _ B C ∙ rw e refl

pub append_back : (B C : List Block) (l : ℕ) (b : Block) → block_at B l ≡ None → block_at C l ≡ Some b → block_at (B ++ C) l ≡ Some b
append_back B C l b n e = find-append _ B C ∙ rw (n, e) refl

pub append_none : (B C : List Block) (l : ℕ) → block_at B l ≡ None → block_at C l ≡ None → block_at (B ++ C) l ≡ None
append_none B C l n e = find-append _ B C ∙ rw (n, e) refl

pub append_some : (B C : List Block) (l : ℕ) (b : Block) → block_at (B ++ C) l ≡ Some b → (block_at B l ≡ Some b) ⊎ (block_at C l ≡ Some b)
append_some B C l b e = elim (some_or_none (block_at B l)) [
  | inl none ↦ inr (sym (find-append _ B C ∙ rw none refl) ∙ e)
  | inr some ↦ inl (some.1 ∙ sym (append_front B C l some.0 some.1) ∙ e)
]

-- two lists of blocks in a row
module _ (B C : List Block) (hb hc : List LoopHead) (lo mid hi : ℕ) (le : lo ≤ mid) (le2 : mid ≤ hi) (sb : Spans B hb lo mid) (sc : Spans C hc mid hi) where
  pub spans_append : Spans (B ++ C) (hb ++ hc) lo hi
  spans_append = record {
    blocks_in = λ l b e. elim (append_some B C l b e) [
      | inl p ↦ (let i = sb.blocks_in l b p in omega arith)
      | inr p ↦ (let i = sc.blocks_in l b p in omega arith)
    ];
    heads_in = λ x is. elim (Contains-append_cases hb hc x is) [
      | inl p ↦ (let i = sb.heads_in x p in omega arith)
      | inr p ↦ (let i = sc.heads_in x p in omega arith)
    ];
  }

  pub among_front : Among B hb (B ++ C) (hb ++ hc)
  among_front = record {
    at_block = append_front B C;
    at_head = λ l b e x is same. elim (Contains-append_cases hb hc x is) [
      | inl p ↦ p
      | inr p ↦ (let i = sb.blocks_in l b e in let j = sc.heads_in x p in absurd (omega arith))
    ];
  }

  pub among_back : Among C hc (B ++ C) (hb ++ hc)
  among_back = record {
    at_block = λ l b e. let i = sc.blocks_in l b e in append_back B C l b (not_there sb l (inr i.0)) e;
    at_head = λ l b e x is same. elim (Contains-append_cases hb hc x is) [
      | inl p ↦ (let i = sc.blocks_in l b e in let j = sb.heads_in x p in absurd (omega arith))
      | inr p ↦ p
    ];
  }

state_rest : {c : FunctionSite} {a : Activation} {s : BlockState} (w : World) (p : Path) → Describes w c a p s → Includes s.memory a.rest
state_rest w p d = let m = d.state.memory in includes_trans (joins_right m.joins) (joins_right m.parts)

module _ (w : World) (c : FunctionSite) (places : ℕ → ℕ) where
  pub reaches_rest : (a : Activation) (next : ℕ) (to : Option Path) (t : BlockState) → Reaches w c next to a t → Includes t.memory a.rest
  reaches_rest a next None t r = absurd r
  reaches_rest a next (Some p) t r = state_rest w p r.2

  -- where control is
  pub reaches_at : (a : Activation) (next : ℕ) (to : Option Path) (t : BlockState) → Reaches w c next to a t → (t.label ≡ next) × (t.next ≡ 0)
  reaches_at a next None t r = absurd r
  reaches_at a next (Some p) t r = (r.0, r.1)

  reaches_label : (a : Activation) (next : ℕ) (to : Option Path) (t : BlockState) → Reaches w c next to a t → t.label ≡ next
  reaches_label a next None t r = absurd r
  reaches_label a next (Some p) t r = r.0

  -- a state beyond the blocks
  module _ (B : List Block) (heads : List LoopHead) (lo hi : ℕ) (sp : Spans B heads lo hi) (a : Activation) (next : ℕ) (to : Option Path) (out : (next < lo) ⊎ (hi ≤ next)) where
    exit_now : (t : BlockState) → Reaches w c next to a t → IsNow w c places B heads a (Reaches w c next to a) t
    exit_now t r = record {
      rest = reaches_rest a next to t r;
      head = λ x is l n. let i = sp.heads_in x is in let q = reaches_label a next to t r in absurd (omega arith);
      beyond = λ none. r;
    }

    pub exit_safe : (t : BlockState) → Reaches w c next to a t → (n : ℕ) → Safe w c places B heads a (Reaches w c next to a) n t
    exit_safe t r zero = exit_now t r
    exit_safe t r (suc n) = (
      exit_now t r,
      let none : block_at B t.label ≡ None = not_there sp t.label (subst (λ l. (l < lo) ⊎ (hi ≤ l)) (sym (reaches_label a next to t r)) out) in
          subst (λ o. Turns w c places B heads a (Reaches w c next to a) (Safe w c places B heads a (Reaches w c next to a) n) (in_blocks w.labels places o t) t) (sym none) tt,
    )

  pub valid_left : (cs ds : List Cond) → AllHold w c (cs ++ ds) → AllHold w c cs
  valid_left cs ds v d is = v d (Contains-append_left cs ds d is)

  pub valid_right : (cs ds : List Cond) → AllHold w c (cs ++ ds) → AllHold w c ds
  valid_right cs ds v d is = v d (Contains-append_right cs ds d is)

  -- the law of a sequence
  module _ (B C : List Block) (hb hc : List LoopHead) (lo mid hi next : ℕ) (le : lo ≤ mid) (le2 : mid ≤ hi) (sb : Spans B hb lo mid) (sc : Spans C hc mid hi) (out : (next < lo) ⊎ (hi ≤ next)) where
    pub then_law : (cb cd : List Cond) (from between : Path) (to : Option Path) → Law w c places B hb lo mid cb from (Some between) → Law w c places C hc mid next cd between to → Law w c places (B ++ C) (hb ++ hc) lo next (cb ++ cd) from to
    then_law cb cd from between to lb lc = record {
      sure = λ valid sure. lb.sure (valid_left cb cd valid) (lc.sure (valid_right cb cd valid) sure);
      keeps = λ valid sure a s reach n.
          let vb = valid_left cb cd valid in
          let vc = valid_right cb cd valid in
          link w c places a B hb (B ++ C) (hb ++ hc) (among_front B C hb hc lo mid hi le le2 sb sc) (Reaches w c mid (Some between) a) (Reaches w c next to a) n
          (λ m less t q. link w c places a C hc (B ++ C) (hb ++ hc) (among_back B C hb hc lo mid hi le le2 sb sc) (Reaches w c next to a) (Reaches w c next to a) m
          (λ k fewer u r. exit_safe (B ++ C) (hb ++ hc) lo hi (spans_append B C hb hc lo mid hi le le2 sb sc) a next to out u r k)
          t (lc.keeps vc sure a t q m))
          s (lb.keeps vb (lc.sure vc sure) a s reach n);
    }

    -- where no path comes to the second list
    pub dead_law : (cb : List Cond) (from : Path) → Law w c places B hb lo mid cb from None → Law w c places (B ++ C) (hb ++ hc) lo next (cb ++ []) from None
    dead_law cb from lb = record {
      sure = λ valid sure. lb.sure (valid_left cb [] valid) tt;
      keeps = λ valid sure a s reach n.
          link w c places a B hb (B ++ C) (hb ++ hc) (among_front B C hb hc lo mid hi le le2 sb sc) (Reaches w c mid None a) (Reaches w c next None a) n
          (λ m less t q. absurd q) s (lb.keeps (valid_left cb [] valid) tt a s reach n);
    }
