-- The second law: of a sequence, and of the statements without statements in them.
use Rattle.std.proofs.Common.{◌≡◌, ◌≢◌, ℕ, zero, suc, ◌+◌, ◌-◌, ◌*◌, ◌<◌, ◌≤◌, Bool, true, false, Option, Some, None, IsSome, List, [], ◌∷◌, ◌++◌, map, length, nat_eq, if◌then◌else◌, Contains, inl, inr, ◌⊎◌, refl, sym, ◌∙◌, ap, ap₂, subst, arith, append_assoc}
use Rattle.std.proofs.lemmas.List.{append-nil}
use Rattle.std.proofs.lemmas.List.Elements.{Contains-append_cases}
use Rattle.std.proofs.lemmas.Bool.Decides.{nat_tests}
use Rattle.bed_lang.specs.Numbers.{wrap, word_bytes}
use Rattle.bed_machine.specs.Instructions.{row}
use Rattle.bed_machine.specs.declared.registers.Reg.TheVariants.{Edx, Esi}
use Rattle.bed_lang.specs.declared.word.Name.{Name}
use Rattle.bed_lang.specs.declared.module.Op.{Op}
use Rattle.bed_lang.specs.declared.module.Op.TheVariants as op
use Rattle.bed_lang.specs.declared.module.Operand.{Operand}
use Rattle.bed_lang.specs.declared.module.Operand.TheVariants as operand
use Rattle.bed_lang.specs.declared.module.Place.{Place}
use Rattle.bed_table.specs.Pieces.{Piece, Head, nothing}
use Rattle.bed_table.specs.CodeTable as table
use Rattle.bed_il.specs.declared.blocks.Scratch.TheVariants.{First, Second}
use Rattle.bed_il.specs.declared.blocks.Inst.{Inst}
use Rattle.bed_il.specs.declared.blocks.Inst.TheVariants.{Fetch, Apply}
use Rattle.bed_il.specs.declared.blocks.Jump.TheVariants.{Fall}
use Rattle.bed_il.specs.declared.blocks.Block.{Block}
use Rattle.bed_il.specs.BlockMachine.{block_at}
use Rattle.bed_il.specs.Bytes.{ins_of, insts_bytes, jump_bytes, block_bytes, laid}
use Rattle.bed_il.specs.Places.{inst_size, insts_size, block_size, blocks_size, place_of, ArePlaced}
use Rattle.bed_il.specs.Fit.{back_labels, first_label, Fit, HasCode}
use Rattle.bed_il.proofs.PlaceLaws.{laid_append, size_append, place_front, place_back, place_first, block_size_is}
use Rattle.bed_laws.specs.Keeps.{LoopHead}
use Rattle.bed_laws.specs.Spans.{Spans}
use Rattle.bed_laws.specs.Lays.{behind, Lays}
use Rattle.bed_laws.specs.StatementBlocks.{value_of, falling, keep, assign_block, compute_block, load_block, load_byte_block, store_block, store_byte_block, return_block, empty_block}
use Rattle.bed_laws.proofs.SequenceLaws.{not_there, append_front, append_back}
use Rattle.bed_laws.proofs.TestLaws.{one_block, no_heads, only_one}
use Rattle.bed_laws.proofs.FitLaws.{fit_behind, fit_in, fit_of, one_in, fit_append, some_is}

-- the address of a loop's head, with its invariant
abbrev pub head_at : (ℕ → ℕ) → LoopHead → Head
head_at places x = record { address = places x.label; invariant = x.invariant }

-- blocks are a piece where they are one with the same size, bytes, heads and end
pub lays_same : (locals : List Name) (B : List Block) (heads : List LoopHead) (first next : ℕ) (p q : Piece) → p.falls ≡ q.falls → p.size ≡ q.size
    → ((functions : List ℕ → ℕ) (at : ℕ) → p.bytes locals functions at ≡ q.bytes locals functions at) → ((at : ℕ) → p.heads at ≡ q.heads at)
    → Lays locals B heads first next p → Lays locals B heads first next q
lays_same locals B heads first next p q falls size bytes at_heads l = record {
  size = l.size ∙ size;
  begins = l.begins;
  bytes = λ functions places at are after. l.bytes functions places at are (after ∙ ap (λ n. at + n) (sym size)) ∙ bytes functions at;
  at_heads = λ places at are. l.at_heads places at are ∙ at_heads at;
  fit = subst (λ f. Fit B (behind f next)) falls l.fit;
  code = l.code;
}

-- ---- a sequence

pub front_placed : (B C : List Block) (places : ℕ → ℕ) (at : ℕ) → ArePlaced (B ++ C) at places → ArePlaced B at places
front_placed B C places at are l b found = are l b (append_front B C l b found) ∙ place_front B C at l b found

pub back_placed : (B C : List Block) (hb hc : List LoopHead) (lo mid hi : ℕ) → Spans B hb lo mid → Spans C hc mid hi → (places : ℕ → ℕ) (at : ℕ) → ArePlaced (B ++ C) at places → ArePlaced C (at + blocks_size B) places
back_placed B C hb hc lo mid hi sb sc places at are l d found =
    let i = sc.blocks_in l d found in
    let none = not_there sb l (inr i.0) in
    are l d (append_back B C l d none found) ∙ place_back B C at l none

no_label : {A : Type 0} {l : ℕ} → ◌≡◌ {A = Option ℕ} None (Some l) → A
no_label e = absurd cc

same_label : {k l : ℕ} → ◌≡◌ {A = Option ℕ} (Some k) (Some l) → k ≡ l
same_label e = cc

-- the first block has its label, and stands first
pub first_found : (B : List Block) (first : ℕ) → first_label B None ≡ Some first → (b : Block) × (block_at B first ≡ Some b)
first_found [] first e = no_label e
first_found (b ∷ B) first e = (b, (let t : nat_eq b.label first ≡ true = (let same = same_label e in grind (arith, nat_tests)) in rw t refl))

pub first_place : (B : List Block) (first : ℕ) → first_label B None ≡ Some first → (at : ℕ) → place_of B at first ≡ at
first_place [] first e at = no_label e
first_place (b ∷ B) first e at = place_first b B at first (same_label e)

pub first_placed : (B : List Block) (first : ℕ) → first_label B None ≡ Some first → (places : ℕ → ℕ) (at : ℕ) → ArePlaced B at places → places first ≡ at
first_placed B first e places at are = let f = first_found B first e in are first f.0 f.1 ∙ first_place B first e at

pub first_any : (B : List Block) (first : ℕ) (after : Option ℕ) → first_label B None ≡ Some first → first_label B after ≡ Some first
first_any [] first after e = no_label e
first_any (b ∷ B) first after e = e

pub first_front : (B C : List Block) (first : ℕ) → first_label B None ≡ Some first → first_label (B ++ C) None ≡ Some first
first_front [] C first e = no_label e
first_front (b ∷ B) C first e = e

pub has_code_front : (B C : List Block) (l : ℕ) → HasCode B l → HasCode (B ++ C) l
has_code_front B C l h = record { block = h.block; found = append_front B C l h.block h.found; some = h.some }

pub has_code_back : (B C : List Block) (hb hc : List LoopHead) (lo mid hi : ℕ) → Spans B hb lo mid → Spans C hc mid hi → (l : ℕ) → HasCode C l → HasCode (B ++ C) l
has_code_back B C hb hc lo mid hi sb sc l h =
    let i = sc.blocks_in l h.block h.found in
    record { block = h.block; found = append_back B C l h.block (not_there sb l (inr i.0)) h.found; some = h.some }

pub map_append : {A B : Type 0} (f : A → B) (xs ys : List A) → map f (xs ++ ys) ≡ map f xs ++ map f ys
map_append f [] ys = refl
map_append f (x ∷ xs) ys = ap (λ l. f x ∷ l) (map_append f xs ys)

module _ (locals : List Name) where
  -- two lists of blocks in a row
  module _ (B C : List Block) (hb hc : List LoopHead) (lo mid hi next : ℕ) (sb : Spans B hb lo mid) (sc : Spans C hc mid hi) (p q : Piece)
      (lb : Lays locals B hb lo mid p) (lc : Lays locals C hc mid next q) where
    -- the pieces in a row
    abbrev pub both : Piece
    both = record {
      falls = q.falls;
      size = p.size + q.size;
      bytes = λ locals functions at. p.bytes locals functions at ++ q.bytes locals functions (at + p.size);
      heads = λ at. p.heads at ++ q.heads (at + p.size);
    }

    behind_placed : (places : ℕ → ℕ) (at : ℕ) → ArePlaced (B ++ C) at places → ArePlaced C (at + p.size) places
    behind_placed places at are = subst (λ n. ArePlaced C (at + n) places) lb.size (back_placed B C hb hc lo mid hi sb sc places at are)

    both_code : (x : LoopHead) → Contains (hb ++ hc) x → HasCode (B ++ C) x.label
    both_code x is = elim (Contains-append_cases hb hc x is) [
      | inl i ↦ has_code_front B C x.label (lb.code x i)
      | inr i ↦ has_code_back B C hb hc lo mid hi sb sc x.label (lc.code x i)
    ]

    pub then_lays : Lays locals (B ++ C) (hb ++ hc) lo next both
    then_lays = record {
      size = size_append B C ∙ ap₂ (λ a b. a + b) lb.size lc.size;
      begins = first_front B C lo lb.begins;
      bytes = λ functions places at are after.
          let back = behind_placed places at are in
          let at_mid : places mid ≡ at + p.size = first_placed C mid lc.begins places (at + p.size) back in
          laid_append functions places B C at
          ∙ ap₂ (λ x y. x ++ y) (lb.bytes functions places at (front_placed B C places at are) at_mid)
          (ap (λ n. laid functions places C (at + n)) lb.size ∙ lc.bytes functions places (at + p.size) back (omega arith));
      at_heads = λ places at are.
          map_append (head_at places) hb hc
          ∙ ap₂ (λ x y. x ++ y) (lb.at_heads places at (front_placed B C places at are)) (lc.at_heads places (at + p.size) (behind_placed places at are));
      fit = fit_of (λ l. ⊥) (B ++ C) (behind q.falls next) (λ l is. absurd is)
          (fit_append (λ l. ⊥) B C hb hc lo mid hi (behind q.falls next) sb sc (first_any C mid _ lc.begins) (let f = first_found C mid lc.begins in some_is f.1)
          (fit_in (λ l. ⊥) B (Some mid) (fit_behind B p.falls mid lb.fit)) (fit_in (λ l. ⊥) C (behind q.falls next) lc.fit));
      code = both_code;
    }

  -- ---- one block

  pub fetch_size : (o : Operand) → inst_size (Fetch First (value_of locals o)) ≡ table.operand_size o
  fetch_size (operand.Number n) = refl
  fetch_size (operand.Local x) = refl
  fetch_size (operand.Label f) = refl

  pub fetch_size2 : (o : Operand) → inst_size (Fetch Second (value_of locals o)) ≡ table.operand_size o
  fetch_size2 (operand.Number n) = refl
  fetch_size2 (operand.Local x) = refl
  fetch_size2 (operand.Label f) = refl

  pub into_first : (functions : List ℕ → ℕ) (places : ℕ → ℕ) (o : Operand) → row (ins_of functions places (Fetch First (value_of locals o))) ≡ table.into_ecx locals functions o
  into_first functions places (operand.Number n) = refl
  into_first functions places (operand.Local x) = refl
  into_first functions places (operand.Label f) = refl

  pub into_second : (functions : List ℕ → ℕ) (places : ℕ → ℕ) (o : Operand) → row (ins_of functions places (Fetch Second (value_of locals o))) ≡ table.into_edx locals functions o
  into_second functions places (operand.Number n) = refl
  into_second functions places (operand.Local x) = refl
  into_second functions places (operand.Label f) = refl

  operation_row : (functions : List ℕ → ℕ) (places : ℕ → ℕ) (o : Op) → row (ins_of functions places (Apply o)) ≡ table.operation o
  operation_row functions places op.Add = refl
  operation_row functions places op.Sub = refl
  operation_row functions places op.Mul = refl
  operation_row functions places op.And = refl
  operation_row functions places op.Or = refl
  operation_row functions places op.Xor = refl

  operation_size : (o : Op) → inst_size (Apply o) ≡ table.operation_size o
  operation_size op.Add = refl
  operation_size op.Sub = refl
  operation_size op.Mul = refl
  operation_size op.And = refl
  operation_size op.Or = refl
  operation_size op.Xor = refl

  -- a block that falls on is a piece with its size and bytes
  pub falling_lays : (insts : List Inst) (first next : ℕ) (p : Piece) → back_labels insts ≡ [] → p.falls ≡ true → ((at : ℕ) → p.heads at ≡ []) → insts_size insts ≡ p.size
      → ((functions : List ℕ → ℕ) (places : ℕ → ℕ) (at : ℕ) → insts_bytes functions places insts ≡ p.bytes locals functions at)
      → Lays locals (falling first insts next ∷ []) [] first next p
  falling_lays insts first next p backs falls none size bytes = record {
    size = (let e : insts_size insts + 0 + 0 ≡ insts_size insts = omega arith in e) ∙ size;
    begins = refl;
    bytes = λ functions places at are after. append-nil (block_bytes functions places (falling first insts next) at) ∙ append-nil (insts_bytes functions places insts) ∙ bytes functions places at;
    at_heads = λ places at are. sym (none at);
    fit = subst (λ f. Fit (falling first insts next ∷ []) (behind f next)) (sym falls)
        (fit_of (λ l. ⊥) (falling first insts next ∷ []) (Some next) (λ l is. absurd is)
        (one_in (λ l. ⊥) (falling first insts next) (Some next) (λ l is. inl (ap Some (only_one (subst (λ ls. Contains (ls ++ next ∷ []) l) backs is)))) refl tt));
    code = λ x is. no_heads x is;
  }

  module _ (first next : ℕ) where
    pub assign_lays : (x : Name) (a : Operand) → Lays locals (assign_block locals x a first next ∷ []) [] first next (table.assignment x a)
    assign_lays x a =
        falling_lays (assign_block locals x a first next).insts first next (table.assignment x a) refl refl (λ at. refl) (let e = fetch_size a in omega arith)
        (λ functions places at. ap (λ l. l ++ table.keep_ecx locals x) (into_first functions places a))

    pub compute_lays : (x : Name) (o : Op) (a b : Operand) → Lays locals (compute_block locals x o a b first next ∷ []) [] first next (table.computation x o a b)
    compute_lays x o a b =
        falling_lays (compute_block locals x o a b first next).insts first next (table.computation x o a b) refl refl (λ at. refl)
        (let e = fetch_size a in let f = fetch_size2 b in let g = operation_size o in omega arith)
        (λ functions places at.
        ap₂ (λ k l. k ++ l) (into_first functions places a)
        (ap₂ (λ k l. k ++ l) (into_second functions places b) (ap (λ l. l ++ table.keep_ecx locals x) (operation_row functions places o))))

    pub load_lays : (x : Name) (p : Place) → Lays locals (load_block locals x p first next ∷ []) [] first next (table.load x p)
    load_lays x p =
        falling_lays (load_block locals x p first next).insts first next (table.load x p) refl refl (λ at. refl) (let e = fetch_size p.base in omega arith)
        (λ functions places at. ap (λ l. l ++ ((0x8B ∷ 0x89 ∷ word_bytes p.disp) ++ table.keep_ecx locals x)) (into_first functions places p.base))

    pub load_byte_lays : (x : Name) (p : Place) → Lays locals (load_byte_block locals x p first next ∷ []) [] first next (table.load_byte x p)
    load_byte_lays x p =
        falling_lays (load_byte_block locals x p first next).insts first next (table.load_byte x p) refl refl (λ at. refl) (let e = fetch_size p.base in omega arith)
        (λ functions places at. ap (λ l. l ++ ((0x0F ∷ 0xB6 ∷ 0x89 ∷ word_bytes p.disp) ++ table.keep_ecx locals x)) (into_first functions places p.base))

    pub store_lays : (p : Place) (a : Operand) → Lays locals (store_block locals p a first next ∷ []) [] first next (table.store p a)
    store_lays p a =
        falling_lays (store_block locals p a first next).insts first next (table.store p a) refl refl (λ at. refl) (let e = fetch_size p.base in let f = fetch_size2 a in omega arith)
        (λ functions places at. ap₂ (λ k l. k ++ (l ++ (0x89 ∷ 0x91 ∷ word_bytes p.disp))) (into_first functions places p.base) (into_second functions places a))

    pub store_byte_lays : (p : Place) (a : Operand) → Lays locals (store_byte_block locals p a first next ∷ []) [] first next (table.store_byte p a)
    store_byte_lays p a =
        falling_lays (store_byte_block locals p a first next).insts first next (table.store_byte p a) refl refl (λ at. refl) (let e = fetch_size p.base in let f = fetch_size2 a in omega arith)
        (λ functions places at. ap₂ (λ k l. k ++ (l ++ (0x88 ∷ 0x91 ∷ word_bytes p.disp))) (into_first functions places p.base) (into_second functions places a))

    pub empty_lays : Lays locals (empty_block first next ∷ []) [] first next nothing
    empty_lays = falling_lays [] first next nothing refl refl (λ at. refl) refl (λ functions places at. refl)

    pub return_lays : (a : Operand) → Lays locals (return_block locals a first ∷ []) [] first next (table.answer a)
    return_lays a = record {
      size = let e = fetch_size a in omega arith;
      begins = refl;
      bytes = λ functions places at are after.
          let block : Block = return_block locals a first in
          append-nil (block_bytes functions places block at)
          ∙ ap (λ l. (l ++ (0x8B ∷ 0xC1 ∷ 0x8B ∷ 0xB5 ∷ word_bytes 0)) ++ (0xFF ∷ 0xE6 ∷ [])) (into_first functions places a)
          ∙ append_assoc (table.into_ecx locals functions a) (0x8B ∷ 0xC1 ∷ 0x8B ∷ 0xB5 ∷ word_bytes 0) (0xFF ∷ 0xE6 ∷ []);
      at_heads = λ places at are. refl;
      fit = fit_of (λ l. ⊥) (return_block locals a first ∷ []) None (λ l is. absurd is)
          (one_in (λ l. ⊥) (return_block locals a first) None (λ l is. no_label_in l is) tt tt);
      code = λ x is. no_heads x is;
    }
      where
        no_label_in : {A : Type 0} (l : ℕ) → Contains [] l → A
        no_label_in l is = let lt = is.1 in absurd (omega arith)
