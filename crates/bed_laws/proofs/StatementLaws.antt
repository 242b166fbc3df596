-- The first law of the statements without a call and without statements in them.
use Rattle.std.proofs.Common.{◌≡◌, ℕ, suc, ◌+◌, ◌<◌, ◌≤◌, Option, Some, None, IsSome, List, [], ◌∷◌, zero, ◌⊎◌, Contains, map, refl, sym, ◌∙◌, subst, arith}
use Rattle.bed_machine.specs.Memory.{Memory, word_at, put_byte, put_word}
use Rattle.bed_machine.proofs.StepLaws.{result_lt}
use Rattle.bed_machine.proofs.WordLaws.{wrap_lt}
use Rattle.bed_machine.specs.declared.registers.Reg.TheVariants.{Esi}
use Rattle.bed_machine.specs.declared.instructions.Arith.TheVariants as arithmetic
use Rattle.bed_lang.specs.declared.word.Name.{Name}
use Rattle.bed_lang.specs.declared.module.Op.{Op}
use Rattle.bed_lang.specs.declared.module.Op.TheVariants as op
use Rattle.bed_lang.specs.declared.module.Operand.{Operand}
use Rattle.bed_lang.specs.declared.module.Place.{Place}
use Rattle.bed_lang.specs.declared.module.Hint.{Hint}
use Rattle.bed_lang.specs.declared.module.Action.{Action}
use Rattle.bed_lang.specs.declared.module.Action.TheVariants as action
use Rattle.bed_lang.specs.declared.condition.Cond.{Cond}
use Rattle.bed_lang.specs.declared.condition.Goal.TheVariants.{Returns}
use Rattle.bed_lang.specs.Values.{Values}
use Rattle.bed_sat.specs.Parts.{Includes}
use Rattle.bed_sat.specs.Assertions.{World}
use Rattle.bed_sat.specs.Valid.{op_result, operand_value, place_value, set_local, After, GoalHolds}
use Rattle.bed_sat.specs.Conditions.{Path, then_action, then_hint, condition}
use Rattle.bed_sat.proofs.BlockLaws.{word_place}
use Rattle.bed_il.specs.declared.blocks.Scratch.TheVariants.{First, Second}
use Rattle.bed_il.specs.declared.blocks.Inst.{Inst}
use Rattle.bed_il.specs.declared.blocks.Block.{Block}
use Rattle.bed_il.specs.BlockMachine.{BlockState, op_of, block_at, at_label, follows, set_scratch}
use Rattle.bed_laws.specs.Activations.{FunctionSite, Activation, IsAmong, AreDistinct, IsStateOf}
use Rattle.bed_laws.specs.Described.{Leads, StartHolds, IsSure, Describes}
use Rattle.bed_laws.specs.Keeps.{LoopHead, Turns, Safe, Reaches, Keeps, AllHold, Law}
use Rattle.bed_laws.specs.Spans.{Spans}
use Rattle.bed_laws.specs.StatementBlocks.{IsKnown, falling, keep, assign_block, compute_block, load_block, load_byte_block, store_block, store_byte_block, return_block, empty_block}
use Rattle.bed_laws.proofs.PathLaws.{more, sure_front, sure_back, leads_more, starts_more, after_more, after_leads}
use Rattle.bed_laws.proofs.SlotLaws.{number, operand_lt, memory_rest, read_local, fetch, keep_local, slot_place, read_back, read_heap, put_heap, read_heap_byte, put_heap_byte}
use Rattle.bed_laws.proofs.StraightLaws.{Runs, runs_more, straight, after_inst}
use Rattle.bed_laws.proofs.SequenceLaws.{exit_safe}
use Rattle.bed_laws.proofs.TestLaws.{one_block, one_span, no_heads, describes_at}

-- the result of an operation is a word, and that of the source
pub op_same : (o : Op) (a b : ℕ) → op_of o a b ≡ op_result o a b
op_same op.Add a b = refl
op_same op.Sub a b = refl
op_same op.Mul a b = refl
op_same op.And a b = refl
op_same op.Or a b = refl
op_same op.Xor a b = refl

op_lt : (o : Op) (a b : ℕ) → a < 4294967296 → b < 4294967296 → op_result o a b < 4294967296
op_lt op.Add a b p q = result_lt arithmetic.Add a b p q
op_lt op.Sub a b p q = result_lt arithmetic.Sub a b p q
op_lt op.Mul a b p q = wrap_lt _
op_lt op.And a b p q = result_lt arithmetic.And a b p q
op_lt op.Or a b p q = result_lt arithmetic.Or a b p q
op_lt op.Xor a b p q = result_lt arithmetic.Xor a b p q

some_at : (o : Option ℕ) → IsSome o → (v : ℕ) × (o ≡ Some v)
some_at None is = absurd cc
some_at (Some v) is = (v, refl)

module _ (w : World) (c : FunctionSite) (places : ℕ → ℕ) where
  -- a state that a path describes leads on by an action
  goes : (act : Action) (a : Activation) (from : Path) (s : BlockState) (d : Describes w c a from s) (μ : Values) (g : Memory) → Leads w.labels (act ∷ []) d.values d.heap μ g → (u : BlockState) → IsStateOf c a μ g u → Describes w c a (then_action act from) u
  goes act a from s d μ g leads u st = record {
    values0 = d.values0;
    heap0 = d.heap0;
    starts = starts_more w c from (act ∷ []) d.values0 d.heap0 d.starts;
    values = μ;
    heap = g;
    leads = leads_more w from.actions (act ∷ []) d.values0 d.heap0 d.values d.heap μ g d.leads leads;
    state = st;
  }

  -- one block that falls on, from a run of its instructions
  module _ (insts : List Inst) (first next : ℕ) (other : (next < first) ⊎ (first + 1 ≤ next)) (from to : Path) where
    abbrev block : Block
    block = falling first insts next

    block_span : Spans (block ∷ []) [] first (first + 1)
    block_span = one_span block [] (λ x is. no_heads x is)

    pub row_keeps : ((a : Activation) (s : BlockState) → Describes w c a from s → Runs w places a insts (λ t. Describes w c a to t) s) → Keeps w c places (block ∷ []) [] first next from (Some to)
    row_keeps runs a s reach n =
        straight w c places (block ∷ []) [] a (Reaches w c next (Some to) a) block (one_block block) n [] insts s refl reach.0 reach.1
        (λ x is l z. no_heads x is)
        (runs_more w places a insts _ _
        (λ t d. (
          memory_rest d.state.memory,
          λ m lt. exit_safe w c places (block ∷ []) [] first (first + 1) block_span a next (Some to) other (at_label next t) (refl, refl, describes_at next d) m,
        ))
        s (runs a s reach.2))

  -- the same for one more action
  row_law : (insts : List Inst) (first next : ℕ) (other : (next < first) ⊎ (first + 1 ≤ next)) (from : Path) (act : Action)
      → (IsSure w c (then_action act from) → (a : Activation) (s : BlockState) → Describes w c a from s → Runs w places a insts (λ t. Describes w c a (then_action act from) t) s)
      → Law w c places (falling first insts next ∷ []) [] first next [] from (Some (then_action act from))
  row_law insts first next other from act runs = record {
    sure = λ valid sure. sure_front w c from (act ∷ []) sure;
    keeps = λ valid sure. row_keeps insts first next other from (then_action act from) (runs sure);
  }

  module _ (distinct : AreDistinct c.site.locals) where
    -- the last instruction of a row keeps the first operand in a local
    kept : (act : Action) (x : Name) (known : IsAmong c.site.locals x.bytes) (v : ℕ) → v < 4294967296 → (a : Activation) (from : Path) (s : BlockState) (d : Describes w c a from s)
        → Leads w.labels (act ∷ []) d.values d.heap (set_local d.values x v) d.heap
        → (t : BlockState) → t.first ≡ v → IsStateOf c a d.values d.heap t → Runs w places a (keep c.site.locals x ∷ []) (λ u. Describes w c a (then_action act from) u) t
    kept act x known v small a from s d leads t is st =
        let old = read_local w c places a d.values d.heap t x.bytes st known in
        let put = keep_local w c places a d.values d.heap t.memory x.bytes v distinct known small st.memory in
        let place = slot_place w c places a t x.bytes st.sp in
        let u : BlockState = record t { memory = put_word t.memory (word_place a.sp (suc (number w c places a x.bytes))) v } in (
          memory_rest st.memory,
          u,
          rw (old.0, place, is) refl,
          goes act a from s d (set_local d.values x v) d.heap leads (after_inst u) (record { sp = st.sp; memory = put }),
        )

    module _ (x : Name) (known : IsAmong c.site.locals x.bytes) (first next : ℕ) (other : (next < first) ⊎ (first + 1 ≤ next)) (from : Path) where
      -- x <- o
      pub assign_law : (o : Operand) → IsKnown c.site.locals o → Law w c places (assign_block c.site.locals x o first next ∷ []) [] first next [] from (Some (then_action (action.Assign x o) from))
      assign_law o is =
          row_law (assign_block c.site.locals x o first next).insts first next other from (action.Assign x o) (λ sure a s d.
          let v = operand_value w.labels d.values o in
          let t : BlockState = after_inst (set_scratch First v s) in (
            memory_rest d.state.memory,
            set_scratch First v s,
            fetch w c places a First o d.values d.heap s d.state is,
            kept (action.Assign x o) x known v (operand_lt w.labels d.values o) a from s d (refl, refl) t refl (record { sp = d.state.sp; memory = d.state.memory }),
          ))

      -- x <- o op q
      pub compute_law : (op : Op) (o q : Operand) → IsKnown c.site.locals o → IsKnown c.site.locals q
          → Law w c places (compute_block c.site.locals x op o q first next ∷ []) [] first next [] from (Some (then_action (action.Compute x op o q) from))
      compute_law op o q is is2 =
          row_law (compute_block c.site.locals x op o q first next).insts first next other from (action.Compute x op o q) (λ sure a s d.
          let vo = operand_value w.labels d.values o in
          let vq = operand_value w.labels d.values q in
          let v = op_result op vo vq in
          let s1 : BlockState = after_inst (set_scratch First vo s) in
          let s2 : BlockState = after_inst (set_scratch Second vq s1) in
          let s3 : BlockState = record s2 { first = op_of op vo vq } in (
            memory_rest d.state.memory,
            set_scratch First vo s,
            fetch w c places a First o d.values d.heap s d.state is,
            (
              memory_rest d.state.memory,
              set_scratch Second vq s1,
              fetch w c places a Second q d.values d.heap s1 (record { sp = d.state.sp; memory = d.state.memory }) is2,
              (
                memory_rest d.state.memory,
                s3,
                refl,
                kept (action.Compute x op o q) x known v (op_lt op vo vq (operand_lt w.labels d.values o) (operand_lt w.labels d.values q)) a from s d (refl, refl) (after_inst s3) (op_same op vo vq)
                    (record { sp = d.state.sp; memory = d.state.memory }),
              ),
            ),
          ))

      -- x <- [p]
      pub load_law : (p : Place) → IsKnown c.site.locals p.base → Law w c places (load_block c.site.locals x p first next ∷ []) [] first next [] from (Some (then_action (action.Load x p) from))
      load_law p is =
          row_law (load_block c.site.locals x p first next).insts first next other from (action.Load x p) (λ sure a s d.
          let got = sure_back w c from (action.Load x p ∷ []) sure d.values0 d.heap0 d.values d.heap d.starts d.leads in
          let read = read_heap w c places a d.values d.heap s.memory (place_value w.labels d.values p) got.0 d.state.memory got.1 in
          let base = operand_value w.labels d.values p.base in
          let s1 : BlockState = after_inst (set_scratch First base s) in
          let s2 : BlockState = record s1 { first = got.0 } in (
            memory_rest d.state.memory,
            set_scratch First base s,
            fetch w c places a First p.base d.values d.heap s d.state is,
            (
              memory_rest d.state.memory,
              s2,
              rw read.0 refl,
              kept (action.Load x p) x known got.0 read.1 a from s d (got.0, got.1, (refl, refl)) (after_inst s2) refl (record { sp = d.state.sp; memory = d.state.memory }),
            ),
          ))

      -- x <- byte [p]
      pub load_byte_law : (p : Place) → IsKnown c.site.locals p.base → Law w c places (load_byte_block c.site.locals x p first next ∷ []) [] first next [] from (Some (then_action (action.LoadByte x p) from))
      load_byte_law p is =
          row_law (load_byte_block c.site.locals x p first next).insts first next other from (action.LoadByte x p) (λ sure a s d.
          let got = sure_back w c from (action.LoadByte x p ∷ []) sure d.values0 d.heap0 d.values d.heap d.starts d.leads in
          let read = read_heap_byte w c places a d.values d.heap s.memory (place_value w.labels d.values p) got.0 d.state.memory got.1 in
          let base = operand_value w.labels d.values p.base in
          let s1 : BlockState = after_inst (set_scratch First base s) in
          let s2 : BlockState = record s1 { first = got.0 } in (
            memory_rest d.state.memory,
            set_scratch First base s,
            fetch w c places a First p.base d.values d.heap s d.state is,
            (
              memory_rest d.state.memory,
              s2,
              rw read.0 refl,
              kept (action.LoadByte x p) x known got.0 read.1 a from s d (got.0, got.1, (refl, refl)) (after_inst s2) refl (record { sp = d.state.sp; memory = d.state.memory }),
            ),
          ))

  module _ (p : Place) (o : Operand) (is : IsKnown c.site.locals p.base) (is2 : IsKnown c.site.locals o) (first next : ℕ) (other : (next < first) ⊎ (first + 1 ≤ next)) (from : Path) where
    -- [p] <- o
    pub store_law : Law w c places (store_block c.site.locals p o first next ∷ []) [] first next [] from (Some (then_action (action.Store p o) from))
    store_law =
        row_law (store_block c.site.locals p o first next).insts first next other from (action.Store p o) (λ sure a s d.
        let got = sure_back w c from (action.Store p o ∷ []) sure d.values0 d.heap0 d.values d.heap d.starts d.leads in
        let at = place_value w.labels d.values p in
        let v = operand_value w.labels d.values o in
        let base = operand_value w.labels d.values p.base in
        let old = some_at _ got.0 in
        let read = read_heap w c places a d.values d.heap s.memory at old.0 d.state.memory old.1 in
        let put = put_heap w c places a d.values d.heap s.memory at old.0 v d.state.memory old.1 in
        let s1 : BlockState = after_inst (set_scratch First base s) in
        let s2 : BlockState = after_inst (set_scratch Second v s1) in
        let s3 : BlockState = record s2 { memory = put_word s.memory at v } in (
          memory_rest d.state.memory,
          set_scratch First base s,
          fetch w c places a First p.base d.values d.heap s d.state is,
          (
            memory_rest d.state.memory,
            set_scratch Second v s1,
            fetch w c places a Second o d.values d.heap s1 (record { sp = d.state.sp; memory = d.state.memory }) is2,
            (
              memory_rest d.state.memory,
              s3,
              rw read.0 refl,
              goes (action.Store p o) a from s d d.values (put_word d.heap at v) (got.0, (refl, refl)) (after_inst s3) (record { sp = d.state.sp; memory = put }),
            ),
          ),
        ))

    -- byte [p] <- o
    pub store_byte_law : Law w c places (store_byte_block c.site.locals p o first next ∷ []) [] first next [] from (Some (then_action (action.StoreByte p o) from))
    store_byte_law =
        row_law (store_byte_block c.site.locals p o first next).insts first next other from (action.StoreByte p o) (λ sure a s d.
        let got = sure_back w c from (action.StoreByte p o ∷ []) sure d.values0 d.heap0 d.values d.heap d.starts d.leads in
        let at = place_value w.labels d.values p in
        let v = operand_value w.labels d.values o in
        let base = operand_value w.labels d.values p.base in
        let old = some_at _ got.0 in
        let read = read_heap_byte w c places a d.values d.heap s.memory at old.0 d.state.memory old.1 in
        let put = put_heap_byte w c places a d.values d.heap s.memory at old.0 v d.state.memory old.1 in
        let s1 : BlockState = after_inst (set_scratch First base s) in
        let s2 : BlockState = after_inst (set_scratch Second v s1) in
        let s3 : BlockState = record s2 { memory = put_byte s.memory at v } in (
          memory_rest d.state.memory,
          set_scratch First base s,
          fetch w c places a First p.base d.values d.heap s d.state is,
          (
            memory_rest d.state.memory,
            set_scratch Second v s1,
            fetch w c places a Second o d.values d.heap s1 (record { sp = d.state.sp; memory = d.state.memory }) is2,
            (
              memory_rest d.state.memory,
              s3,
              rw read.0 refl,
              goes (action.StoreByte p o) a from s d d.values (put_byte d.heap at v) (got.0, (refl, refl)) (after_inst s3) (record { sp = d.state.sp; memory = put }),
            ),
          ),
        ))

  -- no statement
  pub empty_law : (first next : ℕ) → (next < first) ⊎ (first + 1 ≤ next) → (from : Path) → Law w c places (empty_block first next ∷ []) [] first next [] from (Some from)
  empty_law first next other from = record {
    sure = λ valid sure. sure;
    keeps = λ valid sure. row_keeps [] first next other from from (λ a s d. d);
  }

  -- a hint
  pub hint_law : (h : Hint) (first next : ℕ) → (next < first) ⊎ (first + 1 ≤ next) → (from : Path) → Law w c places (empty_block first next ∷ []) [] first next [] from (Some (then_hint h from))
  hint_law h first next other from = record {
    sure = λ valid sure ν g st. sure ν g (record { holds = st.holds; entry = st.entry });
    keeps = λ valid sure. row_keeps [] first next other from (then_hint h from) (λ a s d. record { values0 = d.values0; heap0 = d.heap0; starts = record { holds = d.starts.holds; entry = d.starts.entry }; values = d.values; heap = d.heap; leads = d.leads; state = d.state });
  }

  -- return o
  module _ (at : ℕ) (o : Operand) (is : IsKnown c.site.locals o) (first next : ℕ) (from : Path) where
    abbrev return_conds : List Cond
    return_conds = condition c.site at (Returns o) from ∷ []

    return_after : AllHold w c return_conds → (ν : Values) (h : Memory) → StartHolds w c from ν h → After w.labels from.actions (GoalHolds w (Some c.signature) (Returns o)) ν h
    return_after valid ν h st = valid (condition c.site at (Returns o) from) (zero, omega arith, refl) ν h (record { holds = st.holds; entry = st.entry })

    pub return_law : Law w c places (return_block c.site.locals o first ∷ []) [] first next return_conds from None
    return_law = record {
      sure = λ valid sure ν h st. after_more w from.actions _ _ (λ μ g q. tt) ν h (return_after valid ν h st);
      keeps = λ valid sure a s reach n.
          let block : Block = return_block c.site.locals o first in
          let d = reach.2 in
          let post = after_leads w from.actions _ d.values0 d.heap0 d.values d.heap (return_after valid d.values0 d.heap0 d.starts) d.leads in
          let rest = memory_rest d.state.memory in
          let v = operand_value w.labels d.values o in
          straight w c places (block ∷ []) [] a (Reaches w c next None a) block (one_block block) n [] block.insts s refl reach.0 reach.1
          (λ x is l z. no_heads x is) (
            rest,
            set_scratch First v s,
            fetch w c places a First o d.values d.heap s d.state is,
            (
              rest,
              record s { first = v; rv = v; next = s.next + 1 },
              refl,
              (
                rest,
                record s { first = v; rv = v; rp = a.back; next = s.next + 1 + 1 },
                rw (read_back w c places a d.values d.heap s d.state) refl,
                (rest, λ m lt. record { rp = refl; answer = operand_lt w.labels d.values o; values = d.values; heap = d.heap; state = record { sp = d.state.sp; memory = d.state.memory }; post = post }),
              ),
            ),
          );
    }
