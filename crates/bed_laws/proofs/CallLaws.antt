-- The first law of a call. Calls of names and through variables are one: the code map says which signature stands at the target.
use Rattle.std.proofs.Common.{◌≡◌, ℕ, zero, suc, ◌+◌, ◌-◌, ◌*◌, ◌<◌, ◌≤◌, Option, Some, None, List, [], ◌∷◌, ◌++◌, map, take, drop, length, slice_set, Contains, ◌⊎◌, refl, sym, ◌∙◌, ap, ap₂, subst, arith, append_assoc, length-append}
use Rattle.std.proofs.lemmas.List.{append-nil, take-append-drop, length-take-le}
use Rattle.bed_lang.specs.Numbers.{wrap}
use Rattle.bed_machine.specs.Memory.{Memory, IsMemory, empty, word_at, put_word}
use Rattle.bed_machine.proofs.WordLaws.{wrap_lt, four_bytes, put_word_memory}
use Rattle.bed_machine.specs.declared.registers.Reg.TheVariants.{Edx}
use Rattle.bed_lang.specs.declared.word.Name.{Name}
use Rattle.bed_lang.specs.declared.logic.Assertion.{Assertion}
use Rattle.bed_lang.specs.declared.module.Operand.{Operand}
use Rattle.bed_lang.specs.declared.module.Hint.{Hint}
use Rattle.bed_lang.specs.declared.module.Signature.{Signature}
use Rattle.bed_lang.specs.declared.condition.Cond.{Cond}
use Rattle.bed_lang.specs.declared.condition.Goal.TheVariants.{Calls as CallsGoal}
use Rattle.bed_lang.specs.Values.{Values, Named}
use Rattle.bed_lang.specs.Lookups.{signature_named}
use Rattle.bed_table.specs.Words.{slot as slot_of, call_area}
use Rattle.bed_sat.specs.Parts.{Joins, JoinsAll, Includes}
use Rattle.bed_sat.specs.Cells.{AreWordsAt}
use Rattle.bed_sat.specs.Assertions.{World, Holds}
use Rattle.bed_sat.specs.Frames.{frame_size, set_words, words_at, arguments_at, EntersAt, LeavesAt}
use Rattle.bed_sat.specs.Valid.{callee_name, operand_value, set_local, After, CallHolds}
use Rattle.bed_sat.specs.Conditions.{Path, path_from, condition, then_using}
use Rattle.bed_sat.proofs.PartLaws.{joins_comm, joins_empty, to_empty, includes_trans, joins_left, joins_right, for_callee, regain, includes_last}
use Rattle.bed_sat.proofs.BlockLaws.{word_place, put_slot, load_slot, words_append, append_words}
use Rattle.bed_sat.proofs.FrameLaws.{read_words}
use Rattle.bed_il.specs.declared.blocks.Scratch.TheVariants.{First, Second}
use Rattle.bed_il.specs.declared.blocks.Inst.{Inst}
use Rattle.bed_il.specs.declared.blocks.Block.{Block}
use Rattle.bed_il.specs.BlockMachine.{BlockState, block_at, at_label, follows, set_scratch, back_label}
use Rattle.bed_laws.specs.Activations.{FunctionSite, Activation, IsAmong, AreDistinct, words_of, IsMemoryOf, IsStateOf}
use Rattle.bed_laws.specs.Described.{StartHolds, Describes}
use Rattle.bed_laws.specs.Keeps.{LoopHead, IsAnswer, IsCall, Turns, Safe, Reaches, AllHold, Law}
use Rattle.bed_laws.specs.Spans.{Spans}
use Rattle.bed_laws.specs.StatementBlocks.{IsKnown, argument_insts, leave_insts, leave_block, back_block, call_blocks}
use Rattle.bed_laws.proofs.PathLaws.{after_more, after_leads}
use Rattle.bed_laws.proofs.SlotLaws.{number, operand_lt, memory_rest, words_long, read_local, fetch, keep_local, slot_place}
use Rattle.bed_laws.proofs.StraightLaws.{Runs, runs_append, straight, after_inst}
use Rattle.bed_laws.proofs.SequenceLaws.{exit_safe, spans_append, among_front, among_back}
use Rattle.bed_laws.proofs.TestLaws.{one_block, one_span, no_heads, describes_at, describes_from}

set_back : (xs ys : List ℕ) (i k v : ℕ) → k ≡ length xs + i → slice_set (xs ++ ys) k v ≡ xs ++ slice_set ys i v
set_back [] ys i k v e = let q : k ≡ i = omega arith in ap (λ j. slice_set ys j v) q
set_back (x ∷ xs) ys i zero v e = absurd (omega arith)
set_back (x ∷ xs) ys i (suc k) v e = ap (λ l. x ∷ l) (set_back xs ys i k v (omega arith))

set_long : (xs : List ℕ) (i v : ℕ) → length (slice_set xs i v) ≡ length xs
set_long [] i v = refl
set_long (x ∷ xs) zero v = refl
set_long (x ∷ xs) (suc i) v = ap suc (set_long xs i v)

set_middle : (xs ys : List ℕ) (y v : ℕ) → slice_set (xs ++ (y ∷ ys)) (length xs) v ≡ (xs ++ (v ∷ [])) ++ ys
set_middle [] ys y v = refl
set_middle (x ∷ xs) ys y v = ap (λ l. x ∷ l) (set_middle xs ys y v)

-- the label to come back to is that of the ReturnTo behind the arguments
back_args : (locals : List Name) (i : ℕ) (os : List Operand) (is : List Inst) → back_label (argument_insts locals i os ++ is) ≡ back_label is
back_args locals i [] is = refl
back_args locals i (o ∷ os) is = back_args locals (1 + i) os is

-- each operand is known
abbrev pub AreKnown : List Name → List Operand → Type 0
AreKnown locals [] = Unit {0}
AreKnown locals (o ∷ os) = IsKnown locals o × AreKnown locals os

module _ (w : World) (c : FunctionSite) (places : ℕ → ℕ) where
  -- the offset of the call area
  abbrev offset : ℕ
  offset = call_area c.site.locals

  -- a word is kept in the call area
  record KeptArea (a : Activation) (ν : Values) (h m : Memory) (area : List ℕ) : Type 0 where
    memory : IsMemoryOf c a ν h m
    area_is : memory.area ≡ area

  frame_long : (a : Activation) (ν : Values) (area : List ℕ) → length (a.back ∷ (words_of ν c.site.locals ++ area)) ≡ suc (length c.site.locals + length area)
  frame_long a ν area = let e = words_long ν c.site.locals in omega (arith, length-append (words_of ν c.site.locals) area)

  keep_area : (a : Activation) (ν : Values) (h m : Memory) (st : IsMemoryOf c a ν h m) (i v : ℕ) → i < length st.area → v < 4294967296
      → (old : ℕ) × (word_at m (word_place a.sp (suc (length c.site.locals + i))) ≡ Some old) × KeptArea a ν h (put_word m (word_place a.sp (suc (length c.site.locals + i))) v) (slice_set st.area i v)
  keep_area a ν h m st i v lt fits =
      let ws : List ℕ = a.back ∷ (words_of ν c.site.locals ++ st.area) in
      let k : ℕ = suc (length c.site.locals + i) in
      let small : k < length ws = (let e = frame_long a ν st.area in omega arith) in
      let old = load_slot a.sp ws k (joins_left st.joins) st.is_frame small in
      let p = put_slot a.sp ws k v st.joins st.is_frame small fits in
      let same : slice_set ws k v ≡ a.back ∷ (words_of ν c.site.locals ++ slice_set st.area i v) = ap (λ l. a.back ∷ l) (set_back (words_of ν c.site.locals) st.area i (length c.site.locals + i) v (let e = words_long ν c.site.locals in omega arith)) in (
        _,
        old,
        record {
          memory = record {
            bytes = put_word_memory m (word_place a.sp k) v _ st.bytes old;
            frame = put_word st.frame (word_place a.sp k) v;
            beside = st.beside;
            joins = p.0;
            parts = st.parts;
            area = slice_set st.area i v;
            size = let e = st.size in omega (arith, set_long st.area i v);
            is_frame = subst (λ l. AreWordsAt a.sp l (put_word st.frame (word_place a.sp k) v)) same p.1;
            agree = st.agree;
          };
          area_is = refl;
        },
      )

  -- the arguments are kept one after the other
  args_run : (a : Activation) (ν : Values) (h : Memory) (P : BlockState → Type 0) (front ys : List ℕ) (j : ℕ) (os : List Operand)
      → AreKnown c.site.locals os → length front ≡ suc j → length os ≤ length ys → (s : BlockState) (st : IsStateOf c a ν h s) → st.memory.area ≡ front ++ ys
      → ((t : BlockState) (st2 : IsStateOf c a ν h t) (zs : List ℕ) → st2.memory.area ≡ (front ++ map (operand_value w.labels ν) os) ++ zs → P t)
      → Runs w places a (argument_insts c.site.locals j os) P s
  args_run a ν h P front ys j [] are long few_args s st area go = go s st ys (area ∙ ap (λ l. l ++ ys) (sym (append-nil front)))
  args_run a ν h P front [] j (o ∷ os) are long few_args s st area go = absurd (omega arith)
  args_run a ν h P front (y ∷ ys) j (o ∷ os) are long few_args s st area go =
      let v : ℕ = operand_value w.labels ν o in
      let s1 : BlockState = after_inst (set_scratch First v s) in
      let small : suc j < length st.memory.area = omega (arith, ap length area, length-append front (y ∷ ys)) in
      let kept = keep_area a ν h s.memory st.memory (suc j) v small (operand_lt w.labels ν o) in
      let at : wrap (s.sp + wrap (offset + (4 + 4 * j))) ≡ word_place a.sp (suc (length c.site.locals + suc j)) = (let e = st.sp in omega arith) in
      let t : BlockState = record s1 { memory = put_word s.memory (word_place a.sp (suc (length c.site.locals + suc j))) v } in
      let st2 : IsStateOf c a ν h (after_inst t) = record { sp = st.sp; memory = kept.2.memory } in
      let area2 : kept.2.memory.area ≡ (front ++ (v ∷ [])) ++ ys = kept.2.area_is ∙ ap₂ (λ l k. slice_set l k v) area (sym long) ∙ set_middle front ys y v in (
        memory_rest st.memory,
        set_scratch First v s,
        fetch w c places a First o ν h s st are.0,
        (
          memory_rest st.memory,
          t,
          rw (at, kept.1) refl,
          args_run a ν h P (front ++ (v ∷ [])) ys (1 + j) os are.1 (omega (arith, length-append front (v ∷ []))) (omega arith) (after_inst t) st2 area2
              (λ u st3 zs e. go u st3 zs (e ∙ ap (λ l. l ++ zs) (append_assoc front (v ∷ []) (map (operand_value w.labels ν) os)))),
        ),
      )

  -- a callee's view of a caller's memory, and what the caller has when it returns
  record Handed (a : Activation) (ν : Values) (m : Memory) (sp : ℕ) (callee : Signature) (values : Values) (args : List ℕ) (kept : Memory) : Type 0 where
    rest : Memory
    enters : EntersAt w callee values sp args m rest
    keeps : Includes rest a.rest
    again : (answer : ℕ) (m2 : Memory) → IsMemory m2 → (l : LeavesAt w callee values sp args answer m2 rest) → (h2 : Memory) × Joins h2 l.heap kept × IsMemoryOf c a ν h2 m2

  -- a caller's frame is the words below the call area, a callee's frame, and the words above it
  record Divided (a : Activation) (ν : Values) (frame : Memory) (cs ds : List ℕ) : Type 0 where
    front : Memory
    mid : Memory
    callee : Memory
    left : Memory
    is_frame : Joins frame front mid
    is_mid : Joins mid callee left
    front_words : AreWordsAt a.sp (a.back ∷ words_of ν c.site.locals) front
    callee_words : AreWordsAt (wrap (a.sp + offset)) cs callee
    left_words : AreWordsAt (word_place (wrap (a.sp + offset)) (length cs)) ds left
    sp_lt : a.sp < 4294967296

  area_place : (a : Activation) (ν : Values) → word_place a.sp (length (a.back ∷ words_of ν c.site.locals)) ≡ wrap (a.sp + offset)
  area_place a ν = let e = words_long ν c.site.locals in omega arith

  divide : (a : Activation) (ν : Values) (frame : Memory) (cs ds : List ℕ) → AreWordsAt a.sp (a.back ∷ (words_of ν c.site.locals ++ (cs ++ ds))) frame → Divided a ν frame cs ds
  divide a ν frame cs ds is =
      let ws : List ℕ = a.back ∷ words_of ν c.site.locals in
      let sp_lt : a.sp < 4294967296 = (let f = (four_bytes is.0 a.sp a.back is.3.holds).in_range in omega arith) in
      let one = words_append a.sp ws (cs ++ ds) frame sp_lt is in
      let two = words_append (wrap (a.sp + offset)) cs ds one.1 (wrap_lt _) (subst (λ b. AreWordsAt b (cs ++ ds) one.1) (area_place a ν) one.4) in
      record { front = one.0; mid = one.1; callee = two.0; left = two.1; is_frame = one.2; is_mid = two.2; front_words = one.3; callee_words = two.3; left_words = two.4; sp_lt = sp_lt }

  -- and back, with other words in the callee's frame
  undivide : (a : Activation) (ν : Values) (frame mid front callee left : Memory) (cs ds : List ℕ) → a.sp < 4294967296 → Joins frame front mid → Joins mid callee left
      → AreWordsAt a.sp (a.back ∷ words_of ν c.site.locals) front → AreWordsAt (wrap (a.sp + offset)) cs callee → AreWordsAt (word_place (wrap (a.sp + offset)) (length cs)) ds left
      → AreWordsAt a.sp (a.back ∷ (words_of ν c.site.locals ++ (cs ++ ds))) frame
  undivide a ν frame mid front callee left cs ds sp_lt jf jm wf wc wl =
      append_words a.sp (a.back ∷ words_of ν c.site.locals) (cs ++ ds) frame front mid sp_lt jf wf
      (subst (λ b. AreWordsAt b (cs ++ ds) mid) (sym (area_place a ν)) (append_words (wrap (a.sp + offset)) cs ds mid callee left (wrap_lt _) jm wc wl))

  room_long : (x0 r : ℕ) (args zs : List ℕ) → r ≤ length zs → length (x0 ∷ (args ++ take r zs)) ≡ 1 + length args + r
  room_long x0 r args zs le = omega (arith, length-append args (take r zs), length-take-le r zs le)

  total_long : (l n k : ℕ) (cs ds : List ℕ) {f : ℕ} → 1 + (l + n) ≡ k → n ≡ length (cs ++ ds) → length cs ≡ f → 1 + (l + (f + length ds)) ≡ k
  total_long l n k cs ds p q r = omega (arith, length-append cs ds)

  hand_on : (a : Activation) (ν : Values) (h m : Memory) (st : IsMemoryOf c a ν h m) (callee : Signature) (values : Values) (args zs : List ℕ) (x0 : ℕ) (given kept : Memory)
      → length args ≡ length callee.params → callee.reserve ≤ length zs → Joins h given kept → Holds w (set_words values callee.params args) given callee.pre
      → (cs ds : List ℕ) → st.area ≡ cs ++ ds → length cs ≡ frame_size callee
      → ((f : Memory) → AreWordsAt (wrap (a.sp + offset)) cs f → AreWordsAt (wrap (a.sp + offset)) (x0 ∷ (args ++ take callee.reserve zs)) f)
      → 1 + (length c.site.locals + (frame_size callee + length ds)) ≡ frame_size c.signature
      → Divided a ν st.frame cs ds → Handed a ν m (wrap (a.sp + offset)) callee values args kept
  hand_on a ν h m st callee values args zs x0 given kept long_args room jh pre cs ds area2 cs_long callee_frame total d =
      let parts : JoinsAll m (st.frame ∷ h ∷ a.rest ∷ []) = (st.beside, st.joins, (a.rest, st.parts, (empty, to_empty a.rest, refl))) in
      let j = for_callee m st.frame h a.rest d.front d.mid d.callee d.left given kept d.is_frame d.is_mid jh parts in
      record {
        rest = j.2.0;
        enters = record {
          frame = d.callee;
          heap = given;
          parts = (j.0, j.1, (j.2.0, j.2.1, (empty, to_empty j.2.0, refl)));
          back = x0;
          area = take callee.reserve zs;
          args_count = long_args;
          area_count = length-take-le callee.reserve zs room;
          is_frame = callee_frame d.callee d.callee_words;
          pre = pre;
        };
        keeps = includes_last j.2.0 d.front d.left kept a.rest j.2.2;
        again = λ answer m2 bytes l.
            let last : Joins l.parts.2.0 j.2.0 empty = subst (λ e. Joins l.parts.2.0 j.2.0 e) l.parts.2.2.2 l.parts.2.2.1 in
            let same : l.parts.2.0 ≡ j.2.0 = joins_empty last in
            let all : JoinsAll m2 (l.frame ∷ l.heap ∷ d.front ∷ d.left ∷ kept ∷ a.rest ∷ []) =
            (l.parts.0, l.parts.1, (l.parts.2.0, l.parts.2.1, subst (λ r. JoinsAll r (d.front ∷ d.left ∷ kept ∷ a.rest ∷ [])) (sym same) j.2.2)) in
            let g = regain m2 l.frame l.heap d.front d.left kept a.rest all in (
              g.heap,
              g.is_heap,
              record {
                bytes = bytes;
                frame = g.frame;
                beside = g.beside;
                joins = g.joins;
                parts = g.parts;
                area = l.is_frame.0 ++ ds;
                size = omega (arith, total, length-append l.is_frame.0 ds, l.is_frame.1);
                is_frame = undivide a ν g.frame g.mid d.front l.frame d.left l.is_frame.0 ds d.sp_lt g.is_frame g.is_mid d.front_words l.is_frame.2
                    (subst (λ k. AreWordsAt (word_place (wrap (a.sp + offset)) k) ds d.left) (cs_long ∙ sym l.is_frame.1) d.left_words);
                agree = st.agree;
              },
            );
      }

  hand : (a : Activation) (ν : Values) (h m : Memory) (st : IsMemoryOf c a ν h m) (callee : Signature) (values : Values) (args zs : List ℕ) (x0 : ℕ) (given kept : Memory)
      → st.area ≡ x0 ∷ (args ++ zs) → length args ≡ length callee.params → callee.reserve ≤ length zs → Joins h given kept → Holds w (set_words values callee.params args) given callee.pre
      → Handed a ν m (wrap (a.sp + offset)) callee values args kept
  hand a ν h m st callee values args zs x0 given kept area long_args room jh pre =
      let cs : List ℕ = x0 ∷ (args ++ take callee.reserve zs) in
      let ds : List ℕ = drop callee.reserve zs in
      let area2 : st.area ≡ cs ++ ds = area ∙ ap (λ l. x0 ∷ (args ++ l)) (sym (take-append-drop callee.reserve zs)) ∙ ap (λ l. x0 ∷ l) (sym (append_assoc args (take callee.reserve zs) (drop callee.reserve zs))) in
      let whole : AreWordsAt a.sp (a.back ∷ (words_of ν c.site.locals ++ (cs ++ ds))) st.frame = subst (λ l. AreWordsAt a.sp (a.back ∷ (words_of ν c.site.locals ++ l)) st.frame) area2 st.is_frame in
      let cs_long : length cs ≡ frame_size callee = room_long x0 callee.reserve args zs room ∙ ap (λ k. 1 + k + callee.reserve) long_args in
      hand_on a ν h m st callee values args zs x0 given kept long_args room jh pre cs ds area2 cs_long (λ f is. is)
      (total_long (length c.site.locals) (length st.area) _ cs ds st.size (ap length area2) cs_long) (divide a ν st.frame cs ds whole)

  nonempty : (l : List ℕ) → 0 < length l → (x : ℕ) × (ys : List ℕ) × (l ≡ x ∷ ys)
  nonempty [] lt = absurd (omega arith)
  nonempty (x ∷ ys) lt = (x, ys, refl)

  map_long : (ν : Values) (os : List Operand) → length (map (operand_value w.labels ν) os) ≡ length os
  map_long ν [] = refl
  map_long ν (o ∷ os) = ap suc (map_long ν os)

  -- the arguments are those in the frame
  entered_args : (S : Signature) (ν : Values) (sp : ℕ) (args : List ℕ) (m F : Memory) → EntersAt w S ν sp args m F → arguments_at S sp m ≡ args
  entered_args S ν sp args m F e =
      let inc : Includes m e.is_frame.1 = includes_trans (joins_left e.parts.1) (joins_right e.is_frame.2) in
      ap (λ n. words_at m (wrap (sp + 4)) n) (sym e.args_count) ∙ read_words m e.is_frame.1 (wrap (sp + 4)) args e.area inc e.is_frame.4

  -- a call
  module _ (distinct : AreDistinct c.site.locals) (at : ℕ) (x : Name) (known : IsAmong c.site.locals x.bytes) (target : Operand) (via : Option Name) (target_known : IsKnown c.site.locals target)
      (os : List Operand) (are : AreKnown c.site.locals os) (hints : List Hint) (after : Assertion)
      (room : (name : Name) (S : Signature) → callee_name w.decls target via ≡ Some name → signature_named w.decls name.bytes ≡ Some S → frame_size S + (1 + length c.site.locals) ≤ frame_size c.signature)
      (first next : ℕ) (other : (next < first) ⊎ (first + 1 + 1 ≤ next)) (from : Path) where
    abbrev leaving : Block
    leaving = leave_block c.site.locals target os first

    abbrev coming : Block
    coming = back_block c.site.locals x (first + 1) next

    abbrev blocks : List Block
    blocks = call_blocks c.site.locals x target os first next

    abbrev call_conds : List Cond
    call_conds = condition c.site at (CallsGoal target via os x after) (then_using hints from) ∷ []

    abbrev to : Path
    to = path_from after

    span_call : Spans (leaving ∷ []) [] first (first + 1)
    span_call = one_span leaving [] (λ y is. no_heads y is)

    span_back : Spans (coming ∷ []) [] (first + 1) (first + 1 + 1)
    span_back = one_span coming [] (λ y is. no_heads y is)

    pub call_span : Spans blocks [] first (first + 1 + 1)
    call_span = spans_append (leaving ∷ []) (coming ∷ []) [] [] first (first + 1) (first + 1 + 1) (omega arith) (omega arith) span_call span_back

    call_found : block_at blocks first ≡ Some leaving
    call_found = (among_front (leaving ∷ []) (coming ∷ []) [] [] first (first + 1) (first + 1 + 1) (omega arith) (omega arith) span_call span_back).at_block first leaving (one_block leaving)

    back_found : block_at blocks (first + 1) ≡ Some coming
    back_found = (among_back (leaving ∷ []) (coming ∷ []) [] [] first (first + 1) (first + 1 + 1) (omega arith) (omega arith) span_call span_back).at_block (first + 1) coming (one_block coming)

    call_after : AllHold w c call_conds → (ν : Values) (h : Memory) → StartHolds w c from ν h → After w.labels from.actions (CallHolds w target via os x after) ν h
    call_after valid ν h st = valid (condition c.site at (CallsGoal target via os x after) (then_using hints from)) (zero, omega arith, refl) ν h (record { holds = st.holds; entry = st.entry })

    abbrev Safely : Activation → ℕ → BlockState → Type 0
    Safely a n s = Safe w c places blocks [] a (Reaches w c next (Some to) a) n s

    low_place : (sp k : ℕ) → sp ≡ wrap (k + offset) → k < 4294967296 → wrap (sp + (4294967296 - offset)) ≡ k
    low_place sp k e lt = let small = wrap_lt (4 + 4 * length c.site.locals) in omega arith

    sp_lt : (a : Activation) (ν : Values) (h m : Memory) → IsMemoryOf c a ν h m → a.sp < 4294967296
    sp_lt a ν h m st = let f = (four_bytes st.is_frame.0 a.sp a.back st.is_frame.3.holds).in_range in omega arith

    -- after an answer
    back_safe : (a : Activation) (ν : Values) (h : Memory) (n : ℕ) (t : BlockState) → t.label ≡ first + 1 → t.next ≡ 0 → t.sp ≡ wrap (a.sp + offset) → t.rv < 4294967296
        → IsMemoryOf c a ν h t.memory → Holds w (set_local ν x t.rv) h after → Safely a n t
    back_safe a ν h n t label zero_next sp small st holds =
        let rest = memory_rest st in
        let t1 : BlockState = record t { sp = a.sp; next = t.next + 1 } in
        let st1 : IsStateOf c a ν h t1 = record { sp = refl; memory = st } in
        let old = read_local w c places a ν h t1 x.bytes st1 known in
        let kept = keep_local w c places a ν h t.memory x.bytes t.rv distinct known small st in
        let place = slot_place w c places a t1 x.bytes refl in
        let t2 : BlockState = record t { sp = a.sp; next = t.next + 1; memory = put_word t.memory (word_place a.sp (suc (number w c places a x.bytes))) t.rv } in
        straight w c places blocks [] a (Reaches w c next (Some to) a) coming back_found n [] coming.insts t refl label zero_next (λ y is l z. no_heads y is) (
          rest,
          record t { sp = a.sp },
          rw (low_place t.sp a.sp sp (sp_lt a ν h t.memory st)) refl,
          (
            rest,
            t2,
            rw (old.0, place) refl,
            (
              memory_rest kept,
              λ m lt. exit_safe w c places blocks [] first (first + 1 + 1) call_span a next (Some to) other (at_label next (after_inst t2))
                  (refl, refl, describes_from w c places after a (at_label next (after_inst t2)) (record { values = set_local ν x t.rv; heap = h; state = record { sp = refl; memory = kept }; holds = holds })) m,
            ),
          ),
        )

    -- with the arguments in the call area
    leave_safe : (a : Activation) (ν : Values) (h : Memory) → CallHolds w target via os x after ν h → (n : ℕ) (t : BlockState) (st : IsStateOf c a ν h t) (x0 : ℕ) (zs : List ℕ)
        → st.memory.area ≡ x0 ∷ (map (operand_value w.labels ν) os ++ zs)
        → Runs w places a (leave_insts c.site.locals target (first + 1))
        (λ u. Includes u.memory a.rest × ((m : ℕ) → m < n → Turns w c places blocks [] a (Reaches w c next (Some to) a) (Safely a m) (follows leaving.jump leaving.insts u) u)) t
    leave_safe a ν h goal n t st x0 zs area =
        let args : List ℕ = map (operand_value w.labels ν) os in
        let fit = room goal.name goal.callee goal.named goal.declared in
        let rest = memory_rest st.memory in
        let handed = hand a ν h t.memory st.memory goal.callee goal.values args zs x0 goal.given goal.rest area (map_long ν os ∙ goal.count)
        (let n = goal.count in omega (arith, fit, st.memory.size, ap length area, length-append args zs, map_long ν os)) goal.parts goal.pre in
        let same : arguments_at goal.callee (wrap (a.sp + offset)) t.memory ≡ args = entered_args goal.callee goal.values (wrap (a.sp + offset)) args t.memory handed.rest handed.enters in
        let enters = subst (λ l. EntersAt w goal.callee goal.values (wrap (a.sp + offset)) l t.memory handed.rest) (sym same) handed.enters in (
          rest,
          set_scratch Second (operand_value w.labels ν target) t,
          fetch w c places a Second target ν h t st target_known,
          (
            rest,
            record t { second = operand_value w.labels ν target; next = t.next + 1; sp = wrap (a.sp + offset) },
            rw st.sp refl,
            (
              rest,
              record t { second = operand_value w.labels ν target; next = t.next + 1 + 1; sp = wrap (a.sp + offset); rp = places (first + 1) },
              refl,
              (
                rest,
                λ m lt. record {
                  label = first + 1;
                  is_label = back_args c.site.locals 0 os (leave_insts c.site.locals target (first + 1));
                  rp = refl;
                  bytes = st.memory.bytes;
                  name = goal.name.bytes;
                  callee = goal.callee;
                  code = goal.code;
                  declared = goal.declared;
                  values = goal.values;
                  rest = handed.rest;
                  enters = enters;
                  keeps = handed.keeps;
                  goes_on = λ v l z ok.
                      let leaves = ok.leaves goal.values handed.rest enters in
                      let left : LeavesAt w goal.callee goal.values (wrap (a.sp + offset)) args v.rv v.memory handed.rest = subst (λ l. LeavesAt w goal.callee goal.values (wrap (a.sp + offset)) l v.rv v.memory handed.rest) same leaves in
                      let again = handed.again v.rv v.memory ok.bytes left in
                      back_safe a ν again.0 m v l z ok.sp ok.answer again.2 (goal.goes_on v.rv left.heap again.0 ok.answer again.1 left.post);
                },
              ),
            ),
          ),
        )

    pub call_law : Law w c places blocks [] first next call_conds from (Some to)
    call_law = record {
      sure = λ valid sure ν h st. after_more w from.actions _ _ (λ μ g q. tt) ν h (call_after valid ν h st);
      keeps = λ valid sure a s reach n.
          let d = reach.2 in
          let goal = after_leads w from.actions _ d.values0 d.heap0 d.values d.heap (call_after valid d.values0 d.heap0 d.starts) d.leads in
          let fit = room goal.name goal.callee goal.named goal.declared in
          let some = nonempty d.state.memory.area (omega (arith, d.state.memory.size, fit)) in
          straight w c places blocks [] a (Reaches w c next (Some to) a) leaving call_found n [] leaving.insts s refl reach.0 reach.1 (λ y is l z. no_heads y is)
          (runs_append w places a (argument_insts c.site.locals 0 os) (leave_insts c.site.locals target (first + 1)) _ s
          (args_run a d.values d.heap _ (some.0 ∷ []) some.1 0 os are refl
          (let k = goal.count in omega (arith, d.state.memory.size, fit, ap length some.2)) s d.state some.2
          (λ t st2 zs e. leave_safe a d.values d.heap goal n t st2 some.0 zs e)));
    }
