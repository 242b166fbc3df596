-- The first law of a loop.
use Rattle.std.proofs.Common.{◌≡◌, ℕ, zero, suc, ◌+◌, ◌<◌, ◌≤◌, Option, Some, None, List, [], ◌∷◌, ◌++◌, Contains, inl, inr, ◌⊎◌, refl, sym, ap, subst, arith}
use Rattle.bed_lang.specs.declared.logic.Assertion.{Assertion}
use Rattle.bed_lang.specs.declared.module.Test.{Test}
use Rattle.bed_lang.specs.declared.condition.Cond.{Cond}
use Rattle.bed_lang.specs.declared.condition.Goal.TheVariants.{Meets}
use Rattle.bed_sat.specs.Parts.{Includes}
use Rattle.bed_sat.specs.Assertions.{World}
use Rattle.bed_sat.specs.Conditions.{Path, path_from, negated, where_true, where_false, condition, met}
use Rattle.bed_il.specs.declared.blocks.Block.{Block}
use Rattle.bed_il.specs.BlockMachine.{BlockState, block_at, at_label}
use Rattle.bed_laws.specs.Activations.{FunctionSite, Activation}
use Rattle.bed_laws.specs.Keeps.{LoopHead, IsAtHead, IsNow, Turns, Safe, Reaches, Keeps, AllHold, Law}
use Rattle.bed_laws.specs.Spans.{Spans}
use Rattle.bed_laws.specs.StatementBlocks.{IsKnown, going, test_block}
use Rattle.bed_laws.proofs.RunLaws.{Among, among_trans, link}
use Rattle.bed_laws.proofs.SequenceLaws.{exit_safe, spans_append, among_front, among_back, valid_left, valid_right, reaches_rest, reaches_at}
use Rattle.bed_laws.proofs.StraightLaws.{straight}
use Rattle.bed_laws.proofs.TestLaws.{one_block, one_span, only_one, no_heads, describes_at, meets_sure, meets_head, met_sure, met_head, describes_start, test_safe}

head_at : (w : World) (c : FunctionSite) (a : Activation) (A : Assertion) (l : ℕ) (s : BlockState) → IsAtHead w c a A s → IsAtHead w c a A (at_label l s)
head_at w c a A l s h = record { values = h.values; heap = h.heap; state = record { sp = h.state.sp; memory = h.state.memory }; holds = h.holds }

module _ (w : World) (c : FunctionSite) (places : ℕ → ℕ) (t : Test) (left_known : IsKnown c.site.locals t.left) (right_known : IsKnown c.site.locals t.right) (place : ℕ) (I : Assertion) where
  abbrev pub body_path : Path
  body_path = where_true t (path_from I)

  abbrev pub exit_path : Path
  exit_path = where_false t (path_from I)

  -- the body, at the label behind the test; its blocks, and what stands behind them, are among those of the loop
  module _ (B T : List Block) (hb ht : List LoopHead) (first next end : ℕ) (span : Spans T ht (first + 1) end) (less : first + 1 ≤ end) (out : (next < first) ⊎ (end ≤ next)) (body_among : Among B hb T ht) where
    abbrev head_block : Block
    head_block = test_block c.site.locals t first (first + 1) next

    abbrev loop_head : LoopHead
    loop_head = record { label = first; invariant = I }

    abbrev blocks : List Block
    blocks = head_block ∷ T

    abbrev heads : List LoopHead
    heads = loop_head ∷ ht

    span_head : Spans (head_block ∷ []) (loop_head ∷ []) first (first + 1)
    span_head = one_span head_block (loop_head ∷ []) (λ x is. sym (ap (λ y. y.label) (only_one is)))

    pub loop_spans : Spans blocks heads first end
    loop_spans = spans_append (head_block ∷ []) T (loop_head ∷ []) ht first (first + 1) end (omega arith) less span_head span

    tail_among : Among T ht blocks heads
    tail_among = among_back (head_block ∷ []) T (loop_head ∷ []) ht first (first + 1) end (omega arith) less span_head span

    front_among : Among (head_block ∷ []) (loop_head ∷ []) blocks heads
    front_among = among_front (head_block ∷ []) T (loop_head ∷ []) ht first (first + 1) end (omega arith) less span_head span

    head_found : block_at blocks first ≡ Some head_block
    head_found = front_among.at_block first head_block (one_block head_block)

    module _ (a : Activation) where
      abbrev Safely : ℕ → BlockState → Type 0
      Safely n s = Safe w c places blocks heads a (Reaches w c next (Some exit_path) a) n s

      abbrev Heads : ℕ → Type 0
      Heads n = (s : BlockState) → s.label ≡ first → s.next ≡ 0 → IsAtHead w c a I s → Safely n s

      -- where the body leads for fewer turns is known, so is the head
      module _ (back : ℕ) (last : Option Path) (keeps : Keeps w c places B hb (first + 1) back body_path last)
          (back_safe : (n : ℕ) → ((i : ℕ) → i < n → Heads i) → (s : BlockState) → Reaches w c back last a s → Safely n s) where
        head_turn : (n : ℕ) → ((i : ℕ) → i < n → Heads i) → Heads n
        head_turn n again s at zero_next is =
            test_safe w c places t left_known right_known first (first + 1) next blocks heads a (Reaches w c next (Some exit_path) a) head_found
            n is.values is.heap s at zero_next is.state
            (λ x is_in l z. subst (λ y. IsAtHead w c a y.invariant s) (only_one (front_among.at_head first head_block (one_block head_block) x is_in l)) is)
            (λ m lt u l z st true_test. link w c places a B hb blocks heads (among_trans body_among tail_among) (Reaches w c back last a) (Reaches w c next (Some exit_path) a) m
            (λ k le v r. back_safe k (λ i less2. again i (omega arith)) v r) u
            (keeps a u (l, z, describes_start w c places I t a is.values is.heap u is.holds st true_test) m))
            (λ m lt u l z st false_test. exit_safe w c places blocks heads first end loop_spans a next (Some exit_path) out u
            (l, z, describes_start w c places I (negated t) a is.values is.heap u is.holds st false_test) m)

        head_safe : (n m : ℕ) → m ≤ n → Heads m
        head_safe zero m le = head_turn m (λ i lt. absurd (omega arith))
        head_safe (suc n) m le = head_turn m (λ i lt. head_safe n i (omega arith))

  -- a loop whose body comes to its end, from where a jump goes back
  module _ (B : List Block) (hb : List LoopHead) (first back next : ℕ) (less : first + 1 ≤ back) (sb : Spans B hb (first + 1) back) (out : (next < first) ⊎ (back + 1 ≤ next)) where
    abbrev back_block : Block
    back_block = going back first

    abbrev tail : List Block
    tail = B ++ (back_block ∷ [])

    abbrev tail_heads : List LoopHead
    tail_heads = hb ++ []

    abbrev pub loop_blocks : List Block
    loop_blocks = test_block c.site.locals t first (first + 1) next ∷ tail

    abbrev pub loop_heads : List LoopHead
    loop_heads = record { label = first; invariant = I } ∷ tail_heads

    span_back : Spans (back_block ∷ []) [] back (back + 1)
    span_back = one_span back_block [] (λ x is. no_heads x is)

    span_tail : Spans tail tail_heads (first + 1) (back + 1)
    span_tail = spans_append B (back_block ∷ []) hb [] (first + 1) back (back + 1) less (omega arith) sb span_back

    body_in : Among B hb tail tail_heads
    body_in = among_front B (back_block ∷ []) hb [] (first + 1) back (back + 1) less (omega arith) sb span_back

    pub loop_span : Spans loop_blocks loop_heads first (back + 1)
    loop_span = loop_spans B tail hb tail_heads first next (back + 1) span_tail (omega arith) out body_in

    back_in : Among (back_block ∷ []) [] loop_blocks loop_heads
    back_in =
        among_trans (among_back B (back_block ∷ []) hb [] (first + 1) back (back + 1) less (omega arith) sb span_back)
        (tail_among B tail hb tail_heads first next (back + 1) span_tail (omega arith) out body_in)

    module _ (cb : List Cond) (from : Path) (last : Option Path) (body : Law w c places B hb (first + 1) back cb body_path last) where
      abbrev pub loop_conds : List Cond
      loop_conds = condition c.site place (Meets I) from ∷ (cb ++ met c.site place I last)

      module _ (valid : AllHold w c loop_conds) where
        valid_from : AllHold w c (condition c.site place (Meets I) from ∷ [])
        valid_from = valid_left w c places (condition c.site place (Meets I) from ∷ []) (cb ++ met c.site place I last) valid

        valid_rest : AllHold w c (cb ++ met c.site place I last)
        valid_rest = valid_right w c places (condition c.site place (Meets I) from ∷ []) (cb ++ met c.site place I last) valid

        valid_body : AllHold w c cb
        valid_body = valid_left w c places cb (met c.site place I last) valid_rest

        valid_last : AllHold w c (met c.site place I last)
        valid_last = valid_right w c places cb (met c.site place I last) valid_rest

        back_safe : (a : Activation) (n : ℕ) → ((i : ℕ) → i < n → Heads B tail hb tail_heads first next (back + 1) span_tail (omega arith) out body_in a i)
            → (s : BlockState) → Reaches w c back last a s → Safe w c places loop_blocks loop_heads a (Reaches w c next (Some exit_path) a) n s
        back_safe a n again s r =
            let at = reaches_at w c places a back last s r in
            straight w c places loop_blocks loop_heads a (Reaches w c next (Some exit_path) a) back_block (back_in.at_block back back_block (one_block back_block)) n [] [] s refl at.0 at.1
            (λ x is l z. no_heads x (back_in.at_head back back_block (one_block back_block) x is l))
            (reaches_rest w c places a back last s r, λ m lt. again m lt (at_label first s) refl refl (head_at w c a I first s (met_head w c places place last I valid_last back a s r)))

      pub loop_law : Law w c places loop_blocks loop_heads first next loop_conds from (Some exit_path)
      loop_law = record {
        sure = λ valid sure. meets_sure w c places place from I (valid_from valid);
        keeps = λ valid sure a s reach n.
            head_safe B tail hb tail_heads first next (back + 1) span_tail (omega arith) out body_in a back last
            (body.keeps (valid_body valid) (met_sure w c places place last I (valid_last valid))) (back_safe valid a) n n (omega arith) s reach.0 reach.1
            (meets_head w c places place from I (valid_from valid) a s reach.2);
      }

  -- a loop whose body doesn't come to its end
  module _ (B : List Block) (hb : List LoopHead) (first end next : ℕ) (less : first + 1 ≤ end) (sb : Spans B hb (first + 1) end) (out : (next < first) ⊎ (end ≤ next)) where
    abbrev pub once_blocks : List Block
    once_blocks = test_block c.site.locals t first (first + 1) next ∷ B

    abbrev pub once_heads : List LoopHead
    once_heads = record { label = first; invariant = I } ∷ hb

    itself : Among B hb B hb
    itself = record { at_block = λ l b e. e; at_head = λ l b e x is same. is }

    pub once_span : Spans once_blocks once_heads first end
    once_span = loop_spans B B hb hb first next end sb less out itself

    pub once_law : (back : ℕ) (cb : List Cond) (from : Path) → Law w c places B hb (first + 1) back cb body_path None
        → Law w c places once_blocks once_heads first next (condition c.site place (Meets I) from ∷ (cb ++ [])) from (Some exit_path)
    once_law back cb from body = record {
      sure = λ valid sure. meets_sure w c places place from I (valid_left w c places (condition c.site place (Meets I) from ∷ []) (cb ++ []) valid);
      keeps = λ valid sure a s reach n.
          head_safe B B hb hb first next end sb less out itself a back None
          (body.keeps (valid_left w c places cb [] (valid_right w c places (condition c.site place (Meets I) from ∷ []) (cb ++ []) valid)) tt) (λ k again u r. absurd r) n n (omega arith) s reach.0 reach.1
          (meets_head w c places place from I (valid_left w c places (condition c.site place (Meets I) from ∷ []) (cb ++ []) valid) a s reach.2);
    }
