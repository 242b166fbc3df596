-- The second law of a loop and of a choice.
use Rattle.std.proofs.Common.{◌≡◌, ◌≢◌, ℕ, zero, suc, ◌+◌, ◌-◌, ◌<◌, ◌≤◌, Bool, true, false, Option, Some, None, IsSome, List, [], ◌∷◌, ◌++◌, map, length, nat_eq, if◌then◌else◌, Contains, inl, inr, ◌⊎◌, ◌||◌, refl, sym, ◌∙◌, ap, ap₂, subst, arith, append_assoc}
use Rattle.std.proofs.lemmas.List.{append-nil}
use Rattle.std.proofs.lemmas.List.Elements.{Contains-append_cases}
use Rattle.bed_lang.specs.Numbers.{wrap, word_bytes}
use Rattle.bed_machine.specs.Instructions.{row}
use Rattle.bed_lang.specs.declared.word.Name.{Name}
use Rattle.bed_lang.specs.declared.logic.Assertion.{Assertion}
use Rattle.bed_lang.specs.declared.module.Operand.{Operand}
use Rattle.bed_lang.specs.declared.module.Rel.{Rel}
use Rattle.bed_lang.specs.declared.module.Rel.TheVariants.{Equal, Unequal, Less, AtMost}
use Rattle.bed_lang.specs.declared.module.Test.{Test}
use Rattle.bed_table.specs.Words.{displacement}
use Rattle.bed_table.specs.Pieces.{Piece, Head}
use Rattle.bed_table.specs.CodeTable as table
use Rattle.bed_il.specs.declared.blocks.Jump.TheVariants as jump
use Rattle.bed_il.specs.declared.blocks.Block.{Block}
use Rattle.bed_il.specs.BlockMachine.{block_at}
use Rattle.bed_il.specs.Bytes.{insts_bytes, jump_bytes, block_bytes, laid}
use Rattle.bed_il.specs.Places.{insts_size, block_size, blocks_size, ArePlaced}
use Rattle.bed_il.specs.Fit.{back_labels, first_label, Fit, HasCode}
use Rattle.bed_il.proofs.PlaceLaws.{laid_append, block_size_is, insts_size_is, size_append}
use Rattle.bed_laws.specs.Keeps.{LoopHead}
use Rattle.bed_laws.specs.Spans.{Spans}
use Rattle.bed_laws.specs.Lays.{behind, Lays}
use Rattle.bed_laws.specs.StatementBlocks.{value_of, going, test_block}
use Rattle.bed_laws.proofs.SequenceLaws.{spans_append, append_front}
use Rattle.bed_laws.proofs.TestLaws.{one_block, one_span, no_heads, only_one}
use Rattle.bed_laws.proofs.FitLaws.{FitIn, fit_more, fit_behind, fit_in, fit_of, one_in, fit_append, some_is, some_left, some_right}
use Rattle.bed_laws.proofs.LayLaws.{head_at, fetch_size, fetch_size2, into_first, into_second, front_placed, back_placed, first_found, first_placed, first_any, first_front, has_code_front, has_code_back, map_append}

module _ (locals : List Name) where
  -- ---- a test, and a jump

  test_size_is : (t : Test) (first p q : ℕ) → block_size (test_block locals t first p q) ≡ table.test_size t
  test_size_is t first p q = let e = fetch_size locals t.left in let f = fetch_size2 locals t.right in omega arith

  test_row : (r : Rel) (p q next : ℕ) (places : ℕ → ℕ) (at : ℕ) → wrap (at + 8) ≡ wrap next → jump_bytes places (jump.Test r p q) at ≡ 0x3B ∷ 0xCA ∷ 0x0F ∷ table.jump_on_false r ∷ word_bytes (displacement next (places q))
  test_row Equal p q next places at e = ap (λ n. 0x3B ∷ 0xCA ∷ 0x0F ∷ 0x85 ∷ word_bytes (wrap (places q + (4294967296 - n)))) e
  test_row Unequal p q next places at e = ap (λ n. 0x3B ∷ 0xCA ∷ 0x0F ∷ 0x84 ∷ word_bytes (wrap (places q + (4294967296 - n)))) e
  test_row Less p q next places at e = ap (λ n. 0x3B ∷ 0xCA ∷ 0x0F ∷ 0x83 ∷ word_bytes (wrap (places q + (4294967296 - n)))) e
  test_row AtMost p q next places at e = ap (λ n. 0x3B ∷ 0xCA ∷ 0x0F ∷ 0x87 ∷ word_bytes (wrap (places q + (4294967296 - n)))) e

  test_bytes_are : (functions : List ℕ → ℕ) (places : ℕ → ℕ) (t : Test) (first p q at target : ℕ) → places q ≡ target → block_bytes functions places (test_block locals t first p q) at ≡ table.test_bytes locals functions t at target
  test_bytes_are functions places t first p q at target to =
      let is = (test_block locals t first p q).insts in
      let n : ℕ = at + length (insts_bytes functions places is) in
      let size = insts_size_is functions places is in
      let e : wrap (n + 8) ≡ wrap (at + table.test_size t) = ap wrap (let f = fetch_size locals t.left in let g = fetch_size2 locals t.right in omega (arith, size)) in
      ap₂ (λ k l. k ++ l)
      (ap₂ (λ k l. k ++ (l ++ [])) (into_first locals functions places t.left) (into_second locals functions places t.right))
      (test_row t.rel p q (at + table.test_size t) places n e ∙ ap (λ x. 0x3B ∷ 0xCA ∷ 0x0F ∷ table.jump_on_false t.rel ∷ word_bytes (displacement (at + table.test_size t) x)) to)
      ∙ append_assoc (table.into_ecx locals functions t.left) (table.into_edx locals functions t.right ++ []) _
      ∙ ap (λ l. table.into_ecx locals functions t.left ++ l) (append_assoc (table.into_edx locals functions t.right) [] _)

  going_bytes : (functions : List ℕ → ℕ) (places : ℕ → ℕ) (label to at target : ℕ) → places to ≡ target → block_bytes functions places (going label to) at ≡ table.jump_bytes at target
  going_bytes functions places label to at target e =
      let z : at + 0 ≡ at = omega arith in
      ap₂ (λ x y. 0xE9 ∷ word_bytes (wrap (x + (4294967296 - wrap (y + 5))))) e z

  -- a block before others is laid out before them
  laid_first : (functions : List ℕ → ℕ) (places : ℕ → ℕ) (b : Block) (T : List Block) (at n : ℕ) → block_size b ≡ n → laid functions places (b ∷ T) at ≡ block_bytes functions places b at ++ laid functions places T (at + n)
  laid_first functions places b T at n e = ap (λ k. block_bytes functions places b at ++ laid functions places T (at + k)) (block_size_is functions places b at ∙ e)

  placed_behind : (b : Block) (T : List Block) (hb ht : List LoopHead) (lo mid hi n : ℕ) → Spans (b ∷ []) hb lo mid → Spans T ht mid hi → block_size b ≡ n → (places : ℕ → ℕ) (at : ℕ) → ArePlaced (b ∷ T) at places → ArePlaced T (at + n) places
  placed_behind b T hb ht lo mid hi n sb st e places at are =
      let size : blocks_size (b ∷ []) ≡ n = omega (arith, e) in
      subst (λ k. ArePlaced T (at + k) places) size (back_placed (b ∷ []) T hb ht lo mid hi sb st places at are)

  -- ---- loops

  module _ (t : Test) (I : Assertion) (p : Piece) where
    -- a loop whose body comes to its end where f is true
    abbrev pub loop_piece : Bool → Piece
    loop_piece f = record {
      falls = true;
      size = table.test_size t + (p.size + table.jump_size f);
      bytes = λ locals labels at.
          let jump_at = at + table.test_size t + p.size in
          table.test_bytes locals labels t at (jump_at + table.jump_size f)
          ++ (p.bytes locals labels (at + table.test_size t) ++ table.jump_if f jump_at at);
      heads = λ at. record { address = at; invariant = I } ∷ p.heads (at + table.test_size t);
    }

    module _ (first next : ℕ) where
      abbrev head_block : Block
      head_block = test_block locals t first (first + 1) next

      abbrev head : LoopHead
      head = record { label = first; invariant = I }

      span_head : Spans (head_block ∷ []) (head ∷ []) first (first + 1)
      span_head = one_span head_block (head ∷ []) (λ x is. sym (ap (λ y. y.label) (only_one is)))

      -- the labels that the loop's blocks name beside those right behind them
      L : ℕ → Type 0
      L l = (l ≡ first) ⊎ (l ≡ next)

      has : (T : List Block) (l : ℕ) → L l → IsSome (block_at (head_block ∷ T) l) ⊎ (◌≡◌ {A = Option ℕ} (Some next) (Some l))
      unfolding L
      has T l (inl is) = inl (subst (λ k. IsSome (block_at (head_block ∷ T) k)) (sym is) (some_left (head_block ∷ []) T first (some_is (one_block head_block))))
      has T l (inr is) = inr (ap Some (sym is))

      head_named : (l : ℕ) → Contains ((first + 1) ∷ (next ∷ [])) l → (◌≡◌ {A = Option ℕ} (Some (first + 1)) (Some l)) ⊎ L l
      unfolding L
      head_named l (zero, lt, e) = inl (ap Some e)
      head_named l (suc zero, lt, e) = inr (inr (sym e))
      head_named l (suc (suc k), lt, e) = absurd (omega arith)

      -- the head before a tail that begins with the body
      head_fits : (T : List Block) (ht : List LoopHead) (end : ℕ) → Spans T ht (first + 1) end → first_label T None ≡ Some (first + 1) → FitIn L T (Some next) → Fit (head_block ∷ T) (Some next)
      head_fits T ht end st begins ft =
          fit_of L (head_block ∷ T) (Some next) (has T)
          (fit_append L (head_block ∷ []) T (head ∷ []) ht first (first + 1) end (Some next) span_head st (first_any T (first + 1) (Some next) begins) (some_is (first_found T (first + 1) begins).1)
          (one_in L head_block (Some (first + 1)) head_named refl tt) ft)

      head_code : (T : List Block) → HasCode (head_block ∷ T) first
      head_code T = record { block = head_block; found = append_front (head_block ∷ []) T first head_block (one_block head_block); some = λ e. cc }

      heads_code : (T : List Block) (ht : List LoopHead) (end : ℕ) → Spans T ht (first + 1) end → ((x : LoopHead) → Contains ht x → HasCode T x.label) → (x : LoopHead) → Contains (head ∷ ht) x → HasCode (head_block ∷ T) x.label
      heads_code T ht end st code x (zero, lt, e) = subst (λ (y : LoopHead). HasCode (head_block ∷ T) y.label) e (head_code T)
      heads_code T ht end st code x (suc k, lt, e) = has_code_back (head_block ∷ []) T (head ∷ []) ht first (first + 1) end span_head st x.label (code x (k, omega arith, e))

      -- the body comes to its end, from where a jump goes back
      module _ (B : List Block) (hb : List LoopHead) (back : ℕ) (less : first + 1 ≤ back) (sb : Spans B hb (first + 1) back) (lb : Lays locals B hb (first + 1) back p) where
        abbrev back_block : Block
        back_block = going back first

        abbrev tail : List Block
        tail = B ++ (back_block ∷ [])

        span_back : Spans (back_block ∷ []) [] back (back + 1)
        span_back = one_span back_block [] (λ x is. no_heads x is)

        span_tail : Spans tail (hb ++ []) (first + 1) (back + 1)
        span_tail = spans_append B (back_block ∷ []) hb [] (first + 1) back (back + 1) less (omega arith) sb span_back

        back_named : (l : ℕ) → Contains (first ∷ []) l → L l
        unfolding L
        back_named l is = inl (sym (only_one is))

        tail_fits : FitIn L tail (Some next)
        tail_fits =
            fit_append L B (back_block ∷ []) hb [] (first + 1) back (back + 1) (Some next) sb span_back refl (some_is (one_block back_block))
            (fit_in L B (Some back) (fit_behind B p.falls back lb.fit)) (one_in L back_block (Some next) (λ l is. inr (back_named l is)) tt tt)

        tail_code : (x : LoopHead) → Contains (hb ++ []) x → HasCode tail x.label
        tail_code x is = elim (Contains-append_cases hb [] x is) [
          | inl i ↦ has_code_front B (back_block ∷ []) x.label (lb.code x i)
          | inr i ↦ no_heads x i
        ]

        pub loop_lays : Lays locals (head_block ∷ tail) (head ∷ (hb ++ [])) first next (loop_piece true)
        loop_lays = record {
          size = let e = test_size_is t first (first + 1) next in let f = size_append B (back_block ∷ []) in omega (arith, lb.size);
          begins = refl;
          bytes = λ functions places at are after.
              let n = table.test_size t in
              let x = at + n in
              let size = test_size_is t first (first + 1) next in
              let at_first : places first ≡ at = first_placed (head_block ∷ tail) first refl places at are in
              let behind = placed_behind head_block tail (head ∷ []) (hb ++ []) first (first + 1) (back + 1) n span_head span_tail size places at are in
              let last : places back ≡ x + p.size =
              first_placed (back_block ∷ []) back refl places (x + p.size) (subst (λ k. ArePlaced (back_block ∷ []) (x + k) places) lb.size (back_placed B (back_block ∷ []) hb [] (first + 1) back (back + 1) sb span_back places x behind)) in
              laid_first functions places head_block tail at n size
              ∙ ap₂ (λ k l. k ++ l) (test_bytes_are functions places t first (first + 1) next at (at + n + p.size + 5) (after ∙ (let e : at + (n + (p.size + 5)) ≡ at + n + p.size + 5 = omega arith in e)))
              (laid_append functions places B (back_block ∷ []) x
              ∙ ap₂ (λ k l. k ++ l) (lb.bytes functions places x (front_placed B (back_block ∷ []) places x behind) last)
              (append-nil (block_bytes functions places back_block (x + blocks_size B)) ∙ going_bytes functions places back first (x + blocks_size B) at at_first ∙ ap (λ k. table.jump_bytes (x + k) at) lb.size));
          at_heads = λ places at are.
              let n = table.test_size t in
              let size = test_size_is t first (first + 1) next in
              let at_first : places first ≡ at = first_placed (head_block ∷ tail) first refl places at are in
              let behind = placed_behind head_block tail (head ∷ []) (hb ++ []) first (first + 1) (back + 1) n span_head span_tail size places at are in
              ap₂ (λ k l. record { address = k; invariant = I } ∷ l) at_first
              (ap (λ l. map (head_at places) l) (append-nil hb) ∙ lb.at_heads places (at + n) (front_placed B (back_block ∷ []) places (at + n) behind));
          fit = head_fits tail (hb ++ []) (back + 1) span_tail (first_front B (back_block ∷ []) (first + 1) lb.begins) tail_fits;
          code = heads_code tail (hb ++ []) (back + 1) span_tail tail_code;
        }

      -- the body doesn't come to its end
      module _ (B : List Block) (hb : List LoopHead) (end : ℕ) (st : Spans B hb (first + 1) end) (lb : Lays locals B hb (first + 1) next p) where
        pub once_lays : p.falls ≡ false → Lays locals (head_block ∷ B) (head ∷ hb) first next (loop_piece false)
        once_lays stops = record {
          size = let e = test_size_is t first (first + 1) next in omega (arith, lb.size);
          begins = refl;
          bytes = λ functions places at are after.
              let n = table.test_size t in
              let x = at + n in
              let size = test_size_is t first (first + 1) next in
              let behind = placed_behind head_block B (head ∷ []) hb first (first + 1) end n span_head st size places at are in
              laid_first functions places head_block B at n size
              ∙ ap₂ (λ k l. k ++ l) (test_bytes_are functions places t first (first + 1) next at (at + n + p.size + 0) (after ∙ (let e : at + (n + (p.size + 0)) ≡ at + n + p.size + 0 = omega arith in e)))
              (lb.bytes functions places x behind (after ∙ (let e : at + (n + (p.size + 0)) ≡ at + n + p.size = omega arith in e)) ∙ sym (append-nil (p.bytes locals functions x)));
          at_heads = λ places at are.
              let n = table.test_size t in
              let size = test_size_is t first (first + 1) next in
              let at_first : places first ≡ at = first_placed (head_block ∷ B) first refl places at are in
              let behind = placed_behind head_block B (head ∷ []) hb first (first + 1) end n span_head st size places at are in
              ap₂ (λ k l. record { address = k; invariant = I } ∷ l) at_first (lb.at_heads places (at + n) behind);
          fit = head_fits B hb end st lb.begins (fit_in L B (Some next) (fit_more B (Some next) (subst (λ f. Fit B (behind f next)) stops lb.fit)));
          code = heads_code B hb end st lb.code;
        }

  -- ---- choices

  module _ (t : Test) (py pn : Piece) where
    -- a choice whose first body comes to its end where f is true
    abbrev pub choice_piece : Bool → Piece
    choice_piece f = record {
      falls = f || pn.falls;
      size = table.test_size t + (py.size + (table.jump_size f + pn.size));
      bytes = λ locals labels at.
          let jump_at = at + table.test_size t + py.size in
          let no_at = jump_at + table.jump_size f in
          table.test_bytes locals labels t at no_at ++ (py.bytes locals labels (at + table.test_size t)
          ++ (table.jump_if f jump_at (no_at + pn.size) ++ pn.bytes locals labels no_at));
      heads = λ at. py.heads (at + table.test_size t) ++ pn.heads (at + table.test_size t + py.size + table.jump_size f);
    }

    module _ (first other next : ℕ) where
      abbrev fork : Block
      fork = test_block locals t first (first + 1) other

      span_fork : Spans (fork ∷ []) [] first (first + 1)
      span_fork = one_span fork [] (λ x is. no_heads x is)

      -- the labels that the choice's blocks name beside those right behind them
      Two : ℕ → Type 0
      Two l = (l ≡ other) ⊎ (l ≡ next)

      fork_named : (l : ℕ) → Contains ((first + 1) ∷ (other ∷ [])) l → (◌≡◌ {A = Option ℕ} (Some (first + 1)) (Some l)) ⊎ Two l
      unfolding Two
      fork_named l (zero, lt, e) = inl (ap Some e)
      fork_named l (suc zero, lt, e) = inr (inl (sym e))
      fork_named l (suc (suc k), lt, e) = absurd (omega arith)

      fork_fits : (T : List Block) (ht : List LoopHead) (end : ℕ) (after : Option ℕ) → Spans T ht (first + 1) end → first_label T None ≡ Some (first + 1) → FitIn Two T after → FitIn Two (fork ∷ T) after
      fork_fits T ht end after st begins ft =
          fit_append Two (fork ∷ []) T [] ht first (first + 1) end after span_fork st (first_any T (first + 1) after begins) (some_is (first_found T (first + 1) begins).1)
          (one_in Two fork (Some (first + 1)) fork_named refl tt) ft

      fork_code : (T : List Block) (ht : List LoopHead) (end : ℕ) → Spans T ht (first + 1) end → ((x : LoopHead) → Contains ht x → HasCode T x.label) → (x : LoopHead) → Contains ht x → HasCode (fork ∷ T) x.label
      fork_code T ht end st code x is = has_code_back (fork ∷ []) T [] ht first (first + 1) end span_fork st x.label (code x is)

      append_code : (B C : List Block) (hb hc : List LoopHead) (lo mid hi : ℕ) → Spans B hb lo mid → Spans C hc mid hi → ((x : LoopHead) → Contains hb x → HasCode B x.label) → ((x : LoopHead) → Contains hc x → HasCode C x.label)
          → (x : LoopHead) → Contains (hb ++ hc) x → HasCode (B ++ C) x.label
      append_code B C hb hc lo mid hi sb sc cb cd x is = elim (Contains-append_cases hb hc x is) [
        | inl i ↦ has_code_front B C x.label (cb x i)
        | inr i ↦ has_code_back B C hb hc lo mid hi sb sc x.label (cd x i)
      ]

    -- the first body comes to its end, from where a jump goes over the second
    module _ (Y N : List Block) (hy hn : List LoopHead) (first skip end next : ℕ) (less : first + 1 ≤ skip) (less2 : skip + 1 ≤ end)
        (sy : Spans Y hy (first + 1) skip) (sn : Spans N hn (skip + 1) end) (ly : Lays locals Y hy (first + 1) skip py) (ln : Lays locals N hn (skip + 1) next pn) where
      abbrev skip_block : Block
      skip_block = going skip next

      abbrev ending : List Block
      ending = skip_block ∷ N

      abbrev test : Block
      test = test_block locals t first (first + 1) (skip + 1)

      span_skip : Spans (skip_block ∷ []) [] skip (skip + 1)
      span_skip = one_span skip_block [] (λ x is. no_heads x is)

      span_ending : Spans ending hn skip end
      span_ending = spans_append (skip_block ∷ []) N [] hn skip (skip + 1) end (omega arith) less2 span_skip sn

      span_rest : Spans (Y ++ ending) (hy ++ hn) (first + 1) end
      span_rest = spans_append Y ending hy hn (first + 1) skip end less (omega arith) sy span_ending

      skip_named : (l : ℕ) → Contains (next ∷ []) l → Two first (skip + 1) next l
      unfolding Two
      skip_named l is = inr (sym (only_one is))

      ending_fits : FitIn (Two first (skip + 1) next) ending (Some next)
      ending_fits =
          fit_append (Two first (skip + 1) next) (skip_block ∷ []) N [] hn skip (skip + 1) end (Some next) span_skip sn (first_any N (skip + 1) (Some next) ln.begins) (some_is (first_found N (skip + 1) ln.begins).1)
          (one_in (Two first (skip + 1) next) skip_block (Some (skip + 1)) (λ l is. inr (skip_named l is)) tt tt)
          (fit_in (Two first (skip + 1) next) N (Some next) (fit_behind N pn.falls next ln.fit))

      rest_fits : FitIn (Two first (skip + 1) next) (Y ++ ending) (Some next)
      rest_fits =
          fit_append (Two first (skip + 1) next) Y ending hy hn (first + 1) skip end (Some next) sy span_ending refl (some_is (one_block' skip_block N))
          (fit_in (Two first (skip + 1) next) Y (Some skip) (fit_behind Y py.falls skip ly.fit)) ending_fits
        where
          one_block' : (b : Block) (T : List Block) → block_at (b ∷ T) b.label ≡ Some b
          one_block' b T = append_front (b ∷ []) T b.label b (one_block b)

      found : (l : ℕ) → Two first (skip + 1) next l → IsSome (block_at (test ∷ (Y ++ ending)) l) ⊎ (◌≡◌ {A = Option ℕ} (Some next) (Some l))
      unfolding Two
      found l (inl is) =
          inl (subst (λ k. IsSome (block_at (test ∷ (Y ++ ending)) k)) (sym is)
          (some_right (test ∷ []) (Y ++ ending) (skip + 1) (some_right Y ending (skip + 1) (some_right (skip_block ∷ []) N (skip + 1) (some_is (first_found N (skip + 1) ln.begins).1)))))
      found l (inr is) = inr (ap Some (sym is))

      pub choice_lays : Lays locals (test ∷ (Y ++ ending)) (hy ++ hn) first next (choice_piece true)
      choice_lays = record {
        size = let e = test_size_is t first (first + 1) (skip + 1) in let f = size_append Y ending in omega (arith, ly.size, ln.size);
        begins = refl;
        bytes = λ functions places at are after.
            let n = table.test_size t in
            let x = at + n in
            let z = at + n + py.size in
            let size = test_size_is t first (first + 1) (skip + 1) in
            let rest = placed_behind test (Y ++ ending) [] (hy ++ hn) first (first + 1) end n (span_fork first (skip + 1) next) span_rest size places at are in
            let back : ArePlaced ending z places = subst (λ k. ArePlaced ending (x + k) places) ly.size (back_placed Y ending hy hn (first + 1) skip end sy span_ending places x rest) in
            let second : ArePlaced N (z + 5) places = placed_behind skip_block N [] hn skip (skip + 1) end 5 span_skip sn refl places z back in
            let at_skip : places skip ≡ z = first_placed ending skip refl places z back in
            let at_no : places (skip + 1) ≡ z + 5 = first_placed N (skip + 1) ln.begins places (z + 5) second in
            let at_next : places next ≡ z + 5 + pn.size = omega arith in
            laid_first functions places test (Y ++ ending) at n size
            ∙ ap₂ (λ k l. k ++ l) (test_bytes_are functions places t first (first + 1) (skip + 1) at (z + 5) at_no)
            (laid_append functions places Y ending x
            ∙ ap₂ (λ k l. k ++ l) (ly.bytes functions places x (front_placed Y ending places x rest) at_skip)
            (ap (λ k. laid functions places ending (x + k)) ly.size
            ∙ laid_first functions places skip_block N z 5 refl
            ∙ ap₂ (λ k l. k ++ l) (going_bytes functions places skip next z (z + 5 + pn.size) at_next) (ln.bytes functions places (z + 5) second at_next)));
        at_heads = λ places at are.
            let n = table.test_size t in
            let x = at + n in
            let z = at + n + py.size in
            let size = test_size_is t first (first + 1) (skip + 1) in
            let rest = placed_behind test (Y ++ ending) [] (hy ++ hn) first (first + 1) end n (span_fork first (skip + 1) next) span_rest size places at are in
            let back : ArePlaced ending z places = subst (λ k. ArePlaced ending (x + k) places) ly.size (back_placed Y ending hy hn (first + 1) skip end sy span_ending places x rest) in
            let second : ArePlaced N (z + 5) places = placed_behind skip_block N [] hn skip (skip + 1) end 5 span_skip sn refl places z back in
            map_append (head_at places) hy hn
            ∙ ap₂ (λ k l. k ++ l) (ly.at_heads places x (front_placed Y ending places x rest)) (ln.at_heads places (z + 5) second);
        fit = fit_of (Two first (skip + 1) next) (test ∷ (Y ++ ending)) (Some next) found (fork_fits first (skip + 1) next (Y ++ ending) (hy ++ hn) end (Some next) span_rest (first_front Y ending (first + 1) ly.begins) rest_fits);
        code = fork_code first (skip + 1) next (Y ++ ending) (hy ++ hn) end span_rest
            (append_code first (skip + 1) next Y ending hy hn (first + 1) skip end sy span_ending ly.code
            (λ x is. has_code_back (skip_block ∷ []) N [] hn skip (skip + 1) end span_skip sn x.label (ln.code x is)));
      }

    -- the first body doesn't come to its end
    module _ (Y N : List Block) (hy hn : List LoopHead) (first mid end next : ℕ) (less : first + 1 ≤ mid) (less2 : mid ≤ end)
        (sy : Spans Y hy (first + 1) mid) (sn : Spans N hn mid end) (ly : Lays locals Y hy (first + 1) mid py) (ln : Lays locals N hn mid next pn) where
      abbrev stop_test : Block
      stop_test = test_block locals t first (first + 1) mid

      span_both : Spans (Y ++ N) (hy ++ hn) (first + 1) end
      span_both = spans_append Y N hy hn (first + 1) mid end less less2 sy sn

      abbrev Middle : ℕ → Type 0
      Middle l = l ≡ mid

      stop_named : (l : ℕ) → Contains ((first + 1) ∷ (mid ∷ [])) l → (◌≡◌ {A = Option ℕ} (Some (first + 1)) (Some l)) ⊎ (l ≡ mid)
      stop_named l (zero, lt, e) = inl (ap Some e)
      stop_named l (suc zero, lt, e) = inr (sym e)
      stop_named l (suc (suc k), lt, e) = absurd (omega arith)

      pub stop_lays : py.falls ≡ false → Lays locals (stop_test ∷ (Y ++ N)) (hy ++ hn) first next (choice_piece false)
      stop_lays stops = record {
        size = let e = test_size_is t first (first + 1) mid in let f = size_append Y N in omega (arith, ly.size, ln.size);
        begins = refl;
        bytes = λ functions places at are after.
            let n = table.test_size t in
            let x = at + n in
            let z = at + n + py.size in
            let size = test_size_is t first (first + 1) mid in
            let rest = placed_behind stop_test (Y ++ N) [] (hy ++ hn) first (first + 1) end n (span_fork first mid next) span_both size places at are in
            let second : ArePlaced N z places = subst (λ k. ArePlaced N (x + k) places) ly.size (back_placed Y N hy hn (first + 1) mid end sy sn places x rest) in
            let at_mid : places mid ≡ z = first_placed N mid ln.begins places z second in
            let same : z ≡ z + 0 = omega arith in
            laid_first functions places stop_test (Y ++ N) at n size
            ∙ ap₂ (λ k l. k ++ l) (test_bytes_are functions places t first (first + 1) mid at (z + 0) (at_mid ∙ same))
            (laid_append functions places Y N x
            ∙ ap₂ (λ k l. k ++ l) (ly.bytes functions places x (front_placed Y N places x rest) at_mid)
            (ap (λ k. laid functions places N (x + k)) ly.size ∙ ln.bytes functions places z second (omega arith) ∙ ap (λ k. pn.bytes locals functions k) same));
        at_heads = λ places at are.
            let n = table.test_size t in
            let x = at + n in
            let z = at + n + py.size in
            let size = test_size_is t first (first + 1) mid in
            let rest = placed_behind stop_test (Y ++ N) [] (hy ++ hn) first (first + 1) end n (span_fork first mid next) span_both size places at are in
            let second : ArePlaced N z places = subst (λ k. ArePlaced N (x + k) places) ly.size (back_placed Y N hy hn (first + 1) mid end sy sn places x rest) in
            let same : z ≡ z + 0 = omega arith in
            map_append (head_at places) hy hn
            ∙ ap₂ (λ k l. k ++ l) (ly.at_heads places x (front_placed Y N places x rest)) (ln.at_heads places z second ∙ ap pn.heads same);
        fit = fit_of Middle (stop_test ∷ (Y ++ N)) (behind pn.falls next)
            (λ l is. inl (subst (λ k. IsSome (block_at (stop_test ∷ (Y ++ N)) k)) (sym is) (some_right (stop_test ∷ []) (Y ++ N) mid (some_right Y N mid (some_is (first_found N mid ln.begins).1)))))
            (fit_append Middle (stop_test ∷ []) (Y ++ N) [] (hy ++ hn) first (first + 1) end (behind pn.falls next) (span_fork first mid next) span_both
            (first_any (Y ++ N) (first + 1) (behind pn.falls next) (first_front Y N (first + 1) ly.begins)) (some_is (first_found (Y ++ N) (first + 1) (first_front Y N (first + 1) ly.begins)).1)
            (one_in Middle stop_test (Some (first + 1)) stop_named refl tt)
            (fit_append Middle Y N hy hn (first + 1) mid end (behind pn.falls next) sy sn (first_any N mid (behind pn.falls next) ln.begins) (some_is (first_found N mid ln.begins).1)
            (fit_in Middle Y (Some mid) (fit_behind Y py.falls mid ly.fit)) (fit_in Middle N (behind pn.falls next) ln.fit)));
        code = fork_code first mid next (Y ++ N) (hy ++ hn) end span_both (append_code first mid next Y N hy hn (first + 1) mid end sy sn ly.code ln.code);
      }
