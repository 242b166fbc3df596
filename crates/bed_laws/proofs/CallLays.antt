-- The second law of a call.
use Rattle.std.proofs.Common.{◌≡◌, ◌≢◌, ℕ, zero, suc, ◌+◌, ◌*◌, ◌<◌, ◌≤◌, Bool, true, false, Option, Some, None, IsSome, List, [], ◌∷◌, ◌++◌, length, nat_eq, if◌then◌else◌, Contains, inl, inr, ◌⊎◌, refl, sym, ◌∙◌, ap, ap₂, subst, arith, append_assoc}
use Rattle.std.proofs.lemmas.List.{append-nil}
use Rattle.bed_lang.specs.Numbers.{wrap, word_bytes}
use Rattle.bed_machine.specs.Instructions.{row}
use Rattle.bed_lang.specs.declared.word.Name.{Name}
use Rattle.bed_lang.specs.declared.module.Operand.{Operand}
use Rattle.bed_table.specs.Words.{slot, call_area}
use Rattle.bed_table.specs.CodeTable as table
use Rattle.bed_il.specs.declared.blocks.Inst.{Inst}
use Rattle.bed_il.specs.declared.blocks.Block.{Block}
use Rattle.bed_il.specs.BlockMachine.{block_at}
use Rattle.bed_il.specs.Bytes.{ins_of, insts_bytes, block_bytes, laid}
use Rattle.bed_il.specs.Places.{inst_size, insts_size, block_size, blocks_size, place_of, ArePlaced}
use Rattle.bed_il.specs.Fit.{back_labels, first_label, Fit}
use Rattle.bed_il.proofs.PlaceLaws.{place_first, place_other, block_size_is}
use Rattle.bed_laws.specs.Keeps.{LoopHead}
use Rattle.bed_laws.specs.Spans.{Spans}
use Rattle.bed_laws.specs.Lays.{behind, Lays}
use Rattle.bed_laws.specs.StatementBlocks.{value_of, argument_insts, leave_insts, leave_block, back_block, call_blocks}
use Rattle.bed_laws.proofs.SequenceLaws.{append_back, not_there}
use Rattle.bed_laws.proofs.TestLaws.{one_block, one_span, no_heads, only_one}
use Rattle.bed_laws.proofs.FitLaws.{FitIn, fit_of, one_in, fit_append, some_is}
use Rattle.bed_laws.proofs.LayLaws.{fetch_size, fetch_size2, into_first, into_second}

insts_bytes_append : (functions : List ℕ → ℕ) (places : ℕ → ℕ) (is js : List Inst) → insts_bytes functions places (is ++ js) ≡ insts_bytes functions places is ++ insts_bytes functions places js
insts_bytes_append functions places [] js = refl
insts_bytes_append functions places (i ∷ is) js =
    ap (λ l. row (ins_of functions places i) ++ l) (insts_bytes_append functions places is js)
    ∙ sym (append_assoc (row (ins_of functions places i)) (insts_bytes functions places is) (insts_bytes functions places js))

insts_size_append : (is js : List Inst) → insts_size (is ++ js) ≡ insts_size is + insts_size js
insts_size_append [] js = let e : insts_size js ≡ 0 + insts_size js = omega arith in e
insts_size_append (i ∷ is) js = let e = insts_size_append is js in omega arith

module _ (locals : List Name) where
  arguments_size_is : (i : ℕ) (os : List Operand) → insts_size (argument_insts locals i os) ≡ table.arguments_size os
  arguments_size_is i [] = refl
  arguments_size_is i (o ∷ os) = let e = fetch_size locals o in let f = arguments_size_is (1 + i) os in omega arith

  arguments_are : (functions : List ℕ → ℕ) (places : ℕ → ℕ) (i : ℕ) (os : List Operand) → insts_bytes functions places (argument_insts locals i os) ≡ table.arguments_bytes locals functions i os
  arguments_are functions places i [] = refl
  arguments_are functions places i (o ∷ os) =
      ap₂ (λ k l. k ++ ((0x89 ∷ 0x8D ∷ word_bytes (wrap (call_area locals + (4 + 4 * i)))) ++ l)) (into_first locals functions places o) (arguments_are functions places (1 + i) os)

  backs_are : (i : ℕ) (os : List Operand) (target : Operand) (back : ℕ) → back_labels (argument_insts locals i os ++ leave_insts locals target back) ≡ back ∷ []
  backs_are i [] target back = refl
  backs_are i (o ∷ os) target back = backs_are (1 + i) os target back

  module _ (x : Name) (target : Operand) (os : List Operand) (first next : ℕ) where
    abbrev leaving : Block
    leaving = leave_block locals target os first

    abbrev coming : Block
    coming = back_block locals x (first + 1) next

    abbrev blocks : List Block
    blocks = call_blocks locals x target os first next

    abbrev area : ℕ
    area = call_area locals

    leaving_size : block_size leaving ≡ table.arguments_size os + table.operand_size target + 13
    leaving_size =
        let e = insts_size_append (argument_insts locals 0 os) (leave_insts locals target (first + 1)) in
        let f = arguments_size_is 0 os in
        let g = fetch_size2 locals target in
        omega arith

    apart : first ≢ first + 1
    apart e = omega arith

    back_at : (places : ℕ → ℕ) (at : ℕ) → ArePlaced blocks at places → places (first + 1) ≡ at + table.arguments_size os + table.operand_size target + 13
    back_at places at are =
        let none = not_there (one_span leaving [] (λ y is. no_heads y is)) (first + 1) (inr (omega arith)) in
        let e = are (first + 1) coming (append_back (leaving ∷ []) (coming ∷ []) (first + 1) coming none (one_block coming)) in
        let f = place_other leaving (coming ∷ []) at (first + 1) apart in
        let g = place_first coming [] (at + block_size leaving) (first + 1) refl in
        let h = leaving_size in
        omega (arith, e ∙ f ∙ g)

    -- the bytes behind the arguments and the target
    abbrev raised : ℕ → List ℕ
    raised back = (0x81 ∷ 0xC5 ∷ word_bytes area) ++ (0xBE ∷ word_bytes back)

    abbrev returned : List ℕ
    returned = (0x81 ∷ 0xED ∷ word_bytes area) ++ (0x89 ∷ 0x85 ∷ word_bytes (slot locals x.bytes))

    regroup : (a e r k : List ℕ) → ((a ++ (e ++ r)) ++ (0xFF ∷ 0xE2 ∷ [])) ++ k ≡ a ++ (e ++ (r ++ ((0xFF ∷ 0xE2 ∷ []) ++ k)))
    regroup a e r k =
        append_assoc (a ++ (e ++ r)) (0xFF ∷ 0xE2 ∷ []) k
        ∙ append_assoc a (e ++ r) ((0xFF ∷ 0xE2 ∷ []) ++ k)
        ∙ ap (λ l. a ++ l) (append_assoc e r ((0xFF ∷ 0xE2 ∷ []) ++ k))

    leaving_bytes : (functions : List ℕ → ℕ) (places : ℕ → ℕ) (at : ℕ) → block_bytes functions places leaving at
        ≡ (table.arguments_bytes locals functions 0 os ++ (table.into_edx locals functions target ++ raised (places (first + 1)))) ++ (0xFF ∷ 0xE2 ∷ [])
    leaving_bytes functions places at =
        ap (λ l. l ++ (0xFF ∷ 0xE2 ∷ []))
        (insts_bytes_append functions places (argument_insts locals 0 os) (leave_insts locals target (first + 1))
        ∙ ap₂ (λ k l. k ++ (l ++ raised (places (first + 1)))) (arguments_are functions places 0 os) (into_second locals functions places target))

    L : ℕ → Type 0
    L l = l ≡ first + 1

    span_call : Spans (leaving ∷ []) [] first (first + 1)
    span_call = one_span leaving [] (λ y is. no_heads y is)

    span_back : Spans (coming ∷ []) [] (first + 1) (first + 1 + 1)
    span_back = one_span coming [] (λ y is. no_heads y is)

    has_back : (l : ℕ) → L l → IsSome (block_at blocks l)
    unfolding L
    has_back l is =
        let none = not_there span_call (first + 1) (inr (omega arith)) in
        some_is (ap (block_at blocks) is ∙ append_back (leaving ∷ []) (coming ∷ []) (first + 1) coming none (one_block coming))

    named_back : (l : ℕ) → Contains (back_labels leaving.insts ++ []) l → L l
    unfolding L
    named_back l is = sym (only_one (subst (λ ls. Contains (ls ++ []) l) (backs_are 0 os target (first + 1)) is))

    fits : Fit blocks (Some next)
    fits =
        fit_of L blocks (Some next) (λ l is. inl (has_back l is))
        (fit_append L (leaving ∷ []) (coming ∷ []) [] [] first (first + 1) (first + 1 + 1) (Some next) span_call span_back refl (some_is (one_block coming))
        (one_in L leaving (Some (first + 1)) (λ l is. inr (named_back l is)) tt (ap length (backs_are 0 os target (first + 1))))
        (one_in L coming (Some next) (λ l is. inl (ap Some (only_one is))) refl tt))

    pub call_lays : Lays locals blocks [] first next (table.call x target os)
    call_lays = record {
      size = let e = leaving_size in omega arith;
      begins = refl;
      bytes = λ functions places at are after.
          ap₂ (λ k l. k ++ l) (leaving_bytes functions places at) refl
          ∙ regroup (table.arguments_bytes locals functions 0 os) (table.into_edx locals functions target) (raised (places (first + 1))) returned
          ∙ ap (λ b. table.arguments_bytes locals functions 0 os ++ (table.into_edx locals functions target ++ table.transfer_bytes locals x b)) (back_at places at are);
      at_heads = λ places at are. refl;
      fit = fits;
      code = λ y is. no_heads y is;
    }
