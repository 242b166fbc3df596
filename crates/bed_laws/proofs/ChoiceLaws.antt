-- The first law of a choice, with and without a join.
use Rattle.std.proofs.Common.{◌≡◌, ℕ, zero, suc, ◌+◌, ◌<◌, ◌≤◌, Option, Some, None, option_map, List, [], ◌∷◌, ◌++◌, Contains, inl, inr, ◌⊎◌, refl, sym, ◌∙◌, ap, subst, arith}
use Rattle.std.specs.Option.{option_or}
use Rattle.bed_lang.specs.declared.logic.Assertion.{Assertion}
use Rattle.bed_lang.specs.declared.module.Action.TheVariants.{Assume}
use Rattle.bed_lang.specs.declared.module.Test.{Test}
use Rattle.bed_lang.specs.declared.condition.Cond.{Cond}
use Rattle.bed_sat.specs.Parts.{Includes}
use Rattle.bed_sat.specs.Assertions.{World}
use Rattle.bed_sat.specs.Conditions.{Path, path_from, negated, where_true, where_false, met}
use Rattle.bed_il.specs.declared.blocks.Block.{Block}
use Rattle.bed_il.specs.BlockMachine.{BlockState, block_at, at_label}
use Rattle.bed_laws.specs.Activations.{FunctionSite, Activation}
use Rattle.bed_laws.specs.Described.{IsSure, AreSure}
use Rattle.bed_laws.specs.Keeps.{LoopHead, IsAtHead, Turns, Safe, Reaches, Keeps, AllHold, Law}
use Rattle.bed_laws.specs.Spans.{Spans}
use Rattle.bed_laws.specs.StatementBlocks.{IsKnown, going, test_block}
use Rattle.bed_laws.proofs.PathLaws.{sure_front}
use Rattle.bed_laws.proofs.RunLaws.{Among, among_trans, link}
use Rattle.bed_laws.proofs.SequenceLaws.{exit_safe, spans_append, among_front, among_back, valid_left, valid_right, reaches_rest, reaches_at}
use Rattle.bed_laws.proofs.StraightLaws.{straight}
use Rattle.bed_laws.proofs.TestLaws.{one_block, one_span, no_heads, describes_at, met_sure, met_head, describes_from, describes_true, test_safe}

-- the path behind a choice with a join, and behind one without
abbrev pub joined_path : Assertion → Option Path → Option Path → Option Path
joined_path J ty tn = option_map (λ q. path_from J) (option_or ty tn)

abbrev pub one_path : Option Path → Option Path → Option Path
one_path ty tn = option_or ty tn

module _ (w : World) (c : FunctionSite) (places : ℕ → ℕ) (t : Test) (left_known : IsKnown c.site.locals t.left) (right_known : IsKnown c.site.locals t.right) (from : Path) where
  -- The test, and blocks behind it, among which those of both bodies are. Each state that a body's path describes at the end of its
  -- blocks goes on safely.
  module _ (Y N T : List Block) (hy hn ht : List LoopHead) (first false_label end next : ℕ) (span : Spans T ht (first + 1) end) (less : first + 1 ≤ end)
      (out : (next < first) ⊎ (end ≤ next)) (yes_in : Among Y hy T ht) (no_in : Among N hn T ht) where
    abbrev block : Block
    block = test_block c.site.locals t first (first + 1) false_label

    abbrev blocks : List Block
    blocks = block ∷ T

    span_test : Spans (block ∷ []) [] first (first + 1)
    span_test = one_span block [] (λ x is. no_heads x is)

    pub choice_spans : Spans blocks ht first end
    choice_spans = spans_append (block ∷ []) T [] ht first (first + 1) end (omega arith) less span_test span

    test_among : Among (block ∷ []) [] blocks ht
    test_among = among_front (block ∷ []) T [] ht first (first + 1) end (omega arith) less span_test span

    pub rest_among : Among T ht blocks ht
    rest_among = among_back (block ∷ []) T [] ht first (first + 1) end (omega arith) less span_test span

    module _ (ty tn to : Option Path) (yes_end : ℕ) (a : Activation) where
      abbrev Safely : ℕ → BlockState → Type 0
      Safely n s = Safe w c places blocks ht a (Reaches w c next to a) n s

      pub on_exit : (s : BlockState) → Reaches w c next to a s → (n : ℕ) → Safely n s
      on_exit s r n = exit_safe w c places blocks ht first end choice_spans a next to out s r n

      pub choice_keeps : (on_yes : (n : ℕ) (s : BlockState) → Reaches w c yes_end ty a s → Safely n s) (on_no : (n : ℕ) (s : BlockState) → Reaches w c next tn a s → Safely n s)
          → Keeps w c places Y hy (first + 1) yes_end (where_true t from) ty → Keeps w c places N hn false_label next (where_false t from) tn
          → (s : BlockState) → Reaches w c first (Some from) a s → (n : ℕ) → Safely n s
      choice_keeps on_yes on_no ky kn s r n =
          let d = r.2 in
          test_safe w c places t left_known right_known first (first + 1) false_label blocks ht a (Reaches w c next to a) (test_among.at_block first block (one_block block))
          n d.values d.heap s r.0 r.1 d.state
          (λ x is l z. no_heads x (test_among.at_head first block (one_block block) x is l))
          (λ m lt u l z st is. link w c places a Y hy blocks ht (among_trans yes_in rest_among) (Reaches w c yes_end ty a) (Reaches w c next to a) m
          (λ k le v q. on_yes k v q) u (ky a u (l, z, describes_true w c places t from a s u d st is) m))
          (λ m lt u l z st is. link w c places a N hn blocks ht (among_trans no_in rest_among) (Reaches w c next tn a) (Reaches w c next to a) m
          (λ k le v q. on_no k v q) u (kn a u (l, z, describes_true w c places (negated t) from a s u d st is) m))

  -- a state at which the join holds is one that the path behind the choice describes
  from_yes : (J : Assertion) (ty tn : Option Path) (label next : ℕ) (a : Activation) (s : BlockState) → Reaches w c label ty a s → IsAtHead w c a J s → Reaches w c next (joined_path J ty tn) a (at_label next s)
  from_yes J None tn label next a s r h = absurd r
  from_yes J (Some p) tn label next a s r h = (refl, refl, describes_at next (describes_from w c places J a s h))

  from_no : (J : Assertion) (ty tn : Option Path) (next : ℕ) (a : Activation) (s : BlockState) → Reaches w c next tn a s → IsAtHead w c a J s → Reaches w c next (joined_path J ty tn) a s
  from_no J ty None next a s r h = absurd r
  from_no J None (Some p) next a s r h = (r.0, r.1, describes_from w c places J a s h)
  from_no J (Some q) (Some p) next a s r h = (r.0, r.1, describes_from w c places J a s h)

  -- without a join, of two paths one is there at most
  abbrev pub IsOnePath : Option Path → Option Path → Type 0
  IsOnePath ty tn = (ty ≡ None) ⊎ (tn ≡ None)

  one_of_some : (ty : Option Path) (p : Path) → IsOnePath ty (Some p) → ty ≡ None
  one_of_some ty p (inl e) = e
  one_of_some ty p (inr e) = absurd cc

  on_from_yes : (ty tn : Option Path) (label next : ℕ) (a : Activation) (s : BlockState) → Reaches w c label ty a s → Reaches w c next (one_path ty tn) a (at_label next s)
  on_from_yes None tn label next a s r = absurd r
  on_from_yes (Some p) tn label next a s r = (refl, refl, describes_at next r.2)

  on_from_no : (ty tn : Option Path) (next : ℕ) (a : Activation) (s : BlockState) → IsOnePath ty tn → Reaches w c next tn a s → Reaches w c next (one_path ty tn) a s
  on_from_no ty None next a s one r = absurd r
  on_from_no ty (Some p) next a s one r = subst (λ o. Reaches w c next (one_path o (Some p)) a s) (sym (one_of_some ty p one)) r

  sure_yes : (ty tn : Option Path) → IsOnePath ty tn → AreSure w c (one_path ty tn) → AreSure w c ty
  sure_yes None tn one sure = tt
  sure_yes (Some p) tn one sure = sure

  sure_no : (ty tn : Option Path) → IsOnePath ty tn → AreSure w c (one_path ty tn) → AreSure w c tn
  sure_no ty None one sure = tt
  sure_no None (Some p) one sure = sure
  sure_no (Some q) (Some p) one sure = let e = one_of_some (Some q) p one in absurd (some_none e)
    where
      some_none : {x : Path} → Some x ≡ None → ⊥
      some_none e = cc

  -- the first body comes to its end, from where a jump goes over the second
  module _ (Y N : List Block) (hy hn : List LoopHead) (first skip end next : ℕ) (less : first + 1 ≤ skip) (less2 : skip + 1 ≤ end)
      (sy : Spans Y hy (first + 1) skip) (sn : Spans N hn (skip + 1) end) (out : (next < first) ⊎ (end ≤ next)) where
    abbrev skip_block : Block
    skip_block = going skip next

    abbrev tail : List Block
    tail = Y ++ (skip_block ∷ N)

    abbrev pub choice_blocks : List Block
    choice_blocks = test_block c.site.locals t first (first + 1) (skip + 1) ∷ tail

    span_skip : Spans (skip_block ∷ []) [] skip (skip + 1)
    span_skip = one_span skip_block [] (λ x is. no_heads x is)

    span_end : Spans (skip_block ∷ N) hn skip end
    span_end = spans_append (skip_block ∷ []) N [] hn skip (skip + 1) end (omega arith) less2 span_skip sn

    span_tail : Spans tail (hy ++ hn) (first + 1) end
    span_tail = spans_append Y (skip_block ∷ N) hy hn (first + 1) skip end less (omega arith) sy span_end

    yes_in : Among Y hy tail (hy ++ hn)
    yes_in = among_front Y (skip_block ∷ N) hy hn (first + 1) skip end less (omega arith) sy span_end

    end_in : Among (skip_block ∷ N) hn tail (hy ++ hn)
    end_in = among_back Y (skip_block ∷ N) hy hn (first + 1) skip end less (omega arith) sy span_end

    no_in : Among N hn tail (hy ++ hn)
    no_in = among_trans (among_back (skip_block ∷ []) N [] hn skip (skip + 1) end (omega arith) less2 span_skip sn) end_in

    pub choice_span : Spans choice_blocks (hy ++ hn) first end
    choice_span = choice_spans Y N tail hy hn (hy ++ hn) first (skip + 1) end next span_tail (omega arith) out yes_in no_in

    skip_in : Among (skip_block ∷ []) [] choice_blocks (hy ++ hn)
    skip_in =
        among_trans (among_trans (among_front (skip_block ∷ []) N [] hn skip (skip + 1) end (omega arith) less2 span_skip sn) end_in)
        (rest_among Y N tail hy hn (hy ++ hn) first (skip + 1) end next span_tail (omega arith) out yes_in no_in)

    -- each state that the first body's path describes at the jump is one that the path behind the choice describes
    on_skip : (ty tn to : Option Path) (a : Activation) → ((s : BlockState) → Reaches w c skip ty a s → Reaches w c next to a (at_label next s)) → (n : ℕ) (s : BlockState) → Reaches w c skip ty a s
        → Safe w c places choice_blocks (hy ++ hn) a (Reaches w c next to a) n s
    on_skip ty tn to a on n s r =
        let at = reaches_at w c places a skip ty s r in
        straight w c places choice_blocks (hy ++ hn) a (Reaches w c next to a) skip_block (skip_in.at_block skip skip_block (one_block skip_block)) n [] [] s refl at.0 at.1
        (λ x is m y. no_heads x (skip_in.at_head skip skip_block (one_block skip_block) x is m))
        (reaches_rest w c places a skip ty s r, λ m lt. on_exit Y N tail hy hn (hy ++ hn) first (skip + 1) end next span_tail (omega arith) out yes_in no_in ty tn to skip a (at_label next s) (on s r) m)

    keeps : (ty tn to : Option Path) (a : Activation) → ((s : BlockState) → Reaches w c skip ty a s → Reaches w c next to a (at_label next s)) → ((s : BlockState) → Reaches w c next tn a s → Reaches w c next to a s)
        → Keeps w c places Y hy (first + 1) skip (where_true t from) ty → Keeps w c places N hn (skip + 1) next (where_false t from) tn
        → (s : BlockState) → Reaches w c first (Some from) a s → (n : ℕ) → Safe w c places choice_blocks (hy ++ hn) a (Reaches w c next to a) n s
    keeps ty tn to a yes_on no_on ky kn s r n =
        choice_keeps Y N tail hy hn (hy ++ hn) first (skip + 1) end next span_tail (omega arith) out yes_in no_in ty tn to skip a
        (on_skip ty tn to a yes_on)
        (λ k u q. on_exit Y N tail hy hn (hy ++ hn) first (skip + 1) end next span_tail (omega arith) out yes_in no_in ty tn to skip a u (no_on u q) k) ky kn s r n

    -- with a join
    pub choice_join : (place : ℕ) (J : Assertion) (cy cn : List Cond) (ty tn : Option Path) → Law w c places Y hy (first + 1) skip cy (where_true t from) ty → Law w c places N hn (skip + 1) next cn (where_false t from) tn
        → Law w c places choice_blocks (hy ++ hn) first next ((cy ++ met c.site place J ty) ++ (cn ++ met c.site place J tn)) from (joined_path J ty tn)
    choice_join place J cy cn ty tn ly ln = record {
      sure = λ valid sure.
          let vy = valid_left w c places (cy ++ met c.site place J ty) (cn ++ met c.site place J tn) valid in
          sure_front w c from (Assume t ∷ []) (ly.sure (valid_left w c places cy (met c.site place J ty) vy) (met_sure w c places place ty J (valid_right w c places cy (met c.site place J ty) vy)));
      keeps = λ valid sure a s r n.
          let vy = valid_left w c places (cy ++ met c.site place J ty) (cn ++ met c.site place J tn) valid in
          let vn = valid_right w c places (cy ++ met c.site place J ty) (cn ++ met c.site place J tn) valid in
          let jy = valid_right w c places cy (met c.site place J ty) vy in
          let jn = valid_right w c places cn (met c.site place J tn) vn in
          keeps ty tn (joined_path J ty tn) a
          (λ u q. from_yes J ty tn skip next a u q (met_head w c places place ty J jy skip a u q)) (λ u q. from_no J ty tn next a u q (met_head w c places place tn J jn next a u q))
          (ly.keeps (valid_left w c places cy (met c.site place J ty) vy) (met_sure w c places place ty J jy))
          (ln.keeps (valid_left w c places cn (met c.site place J tn) vn) (met_sure w c places place tn J jn)) s r n;
    }

    -- without a join
    pub choice_one : (cy cn : List Cond) (ty tn : Option Path) → IsOnePath ty tn → Law w c places Y hy (first + 1) skip cy (where_true t from) ty → Law w c places N hn (skip + 1) next cn (where_false t from) tn
        → Law w c places choice_blocks (hy ++ hn) first next (cy ++ cn) from (one_path ty tn)
    choice_one cy cn ty tn one ly ln = record {
      sure = λ valid sure. sure_front w c from (Assume t ∷ []) (ly.sure (valid_left w c places cy cn valid) (sure_yes ty tn one sure));
      keeps = λ valid sure a s r n.
          keeps ty tn (one_path ty tn) a (λ u q. on_from_yes ty tn skip next a u q) (λ u q. on_from_no ty tn next a u one q)
          (ly.keeps (valid_left w c places cy cn valid) (sure_yes ty tn one sure)) (ln.keeps (valid_right w c places cy cn valid) (sure_no ty tn one sure)) s r n;
    }

  -- the first body doesn't come to its end: its blocks may name any label as the one behind them
  module _ (Y N : List Block) (hy hn : List LoopHead) (first mid end next : ℕ) (less : first + 1 ≤ mid) (less2 : mid ≤ end)
      (sy : Spans Y hy (first + 1) mid) (sn : Spans N hn mid end) (out : (next < first) ⊎ (end ≤ next)) where
    abbrev pub stop_blocks : List Block
    stop_blocks = test_block c.site.locals t first (first + 1) mid ∷ (Y ++ N)

    stop_tail : Spans (Y ++ N) (hy ++ hn) (first + 1) end
    stop_tail = spans_append Y N hy hn (first + 1) mid end less less2 sy sn

    stop_yes : Among Y hy (Y ++ N) (hy ++ hn)
    stop_yes = among_front Y N hy hn (first + 1) mid end less less2 sy sn

    stop_no : Among N hn (Y ++ N) (hy ++ hn)
    stop_no = among_back Y N hy hn (first + 1) mid end less less2 sy sn

    pub stop_span : Spans stop_blocks (hy ++ hn) first end
    stop_span = choice_spans Y N (Y ++ N) hy hn (hy ++ hn) first mid end next stop_tail (omega arith) out stop_yes stop_no

    stop_keeps : (tn to : Option Path) (back : ℕ) (a : Activation) → ((s : BlockState) → Reaches w c next tn a s → Reaches w c next to a s)
        → Keeps w c places Y hy (first + 1) back (where_true t from) None → Keeps w c places N hn mid next (where_false t from) tn
        → (s : BlockState) → Reaches w c first (Some from) a s → (n : ℕ) → Safe w c places stop_blocks (hy ++ hn) a (Reaches w c next to a) n s
    stop_keeps tn to back a no_on ky kn s r n =
        choice_keeps Y N (Y ++ N) hy hn (hy ++ hn) first mid end next stop_tail (omega arith) out stop_yes stop_no None tn to back a
        (λ k u q. absurd q)
        (λ k u q. on_exit Y N (Y ++ N) hy hn (hy ++ hn) first mid end next stop_tail (omega arith) out stop_yes stop_no None tn to back a u (no_on u q) k) ky kn s r n

    -- with a join
    pub stop_join : (place back : ℕ) (J : Assertion) (cy cn : List Cond) (tn : Option Path) → Law w c places Y hy (first + 1) back cy (where_true t from) None → Law w c places N hn mid next cn (where_false t from) tn
        → Law w c places stop_blocks (hy ++ hn) first next ((cy ++ []) ++ (cn ++ met c.site place J tn)) from (joined_path J None tn)
    stop_join place back J cy cn tn ly ln = record {
      sure = λ valid sure. sure_front w c from (Assume t ∷ []) (ly.sure (valid_left w c places cy [] (valid_left w c places (cy ++ []) (cn ++ met c.site place J tn) valid)) tt);
      keeps = λ valid sure a s r n.
          let vn = valid_right w c places (cy ++ []) (cn ++ met c.site place J tn) valid in
          let jn = valid_right w c places cn (met c.site place J tn) vn in
          stop_keeps tn (joined_path J None tn) back a (λ u q. from_no J None tn next a u q (met_head w c places place tn J jn next a u q))
          (ly.keeps (valid_left w c places cy [] (valid_left w c places (cy ++ []) (cn ++ met c.site place J tn) valid)) tt)
          (ln.keeps (valid_left w c places cn (met c.site place J tn) vn) (met_sure w c places place tn J jn)) s r n;
    }

    -- without a join
    pub stop_one : (back : ℕ) (cy cn : List Cond) (tn : Option Path) → Law w c places Y hy (first + 1) back cy (where_true t from) None → Law w c places N hn mid next cn (where_false t from) tn
        → Law w c places stop_blocks (hy ++ hn) first next (cy ++ cn) from (one_path None tn)
    stop_one back cy cn tn ly ln = record {
      sure = λ valid sure. sure_front w c from (Assume t ∷ []) (ly.sure (valid_left w c places cy cn valid) tt);
      keeps = λ valid sure a s r n.
          stop_keeps tn (one_path None tn) back a (λ u q. on_from_no None tn next a u (inl refl) q)
          (ly.keeps (valid_left w c places cy cn valid) tt) (ln.keeps (valid_right w c places cy cn valid) (sure_no None tn (inl refl) sure)) s r n;
    }
