-- The laws in the form in which macros prove theirs from those of their children: labels are counted from a first one on.
use Rattle.std.proofs.Common.{◌≡◌, ℕ, ◌+◌, ◌<◌, ◌≤◌, Bool, true, false, Option, None, List, [], ◌∷◌, ◌++◌, length, inl, inr, ◌⊎◌, refl, sym, ◌∙◌, ap, ap₂, subst, arith, length-append, append_assoc}
use Rattle.std.proofs.lemmas.List.{append-nil}
use Rattle.bed_lang.specs.declared.word.Name.{Name}
use Rattle.bed_lang.specs.declared.logic.Assertion.{Assertion}
use Rattle.bed_lang.specs.declared.module.Test.{Test}
use Rattle.bed_lang.specs.declared.module.Join.{Join}
use Rattle.bed_lang.specs.declared.statement.Stmt.{Stmt}
use Rattle.bed_lang.specs.declared.statement.StmtKind.{If, While}
use Rattle.bed_table.specs.Code.{body_piece}
use Rattle.bed_sat.specs.Assertions.{World}
use Rattle.bed_il.specs.declared.blocks.Block.{Block}
use Rattle.bed_laws.specs.Activations.{FunctionSite}
use Rattle.bed_laws.specs.Keeps.{LoopHead}
use Rattle.bed_laws.specs.Spans.{Spans}
use Rattle.bed_laws.specs.Statements.{KeepStatements, LayStatements, IsJoined}
use Rattle.bed_laws.specs.StatementBlocks.{IsKnown, jump_count, going, going_if, test_block}
use Rattle.bed_laws.proofs.SequenceLaws.{spans_append}
use Rattle.bed_laws.proofs.TestLaws.{one_span, no_heads, only_one}
use Rattle.bed_laws.proofs.StatementsLaws.{then_keep, then_lay}
use Rattle.bed_laws.proofs.ControlStatements.{body_end, choice_keep, loop_keep}

-- a next label isn't one of n from a first one on
abbrev pub IsOutside : ℕ → ℕ → ℕ → Type 0
IsOutside next first n = (next < first) ⊎ (first + n ≤ next)

pub just_after : (first n : ℕ) → IsOutside (first + n) first n
just_after first n = inr (omega arith)

pub outside_back : (first n k next : ℕ) → IsOutside next first (n + k) → IsOutside next (first + n) k
outside_back first n k next (inl p) = inl (omega arith)
outside_back first n k next (inr p) = inr (omega arith)

-- ---- two parts in a row

pub then_spans : (B C : List Block) (hb hc : List LoopHead) (first n k : ℕ) → Spans B hb first (first + n) → Spans C hc (first + n) (first + n + k) → Spans (B ++ C) (hb ++ hc) first (first + (n + k))
then_spans B C hb hc first n k sb sc =
    let e : first + n + k ≡ first + (n + k) = omega arith in
    subst (λ x. Spans (B ++ C) (hb ++ hc) first x) e (spans_append B C hb hc first (first + n) (first + n + k) (omega arith) (omega arith) sb sc)

pub then_numbered : (B C : List Block) (n k : ℕ) → length B ≡ n → length C ≡ k → length (B ++ C) ≡ n + k
then_numbered B C n k e f = length-append B C ∙ ap₂ (λ x y. x + y) e f

pub then_keeps : (w : World) (c : FunctionSite) (places : ℕ → ℕ) (B C : List Block) (hb hc : List LoopHead) (first n k next : ℕ) → Spans B hb first (first + n) → Spans C hc (first + n) (first + n + k) → IsOutside next first (n + k)
    → (xs ys : List Stmt) → KeepStatements w c places B hb first (first + n) xs → KeepStatements w c places C hc (first + n) next ys → KeepStatements w c places (B ++ C) (hb ++ hc) first next (xs ++ ys)
then_keeps w c places B C hb hc first n k next sb sc out xs ys =
    then_keep w c places B C hb hc first (first + n) (first + n + k) next (omega arith) (omega arith) sb sc (far out) xs ys
  where
    far : IsOutside next first (n + k) → (next < first) ⊎ (first + n + k ≤ next)
    far (inl p) = inl p
    far (inr p) = inr (omega arith)

pub then_lays : (locals : List Name) (B C : List Block) (hb hc : List LoopHead) (first n k next : ℕ) → Spans B hb first (first + n) → Spans C hc (first + n) (first + n + k)
    → (xs ys : List Stmt) → (body_piece xs).falls ≡ true → LayStatements locals B hb first (first + n) xs → LayStatements locals C hc (first + n) next ys → LayStatements locals (B ++ C) (hb ++ hc) first next (xs ++ ys)
then_lays locals B C hb hc first n k next sb sc xs ys falls = then_lay locals B C hb hc first (first + n) (first + n + k) next sb sc xs ys falls

-- ---- jumps that are there only where control comes to them

pub going_numbered : (f : Bool) (label to : ℕ) → length (going_if f label to) ≡ jump_count f
going_numbered true label to = refl
going_numbered false label to = refl

pub going_spans : (f : Bool) (label to : ℕ) → Spans (going_if f label to) [] label (label + jump_count f)
going_spans true label to = one_span (going label to) [] (λ x is. no_heads x is)
going_spans false label to = record { blocks_in = λ l b e. absurd (cc); heads_in = λ x is. no_heads x is }

-- ---- a test, and two parts

module _ (locals : List Name) (t : Test) (f : Bool) (Y N : List Block) (hy hn : List LoopHead) (first n k next : ℕ) where
  abbrev middle : ℕ
  middle = first + 1 + n

  abbrev other : ℕ
  other = middle + jump_count f

  abbrev fork : Block
  fork = test_block locals t first (first + 1) other

  abbrev blocks : List Block
  blocks = fork ∷ (Y ++ (going_if f middle next ++ N))

  pub choice_spans : Spans Y hy (first + 1) middle → Spans N hn other (other + k) → Spans blocks (hy ++ hn) first (first + (1 + n + jump_count f + k))
  choice_spans sy sn =
      let tail : Spans (going_if f middle next ++ N) hn middle (other + k) = spans_append (going_if f middle next) N [] hn middle other (other + k) (omega arith) (omega arith) (going_spans f middle next) sn in
      let rest : Spans (Y ++ (going_if f middle next ++ N)) (hy ++ hn) (first + 1) (other + k) = spans_append Y (going_if f middle next ++ N) hy hn (first + 1) middle (other + k) (omega arith) (omega arith) sy tail in
      let e : other + k ≡ first + (1 + n + jump_count f + k) = omega arith in
      subst (λ x. Spans blocks (hy ++ hn) first x) e
      (spans_append (fork ∷ []) (Y ++ (going_if f middle next ++ N)) [] (hy ++ hn) first (first + 1) (other + k) (omega arith) (omega arith) (one_span fork [] (λ x is. no_heads x is)) rest)

  pub choice_numbered : length Y ≡ n → length N ≡ k → length blocks ≡ 1 + n + jump_count f + k
  choice_numbered e g = let p = length-append Y (going_if f middle next ++ N) in let q = length-append (going_if f middle next) N in let r = going_numbered f middle next in omega arith

pub outside_no : (f : Bool) (first n k next : ℕ) → IsOutside next first (1 + n + jump_count f + k) → IsOutside next (first + 1 + n + jump_count f) k
outside_no f first n k next (inl p) = inl (omega arith)
outside_no f first n k next (inr p) = inr (omega arith)

outside_all : (f : Bool) (first n k next : ℕ) → IsOutside next first (1 + n + jump_count f + k) → (next < first) ⊎ (first + 1 + n + jump_count f + k ≤ next)
outside_all f first n k next (inl p) = inl p
outside_all f first n k next (inr p) = inr (omega arith)

pub choice_keeps : (w : World) (c : FunctionSite) (places : ℕ → ℕ) (t : Test) (left_known : IsKnown c.site.locals t.left) (right_known : IsKnown c.site.locals t.right) (at : ℕ) (ys ns : List Stmt) (join : Option Join) (f : Bool)
    → (body_piece ys).falls ≡ f → IsJoined join ys ns
    → (Y N : List Block) (hy hn : List LoopHead) (first n k next : ℕ) → Spans Y hy (first + 1) (first + 1 + n) → Spans N hn (first + 1 + n + jump_count f) (first + 1 + n + jump_count f + k) → IsOutside next first (1 + n + jump_count f + k)
    → KeepStatements w c places Y hy (first + 1) (first + 1 + n) ys → KeepStatements w c places N hn (first + 1 + n + jump_count f) next ns
    → KeepStatements w c places (test_block c.site.locals t first (first + 1) (first + 1 + n + jump_count f) ∷ (Y ++ (going_if f (first + 1 + n) next ++ N))) (hy ++ hn) first next (record { at = at; kind = If t ys ns join } ∷ [])
choice_keeps w c places t left_known right_known at ys ns join f falls joined Y N hy hn first n k next sy sn out ly ln =
    choice_keep w c places t left_known right_known at ys ns join Y N hy hn first n k next sy f falls joined sn (outside_all f first n k next out) ly ln

-- ---- a test, a part, and the way back

-- where the part goes on
pub outside_body : (f : Bool) (first n next : ℕ) → IsOutside next first (1 + n + jump_count f) → IsOutside (body_end f (first + 1 + n) next) (first + 1) n
outside_body true first n next out = inr (omega arith)
outside_body false first n next (inl p) = inl (omega arith)
outside_body false first n next (inr p) = inr (omega arith)

outside_loop : (f : Bool) (first n next : ℕ) → IsOutside next first (1 + n + jump_count f) → (next < first) ⊎ (first + 1 + n + jump_count f ≤ next)
outside_loop f first n next (inl p) = inl p
outside_loop f first n next (inr p) = inr (omega arith)

module _ (locals : List Name) (t : Test) (I : Assertion) (f : Bool) (B : List Block) (hb : List LoopHead) (first n next : ℕ) where
  abbrev head_block : Block
  head_block = test_block locals t first (first + 1) next

  abbrev head : LoopHead
  head = record { label = first; invariant = I }

  abbrev loop : List Block
  loop = head_block ∷ (B ++ going_if f (first + 1 + n) first)

  pub loop_spans : Spans B hb (first + 1) (first + 1 + n) → Spans loop (head ∷ hb) first (first + (1 + n + jump_count f))
  loop_spans sb =
      let end = first + 1 + n + jump_count f in
      let rest : Spans (B ++ going_if f (first + 1 + n) first) (hb ++ []) (first + 1) end = spans_append B (going_if f (first + 1 + n) first) hb [] (first + 1) (first + 1 + n) end (omega arith) (omega arith) sb (going_spans f (first + 1 + n) first) in
      let e : end ≡ first + (1 + n + jump_count f) = omega arith in
      subst (λ x. Spans loop (head ∷ hb) first x) e
      (spans_append (head_block ∷ []) (B ++ going_if f (first + 1 + n) first) (head ∷ []) hb first (first + 1) end (omega arith) (omega arith)
      (one_span head_block (head ∷ []) (λ x is. sym (ap (λ y. y.label) (only_one is)))) (subst (λ h. Spans (B ++ going_if f (first + 1 + n) first) h (first + 1) end) (append-nil hb) rest))

  pub loop_numbered : length B ≡ n → length loop ≡ 1 + n + jump_count f
  loop_numbered e = let p = length-append B (going_if f (first + 1 + n) first) in let q = going_numbered f (first + 1 + n) first in omega arith

pub loop_keeps : (w : World) (c : FunctionSite) (places : ℕ → ℕ) (t : Test) (left_known : IsKnown c.site.locals t.left) (right_known : IsKnown c.site.locals t.right) (at place : ℕ) (I : Assertion) (body : List Stmt) (f : Bool) → (body_piece body).falls ≡ f
    → (B : List Block) (hb : List LoopHead) (first n next : ℕ) → Spans B hb (first + 1) (first + 1 + n) → IsOutside next first (1 + n + jump_count f) → KeepStatements w c places B hb (first + 1) (body_end f (first + 1 + n) next) body
    → KeepStatements w c places (test_block c.site.locals t first (first + 1) next ∷ (B ++ going_if f (first + 1 + n) first)) (record { label = first; invariant = I } ∷ hb) first next (record { at = at; kind = While t place I body } ∷ [])
loop_keeps w c places t left_known right_known at place I body f falls B hb first n next sb out law =
    loop_keep w c places t left_known right_known at place I body B hb first n next sb f falls (outside_loop f first n next out) law
