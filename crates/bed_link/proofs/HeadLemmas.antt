-- The heads of a function's loops lie in its code.
use Rattle.std.proofs.Common.{◌≡◌, ◌∙◌, sym, ap, refl, subst, ℕ, zero, suc, ◌+◌, ◌<◌, ◌≤◌, arith, List, [], ◌∷◌, ◌++◌, map, length, All, slice_index_or}
use Rattle.bed_lang.specs.declared.word.Name.{Name}
use Rattle.bed_lang.specs.declared.logic.Assertion.{Assertion}
use Rattle.bed_lang.specs.declared.module.Test.{Test}
use Rattle.bed_lang.specs.declared.module.Operand.TheVariants.{Local}
use Rattle.bed_lang.specs.declared.module.Function.{Function}
use Rattle.bed_lang.specs.declared.statement.StmtKind.{StmtKind-F}
use Rattle.bed_table.specs.Pieces.{Piece, Head, nothing, sequence, size_of, heads_of}
use Rattle.bed_table.specs.CodeTable.{entry, assignment, load, test_size, jump_size, choice, loop}
use Rattle.bed_table.specs.ListLoops.{list_loop, not_null, is_key, field_at}
use Rattle.bed_table.specs.Code.{piece, function_piece}
use Rattle.bed_table.specs.Laws.{RowsKeep}
use Rattle.bed_table.proofs.SizeLaws.{each, Known, every_body}

abbrev pub AreBelow : ℕ → List Head → Type 0
AreBelow n [] = Unit {0}
AreBelow n (h ∷ hs) = (h.address < n) × AreBelow n hs

below_append : (n : ℕ) (hs more : List Head) → AreBelow n hs → AreBelow n more → AreBelow n (hs ++ more)
below_append n [] more a b = b
below_append n (h ∷ hs) more a b = (a.0, below_append n hs more a.1 b)

below_more : (n m : ℕ) (hs : List Head) → n ≤ m → AreBelow n hs → AreBelow m hs
below_more n m [] le a = tt
below_more n m (h ∷ hs) le a = let lt = a.0 in (omega (arith, lt, le), below_more n m hs le a.1)

-- each head lies before the end of the piece
pub record HasHeads (p : Piece) : Type 0 where
  pub below : (at : ℕ) → AreBelow (at + p.size) (p.heads at)

none : (p : Piece) → ((at : ℕ) → p.heads at ≡ []) → HasHeads p
none p e = record { below = λ at. subst_none at (p.heads at) (e at) }
  where
    subst_none : (at : ℕ) (hs : List Head) → hs ≡ [] → AreBelow (at + p.size) hs
    subst_none at [] e = tt
    subst_none at (h ∷ hs) e = cc

in_sequence : (at : ℕ) (ps : List Piece) → each HasHeads ps → AreBelow (at + size_of ps) (heads_of at ps)
in_sequence at [] hs = tt
in_sequence at (p ∷ ps) hs =
    below_append (at + (p.size + size_of ps)) (p.heads at) (heads_of (at + p.size) ps)
    (below_more (at + p.size) (at + (p.size + size_of ps)) (p.heads at) (omega arith) (hs.0.below at))
    (below_more (at + p.size + size_of ps) (at + (p.size + size_of ps)) (heads_of (at + p.size) ps) (omega arith) (in_sequence (at + p.size) ps hs.1))

in_a_sequence : (ps : List Piece) → each HasHeads ps → HasHeads (sequence ps)
in_a_sequence ps hs = record { below = λ at. in_sequence at ps hs }

in_choice : (t : Test) (y n : Piece) → HasHeads y → HasHeads n → HasHeads (choice t y n)
in_choice t y n hy hn = record {
  below = λ at.
      let end : ℕ = at + (test_size t + (y.size + (jump_size y.falls + n.size))) in
      below_append end (y.heads (at + test_size t)) (n.heads (at + test_size t + y.size + jump_size y.falls))
      (below_more (at + test_size t + y.size) end (y.heads (at + test_size t)) (omega arith) (hy.below (at + test_size t)))
      (below_more (at + test_size t + y.size + jump_size y.falls + n.size) end (n.heads (at + test_size t + y.size + jump_size y.falls)) (omega arith)
      (hn.below (at + test_size t + y.size + jump_size y.falls)));
}

in_loop : (t : Test) (i : Assertion) (p : Piece) → HasHeads p → HasHeads (loop t i p)
in_loop t i p h = record {
  below = λ at.
      let end : ℕ = at + (test_size t + (p.size + jump_size p.falls)) in
      (omega arith, below_more (at + test_size t + p.size) end (p.heads (at + test_size t)) (omega arith) (h.below (at + test_size t)));
}

in_list_loop : (n v p : Name) (i : Assertion) (visit : Piece) → HasHeads visit → HasHeads (list_loop n v p i visit)
in_list_loop n v p i visit h =
    let steps : List Piece = load v (field_at n 0) ∷ visit ∷ load v (field_at n 4) ∷ assignment n (Local v) ∷ [] in
    let inside : HasHeads (sequence steps) =
    in_a_sequence steps (none _ (λ at. refl), (h, (none _ (λ at. refl), (none _ (λ at. refl), tt)))) in
    in_a_sequence (assignment n (Local p) ∷ loop (not_null n) i (sequence steps) ∷ [])
    (none _ (λ at. refl), (in_loop (not_null n) i (sequence steps) inside, tt))

each-known : (K : Piece → Type 0) (ps : List (Known K)) → each K (map (λ p. p.0) ps)
each-known K [] = tt
each-known K (p ∷ ps) = (p.1, each-known K ps)

rows : RowsKeep HasHeads
rows (StmtKind-F.Assign x a) = none _ (λ at. refl)
rows (StmtKind-F.Compute x op a b) = none _ (λ at. refl)
rows (StmtKind-F.Load x p) = none _ (λ at. refl)
rows (StmtKind-F.LoadByte x p) = none _ (λ at. refl)
rows (StmtKind-F.Store p b) = none _ (λ at. refl)
rows (StmtKind-F.StoreByte p b) = none _ (λ at. refl)
rows (StmtKind-F.Call place into target via args hints after) = none _ (λ at. refl)
rows (StmtKind-F.If test ys ns join) =
    in_choice test _ _ (in_a_sequence _ (each-known HasHeads ys)) (in_a_sequence _ (each-known HasHeads ns))
rows (StmtKind-F.While test place invariant body) = in_loop test invariant _ (in_a_sequence _ (each-known HasHeads body))
rows (StmtKind-F.Return a) = none _ (λ at. refl)
rows (StmtKind-F.Hint h) = none _ (λ at. refl)
rows (StmtKind-F.Find n v a p s u t keep body) =
    in_list_loop n v p _ _ (in_choice (is_key v a) _ _ (in_a_sequence _ (each-known HasHeads body)) (none nothing (λ at. refl)))
rows (StmtKind-F.Walk n v p s u t keep body) = in_list_loop n v p _ _ (in_a_sequence _ (each-known HasHeads body))

function_heads : (f : Function) → HasHeads (function_piece f)
function_heads f = in_a_sequence (entry ∷ sequence (map piece f.body) ∷ []) (none entry (λ at. refl), (in_a_sequence (map piece f.body) (every_body HasHeads rows f.body), tt))

-- the addresses of a function's heads are words, where its code ends at or below 2^32
among : (n : ℕ) (hs : List Head) (d : ℕ) → AreBelow n hs → (k : ℕ) → k < length (map (λ (x : Head). x.address) hs)
    → slice_index_or (map (λ (x : Head). x.address) hs) k d < n
among n [] d below k lt = omega (arith, lt)
among n (x ∷ hs) d below zero lt = below.0
among n (x ∷ hs) d below (suc k) lt = among n hs d below.1 k (omega (arith, lt))

pub heads_fit : (f : Function) (at : ℕ) (heads before : List ℕ) → at + (function_piece f).size ≤ 4294967296 → before ≡ []
    → heads ≡ before ++ map (λ (x : Head). x.address) ((function_piece f).heads at) → All (λ h. h < 4294967296) heads
heads_fit f at heads before le none e =
    subst (All (λ h. h < 4294967296)) (sym (e ∙ ap (λ l. l ++ map (λ (x : Head). x.address) ((function_piece f).heads at)) none))
    (λ k d lt.
    let below = among (at + (function_piece f).size) ((function_piece f).heads at) d ((function_heads f).below at) k lt in
    omega (arith, le, below))
