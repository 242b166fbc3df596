-- Pieces have as many bytes as they say.
use Rattle.std.proofs.Common.{◌≡◌, ℕ, ◌+◌, ◌*◌, Bool, true, false, List, [], ◌∷◌, ◌++◌, map, length, refl, sym, ◌∙◌, ap, ap₂, subst, arith, append_assoc, length-append}
use Rattle.std.proofs.lemmas.List.{map-append}
use Rattle.bed_lang.specs.declared.word.Name.{Name}
use Rattle.bed_lang.specs.declared.module.Operand.{Operand}
use Rattle.bed_lang.specs.declared.module.Operand.TheVariants.{Number, Local, Label}
use Rattle.bed_lang.specs.declared.module.Op.{Op}
use Rattle.bed_lang.specs.declared.module.Op.TheVariants.{Add, Sub, Mul, And, Or, Xor}
use Rattle.bed_lang.specs.declared.module.Place.{Place}
use Rattle.bed_lang.specs.declared.module.Test.{Test}
use Rattle.bed_lang.specs.declared.logic.Assertion.{Assertion}
use Rattle.bed_lang.specs.declared.statement.Stmt.{Stmt, ind-Stmt, fold-roll-Stmt}
use Rattle.bed_lang.specs.declared.statement.StmtKind.{StmtKind, StmtKind-F, map-StmtKind, fold-roll-StmtKind}
use Rattle.bed_lang.specs.Numbers.{wrap, word_bytes}
use Rattle.bed_table.specs.Words.{call_area}
use Rattle.bed_table.specs.Pieces.{Piece, nothing, sequence, size_of, bytes_of, heads_of}
use Rattle.bed_table.specs.CodeTable.{operand_size, into_ecx, into_edx, keep_ecx, entry, assignment, operation, operation_size, computation, load, load_byte, store, store_byte, test_size, test_bytes, jump_size, jump_if, choice, loop, arguments_size, arguments_bytes, transfer_bytes, call, answer}
use Rattle.bed_table.specs.ListLoops.{list_loop, finding, walking, not_null, is_key, field_at}
use Rattle.bed_table.specs.Code.{kind_row, statement_row, kind_piece, piece, body_piece, function_piece}
use Rattle.bed_table.specs.Layout.{Defined, placed_from, all_defined, label_address, code_of, total_size}
use Rattle.bed_table.specs.Laws.{IsSized, RowsKeep, StatementsAreSized, BodiesAreSized, FunctionsAreSized, BodiesAreSequences, CodeIsSized}

pub length-into_ecx : (locals : List Name) (labels : List ℕ → ℕ) (a : Operand) → length (into_ecx locals labels a) ≡ operand_size a
length-into_ecx locals labels (Number n) = refl
length-into_ecx locals labels (Local x) = refl
length-into_ecx locals labels (Label f) = refl

pub length-into_edx : (locals : List Name) (labels : List ℕ → ℕ) (a : Operand) → length (into_edx locals labels a) ≡ operand_size a
length-into_edx locals labels (Number n) = refl
length-into_edx locals labels (Local x) = refl
length-into_edx locals labels (Label f) = refl

pub length-operation : (op : Op) → length (operation op) ≡ operation_size op
length-operation Add = refl
length-operation Sub = refl
length-operation Mul = refl
length-operation And = refl
length-operation Or = refl
length-operation Xor = refl

pub length-jump_if : (falls : Bool) (at target : ℕ) → length (jump_if falls at target) ≡ jump_size falls
length-jump_if true at target = refl
length-jump_if false at target = refl

pub sized-nothing : IsSized nothing
sized-nothing = record { size_is = λ locals labels at. refl }

pub sized-entry : IsSized entry
sized-entry = record { size_is = λ locals labels at. refl }

pub sized-assignment : (x : Name) (a : Operand) → IsSized (assignment x a)
sized-assignment x a = record {
  size_is = λ locals labels at. length-append (into_ecx locals labels a) (keep_ecx locals x) ∙ ap (λ n. n + 6) (length-into_ecx locals labels a);
}

-- two operands and a tail
two : (locals : List Name) (labels : List ℕ → ℕ) (a b : Operand) (tail : List ℕ) (n : ℕ) → length tail ≡ n
    → length (into_ecx locals labels a ++ (into_edx locals labels b ++ tail)) ≡ operand_size a + operand_size b + n
two locals labels a b tail n e =
    omega (
      arith,
      length-append (into_ecx locals labels a) (into_edx locals labels b ++ tail),
      length-append (into_edx locals labels b) tail,
      length-into_ecx locals labels a,
      length-into_edx locals labels b,
    )

pub sized-computation : (x : Name) (op : Op) (a b : Operand) → IsSized (computation x op a b)
sized-computation x op a b = record {
  size_is = λ locals labels at.
      let e : length (operation op ++ keep_ecx locals x) ≡ operation_size op + 6 = length-append (operation op) (keep_ecx locals x) ∙ ap (λ n. n + 6) (length-operation op) in
      omega (arith, two locals labels a b (operation op ++ keep_ecx locals x) (operation_size op + 6) e);
}

pub sized-load : (x : Name) (p : Place) → IsSized (load x p)
sized-load x p = record {
  size_is = λ locals labels at. length-append (into_ecx locals labels p.base) ((0x8B ∷ 0x89 ∷ word_bytes p.disp) ++ keep_ecx locals x) ∙ ap (λ n. n + 12) (length-into_ecx locals labels p.base);
}

pub sized-load_byte : (x : Name) (p : Place) → IsSized (load_byte x p)
sized-load_byte x p = record {
  size_is = λ locals labels at. length-append (into_ecx locals labels p.base) ((0x0F ∷ 0xB6 ∷ 0x89 ∷ word_bytes p.disp) ++ keep_ecx locals x) ∙ ap (λ n. n + 13) (length-into_ecx locals labels p.base);
}

pub sized-store : (p : Place) (b : Operand) → IsSized (store p b)
sized-store p b = record { size_is = λ locals labels at. two locals labels p.base b (0x89 ∷ 0x91 ∷ word_bytes p.disp) 6 refl }

pub sized-store_byte : (p : Place) (b : Operand) → IsSized (store_byte p b)
sized-store_byte p b = record { size_is = λ locals labels at. two locals labels p.base b (0x88 ∷ 0x91 ∷ word_bytes p.disp) 6 refl }

pub sized-answer : (a : Operand) → IsSized (answer a)
sized-answer a = record {
  size_is = λ locals labels at. length-append (into_ecx locals labels a) (0x8B ∷ 0xC1 ∷ 0x8B ∷ 0xB5 ∷ word_bytes 0 ++ 0xFF ∷ 0xE6 ∷ []) ∙ ap (λ n. n + 10) (length-into_ecx locals labels a);
}

pub length-arguments_bytes : (locals : List Name) (labels : List ℕ → ℕ) (i : ℕ) (as' : List Operand) → length (arguments_bytes locals labels i as') ≡ arguments_size as'
length-arguments_bytes locals labels i [] = refl
length-arguments_bytes locals labels i (a ∷ more) =
    omega (
      arith,
      length-append (into_ecx locals labels a) ((0x89 ∷ 0x8D ∷ word_bytes (wrap (call_area locals + (4 + 4 * i)))) ++ arguments_bytes locals labels (1 + i) more),
      length-into_ecx locals labels a,
      length-arguments_bytes locals labels (1 + i) more,
    )

pub sized-call : (x : Name) (t : Operand) (as' : List Operand) → IsSized (call x t as')
sized-call x t as' = record {
  size_is = λ locals labels at.
      let tail : List ℕ = transfer_bytes locals x (at + arguments_size as' + operand_size t + 13) in
      omega (
        arith,
        length-append (arguments_bytes locals labels 0 as') (into_edx locals labels t ++ tail),
        length-arguments_bytes locals labels 0 as',
        length-append (into_edx locals labels t) tail,
        length-into_edx locals labels t,
      );
}

pub length-test_bytes : (locals : List Name) (labels : List ℕ → ℕ) (t : Test) (at target : ℕ) → length (test_bytes locals labels t at target) ≡ test_size t
length-test_bytes locals labels t at target = two locals labels t.left t.right _ 8 refl

pub sized-choice : (t : Test) (p q : Piece) → IsSized p → IsSized q → IsSized (choice t p q)
sized-choice t p q hp hq = record {
  size_is = λ locals labels at.
      let jump_at : ℕ = at + test_size t + p.size in
      let no_at : ℕ = jump_at + jump_size p.falls in
      let over = jump_if p.falls jump_at (no_at + q.size) in
      let then_part = p.bytes locals labels (at + test_size t) in
      let else_part = q.bytes locals labels no_at in
      omega (
        arith,
        length-append (test_bytes locals labels t at no_at) (then_part ++ (over ++ else_part)),
        length-append then_part (over ++ else_part),
        length-append over else_part,
        length-test_bytes locals labels t at no_at,
        length-jump_if p.falls jump_at (no_at + q.size),
        hp.size_is locals labels (at + test_size t),
        hq.size_is locals labels no_at,
      );
}

pub sized-loop : (t : Test) (i : Assertion) (p : Piece) → IsSized p → IsSized (loop t i p)
sized-loop t i p hp = record {
  size_is = λ locals labels at.
      let jump_at : ℕ = at + test_size t + p.size in
      let back = jump_if p.falls jump_at at in
      let body = p.bytes locals labels (at + test_size t) in
      omega (
        arith,
        length-append (test_bytes locals labels t at (jump_at + jump_size p.falls)) (body ++ back),
        length-append body back,
        length-test_bytes locals labels t at (jump_at + jump_size p.falls),
        length-jump_if p.falls jump_at at,
        hp.size_is locals labels (at + test_size t),
      );
}

-- a fact of each piece of a list
abbrev pub each : (Piece → Type 0) → List Piece → Type 0
each K [] = Unit {0}
each K (p ∷ ps) = K p × each K ps

pub sized-sequence : (ps : List Piece) → each IsSized ps → IsSized (sequence ps)
sized-sequence ps hs = record { size_is = λ locals labels at. row locals labels at ps hs }
  where
    row : (locals : List Name) (labels : List ℕ → ℕ) (at : ℕ) (qs : List Piece) → each IsSized qs → length (bytes_of locals labels at qs) ≡ size_of qs
    row locals labels at [] h = refl
    row locals labels at (q ∷ qs) h =
        omega (arith, length-append (q.bytes locals labels at) (bytes_of locals labels (at + q.size) qs), h.0.size_is locals labels at, row locals labels (at + q.size) qs h.1)

pub sized-list_loop : (n v p : Name) (i : Assertion) (visit : Piece) → IsSized visit → IsSized (list_loop n v p i visit)
sized-list_loop n v p i visit h =
    let steps : List Piece = load v (field_at n 0) ∷ visit ∷ load v (field_at n 4) ∷ assignment n (Local v) ∷ [] in
    let sized_steps : IsSized (sequence steps) =
    sized-sequence steps (sized-load v (field_at n 0), (h, (sized-load v (field_at n 4), (sized-assignment n (Local v), tt)))) in
    sized-sequence (assignment n (Local p) ∷ loop (not_null n) i (sequence steps) ∷ [])
    (sized-assignment n (Local p), (sized-loop (not_null n) i (sequence steps) sized_steps, tt))

-- the pieces of a row, each with its fact
abbrev pub Known : (Piece → Type 0) → Type 0
Known K = (p : Piece) × K p

each-known : (K : Piece → Type 0) (ps : List (Known K)) → each K (map (λ p. p.0) ps)
each-known K [] = tt
each-known K (p ∷ ps) = (p.1, each-known K ps)

pub sized_rows : RowsKeep IsSized
sized_rows (StmtKind-F.Assign x a) = sized-assignment x a
sized_rows (StmtKind-F.Compute x op a b) = sized-computation x op a b
sized_rows (StmtKind-F.Load x p) = sized-load x p
sized_rows (StmtKind-F.LoadByte x p) = sized-load_byte x p
sized_rows (StmtKind-F.Store p b) = sized-store p b
sized_rows (StmtKind-F.StoreByte p b) = sized-store_byte p b
sized_rows (StmtKind-F.Call place into target via args hints after) = sized-call into target args
sized_rows (StmtKind-F.If test ys ns join) =
    sized-choice test _ _ (sized-sequence _ (each-known IsSized ys)) (sized-sequence _ (each-known IsSized ns))
sized_rows (StmtKind-F.While test place invariant body) = sized-loop test invariant _ (sized-sequence _ (each-known IsSized body))
sized_rows (StmtKind-F.Return a) = sized-answer a
sized_rows (StmtKind-F.Hint h) = sized-nothing
sized_rows (StmtKind-F.Find n v a p s u t keep body) =
    sized-list_loop n v p _ _ (sized-choice (is_key v a) _ _ (sized-sequence _ (each-known IsSized body)) sized-nothing)
sized_rows (StmtKind-F.Walk n v p s u t keep body) = sized-list_loop n v p _ _ (sized-sequence _ (each-known IsSized body))

-- what each row keeps holds of each statement's piece
module _ (K : Piece → Type 0) (rows : RowsKeep K) where
  -- a statement whose piece has the fact
  Stmts : Type 0
  Stmts = (s : Stmt) × K (piece s)

  abbrev pieces_of : List ((s : Stmt) × K (piece s)) → List (Known K)
  pieces_of [] = []
  pieces_of (s ∷ ss) = (piece s.0, s.1) ∷ pieces_of ss

  same_pieces : (ss : List ((s : Stmt) × K (piece s))) → map (λ p. p.0) (pieces_of ss) ≡ map piece (map (λ s. s.0) ss)
  same_pieces [] = refl
  same_pieces (s ∷ ss) = ap (λ l. piece s.0 ∷ l) (same_pieces ss)

  layer : (y : StmtKind-F ((k : StmtKind) × K (kind_piece k)) ((s : Stmt) × K (piece s)))
      → K (kind_row (map-StmtKind _ _ _ _ kind_piece piece (map-StmtKind _ _ _ _ (λ e. e.0) (λ e. e.0) y)))
  layer (StmtKind-F.Assign x a) = rows (StmtKind-F.Assign x a)
  layer (StmtKind-F.Compute x op a b) = rows (StmtKind-F.Compute x op a b)
  layer (StmtKind-F.Load x p) = rows (StmtKind-F.Load x p)
  layer (StmtKind-F.LoadByte x p) = rows (StmtKind-F.LoadByte x p)
  layer (StmtKind-F.Store p b) = rows (StmtKind-F.Store p b)
  layer (StmtKind-F.StoreByte p b) = rows (StmtKind-F.StoreByte p b)
  layer (StmtKind-F.Call place into target via args hints after) = rows (StmtKind-F.Call place into target via args hints after)
  layer (StmtKind-F.If test ys ns join) =
      subst K (ap₂ (λ l m. choice test (sequence l) (sequence m)) (same_pieces ys) (same_pieces ns)) (rows (StmtKind-F.If test (pieces_of ys) (pieces_of ns) join))
  layer (StmtKind-F.While test place invariant body) =
      subst K (ap (λ l. loop test invariant (sequence l)) (same_pieces body)) (rows (StmtKind-F.While test place invariant (pieces_of body)))
  layer (StmtKind-F.Return a) = rows (StmtKind-F.Return a)
  layer (StmtKind-F.Hint h) = rows (StmtKind-F.Hint h)
  layer (StmtKind-F.Find n v a p s u t keep body) =
      subst K (ap (λ l. finding n v a p s u t keep (sequence l)) (same_pieces body)) (rows (StmtKind-F.Find n v a p s u t keep (pieces_of body)))
  layer (StmtKind-F.Walk n v p s u t keep body) =
      subst K (ap (λ l. walking n v p s u t keep (sequence l)) (same_pieces body)) (rows (StmtKind-F.Walk n v p s u t keep (pieces_of body)))

  pub every_piece : (s : Stmt) → K (piece s)
  every_piece =
      ind-Stmt (λ k. K (kind_piece k)) (λ s. K (piece s))
      (λ x y is. subst K (sym (fold-roll-StmtKind Piece Piece kind_row statement_row x)) (subst (λ z. K (kind_row (map-StmtKind _ _ _ _ kind_piece piece z))) is (layer y)))
      (λ x y is. subst K (sym (fold-roll-Stmt Piece Piece kind_row statement_row x)) (subst (λ z. K (kind_piece z.kind)) is y.kind.1))

  pub every_body : (body : List Stmt) → each K (map piece body)
  every_body [] = tt
  every_body (s ∷ ss) = (every_piece s, every_body ss)

pub statements_are_sized : StatementsAreSized
statements_are_sized = every_piece IsSized sized_rows

pub bodies_are_sized : BodiesAreSized
bodies_are_sized body = sized-sequence (map piece body) (every_body IsSized sized_rows body)

pub functions_are_sized : FunctionsAreSized
functions_are_sized f = sized-sequence (entry ∷ body_piece f.body ∷ []) (sized-entry, (bodies_are_sized f.body, tt))

-- ---- pieces after one another

pub size_of-append : (ps qs : List Piece) → size_of (ps ++ qs) ≡ size_of ps + size_of qs
size_of-append [] qs = omega arith
size_of-append (p ∷ ps) qs = omega (arith, size_of-append ps qs)

pub bytes_of-append : (locals : List Name) (labels : List ℕ → ℕ) (at : ℕ) (ps qs : List Piece)
    → bytes_of locals labels at (ps ++ qs) ≡ bytes_of locals labels at ps ++ bytes_of locals labels (at + size_of ps) qs
bytes_of-append locals labels at [] qs = let e : at ≡ at + 0 = omega arith in ap (λ x. bytes_of locals labels x qs) e
bytes_of-append locals labels at (p ∷ ps) qs =
    let e : at + p.size + size_of ps ≡ at + (p.size + size_of ps) = omega arith in
    ap (λ l. p.bytes locals labels at ++ l)
    (bytes_of-append locals labels (at + p.size) ps qs ∙ ap (λ x. bytes_of locals labels (at + p.size) ps ++ bytes_of locals labels x qs) e)
    ∙ sym (append_assoc (p.bytes locals labels at) _ _)

pub heads_of-append : (at : ℕ) (ps qs : List Piece) → heads_of at (ps ++ qs) ≡ heads_of at ps ++ heads_of (at + size_of ps) qs
heads_of-append at [] qs = let e : at ≡ at + 0 = omega arith in ap (λ x. heads_of x qs) e
heads_of-append at (p ∷ ps) qs =
    let e : at + p.size + size_of ps ≡ at + (p.size + size_of ps) = omega arith in
    ap (λ l. p.heads at ++ l) (heads_of-append (at + p.size) ps qs ∙ ap (λ x. heads_of (at + p.size) ps ++ heads_of x qs) e)
    ∙ sym (append_assoc (p.heads at) _ _)

pub bodies_are_sequences : BodiesAreSequences
bodies_are_sequences xs ys = record {
  size_is = ap size_of (map-append piece xs ys) ∙ size_of-append (map piece xs) (map piece ys);
  bytes_are = λ locals labels at. ap (λ l. bytes_of locals labels at l) (map-append piece xs ys) ∙ bytes_of-append locals labels at (map piece xs) (map piece ys);
  heads_are = λ at. ap (λ l. heads_of at l) (map-append piece xs ys) ∙ heads_of-append at (map piece xs) (map piece ys);
}

-- ---- the whole code

pub length-code_of : (labels : List ℕ → ℕ) (at : ℕ) (ds : List Defined) → length (code_of labels (placed_from at ds)) ≡ total_size ds
length-code_of labels at [] = refl
length-code_of labels at (d ∷ ds) =
    let bytes = (function_piece d.function).bytes d.locals labels at in
    let rest = code_of labels (placed_from (at + (function_piece d.function).size) ds) in
    omega (arith, length-append bytes rest, (functions_are_sized d.function).size_is d.locals labels at, length-code_of labels (at + (function_piece d.function).size) ds)

pub code_is_sized : CodeIsSized
code_is_sized modules base imports = length-code_of (label_address modules base imports) base (all_defined modules)
