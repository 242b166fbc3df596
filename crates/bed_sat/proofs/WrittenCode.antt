-- What is written out has the code of the body.
use Rattle.std.proofs.Common.{◌≡◌, ℕ, ◌+◌, Bool, true, None, List, [], ◌∷◌, ◌++◌, map, refl, sym, ◌∙◌, ap, ap₂, subst, arith, append-nil}
use Rattle.std.proofs.lemmas.List.{map-append}
use Rattle.bed_lang.specs.declared.word.Name.{Name}
use Rattle.bed_lang.specs.declared.logic.Assertion.{Assertion}
use Rattle.bed_lang.specs.declared.module.Operand.TheVariants.{Local}
use Rattle.bed_lang.specs.declared.module.Test.{Test}
use Rattle.bed_lang.specs.declared.statement.Stmt.{Stmt, roll-Stmt, ind-Stmt, fold-roll-Stmt, fold_out-Stmt}
use Rattle.bed_lang.specs.declared.statement.StmtKind.{StmtKind, StmtKind-F, roll-StmtKind, map-StmtKind, fold-roll-StmtKind, Assign, Load, If, While, Hint as HintStmt}
use Rattle.bed_lang.specs.declared.statement.StmtKind.TheVariants.{rolls-Assign, rolls-Compute, rolls-Load, rolls-LoadByte, rolls-Store, rolls-StoreByte, rolls-Call, rolls-If, rolls-While, rolls-Return, rolls-Hint}
use Rattle.bed_table.specs.Pieces.{Piece, nothing, sequence, falls_after, size_of, bytes_of, heads_of}
use Rattle.bed_table.specs.CodeTable.{assignment, load, choice, loop}
use Rattle.bed_table.specs.ListLoops.{not_null, is_key, field_at, list_loop as table_loop}
use Rattle.bed_table.specs.Code.{kind_row, statement_row, kind_piece, piece, body_piece}
use Rattle.bed_table.proofs.SizeLaws.{size_of-append, bytes_of-append, heads_of-append}
use Rattle.bed_sat.specs.Written.{statement, made_test, node_front, node_back, list_loop, joined, written_kind_step, written_step, written_kind, written_statement, written}
use Rattle.bed_sat.specs.ConditionLaws.{CodeIsSame}

-- ---- lists of pieces

falls_after-append : (b : Bool) (ps qs : List Piece) → falls_after b (ps ++ qs) ≡ falls_after (falls_after b ps) qs
falls_after-append b [] qs = refl
falls_after-append b (p ∷ ps) qs = falls_after-append p.falls ps qs

-- two lists of pieces have the same size, bytes and heads
record Same (ps qs : List Piece) : Type 0 where
  size_is : size_of ps ≡ size_of qs
  bytes_are : (locals : List Name) (labels : List ℕ → ℕ) (at : ℕ) → bytes_of locals labels at ps ≡ bytes_of locals labels at qs
  heads_are : (at : ℕ) → heads_of at ps ≡ heads_of at qs

itself : (ps : List Piece) → Same ps ps
itself ps = record { size_is = refl; bytes_are = λ locals labels at. refl; heads_are = λ at. refl }

same_then : {ps qs rs : List Piece} → Same ps qs → Same qs rs → Same ps rs
same_then s t = record {
  size_is = s.size_is ∙ t.size_is;
  bytes_are = λ locals labels at. s.bytes_are locals labels at ∙ t.bytes_are locals labels at;
  heads_are = λ at. s.heads_are at ∙ t.heads_are at;
}

skip : (ps : List Piece) → Same (nothing ∷ ps) ps
skip ps = record {
  size_is = omega arith;
  bytes_are = λ locals labels at. let e : at + 0 ≡ at = omega arith in ap (λ x. bytes_of locals labels x ps) e;
  heads_are = λ at. let e : at + 0 ≡ at = omega arith in ap (λ x. heads_of x ps) e;
}

both : (ps us qs vs : List Piece) → Same ps qs → Same us vs → Same (ps ++ us) (qs ++ vs)
both ps us qs vs s t = record {
  size_is = size_of-append ps us ∙ ap₂ (λ m n. m + n) s.size_is t.size_is ∙ sym (size_of-append qs vs);
  bytes_are = λ locals labels at.
      bytes_of-append locals labels at ps us
      ∙ ap₂ (λ l m. l ++ m) (s.bytes_are locals labels at) (ap (λ n. bytes_of locals labels (at + n) us) s.size_is ∙ t.bytes_are locals labels (at + size_of qs))
      ∙ sym (bytes_of-append locals labels at qs vs);
  heads_are = λ at.
      heads_of-append at ps us
      ∙ ap₂ (λ l m. l ++ m) (s.heads_are at) (ap (λ n. heads_of (at + n) us) s.size_is ∙ t.heads_are (at + size_of qs))
      ∙ sym (heads_of-append at qs vs);
}

more : (p : Piece) (ps qs : List Piece) → Same ps qs → Same (p ∷ ps) (p ∷ qs)
more p ps qs s = both (p ∷ []) ps (p ∷ []) qs (itself (p ∷ [])) s

-- they make the same piece where both fall through or neither does
same_sequence : {ps qs : List Piece} → Same ps qs → falls_after true ps ≡ falls_after true qs → sequence ps ≡ sequence qs
same_sequence s f i = record {
  falls = f i;
  size = s.size_is i;
  bytes = λ locals labels at. s.bytes_are locals labels at i;
  heads = λ at. s.heads_are at i;
}

-- a list stands for a piece: it is the same, and falls through where that does, whatever stands before
record StandsFor (ps : List Piece) (q : Piece) : Type 0 where
  same : Same ps (q ∷ [])
  falls_are : (b : Bool) → falls_after b ps ≡ q.falls

one : {p q : Piece} → p ≡ q → StandsFor (p ∷ []) q
one {p = p} e = subst (λ r. StandsFor (p ∷ []) r) e (record { same = itself (p ∷ []); falls_are = λ b. refl })

-- a list as one piece
as_one : (ps : List Piece) → Same ps (sequence ps ∷ [])
as_one ps = record {
  size_is = omega arith;
  bytes_are = λ locals labels at. sym (append-nil (bytes_of locals labels at ps));
  heads_are = λ at. sym (append-nil (heads_of at ps));
}

-- ---- a turn of the loop over a list, and the loop

pub piece_roll : (x : StmtKind-F StmtKind Stmt) (at : ℕ) (k : StmtKind) → roll-StmtKind x ≡ k
    → piece (statement at k) ≡ kind_row (map-StmtKind _ _ _ _ kind_piece piece x)
piece_roll x at k e =
    fold_out-Stmt Piece Piece kind_row statement_row (statement at k)
    ∙ (ap kind_piece (sym e) ∙ fold-roll-StmtKind Piece Piece kind_row statement_row x)

piece-Hint : (at : ℕ) (h : _) → piece (statement at (HintStmt h)) ≡ nothing
piece-Hint at h = piece_roll (StmtKind-F.Hint h) at _ (rolls-Hint h)

pub piece-Assign : (at : ℕ) (x : Name) (a : _) → piece (statement at (Assign x a)) ≡ assignment x a
piece-Assign at x a = piece_roll (StmtKind-F.Assign x a) at _ (rolls-Assign x a)

piece-Load : (at : ℕ) (x : Name) (p : _) → piece (statement at (Load x p)) ≡ load x p
piece-Load at x p = piece_roll (StmtKind-F.Load x p) at _ (rolls-Load x p)

-- the pieces of a turn, and the turn
module _ (n v p : Name) where
  turn_back : List Piece
  turn_back = load v (field_at n 4) ∷ nothing ∷ nothing ∷ nothing ∷ assignment n (Local v) ∷ []

  turn_pieces : (at : ℕ) (visit : List Stmt)
      → map piece (node_front at n v ++ (visit ++ node_back at n v p)) ≡ nothing ∷ load v (field_at n 0) ∷ (map piece visit ++ turn_back)
  unfolding turn_back
  turn_pieces at visit =
      ap₂ (λ (l m : List Piece). l ++ m) front (map-append piece visit (node_back at n v p) ∙ ap (λ (l : List Piece). map piece visit ++ l) back)
    where
      front : map piece (node_front at n v) ≡ nothing ∷ load v (field_at n 0) ∷ []
      front = simp (piece-Hint, piece-Load) refl

      back : map piece (node_back at n v p) ≡ load v (field_at n 4) ∷ nothing ∷ nothing ∷ nothing ∷ assignment n (Local v) ∷ []
      back = simp (piece-Hint, piece-Load, piece-Assign) refl

  -- load, what is done at the node, load, assignment
  abbrev turn_of : Piece → List Piece
  turn_of q = load v (field_at n 0) ∷ q ∷ load v (field_at n 4) ∷ assignment n (Local v) ∷ []

  turn_same : (at : ℕ) (visit : List Stmt) (q : Piece) → Same (map piece visit) (q ∷ [])
      → body_piece (node_front at n v ++ (visit ++ node_back at n v p)) ≡ sequence (turn_of q)
  unfolding turn_back
  turn_same at visit q c =
      let end : List Piece = assignment n (Local v) ∷ [] in
      let back : Same turn_back (load v (field_at n 4) ∷ end) =
      more (load v (field_at n 4)) (nothing ∷ nothing ∷ nothing ∷ end) end (same_then (skip (nothing ∷ nothing ∷ end)) (same_then (skip (nothing ∷ end)) (skip end))) in
      let turn : Same (load v (field_at n 0) ∷ (map piece visit ++ turn_back)) (turn_of q) =
      more (load v (field_at n 0)) (map piece visit ++ turn_back) (q ∷ load v (field_at n 4) ∷ end)
      (both (map piece visit) turn_back (q ∷ []) (load v (field_at n 4) ∷ end) c back) in
      ap sequence (turn_pieces at visit)
      ∙ same_sequence (same_then (skip (load v (field_at n 0) ∷ (map piece visit ++ turn_back))) turn) (falls_after-append true (map piece visit) turn_back)

  -- n <- p, and the loop
  abbrev start : Piece
  start = assignment n (Local p)

  abbrev whole : Assertion → Piece → Piece
  whole A q = loop (not_null n) A (sequence (turn_of q))

  whole_is : (at : ℕ) (A : Assertion) (visit : List Stmt) (q : Piece) → Same (map piece visit) (q ∷ [])
      → piece (statement at (While (made_test at (not_null n)) at A (node_front at n v ++ (visit ++ node_back at n v p)))) ≡ whole A q
  whole_is at A visit q c =
      let turn : List Stmt = node_front at n v ++ (visit ++ node_back at n v p) in
      piece_roll (StmtKind-F.While (made_test at (not_null n)) at A turn) at _ (rolls-While (made_test at (not_null n)) at A turn)
      ∙ ap (loop (not_null n) A) (turn_same at visit q c)

  loop_pieces : (at : ℕ) (A : Assertion) (visit : List Stmt) (q : Piece) → Same (map piece visit) (q ∷ [])
      → map piece (list_loop at n v p A visit) ≡ nothing ∷ start ∷ nothing ∷ whole A q ∷ nothing ∷ nothing ∷ []
  loop_pieces at A visit q c = rw (whole_is at A visit q c) (simp (piece-Hint, piece-Assign) refl)

  -- the loop over a list that is written out, and that of the code table
  loop_stands : (at : ℕ) (A : Assertion) (visit : List Stmt) (q : Piece) → Same (map piece visit) (q ∷ [])
      → StandsFor (map piece (list_loop at n v p A visit)) (table_loop n v p A q)
  loop_stands at A visit q c =
      let loops : Piece = whole A q in
      subst (λ (ps : List Piece). StandsFor ps (table_loop n v p A q)) (sym (loop_pieces at A visit q c)) (record {
        same =
            same_then (skip (start ∷ nothing ∷ loops ∷ nothing ∷ nothing ∷ []))
            (same_then (more start (nothing ∷ loops ∷ nothing ∷ nothing ∷ []) (loops ∷ [])
            (same_then (skip (loops ∷ nothing ∷ nothing ∷ [])) (more loops (nothing ∷ nothing ∷ []) [] (same_then (skip (nothing ∷ [])) (skip [])))))
            (as_one (start ∷ loops ∷ [])));
        falls_are = λ b. refl;
      })

-- ---- every statement

abbrev Stands : Stmt → Type 0
Stands s = StandsFor (map piece (written_statement s)) (piece s)

abbrev KindStands : StmtKind → Type 0
KindStands k = (at : ℕ) → StandsFor (map piece (written_kind k at)) (kind_piece k)

-- lists of statements, each of which stands for its piece
abbrev Known : Type 0
Known = (s : Stmt) × Stands s

abbrev statements_of : List Known → List Stmt
statements_of ss = map (λ s. s.0) ss

abbrev written_of : List Known → List Stmt
written_of ss = joined (map written_statement (statements_of ss))

list_same : (ss : List Known) → Same (map piece (written_of ss)) (map piece (statements_of ss))
list_same [] = itself []
list_same (s ∷ ss) =
    subst (λ (ps : List Piece). Same ps (piece s.0 ∷ map piece (statements_of ss))) (sym (map-append piece (written_statement s.0) (written_of ss)))
    (both (map piece (written_statement s.0)) (map piece (written_of ss)) (piece s.0 ∷ []) (map piece (statements_of ss)) s.1.same (list_same ss))

list_falls : (ss : List Known) (b : Bool) → falls_after b (map piece (written_of ss)) ≡ falls_after b (map piece (statements_of ss))
list_falls [] b = refl
list_falls (s ∷ ss) b =
    ap (falls_after b) (map-append piece (written_statement s.0) (written_of ss))
    ∙ falls_after-append b (map piece (written_statement s.0)) (map piece (written_of ss))
    ∙ ap (λ c. falls_after c (map piece (written_of ss))) (s.1.falls_are b)
    ∙ list_falls ss (piece s.0).falls

list_code : (ss : List Known) → body_piece (written_of ss) ≡ body_piece (statements_of ss)
list_code ss = same_sequence (list_same ss) (list_falls ss true)

layer : (y : StmtKind-F ((k : StmtKind) × KindStands k) ((s : Stmt) × Stands s)) (at : ℕ)
    → StandsFor (map piece (written_kind_step (map-StmtKind _ _ _ _ written_kind written_statement (map-StmtKind _ _ _ _ (λ e. e.0) (λ e. e.0) y)) at))
    (kind_row (map-StmtKind _ _ _ _ kind_piece piece (map-StmtKind _ _ _ _ (λ e. e.0) (λ e. e.0) y)))
layer (StmtKind-F.Assign x a) at = one (piece_roll (StmtKind-F.Assign x a) at _ (rolls-Assign x a))
layer (StmtKind-F.Compute x op a b) at = one (piece_roll (StmtKind-F.Compute x op a b) at _ (rolls-Compute x op a b))
layer (StmtKind-F.Load x p) at = one (piece_roll (StmtKind-F.Load x p) at _ (rolls-Load x p))
layer (StmtKind-F.LoadByte x p) at = one (piece_roll (StmtKind-F.LoadByte x p) at _ (rolls-LoadByte x p))
layer (StmtKind-F.Store p a) at = one (piece_roll (StmtKind-F.Store p a) at _ (rolls-Store p a))
layer (StmtKind-F.StoreByte p a) at = one (piece_roll (StmtKind-F.StoreByte p a) at _ (rolls-StoreByte p a))
layer (StmtKind-F.Call place into target via args hints after) at =
    one (piece_roll (StmtKind-F.Call place into target via args hints after) at _ (rolls-Call place into target via args hints after))
layer (StmtKind-F.If test ys ns join) at =
    one (piece_roll (StmtKind-F.If test (written_of ys) (written_of ns) join) at _ (rolls-If test (written_of ys) (written_of ns) join)
    ∙ ap₂ (choice test) (list_code ys) (list_code ns))
layer (StmtKind-F.While test place A body) at =
    one (piece_roll (StmtKind-F.While test place A (written_of body)) at _ (rolls-While test place A (written_of body)) ∙ ap (loop test A) (list_code body))
layer (StmtKind-F.Return a) at = one (piece_roll (StmtKind-F.Return a) at _ (rolls-Return a))
layer (StmtKind-F.Hint h) at = one (piece-Hint at h)
layer (StmtKind-F.Find n v a p s u t keep body) at =
    let test : Test = made_test at (is_key v a) in
    let visit : List Stmt = statement at (If test (written_of body) [] None) ∷ [] in
    let code : Piece = choice (is_key v a) (body_piece (statements_of body)) nothing in
    let found : piece (statement at (If test (written_of body) [] None)) ≡ code =
    piece_roll (StmtKind-F.If test (written_of body) [] None) at _ (rolls-If test (written_of body) [] None)
    ∙ ap (λ (q : Piece). choice (is_key v a) q nothing) (list_code body) in
    loop_stands n v p at _ visit code (subst (λ (q : Piece). Same (q ∷ []) (code ∷ [])) (sym found) (itself (code ∷ [])))
layer (StmtKind-F.Walk n v p s u t keep body) at =
    loop_stands n v p at _ (written_of body) (body_piece (statements_of body)) (same_then (list_same body) (as_one (map piece (statements_of body))))

every_stands : (s : Stmt) → Stands s
every_stands =
    ind-Stmt KindStands Stands
    (λ x y is at.
    subst (λ (f : ℕ → List Stmt). StandsFor (map piece (f at)) (kind_piece (roll-StmtKind x)))
    (sym (fold-roll-StmtKind (ℕ → List Stmt) (List Stmt) written_kind_step written_step x))
    (subst (λ (q : Piece). StandsFor (map piece (written_kind_step (map-StmtKind _ _ _ _ written_kind written_statement x) at)) q)
    (sym (fold-roll-StmtKind Piece Piece kind_row statement_row x))
    (subst (λ z. StandsFor (map piece (written_kind_step (map-StmtKind _ _ _ _ written_kind written_statement z) at)) (kind_row (map-StmtKind _ _ _ _ kind_piece piece z)))
    is (layer y at))))
    (λ x y is.
    subst (λ (b : List Stmt). StandsFor (map piece b) (piece (roll-Stmt x))) (sym (fold-roll-Stmt (ℕ → List Stmt) (List Stmt) written_kind_step written_step x))
    (subst (λ (q : Piece). StandsFor (map piece (written_kind x.kind x.at)) q) (sym (fold-roll-Stmt Piece Piece kind_row statement_row x))
    (subst (λ z. StandsFor (map piece (written_kind z.kind z.at)) (kind_piece z.kind)) is (y.kind.1 y.at))))

known_of : List Stmt → List Known
known_of [] = []
known_of (s ∷ ss) = (s, every_stands s) ∷ known_of ss

same_statements : (body : List Stmt) → statements_of (known_of body) ≡ body
unfolding known_of
same_statements [] = refl
same_statements (s ∷ ss) = ap (λ (l : List Stmt). s ∷ l) (same_statements ss)

pub code_is_same : CodeIsSame
code_is_same body = subst (λ (b : List Stmt). body_piece (written b) ≡ body_piece b) (same_statements body) (list_code (known_of body))
