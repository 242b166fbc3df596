-- The code of statements, put together from its parts.
use Rattle.std.proofs.Common.{◌≡◌, ℕ, suc, ◌+◌, ◌<◌, ◌≤◌, Bool, Result, Ok, Err, OnOk, List, ◌∷◌, ◌++◌, map, length, drop, get_or, sym, ◌∙◌, ap, ap₂, arith, append_assoc, add-one, drop-cons}
use Rattle.std.proofs.lemmas.List.{append-nil}
use Rattle.bed_lang.specs.declared.word.Name.{Name}
use Rattle.bed_lang.specs.declared.module.Operand.{Operand}
use Rattle.bed_lang.specs.declared.module.Operand.TheVariants.{Local}
use Rattle.bed_lang.specs.declared.module.Test.{Test}
use Rattle.bed_lang.specs.declared.logic.Assertion.{Assertion}
use Rattle.bed_lang.specs.declared.statement.Stmt.{Stmt, fold_out-Stmt}
use Rattle.bed_lang.specs.declared.statement.StmtKind.{StmtKind, StmtKind-F, fold-roll-StmtKind, If, While, Find, Walk}
use Rattle.bed_lang.specs.declared.statement.StmtKind.TheVariants.{rolls-If, rolls-While, rolls-Find, rolls-Walk}
use Rattle.bed_table.specs.Pieces.{Piece, nothing, size_of, bytes_of}
use Rattle.bed_table.specs.CodeTable.{assignment, load, into_edx, arguments_size, arguments_bytes, transfer_bytes, call, operand_size, test_size, test_bytes, jump_size, jump_if, jump_bytes, choice, loop}
use Rattle.bed_table.specs.ListLoops.{list_loop, finding, walking, is_key, field_at}
use Rattle.bed_table.specs.CodeParts.{guarded, list_front, list_back}
use Rattle.bed_table.specs.Code.{kind_row, statement_row, kind_piece, piece, body_piece}

pub on_ok : {A E : Type 0} (r : Result A E) (P Q : Type 0) → (P → Q) → OnOk r P → OnOk r Q
on_ok (Ok x) P Q f h = f h
on_ok (Err e) P Q f h = h

-- ---- the rows, as equations

pub piece-kind : (s : Stmt) → piece s ≡ kind_piece s.kind
piece-kind s = fold_out-Stmt Piece Piece kind_row statement_row s

pub piece-If : (t : Test) (ys ns : List Stmt) (j : _) → kind_piece (If t ys ns j) ≡ choice t (body_piece ys) (body_piece ns)
piece-If t ys ns j = ap kind_piece (sym (rolls-If t ys ns j)) ∙ fold-roll-StmtKind Piece Piece kind_row statement_row (StmtKind-F.If t ys ns j)

pub piece-While : (t : Test) (place : ℕ) (i : Assertion) (body : List Stmt) → kind_piece (While t place i body) ≡ loop t i (body_piece body)
piece-While t place i body =
    ap kind_piece (sym (rolls-While t place i body)) ∙ fold-roll-StmtKind Piece Piece kind_row statement_row (StmtKind-F.While t place i body)

pub piece-Find : (n v : Name) (a : Operand) (p : Name) (s : _) (u t : Name) (keep : Assertion) (body : List Stmt)
    → kind_piece (Find n v a p s u t keep body) ≡ finding n v a p s u t keep (body_piece body)
piece-Find n v a p s u t keep body =
    ap kind_piece (sym (rolls-Find n v a p s u t keep body)) ∙ fold-roll-StmtKind Piece Piece kind_row statement_row (StmtKind-F.Find n v a p s u t keep body)

pub piece-Walk : (n v p : Name) (s : _) (u t : Name) (keep : Assertion) (body : List Stmt)
    → kind_piece (Walk n v p s u t keep body) ≡ walking n v p s u t keep (body_piece body)
piece-Walk n v p s u t keep body =
    ap kind_piece (sym (rolls-Walk n v p s u t keep body)) ∙ fold-roll-StmtKind Piece Piece kind_row statement_row (StmtKind-F.Walk n v p s u t keep body)

-- the statements from a number on are the one of that number and those behind it
split : (body : List Stmt) (i : ℕ) (s : Stmt) → i < length body → s ≡ get_or body i s → drop i body ≡ s ∷ drop (i + 1) body
split body i s lt is = rw add-one (drop-cons body i s lt ∙ ap (λ x. x ∷ drop (suc i) body) (sym is))

-- ---- parts that were appended one after the other

module _ (locals : List Name) (labels : List ℕ → ℕ) where
  choice_done : (t : Test) (p q : Piece) (at : ℕ) (o0 o1 o2 o3 o4 : List ℕ)
      → o1 ≡ o0 ++ test_bytes locals labels t at (at + test_size t + p.size + jump_size p.falls)
      → o2 ≡ o1 ++ p.bytes locals labels (at + test_size t)
      → o3 ≡ o2 ++ jump_if p.falls (at + test_size t + p.size) (at + test_size t + p.size + jump_size p.falls + q.size)
      → o4 ≡ o3 ++ q.bytes locals labels (at + test_size t + p.size + jump_size p.falls)
      → o4 ≡ o0 ++ (choice t p q).bytes locals labels at
  choice_done t p q at o0 o1 o2 o3 o4 h1 h2 h3 h4 = rw (h4, h3, h2, h1) (simp append_assoc)

  pub call_done : (x : Name) (t : Operand) (as' : List Operand) (at m k : ℕ) (o0 o1 o2 o3 : List ℕ)
      → m ≡ arguments_size as' → k ≡ operand_size t
      → o1 ≡ o0 ++ arguments_bytes locals labels 0 as'
      → o2 ≡ o1 ++ into_edx locals labels t
      → o3 ≡ o2 ++ transfer_bytes locals x (at + m + k + 13)
      → o3 ≡ o0 ++ (call x t as').bytes locals labels at
  call_done x t as' at m k o0 o1 o2 o3 em ek h1 h2 h3 =
      h3 ∙ ap₂ (λ a b. o2 ++ transfer_bytes locals x (at + a + b + 13)) em ek
      ∙ ap (λ l. l ++ transfer_bytes locals x (at + arguments_size as' + operand_size t + 13)) (h2 ∙ ap (λ l. l ++ into_edx locals labels t) h1)
      ∙ append_assoc (o0 ++ arguments_bytes locals labels 0 as') (into_edx locals labels t) _
      ∙ append_assoc o0 (arguments_bytes locals labels 0 as') _

  -- a loop over a list is its front, what is done at a node, and its back
  pub bytes-list_loop : (n v p : Name) (i : Assertion) (visit : Piece) (at : ℕ)
      → (list_loop n v p i visit).bytes locals labels at
      ≡ list_front locals labels n v p at (at + 49 + visit.size + 35)
      ++ (visit.bytes locals labels (at + 49) ++ list_back locals labels n v (at + 49 + visit.size + 30) (at + 12))
  bytes-list_loop n v p i visit at =
      let V : ℕ → List ℕ = λ x. visit.bytes locals labels x in
      let R : List ℕ = (load v (field_at n 4)).bytes locals labels at ++ (assignment n (Local v)).bytes locals labels at in
      let J : ℕ → List ℕ = λ x. jump_bytes x (at + 12) in
      let F : ℕ → List ℕ = λ x. list_front locals labels n v p at x in
      let k : ℕ = at + 12 + 19 + (18 + (visit.size + 30)) in
      let end_is : k + 5 ≡ at + 49 + visit.size + 35 = omega arith in
      let visit_is : at + 12 + 19 + 18 ≡ at + 49 = omega arith in
      let jump_is : k ≡ at + 49 + visit.size + 30 = omega arith in
      ap (λ l. F (k + 5) ++ l) (append-nil ((V (at + 12 + 19 + 18) ++ R) ++ J k) ∙ append_assoc (V (at + 12 + 19 + 18)) R (J k))
      ∙ ap (λ x. F x ++ (V (at + 12 + 19 + 18) ++ (R ++ J k))) end_is
      ∙ ap (λ x. F (at + 49 + visit.size + 35) ++ (V x ++ (R ++ J k))) visit_is
      ∙ ap (λ x. F (at + 49 + visit.size + 35) ++ (V (at + 49) ++ (R ++ J x))) jump_is

  pub walk_done : (n v p : Name) (i : Assertion) (visit : Piece) (at : ℕ) (o0 o1 o2 o3 : List ℕ)
      → o1 ≡ o0 ++ list_front locals labels n v p at (at + 49 + visit.size + 35)
      → o2 ≡ o1 ++ visit.bytes locals labels (at + 49)
      → o3 ≡ o2 ++ list_back locals labels n v (at + 49 + visit.size + 30) (at + 12)
      → o3 ≡ o0 ++ (list_loop n v p i visit).bytes locals labels at
  walk_done n v p i visit at o0 o1 o2 o3 h1 h2 h3 = rw (bytes-list_loop n v p i visit at, h3, h2, h1) (simp append_assoc)

  pub body_done : (body : List Stmt) (i : ℕ) (s : Stmt) (next : ℕ) (o o1 whole : List ℕ) → i < length body → s ≡ get_or body i s
      → o ++ bytes_of locals labels next (map piece (drop i body)) ≡ whole
      → o1 ≡ o ++ (kind_piece s.kind).bytes locals labels next
      → o1 ++ bytes_of locals labels (next + (kind_piece s.kind).size) (map piece (drop (i + 1) body)) ≡ whole
  body_done body i s next o o1 whole lt is h e =
      let rest = map piece (drop (i + 1) body) in
      let first : List ℕ = (kind_piece s.kind).bytes locals labels next in
      let more : List ℕ = bytes_of locals labels (next + (kind_piece s.kind).size) rest in
      let parts : bytes_of locals labels next (map piece (drop i body)) ≡ first ++ more =
      ap (λ l. bytes_of locals labels next (map piece l)) (split body i s lt is)
      ∙ ap (λ q. q.bytes locals labels next ++ bytes_of locals labels (next + q.size) rest) (piece-kind s) in
      ap (λ l. l ++ more) e ∙ append_assoc o first more ∙ ap (λ l. o ++ l) (sym parts) ∙ h

pub body_within : (body : List Stmt) (i : ℕ) (s : Stmt) (next : ℕ) → i < length body → s ≡ get_or body i s
    → next + size_of (map piece (drop i body)) ≤ 4294967296
    → next + (kind_piece s.kind).size + size_of (map piece (drop (i + 1) body)) ≤ 4294967296
body_within body i s next lt is h =
    let parts : size_of (map piece (drop i body)) ≡ (kind_piece s.kind).size + size_of (map piece (drop (i + 1) body)) =
    ap (λ l. size_of (map piece l)) (split body i s lt is) ∙ ap (λ q. q.size + size_of (map piece (drop (i + 1) body))) (piece-kind s) in
    omega arith

-- ---- the same, with the numbers and parts that code computed

module _ (locals : List Name) (labels : List ℕ → ℕ) where
  pub at_row : (k : StmtKind) (p : Piece) (at : ℕ) (o0 o : List ℕ) → kind_piece k ≡ p
      → o ≡ o0 ++ p.bytes locals labels at → o ≡ o0 ++ (kind_piece k).bytes locals labels at
  at_row k p at o0 o e h = h ∙ ap (λ q. o0 ++ q.bytes locals labels at) (sym e)

  pub guarded_made : (t : Test) (p : Piece) (at ts ps js target : ℕ) (f : Bool) (o0 o1 o2 o3 : List ℕ)
      → f ≡ p.falls → ts ≡ test_size t → ps ≡ p.size → js ≡ jump_size f
      → o1 ≡ o0 ++ test_bytes locals labels t at (at + ts + ps + js)
      → o2 ≡ o1 ++ p.bytes locals labels (at + ts)
      → o3 ≡ o2 ++ jump_if f (at + ts + ps) target
      → o3 ≡ o0 ++ guarded locals labels t p at target
  guarded_made t p at ts ps js target f o0 o1 o2 o3 ef ets eps ejs h1 h2 h3 =
      let js_is : js ≡ jump_size p.falls = ejs ∙ ap jump_size ef in
      let body_at : at + ts ≡ at + test_size t = ap (λ x. at + x) ets in
      let jump_at : at + ts + ps ≡ at + test_size t + p.size = ap₂ (λ x y. x + y) body_at eps in
      let end_at : at + ts + ps + js ≡ at + test_size t + p.size + jump_size p.falls = ap₂ (λ x y. x + y) jump_at js_is in
      let test : List ℕ = test_bytes locals labels t at (at + test_size t + p.size + jump_size p.falls) in
      let body : List ℕ = p.bytes locals labels (at + test_size t) in
      h3 ∙ ap₂ (λ g x. o2 ++ jump_if g x target) ef jump_at
      ∙ ap (λ l. l ++ jump_if p.falls (at + test_size t + p.size) target)
      (h2 ∙ ap₂ (λ l x. l ++ p.bytes locals labels x) (h1 ∙ ap (λ x. o0 ++ test_bytes locals labels t at x) end_at) body_at)
      ∙ append_assoc (o0 ++ test) body _ ∙ append_assoc o0 test _

  -- an `if` is its test with the first body, and the second body
  pub choice_made : (t : Test) (p q : Piece) (at no_at target : ℕ) (o0 o1 o2 : List ℕ)
      → no_at ≡ at + test_size t + p.size + jump_size p.falls → target ≡ no_at + q.size
      → o1 ≡ o0 ++ guarded locals labels t p at target
      → o2 ≡ o1 ++ q.bytes locals labels no_at
      → o2 ≡ o0 ++ (choice t p q).bytes locals labels at
  choice_made t p q at no_at target o0 o1 o2 en et h1 h2 =
      let next : ℕ = at + test_size t + p.size + jump_size p.falls in
      let test : List ℕ = test_bytes locals labels t at next in
      let body : List ℕ = p.bytes locals labels (at + test_size t) in
      let over : List ℕ = jump_if p.falls (at + test_size t + p.size) (next + q.size) in
      let target_is : target ≡ next + q.size = et ∙ ap (λ x. x + q.size) en in
      h2 ∙ ap₂ (λ l x. l ++ q.bytes locals labels x) (h1 ∙ ap (λ x. o0 ++ guarded locals labels t p at x) target_is) en
      ∙ append_assoc o0 (test ++ (body ++ over)) (q.bytes locals labels next)
      ∙ ap (λ l. o0 ++ l) (append_assoc test (body ++ over) (q.bytes locals labels next) ∙ ap (λ l. test ++ l) (append_assoc body over (q.bytes locals labels next)))

  pub walk_made : (n v p : Name) (i : Assertion) (visit : Piece) (at ps : ℕ) (o0 o1 o2 o3 : List ℕ)
      → ps ≡ visit.size
      → o1 ≡ o0 ++ list_front locals labels n v p at (at + 49 + ps + 35)
      → o2 ≡ o1 ++ visit.bytes locals labels (at + 49)
      → o3 ≡ o2 ++ list_back locals labels n v (at + 49 + ps + 30) (at + 12)
      → o3 ≡ o0 ++ (list_loop n v p i visit).bytes locals labels at
  walk_made n v p i visit at ps o0 o1 o2 o3 ps_is h1 h2 h3 =
      walk_done locals labels n v p i visit at o0 o1 o2 o3
      (h1 ∙ ap (λ x. o0 ++ list_front locals labels n v p at (at + 49 + x + 35)) ps_is)
      h2
      (h3 ∙ ap (λ x. o2 ++ list_back locals labels n v (at + 49 + x + 30) (at + 12)) ps_is)

  pub find_made : (n v : Name) (a : Operand) (p : Name) (i : Assertion) (body : Piece) (at ks ps js : ℕ) (f : Bool) (o0 o1 o2 o3 o4 o5 : List ℕ)
      → f ≡ body.falls → ks ≡ operand_size a + 14 → ps ≡ body.size → js ≡ jump_size f
      → o1 ≡ o0 ++ list_front locals labels n v p at (at + 49 + ks + ps + js + 35)
      → o2 ≡ o1 ++ test_bytes locals labels (is_key v a) (at + 49) (at + 49 + ks + ps + js)
      → o3 ≡ o2 ++ body.bytes locals labels (at + 49 + ks)
      → o4 ≡ o3 ++ jump_if f (at + 49 + ks + ps) (at + 49 + ks + ps + js)
      → o5 ≡ o4 ++ list_back locals labels n v (at + 49 + ks + ps + js + 30) (at + 12)
      → o5 ≡ o0 ++ (list_loop n v p i (choice (is_key v a) body nothing)).bytes locals labels at
  find_made n v a p i body at ks ps js f o0 o1 o2 o3 o4 o5 ef eks eps ejs h1 h2 h3 h4 h5 =
      let k : ℕ = test_size (is_key v a) in
      let ks_is : ks ≡ k = omega (arith, eks) in
      let over : at + 49 + ks + ps + js ≡ at + 49 + ks + ps + js + 0 = omega arith in
      let jump_is : at + 49 + ks + ps ≡ at + 49 + k + body.size = ap₂ (λ x y. at + 49 + x + y) ks_is eps in
      let next_is : at + 49 + ks + ps + js ≡ at + 49 + k + body.size + jump_size body.falls = ap₂ (λ x y. x + y) jump_is (ejs ∙ ap jump_size ef) in
      let visited : o4 ≡ o1 ++ (choice (is_key v a) body nothing).bytes locals labels (at + 49) =
      choice_done locals labels (is_key v a) body nothing (at + 49) o1 o2 o3 o4 o4
      (h2 ∙ ap (λ x. o1 ++ test_bytes locals labels (is_key v a) (at + 49) x) next_is)
      (h3 ∙ ap (λ x. o2 ++ body.bytes locals labels (at + 49 + x)) ks_is)
      (h4 ∙ ap (λ x. o3 ++ jump_if f (at + 49 + ks + ps) x) over
      ∙ ap₂ (λ g x. o3 ++ jump_if g x (at + 49 + ks + ps + js + 0)) ef jump_is
      ∙ ap (λ x. o3 ++ jump_if body.falls (at + 49 + k + body.size) (x + 0)) next_is)
      (sym (append-nil o4)) in
      let size : ℕ = ks + (ps + (js + 0)) in
      let size_is : size ≡ (choice (is_key v a) body nothing).size =
      ap₂ (λ x y. x + y) ks_is (ap₂ (λ x y. x + (y + 0)) eps (ejs ∙ ap jump_size ef)) in
      let end_is : at + 49 + ks + ps + js + 35 ≡ at + 49 + size + 35 = omega arith in
      let back_is : at + 49 + ks + ps + js + 30 ≡ at + 49 + size + 30 = omega arith in
      walk_made n v p i (choice (is_key v a) body nothing) at size o0 o1 o4 o5 size_is
      (h1 ∙ ap (λ x. o0 ++ list_front locals labels n v p at x) end_is)
      visited
      (h5 ∙ ap (λ x. o4 ++ list_back locals labels n v x (at + 12)) back_is)
