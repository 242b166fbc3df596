-- The faults of composed statements.
use Rattle.std.proofs.Common.{◌≡◌, ◌∙◌, sym, ap, refl, ℕ, suc, ◌+◌, ◌<◌, length, drop, get_or, drop-cons, add-one, Bool, List, ◌∷◌, ◌++◌, map, Option}
use Rattle.std.specs.Prelude.{◌||◌, not}
use Rattle.bed_lang.specs.declared.word.Name.{Name}
use Rattle.bed_lang.specs.declared.word.Seq.{Seq}
use Rattle.bed_lang.specs.declared.logic.Assertion.{Assertion}
use Rattle.bed_lang.specs.declared.module.Operand.{Operand}
use Rattle.bed_lang.specs.declared.module.Test.{Test}
use Rattle.bed_lang.specs.declared.module.Join.{Join}
use Rattle.bed_lang.specs.declared.statement.Stmt.{Stmt, fold_out-Stmt}
use Rattle.bed_lang.specs.declared.statement.StmtKind.{StmtKind, StmtKind-F, fold-roll-StmtKind, If, While, Find, Walk}
use Rattle.bed_lang.specs.declared.statement.StmtKind.TheVariants.{rolls-If, rolls-While, rolls-Find, rolls-Walk}
use Rattle.bed_names.specs.declared.error.NameError.{NameError}
use Rattle.bed_names.specs.declared.error.NameError.TheVariants.{Dead, MissingJoin}
use Rattle.bed_names.specs.Faults.{noted, fault_if}
use Rattle.bed_names.specs.Terms.{Visible, assertion_faults}
use Rattle.bed_names.specs.Statements.{Surroundings, Judged, kind_step, stmt_step, judged, judged_kind, falls_after, faults_after, body_falls, body_faults, test_faults, join_faults, find_faults, walk_faults, straight}
use Rattle.bed_names.proofs.NotedLemmas.{noted_append}

-- three and four lists of faults, one after the other
pub three_notes : (r0 r1 r2 r3 : Option NameError) (a b c : List NameError)
    → r1 ≡ noted r0 a → r2 ≡ noted r1 b → r3 ≡ noted r2 c → r3 ≡ noted r0 (a ++ (b ++ c))
three_notes r0 r1 r2 r3 a b c ea eb ec =
    ec ∙ ap (λ r. noted r c) eb ∙ sym (noted_append r1 b c) ∙ ap (λ r. noted r (b ++ c)) ea ∙ sym (noted_append r0 a (b ++ c))

pub four_notes : (r0 r1 r2 r3 r4 : Option NameError) (a b c d : List NameError)
    → r1 ≡ noted r0 a → r2 ≡ noted r1 b → r3 ≡ noted r2 c → r4 ≡ noted r3 d → r4 ≡ noted r0 (a ++ (b ++ (c ++ d)))
four_notes r0 r1 r2 r3 r4 a b c d ea eb ec ed =
    three_notes r1 r2 r3 r4 b c d eb ec ed ∙ ap (λ r. noted r (b ++ (c ++ d))) ea ∙ sym (noted_append r0 a (b ++ (c ++ d)))

module _ (i : Surroundings) where
  judged-If : (t : Test) (ys ns : List Stmt) (j : Option Join) (at : ℕ) → judged_kind i (If t ys ns j) at ≡ record {
    at = at;
    falls = body_falls i ys || body_falls i ns;
    faults = test_faults i t ++ (body_faults i ys
        ++ (body_faults i ns ++ join_faults i.visible at (body_falls i ys) (body_falls i ns) j));
  }
  judged-If t ys ns j at =
      ap (λ k. judged_kind i k at) (sym (rolls-If t ys ns j))
      ∙ ap (λ f. f at) (fold-roll-StmtKind (ℕ → Judged) Judged (kind_step i) (stmt_step i) (StmtKind-F.If t ys ns j))

  judged-While : (t : Test) (place : ℕ) (a : Assertion) (body : List Stmt) (at : ℕ)
      → judged_kind i (While t place a body) at
      ≡ straight at (test_faults i t ++ (assertion_faults i.visible a ++ body_faults i body))
  judged-While t place a body at =
      ap (λ k. judged_kind i k at) (sym (rolls-While t place a body))
      ∙ ap (λ f. f at) (fold-roll-StmtKind (ℕ → Judged) Judged (kind_step i) (stmt_step i) (StmtKind-F.While t place a body))

  judged-Find : (n v : Name) (k : Operand) (p : Name) (s : Seq) (u t : Name) (a : Assertion) (body : List Stmt) (at : ℕ)
      → judged_kind i (Find n v k p s u t a body) at
      ≡ straight at (find_faults i n v k p s u t a ++ (body_faults i body ++ fault_if (body_falls i body) (MissingJoin at)))
  judged-Find n v k p s u t a body at =
      ap (λ k. judged_kind i k at) (sym (rolls-Find n v k p s u t a body))
      ∙ ap (λ f. f at) (fold-roll-StmtKind (ℕ → Judged) Judged (kind_step i) (stmt_step i) (StmtKind-F.Find n v k p s u t a body))

  judged-Walk : (n v p : Name) (s : Seq) (u t : Name) (a : Assertion) (body : List Stmt) (at : ℕ)
      → judged_kind i (Walk n v p s u t a body) at
      ≡ straight at (walk_faults i n v p s u t a ++ (body_faults i body ++ fault_if (not (body_falls i body)) (Dead at)))
  judged-Walk n v p s u t a body at =
      ap (λ k. judged_kind i k at) (sym (rolls-Walk n v p s u t a body))
      ∙ ap (λ f. f at) (fold-roll-StmtKind (ℕ → Judged) Judged (kind_step i) (stmt_step i) (StmtKind-F.Walk n v p s u t a body))

  pub if_found : (k : StmtKind) (t : Test) (ys ns ys' ns' : List Stmt) (j : Option Join) (at : ℕ) (yf nf : Bool) (v : Visible)
      (r0 r1 r2 r3 r4 : Option NameError) → k ≡ If t ys ns j → ys' ≡ ys → ns' ≡ ns → v ≡ i.visible
      → r1 ≡ noted r0 (test_faults i t) → yf ≡ body_falls i ys' → r2 ≡ noted r1 (body_faults i ys')
      → nf ≡ body_falls i ns' → r3 ≡ noted r2 (body_faults i ns') → r4 ≡ noted r3 (join_faults v at yf nf j)
      → r4 ≡ noted r0 (judged_kind i k at).faults
  if_found k t ys ns ys' ns' j at yf nf v r0 r1 r2 r3 r4 e ey en ev h1 fy h2 fn h3 h4 =
      four_notes r0 r1 r2 r3 r4 (test_faults i t) (body_faults i ys) (body_faults i ns)
      (join_faults i.visible at (body_falls i ys) (body_falls i ns) j) h1
      (h2 ∙ ap (λ b. noted r1 (body_faults i b)) ey) (h3 ∙ ap (λ b. noted r2 (body_faults i b)) en)
      (h4 ∙ ap (λ x. noted r3 (join_faults x at yf nf j)) ev
      ∙ ap (λ b. noted r3 (join_faults i.visible at b nf j)) (fy ∙ ap (body_falls i) ey)
      ∙ ap (λ b. noted r3 (join_faults i.visible at (body_falls i ys) b j)) (fn ∙ ap (body_falls i) en))
      ∙ ap (λ x. noted r0 x.faults) (sym (ap (λ x. judged_kind i x at) e ∙ judged-If t ys ns j at))

  pub while_found : (k : StmtKind) (t : Test) (place : ℕ) (a : Assertion) (body body' : List Stmt) (at : ℕ) (v : Visible)
      (r0 r1 r2 r3 : Option NameError) → k ≡ While t place a body → body' ≡ body → v ≡ i.visible
      → r1 ≡ noted r0 (test_faults i t) → r2 ≡ noted r1 (assertion_faults v a) → r3 ≡ noted r2 (body_faults i body')
      → r3 ≡ noted r0 (judged_kind i k at).faults
  while_found k t place a body body' at v r0 r1 r2 r3 e eb ev h1 h2 h3 =
      three_notes r0 r1 r2 r3 (test_faults i t) (assertion_faults i.visible a) (body_faults i body) h1
      (h2 ∙ ap (λ x. noted r1 (assertion_faults x a)) ev) (h3 ∙ ap (λ b. noted r2 (body_faults i b)) eb)
      ∙ ap (λ x. noted r0 x.faults) (sym (ap (λ x. judged_kind i x at) e ∙ judged-While t place a body at))

  pub find_found : (k : StmtKind) (n x : Name) (o : Operand) (p : Name) (s : Seq) (u t : Name) (a : Assertion) (body body' : List Stmt)
      (at : ℕ) (falls : Bool) (r0 r1 r2 r3 : Option NameError) → k ≡ Find n x o p s u t a body → body' ≡ body
      → r1 ≡ noted r0 (find_faults i n x o p s u t a) → falls ≡ body_falls i body' → r2 ≡ noted r1 (body_faults i body')
      → r3 ≡ noted r2 (fault_if falls (MissingJoin at)) → r3 ≡ noted r0 (judged_kind i k at).faults
  find_found k n x o p s u t a body body' at falls r0 r1 r2 r3 e eb h1 f h2 h3 =
      three_notes r0 r1 r2 r3 (find_faults i n x o p s u t a) (body_faults i body) (fault_if (body_falls i body) (MissingJoin at)) h1
      (h2 ∙ ap (λ b. noted r1 (body_faults i b)) eb)
      (h3 ∙ ap (λ b. noted r2 (fault_if b (MissingJoin at))) (f ∙ ap (body_falls i) eb))
      ∙ ap (λ x. noted r0 x.faults) (sym (ap (λ x. judged_kind i x at) e ∙ judged-Find n x o p s u t a body at))

  pub walk_found : (k : StmtKind) (n x p : Name) (s : Seq) (u t : Name) (a : Assertion) (body body' : List Stmt)
      (at : ℕ) (falls : Bool) (r0 r1 r2 r3 : Option NameError) → k ≡ Walk n x p s u t a body → body' ≡ body
      → r1 ≡ noted r0 (walk_faults i n x p s u t a) → falls ≡ body_falls i body' → r2 ≡ noted r1 (body_faults i body')
      → r3 ≡ noted r2 (fault_if (not falls) (Dead at)) → r3 ≡ noted r0 (judged_kind i k at).faults
  walk_found k n x p s u t a body body' at falls r0 r1 r2 r3 e eb h1 f h2 h3 =
      three_notes r0 r1 r2 r3 (walk_faults i n x p s u t a) (body_faults i body) (fault_if (not (body_falls i body)) (Dead at)) h1
      (h2 ∙ ap (λ b. noted r1 (body_faults i b)) eb)
      (h3 ∙ ap (λ b. noted r2 (fault_if (not b) (Dead at))) (f ∙ ap (body_falls i) eb))
      ∙ ap (λ x. noted r0 x.faults) (sym (ap (λ x. judged_kind i x at) e ∙ judged-Walk n x p s u t a body at))

-- one more statement of a list
module _ (i : Surroundings) (body : List Stmt) (n : ℕ) (s : Stmt) (lt : n < length body) (is : s ≡ get_or body n s) where
  parts : map (judged i) (drop n body) ≡ judged i s ∷ map (judged i) (drop (n + 1) body)
  parts = rw add-one (ap (map (judged i)) (drop-cons body n s lt) ∙ ap (λ x. judged i x ∷ map (judged i) (drop (suc n) body)) (sym is))

  abbrev kind_judged : Judged
  kind_judged = judged_kind i s.kind s.at

  is_kind : judged i s ≡ record kind_judged { at = s.at }
  is_kind = fold_out-Stmt (ℕ → Judged) Judged (kind_step i) (stmt_step i) s

  abbrev rest : List Judged
  rest = map (judged i) (drop (n + 1) body)

  split : map (judged i) (drop n body) ≡ record kind_judged { at = s.at } ∷ rest
  split = parts ∙ ap (λ x. x ∷ rest) is_kind

  pub falls_step : (falls next whole : Bool) → falls_after falls (map (judged i) (drop n body)) ≡ whole
      → next ≡ kind_judged.falls → falls_after next rest ≡ whole
  falls_step falls next whole h e = ap (λ b. falls_after b rest) e ∙ ap (falls_after falls) (sym split) ∙ h

  pub found_step : (falls next : Bool) (found dead after whole : Option NameError)
      → noted found (faults_after falls (map (judged i) (drop n body))) ≡ whole
      → dead ≡ noted found (fault_if (not falls) (Dead s.at)) → next ≡ kind_judged.falls → after ≡ noted dead kind_judged.faults
      → noted after (faults_after next rest) ≡ whole
  found_step falls next found dead after whole h d f a =
      ap (λ b. noted after (faults_after b rest)) f
      ∙ (three_notes found dead after (noted after (faults_after kind_judged.falls rest)) (fault_if (not falls) (Dead s.at))
      kind_judged.faults (faults_after kind_judged.falls rest) d a refl
      ∙ ap (λ js. noted found (faults_after falls js)) (sym split) ∙ h)
