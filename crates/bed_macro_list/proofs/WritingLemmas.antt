-- The statements of a loop over a list, appended by parts.
use Rattle.std.proofs.Common.{◌≡◌, ℕ, Result, Ok, Err, OnOk, List, [], ◌∷◌, ◌++◌, append_assoc}
use Rattle.std.specs.Prelude.{codes}
use Rattle.bed_lang.specs.declared.word.Name.{Name}
use Rattle.bed_lang.specs.declared.logic.Assertion.{Assertion}
use Rattle.bed_lang.specs.declared.module.Hint.{Hint}
use Rattle.bed_lang.specs.declared.module.Operand.TheVariants.{Local}
use Rattle.bed_lang.specs.declared.statement.Stmt.{Stmt}
use Rattle.bed_lang.specs.declared.statement.StmtKind.{Assign, While}
use Rattle.bed_table.specs.ListLoops.{not_null}
use Rattle.bed_sat.specs.Written.{statement, made_hint, made_test, node_front, node_back, list_loop, unfold_at, fold_segment, fold_list}

pub on_ok : {A E : Type 0} (r : Result A E) (P Q : Type 0) → (P → Q) → OnOk r P → OnOk r Q
on_ok (Ok x) P Q f h = f h
on_ok (Err e) P Q f h = h

pub loop_made : (at : ℕ) (n v p : Name) (I : Assertion) (visit body o0 o1 o2 o3 o4 : List Stmt) (h1 h2 : Hint)
    → o1 ≡ o0 ++ made_hint at (unfold_at (codes "lst") p) ∷ statement at (Assign n (Local p)) ∷ made_hint at (fold_segment p n 1) ∷ []
    → body ≡ node_front at n v ++ (visit ++ node_back at n v p)
    → o2 ≡ o1 ++ statement at (While (made_test at (not_null n)) at I body) ∷ []
    → h1 ≡ unfold_at (codes "lseg") n → o3 ≡ o2 ++ made_hint at h1 ∷ []
    → h2 ≡ fold_list p → o4 ≡ o3 ++ made_hint at h2 ∷ []
    → o4 ≡ o0 ++ list_loop at n v p I visit
loop_made at n v p I visit body o0 o1 o2 o3 o4 h1 h2 e1 eb e2 eh1 e3 eh2 e4 = rw (e4, eh2, e3, eh1, e2, eb, e1) (simp append_assoc)
