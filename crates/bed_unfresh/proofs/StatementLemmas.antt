-- What the statements of each kind ask.
use Rattle.std.proofs.Common.{◌≡◌, ℕ, Bool, true, false, ◌&&◌, Option, List, [], ◌∷◌, map, refl, sym, ◌∙◌, ap}
use Rattle.bed_lang.specs.declared.word.Name.{Name}
use Rattle.bed_lang.specs.declared.word.Seq.{Seq}
use Rattle.bed_lang.specs.declared.logic.Assertion.{Assertion}
use Rattle.bed_lang.specs.declared.module.Operand.{Operand}
use Rattle.bed_lang.specs.declared.module.Test.{Test}
use Rattle.bed_lang.specs.declared.module.Join.{Join}
use Rattle.bed_lang.specs.declared.module.Hint.{Hint}
use Rattle.bed_lang.specs.declared.statement.Stmt.{Stmt, fold_out-Stmt}
use Rattle.bed_lang.specs.declared.statement.StmtKind.{StmtKind, StmtKind-F, map-StmtKind, roll-StmtKind, fold-roll-StmtKind}
use Rattle.bed_deriv.specs.Fresh.{every}
use Rattle.bed_unfresh.specs.Unfresh.{unfresh_kind_step, unfresh_statement_step, unfresh_kind, unfresh_statement}

pub both_true : (a b : Bool) → a ≡ true → b ≡ true → (a && b) ≡ true
both_true true b ea eb = eb
both_true false b ea eb = ea

pub front_true : (a b : Bool) → (a && b) ≡ true → a ≡ true
front_true true b e = refl
front_true false b e = e

pub back_true : (a b : Bool) → (a && b) ≡ true → b ≡ true
back_true true b e = e
back_true false b e = absurd cc

-- a statement is what its kind is
pub statement-kind : (s : Stmt) → unfresh_statement s ≡ unfresh_kind s.kind
statement-kind s = fold_out-Stmt Bool Bool unfresh_kind_step unfresh_statement_step s

pub kind_is : (x : StmtKind-F StmtKind Stmt) (k : StmtKind) → roll-StmtKind x ≡ k → unfresh_kind k ≡ unfresh_kind_step (map-StmtKind _ _ _ _ unfresh_kind unfresh_statement x)
kind_is x k e = ap unfresh_kind (sym e) ∙ fold-roll-StmtKind Bool Bool unfresh_kind_step unfresh_statement_step x

-- a body whose statements are folded one by one
pub body_is : (body : List Stmt) → every unfresh_statement body ≡ every (λ b. b) (map unfresh_statement body)
body_is [] = refl
body_is (s ∷ ss) = ap (λ b. unfresh_statement s && b) (body_is ss)

-- the same, where what holds says of which it does
pub and_so : {a b : Bool} → a ≡ true → b ≡ true → (a && b) ≡ true
and_so {a} {b} ea eb = both_true a b ea eb
