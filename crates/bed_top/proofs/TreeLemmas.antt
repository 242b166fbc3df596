-- Trees from their outermost layers.
use Rattle.std.proofs.Common.{◌≡◌, ap}
use Rattle.bed_lang.specs.declared.word.Word.{Word, out-Word, roll-Word, out-roll-Word, ind-Word}
use Rattle.bed_lang.specs.declared.statement.StmtKind.{StmtKind, out-StmtKind, roll-StmtKind, out-roll-StmtKind, ind-StmtKind}

pub rolled_word : (w : Word) → roll-Word (out-Word w) ≡ w
rolled_word = ind-Word (λ w. roll-Word (out-Word w) ≡ w) (λ x y is. ap roll-Word (out-roll-Word x))

pub rolled_kind : (k : StmtKind) → roll-StmtKind (out-StmtKind k) ≡ k
rolled_kind = ind-StmtKind (λ k. roll-StmtKind (out-StmtKind k) ≡ k) (λ s. Unit {0}) (λ x y is. ap roll-StmtKind (out-roll-StmtKind x)) (λ x y is. tt)
