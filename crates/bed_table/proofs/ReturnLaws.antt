-- Functions whose body is one `return`.
use Rattle.std.proofs.Common.{◌≡◌, ◌+◌, ◌*◌, ◌≤◌, List, [], ◌∷◌, map, length, sym, ◌∙◌, ap, arith}
use Rattle.bed_lang.specs.declared.module.Operand.{Operand}
use Rattle.bed_lang.specs.declared.module.Operand.TheVariants.{Number, Local, Label}
use Rattle.bed_lang.specs.declared.statement.StmtKind.{StmtKind-F, fold-roll-StmtKind, Return}
use Rattle.bed_lang.specs.declared.statement.StmtKind.TheVariants.{rolls-Return}
use Rattle.bed_table.specs.Pieces.{Piece, size_of}
use Rattle.bed_table.specs.CodeTable.{operand_size, answer}
use Rattle.bed_table.specs.Code.{kind_row, statement_row, kind_piece, piece}
use Rattle.bed_table.specs.Layout.{Defined, all_defined, total_size}
use Rattle.bed_table.specs.Laws.{ReturnsAreSized, EachOnlyReturns, ReturnsAreShort}
use Rattle.bed_table.proofs.CodeLemmas.{piece-kind}

pub piece-Return : (a : Operand) → kind_piece (Return a) ≡ answer a
piece-Return a = ap kind_piece (sym (rolls-Return a)) ∙ fold-roll-StmtKind Piece Piece kind_row statement_row (StmtKind-F.Return a)

pub returns_are_sized : ReturnsAreSized
returns_are_sized f r =
    let body : size_of (map piece f.body) ≡ operand_size r.operand + 10 + 0 =
    ap (λ b. size_of (map piece b)) r.body_is
    ∙ ap (λ p. p.size + 0) (piece-kind (record { at = r.place; kind = Return r.operand }) ∙ piece-Return r.operand) in
    omega arith

operand_short : (a : Operand) → operand_size a ≤ 6
operand_short (Number n) = omega arith
operand_short (Local x) = omega arith
operand_short (Label f) = omega arith

rows_short : (ds : List Defined) → EachOnlyReturns ds → total_size ds ≤ 22 * length ds
rows_short [] h = omega arith
rows_short (d ∷ ds) h = omega (arith, returns_are_sized d.function h.0, operand_short h.0.operand, rows_short ds h.1)

pub returns_are_short : ReturnsAreShort
returns_are_short modules h = rows_short (all_defined modules) h
