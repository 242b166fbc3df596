-- The statements that `find` and `walk` stand for. Trees that the expansion makes have place 0; names, operands, sequences and
-- terms of the statement keep theirs.
use Rattle.std.specs.Prelude.{ℕ, List, [], ◌∷◌, ◌++◌}
use Rattle.bed_lang.specs.declared.word.Name.{Name}
use Rattle.bed_lang.specs.declared.word.Sort.TheVariants as sort
use Rattle.bed_lang.specs.declared.word.Var.TheVariants as var
use Rattle.bed_lang.specs.declared.word.Word.{Word}
use Rattle.bed_lang.specs.declared.word.Word as word
use Rattle.bed_lang.specs.declared.word.Seq.{Seq}
use Rattle.bed_lang.specs.declared.word.Seq as seq
use Rattle.bed_lang.specs.declared.logic.Pure.TheVariants as pure
use Rattle.bed_lang.specs.declared.logic.Term.{Term}
use Rattle.bed_lang.specs.declared.logic.Term.TheVariants as term
use Rattle.bed_lang.specs.declared.logic.Assertion.{Assertion}
use Rattle.bed_lang.specs.declared.module.Operand.{Operand}
use Rattle.bed_lang.specs.declared.module.Operand.TheVariants as operand
use Rattle.bed_lang.specs.declared.module.Rel.TheVariants as rel
use Rattle.bed_lang.specs.declared.module.Test.{Test}
use Rattle.bed_lang.specs.declared.module.Place.{Place}
use Rattle.bed_lang.specs.Prelude.{segment}
use Rattle.bed_table.specs.Pieces.{Piece, nothing, sequence}
use Rattle.bed_table.specs.CodeTable.{assignment, load, choice, loop}

-- a variable, and an operand, as terms
abbrev pub word_named : Name → Word
word_named x = word.Var (var.Named x)

abbrev pub seq_named : Name → Seq
seq_named x = seq.Var (var.Named x)

abbrev pub word_of : Operand → Word
word_of (operand.Number n) = word.Number n
word_of (operand.Local x) = word_named x
word_of (operand.Label f) = word.Label f

-- the fact `s == app(u, t)`
abbrev pub parted : Seq → Name → Name → Term
parted s u t = term.Pure (pure.Same s (seq.App (seq_named u) (seq_named t)))

-- the fact `a notin u`
abbrev pub not_yet : Operand → Name → List Term
not_yet a u = term.Pure (pure.NonMember (word_of a) (seq_named u)) ∷ []

-- exists u: seq, t: seq, (binders of keep). [s == app(u, t)] * (facts) * lseg(p, n, u) * lseg(n, 0, t) * (terms of keep)
abbrev pub list_invariant : Name → Name → Seq → Name → Name → List Term → Assertion → Assertion
list_invariant n p s u t facts keep = record {
  at = 0;
  binders = record { name = u; sort = sort.Seq } ∷ record { name = t; sort = sort.Seq } ∷ keep.binders;
  terms = parted s u t ∷ facts
      ++ segment (word_named p) (word_named n) (seq_named u) ∷ segment (word_named n) (word.Number 0) (seq_named t) ∷ keep.terms;
}

-- the test `n != 0`, the test `v = a`, and the place `[n + k]`
abbrev pub not_null : Name → Test
not_null n = record { at = 0; rel = rel.Unequal; left = operand.Local n; right = operand.Number 0 }

abbrev pub is_key : Name → Operand → Test
is_key v a = record { at = 0; rel = rel.Equal; left = operand.Local v; right = a }

abbrev pub field_at : Name → ℕ → Place
field_at n k = record { base = operand.Local n; disp = k }

-- n <- p; while n != 0 invariant { v <- [n]; (what is done at a node) v <- [n + 4]; n <- v; }
-- The hints between these statements have no code.
abbrev pub list_loop : Name → Name → Name → Assertion → Piece → Piece
list_loop n v p invariant visit =
    sequence (assignment n (operand.Local p)
    ∷ loop (not_null n) invariant (sequence (load v (field_at n 0) ∷ visit ∷ load v (field_at n 4) ∷ assignment n (operand.Local v) ∷ []))
    ∷ [])

-- find n, v for a in p of s as u, t keep A { body }: the body is done at a node whose value is `a`
abbrev pub finding : Name → Name → Operand → Name → Seq → Name → Name → Assertion → Piece → Piece
finding n v a p s u t keep body = list_loop n v p (list_invariant n p s u t (not_yet a u) keep) (choice (is_key v a) body nothing)

-- walk n, v in p of s as u, t keep A { body }: the body is done at each node
abbrev pub walking : Name → Name → Name → Seq → Name → Name → Assertion → Piece → Piece
walking n v p s u t keep body = list_loop n v p (list_invariant n p s u t [] keep) body
