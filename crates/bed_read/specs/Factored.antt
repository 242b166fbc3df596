-- The grammar of modules, left-factored, so that one token of foresight decides: it has these productions in place of the
-- written ones, and all others from there.
use Rattle.std.specs.Prelude.{◌-◌, None}
use Rattle.std.proofs.Common.{inl, inr}
use Rattle.std.specs.Option.{option_or}
use Rattle.bed_grammar.specs.Grammar.{Rhs, token, empty, ref, Value, Grammar}
use Rattle.bed_lang.specs.declared.word.Word as word
use Rattle.bed_lang.specs.declared.word.Var.TheVariants as var
use Rattle.bed_lang.specs.declared.logic.Arg.TheVariants as arg
use Rattle.bed_lang.specs.declared.logic.Pure.TheVariants as pure
use Rattle.bed_lang.specs.declared.logic.Atom.TheVariants as atom
use Rattle.bed_lang.specs.declared.logic.Term.TheVariants as term
use Rattle.bed_lang.specs.declared.word.Seq as sequence
use Rattle.bed_lex.specs.declared.token.Token.{Token}
use Rattle.bed_lang.specs.declared.limit.Which.{Which}
use Rattle.bed_lang.specs.declared.limit.Which.TheVariants as limit
use Rattle.bed_read.specs.declared.parts.Piece.TheVariants as piece
use Rattle.bed_read.specs.declared.parts.Source.TheVariants as source
use Rattle.bed_read.specs.Classes.{class, IsLexeme, EMP, LEFT_BRACKET, RIGHT_BRACKET, LEFT_PAREN, RIGHT_PAREN, SAME, STAR, AMPERSAND, OLD, RESULT, BYTE}
use Rattle.bed_read.specs.Trees.{moved, word_of, summed, word_argument, fact_of, cell_at}
use Rattle.bed_read.specs.Written.{N, Tree, written_rule, written_action, past, ◌▸◌, ◌∥◌, sign, name, number, Term, PureTerm, Block, NameTerm, StartTerm, Nam, Num, Args, Sums, Start, Other, Inner, Arrow, Pure, PlainSeq, Seq, Word, Sum, Tail, CodeFact, Part, Arg, Source, Operand, Op, Place, Call}

abbrev pub rule : N → Rhs N Which
rule (Term m) = token EMP m
    ∥ ref (PureTerm m)
    ∥ ref (Block m)
    ∥ ref (NameTerm m)
    ∥ ref (StartTerm m)
rule (NameTerm m) = ref (Nam m) ▸ (sign LEFT_PAREN ▸ ref (Args 63) ▸ sign RIGHT_PAREN ∥ ref (Sums 255 64) ▸ ref Arrow)
rule (StartTerm m) = ref (Start m 64) ▸ ref (Sums 255 64) ▸ ref Arrow
rule (Pure n) = name ▸ (sign SAME ▸ ref (Seq n) ∥ ref (Sums 255 n) ▸ ref (Tail n))
    ∥ ref (CodeFact n)
    ∥ ref (PlainSeq n) ▸ sign SAME ▸ ref (Seq n)
    ∥ ref (Start None n) ▸ ref (Sums 255 n) ▸ ref (Tail n)
rule (Part m n) = ref (Nam m) ∥ ref (Start m n)
rule (Start m n) = ref (Num m) ∥ ref (Other m n)
rule (Other m n) = token AMPERSAND m ▸ name
    ∥ token OLD m ▸ name
    ∥ token RESULT m
    ∥ token LEFT_PAREN (option_or m (past limit.Nesting n)) ▸ ref (Inner (n - 1)) ▸ sign RIGHT_PAREN
rule (Inner n) = number ▸ (sign STAR ▸ ref (Word n) ∥ ref (Sums 255 n))
    ∥ name ▸ ref (Sums 255 n)
    ∥ ref (Other None n) ▸ ref (Sums 255 n)
rule (Arg n) = ref (PlainSeq n) ∥ ref (Sum None n)
rule Source = sign LEFT_BRACKET ▸ ref Place ▸ sign RIGHT_BRACKET
    ∥ sign BYTE ▸ sign LEFT_BRACKET ▸ ref Place ▸ sign RIGHT_BRACKET
    ∥ ref Call
    ∥ ref Operand ▸ (ref Op ▸ ref Operand ∥ empty)
rule n = written_rule n

abbrev pub action : (n : N) → Value Token Tree (rule n) → Tree n
action (Term m) (inl v) = (v.at, term.Emp)
action (Term m) (inr (inl v)) = v
action (Term m) (inr (inr (inl v))) = v
action (Term m) (inr (inr (inr (inl v)))) = v
action (Term m) (inr (inr (inr (inr v)))) = v
action (NameTerm m) (x, inl v) = (x.at, term.Atom (atom.Pred x v.1.0))
action (NameTerm m) (x, inr v) = cell_at (summed (piece.Name x) v.0) v.1
action (StartTerm m) v = cell_at (summed v.0 v.1.0) v.1.1
action (Pure n) (inl (x, inl v)) = pure.Same (sequence.Var (var.Named x)) v.1
action (Pure n) (inl (x, inr v)) = fact_of (word_of (summed (piece.Name x) v.0)) v.1
action (Pure n) (inr (inl v)) = v
action (Pure n) (inr (inr (inl v))) = pure.Same v.0.1 v.1.1
action (Pure n) (inr (inr (inr v))) = fact_of (word_of (summed v.0 v.1.0)) v.1.1
action (Part m n) (inl v) = piece.Name v
action (Part m n) (inr v) = v
action (Start m n) (inl v) = piece.Word v.0 (word.Number v.1)
action (Start m n) (inr v) = v
action (Other m n) (inl v) = piece.Word v.0.at (word.Label v.1)
action (Other m n) (inr (inl v)) = piece.Word v.0.at (word.Var (var.Old (moved v.0.at v.1)))
action (Other m n) (inr (inr (inl v))) = piece.Word v.at (word.Var (var.Answer v.at))
action (Other m n) (inr (inr (inr v))) = piece.Word v.0.at v.1.0
action (Inner n) (inl (x, inl v)) = word.Times x.1 v.1
action (Inner n) (inl (x, inr v)) = word_of (summed (piece.Word x.0 (word.Number x.1)) v)
action (Inner n) (inr (inl v)) = word_of (summed (piece.Name v.0) v.1)
action (Inner n) (inr (inr v)) = word_of (summed v.0 v.1)
action (Arg n) (inl v) = arg.Seq v.0 v.1
action (Arg n) (inr v) = word_argument v
action Source (inl v) = source.Load v.1.0
action Source (inr (inl v)) = source.LoadByte v.1.1.0
action Source (inr (inr (inl v))) = source.Call v
action Source (inr (inr (inr (x, inl v)))) = source.Compute v.0 x.1 v.1.1
action Source (inr (inr (inr (x, inr v)))) = source.Operand x.1
action n v = written_action n v

abbrev pub factored : Grammar
factored = record { Nonterminal = N; Token = Token; Limit = Which; class = class; IsLexeme = IsLexeme; Tree = Tree; rule = rule; action = action }
