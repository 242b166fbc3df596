-- A tree with each of its words and sequences written anew, in whatever way: f for words, g for sequences.
use Rattle.std.specs.Prelude.{List, map}
use Rattle.bed_lang.specs.declared.word.Word.{Word}
use Rattle.bed_lang.specs.declared.word.Seq.{Seq}
use Rattle.bed_lang.specs.declared.logic.Arg.{Arg}
use Rattle.bed_lang.specs.declared.logic.Arg.TheVariants as arg
use Rattle.bed_lang.specs.declared.logic.Pure.{Pure}
use Rattle.bed_lang.specs.declared.logic.Pure.TheVariants as pure
use Rattle.bed_lang.specs.declared.logic.Atom.{Atom}
use Rattle.bed_lang.specs.declared.logic.Atom.TheVariants as atom
use Rattle.bed_lang.specs.declared.logic.Term.{Term}
use Rattle.bed_lang.specs.declared.logic.Term.TheVariants as term

module _ (f : Word → Word) (g : Seq → Seq) where
  abbrev pub arg_by : Arg → Arg
  arg_by (arg.Word at a) = arg.Word at (f a)
  arg_by (arg.Seq at s) = arg.Seq at (g s)
  arg_by (arg.Bare name) = arg.Bare name

  abbrev pub fact_by : Pure → Pure
  fact_by (pure.Equal a b) = pure.Equal (f a) (f b)
  fact_by (pure.Unequal a b) = pure.Unequal (f a) (f b)
  fact_by (pure.Less a b) = pure.Less (f a) (f b)
  fact_by (pure.AtMost a b) = pure.AtMost (f a) (f b)
  fact_by (pure.Same s t) = pure.Same (g s) (g t)
  fact_by (pure.Member a s) = pure.Member (f a) (g s)
  fact_by (pure.NonMember a s) = pure.NonMember (f a) (g s)
  fact_by (pure.Code a name) = pure.Code (f a) name

  abbrev pub atom_by : Atom → Atom
  atom_by (atom.Cell a v) = atom.Cell (f a) (f v)
  atom_by (atom.Byte a v) = atom.Byte (f a) (f v)
  atom_by (atom.Block a n) = atom.Block (f a) (f n)
  atom_by (atom.Pred name args) = atom.Pred name (map arg_by args)

  abbrev pub term_by : Term → Term
  term_by term.Emp = term.Emp
  term_by (term.Pure p) = term.Pure (fact_by p)
  term_by (term.Atom a) = term.Atom (atom_by a)
