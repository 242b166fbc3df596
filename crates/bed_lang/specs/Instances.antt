-- Terms in place of variables, all at once.
use Rattle.std.specs.Prelude.{ℕ, List, [], ◌∷◌}
use Rattle.bed_lang.specs.declared.word.Word.{Word, Number, Label, Add, Sub, Times, fold-Word}
use Rattle.bed_lang.specs.declared.word.Word.TheOpen.{Word-F}
use Rattle.bed_lang.specs.declared.word.Seq.{Seq, Nil, Cons, App, fold-Seq}
use Rattle.bed_lang.specs.declared.word.Seq.TheOpen.{Seq-F}
use Rattle.bed_lang.specs.declared.logic.Arg.{Arg}
use Rattle.bed_lang.specs.declared.logic.Arg.TheVariants as arg
use Rattle.bed_lang.specs.declared.logic.Pure.{Pure}
use Rattle.bed_lang.specs.declared.logic.Pure.TheVariants as pure
use Rattle.bed_lang.specs.declared.logic.Atom.{Atom}
use Rattle.bed_lang.specs.declared.logic.Atom.TheVariants as atom
use Rattle.bed_lang.specs.declared.logic.Term.{Term}
use Rattle.bed_lang.specs.declared.logic.Term.TheVariants as term
use Rattle.bed_lang.specs.Values.{Values, Variable, variable, value, list_value}

-- a word and a sequence for each variable
pub record Instance : Type 0 where
  pub words : Variable → Word
  pub seqs : Variable → Seq

-- the values that the variables have then
abbrev pub values_with : Instance → (List ℕ → ℕ) → Values → Values
values_with σ labels ν = record { words = λ x. value labels ν (σ.words x); lists = λ x. list_value labels ν (σ.seqs x) }

module _ (σ : Instance) where
  abbrev pub word_with_step : Word-F Word → Word
  word_with_step (Word-F.Number n) = Number n
  word_with_step (Word-F.Var x) = σ.words (variable x)
  word_with_step (Word-F.Label f) = Label f
  word_with_step (Word-F.Add a b) = Add a b
  word_with_step (Word-F.Sub a b) = Sub a b
  word_with_step (Word-F.Times n a) = Times n a

  -- each variable of a word, of a sequence, of an argument and so on gives way to its term
  abbrev pub word_with : Word → Word
  word_with = fold-Word Word word_with_step

  abbrev pub seq_with_step : Seq-F Seq → Seq
  seq_with_step (Seq-F.Var x) = σ.seqs (variable x)
  seq_with_step Seq-F.Nil = Nil
  seq_with_step (Seq-F.Cons a s) = Cons (word_with a) s
  seq_with_step (Seq-F.App s t) = App s t

  abbrev pub seq_with : Seq → Seq
  seq_with = fold-Seq Seq seq_with_step

  abbrev pub arg_with : Arg → Arg
  arg_with (arg.Word at a) = arg.Word at (word_with a)
  arg_with (arg.Seq at s) = arg.Seq at (seq_with s)
  arg_with (arg.Bare name) = arg.Bare name

  abbrev pub args_with : List Arg → List Arg
  args_with [] = []
  args_with (a ∷ more) = arg_with a ∷ args_with more

  abbrev pub pure_with : Pure → Pure
  pure_with (pure.Equal a b) = pure.Equal (word_with a) (word_with b)
  pure_with (pure.Unequal a b) = pure.Unequal (word_with a) (word_with b)
  pure_with (pure.Less a b) = pure.Less (word_with a) (word_with b)
  pure_with (pure.AtMost a b) = pure.AtMost (word_with a) (word_with b)
  pure_with (pure.Same s t) = pure.Same (seq_with s) (seq_with t)
  pure_with (pure.Member a s) = pure.Member (word_with a) (seq_with s)
  pure_with (pure.NonMember a s) = pure.NonMember (word_with a) (seq_with s)
  pure_with (pure.Code a name) = pure.Code (word_with a) name

  abbrev pub atom_with : Atom → Atom
  atom_with (atom.Cell a v) = atom.Cell (word_with a) (word_with v)
  atom_with (atom.Byte a v) = atom.Byte (word_with a) (word_with v)
  atom_with (atom.Block a n) = atom.Block (word_with a) (word_with n)
  atom_with (atom.Pred name args) = atom.Pred name (args_with args)

  abbrev pub term_with : Term → Term
  term_with term.Emp = term.Emp
  term_with (term.Pure fact) = term.Pure (pure_with fact)
  term_with (term.Atom a) = term.Atom (atom_with a)

  abbrev pub terms_with : List Term → List Term
  terms_with [] = []
  terms_with (t ∷ ts) = term_with t ∷ terms_with ts
