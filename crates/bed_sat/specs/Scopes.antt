-- Which variables an assertion speaks of.
use Rattle.std.specs.Prelude.{◌≡◌, Bool, true, ◌&&◌, ◌||◌, IsTrue, List, [], ◌∷◌}
use Rattle.bed_lang.specs.declared.word.Sort.{Sort}
use Rattle.bed_lang.specs.declared.word.Sort.TheVariants as sort
use Rattle.bed_lang.specs.declared.word.Word.{Word, fold-Word}
use Rattle.bed_lang.specs.declared.word.Word.TheOpen.{Word-F}
use Rattle.bed_lang.specs.declared.word.Seq.{Seq, fold-Seq}
use Rattle.bed_lang.specs.declared.word.Seq.TheOpen.{Seq-F}
use Rattle.bed_lang.specs.declared.logic.Arg.{Arg}
use Rattle.bed_lang.specs.declared.logic.Arg.TheVariants as arg
use Rattle.bed_lang.specs.declared.logic.Pure.{Pure}
use Rattle.bed_lang.specs.declared.logic.Pure.TheVariants as pure
use Rattle.bed_lang.specs.declared.logic.Atom.{Atom}
use Rattle.bed_lang.specs.declared.logic.Atom.TheVariants as atom
use Rattle.bed_lang.specs.declared.logic.Term.{Term}
use Rattle.bed_lang.specs.declared.logic.Term.TheVariants as term
use Rattle.bed_lang.specs.declared.logic.Bind.{Bind}
use Rattle.bed_lang.specs.declared.logic.Assertion.{Assertion}
use Rattle.bed_lang.specs.Same.{same_sort}
use Rattle.bed_lang.specs.Values.{Values, Variable, Named, variable, same_variable}

-- a set of variables: a name may stand for a word, for a sequence, or for both
abbrev pub Scope : Type 0
Scope = Sort → Variable → Bool

-- and one more variable
abbrev pub with_bind : Scope → Bind → Scope
with_bind P b s x = P s x || (same_sort s b.sort && same_variable x (Named b.name.bytes))

module _ (P : Scope) where
  abbrev pub word_in_step : Word-F Bool → Bool
  word_in_step (Word-F.Number n) = true
  word_in_step (Word-F.Var x) = P sort.Word (variable x)
  word_in_step (Word-F.Label f) = true
  word_in_step (Word-F.Add a b) = a && b
  word_in_step (Word-F.Sub a b) = a && b
  word_in_step (Word-F.Times n a) = a

  -- each variable of a word is in the set
  abbrev pub word_in : Word → Bool
  word_in = fold-Word Bool word_in_step

  abbrev pub seq_in_step : Seq-F Bool → Bool
  seq_in_step (Seq-F.Var x) = P sort.Seq (variable x)
  seq_in_step Seq-F.Nil = true
  seq_in_step (Seq-F.Cons a s) = word_in a && s
  seq_in_step (Seq-F.App s t) = s && t

  abbrev pub seq_in : Seq → Bool
  seq_in = fold-Seq Bool seq_in_step

  abbrev pub arg_in : Arg → Bool
  arg_in (arg.Word at a) = word_in a
  arg_in (arg.Seq at s) = seq_in s
  arg_in (arg.Bare name) = true

  abbrev pub args_in : List Arg → Bool
  args_in [] = true
  args_in (a ∷ more) = arg_in a && args_in more

  abbrev pub pure_in : Pure → Bool
  pure_in (pure.Equal a b) = word_in a && word_in b
  pure_in (pure.Unequal a b) = word_in a && word_in b
  pure_in (pure.Less a b) = word_in a && word_in b
  pure_in (pure.AtMost a b) = word_in a && word_in b
  pure_in (pure.Same s t) = seq_in s && seq_in t
  pure_in (pure.Member a s) = word_in a && seq_in s
  pure_in (pure.NonMember a s) = word_in a && seq_in s
  pure_in (pure.Code a name) = word_in a

  abbrev pub atom_in : Atom → Bool
  atom_in (atom.Cell a v) = word_in a && word_in v
  atom_in (atom.Byte a v) = word_in a && word_in v
  atom_in (atom.Block a n) = word_in a && word_in n
  atom_in (atom.Pred name args) = args_in args

  abbrev pub term_in : Term → Bool
  term_in term.Emp = true
  term_in (term.Pure fact) = pure_in fact
  term_in (term.Atom a) = atom_in a

  abbrev pub terms_in : List Term → Bool
  terms_in [] = true
  terms_in (t ∷ ts) = term_in t && terms_in ts

-- binders add their variables
abbrev pub bound_in : Scope → List Bind → List Term → Bool
bound_in P [] ts = terms_in P ts
bound_in P (b ∷ bs) ts = bound_in (with_bind P b) bs ts

-- each variable of an assertion but its binders is in the set
abbrev pub assertion_in : Scope → Assertion → Bool
assertion_in P A = bound_in P A.binders A.terms

-- values are the same for each variable of a set
pub record Agree (P : Scope) (ν μ : Values) : Type 0 where
  pub words : (x : Variable) → IsTrue (P sort.Word x) → ν.words x ≡ μ.words x
  pub lists : (x : Variable) → IsTrue (P sort.Seq x) → ν.lists x ≡ μ.lists x
