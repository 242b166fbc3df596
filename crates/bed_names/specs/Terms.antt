-- The faults of terms, assertions and hints.
--
-- Twice: a name is declared again in its name space, in one list, or while it is in scope; at the second name.
-- Unknown: a name, `old a` or `result` isn't in scope; at that token, of `&f` at the name f.
-- Sort: a term isn't of the sort that its place asks for; at its first token.
-- Arity: a predicate or a hint `fold` has another number of arguments, or the case of a `fold` isn't there; at the
-- predicate's name.
use Rattle.std.specs.Prelude.{ℕ, Bool, true, false, ◌&&◌, ◌||◌, ◌==◌, nat_lt, not, if◌then◌else◌, List, [], ◌∷◌, ◌++◌, map, length, codes, Option, None, Some, is_some, is_none, bytes_eq}
use Rattle.bed_lang.specs.declared.word.Name.{Name}
use Rattle.bed_lang.specs.declared.word.Sort.{Sort}
use Rattle.bed_lang.specs.declared.word.Sort.TheVariants as sort
use Rattle.bed_lang.specs.declared.word.Var.{Var}
use Rattle.bed_lang.specs.declared.word.Var.TheVariants as var
use Rattle.bed_lang.specs.declared.word.Word.{Word, fold-Word}
use Rattle.bed_lang.specs.declared.word.Word.TheOpen.{Word-F}
use Rattle.bed_lang.specs.declared.word.Seq.{Seq, fold-Seq}
use Rattle.bed_lang.specs.declared.word.Seq.TheOpen.{Seq-F}
use Rattle.bed_lang.specs.declared.logic.Arg.{Arg}
use Rattle.bed_lang.specs.declared.logic.Arg.TheVariants as arg
use Rattle.bed_lang.specs.declared.logic.Pure.{Pure}
use Rattle.bed_lang.specs.declared.logic.Pure.TheVariants as pure
use Rattle.bed_lang.specs.declared.logic.Atom.{Atom}
use Rattle.bed_lang.specs.declared.logic.Atom.TheVariants as atom
use Rattle.bed_lang.specs.declared.logic.Term.{Term}
use Rattle.bed_lang.specs.declared.logic.Term.TheVariants as term
use Rattle.bed_lang.specs.declared.logic.Bind.{Bind}
use Rattle.bed_lang.specs.declared.logic.Assertion.{Assertion}
use Rattle.bed_lang.specs.declared.module.Predicate.{Predicate}
use Rattle.bed_lang.specs.declared.module.Hint.{Hint}
use Rattle.bed_lang.specs.declared.module.Hint.TheVariants as hint
use Rattle.bed_lang.specs.declared.condition.Decls.{Decls}
use Rattle.bed_lang.specs.Same.{same_sort}
use Rattle.bed_names.specs.declared.error.NameError.{NameError}
use Rattle.bed_names.specs.declared.error.NameError.TheVariants.{Twice, Unknown, Sort as OfOtherSort, Arity}
use Rattle.bed_names.specs.Faults.{fault_if, all_faults}
use Rattle.bed_lang.specs.Lookups.{signature_named, predicate_named, label_signature}
use Rattle.bed_names.specs.Names.{is_among, sort_of}

-- what a term may name: the declarations, whose labels are those in scope; the variables with their sorts; the arguments of
-- which `old a` may be said; and whether `result` is in scope
pub record Visible : Type 0 where
  pub decls : Decls
  pub names : List Bind
  pub olds : List Name
  pub answer : Bool

-- the same, and more variables
abbrev pub with_names : Visible → List Bind → Visible
with_names v more = record v { names = v.names ++ more }

-- the hole `_`
abbrev pub is_hole : Name → Bool
is_hole x = bytes_eq x.bytes (codes "_")

-- a term of this sort stands where one of the other sort is asked for; no sort may be asked for
abbrev pub is_other_sort : Option Sort → Sort → Bool
is_other_sort None own = false
is_other_sort (Some asked) own = not (same_sort asked own)

abbrev pub sort_faults : Option Sort → Sort → ℕ → List NameError
sort_faults asked own at = fault_if (is_other_sort asked own) (OfOtherSort at)

-- a variable of this sort, or none, is found under a name
abbrev pub found_faults : Option Sort → Option Sort → ℕ → List NameError
found_faults asked None at = Unknown at ∷ []
found_faults asked (Some own) at = sort_faults asked own at

-- a term that stands for a word, and is in scope or isn't
abbrev pub word_faults_if : Option Sort → Bool → ℕ → List NameError
word_faults_if asked known at = if known then sort_faults asked sort.Word at else (Unknown at ∷ [])

-- the parameters that arguments of a number are asked to fit: those of a predicate with so many, or none
abbrev pub asked_by : Option Predicate → List Arg → List Bind
asked_by None as' = []
asked_by (Some p) as' = if length p.params == length as' then p.params else []

-- whether there is a predicate, with another number of parameters
abbrev pub has_other_number : Option Predicate → List Arg → Bool
has_other_number None as' = false
has_other_number (Some p) as' = not (length p.params == length as')

-- arguments are asked for the sorts of the parameters in their order; an argument without a parameter may be of either sort
abbrev pub first_sort : List Bind → Option Sort
first_sort [] = None
first_sort (p ∷ ps) = Some p.sort

abbrev pub behind_first : List Bind → List Bind
behind_first [] = []
behind_first (p ∷ ps) = ps

module _ (v : Visible) where
  abbrev pub name_faults : Option Sort → Name → List NameError
  name_faults asked x = found_faults asked (sort_of v.names x) x.at

  abbrev pub variable_faults : Option Sort → Var → List NameError
  variable_faults asked (var.Named x) = name_faults asked x
  variable_faults asked (var.Old x) = word_faults_if asked (is_among v.olds x) x.at
  variable_faults asked (var.Answer at) = word_faults_if asked v.answer at
  variable_faults asked (var.Fresh n) = []
  variable_faults asked var.Hole = []

  abbrev pub label_faults : Name → List NameError
  label_faults f = fault_if (is_none (label_signature v.decls f.bytes)) (Unknown f.at)

  abbrev pub signature_name_faults : Name → List NameError
  signature_name_faults x = fault_if (is_none (signature_named v.decls x.bytes)) (Unknown x.at)

  abbrev pub word_step : Word-F (List NameError) → List NameError
  word_step (Word-F.Number n) = []
  word_step (Word-F.Var x) = variable_faults (Some sort.Word) x
  word_step (Word-F.Label f) = label_faults f
  word_step (Word-F.Add a b) = a ++ b
  word_step (Word-F.Sub a b) = a ++ b
  word_step (Word-F.Times n a) = a

  abbrev pub word_faults : Word → List NameError
  word_faults = fold-Word (List NameError) word_step

  abbrev pub seq_step : Seq-F (List NameError) → List NameError
  seq_step (Seq-F.Var x) = variable_faults (Some sort.Seq) x
  seq_step Seq-F.Nil = []
  seq_step (Seq-F.Cons a s) = word_faults a ++ s
  seq_step (Seq-F.App s t) = s ++ t

  abbrev pub seq_faults : Seq → List NameError
  seq_faults = fold-Seq (List NameError) seq_step

  -- a name alone that is no hole: a hole may stand only where `holes` says so
  abbrev pub bare_faults : Bool → Option Sort → Name → List NameError
  bare_faults holes asked x = if holes && is_hole x then [] else name_faults asked x

  abbrev pub arg_faults : Bool → Option Sort → Arg → List NameError
  arg_faults holes asked (arg.Word at a) = sort_faults asked sort.Word at ++ word_faults a
  arg_faults holes asked (arg.Seq at s) = sort_faults asked sort.Seq at ++ seq_faults s
  arg_faults holes asked (arg.Bare x) = bare_faults holes asked x

  abbrev pub args_faults : Bool → List Bind → List Arg → List NameError
  args_faults holes ps [] = []
  args_faults holes ps (a ∷ more) = arg_faults holes (first_sort ps) a ++ args_faults holes (behind_first ps) more

  abbrev pub predicate_name_faults : Name → List NameError
  predicate_name_faults x = fault_if (is_none (predicate_named v.decls x.bytes)) (Unknown x.at)

  abbrev pub applied_faults : Bool → Name → List Arg → List NameError
  applied_faults holes x as' =
      predicate_name_faults x
      ++ (fault_if (has_other_number (predicate_named v.decls x.bytes) as') (Arity x.at)
      ++ args_faults holes (asked_by (predicate_named v.decls x.bytes) as') as')

  abbrev pub pure_faults : Pure → List NameError
  pure_faults (pure.Equal a b) = word_faults a ++ word_faults b
  pure_faults (pure.Unequal a b) = word_faults a ++ word_faults b
  pure_faults (pure.Less a b) = word_faults a ++ word_faults b
  pure_faults (pure.AtMost a b) = word_faults a ++ word_faults b
  pure_faults (pure.Same s t) = seq_faults s ++ seq_faults t
  pure_faults (pure.Member a s) = word_faults a ++ seq_faults s
  pure_faults (pure.NonMember a s) = word_faults a ++ seq_faults s
  pure_faults (pure.Code a x) = word_faults a ++ signature_name_faults x

  abbrev pub atom_faults : Atom → List NameError
  atom_faults (atom.Cell a b) = word_faults a ++ word_faults b
  atom_faults (atom.Byte a b) = word_faults a ++ word_faults b
  atom_faults (atom.Block a b) = word_faults a ++ word_faults b
  atom_faults (atom.Pred x as') = applied_faults false x as'

  abbrev pub term_faults : Term → List NameError
  term_faults term.Emp = []
  term_faults (term.Pure a) = pure_faults a
  term_faults (term.Atom a) = atom_faults a

  abbrev pub terms_faults : List Term → List NameError
  terms_faults ts = all_faults term_faults ts

-- names are declared, in their order, where these variables are in scope and behind these names of the same list
abbrev pub twice_after : List Bind → List Name → List Name → List NameError
twice_after names earlier [] = []
twice_after names earlier (x ∷ xs) =
    fault_if (is_some (sort_of names x) || is_among earlier x) (Twice x.at) ++ twice_after names (earlier ++ x ∷ []) xs

abbrev pub twice_faults : List Bind → List Name → List NameError
twice_faults names xs = twice_after names [] xs

abbrev pub bind_names : List Bind → List Name
bind_names bs = map (λ b. b.name) bs

-- binders are in scope in the terms of their assertion
abbrev pub assertion_faults : Visible → Assertion → List NameError
assertion_faults v a = twice_faults v.names (bind_names a.binders) ++ terms_faults (with_names v a.binders) a.terms

-- a word may be left out
abbrev pub option_faults : Visible → Option Word → List NameError
option_faults v None = []
option_faults v (Some a) = word_faults v a

-- cases count from 1
abbrev pub has_no_case : Option Predicate → ℕ → Bool
has_no_case None n = false
has_no_case (Some p) n = (n == 0) || nat_lt (length p.cases) n

-- the variable of `give` is looked up in no scope, and its term may be of either sort
abbrev pub hint_faults : Visible → Hint → List NameError
hint_faults v (hint.Unfold x at) = predicate_name_faults v x ++ option_faults v at
hint_faults v (hint.Fold x as' n) =
    fault_if (has_no_case (predicate_named v.decls x.bytes) n) (Arity x.at) ++ applied_faults v true x as'
hint_faults v (hint.Append a) = word_faults v a
hint_faults v (hint.Divide a b) = word_faults v a ++ word_faults v b
hint_faults v (hint.Merge a b) = word_faults v a ++ word_faults v b
hint_faults v (hint.Bytes a) = word_faults v a
hint_faults v (hint.Word a) = word_faults v a
hint_faults v (hint.Cell a) = word_faults v a
hint_faults v (hint.Uncell a) = word_faults v a
hint_faults v (hint.Drop a) = word_faults v a
hint_faults v (hint.Claim a) = pure_faults v a
hint_faults v (hint.When a) = pure_faults v a
hint_faults v (hint.Give x a) = arg_faults v false None a

abbrev pub hints_faults : Visible → List Hint → List NameError
hints_faults v hs = all_faults (hint_faults v) hs
