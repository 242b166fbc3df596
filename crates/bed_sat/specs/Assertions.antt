-- When an assertion holds on a part of memory. This is the classical reading of separation logic: the terms of an assertion
-- take exactly the part, each a part of its own, and nothing is dropped.
use Rattle.std.specs.Prelude.{◌≡◌, ℕ, zero, suc, Option, Some, List, [], ◌∷◌, slice_get}
use Rattle.bed_machine.specs.Memory.{Memory, empty}
use Rattle.bed_lang.specs.declared.word.Sort.{Sort}
use Rattle.bed_lang.specs.declared.word.Sort.TheVariants as sort
use Rattle.bed_lang.specs.declared.logic.Arg.{Arg}
use Rattle.bed_lang.specs.declared.logic.Arg.TheVariants as arg
use Rattle.bed_lang.specs.declared.logic.Atom.{Atom}
use Rattle.bed_lang.specs.declared.logic.Atom.TheVariants as atom
use Rattle.bed_lang.specs.declared.logic.Term.{Term}
use Rattle.bed_lang.specs.declared.logic.Term.TheVariants as term
use Rattle.bed_lang.specs.declared.logic.Bind.{Bind}
use Rattle.bed_lang.specs.declared.logic.Assertion.{Assertion}
use Rattle.bed_lang.specs.declared.module.Predicate.{Predicate}
use Rattle.bed_lang.specs.declared.condition.Decls.{Decls}
use Rattle.bed_lang.specs.Lookups.{predicate_named}
use Rattle.bed_lang.specs.Values.{Values, Named, set_word, set_list, value, list_value}
use Rattle.bed_sat.specs.Parts.{Joins}
use Rattle.bed_sat.specs.Cells.{IsCell, IsByte, IsBlock}
use Rattle.bed_sat.specs.Facts.{IsTrueFact}

-- what an argument of a predicate stands for
pub data ArgValue : Type 0 where
  WordValue : ℕ → ArgValue
  ListValue : List ℕ → ArgValue

-- of which memories each predicate is true, by its name and the values of its arguments
abbrev pub Meaning : Type 1
Meaning = List ℕ → List ArgValue → Memory → Type 0

-- 0 for each word, and the empty list for each sequence
abbrev pub blank : Values
blank = record { words = λ x. 0; lists = λ x. [] }

-- parameters set to arguments, in order, as far as there are both
abbrev pub set_params : Values → List Bind → List ArgValue → Values
set_params ν [] vs = ν
set_params ν (b ∷ bs) [] = ν
set_params ν (b ∷ bs) (WordValue v ∷ vs) = set_params (set_word ν (Named b.name.bytes) v) bs vs
set_params ν (b ∷ bs) (ListValue v ∷ vs) = set_params (set_list ν (Named b.name.bytes) v) bs vs

-- P is true where a variable of this sort and name has some value
abbrev pub ForSomeValue : Sort → List ℕ → Values → (Values → Type 0) → Type 0
ForSomeValue sort.Word name ν P = (v : ℕ) × P (set_word ν (Named name) v)
ForSomeValue sort.Seq name ν P = (vs : List ℕ) × P (set_list ν (Named name) vs)

-- P is true where the binders have some values
abbrev pub ForSomeValues : List Bind → Values → (Values → Type 0) → Type 0
ForSomeValues [] ν P = P ν
ForSomeValues (b ∷ bs) ν P = ForSomeValue b.sort b.name.bytes ν (λ μ. ForSomeValues bs μ P)

module _ (codes : ℕ → Option (List ℕ)) (labels : List ℕ → ℕ) where
  -- an argument whose sort was never resolved counts as the word 0
  abbrev pub arg_value : Values → Arg → ArgValue
  arg_value ν (arg.Word at a) = WordValue (value labels ν a)
  arg_value ν (arg.Seq at s) = ListValue (list_value labels ν s)
  arg_value ν (arg.Bare name) = WordValue 0

  abbrev pub arg_values : Values → List Arg → List ArgValue
  arg_values ν [] = []
  arg_values ν (a ∷ more) = arg_value ν a ∷ arg_values ν more

  module _ (P : Meaning) (ν : Values) where
    -- an atom is true of exactly this memory, where P says what the predicates mean
    abbrev pub IsTrueAtom : Atom → Memory → Type 0
    IsTrueAtom (atom.Cell a v) h = IsCell (value labels ν a) (value labels ν v) h
    IsTrueAtom (atom.Byte a v) h = IsByte (value labels ν a) (value labels ν v) h
    IsTrueAtom (atom.Block a n) h = IsBlock (value labels ν a) (value labels ν n) h
    IsTrueAtom (atom.Pred name args) h = P name.bytes (arg_values ν args) h

    -- `emp` and pure facts take the empty memory
    abbrev pub IsTrueTerm : Term → Memory → Type 0
    IsTrueTerm term.Emp h = h ≡ empty
    IsTrueTerm (term.Pure fact) h = (h ≡ empty) × IsTrueFact codes labels ν fact
    IsTrueTerm (term.Atom a) h = IsTrueAtom a h

    -- the separating conjunction: the memory splits into disjoint parts, one for each term, on which it is true
    abbrev pub AreTrueTerms : List Term → Memory → Type 0
    AreTrueTerms [] h = h ≡ empty
    AreTrueTerms (t ∷ ts) h = (here others : Memory) × Joins h here others × IsTrueTerm t here × AreTrueTerms ts others

  -- some values of the binders make all terms true
  abbrev pub IsTrueWith : Meaning → Values → Assertion → Memory → Type 0
  IsTrueWith P ν A h = ForSomeValues A.binders ν (λ μ. AreTrueTerms P μ A.terms h)

-- what an assertion is read against: the declarations, the code map (the name of the signature of the code at each address),
-- and the address of each label
pub record World : Type 0 where
  pub decls : Decls
  pub codes : ℕ → Option (List ℕ)
  pub labels : List ℕ → ℕ

module _ (w : World) where
  -- The meaning of the predicates, to a depth of unfolding: at depth 0 none is true; at the next depth a predicate is true
  -- where one of its cases is true at this depth, with its parameters set to the arguments. One that isn't declared is never
  -- true.
  abbrev pub meaning : ℕ → Meaning
  meaning zero name vs h = ⊥
  meaning (suc depth) name vs h =
      (d : Predicate) × (predicate_named w.decls name ≡ Some d)
      × (number : ℕ) × (A : Assertion) × (slice_get d.cases number ≡ Some A)
      × IsTrueWith w.codes w.labels (meaning depth) (set_params blank d.params vs) A h

  -- an assertion is true of exactly this memory, at a depth
  abbrev pub Sat : ℕ → Values → Memory → Assertion → Type 0
  Sat depth ν h A = IsTrueWith w.codes w.labels (meaning depth) ν A h

  -- an assertion holds on exactly this memory
  abbrev pub Holds : Values → Memory → Assertion → Type 0
  Holds ν h A = (depth : ℕ) × Sat depth ν h A
