-- Assertions opened in a state: locals, parameters and other variables give way to their terms, all at once, and each binder in
-- order to a fresh variable; facts and atoms come to the ends of the state's lists, in order. And the state that a condition
-- opens.
use Rattle.std.specs.Prelude.{ℕ, zero, suc, ◌+◌, ◌-◌, Bool, true, false, ◌&&◌, if◌then◌else◌, List, [], ◌∷◌, ◌++◌, length, map, Option, Some, None, find, bytes_eq}
use Rattle.bed_lang.specs.declared.word.Name.{Name}
use Rattle.bed_lang.specs.declared.word.Sort.{Sort}
use Rattle.bed_lang.specs.declared.word.Sort.TheVariants as sort
use Rattle.bed_lang.specs.declared.word.Var.{Var}
use Rattle.bed_lang.specs.declared.word.Var.TheVariants as var
use Rattle.bed_lang.specs.declared.word.Word.{Word, Number, Var as WordVar}
use Rattle.bed_lang.specs.declared.word.Seq.{Seq, Nil, Var as SeqVar}
use Rattle.bed_lang.specs.declared.logic.Arg.{Arg}
use Rattle.bed_lang.specs.declared.logic.Arg.TheVariants as arg
use Rattle.bed_lang.specs.declared.logic.Pure.{Pure}
use Rattle.bed_lang.specs.declared.logic.Atom.{Atom}
use Rattle.bed_lang.specs.declared.logic.Term.{Term}
use Rattle.bed_lang.specs.declared.logic.Term.TheVariants as term
use Rattle.bed_lang.specs.declared.logic.Bind.{Bind}
use Rattle.bed_lang.specs.declared.logic.Assertion.{Assertion}
use Rattle.bed_lang.specs.declared.module.Signature.{Signature}
use Rattle.bed_lang.specs.declared.module.Predicate.{Predicate}
use Rattle.bed_lang.specs.declared.condition.Decls.{Decls}
use Rattle.bed_lang.specs.declared.condition.Cond.{Cond}
use Rattle.bed_lang.specs.Values.{Variable, Named, Old, Answer, Fresh, Hole, variable, same_variable}
use Rattle.bed_lang.specs.Keys.{bare_name}
use Rattle.bed_lang.specs.Instances.{Instance, word_with, seq_with, terms_with}
use Rattle.bed_lang.specs.Lookups.{function_signature, count_of_params}
use Rattle.bed_forms.specs.Rewritten.{fact_by, atom_by, term_by}
use Rattle.bed_forms.specs.Rebuilt.{rebuilt_word, rebuilt_seq}
use Rattle.bed_deriv.specs.declared.state.SymState.{SymState}

-- ---- terms for variables

-- whether a value is one of this sort; an argument whose sort was never resolved counts as the word 0
abbrev pub has_sort : Sort → Arg → Bool
has_sort sort.Word (arg.Word at w) = true
has_sort sort.Word (arg.Seq at s) = false
has_sort sort.Word (arg.Bare name) = true
has_sort sort.Seq (arg.Seq at s) = true
has_sort sort.Seq _ = false

abbrev pub word_in : Arg → Word
word_in (arg.Word at w) = w
word_in _ = Number 0

abbrev pub seq_in : Arg → Seq
seq_in (arg.Seq at s) = s
seq_in _ = Nil

abbrev pub first_some : {A : Type 0} → Option A → Option A → Option A
first_some (Some x) other = Some x
first_some None other = other

-- the value of this sort that a list has for a name: of several the last
abbrev pub if_of : Sort → List ℕ → Name × Arg → Option Arg
if_of sort x v = if bytes_eq v.0.bytes x && has_sort sort v.1 then Some v.1 else None

abbrev pub value_for : Sort → List (Name × Arg) → List ℕ → Option Arg
value_for sort [] x = None
value_for sort (v ∷ vs) x = first_some (value_for sort vs x) (if_of sort x v)

-- the occurrence of a variable that stands nowhere in a text
abbrev pub occurrence : Variable → Var
occurrence (Named x) = var.Named (record { bytes = x; at = 0 })
occurrence (Old x) = var.Old (record { bytes = x; at = 0 })
occurrence Answer = var.Answer 0
occurrence (Fresh n) = var.Fresh n
occurrence Hole = var.Hole

abbrev pub word_or : Option Arg → Word → Word
word_or None w = w
word_or (Some a) w = word_in a

abbrev pub seq_or : Option Arg → Seq → Seq
seq_or None s = s
seq_or (Some a) s = seq_in a

-- names give way to their values; every other variable stays
abbrev pub word_instead : List (Name × Arg) → Variable → Word
word_instead vs (Named x) = word_or (value_for sort.Word vs x) (WordVar (occurrence (Named x)))
word_instead vs y = WordVar (occurrence y)

abbrev pub seq_instead : List (Name × Arg) → Variable → Seq
seq_instead vs (Named x) = seq_or (value_for sort.Seq vs x) (SeqVar (occurrence (Named x)))
seq_instead vs y = SeqVar (occurrence y)

abbrev pub replacing : List (Name × Arg) → Instance
replacing vs = record { words = word_instead vs; seqs = seq_instead vs }

-- names give way to their values; every other variable is 0 or the empty sequence
abbrev pub word_or_0 : List (Name × Arg) → Variable → Word
word_or_0 vs (Named x) = word_or (value_for sort.Word vs x) (Number 0)
word_or_0 vs y = Number 0

abbrev pub seq_or_nil : List (Name × Arg) → Variable → Seq
seq_or_nil vs (Named x) = seq_or (value_for sort.Seq vs x) Nil
seq_or_nil vs y = Nil

abbrev pub alone : List (Name × Arg) → Instance
alone vs = record { words = word_or_0 vs; seqs = seq_or_nil vs }

-- the same, but `result` gives way to this word
abbrev pub with_answer : Word → Instance → Instance
with_answer w σ = record σ { words = λ y. if same_variable y Answer then w else σ.words y }

-- one variable gives way to a word, or to a sequence; every other variable stays
abbrev pub word_set : Var → Word → Instance
word_set v by = record {
  words = λ y. if same_variable y (variable v) then by else WordVar (occurrence y);
  seqs = λ y. SeqVar (occurrence y);
}

abbrev pub seq_set : Var → Seq → Instance
seq_set v by = record {
  words = λ y. WordVar (occurrence y);
  seqs = λ y. if same_variable y (variable v) then by else SeqVar (occurrence y);
}

-- trees under an instance, with each word and sequence then written anew from its form: however often it is done, they stay as small
-- as their forms
module _ (σ : Instance) where
  abbrev pub replaced_word : Word → Word
  replaced_word a = rebuilt_word (word_with σ a)

  abbrev pub replaced_seq : Seq → Seq
  replaced_seq s = rebuilt_seq (seq_with σ s)

  abbrev pub replaced_fact : Pure → Pure
  replaced_fact = fact_by replaced_word replaced_seq

  abbrev pub replaced_atom : Atom → Atom
  replaced_atom = atom_by replaced_word replaced_seq

  abbrev pub replaced_term : Term → Term
  replaced_term = term_by replaced_word replaced_seq

-- locals as values
abbrev pub local_value : Name × Word → Name × Arg
local_value p = (p.0, arg.Word 0 p.1)

abbrev pub local_values : List (Name × Word) → List (Name × Arg)
local_values ls = map local_value ls

-- binders with the fresh variables from a number on, in order
abbrev pub fresh_value : Sort → ℕ → Arg
fresh_value sort.Word n = arg.Word 0 (WordVar (var.Fresh n))
fresh_value sort.Seq n = arg.Seq 0 (SeqVar (var.Fresh n))

abbrev pub fresh_values : List Bind → ℕ → List (Name × Arg)
fresh_values [] n = []
fresh_values (b ∷ bs) n = (b.name, fresh_value b.sort n) ∷ fresh_values bs (n + 1)

-- ---- opening

abbrev pub facts_of : List Term → List Pure
facts_of [] = []
facts_of (term.Pure p ∷ ts) = p ∷ facts_of ts
facts_of (_ ∷ ts) = facts_of ts

abbrev pub atoms_of : List Term → List Atom
atoms_of [] = []
atoms_of (term.Atom a ∷ ts) = a ∷ atoms_of ts
atoms_of (_ ∷ ts) = atoms_of ts

-- terms at the ends of a state's lists
abbrev pub with_terms : SymState → List Term → SymState
with_terms s ts = record s { facts = s.facts ++ facts_of ts; atoms = s.atoms ++ atoms_of ts }

-- an assertion opened, under an instance made of these values and then its binders with fresh variables
abbrev pub opened : (List (Name × Arg) → Instance) → List (Name × Arg) → Assertion → SymState → SymState
opened σ vs A s =
    with_terms (record s { next = s.next + length A.binders }) (terms_with (σ (vs ++ fresh_values A.binders s.next)) A.terms)

-- the same, with terms written anew from their forms
abbrev pub opened_anew : (List (Name × Arg) → Instance) → List (Name × Arg) → Assertion → SymState → SymState
opened_anew σ vs A s =
    with_terms (record s { next = s.next + length A.binders })
    (map (replaced_term (σ (vs ++ fresh_values A.binders s.next))) A.terms)

-- ---- the state that a condition opens

-- the first k locals have their values at entry, each other one a fresh variable, from number n on
abbrev pub first_locals : List Name → ℕ → ℕ → List (Name × Word)
first_locals [] k n = []
first_locals (x ∷ xs) (suc k) n = (x, WordVar (var.Old (bare_name x))) ∷ first_locals xs k n
first_locals (x ∷ xs) zero n = (x, WordVar (var.Fresh n)) ∷ first_locals xs zero (n + 1)

-- how many locals have their values at entry: the arguments at the entry, none at an inner point
abbrev pub arguments_of : Cond → Decls → ℕ
arguments_of c d = if c.entry then count_of_params (function_signature d c.function) else 0

-- a state with these locals alone
abbrev pub with_locals : List (Name × Word) → ℕ → SymState
with_locals ls n = record { locals = ls; facts = []; atoms = []; next = n }

abbrev pub opened_alone : List (Name × Word) → ℕ → Assertion → SymState
opened_alone ls n A = opened replacing (local_values ls) A (with_locals ls n)

-- At the entry argument i is `old` of it and each extra local a fresh variable; at an inner point each local is a fresh variable,
-- in slot order. Then the start assertion is opened.
abbrev pub started : Cond → Decls → SymState
started c d = opened_alone (first_locals c.locals (arguments_of c d) 0) (length c.locals - arguments_of c d) c.start
