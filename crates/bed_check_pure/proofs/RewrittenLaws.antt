-- Trees written anew are true where the old ones are: under values ν of the new words and sequences that are those of the old ones under μ.
use Rattle.std.proofs.Common.{◌≡◌, ◌≢◌, ℕ, ◌<◌, ◌≤◌, Option, Some, List, [], ◌∷◌, map, Contains, refl, sym, ◌∙◌, ap, ap₂}
use mathlib.Core.Path.{transport}
use Rattle.bed_machine.specs.Memory.{Memory}
use Rattle.bed_lang.specs.declared.word.Word.{Word}
use Rattle.bed_lang.specs.declared.word.Seq.{Seq}
use Rattle.bed_lang.specs.declared.logic.Arg.{Arg}
use Rattle.bed_lang.specs.declared.logic.Arg.TheVariants as arg
use Rattle.bed_lang.specs.declared.logic.Pure.{Pure}
use Rattle.bed_lang.specs.declared.logic.Pure.TheVariants as pure
use Rattle.bed_lang.specs.declared.logic.Atom.{Atom}
use Rattle.bed_lang.specs.declared.logic.Atom.TheVariants as atom
use Rattle.bed_lang.specs.declared.logic.Term.{Term}
use Rattle.bed_lang.specs.declared.logic.Term.TheVariants as term
use Rattle.bed_lang.specs.Values.{Values, value, list_value}
use Rattle.bed_lang.specs.Instances.{Instance, values_with, word_with, seq_with}
use Rattle.bed_lang.specs.Forms.{word_form, seq_form}
use Rattle.bed_forms.specs.Rewritten.{arg_by, fact_by, atom_by, term_by}
use Rattle.bed_forms.proofs.FormValues.{form-value}
use Rattle.bed_forms.proofs.FormLaws.{pieces-value}
use Rattle.bed_sat.specs.Cells.{IsCell, IsByte, IsBlock}
use Rattle.bed_sat.specs.Facts.{IsTrueFact}
use Rattle.bed_sat.specs.Assertions.{WordValue, ListValue, Meaning, arg_value, arg_values, IsTrueAtom, IsTrueTerm, AreTrueTerms}
use Rattle.bed_sat.proofs.InstanceLaws.{value-with, list_value-with}
use Rattle.bed_deriv.specs.Opening.{replaced_word, replaced_seq, replaced_term}
use Rattle.bed_check_pure.proofs.RebuiltLaws.{form_word-value, pieces_seq-value}

module _ (codes : ℕ → Option (List ℕ)) (labels : List ℕ → ℕ) (ν μ : Values) (f : Word → Word) (g : Seq → Seq)
    (words : (a : Word) → value labels ν (f a) ≡ value labels μ a) (seqs : (s : Seq) → list_value labels ν (g s) ≡ list_value labels μ s) where
  pub fact_rewritten : (p : Pure) → IsTrueFact codes labels ν (fact_by f g p) ≡ IsTrueFact codes labels μ p
  fact_rewritten (pure.Equal a b) = ap₂ (λ m n. m ≡ n) (words a) (words b)
  fact_rewritten (pure.Unequal a b) = ap₂ (λ m n. m ≢ n) (words a) (words b)
  fact_rewritten (pure.Less a b) = ap₂ (λ m n. m < n) (words a) (words b)
  fact_rewritten (pure.AtMost a b) = ap₂ (λ m n. m ≤ n) (words a) (words b)
  fact_rewritten (pure.Same s t) = ap₂ (λ m n. m ≡ n) (seqs s) (seqs t)
  fact_rewritten (pure.Member a s) = ap₂ (λ m n. Contains n m) (words a) (seqs s)
  fact_rewritten (pure.NonMember a s) = ap₂ (λ m n. Contains n m → ⊥) (words a) (seqs s)
  fact_rewritten (pure.Code a name) = ap (λ m. codes m ≡ Some name.bytes) (words a)

  arg_rewritten : (a : Arg) → arg_value codes labels ν (arg_by f g a) ≡ arg_value codes labels μ a
  arg_rewritten (arg.Word at a) = ap WordValue (words a)
  arg_rewritten (arg.Seq at s) = ap ListValue (seqs s)
  arg_rewritten (arg.Bare name) = refl

  args_rewritten : (more : List Arg) → arg_values codes labels ν (map (arg_by f g) more) ≡ arg_values codes labels μ more
  args_rewritten [] = refl
  args_rewritten (a ∷ more) = ap₂ (λ v vs. v ∷ vs) (arg_rewritten a) (args_rewritten more)

  pub atom_rewritten : (P : Meaning) (x : Atom) (h : Memory) → IsTrueAtom codes labels P ν (atom_by f g x) h ≡ IsTrueAtom codes labels P μ x h
  atom_rewritten P (atom.Cell a v) h = ap₂ (λ m n. IsCell m n h) (words a) (words v)
  atom_rewritten P (atom.Byte a v) h = ap₂ (λ m n. IsByte m n h) (words a) (words v)
  atom_rewritten P (atom.Block a n) h = ap₂ (λ m k. IsBlock m k h) (words a) (words n)
  atom_rewritten P (atom.Pred name args) h = ap (λ vs. P name.bytes vs h) (args_rewritten args)

  term_rewritten : (P : Meaning) (t : Term) (h : Memory) → IsTrueTerm codes labels P μ t h → IsTrueTerm codes labels P ν (term_by f g t) h
  term_rewritten P term.Emp h is = is
  term_rewritten P (term.Pure p) h is = (is.0, transport (sym (fact_rewritten p)) is.1)
  term_rewritten P (term.Atom x) h is = transport (sym (atom_rewritten P x h)) is

  pub terms_rewritten : (P : Meaning) (ts : List Term) (h : Memory) → AreTrueTerms codes labels P μ ts h → AreTrueTerms codes labels P ν (map (term_by f g) ts) h
  terms_rewritten P [] h are = are
  terms_rewritten P (t ∷ ts) h are = (are.0, are.1, are.2, term_rewritten P t are.0 are.3, terms_rewritten P ts are.1 are.4)

-- terms that are true of the values that an instance gives are true under it, when written anew from their forms too
pub terms_replaced : (codes : ℕ → Option (List ℕ)) (labels : List ℕ → ℕ) (σ : Instance) (ν : Values) (P : Meaning) (ts : List Term) (h : Memory)
    → AreTrueTerms codes labels P (values_with σ labels ν) ts h → AreTrueTerms codes labels P ν (map (replaced_term σ) ts) h
terms_replaced codes labels σ ν =
    terms_rewritten codes labels ν (values_with σ labels ν) (replaced_word σ) (replaced_seq σ)
    (λ a. form_word-value labels ν (word_form (word_with σ a)) ∙ form-value labels ν (word_with σ a) ∙ value-with codes labels σ ν a)
    (λ s. pieces_seq-value labels ν (seq_form (seq_with σ s)) ∙ pieces-value labels ν (seq_with σ s) ∙ list_value-with codes labels σ ν s)
