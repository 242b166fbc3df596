-- Where terms have the values of the variables that they stand for, a state with these terms in the place of the variables, written
-- anew from its forms, holds where the state does.
use Rattle.std.proofs.Common.{◌≡◌, ℕ, ◌+◌, ◌-◌, ◌*◌, List, [], ◌∷◌, ◌++◌, map, sym, ◌∙◌, ap, ap₂, subst}
use mathlib.Core.Path.{transport}
use Rattle.bed_machine.specs.Memory.{Memory}
use Rattle.bed_lang.specs.declared.word.Word.{Word, roll-Word, map-Word, ind-Word}
use Rattle.bed_lang.specs.declared.word.Word.TheOpen.{Word-F}
use Rattle.bed_lang.specs.declared.word.Seq.{Seq, roll-Seq, map-Seq, ind-Seq}
use Rattle.bed_lang.specs.declared.word.Seq.TheOpen.{Seq-F}
use Rattle.bed_lang.specs.declared.logic.Pure.{Pure}
use Rattle.bed_lang.specs.declared.logic.Atom.{Atom}
use Rattle.bed_lang.specs.Numbers.{wrap}
use Rattle.bed_lang.specs.Values.{Values, Variable, variable, value, list_value}
use Rattle.bed_lang.specs.Instances.{Instance, word_with, word_with_step, seq_with, seq_with_step}
use Rattle.bed_lang.specs.Forms.{word_form, seq_form}
use Rattle.bed_lang.proofs.ValueLaws.{value-Number, value-Label, value-Add, value-Sub, value-Times, list_value-Nil, list_value-Cons, list_value-App}
use Rattle.bed_lang.proofs.RollLaws.{value_roll, list_roll, word_with-roll, seq_with-roll}
use Rattle.bed_forms.proofs.FormValues.{form-value}
use Rattle.bed_forms.proofs.FormLaws.{pieces-value}
use Rattle.bed_sat.specs.Facts.{IsTrueFact}
use Rattle.bed_sat.specs.Assertions.{World, Meaning, IsTrueAtom, meaning}
use Rattle.bed_deriv.specs.declared.state.SymState.{SymState}
use Rattle.bed_deriv.specs.Opening.{replaced_word, replaced_seq, replaced_fact, replaced_atom}
use Rattle.bed_deriv.specs.PureRules.{replaced_state}
use Rattle.bed_check_pure.specs.States.{AreTrueFacts, AreTrueAtoms, StateHolds}
use Rattle.bed_check_pure.proofs.RebuiltLaws.{form_word-value, pieces_seq-value}
use Rattle.bed_check_pure.proofs.RewrittenLaws.{fact_rewritten, atom_rewritten}

-- each term has the value of the variable that it stands for
pub record Keeps (labels : List ℕ → ℕ) (ν : Values) (σ : Instance) : Type 0 where
  pub words : (x : Variable) → value labels ν (σ.words x) ≡ wrap (ν.words x)
  pub lists : (x : Variable) → list_value labels ν (σ.seqs x) ≡ map wrap (ν.lists x)

module _ (w : World) (ν : Values) (σ : Instance) (keeps : Keeps w.labels ν σ) where
  abbrev V : Word → ℕ
  V = value w.labels ν

  abbrev L : Seq → List ℕ
  L = list_value w.labels ν

  with_of : (x : Word-F Word) → V (word_with σ (roll-Word x)) ≡ V (word_with_step σ (map-Word Word Word (word_with σ) x))
  with_of x = ap V (word_with-roll σ x)

  abbrev IsKept : Word → Type 0
  IsKept a = V (word_with σ a) ≡ V a

  word_layer : (y : Word-F ((a : Word) × IsKept a)) → IsKept (roll-Word (map-Word _ _ (λ p. p.0) y))
  word_layer (Word-F.Number n) = with_of (Word-F.Number n) ∙ value-Number w.labels ν n ∙ sym (value_roll w.labels ν (Word-F.Number n))
  word_layer (Word-F.Label f) = with_of (Word-F.Label f) ∙ value-Label w.labels ν f ∙ sym (value_roll w.labels ν (Word-F.Label f))
  word_layer (Word-F.Var x) = with_of (Word-F.Var x) ∙ keeps.words (variable x) ∙ sym (value_roll w.labels ν (Word-F.Var x))
  word_layer (Word-F.Add a b) =
      with_of (Word-F.Add a.0 b.0) ∙ value-Add w.labels ν (word_with σ a.0) (word_with σ b.0)
      ∙ ap₂ (λ m n. wrap (m + n)) a.1 b.1 ∙ sym (value_roll w.labels ν (Word-F.Add a.0 b.0))
  word_layer (Word-F.Sub a b) =
      with_of (Word-F.Sub a.0 b.0) ∙ value-Sub w.labels ν (word_with σ a.0) (word_with σ b.0)
      ∙ ap₂ (λ m n. wrap (m + (4294967296 - n))) a.1 b.1 ∙ sym (value_roll w.labels ν (Word-F.Sub a.0 b.0))
  word_layer (Word-F.Times n a) =
      with_of (Word-F.Times n a.0) ∙ value-Times w.labels ν n (word_with σ a.0) ∙ ap (λ m. wrap (n * m)) a.1 ∙ sym (value_roll w.labels ν (Word-F.Times n a.0))

  word_kept : (a : Word) → IsKept a
  word_kept = ind-Word IsKept (λ x y is. subst (λ (z : Word-F Word). IsKept (roll-Word z)) is (word_layer y))

  seq_with_of : (x : Seq-F Seq) → L (seq_with σ (roll-Seq x)) ≡ L (seq_with_step σ (map-Seq Seq Seq (seq_with σ) x))
  seq_with_of x = ap L (seq_with-roll σ x)

  abbrev IsKeptList : Seq → Type 0
  IsKeptList s = L (seq_with σ s) ≡ L s

  seq_layer : (y : Seq-F ((s : Seq) × IsKeptList s)) → IsKeptList (roll-Seq (map-Seq _ _ (λ p. p.0) y))
  seq_layer (Seq-F.Var x) = seq_with_of (Seq-F.Var x) ∙ keeps.lists (variable x) ∙ sym (list_roll w.labels ν (Seq-F.Var x))
  seq_layer Seq-F.Nil = seq_with_of Seq-F.Nil ∙ list_value-Nil w.labels ν ∙ sym (list_roll w.labels ν Seq-F.Nil)
  seq_layer (Seq-F.Cons a s) =
      seq_with_of (Seq-F.Cons a s.0) ∙ list_value-Cons w.labels ν (word_with σ a) (seq_with σ s.0)
      ∙ ap₂ (λ v vs. v ∷ vs) (word_kept a) s.1 ∙ sym (list_roll w.labels ν (Seq-F.Cons a s.0))
  seq_layer (Seq-F.App s t) =
      seq_with_of (Seq-F.App s.0 t.0) ∙ list_value-App w.labels ν (seq_with σ s.0) (seq_with σ t.0)
      ∙ ap₂ (λ u v. u ++ v) s.1 t.1 ∙ sym (list_roll w.labels ν (Seq-F.App s.0 t.0))

  seq_kept : (s : Seq) → IsKeptList s
  seq_kept = ind-Seq IsKeptList (λ x y is. subst (λ (z : Seq-F Seq). IsKeptList (roll-Seq z)) is (seq_layer y))

  new_word : (a : Word) → V (replaced_word σ a) ≡ V a
  new_word a = form_word-value w.labels ν (word_form (word_with σ a)) ∙ form-value w.labels ν (word_with σ a) ∙ word_kept a

  new_seq : (s : Seq) → L (replaced_seq σ s) ≡ L s
  new_seq s = pieces_seq-value w.labels ν (seq_form (seq_with σ s)) ∙ pieces-value w.labels ν (seq_with σ s) ∙ seq_kept s

  -- a fact, and what it is with terms for variables, are true together
  pub same_truth : (p : Pure) → IsTrueFact w.codes w.labels ν (replaced_fact σ p) ≡ IsTrueFact w.codes w.labels ν p
  same_truth = fact_rewritten w.codes w.labels ν ν (replaced_word σ) (replaced_seq σ) new_word new_seq

  same_atom_truth : (P : Meaning) (x : Atom) (h : Memory) → IsTrueAtom w.codes w.labels P ν (replaced_atom σ x) h ≡ IsTrueAtom w.codes w.labels P ν x h
  same_atom_truth = atom_rewritten w.codes w.labels ν ν (replaced_word σ) (replaced_seq σ) new_word new_seq

  new_facts : (ps : List Pure) → AreTrueFacts w ν ps → AreTrueFacts w ν (map (replaced_fact σ) ps)
  new_facts [] t = tt
  new_facts (p ∷ ps) t = (transport (sym (same_truth p)) t.0, new_facts ps t.1)

  new_atoms : (P : Meaning) (xs : List Atom) (h : Memory) → AreTrueAtoms w ν P xs h → AreTrueAtoms w ν P (map (replaced_atom σ) xs) h
  new_atoms P [] h t = t
  new_atoms P (x ∷ xs) h (here, others, j, t, more) = (here, others, j, transport (sym (same_atom_truth P x here)) t, new_atoms P xs others more)

  -- the state with the terms holds
  pub replaced_holds : (h : Memory) (s : SymState) → StateHolds w ν h s → StateHolds w ν h (replaced_state σ s)
  replaced_holds h s holds = record {
    facts = new_facts s.facts holds.facts;
    depth = holds.depth;
    atoms = new_atoms (meaning w holds.depth) s.atoms h holds.atoms;
  }

  pub from_replaced : (p : Pure) → IsTrueFact w.codes w.labels ν (replaced_fact σ p) → IsTrueFact w.codes w.labels ν p
  from_replaced p t = transport (same_truth p) t
