-- An assertion that holds is opened: its terms are true with values for the fresh variables of its binders, and come to a state.
use Rattle.std.proofs.Common.{◌≡◌, ℕ, ◌+◌, IsTrue, List, ◌++◌, subst, arith}
use Rattle.bed_machine.specs.Memory.{Memory}
use Rattle.bed_lang.specs.declared.word.Name.{Name}
use Rattle.bed_lang.specs.declared.logic.Arg.{Arg}
use Rattle.bed_lang.specs.declared.logic.Term.{Term}
use Rattle.bed_lang.specs.declared.logic.Assertion.{Assertion}
use Rattle.bed_lang.specs.Values.{Values}
use Rattle.bed_lang.specs.Instances.{Instance, values_with, terms_with}
use Rattle.bed_sat.specs.Parts.{Joins}
use Rattle.bed_sat.specs.Assertions.{Meaning, set_params, AreTrueTerms, IsTrueWith, World, meaning}
use Rattle.bed_sat.proofs.InstanceLaws.{terms_true_with}
use Rattle.bed_deriv.specs.declared.state.SymState.{SymState}
use Rattle.bed_deriv.specs.Fresh.{known_assertion}
use Rattle.bed_deriv.specs.Opening.{fresh_values, facts_of, atoms_of, with_terms}
use Rattle.bed_check_pure.specs.States.{AreTrueAtoms, StateHolds}
use Rattle.bed_check_heap.specs.Sound.{AgreeBelow}
use Rattle.bed_check_heap.proofs.TakeLaws.{atoms_append, atoms_more}
use Rattle.bed_check_heap.proofs.FreshLaws.{agree_self}
use Rattle.bed_check_heap.proofs.WrapLaws.{agree_modulo_self, terms_modulo}
use Rattle.bed_check_heap.proofs.OpenLaws.{set_args}
use Rattle.bed_check_heap.proofs.BinderLaws.{binders_valued, fresh_set, fresh_agrees, binders_fresh}
use Rattle.bed_check_heap.proofs.UnfoldLaws.{facts_join, terms_part}
use Rattle.bed_check_heap.proofs.SegmentLaws.{deeper}
use Rattle.bed_check_cond.proofs.ValueLaws.{SameButFresh, terms_same}

module _ (w : World) (ν : Values) (P : Meaning) (next : ℕ) (h : Memory) where
  -- the terms are true under the instance, with values for the fresh variables of the binders
  pub record Opens (σ : List (Name × Arg) → Instance) (vs : List (Name × Arg)) (A : Assertion) : Type 0 where
    pub values : Values
    pub agree : AgreeBelow next ν values
    pub terms : AreTrueTerms w.codes w.labels P values (terms_with (σ (vs ++ fresh_values A.binders next)) A.terms) h

  -- an assertion that is true under ι is, where the instance stands for ι with the binders set
  pub assertion_opens : (σ : List (Name × Arg) → Instance) (vs : List (Name × Arg)) (A : Assertion) (ι : Values) → IsTrue (known_assertion 0 A)
      → ((μ : Values) (us : List (Name × Arg)) → AgreeBelow next ν μ → SameButFresh (set_args w.labels μ ι us) (values_with (σ (vs ++ us)) w.labels μ))
      → IsTrueWith w.codes w.labels P ι A h → Opens σ vs A
  assertion_opens σ vs A ι unfresh stands is =
      let (us, sorts, true_terms) = binders_valued A.binders ι (λ κ. AreTrueTerms w.codes w.labels P κ A.terms h) is in
      let μ = fresh_set ν next us in
      let g = fresh_agrees next next us ν ν (omega arith) (agree_self next ν) in
      let fs = fresh_values A.binders next in
      let modulo = binders_fresh w.labels A.binders us ν next ι ι sorts (agree_modulo_self ι) in
      let given = terms_modulo w.codes w.labels (set_params ι A.binders us) (set_args w.labels μ ι fs) modulo P A.terms h true_terms in
      let under = terms_same w P (set_args w.labels μ ι fs) (values_with (σ (vs ++ fs)) w.labels μ) A.terms h (stands μ fs g) unfresh given in
      record { values = μ; agree = g; terms = (terms_true_with w.codes w.labels (σ (vs ++ fs)) μ P A.terms h).1 under }

-- ---- the terms come to a state

module _ (w : World) where
  pub state_opened : (ν : Values) (s : SymState) (ts : List Term) (depth : ℕ) (h front back : Memory) → Joins h front back → StateHolds w ν front s
      → AreTrueTerms w.codes w.labels (meaning w depth) ν ts back → StateHolds w ν h (with_terms s ts)
  state_opened ν s ts depth h front back j holds are =
      let parts = terms_part w ν (meaning w depth) ts back are in
      let d = holds.depth in
      let e : d + depth ≡ depth + d = omega arith in
      let first = atoms_more w ν (meaning w d) (meaning w (depth + d)) (deeper w depth d) s.atoms front holds.atoms in
      let second = subst (λ m. AreTrueAtoms w ν (meaning w m) (atoms_of ts) back) e (atoms_more w ν (meaning w depth) (meaning w (d + depth)) (deeper w d depth) (atoms_of ts) back parts.1) in
      record {
        facts = facts_join w ν s.facts (facts_of ts) holds.facts parts.0;
        depth = depth + d;
        atoms = atoms_append w ν (meaning w (depth + d)) s.atoms (atoms_of ts) h front back j first second;
      }
