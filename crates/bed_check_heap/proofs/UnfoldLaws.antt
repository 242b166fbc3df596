-- A predicate's atom is unfolded: one of its cases holds in its place, with values for the fresh variables of its binders.
use Rattle.std.proofs.Common.{◌≡◌, ℕ, zero, suc, ◌-◌, IsTrue, List, [], ◌∷◌, ◌++◌, map, length, Option, Some, None, inl, inr, refl, sym, ◌∙◌, ap, subst, arith}
use Rattle.std.specs.Prelude.{slice_get}
use Rattle.std.proofs.lemmas.Bool.{eqb-true}
use Rattle.bed_machine.specs.Memory.{Memory}
use Rattle.bed_machine.proofs.WordLaws.{some_same}
use Rattle.bed_lang.specs.declared.word.Name.{Name}
use Rattle.bed_lang.specs.declared.logic.Arg.{Arg}
use Rattle.bed_lang.specs.declared.logic.Pure.{Pure}
use Rattle.bed_lang.specs.declared.logic.Atom.{Atom}
use Rattle.bed_lang.specs.declared.logic.Atom.TheVariants as atom
use Rattle.bed_lang.specs.declared.logic.Term.{Term}
use Rattle.bed_lang.specs.declared.logic.Term.TheVariants as term
use Rattle.bed_lang.specs.declared.logic.Assertion.{Assertion}
use Rattle.bed_lang.specs.declared.module.Predicate.{Predicate}
use Rattle.bed_lang.specs.Values.{Values}
use Rattle.bed_lang.specs.Instances.{values_with}
use Rattle.bed_lang.specs.Lookups.{predicate_named}
use Rattle.bed_sat.specs.Parts.{Joins}
use Rattle.bed_sat.specs.Assertions.{ArgValue, Meaning, blank, set_params, arg_values, IsTrueAtom, AreTrueTerms, IsTrueWith, World, meaning}
use Rattle.bed_sat.proofs.PartLaws.{joins_comm, joins_empty}
use Rattle.bed_sat.proofs.SatLaws.{meaning_more}
use Rattle.bed_deriv.specs.declared.derivation.DArg.{DArg}
use Rattle.bed_deriv.specs.declared.state.SymState.{SymState}
use Rattle.bed_deriv.specs.Fresh.{every, known_arg, known_atom}
use Rattle.bed_deriv.specs.Opening.{alone, replaced_term, fresh_values, facts_of, atoms_of, opened_anew}
use Rattle.bed_deriv.specs.HeapRules.{taken, params_with, with_args, declared, cases_opened, unfold_rule}
use Rattle.bed_check_pure.specs.States.{AreTrueFacts, AreTrueAtoms, StateHolds}
use Rattle.bed_check_pure.proofs.RuleLaws.{numbered_is}
use Rattle.bed_check_pure.proofs.RewrittenLaws.{terms_replaced}
use Rattle.bed_check_heap.specs.Laws.{UnfoldKeeps}
use Rattle.bed_check_heap.specs.Sound.{AgreeBelow, SomeHolds}
use Rattle.bed_check_heap.proofs.TakeLaws.{atoms_append, atoms_more, take_numbered}
use Rattle.bed_check_heap.proofs.FreshLaws.{agree_self, args_known, facts_known, atoms_known, every_taken}
use Rattle.bed_check_heap.proofs.WrapLaws.{AgreeModulo, agree_modulo_self, terms_modulo}
use Rattle.bed_check_heap.proofs.OpenLaws.{set_args, set_args_append, params_are_set, alone_is}
use Rattle.bed_check_heap.proofs.BinderLaws.{binders_valued, fresh_set, fresh_agrees, binders_fresh}
use Rattle.bed_check_heap.proofs.KeepLaws.{Every, Keeps, kept}

-- ---- terms as facts and atoms

pub facts_join : (w : World) (ν : Values) (ps qs : List Pure) → AreTrueFacts w ν ps → AreTrueFacts w ν qs → AreTrueFacts w ν (ps ++ qs)
facts_join w ν [] qs t u = u
facts_join w ν (p ∷ ps) qs t u = (t.0, facts_join w ν ps qs t.1 u)

-- where terms are true, so are their facts, and their atoms
pub terms_part : (w : World) (ν : Values) (P : Meaning) (ts : List Term) (h : Memory) → AreTrueTerms w.codes w.labels P ν ts h
    → AreTrueFacts w ν (facts_of ts) × AreTrueAtoms w ν P (atoms_of ts) h
terms_part w ν P [] h are = (tt, are)
terms_part w ν P (term.Emp ∷ ts) h are =
    let k = terms_part w ν P ts are.1 are.4 in
    let same = joins_empty (subst (Joins h are.1) are.3 (joins_comm are.2)) in
    (k.0, subst (AreTrueAtoms w ν P (atoms_of ts)) (sym same) k.1)
terms_part w ν P (term.Pure p ∷ ts) h are =
    let k = terms_part w ν P ts are.1 are.4 in
    let same = joins_empty (subst (Joins h are.1) are.3.0 (joins_comm are.2)) in
    ((are.3.1, k.0), subst (AreTrueAtoms w ν P (atoms_of ts)) (sym same) k.1)
terms_part w ν P (term.Atom x ∷ ts) h are = let k = terms_part w ν P ts are.1 are.4 in (k.0, (are.0, are.1, are.2, are.3, k.1))

-- and they stay so one deeper
terms_deeper : (w : World) (ν : Values) (less depth : ℕ) (ts : List Term) (h : Memory) → suc less ≡ depth → AreTrueTerms w.codes w.labels (meaning w less) ν ts h
    → AreTrueFacts w ν (facts_of ts) × AreTrueAtoms w ν (meaning w depth) (atoms_of ts) h
terms_deeper w ν less depth ts h deeper are =
    let k = terms_part w ν (meaning w less) ts h are in (
      k.0,
      subst (λ d. AreTrueAtoms w ν (meaning w d) (atoms_of ts) h) deeper
          (atoms_more w ν (meaning w less) (meaning w (suc less)) (meaning_more w less) (atoms_of ts) h k.1),
    )

-- ---- the case that holds

-- the atom of a declared predicate, with its arguments
pub record IsDeclared (w : World) (ν : Values) (P : Meaning) (x : Atom) (p : Predicate × List Arg) (h : Memory) : Type 0 where
  pub name : List ℕ
  pub is : predicate_named w.decls name ≡ Some p.0
  pub holds : P name (arg_values w.codes w.labels ν p.1) h
  pub known : (next : ℕ) → IsTrue (known_atom next x) → IsTrue (every (known_arg next) p.1)

declared_is : (w : World) (ν : Values) (P : Meaning) (x : Atom) (p : Predicate × List Arg) (h : Memory) → declared w.decls x ≡ Some p
    → IsTrueAtom w.codes w.labels P ν x h → IsDeclared w ν P x p h
declared_is w ν P (atom.Cell a v) p h e is = absurd cc
declared_is w ν P (atom.Byte a v) p h e is = absurd cc
declared_is w ν P (atom.Block a n) p h e is = absurd cc
declared_is w ν P (atom.Pred name args) p h e is = by (predicate_named w.decls name.bytes) refl e
  where
    by : (o : Option Predicate) → predicate_named w.decls name.bytes ≡ o → with_args o args ≡ Some p → IsDeclared w ν P (atom.Pred name args) p h
    by None q e = absurd cc
    by (Some d) q e =
        subst (λ (r : Predicate × List Arg). IsDeclared w ν P (atom.Pred name args) r h) (some_same e)
        (record { name = name.bytes; is = q; holds = is; known = λ next k. k })

-- at some depth one of its cases is true
pub record IsCase (w : World) (p : Predicate) (κ : Values) (depth : ℕ) (h : Memory) : Type 0 where
  pub less : ℕ
  pub deeper : suc less ≡ depth
  pub number : ℕ
  pub case : Assertion
  pub at : slice_get p.cases number ≡ Some case
  pub holds : IsTrueWith w.codes w.labels (meaning w less) κ case h

pub case_of : (w : World) (depth : ℕ) (name : List ℕ) (p : Predicate) (vs : List ArgValue) (h : Memory) → predicate_named w.decls name ≡ Some p
    → meaning w depth name vs h → IsCase w p (set_params blank p.params vs) depth h
case_of w zero name p vs h e is = absurd is
case_of w (suc k) name p vs h e is =
    subst (λ (d : Predicate). IsCase w d (set_params blank d.params vs) (suc k) h) (some_same (sym is.1 ∙ e))
    (record { less = k; deeper = refl; number = is.2; case = is.3; at = is.4; holds = is.5 })

-- ---- the case opened

module _ (w : World) (ν : Values) (P : Meaning) (next : ℕ) (h : Memory) where
  -- the case's terms are true with values for the fresh variables of its binders
  pub record Opens (vs : List (Name × Arg)) (A : Assertion) : Type 0 where
    pub values : Values
    pub agree : AgreeBelow next ν values
    pub terms : AreTrueTerms w.codes w.labels P values (map (replaced_term (alone (vs ++ fresh_values A.binders next))) A.terms) h

  case_opens : (p : Predicate) (args : List Arg) (A : Assertion) → IsTrue (every (known_arg next) args)
      → IsTrueWith w.codes w.labels P (set_params blank p.params (arg_values w.codes w.labels ν args)) A h → Opens (params_with p.params args) A
  case_opens p args A known is =
      let κ = set_params blank p.params (arg_values w.codes w.labels ν args) in
      let (us, sorts, true_terms) = binders_valued A.binders κ (λ ι. AreTrueTerms w.codes w.labels P ι A.terms h) is in
      let μ = fresh_set ν next us in
      let g = fresh_agrees next next us ν ν (omega arith) (agree_self next ν) in
      let vs = params_with p.params args in
      let fs = fresh_values A.binders next in
      let params : κ ≡ set_args w.labels μ blank vs =
      ap (set_params blank p.params) (args_known w next ν μ g args known) ∙ params_are_set w.labels μ w.codes blank p.params args in
      let modulo = binders_fresh w.labels A.binders us ν next κ (set_args w.labels μ blank vs) sorts (subst (AgreeModulo κ) params (agree_modulo_self κ)) in
      let all : set_args w.labels μ (set_args w.labels μ blank vs) fs ≡ values_with (alone (vs ++ fs)) w.labels μ =
      sym (set_args_append w.labels μ blank vs fs) ∙ sym (alone_is w.labels μ (vs ++ fs)) in
      let given = terms_modulo w.codes w.labels _ _ modulo P A.terms h true_terms in
      record {
        values = μ;
        agree = g;
        terms = terms_replaced w.codes w.labels (alone (vs ++ fs)) μ P A.terms h (subst (λ ι. AreTrueTerms w.codes w.labels P ι A.terms h) all given);
      }

some_case : (w : World) (next : ℕ) (ν μ : Values) (h : Memory) (s : SymState) (vs : List (Name × Arg)) (cases : List Assertion) (number : ℕ) (A : Assertion)
    → slice_get cases number ≡ Some A → AgreeBelow next ν μ → StateHolds w μ h (opened_anew alone vs A s) → SomeHolds w next ν h (cases_opened s vs cases)
some_case w next ν μ h s vs [] number A at g holds = absurd cc
some_case w next ν μ h s vs (B ∷ cases) zero A at g holds = inl (μ, g, subst (λ C. StateHolds w μ h (opened_anew alone vs C s)) (sym (some_same at)) holds)
some_case w next ν μ h s vs (B ∷ cases) (suc number) A at g holds = inr (some_case w next ν μ h s vs cases number A at g holds)

count_of_cases : (s : SymState) (vs : List (Name × Arg)) (cases : List Assertion) → length (cases_opened s vs cases) ≡ length cases
count_of_cases s vs [] = refl
count_of_cases s vs (A ∷ cases) = ap suc (count_of_cases s vs cases)

pub unfold_keeps : (w : World) (ν : Values) (h : Memory) (s : SymState) (args : List DArg) (n : ℕ) → Every (Keeps w ν h s n) (unfold_rule w.decls s args n)
unfold_keeps w ν h s args n c i number x at p is size = (
  (let e = count_of_cases (taken s i) (params_with p.0.params p.1) p.0.cases in let k = eqb-true n (length p.0.cases) size in omega arith),
  λ known holds goals.
      let P = meaning w holds.depth in
      let t = take_numbered w ν P s i x h at holds.atoms in
      let q = every_taken (known_atom s.next) s.atoms (i - 1) x (numbered_is s.atoms i x at).1 known.atoms in
      let d = declared_is w ν P x p t.here is t.is in
      let k = case_of w holds.depth d.name p.0 (arg_values w.codes w.labels ν p.1) t.here d.is d.holds in
      let o = case_opens w ν (meaning w k.less) s.next t.here p.0 p.1 k.case (d.known s.next q.0) k.holds in
      let μ = o.values in
      let parts = terms_deeper w μ k.less holds.depth _ t.here k.deeper o.terms in
      some_case w s.next ν μ h (taken s i) (params_with p.0.params p.1) p.0.cases k.number k.case k.at o.agree (record {
        facts = facts_join w μ s.facts _ (facts_known w s.next ν μ o.agree s.facts known.facts holds.facts) parts.0;
        depth = holds.depth;
        atoms = atoms_append w μ P (taken s i).atoms _ h t.rest t.here (joins_comm t.joins) (atoms_known w s.next ν μ o.agree P (taken s i).atoms t.rest q.1 t.are) parts.1;
      }),
)

pub unfold_is_kept : UnfoldKeeps
unfold_is_kept w ν h s args n m e = (kept w ν h s n (unfold_rule w.decls s args n) (unfold_keeps w ν h s args n) m e).1
