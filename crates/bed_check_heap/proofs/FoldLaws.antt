-- Atoms that match the terms of a case of a predicate are folded into its atom.
use Rattle.std.proofs.Common.{◌≡◌, ℕ, suc, ◌+◌, ◌-◌, ◌==◌, List, [], ◌∷◌, ◌++◌, length, drop, Option, Some, None, inl, refl, sym, ◌∙◌, ap, ap₂, subst, arith}
use Rattle.std.specs.Prelude.{slice_get}
use Rattle.std.proofs.lemmas.Bool.{and_parts, eqb-true}
use Rattle.bed_machine.specs.Memory.{Memory}
use Rattle.bed_machine.proofs.WordLaws.{some_same}
use Rattle.bed_lang.specs.declared.word.Name.{Name}
use Rattle.bed_lang.specs.declared.logic.Arg.{Arg}
use Rattle.bed_lang.specs.declared.logic.Atom.TheVariants as atom
use Rattle.bed_lang.specs.declared.logic.Term.{Term}
use Rattle.bed_lang.specs.declared.logic.Term.TheVariants as term
use Rattle.bed_lang.specs.declared.logic.Assertion.{Assertion}
use Rattle.bed_lang.specs.declared.module.Predicate.{Predicate}
use Rattle.bed_lang.specs.declared.condition.Decls.{Decls}
use Rattle.bed_lang.specs.Values.{Values}
use Rattle.bed_lang.specs.Instances.{Instance, values_with, args_with, terms_with}
use Rattle.bed_lang.specs.Lookups.{predicate_named}
use Rattle.bed_sat.specs.Assertions.{blank, set_params, arg_values, AreTrueTerms, World, meaning}
use Rattle.bed_sat.proofs.PartLaws.{joins_comm}
use Rattle.bed_sat.proofs.SatLaws.{meaning_more}
use Rattle.bed_sat.proofs.InstanceLaws.{terms_true_with}
use Rattle.bed_deriv.specs.declared.derivation.DArg.{DArg}
use Rattle.bed_deriv.specs.declared.state.SymState.{SymState}
use Rattle.bed_deriv.specs.Arguments.{at_number, number_at, name_at, to_values}
use Rattle.bed_deriv.specs.Opening.{alone}
use Rattle.bed_deriv.specs.Matches.{count_of_goals, count_of_atoms, atoms_left}
use Rattle.bed_deriv.specs.HeapRules.{beside, predicate_of, value_args, fold_rule}
use Rattle.bed_check_pure.proofs.RuleLaws.{numbered_is}
use Rattle.bed_check_heap.specs.Laws.{FoldKeeps}
use Rattle.bed_check_heap.proofs.TakeLaws.{chosen_numbered, put_atom, atoms_more}
use Rattle.bed_check_heap.proofs.FreshLaws.{agree_self}
use Rattle.bed_check_heap.proofs.OpenLaws.{set_args, set_args_append, params_are_set, alone_is}
use Rattle.bed_check_heap.proofs.BinderLaws.{params_given, binders_given}
use Rattle.bed_check_heap.proofs.MatchLaws.{count_of_match, match_splits}
use Rattle.bed_check_heap.proofs.KeepLaws.{Every, Keeps, kept}

-- ---- an instance has as many goals

count_of_args_with : (σ : Instance) (args : List Arg) → length (args_with σ args) ≡ length args
count_of_args_with σ [] = refl
count_of_args_with σ (a ∷ more) = ap suc (count_of_args_with σ more)

pub count_of_goals_with : (σ : Instance) (ts : List Term) → count_of_goals (terms_with σ ts) ≡ count_of_goals ts
count_of_goals_with σ [] = refl
count_of_goals_with σ (term.Emp ∷ ts) = ap (λ n. 0 + n) (count_of_goals_with σ ts)
count_of_goals_with σ (term.Pure p ∷ ts) = ap (λ n. 1 + n) (count_of_goals_with σ ts)
count_of_goals_with σ (term.Atom (atom.Cell a v) ∷ ts) = ap (λ n. 2 + n) (count_of_goals_with σ ts)
count_of_goals_with σ (term.Atom (atom.Byte a v) ∷ ts) = ap (λ n. 2 + n) (count_of_goals_with σ ts)
count_of_goals_with σ (term.Atom (atom.Block a k) ∷ ts) = ap (λ n. 2 + n) (count_of_goals_with σ ts)
count_of_goals_with σ (term.Atom (atom.Pred name args) ∷ ts) = ap₂ (λ m n. m + n) (count_of_args_with σ args) (count_of_goals_with σ ts)

-- ---- the predicate and its case

named_predicate : (d : Decls) (o : Option Name) (p : Name × Predicate) → predicate_of d o ≡ Some p → predicate_named d p.0.bytes ≡ Some p.1
named_predicate d None p e = absurd cc
named_predicate d (Some x) p e = by (predicate_named d x.bytes) refl e
  where
    by : (o : Option Predicate) → predicate_named d x.bytes ≡ o → beside x o ≡ Some p → predicate_named d p.0.bytes ≡ Some p.1
    by None q e = absurd cc
    by (Some r) q e = subst (λ (z : Name × Predicate). predicate_named d z.0.bytes ≡ Some z.1) (some_same e) q

case_place : (cases : List Assertion) (o : Option ℕ) (A : Assertion) → at_number cases o ≡ Some A → (k : ℕ) × (slice_get cases k ≡ Some A)
case_place cases None A e = absurd cc
case_place cases (Some n) A e = (n - 1, (numbered_is cases n A e).1)

-- a predicate's atom is true where the terms of a case are, under the values of its parameters and binders
folded : (w : World) (ν : Values) (depth next : ℕ) (x : Name) (p : Predicate) (number : ℕ) (A : Assertion) (params binders : List DArg) (vs bs : List (Name × Arg)) (h : Memory)
    → predicate_named w.decls x.bytes ≡ Some p → slice_get p.cases number ≡ Some A
    → to_values next p.params params ≡ Some vs → to_values next A.binders binders ≡ Some bs
    → AreTrueTerms w.codes w.labels (meaning w depth) ν (terms_with (alone (vs ++ bs)) A.terms) h
    → meaning w (suc depth) x.bytes (arg_values w.codes w.labels ν (value_args vs)) h
folded w ν depth next x p number A params binders vs bs h e at given more are =
    let P = meaning w depth in
    let κ = set_params blank p.params (arg_values w.codes w.labels ν (value_args vs)) in
    let start : set_args w.labels ν blank vs ≡ κ =
    ap (set_args w.labels ν blank) (sym (params_given next p.params params vs given)) ∙ sym (params_are_set w.labels ν w.codes blank p.params (value_args vs)) in
    let all : values_with (alone (vs ++ bs)) w.labels ν ≡ set_args w.labels ν κ bs =
    alone_is w.labels ν (vs ++ bs) ∙ set_args_append w.labels ν blank vs bs ∙ ap (λ ι. set_args w.labels ν ι bs) start in
    let true_terms = subst (λ ι. AreTrueTerms w.codes w.labels P ι A.terms h) all ((terms_true_with w.codes w.labels (alone (vs ++ bs)) ν P A.terms h).0 are) in
    (p, e, number, A, at, binders_given next w.labels ν A.binders binders bs more κ (λ ι. AreTrueTerms w.codes w.labels P ι A.terms h) true_terms)

pub fold_keeps : (w : World) (ν : Values) (h : Memory) (s : SymState) (args : List DArg) (n : ℕ) → Every (Keeps w ν h s n) (fold_rule w.decls s args n)
fold_keeps w ν h s args n two p is A at size vs params bs binders cs chosen different gs match = (
  (
      let k = and_parts (length args == 2 + length p.1.params + length A.binders + count_of_atoms A.terms) (n == count_of_goals A.terms + 1) size in
      let e = eqb-true n (count_of_goals A.terms + 1) k.1 in
      let same = count_of_match (terms_with (alone (vs ++ bs)) A.terms) cs gs match ∙ count_of_goals_with (alone (vs ++ bs)) A.terms in
      omega arith
      ),
  λ known holds goals.
      let P = meaning w holds.depth in
      let Q = meaning w (suc holds.depth) in
      let numbers = chosen_numbered s.atoms (drop (2 + length p.1.params + length A.binders) args) cs chosen in
      let (front, back, j, terms, left) = match_splits w ν P s.atoms (terms_with (alone (vs ++ bs)) A.terms) cs gs h numbers different match goals holds.atoms in
      let (k, place) = case_place p.1.cases (number_at args 1) A at in
      inl (
        ν,
        agree_self s.next ν,
        record {
          facts = holds.facts;
          depth = suc holds.depth;
          atoms = put_atom w ν Q (atoms_left cs 1 s.atoms) (atom.Pred p.0 (value_args vs)) h back front (joins_comm j)
              (atoms_more w ν P Q (meaning_more w holds.depth) (atoms_left cs 1 s.atoms) back left)
              (folded w ν holds.depth s.next p.0 p.1 k A _ _ vs bs front (named_predicate w.decls (name_at args 0) p is) place params binders terms);
        },
      ),
)

pub fold_is_kept : FoldKeeps
fold_is_kept w ν h s args n m e = (kept w ν h s n (fold_rule w.decls s args n) (fold_keeps w ν h s args n) m e).1
