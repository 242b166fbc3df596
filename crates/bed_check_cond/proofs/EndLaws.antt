-- The end of a path: a match with no atom left meets the goal.
use Rattle.std.proofs.Common.{◌≡◌, ℕ, ◌+◌, true, ◌==◌, IsTrue, List, [], ◌++◌, map, length, take, drop, Option, Some, None, Ok, refl, sym, ◌∙◌, ap, subst, arith}
use Rattle.std.proofs.lemmas.Bool.{and_parts, eqb-true}
use Rattle.bed_machine.specs.Memory.{Memory, empty}
use Rattle.bed_machine.proofs.WordLaws.{some_same}
use Rattle.bed_lang.specs.declared.word.Name.{Name}
use Rattle.bed_lang.specs.declared.word.Word.{Word}
use Rattle.bed_lang.specs.declared.logic.Arg.{Arg}
use Rattle.bed_lang.specs.declared.logic.Pure.{Pure}
use Rattle.bed_lang.specs.declared.logic.Atom.{Atom}
use Rattle.bed_lang.specs.declared.logic.Assertion.{Assertion}
use Rattle.bed_lang.specs.declared.module.Signature.{Signature}
use Rattle.bed_lang.specs.declared.condition.Goal.{Goal}
use Rattle.bed_lang.specs.declared.condition.Goal.TheVariants as goal
use Rattle.bed_lang.specs.declared.module.Action.{Action}
use Rattle.bed_lang.specs.declared.module.Operand.{Operand}
use Rattle.bed_lang.specs.Numbers.{wrap}
use Rattle.bed_lang.specs.Values.{Values, Old, Answer, set_word, value}
use Rattle.bed_lang.specs.Instances.{Instance, values_with, terms_with}
use Rattle.bed_lang.specs.Lookups.{label_signature, function_signature}
use Rattle.bed_sat.specs.Parts.{Joins}
use Rattle.bed_sat.specs.Frames.{set_words}
use Rattle.bed_sat.specs.Assertions.{Meaning, AreTrueTerms, Holds, World, meaning}
use Rattle.bed_sat.specs.Valid.{operand_value, After, GoalHolds}
use Rattle.bed_sat.proofs.PartLaws.{joins_empty}
use Rattle.bed_sat.proofs.InstanceLaws.{terms_true_with}
use Rattle.bed_deriv.specs.declared.derivation.DArg.{DArg}
use Rattle.bed_deriv.specs.declared.state.SymState.{SymState}
use Rattle.bed_deriv.specs.Arguments.{to_values}
use Rattle.bed_deriv.specs.Fresh.{known_assertion, unfresh_goal, IsKnownState, AreUnfresh}
use Rattle.bed_deriv.specs.Matches.{count_of_goals, count_of_atoms, chosen, all_different, atoms_left, match_goals}
use Rattle.bed_deriv.specs.Opening.{replacing, with_answer, local_values}
use Rattle.bed_lang.specs.SameFacts.{is_none}
use Rattle.bed_deriv.specs.Checks.{first_failure}
use Rattle.bed_deriv.specs.Steps.{operand_term, names_with, old_word, End, as_answer, returned, met, end_of, finish, onward_of, onward_states}
use Rattle.bed_deriv.specs.declared.rest.Rest.{Rest}
use Rattle.bed_deriv.specs.declared.rest.Onward.{Onward}
use Rattle.bed_check_pure.specs.States.{AreTrueFacts, AreTrueAtoms}
use Rattle.bed_check_pure.proofs.SameLaws.{empty_if_none}
use Rattle.bed_check_pure.proofs.CheckLaws.{roomy}
use Rattle.bed_check_heap.proofs.TakeLaws.{chosen_numbered}
use Rattle.bed_check_heap.proofs.KeepLaws.{Every, passed}
use Rattle.bed_check_heap.proofs.MatchLaws.{count_of_match, match_splits}
use Rattle.bed_check_heap.proofs.OpenLaws.{set_args, set_args_append}
use Rattle.bed_check_heap.proofs.BinderLaws.{binders_given}
use Rattle.bed_check_heap.proofs.FoldLaws.{count_of_goals_with}
use Rattle.bed_check_cond.specs.Paths.{ReadsLocals, AreProved, AllClose, Closes, FinishCloses}
use Rattle.bed_check_cond.proofs.ValueLaws.{SameButFresh, same_turned, same_then, same_args, terms_same}
use Rattle.bed_check_cond.proofs.ReplacingLaws.{replacing_sets, answer_sets, answer_last, locals_set, old_is_none, olds_given}
use Rattle.bed_check_cond.proofs.ReadLaws.{operand_read}
use Rattle.bed_check_cond.proofs.DeclaredLaws.{signature_unfresh}

-- ---- a match of all atoms

-- where a match has no atom left, its terms are true of the whole memory
pub match_whole : (w : World) (ν : Values) (P : Meaning) (s : SymState) (σ : Instance) (A : Assertion) (numbers : List DArg) (cs : List (ℕ × Atom)) (gs : List Pure) (h : Memory)
    → chosen s.atoms numbers ≡ Some cs → all_different cs ≡ true → match_goals (terms_with σ A.terms) cs ≡ Some gs → is_none (atoms_left cs 1 s.atoms) ≡ true
    → AreTrueFacts w ν gs → AreTrueAtoms w ν P s.atoms h → AreTrueTerms w.codes w.labels P (values_with σ w.labels ν) A.terms h
match_whole w ν P s σ A numbers cs gs h at different e none t are =
    let (front, back, j, terms, left) = match_splits w ν P s.atoms (terms_with σ A.terms) cs gs h (chosen_numbered s.atoms numbers cs at) different e t are in
    let gone : back ≡ empty = subst (λ (xs : List Atom). AreTrueAtoms w ν P xs back) (empty_if_none (atoms_left cs 1 s.atoms) none) left in
    let whole : h ≡ front = joins_empty (subst (Joins h front) gone j) in
    subst (AreTrueTerms w.codes w.labels P (values_with σ w.labels ν) A.terms) (sym whole) ((terms_true_with w.codes w.labels σ ν P A.terms front).0 terms)

-- ---- the goal is met

module _ (w : World) (ν μ : Values) (h : Memory) (s : SymState) (reads : ReadsLocals w.labels s.locals ν μ) (depth : ℕ) (args : List DArg) where
  abbrev Meets : Option Signature → Goal → End → Type 0
  Meets S g e =
      (σ : List (Name × Arg) → Instance) (bs : List (Name × Arg)) → e.reading ≡ Some σ → to_values s.next e.assertion.binders args ≡ Some bs
      → AreTrueTerms w.codes w.labels (meaning w depth) (values_with (σ bs) w.labels ν) e.assertion.terms h → GoalHolds w S g μ h

  -- an assertion is true under values that stand for its instance, with its binders set
  pub under : (ι : Values) (τ : List (Name × Arg) → Instance) (A : Assertion) (bs : List (Name × Arg)) → IsTrue (known_assertion 0 A)
      → SameButFresh (set_args w.labels ν ι bs) (values_with (τ bs) w.labels ν) → to_values s.next A.binders args ≡ Some bs
      → AreTrueTerms w.codes w.labels (meaning w depth) (values_with (τ bs) w.labels ν) A.terms h → Holds w ι h A
  under ι τ A bs unfresh same given are = (
    depth,
    binders_given s.next w.labels ν A.binders args bs given ι (λ κ. AreTrueTerms w.codes w.labels (meaning w depth) κ A.terms h)
        (terms_same w (meaning w depth) (values_with (τ bs) w.labels ν) (set_args w.labels ν ι bs) A.terms h (same_turned _ _ same) unfresh are),
  )

  -- the locals have their terms' values
  pub with_locals : (bs : List (Name × Arg)) → SameButFresh (set_args w.labels ν μ bs) (values_with (replacing (local_values s.locals ++ bs)) w.labels ν)
  with_locals bs =
      let lv = local_values s.locals in
      let parts = set_args_append w.labels ν ν lv bs in
      let same : SameButFresh (set_args w.labels ν (set_args w.labels ν ν lv) bs) (set_args w.labels ν μ bs) = same_args w.labels ν (set_args w.labels ν ν lv) μ bs (locals_set w.labels ν s.locals μ reads) in
      same_then _ (set_args w.labels ν ν (lv ++ bs)) _ (subst (λ (κ : Values). SameButFresh (set_args w.labels ν μ bs) κ) (sym parts) (same_turned _ _ same)) (replacing_sets w.labels ν (lv ++ bs))

  assertion_met : (S : Option Signature) (A : Assertion) → IsTrue (known_assertion 0 A) → Meets S (goal.Meets A) (met s A)
  assertion_met S A unfresh σ bs is given are =
      let τ : List (Name × Arg) → Instance = λ us. replacing (local_values s.locals ++ us) in
      let back = subst (λ (ρ : List (Name × Arg) → Instance). AreTrueTerms w.codes w.labels (meaning w depth) (values_with (ρ bs) w.labels ν) A.terms h) (sym (some_same is)) are in
      under μ τ A bs unfresh (with_locals bs) given back

  -- the postcondition's parameters are as they were at entry, and `result` is the operand
  return_values : (S : Signature) (a : Operand) (t : Word) → operand_term s.locals a ≡ Some t → (bs : List (Name × Arg))
      → SameButFresh (set_args w.labels ν (set_word (set_words μ S.params (map (λ x. μ.words (Old x.bytes)) S.params)) Answer (operand_value w.labels μ a)) bs)
      (values_with (with_answer t (replacing (local_values s.locals ++ names_with S.params (map old_word S.params) ++ bs))) w.labels ν)
  return_values S a t is bs =
      let lv = local_values s.locals in
      let ps = names_with S.params (map old_word S.params) in
      let base = set_words μ S.params (map (λ x. μ.words (Old x.bytes)) S.params) in
      let v = operand_value w.labels μ a in
      let old : (x : List ℕ) → wrap (μ.words (Old x)) ≡ wrap (ν.words (Old x)) = λ x. ap wrap (reads.others (Old x) refl (old_is_none w.labels ν s.locals x)) in
      let first : SameButFresh (set_args w.labels ν (set_args w.labels ν ν lv) ps) base = olds_given w.labels ν μ old (set_args w.labels ν ν lv) μ S.params S.params (locals_set w.labels ν s.locals μ reads) in
      let all : set_args w.labels ν ν (lv ++ ps ++ bs) ≡ set_args w.labels ν (set_args w.labels ν (set_args w.labels ν ν lv) ps) bs =
      set_args_append w.labels ν ν (lv ++ ps) bs ∙ ap (λ κ. set_args w.labels ν κ bs) (set_args_append w.labels ν ν lv ps) in
      let second : SameButFresh (set_args w.labels ν base bs) (values_with (replacing (lv ++ ps ++ bs)) w.labels ν) =
      same_then _ (set_args w.labels ν ν (lv ++ ps ++ bs)) _
      (subst (λ (κ : Values). SameButFresh (set_args w.labels ν base bs) κ) (sym all) (same_turned _ _ (same_args w.labels ν (set_args w.labels ν (set_args w.labels ν ν lv) ps) base bs first)))
      (replacing_sets w.labels ν (lv ++ ps ++ bs)) in
      let e : wrap v ≡ wrap (value w.labels ν t) = ap wrap (operand_read w.labels ν μ s.locals a t reads.locals is) in
      same_then _ (set_word (set_args w.labels ν base bs) Answer v) _ (answer_last w.labels ν base v bs) (answer_sets w.labels ν (replacing (lv ++ ps ++ bs)) (set_args w.labels ν base bs) t v e second)

  return_met : (S : Signature) (a : Operand) (t : Word) → operand_term s.locals a ≡ Some t → IsTrue (known_assertion 0 S.post)
      → (σ : List (Name × Arg) → Instance) (bs : List (Name × Arg)) → as_answer s S (Some t) ≡ Some σ → to_values s.next S.post.binders args ≡ Some bs
      → AreTrueTerms w.codes w.labels (meaning w depth) (values_with (σ bs) w.labels ν) S.post.terms h → GoalHolds w (Some S) (goal.Returns a) μ h
  return_met S a t is unfresh σ bs reading given are =
      let τ : List (Name × Arg) → Instance = λ us. with_answer t (replacing (local_values s.locals ++ names_with S.params (map old_word S.params) ++ us)) in
      let back = subst (λ (ρ : List (Name × Arg) → Instance). AreTrueTerms w.codes w.labels (meaning w depth) (values_with (ρ bs) w.labels ν) S.post.terms h) (sym (some_same reading)) are in
      under (set_word (set_words μ S.params (map (λ x. μ.words (Old x.bytes)) S.params)) Answer (operand_value w.labels μ a)) τ S.post bs unfresh (return_values S a t is bs) given back

  end_met : (function : Name) (g : Goal) (e : End) → AreUnfresh w.decls → IsTrue (unfresh_goal g) → end_of w.decls function s g ≡ Some e
      → Meets (function_signature w.decls function) g e
  end_met function (goal.Meets A) e unfresh known is =
      subst (Meets (function_signature w.decls function) (goal.Meets A)) (some_same is) (assertion_met (function_signature w.decls function) A known)
  end_met function (goal.Returns a) e unfresh known is = by (function_signature w.decls function) refl is
    where
      by : (o : Option Signature) → function_signature w.decls function ≡ o → returned s o (operand_term s.locals a) ≡ Some e → Meets o (goal.Returns a) e
      by None q is = absurd cc
      by (Some S) q is = subst (Meets (Some S) (goal.Returns a)) (some_same is) (by_term (operand_term s.locals a) refl)
        where
          post : IsTrue (known_assertion 0 S.post)
          post = (and_parts (known_assertion 0 S.pre) (known_assertion 0 S.post) (signature_unfresh w.decls (label_signature w.decls function.bytes) S unfresh q)).1

          by_term : (o : Option Word) → operand_term s.locals a ≡ o → Meets (Some S) (goal.Returns a) (record { assertion = S.post; reading = as_answer s S o })
          by_term None r σ bs reading given are = absurd cc
          by_term (Some t) r σ bs reading given are = return_met S a t r post σ bs reading given are
  end_met function (goal.Calls target via operands into after) e unfresh known is = absurd cc

-- ---- the rule

-- the rest of a condition whose state is known, and whose goal holds no fresh variable
abbrev pub IsKnownRest : Rest → Type 0
IsKnownRest r = IsKnownState r.state × IsTrue (unfresh_goal r.goal)

-- as many children as facts and rests; and where the facts are proved and the rests closed, so is the node's
abbrev pub ClosesBy : (w : World) (S : Option Signature) (r : Rest) (n : ℕ) → Onward → Type 0
ClosesBy w S r n o = (length o.goals + length o.rests ≡ n) × (IsKnownRest r → AreProved w r.state o.goals → AllClose w S o.rests → Closes w S r)

abbrev EndsBy : (w : World) (S : Option Signature) (r : Rest) (n : ℕ) → Onward → Type 0
EndsBy w S r n o = (o.rests ≡ []) × ClosesBy w S r n o

finish_closes : (w : World) (function : Name) (r : Rest) (args : List DArg) (n : ℕ) → AreUnfresh w.decls
    → Every (EndsBy w (function_signature w.decls function) r n) (finish w.decls function r args n)
finish_closes w function r args n unfresh e is size bs given cs at ended σ reading different gs match none = (
  refl,
  (
    (
        let k = and_parts (length args == length e.assertion.binders + count_of_atoms e.assertion.terms) (n == count_of_goals e.assertion.terms) size in
        let m = eqb-true n (count_of_goals e.assertion.terms) k.1 in
        let c = count_of_match (terms_with (σ bs) e.assertion.terms) cs gs match ∙ count_of_goals_with (σ bs) e.assertion.terms in
        omega arith
        ),
    λ known proved closed ν μ h holds reads.
        let are = match_whole w ν (meaning w holds.depth) r.state (σ bs) e.assertion (drop (length e.assertion.binders) args) cs gs h at different match none (proved ν h holds) holds.atoms in
        let met = end_met w ν μ h r.state reads holds.depth (take (length e.assertion.binders) args) function r.goal e unfresh known.1 is σ bs reading given are in
        subst (λ (as' : List Action). After w.labels as' (GoalHolds w (function_signature w.decls function) r.goal) μ h) (sym (empty_if_none r.actions ended)) met,
  ),
)

-- what an end's node leaves
finished : (w : World) (function : Name) (r : Rest) (args : List DArg) (n : ℕ) (o : Onward) → AreUnfresh w.decls
    → onward_of (finish w.decls function r args n) ≡ Ok o → EndsBy w (function_signature w.decls function) r n o
finished w function r args n o unfresh e =
    passed (EndsBy w (function_signature w.decls function) r n) (finish w.decls function r args n) (finish_closes w function r args n unfresh) o
    (roomy onward_states (first_failure (finish w.decls function r args n)) o e)

pub finish_by : (w : World) (function : Name) (r : Rest) (args : List DArg) (n : ℕ) (o : Onward) → AreUnfresh w.decls
    → onward_of (finish w.decls function r args n) ≡ Ok o → (o.rests ≡ []) × ClosesBy w (function_signature w.decls function) r n o
finish_by w function r args n o unfresh e = finished w function r args n o unfresh e

pub finish_is_closed : FinishCloses
finish_is_closed w function r args n o e unfresh state goal_known proved =
    let k = finished w function r args n o unfresh e in
    k.1.1 (state, goal_known) proved (subst (λ (rs : List Rest). AllClose w (function_signature w.decls function) rs) (sym k.0) tt)
