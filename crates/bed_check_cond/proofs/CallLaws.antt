-- A step along a call closes what it stands for: the precondition takes a part of the memory, and what the callee promises for every
-- answer comes to the state that the rest goes on from.
use Rattle.std.proofs.Common.{◌≡◌, ℕ, ◌+◌, ◌<◌, ◌≤◌, ◌==◌, IsTrue, List, [], ◌∷◌, ◌++◌, map, length, take, drop, length-append, Option, Some, None, refl, sym, ◌∙◌, ap, subst, arith}
use Rattle.std.proofs.lemmas.List.{length-map}
use Rattle.std.proofs.lemmas.Bool.{and_parts, eqb-true}
use Rattle.bed_machine.specs.Memory.{Memory}
use Rattle.bed_lang.specs.declared.word.Name.{Name}
use Rattle.bed_lang.specs.declared.word.Word.{Word}
use Rattle.bed_lang.specs.declared.logic.Arg.{Arg}
use Rattle.bed_lang.specs.declared.logic.Arg.TheVariants as arg
use Rattle.bed_lang.specs.declared.logic.Atom.{Atom}
use Rattle.bed_lang.specs.declared.logic.Assertion.{Assertion}
use Rattle.bed_lang.specs.declared.module.Signature.{Signature}
use Rattle.bed_lang.specs.declared.module.Action.{Action}
use Rattle.bed_lang.specs.declared.module.Operand.{Operand}
use Rattle.bed_lang.specs.declared.module.Operand.TheVariants as operand
use Rattle.bed_lang.specs.declared.condition.Goal.{Goal}
use Rattle.bed_lang.specs.declared.condition.Goal.TheVariants as goal
use Rattle.bed_lang.specs.Numbers.{wrap}
use Rattle.bed_lang.specs.Values.{Values, Named, Answer, Fresh, set_word, value}
use Rattle.bed_lang.specs.Instances.{Instance, values_with, terms_with}
use Rattle.bed_lang.specs.Lookups.{signature_named, label_signature, named_signature}
use Rattle.bed_sat.specs.Parts.{Joins}
use Rattle.bed_sat.specs.Frames.{set_words}
use Rattle.bed_sat.specs.Assertions.{AreTrueTerms, Holds, World, meaning}
use Rattle.bed_sat.specs.Valid.{callee_name, operand_value, set_local, After, CallHolds, GoalHolds, LabelsFit}
use Rattle.bed_sat.proofs.PartLaws.{joins_comm}
use Rattle.bed_sat.proofs.InstanceLaws.{terms_true_with}
use Rattle.bed_deriv.specs.declared.derivation.DArg.{DArg}
use Rattle.bed_deriv.specs.declared.state.SymState.{SymState}
use Rattle.bed_deriv.specs.Arguments.{to_values}
use Rattle.bed_deriv.specs.Fresh.{every, known_assertion, known_atom, known_value, IsKnownState, AreUnfresh}
use Rattle.bed_deriv.specs.HeapRules.{fresh_word}
use Rattle.bed_deriv.specs.Matches.{count_of_goals, count_of_atoms, atoms_left}
use Rattle.bed_deriv.specs.Opening.{replacing, with_answer, fresh_values, with_terms}
use Rattle.bed_deriv.specs.Steps as steps
use Rattle.bed_deriv.specs.Steps.{operand_term, operand_terms, names_with, callee, code_goals, code_count, call}
use Rattle.bed_deriv.specs.declared.rest.Rest.{Rest}
use Rattle.bed_deriv.proofs.KnownLaws.{every-append}
use Rattle.bed_check_pure.specs.States.{AreTrueFacts, AreTrueAtoms, StateHolds}
use Rattle.bed_check_heap.specs.Sound.{AgreeBelow}
use Rattle.bed_check_heap.proofs.TakeLaws.{chosen_numbered}
use Rattle.bed_check_heap.proofs.FreshLaws.{value_known, list_value_known, facts_known, atoms_known, agree_self, agree_more, set_here, value_fresh}
use Rattle.bed_check_heap.proofs.KeepLaws.{Every}
use Rattle.bed_check_heap.proofs.MatchLaws.{count_of_match, facts_parts, match_splits}
use Rattle.bed_check_heap.proofs.OpenLaws.{set_arg, set_args, set_args_append}
use Rattle.bed_check_heap.proofs.FoldLaws.{count_of_goals_with}
use Rattle.bed_check_cond.specs.Paths.{ReadsLocals, Closes}
use Rattle.bed_check_cond.proofs.ValueLaws.{SameButFresh, same_then, same_word, same_list, same_args, agree_but_fresh}
use Rattle.bed_check_cond.proofs.ReplacingLaws.{replacing_sets, answer_sets, answer_last, words_given, value-once}
use Rattle.bed_check_cond.proofs.ReadLaws.{operand_read, operands_read, local_set, reads_known}
use Rattle.bed_check_cond.proofs.OpeningLaws.{assertion_opens, state_opened}
use Rattle.bed_check_cond.proofs.DeclaredLaws.{signature_unfresh}
use Rattle.bed_check_cond.proofs.KnownLaws.{values_known, names_known, left_known}
use Rattle.bed_check_cond.proofs.EndLaws.{under, ClosesBy}

-- ---- values that agree on what is known

pub agree_then : (next more : ℕ) (ν κ μ : Values) → next ≤ more → AgreeBelow next ν κ → AgreeBelow more κ μ → AgreeBelow next ν μ
agree_then next more ν κ μ le g f = record {
  words = λ x k. f.words x (λ n e. let l : n < next = k n e in omega arith) ∙ g.words x k;
  lists = λ x k. f.lists x (λ n e. let l : n < next = k n e in omega arith) ∙ g.lists x k;
}

module _ (w : World) (next : ℕ) (ν κ : Values) (g : AgreeBelow next ν κ) where
  arg_agrees : (ι1 ι2 : Values) (x : Name) (a : Arg) → IsTrue (known_value next (x, a)) → SameButFresh ι1 ι2 → SameButFresh (set_arg w.labels ν ι1 x a) (set_arg w.labels κ ι2 x a)
  arg_agrees ι1 ι2 x (arg.Word at t) k s = same_word ι1 ι2 (Named x.bytes) (value w.labels ν t) (value w.labels κ t) (ap wrap (value_known w next ν κ g t k)) s
  arg_agrees ι1 ι2 x (arg.Seq at t) k s = same_list ι1 ι2 (Named x.bytes) _ _ (ap (map wrap) (list_value_known w next ν κ g t k)) s
  arg_agrees ι1 ι2 x (arg.Bare name) k s = same_word ι1 ι2 (Named x.bytes) 0 0 refl s

  args_agree : (vs : List (Name × Arg)) (ι1 ι2 : Values) → IsTrue (every (known_value next) vs) → SameButFresh ι1 ι2 → SameButFresh (set_args w.labels ν ι1 vs) (set_args w.labels κ ι2 vs)
  args_agree [] ι1 ι2 k s = s
  args_agree (v ∷ vs) ι1 ι2 k s =
      let q = and_parts (known_value next v) (every (known_value next) vs) k in
      args_agree vs (set_arg w.labels ν ι1 v.0 v.1) (set_arg w.labels κ ι2 v.0 v.1) q.1 (arg_agrees ι1 ι2 v.0 v.1 q.0 s)

-- ---- the callee

pub record IsCallee (w : World) (μ : Values) (target : Operand) (via : Option Name) (S : Signature) : Type 0 where
  pub name : Name
  pub named : callee_name w.decls target via ≡ Some name
  pub declared : signature_named w.decls name.bytes ≡ Some S
  pub code : w.codes (operand_value w.labels μ target) ≡ Some name.bytes

callee_is : (w : World) (ν μ : Values) (target : Operand) (via : Option Name) (S : Signature) (t : Word) → LabelsFit w → callee w.decls target via ≡ Some S
    → operand_value w.labels μ target ≡ value w.labels ν t → AreTrueFacts w ν (code_goals via t) → IsCallee w μ target via S
callee_is w ν μ target (Some name) S t fits e read facts = record { name = name; named = refl; declared = e; code = ap w.codes read ∙ facts.0 }
callee_is w ν μ (operand.Label f) None S t fits e read facts = by (label_signature w.decls f.bytes) refl e
  where
    by : (o : Option Name) → label_signature w.decls f.bytes ≡ o → named_signature w.decls o ≡ Some S → IsCallee w μ (operand.Label f) None S
    by None is e = absurd cc
    by (Some x) is e = record { name = x; named = is; declared = e; code = fits f.bytes x is }
callee_is w ν μ (operand.Number n) None S t fits e read facts = absurd cc
callee_is w ν μ (operand.Local x) None S t fits e read facts = absurd cc

count_of_code : (via : Option Name) (t : Word) → length (code_goals via t) ≡ code_count via
count_of_code None t = refl
count_of_code (Some name) t = refl

-- ---- the call

module _ (w : World) (F : Option Signature) (r : Rest) (known : IsKnownState r.state) (fits : LabelsFit w) (unfresh : AreUnfresh w.decls)
    (target : Operand) (via : Option Name) (operands : List Operand) (into : Name) (after : Assertion) (S : Signature)
    (is_callee : callee w.decls target via ≡ Some S) (vs : List (Name × Arg)) (vs_known : IsTrue (every (known_value r.state.next) vs))
    (ws : List Word) (are : operand_terms r.state.locals operands ≡ Some ws) (cs : List (ℕ × Atom)) (ls : List (Name × Word))
    (set : steps.set_local r.state.locals into (fresh_word r.state.next) ≡ Some ls) where
  abbrev s : SymState
  s = r.state

  abbrev ps : List (Name × Arg)
  ps = names_with S.params ws

  ps_known : IsTrue (every (known_value s.next) ps)
  ps_known = names_known s.next s.locals S.params operands ws known.locals are

  all_known : IsTrue (every (known_value s.next) (vs ++ ps))
  all_known = every-append (known_value s.next) vs ps vs_known ps_known

  -- the state that the rest goes on from, before the postcondition is opened
  abbrev left : SymState
  left = record s { locals = ls; atoms = atoms_left cs 1 s.atoms; next = s.next + 1 + length S.post.binders }

  abbrev σ : List (Name × Arg) → Instance
  σ us = with_answer (fresh_word s.next) (replacing us)

  abbrev opened_post : SymState
  opened_post = with_terms left (terms_with (σ ((vs ++ ps) ++ fresh_values S.post.binders (s.next + 1))) S.post.terms)

  abbrev ongoing : Rest
  ongoing = record { state = opened_post; actions = []; goal = goal.Meets after }

  module _ (ν μ : Values) (h : Memory) (holds : StateHolds w ν h s) (reads : ReadsLocals w.labels s.locals ν μ) where
    abbrev values : Values
    values = set_args w.labels ν ν vs

    abbrev params_set : Values
    params_set = set_words values S.params (map (operand_value w.labels μ) operands)

    params_are : params_set ≡ set_args w.labels ν ν (vs ++ ps)
    params_are =
        ap (set_words values S.params) (operands_read w.labels ν μ s.locals operands ws reads.locals are) ∙ words_given w.labels ν values S.params ws
        ∙ sym (set_args_append w.labels ν ν vs ps)

    -- the precondition holds on the part that the match takes
    pub pre_holds : (bs : List (Name × Arg)) (args : List DArg) (front : Memory) → to_values s.next S.pre.binders args ≡ Some bs → IsTrue (known_assertion 0 S.pre)
        → AreTrueTerms w.codes w.labels (meaning w holds.depth) ν (terms_with (replacing (vs ++ ps ++ bs)) S.pre.terms) front → Holds w params_set front S.pre
    pre_holds bs args front given pre_known terms =
        let all : set_args w.labels ν ν (vs ++ ps ++ bs) ≡ set_args w.labels ν params_set bs =
        set_args_append w.labels ν ν (vs ++ ps) bs ∙ ap (λ κ. set_args w.labels ν κ bs) (sym params_are) in
        under w ν μ front s reads holds.depth args params_set (λ us. replacing (vs ++ ps ++ us)) S.pre bs pre_known
        (subst (λ (κ : Values). SameButFresh κ (values_with (replacing (vs ++ ps ++ bs)) w.labels ν)) all (replacing_sets w.labels ν (vs ++ ps ++ bs))) given
        ((terms_true_with w.codes w.labels (replacing (vs ++ ps ++ bs)) ν (meaning w holds.depth) S.pre.terms front).0 terms)

    module _ (answer : ℕ) (small : answer < 4294967296) where
      abbrev answered : Values
      answered = set_word ν (Fresh s.next) answer

      agrees : AgreeBelow s.next ν answered
      agrees = agree_more s.next s.next answer ν ν (omega arith) (agree_self s.next ν)

      answer_is : (κ : Values) → AgreeBelow (s.next + 1) answered κ → wrap answer ≡ value w.labels κ (fresh_word s.next)
      answer_is κ g =
          let same : κ.words (Fresh s.next) ≡ answer = g.words (Fresh s.next) (λ n e. let z : s.next ≡ n = cc in omega arith) ∙ set_here ν s.next answer in
          ap wrap (sym same) ∙ sym (value_fresh w.labels κ s.next)

      -- the opened postcondition stands for the callee's values
      stands : (κ : Values) (us : List (Name × Arg)) → AgreeBelow (s.next + 1) answered κ
          → SameButFresh (set_args w.labels κ (set_word params_set Answer answer) us) (values_with (σ ((vs ++ ps) ++ us)) w.labels κ)
      stands κ us g =
          let low = agree_then s.next (s.next + 1) ν answered κ (omega arith) agrees g in
          let start : SameButFresh params_set (set_args w.labels κ κ (vs ++ ps)) =
          subst (λ (ι : Values). SameButFresh ι (set_args w.labels κ κ (vs ++ ps))) (sym params_are) (args_agree w s.next ν κ low (vs ++ ps) ν κ all_known (agree_but_fresh s.next ν κ low)) in
          let same : SameButFresh (set_args w.labels κ params_set us) (values_with (replacing ((vs ++ ps) ++ us)) w.labels κ) =
          same_then _ (set_args w.labels κ κ ((vs ++ ps) ++ us)) _
          (subst (λ (ι : Values). SameButFresh (set_args w.labels κ params_set us) ι) (sym (set_args_append w.labels κ κ (vs ++ ps) us)) (same_args w.labels κ params_set (set_args w.labels κ κ (vs ++ ps)) us start))
          (replacing_sets w.labels κ ((vs ++ ps) ++ us)) in
          let e : wrap answer ≡ wrap (value w.labels κ (fresh_word s.next)) = answer_is κ g ∙ sym (value-once w.labels κ (fresh_word s.next)) in
          same_then _ (set_word (set_args w.labels κ params_set us) Answer answer) _ (answer_last w.labels κ params_set answer us)
          (answer_sets w.labels κ (replacing ((vs ++ ps) ++ us)) (set_args w.labels κ params_set us) (fresh_word s.next) answer e same)

      -- what the callee gives back comes to the state
      pub returns_to : (back whole rest : Memory) → IsTrue (known_assertion 0 S.post) → Joins whole back rest → AreTrueAtoms w ν (meaning w holds.depth) (atoms_left cs 1 s.atoms) rest
          → Holds w (set_word params_set Answer answer) back S.post → Closes w F ongoing → Holds w (set_local μ into answer) whole after
      returns_to back whole rest post_known j kept (depth, is) closed =
          let o = assertion_opens w answered (meaning w depth) (s.next + 1) back σ (vs ++ ps) S.post (set_word params_set Answer answer) post_known stands is in
          let κ = o.values in
          let low = agree_then s.next (s.next + 1) ν answered κ (omega arith) agrees o.agree in
          let before : StateHolds w κ rest left = record {
            facts = facts_known w s.next ν κ low s.facts known.facts holds.facts;
            depth = holds.depth;
            atoms = atoms_known w s.next ν κ low (meaning w holds.depth) (atoms_left cs 1 s.atoms) rest (left_known (known_atom s.next) cs 1 s.atoms known.atoms) kept;
          } in
          let state = state_opened w κ left _ depth whole rest back (joins_comm j) before o.terms in
          let read = local_set w.labels κ μ into (fresh_word s.next) answer (answer_is κ o.agree) s.locals ls set (reads_known w s.next ν κ μ low s.locals known.locals reads) in
          closed κ (set_local μ into answer) whole state read

-- the rule at a call
pub call_closes : (w : World) (F : Option Signature) (r : Rest) (fits : LabelsFit w) (unfresh : AreUnfresh w.decls)
    (target : Operand) (via : Option Name) (operands : List Operand) (into : Name) (after : Assertion) (args : List DArg) (n : ℕ)
    → r.actions ≡ [] → r.goal ≡ goal.Calls target via operands into after → Every (ClosesBy w F r n) (call w.decls r target via operands into after args n)
call_closes w F r fits unfresh target via operands into after args n ended is_call S found size vs logical bs binders cs at ws are many t is_target different gs match ls set = (
  (
      let k = and_parts (length args == length S.logical + length S.pre.binders + count_of_atoms S.pre.terms) (n == code_count via + count_of_goals S.pre.terms + 1) size in
      let e = eqb-true n (code_count via + count_of_goals S.pre.terms + 1) k.1 in
      let c = count_of_code via t in
      let m = count_of_match (terms_with (replacing (vs ++ names_with S.params ws ++ bs)) S.pre.terms) cs gs match ∙ count_of_goals_with (replacing (vs ++ names_with S.params ws ++ bs)) S.pre.terms in
      let l = length-append (code_goals via t) gs in
      omega arith
      ),
  λ known proved closed ν μ h holds reads.
      let vs_known = values_known r.state.next S.logical (take (length S.logical) args) vs logical in
      let facts = facts_parts w ν (code_goals via t) gs (proved ν h holds) in
      let c = callee_is w ν μ target via S t fits found (operand_read w.labels ν μ r.state.locals target t reads.locals is_target) facts.0 in
      let declared = and_parts (known_assertion 0 S.pre) (known_assertion 0 S.post) (signature_unfresh w.decls (Some c.name) S unfresh c.declared) in
      let (front, back, j, terms, left) = match_splits w ν (meaning w holds.depth) r.state.atoms (terms_with (replacing (vs ++ names_with S.params ws ++ bs)) S.pre.terms) cs gs h
      (chosen_numbered r.state.atoms (drop (length S.logical + length S.pre.binders) args) cs at) different match facts.1 holds.atoms in
      let as_many : length operands ≡ length S.params =
      sym (length-map operands (operand_value w.labels μ)) ∙ ap length (operands_read w.labels ν μ r.state.locals operands ws reads.locals are) ∙ length-map ws (value w.labels ν)
      ∙ eqb-true (length ws) (length S.params) many in
      let holds_call : CallHolds w target via operands into after μ h = record {
        name = c.name;
        callee = S;
        named = c.named;
        declared = c.declared;
        count = as_many;
        code = c.code;
        values = set_args w.labels ν ν vs;
        given = front;
        rest = back;
        parts = j;
        pre = pre_holds w F r known.0 fits unfresh target via operands into after S found vs vs_known ws are cs ls set ν μ h holds reads bs
            (take (length S.pre.binders) (drop (length S.logical) args)) front binders declared.0 terms;
        goes_on = λ answer given whole small join post.
            returns_to w F r known.0 fits unfresh target via operands into after S found vs vs_known ws are cs ls set ν μ h holds reads answer small given whole back declared.1 join left post closed.0;
      } in
      let goal_holds : GoalHolds w F r.goal μ h = subst (λ (g : Goal). GoalHolds w F g μ h) (sym is_call) holds_call in
      subst (λ (as' : List Action). After w.labels as' (GoalHolds w F r.goal) μ h) (sym ended) goal_holds,
)
