-- What a step goes on with is known again, and its goal holds no fresh variable.
use Rattle.std.proofs.Common.{◌≡◌, ℕ, ◌+◌, ◌-◌, ◌≤◌, Bool, true, false, IsTrue, if◌then◌else◌, List, [], ◌∷◌, ◌++◌, length, take, drop, Option, Some, None, refl, ◌∙◌, subst, arith}
use Rattle.std.specs.Prelude.{bytes_eq}
use Rattle.std.proofs.lemmas.Bool.{and_parts, and_from}
use Rattle.bed_machine.proofs.WordLaws.{some_same}
use Rattle.bed_lang.specs.declared.word.Name.{Name}
use Rattle.bed_lang.specs.declared.word.Var.TheVariants as var
use Rattle.bed_lang.specs.declared.word.Word.{Word}
use Rattle.bed_lang.specs.declared.logic.Arg.{Arg}
use Rattle.bed_lang.specs.declared.logic.Pure.{Pure}
use Rattle.bed_lang.specs.declared.logic.Pure.TheVariants as pure
use Rattle.bed_lang.specs.declared.logic.Atom.{Atom}
use Rattle.bed_lang.specs.declared.logic.Atom.TheVariants as atom
use Rattle.bed_lang.specs.declared.logic.Assertion.{Assertion}
use Rattle.bed_lang.specs.declared.module.Signature.{Signature}
use Rattle.bed_lang.specs.declared.module.Rel.{Rel}
use Rattle.bed_lang.specs.declared.module.Rel.TheVariants as rel
use Rattle.bed_lang.specs.declared.module.Operand.{Operand}
use Rattle.bed_lang.specs.declared.module.Operand.TheVariants as operand
use Rattle.bed_lang.specs.declared.module.Action.{Action}
use Rattle.bed_lang.specs.declared.module.Action.TheVariants as action
use Rattle.bed_lang.specs.declared.condition.Decls.{Decls}
use Rattle.bed_lang.specs.declared.condition.Goal.{Goal}
use Rattle.bed_lang.specs.declared.condition.Goal.TheVariants as goal
use Rattle.bed_lang.specs.Instances.{Instance}
use Rattle.bed_lang.specs.Lookups.{label_signature}
use Rattle.bed_deriv.specs.declared.derivation.DArg.{DArg}
use Rattle.bed_deriv.specs.declared.state.SymState.{SymState}
use Rattle.bed_deriv.specs.Arguments.{number_at, atom_at}
use Rattle.bed_deriv.specs.Fresh.{every, known_word, known_pure, known_atom, known_local, known_value, known_assertion, unfresh_goal, IsKnownState, AreUnfresh}
use Rattle.bed_deriv.specs.HeapRules.{fresh_word}
use Rattle.bed_deriv.specs.Matches.{atoms_left}
use Rattle.bed_deriv.specs.Opening.{replacing, with_answer, fresh_values}
use Rattle.bed_deriv.specs.Steps as steps
use Rattle.bed_deriv.specs.Steps.{operand_term, with_term, with_local, with_result, relation, put_at, with_atom_at, assign, compute, computed, load, store, stored_byte, store_byte, assume, act, names_with, callee, call, step_of_goal, step_along}
use Rattle.bed_deriv.specs.declared.rest.Rest.{Rest}
use Rattle.bed_deriv.specs.declared.rest.Onward.{Onward}
use Rattle.bed_deriv.proofs.StartLaws.{below, binders-known}
use Rattle.bed_deriv.proofs.KnownLaws.{known-Var, replacing-known, answer-known, every-append}
use Rattle.bed_check_pure.proofs.RuleLaws.{numbered_at}
use Rattle.bed_check_heap.proofs.FreshLaws.{every_taken}
use Rattle.bed_check_heap.proofs.KeepLaws.{Every}
use Rattle.bed_check_cond.proofs.DeclaredLaws.{signature_unfresh}
use Rattle.bed_check_cond.proofs.EndLaws.{IsKnownRest}
use Rattle.bed_check_cond.proofs.KnownLaws.{values_known, operand_known, names_known, left_known}
use Rattle.bed_check_cond.proofs.MoreLaws.{more_word, facts_more, atoms_more, locals_more, values_more}
use Rattle.bed_check_cond.proofs.FormKnownLaws.{computed_known}
use Rattle.bed_check_cond.proofs.GrownLaws.{every_at, every_take, every_drop, fact_grown, opened_grown, cell_known, byte_known}

-- ---- locals

term_set : (next : ℕ) (ls : List (Name × Word)) (x : Name) (t : Word) → IsTrue (known_word next t) → IsTrue (every (known_local next) ls) → IsTrue (every (known_local next) (with_term ls x t))
term_set next [] x t k q = refl
term_set next (l ∷ ls) x t k q =
    let h = and_parts (known_local next l) (every (known_local next) ls) q in
    and_from (known_word next (if bytes_eq l.0.bytes x.bytes then (l.0, t) else l).1) (every (known_local next) (with_term ls x t)) (by (bytes_eq l.0.bytes x.bytes) h.0) (term_set next ls x t k h.1)
  where
    by : (b : Bool) → IsTrue (known_word next l.1) → IsTrue (known_word next (if b then (l.0, t) else l).1)
    by true one = k
    by false one = one

for_some : {A : Type 0} (o : Option Word) (x y : A) → steps.for_local o x ≡ Some y → x ≡ y
for_some None x y e = absurd cc
for_some (Some t) x y e = some_same e

local_set_known : (next : ℕ) (ls out : List (Name × Word)) (x : Name) (t : Word) → steps.set_local ls x t ≡ Some out → IsTrue (known_word next t) → IsTrue (every (known_local next) ls)
    → IsTrue (every (known_local next) out)
local_set_known next ls out x t e k q =
    subst (λ (zs : List (Name × Word)). IsTrue (every (known_local next) zs)) (for_some (steps.local_term ls x.bytes) (with_term ls x t) out e) (term_set next ls x t k q)

-- ---- rests

abbrev pub AllKnown : List Rest → Type 0
AllKnown [] = Unit {0}
AllKnown (r ∷ rs) = IsKnownRest r × AllKnown rs

module _ (d : Decls) (unfresh : AreUnfresh d) (r : Rest) (known : IsKnownState r.state) (goal_known : IsTrue (unfresh_goal r.goal)) where
  abbrev s : SymState
  s = r.state

  abbrev By : Onward → Type 0
  By o = AllKnown o.rests

  with_locals : (ls : List (Name × Word)) → IsTrue (every (known_local s.next) ls) → IsKnownState (record s { locals = ls })
  with_locals ls k = record { locals = k; facts = known.facts; atoms = known.atoms }

  assigned : (x : Name) (t : Word) (goals : List Pure) → IsTrue (known_word s.next t) → Every By (with_local r s x t goals)
  assigned x t goals k ls set = ((with_locals ls (local_set_known s.next s.locals ls x t set k known.locals), goal_known), tt)

  resulted : (x : Name) (o : Option Word) → ((t : Word) → o ≡ Some t → IsTrue (known_word s.next t)) → Every By (with_result r x o)
  resulted x (Some t) k = assigned x t [] (k t refl)
  resulted x None k = λ ls set.
      let m = s.next + 1 in
      let le : s.next ≤ m = omega arith in
      let fresh : IsTrue (known_word m (fresh_word s.next)) = known-Var m (var.Fresh s.next) ∙ below s.next m (omega arith) in (
        (
          record {
            locals = local_set_known m s.locals ls x (fresh_word s.next) set fresh (locals_more s.next m le s.locals known.locals);
            facts = facts_more s.next m le s.facts known.facts;
            atoms = atoms_more s.next m le s.atoms known.atoms;
          },
          goal_known,
        ),
        tt,
      )

  atom_known : (args : List DArg) (a : Atom) → atom_at s args 0 ≡ Some a → IsTrue (known_atom s.next a)
  atom_known args a at = let (k, listed) = numbered_at s.atoms (number_at args 0) a at in (every_taken (known_atom s.next) s.atoms k a listed known.atoms).0

  atom_put : (m : ℕ) (i : ℕ) (y : Atom) → s.next ≤ m → IsTrue (known_atom m y) → IsTrue (every (known_atom m) (put_at (i - 1) y s.atoms))
  atom_put m i y le k =
      let all = atoms_more s.next m le s.atoms known.atoms in
      every-append (known_atom m) (take (i - 1) s.atoms) (y ∷ drop (i - 1 + 1) s.atoms) (every_take (known_atom m) (i - 1) s.atoms all)
      (and_from (known_atom m y) (every (known_atom m) (drop (i - 1 + 1) s.atoms)) k (every_drop (known_atom m) (i - 1 + 1) s.atoms all))

  stored_known : (i : ℕ) (a : Atom) (e content : Word) (goals : List Pure) → IsTrue (known_word s.next e) → (k : Bool) → (place : Word) → IsTrue (known_word s.next content) → Every By (stored_byte r i e place content k)
  stored_known i a e content goals k true place q = (
    (
      record { locals = known.locals; facts = known.facts; atoms = atom_put s.next i (atom.Byte e content) (omega arith) (and_from (known_word s.next e) (known_word s.next content) k q) },
      goal_known,
    ),
    tt,
  )
  stored_known i a e content goals k false place q =
      let m = s.next + 1 in
      let le : s.next ≤ m = omega arith in
      let fresh : IsTrue (known_word m (fresh_word s.next)) = known-Var m (var.Fresh s.next) ∙ below s.next m (omega arith) in (
        (
          record {
            locals = locals_more s.next m le s.locals known.locals;
            facts = facts_more s.next m le s.facts known.facts;
            atoms = atom_put m i (atom.Byte e (fresh_word s.next)) le (and_from (known_word m e) (known_word m (fresh_word s.next)) (more_word s.next m le e k) fresh);
          },
          goal_known,
        ),
        tt,
      )

  related : (o : Rel) (a b : Word) → IsTrue (known_word s.next a) → IsTrue (known_word s.next b) → IsTrue (known_pure s.next (relation o a b))
  related rel.Equal a b k q = and_from (known_word s.next a) (known_word s.next b) k q
  related rel.Unequal a b k q = and_from (known_word s.next a) (known_word s.next b) k q
  related rel.Less a b k q = and_from (known_word s.next a) (known_word s.next b) k q
  related rel.AtMost a b k q = and_from (known_word s.next a) (known_word s.next b) k q

  of : (a : Operand) (t : Word) → operand_term s.locals a ≡ Some t → IsTrue (known_word s.next t)
  of a t e = operand_known s.next s.locals a t known.locals e

  act_known : (a : Action) (args : List DArg) (n : ℕ) → Every By (act r a args n)
  act_known (action.Assign x a) args n = λ c t is. assigned x t [] (of a t is)
  act_known (action.Compute x o a b) args n = λ c t first u second. resulted x (computed o t u) (λ v is. computed_known s.next o t u v (of a t first) (of b u second) is)
  act_known (action.Load x p) args n = λ c a at b is t place. assigned x b.1 (pure.Equal b.0 t ∷ []) (cell_known d unfresh s known a b is (atom_known args a at)).1
  act_known (action.LoadByte x p) args n = λ c a at b is t place. assigned x b.1 (pure.Equal b.0 t ∷ []) (byte_known d unfresh s known a b is (atom_known args a at)).1
  act_known (action.Store p b) args n = λ c i number a at e is t place u content.
      let k = (cell_known d unfresh s known a e is (every_at (known_atom s.next) s i a at known.atoms)).0 in (
        (
          record { locals = known.locals; facts = known.facts; atoms = atom_put s.next i (atom.Cell e.0 u) (omega arith) (and_from (known_word s.next e.0) (known_word s.next u) k (of b u content)) },
          goal_known,
        ),
        tt,
      )
  act_known (action.StoreByte p b) args n = λ two k is_flag size i number a at e is t place u content.
      stored_known i a e.0 u [] (byte_known d unfresh s known a e is (every_at (known_atom s.next) s i a at known.atoms)).0 k t (of b u content)
  act_known (action.Assume t) args n = λ c a left b right. (((fact_grown s known (relation t.rel a b) (related t.rel a b (of t.left a left) (of t.right b right))).known, goal_known), tt)

  -- ---- calls

  callee_known : (target : Operand) (via : Option Name) (S : Signature) → callee d target via ≡ Some S → IsTrue (known_assertion 0 S.post)
  callee_known target (Some name) S e = (and_parts (known_assertion 0 S.pre) (known_assertion 0 S.post) (signature_unfresh d (Some name) S unfresh e)).1
  callee_known (operand.Label f) None S e = (and_parts (known_assertion 0 S.pre) (known_assertion 0 S.post) (signature_unfresh d (label_signature d f.bytes) S unfresh e)).1
  callee_known (operand.Number n) None S e = absurd cc
  callee_known (operand.Local x) None S e = absurd cc

  call_known : (target : Operand) (via : Option Name) (operands : List Operand) (into : Name) (after : Assertion) (args : List DArg) (n : ℕ) → IsTrue (known_assertion 0 after)
      → Every By (call d r target via operands into after args n)
  call_known target via operands into after args n after_known S found size vs logical bs binders cs at ws are many t is_target different gs match ls set =
      let m = s.next + 1 in
      let le : s.next ≤ m = omega arith in
      let answer = fresh_word s.next in
      let fresh : IsTrue (known_word m answer) = known-Var m (var.Fresh s.next) ∙ below s.next m (omega arith) in
      let left : SymState = record s { locals = ls; atoms = atoms_left cs 1 s.atoms; next = m } in
      let is_left : IsKnownState left = record {
        locals = local_set_known m s.locals ls into answer set fresh (locals_more s.next m le s.locals known.locals);
        facts = facts_more s.next m le s.facts known.facts;
        atoms = atoms_more s.next m le (atoms_left cs 1 s.atoms) (left_known (known_atom s.next) cs 1 s.atoms known.atoms);
      } in
      let vs_known = values_known s.next S.logical (take (length S.logical) args) vs logical in
      let ps_known = names_known s.next s.locals S.params operands ws known.locals are in
      let k = m + length S.post.binders in
      let all : IsTrue (every (known_value k) ((vs ++ names_with S.params ws) ++ fresh_values S.post.binders m)) =
      every-append (known_value k) (vs ++ names_with S.params ws) (fresh_values S.post.binders m)
      (values_more s.next k (omega arith) (vs ++ names_with S.params ws) (every-append (known_value s.next) vs (names_with S.params ws) vs_known ps_known)) (binders-known S.post.binders m k (omega arith)) in
      let σ : List (Name × Arg) → Instance = λ us. with_answer answer (replacing us) in
      let g = opened_grown left is_left σ (vs ++ names_with S.params ws) S.post (callee_known target via S found)
      (answer-known k (replacing ((vs ++ names_with S.params ws) ++ fresh_values S.post.binders m)) answer (replacing-known k ((vs ++ names_with S.params ws) ++ fresh_values S.post.binders m) all) (more_word m k (omega arith) answer fresh)) in
      ((g.known, after_known), tt)

  goal_step_known : (g : Goal) (args : List DArg) (n : ℕ) → IsTrue (unfresh_goal g) → Every By (step_of_goal d r g args n)
  goal_step_known (goal.Meets A) args n k = tt
  goal_step_known (goal.Returns a) args n k = tt
  goal_step_known (goal.Calls target via operands into after) args n k = call_known target via operands into after args n k

  pub step_known : (as' : List Action) (args : List DArg) (n : ℕ) → Every By (step_along d r as' args n)
  step_known [] args n = goal_step_known r.goal args n goal_known
  step_known (a ∷ more) args n = act_known a args n
