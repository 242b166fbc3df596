-- The state that a condition opens is known: each fresh variable in it has a number below its next one.
use Rattle.std.proofs.Common.{◌≡◌, ℕ, zero, suc, ◌+◌, ◌-◌, ◌<◌, ◌≤◌, true, nat_lt, List, [], ◌∷◌, ◌++◌, length, Result, Ok, Err, IfOk, refl, sym, ◌∙◌, subst, arith}
use Rattle.std.specs.declared.alloc.AllocError.{AllocError}
use Rattle.std.proofs.lemmas.Bool.{and_parts, and_from}
use Rattle.bed_lang.specs.declared.word.Name.{Name}
use Rattle.bed_lang.specs.declared.word.Sort.{Sort}
use Rattle.bed_lang.specs.declared.word.Sort.TheVariants as sort
use Rattle.bed_lang.specs.declared.word.Var.TheVariants as var
use Rattle.bed_lang.specs.declared.word.Word.{Word}
use Rattle.bed_lang.specs.declared.logic.Arg.{Arg}
use Rattle.bed_lang.specs.declared.logic.Term.{Term}
use Rattle.bed_lang.specs.declared.logic.Term.TheVariants as term
use Rattle.bed_lang.specs.declared.logic.Bind.{Bind}
use Rattle.bed_lang.specs.declared.logic.Assertion.{Assertion}
use Rattle.bed_lang.specs.declared.condition.Decls.{Decls}
use Rattle.bed_lang.specs.declared.condition.Cond.{Cond}
use Rattle.bed_lang.specs.Keys.{bare_name}
use Rattle.bed_lang.specs.Instances.{terms_with}
use Rattle.bed_deriv.specs.declared.state.SymState.{SymState}
use Rattle.bed_deriv.specs.Fresh.{every, known_pure, known_atom, known_term, known_local, known_value, known_assertion, IsKnownState, unfresh_condition, unfresh_goal}
use Rattle.bed_deriv.specs.Opening.{facts_of, atoms_of, fresh_value, fresh_values, local_values, first_locals, arguments_of, replacing, opened_alone, started}
use Rattle.bed_deriv.proofs.KnownLaws.{every-append, known-Var, known_seq-Var, replacing-known, facts-opened, atoms-opened}

pub below : (n next : ℕ) → n < next → nat_lt n next ≡ true
below n next l = grind arith

-- the locals of a start are known below their count
pub locals-known : (xs : List Name) (k n next : ℕ) → n + (length xs - k) ≤ next → every (known_local next) (first_locals xs k n) ≡ true
locals-known [] k n next l = refl
locals-known (x ∷ xs) (suc k) n next l =
    and_from _ _ (known-Var next (var.Old (bare_name x))) (locals-known xs k n next (omega arith))
locals-known (x ∷ xs) zero n next l =
    and_from _ _ (known-Var next (var.Fresh n) ∙ below n next (omega arith)) (locals-known xs zero (n + 1) next (omega arith))

local_values-known : (ls : List (Name × Word)) (next : ℕ) → every (known_local next) ls ≡ true → every (known_value next) (local_values ls) ≡ true
local_values-known [] next h = refl
local_values-known (l ∷ ls) next h =
    let b = and_parts (known_local next l) (every (known_local next) ls) h in and_from _ _ b.0 (local_values-known ls next b.1)

fresh-known : (s : Sort) (x : Name) (n next : ℕ) → n < next → known_value next (x, fresh_value s n) ≡ true
fresh-known sort.Word x n next l = known-Var next (var.Fresh n) ∙ below n next l
fresh-known sort.Seq x n next l = known_seq-Var next (var.Fresh n) ∙ below n next l

pub binders-known : (bs : List Bind) (n next : ℕ) → n + length bs ≤ next → every (known_value next) (fresh_values bs n) ≡ true
binders-known [] n next l = refl
binders-known (b ∷ bs) n next l =
    and_from _ _ (fresh-known b.sort b.name n next (omega arith)) (binders-known bs (n + 1) next (omega arith))

opened-known : (ls : List (Name × Word)) (n : ℕ) (A : Assertion) → every (known_local (n + length A.binders)) ls ≡ true
    → known_assertion 0 A ≡ true → IsKnownState (opened_alone ls n A)
opened-known ls n A h k = record { locals = h; facts = facts-opened next (replacing vs) (replacing-known next vs known) A.terms k; atoms = atoms-opened next (replacing vs) (replacing-known next vs known) A.terms k }
  where
    next : ℕ
    next = n + length A.binders

    vs : List (Name × Arg)
    vs = local_values ls ++ fresh_values A.binders n

    known : every (known_value (n + length A.binders)) (local_values ls ++ fresh_values A.binders n) ≡ true
    known = every-append (known_value (n + length A.binders)) (local_values ls) (fresh_values A.binders n)
        (local_values-known ls (n + length A.binders) h) (binders-known A.binders n (n + length A.binders) (omega arith))

pub started-known : (c : Cond) (d : Decls) → unfresh_condition c ≡ true → IsKnownState (started c d)
started-known c d h =
    let k = arguments_of c d in
    opened-known (first_locals c.locals k 0) (length c.locals - k) c.start
    (locals-known c.locals k 0 (length c.locals - k + length c.start.binders) (omega arith))
    (and_parts (known_assertion 0 c.start) (unfresh_goal c.goal) h).0

pub started-known_ok : (c : Cond) (d : Decls) (r : Result SymState AllocError) → unfresh_condition c ≡ true
    → IfOk r (λ s. s ≡ started c d) → IfOk r (λ s. IsKnownState s)
started-known_ok c d (Ok s) h e = subst (λ (t : SymState). IsKnownState t) (sym e) (started-known c d h)
started-known_ok c d (Err x) h e = e
