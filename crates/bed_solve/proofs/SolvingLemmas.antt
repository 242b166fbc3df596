-- Steps of solving, made one after the other.
use Rattle.std.proofs.Common.{◌≡◌, ℕ, zero, suc, ◌+◌, ◌-◌, ◌<◌, ◌≤◌, List, [], ◌∷◌, ◌++◌, map, take, length, get_or, Option, Some, None, Result, Ok, Err, IfOk, refl, ap, sym, ◌∙◌, subst, arith}
use Rattle.std.proofs.lemmas.List.{take_more, take_all}
use Rattle.std.specs.declared.alloc.AllocError.{AllocError}
use Rattle.bed_lang.specs.declared.word.Var.{Var}
use Rattle.bed_lang.specs.declared.logic.Arg.{Arg}
use Rattle.bed_lang.specs.declared.logic.Pure.{Pure}
use Rattle.bed_deriv.specs.declared.derivation.Deriv.{Deriv}
use Rattle.bed_deriv.specs.declared.state.SymState.{SymState}
use Rattle.bed_deriv.specs.Opening.{replaced_fact}
use Rattle.bed_plain.specs.declared.solved.Solved.{Solved}
use Rattle.bed_plain.specs.Trees.{Choice, node}
use Rattle.bed_plain.specs.Solving.{setting, first_step, solving_after, solving_within, solving, state_after, read_with, goal_after, solved, solved_goal, solving_tree}
use Rattle.bed_solve.specs.declared.solution.Solution.{Solution}
use Rattle.bed_solve.specs.Solutions.{choices, reading_alone, readings, IsSolution, unsolved, with_step, read_all, under}

-- a solution so far, and what is left of solving: together they are the whole
pub record IsPart (s : SymState) (x : Solution) (taken : List ℕ) (left : ℕ) : Type 0 where
  pub nodes : x.nodes ++ choices (solving_within left taken x.state) ≡ choices (solving s)
  pub values : x.readings ++ readings (solving_within left taken x.state) ≡ readings (solving s)
  pub state : state_after x.state (solving_within left taken x.state) ≡ solved s

pub begun : (s : SymState) → IsPart s (unsolved s) [] 4294967296
unfolding solving
begun s = record { nodes = refl; values = refl; state = refl }

append_nil : {A : Type 0} (xs : List A) → xs ++ [] ≡ xs
append_nil [] = refl
append_nil (x ∷ xs) = ap (λ ys. x ∷ ys) (append_nil xs)

append_more : {A : Type 0} (xs ys zs : List A) → (xs ++ ys) ++ zs ≡ xs ++ (ys ++ zs)
append_more [] ys zs = refl
append_more (x ∷ xs) ys zs = ap (λ l. x ∷ l) (append_more xs ys zs)

ended : (s : SymState) (x : Solution) (taken : List ℕ) (left : ℕ) → IsPart s x taken left → solving_within left taken x.state ≡ [] → IsSolution s x
ended s x taken left part none = record {
  nodes = sym (append_nil x.nodes) ∙ ap (λ l. x.nodes ++ choices l) (sym none) ∙ part.nodes;
  values = sym (append_nil x.readings) ∙ ap (λ l. x.readings ++ readings l) (sym none) ∙ part.values;
  state = ap (state_after x.state) (sym none) ∙ part.state;
}

none_within : (n : ℕ) (taken : List ℕ) (s : SymState) → first_step s taken 1 s.facts ≡ None → solving_within n taken s ≡ []
unfolding solving_within
none_within zero taken s e = refl
none_within (suc n) taken s e = ap (solving_after (solving_within n) taken) e

some_within : (n : ℕ) (taken : List ℕ) (s : SymState) (y : Solved) → first_step s taken 1 s.facts ≡ Some y
    → solving_within (suc n) taken s ≡ y ∷ solving_within n (taken ++ y.fact ∷ []) y.state
unfolding solving_within
some_within n taken s y e = ap (solving_after (solving_within n) taken) e

zero_within : (taken : List ℕ) (s : SymState) → solving_within 0 taken s ≡ []
unfolding solving_within
zero_within taken s = refl

-- no step is left; or no more steps are allowed
pub rests : (s : SymState) (x : Solution) (taken : List ℕ) (left : ℕ) → IsPart s x taken left → first_step x.state taken 1 x.state.facts ≡ None → IsSolution s x
rests s x taken left part e = ended s x taken left part (none_within left taken x.state e)

pub spent : (s : SymState) (x : Solution) (taken : List ℕ) (left : ℕ) → IsPart s x taken left → left ≡ 0 → IsSolution s x
spent s x taken left part e = ended s x taken left part (ap (λ n. solving_within n taken x.state) e ∙ zero_within taken x.state)

on : (s : SymState) (x : Solution) (taken : List ℕ) (n : ℕ) (y : Solved) → IsPart s x taken (suc n) → first_step x.state taken 1 x.state.facts ≡ Some y
    → IsPart s (with_step x y) (taken ++ y.fact ∷ []) n
on s x taken n y part e =
    let is = some_within n taken x.state y e in
    record {
      nodes = append_more x.nodes ((y.rule, y.args) ∷ []) (choices (solving_within n (taken ++ y.fact ∷ []) y.state)) ∙ ap (λ l. x.nodes ++ choices l) (sym is) ∙ part.nodes;
      values = append_more x.readings (reading_alone y.reading) (readings (solving_within n (taken ++ y.fact ∷ []) y.state)) ∙ ap (λ l. x.readings ++ readings l) (sym is) ∙ part.values;
      state = ap (state_after x.state) (sym is) ∙ part.state;
    }

-- one step more
pub goes_on : (s : SymState) (x : Solution) (taken : List ℕ) (left : ℕ) (y : Solved) → IsPart s x taken left → 0 < left
    → first_step x.state taken 1 x.state.facts ≡ Some y → IsPart s (with_step x y) (taken ++ y.fact ∷ []) (left - 1)
goes_on s x taken zero y part some e = absurd (omega arith)
goes_on s x taken (suc n) y part some e = subst (λ m. IsPart s (with_step x y) (taken ++ y.fact ∷ []) m) (omega arith) (on s x taken n y part e)

-- a goal read with the values is the goal after the steps
read_append : (xs ys : List (Var × Arg)) (g : Pure) → read_all (xs ++ ys) g ≡ read_all ys (read_all xs g)
read_append [] ys g = refl
read_append (x ∷ xs) ys g = read_append xs ys (replaced_fact (setting x) g)

read_one : (o : Option (Var × Arg)) (g : Pure) → read_all (reading_alone o) g ≡ read_with o g
read_one None g = refl
read_one (Some x) g = refl

read_steps : (xs : List Solved) (g : Pure) → read_all (readings xs) g ≡ goal_after xs g
read_steps [] g = refl
read_steps (x ∷ xs) g = read_append (reading_alone x.reading) (readings xs) g ∙ ap (read_all (readings xs)) (read_one x.reading g) ∙ read_steps xs (read_with x.reading g)

pub goal_is : (s : SymState) (x : Solution) (g : Pure) → IsSolution s x → read_all x.readings g ≡ solved_goal s g
goal_is s x g is = ap (λ l. read_all l g) is.values ∙ read_steps (solving s) g

-- a tree below the nodes is that below the steps
under_steps : (xs : List Solved) (t : Deriv) → under (choices xs) t ≡ solving_tree xs t
under_steps [] t = refl
under_steps (x ∷ xs) t = ap (λ u. node x.rule x.args (u ∷ [])) (under_steps xs t)

pub tree_is : (s : SymState) (x : Solution) (t : Deriv) → IsSolution s x → under x.nodes t ≡ solving_tree (solving s) t
tree_is s x t is = ap (λ l. under l t) is.nodes ∙ under_steps (solving s) t

pub under_append : (cs : List Choice) (c : Choice) (t : Deriv) → under (cs ++ c ∷ []) t ≡ under cs (node c.0 c.1 (t ∷ []))
under_append [] c t = refl
under_append (d ∷ ds) c t = ap (λ u. node d.0 d.1 (u ∷ [])) (under_append ds c t)

-- ---- clauses of the calls

pub goal_ok : (x : Solution) (l : List (Var × Arg)) (g : Pure) (r : Result Pure AllocError) → l ≡ x.readings → IfOk r (λ h. h ≡ read_all l g) → (s : SymState) → IsSolution s x → IfOk r (λ h. h ≡ solved_goal s g)
goal_ok x l g (Ok h) same e s is = e ∙ ap (λ k. read_all k g) same ∙ goal_is s x g is
goal_ok x l g (Err n) same e s is = e

pub tree_ok : (x : Solution) (l : List Choice) (t : Deriv) (r : Result Deriv AllocError) → l ≡ x.nodes → IfOk r (λ u. u ≡ under l t) → (s : SymState) → IsSolution s x → IfOk r (λ u. u ≡ solving_tree (solving s) t)
tree_ok x l t (Ok u) same e s is = e ∙ ap (λ k. under k t) same ∙ tree_is s x t is
tree_ok x l t (Err n) same e s is = e

-- ---- a goal in a list of one

pub set_more : (rs : List (Var × Arg)) (i : ℕ) (r : Var × Arg) (g : Pure) (gs hs : List Pure) → i < length rs → r ≡ get_or rs i r → gs ≡ read_all (take i rs) g ∷ []
    → hs ≡ map (replaced_fact (setting r)) gs → hs ≡ read_all (take (i + 1) rs) g ∷ []
set_more rs i r g gs hs lt is before e =
    let next : read_all (take (i + 1) rs) g ≡ replaced_fact (setting r) (read_all (take i rs) g) =
    ap (λ l. read_all l g) (take_more rs i r lt ∙ ap (λ x. take i rs ++ x ∷ []) (sym is)) ∙ read_append (take i rs) (r ∷ []) g in
    e ∙ ap (map (replaced_fact (setting r))) before ∙ ap (λ h. h ∷ []) (sym next)

pub set_all : (rs : List (Var × Arg)) (i : ℕ) (g : Pure) (gs : List Pure) → length rs ≤ i → gs ≡ read_all (take i rs) g ∷ [] → gs ≡ read_all rs g ∷ []
set_all rs i g gs le e = e ∙ ap (λ l. read_all l g ∷ []) (take_all i rs le)

pub first_told : (h : Pure) (gs : List Pure) (r : Result Pure AllocError) → gs ≡ h ∷ [] → IfOk r (λ x. (g : Pure) → gs ≡ g ∷ [] → x ≡ g) → IfOk r (λ x. x ≡ h)
first_told h gs (Ok x) is f = f h is
first_told h gs (Err e) is f = f

-- ---- a tree below nodes, from the last node on

pub under_more : (cs : List Choice) (n : ℕ) (c : Choice) (t u whole : Deriv) → 0 < n → n ≤ length cs → c ≡ get_or cs (n - 1) c → under (take n cs) t ≡ whole → u ≡ node c.0 c.1 (t ∷ [])
    → under (take (n - 1) cs) u ≡ whole
under_more cs n c t u whole some le is before e =
    let one : take n cs ≡ take (n - 1) cs ++ c ∷ [] =
    ap (λ m. take m cs) (let r : n ≡ (n - 1) + 1 = omega arith in r) ∙ take_more cs (n - 1) c (omega arith) ∙ ap (λ x. take (n - 1) cs ++ x ∷ []) (sym is) in
    ap (under (take (n - 1) cs)) e ∙ sym (under_append (take (n - 1) cs) c t) ∙ ap (λ l. under l t) (sym one) ∙ before

pub under_all : (cs : List Choice) (t : Deriv) → under (take (length cs) cs) t ≡ under cs t
under_all cs t = ap (λ l. under l t) (take_all (length cs) cs (omega arith))

-- ---- the loop of solving

pub begun_at : (s : SymState) (x : Solution) (taken : List ℕ) → x ≡ unsolved s → taken ≡ [] → IsPart s x taken 4294967296
begun_at s x taken e none =
    subst (λ ts. IsPart s x ts 4294967296) (sym none) (subst (λ y. IsPart s y [] 4294967296) (sym e) (begun s))

pub goes_to : (s : SymState) (x : Solution) (taken : List ℕ) (left : ℕ) (y : Solved) (z : Solution) (more : List ℕ) → IsPart s x taken left → 0 < left
    → first_step x.state taken 1 x.state.facts ≡ Some y → z ≡ with_step x y → more ≡ taken ++ y.fact ∷ [] → IsPart s z more (left - 1)
goes_to s x taken left y z more part some e is then' =
    subst (λ ts. IsPart s z ts (left - 1)) (sym then') (subst (λ w. IsPart s w (taken ++ y.fact ∷ []) (left - 1)) (sym is) (goes_on s x taken left y part some e))
