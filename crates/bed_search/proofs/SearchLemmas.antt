-- The search's answers from those of the calls that it makes: lemmas over a call's answer and what it is.
use Rattle.std.proofs.Common.{◌≡◌, ℕ, ◌+◌, ◌-◌, ◌≤◌, ◌<◌, max, ◌⊎◌, inl, inr, List, [], ◌∷◌, ◌++◌, Bool, true, false, ◌&&◌, map, length, get_or, take, drop, Option, Some, None, Result, Ok, Err, IfOk, refl, ap, sym, ◌∙◌, subst, arith}
use Rattle.std.proofs.lemmas.List.{take_all}
use Rattle.std.specs.declared.alloc.AllocError.{AllocError}
use Rattle.bed_lang.specs.declared.word.Name.{Name}
use Rattle.bed_lang.specs.declared.logic.Arg.{Arg}
use Rattle.bed_deriv.specs.declared.derivation.Rule.TheVariants as rule
use Rattle.bed_deriv.specs.declared.derivation.Deriv.{Deriv}
use Rattle.bed_deriv.specs.declared.state.SymState.{SymState}
use Rattle.bed_deriv.specs.declared.rest.Rest.{Rest}
use Rattle.bed_deriv.specs.declared.rest.Task.{Task}
use Rattle.bed_deriv.specs.declared.rest.Task.TheVariants.{Proves, Closes}
use Rattle.bed_deriv.specs.Checks.{has_room, have_room}
use Rattle.bed_deriv.specs.Steps.{rest_states}
use Rattle.bed_search.specs.declared.ahead.Todo.{Todo}
use Rattle.bed_search.specs.declared.tree.Measured.{Measured}
use Rattle.bed_search.specs.declared.layers.Falsity.{Falsity}
use Rattle.bed_search.specs.declared.layers.Falsity.TheVariants.{Shown, TooLarge, Not}
use Rattle.bed_search.specs.declared.layers.Step.{Step}
use Rattle.bed_plain.specs.Trees.{AllOf, node, nodes, nesting, total, greatest}
use Rattle.bed_search.specs.Given.{Gives, given_by, given_at, given_value, gives_behind}
use Rattle.bed_search.specs.Procedure.{Ways, ClosesTask, IsNode, ClosesBy}
use Rattle.bed_search.specs.Answers.{IsRefused, AreRefused, IsMeasured, AnswersTree}
use Rattle.bed_search.specs.Layers.{Refutes, PicksOnly, Opens, Steps, AnswersNode, AnswersTrees, Done}
use Rattle.bed_search.proofs.RefusedLaws.{total-append, greatest-append, nothing_small}
use Rattle.bed_search.proofs.SearchLaws.{onward, stuck, node_answers, never_answers, never_refused, gives_on, picked, no_step}

-- ---- what a slice's pattern leaves, and what a test says

pub list_is : {A : Type 0} (xs : List A) (x : A) → x ≡ get_or xs 0 x → 1 ≤ length xs → xs ≡ x ∷ take (length xs - 1) (drop 1 xs)
list_is [] x e h = absurd (omega (arith, h))
list_is (y ∷ ys) x e h =
    let first : y ≡ x = sym e in
    let others : ys ≡ take (length (y ∷ ys) - 1) ys = sym (take_all (length (y ∷ ys) - 1) ys (omega arith)) in
    ap (λ z. z ∷ ys) first ∙ ap (λ zs. x ∷ zs) others

pub either_large : (A B C : Type 0) → A ⊎ (B × C) → A ⊎ C
either_large A B C (inl a) = inl a
either_large A B C (inr b) = inr b.1

-- ---- the same, from an answer and what it is

abbrev sum_or : ℕ × ℕ → Option (ℕ × ℕ) → ℕ
sum_or z None = z.0
sum_or z (Some u) = u.0

abbrev depth_or : ℕ × ℕ → Option (ℕ × ℕ) → ℕ
depth_or z None = z.1
depth_or z (Some u) = u.1

abbrev tree_or : Measured → Option Measured → Measured
tree_or z None = z
tree_or z (Some u) = u

pub counted : {T : Type 0} (C : T → Deriv → Type 0) (ps : List T) (old new : List Deriv) (n k : ℕ) (o : Option (ℕ × ℕ)) (sum deepest : ℕ)
    → AnswersTrees C ps old new n k o → o ≡ Some (sum, deepest) → total (map nodes new) ≡ total (map nodes old) + sum
counted C ps old new n k None sum deepest a is = absurd (cc)
counted C ps old new n k (Some s) sum deepest a is =
    let e = ap (λ ts. total (map nodes ts)) a.behind in let f = total-append old a.trees in let g = a.nodes_are in
    let h = ap (sum_or s) is in omega arith

pub measured : {T : Type 0} (C : T → Deriv → Type 0) (ps : List T) (old new : List Deriv) (n k : ℕ) (o : Option (ℕ × ℕ)) (sum deepest : ℕ)
    → AnswersTrees C ps old new n k o → o ≡ Some (sum, deepest) → greatest (map nesting new) ≡ max (greatest (map nesting old)) deepest
measured C ps old new n k None sum deepest a is = absurd (cc)
measured C ps old new n k (Some s) sum deepest a is =
    let e = ap (λ ts. greatest (map nesting ts)) a.behind in let f = greatest-append old a.trees in let g = a.nesting_is in
    let h = ap (depth_or s) is in omega arith

pub refused_of : {T : Type 0} (C : T → Deriv → Type 0) (ps : List T) (old new : List Deriv) (n k : ℕ) (o : Option (ℕ × ℕ))
    → AnswersTrees C ps old new n k o → o ≡ None → AreRefused C ps n k
refused_of C ps old new n k None a is = a
refused_of C ps old new n k (Some s) a is = absurd (cc)

pub open_of : {T : Type 0} (C : T → Deriv → Type 0) (r : T) (n k : ℕ) (o : Option Measured) → AnswersTree C o r n k → o ≡ None → IsRefused C r n k
open_of C r n k None a is = a
open_of C r n k (Some t) a is = absurd (cc)

pub refused_rests : (C : Rest → Deriv → Type 0) (ps qs : List Rest) (n k : ℕ) → ps ≡ qs → AreRefused C ps n k → AreRefused C qs n k
refused_rests C ps qs n k e refused = subst (λ (xs : List Rest). AreRefused C xs n k) e refused

-- a node over what a step proved and what its children gave
pub found_answers : (w : Ways) (r : Rest) (s : Step) → Opens w r s → (K : Rest → Deriv → Type 0)
    → (ps : List Rest) → ps ≡ s.rests → (new : List Deriv) (m j n k : ℕ) (sums : Option (ℕ × ℕ)) (sum deepest : ℕ) → AnswersTrees K ps s.proofs new m j sums
    → sums ≡ Some (sum, deepest) → (o : Option Measured) → AnswersNode o (node s.rule s.args new) n k
    → AnswersTree (λ (e : Rest) (t : Deriv). IsNode w K e (s.rule, s.args) t) o r n k
found_answers w r s opens K ps are new m j n k None sum deepest a is o made = absurd (cc)
found_answers w r s opens K ps are new m j n k (Some u) sum deepest a is o made =
    node_answers w r s opens K n k a.trees o
    (subst (λ (qs : List Rest). AllOf K qs a.trees) are a.are)
    (subst (λ (ts : List Deriv). AnswersNode o (node s.rule s.args ts) n k) a.behind made)

-- a loop's things, by what they are
module _ {T : Type 0} (C : T → Deriv → Type 0) (xs : List T) (old : List Deriv) (n k : ℕ) where
  pub stuck_left : (left : List T) (x : T) (more : List T) (new : List Deriv) (sum deepest : ℕ) (o : Option Measured) → Done C xs left old new n k sum deepest → left ≡ x ∷ more
      → AnswersTree C o x (n - sum) k → o ≡ None → AreRefused C xs n k
  stuck_left left x more new sum deepest o done is a none =
      stuck C xs old n k x more new sum deepest (subst (λ (ys : List T). Done C xs ys old new n k sum deepest) is done)
      (open_of C x (n - sum) k o a none)

  pub onward_left : (left : List T) (x : T) (more next : List T) (new new' : List Deriv) (sum deepest deepest' : ℕ) (o : Option Measured) (t : Measured)
      → Done C xs left old new n k sum deepest → left ≡ x ∷ more → next ≡ more → AnswersTree C o x (n - sum) k → o ≡ Some t → new' ≡ new ++ t.tree ∷ []
      → deepest' ≡ max deepest t.nesting → Done C xs next old new' n k (sum + t.nodes) deepest'
  onward_left left x more next new new' sum deepest deepest' None t done is goes a none e f = absurd (cc)
  onward_left left x more next new new' sum deepest deepest' (Some u) t done is goes a same e f =
      let at : u ≡ t = ap (tree_or u) same in
      let b : AnswersTree C (Some t) x (n - sum) k = subst (λ (v : Measured). AnswersTree C (Some v) x (n - sum) k) at a in
      subst (λ (ys : List T). Done C xs ys old new' n k (sum + t.nodes) deepest') (sym goes)
      (subst (λ (ts : List Deriv). Done C xs more old ts n k (sum + t.nodes) deepest') (sym e)
      (subst (λ (m : ℕ). Done C xs more old (new ++ t.tree ∷ []) n k (sum + t.nodes) m) (sym f)
      (onward C xs old n k x more new sum deepest t (subst (λ (ys : List T). Done C xs ys old new n k sum deepest) is done) b.0 b.1 b.2 b.3)))

-- ---- answers for a list of things to do, by what it is

if_ok : {A E : Type 0} (res : Result A E) (P Q : A → Type 0) → ((x : A) → P x → Q x) → IfOk res P → IfOk res Q
if_ok (Ok x) P Q f a = f x a
if_ok (Err e) P Q f a = tt

abbrev Leads : Ways → List Todo → Gives → Rest → ℕ → ℕ → Option Measured → Type 0
Leads w todo vs r n k o = AnswersTree (ClosesBy w todo vs) o r n k

-- nothing is to be done, or no node may be made
pub nothing_todo : (w : Ways) (todo : List Todo) (vs : Gives) (r : Rest) (n k : ℕ) → (length todo ≡ 0) ⊎ ((n ≡ 0) ⊎ (k ≡ 0)) → IsRefused (ClosesBy w todo vs) r n k
nothing_todo w [] vs r n k (inl none) = λ t is. absurd is
nothing_todo w (x ∷ more) vs r n k (inl none) = absurd (omega arith)
nothing_todo w todo vs r n k (inr small) = nothing_small (ClosesBy w todo vs) r n k small

pub never_todo : (w : Ways) (todo : List Todo) (vs : Gives) (r : Rest) (n k a b : ℕ) → 0 < length todo → (f : Falsity) (p : Measured) → Refutes w r.state a b f → f ≡ Shown p
    → (res : Result (Option Measured) AllocError) → IfOk res (λ o. AnswersNode o (node rule.Never [] (p.tree ∷ [])) n k) → IfOk res (λ o. Leads w todo vs r n k o)
never_todo w [] vs r n k a b some f p false' is res made = absurd (omega arith)
never_todo w (x ∷ more) vs r n k a b some f p false' is res made =
    if_ok res _ _ (λ o c. never_answers w x more vs r n k p a b o (subst (λ (g : Falsity). Refutes w r.state a b g) is false') c) made

pub large_todo : (w : Ways) (todo : List Todo) (vs : Gives) (r : Rest) (n k : ℕ) → 0 < length todo → 0 < n → 0 < k → (f : Falsity) → Refutes w r.state (n - 1) (k - 1) f → f ≡ TooLarge
    → IsRefused (ClosesBy w todo vs) r n k
large_todo w [] vs r n k some some-nodes some-nesting f false' is = absurd (omega arith)
large_todo w (x ∷ more) vs r n k some some-nodes some-nesting f false' is =
    never_refused w x more vs r n k some-nodes some-nesting (subst (λ (g : Falsity). Refutes w r.state (n - 1) (k - 1) g) is false')

pub not_false : (w : Ways) (s : SymState) (a b : ℕ) (f : Falsity) → Refutes w s a b f → f ≡ Not → w.is_false s → ⊥
not_false w s a b f false' is = subst (λ (g : Falsity). Refutes w s a b g) is false'

-- what is to be done, and given, from a place on leads to answers for all of it
abbrev pub GoesOn : Ways → List Todo → Gives → List Todo → Gives → Rest → ℕ → ℕ → Type 0
GoesOn w todo vs left all r n k = (o : Option Measured) → Leads w left all r n k o → Leads w todo vs r n k o

pub goes_from : (w : Ways) (todo : List Todo) (vs all : Gives) (r : Rest) (n k : ℕ) → all ≡ vs → GoesOn w todo vs todo all r n k
goes_from w todo vs all r n k is o a = subst (λ (gs : Gives). Leads w todo gs r n k o) is a

given-some : (s : SymState) (g : Option (Name × Arg)) (h : Name × Arg) → given_at s g ≡ Some h → (u : Name × Arg) × (g ≡ Some u) × ((u.0, given_value s u.1) ≡ h)
given-some s None h e = absurd (cc)
given-some s (Some u) h e = (u, refl, ap (pair_or h) e) where
  pair_or : Name × Arg → Option (Name × Arg) → Name × Arg
  pair_or z None = z
  pair_or z (Some v) = v

given-none : (s : SymState) (g : Option (Name × Arg)) → given_at s g ≡ None → g ≡ None
given-none s None e = refl
given-none s (Some u) e = absurd (cc)

pub makes : (s : SymState) (x : Todo) (o : Option (Name × Arg)) → o ≡ given_at s (given_by x) → o ≡ None → given_by x ≡ None
makes s x o is none = given-none s (given_by x) (sym is ∙ none)

pub goes_given : (w : Ways) (todo : List Todo) (vs : Gives) (left : List Todo) (all : Gives) (r : Rest) (n k : ℕ) → (w.is_false r.state → ⊥) → GoesOn w todo vs left all r n k
    → (x : Todo) (more next : List Todo) → left ≡ x ∷ more → next ≡ more → (o : Option (Name × Arg)) (g : Name × Arg) → o ≡ given_at r.state (given_by x) → o ≡ Some g
    → (all' : Gives) → all' ≡ all ++ g ∷ [] → GoesOn w todo vs next all' r n k
goes_given w todo vs left all r n k live goes x more next is at o g from gave all' grown = λ u a.
    let (h, by, value) = given-some r.state (given_by x) g (sym from ∙ gave) in
    goes u (subst (λ (xs : List Todo). Leads w xs all r n k u) (sym is)
    (gives_on w x more all r n k live h by u
    (subst (λ (gs : Gives). Leads w more gs r n k u) (grown ∙ ap (λ (v : Name × Arg). all ++ v ∷ []) (sym value))
    (subst (λ (xs : List Todo). Leads w xs all' r n k u) at a))))

pub goes_stepped : (w : Ways) (todo : List Todo) (vs : Gives) (left : List Todo) (all : Gives) (r : Rest) (n k : ℕ) → GoesOn w todo vs left all r n k
    → (x : Todo) (more next : List Todo) → left ≡ x ∷ more → next ≡ more → (gs : Gives) → gs ≡ all → (res : Result (Option Measured) AllocError)
    → IfOk res (λ o. Leads w (x ∷ next) gs r n k o) → IfOk res (λ o. Leads w todo vs r n k o)
goes_stepped w todo vs left all r n k goes x more next is at gs same res a =
    if_ok res _ _ (λ o b. goes o (subst (λ (xs : List Todo). Leads w xs all r n k o) (sym is)
    (subst (λ (xs : List Todo). Leads w (x ∷ xs) all r n k o) at (subst (λ (hs : Gives). Leads w (x ∷ next) hs r n k o) same b)))) a

pub goes_nowhere : (w : Ways) (todo : List Todo) (vs : Gives) (left : List Todo) (all : Gives) (r : Rest) (n k : ℕ) → GoesOn w todo vs left all r n k → length left ≡ 0
    → IsRefused (ClosesBy w todo vs) r n k
goes_nowhere w todo vs [] all r n k goes none = goes None (λ t is. absurd is)
goes_nowhere w todo vs (x ∷ more) all r n k goes none = absurd (omega arith)

pub step_refused : (w : Ways) (x : Todo) (more : List Todo) (vs : Gives) (r : Rest) (n k : ℕ) → (w.is_false r.state → ⊥) → given_by x ≡ None → 0 < n → 0 < k
    → (o : Option Step) → Steps w x vs r (n - 1) (k - 1) o → o ≡ None → IsRefused (ClosesBy w (x ∷ more) vs) r n k
step_refused w x more vs r n k live by some-nodes some-nesting o steps none =
    no_step w x more vs r n k live by some-nodes some-nesting (subst (λ (z : Option Step). Steps w x vs r (n - 1) (k - 1) z) none steps)

pub step_opens : (w : Ways) (x : Todo) (vs : Gives) (r : Rest) (a b : ℕ) (o : Option Step) (s : Step) → Steps w x vs r a b o → o ≡ Some s → PicksOnly w x vs r (s.rule, s.args) × Opens w r s
step_opens w x vs r a b o s steps is = subst (λ (z : Option Step). Steps w x vs r a b z) is steps

pub step_finished : (w : Ways) (x : Todo) (more : List Todo) (vs : Gives) (r : Rest) (n k a b : ℕ) → (w.is_false r.state → ⊥) → given_by x ≡ None
    → (o : Option Step) (s : Step) → Steps w x vs r a b o → o ≡ Some s → (gs : Gives) → gs ≡ gives_behind x r vs → (res : Result (Option Measured) AllocError)
    → IfOk res (λ u. AnswersTree (λ e t. IsNode w (ClosesBy w more gs) e (s.rule, s.args) t) u r n k) → IfOk res (λ u. Leads w (x ∷ more) vs r n k u)
step_finished w x more vs r n k a b live by o s steps is gs behind res c =
    if_ok res _ _ (λ u e. picked w x more vs r n k live by (s.rule, s.args) (step_opens w x vs r a b o s steps is).0 u
    (subst (λ (hs : Gives). AnswersTree (λ e t. IsNode w (ClosesBy w more hs) e (s.rule, s.args) t) u r n k) behind e)) c

-- ---- rests have room

both_true : (a b : Bool) → a && b ≡ true → (a ≡ true) × (b ≡ true)
both_true true b e = (refl, e)
both_true false b e = absurd (cc)

pub first_room : (left : List Rest) (p : Rest) (more : List Rest) → left ≡ p ∷ more → have_room (rest_states left) ≡ true → has_room p.state ≡ true
first_room left p more is room =
    (both_true (has_room p.state) (have_room (rest_states more)) (subst (λ (qs : List Rest). have_room (rest_states qs) ≡ true) is room)).0

pub others_room : (left : List Rest) (p : Rest) (more next : List Rest) → left ≡ p ∷ more → next ≡ more → have_room (rest_states left) ≡ true → have_room (rest_states next) ≡ true
others_room left p more next is at room =
    subst (λ (qs : List Rest). have_room (rest_states qs) ≡ true) (sym at)
    (both_true (has_room p.state) (have_room (rest_states more)) (subst (λ (qs : List Rest). have_room (rest_states qs) ≡ true) is room)).1
