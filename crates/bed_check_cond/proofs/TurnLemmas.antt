-- The turns of the walk along a rest.
use Rattle.std.proofs.Common.{◌≡◌, ℕ, zero, suc, ◌+◌, ◌<◌, ◌≤◌, List, [], ◌∷◌, ◌++◌, map, drop, length, Option, Some, slice_get, Result, Ok, Err, IfOk, refl, ap, sym, ◌∙◌, subst, arith}
use Rattle.std.specs.Prelude.{remove}
use Rattle.std.proofs.lemmas.List.{append-nil}
use Rattle.bed_lang.specs.declared.word.Name.{Name}
use Rattle.bed_lang.specs.declared.condition.Decls.{Decls}
use Rattle.bed_deriv.specs.declared.derivation.Deriv.{Deriv, out-Deriv, fold_out-Deriv}
use Rattle.bed_deriv.specs.declared.rest.Task.TheVariants.{Closes}
use Rattle.bed_deriv.specs.declared.derivation.DArg.{DArg}
use Rattle.bed_deriv.specs.declared.rest.Rest.{Rest}
use Rattle.bed_deriv.specs.declared.rest.Onward.{Onward}
use Rattle.bed_check_pure.specs.declared.verdict.Verdict.{Verdict}
use Rattle.bed_deriv.specs.Derives.{facts_to_prove, rules}
use Rattle.bed_deriv.specs.Walk.{Walked, and_then, walk_all, walk}
use Rattle.bed_check_cond.specs.Points.{rests_at}
use Rattle.bed_check_cond.specs.declared.rests.Rests.{Rests}
use Rattle.bed_check_cond.specs.declared.rests.Turned.{Turned}
use Rattle.bed_check_cond.specs.Stack.{left_walk, rests_walk, waiting_for, waiting, size_step, size, children_size, rests_size, left_size, AnswersOpened, AnswersTurn}
use Rattle.bed_check_cond.specs.Answered.{onward_at}
use Rattle.bed_check_cond.proofs.RestsLemmas.{then_same, node_left}
use Rattle.bed_check_cond.proofs.StackLemmas.{left_last, turn_spent, turn_refused}

-- the first item of a list that is taken out of it
pub first_out : {A : Type 0} (xs more : List A) (x : A) → slice_get xs 0 ≡ Some x → more ≡ remove xs 0 → xs ≡ x ∷ more
first_out [] more x e k = absurd cc
first_out (y ∷ ys) more x e k = let same : y ≡ x = cc in ap (λ z. z ∷ ys) same ∙ ap (λ zs. x ∷ zs) (sym k)

-- ---- what is left

pub then_end : (w : Walked) → and_then w (λ n. Ok n) ≡ w
then_end (Ok n) = refl
then_end (Err e) = refl

module _ (d : Decls) (function : Name) where
  -- a node whose children are all checked needn't wait
  left_waits : (fs : List Rests) (f : Rests) (w : Walked)
      → left_walk (rests_walk d function) (fs ++ waiting f) w ≡ left_walk (rests_walk d function) fs (and_then w (rests_walk d function f))
  left_waits fs f w = by f.children.now refl
    where
      by : (ts : List Deriv) → ts ≡ f.children.now
          → left_walk (rests_walk d function) (fs ++ waiting_for ts f) w ≡ left_walk (rests_walk d function) fs (and_then w (rests_walk d function f))
      by [] e =
          ap (λ gs. left_walk (rests_walk d function) gs w) (append-nil fs)
          ∙ ap (left_walk (rests_walk d function) fs) (sym (
          then_same w (rests_walk d function f) (λ n. Ok n) (λ n. ap (λ ts. walk_all (map (walk (rules d function)) ts) (map Closes (rests_at f.ahead f.states)) n) (sym e))
          ∙ then_end w
          ))
      by (t ∷ ts) e = left_last (rests_walk d function) fs f w

  pub spent : (fs old : List Rests) (f : Rests) (n : ℕ) (x : Walked) → old ≡ fs ++ f ∷ [] → rests_walk d function f n ≡ Ok n
      → left_walk (rests_walk d function) old (Ok n) ≡ x → left_walk (rests_walk d function) fs (Ok n) ≡ x
  spent fs old f n x is e h = sym (turn_spent (rests_walk d function) fs f n e) ∙ ap (λ gs. left_walk (rests_walk d function) gs (Ok n)) (sym is) ∙ h

  pub refused : (fs old : List Rests) (f : Rests) (n : ℕ) (v : ℕ × ℕ) (x : Walked) → old ≡ fs ++ f ∷ [] → rests_walk d function f n ≡ Err v
      → left_walk (rests_walk d function) old (Ok n) ≡ x → x ≡ Err v
  refused fs old f n v x is e h = sym h ∙ ap (λ gs. left_walk (rests_walk d function) gs (Ok n)) is ∙ turn_refused (rests_walk d function) fs f n v e

  pub goes_below : (fs old new : List Rests) (f left below : Rests) (n m : ℕ) (x : Walked) → old ≡ fs ++ f ∷ []
      → rests_walk d function f n ≡ and_then (rests_walk d function below m) (rests_walk d function left)
      → new ≡ (fs ++ waiting left) ++ waiting below
      → left_walk (rests_walk d function) old (Ok n) ≡ x → left_walk (rests_walk d function) new (Ok m) ≡ x
  goes_below fs old new f left below n m x is e b h =
      ap (λ gs. left_walk (rests_walk d function) gs (Ok m)) b
      ∙ left_waits (fs ++ waiting left) below (Ok m)
      ∙ left_waits fs left (rests_walk d function below m)
      ∙ ap (λ (w : Walked). left_walk (rests_walk d function) fs w) (sym e)
      ∙ sym (left_last (rests_walk d function) fs f (Ok n))
      ∙ ap (λ gs. left_walk (rests_walk d function) gs (Ok n)) (sym is)
      ∙ h

  -- what a turn says where it goes below
  pub turned_below : (o : Option Turned) (t : Turned) (f : Rests) (n : ℕ) → o ≡ Some t → AnswersTurn d function (Ok o) f n
      → (rests_walk d function f n ≡ and_then (rests_walk d function t.below t.node) (rests_walk d function t.left)) × (rests_size t.left + rests_size t.below < rests_size f)
  turned_below o t f n e h = subst (λ (p : Option Turned). AnswersTurn d function (Ok p) f n) e h

  -- a node that is opened
  pub opened_walk : (t : Deriv) (r : Rest) (n k : ℕ) (o : Onward) (args : List DArg) (ts : List Deriv) (res : Result (Rests × ℕ) Verdict)
      → args ≡ (out-Deriv t).args → k ≡ length (out-Deriv t).children → ts ≡ (out-Deriv t).children
      → onward_at d function (out-Deriv t).rule r args k ≡ Ok o
      → AnswersOpened d function res (walk_all (map (walk (rules d function)) ts) (facts_to_prove r.state o.goals ++ map Closes o.rests) (n + 1))
      → AnswersOpened d function res (walk (rules d function) t (Closes r) n)
  opened_walk t r n k o args ts res a b c e h =
      let u = (out-Deriv t).rule in
      let given : onward_at d function u r (out-Deriv t).args (length (out-Deriv t).children) ≡ Ok o =
      ap (λ (xs : List DArg). onward_at d function u r xs (length (out-Deriv t).children)) (sym a) ∙ ap (λ (m : ℕ). onward_at d function u r args m) (sym b) ∙ e in
      subst (AnswersOpened d function res) (
      ap (λ (us : List Deriv). walk_all (map (walk (rules d function)) us) (facts_to_prove r.state o.goals ++ map Closes o.rests) (n + 1)) c
      ∙ sym (node_left d function t r n o given)
      ) h

-- ---- how much is left

size_append : (fs gs : List Rests) → left_size (fs ++ gs) ≡ left_size fs + left_size gs
size_append [] gs = omega arith
size_append (f ∷ fs) gs = let e = size_append fs gs in omega arith

size_waits : (f : Rests) → left_size (waiting f) ≤ rests_size f
size_waits f = by f.children.now
  where
    by : (ts : List Deriv) → left_size (waiting_for ts f) ≤ rests_size f
    by [] = omega arith
    by (t ∷ ts) = omega arith

pub smaller_spent : (fs old : List Rests) (f : Rests) → old ≡ fs ++ f ∷ [] → left_size fs < left_size old
smaller_spent fs old f is = let e : left_size old ≡ left_size fs + left_size (f ∷ []) = ap left_size is ∙ size_append fs (f ∷ []) in omega arith

pub smaller_below : (fs old new : List Rests) (f left below : Rests) → old ≡ fs ++ f ∷ [] → rests_size left + rests_size below < rests_size f
    → new ≡ (fs ++ waiting left) ++ waiting below → left_size new < left_size old
smaller_below fs old new f left below is less b =
    let e : left_size old ≡ left_size fs + left_size (f ∷ []) = ap left_size is ∙ size_append fs (f ∷ []) in
    let g : left_size (fs ++ waiting left) ≡ left_size fs + left_size (waiting left) = size_append fs (waiting left) in
    let h : left_size new ≡ left_size (fs ++ waiting left) + left_size (waiting below) = ap left_size b ∙ size_append (fs ++ waiting left) (waiting below) in
    let u = size_waits left in
    let v = size_waits below in
    omega arith

size_dropped : (k : ℕ) (ts : List Deriv) → children_size (drop k ts) ≤ children_size ts
size_dropped zero ts = omega arith
size_dropped (suc k) [] = omega arith
size_dropped (suc k) (t ∷ ts) = let e = size_dropped k ts in omega arith

pub node_size : (t : Deriv) → size t ≡ 2 + children_size (out-Deriv t).children
node_size t = fold_out-Deriv ℕ size_step t

pub smaller_node : (t : Deriv) (f : Rests) (k : ℕ) → f.children.now ≡ drop k (out-Deriv t).children → rests_size f < size t
smaller_node t f k e =
    let a = node_size t in
    let b : children_size f.children.now ≡ children_size (drop k (out-Deriv t).children) = ap children_size e in
    let c = size_dropped k (out-Deriv t).children in
    omega arith

pub opened_smaller : (t : Deriv) (k : ℕ) (ts : List Deriv) (res : Result (Rests × ℕ) Verdict) → ts ≡ (out-Deriv t).children
    → IfOk res (λ p. p.0.children.now ≡ drop k ts) → IfOk res (λ p. rests_size p.0 < size t)
opened_smaller t k ts (Ok p) c h = smaller_node t p.0 k (h ∙ ap (drop k) c)
opened_smaller t k ts (Err v) c h = h
