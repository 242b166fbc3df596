-- The two rules that go along a condition's path: `step` makes the next action, or the call where the actions are used up; `finish`
-- closes the path's end.
use Rattle.std.specs.Prelude.{ℕ, ◌+◌, ◌-◌, Bool, true, false, ◌&&◌, ◌==◌, if◌then◌else◌, List, [], ◌∷◌, ◌++◌, length, take, drop, map, Option, Some, None, bytes_eq, bit_and, bit_or, bit_xor, Result}
use Rattle.bed_lang.specs.declared.word.Name.{Name}
use Rattle.bed_lang.specs.declared.word.Var.TheVariants as var
use Rattle.bed_lang.specs.declared.word.Word.{Word, Number, Var as WordVar, Label, Add, Sub}
use Rattle.bed_lang.specs.declared.logic.Arg.{Arg}
use Rattle.bed_lang.specs.declared.logic.Arg.TheVariants as arg
use Rattle.bed_lang.specs.declared.logic.Pure.{Pure}
use Rattle.bed_lang.specs.declared.logic.Pure.TheVariants as pure
use Rattle.bed_lang.specs.declared.logic.Atom.{Atom}
use Rattle.bed_lang.specs.declared.logic.Atom.TheVariants.{Cell, Byte}
use Rattle.bed_lang.specs.declared.logic.Assertion.{Assertion}
use Rattle.bed_lang.specs.declared.module.Operand.{Operand}
use Rattle.bed_lang.specs.declared.module.Operand.TheVariants as operand
use Rattle.bed_lang.specs.declared.module.Op.{Op}
use Rattle.bed_lang.specs.declared.module.Op.TheVariants as op
use Rattle.bed_lang.specs.declared.module.Rel.{Rel}
use Rattle.bed_lang.specs.declared.module.Rel.TheVariants as rel
use Rattle.bed_lang.specs.declared.module.Test.{Test}
use Rattle.bed_lang.specs.declared.module.Place.{Place}
use Rattle.bed_lang.specs.declared.module.Action.{Action}
use Rattle.bed_lang.specs.declared.module.Action.TheVariants as action
use Rattle.bed_lang.specs.declared.module.Signature.{Signature}
use Rattle.bed_lang.specs.declared.condition.Decls.{Decls}
use Rattle.bed_lang.specs.declared.condition.Goal.{Goal}
use Rattle.bed_lang.specs.declared.condition.Goal.TheVariants as goal
use Rattle.bed_lang.specs.declared.form.Form.{Form}
use Rattle.bed_lang.specs.Keys.{bare_name}
use Rattle.bed_lang.specs.Forms.{word_form, times_form}
use Rattle.bed_lang.specs.Instances.{Instance, terms_with}
use Rattle.bed_lang.specs.Lookups.{signature_named, label_signature, named_signature, function_signature}
use Rattle.bed_deriv.specs.declared.derivation.DArg.{DArg}
use Rattle.bed_deriv.specs.declared.state.SymState.{SymState}
use Rattle.bed_deriv.specs.declared.rest.Rest.{Rest}
use Rattle.bed_deriv.specs.declared.rest.Onward.{Onward}
use Rattle.bed_lang.specs.SameFacts.{is_constant, is_none}
use Rattle.bed_deriv.specs.Arguments.{numbered, number_at, atom_at, to_values, counts}
use Rattle.bed_forms.specs.Rebuilt.{form_word, rebuilt_word}
use Rattle.bed_deriv.specs.Opening.{replacing, with_answer, local_values, opened}
use Rattle.bed_deriv.specs.Matches.{count_of_goals, count_of_atoms, chosen, all_different, atoms_left, match_goals}
use Rattle.bed_deriv.specs.HeapRules.{cell_of, byte_of, fresh_word, with_next}
use Rattle.bed_deriv.specs.Checks.{Check, Needs, Given, Fails, Leaves, first_failure, with_room, with_fact}

abbrev pub rest_states : List Rest → List SymState
rest_states [] = []
rest_states (r ∷ rs) = r.state ∷ rest_states rs

abbrev pub onward_states : Onward → List SymState
onward_states o = rest_states o.rests

abbrev pub Path : Type 1
Path = Check Onward

abbrev pub goes_on : List Pure → Rest → Path
goes_on goals r = Leaves (record { goals = goals; rests = r ∷ [] })

-- ---- operands

-- the term of a local: the first of its name
abbrev pub local_term : List (Name × Word) → List ℕ → Option Word
local_term [] x = None
local_term (l ∷ ls) x = if bytes_eq l.0.bytes x then Some l.1 else local_term ls x

-- something, where there is such a local
abbrev pub for_local : {A : Type 0} → Option Word → A → Option A
for_local None x = None
for_local (Some w) x = Some x

abbrev pub operand_term : List (Name × Word) → Operand → Option Word
operand_term ls (operand.Number n) = Some (Number n)
operand_term ls (operand.Local x) = local_term ls x.bytes
operand_term ls (operand.Label f) = Some (Label f)

abbrev pub plus_number : Option Word → ℕ → Option Word
plus_number None n = None
plus_number (Some w) n = Some (Add w (Number n))

abbrev pub place_term : List (Name × Word) → Place → Option Word
place_term ls p = plus_number (operand_term ls p.base) p.disp

abbrev pub word_before : Option Word → Option (List Word) → Option (List Word)
word_before (Some w) (Some ws) = Some (w ∷ ws)
word_before _ _ = None

abbrev pub operand_terms : List (Name × Word) → List Operand → Option (List Word)
operand_terms ls [] = Some []
operand_terms ls (a ∷ more) = word_before (operand_term ls a) (operand_terms ls more)

-- the locals with another term for each one of a name; None where there is none
abbrev pub with_term : List (Name × Word) → Name → Word → List (Name × Word)
with_term [] x w = []
with_term (l ∷ ls) x w = (if bytes_eq l.0.bytes x.bytes then (l.0, w) else l) ∷ with_term ls x w

abbrev pub set_local : List (Name × Word) → Name → Word → Option (List (Name × Word))
set_local ls x w = for_local (local_term ls x.bytes) (with_term ls x w)

-- the fact that a test says
abbrev pub relation : Rel → Word → Word → Pure
relation rel.Equal a b = pure.Equal a b
relation rel.Unequal a b = pure.Unequal a b
relation rel.Less a b = pure.Less a b
relation rel.AtMost a b = pure.AtMost a b

-- ---- actions

module _ (r : Rest) where
  abbrev pub onward : SymState → List Pure → Path
  onward s goals = goes_on goals (record r { state = s; actions = drop 1 r.actions })

  abbrev pub with_local : SymState → Name → Word → List Pure → Path
  with_local s x w goals = Given 3 (set_local s.locals x w) (λ ls. onward (record s { locals = ls }) goals)

-- the word that an operation gives; None where the local becomes a fresh variable
abbrev pub product_of : Form → Form → Option Word
product_of f g =
    if is_constant f then Some (form_word (times_form f.constant g))
    else (if is_constant g then Some (form_word (times_form g.constant f)) else None)

abbrev pub bits_of : (ℕ → ℕ → ℕ) → Form → Form → Option Word
bits_of h f g = if is_constant f && is_constant g then Some (Number (h f.constant g.constant)) else None

abbrev pub computed : Op → Word → Word → Option Word
computed op.Add a b = Some (rebuilt_word (Add a b))
computed op.Sub a b = Some (rebuilt_word (Sub a b))
computed op.Mul a b = product_of (word_form a) (word_form b)
computed op.And a b = bits_of bit_and (word_form a) (word_form b)
computed op.Or a b = bits_of bit_or (word_form a) (word_form b)
computed op.Xor a b = bits_of bit_xor (word_form a) (word_form b)

abbrev pub with_result : Rest → Name → Option Word → Path
with_result r x (Some w) = with_local r r.state x w []
with_result r x None = with_local r (with_next r.state 1) x (fresh_word r.state.next) []

-- a list with another item at a place, from 0
abbrev pub put_at : {A : Type 0} → ℕ → A → List A → List A
put_at n x xs = take n xs ++ x ∷ drop (n + 1) xs

abbrev pub with_atom_at : SymState → ℕ → Atom → SymState
with_atom_at s i a = record s { atoms = put_at (i - 1) a s.atoms }

-- x <- a
abbrev pub assign : Rest → Name → Operand → List DArg → ℕ → Path
assign r x a args n =
    Needs 1 (counts args 0 n 1) (Given 3 (operand_term r.state.locals a) (λ w. with_local r r.state x w []))

-- x <- a op b
abbrev pub compute : Rest → Name → Op → Operand → Operand → List DArg → ℕ → Path
compute r x o a b args n =
    Needs 1 (counts args 0 n 1) (Given 3 (operand_term r.state.locals a) (λ v. Given 3 (operand_term r.state.locals b) (λ w.
    with_result r x (computed o v w))))

-- x <- [p], and x <- byte [p]: the argument is the number of the atom. Children: its address is the place; the rest with its content
abbrev pub load : (Atom → Option (Word × Word)) → Rest → Name → Place → List DArg → ℕ → Path
load of_kind r x p args n =
    Needs 1 (counts args 1 n 2) (Given 2 (atom_at r.state args 0) (λ a. Given 3 (of_kind a) (λ c.
    Given 3 (place_term r.state.locals p) (λ e. with_local r r.state x c.1 (pure.Equal c.0 e ∷ [])))))

-- [p] <- b: the same argument and child; the content becomes the operand, in place
abbrev pub store : Rest → Place → Operand → List DArg → ℕ → Path
store r p b args n =
    Needs 1 (counts args 1 n 2) (Given 2 (number_at args 0) (λ i. Given 2 (numbered r.state.atoms i) (λ a.
    Given 3 (cell_of a) (λ c. Given 3 (place_term r.state.locals p) (λ e. Given 3 (operand_term r.state.locals b) (λ w.
    onward r (with_atom_at r.state i (Cell c.0 w)) (pure.Equal c.0 e ∷ [])))))))

-- byte [p] <- b: a second argument, 1 or 0. With 1 a second child proves that the operand is at most 255, and it becomes the content;
-- with 0 the content becomes fresh
abbrev pub flag : Option ℕ → Option Bool
flag None = None
flag (Some k) = if k == 0 then Some false else (if k == 1 then Some true else None)

abbrev pub flag_children : Bool → ℕ
flag_children false = 2
flag_children true = 3

abbrev pub stored_byte : Rest → ℕ → Word → Word → Word → Bool → Path
stored_byte r i e place w true =
    onward r (with_atom_at r.state i (Byte e w)) (pure.Equal e place ∷ pure.AtMost w (Number 255) ∷ [])
stored_byte r i e place w false =
    onward r (with_next (with_atom_at r.state i (Byte e (fresh_word r.state.next))) 1) (pure.Equal e place ∷ [])

abbrev pub store_byte : Rest → Place → Operand → List DArg → ℕ → Path
store_byte r p b args n =
    Needs 1 (length args == 2) (Given 2 (flag (number_at args 1)) (λ k. Needs 1 (n == flag_children k)
    (Given 2 (number_at args 0) (λ i. Given 2 (numbered r.state.atoms i) (λ a. Given 3 (byte_of a) (λ c.
    Given 3 (place_term r.state.locals p) (λ e. Given 3 (operand_term r.state.locals b) (λ w.
    stored_byte r i c.0 e w k))))))))

-- an assumed test
abbrev pub assume : Rest → Test → List DArg → ℕ → Path
assume r t args n =
    Needs 1 (counts args 0 n 1) (Given 3 (operand_term r.state.locals t.left) (λ a. Given 3 (operand_term r.state.locals t.right) (λ b.
    onward r (with_fact r.state (relation t.rel a b)) [])))

abbrev pub act : Rest → Action → List DArg → ℕ → Path
act r (action.Assign x a) = assign r x a
act r (action.Compute x o a b) = compute r x o a b
act r (action.Load x p) = load cell_of r x p
act r (action.LoadByte x p) = load byte_of r x p
act r (action.Store p a) = store r p a
act r (action.StoreByte p a) = store_byte r p a
act r (action.Assume t) = assume r t

-- ---- calls

-- names with their words, in order, as far as there are both
abbrev pub names_with : List Name → List Word → List (Name × Arg)
names_with [] ws = []
names_with (x ∷ xs) [] = []
names_with (x ∷ xs) (w ∷ ws) = (x, arg.Word 0 w) ∷ names_with xs ws

-- the signature of a callee: the one that is named, or that of the label
abbrev pub callee : Decls → Operand → Option Name → Option Signature
callee d target (Some name) = signature_named d name.bytes
callee d (operand.Label f) None = named_signature d (label_signature d f.bytes)
callee d _ None = None

-- a call with a name owes that code with this signature stands at its target
abbrev pub code_goals : Option Name → Word → List Pure
code_goals None t = []
code_goals (Some name) t = pure.Code t name ∷ []

abbrev pub code_count : Option Name → ℕ
code_count None = 0
code_count (Some name) = 1

-- The call: arguments are the values of the callee's logical variables and of the precondition's binders, then the atoms. Children:
-- the code, where a name is given; the match of the precondition, its parameters being the operands; the rest, with the atoms taken,
-- a fresh variable for the answer and in the local, the postcondition opened, and the goal `after`.
abbrev pub after_call : Rest → Signature → List Word → List (Name × Arg) → List (ℕ × Atom) → Name → Assertion → List Pure → Path
after_call r S ws logical cs into after goals =
    let s = r.state in
    let answer = fresh_word s.next in
    Given 3 (set_local s.locals into answer) (λ ls.
    goes_on goals (record {
      state = opened (λ vs. with_answer answer (replacing vs)) (logical ++ names_with S.params ws) S.post
          (record s { locals = ls; atoms = atoms_left cs 1 s.atoms; next = s.next + 1 });
      actions = [];
      goal = goal.Meets after;
    }))

abbrev pub call : Decls → Rest → Operand → Option Name → List Operand → Name → Assertion → List DArg → ℕ → Path
call d r target via operands into after args n =
    let s = r.state in
    Given 3 (callee d target via) (λ S.
    let logical = length S.logical in
    let binders = length S.pre.binders in
    Needs 1 ((length args == logical + binders + count_of_atoms S.pre.terms) && (n == code_count via + count_of_goals S.pre.terms + 1))
    (Given 2 (to_values s.next S.logical (take logical args)) (λ vs.
    Given 2 (to_values s.next S.pre.binders (take binders (drop logical args))) (λ bs.
    Given 2 (chosen s.atoms (drop (logical + binders) args)) (λ cs.
    Given 3 (operand_terms s.locals operands) (λ ws. Needs 3 (length ws == length S.params) (Given 3 (operand_term s.locals target) (λ t.
    Needs 3 (all_different cs)
    (Given 3 (match_goals (terms_with (replacing (vs ++ names_with S.params ws ++ bs)) S.pre.terms) cs) (λ gs.
    after_call r S ws vs cs into after (code_goals via t ++ gs)))))))))))

-- ---- the end

-- parameters with their values at entry
abbrev pub old_word : Name → Word
old_word x = WordVar (var.Old (bare_name x))

-- what a path's end asks for: an assertion, and the instance under which it is read, given its binders' values; None where an operand
-- has no term
pub record End : Type 0 where
  pub assertion : Assertion
  pub reading : Option (List (Name × Arg) → Instance)

abbrev pub as_answer : SymState → Signature → Option Word → Option (List (Name × Arg) → Instance)
as_answer s S None = None
as_answer s S (Some w) =
    Some (λ bs. with_answer w (replacing (local_values s.locals ++ names_with S.params (map old_word S.params) ++ bs)))

abbrev pub returned : SymState → Option Signature → Option Word → Option End
returned s None w = None
returned s (Some S) w = Some (record { assertion = S.post; reading = as_answer s S w })

-- an assertion is read with the locals' terms; a return is the postcondition with `old` arguments and the operand as `result`
abbrev pub met : SymState → Assertion → End
met s A = record { assertion = A; reading = Some (λ bs. replacing (local_values s.locals ++ bs)) }

abbrev pub end_of : Decls → Name → SymState → Goal → Option End
end_of d function s (goal.Meets A) = Some (met s A)
end_of d function s (goal.Returns a) = returned s (function_signature d function) (operand_term s.locals a)
end_of d function s _ = None

-- finish: arguments are the values of the goal's binders, then the atoms. Children: the match; no atom is left
abbrev pub finish : Decls → Name → Rest → List DArg → ℕ → Path
finish d function r args n =
    let s = r.state in
    Given 3 (end_of d function s r.goal) (λ e.
    let binders = length e.assertion.binders in
    Needs 1 ((length args == binders + count_of_atoms e.assertion.terms) && (n == count_of_goals e.assertion.terms))
    (Given 2 (to_values s.next e.assertion.binders (take binders args)) (λ bs.
    Given 2 (chosen s.atoms (drop binders args)) (λ cs.
    Needs 3 (is_none r.actions) (Given 3 e.reading (λ σ.
    Needs 3 (all_different cs) (Given 3 (match_goals (terms_with (σ bs) e.assertion.terms) cs) (λ gs.
    Needs 3 (is_none (atoms_left cs 1 s.atoms)) (Leaves (record { goals = gs; rests = [] }))))))))))

-- step: the next action, or the call where the actions are used up
abbrev pub step_of_goal : Decls → Rest → Goal → List DArg → ℕ → Path
step_of_goal d r (goal.Calls target via operands into after) args n = call d r target via operands into after args n
step_of_goal d r _ args n = Fails 3

abbrev pub step_along : Decls → Rest → List Action → List DArg → ℕ → Path
step_along d r (a ∷ more) args n = act r a args n
step_along d r [] args n = step_of_goal d r r.goal args n

abbrev pub step : Decls → Rest → List DArg → ℕ → Path
step d r args n = step_along d r r.actions args n

-- what the check of such a node gives
abbrev pub onward_of : Path → Result Onward ℕ
onward_of c = with_room onward_states (first_failure c)
