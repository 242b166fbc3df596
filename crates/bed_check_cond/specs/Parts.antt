-- The rest of a step behind its first premises, given what these found.
use Rattle.std.specs.Prelude.{ℕ, ◌+◌, ◌&&◌, ◌==◌, if◌then◌else◌, Bool, List, [], ◌∷◌, ◌++◌, length, map, take, drop, Option, Some, None, bit_and, bit_or, bit_xor}
use Rattle.bed_lang.specs.declared.word.Name.{Name}
use Rattle.bed_lang.specs.declared.word.Word.{Word, Number}
use Rattle.bed_lang.specs.declared.logic.Arg.{Arg}
use Rattle.bed_lang.specs.declared.logic.Pure.{Pure}
use Rattle.bed_lang.specs.declared.logic.Pure.TheVariants as pure
use Rattle.bed_lang.specs.declared.logic.Atom.{Atom}
use Rattle.bed_lang.specs.declared.logic.Atom.TheVariants.{Cell, Byte}
use Rattle.bed_lang.specs.declared.logic.Term.{Term}
use Rattle.bed_lang.specs.declared.logic.Assertion.{Assertion}
use Rattle.bed_lang.specs.declared.module.Operand.{Operand}
use Rattle.bed_lang.specs.declared.module.Op.{Op}
use Rattle.bed_lang.specs.declared.module.Op.TheVariants as op
use Rattle.bed_lang.specs.declared.module.Rel.{Rel}
use Rattle.bed_lang.specs.declared.module.Place.{Place}
use Rattle.bed_lang.specs.declared.module.Signature.{Signature}
use Rattle.bed_lang.specs.declared.form.Form.{Form}
use Rattle.bed_lang.specs.SameFacts.{is_constant, is_none}
use Rattle.bed_lang.specs.Instances.{terms_with}
use Rattle.bed_deriv.specs.declared.derivation.DArg.{DArg}
use Rattle.bed_deriv.specs.declared.state.SymState.{SymState}
use Rattle.bed_deriv.specs.declared.rest.Rest.{Rest}
use Rattle.bed_deriv.specs.Arguments.{to_values, number_at, numbered}
use Rattle.bed_deriv.specs.HeapRules.{byte_of, fresh_word, with_next}
use Rattle.bed_deriv.specs.Opening.{replacing, with_answer, local_values, opened}
use Rattle.bed_deriv.specs.Matches.{count_of_goals, count_of_atoms, chosen, all_different, atoms_left, match_goals}
use Rattle.bed_deriv.specs.Checks.{Check, Needs, Given, Leaves, with_fact}
use Rattle.bed_deriv.specs.Steps.{Path, End, place_term, operand_term, operand_terms, set_local, with_local, onward, with_atom_at, stored_byte, names_with, old_word, as_answer, computed, with_result, relation, code_goals, code_count, after_call}

-- ---- locals

abbrev pub with_set : SymState → ℕ → Option (List (Name × Word)) → Option SymState
with_set s next None = None
with_set s next (Some ls) = Some (record s { locals = ls; next = next })

abbrev pub state_with_local : SymState → ℕ → Name → Word → Option SymState
state_with_local s next x w = with_set s next (set_local s.locals x w)

-- ---- operations

-- the numbers that two forms are
abbrev pub both_constant : Form → Form → Option (ℕ × ℕ)
both_constant f g = if is_constant f && is_constant g then Some (f.constant, g.constant) else None

abbrev pub bits : Op → ℕ → ℕ → ℕ
bits op.And m n = bit_and m n
bits op.Or m n = bit_or m n
bits _ m n = bit_xor m n

abbrev pub bits_word : Op → Option (ℕ × ℕ) → Option Word
bits_word o None = None
bits_word o (Some p) = Some (Number (bits o p.0 p.1))

-- an operation whose first word is found
abbrev pub computed_with : Rest → Name → Op → Word → Operand → Path
computed_with r x o v b = Given 3 (operand_term r.state.locals b) (λ w. with_result r x (computed o v w))

-- a test whose first word is found
abbrev pub assumed : Rest → Rel → Word → Operand → Path
assumed r k a b = Given 3 (operand_term r.state.locals b) (λ w. onward r (with_fact r.state (relation k a w)) [])

-- ---- loads and stores

-- a load from the atom that is found
abbrev pub loaded : Rest → Name → Place → Word × Word → Path
loaded r x p c = Given 3 (place_term r.state.locals p) (λ e. with_local r r.state x c.1 (pure.Equal c.0 e ∷ []))

-- a store to the atom that is found, at a place
abbrev pub stored_at : Rest → ℕ → Word → Word → Operand → Path
stored_at r i a e b = Given 3 (operand_term r.state.locals b) (λ w. onward r (with_atom_at r.state i (Cell a w)) (pure.Equal a e ∷ []))

abbrev pub stored : Rest → ℕ → Word → Place → Operand → Path
stored r i a p b = Given 3 (place_term r.state.locals p) (λ e. stored_at r i a e b)

-- the same for a byte, and one whose content becomes fresh
abbrev pub fresh_byte : Rest → ℕ → Word → Word → Path
fresh_byte r i a e = onward r (with_next (with_atom_at r.state i (Byte a (fresh_word r.state.next))) 1) (pure.Equal a e ∷ [])

abbrev pub byte_stored_at : Rest → ℕ → Word → Word → Operand → Bool → Path
byte_stored_at r i a e b k = Given 3 (operand_term r.state.locals b) (λ w. stored_byte r i a e w k)

abbrev pub byte_stored : Rest → ℕ → Word → Place → Operand → Bool → Path
byte_stored r i a p b k = Given 3 (place_term r.state.locals p) (λ e. byte_stored_at r i a e b k)

abbrev pub byte_numbered : Rest → Place → Operand → List DArg → Bool → Path
byte_numbered r p b args k =
    Given 2 (number_at args 0) (λ i. Given 2 (numbered r.state.atoms i) (λ a. Given 3 (byte_of a) (λ c.
    Given 3 (place_term r.state.locals p) (λ e. Given 3 (operand_term r.state.locals b) (λ w. stored_byte r i c.0 e w k)))))

-- ---- calls

-- a call whose values and atoms are found
abbrev pub call_meets : Rest → Signature → Option Name → Name → Assertion → List (Name × Arg) → List (Name × Arg) → List (ℕ × Atom) → List Word → Word → Path
call_meets r S via into after vs bs cs ws t =
    Needs 3 (all_different cs)
    (Given 3 (match_goals (terms_with (replacing (vs ++ names_with S.params ws ++ bs)) S.pre.terms) cs) (λ gs.
    after_call r S ws vs cs into after (code_goals via t ++ gs)))

abbrev pub call_worded : Rest → Signature → Operand → Option Name → Name → Assertion → List (Name × Arg) → List (Name × Arg) → List (ℕ × Atom) → List Word → Path
call_worded r S target via into after vs bs cs ws =
    Needs 3 (length ws == length S.params) (Given 3 (operand_term r.state.locals target) (λ t. call_meets r S via into after vs bs cs ws t))

abbrev pub call_found : Rest → Signature → Operand → Option Name → List Operand → Name → Assertion → List (Name × Arg) → List (Name × Arg) → List (ℕ × Atom) → Path
call_found r S target via operands into after vs bs cs =
    Given 3 (operand_terms r.state.locals operands) (λ ws. call_worded r S target via into after vs bs cs ws)

abbrev pub call_chosen : Rest → Signature → Operand → Option Name → List Operand → Name → Assertion → List (Name × Arg) → List (Name × Arg) → List DArg → Path
call_chosen r S target via operands into after vs bs args =
    Given 2 (chosen r.state.atoms args) (λ cs. call_found r S target via operands into after vs bs cs)

-- a call of a signature, its counts being right
abbrev pub call_from : Rest → Signature → Operand → Option Name → List Operand → Name → Assertion → List DArg → Path
call_from r S target via operands into after args =
    let s = r.state in
    let logical = length S.logical in
    let binders = length S.pre.binders in
    Given 2 (to_values s.next S.logical (take logical args)) (λ vs.
    Given 2 (to_values s.next S.pre.binders (take binders (drop logical args))) (λ bs.
    call_chosen r S target via operands into after vs bs (drop (logical + binders) args)))

abbrev pub call_values : SymState → Signature → List DArg → Check (List (Name × Arg) × List (Name × Arg))
call_values s S args =
    let logical = length S.logical in
    let binders = length S.pre.binders in
    Given 2 (to_values s.next S.logical (take logical args)) (λ vs.
    Given 2 (to_values s.next S.pre.binders (take binders (drop logical args))) (λ bs. Leaves (vs, bs)))

-- as many arguments, and as many children
abbrev pub call_counts : Signature → Option Name → ℕ → ℕ → Bool
call_counts S via args n =
    (args == length S.logical + length S.pre.binders + count_of_atoms S.pre.terms) && (n == code_count via + count_of_goals S.pre.terms + 1)

-- a goal for the code, and then the others, if there are any
abbrev pub code_before : Option Name → Word → Option (List Pure) → Option (List Pure)
code_before via t None = None
code_before via t (Some gs) = Some (code_goals via t ++ gs)

-- the state behind a call, and with its answer in a local, if there is one of that name
abbrev pub opened_after : SymState → Signature → List Word → List (Name × Arg) → List (ℕ × Atom) → List (Name × Word) → SymState
opened_after s S ws logical cs ls =
    opened (λ vs. with_answer (fresh_word s.next) (replacing vs)) (logical ++ names_with S.params ws) S.post
    (record s { locals = ls; atoms = atoms_left cs 1 s.atoms; next = s.next + 1 })

abbrev pub opened_if : SymState → Signature → List Word → List (Name × Arg) → List (ℕ × Atom) → Option (List (Name × Word)) → Option SymState
opened_if s S ws logical cs None = None
opened_if s S ws logical cs (Some ls) = Some (opened_after s S ws logical cs ls)

abbrev pub state_after : SymState → Signature → List Word → List (Name × Arg) → List (ℕ × Atom) → Name → Option SymState
state_after s S ws logical cs into = opened_if s S ws logical cs (set_local s.locals into (fresh_word s.next))

-- ---- ends

-- the end's match, its terms being read
abbrev pub end_meets : SymState → List Term → List (ℕ × Atom) → Path
end_meets s ts cs =
    Needs 3 (all_different cs) (Given 3 (match_goals ts cs) (λ gs.
    Needs 3 (is_none (atoms_left cs 1 s.atoms)) (Leaves (record { goals = gs; rests = [] }))))

-- an end whose binders' values and atoms are found
abbrev pub end_found : Rest → End → List (Name × Arg) → List (ℕ × Atom) → Path
end_found r e bs cs =
    Needs 3 (is_none r.actions) (Given 3 e.reading (λ σ. end_meets r.state (terms_with (σ bs) e.assertion.terms) cs))

-- an end whose assertion is known
abbrev pub end_with : Rest → List DArg → ℕ → End → Path
end_with r args n e =
    let s = r.state in
    let binders = length e.assertion.binders in
    Needs 1 ((length args == binders + count_of_atoms e.assertion.terms) && (n == count_of_goals e.assertion.terms))
    (Given 2 (to_values s.next e.assertion.binders (take binders args)) (λ bs.
    Given 2 (chosen s.atoms (drop binders args)) (λ cs. end_found r e bs cs)))

abbrev pub end_values : SymState → Assertion → List DArg → ℕ → Check (List (Name × Arg) × List (ℕ × Atom))
end_values s A args n =
    let binders = length A.binders in
    Needs 1 ((length args == binders + count_of_atoms A.terms) && (n == count_of_goals A.terms))
    (Given 2 (to_values s.next A.binders (take binders args)) (λ bs.
    Given 2 (chosen s.atoms (drop binders args)) (λ cs. Leaves (bs, cs))))

-- the terms of an assertion, and of a postcondition, as they are read at a path's end
abbrev pub met_terms : SymState → List (Name × Arg) → List Term → List Term
met_terms s bs ts = terms_with (replacing (local_values s.locals ++ bs)) ts

abbrev pub returned_terms : SymState → List Name → Word → List (Name × Arg) → List Term → List Term
returned_terms s params w bs ts =
    terms_with (with_answer w (replacing (local_values s.locals ++ names_with params (map old_word params) ++ bs))) ts

abbrev pub returned_end : SymState → Signature → Operand → End
returned_end s S a = record { assertion = S.post; reading = as_answer s S (operand_term s.locals a) }
