-- Lists that are made step by step, and what stands before a list that may be none.
use Rattle.std.proofs.Common.{◌≡◌, ◌∙◌, ℕ, Bool, true, false, subst, ◌-◌, ◌<◌, ◌≤◌, List, [], ◌∷◌, ◌++◌, length, get_or, take, drop, Option, Some, None, refl, sym, ap, append_assoc, arith}
use Rattle.std.proofs.lemmas.List.{take_all, append-nil}
use Rattle.bed_lang.specs.declared.logic.Atom.{Atom}
use Rattle.bed_lang.specs.declared.logic.Arg.{Arg}
use Rattle.bed_lang.specs.declared.logic.Pure.{Pure}
use Rattle.bed_lang.specs.declared.logic.Term.{Term}
use Rattle.bed_lang.specs.declared.logic.Term.TheVariants as term
use Rattle.bed_deriv.specs.declared.derivation.DArg.{DArg}
use Rattle.bed_deriv.specs.Arguments.{to_number}
use Rattle.bed_deriv.specs.Matches.{atom_numbered, choice_before, chosen, arg_goal, arg_equations, atom_equations, goal_before, goals_before, match_goals}
use Rattle.bed_deriv.specs.Matching.{prefixed, continued, AppendedIf}

-- a list is its first item and the others
pub list_is : {A : Type 0} (xs : List A) (x : A) → x ≡ get_or xs 0 x → 1 ≤ length xs → xs ≡ x ∷ take (length xs - 1) (drop 1 xs)
list_is [] x e h = absurd (omega (arith, h))
list_is (y ∷ ys) x e h =
    let first : y ≡ x = sym e in
    let others : ys ≡ take (length (y ∷ ys) - 1) ys = sym (take_all (length (y ∷ ys) - 1) ys (omega arith)) in
    ap (λ z. z ∷ ys) first ∙ ap (λ zs. x ∷ zs) others

pub none_left : {A : Type 0} (xs : List A) → length xs < 1 → xs ≡ []
none_left [] h = refl
none_left (x ∷ xs) h = absurd (omega (arith, h))

pub prefixed_nil : {A : Type 0} (r : Option (List A)) → prefixed [] r ≡ r
prefixed_nil None = refl
prefixed_nil (Some ys) = refl

pub prefixed_whole : {A : Type 0} (xs : List A) → prefixed xs (Some []) ≡ Some xs
prefixed_whole xs = ap Some (append-nil xs)

prefixed_choice : (xs : List (ℕ × Atom)) (c : ℕ × Atom) (r : Option (List (ℕ × Atom))) → prefixed (xs ++ c ∷ []) r ≡ prefixed xs (choice_before (Some c) r)
prefixed_choice xs c None = refl
prefixed_choice xs c (Some ys) = ap Some (append_assoc xs (c ∷ []) ys)

pub prefixed_goal : (xs : List Pure) (p : Pure) (r : Option (List Pure)) → prefixed (xs ++ p ∷ []) r ≡ prefixed xs (goal_before (Some p) r)
prefixed_goal xs p None = refl
prefixed_goal xs p (Some ys) = ap Some (append_assoc xs (p ∷ []) ys)

-- ---- the atoms that are chosen, with those so far

pub chosen_more : (atoms : List Atom) (out new : List (ℕ × Atom)) (c : ℕ × Atom) (args more : List DArg) (a : DArg) (r : Option (List (ℕ × Atom)))
    → new ≡ out ++ c ∷ [] → args ≡ a ∷ more → Some c ≡ atom_numbered atoms (to_number (Some a)) → prefixed out (chosen atoms args) ≡ r
    → prefixed new (chosen atoms more) ≡ r
chosen_more atoms out new c args more a r pushed is found e =
    ap (λ xs. prefixed xs (chosen atoms more)) pushed
    ∙ prefixed_choice out c (chosen atoms more)
    ∙ ap (λ o. prefixed out (choice_before o (chosen atoms more))) found
    ∙ ap (λ xs. prefixed out (chosen atoms xs)) (sym is)
    ∙ e

pub chosen_none : (atoms : List Atom) (out : List (ℕ × Atom)) (args more : List DArg) (a : DArg) (r : Option (List (ℕ × Atom)))
    → args ≡ a ∷ more → None ≡ atom_numbered atoms (to_number (Some a)) → prefixed out (chosen atoms args) ≡ r → None ≡ r
chosen_none atoms out args more a r is none e =
    ap (λ o. prefixed out (choice_before o (chosen atoms more))) none
    ∙ ap (λ xs. prefixed out (chosen atoms xs)) (sym is)
    ∙ e

pub chosen_all : (atoms : List Atom) (out : List (ℕ × Atom)) (args : List DArg) (r : Option (List (ℕ × Atom)))
    → length args < 1 → prefixed out (chosen atoms args) ≡ r → Some out ≡ r
chosen_all atoms out args r h e =
    sym (prefixed_whole out) ∙ ap (λ xs. prefixed out (chosen atoms xs)) (sym (none_left args h)) ∙ e

-- ---- equations of arguments, with those so far

pub equations_more : (out new : List Pure) (p : Pure) (args more others rest : List Arg) (a b : Arg) (r : Option (List Pure))
    → new ≡ out ++ p ∷ [] → args ≡ a ∷ more → others ≡ b ∷ rest → Some p ≡ arg_goal a b → prefixed out (arg_equations args others) ≡ r
    → prefixed new (arg_equations more rest) ≡ r
equations_more out new p args more others rest a b r pushed is are found e =
    ap (λ xs. prefixed xs (arg_equations more rest)) pushed
    ∙ prefixed_goal out p (arg_equations more rest)
    ∙ ap (λ o. prefixed out (goal_before o (arg_equations more rest))) found
    ∙ ap (λ xs. prefixed out (arg_equations xs (b ∷ rest))) (sym is)
    ∙ ap (λ ys. prefixed out (arg_equations args ys)) (sym are)
    ∙ e

pub equations_none : (out : List Pure) (args more others rest : List Arg) (a b : Arg) (r : Option (List Pure))
    → args ≡ a ∷ more → others ≡ b ∷ rest → None ≡ arg_goal a b → prefixed out (arg_equations args others) ≡ r → None ≡ r
equations_none out args more others rest a b r is are none e =
    ap (λ o. prefixed out (goal_before o (arg_equations more rest))) none
    ∙ ap (λ xs. prefixed out (arg_equations xs (b ∷ rest))) (sym is)
    ∙ ap (λ ys. prefixed out (arg_equations args ys)) (sym are)
    ∙ e

pub equations_short : (out : List Pure) (args more others : List Arg) (a : Arg) (r : Option (List Pure))
    → args ≡ a ∷ more → length others < 1 → prefixed out (arg_equations args others) ≡ r → None ≡ r
equations_short out args more others a r is h e =
    ap (λ xs. prefixed out (arg_equations xs [])) (sym is)
    ∙ ap (λ ys. prefixed out (arg_equations args ys)) (sym (none_left others h))
    ∙ e

pub equations_all : (out : List Pure) (args others : List Arg) (r : Option (List Pure))
    → length args < 1 → length others < 1 → prefixed out (arg_equations args others) ≡ r → Some out ≡ r
equations_all out args others r h k e =
    sym (prefixed_whole out)
    ∙ ap (λ xs. prefixed out (arg_equations xs [])) (sym (none_left args h))
    ∙ ap (λ ys. prefixed out (arg_equations args ys)) (sym (none_left others k))
    ∙ e

pub equations_over : (out : List Pure) (args others : List Arg) (r : Option (List Pure))
    → length args < 1 → 1 ≤ length others → prefixed out (arg_equations args others) ≡ r → None ≡ r
equations_over out args [] r h k e = absurd (omega (arith, k))
equations_over out args (b ∷ rest) r h k e = ap (λ xs. prefixed out (arg_equations xs (b ∷ rest))) (sym (none_left args h)) ∙ e

-- ---- goals of terms, with those so far

-- further goals come behind those of one atom, if there are any
pub appended_goals : (old new : List Pure) (r q : Option (List Pure)) → prefixed old r ≡ Some new → prefixed old (goals_before r q) ≡ prefixed new q
appended_goals old new None q e = absurd cc
appended_goals old new (Some ps) None e = refl
appended_goals old new (Some ps) (Some ys) e =
    let k : old ++ ps ≡ new = cc in
    ap Some (sym (append_assoc old ps ys) ∙ ap (λ m. m ++ ys) k)

pub refused_goals : (old : List Pure) (r q : Option (List Pure)) → r ≡ None → prefixed old (goals_before r q) ≡ None
refused_goals old None q e = refl
refused_goals old (Some ps) q e = absurd cc

pub term_emp : (out : List Pure) (t : Term) (cs : List (ℕ × Atom)) (ts : List Term)
    → t ≡ term.Emp → prefixed out (match_goals (t ∷ ts) cs) ≡ prefixed out (match_goals ts cs)
term_emp out t cs ts is = ap (λ z. prefixed out (match_goals (z ∷ ts) cs)) is

pub term_pure : (out new : List Pure) (t : Term) (p q : Pure) (cs : List (ℕ × Atom)) (ts : List Term)
    → t ≡ term.Pure p → q ≡ p → new ≡ out ++ q ∷ [] → prefixed out (match_goals (t ∷ ts) cs) ≡ prefixed new (match_goals ts cs)
term_pure out new t p q cs ts is same pushed =
    ap (λ z. prefixed out (match_goals (z ∷ ts) cs)) is
    ∙ ap (λ z. prefixed out (goal_before (Some z) (match_goals ts cs))) (sym same)
    ∙ sym (prefixed_goal out q (match_goals ts cs))
    ∙ ap (λ xs. prefixed xs (match_goals ts cs)) (sym pushed)

pub term_alone : (out : List Pure) (t : Term) (a : Atom) (cs : List (ℕ × Atom)) (ts : List Term)
    → t ≡ term.Atom a → length cs < 1 → prefixed out (match_goals (t ∷ ts) cs) ≡ None
term_alone out t a cs ts is h =
    ap (λ z. prefixed out (match_goals (z ∷ ts) cs)) is ∙ ap (λ xs. prefixed out (match_goals (term.Atom a ∷ ts) xs)) (none_left cs h)

pub term_atom : (b : Bool) (out new : List Pure) (t : Term) (a : Atom) (cs more : List (ℕ × Atom)) (c : ℕ × Atom) (ts : List Term)
    → t ≡ term.Atom a → cs ≡ c ∷ more → AppendedIf b out new (atom_equations a c.1) → b ≡ true
    → prefixed out (match_goals (t ∷ ts) cs) ≡ prefixed new (match_goals ts more)
term_atom b out new t a cs more c ts is are e fits =
    ap (λ z. prefixed out (match_goals (z ∷ ts) cs)) is
    ∙ ap (λ xs. prefixed out (match_goals (term.Atom a ∷ ts) xs)) are
    ∙ appended_goals out new (atom_equations a c.1) (match_goals ts more) (subst (λ z. AppendedIf z out new (atom_equations a c.1)) fits e)

pub term_refused : (b : Bool) (out new : List Pure) (t : Term) (a : Atom) (cs more : List (ℕ × Atom)) (c : ℕ × Atom) (ts : List Term)
    → t ≡ term.Atom a → cs ≡ c ∷ more → AppendedIf b out new (atom_equations a c.1) → b ≡ false
    → prefixed out (match_goals (t ∷ ts) cs) ≡ None
term_refused b out new t a cs more c ts is are e refused =
    ap (λ z. prefixed out (match_goals (z ∷ ts) cs)) is
    ∙ ap (λ xs. prefixed out (match_goals (term.Atom a ∷ ts) xs)) are
    ∙ refused_goals out (atom_equations a c.1) (match_goals ts more) (subst (λ z. AppendedIf z out new (atom_equations a c.1)) refused e)

pub goals_more : (out new : List Pure) (left : List (ℕ × Atom)) (o : Option (List (ℕ × Atom))) (others : List (ℕ × Atom)) (terms more : List Term) (t : Term) (r : Option (List Pure))
    → terms ≡ t ∷ more → ((ts : List Term) → prefixed out (match_goals (t ∷ ts) left) ≡ continued new ts o) → o ≡ Some others
    → prefixed out (match_goals terms left) ≡ r → prefixed new (match_goals more others) ≡ r
goals_more out new left o others terms more t r is f some e =
    ap (λ z. continued new more z) (sym some) ∙ sym (f more) ∙ ap (λ xs. prefixed out (match_goals xs left)) (sym is) ∙ e

pub goals_none : (out new : List Pure) (left : List (ℕ × Atom)) (o : Option (List (ℕ × Atom))) (terms more : List Term) (t : Term) (r : Option (List Pure))
    → terms ≡ t ∷ more → ((ts : List Term) → prefixed out (match_goals (t ∷ ts) left) ≡ continued new ts o) → o ≡ None
    → prefixed out (match_goals terms left) ≡ r → None ≡ r
goals_none out new left o terms more t r is f none e =
    ap (λ z. continued new more z) (sym none) ∙ sym (f more) ∙ ap (λ xs. prefixed out (match_goals xs left)) (sym is) ∙ e

pub goals_all : (out : List Pure) (terms : List Term) (left : List (ℕ × Atom)) (r : Option (List Pure))
    → length terms < 1 → length left < 1 → prefixed out (match_goals terms left) ≡ r → Some out ≡ r
goals_all out terms left r h k e =
    sym (prefixed_whole out)
    ∙ ap (λ xs. prefixed out (match_goals xs [])) (sym (none_left terms h))
    ∙ ap (λ ys. prefixed out (match_goals terms ys)) (sym (none_left left k))
    ∙ e

pub goals_over : (out : List Pure) (terms : List Term) (left : List (ℕ × Atom)) (r : Option (List Pure))
    → length terms < 1 → 1 ≤ length left → prefixed out (match_goals terms left) ≡ r → None ≡ r
goals_over out terms [] r h k e = absurd (omega (arith, k))
goals_over out terms (c ∷ cs) r h k e = ap (λ xs. prefixed out (match_goals xs (c ∷ cs))) (sym (none_left terms h)) ∙ e
