-- A state whose next fresh variable has no number has no room.
use Rattle.std.proofs.Common.{◌≡◌, ℕ, ◌+◌, ◌-◌, ◌<◌, ◌≤◌, Bool, true, false, ◌&&◌, nat_lt, List, [], ◌∷◌, ◌++◌, length, get_or, take, drop, append_assoc, Result, Ok, Err, refl, sym, ap, ◌∙◌, subst, arith}
use Rattle.std.proofs.lemmas.Bool.{ltb-true}
use Rattle.std.proofs.lemmas.List.{take_all}
use Rattle.bed_lang.specs.declared.word.Name.{Name}
use Rattle.bed_lang.specs.declared.logic.Arg.{Arg}
use Rattle.bed_lang.specs.declared.logic.Pure.{Pure}
use Rattle.bed_lang.specs.declared.logic.Assertion.{Assertion}
use Rattle.bed_deriv.specs.declared.state.SymState.{SymState}
use Rattle.bed_deriv.specs.declared.state.Remainder.{Remainder}
use Rattle.bed_deriv.specs.Opening.{alone, opened_anew}
use Rattle.bed_deriv.specs.HeapRules.{cases_opened}
use Rattle.bed_deriv.specs.Checks.{when, has_room, have_room, with_room, left_states}
use Rattle.bed_check_pure.specs.declared.fault.Fault.{Fault}
use Rattle.bed_check_pure.specs.declared.fault.Fault.TheVariants.{Count, Argument, Condition, Memory}
use Rattle.bed_check_heap.specs.Parts.{AnswersRoom}
use Rattle.bed_check_heap.specs.Predicates.{OpensCase, OpensCases, all_opened}

pub full_fails : (goals : List Pure) (s : SymState) → 4294967296 ≤ s.next
    → with_room left_states (Ok (record { goals = goals; states = s ∷ [] })) ≡ Err 3
full_fails goals s h =
    by (Ok (record { goals = goals; states = s ∷ [] })) (nat_lt s.next 4294967296) (ltb-true s.next 4294967296)
  where
    by : (x : Result Remainder ℕ) (b : Bool) → (b ≡ true → s.next < 4294967296)
        → when ((b && nat_lt (length s.facts) 4294967296 && nat_lt (length s.atoms) 4294967296) && true) 3 x ≡ Err 3
    by x true d = absurd (omega (arith, d refl, h))
    by x false d = refl

-- ---- cases that are opened

full : (t : SymState) → 4294967296 ≤ t.next → has_room t ≡ false
full t h = by (nat_lt t.next 4294967296) (ltb-true t.next 4294967296)
  where
    by : (b : Bool) → (b ≡ true → t.next < 4294967296)
        → (b && nat_lt (length t.facts) 4294967296 && nat_lt (length t.atoms) 4294967296) ≡ false
    by true d = absurd (omega (arith, d refl, h))
    by false d = refl

and_false : (b : Bool) → (b && false) ≡ false
and_false true = refl
and_false false = refl

past : (s : SymState) (vs : List (Name × Arg)) (A : Assertion) (more : List Assertion) (out : List SymState) → 4294967296 ≤ s.next + length A.binders
    → have_room (out ++ cases_opened s vs (A ∷ more)) ≡ false
past s vs A more [] h = ap (λ (b : Bool). b && have_room (cases_opened s vs more)) (full (opened_anew alone vs A s) h)
past s vs A more (o ∷ out) h = ap (λ (b : Bool). has_room o && b) (past s vs A more out h) ∙ and_false (has_room o)

-- a case that has no room, and those that are opened with it
pub case_fails : (fault : Fault) (old new total : List SymState) (vs : List (Name × Arg)) (A : Assertion) (more : List Assertion) (s : SymState)
    → OpensCase (Err fault) old new vs A s → old ++ cases_opened s vs (A ∷ more) ≡ total → OpensCases (Err fault) total
case_fails Count old new total vs A more s h e = absurd h
case_fails Argument old new total vs A more s h e = absurd h
case_fails Condition old new total vs A more s h e = subst (λ (ss : List SymState). have_room ss ≡ false) e (past s vs A more old h)
case_fails Memory old new total vs A more s h e = tt

-- a list is its first item and the others
pub list_is : {A : Type 0} (xs : List A) (x : A) → x ≡ get_or xs 0 x → 1 ≤ length xs → xs ≡ x ∷ take (length xs - 1) (drop 1 xs)
list_is [] x e h = absurd (omega (arith, h))
list_is (y ∷ ys) x e h =
    let first : y ≡ x = sym e in
    let others : ys ≡ take (length (y ∷ ys) - 1) ys = sym (take_all (length (y ∷ ys) - 1) ys (omega arith)) in
    ap (λ z. z ∷ ys) first ∙ ap (λ zs. x ∷ zs) others

pub case_refused : (fault : Fault) (old new total : List SymState) (vs : List (Name × Arg)) (A : Assertion) (more rest : List Assertion) (s : SymState)
    → OpensCase (Err fault) old new vs A s → rest ≡ A ∷ more → old ++ cases_opened s vs rest ≡ total → OpensCases (Err fault) total
case_refused fault old new total vs A more rest s opens is e =
    case_fails fault old new total vs A more s opens (ap (λ rs. old ++ cases_opened s vs rs) (sym is) ∙ e)

pub case_more : (old new total : List SymState) (vs : List (Name × Arg)) (A : Assertion) (more rest : List Assertion) (s : SymState)
    → new ≡ old ++ opened_anew alone vs A s ∷ [] → rest ≡ A ∷ more → old ++ cases_opened s vs rest ≡ total
    → new ++ cases_opened s vs more ≡ total
case_more old new total vs A more rest s opens is e =
    ap (λ xs. xs ++ cases_opened s vs more) opens
    ∙ append_assoc old (opened_anew alone vs A s ∷ []) (cases_opened s vs more)
    ∙ ap (λ rs. old ++ cases_opened s vs rs) (sym is)
    ∙ e

-- and then the rule has none
pub cases_fail : (fault : Fault) (states : List SymState) → OpensCases (Err fault) states → AnswersRoom (Err fault) (Ok (all_opened states))
cases_fail Count states h = absurd h
cases_fail Argument states h = absurd h
cases_fail Condition states h = by (have_room states) h
  where
    by : (b : Bool) → b ≡ false → when {A = Remainder} b 3 (Ok (all_opened states)) ≡ Err 3
    by true e = absurd (cc)
    by false e = refl
cases_fail Memory states h = tt
