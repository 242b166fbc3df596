-- At a goal that is a fact, a node of a rule that changes a state is refused by the premises that are tested there.
use Rattle.std.proofs.Common.{◌≡◌, ◌≢◌, ℕ, suc, ◌+◌, ◌-◌, Bool, true, false, ◌&&◌, ◌==◌, if◌then◌else◌, List, [], ◌∷◌, length, take, drop, is_some, Option, Some, None, Result, Ok, Err, refl, sym, ap, ◌∙◌, subst, arith}
use Rattle.std.specs.Prelude.{slice_get}
use Rattle.std.specs.Cmp.{unsigned_Decides}
use Rattle.std.proofs.Math.Bool.{and-true}
use Rattle.std.proofs.lemmas.Bool.{and_parts}
use Rattle.std.proofs.lemmas.Option.{slice_get_past}
use Rattle.bed_machine.proofs.WordLaws.{some_same}
use Rattle.bed_lang.specs.declared.word.Name.{Name}
use Rattle.bed_lang.specs.declared.word.Word.{Word}
use Rattle.bed_lang.specs.declared.logic.Arg.{Arg}
use Rattle.bed_lang.specs.declared.logic.Atom.{Atom}
use Rattle.bed_lang.specs.declared.logic.Bind.{Bind}
use Rattle.bed_lang.specs.declared.module.Predicate.{Predicate}
use Rattle.bed_lang.specs.declared.condition.Decls.{Decls}
use Rattle.bed_lang.specs.Lookups.{predicate_named}
use Rattle.bed_deriv.specs.declared.derivation.DArg.{DArg}
use Rattle.bed_deriv.specs.declared.state.SymState.{SymState}
use Rattle.bed_deriv.specs.declared.state.Sequent.{Sequent}
use Rattle.bed_deriv.specs.declared.state.Remainder.{Remainder}
use Rattle.bed_deriv.specs.Arguments.{numbered, at_number, to_number, number_at, name_at, to_value, value_before, named, to_values, counts}
use Rattle.bed_deriv.specs.Checks.{Step, Needs, Given, Fails, Leaves, when, first_failure, have_room, left_states, remainder, leaves}
use Rattle.bed_deriv.specs.Matches.{with_number, atom_numbered, choice_before, chosen}
use Rattle.bed_deriv.specs.HeapRules.{claim, case_split, never, unfold_rule, beside, predicate_of, fold_rule, append_rule, divide, merge, shape, block_of, cell_of, four_chosen, Shape, CellToBytes, BytesToCell, BlockToCell, CellToBlock, DropBlock, shapes, shape_of}
use Rattle.bed_deriv.specs.Derives.{refused}
use Rattle.bed_check_pure.specs.Refusals.{claim_refused, never_refused, unfold_refused, are_values, are_numbers, fold_values, fold_case, predicate_at, fold_refused, divide_refused, pair_refused, atom_refused, is_atom, are_atoms, bytes_refused, form_refused, shape_refused}
use Rattle.bed_check_pure.proofs.RuleLaws.{same_number}

-- what is refused is never accepted, and whatever room the states have it is refused so
pub never_accepted : {A B : Type 0} (r : Result A ℕ) (x : B) → refused r ≡ Ok x → ⊥
never_accepted (Ok y) x e = absurd (cc)
never_accepted (Err p) x e = absurd (cc)

-- ---- what a check is refused with, read off its premises

abbrev pub Refused : Result (List Sequent) ℕ → Step → Type 0
Refused r (Needs p b c) = (b ≡ false → r ≡ Err p) × (b ≡ true → Refused r c)
Refused r (Given p o c) = (o ≡ None → r ≡ Err p) × ((x : _) → o ≡ Some x → Refused r (c x))
Refused r (Fails p) = r ≡ Err p
Refused r (Leaves m) = r ≡ Err 3

roomy_or_not : (b : Bool) (m : Remainder) → refused {B = List Sequent} (when b 3 (Ok m)) ≡ Err 3
roomy_or_not true m = refl
roomy_or_not false m = refl

refused_so : (r : Result (List Sequent) ℕ) (c : Step) → Refused r c → r ≡ refused (remainder c)
refused_so r (Needs p true c) s = refused_so r c (s.1 refl)
refused_so r (Needs p false c) s = s.0 refl
refused_so r (Given p None c) s = s.0 refl
refused_so r (Given p (Some x) c) s = refused_so r (c x) (s.1 x refl)
refused_so r (Fails p) s = s
refused_so r (Leaves m) s = s ∙ sym (roomy_or_not (have_room (left_states m)) m)

-- ---- the rules

module _ (s : SymState) (args : List DArg) (n : ℕ) where
  pub claim_is : first_failure (claim_refused s args n) ≡ refused (remainder (claim s args n))
  claim_is = refused_so _ (claim s args n) (λ z. rw z refl, λ t. (λ z. rw (t, z) refl, λ p z. rw (t, z) refl))

  pub when_is : first_failure (claim_refused s args n) ≡ refused (remainder (case_split s args n))
  when_is =
      refused_so _ (case_split s args n)
      (λ z. rw z refl, λ t. (λ z. rw (t, z) refl, λ p z. (λ y. rw (t, z) refl, λ q y. rw (t, z) refl)))

  pub never_is : first_failure (never_refused args n) ≡ refused (remainder (never args n))
  never_is = refused_so _ (never args n) (λ z. rw z refl, λ t. rw t refl)

  pub divide_is : first_failure (divide_refused s args n) ≡ refused (remainder (divide s args n))
  divide_is =
      refused_so _ (divide s args n) (
        λ z. rw z refl,
        λ t. (
          λ z. rw (t, z) refl,
          λ i ti. (
            λ z. rw (t, ti, z) refl,
            λ x tx.
                (λ z. rw (t, ti, tx, z) refl, λ m tm. (λ y. rw (t, ti, tx, tm) refl, λ b y. rw (t, ti, tx, tm) refl)),
          ),
        ),
      )

  pub merge_is : first_failure (pair_refused s args n) ≡ refused (remainder (merge s args n))
  merge_is =
      refused_so _ (merge s args n) (
        λ z. rw z refl,
        λ t. (
          λ z. rw (t, z) refl,
          λ i ti. (
            λ z. rw (t, ti, z) refl,
            λ x tx. (
              λ z. rw (t, ti, tx, z) refl,
              λ j tj. (
                λ z. rw (t, ti, tx, tj, z) refl,
                λ y ty.
                    let e : first_failure (pair_refused s args n) ≡ Err 3 = rw (t, ti, tx, tj, ty) refl in
                    (λ d. e, λ d. (λ z. e, λ b z. (λ y. e, λ c y. e))),
              ),
            ),
          ),
        ),
      )

  pub append_is : (d : Decls) → first_failure (pair_refused s args n) ≡ refused (remainder (append_rule d s args n))
  append_is d =
      refused_so _ (append_rule d s args n) (
        λ z. rw z refl,
        λ t. (
          λ z. rw (t, z) refl,
          λ i ti. (
            λ z. rw (t, ti, z) refl,
            λ x tx. (
              λ z. rw (t, ti, tx, z) refl,
              λ j tj. (
                λ z. rw (t, ti, tx, tj, z) refl,
                λ y ty.
                    let e : first_failure (pair_refused s args n) ≡ Err 3 = rw (t, ti, tx, tj, ty) refl in
                    (λ z. e, λ z. (λ z. e, λ z. (λ z. e, λ b z. (λ z. e, λ c z. e)))),
              ),
            ),
          ),
        ),
      )

  pub unfold_is : (d : Decls) → first_failure (unfold_refused d s args n) ≡ refused (remainder (unfold_rule d s args n))
  unfold_is d =
      refused_so _ (unfold_rule d s args n) (
        λ z. rw z refl,
        λ t. (
          λ z. rw (t, z) refl,
          λ i ti. (
            λ z. rw (t, ti, z) refl,
            λ x tx. (
              λ z. rw (t, ti, tx, z) refl,
              λ p tp. (λ z. rw (t, ti, tx, tp, z) refl, λ z. rw (t, ti, tx, tp, z) refl),
            ),
          ),
        ),
      )

  -- one atom
  an_atom : (children : ℕ) (found : Atom → Option (Word × Word))
      → Refused (first_failure (atom_refused s args n children)) (Needs 1 (counts args 2 n children)
      (Given 2 (number_at args 1) (λ i. Given 2 (numbered s.atoms i) (λ x. Given 3 (found x) (λ c. leaves [] [])))))
  an_atom children found = (
    λ z. rw z refl,
    λ t. (
      λ z. rw (t, z) refl,
      λ i ti. (
        λ z. rw (t, ti, z) refl,
        λ x tx.
            (λ y. rw (t, ti, tx) refl, λ c y. rw (t, ti, tx) refl),
      ),
    ),
  )

-- four atoms: each argument is one's number, and there are as many
one_choice : (xs : List Atom) (a : DArg) (more : List DArg)
    → is_some (chosen xs (a ∷ more)) ≡ (is_some (at_number xs (to_number (Some a))) && is_some (chosen xs more))
one_choice xs a more = by (to_number (Some a)) (chosen xs more)
  where
    found : (x : Option Atom) (i : ℕ) (m : Option (List (ℕ × Atom))) → is_some (choice_before (with_number x (Some i)) m) ≡ (is_some x && is_some m)
    found None i m = refl
    found (Some x) i None = refl
    found (Some x) i (Some m) = refl

    by : (o : Option ℕ) (m : Option (List (ℕ × Atom))) → is_some (choice_before (atom_numbered xs o) m) ≡ (is_some (at_number xs o) && is_some m)
    by None m = refl
    by (Some i) m = found (numbered xs i) i m

four_choices : (s : SymState) (args : List DArg) → length args ≡ 5 → is_some (chosen s.atoms (drop 1 args)) ≡ are_atoms s args
four_choices s (k ∷ a ∷ b ∷ c ∷ d ∷ []) l =
    let args : List DArg = k ∷ a ∷ b ∷ c ∷ d ∷ [] in
    one_choice s.atoms a (b ∷ c ∷ d ∷ []) ∙ ap (λ z. is_atom s args 1 && z)
    (one_choice s.atoms b (c ∷ d ∷ []) ∙ ap (λ z. is_atom s args 2 && z)
    (one_choice s.atoms c (d ∷ []) ∙ ap (λ z. is_atom s args 3 && z)
    (one_choice s.atoms d [] ∙ and-true (is_atom s args 4))))
four_choices s _ l = absurd (omega arith)

-- ---- fold

numbers_are : (s : SymState) (args : List DArg) → is_some (chosen s.atoms args) ≡ are_numbers s args
numbers_are s [] = refl
numbers_are s (a ∷ args) = one_choice s.atoms a args ∙ ap (λ z. is_atom s (a ∷ args) 0 && z) (numbers_are s args)

values_are : (next : ℕ) (bs : List Bind) (args : List DArg) → is_some (to_values next bs args) ≡ are_values next bs args
values_are next [] args = refl
values_are next (b ∷ bs) [] = refl
values_are next (b ∷ bs) (a ∷ args) =
    by (to_value next b.sort (Some a)) (to_values next bs args)
    ∙ ap (λ z. is_some (to_value next b.sort (Some a)) && z) (values_are next bs args)
  where
    by : (o : Option Arg) (m : Option (List (Name × Arg))) → is_some (value_before next (named next b.name o) m) ≡ (is_some o && is_some m)
    by None m = refl
    by (Some v) None = refl
    by (Some v) (Some m) = refl

none_named : (d : Decls) (o : Option Name) → predicate_of d o ≡ None → predicate_at d o ≡ None
none_named d None e = refl
none_named d (Some x) e = by (predicate_named d x.bytes) e
  where
    by : (p : Option Predicate) → beside x p ≡ None → p ≡ None
    by None e = refl
    by (Some p) e = absurd (cc)

one_named : (d : Decls) (o : Option Name) (p : Name × Predicate) → predicate_of d o ≡ Some p → predicate_at d o ≡ Some p.1
one_named d None p e = absurd (cc)
one_named d (Some x) p e = by (predicate_named d x.bytes) e
  where
    by : (q : Option Predicate) → beside x q ≡ Some p → q ≡ Some p.1
    by None e = absurd (cc)
    by (Some q) e = ap (λ (z : Name × Predicate). Some z.1) (some_same e)

first_fails : (a b c : Bool) → a ≡ false → (a && (b && c)) ≡ false
first_fails a b c e = rw e refl

second_fails : (a b c : Bool) → a ≡ true → b ≡ false → (a && (b && c)) ≡ false
second_fails a b c e f = rw (e, f) refl

third_fails : (a b c : Bool) → a ≡ true → b ≡ true → c ≡ false → (a && (b && c)) ≡ false
third_fails a b c e f g = rw (e, f, g) refl

all_hold : (a b c : Bool) → a ≡ true → b ≡ true → c ≡ true → (a && (b && c)) ≡ true
all_hold a b c e f g = rw (e, f, g) refl

pub fold_is : (d : Decls) (s : SymState) (args : List DArg) (n : ℕ) → first_failure (fold_refused d s args n) ≡ refused (remainder (fold_rule d s args n))
fold_is d s args n =
    refused_so _ (fold_rule d s args n) (
      λ z. rw z refl,
      λ t. (
        λ z. rw (t, none_named d (name_at args 0) z) refl,
        λ p tp.
            let named : predicate_at d (name_at args 0) ≡ Some p.1 = one_named d (name_at args 0) p tp in (
              λ z. rw (t, named, z) refl,
              λ A tA.
                  let e : first_failure (fold_refused d s args n) ≡ first_failure (fold_case s args n p.1 A) = rw (t, named, tA) refl in
                  let params = take (length p.1.params) (drop 2 args) in
                  let binders = take (length A.binders) (drop (2 + length p.1.params) args) in
                  let atoms = drop (2 + length p.1.params + length A.binders) args in
                  let a = are_values s.next p.1.params params in
                  let b = are_values s.next A.binders binders in
                  let c = are_numbers s atoms in (
                    λ z. e ∙ rw z refl,
                    λ u. (
                      λ z.
                          let none : fold_values s args p.1 A ≡ false = first_fails a b c (sym (values_are s.next p.1.params params) ∙ ap is_some z) in
                          e ∙ rw (u, none) refl,
                      λ vs tv.
                          let va : a ≡ true = sym (values_are s.next p.1.params params) ∙ ap is_some tv in (
                            λ z.
                                let none : fold_values s args p.1 A ≡ false = second_fails a b c va (sym (values_are s.next A.binders binders) ∙ ap is_some z) in
                                e ∙ rw (u, none) refl,
                            λ bs tb.
                                let vb : b ≡ true = sym (values_are s.next A.binders binders) ∙ ap is_some tb in (
                                  λ z.
                                      let none : fold_values s args p.1 A ≡ false = third_fails a b c va vb (sym (numbers_are s atoms) ∙ ap is_some z) in
                                      e ∙ rw (u, none) refl,
                                  λ cs tc.
                                      let all : fold_values s args p.1 A ≡ true = all_hold a b c va vb (sym (numbers_are s atoms) ∙ ap is_some tc) in
                                      let f : first_failure (fold_refused d s args n) ≡ Err 3 = e ∙ rw (u, all) refl in
                                      (λ z. f, λ z. (λ z. f, λ gs z. f)),
                                ),
                          ),
                    ),
                  ),
            ),
      ),
    )

as_many : (xs : List Atom) (args : List DArg) (cs : List (ℕ × Atom)) → chosen xs args ≡ Some cs → length cs ≡ length args
as_many xs [] cs e = ap length (sym (some_same e))
as_many xs (a ∷ more) cs e = by (atom_numbered xs (to_number (Some a))) (chosen xs more) (λ ds m. as_many xs more ds m) e
  where
    by : (x : Option (ℕ × Atom)) (m : Option (List (ℕ × Atom))) → ((ds : List (ℕ × Atom)) → m ≡ Some ds → length ds ≡ length more)
        → choice_before x m ≡ Some cs → length cs ≡ suc (length more)
    by None m many e = absurd (cc)
    by (Some x) None many e = absurd (cc)
    by (Some x) (Some ds) many e = ap length (sym (some_same e)) ∙ ap suc (many ds refl)

four_bytes_chosen : (s : SymState) (cs : List (ℕ × Atom)) (r : Result (List Sequent) ℕ) → length cs ≡ 4 → r ≡ Err 3 → Refused r (four_chosen s cs)
four_bytes_chosen s (i ∷ j ∷ k ∷ l ∷ []) r four e = (λ z. e, λ a z. (λ z. e, λ b z. (λ z. e, λ c z. (λ z. e, λ d z. e))))
four_bytes_chosen s _ r four e = absurd (omega arith)

four_left : (args : List DArg) → length args ≡ 5 → length (drop 1 args) ≡ 4
four_left [] l = absurd (omega arith)
four_left (a ∷ more) l = omega arith

module _ (s : SymState) (args : List DArg) (n : ℕ) where
  of_form : (form : Shape) → Refused (first_failure (form_refused form s args n)) (shape_of form s args n)
  of_form CellToBytes = an_atom s args n 1 cell_of
  of_form BytesToCell = (
    λ z. rw z refl,
    λ t.
        let five : length args ≡ 5 = same_number (length args) 5 (and_parts (length args == 5) (n == 5) t).0 in
        let all = four_choices s args five in (
          λ z. let none : are_atoms s args ≡ false = sym all ∙ ap is_some z in rw (t, none) refl,
          λ cs z.
              let found : are_atoms s args ≡ true = sym all ∙ ap is_some z in
              let e : first_failure (bytes_refused s args n) ≡ Err 3 = rw (t, found) refl in
              (λ d. e, λ d. four_bytes_chosen s cs _ (as_many s.atoms (drop 1 args) cs z ∙ four_left args five) e),
        ),
  )
  of_form BlockToCell = an_atom s args n 2 block_of
  of_form CellToBlock = an_atom s args n 1 cell_of
  of_form DropBlock = an_atom s args n 2 block_of

  pub shape_is : first_failure (shape_refused s args n) ≡ refused (remainder (shape s args n))
  shape_is =
      refused_so _ (shape s args n) (
        λ z. rw z refl,
        λ t. (
          λ z. rw (t, z) refl,
          λ form found.
              let e : first_failure (form_refused form s args n) ≡ first_failure (shape_refused s args n) = rw (t, found) refl in
              subst (λ (r : Result (List Sequent) ℕ). Refused r (shape_of form s args n)) e (of_form form),
        ),
      )

-- a number above 5 is no shape's
pub no_shape : (k : ℕ) → k ≢ 1 → k ≢ 2 → k ≢ 3 → k ≢ 4 → k ≢ 5 → numbered shapes k ≡ None
no_shape k a b c d e = by (k == 0) (λ z. (unsigned_Decides k 0).1 z)
  where
    by : (t : Bool) → (k ≡ 0 → t ≡ true) → (if t then None else slice_get shapes (k - 1)) ≡ None
    by true f = refl
    by false f =
        let positive : k ≢ 0 = λ z. absurd (let t = f z in cc) in
        slice_get_past shapes (k - 1) (omega (arith, a, b, c, d, e, positive))
