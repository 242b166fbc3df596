-- What follows the premises of an end.
use Rattle.std.proofs.Common.{◌≡◌, ℕ, ◌+◌, ◌&&◌, ◌==◌, Bool, true, false, List, length, take, drop, Option, Some, None, Ok, Err, ap, ◌∙◌}
use Rattle.bed_lang.specs.declared.word.Name.{Name}
use Rattle.bed_lang.specs.declared.logic.Arg.{Arg}
use Rattle.bed_lang.specs.declared.logic.Atom.{Atom}
use Rattle.bed_deriv.specs.declared.derivation.DArg.{DArg}
use Rattle.bed_deriv.specs.declared.rest.Rest.{Rest}
use Rattle.bed_deriv.specs.Arguments.{to_values}
use Rattle.bed_deriv.specs.Matches.{count_of_goals, count_of_atoms, chosen}
use Rattle.bed_deriv.specs.Checks.{Needs, Given, Fails, Leaves, first_failure}
use Rattle.bed_lang.specs.declared.word.Word.{Word}
use Rattle.bed_lang.specs.declared.module.Operand.{Operand}
use Rattle.bed_lang.specs.declared.module.Signature.{Signature}
use Rattle.bed_lang.specs.SameFacts.{is_none}
use Rattle.bed_lang.specs.Instances.{Instance, terms_with}
use Rattle.bed_deriv.specs.declared.rest.Onward.{Onward}
use Rattle.bed_deriv.specs.Steps.{Path, End, operand_term, as_answer}
use Rattle.bed_check_cond.specs.Parts.{end_meets, end_found, end_with, end_values, returned_terms, returned_end}

module _ (r : Rest) (args : List DArg) (n : ℕ) (e : End) where
  abbrev fits : Bool
  fits = (length args == length e.assertion.binders + count_of_atoms e.assertion.terms) && (n == count_of_goals e.assertion.terms)

  abbrev values : Option (List (Name × Arg))
  values = to_values r.state.next e.assertion.binders (take (length e.assertion.binders) args)

  abbrev atoms : Option (List (ℕ × Atom))
  atoms = chosen r.state.atoms (drop (length e.assertion.binders) args)

  -- the values and atoms of an end are there, or aren't
  pub end_valued : (bs : List (Name × Arg)) (cs : List (ℕ × Atom)) → first_failure (end_values r.state e.assertion args n) ≡ Ok (bs, cs)
      → first_failure (end_with r args n e) ≡ first_failure (end_found r e bs cs)
  end_valued bs cs h = by fits values atoms h
    where
      by : (b : Bool) (o : Option (List (Name × Arg))) (p : Option (List (ℕ × Atom)))
          → first_failure {A = List (Name × Arg) × List (ℕ × Atom)} (Needs 1 b (Given 2 o (λ x. Given 2 p (λ y. Leaves (x, y))))) ≡ Ok (bs, cs)
          → first_failure (Needs 1 b (Given 2 o (λ x. Given 2 p (λ y. end_found r e x y)))) ≡ first_failure (end_found r e bs cs)
      by false o p k = absurd cc
      by true None p k = absurd cc
      by true (Some x) None k = absurd cc
      by true (Some x) (Some y) k =
          let same : ◌≡◌ {A = List (Name × Arg) × List (ℕ × Atom)} (x, y) (bs, cs) = cc in
          ap (λ (z : List (Name × Arg) × List (ℕ × Atom)). first_failure (end_found r e z.0 z.1)) same

  pub end_unvalued : (k : ℕ) → first_failure (end_values r.state e.assertion args n) ≡ Err k → first_failure (end_with r args n e) ≡ Err k
  end_unvalued k h = by fits values atoms h
    where
      by : (b : Bool) (o : Option (List (Name × Arg))) (p : Option (List (ℕ × Atom)))
          → first_failure {A = List (Name × Arg) × List (ℕ × Atom)} (Needs 1 b (Given 2 o (λ x. Given 2 p (λ y. Leaves (x, y))))) ≡ Err k
          → first_failure (Needs 1 b (Given 2 o (λ x. Given 2 p (λ y. end_found r e x y)))) ≡ Err k
      by false o p h = let same : 1 ≡ k = cc in ap (λ (m : ℕ). first_failure {A = Onward} (Fails m)) same
      by true None p h = let same : 2 ≡ k = cc in ap (λ (m : ℕ). first_failure {A = Onward} (Fails m)) same
      by true (Some x) None h = let same : 2 ≡ k = cc in ap (λ (m : ℕ). first_failure {A = Onward} (Fails m)) same
      by true (Some x) (Some y) h = absurd cc

-- a return: its operand has a term, or none
module _ (r : Rest) (S : Signature) (a : Operand) (bs : List (Name × Arg)) (cs : List (ℕ × Atom)) where
  abbrev read_with : Option (List (Name × Arg) → Instance) → Path
  read_with o = Given 3 o (λ σ. end_meets r.state (terms_with (σ bs) S.post.terms) cs)

  at_end : (o : Option (List (Name × Arg) → Instance)) → is_none r.actions ≡ true → first_failure (Needs 3 (is_none r.actions) (read_with o)) ≡ first_failure (read_with o)
  at_end o e = ap (λ (b : Bool). first_failure (Needs 3 b (read_with o))) e

  pub returned_none : is_none r.actions ≡ true → operand_term r.state.locals a ≡ None → first_failure (end_found r (returned_end r.state S a) bs cs) ≡ Err 3
  returned_none e h =
      at_end (as_answer r.state S (operand_term r.state.locals a)) e
      ∙ ap (λ (o : Option Word). first_failure (read_with (as_answer r.state S o))) h

  pub returned_some : (w : Word) → is_none r.actions ≡ true → operand_term r.state.locals a ≡ Some w
      → first_failure (end_found r (returned_end r.state S a) bs cs) ≡ first_failure (end_meets r.state (returned_terms r.state S.params w bs S.post.terms) cs)
  returned_some w e h =
      at_end (as_answer r.state S (operand_term r.state.locals a)) e
      ∙ ap (λ (o : Option Word). first_failure (read_with (as_answer r.state S o))) h
