-- What a rule that closes a fact without children tells: so a search that finds no such thing may answer that the rule doesn't close it.
use Rattle.std.proofs.Common.{◌≡◌, ℕ, ◌+◌, Bool, true, false, ◌&&◌, ◌||◌, ◌==◌, not, List, [], ◌∷◌, length, Option, Some, None, Result, Ok, Err, refl, ap, sym, ◌∙◌, subst}
use Rattle.bed_lang.specs.declared.word.Word.{Word}
use Rattle.bed_lang.specs.declared.word.Seq.{Seq}
use Rattle.bed_lang.specs.declared.form.Piece.{Piece}
use Rattle.bed_lang.specs.declared.logic.Pure.{Pure}
use Rattle.bed_lang.specs.declared.logic.Atom.{Atom}
use Rattle.bed_lang.specs.declared.condition.Decls.{Decls}
use Rattle.bed_lang.specs.Forms.{seq_form}
use Rattle.bed_deriv.specs.declared.derivation.Rule.TheVariants as rule
use Rattle.bed_deriv.specs.declared.derivation.DArg.{DArg}
use Rattle.bed_deriv.specs.declared.state.SymState.{SymState}
use Rattle.bed_deriv.specs.declared.state.Sequent.{Sequent}
use Rattle.bed_lang.specs.SameFacts.{same_facts, negation, by_norm}
use Rattle.bed_deriv.specs.Arguments.{numbered, at_number, number_at, fact_at, counts}
use Rattle.bed_deriv.specs.Checks.{Goals, Check, Needs, Given, Leaves, first_failure, outcome, sequent}
use Rattle.bed_deriv.specs.PureRules.{hyp, norm, contradiction, opposite_goal}
use Rattle.bed_deriv.specs.ListRules.{sides, absence, membership_of, in_piece, not_in_piece, void, is_void, member, part}
use Rattle.bed_deriv.specs.Derives.{fact_table}
use Rattle.bed_plain.specs.Plain.{Leaf}
use Rattle.bed_plain.proofs.CheckLaws.{needs_ok, given_ok, outcome_ok, ok_same}

numbered_at : {A : Type 0} (xs : List A) (o : Option ℕ) (x : A) → at_number xs o ≡ Some x → (n : ℕ) × (o ≡ Some n) × (numbered xs n ≡ Some x)
numbered_at xs None x e = absurd (cc)
numbered_at xs (Some n) x e = (n, refl, e)

module _ (d : Decls) (s : SymState) (g : Pure) where
  pub hyp_tells : (args : List DArg) → Leaf d rule.Hyp (sequent s g) args → (i : ℕ) × (p : Pure) × (numbered s.facts i ≡ Some p) × (same_facts g p ≡ true)
  hyp_tells args e =
      let ok = outcome_ok (hyp s (Some g) args 0) [] e in
      let (count, e1) = needs_ok 1 (counts args 1 0 0) (Given 2 (fact_at s args 0) (λ p. Given 3 (Some g) (λ g. Needs 3 (same_facts g p) (Leaves [])))) [] ok.0 in
      let (p, at, e2) = given_ok 2 (fact_at s args 0) (λ p. Given 3 (Some g) (λ g. Needs 3 (same_facts g p) (Leaves []))) [] e1 in
      let (same, e3) = needs_ok 3 (same_facts g p) (Leaves []) [] e2 in
      let (i, is, found) = numbered_at s.facts (number_at args 0) p at in
      (i, p, found, same)

  pub norm_tells : (args : List DArg) → Leaf d rule.Norm (sequent s g) args → by_norm g ≡ true
  norm_tells args e =
      let ok = outcome_ok (norm (Some g) args 0) [] e in
      let (count, e1) = needs_ok 1 (counts args 0 0 0) (Given 3 (Some g) (λ g. Needs 3 (by_norm g) (Leaves []))) [] ok.0 in
      let (is, e2) = needs_ok 3 (by_norm g) (Leaves []) [] e1 in is

  pub void_tells : (args : List DArg) → Leaf d rule.Void (sequent s g) args
      → (i : ℕ) × (p : Pure) × (numbered s.facts i ≡ Some p) × (e : Seq × Seq) × (sides p ≡ Some e) × (is_void (seq_form e.0) (seq_form e.1) ≡ true)
  void_tells args e =
      let after = λ (p : Pure). Given 3 (Some g) (λ g. Given 3 (sides p) (λ e. Needs 3 (is_void (seq_form e.0) (seq_form e.1)) (Leaves []))) in
      let ok = outcome_ok (void s (Some g) args 0) [] e in
      let (count, e1) = needs_ok 1 (counts args 1 0 0) (Given 2 (fact_at s args 0) after) [] ok.0 in
      let (p, at, e2) = given_ok 2 (fact_at s args 0) after [] e1 in
      let (ends, are, e3) = given_ok 3 (sides p) (λ e. Needs 3 (is_void (seq_form e.0) (seq_form e.1)) (Leaves [])) [] e2 in
      let (is, e4) = needs_ok 3 (is_void (seq_form ends.0) (seq_form ends.1)) (Leaves []) [] e3 in
      let (i, number, found) = numbered_at s.facts (number_at args 0) p at in
      (i, p, found, ends, are, is)

  pub absurd_tells : (args : List DArg) (child : Sequent) → fact_table d rule.Absurd (sequent s g) args 1 ≡ Ok (child ∷ [])
      → (i : ℕ) × (p q : Pure) × (numbered s.facts i ≡ Some p) × (negation p ≡ Some q) × (sequent s q ∷ [] ≡ child ∷ [])
  absurd_tells args child e =
      let ok = outcome_ok (contradiction s (Some g) args 1) (child ∷ []) e in
      let (count, e1) = needs_ok 1 (counts args 1 1 1) (Given 2 (fact_at s args 0) (λ p. opposite_goal s (Some g) (negation p))) (child ∷ []) ok.0 in
      let (p, at, e2) = given_ok 2 (fact_at s args 0) (λ p. opposite_goal s (Some g) (negation p)) (child ∷ []) e1 in
      let (q, is, e3) = given_ok 3 (negation p) (λ q. Given 3 (Some g) (λ g. Leaves (sequent s q ∷ []))) (child ∷ []) e2 in
      let (i, number, found) = numbered_at s.facts (number_at args 0) p at in
      (i, p, q, found, is, ok_same (sequent s q ∷ []) (child ∷ []) e3)

  pub member_tells : (args : List DArg) (child : Sequent) → fact_table d rule.Member (sequent s g) args 1 ≡ Ok (child ∷ [])
      → (m : Word × Seq) × (j : ℕ) × (x : Piece) × (membership_of (Some g) ≡ Some m) × (numbered (seq_form m.1) j ≡ Some x) × (sequent s (in_piece m.0 x) ∷ [] ≡ child ∷ [])
  member_tells args child e =
      let last = λ (m : Word × Seq) (x : Piece). Leaves (sequent s (in_piece m.0 x) ∷ []) in
      let ok = outcome_ok (member s (Some g) args 1) (child ∷ []) e in
      let (count, e1) = needs_ok 1 (counts args 1 1 1) (Given 2 (number_at args 0) (λ j. Given 3 (membership_of (Some g)) (λ m. Given 2 (numbered (seq_form m.1) j) (last m)))) (child ∷ []) ok.0 in
      let (j, at, e2) = given_ok 2 (number_at args 0) (λ j. Given 3 (membership_of (Some g)) (λ m. Given 2 (numbered (seq_form m.1) j) (last m))) (child ∷ []) e1 in
      let (m, is, e3) = given_ok 3 (membership_of (Some g)) (λ m. Given 2 (numbered (seq_form m.1) j) (last m)) (child ∷ []) e2 in
      let (x, found, e4) = given_ok 2 (numbered (seq_form m.1) j) (last m) (child ∷ []) e3 in
      (m, j, x, is, found, ok_same (sequent s (in_piece m.0 x) ∷ []) (child ∷ []) e4)

  pub part_tells : (args : List DArg) → Leaf d rule.Part (sequent s g) args
      → (i j : ℕ) × (p : Pure) × (m : Word × Seq) × (x : Piece) × (numbered s.facts i ≡ Some p) × (absence p ≡ Some m) × (numbered (seq_form m.1) j ≡ Some x)
      × (same_facts g (not_in_piece m.0 x) ≡ true)
  part_tells args e =
      let last = λ (m : Word × Seq) (x : Piece). Given 3 (Some g) (λ g. Needs 3 (same_facts g (not_in_piece m.0 x)) (Leaves [])) in
      let third = λ (p : Pure) (j : ℕ). Given 3 (absence p) (λ m. Given 2 (numbered (seq_form m.1) j) (last m)) in
      let ok = outcome_ok (part s (Some g) args 0) [] e in
      let (count, e1) = needs_ok 1 (counts args 2 0 0) (Given 2 (fact_at s args 0) (λ p. Given 2 (number_at args 1) (third p))) [] ok.0 in
      let (p, at, e2) = given_ok 2 (fact_at s args 0) (λ p. Given 2 (number_at args 1) (third p)) [] e1 in
      let (j, second, e3) = given_ok 2 (number_at args 1) (third p) [] e2 in
      let (m, is, e4) = given_ok 3 (absence p) (λ m. Given 2 (numbered (seq_form m.1) j) (last m)) [] e3 in
      let (x, piece, e5) = given_ok 2 (numbered (seq_form m.1) j) (last m) [] e4 in
      let (same, e6) = needs_ok 3 (same_facts g (not_in_piece m.0 x)) (Leaves []) [] e5 in
      let (i, number, found) = numbered_at s.facts (number_at args 0) p at in
      (i, j, p, m, x, found, is, piece, same)
