-- The rules member, lacks, part and one are sound.
use Rattle.std.proofs.Common.{◌≡◌, ℕ, suc, ◌-◌, List, [], ◌∷◌, length, Some, refl, sym, ◌∙◌, ap, inl, inr}
use Rattle.bed_machine.specs.Memory.{Memory}
use Rattle.bed_lang.specs.declared.word.Word.{Word}
use Rattle.bed_lang.specs.declared.form.Piece.{Piece}
use Rattle.bed_lang.specs.declared.logic.Pure.{Pure}
use Rattle.bed_lang.specs.Values.{Values}
use Rattle.bed_lang.specs.Forms.{seq_form}
use Rattle.bed_sat.specs.Facts.{IsTrueFact}
use Rattle.bed_sat.specs.Assertions.{World}
use Rattle.bed_deriv.specs.declared.derivation.DArg.{DArg}
use Rattle.bed_deriv.specs.declared.state.SymState.{SymState}
use Rattle.bed_deriv.specs.declared.state.Sequent.{Sequent}
use Rattle.bed_deriv.specs.Checks.{Goals}
use Rattle.bed_deriv.specs.ListRules.{in_piece, not_in_piece, member, lacking, lacks, part, with_piece, one}
use Rattle.bed_check_pure.specs.States.{StateHolds}
use Rattle.bed_check_pure.specs.Sound.{AllFollowAt}
use Rattle.bed_check_pure.proofs.SameLaws.{same_facts-true}
use Rattle.bed_check_pure.proofs.CheckLaws.{IsSoundCheck}
use Rattle.bed_check_pure.proofs.RuleLaws.{same_number, counted, numbered_is, fact_true, holds_with, goal_true}
use Rattle.bed_check_pure.proofs.PieceLaws.{membership_is, absence_is, not_in_piece_says, piece_in, IsInSome, in_some}

module _ (w : World) (ν : Values) (h : Memory) where
  abbrev Is : Pure → Type 0
  Is = IsTrueFact w.codes w.labels ν

  abbrev IsSound : Sequent → ℕ → Goals → Type 0
  IsSound = IsSoundCheck w ν h

  pub member_sound : (q : Sequent) (args : List DArg) (n : ℕ) → IsSound q n (member q.state (Some q.goal) args n)
  member_sound q args n count j number m is x at = (
    counted args 1 n 1 count,
    λ above holds.
        (membership_is w.codes w.labels ν q.goal m is).1
        (piece_in w.codes w.labels ν m.0 (seq_form m.1) (j - 1) x (numbered_is (seq_form m.1) j x at).1 (above.0 holds)),
  )

  lacking_length : (s : SymState) (e : Word) (ps : List Piece) → length (lacking s e ps) ≡ length ps
  lacking_length s e [] = refl
  lacking_length s e (x ∷ ps) = ap suc (lacking_length s e ps)

  lacks_all : (s : SymState) (e : Word) (ps : List Piece) → AllFollowAt w ν h (lacking s e ps) → StateHolds w ν h s → IsInSome w.codes w.labels ν e ps → ⊥
  lacks_all s e [] above holds is = is
  lacks_all s e (x ∷ ps) above holds (inl here) = (not_in_piece_says w.codes w.labels ν e x).0 (above.0 holds) here
  lacks_all s e (x ∷ ps) above holds (inr later) = lacks_all s e ps above.1 holds later

  pub lacks_sound : (q : Sequent) (args : List DArg) (n : ℕ) → IsSound q n (lacks q.state (Some q.goal) args n)
  lacks_sound q args n none m is count = (
    lacking_length q.state m.0 (seq_form m.1) ∙ sym (same_number n (length (seq_form m.1)) count),
    λ above holds.
        (absence_is w.codes w.labels ν q.goal m is).1
        (λ c. lacks_all q.state m.0 (seq_form m.1) above holds (in_some w.codes w.labels ν m.0 (seq_form m.1) c)),
  )

  pub part_sound : (q : Sequent) (args : List DArg) (n : ℕ) → IsSound q n (part q.state (Some q.goal) args n)
  part_sound q args n count p at j number m is x piece g goal same = (
    counted args 2 n 0 count,
    λ above holds.
        let out = (absence_is w.codes w.labels ν p m is).0 (fact_true w ν h q.state args 0 p at holds) in
        let not_here = (not_in_piece_says w.codes w.labels ν m.0 x).1
        (λ here. out (piece_in w.codes w.labels ν m.0 (seq_form m.1) (j - 1) x (numbered_is (seq_form m.1) j x piece).1 here)) in
        goal_true w ν h q g goal (same_facts-true w.codes w.labels ν g (not_in_piece m.0 x) same not_here),
  )

  with_piece_length : (s : SymState) (g : Pure) (e : Word) (ps : List Piece) → length (with_piece s g e ps) ≡ length ps
  with_piece_length s g e [] = refl
  with_piece_length s g e (x ∷ ps) = ap suc (with_piece_length s g e ps)

  one_follows : (s : SymState) (g : Pure) (e : Word) (ps : List Piece) → AllFollowAt w ν h (with_piece s g e ps) → StateHolds w ν h s
      → IsInSome w.codes w.labels ν e ps → Is g
  one_follows s g e [] above holds is = absurd is
  one_follows s g e (x ∷ ps) above holds (inl here) = above.0 (holds_with w ν h s (in_piece e x) holds here)
  one_follows s g e (x ∷ ps) above holds (inr later) = one_follows s g e ps above.1 holds later

  pub one_sound : (q : Sequent) (args : List DArg) (n : ℕ) → IsSound q n (one q.state (Some q.goal) args n)
  one_sound q args n count p at m is number g goal = (
    with_piece_length q.state g m.0 (seq_form m.1) ∙ sym (same_number n (length (seq_form m.1)) number),
    λ above holds.
        let in' = (membership_is w.codes w.labels ν p m is).0 (fact_true w ν h q.state args 0 p at holds) in
        goal_true w ν h q g goal (one_follows q.state g m.0 (seq_form m.1) above holds (in_some w.codes w.labels ν m.0 (seq_form m.1) in')),
  )
