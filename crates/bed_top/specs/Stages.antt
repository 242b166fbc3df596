-- Stages of the work, and how they follow one another.
use Rattle.std.specs.Prelude.{◌≡◌, ◌⊎◌, IsTrue, Bool, true, false}
use Rattle.std.proofs.Common.{inl, inr}
use Rattle.bed_top.specs.Views.{View, End, Refusal, refused}
use Rattle.bed_top.specs.declared.status.Status.{Status}
use Rattle.bed_top.specs.declared.status.Status.TheVariants.{Done, ReadFault, WriteFault}

-- one item of the order of work: of what the items before let through it refuses, or lets more through
abbrev pub Stage : Type 0 → Type 0 → Type 1
Stage A B = View → A → (Refusal ⊎ B) → Type 0

-- a stage that a function answers
abbrev pub By : {A B : Type 0} → (View → A → Refusal ⊎ B) → Stage A B
By f v a r = r ≡ f v a

-- a stage, and another after it
pub data Then {A B C : Type 0} (S : Stage A B) (T : Stage B C) (v : View) (a : A) (r : Refusal ⊎ C) : Type 0 where
  stops : (refusal : Refusal) → S v a (inl refusal) → r ≡ inl refusal → Then S T v a r
  goes : (b : B) → S v a (inr b) → T v b r → Then S T v a r

-- the end of a chain of stages: its refusal, or what is made of what came through
pub data Ends {A B : Type 0} (S : Stage A B) (a : A) (last : View → B → End) (v : View) (e : End) : Type 0 where
  refuses : (refusal : Refusal) → S v a (inl refusal) → e ≡ refused refusal → Ends S a last v e
  passes : (b : B) → S v a (inr b) → e ≡ last v b → Ends S a last v e

-- the statuses of refusals: none of those of faults, and not that of what came through
abbrev pub is_refusal : Status → Bool
is_refusal Done = false
is_refusal ReadFault = false
is_refusal (WriteFault sink) = false
is_refusal _ = true

-- a view has one outcome, and a refusal has the status of one
pub record Lawful {A B : Type 0} (S : Stage A B) : Type 0 where
  pub one : (v : View) (a : A) (r s : Refusal ⊎ B) → S v a r → S v a s → r ≡ s
  pub some : (v : View) (a : A) → (r : Refusal ⊎ B) × S v a r
  pub refusal : (v : View) (a : A) (r : Refusal) → S v a (inl r) → IsTrue (is_refusal r.status)
