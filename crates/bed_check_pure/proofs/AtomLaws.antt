-- What the atoms of a state that holds tell of their addresses and contents.
use Rattle.std.proofs.Common.{◌≡◌, ◌≢◌, ℕ, zero, suc, List, [], ◌∷◌, slice_get, Option, Some, None, refl, ap, sym, ◌∙◌, subst, arith}
use Rattle.bed_machine.specs.Memory.{Memory}
use Rattle.bed_machine.proofs.WordLaws.{four_bytes, some_same}
use Rattle.bed_lang.specs.declared.word.Word.{Word}
use Rattle.bed_lang.specs.declared.logic.Pure.{Pure}
use Rattle.bed_lang.specs.declared.logic.Atom.{Atom}
use Rattle.bed_lang.specs.declared.logic.Atom.TheVariants.{Cell, Byte, Block, Pred}
use Rattle.bed_lang.specs.Values.{Values, value}
use Rattle.bed_lang.proofs.ValueLaws.{value-Number}
use Rattle.bed_sat.specs.Parts.{Joins, Includes}
use Rattle.bed_sat.specs.Facts.{IsTrueFact}
use Rattle.bed_sat.specs.Assertions.{World, Meaning, IsTrueAtom}
use Rattle.bed_sat.proofs.PartLaws.{joins_left, joins_right}
use Rattle.bed_sat.proofs.BlockLaws.{meet_twice}
use Rattle.bed_deriv.specs.PureRules.{address, bound_of}
use Rattle.bed_check_pure.specs.States.{AreTrueAtoms}

module _ (w : World) (ν : Values) (P : Meaning) where
  abbrev V : Word → ℕ
  V = value w.labels ν

  abbrev Holds : Atom → Memory → Type 0
  Holds = IsTrueAtom w.codes w.labels P ν

  -- the memory has a byte where this word points to
  abbrev HasByteAt : Option Word → Memory → Type 0
  HasByteAt None h = Unit {0}
  HasByteAt (Some a) h = (v : ℕ) × (h (V a) ≡ Some v)

  has_address : (x : Atom) (h : Memory) → Holds x h → HasByteAt (address x) h
  has_address (Cell a v) h t = let f = four_bytes h (V a) (V v) t.holds in (f.low, f.at_low)
  has_address (Byte a v) h t = (V v, t.holds)
  has_address (Block a n) h t = tt
  has_address (Pred name args) h t = tt

  -- an atom that is true has its address in its memory
  pub at_address : (x : Atom) (a : Word) (h : Memory) → Holds x h → address x ≡ Some a → (v : ℕ) × (h (V a) ≡ Some v)
  at_address x a h t e = subst (λ o. HasByteAt o h) e (has_address x h t)

  abbrev IsBounded : Option Pure → Type 0
  IsBounded None = Unit {0}
  IsBounded (Some p) = IsTrueFact w.codes w.labels ν p

  is_bounded : (x : Atom) (h : Memory) → Holds x h → IsBounded (bound_of x)
  is_bounded (Cell a v) h t = rw (value-Number w.labels ν 4294967292) (four_bytes h (V a) (V v) t.holds).in_range
  is_bounded (Byte a v) h t = rw (value-Number w.labels ν 255) (let l = (t.only (V a) (V v) t.holds).1 in omega arith)
  is_bounded (Block a n) h t = tt
  is_bounded (Pred name args) h t = tt

  -- the address of a cell, and the content of a byte, are as small as they have to be
  pub bounded : (x : Atom) (p : Pure) (h : Memory) → Holds x h → bound_of x ≡ Some p → IsTrueFact w.codes w.labels ν p
  bounded x p h t e = subst IsBounded e (is_bounded x h t)

  -- an atom of a list is true of a part of the memory
  pub listed_atom : (xs : List Atom) (i : ℕ) (x : Atom) (h : Memory) → AreTrueAtoms w ν P xs h → slice_get xs i ≡ Some x
      → (part : Memory) × Includes h part × Holds x part
  listed_atom [] i x h t e = absurd (cc)
  listed_atom (y ∷ xs) zero x h (here, others, j, t, more) e = (here, joins_left j, subst (λ (z : Atom). Holds z here) (some_same e) t)
  listed_atom (y ∷ xs) (suc i) x h (here, others, j, t, more) e =
      let (part, is, true') = listed_atom xs i x others more e in
      (part, record { at = λ a v at. (joins_right j).at a v (is.at a v at) }, true')

  -- an atom of a list has its address in the memory
  pub listed_address : (xs : List Atom) (i : ℕ) (x : Atom) (a : Word) (h : Memory) → AreTrueAtoms w ν P xs h
      → slice_get xs i ≡ Some x → address x ≡ Some a → (v : ℕ) × (h (V a) ≡ Some v)
  listed_address xs i x a h t e is =
      let (part, within, true') = listed_atom xs i x h t e in
      let (v, at) = at_address x a part true' is in (v, within.at (V a) v at)

  -- the first atom has another address than a later one
  first_apart : (y : Atom) (xs : List Atom) (i : ℕ) (x : Atom) (a b : Word) (h here others : Memory) → Joins h here others
      → Holds y here → AreTrueAtoms w ν P xs others → slice_get xs i ≡ Some x → address y ≡ Some a → address x ≡ Some b → V a ≢ V b
  first_apart y xs i x a b h here others j t more e is at = λ same.
      let (u, one) = at_address y a here t is in
      let (v, other) = listed_address xs i x b others more e at in
      meet_twice _ _ _ u v (j.at (V a)) one (subst (λ n. others n ≡ Some v) (sym same) other)

  -- two different cells or bytes have different addresses
  pub listed_apart : (xs : List Atom) (i k : ℕ) (x y : Atom) (a b : Word) (h : Memory) → AreTrueAtoms w ν P xs h
      → slice_get xs i ≡ Some x → slice_get xs k ≡ Some y → i ≢ k → address x ≡ Some a → address y ≡ Some b → V a ≢ V b
  listed_apart [] i k x y a b h t ex ey ne ax ay = absurd (cc)
  listed_apart (z ∷ xs) zero zero x y a b h t ex ey ne ax ay = absurd (ne refl)
  listed_apart (z ∷ xs) (suc i) (suc k) x y a b h (here, others, j, t, more) ex ey ne ax ay =
      listed_apart xs i k x y a b others more ex ey (λ e. ne (ap suc e)) ax ay
  listed_apart (z ∷ xs) zero (suc k) x y a b h (here, others, j, t, more) ex ey ne ax ay =
      first_apart z xs k y a b h here others j t more ey (ap address (some_same ex) ∙ ax) ay
  listed_apart (z ∷ xs) (suc i) zero x y a b h (here, others, j, t, more) ex ey ne ax ay = λ same.
      first_apart z xs i x b a h here others j t more ex (ap address (some_same ey) ∙ ay) ax (sym same)
