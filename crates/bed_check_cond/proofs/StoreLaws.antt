-- Loads and stores: what an atom says of the memory, and the memory after a store to an atom.
use Rattle.std.proofs.Common.{◌≡◌, ℕ, ◌+◌, ◌-◌, ◌%◌, ◌<◌, Bool, true, false, nat_eq, List, [], ◌∷◌, ◌++◌, take, drop, Option, Some, IsSome, refl, sym, ◌∙◌, ap, subst, subst₂, arith}
use Rattle.std.proofs.lemmas.Bool.{eqb-true, eq-eqb}
use Rattle.bed_machine.specs.Memory.{Memory, word_at, put_byte, put_word}
use Rattle.bed_machine.proofs.WordLaws.{put_byte_same, put_byte_other, some_same}
use Rattle.bed_lang.specs.declared.word.Word.{Word}
use Rattle.bed_lang.specs.declared.logic.Atom.{Atom}
use Rattle.bed_lang.specs.declared.logic.Atom.TheVariants as atom
use Rattle.bed_lang.specs.Values.{Values, value}
use Rattle.bed_sat.specs.Parts.{Joins}
use Rattle.bed_sat.specs.Cells.{IsCell, IsByte}
use Rattle.bed_sat.specs.Assertions.{Meaning, IsTrueAtom, World}
use Rattle.bed_sat.proofs.PartLaws.{joins_comm, joins_assoc, joins_left}
use Rattle.bed_sat.proofs.CellLaws.{word_includes, joins_put_byte, joins_put_word, put_cell}
use Rattle.bed_deriv.specs.declared.state.SymState.{SymState}
use Rattle.bed_deriv.specs.Arguments.{numbered}
use Rattle.bed_deriv.specs.HeapRules.{cell_of, byte_of, taken}
use Rattle.bed_deriv.specs.Steps.{with_atom_at}
use Rattle.bed_check_pure.specs.States.{AreTrueAtoms}
use Rattle.bed_check_heap.proofs.TakeLaws.{Taken, take_numbered}
use Rattle.bed_check_heap.proofs.ShapeLaws.{cell_is, byte_is}

module _ (w : World) (ν : Values) (P : Meaning) where
  abbrev V : Word → ℕ
  V = value w.labels ν

  -- an atom comes to a place of a list
  come_at : (xs ys : List Atom) (y : Atom) (h here rest : Memory) → Joins h here rest → IsTrueAtom w.codes w.labels P ν y here → AreTrueAtoms w ν P (xs ++ ys) rest
      → AreTrueAtoms w ν P (xs ++ y ∷ ys) h
  come_at [] ys y h here rest j is are = (here, rest, j, is, are)
  come_at (x ∷ xs) ys y h here rest j is are =
      let k = joins_assoc j (joins_comm are.2) in
      (are.0, k.0, joins_comm k.1, are.3, come_at xs ys y k.0 here are.1 k.2 is are.4)

  -- a store to an atom's part, which then has another atom, keeps the others
  stored : (s : SymState) (i : ℕ) (x y : Atom) (h changed here : Memory) (t : Taken w ν P x (taken s i).atoms h) → Joins changed here t.rest → IsTrueAtom w.codes w.labels P ν y here
      → AreTrueAtoms w ν P (with_atom_at s i y).atoms changed
  stored s i x y h changed here t j is = come_at (take (i - 1) s.atoms) (drop (i - 1 + 1) s.atoms) y changed here t.rest j is t.are

  -- ---- words

  pub record WordStored (s : SymState) (i : ℕ) (e content : Word) (h : Memory) (a v : ℕ) : Type 0 where
    pub mapped : IsSome (word_at h a)
    pub atoms : AreTrueAtoms w ν P (with_atom_at s i (atom.Cell e content)).atoms (put_word h a v)

  some : {A : Type 0} (o : Option A) (x : A) → o ≡ Some x → IsSome o
  some o x e = subst (λ p. IsSome p) (sym e) refl

  pub word_stored : (s : SymState) (i : ℕ) (x : Atom) (c : Word × Word) (content : Word) (h : Memory) (a v : ℕ) → numbered s.atoms i ≡ Some x → cell_of x ≡ Some c
      → AreTrueAtoms w ν P s.atoms h → a ≡ V c.0 → v ≡ V content → v < 4294967296 → WordStored s i c.0 content h a v
  word_stored s i x c content h a v at is are place holds small =
      let t = take_numbered w ν P s i x h at are in
      let cell : IsCell a (V c.1) t.here = subst (λ z. IsCell z (V c.1) t.here) (sym place) (cell_is w P ν x c t.here is t.is) in
      let new : IsCell a v (put_word t.here a v) = put_cell a (V c.1) v cell small in
      record {
        mapped = some (word_at h a) (V c.1) (word_includes (joins_left t.joins) a (V c.1) cell.holds);
        atoms = stored s i x (atom.Cell c.0 content) h (put_word h a v) (put_word t.here a v) t (joins_put_word t.joins a (V c.1) v cell.holds)
            (subst₂ (λ m n. IsCell m n (put_word t.here a v)) place holds new);
      }

  -- ---- bytes

  put_one : (a old v : ℕ) (h : Memory) → IsByte a old h → IsByte a (v % 256) (put_byte h a v)
  put_one a old v h is = record {
    holds = put_byte_same h a v;
    only = λ x b e. by x b e (nat_eq x a) refl;
  }
    where
      by : (x b : ℕ) → put_byte h a v x ≡ Some b → (c : Bool) → nat_eq x a ≡ c → (x ≡ a) × (b < 256)
      by x b e true same = let at : x ≡ a = eqb-true x a same in let val : v % 256 ≡ b = some_same (sym (put_byte_same h a v) ∙ ap (put_byte h a v) (sym at) ∙ e) in (at, omega arith)
      by x b e false other = is.only x b (sym (put_byte_other h a v x (λ q. let no : true ≡ false = sym (eq-eqb x a q) ∙ other in absurd cc)) ∙ e)

  pub record ByteStored (s : SymState) (i : ℕ) (e content : Word) (h : Memory) (a v : ℕ) : Type 0 where
    pub mapped : IsSome (h a)
    pub atoms : AreTrueAtoms w ν P (with_atom_at s i (atom.Byte e content)).atoms (put_byte h a v)

  pub byte_stored : (s : SymState) (i : ℕ) (x : Atom) (c : Word × Word) (content : Word) (h : Memory) (a v : ℕ) → numbered s.atoms i ≡ Some x → byte_of x ≡ Some c
      → AreTrueAtoms w ν P s.atoms h → a ≡ V c.0 → v % 256 ≡ V content → ByteStored s i c.0 content h a v
  byte_stored s i x c content h a v at is are place holds =
      let t = take_numbered w ν P s i x h at are in
      let byte : IsByte a (V c.1) t.here = subst (λ z. IsByte z (V c.1) t.here) (sym place) (byte_is w P ν x c t.here is t.is) in
      record {
        mapped = some (h a) (V c.1) ((joins_left t.joins).at a (V c.1) byte.holds);
        atoms = stored s i x (atom.Byte c.0 content) h (put_byte h a v) (put_byte t.here a v) t (joins_put_byte t.joins a (V c.1) v byte.holds)
            (subst₂ (λ m n. IsByte m n (put_byte t.here a v)) place holds (put_one a (V c.1) v t.here byte));
      }
