-- The rules that give a part of memory another shape keep what holds.
use Rattle.std.proofs.Common.{◌≡◌, ℕ, ◌+◌, ◌-◌, ◌*◌, ◌<◌, ◌≤◌, true, IsTrue, List, [], ◌∷◌, ◌++◌, drop, Some, inl, refl, sym, ◌∙◌, ap, subst, subst₂, arith}
use Rattle.std.proofs.lemmas.Bool.{and_parts}
use Rattle.bed_machine.specs.Memory.{Memory}
use Rattle.bed_machine.proofs.WordLaws.{some_same}
use Rattle.bed_lang.specs.declared.word.Word.{Word, Number, Add, Times}
use Rattle.bed_lang.specs.declared.logic.Atom.{Atom}
use Rattle.bed_lang.specs.declared.logic.Atom.TheVariants as atom
use Rattle.bed_lang.specs.Numbers.{wrap}
use Rattle.bed_lang.specs.Values.{Values, Fresh, set_word, value}
use Rattle.bed_lang.proofs.ValueLaws.{value-Number, value-Add, value-Times}
use Rattle.bed_sat.specs.Parts.{Joins}
use Rattle.bed_sat.specs.Cells.{IsCell, IsByte, IsBlock}
use Rattle.bed_sat.specs.Assertions.{Meaning, IsTrueAtom, World, meaning}
use Rattle.bed_sat.proofs.PartLaws.{joins_comm, joins_assoc, joins_empty}
use Rattle.bed_sat.proofs.FrameLaws.{cell_small}
use Rattle.bed_deriv.specs.declared.derivation.DArg.{DArg}
use Rattle.bed_deriv.specs.declared.state.SymState.{SymState}
use Rattle.bed_deriv.specs.Matches.{all_different}
use Rattle.bed_deriv.specs.Fresh.{known_word, known_atom}
use Rattle.bed_deriv.specs.HeapRules.{taken, with_next, block_of, cell_of, byte_of, fresh_word, four_bytes, bytes_at, cell_to_bytes, four_chosen, bytes_to_cell, block_to_cell, cell_to_block, drop_block, Shape, CellToBytes, BytesToCell, BlockToCell, CellToBlock, DropBlock, shape_of, shape}
use Rattle.bed_check_pure.specs.States.{AreTrueAtoms}
use Rattle.bed_check_pure.proofs.RuleLaws.{counted, numbered_is, holds_with}
use Rattle.bed_check_heap.specs.Sound.{AgreeBelow}
use Rattle.bed_check_heap.proofs.TakeLaws.{AreNumbered, chosen_numbered, put_atom, take_numbered, take_chosen}
use Rattle.bed_check_heap.proofs.FreshLaws.{agree_self, agree_more, set_here, set_elsewhere, value_fresh, value_known, facts_known, atoms_known, every_taken}
use Rattle.bed_check_heap.proofs.MemoryLaws.{block_is_cell, cell_is_block, block_is_empty, CellBytes, cell_bytes, bytes_are_cell}
use Rattle.bed_check_heap.proofs.KeepLaws.{Every, Keeps, block_is}

-- ---- values

module _ (labels : List ℕ → ℕ) (κ : Values) where
  place_after : (e : Word) (k a : ℕ) → value labels κ e ≡ a → a + k < 4294967296 → value labels κ (Add e (Number k)) ≡ a + k
  place_after e k a is lt = value-Add labels κ e (Number k) ∙ (let n = value-Number labels κ k in omega (arith, n, is))

  plus_times : (x y : Word) (k n m : ℕ) → value labels κ x ≡ n → value labels κ y ≡ m → n + k * m < 4294967296 → value labels κ (Add x (Times k y)) ≡ n + k * m
  plus_times x y k n m is_x is_y lt =
      let t : value labels κ (Times k y) ≡ wrap (k * m) = value-Times labels κ k y ∙ ap (λ v. wrap (k * v)) is_y in
      value-Add labels κ x (Times k y) ∙ omega (arith, t, is_x)

  -- four bytes as a word
  four_value : (a b c d : Word) (n0 n1 n2 n3 : ℕ) → value labels κ a ≡ n0 → value labels κ b ≡ n1 → value labels κ c ≡ n2 → value labels κ d ≡ n3
      → n0 < 256 → n1 < 256 → n2 < 256 → n3 < 256 → value labels κ (four_bytes a b c d) ≡ n0 + 256 * n1 + 65536 * n2 + 16777216 * n3
  four_value a b c d n0 n1 n2 n3 e0 e1 e2 e3 l0 l1 l2 l3 =
      plus_times (Add (Add a (Times 256 b)) (Times 65536 c)) d 16777216 _ n3
      (plus_times (Add a (Times 256 b)) c 65536 _ n2 (plus_times a b 256 n0 n1 e0 e1 (omega arith)) e2 (omega arith)) e3 (omega arith)

  fresh_is : (n v : ℕ) → v < 4294967296 → κ.words (Fresh n) ≡ v → value labels κ (fresh_word n) ≡ v
  fresh_is n v lt e = value_fresh labels κ n ∙ ap wrap e ∙ omega arith

-- ---- values for four new variables

abbrev four_set : Values → ℕ → ℕ → ℕ → ℕ → ℕ → Values
four_set ν f b0 b1 b2 b3 = set_word (set_word (set_word (set_word ν (Fresh f) b0) (Fresh (f + 1)) b1) (Fresh (f + 2)) b2) (Fresh (f + 3)) b3

module _ (ν : Values) (f b0 b1 b2 b3 : ℕ) where
  abbrev set_1 : Values
  set_1 = set_word ν (Fresh f) b0

  abbrev set_2 : Values
  set_2 = set_word set_1 (Fresh (f + 1)) b1

  abbrev set_3 : Values
  set_3 = set_word set_2 (Fresh (f + 2)) b2

  agree_four : AgreeBelow f ν (four_set ν f b0 b1 b2 b3)
  agree_four =
      agree_more f (f + 3) b3 ν set_3 (omega arith) (agree_more f (f + 2) b2 ν set_2 (omega arith)
      (agree_more f (f + 1) b1 ν set_1 (omega arith) (agree_more f f b0 ν ν (omega arith) (agree_self f ν))))

  first_set : (four_set ν f b0 b1 b2 b3).words (Fresh f) ≡ b0
  first_set =
      set_elsewhere set_3 (f + 3) f b3 (λ e. omega arith) ∙ set_elsewhere set_2 (f + 2) f b2 (λ e. omega arith)
      ∙ set_elsewhere set_1 (f + 1) f b1 (λ e. omega arith) ∙ set_here ν f b0

  second_set : (four_set ν f b0 b1 b2 b3).words (Fresh (f + 1)) ≡ b1
  second_set =
      set_elsewhere set_3 (f + 3) (f + 1) b3 (λ e. omega arith) ∙ set_elsewhere set_2 (f + 2) (f + 1) b2 (λ e. omega arith) ∙ set_here set_1 (f + 1) b1

  third_set : (four_set ν f b0 b1 b2 b3).words (Fresh (f + 2)) ≡ b2
  third_set = set_elsewhere set_3 (f + 3) (f + 2) b3 (λ e. omega arith) ∙ set_here set_2 (f + 2) b2

  last_set : (four_set ν f b0 b1 b2 b3).words (Fresh (f + 3)) ≡ b3
  last_set = set_here set_3 (f + 3) b3

-- ---- atoms of a kind

module _ (w : World) (P : Meaning) (ν : Values) where
  pub cell_is : (x : Atom) (c : Word × Word) (m : Memory) → cell_of x ≡ Some c → IsTrueAtom w.codes w.labels P ν x m
      → IsCell (value w.labels ν c.0) (value w.labels ν c.1) m
  cell_is (atom.Cell e v) c m at is = subst (λ (d : Word × Word). IsCell (value w.labels ν d.0) (value w.labels ν d.1) m) (some_same at) is
  cell_is (atom.Byte e v) c m at is = absurd cc
  cell_is (atom.Block e k) c m at is = absurd cc
  cell_is (atom.Pred name args) c m at is = absurd cc

  pub byte_is : (x : Atom) (c : Word × Word) (m : Memory) → byte_of x ≡ Some c → IsTrueAtom w.codes w.labels P ν x m
      → IsByte (value w.labels ν c.0) (value w.labels ν c.1) m
  byte_is (atom.Byte e v) c m at is = subst (λ (d : Word × Word). IsByte (value w.labels ν d.0) (value w.labels ν d.1) m) (some_same at) is
  byte_is (atom.Cell e v) c m at is = absurd cc
  byte_is (atom.Block e k) c m at is = absurd cc
  byte_is (atom.Pred name args) c m at is = absurd cc

cell_known : (next : ℕ) (x : Atom) (c : Word × Word) → cell_of x ≡ Some c → IsTrue (known_atom next x) → IsTrue (known_word next c.0) × IsTrue (known_word next c.1)
cell_known next (atom.Cell e v) c at is = subst (λ (d : Word × Word). IsTrue (known_word next d.0) × IsTrue (known_word next d.1)) (some_same at) (and_parts (known_word next e) _ is)
cell_known next (atom.Byte e v) c at is = absurd cc
cell_known next (atom.Block e k) c at is = absurd cc
cell_known next (atom.Pred name args) c at is = absurd cc

block_known : (next : ℕ) (x : Atom) (b : Word × Word) → block_of x ≡ Some b → IsTrue (known_atom next x) → IsTrue (known_word next b.0) × IsTrue (known_word next b.1)
block_known next (atom.Block e k) b at is = subst (λ (d : Word × Word). IsTrue (known_word next d.0) × IsTrue (known_word next d.1)) (some_same at) (and_parts (known_word next e) _ is)
block_known next (atom.Cell e v) b at is = absurd cc
block_known next (atom.Byte e v) b at is = absurd cc
block_known next (atom.Pred name args) b at is = absurd cc

-- ---- one lemma a shape

module _ (w : World) (ν : Values) (h : Memory) (s : SymState) where
  abbrev V : Word → ℕ
  V = value w.labels ν

  -- the bytes of a cell, beside atoms that stay
  bytes_hold : (κ : Values) (P : Meaning) (xs : List Atom) (e : Word) (f a v : ℕ) (m rest : Memory) (b : CellBytes a v m) → value w.labels κ e ≡ a
      → value w.labels κ (fresh_word f) ≡ b.low → value w.labels κ (fresh_word (f + 1)) ≡ b.second
      → value w.labels κ (fresh_word (f + 2)) ≡ b.third → value w.labels κ (fresh_word (f + 3)) ≡ b.high
      → Joins h m rest → AreTrueAtoms w κ P xs rest
      → AreTrueAtoms w κ P ((((xs ++ atom.Byte e (fresh_word f) ∷ []) ++ atom.Byte (Add e (Number 1)) (fresh_word (f + 1)) ∷ [])
      ++ atom.Byte (Add e (Number 2)) (fresh_word (f + 2)) ∷ []) ++ atom.Byte (Add e (Number 3)) (fresh_word (f + 3)) ∷ []) h
  bytes_hold κ P xs e f a v m rest b place e0 e1 e2 e3 j are =
      let le = b.in_range in
      let k0 = joins_assoc (joins_comm j) b.first_joins in
      let k1 = joins_assoc k0.1 b.second_joins in
      let k2 = joins_assoc k1.1 b.third_joins in
      let p1 = place_after w.labels κ e 1 a place (omega arith) in
      let p2 = place_after w.labels κ e 2 a place (omega arith) in
      let p3 = place_after w.labels κ e 3 a place (omega arith) in
      put_atom w κ P _ _ h k2.0 b.last_part k2.1
      (put_atom w κ P _ _ k2.0 k1.0 b.third_part k2.2
      (put_atom w κ P _ _ k1.0 k0.0 b.second_part k1.2
      (put_atom w κ P xs _ k0.0 rest b.first_part k0.2 are (subst₂ (λ p n. IsByte p n b.first_part) (sym place) (sym e0) b.is_low))
      (subst₂ (λ p n. IsByte p n b.second_part) (sym p1) (sym e1) b.is_second))
      (subst₂ (λ p n. IsByte p n b.third_part) (sym p2) (sym e2) b.is_third))
      (subst₂ (λ p n. IsByte p n b.last_part) (sym p3) (sym e3) b.is_high)

  cell_to_bytes_keeps : (args : List DArg) (n : ℕ) → Every (Keeps w ν h s n) (cell_to_bytes s args n)
  cell_to_bytes_keeps args n c i number x at e is = (
    counted args 2 n 1 c,
    λ known holds goals.
        let f = s.next in
        let P = meaning w holds.depth in
        let t = take_numbered w ν P s i x h at holds.atoms in
        let b = cell_bytes (V e.0) (V e.1) t.here (cell_is w P ν x e t.here is t.is) in
        let μ = four_set ν f b.low b.second b.third b.high in
        let g = agree_four ν f b.low b.second b.third b.high in
        let q = every_taken (known_atom f) s.atoms (i - 1) x (numbered_is s.atoms i x at).1 known.atoms in
        let r = cell_known f x e is q.0 in
        let small0 = b.small_low in
        let small1 = b.small_second in
        let small2 = b.small_third in
        let small3 = b.small_high in
        let e0 = fresh_is w.labels μ f b.low (omega arith) (first_set ν f b.low b.second b.third b.high) in
        let e1 = fresh_is w.labels μ (f + 1) b.second (omega arith) (second_set ν f b.low b.second b.third b.high) in
        let e2 = fresh_is w.labels μ (f + 2) b.third (omega arith) (third_set ν f b.low b.second b.third b.high) in
        let e3 = fresh_is w.labels μ (f + 3) b.high (omega arith) (last_set ν f b.low b.second b.third b.high) in
        let content =
        sym (value_known w f ν μ g e.1 r.1) ∙ b.sum ∙ sym (four_value w.labels μ (fresh_word f) (fresh_word (f + 1)) (fresh_word (f + 2)) (fresh_word (f + 3))
        b.low b.second b.third b.high e0 e1 e2 e3 small0 small1 small2 small3) in
        inl (
          μ,
          g,
          holds_with w μ h (bytes_at (with_next (taken s i) 4) e.0 f) _ (record {
            facts = facts_known w f ν μ g s.facts known.facts holds.facts;
            depth = holds.depth;
            atoms = bytes_hold μ P (taken s i).atoms e.0 f (V e.0) (V e.1) t.here t.rest b (sym (value_known w f ν μ g e.0 r.0)) e0 e1 e2 e3 t.joins
                (atoms_known w f ν μ g P (taken s i).atoms t.rest q.1 t.are);
          }) content,
        ),
  )

  -- a fact that a byte follows another
  followed : (e d : Word) (k : ℕ) → V e + k < 4294967296 → V d ≡ V (Add e (Number k)) → V d ≡ V e + k
  followed e d k lt is = is ∙ place_after w.labels ν e k (V e) refl lt

  four_keeps : (n : ℕ) → 5 ≡ n → (cs : List (ℕ × Atom)) → AreNumbered s.atoms cs → all_different cs ≡ true → Every (Keeps w ν h s n) (four_chosen s cs)
  four_keeps n five [] numbers different = tt
  four_keeps n five (i ∷ []) numbers different = tt
  four_keeps n five (i ∷ j ∷ []) numbers different = tt
  four_keeps n five (i ∷ j ∷ k ∷ []) numbers different = tt
  four_keeps n five (i ∷ j ∷ k ∷ l ∷ m ∷ more) numbers different = tt
  four_keeps n five (i ∷ j ∷ k ∷ l ∷ []) numbers different = λ a is_a b is_b c is_c d is_d. (
    five,
    λ known holds goals.
        let P = meaning w holds.depth in
        let (front, back, parts, are, left) = take_chosen w ν P s.atoms (i ∷ j ∷ k ∷ l ∷ []) h numbers different holds.atoms in
        let (h0, r0, j0, true0, (h1, r1, j1, true1, (h2, r2, j2, true2, (h3, r3, j3, true3, nothing)))) = are in
        let last = subst (Joins r1 h2) (joins_empty (subst (Joins r2 h3) nothing j3)) j2 in
        let b0 = byte_is w P ν i.1 a h0 is_a true0 in
        let b1 = byte_is w P ν j.1 b h1 is_b true1 in
        let b2 = byte_is w P ν k.1 c h2 is_c true2 in
        let b3 = byte_is w P ν l.1 d h3 is_d true3 in
        let le : V a.0 ≤ 4294967292 = let top = value-Number w.labels ν 4294967292 in omega (arith, goals.0, top) in
        let p1 = followed a.0 b.0 1 (omega arith) goals.1.0 in
        let p2 = followed a.0 c.0 2 (omega arith) goals.1.1.0 in
        let p3 = followed a.0 d.0 3 (omega arith) goals.1.1.1.0 in
        let cell = bytes_are_cell (V a.0) (V a.1) (V b.1) (V c.1) (V d.1) front h0 r0 h1 r1 h2 h3 le j0 j1 last b0
        (subst (λ p. IsByte p (V b.1) h1) p1 b1) (subst (λ p. IsByte p (V c.1) h2) p2 b2) (subst (λ p. IsByte p (V d.1) h3) p3 b3) in
        let content = four_value w.labels ν a.1 b.1 c.1 d.1 _ _ _ _ refl refl refl refl
        (b0.only _ _ b0.holds).1 (b1.only _ _ b1.holds).1 (b2.only _ _ b2.holds).1 (b3.only _ _ b3.holds).1 in
        inl (
          ν,
          agree_self s.next ν,
          record {
            facts = holds.facts;
            depth = holds.depth;
            atoms = put_atom w ν P _ _ h back front (joins_comm parts) left (subst (λ v. IsCell (V a.0) v front) (sym content) cell);
          },
        ),
  )

  bytes_to_cell_keeps : (args : List DArg) (n : ℕ) → Every (Keeps w ν h s n) (bytes_to_cell s args n)
  bytes_to_cell_keeps args n c cs at different = four_keeps n (counted args 5 n 5 c) cs (chosen_numbered s.atoms (drop 1 args) cs at) different

  block_to_cell_keeps : (args : List DArg) (n : ℕ) → Every (Keeps w ν h s n) (block_to_cell s args n)
  block_to_cell_keeps args n c i number x at b is = (
    counted args 2 n 2 c,
    λ known holds goals.
        let f = s.next in
        let P = meaning w holds.depth in
        let t = take_numbered w ν P s i x h at holds.atoms in
        let size : V b.1 ≡ 1 = goals.0 ∙ value-Number w.labels ν 1 in
        let (v, cell) = block_is_cell (V b.0) t.here (subst (λ k. IsBlock (V b.0) k t.here) size (block_is w ν h s P x b t.here is t.is)) in
        let μ = set_word ν (Fresh f) v in
        let g = agree_more f f v ν ν (omega arith) (agree_self f ν) in
        let q = every_taken (known_atom f) s.atoms (i - 1) x (numbered_is s.atoms i x at).1 known.atoms in
        let place = value_known w f ν μ g b.0 (block_known f x b is q.0).0 in
        let content = fresh_is w.labels μ f v (cell_small (V b.0) v t.here cell) (set_here ν f v) in
        inl (
          μ,
          g,
          record {
            facts = facts_known w f ν μ g s.facts known.facts holds.facts;
            depth = holds.depth;
            atoms = put_atom w μ P _ _ h t.rest t.here (joins_comm t.joins) (atoms_known w f ν μ g P (taken s i).atoms t.rest q.1 t.are)
                (subst₂ (λ p u. IsCell p u t.here) place (sym content) cell);
          },
        ),
  )

  cell_to_block_keeps : (args : List DArg) (n : ℕ) → Every (Keeps w ν h s n) (cell_to_block s args n)
  cell_to_block_keeps args n c i number x at e is = (
    counted args 2 n 1 c,
    λ known holds goals.
        let P = meaning w holds.depth in
        let t = take_numbered w ν P s i x h at holds.atoms in
        let block = cell_is_block (V e.0) (V e.1) t.here (cell_is w P ν x e t.here is t.is) in
        inl (
          ν,
          agree_self s.next ν,
          record {
            facts = holds.facts;
            depth = holds.depth;
            atoms = put_atom w ν P _ _ h t.rest t.here (joins_comm t.joins) t.are (subst (λ k. IsBlock (V e.0) k t.here) (sym (value-Number w.labels ν 1)) block);
          },
        ),
  )

  drop_block_keeps : (args : List DArg) (n : ℕ) → Every (Keeps w ν h s n) (drop_block s args n)
  drop_block_keeps args n c i number x at b is = (
    counted args 2 n 2 c,
    λ known holds goals.
        let P = meaning w holds.depth in
        let t = take_numbered w ν P s i x h at holds.atoms in
        let size : V b.1 ≡ 0 = goals.0 ∙ value-Number w.labels ν 0 in
        let nothing = block_is_empty (V b.0) t.here (subst (λ k. IsBlock (V b.0) k t.here) size (block_is w ν h s P x b t.here is t.is)) in
        let all = joins_empty (subst (Joins h t.rest) nothing (joins_comm t.joins)) in
        inl (ν, agree_self s.next ν, record { facts = holds.facts; depth = holds.depth; atoms = subst (AreTrueAtoms w ν P (taken s i).atoms) (sym all) t.are }),
  )

  shape_of_keeps : (k : Shape) (args : List DArg) (n : ℕ) → Every (Keeps w ν h s n) (shape_of k s args n)
  shape_of_keeps CellToBytes args n = cell_to_bytes_keeps args n
  shape_of_keeps BytesToCell args n = bytes_to_cell_keeps args n
  shape_of_keeps BlockToCell args n = block_to_cell_keeps args n
  shape_of_keeps CellToBlock args n = cell_to_block_keeps args n
  shape_of_keeps DropBlock args n = drop_block_keeps args n

  pub shape_keeps : (args : List DArg) (n : ℕ) → Every (Keeps w ν h s n) (shape s args n)
  shape_keeps args n c k at = shape_of_keeps k args n
