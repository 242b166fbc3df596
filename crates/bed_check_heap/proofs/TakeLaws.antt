-- Atoms of a list that is true of a memory: some are taken out with their parts, and others are put to the end.
use Rattle.std.proofs.Common.{◌≡◌, ◌≢◌, ℕ, zero, suc, ◌+◌, ◌-◌, ◌<◌, ◌≤◌, Bool, true, false, ◌||◌, ◌==◌, not, nat_le, if◌then◌else◌, List, [], ◌∷◌, ◌++◌, take, drop, Option, Some, None, refl, sym, ◌∙◌, ap, ap₂, subst, arith}
use Rattle.std.specs.Prelude.{slice_get}
use Rattle.std.proofs.lemmas.Bool.{and_parts, not-true, eq-eqb, ne_eqb, leb-true, leb-false}
use Rattle.bed_machine.specs.Memory.{Memory, empty}
use Rattle.bed_machine.proofs.WordLaws.{some_same}
use Rattle.bed_lang.specs.declared.logic.Atom.{Atom}
use Rattle.bed_lang.specs.declared.logic.Atom.TheVariants as atom
use Rattle.bed_lang.specs.Values.{Values}
use Rattle.bed_sat.specs.Parts.{Joins}
use Rattle.bed_sat.specs.Assertions.{Meaning, IsTrueAtom, World}
use Rattle.bed_sat.proofs.PartLaws.{joins_comm, joins_assoc, joins_empty, to_empty}
use Rattle.bed_sat.proofs.SatLaws.{Within}
use Rattle.bed_deriv.specs.declared.derivation.DArg.{DArg}
use Rattle.bed_deriv.specs.declared.state.SymState.{SymState}
use Rattle.bed_deriv.specs.Arguments.{numbered, to_number}
use Rattle.bed_deriv.specs.Matches.{with_number, atom_numbered, choice_before, chosen, is_chosen, all_different, numbers_left, atoms_left}
use Rattle.bed_deriv.specs.HeapRules.{without, taken, both_taken}
use Rattle.bed_check_pure.specs.States.{AreTrueAtoms}
use Rattle.bed_check_pure.proofs.RuleLaws.{numbered_is}
use Rattle.bed_check_heap.specs.Sound.{atom_before, atoms_numbered}

-- ---- items of lists

pub without_more : {A : Type 0} (i : ℕ) (x : A) (xs : List A) → without (suc i) (x ∷ xs) ≡ x ∷ without i xs
without_more i x xs = let e : suc i + 1 ≡ suc (i + 1) = omega arith in ap (λ n. x ∷ (take i xs ++ drop n (x ∷ xs))) e

-- an item before the one that is taken stays where it is
pub before_taken : {A : Type 0} (xs : List A) (k m : ℕ) (x : A) → m < k → slice_get xs m ≡ Some x → slice_get (without k xs) m ≡ Some x
before_taken [] k m x lt e = absurd cc
before_taken (y ∷ xs) zero m x lt e = absurd (omega arith)
before_taken (y ∷ xs) (suc k) zero x lt e = e
before_taken (y ∷ xs) (suc k) (suc m) x lt e =
    subst (λ ys. slice_get ys (suc m) ≡ Some x) (sym (without_more k y xs)) (before_taken xs k m x (omega arith) e)

-- the facts stay
pub both_facts : (s : SymState) (i j : ℕ) → (both_taken s i j).facts ≡ s.facts
both_facts s i j = by (nat_le i j)
  where
    by : (b : Bool) → (if b then taken (taken s j) i else taken (taken s i) j).facts ≡ s.facts
    by true = refl
    by false = refl

-- ---- the atoms that are chosen

abbrev pub atoms_chosen : List (ℕ × Atom) → List Atom
atoms_chosen [] = []
atoms_chosen (c ∷ cs) = c.1 ∷ atoms_chosen cs

-- each is the atom of its number
abbrev pub AreNumbered : List Atom → List (ℕ × Atom) → Type 0
AreNumbered xs [] = Unit {0}
AreNumbered xs (c ∷ cs) = (numbered xs c.0 ≡ Some c.1) × AreNumbered xs cs

atom_is_numbered : (xs : List Atom) (m : Option ℕ) (c : ℕ × Atom) → atom_numbered xs m ≡ Some c → numbered xs c.0 ≡ Some c.1
atom_is_numbered xs None c e = absurd cc
atom_is_numbered xs (Some n) c e = by (numbered xs n) refl e
  where
    by : (o : Option Atom) → numbered xs n ≡ o → with_number o (Some n) ≡ Some c → numbered xs c.0 ≡ Some c.1
    by None q e = absurd cc
    by (Some x) q e = subst (λ (d : ℕ × Atom). numbered xs d.0 ≡ Some d.1) (some_same e) q

pub chosen_numbered : (xs : List Atom) (args : List DArg) (cs : List (ℕ × Atom)) → chosen xs args ≡ Some cs → AreNumbered xs cs
chosen_numbered xs [] cs e = subst (AreNumbered xs) (some_same e) tt
chosen_numbered xs (a ∷ more) cs e =
    by (atom_numbered xs (to_number (Some a))) (chosen xs more) (atom_is_numbered xs (to_number (Some a))) (chosen_numbered xs more) e
  where
    by : (c : Option (ℕ × Atom)) (ds : Option (List (ℕ × Atom)))
        → ((x : ℕ × Atom) → c ≡ Some x → numbered xs x.0 ≡ Some x.1)
        → ((ys : List (ℕ × Atom)) → ds ≡ Some ys → AreNumbered xs ys)
        → choice_before c ds ≡ Some cs → AreNumbered xs cs
    by (Some c) (Some ds) first others e = subst (AreNumbered xs) (some_same e) (first c refl, others ds refl)
    by None ds first others e = absurd cc
    by (Some c) None first others e = absurd cc

-- ---- what is left

left_none : (n : ℕ) (xs : List Atom) → atoms_left [] n xs ≡ xs
left_none n [] = refl
left_none n (x ∷ xs) = ap (λ ys. x ∷ ys) (left_none (n + 1) xs)

-- numbers before the first don't count
left_same : (c : ℕ × Atom) (cs : List (ℕ × Atom)) (n : ℕ) (xs : List Atom) → c.0 < n → atoms_left (c ∷ cs) n xs ≡ atoms_left cs n xs
left_same c cs n [] lt = refl
left_same c cs n (x ∷ xs) lt =
    let no : (c.0 == n) ≡ false = ne_eqb c.0 n (λ e. omega arith) in
    ap₂ (λ (b : Bool) (ys : List Atom). if b then ys else x ∷ ys) (ap (λ b. b || is_chosen n cs) no) (left_same c cs (n + 1) xs (omega arith))

-- the atoms of the numbers that are left are the atoms that are left
left_numbered : (all : List Atom) (cs : List (ℕ × Atom)) (n : ℕ) (xs : List Atom)
    → ((k : ℕ) (x : Atom) → slice_get xs k ≡ Some x → numbered all (n + k) ≡ Some x)
    → atoms_numbered all (numbers_left cs n xs) ≡ atoms_left cs n xs
left_numbered all cs n [] at = refl
left_numbered all cs n (x ∷ xs) at =
    let zero_more : n + 0 ≡ n = omega arith in
    by (is_chosen n cs) (subst (λ k. numbered all k ≡ Some x) zero_more (at 0 x refl))
    (left_numbered all cs (n + 1) xs (λ k y e. let more : n + suc k ≡ n + 1 + k = omega arith in subst (λ j. numbered all j ≡ Some y) more (at (suc k) y e)))
  where
    by : (b : Bool) → numbered all n ≡ Some x → atoms_numbered all (numbers_left cs (n + 1) xs) ≡ atoms_left cs (n + 1) xs
        → atoms_numbered all (if b then numbers_left cs (n + 1) xs else n ∷ numbers_left cs (n + 1) xs) ≡ (if b then atoms_left cs (n + 1) xs else x ∷ atoms_left cs (n + 1) xs)
    by true here others = others
    by false here others = ap₂ (λ (o : Option Atom) (ys : List Atom). atom_before o ys) here others

pub numbers_are_left : (cs : List (ℕ × Atom)) (xs : List Atom) → atoms_numbered xs (numbers_left cs 1 xs) ≡ atoms_left cs 1 xs
numbers_are_left cs xs = left_numbered xs cs 1 xs at
  where
    at : (k : ℕ) (x : Atom) → slice_get xs k ≡ Some x → numbered xs (1 + k) ≡ Some x
    at k x e =
        let no : (1 + k == 0) ≡ false = ne_eqb (1 + k) 0 (λ q. omega arith) in
        let place : k ≡ 1 + k - 1 = omega arith in
        ap (λ (b : Bool). if b then None else slice_get xs (1 + k - 1)) no ∙ subst (λ j. slice_get xs j ≡ Some x) place e

-- ---- parts

module _ (w : World) (ν : Values) (P : Meaning) where
  abbrev Are : List Atom → Memory → Type 0
  Are = AreTrueAtoms w ν P

  abbrev Is : Atom → Memory → Type 0
  Is x h = IsTrueAtom w.codes w.labels P ν x h

  pub atoms_append : (xs ys : List Atom) (h front back : Memory) → Joins h front back → AreTrueAtoms w ν P xs front → AreTrueAtoms w ν P ys back → AreTrueAtoms w ν P (xs ++ ys) h
  atoms_append [] ys h front back j is more = subst (Are ys) (sym (joins_empty (subst (Joins h back) is (joins_comm j)))) more
  atoms_append (x ∷ xs) ys h front back j is more =
      let k = joins_assoc (joins_comm j) (joins_comm is.2) in
      (is.0, k.0, joins_comm k.1, is.3, atoms_append xs ys k.0 is.1 back (joins_comm k.2) is.4 more)

  -- an atom is put to the end, with a part of its own
  pub put_atom : (xs : List Atom) (x : Atom) (h rest here : Memory) → Joins h rest here → AreTrueAtoms w ν P xs rest
      → IsTrueAtom w.codes w.labels P ν x here → AreTrueAtoms w ν P (xs ++ x ∷ []) h
  put_atom xs x h rest here j is true_here = atoms_append xs (x ∷ []) h rest here j is (here, empty, to_empty here, true_here, refl)

  -- an atom is true of a part, and others of the rest
  pub record Taken (x : Atom) (others : List Atom) (h : Memory) : Type 0 where
    pub here : Memory
    pub rest : Memory
    pub joins : Joins h here rest
    pub is : IsTrueAtom w.codes w.labels P ν x here
    pub are : AreTrueAtoms w ν P others rest

  -- one more stands before
  beside : (x y : Atom) (ys : List Atom) (h here others : Memory) → Joins h here others → Is x here → Taken y ys others → Taken y (x ∷ ys) h
  beside x y ys h here others j is t =
      let k = joins_assoc j (joins_comm t.joins) in
      record { here = t.here; rest = k.0; joins = joins_comm k.1; is = t.is; are = (here, t.rest, k.2, is, t.are) }

  -- the atom at a place is taken out
  pub take_at : (xs : List Atom) (i : ℕ) (x : Atom) (h : Memory) → slice_get xs i ≡ Some x → AreTrueAtoms w ν P xs h → Taken x (without i xs) h
  take_at [] i x h e is = absurd cc
  take_at (y ∷ xs) zero x h e is = record { here = is.0; rest = is.1; joins = is.2; is = subst (λ z. Is z is.0) (some_same e) is.3; are = is.4 }
  take_at (y ∷ xs) (suc i) x h e is =
      subst (λ ys. Taken x ys h) (sym (without_more i y xs)) (beside y x (without i xs) h is.0 is.1 is.2 is.3 (take_at xs i x is.1 e is.4))

  pub take_numbered : (s : SymState) (i : ℕ) (x : Atom) (h : Memory) → numbered s.atoms i ≡ Some x → AreTrueAtoms w ν P s.atoms h → Taken x (taken s i).atoms h
  take_numbered s i x h e is = take_at s.atoms (i - 1) x h (numbered_is s.atoms i x e).1 is

  -- two atoms are true of parts, and others of the rest
  pub record BothTaken (x y : Atom) (others : List Atom) (h : Memory) : Type 0 where
    pub first : Memory
    pub second : Memory
    pub both : Memory
    pub rest : Memory
    pub joins : Joins h rest both
    pub parts : Joins both first second
    pub is_first : IsTrueAtom w.codes w.labels P ν x first
    pub is_second : IsTrueAtom w.codes w.labels P ν y second
    pub are : AreTrueAtoms w ν P others rest

  both_of : (x y : Atom) (ys zs : List Atom) (h : Memory) (t : Taken x ys h) → Taken y zs t.rest → BothTaken x y zs h
  both_of x y ys zs h t u =
      let k = joins_assoc t.joins u.joins in
      record { first = t.here; second = u.here; both = k.0; rest = u.rest; joins = joins_comm k.1; parts = k.2; is_first = t.is; is_second = u.is; are = u.are }

  swapped : (x y : Atom) (zs : List Atom) (h : Memory) → BothTaken x y zs h → BothTaken y x zs h
  swapped x y zs h t = record { first = t.second; second = t.first; both = t.both; rest = t.rest; joins = t.joins; parts = joins_comm t.parts; is_first = t.is_second; is_second = t.is_first; are = t.are }

  -- two atoms of different numbers are taken out
  pub take_both : (s : SymState) (i j : ℕ) (x y : Atom) (h : Memory) → i ≢ j → numbered s.atoms i ≡ Some x → numbered s.atoms j ≡ Some y
      → AreTrueAtoms w ν P s.atoms h → BothTaken x y (both_taken s i j).atoms h
  take_both s i j x y h ne at_i at_j is = by (nat_le i j) refl
    where
      one : (i ≢ 0) × (slice_get s.atoms (i - 1) ≡ Some x)
      one = numbered_is s.atoms i x at_i

      two : (j ≢ 0) × (slice_get s.atoms (j - 1) ≡ Some y)
      two = numbered_is s.atoms j y at_j

      by : (b : Bool) → nat_le i j ≡ b → BothTaken x y (if b then taken (taken s j) i else taken (taken s i) j).atoms h
      by true q =
          let le : i ≤ j = leb-true i j q in
          let t = take_at s.atoms (j - 1) y h two.1 is in
          let u = take_at (without (j - 1) s.atoms) (i - 1) x t.rest (before_taken s.atoms (j - 1) (i - 1) x (omega (arith, one.0, two.0)) one.1) t.are in
          swapped y x _ h (both_of y x _ _ h t u)
      by false q =
          let lt : j < i = leb-false i j q in
          let t = take_at s.atoms (i - 1) x h one.1 is in
          let u = take_at (without (i - 1) s.atoms) (j - 1) y t.rest (before_taken s.atoms (i - 1) (j - 1) y (omega (arith, one.0, two.0)) two.1) t.are in
          both_of x y _ _ h t u

  -- one more atom is chosen
  left_more : (c : ℕ × Atom) (cs : List (ℕ × Atom)) (n k : ℕ) (xs : List Atom) (h : Memory) → c.0 ≡ n + k → is_chosen c.0 cs ≡ false
      → slice_get xs k ≡ Some c.1 → Are (atoms_left cs n xs) h → Taken c.1 (atoms_left (c ∷ cs) n xs) h
  left_more c cs n k [] h at out e is = absurd cc
  left_more c cs n zero (x ∷ xs) h at out e is =
      let same : c.0 ≡ n = omega arith in
      let yes : (c.0 == n) ≡ true = eq-eqb c.0 n same in
      let stays : is_chosen n cs ≡ false = subst (λ m. is_chosen m cs ≡ false) same out in
      let all : Are (x ∷ atoms_left cs (n + 1) xs) h = subst (λ (b : Bool). Are (if b then atoms_left cs (n + 1) xs else x ∷ atoms_left cs (n + 1) xs) h) stays is in
      let less : atoms_left cs (n + 1) xs ≡ atoms_left (c ∷ cs) n (x ∷ xs) =
      sym (ap (λ (b : Bool). if b || is_chosen n cs then atoms_left (c ∷ cs) (n + 1) xs else x ∷ atoms_left (c ∷ cs) (n + 1) xs) yes
      ∙ left_same c cs (n + 1) xs (omega arith)) in
      record { here = all.0; rest = all.1; joins = all.2; is = subst (λ z. Is z all.0) (some_same e) all.3; are = subst (λ ys. Are ys all.1) less all.4 }
  left_more c cs n (suc k) (x ∷ xs) h at out e is =
      let no : (c.0 == n) ≡ false = ne_eqb c.0 n (λ q. omega arith) in
      subst (λ (b : Bool). Taken c.1 (if b then atoms_left (c ∷ cs) (n + 1) xs else x ∷ atoms_left (c ∷ cs) (n + 1) xs) h)
      (sym (ap (λ b. b || is_chosen n cs) no))
      (by (is_chosen n cs) (λ g. left_more c cs (n + 1) k xs g (omega arith) out e) is)
    where
      by : (b : Bool) → ((g : Memory) → Are (atoms_left cs (n + 1) xs) g → Taken c.1 (atoms_left (c ∷ cs) (n + 1) xs) g)
          → Are (if b then atoms_left cs (n + 1) xs else x ∷ atoms_left cs (n + 1) xs) h
          → Taken c.1 (if b then atoms_left (c ∷ cs) (n + 1) xs else x ∷ atoms_left (c ∷ cs) (n + 1) xs) h
      by true more is = more h is
      by false more is = beside x c.1 _ h is.0 is.1 is.2 is.3 (more is.1 is.4)

  -- the atoms that are chosen are true of a part, and those that are left of the rest
  pub take_chosen : (xs : List Atom) (cs : List (ℕ × Atom)) (h : Memory) → AreNumbered xs cs → all_different cs ≡ true → AreTrueAtoms w ν P xs h
      → (front back : Memory) × Joins h front back × AreTrueAtoms w ν P (atoms_chosen cs) front × AreTrueAtoms w ν P (atoms_left cs 1 xs) back
  take_chosen xs [] h numbers different is = (empty, h, joins_comm (to_empty h), refl, subst (λ ys. Are ys h) (sym (left_none 1 xs)) is)
  take_chosen xs (c ∷ cs) h numbers different is =
      let d = and_parts (not (is_chosen c.0 cs)) (all_different cs) different in
      let t = take_chosen xs cs h numbers.1 d.1 is in
      let at = numbered_is xs c.0 c.1 numbers.0 in
      let u = left_more c cs 1 (c.0 - 1) xs t.1 (omega (arith, at.0)) (not-true (is_chosen c.0 cs) d.0) at.1 t.4 in
      let k = joins_assoc t.2 u.joins in
      (k.0, u.rest, k.1, (u.here, t.0, joins_comm k.2, u.is, t.3), u.are)

-- ---- what the predicates mean

atom_more : (w : World) (ν : Values) (P Q : Meaning) → Within P Q → (x : Atom) (h : Memory) → IsTrueAtom w.codes w.labels P ν x h → IsTrueAtom w.codes w.labels Q ν x h
atom_more w ν P Q f (atom.Cell a v) h is = is
atom_more w ν P Q f (atom.Byte a v) h is = is
atom_more w ν P Q f (atom.Block a n) h is = is
atom_more w ν P Q f (atom.Pred name args) h is = f name.bytes _ h is

-- atoms stay true where the predicates mean more
pub atoms_more : (w : World) (ν : Values) (P Q : Meaning) → Within P Q → (xs : List Atom) (h : Memory) → AreTrueAtoms w ν P xs h → AreTrueAtoms w ν Q xs h
atoms_more w ν P Q f [] h are = are
atoms_more w ν P Q f (x ∷ xs) h are = (are.0, are.1, are.2, atom_more w ν P Q f x are.0 are.3, atoms_more w ν P Q f xs are.1 are.4)
