-- Truth of assertions at more depth.
use Rattle.std.proofs.Common.{◌≡◌, ℕ, zero, suc, ◌+◌, Option, List, [], ◌∷◌, arith, subst}
use Rattle.bed_machine.specs.Memory.{Memory}
use Rattle.bed_lang.specs.declared.word.Sort.{Sort}
use Rattle.bed_lang.specs.declared.word.Sort.TheVariants as sort
use Rattle.bed_lang.specs.declared.logic.Atom.{Atom}
use Rattle.bed_lang.specs.declared.logic.Atom.TheVariants as atom
use Rattle.bed_lang.specs.declared.logic.Term.{Term}
use Rattle.bed_lang.specs.declared.logic.Term.TheVariants as term
use Rattle.bed_lang.specs.declared.logic.Bind.{Bind}
use Rattle.bed_lang.specs.declared.logic.Assertion.{Assertion}
use Rattle.bed_lang.specs.Values.{Values}
use Rattle.bed_sat.specs.Assertions.{ArgValue, Meaning, ForSomeValue, ForSomeValues, IsTrueAtom, IsTrueTerm, AreTrueTerms, IsTrueWith, World, meaning, Sat}

-- one meaning of the predicates is within another
abbrev pub Within : Meaning → Meaning → Type 0
Within P Q = (name : List ℕ) (vs : List ArgValue) (h : Memory) → P name vs h → Q name vs h

some_value_more : (s : Sort) (x : List ℕ) (ν : Values) (P Q : Values → Type 0) → ((μ : Values) → P μ → Q μ) → ForSomeValue s x ν P → ForSomeValue s x ν Q
some_value_more sort.Word x ν P Q f h = (h.0, f _ h.1)
some_value_more sort.Seq x ν P Q f h = (h.0, f _ h.1)

pub some_values_more : (bs : List Bind) (ν : Values) (P Q : Values → Type 0) → ((μ : Values) → P μ → Q μ) → ForSomeValues bs ν P → ForSomeValues bs ν Q
some_values_more [] ν P Q f h = f ν h
some_values_more (b ∷ bs) ν P Q f h = some_value_more b.sort b.name.bytes ν _ _ (λ μ. some_values_more bs μ P Q f) h

module _ (codes : ℕ → Option (List ℕ)) (labels : List ℕ → ℕ) where
  atom_more : (P Q : Meaning) → Within P Q → (ν : Values) (a : Atom) (h : Memory) → IsTrueAtom codes labels P ν a h → IsTrueAtom codes labels Q ν a h
  atom_more P Q f ν (atom.Cell a v) h is = is
  atom_more P Q f ν (atom.Byte a v) h is = is
  atom_more P Q f ν (atom.Block a n) h is = is
  atom_more P Q f ν (atom.Pred p args) h is = f p.bytes _ h is

  term_more : (P Q : Meaning) → Within P Q → (ν : Values) (t : Term) (h : Memory) → IsTrueTerm codes labels P ν t h → IsTrueTerm codes labels Q ν t h
  term_more P Q f ν term.Emp h is = is
  term_more P Q f ν (term.Pure φ) h is = is
  term_more P Q f ν (term.Atom a) h is = atom_more P Q f ν a h is

  pub terms_more : (P Q : Meaning) → Within P Q → (ν : Values) (ts : List Term) (h : Memory) → AreTrueTerms codes labels P ν ts h → AreTrueTerms codes labels Q ν ts h
  terms_more P Q f ν [] h is = is
  terms_more P Q f ν (t ∷ ts) h is = (is.0, is.1, is.2, term_more P Q f ν t is.0 is.3, terms_more P Q f ν ts is.1 is.4)

  -- truth is monotone in what the predicates mean
  pub true_more : (P Q : Meaning) → Within P Q → (ν : Values) (A : Assertion) (h : Memory) → IsTrueWith codes labels P ν A h → IsTrueWith codes labels Q ν A h
  true_more P Q f ν A h is = some_values_more A.binders ν _ _ (λ μ. terms_more P Q f μ A.terms h) is

module _ (w : World) where
  pub meaning_more : (k : ℕ) → Within (meaning w k) (meaning w (suc k))
  meaning_more zero p vs h is = absurd is
  meaning_more (suc k) p vs h is = (is.0, is.1, is.2, is.3, is.4, true_more w.codes w.labels _ _ (meaning_more k) _ is.3 h is.5)

  -- true at a depth is true one deeper, and at every greater depth
  pub sat_more : (k : ℕ) (ν : Values) (h : Memory) (A : Assertion) → Sat w k ν h A → Sat w (suc k) ν h A
  sat_more k ν h A is = true_more w.codes w.labels _ _ (meaning_more k) ν A h is

  pub sat_add : (n k : ℕ) (ν : Values) (h : Memory) (A : Assertion) → Sat w k ν h A → Sat w (n + k) ν h A
  sat_add zero k ν h A is = let e : k ≡ 0 + k = omega arith in subst (λ j. Sat w j ν h A) e is
  sat_add (suc n) k ν h A is = let e : suc (n + k) ≡ suc n + k = omega arith in subst (λ j. Sat w j ν h A) e (sat_more (n + k) ν h A (sat_add n k ν h A is))

  meaning_add : (n k : ℕ) → Within (meaning w k) (meaning w (n + k))
  meaning_add zero k p vs h is = let e : k ≡ 0 + k = omega arith in subst (λ j. meaning w j p vs h) e is
  meaning_add (suc n) k p vs h is = let e : suc (n + k) ≡ suc n + k = omega arith in subst (λ j. meaning w j p vs h) e (meaning_more (n + k) p vs h (meaning_add n k p vs h is))
