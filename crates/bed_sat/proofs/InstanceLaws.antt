-- Terms in place of variables do what setting the variables to their values does.
use Rattle.std.proofs.Common.{◌≡◌, ◌≢◌, ℕ, ◌+◌, ◌-◌, ◌*◌, ◌<◌, ◌≤◌, ◌↔◌, Option, Some, List, [], ◌∷◌, ◌++◌, map, Contains, refl, sym, ◌∙◌, ap, ap₂, subst, subst₂, arith}
use Rattle.bed_machine.specs.Memory.{Memory}
use Rattle.bed_lang.specs.declared.word.Word.{Word, roll-Word, map-Word, ind-Word}
use Rattle.bed_lang.specs.declared.word.Word.TheOpen.{Word-F}
use Rattle.bed_lang.specs.declared.word.Seq.{Seq, roll-Seq, map-Seq, ind-Seq}
use Rattle.bed_lang.specs.declared.word.Seq.TheOpen.{Seq-F}
use Rattle.bed_lang.specs.declared.logic.Arg.{Arg}
use Rattle.bed_lang.specs.declared.logic.Arg.TheVariants as arg
use Rattle.bed_lang.specs.declared.logic.Pure.{Pure}
use Rattle.bed_lang.specs.declared.logic.Pure.TheVariants as pure
use Rattle.bed_lang.specs.declared.logic.Atom.{Atom}
use Rattle.bed_lang.specs.declared.logic.Atom.TheVariants as atom
use Rattle.bed_lang.specs.declared.logic.Term.{Term}
use Rattle.bed_lang.specs.declared.logic.Term.TheVariants as term
use Rattle.bed_lang.specs.Numbers.{wrap}
use Rattle.bed_lang.specs.Values.{Values, variable, value, list_value}
use Rattle.bed_lang.proofs.ValueLaws.{value-Number, value-Label, value-Add, value-Sub, value-Times, value-small, list_value-Nil, list_value-Cons, list_value-App}
use Rattle.bed_sat.specs.Cells.{IsCell, IsByte, IsBlock}
use Rattle.bed_sat.specs.Facts.{IsTrueFact}
use Rattle.bed_sat.specs.Assertions.{WordValue, ListValue, Meaning, arg_value, arg_values, IsTrueAtom, IsTrueTerm, AreTrueTerms}
use Rattle.bed_lang.specs.Instances.{Instance, values_with, word_with, seq_with, arg_with, args_with, pure_with, atom_with, term_with, terms_with}
use Rattle.bed_lang.proofs.RollLaws.{value_roll, list_roll, word_with-roll, seq_with-roll}

-- items that are taken modulo 2^32 again stay
pub wrap_twice : (xs : List ℕ) → map wrap (map wrap xs) ≡ map wrap xs
wrap_twice [] = refl
wrap_twice (x ∷ xs) = ap₂ (λ a b. a ∷ b) (omega arith) (wrap_twice xs)

wrap_append : (xs ys : List ℕ) → map wrap (xs ++ ys) ≡ map wrap xs ++ map wrap ys
wrap_append [] ys = refl
wrap_append (x ∷ xs) ys = ap (λ l. wrap x ∷ l) (wrap_append xs ys)

pub two : {A B : Type 0} (R : A → B → Type 0) {a c : A} {b d : B} → a ≡ c → b ≡ d → R a b ↔ R c d
two R p q = (subst₂ R p q, subst₂ R (sym p) (sym q))

module _ (codes : ℕ → Option (List ℕ)) (labels : List ℕ → ℕ) (σ : Instance) (ν : Values) where
  abbrev μ : Values
  μ = values_with σ labels ν

  wrap_value : (a : Word) → value labels ν a ≡ wrap (value labels ν a)
  wrap_value a = let l = value-small labels ν a in omega (arith, l)

  abbrev Agrees : Word → Type 0
  Agrees a = value labels ν (word_with σ a) ≡ value labels μ a

  word_layer : (y : Word-F ((a : Word) × Agrees a)) → Agrees (roll-Word (map-Word _ _ (λ p. p.0) y))
  word_layer (Word-F.Number n) = ap (value labels ν) (word_with-roll σ (Word-F.Number n)) ∙ value-Number labels ν n ∙ sym (value_roll labels μ (Word-F.Number n))
  word_layer (Word-F.Label f) = ap (value labels ν) (word_with-roll σ (Word-F.Label f)) ∙ value-Label labels ν f ∙ sym (value_roll labels μ (Word-F.Label f))
  word_layer (Word-F.Var x) = ap (value labels ν) (word_with-roll σ (Word-F.Var x)) ∙ wrap_value (σ.words (variable x)) ∙ sym (value_roll labels μ (Word-F.Var x))
  word_layer (Word-F.Add a b) =
      ap (value labels ν) (word_with-roll σ (Word-F.Add a.0 b.0)) ∙ value-Add labels ν (word_with σ a.0) (word_with σ b.0)
      ∙ ap₂ (λ m n. wrap (m + n)) a.1 b.1 ∙ sym (value_roll labels μ (Word-F.Add a.0 b.0))
  word_layer (Word-F.Sub a b) =
      ap (value labels ν) (word_with-roll σ (Word-F.Sub a.0 b.0)) ∙ value-Sub labels ν (word_with σ a.0) (word_with σ b.0)
      ∙ ap₂ (λ m n. wrap (m + (4294967296 - n))) a.1 b.1 ∙ sym (value_roll labels μ (Word-F.Sub a.0 b.0))
  word_layer (Word-F.Times n a) =
      ap (value labels ν) (word_with-roll σ (Word-F.Times n a.0)) ∙ value-Times labels ν n (word_with σ a.0)
      ∙ ap (λ m. wrap (n * m)) a.1 ∙ sym (value_roll labels μ (Word-F.Times n a.0))

  pub value-with : (a : Word) → value labels ν (word_with σ a) ≡ value labels μ a
  value-with = ind-Word Agrees (λ x y is. subst (λ (z : Word-F Word). Agrees (roll-Word z)) is (word_layer y))

  -- the elements of a sequence's value are words
  abbrev AreSmall : Seq → Type 0
  AreSmall s = list_value labels ν s ≡ map wrap (list_value labels ν s)

  small_layer : (y : Seq-F ((s : Seq) × AreSmall s)) → AreSmall (roll-Seq (map-Seq _ _ (λ p. p.0) y))
  small_layer (Seq-F.Var x) = let e = list_roll labels ν (Seq-F.Var x) in e ∙ sym (wrap_twice (ν.lists (variable x))) ∙ ap (map wrap) (sym e)
  small_layer Seq-F.Nil = let e = list_roll labels ν Seq-F.Nil in e ∙ ap (map wrap) (sym e)
  small_layer (Seq-F.Cons a s) = let e = list_roll labels ν (Seq-F.Cons a s.0) in e ∙ ap₂ (λ v vs. v ∷ vs) (wrap_value a) s.1 ∙ ap (map wrap) (sym e)
  small_layer (Seq-F.App s t) =
      let e = list_roll labels ν (Seq-F.App s.0 t.0) in
      e ∙ ap₂ (λ u v. u ++ v) s.1 t.1 ∙ sym (wrap_append (list_value labels ν s.0) (list_value labels ν t.0)) ∙ ap (map wrap) (sym e)

  small : (s : Seq) → AreSmall s
  small = ind-Seq AreSmall (λ x y is. subst (λ (z : Seq-F Seq). AreSmall (roll-Seq z)) is (small_layer y))

  abbrev ListAgrees : Seq → Type 0
  ListAgrees s = list_value labels ν (seq_with σ s) ≡ list_value labels μ s

  seq_layer : (y : Seq-F ((s : Seq) × ListAgrees s)) → ListAgrees (roll-Seq (map-Seq _ _ (λ p. p.0) y))
  seq_layer (Seq-F.Var x) = ap (list_value labels ν) (seq_with-roll σ (Seq-F.Var x)) ∙ small (σ.seqs (variable x)) ∙ sym (list_roll labels μ (Seq-F.Var x))
  seq_layer Seq-F.Nil = ap (list_value labels ν) (seq_with-roll σ Seq-F.Nil) ∙ list_value-Nil labels ν ∙ sym (list_roll labels μ Seq-F.Nil)
  seq_layer (Seq-F.Cons a s) =
      ap (list_value labels ν) (seq_with-roll σ (Seq-F.Cons a s.0)) ∙ list_value-Cons labels ν (word_with σ a) (seq_with σ s.0)
      ∙ ap₂ (λ v vs. v ∷ vs) (value-with a) s.1 ∙ sym (list_roll labels μ (Seq-F.Cons a s.0))
  seq_layer (Seq-F.App s t) =
      ap (list_value labels ν) (seq_with-roll σ (Seq-F.App s.0 t.0)) ∙ list_value-App labels ν (seq_with σ s.0) (seq_with σ t.0)
      ∙ ap₂ (λ u v. u ++ v) s.1 t.1 ∙ sym (list_roll labels μ (Seq-F.App s.0 t.0))

  pub list_value-with : (s : Seq) → list_value labels ν (seq_with σ s) ≡ list_value labels μ s
  list_value-with = ind-Seq ListAgrees (λ x y is. subst (λ (z : Seq-F Seq). ListAgrees (roll-Seq z)) is (seq_layer y))

  arg_agrees : (a : Arg) → arg_value codes labels ν (arg_with σ a) ≡ arg_value codes labels μ a
  arg_agrees (arg.Word at a) = ap WordValue (value-with a)
  arg_agrees (arg.Seq at s) = ap ListValue (list_value-with s)
  arg_agrees (arg.Bare name) = refl

  args_agree : (more : List Arg) → arg_values codes labels ν (args_with σ more) ≡ arg_values codes labels μ more
  args_agree [] = refl
  args_agree (a ∷ more) = ap₂ (λ v vs. v ∷ vs) (arg_agrees a) (args_agree more)

  pub fact_with : (φ : Pure) → IsTrueFact codes labels ν (pure_with σ φ) ↔ IsTrueFact codes labels μ φ
  fact_with (pure.Equal a b) = two (λ m n. m ≡ n) (value-with a) (value-with b)
  fact_with (pure.Unequal a b) = two (λ m n. m ≢ n) (value-with a) (value-with b)
  fact_with (pure.Less a b) = two (λ m n. m < n) (value-with a) (value-with b)
  fact_with (pure.AtMost a b) = two (λ m n. m ≤ n) (value-with a) (value-with b)
  fact_with (pure.Same s t) = two (λ m n. m ≡ n) (list_value-with s) (list_value-with t)
  fact_with (pure.Member a s) = two (λ m n. Contains n m) (value-with a) (list_value-with s)
  fact_with (pure.NonMember a s) = two (λ m n. Contains n m → ⊥) (value-with a) (list_value-with s)
  fact_with (pure.Code a name) = (subst (λ m. codes m ≡ Some name.bytes) (value-with a), subst (λ m. codes m ≡ Some name.bytes) (sym (value-with a)))

  pub atom_true_with : (M : Meaning) (a : Atom) (h : Memory) → IsTrueAtom codes labels M ν (atom_with σ a) h ↔ IsTrueAtom codes labels M μ a h
  atom_true_with M (atom.Cell a v) h = two (λ m n. IsCell m n h) (value-with a) (value-with v)
  atom_true_with M (atom.Byte a v) h = two (λ m n. IsByte m n h) (value-with a) (value-with v)
  atom_true_with M (atom.Block a n) h = two (λ m k. IsBlock m k h) (value-with a) (value-with n)
  atom_true_with M (atom.Pred name args) h = (subst (λ vs. M name.bytes vs h) (args_agree args), subst (λ vs. M name.bytes vs h) (sym (args_agree args)))

  pub term_true_with : (M : Meaning) (t : Term) (h : Memory) → IsTrueTerm codes labels M ν (term_with σ t) h ↔ IsTrueTerm codes labels M μ t h
  term_true_with M term.Emp h = (λ e. e, λ e. e)
  term_true_with M (term.Pure φ) h = (λ e. (e.0, (fact_with φ).0 e.1), λ e. (e.0, (fact_with φ).1 e.1))
  term_true_with M (term.Atom a) h = atom_true_with M a h

  -- terms with others in place of their variables are true where they are true of the others' values
  pub terms_true_with : (M : Meaning) (ts : List Term) (h : Memory) → AreTrueTerms codes labels M ν (terms_with σ ts) h ↔ AreTrueTerms codes labels M μ ts h
  terms_true_with M [] h = (λ e. e, λ e. e)
  terms_true_with M (t ∷ ts) h = (
    λ e. (e.0, e.1, e.2, (term_true_with M t e.0).0 e.3, (terms_true_with M ts e.1).0 e.4),
    λ e. (e.0, e.1, e.2, (term_true_with M t e.0).1 e.3, (terms_true_with M ts e.1).1 e.4),
  )
