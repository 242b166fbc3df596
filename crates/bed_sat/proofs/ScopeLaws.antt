-- What an assertion says depends on the variables in its scope alone.
use Rattle.std.proofs.Common.{◌≡◌, ◌≢◌, ℕ, ◌+◌, ◌-◌, ◌*◌, ◌<◌, ◌≤◌, ◌⊎◌, Bool, true, false, if◌then◌else◌, IsTrue, Option, Some, List, [], ◌∷◌, ◌++◌, map, Contains, inl, inr, refl, sym, ◌∙◌, ap, ap₂, subst, subst₂}
use Rattle.std.proofs.lemmas.Bool.{and_parts, or_cases}
use Rattle.bed_machine.specs.Memory.{Memory}
use Rattle.bed_lang.specs.declared.word.Sort.{Sort}
use Rattle.bed_lang.specs.declared.word.Sort.TheVariants as sort
use Rattle.bed_lang.specs.declared.word.Word.{Word, roll-Word, map-Word, ind-Word, fold-roll-Word}
use Rattle.bed_lang.specs.declared.word.Word.TheOpen.{Word-F}
use Rattle.bed_lang.specs.declared.word.Seq.{Seq, roll-Seq, map-Seq, ind-Seq, fold-roll-Seq}
use Rattle.bed_lang.specs.declared.word.Seq.TheOpen.{Seq-F}
use Rattle.bed_lang.specs.declared.logic.Arg.{Arg}
use Rattle.bed_lang.specs.declared.logic.Arg.TheVariants as arg
use Rattle.bed_lang.specs.declared.logic.Pure.{Pure}
use Rattle.bed_lang.specs.declared.logic.Pure.TheVariants as pure
use Rattle.bed_lang.specs.declared.logic.Atom.{Atom}
use Rattle.bed_lang.specs.declared.logic.Atom.TheVariants as atom
use Rattle.bed_lang.specs.declared.logic.Term.{Term}
use Rattle.bed_lang.specs.declared.logic.Term.TheVariants as term
use Rattle.bed_lang.specs.declared.logic.Bind.{Bind}
use Rattle.bed_lang.specs.declared.logic.Assertion.{Assertion}
use Rattle.bed_lang.specs.Same.{same_sort}
use Rattle.bed_lang.specs.Numbers.{wrap}
use Rattle.bed_lang.specs.Values.{Values, Named, variable, same_variable, set_word, set_list, value, list_value}
use Rattle.bed_lang.proofs.RollLaws.{value_roll, list_roll}
use Rattle.bed_sat.specs.Cells.{IsCell, IsByte, IsBlock}
use Rattle.bed_sat.specs.Facts.{IsTrueFact}
use Rattle.bed_sat.specs.Assertions.{WordValue, ListValue, Meaning, ForSomeValue, ForSomeValues, arg_value, arg_values, IsTrueAtom, IsTrueTerm, AreTrueTerms, World, meaning, Holds}
use Rattle.bed_sat.specs.Scopes.{Scope, with_bind, word_in, word_in_step, seq_in, seq_in_step, arg_in, args_in, pure_in, atom_in, term_in, terms_in, bound_in, assertion_in, Agree}

if_same : {A : Type 0} (b : Bool) (v m n : A) → (b ≡ true) ⊎ (m ≡ n) → (if b then v else m) ≡ (if b then v else n)
if_same true v m n h = refl
if_same false v m n (inl e) = absurd cc
if_same false v m n (inr e) = e

agree_word : (P : Scope) (ν μ : Values) (b : Bind) (v : ℕ) → b.sort ≡ sort.Word → Agree P ν μ → Agree (with_bind P b) (set_word ν (Named b.name.bytes) v) (set_word μ (Named b.name.bytes) v)
agree_word P ν μ b v s g = record {
  words = λ y is. if_same (same_variable y (Named b.name.bytes)) v (ν.words y) (μ.words y)
      (elim (or_cases (P sort.Word y) _ is) [ inl k ↦ inr (g.words y k) | inr e ↦ inl ((and_parts (same_sort sort.Word b.sort) _ e).1) ]);
  lists = λ y is. elim (or_cases (P sort.Seq y) _ is) [
    | inl k ↦ g.lists y k
    | inr e ↦ let no : same_sort sort.Seq sort.Word ≡ true = subst (λ q. same_sort sort.Seq q ≡ true) s ((and_parts (same_sort sort.Seq b.sort) _ e).0) in absurd cc
  ];
}

agree_list : (P : Scope) (ν μ : Values) (b : Bind) (vs : List ℕ) → b.sort ≡ sort.Seq → Agree P ν μ → Agree (with_bind P b) (set_list ν (Named b.name.bytes) vs) (set_list μ (Named b.name.bytes) vs)
agree_list P ν μ b vs s g = record {
  words = λ y is. elim (or_cases (P sort.Word y) _ is) [
    | inl k ↦ g.words y k
    | inr e ↦ let no : same_sort sort.Word sort.Seq ≡ true = subst (λ q. same_sort sort.Word q ≡ true) s ((and_parts (same_sort sort.Word b.sort) _ e).0) in absurd cc
  ];
  lists = λ y is. if_same (same_variable y (Named b.name.bytes)) vs (ν.lists y) (μ.lists y)
      (elim (or_cases (P sort.Seq y) _ is) [ inl k ↦ inr (g.lists y k) | inr e ↦ inl ((and_parts (same_sort sort.Seq b.sort) _ e).1) ]);
}

module _ (codes : ℕ → Option (List ℕ)) (labels : List ℕ → ℕ) where
  module _ (P : Scope) (ν μ : Values) (g : Agree P ν μ) where
    abbrev SameWord : Word → Type 0
    SameWord a = IsTrue (word_in P a) → value labels ν a ≡ value labels μ a

    abbrev SameSeq : Seq → Type 0
    SameSeq s = IsTrue (seq_in P s) → list_value labels ν s ≡ list_value labels μ s

    in_of : (x : Word-F Word) → word_in P (roll-Word x) ≡ word_in_step P (map-Word Word Bool (word_in P) x)
    in_of = fold-roll-Word Bool (word_in_step P)

    word_layer : (y : Word-F ((a : Word) × SameWord a)) → SameWord (roll-Word (map-Word _ _ (λ p. p.0) y))
    word_layer (Word-F.Number n) is = value_roll labels ν (Word-F.Number n) ∙ sym (value_roll labels μ (Word-F.Number n))
    word_layer (Word-F.Label f) is = value_roll labels ν (Word-F.Label f) ∙ sym (value_roll labels μ (Word-F.Label f))
    word_layer (Word-F.Var x) is = value_roll labels ν (Word-F.Var x) ∙ ap wrap (g.words (variable x) (sym (in_of (Word-F.Var x)) ∙ is)) ∙ sym (value_roll labels μ (Word-F.Var x))
    word_layer (Word-F.Add a b) is =
        let h = and_parts (word_in P a.0) (word_in P b.0) (sym (in_of (Word-F.Add a.0 b.0)) ∙ is) in
        value_roll labels ν (Word-F.Add a.0 b.0) ∙ ap₂ (λ m n. wrap (m + n)) (a.1 h.0) (b.1 h.1) ∙ sym (value_roll labels μ (Word-F.Add a.0 b.0))
    word_layer (Word-F.Sub a b) is =
        let h = and_parts (word_in P a.0) (word_in P b.0) (sym (in_of (Word-F.Sub a.0 b.0)) ∙ is) in
        value_roll labels ν (Word-F.Sub a.0 b.0) ∙ ap₂ (λ m n. wrap (m + (4294967296 - n))) (a.1 h.0) (b.1 h.1) ∙ sym (value_roll labels μ (Word-F.Sub a.0 b.0))
    word_layer (Word-F.Times n a) is =
        value_roll labels ν (Word-F.Times n a.0) ∙ ap (λ m. wrap (n * m)) (a.1 (sym (in_of (Word-F.Times n a.0)) ∙ is)) ∙ sym (value_roll labels μ (Word-F.Times n a.0))

    pub word_agree : (a : Word) → SameWord a
    word_agree = ind-Word SameWord (λ x y is. subst (λ (z : Word-F Word). SameWord (roll-Word z)) is (word_layer y))

    list_in_of : (x : Seq-F Seq) → seq_in P (roll-Seq x) ≡ seq_in_step P (map-Seq Seq Bool (seq_in P) x)
    list_in_of = fold-roll-Seq Bool (seq_in_step P)

    seq_layer : (y : Seq-F ((s : Seq) × SameSeq s)) → SameSeq (roll-Seq (map-Seq _ _ (λ p. p.0) y))
    seq_layer (Seq-F.Var x) is = list_roll labels ν (Seq-F.Var x) ∙ ap (map wrap) (g.lists (variable x) (sym (list_in_of (Seq-F.Var x)) ∙ is)) ∙ sym (list_roll labels μ (Seq-F.Var x))
    seq_layer Seq-F.Nil is = list_roll labels ν Seq-F.Nil ∙ sym (list_roll labels μ Seq-F.Nil)
    seq_layer (Seq-F.Cons a s) is =
        let h = and_parts (word_in P a) (seq_in P s.0) (sym (list_in_of (Seq-F.Cons a s.0)) ∙ is) in
        list_roll labels ν (Seq-F.Cons a s.0) ∙ ap₂ (λ v vs. v ∷ vs) (word_agree a h.0) (s.1 h.1) ∙ sym (list_roll labels μ (Seq-F.Cons a s.0))
    seq_layer (Seq-F.App s t) is =
        let h = and_parts (seq_in P s.0) (seq_in P t.0) (sym (list_in_of (Seq-F.App s.0 t.0)) ∙ is) in
        list_roll labels ν (Seq-F.App s.0 t.0) ∙ ap₂ (λ u v. u ++ v) (s.1 h.0) (t.1 h.1) ∙ sym (list_roll labels μ (Seq-F.App s.0 t.0))

    pub seq_agree : (s : Seq) → SameSeq s
    seq_agree = ind-Seq SameSeq (λ x y is. subst (λ (z : Seq-F Seq). SameSeq (roll-Seq z)) is (seq_layer y))

    arg_agree : (a : Arg) → IsTrue (arg_in P a) → arg_value codes labels ν a ≡ arg_value codes labels μ a
    arg_agree (arg.Word at a) is = ap WordValue (word_agree a is)
    arg_agree (arg.Seq at s) is = ap ListValue (seq_agree s is)
    arg_agree (arg.Bare x) is = refl

    args_agree : (more : List Arg) → IsTrue (args_in P more) → arg_values codes labels ν more ≡ arg_values codes labels μ more
    args_agree [] is = refl
    args_agree (a ∷ more) is = let h = and_parts (arg_in P a) _ is in ap₂ (λ v vs. v ∷ vs) (arg_agree a h.0) (args_agree more h.1)

    pub fact_agree : (φ : Pure) → IsTrue (pure_in P φ) → IsTrueFact codes labels ν φ → IsTrueFact codes labels μ φ
    fact_agree (pure.Equal a b) is t = let h = and_parts (word_in P a) _ is in subst₂ (λ m n. m ≡ n) (word_agree a h.0) (word_agree b h.1) t
    fact_agree (pure.Unequal a b) is t = let h = and_parts (word_in P a) _ is in subst₂ (λ m n. m ≢ n) (word_agree a h.0) (word_agree b h.1) t
    fact_agree (pure.Less a b) is t = let h = and_parts (word_in P a) _ is in subst₂ (λ m n. m < n) (word_agree a h.0) (word_agree b h.1) t
    fact_agree (pure.AtMost a b) is t = let h = and_parts (word_in P a) _ is in subst₂ (λ m n. m ≤ n) (word_agree a h.0) (word_agree b h.1) t
    fact_agree (pure.Same s u) is t = let h = and_parts (seq_in P s) _ is in subst₂ (λ m n. m ≡ n) (seq_agree s h.0) (seq_agree u h.1) t
    fact_agree (pure.Member a s) is t = let h = and_parts (word_in P a) _ is in subst₂ (λ m n. Contains n m) (word_agree a h.0) (seq_agree s h.1) t
    fact_agree (pure.NonMember a s) is t = let h = and_parts (word_in P a) _ is in subst₂ (λ m n. Contains n m → ⊥) (word_agree a h.0) (seq_agree s h.1) t
    fact_agree (pure.Code a x) is t = subst (λ m. codes m ≡ Some x.bytes) (word_agree a is) t

    atom_agree : (M : Meaning) (t : Atom) (h : Memory) → IsTrue (atom_in P t) → IsTrueAtom codes labels M ν t h → IsTrueAtom codes labels M μ t h
    atom_agree M (atom.Cell a v) h is e = let q = and_parts (word_in P a) _ is in subst₂ (λ m n. IsCell m n h) (word_agree a q.0) (word_agree v q.1) e
    atom_agree M (atom.Byte a v) h is e = let q = and_parts (word_in P a) _ is in subst₂ (λ m n. IsByte m n h) (word_agree a q.0) (word_agree v q.1) e
    atom_agree M (atom.Block a n) h is e = let q = and_parts (word_in P a) _ is in subst₂ (λ m k. IsBlock m k h) (word_agree a q.0) (word_agree n q.1) e
    atom_agree M (atom.Pred x args) h is e = subst (λ vs. M x.bytes vs h) (args_agree args is) e

    term_agree : (M : Meaning) (t : Term) (h : Memory) → IsTrue (term_in P t) → IsTrueTerm codes labels M ν t h → IsTrueTerm codes labels M μ t h
    term_agree M term.Emp h is e = e
    term_agree M (term.Pure φ) h is e = (e.0, fact_agree φ is e.1)
    term_agree M (term.Atom a) h is e = atom_agree M a h is e

    terms_agree : (M : Meaning) (ts : List Term) (h : Memory) → IsTrue (terms_in P ts) → AreTrueTerms codes labels M ν ts h → AreTrueTerms codes labels M μ ts h
    terms_agree M [] h is e = e
    terms_agree M (t ∷ ts) h is e = let q = and_parts (term_in P t) _ is in (e.0, e.1, e.2, term_agree M t e.0 q.0 e.3, terms_agree M ts e.1 q.1 e.4)

  bind_agree : (P : Scope) (ν μ : Values) (b : Bind) (s : Sort) (R : Values → Type 0) → b.sort ≡ s → Agree P ν μ
      → ((κ ι : Values) → Agree (with_bind P b) κ ι → R κ → R ι) → ForSomeValue s b.name.bytes ν R → ForSomeValue s b.name.bytes μ R
  bind_agree P ν μ b sort.Word R s g step h = (h.0, step _ _ (agree_word P ν μ b h.0 s g) h.1)
  bind_agree P ν μ b sort.Seq R s g step h = (h.0, step _ _ (agree_list P ν μ b h.0 s g) h.1)

  bound_agree : (M : Meaning) (bs : List Bind) (ts : List Term) (h : Memory) (P : Scope) (ν μ : Values) → Agree P ν μ → IsTrue (bound_in P bs ts)
      → ForSomeValues bs ν (λ u. AreTrueTerms codes labels M u ts h) → ForSomeValues bs μ (λ u. AreTrueTerms codes labels M u ts h)
  bound_agree M [] ts h P ν μ g is e = terms_agree P ν μ g M ts h is e
  bound_agree M (b ∷ bs) ts h P ν μ g is e =
      bind_agree P ν μ b b.sort (λ u. ForSomeValues bs u (λ v. AreTrueTerms codes labels M v ts h)) refl g
      (λ κ ι k. bound_agree M bs ts h (with_bind P b) κ ι k is) e

-- an assertion holds under any values that agree on its scope
pub holds_agree : (w : World) (P : Scope) (ν μ : Values) (A : Assertion) (h : Memory) → Agree P ν μ → IsTrue (assertion_in P A) → Holds w ν h A → Holds w μ h A
holds_agree w P ν μ A h g is e = (e.0, bound_agree w.codes w.labels (meaning w e.0) A.binders A.terms h P ν μ g is e.1)
