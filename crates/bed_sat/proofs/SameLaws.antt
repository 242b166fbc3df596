-- The truth of an assertion depends on no place in a text, nor on declarations that it doesn't use.
use Rattle.std.proofs.Common.{◌≡◌, ◌≢◌, ◌↔◌, ℕ, zero, suc, ◌+◌, ◌-◌, ◌*◌, ◌<◌, ◌≤◌, ◌==◌, Bool, true, false, IsTrue, Option, Some, List, [], ◌∷◌, ◌++◌, map, slice_get, Contains, refl, sym, ◌∙◌, ap, ap₂, subst, subst₂}
use Rattle.std.specs.Cmp.{unsigned_Decides}
use Rattle.std.specs.Cmp.Lexicographic.{pointwise}
use Rattle.std.proofs.lemmas.Bool.{and_parts}
use Rattle.bed_machine.specs.Memory.{Memory}
use Rattle.bed_lang.specs.declared.word.Sort.{Sort}
use Rattle.bed_lang.specs.declared.word.Sort.TheVariants as sort
use Rattle.bed_lang.specs.declared.word.Var.{Var}
use Rattle.bed_lang.specs.declared.word.Var.TheVariants as var
use Rattle.bed_lang.specs.declared.word.Word.{Word, roll-Word, map-Word, ind-Word}
use Rattle.bed_lang.specs.declared.word.Word.TheOpen.{Word-F}
use Rattle.bed_lang.specs.declared.word.Seq.{Seq, roll-Seq, map-Seq, ind-Seq}
use Rattle.bed_lang.specs.declared.word.Seq.TheOpen.{Seq-F}
use Rattle.bed_lang.specs.declared.logic.Arg.{Arg}
use Rattle.bed_lang.specs.declared.logic.Arg.TheVariants as arg
use Rattle.bed_lang.specs.declared.logic.Pure.{Pure}
use Rattle.bed_lang.specs.declared.logic.Pure.TheVariants as pure
use Rattle.bed_lang.specs.declared.logic.Atom.{Atom}
use Rattle.bed_lang.specs.declared.logic.Atom.TheVariants as atom
use Rattle.bed_lang.specs.declared.logic.Term.{Term}
use Rattle.bed_lang.specs.declared.logic.Term.TheVariants as term
use Rattle.bed_lang.specs.declared.logic.Bind.{Bind}
use Rattle.bed_lang.specs.declared.logic.Assertion.{Assertion}
use Rattle.bed_lang.specs.declared.condition.Decls.{Decls}
use Rattle.bed_lang.specs.Same.{same_sort, same_name, same_var, same_word, same_word_layer, same_seq, same_seq_layer, same_arg, same_pure, same_atom, same_term, same_bind, same_assertion}
use Rattle.bed_lang.specs.Numbers.{wrap}
use Rattle.bed_lang.specs.Values.{Values, variable, Named, set_word, set_list, value, value_step, list_value, list_value_step}
use Rattle.bed_lang.specs.Values as values
use Rattle.bed_lang.proofs.RollLaws.{value_roll, list_roll, same_word-roll, same_seq-roll}
use Rattle.bed_sat.specs.Cells.{IsCell, IsByte, IsBlock}
use Rattle.bed_sat.specs.Facts.{IsTrueFact}
use Rattle.bed_sat.specs.Assertions.{ArgValue, WordValue, ListValue, Meaning, ForSomeValue, ForSomeValues, blank, set_params, arg_value, arg_values, IsTrueAtom, IsTrueTerm, AreTrueTerms, IsTrueWith, World, meaning, Holds}
use Rattle.bed_sat.specs.Declarations.{KeepsPredicates}
use Rattle.bed_sat.proofs.FrameLaws.{bytes_eq_is}
use Rattle.bed_sat.proofs.SatLaws.{Within, true_more}
use Rattle.bed_sat.proofs.InstanceLaws.{two}

no : {A : Type 0} → ◌≡◌ {A = Bool} false true → A
no e = absurd cc

variable_same : (x y : Var) → IsTrue (same_var x y) → variable x ≡ variable y
variable_same (var.Named a) (var.Named b) is = ap values.Named (bytes_eq_is a.bytes b.bytes is)
variable_same (var.Old a) (var.Old b) is = ap values.Old (bytes_eq_is a.bytes b.bytes is)
variable_same (var.Answer a) (var.Answer b) is = refl
variable_same (var.Fresh a) (var.Fresh b) is = ap values.Fresh ((unsigned_Decides a b).0 is)
variable_same var.Hole var.Hole is = refl
variable_same (var.Named a) _ is = no is
variable_same (var.Old a) _ is = no is
variable_same (var.Answer a) _ is = no is
variable_same (var.Fresh a) _ is = no is
variable_same var.Hole _ is = no is

sort_same : (s t : Sort) → IsTrue (same_sort s t) → s ≡ t
sort_same sort.Word sort.Word is = refl
sort_same sort.Seq sort.Seq is = refl
sort_same sort.Word sort.Seq is = no is
sort_same sort.Seq sort.Word is = no is

module _ (codes : ℕ → Option (List ℕ)) (labels : List ℕ → ℕ) where
  module _ (ν : Values) where
    abbrev SameValue : Word → Type 0
    SameValue a = (b : Word) → IsTrue (same_word a b) → value labels ν a ≡ value labels ν b

    word_layers : (y : Word-F ((a : Word) × SameValue a)) (z : Word-F Word) → IsTrue (same_word_layer (map-Word Word (Word → Bool) same_word (map-Word _ _ (λ p. p.0) y)) z)
        → value_step labels ν (map-Word Word ℕ (value labels ν) (map-Word _ _ (λ p. p.0) y)) ≡ value_step labels ν (map-Word Word ℕ (value labels ν) z)
    word_layers (Word-F.Number n) (Word-F.Number m) is = ap wrap ((unsigned_Decides n m).0 is)
    word_layers (Word-F.Var x) (Word-F.Var u) is = ap (λ q. wrap (ν.words q)) (variable_same x u is)
    word_layers (Word-F.Label f) (Word-F.Label g) is = ap (λ q. wrap (labels q)) (bytes_eq_is f.bytes g.bytes is)
    word_layers (Word-F.Add a b) (Word-F.Add c d) is =
        let h = and_parts (same_word a.0 c) (same_word b.0 d) is in ap₂ (λ m n. wrap (m + n)) (a.1 c h.0) (b.1 d h.1)
    word_layers (Word-F.Sub a b) (Word-F.Sub c d) is =
        let h = and_parts (same_word a.0 c) (same_word b.0 d) is in ap₂ (λ m n. wrap (m + (4294967296 - n))) (a.1 c h.0) (b.1 d h.1)
    word_layers (Word-F.Times n a) (Word-F.Times m c) is =
        let h = and_parts (n == m) (same_word a.0 c) is in ap₂ (λ k x. wrap (k * x)) ((unsigned_Decides n m).0 h.0) (a.1 c h.1)
    word_layers (Word-F.Number n) _ is = no is
    word_layers (Word-F.Var x) _ is = no is
    word_layers (Word-F.Label f) _ is = no is
    word_layers (Word-F.Add a b) _ is = no is
    word_layers (Word-F.Sub a b) _ is = no is
    word_layers (Word-F.Times n a) _ is = no is

    abbrev Agrees : Word → Word → Type 0
    Agrees a b = IsTrue (same_word a b) → value labels ν a ≡ value labels ν b

    word_step : (y : Word-F ((a : Word) × SameValue a)) (b : Word) → Agrees (roll-Word (map-Word _ _ (λ p. p.0) y)) b
    word_step y = ind-Word (Agrees (roll-Word (map-Word _ _ (λ p. p.0) y))) (λ z pairs e. λ is.
        value_roll labels ν (map-Word _ _ (λ p. p.0) y) ∙ word_layers y z (sym (same_word-roll (map-Word _ _ (λ p. p.0) y) z) ∙ is) ∙ sym (value_roll labels ν z))

    pub word_same : (a b : Word) → IsTrue (same_word a b) → value labels ν a ≡ value labels ν b
    word_same = ind-Word SameValue (λ x y is. subst (λ (z : Word-F Word). SameValue (roll-Word z)) is (word_step y))

    abbrev SameList : Seq → Type 0
    SameList s = (t : Seq) → IsTrue (same_seq s t) → list_value labels ν s ≡ list_value labels ν t

    seq_layers : (y : Seq-F ((s : Seq) × SameList s)) (z : Seq-F Seq) → IsTrue (same_seq_layer (map-Seq Seq (Seq → Bool) same_seq (map-Seq _ _ (λ p. p.0) y)) z)
        → list_value_step labels ν (map-Seq Seq (List ℕ) (list_value labels ν) (map-Seq _ _ (λ p. p.0) y)) ≡ list_value_step labels ν (map-Seq Seq (List ℕ) (list_value labels ν) z)
    seq_layers (Seq-F.Var x) (Seq-F.Var u) is = ap (λ q. map wrap (ν.lists q)) (variable_same x u is)
    seq_layers Seq-F.Nil Seq-F.Nil is = refl
    seq_layers (Seq-F.Cons a s) (Seq-F.Cons b t) is =
        let h = and_parts (same_word a b) (same_seq s.0 t) is in ap₂ (λ v vs. v ∷ vs) (word_same a b h.0) (s.1 t h.1)
    seq_layers (Seq-F.App r s) (Seq-F.App t u) is =
        let h = and_parts (same_seq r.0 t) (same_seq s.0 u) is in ap₂ (λ v w. v ++ w) (r.1 t h.0) (s.1 u h.1)
    seq_layers (Seq-F.Var x) _ is = no is
    seq_layers Seq-F.Nil _ is = no is
    seq_layers (Seq-F.Cons a s) _ is = no is
    seq_layers (Seq-F.App r s) _ is = no is

    abbrev ListsAgree : Seq → Seq → Type 0
    ListsAgree s t = IsTrue (same_seq s t) → list_value labels ν s ≡ list_value labels ν t

    seq_step : (y : Seq-F ((s : Seq) × SameList s)) (t : Seq) → ListsAgree (roll-Seq (map-Seq _ _ (λ p. p.0) y)) t
    seq_step y = ind-Seq (ListsAgree (roll-Seq (map-Seq _ _ (λ p. p.0) y))) (λ z pairs e. λ is.
        list_roll labels ν (map-Seq _ _ (λ p. p.0) y) ∙ seq_layers y z (sym (same_seq-roll (map-Seq _ _ (λ p. p.0) y) z) ∙ is) ∙ sym (list_roll labels ν z))

    pub seq_same : (s t : Seq) → IsTrue (same_seq s t) → list_value labels ν s ≡ list_value labels ν t
    seq_same = ind-Seq SameList (λ x y is. subst (λ (z : Seq-F Seq). SameList (roll-Seq z)) is (seq_step y))

    arg_same : (a b : Arg) → IsTrue (same_arg a b) → arg_value codes labels ν a ≡ arg_value codes labels ν b
    arg_same (arg.Word p a) (arg.Word q b) is = ap WordValue (word_same a b is)
    arg_same (arg.Seq p s) (arg.Seq q t) is = ap ListValue (seq_same s t is)
    arg_same (arg.Bare x) (arg.Bare y) is = refl
    arg_same (arg.Word p a) _ is = no is
    arg_same (arg.Seq p s) _ is = no is
    arg_same (arg.Bare x) _ is = no is

    args_same : (xs ys : List Arg) → IsTrue (pointwise same_arg xs ys) → arg_values codes labels ν xs ≡ arg_values codes labels ν ys
    args_same [] [] is = refl
    args_same (x ∷ xs) (y ∷ ys) is = let h = and_parts (same_arg x y) _ is in ap₂ (λ v vs. v ∷ vs) (arg_same x y h.0) (args_same xs ys h.1)
    args_same [] (y ∷ ys) is = no is
    args_same (x ∷ xs) [] is = no is

    fact_same : (φ ψ : Pure) → IsTrue (same_pure φ ψ) → IsTrueFact codes labels ν φ ↔ IsTrueFact codes labels ν ψ
    fact_same (pure.Equal a b) (pure.Equal c d) is = let h = and_parts (same_word a c) _ is in two (λ m n. m ≡ n) (word_same a c h.0) (word_same b d h.1)
    fact_same (pure.Unequal a b) (pure.Unequal c d) is = let h = and_parts (same_word a c) _ is in two (λ m n. m ≢ n) (word_same a c h.0) (word_same b d h.1)
    fact_same (pure.Less a b) (pure.Less c d) is = let h = and_parts (same_word a c) _ is in two (λ m n. m < n) (word_same a c h.0) (word_same b d h.1)
    fact_same (pure.AtMost a b) (pure.AtMost c d) is = let h = and_parts (same_word a c) _ is in two (λ m n. m ≤ n) (word_same a c h.0) (word_same b d h.1)
    fact_same (pure.Same r s) (pure.Same u v) is = let h = and_parts (same_seq r u) _ is in two (λ m n. m ≡ n) (seq_same r u h.0) (seq_same s v h.1)
    fact_same (pure.Member a s) (pure.Member b u) is = let h = and_parts (same_word a b) _ is in two (λ m n. Contains n m) (word_same a b h.0) (seq_same s u h.1)
    fact_same (pure.NonMember a s) (pure.NonMember b u) is = let h = and_parts (same_word a b) _ is in two (λ m n. Contains n m → ⊥) (word_same a b h.0) (seq_same s u h.1)
    fact_same (pure.Code a x) (pure.Code b y) is = let h = and_parts (same_word a b) _ is in two (λ m n. codes m ≡ Some n) (word_same a b h.0) (bytes_eq_is x.bytes y.bytes h.1)
    fact_same (pure.Equal a b) _ is = no is
    fact_same (pure.Unequal a b) _ is = no is
    fact_same (pure.Less a b) _ is = no is
    fact_same (pure.AtMost a b) _ is = no is
    fact_same (pure.Same r s) _ is = no is
    fact_same (pure.Member a s) _ is = no is
    fact_same (pure.NonMember a s) _ is = no is
    fact_same (pure.Code a x) _ is = no is

    atom_same : (M : Meaning) (a b : Atom) (h : Memory) → IsTrue (same_atom a b) → IsTrueAtom codes labels M ν a h ↔ IsTrueAtom codes labels M ν b h
    atom_same M (atom.Cell a b) (atom.Cell c d) m is = let h = and_parts (same_word a c) _ is in two (λ x y. IsCell x y m) (word_same a c h.0) (word_same b d h.1)
    atom_same M (atom.Byte a b) (atom.Byte c d) m is = let h = and_parts (same_word a c) _ is in two (λ x y. IsByte x y m) (word_same a c h.0) (word_same b d h.1)
    atom_same M (atom.Block a b) (atom.Block c d) m is = let h = and_parts (same_word a c) _ is in two (λ x y. IsBlock x y m) (word_same a c h.0) (word_same b d h.1)
    atom_same M (atom.Pred x xs) (atom.Pred y ys) m is = let h = and_parts (same_name x y) _ is in two (λ n vs. M n vs m) (bytes_eq_is x.bytes y.bytes h.0) (args_same xs ys h.1)
    atom_same M (atom.Cell a b) _ m is = no is
    atom_same M (atom.Byte a b) _ m is = no is
    atom_same M (atom.Block a b) _ m is = no is
    atom_same M (atom.Pred x xs) _ m is = no is

    term_same : (M : Meaning) (a b : Term) (h : Memory) → IsTrue (same_term a b) → IsTrueTerm codes labels M ν a h ↔ IsTrueTerm codes labels M ν b h
    term_same M term.Emp term.Emp m is = (λ t. t, λ t. t)
    term_same M (term.Pure φ) (term.Pure ψ) m is = let f = fact_same φ ψ is in (λ t. (t.0, f.0 t.1), λ t. (t.0, f.1 t.1))
    term_same M (term.Atom a) (term.Atom b) m is = atom_same M a b m is
    term_same M term.Emp _ m is = no is
    term_same M (term.Pure φ) _ m is = no is
    term_same M (term.Atom a) _ m is = no is

    terms_same : (M : Meaning) (ts us : List Term) (h : Memory) → IsTrue (pointwise same_term ts us) → AreTrueTerms codes labels M ν ts h ↔ AreTrueTerms codes labels M ν us h
    terms_same M [] [] m is = (λ t. t, λ t. t)
    terms_same M (x ∷ ts) (y ∷ us) m is =
        let h = and_parts (same_term x y) _ is in (
          λ t. (t.0, t.1, t.2, (term_same M x y t.0 h.0).0 t.3, (terms_same M ts us t.1 h.1).0 t.4),
          λ t. (t.0, t.1, t.2, (term_same M x y t.0 h.0).1 t.3, (terms_same M ts us t.1 h.1).1 t.4),
        )
    terms_same M [] (y ∷ us) m is = no is
    terms_same M (x ∷ ts) [] m is = no is

  some_value_same : (s : Sort) (x : List ℕ) (ν : Values) (P Q : Values → Type 0) → ((μ : Values) → P μ ↔ Q μ) → ForSomeValue s x ν P ↔ ForSomeValue s x ν Q
  some_value_same sort.Word x ν P Q f = (λ h. (h.0, (f _).0 h.1), λ h. (h.0, (f _).1 h.1))
  some_value_same sort.Seq x ν P Q f = (λ h. (h.0, (f _).0 h.1), λ h. (h.0, (f _).1 h.1))

  bound_same : (M : Meaning) (bs cs : List Bind) (ts us : List Term) (h : Memory) (ν : Values) → IsTrue (pointwise same_bind bs cs) → IsTrue (pointwise same_term ts us)
      → ForSomeValues bs ν (λ μ. AreTrueTerms codes labels M μ ts h) ↔ ForSomeValues cs ν (λ μ. AreTrueTerms codes labels M μ us h)
  bound_same M [] [] ts us h ν bi is = terms_same ν M ts us h is
  bound_same M (b ∷ bs) (c ∷ cs) ts us h ν bi is =
      let g = and_parts (same_bind b c) _ bi in
      let k = and_parts (same_name b.name c.name) _ g.0 in
      subst₂ (λ s x. ForSomeValue b.sort b.name.bytes ν (λ μ. ForSomeValues bs μ (λ κ. AreTrueTerms codes labels M κ ts h)) ↔ ForSomeValue s x ν (λ μ. ForSomeValues cs μ (λ κ. AreTrueTerms codes labels M κ us h)))
      (sort_same b.sort c.sort k.1) (bytes_eq_is b.name.bytes c.name.bytes k.0)
      (some_value_same b.sort b.name.bytes ν _ _ (λ μ. bound_same M bs cs ts us h μ g.1 is))
  bound_same M [] (c ∷ cs) ts us h ν bi is = no bi
  bound_same M (b ∷ bs) [] ts us h ν bi is = no bi

  -- the same assertion, places aside, is true of the same memories
  pub true_same : (M : Meaning) (ν : Values) (A B : Assertion) (h : Memory) → IsTrue (same_assertion A B) → IsTrueWith codes labels M ν A h ↔ IsTrueWith codes labels M ν B h
  true_same M ν A B h is =
      let g = and_parts (pointwise same_bind A.binders B.binders) _ is in
      bound_same M A.binders B.binders A.terms B.terms h ν g.0 g.1

pub holds_same : (w : World) (ν : Values) (A B : Assertion) (h : Memory) → IsTrue (same_assertion A B) → Holds w ν h A → Holds w ν h B
holds_same w ν A B h is t = (t.0, (true_same w.codes w.labels (meaning w t.0) ν A B h is).0 t.1)

-- parameters of the same names are set alike
pub params_same : (ν : Values) (bs cs : List Bind) (vs : List ArgValue) → IsTrue (pointwise same_bind bs cs) → set_params ν bs vs ≡ set_params ν cs vs
params_same ν [] [] vs is = refl
params_same ν (b ∷ bs) (c ∷ cs) [] is = refl
params_same ν (b ∷ bs) (c ∷ cs) (WordValue v ∷ vs) is =
    let g = and_parts (same_bind b c) _ is in
    let k = and_parts (same_name b.name c.name) _ g.0 in
    params_same (set_word ν (Named b.name.bytes) v) bs cs vs g.1 ∙ ap (λ x. set_params (set_word ν (Named x) v) cs vs) (bytes_eq_is b.name.bytes c.name.bytes k.0)
params_same ν (b ∷ bs) (c ∷ cs) (ListValue v ∷ vs) is =
    let g = and_parts (same_bind b c) _ is in
    let k = and_parts (same_name b.name c.name) _ g.0 in
    params_same (set_list ν (Named b.name.bytes) v) bs cs vs g.1 ∙ ap (λ x. set_params (set_list ν (Named x) v) cs vs) (bytes_eq_is b.name.bytes c.name.bytes k.0)
params_same ν [] (c ∷ cs) vs is = no is
params_same ν (b ∷ bs) [] vs is = no is

-- the case at a place is the same as the other's
pub case_same : (As Bs : List Assertion) (n : ℕ) (A : Assertion) → IsTrue (pointwise same_assertion As Bs) → slice_get As n ≡ Some A → (B : Assertion) × (slice_get Bs n ≡ Some B) × IsTrue (same_assertion A B)
case_same [] Bs n A is at = absurd cc
case_same (C ∷ As) [] n A is at = no is
case_same (C ∷ As) (D ∷ Bs) zero A is at =
    let g = and_parts (same_assertion C D) _ is in
    let same : C ≡ A = cc in
    (D, refl, subst (λ x. IsTrue (same_assertion x D)) same g.0)
case_same (C ∷ As) (D ∷ Bs) (suc n) A is at = case_same As Bs n A (and_parts (same_assertion C D) _ is).1 at

module _ (few more : Decls) (x : KeepsPredicates few more) (codes : ℕ → Option (List ℕ)) (labels : List ℕ → ℕ) where
  abbrev one : World
  one = record { decls = few; codes = codes; labels = labels }

  abbrev all : World
  all = record { decls = more; codes = codes; labels = labels }

  meaning_extends : (k : ℕ) → Within (meaning one k) (meaning all k)
  meaning_extends zero p vs h is = absurd is
  meaning_extends (suc k) p vs h is =
      let e = x.keeps p is.0 is.1 in
      let g = and_parts (same_name is.0.name e.0.name) _ e.2 in
      let q = and_parts (pointwise same_bind is.0.params e.0.params) _ g.1 in
      let c = case_same is.0.cases e.0.cases is.2 is.3 q.1 is.4 in (
        e.0,
        e.1,
        is.2,
        c.0,
        c.1,
        subst (λ μ. IsTrueWith codes labels (meaning all k) μ c.0 h) (params_same blank is.0.params e.0.params vs q.0)
            ((true_same codes labels (meaning all k) (set_params blank is.0.params vs) is.3 c.0 h c.2).0
            (true_more codes labels _ _ (meaning_extends k) _ is.3 h is.5)),
      )

  -- what holds under some declarations holds under more
  pub holds_extends : (ν : Values) (h : Memory) (A : Assertion) → Holds one ν h A → Holds all ν h A
  holds_extends ν h A is = (is.0, true_more codes labels _ _ (meaning_extends is.0) ν A h is.1)
