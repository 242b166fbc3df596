-- Values that are the same but for fresh variables, modulo 2^32: what holds no fresh variable is true under both.
use Rattle.std.proofs.Common.{◌≡◌, ℕ, ◌<◌, Bool, true, false, IsTrue, if◌then◌else◌, List, [], ◌∷◌, map, refl, sym, ◌∙◌, ap, arith}
use Rattle.std.proofs.lemmas.Bool.{and_parts}
use Rattle.bed_machine.specs.Memory.{Memory}
use Rattle.bed_lang.specs.declared.word.Name.{Name}
use Rattle.bed_lang.specs.declared.logic.Arg.{Arg}
use Rattle.bed_lang.specs.declared.logic.Arg.TheVariants as arg
use Rattle.bed_lang.specs.declared.logic.Term.{Term}
use Rattle.bed_lang.specs.declared.logic.Term.TheVariants as term
use Rattle.bed_lang.specs.Numbers.{wrap}
use Rattle.bed_lang.specs.Values.{Values, Variable, Named, Old, Answer, Fresh, Hole, same_variable, set_word, set_list, value, list_value}
use Rattle.bed_sat.specs.Assertions.{Meaning, IsTrueTerm, AreTrueTerms, World}
use Rattle.bed_deriv.specs.Fresh.{every, known_term}
use Rattle.bed_check_heap.specs.Sound.{AgreeBelow}
use Rattle.bed_check_heap.proofs.FreshLaws.{fact_known, atom_known}
use Rattle.bed_check_heap.proofs.WrapLaws.{AgreeModulo, terms_modulo, if_wrapped}
use Rattle.bed_check_heap.proofs.OpenLaws.{set_arg, set_args}
use Rattle.bed_check_cond.specs.Paths.{is_fresh}

-- ---- terms whose fresh variables are known

module _ (w : World) (next : ℕ) (ν μ : Values) (g : AgreeBelow next ν μ) (P : Meaning) where
  term_known : (t : Term) (h : Memory) → IsTrue (known_term next t) → IsTrueTerm w.codes w.labels P ν t h → IsTrueTerm w.codes w.labels P μ t h
  term_known term.Emp h is t = t
  term_known (term.Pure p) h is t = (t.0, fact_known w next ν μ g p is t.1)
  term_known (term.Atom a) h is t = atom_known w next ν μ g P a h is t

  pub terms_known : (ts : List Term) (h : Memory) → IsTrue (every (known_term next) ts) → AreTrueTerms w.codes w.labels P ν ts h → AreTrueTerms w.codes w.labels P μ ts h
  terms_known [] h is t = t
  terms_known (x ∷ ts) h is t =
      let q = and_parts (known_term next x) (every (known_term next) ts) is in
      (t.0, t.1, t.2, term_known x t.0 q.0 t.3, terms_known ts t.1 q.1 t.4)

-- ---- the same but for fresh variables

pub record SameButFresh (ν μ : Values) : Type 0 where
  pub words : (x : Variable) → is_fresh x ≡ false → wrap (ν.words x) ≡ wrap (μ.words x)
  pub lists : (x : Variable) → is_fresh x ≡ false → map wrap (ν.lists x) ≡ map wrap (μ.lists x)

pub same_self : (ν : Values) → SameButFresh ν ν
same_self ν = record { words = λ x f. refl; lists = λ x f. refl }

pub same_turned : (ν μ : Values) → SameButFresh ν μ → SameButFresh μ ν
same_turned ν μ s = record { words = λ x f. sym (s.words x f); lists = λ x f. sym (s.lists x f) }

pub same_then : (ν κ μ : Values) → SameButFresh ν κ → SameButFresh κ μ → SameButFresh ν μ
same_then ν κ μ s t = record { words = λ x f. s.words x f ∙ t.words x f; lists = λ x f. s.lists x f ∙ t.lists x f }

not_below_0 : (x : Variable) → ((n : ℕ) → x ≡ Fresh n → n < 0) → is_fresh x ≡ false
not_below_0 (Named y) k = refl
not_below_0 (Old y) k = refl
not_below_0 Answer k = refl
not_below_0 (Fresh n) k = let z : n < 0 = k n refl in absurd (omega arith)
not_below_0 Hole k = refl

-- a variable that isn't fresh is no fresh one
pub no_fresh : {A : Type 0} (x : Variable) (n : ℕ) → is_fresh x ≡ false → x ≡ Fresh n → A
no_fresh x n f e = let no : true ≡ false = sym (ap is_fresh e) ∙ f in absurd cc

-- values that agree on all variables but those that are fresh
pub agree_but_fresh : (next : ℕ) (ν μ : Values) → AgreeBelow next ν μ → SameButFresh ν μ
agree_but_fresh next ν μ g = record {
  words = λ x f. ap wrap (sym (g.words x (λ n e. no_fresh x n f e)));
  lists = λ x f. ap (map wrap) (sym (g.lists x (λ n e. no_fresh x n f e)));
}

either_word : (ν μ : Values) (x : Variable) (b : Bool) → is_fresh x ≡ b → (is_fresh x ≡ false → wrap (ν.words x) ≡ wrap (μ.words x))
    → wrap (if b then μ.words x else ν.words x) ≡ wrap (μ.words x)
either_word ν μ x true f same = refl
either_word ν μ x false f same = same f

either_list : (ν μ : Values) (x : Variable) (b : Bool) → is_fresh x ≡ b → (is_fresh x ≡ false → map wrap (ν.lists x) ≡ map wrap (μ.lists x))
    → map wrap (if b then μ.lists x else ν.lists x) ≡ map wrap (μ.lists x)
either_list ν μ x true f same = refl
either_list ν μ x false f same = same f

-- terms without a fresh variable are true under both
pub terms_same : (w : World) (P : Meaning) (ν μ : Values) (ts : List Term) (h : Memory) → SameButFresh ν μ → IsTrue (every (known_term 0) ts)
    → AreTrueTerms w.codes w.labels P ν ts h → AreTrueTerms w.codes w.labels P μ ts h
terms_same w P ν μ ts h same unfresh are = terms_modulo w.codes w.labels κ μ modulo P ts h (terms_known w 0 ν κ below P ts h unfresh are)
  where
    κ : Values
    κ = record { words = λ x. if is_fresh x then μ.words x else ν.words x; lists = λ x. if is_fresh x then μ.lists x else ν.lists x }

    below : AgreeBelow 0 ν κ
    below = record {
      words = λ x k. ap (λ (b : Bool). if b then μ.words x else ν.words x) (not_below_0 x k);
      lists = λ x k. ap (λ (b : Bool). if b then μ.lists x else ν.lists x) (not_below_0 x k);
    }

    modulo : AgreeModulo κ μ
    modulo = record { words = λ x. either_word ν μ x (is_fresh x) refl (same.words x); lists = λ x. either_list ν μ x (is_fresh x) refl (same.lists x) }

-- ---- and stay so where the same is set

pub same_word : (ν μ : Values) (x : Variable) (v u : ℕ) → wrap v ≡ wrap u → SameButFresh ν μ → SameButFresh (set_word ν x v) (set_word μ x u)
same_word ν μ x v u e s = record {
  words = λ y f. if_wrapped wrap (same_variable y x) v u (ν.words y) (μ.words y) e (s.words y f);
  lists = s.lists;
}

pub same_list : (ν μ : Values) (x : Variable) (vs us : List ℕ) → map wrap vs ≡ map wrap us → SameButFresh ν μ → SameButFresh (set_list ν x vs) (set_list μ x us)
same_list ν μ x vs us e s = record {
  words = s.words;
  lists = λ y f. if_wrapped (map wrap) (same_variable y x) vs us (ν.lists y) (μ.lists y) e (s.lists y f);
}

module _ (labels : List ℕ → ℕ) (ν : Values) where
  pub same_arg : (κ μ : Values) (x : Name) (a : Arg) → SameButFresh κ μ → SameButFresh (set_arg labels ν κ x a) (set_arg labels ν μ x a)
  same_arg κ μ x (arg.Word at w) s = same_word κ μ (Named x.bytes) (value labels ν w) (value labels ν w) refl s
  same_arg κ μ x (arg.Seq at t) s = same_list κ μ (Named x.bytes) (list_value labels ν t) (list_value labels ν t) refl s
  same_arg κ μ x (arg.Bare name) s = same_word κ μ (Named x.bytes) 0 0 refl s

  pub same_args : (κ μ : Values) (vs : List (Name × Arg)) → SameButFresh κ μ → SameButFresh (set_args labels ν κ vs) (set_args labels ν μ vs)
  same_args κ μ [] s = s
  same_args κ μ (v ∷ vs) s = same_args (set_arg labels ν κ v.0 v.1) (set_arg labels ν μ v.0 v.1) vs (same_arg κ μ v.0 v.1 s)
