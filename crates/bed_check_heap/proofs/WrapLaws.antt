-- Values that are the same modulo 2^32 make the same trees true.
use Rattle.std.proofs.Common.{◌≡◌, ◌≢◌, ℕ, ◌<◌, ◌≤◌, Bool, true, false, if◌then◌else◌, Option, Some, List, [], ◌∷◌, map, Contains, refl, ap, ap₂, subst, subst₂}
use Rattle.bed_machine.specs.Memory.{Memory}
use Rattle.bed_lang.specs.declared.word.Word.{Word, fold-Word}
use Rattle.bed_lang.specs.declared.word.Word.TheOpen.{Word-F}
use Rattle.bed_lang.specs.declared.word.Seq.{Seq, fold-Seq}
use Rattle.bed_lang.specs.declared.word.Seq.TheOpen.{Seq-F}
use Rattle.bed_lang.specs.declared.logic.Arg.{Arg}
use Rattle.bed_lang.specs.declared.logic.Arg.TheVariants as arg
use Rattle.bed_lang.specs.declared.logic.Pure.{Pure}
use Rattle.bed_lang.specs.declared.logic.Pure.TheVariants as pure
use Rattle.bed_lang.specs.declared.logic.Atom.{Atom}
use Rattle.bed_lang.specs.declared.logic.Atom.TheVariants as atom
use Rattle.bed_lang.specs.declared.logic.Term.{Term}
use Rattle.bed_lang.specs.declared.logic.Term.TheVariants as term
use Rattle.bed_lang.specs.Numbers.{wrap}
use Rattle.bed_lang.specs.Values.{Values, Variable, variable, same_variable, set_word, set_list, value, value_step, list_value, list_value_step}
use Rattle.bed_sat.specs.Cells.{IsCell, IsByte, IsBlock}
use Rattle.bed_sat.specs.Facts.{IsTrueFact}
use Rattle.bed_sat.specs.Assertions.{WordValue, ListValue, Meaning, arg_value, arg_values, IsTrueAtom, IsTrueTerm, AreTrueTerms}

-- the same words and lists modulo 2^32
pub record AgreeModulo (ν μ : Values) : Type 0 where
  pub words : (x : Variable) → wrap (ν.words x) ≡ wrap (μ.words x)
  pub lists : (x : Variable) → map wrap (ν.lists x) ≡ map wrap (μ.lists x)

pub agree_modulo_self : (ν : Values) → AgreeModulo ν ν
agree_modulo_self ν = record { words = λ x. refl; lists = λ x. refl }

pub if_wrapped : {A B : Type 0} (f : A → B) (b : Bool) (v u m n : A) → f v ≡ f u → f m ≡ f n → f (if b then v else m) ≡ f (if b then u else n)
if_wrapped f true v u m n e g = e
if_wrapped f false v u m n e g = g

-- and after one more is set
pub agree_modulo_word : (ν μ : Values) (x : Variable) (v u : ℕ) → wrap v ≡ wrap u → AgreeModulo ν μ → AgreeModulo (set_word ν x v) (set_word μ x u)
agree_modulo_word ν μ x v u e g = record { words = λ y. if_wrapped wrap (same_variable y x) v u (ν.words y) (μ.words y) e (g.words y); lists = g.lists }

pub agree_modulo_list : (ν μ : Values) (x : Variable) (vs us : List ℕ) → map wrap vs ≡ map wrap us → AgreeModulo ν μ → AgreeModulo (set_list ν x vs) (set_list μ x us)
agree_modulo_list ν μ x vs us e g = record { words = g.words; lists = λ y. if_wrapped (map wrap) (same_variable y x) vs us (ν.lists y) (μ.lists y) e (g.lists y) }

module _ (codes : ℕ → Option (List ℕ)) (labels : List ℕ → ℕ) (ν μ : Values) (g : AgreeModulo ν μ) where
  word_steps : (y : Word-F ℕ) → value_step labels ν y ≡ value_step labels μ y
  word_steps (Word-F.Number n) = refl
  word_steps (Word-F.Var x) = g.words (variable x)
  word_steps (Word-F.Label f) = refl
  word_steps (Word-F.Add a b) = refl
  word_steps (Word-F.Sub a b) = refl
  word_steps (Word-F.Times n a) = refl

  word_modulo : (a : Word) → value labels ν a ≡ value labels μ a
  word_modulo a i = fold-Word ℕ (λ y. word_steps y i) a

  seq_steps : (y : Seq-F (List ℕ)) → list_value_step labels ν y ≡ list_value_step labels μ y
  seq_steps (Seq-F.Var x) = g.lists (variable x)
  seq_steps Seq-F.Nil = refl
  seq_steps (Seq-F.Cons a s) = ap (λ v. v ∷ s) (word_modulo a)
  seq_steps (Seq-F.App s t) = refl

  seq_modulo : (s : Seq) → list_value labels ν s ≡ list_value labels μ s
  seq_modulo s i = fold-Seq (List ℕ) (λ y. seq_steps y i) s

  arg_modulo : (a : Arg) → arg_value codes labels ν a ≡ arg_value codes labels μ a
  arg_modulo (arg.Word at a) = ap WordValue (word_modulo a)
  arg_modulo (arg.Seq at s) = ap ListValue (seq_modulo s)
  arg_modulo (arg.Bare name) = refl

  args_modulo : (more : List Arg) → arg_values codes labels ν more ≡ arg_values codes labels μ more
  args_modulo [] = refl
  args_modulo (a ∷ more) = ap₂ (λ v vs. v ∷ vs) (arg_modulo a) (args_modulo more)

  fact_modulo : (φ : Pure) → IsTrueFact codes labels ν φ → IsTrueFact codes labels μ φ
  fact_modulo (pure.Equal a b) = subst₂ (λ m n. m ≡ n) (word_modulo a) (word_modulo b)
  fact_modulo (pure.Unequal a b) = subst₂ (λ m n. m ≢ n) (word_modulo a) (word_modulo b)
  fact_modulo (pure.Less a b) = subst₂ (λ m n. m < n) (word_modulo a) (word_modulo b)
  fact_modulo (pure.AtMost a b) = subst₂ (λ m n. m ≤ n) (word_modulo a) (word_modulo b)
  fact_modulo (pure.Same s t) = subst₂ (λ m n. m ≡ n) (seq_modulo s) (seq_modulo t)
  fact_modulo (pure.Member a s) = subst₂ (λ m n. Contains n m) (word_modulo a) (seq_modulo s)
  fact_modulo (pure.NonMember a s) = subst₂ (λ m n. Contains n m → ⊥) (word_modulo a) (seq_modulo s)
  fact_modulo (pure.Code a name) = subst (λ m. codes m ≡ Some name.bytes) (word_modulo a)

  atom_modulo : (P : Meaning) (x : Atom) (h : Memory) → IsTrueAtom codes labels P ν x h → IsTrueAtom codes labels P μ x h
  atom_modulo P (atom.Cell a v) h = subst₂ (λ m n. IsCell m n h) (word_modulo a) (word_modulo v)
  atom_modulo P (atom.Byte a v) h = subst₂ (λ m n. IsByte m n h) (word_modulo a) (word_modulo v)
  atom_modulo P (atom.Block a n) h = subst₂ (λ m k. IsBlock m k h) (word_modulo a) (word_modulo n)
  atom_modulo P (atom.Pred name args) h = subst (λ vs. P name.bytes vs h) (args_modulo args)

  term_modulo : (P : Meaning) (t : Term) (h : Memory) → IsTrueTerm codes labels P ν t h → IsTrueTerm codes labels P μ t h
  term_modulo P term.Emp h is = is
  term_modulo P (term.Pure φ) h is = (is.0, fact_modulo φ is.1)
  term_modulo P (term.Atom x) h is = atom_modulo P x h is

  -- terms are true under both
  pub terms_modulo : (P : Meaning) (ts : List Term) (h : Memory) → AreTrueTerms codes labels P ν ts h → AreTrueTerms codes labels P μ ts h
  terms_modulo P [] h is = is
  terms_modulo P (t ∷ ts) h is = (is.0, is.1, is.2, term_modulo P t is.0 is.3, terms_modulo P ts is.1 is.4)
