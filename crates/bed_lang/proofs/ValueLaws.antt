-- The value of each kind of term, and of a term after a substitution.
use Rattle.std.proofs.Common.{◌≡◌, ℕ, ◌+◌, ◌-◌, ◌*◌, refl, ap, sym, subst, ◌∙◌, Bool, true, false, if◌then◌else◌, List, [], ◌∷◌, ◌++◌, map, ◌<◌, arith, Result, Ok, Err, IfOk}
use Rattle.std.specs.declared.alloc.AllocError.{AllocError}
use Rattle.bed_lang.specs.declared.word.Name.{Name}
use Rattle.bed_lang.specs.declared.word.Var.{Var}
use Rattle.bed_lang.specs.declared.word.Var.TheVariants as var
use Rattle.bed_lang.specs.declared.word.Word.{Word, roll-Word, map-Word, Number, Var as Variable, Label, Add, Sub, Times, ind-Word, fold-roll-Word}
use Rattle.bed_lang.specs.declared.word.Word.TheOpen.{Word-F}
use Rattle.bed_lang.specs.declared.word.Word.TheVariants.{rolls-Number, rolls-Var, rolls-Label, rolls-Add, rolls-Sub, rolls-Times}
use Rattle.bed_lang.specs.declared.word.Seq.{Seq, Var as SeqVariable, Nil, Cons, App}
use Rattle.bed_lang.specs.declared.word.Seq.TheOpen.{Seq-F}
use Rattle.bed_lang.specs.declared.word.Seq.TheVariants.{rolls-Var as seq_rolls-Var, rolls-Nil, rolls-Cons, rolls-App}
use Rattle.bed_lang.specs.Same.{same_var}
use Rattle.bed_lang.specs.Numbers.{wrap}
use Rattle.bed_lang.specs.Values.{Values, variable, same_variable, set_word, value, value_step, list_value}
use Rattle.bed_lang.specs.Substitution.{replaced, replaced_step, HasValueWith}
use Rattle.bed_lang.proofs.RollLaws.{value_roll, list_roll}

module _ (labels : List ℕ → ℕ) (ν : Values) where
  pub value-Number : (n : ℕ) → value labels ν (Number n) ≡ wrap n
  value-Number n = ap (value labels ν) (sym (rolls-Number n)) ∙ value_roll labels ν (Word-F.Number n)

  pub value-Var : (x : Var) → value labels ν (Variable x) ≡ wrap (ν.words (variable x))
  value-Var x = ap (value labels ν) (sym (rolls-Var x)) ∙ value_roll labels ν (Word-F.Var x)

  pub value-Label : (f : Name) → value labels ν (Label f) ≡ wrap (labels f.bytes)
  value-Label f = ap (value labels ν) (sym (rolls-Label f)) ∙ value_roll labels ν (Word-F.Label f)

  pub value-Add : (a b : Word) → value labels ν (Add a b) ≡ wrap (value labels ν a + value labels ν b)
  value-Add a b = ap (value labels ν) (sym (rolls-Add a b)) ∙ value_roll labels ν (Word-F.Add a b)

  pub value-Sub : (a b : Word) → value labels ν (Sub a b) ≡ wrap (value labels ν a + (4294967296 - value labels ν b))
  value-Sub a b = ap (value labels ν) (sym (rolls-Sub a b)) ∙ value_roll labels ν (Word-F.Sub a b)

  pub value-Times : (n : ℕ) (a : Word) → value labels ν (Times n a) ≡ wrap (n * value labels ν a)
  value-Times n a = ap (value labels ν) (sym (rolls-Times n a)) ∙ value_roll labels ν (Word-F.Times n a)

  abbrev IsWord : Word → Type 0
  IsWord w = value labels ν w < 4294967296

  wrap_small : (n : ℕ) → wrap n < 4294967296
  wrap_small n = omega arith

  small_layer : (y : Word-F ℕ) → value_step labels ν y < 4294967296
  small_layer (Word-F.Number n) = wrap_small n
  small_layer (Word-F.Var x) = wrap_small (ν.words (variable x))
  small_layer (Word-F.Label f) = wrap_small (labels f.bytes)
  small_layer (Word-F.Add a b) = wrap_small (a + b)
  small_layer (Word-F.Sub a b) = wrap_small (a + (4294967296 - b))
  small_layer (Word-F.Times n a) = wrap_small (n * a)

  -- every value is a word
  pub value-small : (w : Word) → value labels ν w < 4294967296
  value-small = ind-Word IsWord (λ x y is. subst (λ n. n < 4294967296) (sym (value_roll labels ν x)) (small_layer (map-Word Word ℕ (value labels ν) x)))

  pub list_value-Var : (x : Var) → list_value labels ν (SeqVariable x) ≡ map wrap (ν.lists (variable x))
  list_value-Var x = ap (list_value labels ν) (sym (seq_rolls-Var x)) ∙ list_roll labels ν (Seq-F.Var x)

  pub list_value-Nil : list_value labels ν Nil ≡ []
  list_value-Nil = ap (list_value labels ν) (sym rolls-Nil) ∙ list_roll labels ν Seq-F.Nil

  pub list_value-Cons : (a : Word) (s : Seq) → list_value labels ν (Cons a s) ≡ value labels ν a ∷ list_value labels ν s
  list_value-Cons a s = ap (list_value labels ν) (sym (rolls-Cons a s)) ∙ list_roll labels ν (Seq-F.Cons a s)

  pub list_value-App : (s t : Seq) → list_value labels ν (App s t) ≡ list_value labels ν s ++ list_value labels ν t
  list_value-App s t = ap (list_value labels ν) (sym (rolls-App s t)) ∙ list_roll labels ν (Seq-F.App s t)

-- a test of two variables is a test of what they stand for
pub same_var_is : (u v : Var) → same_var u v ≡ same_variable (variable u) (variable v)
same_var_is (var.Named a) (var.Named b) = refl
same_var_is (var.Named a) (var.Old b) = refl
same_var_is (var.Named a) (var.Answer b) = refl
same_var_is (var.Named a) (var.Fresh b) = refl
same_var_is (var.Named a) var.Hole = refl
same_var_is (var.Old a) (var.Named b) = refl
same_var_is (var.Old a) (var.Old b) = refl
same_var_is (var.Old a) (var.Answer b) = refl
same_var_is (var.Old a) (var.Fresh b) = refl
same_var_is (var.Old a) var.Hole = refl
same_var_is (var.Answer a) (var.Named b) = refl
same_var_is (var.Answer a) (var.Old b) = refl
same_var_is (var.Answer a) (var.Answer b) = refl
same_var_is (var.Answer a) (var.Fresh b) = refl
same_var_is (var.Answer a) var.Hole = refl
same_var_is (var.Fresh a) (var.Named b) = refl
same_var_is (var.Fresh a) (var.Old b) = refl
same_var_is (var.Fresh a) (var.Answer b) = refl
same_var_is (var.Fresh a) (var.Fresh b) = refl
same_var_is (var.Fresh a) var.Hole = refl
same_var_is var.Hole (var.Named b) = refl
same_var_is var.Hole (var.Old b) = refl
same_var_is var.Hole (var.Answer b) = refl
same_var_is var.Hole (var.Fresh b) = refl
same_var_is var.Hole var.Hole = refl

module _ (labels : List ℕ → ℕ) (ν : Values) (v : Var) (by : Word) where
  abbrev changed : Values
  changed = set_word ν (variable v) (value labels ν by)

  abbrev Replaces : Word → Type 0
  Replaces w = value labels ν (replaced v by w) ≡ value labels changed w

  replaced_roll : (x : Word-F Word) → replaced v by (roll-Word x) ≡ replaced_step v by (map-Word Word Word (replaced v by) x)
  replaced_roll = fold-roll-Word Word (replaced_step v by)

  wrap_value : wrap (value labels ν by) ≡ value labels ν by
  wrap_value = let l = value-small labels ν by in omega (arith, l)

  at_var : (u : Var) (b : Bool) → value labels ν (if b then by else Variable u) ≡ wrap (if b then value labels ν by else ν.words (variable u))
  at_var u true = sym wrap_value
  at_var u false = value-Var labels ν u

  layer : (y : Word-F ((w : Word) × Replaces w)) → Replaces (roll-Word (map-Word _ _ (λ p. p.0) y))
  layer (Word-F.Number n) = rw (replaced_roll (Word-F.Number n), value_roll labels changed (Word-F.Number n)) (value-Number labels ν n)
  layer (Word-F.Label f) = rw (replaced_roll (Word-F.Label f), value_roll labels changed (Word-F.Label f)) (value-Label labels ν f)
  layer (Word-F.Var u) =
      rw (replaced_roll (Word-F.Var u), value_roll labels changed (Word-F.Var u), sym (same_var_is u v)) (at_var u (same_var u v))
  layer (Word-F.Add a b) =
      rw (replaced_roll (Word-F.Add a.0 b.0), value_roll labels changed (Word-F.Add a.0 b.0), value-Add labels ν (replaced v by a.0) (replaced v by b.0), a.1, b.1) refl
  layer (Word-F.Sub a b) =
      rw (replaced_roll (Word-F.Sub a.0 b.0), value_roll labels changed (Word-F.Sub a.0 b.0), value-Sub labels ν (replaced v by a.0) (replaced v by b.0), a.1, b.1) refl
  layer (Word-F.Times n a) =
      rw (replaced_roll (Word-F.Times n a.0), value_roll labels changed (Word-F.Times n a.0), value-Times labels ν n (replaced v by a.0), a.1) refl

  replaces : (w : Word) → Replaces w
  replaces = ind-Word Replaces (λ x y is. subst (λ (z : Word-F Word). Replaces (roll-Word z)) is (layer y))

-- the value of a word after a substitution
pub value-replaced : (v : Var) (by w r : Word) → r ≡ replaced v by w → HasValueWith v by w r
value-replaced v by w r e labels ν = ap (value labels ν) e ∙ replaces labels ν v by w

pub value-replaced_ok : (v : Var) (by w : Word) (r : Result Word AllocError) → IfOk r (λ x. x ≡ replaced v by w) → IfOk r (λ x. HasValueWith v by w x)
value-replaced_ok v by w (Ok x) h = value-replaced v by w x h
value-replaced_ok v by w (Err e) h = h
