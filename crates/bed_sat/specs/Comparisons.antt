-- Comparisons of words over numbers and named values.
use Rattle.std.specs.Prelude.{◌≡◌, ℕ, ◌+◌, ◌-◌, ◌*◌, Bool, true, false, ◌&&◌, Option, Some, None, is_some, List, [], ◌∷◌, bytes_eq, nat_eq, nat_lt, nat_le, not, if◌then◌else◌}
use Rattle.bed_lang.specs.Numbers.{wrap}
use Rattle.bed_lang.specs.declared.word.Name.{Name}
use Rattle.bed_lang.specs.declared.word.Var.{Var}
use Rattle.bed_lang.specs.declared.word.Var.TheVariants as var
use Rattle.bed_lang.specs.declared.word.Word.{Word, fold-Word}
use Rattle.bed_lang.specs.declared.word.Word.TheOpen.{Word-F}
use Rattle.bed_lang.specs.declared.logic.Pure.{Pure}
use Rattle.bed_lang.specs.declared.logic.Pure.TheVariants as pure
use Rattle.bed_lang.specs.Values.{Values, Named}

-- the first value of a name
abbrev pub named_value : List (Name × ℕ) → List ℕ → Option ℕ
named_value [] name = None
named_value (v ∷ vs) name = if bytes_eq v.0.bytes name then Some v.1 else named_value vs name

-- each name has its value there
pub record GivesNamed (values : List (Name × ℕ)) (ν : Values) : Type 0 where
  pub gives : (name : List ℕ) (v : ℕ) → named_value values name ≡ Some v → ν.words (Named name) ≡ v

-- a function of two words that may be unknown
abbrev pub on_both : {A : Type 0} → Option ℕ → Option ℕ → (ℕ → ℕ → A) → Option A
on_both None b f = None
on_both (Some a) None f = None
on_both (Some a) (Some b) f = Some (f a b)

abbrev pub on_one : Option ℕ → (ℕ → ℕ) → Option ℕ
on_one None f = None
on_one (Some a) f = Some (f a)

module _ (values : List (Name × ℕ)) where
  abbrev pub is_given : Var → Bool
  is_given (var.Named x) = is_some (named_value values x.bytes)
  is_given _ = false

  abbrev pub word_over_step : Word-F Bool → Bool
  word_over_step (Word-F.Number n) = true
  word_over_step (Word-F.Var x) = is_given x
  word_over_step (Word-F.Label f) = false
  word_over_step (Word-F.Add a b) = a && b
  word_over_step (Word-F.Sub a b) = a && b
  word_over_step (Word-F.Times n a) = a

  -- a word is made of numbers and named values alone
  abbrev pub word_over : Word → Bool
  word_over = fold-Word Bool word_over_step

  -- a fact compares two such words
  abbrev pub compares : Pure → Bool
  compares (pure.Equal a b) = word_over a && word_over b
  compares (pure.Unequal a b) = word_over a && word_over b
  compares (pure.Less a b) = word_over a && word_over b
  compares (pure.AtMost a b) = word_over a && word_over b
  compares _ = false

  abbrev pub variable_result : Var → Option ℕ
  variable_result (var.Named x) = on_one (named_value values x.bytes) wrap
  variable_result _ = None

  abbrev pub word_result_step : Word-F (Option ℕ) → Option ℕ
  word_result_step (Word-F.Number n) = Some (wrap n)
  word_result_step (Word-F.Var x) = variable_result x
  word_result_step (Word-F.Label f) = None
  word_result_step (Word-F.Add a b) = on_both a b (λ m n. wrap (m + n))
  word_result_step (Word-F.Sub a b) = on_both a b (λ m n. wrap (m + (4294967296 - n)))
  word_result_step (Word-F.Times n a) = on_one a (λ m. wrap (n * m))

  -- the word, as far as numbers and named values tell it
  abbrev pub word_result : Word → Option ℕ
  word_result = fold-Word (Option ℕ) word_result_step

  -- whether a fact is true, as far as they tell it
  abbrev pub pure_result : Pure → Option Bool
  pure_result (pure.Equal a b) = on_both (word_result a) (word_result b) nat_eq
  pure_result (pure.Unequal a b) = on_both (word_result a) (word_result b) (λ m n. not (nat_eq m n))
  pure_result (pure.Less a b) = on_both (word_result a) (word_result b) nat_lt
  pure_result (pure.AtMost a b) = on_both (word_result a) (word_result b) nat_le
  pure_result _ = None
