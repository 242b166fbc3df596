-- Names that give way to their values: what each variable has then.
use Rattle.std.proofs.Common.{◌≡◌, ℕ, Bool, true, false, ◌&&◌, if◌then◌else◌, Option, Some, None, List, [], ◌∷◌, ◌++◌, refl, sym, ◌∙◌, ap}
use Rattle.std.specs.Str.{bytes_eq}
use Rattle.std.proofs.lemmas.Slice.Eq.{bytes_eq-Decides}
use Rattle.std.proofs.lemmas.Bool.Decides.{same_from_decides}
use Rattle.bed_lang.specs.declared.word.Name.{Name}
use Rattle.bed_lang.specs.declared.word.Sort.TheVariants as sort
use Rattle.bed_lang.specs.declared.word.Word.{Number}
use Rattle.bed_lang.specs.declared.word.Seq.{Nil}
use Rattle.bed_lang.specs.declared.logic.Arg.{Arg}
use Rattle.bed_lang.specs.declared.logic.Arg.TheVariants as arg
use Rattle.bed_lang.specs.declared.logic.Bind.{Bind}
use Rattle.bed_lang.specs.Values.{Values, Variable, Named, Old, Answer, Fresh, Hole, same_variable, set_word, set_list, value, list_value}
use Rattle.bed_lang.specs.Instances.{values_with}
use Rattle.bed_lang.proofs.ValueLaws.{value-Number, list_value-Nil}
use Rattle.bed_sat.specs.Assertions.{blank, set_params, arg_values}
use Rattle.bed_deriv.specs.Opening.{word_in, seq_in, first_some, if_of, value_for, word_or, seq_or, word_or_0, seq_or_nil, alone}
use Rattle.bed_deriv.specs.HeapRules.{params_with}

bytes_eq_turned : (x y : List ℕ) → bytes_eq x y ≡ bytes_eq y x
bytes_eq_turned x y =
    let d = bytes_eq-Decides y x in
    same_from_decides (bytes_eq x y) (bytes_eq y x) (bytes_eq-Decides x y) (λ e. sym (d.0 e), λ e. d.1 (sym e))

-- ---- values set in order

-- where each label has this address and each variable these values
module _ (labels : List ℕ → ℕ) (ν : Values) where
  -- a name is set to the value of an argument
  abbrev pub set_arg : Values → Name → Arg → Values
  set_arg κ x (arg.Word at a) = set_word κ (Named x.bytes) (value labels ν a)
  set_arg κ x (arg.Seq at s) = set_list κ (Named x.bytes) (list_value labels ν s)
  set_arg κ x (arg.Bare name) = set_word κ (Named x.bytes) 0

  abbrev pub set_args : Values → List (Name × Arg) → Values
  set_args κ [] = κ
  set_args κ (v ∷ vs) = set_args (set_arg κ v.0 v.1) vs

  pub set_args_append : (κ : Values) (vs us : List (Name × Arg)) → set_args κ (vs ++ us) ≡ set_args (set_args κ vs) us
  set_args_append κ [] us = refl
  set_args_append κ (v ∷ vs) us = set_args_append (set_arg κ v.0 v.1) vs us

  -- parameters are set to the values of their arguments
  pub params_are_set : (codes : ℕ → Option (List ℕ)) (κ : Values) (bs : List Bind) (args : List Arg)
      → set_params κ bs (arg_values codes labels ν args) ≡ set_args κ (params_with bs args)
  params_are_set codes κ [] args = refl
  params_are_set codes κ (b ∷ bs) [] = refl
  params_are_set codes κ (b ∷ bs) (arg.Word at a ∷ args) = params_are_set codes (set_word κ (Named b.name.bytes) (value labels ν a)) bs args
  params_are_set codes κ (b ∷ bs) (arg.Seq at s ∷ args) = params_are_set codes (set_list κ (Named b.name.bytes) (list_value labels ν s)) bs args
  params_are_set codes κ (b ∷ bs) (arg.Bare name ∷ args) = params_are_set codes (set_word κ (Named b.name.bytes) 0) bs args

  abbrev pub word_from : ℕ → Option Arg → ℕ
  word_from v None = v
  word_from v (Some a) = value labels ν (word_in a)

  abbrev pub list_from : List ℕ → Option Arg → List ℕ
  list_from vs None = vs
  list_from vs (Some a) = list_value labels ν (seq_in a)

  arg_word : (κ : Values) (n : Name) (a : Arg) (x : List ℕ) → (set_arg κ n a).words (Named x) ≡ word_from (κ.words (Named x)) (if_of sort.Word x (n, a))
  arg_word κ n (arg.Word at w) x = ap (λ (b : Bool). if b then value labels ν w else κ.words (Named x)) (bytes_eq_turned x n.bytes) ∙ by (bytes_eq n.bytes x)
    where
      by : (b : Bool) → (if b then value labels ν w else κ.words (Named x)) ≡ word_from (κ.words (Named x)) (if b && true then Some (arg.Word at w) else None)
      by true = refl
      by false = refl
  arg_word κ n (arg.Seq at s) x = by (bytes_eq n.bytes x)
    where
      by : (b : Bool) → κ.words (Named x) ≡ word_from (κ.words (Named x)) (if b && false then Some (arg.Seq at s) else None)
      by true = refl
      by false = refl
  arg_word κ n (arg.Bare name) x = ap (λ (b : Bool). if b then 0 else κ.words (Named x)) (bytes_eq_turned x n.bytes) ∙ by (bytes_eq n.bytes x)
    where
      by : (b : Bool) → (if b then 0 else κ.words (Named x)) ≡ word_from (κ.words (Named x)) (if b && true then Some (arg.Bare name) else None)
      by true = sym (value-Number labels ν 0)
      by false = refl

  arg_list : (κ : Values) (n : Name) (a : Arg) (x : List ℕ) → (set_arg κ n a).lists (Named x) ≡ list_from (κ.lists (Named x)) (if_of sort.Seq x (n, a))
  arg_list κ n (arg.Seq at s) x = ap (λ (b : Bool). if b then list_value labels ν s else κ.lists (Named x)) (bytes_eq_turned x n.bytes) ∙ by (bytes_eq n.bytes x)
    where
      by : (b : Bool) → (if b then list_value labels ν s else κ.lists (Named x)) ≡ list_from (κ.lists (Named x)) (if b && true then Some (arg.Seq at s) else None)
      by true = refl
      by false = refl
  arg_list κ n (arg.Word at w) x = by (bytes_eq n.bytes x)
    where
      by : (b : Bool) → κ.lists (Named x) ≡ list_from (κ.lists (Named x)) (if b && false then Some (arg.Word at w) else None)
      by true = refl
      by false = refl
  arg_list κ n (arg.Bare name) x = by (bytes_eq n.bytes x)
    where
      by : (b : Bool) → κ.lists (Named x) ≡ list_from (κ.lists (Named x)) (if b && false then Some (arg.Bare name) else None)
      by true = refl
      by false = refl

  -- a name has the last value of its sort
  pub words_set : (vs : List (Name × Arg)) (κ : Values) (x : List ℕ) → (set_args κ vs).words (Named x) ≡ word_from (κ.words (Named x)) (value_for sort.Word vs x)
  words_set [] κ x = refl
  words_set (v ∷ vs) κ x = words_set vs (set_arg κ v.0 v.1) x ∙ by (value_for sort.Word vs x)
    where
      by : (o : Option Arg) → word_from ((set_arg κ v.0 v.1).words (Named x)) o ≡ word_from (κ.words (Named x)) (first_some o (if_of sort.Word x v))
      by (Some a) = refl
      by None = arg_word κ v.0 v.1 x

  pub lists_set : (vs : List (Name × Arg)) (κ : Values) (x : List ℕ) → (set_args κ vs).lists (Named x) ≡ list_from (κ.lists (Named x)) (value_for sort.Seq vs x)
  lists_set [] κ x = refl
  lists_set (v ∷ vs) κ x = lists_set vs (set_arg κ v.0 v.1) x ∙ by (value_for sort.Seq vs x)
    where
      by : (o : Option Arg) → list_from ((set_arg κ v.0 v.1).lists (Named x)) o ≡ list_from (κ.lists (Named x)) (first_some o (if_of sort.Seq x v))
      by (Some a) = refl
      by None = arg_list κ v.0 v.1 x

  -- other variables stay
  arg_others : (κ : Values) (n : Name) (a : Arg) (y : Variable) → same_variable y (Named n.bytes) ≡ false
      → ((set_arg κ n a).words y ≡ κ.words y) × ((set_arg κ n a).lists y ≡ κ.lists y)
  arg_others κ n (arg.Word at w) y no_name = (ap (λ (b : Bool). if b then value labels ν w else κ.words y) no_name, refl)
  arg_others κ n (arg.Seq at s) y no_name = (refl, ap (λ (b : Bool). if b then list_value labels ν s else κ.lists y) no_name)
  arg_others κ n (arg.Bare name) y no_name = (ap (λ (b : Bool). if b then 0 else κ.words y) no_name, refl)

  pub others_stay : (vs : List (Name × Arg)) (κ : Values) (y : Variable) → ((x : List ℕ) → same_variable y (Named x) ≡ false)
      → ((set_args κ vs).words y ≡ κ.words y) × ((set_args κ vs).lists y ≡ κ.lists y)
  others_stay [] κ y no_name = (refl, refl)
  others_stay (v ∷ vs) κ y no_name =
      let first = arg_others κ v.0 v.1 y (no_name v.0.bytes) in
      let more = others_stay vs (set_arg κ v.0 v.1) y no_name in
      (more.0 ∙ first.0, more.1 ∙ first.1)

  zero_word : value labels ν (Number 0) ≡ 0
  zero_word = value-Number labels ν 0

  alone_words : (vs : List (Name × Arg)) (x : Variable) → value labels ν (word_or_0 vs x) ≡ (set_args blank vs).words x
  alone_words vs (Named x) = by (value_for sort.Word vs x) ∙ sym (words_set vs blank x)
    where
      by : (o : Option Arg) → value labels ν (word_or o (Number 0)) ≡ word_from 0 o
      by None = zero_word
      by (Some a) = refl
  alone_words vs (Old x) = zero_word ∙ sym (others_stay vs blank (Old x) (λ n. refl)).0
  alone_words vs Answer = zero_word ∙ sym (others_stay vs blank Answer (λ n. refl)).0
  alone_words vs (Fresh n) = zero_word ∙ sym (others_stay vs blank (Fresh n) (λ m. refl)).0
  alone_words vs Hole = zero_word ∙ sym (others_stay vs blank Hole (λ n. refl)).0

  alone_lists : (vs : List (Name × Arg)) (x : Variable) → list_value labels ν (seq_or_nil vs x) ≡ (set_args blank vs).lists x
  alone_lists vs (Named x) = by (value_for sort.Seq vs x) ∙ sym (lists_set vs blank x)
    where
      by : (o : Option Arg) → list_value labels ν (seq_or o Nil) ≡ list_from [] o
      by None = list_value-Nil labels ν
      by (Some a) = refl
  alone_lists vs (Old x) = list_value-Nil labels ν ∙ sym (others_stay vs blank (Old x) (λ n. refl)).1
  alone_lists vs Answer = list_value-Nil labels ν ∙ sym (others_stay vs blank Answer (λ n. refl)).1
  alone_lists vs (Fresh n) = list_value-Nil labels ν ∙ sym (others_stay vs blank (Fresh n) (λ m. refl)).1
  alone_lists vs Hole = list_value-Nil labels ν ∙ sym (others_stay vs blank Hole (λ n. refl)).1

  -- names alone are replaced: the others are 0, or empty
  pub alone_is : (vs : List (Name × Arg)) → values_with (alone vs) labels ν ≡ set_args blank vs
  alone_is vs i = record { words = λ x. alone_words vs x i; lists = λ x. alone_lists vs x i }
