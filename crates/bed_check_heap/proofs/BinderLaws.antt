-- The binders of an assertion: with values that arguments give, and with fresh variables that have their values.
use Rattle.std.proofs.Common.{◌≡◌, ℕ, ◌+◌, ◌<◌, ◌≤◌, Bool, if◌then◌else◌, Option, Some, None, List, [], ◌∷◌, map, refl, sym, ◌∙◌, ap, subst, arith}
use Rattle.std.proofs.lemmas.Bool.{eq-eqb}
use Rattle.bed_machine.proofs.WordLaws.{some_same}
use Rattle.bed_lang.specs.declared.word.Name.{Name}
use Rattle.bed_lang.specs.declared.word.Sort.{Sort}
use Rattle.bed_lang.specs.declared.word.Sort.TheVariants as sort
use Rattle.bed_lang.specs.declared.word.Var.TheVariants as var
use Rattle.bed_lang.specs.declared.word.Word.{Word}
use Rattle.bed_lang.specs.declared.word.Seq.{Seq, Var as SeqVar}
use Rattle.bed_lang.specs.declared.logic.Arg.{Arg}
use Rattle.bed_lang.specs.declared.logic.Bind.{Bind}
use Rattle.bed_lang.specs.Numbers.{wrap}
use Rattle.bed_lang.specs.Values.{Values, Variable, Named, Fresh, set_word, set_list, value, list_value}
use Rattle.bed_lang.proofs.ValueLaws.{list_value-Var}
use Rattle.bed_sat.specs.Assertions.{ArgValue, WordValue, ListValue, set_params, ForSomeValue, ForSomeValues}
use Rattle.bed_sat.proofs.InstanceLaws.{wrap_twice}
use Rattle.bed_deriv.specs.declared.derivation.DArg.{DArg}
use Rattle.bed_deriv.specs.Arguments.{to_word, to_seq, word_value, seq_value, to_value, value_before, named, to_values}
use Rattle.bed_deriv.specs.Opening.{fresh_value, fresh_values}
use Rattle.bed_deriv.specs.HeapRules.{params_with, value_args, fresh_word}
use Rattle.bed_check_heap.specs.Sound.{AgreeBelow}
use Rattle.bed_check_heap.proofs.FreshLaws.{agree_self, agree_more, agree_more_list, set_here, value_fresh}
use Rattle.bed_check_heap.proofs.WrapLaws.{AgreeModulo, agree_modulo_word, agree_modulo_list}
use Rattle.bed_check_heap.proofs.OpenLaws.{set_arg, set_args}

-- ---- binders that arguments give

module _ (next : ℕ) where
  pub values_parts : (x : Name) (o : Option Arg) (os : Option (List (Name × Arg))) (vs : List (Name × Arg)) → value_before next (named next x o) os ≡ Some vs
      → (a : Arg) × (us : List (Name × Arg)) × (o ≡ Some a) × (os ≡ Some us) × ((x, a) ∷ us ≡ vs)
  values_parts x (Some a) (Some us) vs e = (a, us, refl, refl, some_same e)
  values_parts x (Some a) None vs e = absurd cc
  values_parts x None os vs e = absurd cc

  -- arguments are parameters' values in order
  pub params_given : (bs : List Bind) (args : List DArg) (vs : List (Name × Arg)) → to_values next bs args ≡ Some vs → params_with bs (value_args vs) ≡ vs
  params_given [] args vs e = some_same e
  params_given (b ∷ bs) [] vs e = absurd cc
  params_given (b ∷ bs) (a ∷ args) vs e =
      let (x, us, one, more, all) = values_parts b.name (to_value next b.sort (Some a)) (to_values next bs args) vs e in
      subst (λ (zs : List (Name × Arg)). params_with (b ∷ bs) (value_args zs) ≡ zs) all (ap (λ zs. (b.name, x) ∷ zs) (params_given bs args us more))

  module _ (labels : List ℕ → ℕ) (ν : Values) where
    one_given : (s : Sort) (a : DArg) (x : Arg) (name : Name) (κ : Values) (R : Values → Type 0) → to_value next s (Some a) ≡ Some x → R (set_arg labels ν κ name x)
        → ForSomeValue s name.bytes κ R
    one_given sort.Word a x name κ R e r = by (to_word next (Some a)) e
      where
        by : (o : Option Word) → word_value next o ≡ Some x → ForSomeValue sort.Word name.bytes κ R
        by None e = absurd cc
        by (Some u) e = (value labels ν u, subst (λ y. R (set_arg labels ν κ name y)) (sym (some_same e)) r)
    one_given sort.Seq a x name κ R e r = by (to_seq next (Some a)) e
      where
        by : (o : Option Seq) → seq_value next o ≡ Some x → ForSomeValue sort.Seq name.bytes κ R
        by None e = absurd cc
        by (Some u) e = (list_value labels ν u, subst (λ y. R (set_arg labels ν κ name y)) (sym (some_same e)) r)

    -- what is true with the values that arguments give is true with some
    pub binders_given : (bs : List Bind) (args : List DArg) (vs : List (Name × Arg)) → to_values next bs args ≡ Some vs
        → (κ : Values) (R : Values → Type 0) → R (set_args labels ν κ vs) → ForSomeValues bs κ R
    binders_given [] args vs e κ R r = subst (λ us. R (set_args labels ν κ us)) (sym (some_same e)) r
    binders_given (b ∷ bs) [] vs e κ R r = absurd cc
    binders_given (b ∷ bs) (a ∷ args) vs e κ R r =
        let (x, us, one, more, all) = values_parts b.name (to_value next b.sort (Some a)) (to_values next bs args) vs e in
        one_given b.sort a x b.name κ (λ μ. ForSomeValues bs μ R) one
        (binders_given bs args us more (set_arg labels ν κ b.name x) R (subst (λ zs. R (set_args labels ν κ zs)) (sym all) r))

-- ---- binders with some values

abbrev OfSort : Sort → ArgValue → Type 0
OfSort sort.Word (WordValue v) = Unit {0}
OfSort sort.Seq (ListValue vs) = Unit {0}
OfSort _ _ = ⊥

-- a value for each binder, of its sort
abbrev pub OfSorts : List Bind → List ArgValue → Type 0
OfSorts [] [] = Unit {0}
OfSorts (b ∷ bs) (u ∷ us) = OfSort b.sort u × OfSorts bs us
OfSorts _ _ = ⊥

abbrev set_one : Values → List ℕ → ArgValue → Values
set_one κ x (WordValue v) = set_word κ (Named x) v
set_one κ x (ListValue vs) = set_list κ (Named x) vs

params_one : (κ : Values) (b : Bind) (bs : List Bind) (u : ArgValue) (us : List ArgValue) → set_params κ (b ∷ bs) (u ∷ us) ≡ set_params (set_one κ b.name.bytes u) bs us
params_one κ b bs (WordValue v) us = refl
params_one κ b bs (ListValue vs) us = refl

one_value : (s : Sort) (x : List ℕ) (κ : Values) (R : Values → Type 0) → ForSomeValue s x κ R → (u : ArgValue) × OfSort s u × R (set_one κ x u)
one_value sort.Word x κ R r = (WordValue r.0, tt, r.1)
one_value sort.Seq x κ R r = (ListValue r.0, tt, r.1)

-- some values that make it true
pub binders_valued : (bs : List Bind) (κ : Values) (R : Values → Type 0) → ForSomeValues bs κ R → (us : List ArgValue) × OfSorts bs us × R (set_params κ bs us)
binders_valued [] κ R r = ([], tt, r)
binders_valued (b ∷ bs) κ R r =
    let (u, is, more) = one_value b.sort b.name.bytes κ (λ μ. ForSomeValues bs μ R) r in
    let (us, are, last) = binders_valued bs (set_one κ b.name.bytes u) R more in
    (u ∷ us, (is, are), subst R (sym (params_one κ b bs u us)) last)

-- ---- fresh variables that have those values

abbrev set_new : Values → ℕ → ArgValue → Values
set_new κ n (WordValue v) = set_word κ (Fresh n) v
set_new κ n (ListValue vs) = set_list κ (Fresh n) vs

-- the fresh variables from a number on have these values
abbrev pub fresh_set : Values → ℕ → List ArgValue → Values
fresh_set κ n [] = κ
fresh_set κ n (u ∷ us) = fresh_set (set_new κ n u) (n + 1) us

new_agrees : (next n : ℕ) (u : ArgValue) (ν κ : Values) → next ≤ n → AgreeBelow next ν κ → AgreeBelow next ν (set_new κ n u)
new_agrees next n (WordValue v) ν κ le g = agree_more next n v ν κ le g
new_agrees next n (ListValue vs) ν κ le g = agree_more_list next n vs ν κ le g

pub fresh_agrees : (next n : ℕ) (us : List ArgValue) (ν κ : Values) → next ≤ n → AgreeBelow next ν κ → AgreeBelow next ν (fresh_set κ n us)
fresh_agrees next n [] ν κ le g = g
fresh_agrees next n (u ∷ us) ν κ le g = fresh_agrees next (n + 1) us ν (set_new κ n u) (omega arith) (new_agrees next n u ν κ le g)

set_here_list : (ν : Values) (n : ℕ) (vs : List ℕ) → (set_list ν (Fresh n) vs).lists (Fresh n) ≡ vs
set_here_list ν n vs = ap (λ (b : Bool). if b then vs else ν.lists (Fresh n)) (eq-eqb n n refl)

wrap_once : (n : ℕ) → wrap n ≡ wrap (wrap n)
wrap_once n = omega arith

fresh_list : (labels : List ℕ → ℕ) (ν : Values) (n : ℕ) → list_value labels ν (SeqVar (var.Fresh n)) ≡ map wrap (ν.lists (Fresh n))
fresh_list labels ν n = list_value-Var labels ν (var.Fresh n)

module _ (labels : List ℕ → ℕ) where
  known_next : (n m : ℕ) → ◌≡◌ {A = Variable} (Fresh n) (Fresh m) → m < n + 1
  known_next n m e = let same : n ≡ m = cc in omega arith

  one_fresh : (s : Sort) (u : ArgValue) (us : List ArgValue) (name : Name) (κ : Values) (n : ℕ) (ι1 ι2 : Values) → OfSort s u → AgreeModulo ι1 ι2
      → AgreeModulo (set_one ι1 name.bytes u) (set_arg labels (fresh_set (set_new κ n u) (n + 1) us) ι2 name (fresh_value s n))
  one_fresh sort.Word (WordValue v) us name κ n ι1 ι2 is g =
      let μ = fresh_set (set_word κ (Fresh n) v) (n + 1) us in
      let stays = (fresh_agrees (n + 1) (n + 1) us (set_word κ (Fresh n) v) (set_word κ (Fresh n) v) (omega arith) (agree_self (n + 1) _)).words (Fresh n) (λ m e. known_next n m e) in
      let has : value labels μ (fresh_word n) ≡ wrap v = value_fresh labels μ n ∙ ap wrap (stays ∙ set_here κ n v) in
      agree_modulo_word ι1 ι2 (Named name.bytes) v (value labels μ (fresh_word n)) (wrap_once v ∙ ap wrap (sym has)) g
  one_fresh sort.Seq (ListValue vs) us name κ n ι1 ι2 is g =
      let μ = fresh_set (set_list κ (Fresh n) vs) (n + 1) us in
      let stays = (fresh_agrees (n + 1) (n + 1) us (set_list κ (Fresh n) vs) (set_list κ (Fresh n) vs) (omega arith) (agree_self (n + 1) _)).lists (Fresh n) (λ m e. known_next n m e) in
      let has : list_value labels μ (SeqVar (var.Fresh n)) ≡ map wrap vs = fresh_list labels μ n ∙ ap (map wrap) (stays ∙ set_here_list κ n vs) in
      agree_modulo_list ι1 ι2 (Named name.bytes) vs (list_value labels μ (SeqVar (var.Fresh n))) (sym (wrap_twice vs) ∙ ap (map wrap) (sym has)) g
  one_fresh sort.Word (ListValue vs) us name κ n ι1 ι2 is g = absurd is
  one_fresh sort.Seq (WordValue v) us name κ n ι1 ι2 is g = absurd is

  -- binders with those fresh variables have the values, modulo 2^32
  pub binders_fresh : (bs : List Bind) (us : List ArgValue) (κ : Values) (n : ℕ) (ι1 ι2 : Values) → OfSorts bs us → AgreeModulo ι1 ι2
      → AgreeModulo (set_params ι1 bs us) (set_args labels (fresh_set κ n us) ι2 (fresh_values bs n))
  binders_fresh [] [] κ n ι1 ι2 are g = g
  binders_fresh (b ∷ bs) (u ∷ us) κ n ι1 ι2 are g =
      let ι = set_arg labels (fresh_set (set_new κ n u) (n + 1) us) ι2 b.name (fresh_value b.sort n) in
      subst (λ ι0. AgreeModulo ι0 (set_args labels (fresh_set (set_new κ n u) (n + 1) us) ι (fresh_values bs (n + 1)))) (sym (params_one ι1 b bs u us))
      (binders_fresh bs us (set_new κ n u) (n + 1) (set_one ι1 b.name.bytes u) ι are.1 (one_fresh b.sort u us b.name κ n ι1 ι2 are.0 g))
  binders_fresh [] (u ∷ us) κ n ι1 ι2 are g = absurd are
  binders_fresh (b ∷ bs) [] κ n ι1 ι2 are g = absurd are
