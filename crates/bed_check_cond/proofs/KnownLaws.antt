-- What is known of arguments, operands and atoms that are left: each fresh variable in them has a number below the state's next one.
use Rattle.std.proofs.Common.{◌≡◌, ℕ, ◌+◌, Bool, true, false, IsTrue, if◌then◌else◌, List, [], ◌∷◌, Option, Some, None, refl, ◌∙◌, subst}
use Rattle.std.specs.Prelude.{bytes_eq}
use Rattle.std.proofs.lemmas.Bool.{and_parts, and_from}
use Rattle.bed_machine.proofs.WordLaws.{some_same}
use Rattle.bed_lang.specs.declared.word.Name.{Name}
use Rattle.bed_lang.specs.declared.word.Sort.{Sort}
use Rattle.bed_lang.specs.declared.word.Sort.TheVariants as sort
use Rattle.bed_lang.specs.declared.word.Var.{Var}
use Rattle.bed_lang.specs.declared.word.Var.TheVariants as var
use Rattle.bed_lang.specs.declared.word.Word.{Word}
use Rattle.bed_lang.specs.declared.word.Seq.{Seq}
use Rattle.bed_lang.specs.declared.logic.Arg.{Arg}
use Rattle.bed_lang.specs.declared.logic.Arg.TheVariants as arg
use Rattle.bed_lang.specs.declared.logic.Pure.{Pure}
use Rattle.bed_lang.specs.declared.logic.Atom.{Atom}
use Rattle.bed_lang.specs.declared.logic.Bind.{Bind}
use Rattle.bed_lang.specs.declared.module.Operand.{Operand}
use Rattle.bed_lang.specs.declared.module.Operand.TheVariants as operand
use Rattle.bed_deriv.specs.declared.derivation.DArg.{DArg}
use Rattle.bed_deriv.specs.declared.derivation.DArg.TheVariants as given
use Rattle.bed_deriv.specs.Arguments.{where_true, lone_word, lone_seq, if_known, as_word, as_seq, to_word, to_seq, to_fact, word_value, seq_value, to_value, to_values}
use Rattle.bed_deriv.specs.Fresh.{every, known_var, known_word, known_seq, known_arg, known_pure, known_local, known_value}
use Rattle.bed_deriv.specs.Matches.{is_chosen, atoms_left}
use Rattle.bed_deriv.specs.Steps.{local_term, operand_term, operand_terms, names_with}
use Rattle.bed_deriv.proofs.KnownLaws.{known-Number, known-Var, known-Label, known_seq-Var}
use Rattle.bed_check_heap.proofs.BinderLaws.{values_parts}
use Rattle.bed_check_cond.proofs.ReadLaws.{words_parts}

-- what is given passes the test
true_there : {A : Type 0} (f : A → Bool) (x y : A) → where_true (f x) x ≡ Some y → IsTrue (f y)
true_there f x y e = by (f x) refl e
  where
    by : (b : Bool) → f x ≡ b → where_true b x ≡ Some y → IsTrue (f y)
    by true is e = subst (λ z. IsTrue (f z)) (some_same e) is
    by false is e = absurd cc

module _ (next : ℕ) where
  known_variable : (o : Option Var) (x : Var) → if_known next o ≡ Some x → IsTrue (known_var next x)
  known_variable None x e = absurd cc
  known_variable (Some y) x e = true_there (known_var next) y x e

  as_word_known : (o : Option Var) (t : Word) → as_word (if_known next o) ≡ Some t → IsTrue (known_word next t)
  as_word_known o t e = by (if_known next o) refl e
    where
      by : (p : Option Var) → if_known next o ≡ p → as_word p ≡ Some t → IsTrue (known_word next t)
      by None is e = absurd cc
      by (Some x) is e = subst (λ z. IsTrue (known_word next z)) (some_same e) (known-Var next x ∙ known_variable o x is)

  as_seq_known : (o : Option Var) (t : Seq) → as_seq (if_known next o) ≡ Some t → IsTrue (known_seq next t)
  as_seq_known o t e = by (if_known next o) refl e
    where
      by : (p : Option Var) → if_known next o ≡ p → as_seq p ≡ Some t → IsTrue (known_seq next t)
      by None is e = absurd cc
      by (Some x) is e = subst (λ z. IsTrue (known_seq next z)) (some_same e) (known_seq-Var next x ∙ known_variable o x is)

  pub word_given : (a : Option DArg) (t : Word) → to_word next a ≡ Some t → IsTrue (known_word next t)
  word_given None t e = absurd cc
  word_given (Some (given.Number n)) t e = subst (λ z. IsTrue (known_word next z)) (some_same e) (known-Number next n)
  word_given (Some (given.Name x)) t e = subst (λ z. IsTrue (known_word next z)) (some_same e) (known-Var next (var.Named x))
  word_given (Some (given.Arg (arg.Word at u))) t e = true_there (known_word next) u t e
  word_given (Some (given.Arg (arg.Seq at s))) t e = as_word_known (lone_seq s) t e
  word_given (Some (given.Arg (arg.Bare x))) t e = absurd cc
  word_given (Some (given.Pure p)) t e = absurd cc
  word_given (Some (given.Edge d)) t e = absurd cc

  pub seq_given : (a : Option DArg) (t : Seq) → to_seq next a ≡ Some t → IsTrue (known_seq next t)
  seq_given None t e = absurd cc
  seq_given (Some (given.Number n)) t e = absurd cc
  seq_given (Some (given.Name x)) t e = subst (λ z. IsTrue (known_seq next z)) (some_same e) (known_seq-Var next (var.Named x))
  seq_given (Some (given.Arg (arg.Word at u))) t e = as_seq_known (lone_word u) t e
  seq_given (Some (given.Arg (arg.Seq at s))) t e = true_there (known_seq next) s t e
  seq_given (Some (given.Arg (arg.Bare x))) t e = absurd cc
  seq_given (Some (given.Pure p)) t e = absurd cc
  seq_given (Some (given.Edge d)) t e = absurd cc

  pub fact_is_known : (a : Option DArg) (p : Pure) → to_fact next a ≡ Some p → IsTrue (known_pure next p)
  fact_is_known None p e = absurd cc
  fact_is_known (Some (given.Number n)) p e = absurd cc
  fact_is_known (Some (given.Name x)) p e = absurd cc
  fact_is_known (Some (given.Arg a)) p e = absurd cc
  fact_is_known (Some (given.Pure q)) p e = true_there (known_pure next) q p e
  fact_is_known (Some (given.Edge d)) p e = absurd cc

  -- the values that arguments give
  value_given : (s : Sort) (a : Option DArg) (x : Arg) → to_value next s a ≡ Some x → IsTrue (known_arg next x)
  value_given sort.Word a x e = by (to_word next a) refl e
    where
      by : (o : Option Word) → to_word next a ≡ o → word_value next o ≡ Some x → IsTrue (known_arg next x)
      by None is e = absurd cc
      by (Some t) is e = subst (λ z. IsTrue (known_arg next z)) (some_same e) (word_given a t is)
  value_given sort.Seq a x e = by (to_seq next a) refl e
    where
      by : (o : Option Seq) → to_seq next a ≡ o → seq_value next o ≡ Some x → IsTrue (known_arg next x)
      by None is e = absurd cc
      by (Some t) is e = subst (λ z. IsTrue (known_arg next z)) (some_same e) (seq_given a t is)

  pub values_known : (bs : List Bind) (args : List DArg) (vs : List (Name × Arg)) → to_values next bs args ≡ Some vs → IsTrue (every (known_value next) vs)
  values_known [] args vs e = subst (λ (zs : List (Name × Arg)). IsTrue (every (known_value next) zs)) (some_same e) refl
  values_known (b ∷ bs) [] vs e = absurd cc
  values_known (b ∷ bs) (a ∷ args) vs e =
      let (x, us, one, more, all) = values_parts next b.name (to_value next b.sort (Some a)) (to_values next bs args) vs e in
      subst (λ (zs : List (Name × Arg)). IsTrue (every (known_value next) zs)) all
      (and_from (known_arg next x) (every (known_value next) us) (value_given b.sort (Some a) x one) (values_known bs args us more))

  -- operands' terms
  local_known : (ls : List (Name × Word)) (x : List ℕ) (t : Word) → IsTrue (every (known_local next) ls) → local_term ls x ≡ Some t → IsTrue (known_word next t)
  local_known [] x t k e = absurd cc
  local_known (l ∷ ls) x t k e =
      let q = and_parts (known_local next l) (every (known_local next) ls) k in
      by (bytes_eq l.0.bytes x) e q.0 (λ d. local_known ls x t q.1 d)
    where
      by : (b : Bool) → (if b then Some l.1 else local_term ls x) ≡ Some t → IsTrue (known_word next l.1) → (local_term ls x ≡ Some t → IsTrue (known_word next t)) → IsTrue (known_word next t)
      by true e here more = subst (λ z. IsTrue (known_word next z)) (some_same e) here
      by false e here more = more e

  pub operand_known : (ls : List (Name × Word)) (a : Operand) (t : Word) → IsTrue (every (known_local next) ls) → operand_term ls a ≡ Some t → IsTrue (known_word next t)
  operand_known ls (operand.Number n) t k e = subst (λ z. IsTrue (known_word next z)) (some_same e) (known-Number next n)
  operand_known ls (operand.Local x) t k e = local_known ls x.bytes t k e
  operand_known ls (operand.Label f) t k e = subst (λ z. IsTrue (known_word next z)) (some_same e) (known-Label next f)

  -- parameters with their operands
  pub names_known : (ls : List (Name × Word)) (xs : List Name) (as' : List Operand) (ts : List Word) → IsTrue (every (known_local next) ls) → operand_terms ls as' ≡ Some ts
      → IsTrue (every (known_value next) (names_with xs ts))
  names_known ls [] as' ts k e = refl
  names_known ls (x ∷ xs) [] ts k e = subst (λ (us : List Word). IsTrue (every (known_value next) (names_with (x ∷ xs) us))) (some_same e) refl
  names_known ls (x ∷ xs) (a ∷ as') ts k e =
      let (u, us, one, more, all) = words_parts (operand_term ls a) (operand_terms ls as') ts e in
      subst (λ (vs : List Word). IsTrue (every (known_value next) (names_with (x ∷ xs) vs))) all
      (and_from (known_word next u) (every (known_value next) (names_with xs us)) (operand_known ls a u k one) (names_known ls xs as' us k more))

-- the atoms that are left
pub left_known : (f : Atom → Bool) (cs : List (ℕ × Atom)) (n : ℕ) (xs : List Atom) → IsTrue (every f xs) → IsTrue (every f (atoms_left cs n xs))
left_known f cs n [] k = refl
left_known f cs n (x ∷ xs) k =
    let q = and_parts (f x) (every f xs) k in
    by (is_chosen n cs) q.0 (left_known f cs (n + 1) xs q.1)
  where
    by : (b : Bool) → IsTrue (f x) → IsTrue (every f (atoms_left cs (n + 1) xs)) → IsTrue (every f (if b then atoms_left cs (n + 1) xs else x ∷ atoms_left cs (n + 1) xs))
    by true here more = more
    by false here more = and_from (f x) (every f (atoms_left cs (n + 1) xs)) here more
