-- Arguments read one after another.
use Rattle.std.proofs.Common.{◌≡◌, ℕ, ◌+◌, ◌<◌, List, [], ◌∷◌, ◌++◌, length, Some, None, IsSome, refl, sym, ap, subst, ◌∙◌, arith, below_more, length-append}
use Rattle.std.specs.List.{slice_get}
use Rattle.bed_lang.specs.Numbers.{wrap}
use Rattle.bed_machine.specs.Memory.{Memory}
use Rattle.bed_run.specs.Hosted.{argument, argument_address, AreArguments, IsMissing}
use Rattle.bed_run.proofs.ListLemmas.{within_has, get_front, get_last}

-- the first words are read, in these arguments
pub record AreFirst (memory : Memory) (ebp number : ℕ) (args : List ℕ) : Type 0 where
  pub count : length args ≡ number
  pub words : (k : ℕ) → k < number → argument memory ebp (k + 1) ≡ slice_get args k

pub no_words : (memory : Memory) (ebp : ℕ) (args : List ℕ) → args ≡ [] → AreFirst memory ebp 0 args
no_words memory ebp args e = record { count = ap length e; words = λ k below. absurd (omega (arith, below)) }

pub next_address : (ebp number at : ℕ) → at ≡ argument_address ebp number → wrap (at + 4) ≡ argument_address ebp (number + 1)
next_address ebp number at e = rw e (omega arith)

pub one_word : (memory : Memory) (ebp number word : ℕ) (args more : List ℕ) → AreFirst memory ebp number args → argument memory ebp (number + 1) ≡ Some word → more ≡ args ++ word ∷ []
    → AreFirst memory ebp (number + 1) more
one_word memory ebp number word args more first is e =
    let last : AreFirst memory ebp (number + 1) (args ++ word ∷ []) = record {
      count = let n = first.count in omega (arith, length-append args (word ∷ []), n);
      words = below_more (λ k. argument memory ebp (k + 1) ≡ slice_get (args ++ word ∷ []) k) number
          (λ k below. first.words k below ∙ sym (get_front args (word ∷ []) k (let n = first.count in omega (arith, n, below))))
          (is ∙ sym (ap (λ n. slice_get (args ++ word ∷ []) n) (sym first.count) ∙ get_last args word));
    } in
    subst (λ l. AreFirst memory ebp (number + 1) l) (sym e) last

pub all_words : (memory : Memory) (ebp arity : ℕ) (args : List ℕ) → AreFirst memory ebp arity args → AreArguments memory ebp arity args
all_words memory ebp arity args first = record { count = first.count; words = first.words }

pub is_missing : (memory : Memory) (ebp number arity at : ℕ) (args : List ℕ) → AreFirst memory ebp number args → number < arity → at ≡ argument_address ebp (number + 1)
    → argument memory ebp (number + 1) ≡ None → IsMissing memory ebp arity at
is_missing memory ebp number arity at args first within address none = record {
  before = number;
  within = within;
  there = λ k below.
      let got = within_has args k (let e = first.count in omega (arith, e, below)) in
      let is : argument memory ebp (k + 1) ≡ Some got.0 = first.words k below ∙ got.1 in
      subst (λ o. IsSome o) (sym is) refl;
  missing = none;
  address = address;
}
