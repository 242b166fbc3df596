-- Options with their values, one pair after another.
use Rattle.std.proofs.Common.{◌≡◌, ℕ, ◌+◌, ◌≤◌, ◌⊎◌, inl, inr, Bool, true, false, ◌&&◌, ◌||◌, not, nat_lt, if◌then◌else◌, List, [], ◌∷◌, ◌++◌, refl, sym, ap, ◌∙◌, subst, arith}
use Rattle.std.specs.Prelude.{bytes_eq, IsTrue}
use Rattle.std.proofs.lemmas.Bool.Decides.{nat_tests}
use Rattle.std.proofs.lemmas.Slice.Eq.{bytes_eq-Decides}
use Rattle.std.proofs.lemmas.Bool.{cases_Bool, and_parts, not-true, not-false}
use Rattle.bed_words.specs.declared.verb.Verb.{Verb}
use Rattle.bed_words.specs.declared.verb.Verb.TheVariants as verb
use Rattle.bed_words.specs.Options.{takes, repeats, times, is_given, IsOnceEach, HasRequired}
use Rattle.bed_words.specs.Reading.{may_come, lacks}

-- words that come in pairs
abbrev pub IsPaired : List (List ℕ) → Type 0
IsPaired [] = Unit {0}
IsPaired (o ∷ []) = ⊥
IsPaired (o ∷ value ∷ rest) = IsPaired rest

pub paired-two : (before : List (List ℕ)) (o value : List ℕ) → IsPaired before → IsPaired (before ++ o ∷ value ∷ [])
paired-two [] o value p = tt
paired-two (a ∷ []) o value p = absurd p
paired-two (a ∷ b ∷ rest) o value p = paired-two rest o value p

abbrev pub one_if : Bool → ℕ
one_if b = if b then 1 else 0

-- an option counts among the options before some others and among those
pub times-append : (name : List ℕ) (before options : List (List ℕ)) → IsPaired before
    → times name (before ++ options) ≡ times name before + times name options
times-append name [] options p = omega arith
times-append name (a ∷ []) options p = absurd p
times-append name (a ∷ b ∷ rest) options p = regroup (one_if (bytes_eq a name)) (times name (rest ++ options)) (times name rest) (times name options) (times-append name rest options p)
  where
    regroup : (n x y z : ℕ) → x ≡ y + z → n + x ≡ (n + y) + z
    regroup n x y z e = omega arith

pub is_given-none : (name : List ℕ) (options : List (List ℕ)) → is_given name options ≡ false → times name options ≡ 0
is_given-none name options h = zero_of (times name options) h
  where
    zero_of : (n : ℕ) → nat_lt 0 n ≡ false → n ≡ 0
    zero_of n h = grind (arith, nat_tests)

pub is_given-never : (name : List ℕ) (options : List (List ℕ)) → times name options ≡ 0 → is_given name options ≡ false
is_given-never name options h = ap (λ n. nat_lt 0 n) h

pub is_given-last : (name value : List ℕ) (before : List (List ℕ)) → IsPaired before → is_given name (before ++ name ∷ value ∷ []) ≡ true
is_given-last name value before p =
    ap (λ n. nat_lt 0 n) (times-append name before (name ∷ value ∷ []) p)
    ∙ ap (λ b. nat_lt 0 (times name before + (one_if b + 0))) ((bytes_eq-Decides name name).1 refl)
    ∙ above (times name before)
  where
    above : (n : ℕ) → nat_lt 0 (n + (1 + 0)) ≡ true
    above n = grind (arith, nat_tests)

-- where an option may come after others, no option is given twice
pub once-two : (v : Verb) (before : List (List ℕ)) (o value : List ℕ) → IsPaired before → may_come v before o ≡ true
    → IsOnceEach before → IsOnceEach (before ++ o ∷ value ∷ [])
once-two v before o value p may once name single = at_most (cases_Bool (bytes_eq o name))
  where
    new : not (is_given o before) ≡ true → times o before ≡ 0
    new h = is_given-none o before (not-true (is_given o before) h)

    first : repeats o ≡ false → times o before ≡ 0
    first e = new (subst (λ b. (b || not (is_given o before)) ≡ true) e (and_parts (takes v o) (repeats o || not (is_given o before)) may).1)

    counted : (b : Bool) → bytes_eq o name ≡ b → times name (before ++ o ∷ value ∷ []) ≡ times name before + (one_if b + 0)
    counted b e = times-append name before (o ∷ value ∷ []) p ∙ ap (λ c. times name before + (one_if c + 0)) e

    small : (n k : ℕ) → n ≡ k + (1 + 0) → k ≡ 0 → n ≤ 1
    small n k e z = omega arith

    kept : (n k : ℕ) → n ≡ k + (0 + 0) → k ≤ 1 → n ≤ 1
    kept n k e z = omega arith

    at_most : (bytes_eq o name ≡ true) ⊎ (bytes_eq o name ≡ false) → times name (before ++ o ∷ value ∷ []) ≤ 1
    at_most (inl e) =
        let same : o ≡ name = (bytes_eq-Decides o name).0 e in
        small (times name (before ++ o ∷ value ∷ [])) (times name before) (counted true e)
        (subst (λ k. times k before ≡ 0) same (first (subst (λ k. repeats k ≡ false) (sym same) single)))
    at_most (inr e) = kept (times name (before ++ o ∷ value ∷ [])) (times name before) (counted false e) (once name single)

-- where no option is given twice, each may come after those before it
pub once-may_come : (v : Verb) (before : List (List ℕ)) (o value : List ℕ) (rest : List (List ℕ)) → IsPaired before → IsTrue (takes v o)
    → IsOnceEach (before ++ o ∷ value ∷ rest) → may_come v before o ≡ true
once-may_come v before o value rest p taken once = ap (λ b. b && (repeats o || not (is_given o before))) taken ∙ by (cases_Bool (repeats o))
  where
    none : (n k r : ℕ) → n ≡ k + (1 + r) → n ≤ 1 → k ≡ 0
    none n k r e l = omega arith

    counted : times o (before ++ o ∷ value ∷ rest) ≡ times o before + (1 + times o rest)
    counted = times-append o before (o ∷ value ∷ rest) p ∙ ap (λ b. times o before + (one_if b + times o rest)) ((bytes_eq-Decides o o).1 refl)

    by : (repeats o ≡ true) ⊎ (repeats o ≡ false) → (repeats o || not (is_given o before)) ≡ true
    by (inl e) = ap (λ b. b || not (is_given o before)) e
    by (inr e) =
        ap (λ b. b || not (is_given o before)) e
        ∙ ap not (is_given-never o before (none (times o (before ++ o ∷ value ∷ rest)) (times o before) (times o rest) counted (once o e)))

-- the option that a command must have
pub has-required : (v : Verb) (options : List (List ℕ)) → lacks v options ≡ false → HasRequired v options
has-required verb.Link options h = tt
has-required verb.Check options h = not-false _ h
has-required verb.Run options h = not-false _ h
has-required verb.Exec options h = not-false _ h
has-required verb.Disasm options h = tt
has-required verb.Conditions options h = tt
has-required verb.Gen options h = tt

pub required-lacks : (v : Verb) (options : List (List ℕ)) → HasRequired v options → lacks v options ≡ false
required-lacks verb.Link options h = refl
required-lacks verb.Check options h = ap not h
required-lacks verb.Run options h = ap not h
required-lacks verb.Exec options h = ap not h
required-lacks verb.Disasm options h = refl
required-lacks verb.Conditions options h = refl
required-lacks verb.Gen options h = refl
