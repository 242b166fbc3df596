-- What is left of a loop over options when fewer than two words are left, and one more step of it.
use Rattle.std.proofs.Common.{◌≡◌, ℕ, suc, zero, ◌+◌, ◌-◌, ◌<◌, ◌≤◌, List, [], ◌∷◌, ◌++◌, length, take, drop, get_or, map, refl, sym, ap, ◌∙◌, subst, arith, None, Ok, Err, true, false}
use Rattle.std.specs.Prelude.{Result}
use Rattle.std.proofs.lemmas.List.{take-map, drop-map, map-append}
use Rattle.std.proofs.lemmas.Grind.{common_steps}
use Rattle.bed_words.specs.declared.verb.Verb.{Verb}
use Rattle.bed_words.specs.declared.verb.Verb.TheVariants as verb
use Rattle.bed_words.specs.declared.command.Command.{Command}
use Rattle.bed_words.specs.Options.{times, is_option, fits}
use Rattle.bed_words.specs.Commands.{value_of, values_of, IsPlain}
use Rattle.bed_words.specs.Reading.{read_plain, read_files, read_options, later, may_come}
use Rattle.bed_words.proofs.ReadingLemmas.{read-plain_words, read-refused, read-open, read-unfit, read-further}

module _ {X : Type 0} (f : X → List ℕ) where
  pub times-short : (name : List ℕ) (xs : List X) → length xs < 2 → times name (map f xs) ≡ 0
  times-short name [] l = refl
  times-short name (x ∷ []) l = refl
  times-short name (x ∷ y ∷ xs) l = absurd (omega arith)

  pub value_of-short : (name : List ℕ) (xs : List X) → length xs < 2 → value_of name (map f xs) ≡ None
  value_of-short name [] l = refl
  value_of-short name (x ∷ []) l = refl
  value_of-short name (x ∷ y ∷ xs) l = absurd (omega arith)

  pub values_of-short : (name : List ℕ) (xs : List X) → length xs < 2 → values_of name (map f xs) ≡ []
  values_of-short name [] l = refl
  values_of-short name (x ∷ []) l = refl
  values_of-short name (x ∷ y ∷ xs) l = absurd (omega arith)

  -- more than two plain words of `exec`
  pub exec-long : (o : List (List ℕ)) (xs : List X) → 3 ≤ length xs → read_plain verb.Exec o (map f xs) ≡ Err 2
  exec-long o [] l = absurd (omega arith)
  exec-long o (x ∷ []) l = absurd (omega arith)
  exec-long o (x ∷ y ∷ []) l = absurd (omega arith)
  exec-long o (x ∷ y ∷ z ∷ xs) l = refl

-- what a slice from a place on has
pub rest_is : {X : Type 0} (xs : List X) (p : ℕ) → take (length xs - p) (drop p xs) ≡ drop p xs
rest_is xs p = grind (arith, common_steps)

first_is : {X : Type 0} (ys : List X) (o : X) → o ≡ get_or ys 0 o → 1 ≤ length ys → ys ≡ o ∷ drop 1 ys
first_is [] o e l = absurd (omega arith)
first_is (y ∷ ys) o e l = ap (λ z. z ∷ ys) (sym e)

-- two elements from a place on
pub record HasTwo {X : Type 0} (xs : List X) (p : ℕ) (o w : X) (rest : List X) : Type 0 where
  pub front : take (suc (suc p)) xs ≡ take p xs ++ o ∷ w ∷ []
  pub back : drop (suc (suc p)) xs ≡ rest
  pub room : suc (suc p) ≤ length xs

has_two : {X : Type 0} (xs : List X) (p : ℕ) (o w : X) (rest : List X) → drop p xs ≡ o ∷ w ∷ rest → HasTwo xs p o w rest
has_two [] zero o w rest e = absurd (cc)
has_two (x ∷ []) zero o w rest e = absurd (cc)
has_two (x ∷ y ∷ xs) zero o w rest e =
    let a : x ≡ o = cc in
    let b : y ≡ w = cc in
    record { front = ap (λ z. z ∷ y ∷ []) a ∙ ap (λ z. o ∷ z ∷ []) b; back = cc; room = omega arith }
has_two [] (suc p) o w rest e = absurd (cc)
has_two (x ∷ xs) (suc p) o w rest e =
    let r : HasTwo xs p o w rest = has_two xs p o w rest e in
    let room : suc (suc p) ≤ length xs = r.room in
    record { front = ap (λ z. x ∷ z) r.front; back = r.back; room = omega arith }

module _ {X : Type 0} (f : X → List ℕ) (v : Verb) (xs : List X) (p : ℕ) where
  -- the words from this place on are read as all words are
  abbrev pub SoFar : Type 0
  SoFar = read_options v [] (map f xs) ≡ later p (read_options v (map f (take p xs)) (map f (drop p xs)))

  pub empty-plain : (ys : List X) → length ys < 1 → IsPlain (map f ys)
  empty-plain [] l = tt
  empty-plain (y ∷ ys) l = absurd (omega arith)

  pub first-plain : (ys : List X) (o : X) → o ≡ get_or ys 0 o → 1 ≤ length ys → is_option (f o) ≡ false → IsPlain (map f ys)
  first-plain ys o e l plain = subst (λ z. IsPlain (map f z)) (sym (first_is ys o e l)) plain

  pub ends : SoFar → IsPlain (map f (take (length xs - p) (drop p xs)))
      → read_options v [] (map f xs) ≡ later p (read_files v (take p (map f xs)) (drop p (map f xs)))
  ends s plain =
      s ∙ ap (later p) (read-plain_words v (map f (take p xs)) (map f (drop p xs)) (subst (λ z. IsPlain (map f z)) (rest_is xs p) plain))
      ∙ ap (λ b. later p (read_files v b (map f (drop p xs)))) (sym (take-map f p xs))
      ∙ ap (λ r. later p (read_files v (take p (map f xs)) r)) (sym (drop-map f p xs))

  -- what stands from this place on
  module _ (o : X) (is : o ≡ get_or (take (length xs - p) (drop p xs)) 0 o) (some : 1 ≤ length (take (length xs - p) (drop p xs)))
      (option : is_option (f o) ≡ true) where
    abbrev Rest : List X
    Rest = take (length xs - p) (drop p xs)

    abbrev Values : List X
    Values = take (length Rest - 1) (drop 1 Rest)

    opened : drop p xs ≡ o ∷ Values
    opened = sym (rest_is xs p) ∙ first_is Rest o is some ∙ ap (λ z. o ∷ z) (sym (rest_is Rest 1))

    at_place : (k : ℕ) → read_options v (map f (take p xs)) (map f (o ∷ Values)) ≡ Err k → SoFar → read_options v [] (map f xs) ≡ Err (k + p)
    at_place k e s = s ∙ ap (λ z. later p (read_options v (map f (take p xs)) (map f z))) opened ∙ ap (later p) e

    pub wrong-option : SoFar → may_come v (map f (take p xs)) (f o) ≡ false → read_options v [] (map f xs) ≡ Err p
    wrong-option s m =
        at_place 0 (read-refused v (map f (take p xs)) (f o) (map f Values) option m) s
        ∙ ap (λ n. Err n) (same p)
      where
        same : (p : ℕ) → 0 + p ≡ p
        same p = omega arith

    module _ (may : may_come v (map f (take p xs)) (f o) ≡ true) where
      next : (k p : ℕ) → k + p ≡ p + k
      next k p = omega arith

      none : (zs : List X) → length zs < 1 → zs ≡ []
      none [] l = refl
      none (z ∷ zs) l = absurd (omega arith)

      pub wrong-end : SoFar → length Values < 1 → read_options v [] (map f xs) ≡ Err (p + 1)
      wrong-end s l =
          at_place 1
          (ap (λ z. read_options v (map f (take p xs)) (map f (o ∷ z))) (none Values l)
          ∙ read-open v (map f (take p xs)) (f o) option may) s
          ∙ ap (λ n. Err n) (next 1 p)

      module _ (w : X) (w_is : w ≡ get_or Values 0 w) (more : 1 ≤ length Values) where
        two : o ∷ Values ≡ o ∷ w ∷ drop 1 Values
        two = ap (λ z. o ∷ z) (first_is Values w w_is more)

        pub wrong-value : SoFar → fits (f o) (f w) ≡ false → read_options v [] (map f xs) ≡ Err (p + 1)
        wrong-value s g =
            at_place 1
            (ap (λ z. read_options v (map f (take p xs)) (map f z)) two
            ∙ read-unfit v (map f (take p xs)) (f o) (f w) (map f (drop 1 Values)) option may g) s
            ∙ ap (λ n. Err n) (next 1 p)

        taken : HasTwo xs p o w (drop 1 Values)
        taken = has_two xs p o w (drop 1 Values) (opened ∙ two)

        plus_two : p + 2 ≡ suc (suc p)
        plus_two = omega arith

        pub room : p + 2 ≤ length xs
        room = subst (λ n. n ≤ length xs) (sym plus_two) taken.room

        twice : (r : Result Command ℕ) → later p (later 2 r) ≡ later (p + 2) r
        twice (Ok c) = refl
        twice (Err i) = ap (λ n. Err n) (sums i p)
          where
            sums : (i p : ℕ) → (i + 2) + p ≡ i + (p + 2)
            sums i p = omega arith

        pub goes_on : SoFar → fits (f o) (f w) ≡ true
            → read_options v [] (map f xs) ≡ later (p + 2) (read_options v (map f (take (p + 2) xs)) (map f (drop (p + 2) xs)))
        goes_on s g =
            s ∙ ap (λ z. later p (read_options v (map f (take p xs)) (map f z))) (opened ∙ two)
            ∙ ap (later p) (read-further v (map f (take p xs)) (f o) (f w) (map f (drop 1 Values)) option may g)
            ∙ twice (read_options v (map f (take p xs) ++ f o ∷ f w ∷ []) (map f (drop 1 Values)))
            ∙ ap (λ b. later (p + 2) (read_options v b (map f (drop 1 Values)))) (sym (map-append f (take p xs) (o ∷ w ∷ [])))
            ∙ ap (λ b. later (p + 2) (read_options v (map f b) (map f (drop 1 Values)))) (sym (ap (λ n. take n xs) plus_two ∙ taken.front))
            ∙ ap (λ b. later (p + 2) (read_options v (map f (take (p + 2) xs)) (map f b))) (sym (ap (λ n. drop n xs) plus_two ∙ taken.back))
