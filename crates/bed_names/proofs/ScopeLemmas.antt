-- The sort of a variable among the parts of a scope.
use Rattle.std.proofs.Common.{◌≡◌, ◌∙◌, sym, ap, refl, Bool, true, false, List, [], ◌∷◌, ◌++◌, Option, None, Some}
use Rattle.std.specs.Prelude.{if◌then◌else◌, bytes_eq, ◌||◌}
use Rattle.std.specs.Option.{option_or}
use Rattle.bed_lang.specs.declared.word.Name.{Name}
use Rattle.bed_lang.specs.declared.word.Sort.{Sort}
use Rattle.bed_lang.specs.declared.word.Sort.TheVariants as sort
use Rattle.bed_lang.specs.declared.logic.Bind.{Bind}
use Rattle.bed_names.specs.Names.{is_among, sort_of, words, sequences}

option_or-if : (t : Bool) (s : Sort) (a b : Option Sort)
    → (if t then Some s else option_or a b) ≡ option_or (if t then Some s else a) b
option_or-if true s a b = refl
option_or-if false s a b = refl

pub sort_of_append : (xs ys : List Bind) (x : Name) → sort_of (xs ++ ys) x ≡ option_or (sort_of xs x) (sort_of ys x)
sort_of_append [] ys x = refl
sort_of_append (b ∷ xs) ys x =
    ap (λ o. if bytes_eq x.bytes b.name.bytes then Some b.sort else o) (sort_of_append xs ys x)
    ∙ option_or-if (bytes_eq x.bytes b.name.bytes) b.sort (sort_of xs x) (sort_of ys x)

sort_if : (t u : Bool) (s : Sort)
    → (if t then Some s else (if u then Some s else None)) ≡ (if t || u then Some s else None)
sort_if true u s = refl
sort_if false u s = refl

pub sort_of_words : (ys : List Name) (x : Name) → sort_of (words ys) x ≡ (if is_among ys x then Some sort.Word else None)
sort_of_words [] x = refl
sort_of_words (y ∷ ys) x =
    ap (λ o. if bytes_eq x.bytes y.bytes then Some sort.Word else o) (sort_of_words ys x)
    ∙ sort_if (bytes_eq x.bytes y.bytes) (is_among ys x) sort.Word

pub sort_of_sequences : (ys : List Name) (x : Name) → sort_of (sequences ys) x ≡ (if is_among ys x then Some sort.Seq else None)
sort_of_sequences [] x = refl
sort_of_sequences (y ∷ ys) x =
    ap (λ o. if bytes_eq x.bytes y.bytes then Some sort.Seq else o) (sort_of_sequences ys x)
    ∙ sort_if (bytes_eq x.bytes y.bytes) (is_among ys x) sort.Seq

module _ (params : List Name) (logical : List Bind) (locals : List Name) (x : Name) where
  abbrev outside : List Bind
  outside = words params ++ (logical ++ words locals)

  abbrev if_word : Bool → Option Sort
  if_word b = if b then Some sort.Word else None

  outer_parts : sort_of outside x ≡ option_or (if_word (is_among params x)) (option_or (sort_of logical x) (if_word (is_among locals x)))
  outer_parts =
      sort_of_append (words params) _ x
      ∙ (ap (λ a. option_or a (sort_of (logical ++ words locals) x)) (sort_of_words params x)
      ∙ ap (option_or (if_word (is_among params x))) (sort_of_append logical _ x
      ∙ ap (option_or (sort_of logical x)) (sort_of_words locals x)))

  pub in_params : is_among params x ≡ true → Some sort.Word ≡ sort_of outside x
  in_params p = sym (outer_parts ∙ ap (λ p. option_or (if_word p) (option_or (sort_of logical x) (if_word (is_among locals x)))) p)

  behind_params : is_among params x ≡ false → sort_of outside x ≡ option_or (sort_of logical x) (if_word (is_among locals x))
  behind_params p = outer_parts ∙ ap (λ p. option_or (if_word p) (option_or (sort_of logical x) (if_word (is_among locals x)))) p

  pub in_logical : (s : Sort) → is_among params x ≡ false → sort_of logical x ≡ Some s → Some s ≡ sort_of outside x
  in_logical s p a = sym (behind_params p ∙ ap (λ a. option_or a (if_word (is_among locals x))) a)

  pub in_locals : (b : Bool) → is_among params x ≡ false → sort_of logical x ≡ None → is_among locals x ≡ b
      → if_word b ≡ sort_of outside x
  in_locals b p a l = sym (behind_params p ∙ ap (λ a. option_or a (if_word (is_among locals x))) a ∙ ap if_word l)

module _ (names : List Bind) (lists : List Name) (binders : List Bind) (x : Name) where
  abbrev inside : List Bind
  inside = (names ++ sequences lists) ++ binders

  abbrev if_seq : Bool → Option Sort
  if_seq b = if b then Some sort.Seq else None

  inner_parts : sort_of inside x ≡ option_or (option_or (sort_of names x) (if_seq (is_among lists x))) (sort_of binders x)
  inner_parts =
      sort_of_append (names ++ sequences lists) binders x
      ∙ ap (λ a. option_or a (sort_of binders x)) (sort_of_append names (sequences lists) x
      ∙ ap (option_or (sort_of names x)) (sort_of_sequences lists x))

  pub in_names : (s : Sort) → sort_of names x ≡ Some s → Some s ≡ sort_of inside x
  in_names s a = sym (inner_parts ∙ ap (λ a. option_or (option_or a (if_seq (is_among lists x))) (sort_of binders x)) a)

  pub in_lists : sort_of names x ≡ None → is_among lists x ≡ true → Some sort.Seq ≡ sort_of inside x
  in_lists a q =
      sym (inner_parts ∙ ap (λ a. option_or (option_or a (if_seq (is_among lists x))) (sort_of binders x)) a
      ∙ ap (λ q. option_or (if_seq q) (sort_of binders x)) q)

  pub in_binders : sort_of names x ≡ None → is_among lists x ≡ false → sort_of binders x ≡ sort_of inside x
  in_binders a q =
      sym (inner_parts ∙ ap (λ a. option_or (option_or a (if_seq (is_among lists x))) (sort_of binders x)) a
      ∙ ap (λ q. option_or (if_seq q) (sort_of binders x)) q)

or_assoc : (t a b : Bool) → (t || (a || b)) ≡ ((t || a) || b)
or_assoc true a b = refl
or_assoc false a b = refl

is_among_append : (xs ys : List Name) (x : Name) → is_among (xs ++ ys) x ≡ (is_among xs x || is_among ys x)
is_among_append [] ys x = refl
is_among_append (y ∷ xs) ys x =
    ap (λ b. bytes_eq x.bytes y.bytes || b) (is_among_append xs ys x)
    ∙ or_assoc (bytes_eq x.bytes y.bytes) (is_among xs x) (is_among ys x)

pub is_in_first : (xs ys : List Name) (x : Name) → is_among xs x ≡ true → true ≡ is_among (xs ++ ys) x
is_in_first xs ys x p = sym (is_among_append xs ys x ∙ ap (λ b. b || is_among ys x) p)

pub is_in_second : (xs ys : List Name) (x : Name) → is_among xs x ≡ false → is_among ys x ≡ is_among (xs ++ ys) x
is_in_second xs ys x p = sym (is_among_append xs ys x ∙ ap (λ b. b || is_among ys x) p)
