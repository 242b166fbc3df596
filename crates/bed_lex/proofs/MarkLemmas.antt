-- The tables of the code are those of the definition, and what the mark at the front is.
use Rattle.std.proofs.Common.{◌≡◌, ℕ, suc, zero, ◌<◌, ◌≤◌, ◌++◌, Bool, true, false, ◌&&◌, nat_eq, nat_lt, nat_le, List, [], ◌∷◌, length, drop, map, Option, Some, refl, sym, ap, ◌∙◌, subst, arith, length-append}
use Rattle.std.specs.Prelude.{position, find, slice_get}
use Rattle.std.specs.List.{list_all, starts_with, position_or_len}
use Rattle.std.specs.Cmp.{unsigned_Decides}
use Rattle.std.specs.Str.{bytes_eq}
use Rattle.std.proofs.lemmas.Bool.Decides.{nat_tests}
use Rattle.std.proofs.lemmas.Slice.Eq.{starts_is}
use Rattle.std.proofs.lemmas.Bool.{and_parts}
use Rattle.bed_lex.specs.declared.token.TheConstants.{WORDS, MARKS}
use Rattle.bed_lex.specs.Words.{reserved_words, marks, fixed_words, longest_first}
use Rattle.bed_lex.specs.Tokens.{stands, fixed_word, mark_at, IsLongestMark}

-- the tables of the code
words_are : map (λ w. w.now) WORDS ≡ fixed_words
unfolding fixed_words reserved_words marks
words_are = refl

marks_are : map (λ m. m.now) MARKS ≡ longest_first
unfolding longest_first
marks_are = refl

position_or_len-map : {X Y : Type 0} (f : X → Y) (p : Y → Bool) (xs : List X) → position_or_len (λ x. p (f x)) xs ≡ position_or_len p (map f xs)
position_or_len-map f p [] = refl
position_or_len-map f p (x ∷ xs) = rw (position_or_len-map f p xs) refl

length-mapped : {X Y : Type 0} (f : X → Y) (xs : List X) → length (map f xs) ≡ length xs
length-mapped f [] = refl
length-mapped f (x ∷ xs) = rw (length-mapped f xs) refl

position-map : {X Y : Type 0} (f : X → Y) (p : Y → Bool) (xs : List X) → position (λ x. p (f x)) xs ≡ position p (map f xs)
position-map f p xs = rw (position_or_len-map f p xs, length-mapped f xs) refl

pub fixed_in_words : (word : List ℕ) → position (λ w. bytes_eq w.now word) WORDS ≡ fixed_word word
unfolding fixed_word
fixed_in_words word = position-map (λ w. w.now) (λ w. bytes_eq w word) WORDS ∙ ap (position (λ w. bytes_eq w word)) words_are

pub mark_in_marks : (text : List ℕ) → find (stands text) (map (λ m. m.now) MARKS) ≡ mark_at text
unfolding mark_at
mark_in_marks text = ap (find (stands text)) marks_are

-- what begins a text isn't longer
fits : (text mark : List ℕ) → stands text mark ≡ true → length mark ≤ length text
fits text mark h =
    let all : text ≡ mark ++ drop (length mark) text = (starts_is unsigned_Decides text mark (starts_with nat_eq text mark) refl).0 (and_parts _ _ h).0 in
    omega (arith, ap length all, length-append mark (drop (length mark) text))

lt_true : (n : ℕ) → nat_lt 0 n ≡ true → 0 < n
lt_true n h = grind (arith, nat_tests)

le_true : (n k : ℕ) → nat_le n k ≡ true → n ≤ k
le_true n k h = grind (arith, nat_tests)

-- a test of each item holds of one that is found
found_passes : {X : Type 0} (q p : X → Bool) (xs : List X) (x : X) → list_all q xs ≡ true → find p xs ≡ Some x → (q x ≡ true) × (p x ≡ true)
found_passes q p [] x all e = absurd (cc)
found_passes {X = X} q p (y ∷ ys) x all e = by_test (p y) refl (found_passes q p ys x (and_parts (q y) (list_all q ys) all).1)
  where
    by_test : (b : Bool) → p y ≡ b → (find p ys ≡ Some x → (q x ≡ true) × (p x ≡ true)) → (q x ≡ true) × (p x ≡ true)
    by_test true t later = let same : y ≡ x = some_same (sym (first t) ∙ e) in subst (λ (z : X). (q z ≡ true) × (p z ≡ true)) same ((and_parts (q y) (list_all q ys) all).0, t)
      where
        first : p y ≡ true → find p (y ∷ ys) ≡ Some y
        first h = rw h refl

        some_same : ◌≡◌ {A = Option X} (Some y) (Some x) → y ≡ x
        some_same h = cc
    by_test false t later = later (sym (rest t) ∙ e)
      where
        rest : p y ≡ false → find p (y ∷ ys) ≡ find p ys
        rest h = rw h refl

pub mark_sized : (text m : List ℕ) → mark_at text ≡ Some m → (0 < length m) × (length m ≤ length text)
unfolding mark_at longest_first
mark_sized text m e =
    let h = found_passes (λ x. nat_lt 0 (length x)) (stands text) longest_first m refl e in
    (lt_true (length m) h.0, fits text m h.1)

-- no item is longer than one before it
abbrev falls : List (List ℕ) → Bool
falls [] = true
falls (x ∷ xs) = list_all (λ y. nat_le (length y) (length x)) xs && falls xs

-- a test of each item holds of each item
passes : {X : Type 0} (p : X → Bool) (xs : List X) (k : ℕ) (x : X) → list_all p xs ≡ true → slice_get xs k ≡ Some x → p x ≡ true
passes p [] k x all at = absurd (cc)
passes p (y ∷ ys) zero x all at = let same : y ≡ x = cc in subst (λ (z : _). p z ≡ true) same (and_parts (p y) (list_all p ys) all).0
passes p (y ∷ ys) (suc k) x all at = passes p ys k x (and_parts (p y) (list_all p ys) all).1 at

first_is_longest : (p : List ℕ → Bool) (xs : List (List ℕ)) (x other : List ℕ) (k : ℕ) → falls xs ≡ true → find p xs ≡ Some x
    → slice_get xs k ≡ Some other → p other ≡ true → length other ≤ length x
first_is_longest p [] x other k h e at there = absurd (cc)
first_is_longest p (y ∷ ys) x other k h e at there =
    by_test (p y) refl k at (λ j. first_is_longest p ys x other j (and_parts _ (falls ys) h).1)
  where
    some_same : (a b : List ℕ) → ◌≡◌ {A = Option (List ℕ)} (Some a) (Some b) → a ≡ b
    some_same a b q = cc

    by_test : (b : Bool) → p y ≡ b → (j : ℕ) → slice_get (y ∷ ys) j ≡ Some other
        → ((i : ℕ) → find p ys ≡ Some x → slice_get ys i ≡ Some other → p other ≡ true → length other ≤ length x) → length other ≤ length x
    by_test true t zero at' later =
        let same : y ≡ x = some_same y x (sym (rw t refl) ∙ e) in let this : y ≡ other = some_same y other at' in
        omega (arith, ap length same, ap length this)
    by_test true t (suc i) at' later =
        let same : y ≡ x = some_same y x (sym (rw t refl) ∙ e) in
        let short : length other ≤ length y = le_true _ _ (passes (λ z. nat_le (length z) (length y)) ys i other (and_parts _ (falls ys) h).0 at') in
        omega (arith, ap length same, short)
    by_test false t zero at' later = let this : y ≡ other = some_same y other at' in let no : p other ≡ false = subst (λ (z : List ℕ). p z ≡ false) this t in absurd (cc)
    by_test false t (suc i) at' later = later i (sym (rw t refl) ∙ e) at' there

pub longest : (text m : List ℕ) → IsLongestMark text m
unfolding mark_at longest_first
longest text m e = λ k other at there. first_is_longest (stands text) longest_first m other k refl e at there
