-- What the tests of facts tell of their truth.
use Rattle.std.proofs.Common.{◌≡◌, ◌≢◌, ℕ, ◌≤◌, ◌⊎◌, Bool, true, false, ◌&&◌, ◌||◌, ◌==◌, not, nat_le, List, [], ◌∷◌, Option, Some, None, refl, sym, ◌∙◌, ap, subst, arith, inl, inr}
use Rattle.std.specs.Prelude.{Contains}
use Rattle.std.specs.Bool.{Decides}
use Rattle.std.specs.Cmp.{unsigned_Decides}
use Rattle.std.specs.Cmp.Lexicographic.{bytes_decides}
use Rattle.std.proofs.lemmas.Bool.{and_parts, or_cases, not-true, both_ways, cases_eq, cases_lt, ltb-true, leb-true}
use Rattle.std.proofs.lemmas.Map.Made.{is_member-Decides}
use Rattle.bed_lang.specs.declared.word.Word.{Word}
use Rattle.bed_lang.specs.declared.word.Seq.{Seq}
use Rattle.bed_lang.specs.declared.logic.Pure.{Pure}
use Rattle.bed_lang.specs.declared.logic.Pure.TheVariants.{Equal, Unequal, Less, AtMost, Same, Member, NonMember, Code}
use Rattle.bed_lang.specs.Values.{Values, value, list_value}
use Rattle.bed_lang.specs.Forms.{word_form, seq_form, same_form}
use Rattle.bed_lang.proofs.ValueLaws.{value-small}
use Rattle.bed_lang.specs.Differences.{difference}
use Rattle.bed_forms.proofs.SameForms.{same_form-value, same_pieces-value}
use Rattle.bed_forms.proofs.DifferenceLaws.{constant-value, constant_difference-unequal, same_difference-equal, no_pieces-value}
use Rattle.bed_sat.specs.Facts.{IsTrueFact}
use Rattle.bed_lang.specs.SameFacts.{same_words, same_seqs, same_facts, negation, is_none, is_constant, is_number, at_most_by_norm, by_norm}

pub empty_if_none : {A : Type 0} (xs : List A) → is_none xs ≡ true → xs ≡ []
empty_if_none [] h = refl
empty_if_none (x ∷ xs) h = absurd (cc)

pub not_equal : (m n : ℕ) → not (m == n) ≡ true → m ≢ n
not_equal m n h e = both_ways (m == n) (not-true (m == n) h) ((unsigned_Decides m n).1 e)

flip : {A B : Type 0} → A ⊎ B → B ⊎ A
flip (inl x) = inr x
flip (inr y) = inl y

in_or_not : (xs : List ℕ) (x : ℕ) → Contains xs x ⊎ (Contains xs x → ⊥)
in_or_not xs x = by _ (is_member-Decides unsigned_Decides xs x)
  where
    by : (t : Bool) → Decides t (Contains xs x) → Contains xs x ⊎ (Contains xs x → ⊥)
    by true d = inl (d.0 refl)
    by false d = inr (λ p. both_ways false refl (d.1 p))

not_in_none : (x : ℕ) → Contains [] x → ⊥
not_in_none x (k, l, e) = omega arith

-- a word whose form is a constant has it as its value
pub constant_word-value : (labels : List ℕ → ℕ) (ν : Values) (w : Word) → is_constant (word_form w) ≡ true → value labels ν w ≡ (word_form w).constant
constant_word-value labels ν w h = constant-value labels ν w (empty_if_none (word_form w).parts h)

module _ (codes : ℕ → Option (List ℕ)) (labels : List ℕ → ℕ) (ν : Values) where
  abbrev Is : Pure → Type 0
  Is = IsTrueFact codes labels ν

  abbrev V : Word → ℕ
  V = value labels ν

  abbrev L : Seq → List ℕ
  L = list_value labels ν

  word : (a b : Word) → same_words a b ≡ true → V a ≡ V b
  word = same_form-value labels ν

  seq : (s t : Seq) → same_seqs s t ≡ true → L s ≡ L t
  seq = same_pieces-value labels ν

  -- where two facts are the same and the second is true, so is the first
  pub same_facts-true : (p q : Pure) → same_facts p q ≡ true → Is q → Is p
  same_facts-true (Equal a b) (Equal c d) h t = (same_difference-equal labels ν a b c d h).1 t
  same_facts-true (Unequal a b) (Unequal c d) h t = λ e. t ((same_difference-equal labels ν a b c d h).0 e)
  same_facts-true (Less a b) (Less c d) h t = let k = and_parts (same_words a c) (same_words b d) h in rw (word a c k.0, word b d k.1) t
  same_facts-true (AtMost a b) (AtMost c d) h t = let k = and_parts (same_words a c) (same_words b d) h in rw (word a c k.0, word b d k.1) t
  same_facts-true (Same s t') (Same u v) h t = let k = and_parts (same_seqs s u) (same_seqs t' v) h in seq s u k.0 ∙ t ∙ sym (seq t' v k.1)
  same_facts-true (Member a s) (Member b u) h t = let k = and_parts (same_words a b) (same_seqs s u) h in rw (word a b k.0, seq s u k.1) t
  same_facts-true (NonMember a s) (NonMember b u) h t = let k = and_parts (same_words a b) (same_seqs s u) h in rw (word a b k.0, seq s u k.1) t
  same_facts-true (Code a x) (Code b y) h t =
      let k = and_parts (same_words a b) _ h in ap codes (word a b k.0) ∙ t ∙ ap Some (sym ((bytes_decides x.bytes y.bytes).0 k.1))
  same_facts-true (Equal a b) _ h t = absurd (cc)
  same_facts-true (Unequal a b) _ h t = absurd (cc)
  same_facts-true (Less a b) _ h t = absurd (cc)
  same_facts-true (AtMost a b) _ h t = absurd (cc)
  same_facts-true (Same s t') _ h t = absurd (cc)
  same_facts-true (Member a s) _ h t = absurd (cc)
  same_facts-true (NonMember a s) _ h t = absurd (cc)
  same_facts-true (Code a x) _ h t = absurd (cc)

  -- of a fact and its negation one is true, and not both are
  abbrev Opposes : Pure → Option Pure → Type 0
  Opposes p None = Unit {0}
  Opposes p (Some q) = (Is p ⊎ Is q) × (Is p → Is q → ⊥)

  opposes : (p : Pure) → Opposes p (negation p)
  opposes (Equal a b) = (cases_eq (V a) (V b), λ t u. u t)
  opposes (Unequal a b) = (flip (cases_eq (V a) (V b)), λ t u. t u)
  opposes (Less a b) = (cases_lt (V a) (V b), λ t u. omega arith)
  opposes (AtMost a b) = (flip (cases_lt (V b) (V a)), λ t u. omega arith)
  opposes (Same s t) = tt
  opposes (Member a s) = (in_or_not (L s) (V a), λ t u. u t)
  opposes (NonMember a s) = (flip (in_or_not (L s) (V a)), λ t u. t u)
  opposes (Code a name) = tt

  pub one_true : (p q : Pure) → negation p ≡ Some q → Is p ⊎ Is q
  one_true p q e = (subst (Opposes p) e (opposes p)).0

  pub not_both : (p q : Pure) → negation p ≡ Some q → Is p → Is q → ⊥
  not_both p q e = (subst (Opposes p) e (opposes p)).1

  is_number-value : (n : ℕ) (w : Word) → is_number n (word_form w) ≡ true → V w ≡ n
  is_number-value n w h =
      let k = and_parts (is_constant (word_form w)) ((word_form w).constant == n) h in constant_word-value labels ν w k.0 ∙ (unsigned_Decides (word_form w).constant n).0 k.1

  -- two words with constant forms
  numbers : (a b : Word) (t : Bool) → (is_constant (word_form a) && is_constant (word_form b) && t) ≡ true
      → (V a ≡ (word_form a).constant) × (V b ≡ (word_form b).constant) × (t ≡ true)
  numbers a b t h =
      let k = and_parts (is_constant (word_form a) && is_constant (word_form b)) t h in
      let j = and_parts (is_constant (word_form a)) (is_constant (word_form b)) k.0 in (constant_word-value labels ν a j.0, constant_word-value labels ν b j.1, k.1)

  at_most : (a b : Word) → at_most_by_norm (word_form a) (word_form b) ≡ true → V a ≤ V b
  at_most a b h =
      let f = word_form a in let g = word_form b in
      let constants = is_constant f && is_constant g && nat_le f.constant g.constant in
      elim (or_cases (same_form f g || is_number 0 f || is_number 4294967295 g) constants h) [
        | inr u ↦ (let k = numbers a b _ u in let l = leb-true f.constant g.constant k.2 in omega arith)
        | inl s ↦ elim (or_cases (same_form f g || is_number 0 f) (is_number 4294967295 g) s) [
          | inr u ↦ (let e = is_number-value 4294967295 b u in let l = value-small labels ν a in omega arith)
          | inl t ↦ elim (or_cases (same_form f g) (is_number 0 f) t) [
            | inr u ↦ (let e = is_number-value 0 a u in omega arith)
            | inl u ↦ (let e = word a b u in omega arith)
          ]
        ]
      ]

  -- what holds by its normal form is true
  pub by_norm-true : (p : Pure) → by_norm p ≡ true → Is p
  by_norm-true (Equal a b) h = word a b h
  by_norm-true (Unequal a b) h =
      let f = difference a b in
      let k = and_parts (is_constant f) (not (f.constant == 0)) h in
      constant_difference-unequal labels ν a b (empty_if_none f.parts k.0) (not_equal f.constant 0 k.1)
  by_norm-true (Less a b) h = let k = numbers a b _ h in let l = ltb-true (word_form a).constant (word_form b).constant k.2 in omega arith
  by_norm-true (AtMost a b) h = at_most a b h
  by_norm-true (Same s t) h = seq s t h
  by_norm-true (Member a s) h = absurd (cc)
  by_norm-true (NonMember a s) h = rw (no_pieces-value labels ν s (empty_if_none (seq_form s) h)) (not_in_none (V a))
  by_norm-true (Code a name) h = absurd (cc)
