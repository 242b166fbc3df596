-- When two facts are the same, what the negation of a fact is, and which facts hold by their normal forms.
use Rattle.std.specs.Prelude.{ℕ, Bool, true, false, ◌&&◌, ◌||◌, ◌==◌, not, nat_lt, nat_le, List, [], ◌∷◌, Option, Some, None}
use Rattle.std.specs.Cmp.Lexicographic.{pointwise}
use Rattle.bed_lang.specs.declared.form.Form.{Form}
use Rattle.bed_lang.specs.declared.word.Word.{Word}
use Rattle.bed_lang.specs.declared.word.Seq.{Seq}
use Rattle.bed_lang.specs.declared.logic.Pure.{Pure}
use Rattle.bed_lang.specs.declared.logic.Pure.TheVariants.{Equal, Unequal, Less, AtMost, Same, Member, NonMember, Code}
use Rattle.bed_lang.specs.Same.{same_name}
use Rattle.bed_lang.specs.Forms.{word_form, seq_form, same_form, same_piece}
use Rattle.bed_lang.specs.Differences.{difference, same_difference}

-- words and sequences are read through their normal forms
abbrev pub same_words : Word → Word → Bool
same_words a b = same_form (word_form a) (word_form b)

abbrev pub same_seqs : Seq → Seq → Bool
same_seqs s t = pointwise same_piece (seq_form s) (seq_form t)

-- two facts are the same where their kinds and normal forms are; `=` and `!=` compare the difference of their sides up to sign
abbrev pub same_facts : Pure → Pure → Bool
same_facts (Equal a b) (Equal c d) = same_difference a b c d
same_facts (Unequal a b) (Unequal c d) = same_difference a b c d
same_facts (Less a b) (Less c d) = same_words a c && same_words b d
same_facts (AtMost a b) (AtMost c d) = same_words a c && same_words b d
same_facts (Same s t) (Same u v) = same_seqs s u && same_seqs t v
same_facts (Member a s) (Member b t) = same_words a b && same_seqs s t
same_facts (NonMember a s) (NonMember b t) = same_words a b && same_seqs s t
same_facts (Code a name) (Code b other) = same_words a b && same_name name other
same_facts _ _ = false

-- the negation of a fact; equations of sequences and `code` have none
abbrev pub negation : Pure → Option Pure
negation (Equal a b) = Some (Unequal a b)
negation (Unequal a b) = Some (Equal a b)
negation (Less a b) = Some (AtMost b a)
negation (AtMost a b) = Some (Less b a)
negation (Same s t) = None
negation (Member a s) = Some (NonMember a s)
negation (NonMember a s) = Some (Member a s)
negation (Code a name) = None

abbrev pub is_none : {A : Type 0} → List A → Bool
is_none [] = true
is_none (x ∷ xs) = false

-- a form with a constant alone, and with this one
abbrev pub is_constant : Form → Bool
is_constant f = is_none f.parts

abbrev pub is_number : ℕ → Form → Bool
is_number n f = is_constant f && (f.constant == n)

abbrev pub less_by_norm : Form → Form → Bool
less_by_norm f g = is_constant f && is_constant g && nat_lt f.constant g.constant

abbrev pub at_most_by_norm : Form → Form → Bool
at_most_by_norm f g =
    same_form f g || is_number 0 f || is_number 4294967295 g || (is_constant f && is_constant g && nat_le f.constant g.constant)

-- What holds by its normal form: an equation of equal forms; an inequality whose difference is a constant other than 0; a true
-- comparison of constants; `e <= e`, `0 <= e` and `e <= 4294967295`; an equation of sequences with equal forms; `e notin s`
-- where s has no pieces.
abbrev pub by_norm : Pure → Bool
by_norm (Equal a b) = same_words a b
by_norm (Unequal a b) = is_constant (difference a b) && not ((difference a b).constant == 0)
by_norm (Less a b) = less_by_norm (word_form a) (word_form b)
by_norm (AtMost a b) = at_most_by_norm (word_form a) (word_form b)
by_norm (Same s t) = same_seqs s t
by_norm (Member a s) = false
by_norm (NonMember a s) = is_none (seq_form s)
by_norm (Code a name) = false
