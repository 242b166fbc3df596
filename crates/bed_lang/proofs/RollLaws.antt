-- What a definition over words or sequences gives, by the outermost part of one.
use Rattle.std.proofs.Common.{◌≡◌, ℕ, Bool, List, ap, ◌∙◌}
use Rattle.bed_lang.specs.declared.word.Word.{Word, out-Word, roll-Word, out-roll-Word, map-Word, fold-roll-Word}
use Rattle.bed_lang.specs.declared.word.Word.TheOpen.{Word-F}
use Rattle.bed_lang.specs.declared.word.Seq.{Seq, out-Seq, roll-Seq, out-roll-Seq, map-Seq, fold-roll-Seq}
use Rattle.bed_lang.specs.declared.word.Seq.TheOpen.{Seq-F}
use Rattle.bed_lang.specs.Same.{same_word, same_word_layer, same_seq, same_seq_layer}
use Rattle.bed_lang.specs.Values.{Values, value, value_step, list_value, list_value_step}
use Rattle.bed_lang.specs.Instances.{Instance, word_with, word_with_step, seq_with, seq_with_step}

module _ (labels : List ℕ → ℕ) (ν : Values) where
  pub value_roll : (x : Word-F Word) → value labels ν (roll-Word x) ≡ value_step labels ν (map-Word Word ℕ (value labels ν) x)
  value_roll = fold-roll-Word ℕ (value_step labels ν)

  pub list_roll : (x : Seq-F Seq) → list_value labels ν (roll-Seq x) ≡ list_value_step labels ν (map-Seq Seq (List ℕ) (list_value labels ν) x)
  list_roll = fold-roll-Seq (List ℕ) (list_value_step labels ν)

module _ (σ : Instance) where
  pub word_with-roll : (x : Word-F Word) → word_with σ (roll-Word x) ≡ word_with_step σ (map-Word Word Word (word_with σ) x)
  word_with-roll = fold-roll-Word Word (word_with_step σ)

  pub seq_with-roll : (x : Seq-F Seq) → seq_with σ (roll-Seq x) ≡ seq_with_step σ (map-Seq Seq Seq (seq_with σ) x)
  seq_with-roll = fold-roll-Seq Seq (seq_with_step σ)

pub same_word-roll : (x z : Word-F Word) → same_word (roll-Word x) (roll-Word z) ≡ same_word_layer (map-Word Word (Word → Bool) same_word x) z
same_word-roll x z =
    ap (λ f. f (roll-Word z)) (fold-roll-Word (Word → Bool) (λ y. λ w. same_word_layer y (out-Word w)) x)
    ∙ ap (same_word_layer (map-Word Word (Word → Bool) same_word x)) (out-roll-Word z)

pub same_seq-roll : (x z : Seq-F Seq) → same_seq (roll-Seq x) (roll-Seq z) ≡ same_seq_layer (map-Seq Seq (Seq → Bool) same_seq x) z
same_seq-roll x z =
    ap (λ f. f (roll-Seq z)) (fold-roll-Seq (Seq → Bool) (λ y. λ s. same_seq_layer y (out-Seq s)) x)
    ∙ ap (same_seq_layer (map-Seq Seq (Seq → Bool) same_seq x)) (out-roll-Seq z)
