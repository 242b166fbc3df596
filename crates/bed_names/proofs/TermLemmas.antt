-- The faults of composed words and sequences.
use Rattle.std.proofs.Common.{◌≡◌, ℕ, suc, ◌+◌, ◌<◌, length, drop, get_or, drop-cons, add-one, ◌∙◌, sym, ap, Bool, List, ◌++◌, Option}
use Rattle.bed_lang.specs.declared.word.Word.{Word, Add, Sub, fold-roll-Word}
use Rattle.bed_lang.specs.declared.word.Word.TheOpen.{Word-F}
use Rattle.bed_lang.specs.declared.word.Word.TheVariants.{rolls-Add, rolls-Sub}
use Rattle.bed_lang.specs.declared.word.Seq.{Seq, Cons, App, fold-roll-Seq}
use Rattle.bed_lang.specs.declared.word.Seq.TheOpen.{Seq-F}
use Rattle.bed_lang.specs.declared.word.Seq.TheVariants.{rolls-Cons, rolls-App}
use Rattle.bed_lang.specs.declared.word.Sort.{Sort}
use Rattle.bed_lang.specs.declared.logic.Arg.{Arg}
use Rattle.bed_lang.specs.declared.logic.Bind.{Bind}
use Rattle.bed_names.specs.declared.error.NameError.{NameError}
use Rattle.bed_names.specs.Faults.{noted}
use Rattle.bed_names.specs.Terms.{Visible, word_step, word_faults, seq_step, seq_faults, first_sort, behind_first, arg_faults, args_faults}
use Rattle.bed_names.proofs.NotedLemmas.{noted_append, two_notes}

module _ (v : Visible) where
  faults-Add : (a b : Word) → word_faults v (Add a b) ≡ word_faults v a ++ word_faults v b
  faults-Add a b = ap (word_faults v) (sym (rolls-Add a b)) ∙ fold-roll-Word (List NameError) (word_step v) (Word-F.Add a b)

  faults-Sub : (a b : Word) → word_faults v (Sub a b) ≡ word_faults v a ++ word_faults v b
  faults-Sub a b = ap (word_faults v) (sym (rolls-Sub a b)) ∙ fold-roll-Word (List NameError) (word_step v) (Word-F.Sub a b)

  faults-Cons : (a : Word) (s : Seq) → seq_faults v (Cons a s) ≡ word_faults v a ++ seq_faults v s
  faults-Cons a s = ap (seq_faults v) (sym (rolls-Cons a s)) ∙ fold-roll-Seq (List NameError) (seq_step v) (Seq-F.Cons a s)

  faults-App : (s t : Seq) → seq_faults v (App s t) ≡ seq_faults v s ++ seq_faults v t
  faults-App s t = ap (seq_faults v) (sym (rolls-App s t)) ∙ fold-roll-Seq (List NameError) (seq_step v) (Seq-F.App s t)

  pub add_notes : (found first both : Option NameError) (w a b a' b' : Word) → w ≡ Add a b → a' ≡ a → b' ≡ b
      → first ≡ noted found (word_faults v a') → both ≡ noted first (word_faults v b') → both ≡ noted found (word_faults v w)
  add_notes found first both w a b a' b' e ea eb h k =
      two_notes found first both (word_faults v a') (word_faults v b') (word_faults v w)
      (ap (word_faults v) e ∙ faults-Add a b ∙ ap (λ x. word_faults v x ++ word_faults v b) (sym ea) ∙ ap (λ x. word_faults v a' ++ word_faults v x) (sym eb)) h k

  pub sub_notes : (found first both : Option NameError) (w a b a' b' : Word) → w ≡ Sub a b → a' ≡ a → b' ≡ b
      → first ≡ noted found (word_faults v a') → both ≡ noted first (word_faults v b') → both ≡ noted found (word_faults v w)
  sub_notes found first both w a b a' b' e ea eb h k =
      two_notes found first both (word_faults v a') (word_faults v b') (word_faults v w)
      (ap (word_faults v) e ∙ faults-Sub a b ∙ ap (λ x. word_faults v x ++ word_faults v b) (sym ea) ∙ ap (λ x. word_faults v a' ++ word_faults v x) (sym eb)) h k

  pub cons_notes : (found first both : Option NameError) (w s : Seq) (a a' : Word) (s' : Seq) → w ≡ Cons a s → a' ≡ a → s' ≡ s
      → first ≡ noted found (word_faults v a') → both ≡ noted first (seq_faults v s') → both ≡ noted found (seq_faults v w)
  cons_notes found first both w s a a' s' e ea es h k =
      two_notes found first both (word_faults v a') (seq_faults v s') (seq_faults v w)
      (ap (seq_faults v) e ∙ faults-Cons a s ∙ ap (λ x. word_faults v x ++ seq_faults v s) (sym ea) ∙ ap (λ x. word_faults v a' ++ seq_faults v x) (sym es)) h k

  pub app_notes : (found first both : Option NameError) (w s t s' t' : Seq) → w ≡ App s t → s' ≡ s → t' ≡ t
      → first ≡ noted found (seq_faults v s') → both ≡ noted first (seq_faults v t') → both ≡ noted found (seq_faults v w)
  app_notes found first both w s t s' t' e es et h k =
      two_notes found first both (seq_faults v s') (seq_faults v t') (seq_faults v w)
      (ap (seq_faults v) e ∙ faults-App s t ∙ ap (λ x. seq_faults v x ++ seq_faults v t) (sym es) ∙ ap (λ x. seq_faults v s' ++ seq_faults v x) (sym et)) h k

  -- one more argument, and one parameter less
  pub args_step : (holes : Bool) (found next whole : Option NameError) (params rest : List Bind) (asked : Option Sort) (items : List Arg) (i : ℕ) (item : Arg)
      → i < length items → item ≡ get_or items i item → asked ≡ first_sort params → rest ≡ behind_first params
      → next ≡ noted found (arg_faults v holes asked item)
      → noted found (args_faults v holes params (drop i items)) ≡ whole → noted next (args_faults v holes rest (drop (i + 1) items)) ≡ whole
  args_step holes found next whole params rest asked items i item lt is s b e h =
      rw add-one (ap (λ r. noted r (args_faults v holes rest (drop (suc i) items))) e
      ∙ sym (noted_append found (arg_faults v holes asked item) (args_faults v holes rest (drop (suc i) items)))
      ∙ ap (λ o. noted found (arg_faults v holes o item ++ args_faults v holes rest (drop (suc i) items))) s
      ∙ ap (λ ps. noted found (arg_faults v holes (first_sort params) item ++ args_faults v holes ps (drop (suc i) items))) b
      ∙ ap (λ x. noted found (arg_faults v holes (first_sort params) x ++ args_faults v holes (behind_first params) (drop (suc i) items))) is
      ∙ ap (λ xs. noted found (args_faults v holes params xs)) (sym (drop-cons items i item lt))
      ∙ h)
