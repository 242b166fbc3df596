-- Instances of assertions as values: names that give way to their values, locals to their terms, and `result` to a word.
use Rattle.std.proofs.Common.{◌≡◌, ℕ, Bool, true, false, ◌||◌, if◌then◌else◌, List, [], ◌∷◌, map, Option, Some, None, refl, sym, ◌∙◌, ap, arith}
use Rattle.bed_lang.specs.declared.word.Name.{Name}
use Rattle.bed_lang.specs.declared.word.Sort.TheVariants as sort
use Rattle.bed_lang.specs.declared.word.Var.{Var}
use Rattle.bed_lang.specs.declared.word.Var.TheVariants as var
use Rattle.bed_lang.specs.declared.word.Word.{Word, Var as WordVar}
use Rattle.bed_lang.specs.declared.word.Seq.{Var as SeqVar}
use Rattle.bed_lang.specs.declared.logic.Arg.{Arg}
use Rattle.bed_lang.specs.declared.logic.Arg.TheVariants as arg
use Rattle.bed_lang.specs.Keys.{bare_name}
use Rattle.bed_lang.specs.Numbers.{wrap}
use Rattle.bed_lang.specs.Values.{Values, Variable, Named, Old, Answer, Fresh, Hole, variable, same_variable, set_word, value, list_value}
use Rattle.bed_lang.specs.Instances.{Instance, values_with}
use Rattle.bed_lang.proofs.ValueLaws.{value-Var, value-small, list_value-Var}
use Rattle.bed_sat.specs.Frames.{set_words}
use Rattle.bed_sat.proofs.FrameLaws.{bytes_eq_is}
use Rattle.bed_sat.proofs.InstanceLaws.{wrap_twice}
use Rattle.bed_deriv.specs.Opening.{value_for, occurrence, word_or, seq_or, word_instead, seq_instead, replacing, with_answer, local_values}
use Rattle.bed_deriv.specs.Steps.{names_with, old_word}
use Rattle.bed_check_heap.proofs.OpenLaws.{set_arg, set_args, word_from, list_from, words_set, lists_set, others_stay}
use Rattle.bed_check_cond.specs.Paths.{is_local, is_fresh, AreRead, ReadsLocals}
use Rattle.bed_check_cond.proofs.ValueLaws.{SameButFresh, same_self, same_then, same_word, same_args}

wrap_once : (n : ℕ) → wrap (wrap n) ≡ wrap n
wrap_once n = omega arith

module _ (labels : List ℕ → ℕ) (ν : Values) where
  -- ---- names that give way to their values have them, and the other variables stay

  stays_word : (x : Variable) (y : Var) → variable y ≡ x → wrap (value labels ν (WordVar y)) ≡ wrap (ν.words x)
  stays_word x y e = ap wrap (value-Var labels ν y) ∙ wrap_once _ ∙ ap (λ z. wrap (ν.words z)) e

  stays_list : (x : Variable) (y : Var) → variable y ≡ x → map wrap (list_value labels ν (SeqVar y)) ≡ map wrap (ν.lists x)
  stays_list x y e = ap (map wrap) (list_value-Var labels ν y) ∙ wrap_twice _ ∙ ap (λ z. map wrap (ν.lists z)) e

  named_word : (x : List ℕ) (o : Option Arg) → wrap (word_from labels ν (ν.words (Named x)) o) ≡ wrap (value labels ν (word_or o (WordVar (occurrence (Named x)))))
  named_word x None = sym (stays_word (Named x) (occurrence (Named x)) refl)
  named_word x (Some a) = refl

  named_list : (x : List ℕ) (o : Option Arg) → map wrap (list_from labels ν (ν.lists (Named x)) o) ≡ map wrap (list_value labels ν (seq_or o (SeqVar (occurrence (Named x)))))
  named_list x None = sym (stays_list (Named x) (occurrence (Named x)) refl)
  named_list x (Some a) = refl

  replaced_words : (vs : List (Name × Arg)) (x : Variable) → wrap ((set_args labels ν ν vs).words x) ≡ wrap (value labels ν (word_instead vs x))
  replaced_words vs (Named x) = ap wrap (words_set labels ν vs ν x) ∙ named_word x (value_for sort.Word vs x)
  replaced_words vs (Old x) = ap wrap (others_stay labels ν vs ν (Old x) (λ n. refl)).0 ∙ sym (stays_word (Old x) (occurrence (Old x)) refl)
  replaced_words vs Answer = ap wrap (others_stay labels ν vs ν Answer (λ n. refl)).0 ∙ sym (stays_word Answer (occurrence Answer) refl)
  replaced_words vs (Fresh n) = ap wrap (others_stay labels ν vs ν (Fresh n) (λ m. refl)).0 ∙ sym (stays_word (Fresh n) (occurrence (Fresh n)) refl)
  replaced_words vs Hole = ap wrap (others_stay labels ν vs ν Hole (λ n. refl)).0 ∙ sym (stays_word Hole (occurrence Hole) refl)

  replaced_lists : (vs : List (Name × Arg)) (x : Variable) → map wrap ((set_args labels ν ν vs).lists x) ≡ map wrap (list_value labels ν (seq_instead vs x))
  replaced_lists vs (Named x) = ap (map wrap) (lists_set labels ν vs ν x) ∙ named_list x (value_for sort.Seq vs x)
  replaced_lists vs (Old x) = ap (map wrap) (others_stay labels ν vs ν (Old x) (λ n. refl)).1 ∙ sym (stays_list (Old x) (occurrence (Old x)) refl)
  replaced_lists vs Answer = ap (map wrap) (others_stay labels ν vs ν Answer (λ n. refl)).1 ∙ sym (stays_list Answer (occurrence Answer) refl)
  replaced_lists vs (Fresh n) = ap (map wrap) (others_stay labels ν vs ν (Fresh n) (λ m. refl)).1 ∙ sym (stays_list (Fresh n) (occurrence (Fresh n)) refl)
  replaced_lists vs Hole = ap (map wrap) (others_stay labels ν vs ν Hole (λ n. refl)).1 ∙ sym (stays_list Hole (occurrence Hole) refl)

  pub replacing_sets : (vs : List (Name × Arg)) → SameButFresh (set_args labels ν ν vs) (values_with (replacing vs) labels ν)
  replacing_sets vs = record { words = λ x f. replaced_words vs x; lists = λ x f. replaced_lists vs x }

  -- ---- `result` gives way to a word

  either_value : (b : Bool) (t u : Word) (v m : ℕ) → wrap v ≡ wrap (value labels ν t) → wrap m ≡ wrap (value labels ν u)
      → wrap (if b then v else m) ≡ wrap (value labels ν (if b then t else u))
  either_value true t u v m e d = e
  either_value false t u v m e d = d

  pub answer_sets : (σ : Instance) (κ : Values) (t : Word) (v : ℕ) → wrap v ≡ wrap (value labels ν t) → SameButFresh κ (values_with σ labels ν)
      → SameButFresh (set_word κ Answer v) (values_with (with_answer t σ) labels ν)
  answer_sets σ κ t v e s = record {
    words = λ x f. either_value (same_variable x Answer) t (σ.words x) v (κ.words x) e (s.words x f);
    lists = s.lists;
  }

  swap_word : (κ : Values) (x : List ℕ) (u v : ℕ) → SameButFresh (set_word (set_word κ Answer v) (Named x) u) (set_word (set_word κ (Named x) u) Answer v)
  swap_word κ x u v = record { words = λ y f. by y; lists = λ y f. refl }
    where
      by : (y : Variable) → wrap ((set_word (set_word κ Answer v) (Named x) u).words y) ≡ wrap ((set_word (set_word κ (Named x) u) Answer v).words y)
      by (Named z) = refl
      by (Old z) = refl
      by Answer = refl
      by (Fresh n) = refl
      by Hole = refl

  swap_arg : (κ : Values) (x : Name) (a : Arg) (v : ℕ) → SameButFresh (set_arg labels ν (set_word κ Answer v) x a) (set_word (set_arg labels ν κ x a) Answer v)
  swap_arg κ x (arg.Word at t) v = swap_word κ x.bytes (value labels ν t) v
  swap_arg κ x (arg.Seq at t) v = same_self _
  swap_arg κ x (arg.Bare name) v = swap_word κ x.bytes 0 v

  -- whether `result` is set before names or after them
  pub answer_last : (κ : Values) (v : ℕ) (bs : List (Name × Arg)) → SameButFresh (set_args labels ν (set_word κ Answer v) bs) (set_word (set_args labels ν κ bs) Answer v)
  answer_last κ v [] = same_self _
  answer_last κ v (b ∷ bs) =
      same_then _ (set_args labels ν (set_word (set_arg labels ν κ b.0 b.1) Answer v) bs) _
      (same_args labels ν (set_arg labels ν (set_word κ Answer v) b.0 b.1) (set_word (set_arg labels ν κ b.0 b.1) Answer v) bs (swap_arg κ b.0 b.1 v))
      (answer_last (set_arg labels ν κ b.0 b.1) v bs)

  -- ---- locals give way to their terms

  pub old_is_none : (ls : List (Name × Word)) (x : List ℕ) → is_local ls (Old x) ≡ false
  old_is_none [] x = refl
  old_is_none (l ∷ ls) x = old_is_none ls x

  pub value-once : (t : Word) → wrap (value labels ν t) ≡ value labels ν t
  value-once t = let s = value-small labels ν t in omega arith

  in_locals : (b c : Bool) → b ≡ false → c ≡ false → (b || c) ≡ false
  in_locals b c e d = rw (e, d) refl

  -- where the locals are set to their terms' values, they are as the path reads them
  read_locals : (ls : List (Name × Word)) (κ μ : Values) → AreRead labels ls ν μ
      → ((y : Variable) → is_fresh y ≡ false → is_local ls y ≡ false → wrap (κ.words y) ≡ wrap (μ.words y))
      → ((y : Variable) → is_fresh y ≡ false → map wrap (κ.lists y) ≡ map wrap (μ.lists y))
      → SameButFresh (set_args labels ν κ (local_values ls)) μ
  read_locals [] κ μ are words lists = record { words = λ y f. words y f refl; lists = lists }
  read_locals (l ∷ ls) κ μ are words lists =
      read_locals ls (set_word κ (Named l.0.bytes) (value labels ν l.1)) μ are.1
      (λ y f out. by y f out (same_variable y (Named l.0.bytes)) refl) lists
    where
      local : (y : Variable) → same_variable y (Named l.0.bytes) ≡ true → wrap (value labels ν l.1) ≡ wrap (μ.words y)
      local (Named x) e = let same : x ≡ l.0.bytes = bytes_eq_is x l.0.bytes e in sym (ap (λ z. wrap (μ.words (Named z))) same ∙ are.0 ∙ sym (value-once l.1))
      local (Old x) e = absurd cc
      local Answer e = absurd cc
      local (Fresh n) e = absurd cc
      local Hole e = absurd cc

      by : (y : Variable) → is_fresh y ≡ false → is_local ls y ≡ false → (b : Bool) → same_variable y (Named l.0.bytes) ≡ b
          → wrap (if b then value labels ν l.1 else κ.words y) ≡ wrap (μ.words y)
      by y f out true e = local y e
      by y f out false e = words y f (in_locals (same_variable y (Named l.0.bytes)) (is_local ls y) e out)

  pub locals_set : (ls : List (Name × Word)) (μ : Values) → ReadsLocals labels ls ν μ → SameButFresh (set_args labels ν ν (local_values ls)) μ
  locals_set ls μ r = read_locals ls ν μ r.locals (λ y f out. ap wrap (sym (r.others y f out))) (λ y f. ap (map wrap) (sym (r.lists y f)))

  -- ---- names set to words

  pub words_given : (κ : Values) (xs : List Name) (ts : List Word) → set_words κ xs (map (value labels ν) ts) ≡ set_args labels ν κ (names_with xs ts)
  words_given κ [] ts = refl
  words_given κ (x ∷ xs) [] = refl
  words_given κ (x ∷ xs) (t ∷ ts) = words_given (set_word κ (Named x.bytes) (value labels ν t)) xs ts

  -- parameters as they were at entry
  pub olds_given : (μ : Values) → ((x : List ℕ) → wrap (μ.words (Old x)) ≡ wrap (ν.words (Old x))) → (κ ι : Values) (xs ys : List Name) → SameButFresh κ ι
      → SameButFresh (set_args labels ν κ (names_with xs (map old_word ys))) (set_words ι xs (map (λ y. μ.words (Old y.bytes)) ys))
  olds_given μ old κ ι [] ys s = s
  olds_given μ old κ ι (x ∷ xs) [] s = s
  olds_given μ old κ ι (x ∷ xs) (y ∷ ys) s =
      let v = value labels ν (old_word y) in
      let e : wrap v ≡ wrap (μ.words (Old y.bytes)) = stays_word (Old y.bytes) (var.Old (bare_name y)) refl ∙ sym (old y.bytes) in
      olds_given μ old (set_word κ (Named x.bytes) v) (set_word ι (Named x.bytes) (μ.words (Old y.bytes))) xs ys (same_word κ ι (Named x.bytes) v (μ.words (Old y.bytes)) e s)
