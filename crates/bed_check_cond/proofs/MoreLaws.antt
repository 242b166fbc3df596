-- What is known below a number is known below every greater one.
use Rattle.std.proofs.Common.{ℕ, ◌≤◌, Bool, ◌&&◌, IsTrue, List, [], ◌∷◌, refl, sym, ◌∙◌, subst, arith}
use Rattle.std.proofs.lemmas.Bool.{and_parts, and_from}
use Rattle.bed_lang.specs.declared.word.Name.{Name}
use Rattle.bed_lang.specs.declared.word.Var.{Var}
use Rattle.bed_lang.specs.declared.word.Var.TheVariants as var
use Rattle.bed_lang.specs.declared.word.Word.{Word, roll-Word, map-Word, ind-Word, fold-roll-Word}
use Rattle.bed_lang.specs.declared.word.Word.TheOpen.{Word-F}
use Rattle.bed_lang.specs.declared.word.Seq.{Seq, roll-Seq, map-Seq, ind-Seq, fold-roll-Seq}
use Rattle.bed_lang.specs.declared.word.Seq.TheOpen.{Seq-F}
use Rattle.bed_lang.specs.declared.logic.Arg.{Arg}
use Rattle.bed_lang.specs.declared.logic.Arg.TheVariants as arg
use Rattle.bed_lang.specs.declared.logic.Pure.{Pure}
use Rattle.bed_lang.specs.declared.logic.Pure.TheVariants as pure
use Rattle.bed_lang.specs.declared.logic.Atom.{Atom}
use Rattle.bed_lang.specs.declared.logic.Atom.TheVariants as atom
use Rattle.bed_deriv.specs.Fresh.{every, known_var, known_word_step, known_word, known_seq_step, known_seq, known_arg, known_pure, known_atom, known_local, known_value}

pub every_more : {A : Type 0} (f g : A → Bool) → ((x : A) → IsTrue (f x) → IsTrue (g x)) → (xs : List A) → IsTrue (every f xs) → IsTrue (every g xs)
every_more f g more [] k = refl
every_more f g more (x ∷ xs) k = let q = and_parts (f x) (every f xs) k in and_from (g x) (every g xs) (more x q.0) (every_more f g more xs q.1)

-- ---- below a greater number

module _ (n m : ℕ) (le : n ≤ m) where
  more_var : (x : Var) → IsTrue (known_var n x) → IsTrue (known_var m x)
  more_var (var.Named x) k = refl
  more_var (var.Old x) k = refl
  more_var (var.Answer at) k = refl
  more_var (var.Fresh i) k = grind (arith, k)
  more_var var.Hole k = refl

  both_more : (a b c d : Bool) → (IsTrue a → IsTrue c) → (IsTrue b → IsTrue d) → IsTrue (a && b) → IsTrue (c && d)
  both_more a b c d f g k = let q = and_parts a b k in and_from c d (f q.0) (g q.1)

  abbrev WordMore : Word → Type 0
  WordMore w = IsTrue (known_word n w) → IsTrue (known_word m w)

  word_layer : (y : Word-F ((w : Word) × WordMore w)) → IsTrue (known_word_step n (map-Word _ _ (known_word n) (map-Word _ _ (λ p. p.0) y))) → IsTrue (known_word_step m (map-Word _ _ (known_word m) (map-Word _ _ (λ p. p.0) y)))
  word_layer (Word-F.Number i) k = refl
  word_layer (Word-F.Var x) k = more_var x k
  word_layer (Word-F.Label f) k = refl
  word_layer (Word-F.Add a b) k = both_more (known_word n a.0) (known_word n b.0) (known_word m a.0) (known_word m b.0) a.1 b.1 k
  word_layer (Word-F.Sub a b) k = both_more (known_word n a.0) (known_word n b.0) (known_word m a.0) (known_word m b.0) a.1 b.1 k
  word_layer (Word-F.Times i a) k = a.1 k

  pub more_word : (w : Word) → WordMore w
  more_word = ind-Word WordMore (λ x y is. subst (λ (z : Word-F Word). WordMore (roll-Word z)) is
      (λ k. fold-roll-Word Bool (known_word_step m) (map-Word _ _ (λ p. p.0) y) ∙ word_layer y (sym (fold-roll-Word Bool (known_word_step n) (map-Word _ _ (λ p. p.0) y)) ∙ k)))

  abbrev SeqMore : Seq → Type 0
  SeqMore s = IsTrue (known_seq n s) → IsTrue (known_seq m s)

  seq_layer : (y : Seq-F ((s : Seq) × SeqMore s)) → IsTrue (known_seq_step n (map-Seq _ _ (known_seq n) (map-Seq _ _ (λ p. p.0) y))) → IsTrue (known_seq_step m (map-Seq _ _ (known_seq m) (map-Seq _ _ (λ p. p.0) y)))
  seq_layer (Seq-F.Var x) k = more_var x k
  seq_layer Seq-F.Nil k = refl
  seq_layer (Seq-F.Cons a s) k = both_more (known_word n a) (known_seq n s.0) (known_word m a) (known_seq m s.0) (more_word a) s.1 k
  seq_layer (Seq-F.App s t) k = both_more (known_seq n s.0) (known_seq n t.0) (known_seq m s.0) (known_seq m t.0) s.1 t.1 k

  pub more_seq : (s : Seq) → SeqMore s
  more_seq = ind-Seq SeqMore (λ x y is. subst (λ (z : Seq-F Seq). SeqMore (roll-Seq z)) is
      (λ k. fold-roll-Seq Bool (known_seq_step m) (map-Seq _ _ (λ p. p.0) y) ∙ seq_layer y (sym (fold-roll-Seq Bool (known_seq_step n) (map-Seq _ _ (λ p. p.0) y)) ∙ k)))

  pub more_arg : (a : Arg) → IsTrue (known_arg n a) → IsTrue (known_arg m a)
  more_arg (arg.Word at w) k = more_word w k
  more_arg (arg.Seq at s) k = more_seq s k
  more_arg (arg.Bare x) k = refl

  words_more : (a b : Word) → IsTrue (known_word n a && known_word n b) → IsTrue (known_word m a && known_word m b)
  words_more a b k = both_more (known_word n a) (known_word n b) (known_word m a) (known_word m b) (more_word a) (more_word b) k

  member_more : (a : Word) (s : Seq) → IsTrue (known_word n a && known_seq n s) → IsTrue (known_word m a && known_seq m s)
  member_more a s k = both_more (known_word n a) (known_seq n s) (known_word m a) (known_seq m s) (more_word a) (more_seq s) k

  pub more_fact : (p : Pure) → IsTrue (known_pure n p) → IsTrue (known_pure m p)
  more_fact (pure.Equal a b) k = words_more a b k
  more_fact (pure.Unequal a b) k = words_more a b k
  more_fact (pure.Less a b) k = words_more a b k
  more_fact (pure.AtMost a b) k = words_more a b k
  more_fact (pure.Same s t) k = both_more (known_seq n s) (known_seq n t) (known_seq m s) (known_seq m t) (more_seq s) (more_seq t) k
  more_fact (pure.Member a s) k = member_more a s k
  more_fact (pure.NonMember a s) k = member_more a s k
  more_fact (pure.Code a x) k = more_word a k

  pub more_atom : (x : Atom) → IsTrue (known_atom n x) → IsTrue (known_atom m x)
  more_atom (atom.Cell a v) k = words_more a v k
  more_atom (atom.Byte a v) k = words_more a v k
  more_atom (atom.Block a i) k = words_more a i k
  more_atom (atom.Pred x args) k = every_more (known_arg n) (known_arg m) more_arg args k

  pub facts_more : (ps : List Pure) → IsTrue (every (known_pure n) ps) → IsTrue (every (known_pure m) ps)
  facts_more = every_more (known_pure n) (known_pure m) more_fact

  pub atoms_more : (xs : List Atom) → IsTrue (every (known_atom n) xs) → IsTrue (every (known_atom m) xs)
  atoms_more = every_more (known_atom n) (known_atom m) more_atom

  pub locals_more : (ls : List (Name × Word)) → IsTrue (every (known_local n) ls) → IsTrue (every (known_local m) ls)
  locals_more = every_more (known_local n) (known_local m) (λ l. more_word l.1)

  pub values_more : (vs : List (Name × Arg)) → IsTrue (every (known_value n) vs) → IsTrue (every (known_value m) vs)
  values_more = every_more (known_value n) (known_value m) (λ v. more_arg v.1)
