-- Trees whose fresh variables are known: by their parts, and with terms in place of variables.
use Rattle.std.proofs.Common.{◌≡◌, ℕ, Bool, true, false, ◌&&◌, nat_lt, if◌then◌else◌, List, [], ◌∷◌, ◌++◌, Option, Some, None, refl, ap, sym, ◌∙◌, subst, arith}
use Rattle.std.specs.Prelude.{bytes_eq}
use Rattle.std.proofs.lemmas.Bool.{and_parts, and_from}
use Rattle.bed_lang.specs.declared.word.Name.{Name}
use Rattle.bed_lang.specs.declared.word.Sort.{Sort}
use Rattle.bed_lang.specs.declared.word.Sort.TheVariants as sort
use Rattle.bed_lang.specs.declared.word.Var.{Var}
use Rattle.bed_lang.specs.declared.word.Var.TheVariants as var
use Rattle.bed_lang.specs.declared.word.Word.{Word, roll-Word, map-Word, Number, Var as WordVar, Label, Add, Sub, Times, ind-Word, fold-roll-Word}
use Rattle.bed_lang.specs.declared.word.Word.TheOpen.{Word-F}
use Rattle.bed_lang.specs.declared.word.Word.TheVariants.{rolls-Number, rolls-Var, rolls-Label, rolls-Add, rolls-Sub, rolls-Times}
use Rattle.bed_lang.specs.declared.word.Seq.{Seq, roll-Seq, map-Seq, Var as SeqVar, Nil, Cons, App, ind-Seq, fold-roll-Seq}
use Rattle.bed_lang.specs.declared.word.Seq.TheOpen.{Seq-F}
use Rattle.bed_lang.specs.declared.word.Seq.TheVariants.{rolls-Var as seq_rolls-Var, rolls-Nil, rolls-Cons, rolls-App}
use Rattle.bed_lang.specs.declared.logic.Arg.{Arg}
use Rattle.bed_lang.specs.declared.logic.Arg.TheVariants as arg
use Rattle.bed_lang.specs.declared.logic.Pure.{Pure}
use Rattle.bed_lang.specs.declared.logic.Pure.TheVariants as pure
use Rattle.bed_lang.specs.declared.logic.Atom.{Atom}
use Rattle.bed_lang.specs.declared.logic.Atom.TheVariants as atom
use Rattle.bed_lang.specs.declared.logic.Term.{Term}
use Rattle.bed_lang.specs.declared.logic.Term.TheVariants as term
use Rattle.bed_lang.specs.Values.{Named, Old, Answer, Hole, variable, same_variable}
use Rattle.bed_lang.specs.Instances.{Instance, word_with, seq_with, arg_with, args_with, pure_with, atom_with, terms_with}
use Rattle.bed_lang.proofs.RollLaws.{word_with-roll, seq_with-roll}
use Rattle.bed_deriv.specs.Fresh.{every, known_var, known_word, known_word_step, known_seq, known_seq_step, known_arg, known_pure, known_atom, known_term, known_value}
use Rattle.bed_deriv.specs.Opening.{has_sort, word_in, seq_in, first_some, if_of, value_for, occurrence, word_or, seq_or, word_instead, seq_instead, replacing, word_or_0, seq_or_nil, alone, with_answer, facts_of, atoms_of}

pub every-append : {A : Type 0} (f : A → Bool) (xs ys : List A) → every f xs ≡ true → every f ys ≡ true → every f (xs ++ ys) ≡ true
every-append f [] ys h k = k
every-append f (x ∷ xs) ys h k =
    let b = and_parts (f x) (every f xs) h in and_from (f x) (every f (xs ++ ys)) b.0 (every-append f xs ys b.1 k)

module _ (next : ℕ) where
  known_roll : (x : Word-F Word) → known_word next (roll-Word x) ≡ known_word_step next (map-Word Word Bool (known_word next) x)
  known_roll = fold-roll-Word Bool (known_word_step next)

  pub known-Number : (n : ℕ) → known_word next (Number n) ≡ true
  known-Number n = ap (known_word next) (sym (rolls-Number n)) ∙ known_roll (Word-F.Number n)

  pub known-Var : (x : Var) → known_word next (WordVar x) ≡ known_var next x
  known-Var x = ap (known_word next) (sym (rolls-Var x)) ∙ known_roll (Word-F.Var x)

  pub known-Label : (f : Name) → known_word next (Label f) ≡ true
  known-Label f = ap (known_word next) (sym (rolls-Label f)) ∙ known_roll (Word-F.Label f)

  pub known-Add : (a b : Word) → known_word next (Add a b) ≡ known_word next a && known_word next b
  known-Add a b = ap (known_word next) (sym (rolls-Add a b)) ∙ known_roll (Word-F.Add a b)

  pub known-Sub : (a b : Word) → known_word next (Sub a b) ≡ known_word next a && known_word next b
  known-Sub a b = ap (known_word next) (sym (rolls-Sub a b)) ∙ known_roll (Word-F.Sub a b)

  pub known-Times : (n : ℕ) (a : Word) → known_word next (Times n a) ≡ known_word next a
  known-Times n a = ap (known_word next) (sym (rolls-Times n a)) ∙ known_roll (Word-F.Times n a)

  known_seq_roll : (x : Seq-F Seq) → known_seq next (roll-Seq x) ≡ known_seq_step next (map-Seq Seq Bool (known_seq next) x)
  known_seq_roll = fold-roll-Seq Bool (known_seq_step next)

  pub known_seq-Var : (x : Var) → known_seq next (SeqVar x) ≡ known_var next x
  known_seq-Var x = ap (known_seq next) (sym (seq_rolls-Var x)) ∙ known_seq_roll (Seq-F.Var x)

  pub known_seq-Nil : known_seq next Nil ≡ true
  known_seq-Nil = ap (known_seq next) (sym rolls-Nil) ∙ known_seq_roll Seq-F.Nil

  pub known_seq-Cons : (a : Word) (s : Seq) → known_seq next (Cons a s) ≡ known_word next a && known_seq next s
  known_seq-Cons a s = ap (known_seq next) (sym (rolls-Cons a s)) ∙ known_seq_roll (Seq-F.Cons a s)

  pub known_seq-App : (s t : Seq) → known_seq next (App s t) ≡ known_seq next s && known_seq next t
  known_seq-App s t = ap (known_seq next) (sym (rolls-App s t)) ∙ known_seq_roll (Seq-F.App s t)

-- ---- terms in place of variables: where the tree has no fresh variable and the terms are known, the result is known

-- the terms of an instance are known, but for those of fresh variables
pub record IsKnownInstance (next : ℕ) (σ : Instance) : Type 0 where
  pub words : (x : Var) → known_var 0 x ≡ true → known_word next (σ.words (variable x)) ≡ true
  pub seqs : (x : Var) → known_var 0 x ≡ true → known_seq next (σ.seqs (variable x)) ≡ true

no-fresh : (n : ℕ) → nat_lt n 0 ≡ true → ⊥
no-fresh n h = grind arith

module _ (next : ℕ) (vs : List (Name × Arg)) (known : every (known_value next) vs ≡ true) where
  abbrev IsKnownOption : Option Arg → Type 0
  IsKnownOption None = Unit {0}
  IsKnownOption (Some a) = known_arg next a ≡ true

  first-known : (a b : Option Arg) → IsKnownOption a → IsKnownOption b → IsKnownOption (first_some a b)
  first-known None b h k = k
  first-known (Some a) b h k = h

  if-known : (b : Bool) (v : Name × Arg) → known_arg next v.1 ≡ true → IsKnownOption (if b then Some v.1 else None)
  if-known true v h = h
  if-known false v h = tt

  value-known : (s : Sort) (us : List (Name × Arg)) (x : List ℕ) → every (known_value next) us ≡ true → IsKnownOption (value_for s us x)
  value-known s [] x h = tt
  value-known s (v ∷ us) x h =
      let b = and_parts (known_value next v) (every (known_value next) us) h in
      first-known (value_for s us x) (if_of s x v) (value-known s us x b.1) (if-known (bytes_eq v.0.bytes x && has_sort s v.1) v b.0)

  word-known : (a : Arg) → known_arg next a ≡ true → known_word next (word_in a) ≡ true
  word-known (arg.Word at w) h = h
  word-known (arg.Seq at s) h = known-Number next 0
  word-known (arg.Bare name) h = known-Number next 0

  seq-known : (a : Arg) → known_arg next a ≡ true → known_seq next (seq_in a) ≡ true
  seq-known (arg.Word at w) h = known_seq-Nil next
  seq-known (arg.Seq at s) h = h
  seq-known (arg.Bare name) h = known_seq-Nil next

  word_or-known : (o : Option Arg) (w : Word) → IsKnownOption o → known_word next w ≡ true → known_word next (word_or o w) ≡ true
  word_or-known None w h k = k
  word_or-known (Some a) w h k = word-known a h

  seq_or-known : (o : Option Arg) (s : Seq) → IsKnownOption o → known_seq next s ≡ true → known_seq next (seq_or o s) ≡ true
  seq_or-known None s h k = k
  seq_or-known (Some a) s h k = seq-known a h

  word_instead-known : (x : Var) → known_var 0 x ≡ true → known_word next (word_instead vs (variable x)) ≡ true
  word_instead-known (var.Named x) h =
      word_or-known (value_for sort.Word vs x.bytes) (WordVar (occurrence (Named x.bytes))) (value-known sort.Word vs x.bytes known)
      (known-Var next (occurrence (Named x.bytes)))
  word_instead-known (var.Old x) h = known-Var next (occurrence (Old x.bytes))
  word_instead-known (var.Answer at) h = known-Var next (occurrence Answer)
  word_instead-known (var.Fresh n) h = absurd (no-fresh n h)
  word_instead-known var.Hole h = known-Var next (occurrence Hole)

  seq_instead-known : (x : Var) → known_var 0 x ≡ true → known_seq next (seq_instead vs (variable x)) ≡ true
  seq_instead-known (var.Named x) h =
      seq_or-known (value_for sort.Seq vs x.bytes) (SeqVar (occurrence (Named x.bytes))) (value-known sort.Seq vs x.bytes known)
      (known_seq-Var next (occurrence (Named x.bytes)))
  seq_instead-known (var.Old x) h = known_seq-Var next (occurrence (Old x.bytes))
  seq_instead-known (var.Answer at) h = known_seq-Var next (occurrence Answer)
  seq_instead-known (var.Fresh n) h = absurd (no-fresh n h)
  seq_instead-known var.Hole h = known_seq-Var next (occurrence Hole)

  pub replacing-known : IsKnownInstance next (replacing vs)
  replacing-known = record { words = word_instead-known; seqs = seq_instead-known }

  word_or_0-known : (x : Var) → known_word next (word_or_0 vs (variable x)) ≡ true
  word_or_0-known (var.Named x) = word_or-known (value_for sort.Word vs x.bytes) (Number 0) (value-known sort.Word vs x.bytes known) (known-Number next 0)
  word_or_0-known (var.Old x) = known-Number next 0
  word_or_0-known (var.Answer at) = known-Number next 0
  word_or_0-known (var.Fresh n) = known-Number next 0
  word_or_0-known var.Hole = known-Number next 0

  seq_or_nil-known : (x : Var) → known_seq next (seq_or_nil vs (variable x)) ≡ true
  seq_or_nil-known (var.Named x) = seq_or-known (value_for sort.Seq vs x.bytes) Nil (value-known sort.Seq vs x.bytes known) (known_seq-Nil next)
  seq_or_nil-known (var.Old x) = known_seq-Nil next
  seq_or_nil-known (var.Answer at) = known_seq-Nil next
  seq_or_nil-known (var.Fresh n) = known_seq-Nil next
  seq_or_nil-known var.Hole = known_seq-Nil next

  pub alone-known : IsKnownInstance next (alone vs)
  alone-known = record { words = λ x h. word_or_0-known x; seqs = λ x h. seq_or_nil-known x }

-- `result` gives way to a known word
pub answer-known : (next : ℕ) (σ : Instance) (t : Word) → IsKnownInstance next σ → known_word next t ≡ true → IsKnownInstance next (with_answer t σ)
answer-known next σ t given k = record { words = λ x h. by x h (same_variable (variable x) Answer); seqs = given.seqs }
  where
    by : (x : Var) → known_var 0 x ≡ true → (b : Bool) → known_word next (if b then t else σ.words (variable x)) ≡ true
    by x h true = k
    by x h false = given.words x h

module _ (next : ℕ) (σ : Instance) (given : IsKnownInstance next σ) where
  abbrev StaysKnown : Word → Type 0
  StaysKnown w = known_word 0 w ≡ true → known_word next (word_with σ w) ≡ true

  abbrev known_is : Word → Type 0
  known_is w = known_word next w ≡ true

  two-words : (a b c : Word) → known_word next c ≡ known_word next a && known_word next b → known_is a → known_is b → known_is c
  two-words a b c e h k = e ∙ and_from (known_word next a) (known_word next b) h k

  word_layer : (y : Word-F ((w : Word) × StaysKnown w)) → StaysKnown (roll-Word (map-Word _ _ (λ p. p.0) y))
  word_layer (Word-F.Number n) h = ap (known_word next) (word_with-roll σ (Word-F.Number n)) ∙ known-Number next n
  word_layer (Word-F.Label f) h = ap (known_word next) (word_with-roll σ (Word-F.Label f)) ∙ known-Label next f
  word_layer (Word-F.Var x) h =
      ap (known_word next) (word_with-roll σ (Word-F.Var x)) ∙ given.words x (sym (known_roll 0 (Word-F.Var x)) ∙ h)
  word_layer (Word-F.Add a b) h =
      let k = and_parts (known_word 0 a.0) (known_word 0 b.0) (sym (known_roll 0 (Word-F.Add a.0 b.0)) ∙ h) in
      ap (known_word next) (word_with-roll σ (Word-F.Add a.0 b.0))
      ∙ two-words (word_with σ a.0) (word_with σ b.0) _ (known-Add next (word_with σ a.0) (word_with σ b.0)) (a.1 k.0) (b.1 k.1)
  word_layer (Word-F.Sub a b) h =
      let k = and_parts (known_word 0 a.0) (known_word 0 b.0) (sym (known_roll 0 (Word-F.Sub a.0 b.0)) ∙ h) in
      ap (known_word next) (word_with-roll σ (Word-F.Sub a.0 b.0))
      ∙ two-words (word_with σ a.0) (word_with σ b.0) _ (known-Sub next (word_with σ a.0) (word_with σ b.0)) (a.1 k.0) (b.1 k.1)
  word_layer (Word-F.Times n a) h =
      ap (known_word next) (word_with-roll σ (Word-F.Times n a.0)) ∙ known-Times next n (word_with σ a.0) ∙ a.1 (sym (known_roll 0 (Word-F.Times n a.0)) ∙ h)

  pub word-stays_known : (w : Word) → StaysKnown w
  word-stays_known = ind-Word StaysKnown (λ x y is. subst (λ (z : Word-F Word). StaysKnown (roll-Word z)) is (word_layer y))

  abbrev SeqStaysKnown : Seq → Type 0
  SeqStaysKnown s = known_seq 0 s ≡ true → known_seq next (seq_with σ s) ≡ true

  seq_layer : (y : Seq-F ((s : Seq) × SeqStaysKnown s)) → SeqStaysKnown (roll-Seq (map-Seq _ _ (λ p. p.0) y))
  seq_layer (Seq-F.Var x) h =
      ap (known_seq next) (seq_with-roll σ (Seq-F.Var x)) ∙ given.seqs x (sym (known_seq_roll 0 (Seq-F.Var x)) ∙ h)
  seq_layer Seq-F.Nil h = ap (known_seq next) (seq_with-roll σ Seq-F.Nil) ∙ known_seq-Nil next
  seq_layer (Seq-F.Cons a s) h =
      let k = and_parts (known_word 0 a) (known_seq 0 s.0) (sym (known_seq_roll 0 (Seq-F.Cons a s.0)) ∙ h) in
      ap (known_seq next) (seq_with-roll σ (Seq-F.Cons a s.0)) ∙ known_seq-Cons next (word_with σ a) (seq_with σ s.0)
      ∙ and_from _ _ (word-stays_known a k.0) (s.1 k.1)
  seq_layer (Seq-F.App s t) h =
      let k = and_parts (known_seq 0 s.0) (known_seq 0 t.0) (sym (known_seq_roll 0 (Seq-F.App s.0 t.0)) ∙ h) in
      ap (known_seq next) (seq_with-roll σ (Seq-F.App s.0 t.0)) ∙ known_seq-App next (seq_with σ s.0) (seq_with σ t.0)
      ∙ and_from _ _ (s.1 k.0) (t.1 k.1)

  pub seq-stays_known : (s : Seq) → SeqStaysKnown s
  seq-stays_known = ind-Seq SeqStaysKnown (λ x y is. subst (λ (z : Seq-F Seq). SeqStaysKnown (roll-Seq z)) is (seq_layer y))

  arg-stays_known : (a : Arg) → known_arg 0 a ≡ true → known_arg next (arg_with σ a) ≡ true
  arg-stays_known (arg.Word at w) h = word-stays_known w h
  arg-stays_known (arg.Seq at s) h = seq-stays_known s h
  arg-stays_known (arg.Bare name) h = refl

  args-stay_known : (args : List Arg) → every (known_arg 0) args ≡ true → every (known_arg next) (args_with σ args) ≡ true
  args-stay_known [] h = refl
  args-stay_known (a ∷ args) h =
      let k = and_parts (known_arg 0 a) (every (known_arg 0) args) h in and_from _ _ (arg-stays_known a k.0) (args-stay_known args k.1)

  words-stay_known : (a b : Word) → (known_word 0 a && known_word 0 b) ≡ true
      → (known_word next (word_with σ a) && known_word next (word_with σ b)) ≡ true
  words-stay_known a b h =
      let k = and_parts (known_word 0 a) (known_word 0 b) h in and_from _ _ (word-stays_known a k.0) (word-stays_known b k.1)

  member-stays_known : (a : Word) (s : Seq) → (known_word 0 a && known_seq 0 s) ≡ true
      → (known_word next (word_with σ a) && known_seq next (seq_with σ s)) ≡ true
  member-stays_known a s h =
      let k = and_parts (known_word 0 a) (known_seq 0 s) h in and_from _ _ (word-stays_known a k.0) (seq-stays_known s k.1)

  pub fact-stays_known : (p : Pure) → known_pure 0 p ≡ true → known_pure next (pure_with σ p) ≡ true
  fact-stays_known (pure.Equal a b) h = words-stay_known a b h
  fact-stays_known (pure.Unequal a b) h = words-stay_known a b h
  fact-stays_known (pure.Less a b) h = words-stay_known a b h
  fact-stays_known (pure.AtMost a b) h = words-stay_known a b h
  fact-stays_known (pure.Same s t) h =
      let k = and_parts (known_seq 0 s) (known_seq 0 t) h in and_from _ _ (seq-stays_known s k.0) (seq-stays_known t k.1)
  fact-stays_known (pure.Member a s) h = member-stays_known a s h
  fact-stays_known (pure.NonMember a s) h = member-stays_known a s h
  fact-stays_known (pure.Code a name) h = word-stays_known a h

  pub atom-stays_known : (x : Atom) → known_atom 0 x ≡ true → known_atom next (atom_with σ x) ≡ true
  atom-stays_known (atom.Cell a v) h = words-stay_known a v h
  atom-stays_known (atom.Byte a v) h = words-stay_known a v h
  atom-stays_known (atom.Block a n) h = words-stay_known a n h
  atom-stays_known (atom.Pred name args) h = args-stay_known args h

  -- the facts and the atoms of terms that are opened
  pub facts-opened : (ts : List Term) → every (known_term 0) ts ≡ true → every (known_pure next) (facts_of (terms_with σ ts)) ≡ true
  facts-opened [] h = refl
  facts-opened (term.Emp ∷ ts) h = facts-opened ts (and_parts true (every (known_term 0) ts) h).1
  facts-opened (term.Pure p ∷ ts) h =
      let b = and_parts (known_pure 0 p) (every (known_term 0) ts) h in and_from _ _ (fact-stays_known p b.0) (facts-opened ts b.1)
  facts-opened (term.Atom x ∷ ts) h = facts-opened ts (and_parts (known_atom 0 x) (every (known_term 0) ts) h).1

  pub atoms-opened : (ts : List Term) → every (known_term 0) ts ≡ true → every (known_atom next) (atoms_of (terms_with σ ts)) ≡ true
  atoms-opened [] h = refl
  atoms-opened (term.Emp ∷ ts) h = atoms-opened ts (and_parts true (every (known_term 0) ts) h).1
  atoms-opened (term.Pure p ∷ ts) h = atoms-opened ts (and_parts (known_pure 0 p) (every (known_term 0) ts) h).1
  atoms-opened (term.Atom x ∷ ts) h =
      let b = and_parts (known_atom 0 x) (every (known_term 0) ts) h in and_from _ _ (atom-stays_known x b.0) (atoms-opened ts b.1)
