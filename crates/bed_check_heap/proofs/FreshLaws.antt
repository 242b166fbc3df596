-- A tree whose fresh variables are all known has one value under values that agree on what is known: its facts stay true, and its atoms.
use Rattle.std.proofs.Common.{◌≡◌, ◌≢◌, ℕ, zero, suc, ◌<◌, ◌≤◌, Bool, true, false, ◌&&◌, nat_lt, IsTrue, if◌then◌else◌, Some, List, [], ◌∷◌, refl, sym, ◌∙◌, ap, ap₂, subst, subst₂, arith}
use Rattle.std.specs.Prelude.{slice_get}
use Rattle.std.proofs.lemmas.Bool.{and_parts, and_from, ltb-true, eq-eqb, ne_eqb}
use Rattle.bed_machine.specs.Memory.{Memory}
use Rattle.bed_machine.proofs.WordLaws.{some_same}
use Rattle.bed_lang.specs.declared.word.Var.{Var}
use Rattle.bed_lang.specs.declared.word.Var.TheVariants as var
use Rattle.bed_lang.specs.declared.word.Word.{Word, fold-Word}
use Rattle.bed_lang.specs.declared.word.Word.TheOpen.{Word-F}
use Rattle.bed_lang.specs.declared.word.Seq.{Seq, fold-Seq}
use Rattle.bed_lang.specs.declared.word.Seq.TheOpen.{Seq-F}
use Rattle.bed_lang.specs.declared.logic.Arg.{Arg}
use Rattle.bed_lang.specs.declared.logic.Arg.TheVariants as arg
use Rattle.bed_lang.specs.declared.logic.Pure.{Pure}
use Rattle.bed_lang.specs.declared.logic.Pure.TheVariants as pure
use Rattle.bed_lang.specs.declared.logic.Atom.{Atom}
use Rattle.bed_lang.specs.declared.logic.Atom.TheVariants as atom
use Rattle.bed_lang.specs.Numbers.{wrap}
use Rattle.bed_lang.specs.Values.{Values, Variable, Named, Old, Answer, Fresh, Hole, variable, same_variable, set_word, set_list, value, list_value}
use Rattle.bed_lang.proofs.ValueLaws.{value-Var}
use Rattle.bed_sat.specs.Cells.{IsCell, IsByte, IsBlock}
use Rattle.bed_sat.specs.Facts.{IsTrueFact}
use Rattle.bed_sat.specs.Assertions.{WordValue, ListValue, Meaning, arg_value, arg_values, IsTrueAtom, World}
use Rattle.bed_sat.specs.Scopes.{Scope, word_in, word_in_step, seq_in, seq_in_step, pure_in, Agree}
use Rattle.bed_sat.proofs.ScopeLaws.{word_agree, seq_agree, fact_agree}
use Rattle.bed_deriv.specs.Fresh.{every, known_var, known_word_step, known_word, known_seq_step, known_seq, known_arg, known_pure, known_atom}
use Rattle.bed_deriv.specs.HeapRules.{without, fresh_word}
use Rattle.bed_check_pure.specs.States.{AreTrueFacts, AreTrueAtoms}
use Rattle.bed_check_heap.specs.Sound.{AgreeBelow}
use Rattle.bed_check_heap.proofs.TakeLaws.{without_more}

-- ---- known trees are those whose variables are in a set

module _ (next : ℕ) where
  abbrev below : Variable → Bool
  below (Fresh n) = nat_lt n next
  below _ = true

  abbrev pub Below : Scope
  Below s x = below x

  var_below : (x : Var) → known_var next x ≡ below (variable x)
  var_below (var.Named x) = refl
  var_below (var.Old x) = refl
  var_below (var.Answer at) = refl
  var_below (var.Fresh n) = refl
  var_below var.Hole = refl

  word_steps : (y : Word-F Bool) → known_word_step next y ≡ word_in_step Below y
  word_steps (Word-F.Number n) = refl
  word_steps (Word-F.Var x) = var_below x
  word_steps (Word-F.Label f) = refl
  word_steps (Word-F.Add a b) = refl
  word_steps (Word-F.Sub a b) = refl
  word_steps (Word-F.Times n a) = refl

  word_below : (a : Word) → known_word next a ≡ word_in Below a
  word_below a i = fold-Word Bool (λ y. word_steps y i) a

  seq_steps : (y : Seq-F Bool) → known_seq_step next y ≡ seq_in_step Below y
  seq_steps (Seq-F.Var x) = var_below x
  seq_steps Seq-F.Nil = refl
  seq_steps (Seq-F.Cons a s) = ap (λ b. b && s) (word_below a)
  seq_steps (Seq-F.App s t) = refl

  seq_below : (s : Seq) → known_seq next s ≡ seq_in Below s
  seq_below s i = fold-Seq Bool (λ y. seq_steps y i) s

  fact_below : (φ : Pure) → known_pure next φ ≡ pure_in Below φ
  fact_below (pure.Equal a b) = ap₂ (λ x y. x && y) (word_below a) (word_below b)
  fact_below (pure.Unequal a b) = ap₂ (λ x y. x && y) (word_below a) (word_below b)
  fact_below (pure.Less a b) = ap₂ (λ x y. x && y) (word_below a) (word_below b)
  fact_below (pure.AtMost a b) = ap₂ (λ x y. x && y) (word_below a) (word_below b)
  fact_below (pure.Same s t) = ap₂ (λ x y. x && y) (seq_below s) (seq_below t)
  fact_below (pure.Member a s) = ap₂ (λ x y. x && y) (word_below a) (seq_below s)
  fact_below (pure.NonMember a s) = ap₂ (λ x y. x && y) (word_below a) (seq_below s)
  fact_below (pure.Code a name) = word_below a

  agree_on : (ν μ : Values) → AgreeBelow next ν μ → Agree Below ν μ
  agree_on ν μ g = record {
    words = λ x is. sym (g.words x (λ n e. ltb-true n next (subst (λ y. below y ≡ true) e is)));
    lists = λ x is. sym (g.lists x (λ n e. ltb-true n next (subst (λ y. below y ≡ true) e is)));
  }

-- ---- what is known has one value

module _ (w : World) (next : ℕ) (ν μ : Values) (g : AgreeBelow next ν μ) where
  pub value_known : (a : Word) → IsTrue (known_word next a) → value w.labels ν a ≡ value w.labels μ a
  value_known a is = word_agree w.codes w.labels (Below next) ν μ (agree_on next ν μ g) a (sym (word_below next a) ∙ is)

  pub list_value_known : (s : Seq) → IsTrue (known_seq next s) → list_value w.labels ν s ≡ list_value w.labels μ s
  list_value_known s is = seq_agree w.codes w.labels (Below next) ν μ (agree_on next ν μ g) s (sym (seq_below next s) ∙ is)

  pub fact_known : (φ : Pure) → IsTrue (known_pure next φ) → IsTrueFact w.codes w.labels ν φ → IsTrueFact w.codes w.labels μ φ
  fact_known φ is t = fact_agree w.codes w.labels (Below next) ν μ (agree_on next ν μ g) φ (sym (fact_below next φ) ∙ is) t

  pub arg_known : (a : Arg) → IsTrue (known_arg next a) → arg_value w.codes w.labels ν a ≡ arg_value w.codes w.labels μ a
  arg_known (arg.Word at a) is = ap WordValue (value_known a is)
  arg_known (arg.Seq at s) is = ap ListValue (list_value_known s is)
  arg_known (arg.Bare name) is = refl

  pub args_known : (more : List Arg) → IsTrue (every (known_arg next) more) → arg_values w.codes w.labels ν more ≡ arg_values w.codes w.labels μ more
  args_known [] is = refl
  args_known (a ∷ more) is = let h = and_parts (known_arg next a) _ is in ap₂ (λ v vs. v ∷ vs) (arg_known a h.0) (args_known more h.1)

  pub atom_known : (M : Meaning) (t : Atom) (h : Memory) → IsTrue (known_atom next t) → IsTrueAtom w.codes w.labels M ν t h → IsTrueAtom w.codes w.labels M μ t h
  atom_known M (atom.Cell a v) h is e = let q = and_parts (known_word next a) _ is in subst₂ (λ m n. IsCell m n h) (value_known a q.0) (value_known v q.1) e
  atom_known M (atom.Byte a v) h is e = let q = and_parts (known_word next a) _ is in subst₂ (λ m n. IsByte m n h) (value_known a q.0) (value_known v q.1) e
  atom_known M (atom.Block a n) h is e = let q = and_parts (known_word next a) _ is in subst₂ (λ m k. IsBlock m k h) (value_known a q.0) (value_known n q.1) e
  atom_known M (atom.Pred x args) h is e = subst (λ vs. M x.bytes vs h) (args_known args is) e

  pub facts_known : (φs : List Pure) → IsTrue (every (known_pure next) φs) → AreTrueFacts w ν φs → AreTrueFacts w μ φs
  facts_known [] is t = t
  facts_known (φ ∷ φs) is t = let h = and_parts (known_pure next φ) _ is in (fact_known φ h.0 t.0, facts_known φs h.1 t.1)

  pub atoms_known : (M : Meaning) (xs : List Atom) (h : Memory) → IsTrue (every (known_atom next) xs) → AreTrueAtoms w ν M xs h → AreTrueAtoms w μ M xs h
  atoms_known M [] h is t = t
  atoms_known M (x ∷ xs) h is t =
      let q = and_parts (known_atom next x) _ is in (t.0, t.1, t.2, atom_known M x t.0 q.0 t.3, atoms_known M xs t.1 q.1 t.4)

-- ---- tests of all items

-- an item at a place passes, and so do the others
pub every_taken : {A : Type 0} (f : A → Bool) (xs : List A) (i : ℕ) (x : A) → slice_get xs i ≡ Some x → IsTrue (every f xs) → IsTrue (f x) × IsTrue (every f (without i xs))
every_taken f [] i x e is = absurd cc
every_taken f (y ∷ xs) zero x e is = let h = and_parts (f y) _ is in (subst (λ z. IsTrue (f z)) (some_same e) h.0, h.1)
every_taken f (y ∷ xs) (suc i) x e is =
    let h = and_parts (f y) _ is in
    let t = every_taken f xs i x e h.1 in
    (t.0, subst (λ ys. IsTrue (every f ys)) (sym (without_more i y xs)) (and_from (f y) _ h.0 t.1))

-- ---- values for new variables

pub agree_self : (next : ℕ) (ν : Values) → AgreeBelow next ν ν
agree_self next ν = record { words = λ x known. refl; lists = λ x known. refl }

new_variable : (next n : ℕ) (x : Variable) → next ≤ n → ((m : ℕ) → x ≡ Fresh m → m < next) → same_variable x (Fresh n) ≡ false
new_variable next n (Named y) le known = refl
new_variable next n (Old y) le known = refl
new_variable next n Answer le known = refl
new_variable next n (Fresh m) le known = let lt : m < next = known m refl in ne_eqb m n (λ e. omega arith)
new_variable next n Hole le known = refl

-- a new variable is given a word
pub agree_more : (next n v : ℕ) (ν μ : Values) → next ≤ n → AgreeBelow next ν μ → AgreeBelow next ν (set_word μ (Fresh n) v)
agree_more next n v ν μ le g = record {
  words = λ x known. ap (λ (b : Bool). if b then v else μ.words x) (new_variable next n x le known) ∙ g.words x known;
  lists = g.lists;
}

-- or a list
pub agree_more_list : (next n : ℕ) (vs : List ℕ) (ν μ : Values) → next ≤ n → AgreeBelow next ν μ → AgreeBelow next ν (set_list μ (Fresh n) vs)
agree_more_list next n vs ν μ le g = record {
  words = g.words;
  lists = λ x known. ap (λ (b : Bool). if b then vs else μ.lists x) (new_variable next n x le known) ∙ g.lists x known;
}

pub set_here : (ν : Values) (n v : ℕ) → (set_word ν (Fresh n) v).words (Fresh n) ≡ v
set_here ν n v = ap (λ (b : Bool). if b then v else ν.words (Fresh n)) (eq-eqb n n refl)

pub set_elsewhere : (ν : Values) (n m v : ℕ) → m ≢ n → (set_word ν (Fresh n) v).words (Fresh m) ≡ ν.words (Fresh m)
set_elsewhere ν n m v ne = ap (λ (b : Bool). if b then v else ν.words (Fresh m)) (ne_eqb m n ne)

pub value_fresh : (labels : List ℕ → ℕ) (ν : Values) (n : ℕ) → value labels ν (fresh_word n) ≡ wrap (ν.words (Fresh n))
value_fresh labels ν n = value-Var labels ν (var.Fresh n)
