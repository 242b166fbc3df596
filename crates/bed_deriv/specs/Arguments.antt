-- The arguments of a node, each read as what its rule asks for. A number alone stands for that number as a word, a name alone for
-- the logical variable of that name, a variable alone for the variable of the sort that fits. A fresh variable is out of range
-- where its number isn't below the state's next one; it is looked for in the tree as it is written.
use Rattle.std.specs.Prelude.{ℕ, ◌-◌, Bool, ◌==◌, ◌&&◌, if◌then◌else◌, List, [], ◌∷◌, length, Option, Some, None, slice_get}
use Rattle.bed_lang.specs.declared.word.Name.{Name}
use Rattle.bed_lang.specs.declared.word.Var.{Var}
use Rattle.bed_lang.specs.declared.word.Var.TheVariants as var
use Rattle.bed_lang.specs.declared.word.Sort.{Sort}
use Rattle.bed_lang.specs.declared.word.Sort.TheVariants as sort
use Rattle.bed_lang.specs.declared.word.Word.{Word, Number, Var as WordVar, out-Word}
use Rattle.bed_lang.specs.declared.word.Word.TheOpen.{Word-F}
use Rattle.bed_lang.specs.declared.word.Seq.{Seq, Var as SeqVar, out-Seq}
use Rattle.bed_lang.specs.declared.word.Seq.TheOpen.{Seq-F}
use Rattle.bed_lang.specs.declared.logic.Arg.{Arg}
use Rattle.bed_lang.specs.declared.logic.Arg.TheVariants as arg
use Rattle.bed_lang.specs.declared.logic.Pure.{Pure}
use Rattle.bed_lang.specs.declared.logic.Atom.{Atom}
use Rattle.bed_lang.specs.declared.logic.Bind.{Bind}
use Rattle.bed_deriv.specs.declared.derivation.DArg.{DArg}
use Rattle.bed_deriv.specs.declared.derivation.DArg.TheVariants as given
use Rattle.bed_deriv.specs.declared.state.SymState.{SymState}
use Rattle.bed_deriv.specs.Fresh.{known_var, known_word, known_seq, known_pure}

-- the item with this number, from 1
abbrev pub numbered : {A : Type 0} → List A → ℕ → Option A
numbered xs n = if n == 0 then None else slice_get xs (n - 1)

abbrev pub at_number : {A : Type 0} → List A → Option ℕ → Option A
at_number xs None = None
at_number xs (Some n) = numbered xs n

-- something, where it passes a test
abbrev pub where_true : {A : Type 0} → Bool → A → Option A
where_true b x = if b then Some x else None

-- the variable that a word, or a sequence, just is
abbrev pub lone_word_layer : Word-F Word → Option Var
lone_word_layer (Word-F.Var x) = Some x
lone_word_layer _ = None

abbrev pub lone_word : Word → Option Var
lone_word w = lone_word_layer (out-Word w)

abbrev pub lone_seq_layer : Seq-F Seq → Option Var
lone_seq_layer (Seq-F.Var x) = Some x
lone_seq_layer _ = None

abbrev pub lone_seq : Seq → Option Var
lone_seq s = lone_seq_layer (out-Seq s)

-- a variable that is known
abbrev pub if_known : ℕ → Option Var → Option Var
if_known next None = None
if_known next (Some x) = where_true (known_var next x) x

abbrev pub as_word : Option Var → Option Word
as_word None = None
as_word (Some x) = Some (WordVar x)

abbrev pub as_seq : Option Var → Option Seq
as_seq None = None
as_seq (Some x) = Some (SeqVar x)

-- an argument as a number
abbrev pub to_number : Option DArg → Option ℕ
to_number (Some (given.Number n)) = Some n
to_number _ = None

-- an argument as a name
abbrev pub to_name : Option DArg → Option Name
to_name (Some (given.Name x)) = Some x
to_name _ = None

module _ (next : ℕ) where
  -- an argument as a word
  abbrev pub to_word : Option DArg → Option Word
  to_word (Some (given.Number n)) = Some (Number n)
  to_word (Some (given.Name x)) = Some (WordVar (var.Named x))
  to_word (Some (given.Arg (arg.Word at w))) = where_true (known_word next w) w
  to_word (Some (given.Arg (arg.Seq at s))) = as_word (if_known next (lone_seq s))
  to_word _ = None

  -- an argument as a sequence
  abbrev pub to_seq : Option DArg → Option Seq
  to_seq (Some (given.Name x)) = Some (SeqVar (var.Named x))
  to_seq (Some (given.Arg (arg.Seq at s))) = where_true (known_seq next s) s
  to_seq (Some (given.Arg (arg.Word at w))) = as_seq (if_known next (lone_word w))
  to_seq _ = None

  -- an argument as a variable, of either sort
  abbrev pub to_variable : Option DArg → Option Var
  to_variable (Some (given.Name x)) = Some (var.Named x)
  to_variable (Some (given.Arg (arg.Word at w))) = if_known next (lone_word w)
  to_variable (Some (given.Arg (arg.Seq at s))) = if_known next (lone_seq s)
  to_variable _ = None

  -- an argument as a fact
  abbrev pub to_fact : Option DArg → Option Pure
  to_fact (Some (given.Pure p)) = where_true (known_pure next p) p
  to_fact _ = None

  abbrev pub word_value : Option Word → Option Arg
  word_value None = None
  word_value (Some w) = Some (arg.Word 0 w)

  abbrev pub seq_value : Option Seq → Option Arg
  seq_value None = None
  seq_value (Some s) = Some (arg.Seq 0 s)

  -- an argument as a value of this sort
  abbrev pub to_value : Sort → Option DArg → Option Arg
  to_value sort.Word a = word_value (to_word a)
  to_value sort.Seq a = seq_value (to_seq a)

  abbrev pub value_before : Option (Name × Arg) → Option (List (Name × Arg)) → Option (List (Name × Arg))
  value_before (Some v) (Some vs) = Some (v ∷ vs)
  value_before _ _ = None

  abbrev pub named : Name → Option Arg → Option (Name × Arg)
  named x None = None
  named x (Some a) = Some (x, a)

  -- arguments as values of these variables, in order: each variable with its value
  abbrev pub to_values : List Bind → List DArg → Option (List (Name × Arg))
  to_values [] args = Some []
  to_values (b ∷ bs) [] = None
  to_values (b ∷ bs) (a ∷ args) = value_before (named b.name (to_value b.sort (Some a))) (to_values bs args)

-- the argument at a place, from 0, read so
abbrev pub number_at : List DArg → ℕ → Option ℕ
number_at args i = to_number (slice_get args i)

abbrev pub name_at : List DArg → ℕ → Option Name
name_at args i = to_name (slice_get args i)

abbrev pub word_at : SymState → List DArg → ℕ → Option Word
word_at s args i = to_word s.next (slice_get args i)

abbrev pub variable_at : SymState → List DArg → ℕ → Option Var
variable_at s args i = to_variable s.next (slice_get args i)

abbrev pub fact_given : SymState → List DArg → ℕ → Option Pure
fact_given s args i = to_fact s.next (slice_get args i)

-- the fact, and the atom, of the state whose number the argument at a place is
abbrev pub fact_at : SymState → List DArg → ℕ → Option Pure
fact_at s args i = at_number s.facts (number_at args i)

abbrev pub atom_at : SymState → List DArg → ℕ → Option Atom
atom_at s args i = at_number s.atoms (number_at args i)

-- as many arguments, and as many children
abbrev pub counts : List DArg → ℕ → ℕ → ℕ → Bool
counts args m n k = (length args == m) && (n == k)
