-- Terms that are opened and written anew from their forms have no other fresh variables.
use Rattle.std.proofs.Common.{ℕ, true, ◌&&◌, IsTrue, List, [], ◌∷◌, map, refl}
use Rattle.std.proofs.lemmas.Bool.{and_parts, and_from}
use Rattle.bed_lang.specs.declared.word.Word.{Word}
use Rattle.bed_lang.specs.declared.word.Seq.{Seq}
use Rattle.bed_lang.specs.declared.logic.Arg.{Arg}
use Rattle.bed_lang.specs.declared.logic.Arg.TheVariants as arg
use Rattle.bed_lang.specs.declared.logic.Pure.{Pure}
use Rattle.bed_lang.specs.declared.logic.Pure.TheVariants as pure
use Rattle.bed_lang.specs.declared.logic.Atom.{Atom}
use Rattle.bed_lang.specs.declared.logic.Atom.TheVariants as atom
use Rattle.bed_lang.specs.declared.logic.Term.{Term}
use Rattle.bed_lang.specs.declared.logic.Term.TheVariants as term
use Rattle.bed_lang.specs.Instances.{Instance, word_with, seq_with}
use Rattle.bed_forms.specs.Rewritten.{arg_by}
use Rattle.bed_deriv.specs.Fresh.{every, known_word, known_seq, known_arg, known_pure, known_atom, known_term}
use Rattle.bed_deriv.specs.Opening.{replaced_word, replaced_seq, replaced_fact, replaced_atom, replaced_term, facts_of, atoms_of}
use Rattle.bed_deriv.proofs.KnownLaws.{IsKnownInstance, word-stays_known, seq-stays_known}
use Rattle.bed_check_cond.proofs.FormKnownLaws.{rebuilt_known, rebuilt_seq_known}

module _ (next : ℕ) (σ : Instance) (given : IsKnownInstance next σ) where
  word_anew : (a : Word) → IsTrue (known_word 0 a) → IsTrue (known_word next (replaced_word σ a))
  word_anew a k = rebuilt_known next (word_with σ a) (word-stays_known next σ given a k)

  seq_anew : (s : Seq) → IsTrue (known_seq 0 s) → IsTrue (known_seq next (replaced_seq σ s))
  seq_anew s k = rebuilt_seq_known next (seq_with σ s) (seq-stays_known next σ given s k)

  two_anew : (a b : Word) → IsTrue (known_word 0 a && known_word 0 b) → IsTrue (known_word next (replaced_word σ a) && known_word next (replaced_word σ b))
  two_anew a b k =
      let q = and_parts (known_word 0 a) (known_word 0 b) k in
      and_from (known_word next (replaced_word σ a)) (known_word next (replaced_word σ b)) (word_anew a q.0) (word_anew b q.1)

  member_anew : (a : Word) (s : Seq) → IsTrue (known_word 0 a && known_seq 0 s) → IsTrue (known_word next (replaced_word σ a) && known_seq next (replaced_seq σ s))
  member_anew a s k =
      let q = and_parts (known_word 0 a) (known_seq 0 s) k in
      and_from (known_word next (replaced_word σ a)) (known_seq next (replaced_seq σ s)) (word_anew a q.0) (seq_anew s q.1)

  fact_anew : (p : Pure) → IsTrue (known_pure 0 p) → IsTrue (known_pure next (replaced_fact σ p))
  fact_anew (pure.Equal a b) k = two_anew a b k
  fact_anew (pure.Unequal a b) k = two_anew a b k
  fact_anew (pure.Less a b) k = two_anew a b k
  fact_anew (pure.AtMost a b) k = two_anew a b k
  fact_anew (pure.Same s t) k =
      let q = and_parts (known_seq 0 s) (known_seq 0 t) k in
      and_from (known_seq next (replaced_seq σ s)) (known_seq next (replaced_seq σ t)) (seq_anew s q.0) (seq_anew t q.1)
  fact_anew (pure.Member a s) k = member_anew a s k
  fact_anew (pure.NonMember a s) k = member_anew a s k
  fact_anew (pure.Code a name) k = word_anew a k

  arg_anew : (a : Arg) → IsTrue (known_arg 0 a) → IsTrue (known_arg next (arg_by (replaced_word σ) (replaced_seq σ) a))
  arg_anew (arg.Word at a) k = word_anew a k
  arg_anew (arg.Seq at s) k = seq_anew s k
  arg_anew (arg.Bare name) k = refl

  args_anew : (args : List Arg) → IsTrue (every (known_arg 0) args) → IsTrue (every (known_arg next) (map (arg_by (replaced_word σ) (replaced_seq σ)) args))
  args_anew [] k = refl
  args_anew (a ∷ args) k =
      let q = and_parts (known_arg 0 a) (every (known_arg 0) args) k in
      and_from (known_arg next (arg_by (replaced_word σ) (replaced_seq σ) a)) (every (known_arg next) (map (arg_by (replaced_word σ) (replaced_seq σ)) args)) (arg_anew a q.0) (args_anew args q.1)

  atom_anew : (x : Atom) → IsTrue (known_atom 0 x) → IsTrue (known_atom next (replaced_atom σ x))
  atom_anew (atom.Cell a v) k = two_anew a v k
  atom_anew (atom.Byte a v) k = two_anew a v k
  atom_anew (atom.Block a n) k = two_anew a n k
  atom_anew (atom.Pred name args) k = args_anew args k

  pub facts-anew : (ts : List Term) → IsTrue (every (known_term 0) ts) → IsTrue (every (known_pure next) (facts_of (map (replaced_term σ) ts)))
  facts-anew [] k = refl
  facts-anew (term.Emp ∷ ts) k = facts-anew ts (and_parts true (every (known_term 0) ts) k).1
  facts-anew (term.Pure p ∷ ts) k =
      let q = and_parts (known_pure 0 p) (every (known_term 0) ts) k in
      and_from (known_pure next (replaced_fact σ p)) (every (known_pure next) (facts_of (map (replaced_term σ) ts))) (fact_anew p q.0) (facts-anew ts q.1)
  facts-anew (term.Atom x ∷ ts) k = facts-anew ts (and_parts (known_atom 0 x) (every (known_term 0) ts) k).1

  pub atoms-anew : (ts : List Term) → IsTrue (every (known_term 0) ts) → IsTrue (every (known_atom next) (atoms_of (map (replaced_term σ) ts)))
  atoms-anew [] k = refl
  atoms-anew (term.Emp ∷ ts) k = atoms-anew ts (and_parts true (every (known_term 0) ts) k).1
  atoms-anew (term.Pure p ∷ ts) k = atoms-anew ts (and_parts (known_pure 0 p) (every (known_term 0) ts) k).1
  atoms-anew (term.Atom x ∷ ts) k =
      let q = and_parts (known_atom 0 x) (every (known_term 0) ts) k in
      and_from (known_atom next (replaced_atom σ x)) (every (known_atom next) (atoms_of (map (replaced_term σ) ts))) (atom_anew x q.0) (atoms-anew ts q.1)
