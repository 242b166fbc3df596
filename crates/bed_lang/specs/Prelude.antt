-- The two predicates that every module has: list segments and lists of nodes of two words, the element and the next node.
use Rattle.std.specs.Prelude.{ℕ, List, [], ◌∷◌, codes}
use Rattle.bed_lang.specs.declared.word.Name.{Name}
use Rattle.bed_lang.specs.declared.word.Sort.{Sort}
use Rattle.bed_lang.specs.declared.word.Sort.TheVariants as sort
use Rattle.bed_lang.specs.declared.word.Var.TheVariants as var
use Rattle.bed_lang.specs.declared.word.Word.{Word, Number, Var as WordVar, Add}
use Rattle.bed_lang.specs.declared.word.Seq.{Seq, Var as SeqVar, Nil, Cons}
use Rattle.bed_lang.specs.declared.logic.Arg.TheVariants as arg
use Rattle.bed_lang.specs.declared.logic.Pure.TheVariants as pure
use Rattle.bed_lang.specs.declared.logic.Atom.TheVariants as atom
use Rattle.bed_lang.specs.declared.logic.Term.{Term}
use Rattle.bed_lang.specs.declared.logic.Term.TheVariants as term
use Rattle.bed_lang.specs.declared.logic.Bind.{Bind}
use Rattle.bed_lang.specs.declared.logic.Assertion.{Assertion}
use Rattle.bed_lang.specs.declared.module.Predicate.{Predicate}

-- a name, and a word and a sequence variable of a name; they stand nowhere in a text, so their places are 0
abbrev pub name : List ℕ → Name
name bytes = record { bytes = bytes; at = 0 }

abbrev pub word : List ℕ → Word
word x = WordVar (var.Named (name x))

abbrev pub sequence : List ℕ → Seq
sequence x = SeqVar (var.Named (name x))

abbrev pub bind : List ℕ → Sort → Bind
bind x s = record { name = name x; sort = s }

-- lseg(p, q, s)
abbrev pub segment : Word → Word → Seq → Term
segment p q s = term.Atom (atom.Pred (name (codes "lseg")) (arg.Word 0 p ∷ arg.Word 0 q ∷ arg.Seq 0 s ∷ []))

-- [p = q] * [s == nil]
abbrev pub empty_segment : Assertion
empty_segment = record {
  at = 0;
  binders = [];
  terms = term.Pure (pure.Equal (word (codes "p")) (word (codes "q")))
      ∷ term.Pure (pure.Same (sequence (codes "s")) Nil) ∷ [];
}

-- exists v: word, n: word, t: seq. [p != 0] * [s == cons(v, t)] * p |-> v * p + 4 |-> n * lseg(n, q, t)
abbrev pub longer_segment : Assertion
longer_segment = record {
  at = 0;
  binders = bind (codes "v") sort.Word ∷ bind (codes "n") sort.Word ∷ bind (codes "t") sort.Seq ∷ [];
  terms = term.Pure (pure.Unequal (word (codes "p")) (Number 0))
      ∷ term.Pure (pure.Same (sequence (codes "s")) (Cons (word (codes "v")) (sequence (codes "t"))))
      ∷ term.Atom (atom.Cell (word (codes "p")) (word (codes "v")))
      ∷ term.Atom (atom.Cell (Add (word (codes "p")) (Number 4)) (word (codes "n")))
      ∷ segment (word (codes "n")) (word (codes "q")) (sequence (codes "t")) ∷ [];
}

-- predicate lseg(p: word, q: word, s: seq) = [p = q] * [s == nil] | exists v: word, n: word, t: seq. ..
abbrev pub lseg : Predicate
lseg = record {
  name = name (codes "lseg");
  params = bind (codes "p") sort.Word ∷ bind (codes "q") sort.Word ∷ bind (codes "s") sort.Seq ∷ [];
  cases = empty_segment ∷ longer_segment ∷ [];
}

-- predicate lst(p: word, s: seq) = lseg(p, 0, s)
abbrev pub lst : Predicate
lst = record {
  name = name (codes "lst");
  params = bind (codes "p") sort.Word ∷ bind (codes "s") sort.Seq ∷ [];
  cases = record {
    at = 0;
    binders = [];
    terms = segment (word (codes "p")) (Number 0) (sequence (codes "s")) ∷ [];
  } ∷ [];
}

abbrev pub prelude : List Predicate
prelude = lseg ∷ lst ∷ []
