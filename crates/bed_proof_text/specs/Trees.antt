-- How the trees of productions are made.
use Rattle.std.specs.Prelude.{ℕ, Bool, true, false, if◌then◌else◌, List, [], ◌∷◌, Option, Some, None, slice_get, unwrap_or}
use Rattle.bed_lang.specs.declared.word.Name.{Name}
use Rattle.bed_lang.specs.declared.word.Word as word
use Rattle.bed_lang.specs.declared.word.Var.{Var}
use Rattle.bed_lang.specs.declared.word.Var.TheVariants as var
use Rattle.bed_lang.specs.declared.word.Seq as seq
use Rattle.bed_lang.specs.declared.logic.Arg.TheVariants as arg
use Rattle.bed_lang.specs.declared.logic.Pure.{Pure}
use Rattle.bed_lang.specs.declared.logic.Pure.TheVariants as pure
use Rattle.bed_lang.specs.declared.module.Rel.{Rel}
use Rattle.bed_lang.specs.declared.module.Rel.TheVariants as rel
use Rattle.bed_lex.specs.declared.token.Kind.{Kind}
use Rattle.bed_lex.specs.declared.token.Kind.TheVariants as kind
use Rattle.bed_lex.specs.Words.{fixed_words}
use Rattle.bed_deriv.specs.declared.derivation.Rule.{Rule}
use Rattle.bed_deriv.specs.declared.derivation.Rule.TheVariants as rule
use Rattle.bed_deriv.specs.declared.derivation.Edge.{Edge}
use Rattle.bed_deriv.specs.declared.derivation.Edge.TheVariants as edge
use Rattle.bed_deriv.specs.declared.derivation.DArg.{DArg}
use Rattle.bed_deriv.specs.declared.derivation.DArg.TheVariants as given
use Rattle.bed_deriv.specs.declared.derivation.Deriv.{Deriv, roll-Deriv}
use Rattle.bed_proof_text.specs.Spellings.{rule_of_word, edge_of_word}

abbrev pub number_of : Kind → ℕ
number_of (kind.Number n) = n
number_of (kind.Fresh n) = n
number_of _ = 0

abbrev pub name_of : Kind → Name
name_of (kind.Name x) = x
name_of _ = record { bytes = []; at = 0 }

-- the bytes of a word: a name, or a reserved word by its position
abbrev pub bytes_of : Kind → List ℕ
bytes_of (kind.Name x) = x.bytes
bytes_of (kind.Word w) = unwrap_or (slice_get fixed_words w) []
bytes_of _ = []

-- the rule that a token spells, and the edge; a token that spells none has the first one
abbrev pub rule_of : Kind → Rule
rule_of k = unwrap_or (rule_of_word (bytes_of k)) rule.Hyp

abbrev pub edge_of : Kind → Edge
edge_of k = unwrap_or (edge_of_word (bytes_of k)) edge.H

-- a node of a derivation
abbrev pub node_of : Rule → List DArg → List Deriv → Deriv
node_of r args children = roll-Deriv (record { rule = r; args = args; children = children })

-- `old a`: the name a at the place of the word `old`
abbrev pub moved : ℕ → Name → Name
moved at x = record { bytes = x.bytes; at = at }

-- one more part of a sum, added or subtracted
abbrev pub added : word.Word → Bool × word.Word → word.Word
added a b = if b.0 then word.Add a b.1 else word.Sub a b.1

-- the parts of a sum are taken from the left
abbrev pub summed : word.Word → List (Bool × word.Word) → word.Word
summed a [] = a
summed a (b ∷ bs) = summed (added a b) bs

-- How a fact goes on after its first word: the other word that it is compared with, or the sequence that it is in, or not.
pub data Tail : Type 0 where
  against : Rel → word.Word → Tail
  belongs : Bool → seq.Seq → Tail

-- How an argument goes on that begins with a part of a word: further parts and perhaps a tail, or `==` and a sequence.
pub data Onward : Type 0 where
  parts : List (Bool × word.Word) → Option Tail → Onward
  same : seq.Seq → Onward

abbrev pub compared : word.Word → Rel → word.Word → Pure
compared a rel.Equal b = pure.Equal a b
compared a rel.Unequal b = pure.Unequal a b
compared a rel.Less b = pure.Less a b
compared a rel.AtMost b = pure.AtMost a b

-- `a in s`, or `a notin s`
abbrev pub membership : word.Word → Bool → seq.Seq → Pure
membership a true s = pure.Member a s
membership a false s = pure.NonMember a s

abbrev pub fact_of : word.Word → Tail → Pure
fact_of a (against r b) = compared a r b
fact_of a (belongs i s) = membership a i s

-- a word, which stands at this place, or a fact that begins with it
abbrev pub word_argument : ℕ → word.Word → Option Tail → DArg
word_argument at a None = given.Arg (arg.Word at a)
word_argument at a (Some t) = given.Pure (fact_of a t)

-- an argument that begins with this part of a word
abbrev pub begun : ℕ → word.Word → Onward → DArg
begun at a (parts bs t) = word_argument at (summed a bs) t
begun at a (same s) = given.Arg (arg.Word at a)

-- an argument that begins with a variable, at this place
abbrev pub variable_argument : ℕ → Var → Onward → DArg
variable_argument at x (same s) = given.Pure (pure.Same (seq.Var x) s)
variable_argument at x (parts bs t) = begun at (word.Var x) (parts bs t)

-- an argument that begins with a name: a name alone is one
abbrev pub name_argument : Name → Onward → DArg
name_argument x (parts [] None) = given.Name x
name_argument x o = variable_argument x.at (var.Named x) o

-- an argument that begins with a number: a number alone is one
abbrev pub number_argument : ℕ → ℕ → Onward → DArg
number_argument at n (parts [] None) = given.Number n
number_argument at n o = begun at (word.Number n) o

-- a sequence, which stands at this place, or `==` after it
abbrev pub seq_argument : ℕ → seq.Seq → Option seq.Seq → DArg
seq_argument at s None = given.Arg (arg.Seq at s)
seq_argument at s (Some t) = given.Pure (pure.Same s t)
